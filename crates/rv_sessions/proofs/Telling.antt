-- What the commands that show a value are told as.
use Rattle.std.proofs.Common.{◌≡◌, ◌∙◌, ◌⊎◌, ◌≢◌, inl, inr, false, ℕ, List, [], ◌∷◌, ◌++◌, Result, Ok, Err, refl, sym, subst}
use Rattle.rel_model.specs.declared.NoMemory.{NoMemory as LACK}
use Rattle.rel_model.specs.Relation.{Relation}
use Rattle.rel_model.specs.Worker.{Worker, MakesAtMost}
use Rattle.run_model.specs.declared.event.Event.{Event}
use Rattle.run_model.specs.Cost.{cost_of}
use Rattle.lang_model.specs.declared.syntax.Expr.{Expr}
use Rattle.lang_model.specs.declared.syntax.Item.{Item}
use Rattle.lang_model.specs.declared.syntax.Script.{Script}
use Rattle.run_model.specs.declared.outcome.Outcome.{Outcome}
use Rattle.run_model.specs.declared.outcome.Outcome.TheVariants.{Done, Nodes as NODES, NoMemory as NO_MEMORY}
use Rattle.run_model.specs.Inputs.{Input}
use Rattle.run_model.specs.Due.{Due}
use Rattle.run_model.specs.Page.{SavedFile}
use Rattle.run_model.specs.Texts.{prefix, refusal_text}
use Rattle.turn_book.specs.Views.{View as PASS}
use Rattle.rv_sessions.specs.declared.form.Form.{Form}
use Rattle.rv_sessions.specs.declared.told.Told.{Told}
use Rattle.rv_sessions.specs.Standing.{first_names, carried_by, Kept, KeptStand, meant}
use Rattle.rv_sessions.specs.Doing.{Did}
use Rattle.rv_sessions.specs.Telling.{text_of, saved_by, TellsRefusal}
use Rattle.rv_sessions.specs.Valuing.{IsRefusal, Stopped}
use Rattle.rv_sessions.specs.Showing.{wanted_in, bytes_in}
use Rattle.lang_model.specs.Eval.{Evaluated}
use Rattle.rel_model.proofs.Workers.{keeps_itself}
use Rattle.rv_sessions.proofs.FoldingTurns.{through_none}
use Rattle.rv_sessions.specs.Acting.{WasNotRead, WasRead, ShownInTurn, IsReadItem, IsValueItem, DidItem, on_log}
use Rattle.rv_sessions.proofs.Acting.{unread_did, shown_did, stopped_did, lack_did}

ok_is_no_err : {T U : Type 0} (x : T) (y : U) → ◌≡◌ {A = Result T U} (Ok x) (Err y) → ⊥
ok_is_no_err x y e = cc

same_err : (x y : Outcome) → ◌≡◌ {A = Result (List ℕ) Outcome} (Err x) (Err y) → x ≡ y
same_err x y e = cc

full_is_not_done : NODES ≡ Done → ⊥
full_is_not_done e = cc

pub lack_is_not_done : NO_MEMORY ≡ Done → ⊥
lack_is_not_done e = cc

-- what stops an expression is no success
pub stopped_not_done : (old new : Worker) (e : Expr) (turns : ℕ) (v : Evaluated) (then : Relation → Due) (o : Outcome) →
    Stopped old new e turns v then o → o ≢ Done
stopped_not_done old new e turns v then o (inl h) d = subst IsRefusal d h.2
stopped_not_done old new e turns v then o (inr (inl h)) d = full_is_not_done (sym h.0 ∙ d)
stopped_not_done old new e turns v then o (inr (inr h)) d = lack_is_not_done (sym h ∙ d)

pub shown_not_done : (leaf : ℕ) (form : Form) (input : Input) (script : Script) (s c : ℕ) (e : Expr) (old new : Worker) (before after : PASS)
    (o : Outcome) → ShownInTurn leaf form input script s c e old new before after (Err o) → o ≢ Done
shown_not_done leaf form input script s c e old new before after o (inl h) d = lack_is_not_done (sym (same_err o NO_MEMORY h.1) ∙ d)
shown_not_done leaf form input script s c e old new before after o (inr h) d =
    stopped_not_done old new e input.turns (on_log input script e new (first_names before) h.0) (wanted_in form) o h.1.came d

-- a refusal of an item that wants a value for this, as it is told
pub told_did : (leaf : ℕ) (input : Input) (script : Script) (s c : ℕ) (item : Item) (e : Expr) (then : Relation → Due) (old new : Worker)
    (before after : PASS) (snaps : Kept) → IsReadItem item e then → KeptStand old snaps → (o : Outcome) (result : Result Told LACK) →
    (WasNotRead old new before after × (o ≡ NO_MEMORY))
    ⊎ ((log : List Event) × WasRead s c old new before after log × Stopped old new e input.turns (on_log input script e new (first_names before) log) then o
    × MakesAtMost (cost_of leaf input script e (meant new (carried_by before log))) old new) →
    TellsRefusal s c o result → DidItem leaf input script s c item old new before after snaps snaps result
told_did leaf input script s c item e then old new before after snaps v stood o (Err lack) (inl h) t =
    unread_did leaf input script s c item e then old new before after snaps v stood h.0
told_did leaf input script s c item e then old new before after snaps v stood o (Err lack) (inr h) t =
    lack_did leaf input script s c item e then old new before after snaps v stood h.0 h.1 h.3
told_did leaf input script s c item e then old new before after snaps v stood o (Ok told) (inl h) t = absurd (t.3 h.1)
told_did leaf input script s c item e then old new before after snaps v stood o (Ok told) (inr h) t =
    subst (λ x. Did leaf input script s c item old new before after snaps snaps x (text_of told.reply) (saved_by told.save)) (sym t.0)
    (subst (λ x. Did leaf input script s c item old new before after snaps snaps o x (saved_by told.save)) (sym t.1)
    (subst (λ x. Did leaf input script s c item old new before after snaps snaps o (prefix s c ++ refusal_text o) (saved_by x)) (sym t.2)
    (stopped_did leaf input script s c item e then old new before after snaps v stood h.0 h.1 h.3 o t.3 h.2)))

module _ (leaf : ℕ) (form : Form) (input : Input) (script : Script) (s c : ℕ) (item : Item) (e : Expr)
    (text : List ℕ → Relation → List ℕ) (files : Relation → List SavedFile) (old new : Worker) (before after : PASS) (snaps : Kept)
    (v : IsValueItem item e (wanted_in form) text files) (stood : KeptStand old snaps) where
  -- bytes that are shown
  ok_did : (bytes : List ℕ) → ShownInTurn leaf form input script s c e old new before after (Ok bytes) →
      (r : Relation) × (bytes ≡ bytes_in form r)
      × Did leaf input script s c item old new before after snaps snaps Done (text (prefix s c) r) (files r)
  ok_did bytes (inl h) = absurd (ok_is_no_err bytes NO_MEMORY h.1)
  ok_did bytes (inr h) = (
    h.1.came.0,
    h.1.came.2,
    shown_did leaf input script s c item e (wanted_in form) old new before after snaps v.reading stood
        h.0 h.1.read h.1.room text files v h.1.came.0 h.1.came.1,
  )

  -- a refusal that is told
  err_did : (o : Outcome) (result : Result Told LACK) → ShownInTurn leaf form input script s c e old new before after (Err o) →
      TellsRefusal s c o result → DidItem leaf input script s c item old new before after snaps snaps result
  err_did o result (inl h) t =
      told_did leaf input script s c item e (wanted_in form) old new before after snaps v.reading stood o result (inl (h.0, same_err o NO_MEMORY h.1)) t
  err_did o result (inr h) t =
      told_did leaf input script s c item e (wanted_in form) old new before after snaps v.reading stood o result
      (inr (h.0, h.1.read, h.1.came, h.1.room)) t

-- an input that has these turns and nothing else
abbrev pub plain : ℕ → Input
plain turns = record { readings = []; files = []; turns = turns; history = false; ends = [] }

module _ (leaf : ℕ) (form : Form) (input : Input) (script : Script) (s c : ℕ) (item : Item) (e : Expr)
    (old new : Worker) (before after : PASS) (snaps : Kept) where
  -- PRINT, LIST, COUNT and TYPE
  pub show_ok : (bytes : List ℕ) → IsValueItem item e (wanted_in form) (λ numbers r. numbers ++ bytes_in form r) (λ r. []) →
      KeptStand old snaps → ShownInTurn leaf form input script s c e old new before after (Ok bytes) →
      Did leaf input script s c item old new before after snaps snaps Done (prefix s c ++ bytes) []
  show_ok bytes v stood h =
      let k = ok_did leaf form input script s c item e (λ numbers r. numbers ++ bytes_in form r) (λ r. []) old new before after snaps v stood bytes h in
      subst (λ b. Did leaf input script s c item old new before after snaps snaps Done (prefix s c ++ b) []) (sym k.1) k.2

  pub show_err : (o : Outcome) (result : Result Told LACK) → IsValueItem item e (wanted_in form) (λ numbers r. numbers ++ bytes_in form r) (λ r. []) →
      KeptStand old snaps → ShownInTurn leaf form input script s c e old new before after (Err o) → TellsRefusal s c o result →
      DidItem leaf input script s c item old new before after snaps snaps result
  show_err o result v stood h t =
      err_did leaf form input script s c item e (λ numbers r. numbers ++ bytes_in form r) (λ r. []) old new before after snaps v stood o result h t

  -- SAVE
  pub save_ok : (file name bytes : List ℕ) → name ≡ file →
      IsValueItem item e (wanted_in form) (λ numbers r. []) (λ r. record { name = file; bytes = bytes_in form r } ∷ []) →
      KeptStand old snaps → ShownInTurn leaf form input script s c e old new before after (Ok bytes) →
      Did leaf input script s c item old new before after snaps snaps Done [] (record { name = name; bytes = bytes } ∷ [])
  save_ok file name bytes n v stood h =
      let k = ok_did leaf form input script s c item e (λ numbers r. []) (λ r. record { name = file; bytes = bytes_in form r } ∷ []) old new before after snaps v stood bytes h in
      subst (λ b. Did leaf input script s c item old new before after snaps snaps Done [] (record { name = name; bytes = b } ∷ [])) (sym k.1)
      (subst (λ m. Did leaf input script s c item old new before after snaps snaps Done [] (record { name = m; bytes = bytes_in form k.0 } ∷ [])) (sym n) k.2)

  pub save_err : (file : List ℕ) (o : Outcome) (result : Result Told LACK) →
      IsValueItem item e (wanted_in form) (λ numbers r. []) (λ r. record { name = file; bytes = bytes_in form r } ∷ []) →
      KeptStand old snaps → ShownInTurn leaf form input script s c e old new before after (Err o) → TellsRefusal s c o result →
      DidItem leaf input script s c item old new before after snaps snaps result
  save_err file o result v stood h t =
      err_did leaf form input script s c item e (λ numbers r. []) (λ r. record { name = file; bytes = bytes_in form r } ∷ []) old new before after snaps v stood o result h t

-- an item that took no turn, for want of memory
pub untouched : (w : Worker) (p : PASS) → WasNotRead w w p p
untouched w p = record {
  through = through_none p;
  stays = record { keeps = keeps_itself w; misses = refl; made = refl };
}

-- what is so of a refusal is so of it as it is told
pub as_told : (P : Outcome → List ℕ → List SavedFile → Type 0) (s c : ℕ) (o : Outcome) (told : Told) → TellsRefusal s c o (Ok told) →
    P o (prefix s c ++ refusal_text o) [] → P told.outcome (text_of told.reply) (saved_by told.save)
as_told P s c o told t p =
    subst (λ x. P x (text_of told.reply) (saved_by told.save)) (sym t.0)
    (subst (λ x. P o x (saved_by told.save)) (sym t.1) (subst (λ x. P o (prefix s c ++ refusal_text o) (saved_by x)) (sym t.2) p))

-- an item did what its refusal tells, where that is told, and where memory ran out
pub refused_did : (leaf : ℕ) (input : Input) (script : Script) (s c : ℕ) (item : Item) (old new : Worker) (before after : PASS) (snaps left : Kept) (o : Outcome)
    (r : Result Told LACK) → TellsRefusal s c o r → Did leaf input script s c item old new before after snaps left o (prefix s c ++ refusal_text o) [] →
    Did leaf input script s c item old new before after snaps left NO_MEMORY (prefix s c ++ refusal_text NO_MEMORY) [] → DidItem leaf input script s c item old new before after snaps left r
refused_did leaf input script s c item old new before after snaps left o (Ok told) t p q = as_told (Did leaf input script s c item old new before after snaps left) s c o told t p
refused_did leaf input script s c item old new before after snaps left o (Err lack) t p q = q
