-- What an item did, as it is noted.
use Rattle.std.proofs.Common.{◌≡◌, ◌+◌, ◌∙◌, ℕ, List, [], ◌∷◌, ◌++◌, length, append-nil, append_assoc, Result, Ok, Err, Some, refl, sym, ap, subst}
use Rattle.std.specs.Prelude.{slice_get}
use Rattle.rel_model.specs.declared.NoMemory.{NoMemory}
use Rattle.rel_model.specs.Worker.{Worker}
use Rattle.lang_model.specs.declared.syntax.Item.{Item}
use Rattle.lang_model.specs.declared.syntax.Script.{Script}
use Rattle.run_model.specs.Inputs.{Input}
use Rattle.turn_book.specs.Views.{View}
use Rattle.rv_sessions.specs.declared.told.Told.{Told}
use Rattle.rv_sessions.specs.declared.transcript.Reply.{Reply}
use Rattle.run_model.specs.declared.files.Save.{Save}
use Rattle.rv_sessions.specs.declared.transcript.Transcript.{Transcript}
use Rattle.rv_sessions.specs.Standing.{Kept}
use Rattle.rv_sessions.specs.Doing.{Did}
use Rattle.rv_sessions.specs.Acting.{DidItem}
use Rattle.run_model.specs.Filed.{saved_of, saved_all}
use Rattle.rv_sessions.specs.Telling.{text_of, texts_of}
use Rattle.rv_sessions.specs.Noting.{IsBare, outcome_in, text_in, saved_in}
use Rattle.rv_sessions.specs.Running.{RanSoFar}
use Rattle.rv_sessions.proofs.Folding.{nothing_yet, one_more}

pub as_noted : (leaf : ℕ) (input : Input) (script : Script) (s c : ℕ) (item : Item) (old new : Worker) (before after : View) (snaps left : Kept)
    (r : Result Told NoMemory) → DidItem leaf input script s c item old new before after snaps left r →
    Did leaf input script s c item old new before after snaps left (outcome_in r) (text_in s c r) (saved_in r)
as_noted leaf input script s c item old new before after snaps left (Ok told) h = h
as_noted leaf input script s c item old new before after snaps left (Err lack) h = h

-- one reply more
pub texts-append : (rs : List Reply) (r : Reply) → texts_of (rs ++ r ∷ []) ≡ texts_of rs ++ text_of r
texts-append [] r = append-nil (text_of r)
texts-append (x ∷ xs) r = ap (λ z. text_of x ++ z) (texts-append xs r) ∙ sym (append_assoc (text_of x) (texts_of xs) (text_of r))

-- one file more
pub saves-append : (ss : List Save) (s : Save) → saved_all (ss ++ s ∷ []) ≡ saved_all ss ++ saved_of s ∷ []
saves-append [] s = refl
saves-append (x ∷ xs) s = ap (λ z. saved_of x ∷ z) (saves-append xs s)

-- ---- from item to item
-- nothing is noted before the first item
pub begins : (leaf : ℕ) (input : Input) (script : Script) (s : ℕ) (w : Worker) (v : View) (snaps : Kept) (lists : Transcript) →
    snaps ≡ [] → IsBare (length script.items.items) lists →
    RanSoFar leaf input script s w w v v snaps lists.outcomes.items (texts_of lists.replies.items) (saved_all lists.saves.items)
begins leaf input script s w v snaps lists none bare =
    subst (λ z. RanSoFar leaf input script s w w v v z lists.outcomes.items (texts_of lists.replies.items) (saved_all lists.saves.items)) (sym none)
    (subst (λ z. RanSoFar leaf input script s w w v v [] z (texts_of lists.replies.items) (saved_all lists.saves.items)) (sym bare.outcomes)
    (subst (λ z. RanSoFar leaf input script s w w v v [] [] (texts_of z) (saved_all lists.saves.items)) (sym bare.replies)
    (subst (λ z. RanSoFar leaf input script s w w v v [] [] [] (saved_all z)) (sym bare.saves) (nothing_yet leaf input script s w v))))

-- what an item did is noted behind what those before it did
pub goes_on : (leaf : ℕ) (input : Input) (script : Script) (s k : ℕ) (item : Item) (old mid new : Worker) (before between after : View) (snaps left : Kept)
    (lists more : Transcript) (told : Result Told NoMemory) →
    RanSoFar leaf input script s old mid before between snaps lists.outcomes.items (texts_of lists.replies.items) (saved_all lists.saves.items) →
    length lists.outcomes.items ≡ k → slice_get script.items.items k ≡ Some item →
    DidItem leaf input script s (k + 1) item mid new between after snaps left told →
    more.outcomes.items ≡ lists.outcomes.items ++ outcome_in told ∷ [] →
    texts_of more.replies.items ≡ texts_of lists.replies.items ++ text_in s (k + 1) told →
    saved_all more.saves.items ≡ saved_all lists.saves.items ++ saved_in told →
    RanSoFar leaf input script s old new before after left more.outcomes.items (texts_of more.replies.items) (saved_all more.saves.items)
goes_on leaf input script s k item old mid new before between after snaps left lists more told r count there did os ts ss =
    subst (λ l. RanSoFar leaf input script s old new before after left l (texts_of more.replies.items) (saved_all more.saves.items)) (sym os)
    (subst (λ l. RanSoFar leaf input script s old new before after left (lists.outcomes.items ++ outcome_in told ∷ []) l (saved_all more.saves.items)) (sym ts)
    (subst (λ l. RanSoFar leaf input script s old new before after left (lists.outcomes.items ++ outcome_in told ∷ []) (texts_of lists.replies.items ++ text_in s (k + 1) told) l) (sym ss)
    (one_more r (subst (λ n. slice_get script.items.items n ≡ Some item) (sym count) there)
    (subst (λ n. Did leaf input script s (n + 1) item mid new between after snaps left (outcome_in told) (text_in s (k + 1) told) (saved_in told)) (sym count)
    (as_noted leaf input script s (k + 1) item mid new between after snaps left told did)))))
