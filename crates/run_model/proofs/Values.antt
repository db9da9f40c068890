-- From what sessions promise of the relations that they assign to the states of the closed log.
-- 1. In the log that stands before an assignment, the command has assigned as many relations as its session did before.
-- 2. Its read is the command's first event, and what was noted there is what its session took.
-- 3. So the value that the session gave is the one that is due by the log.
use Rattle.std.proofs.Common.{◌≡◌, ◌⊎◌, ◌+◌, ◌-◌, ◌&&◌, ◌||◌, ℕ, Bool, true, false, cond, eqb, List, [], ◌∷◌, ◌++◌, map, length, Option, Some, None, refl, sym, ap, subst, ◌∙◌, inl, inr, arith, append_assoc, append-nil, add-zero}
use Rattle.std.specs.Prelude.{slice_get}
use Rattle.std.specs.List.{list_any}
use Rattle.std.specs.Option.{option_map_or}
use Rattle.std.proofs.lemmas.Bool.{cases_Bool, false≢true}
use Rattle.rel_model.specs.declared.Rel.{Rel}
use Rattle.lang_model.specs.declared.syntax.Command.TheVariants.{Relation as RELATION, Let, Print as PRINT, List as LIST, Count, Typed, Remove as DROP, Snap, At, Load, Save, LoadAll, SaveAll, Atomic, Explain}
use Rattle.lang_model.specs.declared.syntax.Item.{Item}
use Rattle.lang_model.specs.declared.syntax.Item.TheVariants.{Function, Program, Command as COMMAND}
use Rattle.lang_model.specs.declared.syntax.Script.{Script}
use Rattle.run_model.specs.declared.event.Event.{Event}
use Rattle.run_model.specs.declared.event.Act.{Act}
use Rattle.run_model.specs.declared.event.Act.TheVariants.{Read, Assign, Remove}
use Rattle.rel_model.specs.Relation.{Relation}
use Rattle.run_model.specs.Inputs.{Input, script_at, item_at}
use Rattle.run_model.specs.Due.{Workspace, Gifts, gives, due, due_of_command}
use Rattle.run_model.specs.Events.{Reads, deed_of, Entry, entry_of, first_of}
use Rattle.run_model.specs.States.{Replay, begun, is_of, events_of, gifts_of_item, gifts_of_script, gifts_due}
use Rattle.run_model.specs.Carried.{Carried, carry_act, carry}
use Rattle.run_model.specs.Sessions.{rel_of, rels_of, HaveValues}
use Rattle.run_model.proofs.Entries.{event, entry, reads_event}
use Rattle.run_model.proofs.Behind.{put_here}
use Rattle.run_model.proofs.Locating.{is_reads}

-- ---- what a command gave
eqb_sym : (a b : ℕ) → eqb a b ≡ eqb b a
eqb_sym a b = grind arith

-- two logs one behind the other tell the relations that a command gave in each, by induction on the first
pub rels_append : (c : ℕ) (xs ys : List Event) → rels_of c (xs ++ ys) ≡ rels_of c xs ++ rels_of c ys
rels_append c [] ys = refl
rels_append c (x ∷ xs) ys = let i = rels_append c xs ys in elim (cases_Bool (eqb x.command c)) [
  | inl t ↦ rw t (ap (λ l. rel_of x.act ++ l) i ∙ sym (append_assoc (rel_of x.act) (rels_of c xs) (rels_of c ys)))
  | inr f ↦ rw f i
]

-- how many relations an act of a command gives
abbrev gave : Bool → Act → ℕ
gave b Read = 0
gave b (Assign name rel) = cond b 1 0
gave b (Remove name) = 0

-- an event raises a command's count of given relations by one exactly if it is an assignment of that command
one_given : (s c t d : ℕ) (a : Act) (q : Replay Rel) →
    (carry_act t d a q).given s c ≡ q.given s c + gave (eqb t s && eqb d c) a
one_given s c t d Read q = sym (add-zero (q.given s c))
one_given s c t d (Assign name rel) q =
    (λ i. cond (eqb_sym s t i && eqb_sym c d i) (q.given t d + 1) (q.given s c)) ∙ counted (eqb t s) (eqb d c) refl refl
  where
    counted : (x y : Bool) → eqb t s ≡ x → eqb d c ≡ y → cond (x && y) (q.given t d + 1) (q.given s c) ≡ q.given s c + cond (x && y) 1 0
    counted true true e f =
        let a : t ≡ s = grind (arith, e) in
        let b : d ≡ c = grind (arith, f) in
        λ i. q.given (a i) (b i) + 1
    counted true false e f = sym (add-zero (q.given s c))
    counted false y e f = sym (add-zero (q.given s c))
one_given s c t d (Remove name) q = sym (add-zero (q.given s c))

-- as many as its session's events tell
pub all_given : (s c : ℕ) (xs : List Event) (q : Replay Rel) → (carry q xs).given s c ≡ q.given s c + length (rels_of c (events_of s xs))
all_given s c [] q = sym (add-zero (q.given s c))
all_given s c (x ∷ xs) q =
    all_given s c xs (carry_act x.session x.command x.act q)
    ∙ (ap (λ n. n + length (rels_of c (events_of s xs))) (one_given s c x.session x.command x.act q)
    ∙ told (eqb x.session s) (eqb x.command c) refl refl)
  where
    rel_count : (a : Act) (r : List Rel) (n : ℕ) → (n + gave true a) + length r ≡ n + length (rel_of a ++ r)
    rel_count Read r n = omega arith
    rel_count (Assign name rel) r n = omega arith
    rel_count (Remove name) r n = omega arith

    nothing : (a : Act) (n k : ℕ) → (n + gave false a) + k ≡ n + k
    nothing Read n k = omega arith
    nothing (Assign name rel) n k = omega arith
    nothing (Remove name) n k = omega arith

    told : (b d : Bool) → eqb x.session s ≡ b → eqb x.command c ≡ d →
        (q.given s c + gave (b && d) x.act) + length (rels_of c (events_of s xs))
        ≡ q.given s c + length (rels_of c (cond b (x ∷ events_of s xs) (events_of s xs)))
    told true true e f =
        rel_count x.act (rels_of c (events_of s xs)) (q.given s c)
        ∙ ap (λ z. q.given s c + length (cond z (rel_of x.act ++ rels_of c (events_of s xs)) (rels_of c (events_of s xs)))) (sym f)
    told true false e f =
        nothing x.act (q.given s c) (length (rels_of c (events_of s xs)))
        ∙ ap (λ z. q.given s c + length (cond z (rel_of x.act ++ rels_of c (events_of s xs)) (rels_of c (events_of s xs)))) (sym f)
    told false d e f = nothing x.act (q.given s c) (length (rels_of c (events_of s xs)))

-- the relation that comes next has the value that comes next
pub next_value : (means : Rel → Relation) (before : List Rel) (rel : Rel) (behind : List Rel) (gs : Gifts) → HaveValues means (before ++ rel ∷ behind) gs →
    (gift : List ℕ × Relation) × (slice_get gs (length before) ≡ Some gift) × (means rel ≡ gift.1)
next_value means [] rel behind [] h = absurd h
next_value means [] rel behind (g ∷ gs) h = (g, refl, h.0)
next_value means (b ∷ before) rel behind [] h = absurd h
next_value means (b ∷ before) rel behind (g ∷ gs) h = next_value means before rel behind gs h.1

-- ---- what a command gives, by the state that it read
module _ (input : Input) (script : Script) where
  pub gifts_at : (s c : ℕ) (item : Item) (state : Workspace) → script_at input s ≡ Some script → item_at script c ≡ Some item →
      gifts_due input s c state ≡ gives item (due input script item state None)
  unfolding gifts_due
  gifts_at s c item state is at =
      ap (λ (o : Option Script). option_map_or (gifts_of_script input c state) o []) is
      ∙ ap (λ (o : Option Item). option_map_or (gifts_of_item input script state) o []) at

  -- an item gives the same on two states, which are one if it reads first: no other item's gifts depend on the state
  pub same_gifts : (item : Item) (x y : Workspace) (snap : Option Workspace) → (first_of item ≡ Reads ∷ [] → x ≡ y) →
      gives item (due input script item x None) ≡ gives item (due input script item y snap)
  unfolding due due_of_command
  same_gifts (COMMAND (RELATION name rows rows_at cols cols_at list)) x y snap h = refl
  same_gifts (COMMAND (Let name e)) x y snap h = ap (λ z. gives (COMMAND (Let name e)) (due input script (COMMAND (Let name e)) z None)) (h refl)
  same_gifts (COMMAND (PRINT e)) x y snap h = refl
  same_gifts (COMMAND (LIST e)) x y snap h = refl
  same_gifts (COMMAND (Count e)) x y snap h = refl
  same_gifts (COMMAND (Typed e)) x y snap h = refl
  same_gifts (COMMAND (DROP at name)) x y snap h = refl
  same_gifts (COMMAND (Snap name)) x y snap h = refl
  same_gifts (COMMAND (At at name e)) x y snap h = refl
  same_gifts (COMMAND (Load name file)) x y snap h = refl
  same_gifts (COMMAND (Save e file)) x y snap h = refl
  same_gifts (COMMAND (LoadAll file)) x y snap h = refl
  same_gifts (COMMAND (SaveAll file)) x y snap h = refl
  same_gifts (COMMAND (Atomic lets)) x y snap h = ap (λ z. gives (COMMAND (Atomic lets)) (due input script (COMMAND (Atomic lets)) z None)) (h refl)
  same_gifts (COMMAND (Explain e)) x y snap h = refl
  same_gifts (Function at name params body) x y snap h = refl
  same_gifts (Program at name params decls body result) x y snap h = refl

-- ---- reads
-- whether an entry is a read of a command
abbrev pub is_read : ℕ → ℕ → Entry → Bool
is_read s c x = (eqb x.session s && eqb x.command c) && is_reads x.deed

pub any_map : (p : Entry → Bool) (xs : List Event) → list_any p (map entry_of xs) ≡ list_any (λ e. p (entry_of e)) xs
any_map p [] = refl
any_map p (x ∷ xs) = ap (λ b. p (entry_of x) || b) (any_map p xs)

pub any_mid : (p : Entry → Bool) (xs : List Entry) (x : Entry) (ys : List Entry) → p x ≡ true → list_any p (xs ++ x ∷ ys) ≡ true
any_mid p [] x ys h = ap (λ b. b || list_any p ys) h
any_mid p (z ∷ xs) x ys h = ap (λ b. p z || b) (any_mid p xs x ys h) ∙ or_true (p z)
  where
    or_true : (b : Bool) → (b || true) ≡ true
    or_true true = refl
    or_true false = refl

any_there : (s c : ℕ) (xs : List Event) (e : Event) (ys : List Event) → is_of s c e ≡ true → list_any (is_of s c) (xs ++ e ∷ ys) ≡ true
any_there s c [] e ys h = ap (λ b. b || list_any (is_of s c) ys) h
any_there s c (z ∷ xs) e ys h = ap (λ b. is_of s c z || b) (any_there s c xs e ys h) ∙ or_true (is_of s c z)
  where
    or_true : (b : Bool) → (b || true) ≡ true
    or_true true = refl
    or_true false = refl

-- a read among the session's events is one of the log
pub read_own : (s c : ℕ) (xs : List Event) → list_any (λ e. is_read s c (entry_of e)) (events_of s xs) ≡ true →
    list_any (λ e. is_read s c (entry_of e)) xs ≡ true
read_own s c [] h = h
read_own s c (x ∷ xs) h = elim (cases_Bool (eqb x.session s)) [
  | inl t ↦ kept (is_read s c (entry_of x)) (read_own s c xs) (subst (λ b. list_any (λ e. is_read s c (entry_of e)) (cond b (x ∷ events_of s xs) (events_of s xs)) ≡ true) t h)
  | inr f ↦ later (is_read s c (entry_of x)) (read_own s c xs (subst (λ b. list_any (λ e. is_read s c (entry_of e)) (cond b (x ∷ events_of s xs) (events_of s xs)) ≡ true) f h))
]
  where
    later : (b : Bool) → list_any (λ e. is_read s c (entry_of e)) xs ≡ true → (b || list_any (λ e. is_read s c (entry_of e)) xs) ≡ true
    later true k = refl
    later false k = k

    kept : (b : Bool) → (list_any (λ e. is_read s c (entry_of e)) (events_of s xs) ≡ true → list_any (λ e. is_read s c (entry_of e)) xs ≡ true) →
        (b || list_any (λ e. is_read s c (entry_of e)) (events_of s xs)) ≡ true → (b || list_any (λ e. is_read s c (entry_of e)) xs) ≡ true
    kept true own k = refl
    kept false own k = own k

pub carry_append : (q : Replay Rel) (xs ys : List Event) → carry q (xs ++ ys) ≡ carry (carry q xs) ys
carry_append q [] ys = refl
carry_append q (x ∷ xs) ys = carry_append (carry_act x.session x.command x.act q) xs ys

read_act : (a : Act) → is_reads (deed_of a) ≡ true → deed_of a ≡ Reads
read_act Read h = refl
read_act (Assign name rel) h = absurd (false≢true h)
read_act (Remove name) h = absurd (false≢true h)

act_stays : (s c t d : ℕ) (a : Act) (q : Replay Rel) → ((eqb t s && eqb d c) && is_reads (deed_of a)) ≡ false →
    (carry_act t d a q).at_read s c ≡ q.at_read s c
act_stays s c t d Read q h =
    (λ i. cond (eqb_sym s t i && eqb_sym c d i) q.now (q.at_read s c)) ∙ ap (λ b. cond b q.now (q.at_read s c)) (sym (and_true (eqb t s && eqb d c)) ∙ h)
  where
    and_true : (b : Bool) → (b && true) ≡ b
    and_true true = refl
    and_true false = refl
act_stays s c t d (Assign name rel) q h = refl
act_stays s c t d (Remove name) q h = refl

-- an event whose entry is a read of a command is that read: its session, number and deed are told
read_event : (s c : ℕ) (x : Event) → is_read s c (entry_of x) ≡ true → x ≡ event s c Read
read_event s c x h =
    let p = parts (eqb x.session s) (eqb x.command c) (is_reads (deed_of x.act)) h in
    let a : x.session ≡ s = grind (arith, p.0) in
    let b : x.command ≡ c = grind (arith, p.1) in
    let d = read_act x.act p.2 in
    reads_event x s c (λ i. record { session = a i; command = b i; deed = d i })
  where
    parts : (a b d : Bool) → ((a && b) && d) ≡ true → (a ≡ true) × (b ≡ true) × (d ≡ true)
    parts true true true h = (refl, refl, refl)
    parts true true false h = absurd (false≢true h)
    parts true false d h = absurd (false≢true h)
    parts false b d h = absurd (false≢true h)

abbrev pub log_count : Option (List Event) → ℕ
log_count None = 0
log_count (Some l) = 1

-- where each read of a command stands behind one log, and there is one, what was noted is what names had in that log
module _ (names : Carried) (s c : ℕ) (log at : List Event) (first : (before behind : List Event) → log ≡ before ++ event s c Read ∷ behind → before ≡ at) where
  pub noted : (before xs behind : List Event) → log ≡ before ++ (xs ++ behind) →
      ((carry (begun names) before).at_read s c ≡ (carry (begun names) at).now) ⊎ (list_any (λ e. is_read s c (entry_of e)) xs ≡ true) →
      (carry (begun names) (before ++ xs)).at_read s c ≡ (carry (begun names) at).now
  noted before [] behind w (inl k) = ap (λ l. (carry (begun names) l).at_read s c) (append-nil before) ∙ k
  noted before [] behind w (inr k) = absurd (false≢true k)
  noted before (x ∷ xs) behind w h =
      let mid : List Event = before ++ x ∷ [] in
      let now_mid : carry (begun names) mid ≡ carry_act x.session x.command x.act (carry (begun names) before) = carry_append (begun names) before (x ∷ []) in
      ap (λ l. (carry (begun names) l).at_read s c) (sym (append_assoc before (x ∷ []) xs))
      ∙ noted mid xs behind (w ∙ sym (append_assoc before (x ∷ []) (xs ++ behind)))
      (elim (cases_Bool (is_read s c (entry_of x))) [
        | inl y ↦
            let e = read_event s c x y in
            let place = first before (xs ++ behind) (w ∙ ap (λ z. before ++ z ∷ (xs ++ behind)) e) in
            inl (ap (λ q. q.at_read s c) now_mid
            ∙ (ap (λ (z : Event). (carry_act z.session z.command z.act (carry (begun names) before)).at_read s c) e
            ∙ (put_here s c (carry (begun names) before).now (carry (begun names) before).at_read ∙ ap (λ l. (carry (begun names) l).now) place)))
        | inr n ↦ elim h [
          | inl k ↦ inl (ap (λ q. q.at_read s c) now_mid ∙ (act_stays s c x.session x.command x.act (carry (begun names) before) n ∙ k))
          | inr k ↦ inr (sym (ap (λ b. b || list_any (λ e. is_read s c (entry_of e)) xs) n) ∙ k)
        ]
      ])

-- a read that is there stands somewhere
pub some_read : (s c : ℕ) (xs : List Event) → list_any (λ e. is_read s c (entry_of e)) xs ≡ true → (us vs : List Event) × (xs ≡ us ++ event s c Read ∷ vs)
some_read s c [] h = absurd (false≢true h)
some_read s c (x ∷ xs) h = elim (cases_Bool (is_read s c (entry_of x))) [
  | inl y ↦ ([], xs, ap (λ z. z ∷ xs) (read_event s c x y))
  | inr n ↦
      let r = some_read s c xs (sym (ap (λ b. b || list_any (λ e. is_read s c (entry_of e)) xs) n) ∙ h) in
      (x ∷ r.0, r.1, ap (λ z. x ∷ z) r.2)
]
