-- The step of one item among those of its session.
-- 1. Entries of items from a number on have numbers from there on, so those of one number are of one step.
-- 2. An item that is an atomic block does what a block does: one read, or two, or one and its assignments.
use Rattle.std.specs.Prelude.{slice_get}
use Rattle.std.proofs.Common.{◌≡◌, ◌≢◌, ◌<◌, ◌+◌, ℕ, zero, suc, eqb, List, [], ◌∷◌, ◌++◌, map, filter, Option, Some, None, refl, sym, ap, subst, ◌∙◌, inl, inr, arith, add-zero}
use Rattle.std.proofs.lemmas.Bool.{cases_Bool, eq-eqb, ne_eqb}
use Rattle.lang_model.specs.declared.syntax.Command.TheVariants.{Relation as RELATION, Let, Print as PRINT, List as LIST, Count, Typed, Remove as DROP, Snap, At, Load, Save, LoadAll, SaveAll, Atomic, Explain}
use Rattle.lang_model.specs.declared.syntax.Item.{Item}
use Rattle.lang_model.specs.declared.syntax.Item.TheVariants.{Function, Program, Command as COMMAND}
use Rattle.lang_model.specs.declared.syntax.Let.{Let as BlockLet}
use Rattle.lang_model.specs.declared.syntax.Script.{Script}
use Rattle.run_model.specs.declared.event.Event.{Event}
use Rattle.run_model.specs.declared.outcome.Outcome.{Outcome}
use Rattle.run_model.specs.Inputs.{Input}
use Rattle.run_model.specs.Due.{Workspace, Due, given_all, gives, due, due_of_command, due_of_block}
use Rattle.run_model.specs.Steps.{Snapshots, ending, steps_from, snap_for, snaps_behind}
use Rattle.run_model.specs.Events.{Deed, Reads, Entry, entry_of, entries, first_of, reads_of, all_reads_of, HasDeeds, AreEvents}
use Rattle.run_model.specs.Outcomes.{IsOutcome, AreOutcomes, lets_of}
use Rattle.run_model.specs.Versions.{Change}
use Rattle.run_model.specs.States.{is_of, events_of}
use Rattle.run_model.specs.Legal.{CommitsItem, CommitsFrom}

-- ---- entries of one number
-- the entries of command c
abbrev pub of_command : ℕ → List Entry → List Entry
of_command c = filter (λ x. eqb x.command c)

module _ (s : ℕ) where
  other_entries : (c n : ℕ) (deeds : List Deed) (rest : List Entry) → n ≢ c → of_command c (entries s n deeds ++ rest) ≡ of_command c rest
  other_entries c n [] rest h = refl
  other_entries c n (d ∷ ds) rest h = rw (ne_eqb n c h) (other_entries c n ds rest h)

  own_entries : (c : ℕ) (deeds : List Deed) (rest : List Entry) → of_command c (entries s c deeds ++ rest) ≡ entries s c deeds ++ of_command c rest
  own_entries c [] rest = refl
  own_entries c (d ∷ ds) rest = rw (eq-eqb c c refl) (ap (λ (l : List Entry). record { session = s; command = c; deed = d } ∷ l) (own_entries c ds rest))

append_none : (xs : List Entry) → xs ++ [] ≡ xs
append_none [] = refl
append_none (x ∷ xs) = ap (λ (l : List Entry). x ∷ l) (append_none xs)

-- the entries of command c of session s are those of its events
pub own_commands : (s c : ℕ) (xs : List Event) → map entry_of (filter (is_of s c) xs) ≡ of_command c (map entry_of (events_of s xs))
own_commands s c [] = refl
own_commands s c (x ∷ xs) = elim (cases_Bool (eqb x.session s)) [
  | inl t ↦ rw t (elim (cases_Bool (eqb x.command c)) [
    | inl u ↦ rw u (ap (λ (l : List Entry). entry_of x ∷ l) (own_commands s c xs))
    | inr f ↦ rw f (own_commands s c xs)
  ])
  | inr f ↦ rw f (own_commands s c xs)
]

-- ---- the step of an item
abbrev item_or : Item → Option Item → Item
item_or d None = d
item_or d (Some x) = x

abbrev outcome_or : Outcome → Option Outcome → Outcome
outcome_or d None = d
outcome_or d (Some x) = x

abbrev some_item : Option Item → ℕ
some_item None = 0
some_item (Some x) = 1

abbrev some_outcome : Option Outcome → ℕ
some_outcome None = 0
some_outcome (Some x) = 1

module _ (input : Input) (script : Script) (s : ℕ) (f : ℕ → Workspace) where
  -- steps from a later number on leave no entry of the command
  later_only : (c n : ℕ) (snaps : Snapshots) (items : List Item) (outcomes : List Outcome) (log : List Entry) → c < n →
      AreEvents input script s (steps_from f n snaps items outcomes) log → of_command c log ≡ []
  later_only c n snaps [] outcomes log l e = ap (of_command c) e
  later_only c n snaps (item ∷ items) [] log l e = ap (of_command c) e
  later_only c n snaps (item ∷ items) (o ∷ os) log l e =
      ap (of_command c) e.2 ∙ (other_entries s c n e.0 e.1 (λ q. omega (arith, l, q))
      ∙ later_only c (n + 1) (snaps_behind item o (f n) snaps) items os e.1 (omega (arith, l)) e.4)

  -- an item with its number and outcome, and what is known of its step
  pub record Found (item : Item) (outcome : Outcome) (c : ℕ) (log : List Entry) : Type 0 where
    pub snap : Option Workspace
    pub deeds : List Deed
    pub has : HasDeeds (ending outcome) item (due input script item (f c) snap) deeds
    pub is_outcome : IsOutcome item (due input script item (f c) snap) outcome
    pub only : of_command c log ≡ entries s c deeds

  -- an item with an outcome has a step, whose deeds are all entries of its number: by induction on the items, since the
  -- other steps have other numbers
  pub find_step : (k n : ℕ) (snaps : Snapshots) (items : List Item) (outcomes : List Outcome) (log : List Entry) (item : Item) (outcome : Outcome) →
      AreEvents input script s (steps_from f n snaps items outcomes) log → AreOutcomes input script (steps_from f n snaps items outcomes) →
      slice_get items k ≡ Some item → slice_get outcomes k ≡ Some outcome → Found item outcome (n + k) log
  find_step k n snaps [] outcomes log item outcome e a i o = let z : 0 ≡ 1 = ap some_item i in absurd (omega (arith, z))
  find_step k n snaps (x ∷ xs) [] log item outcome e a i o = let z : 0 ≡ 1 = ap some_outcome o in absurd (omega (arith, z))
  find_step zero n snaps (x ∷ xs) (y ∷ ys) log item outcome e a i o =
      let here : Found x y n log = record {
        snap = snap_for x snaps;
        deeds = e.0;
        has = e.3;
        is_outcome = a.0;
        only =
            ap (of_command n) e.2 ∙ (own_entries s n e.0 e.1
            ∙ (ap (λ (l : List Entry). entries s n e.0 ++ l) (later_only n (n + 1) (snaps_behind x y (f n) snaps) xs ys e.1 (omega arith) e.4)
            ∙ append_none (entries s n e.0)));
      } in
      subst (λ (m : ℕ). Found item outcome m log) (sym (add-zero n))
      (subst (λ (z : Outcome). Found item z n log) (ap (outcome_or y) o) (subst (λ (z : Item). Found z y n log) (ap (item_or x) i) here))
  find_step (suc k) n snaps (x ∷ xs) (y ∷ ys) log item outcome e a i o =
      let r = find_step k (n + 1) (snaps_behind x y (f n) snaps) xs ys e.1 item outcome e.4 a.1 i o in
      let whole : (n + 1) + k ≡ n + suc k = omega arith in
      let past : n ≢ n + suc k = λ q. omega (arith, q) in
      let here : Found item outcome (n + suc k) e.1 = subst (λ (m : ℕ). Found item outcome m e.1) whole r in
      record {
        snap = here.snap;
        deeds = here.deeds;
        has = here.has;
        is_outcome = here.is_outcome;
        only = ap (of_command (n + suc k)) e.2 ∙ (other_entries s (n + suc k) n e.0 e.1 past ∙ here.only);
      }

-- ---- commits
pub find_commit : (change : ℕ → List (List ℕ) → Option Change) (k n : ℕ) (items : List Item) (outcomes : List Outcome) (item : Item) (outcome : Outcome) →
    CommitsFrom change n items outcomes → slice_get items k ≡ Some item → slice_get outcomes k ≡ Some outcome →
    CommitsItem (change (n + k)) (lets_of item) outcome
find_commit change k n [] outcomes item outcome h i o = let z : 0 ≡ 1 = ap some_item i in absurd (omega (arith, z))
find_commit change k n (x ∷ xs) [] item outcome h i o = let z : 0 ≡ 1 = ap some_outcome o in absurd (omega (arith, z))
find_commit change zero n (x ∷ xs) (y ∷ ys) item outcome h i o =
    subst (λ (m : ℕ). CommitsItem (change m) (lets_of item) outcome) (sym (add-zero n))
    (subst (λ (z : Outcome). CommitsItem (change n) (lets_of item) z) (ap (outcome_or y) o)
    (subst (λ (z : Item). CommitsItem (change n) (lets_of z) y) (ap (item_or x) i) h.0))
find_commit change (suc k) n (x ∷ xs) (y ∷ ys) item outcome h i o =
    let whole : (n + 1) + k ≡ n + suc k = omega arith in
    subst (λ (m : ℕ). CommitsItem (change m) (lets_of item) outcome) whole (find_commit change k (n + 1) xs ys item outcome h.1 i o)

-- ---- what a block does
pub record ActsAsBlock (input : Input) (script : Script) (lets : List BlockLet) (item : Item) : Type 0 where
  pub due_is : (state : Workspace) (snap : Option Workspace) → due input script item state snap ≡ due_of_block input script lets state
  pub gives_is : (d : Due) → gives item d ≡ given_all d
  pub first_is : first_of item ≡ Reads ∷ []
  pub reads_is : reads_of item ≡ Reads ∷ []
  pub all_reads_is : all_reads_of item ≡ Reads ∷ Reads ∷ []

abbrev lets_or : List BlockLet → Option (List BlockLet) → List BlockLet
lets_or d None = d
lets_or d (Some l) = l

abbrev some_lets : Option (List BlockLet) → ℕ
some_lets None = 0
some_lets (Some l) = 1

no_block : (lets : List BlockLet) → None ≡ Some lets → ⊥
no_block lets e = let z : 0 ≡ 1 = ap some_lets e in omega (arith, z)

-- an item with the assignments of a block is an atomic block, and does what these ask: no other item has any
pub acts_as_block : (input : Input) (script : Script) (lets : List BlockLet) (item : Item) → lets_of item ≡ Some lets → ActsAsBlock input script lets item
unfolding due due_of_command
acts_as_block input script lets (COMMAND (Atomic own)) e = record {
  due_is = λ state snap. ap (λ (l : List BlockLet). due_of_block input script l state) (ap (lets_or lets) e);
  gives_is = λ d. refl;
  first_is = refl;
  reads_is = refl;
  all_reads_is = refl;
}
acts_as_block input script lets (COMMAND (RELATION name rows rows_at cols cols_at list)) e = absurd (no_block lets e)
acts_as_block input script lets (COMMAND (Let name x)) e = absurd (no_block lets e)
acts_as_block input script lets (COMMAND (PRINT x)) e = absurd (no_block lets e)
acts_as_block input script lets (COMMAND (LIST x)) e = absurd (no_block lets e)
acts_as_block input script lets (COMMAND (Count x)) e = absurd (no_block lets e)
acts_as_block input script lets (COMMAND (Typed x)) e = absurd (no_block lets e)
acts_as_block input script lets (COMMAND (DROP at name)) e = absurd (no_block lets e)
acts_as_block input script lets (COMMAND (Snap name)) e = absurd (no_block lets e)
acts_as_block input script lets (COMMAND (At at name x)) e = absurd (no_block lets e)
acts_as_block input script lets (COMMAND (Load name file)) e = absurd (no_block lets e)
acts_as_block input script lets (COMMAND (Save x file)) e = absurd (no_block lets e)
acts_as_block input script lets (COMMAND (LoadAll file)) e = absurd (no_block lets e)
acts_as_block input script lets (COMMAND (SaveAll file)) e = absurd (no_block lets e)
acts_as_block input script lets (COMMAND (Explain x)) e = absurd (no_block lets e)
acts_as_block input script lets (Function at name params body) e = absurd (no_block lets e)
acts_as_block input script lets (Program at name params decls body result) e = absurd (no_block lets e)
