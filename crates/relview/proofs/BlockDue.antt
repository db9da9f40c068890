-- What is due of an atomic block, and which events each of its outcomes leaves.
-- 1. What is due of a block is that it gives each of its names a value, or a refusal.
-- 2. Its events are those that its outcome tells: one read and its assignments, or one read, or two.
use Rattle.std.specs.List.{AllByRecursion}
use Rattle.std.proofs.Common.{◌≡◌, ◌≢◌, ◌⊎◌, ℕ, suc, Bool, true, false, List, [], ◌∷◌, ◌++◌, map, length, refl, sym, ap, subst, ◌∙◌, inl, inr, arith}
use Rattle.std.proofs.lemmas.Bool.{false≢true}
use Rattle.lang_model.specs.declared.syntax.Item.{Item}
use Rattle.lang_model.specs.declared.syntax.Let.{Let as BlockLet}
use Rattle.lang_model.specs.declared.syntax.Script.{Script}
use Rattle.lang_model.specs.Eval.{Evaluated, Ahead, Comes, evaluated}
use Rattle.lang_model.specs.Outcomes.{Refusal, Ill, Size, Turns, Answer, Got, Not}
use Rattle.rel_model.specs.Relation.{Relation}
use Rattle.run_model.specs.declared.event.Event.{Event}
use Rattle.run_model.specs.declared.event.Act.TheVariants.{Read}
use Rattle.run_model.specs.declared.outcome.Outcome.{Outcome}
use Rattle.run_model.specs.declared.outcome.Outcome.TheVariants.{Done, Parse, Ill as ILL, Size as SIZE, Turns as TURNS, Nodes, TooLarge, TooLong, NoFile, BadFile, NoMemory, Changed}
use Rattle.run_model.specs.Names.{lookup, set}
use Rattle.run_model.specs.Inputs.{Input}
use Rattle.run_model.specs.Due.{When, Early, Late, Workspace, Gifts, Due, Value, Values, Refused, outcome_of, due_of_answer, due_of_value, late, with_gift, due_of_block, given_all}
use Rattle.run_model.specs.Steps.{Ending, Succeeds, Fails, Changes, LacksMemory, ending}
use Rattle.run_model.specs.Events.{Deed, Reads, entry_of, entries, giving, reads_of, done_deeds, Begins, HasDeeds}
use Rattle.run_model.specs.Legal.{is_assign}
use Rattle.run_model.proofs.Assigning.{block_goes_on, block_stops}
use Rattle.run_model.proofs.Entries.{reads_event, gives_event, heads, tails, not_empty}
use Rattle.relview.proofs.BlockPlaces.{AllAssign}
use Rattle.relview.proofs.BlockSteps.{ActsAsBlock}

-- ---- what is due of a block
abbrev pub is_success : Ending → Bool
is_success Succeeds = true
is_success Fails = false
is_success Changes = false
is_success LacksMemory = false

pub not_done : (o : Outcome) → o ≡ Done → ending o ≡ Fails → ⊥
not_done o e f = false≢true (sym (ap is_success f) ∙ ap (λ (x : Outcome). is_success (ending x)) e)

-- a value, or a refusal that is told
abbrev IsValue : Due → Type 0
IsValue d = ((r : Relation) × (d ≡ Value r)) ⊎ ((when : When) × (o : Outcome) × (d ≡ Refused when o) × (ending o ≡ Fails))

refusal_fails : (turns : ℕ) (why : Refusal) → ending (outcome_of turns why) ≡ Fails
refusal_fails turns (Ill fault) = refl
refusal_fails turns (Size at wanted) = refl
refusal_fails turns (Turns at) = refl

answer_is : (turns : ℕ) (a : Answer Relation) → IsValue (due_of_answer Value turns a)
answer_is turns (Got r left) = inl (r, refl)
answer_is turns (Not why) = inr (Late, outcome_of turns why, refl, refusal_fails turns why)

value_is : (turns : ℕ) (v : Evaluated) → IsValue (due_of_value Value turns v)
value_is turns (Ahead fault) = inr (Early, ILL fault, refl, refl)
value_is turns (Comes came) = answer_is turns came.answer

-- as many gifts as assignments, or a refusal that is told
abbrev pub IsGiving : List BlockLet → Due → Type 0
IsGiving lets d = ((gs : Gifts) × (d ≡ Values gs) × (length gs ≡ length lets))
    ⊎ ((when : When) × (o : Outcome) × (d ≡ Refused when o) × (ending o ≡ Fails))

module _ (input : Input) (script : Script) where
  -- a block gives each of its names a value or is refused, by induction on its assignments: each is computed on the
  -- state that those before it leave
  pub block_is : (lets : List BlockLet) (s : Workspace) → IsGiving lets (due_of_block input script lets s)
  block_is [] s = inl ([], refl, refl)
  block_is (l ∷ ls) s = elim (value_is input.turns (evaluated script (lookup s) l.value input.turns)) [
    | inl v ↦
        let on = block_goes_on input script l ls s v.0 v.1 in
        elim (block_is ls (set l.name v.0 s)) [
          | inl g ↦ inl ((l.name, v.0) ∷ g.0, on ∙ ap (λ (d : Due). with_gift (l.name, v.0) (late d)) g.1, ap suc g.2)
          | inr r ↦ inr (Late, r.1, on ∙ ap (λ (d : Due). with_gift (l.name, v.0) (late d)) r.2, r.3)
        ]
    | inr r ↦ inr (r.0, r.1, block_stops input script l ls s r.0 r.1 r.2, r.3)
  ]

-- ---- outcomes
abbrev pub IsRead : Deed → Type 0
IsRead d = d ≡ Reads

-- deeds that stand at the front of two reads are reads, and no more than two
begin_reads : (deeds : List Deed) → Begins deeds (Reads ∷ Reads ∷ []) → AllByRecursion IsRead deeds
begin_reads [] b = tt
begin_reads (d ∷ []) b = (ap (head_deed d) (sym b.1), tt)
  where
    head_deed : Deed → List Deed → Deed
    head_deed e [] = e
    head_deed e (x ∷ xs) = x
begin_reads (d ∷ e ∷ rest) b = (ap (head_deed d) (sym b.1), (ap (second_deed d) (sym b.1), no_third d e rest b))
  where
    head_deed : Deed → List Deed → Deed
    head_deed e [] = e
    head_deed e (x ∷ xs) = x

    second_deed : Deed → List Deed → Deed
    second_deed e [] = e
    second_deed e (x ∷ []) = e
    second_deed e (x ∷ y ∷ xs) = y

    no_third : (d e : Deed) (rest : List Deed) → Begins (d ∷ e ∷ rest) (Reads ∷ Reads ∷ []) → AllByRecursion IsRead rest
    no_third d e [] b = tt
    no_third d e (x ∷ xs) b = let n : 2 ≡ length (d ∷ e ∷ ((x ∷ xs) ++ b.0)) = ap length b.1 in absurd (omega (arith, n))

-- an outcome by what it leaves of a block
module _ (input : Input) (script : Script) (lets : List BlockLet) (item : Item) (acts : ActsAsBlock input script lets item) (d : Due) where
  one_read : (deeds : List Deed) → deeds ≡ reads_of item → AllByRecursion IsRead deeds
  one_read deeds h = subst (AllByRecursion IsRead) (sym (h ∙ acts.reads_is)) (refl, tt)

  -- a block that isn't done has only read, outcome by outcome
  pub refused_reads : (o : Outcome) (deeds : List Deed) → o ≢ Done → HasDeeds (ending o) item d deeds → AllByRecursion IsRead deeds
  refused_reads Done deeds off h = absurd (off refl)
  refused_reads (Parse fault) deeds off h = one_read deeds h
  refused_reads (ILL fault) deeds off h = one_read deeds h
  refused_reads (SIZE at wanted limit) deeds off h = one_read deeds h
  refused_reads (TURNS at limit) deeds off h = one_read deeds h
  refused_reads Nodes deeds off h = one_read deeds h
  refused_reads (TooLarge wanted counted) deeds off h = one_read deeds h
  refused_reads (TooLong bits) deeds off h = one_read deeds h
  refused_reads (NoFile name) deeds off h = one_read deeds h
  refused_reads (BadFile name kind) deeds off h = one_read deeds h
  refused_reads NoMemory deeds off h = begin_reads deeds (subst (Begins deeds) acts.all_reads_is h)
  refused_reads (Changed name seen found) deeds off h =
      subst (AllByRecursion IsRead) (sym (h ∙ acts.all_reads_is)) (refl, (refl, tt))

  pub done_deeds_are : (gifts : Gifts) (deeds : List Deed) → d ≡ Values gifts → deeds ≡ done_deeds item d → deeds ≡ Reads ∷ giving gifts
  done_deeds_are gifts deeds is h =
      h ∙ ((λ i. acts.first_is i ++ giving (acts.gives_is d i)) ∙ ap (λ (x : Due). Reads ∷ giving (given_all x)) is)

-- events whose deeds are reads read
pub all_read : (s c : ℕ) (deeds : List Deed) (xs : List Event) → AllByRecursion IsRead deeds → map entry_of xs ≡ entries s c deeds →
    AllByRecursion (λ e. e.act ≡ Read) xs
all_read s c [] [] h e = tt
all_read s c [] (x ∷ xs) h e = absurd (not_empty _ _ e)
all_read s c (d ∷ ds) [] h e = absurd (not_empty _ _ (sym e))
all_read s c (d ∷ ds) (x ∷ xs) h e = (
  ap (λ (y : Event). y.act) (reads_event x s c (heads _ _ _ _ e ∙ ap (λ (z : Deed). record { session = s; command = c; deed = z }) h.0)),
  all_read s c ds xs h.1 (tails _ _ _ _ e),
)

-- events whose deeds give assign
pub all_assign : (s c : ℕ) (gs : Gifts) (xs : List Event) → map entry_of xs ≡ entries s c (giving gs) → AllAssign s c xs
all_assign s c [] [] e = tt
all_assign s c [] (x ∷ xs) e = absurd (not_empty _ _ e)
all_assign s c (g ∷ gs) [] e = absurd (not_empty _ _ (sym e))
all_assign s c (g ∷ gs) (x ∷ xs) e =
    let a = gives_event x s c g.0 g.1.rows g.1.cols (heads _ _ _ _ e) in
    (ap (λ (y : Event). is_assign y.act) a.1, all_assign s c gs xs (tails _ _ _ _ e))
