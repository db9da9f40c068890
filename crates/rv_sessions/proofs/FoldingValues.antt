-- The values of what a session's turns assign, and its misses, with one command more.
-- 1. What a command assigned stands in the worker of then, and has the same values in one that keeps it.
-- 2. The turns of a later command assign nothing of an earlier one. So the values of earlier steps are what they were.
-- 3. Misses rise by one for each outcome that tells of a full table, up to the last value.
use Rattle.std.proofs.Common.{◌≡◌, ◌≤◌, ◌+◌, ℕ, List, [], ◌∷◌, ◌++◌, refl, sym, subst, ◌∙◌, arith}
use Rattle.std.specs.Prelude.{min}
use Rattle.std.specs.List.{AllByRecursion}
use Rattle.rel_model.specs.declared.Rel.{Rel}
use Rattle.rel_model.specs.Worker.{Worker, Stands, set_of, Keeps}
use Rattle.rel_model.proofs.Workers.{keeps_set}
use Rattle.lang_model.specs.declared.syntax.Script.{Script}
use Rattle.run_model.specs.declared.outcome.Outcome.{Outcome}
use Rattle.run_model.specs.declared.outcome.Outcome.TheVariants.{
  Done,
  Parse,
  Ill,
  Size,
  Turns,
  Nodes,
  TooLarge,
  TooLong,
  NoFile,
  BadFile as BAD_FILE,
  NoMemory,
  Changed,
}
use Rattle.run_model.specs.Inputs.{Input}
use Rattle.run_model.specs.Due.{Gifts, gives}
use Rattle.run_model.specs.Steps.{Ending, Succeeds, Fails, Changes, LacksMemory, ending, Step, due_at}
use Rattle.run_model.specs.Carried.{Carried}
use Rattle.run_model.specs.Turns.{Turn, puts_of}
use Rattle.run_model.specs.Sessions.{rels_of, HaveValues, HasValuesAt, HasValues}
use Rattle.rv_sessions.specs.Standing.{TurnsStand}
use Rattle.rv_sessions.specs.Doing.{IsBy}
use Rattle.rv_sessions.specs.Running.{one_for_nodes, nodes_in}
use Rattle.rv_sessions.proofs.FoldingTurns.{rels_old, rels_stand}

-- ---- values
module _ (v w : Worker) (k : Keeps v w) where
  values_kept : (rs : List Rel) (gs : Gifts) → AllByRecursion (Stands v) rs → HaveValues (set_of v) rs gs → HaveValues (set_of w) rs gs
  values_kept [] [] s h = tt
  values_kept [] (g ∷ gs) s h = h
  values_kept (r ∷ rs) [] s h = h
  values_kept (r ∷ rs) (g ∷ gs) s h = (keeps_set v w r k s.0 ∙ h.0, values_kept rs gs s.1 h.1)

  at_kept : (x : Ending) (rs : List Rel) (gs : Gifts) → AllByRecursion (Stands v) rs → HasValuesAt x (set_of v) rs gs → HasValuesAt x (set_of w) rs gs
  at_kept Succeeds rs gs s h = values_kept rs gs s h
  at_kept Fails rs gs s h = h
  at_kept Changes rs gs s h = h
  at_kept LacksMemory rs gs s h = h

  -- the values of earlier steps, with the turns of a later command
  pub values_more : (input : Input) (script : Script) (first : Carried) (s n : ℕ) (ts us : List Turn) → TurnsStand v first ts → AllByRecursion (IsBy s (n + 1)) us →
      (steps : List Step) → AllByRecursion (λ step. step.number ≤ n) steps →
      AllByRecursion (HasValues input script (set_of v) (puts_of ts)) steps →
      AllByRecursion (HasValues input script (set_of w) (puts_of (ts ++ us))) steps
  values_more input script first s n ts us stand new [] l h = tt
  values_more input script first s n ts us stand new (x ∷ xs) l h = (
    subst (λ rs. HasValuesAt (ending x.outcome) (set_of w) rs (gives x.item (due_at input script x))) (sym (rels_old s n x.number ts us l.0 new))
        (at_kept (ending x.outcome) (rels_of x.number (puts_of ts)) (gives x.item (due_at input script x)) (rels_stand v first x.number ts stand) h.0),
    values_more input script first s n ts us stand new xs l.1 h.1,
  )

-- ---- misses
pub nodes_push : (os : List Outcome) (o : Outcome) → nodes_in (os ++ o ∷ []) ≡ nodes_in os + one_for_nodes o
nodes_push [] o = ends (one_for_nodes o)
  where
    ends : (n : ℕ) → n + 0 ≡ 0 + n
    ends n = omega arith
nodes_push (x ∷ xs) o = sums (one_for_nodes x) (nodes_in (xs ++ o ∷ [])) (nodes_in xs) (one_for_nodes o) (nodes_push xs o)
  where
    sums : (a b c d : ℕ) → b ≡ c + d → a + b ≡ (a + c) + d
    sums a b c d e = omega arith

module _ (top old mid new n : ℕ) (rose : min (old + n) top ≤ mid) (kept : mid ≤ new) where
  stays : min (old + (n + 0)) top ≤ new
  stays = omega arith

  rises : min (mid + 1) top ≤ new → min (old + (n + 1)) top ≤ new
  rises h = omega arith

  -- one outcome more
  pub rose_more : (o : Outcome) → (o ≡ Nodes → min (mid + 1) top ≤ new) → min (old + (n + one_for_nodes o)) top ≤ new
  rose_more Done h = stays
  rose_more (Parse fault) h = stays
  rose_more (Ill fault) h = stays
  rose_more (Size at wanted limit) h = stays
  rose_more (Turns at limit) h = stays
  rose_more Nodes h = rises (h refl)
  rose_more (TooLarge wanted counted) h = stays
  rose_more (TooLong bits) h = stays
  rose_more (NoFile name) h = stays
  rose_more (BAD_FILE name kind) h = stays
  rose_more NoMemory h = stays
  rose_more (Changed name seen found) h = stays
