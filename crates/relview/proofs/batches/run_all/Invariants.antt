use Rattle.std.proofs.Common.{◌≡◌, ◌+◌, ◌++◌, ℕ, List, length, map}
use Rattle.std.specs.Prelude.{◌≤◌, All}
use Rattle.lang_model.specs.Limits.{script_limit}
use Rattle.run_model.specs.Inputs.{Rise}
use Rattle.relview.specs.Batches.{IsSoFar}
use Rattle.relview.proofs.batches.run_all.Given as goal

abbrev pub invariant-batches : goal.invariant-batches
invariant-batches g l = record {
  scripts : List (List ℕ);
  places : List ℕ;
  so_far : IsSoFar l.fn.options.nodes l.fn.files l.fn.options.turns scripts places l.so_far;
  count : l.done ≡ length scripts;
  both : scripts ++ map (λ v. v.items) l.left ≡ map (λ v. v.items) l.fn.scripts;
  all : places ++ l.rest ≡ l.fn.ends;
  rise : Rise l.done (l.done + length l.left) l.rest;
  limits : All (λ v. length v.items ≤ script_limit) l.left;
}

abbrev pub decreases-batches : goal.decreases-batches
decreases-batches g l = length l.rest
