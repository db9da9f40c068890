use Rattle.std.proofs.Common.{◌≡◌, length, map}
use Rattle.std.specs.List.{list_any}
use Rattle.relview.specs.Top.{is_no_memory}
use Rattle.relview.proofs.statuses.any_out.Given as goal

abbrev pub invariant-sessions : goal.invariant-sessions
invariant-sessions l = list_any (list_any is_no_memory) (map (λ v. v.items) l.fn.outcomes) ≡ list_any (list_any is_no_memory) (map (λ v. v.items) l.rest)

abbrev pub decreases-sessions : goal.decreases-sessions
decreases-sessions l = length l.rest
