use Rattle.std.proofs.Common.{◌≡◌, length, map}
use Rattle.std.specs.List.{list_all}
use Rattle.relview.specs.Top.{is_done}
use Rattle.relview.proofs.statuses.all_in.Given as goal

abbrev pub invariant-sessions : goal.invariant-sessions
invariant-sessions l = list_all (list_all is_done) (map (λ v. v.items) l.fn.outcomes) ≡ list_all (list_all is_done) (map (λ v. v.items) l.rest)

abbrev pub decreases-sessions : goal.decreases-sessions
decreases-sessions l = length l.rest
