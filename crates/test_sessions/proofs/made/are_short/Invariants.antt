use Rattle.std.proofs.Common.{◌≤◌, ◌^◌, length}
use Rattle.std.specs.List.{AllWithin}
use Rattle.test_sessions.proofs.made.are_short.Given as goal

abbrev pub invariant-scripts : goal.invariant-scripts
invariant-scripts l = AllWithin (λ v. length v.items ≤ 2 ^ 20) l.fn.scripts 0 l.i
