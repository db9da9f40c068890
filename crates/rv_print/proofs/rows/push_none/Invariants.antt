use Rattle.std.proofs.Common.{◌≡◌, ◌++◌, false}
use Rattle.rv_print.specs.Marks.{marks}
use Rattle.rv_print.proofs.rows.push_none.Given as goal

abbrev pub invariant-cells : goal.invariant-cells
invariant-cells l = l.out.items ≡ l.fn.out.items ++ marks (λ j. false) l.counter
