use Rattle.std.proofs.Common.{◌≡◌, ◌++◌, length, take}
use Rattle.rv_print.proofs.Explained.{first_line, lines}
use Rattle.rv_print.proofs.steps.steps_text.Given as goal

abbrev pub invariant-steps : goal.invariant-steps
invariant-steps l = l.out.items ≡ first_line (length l.steps) ++ lines (take l.step-index l.steps)
