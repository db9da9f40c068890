use Rattle.std.proofs.Common.{◌≡◌, ◌^◌, ℕ, sym, subst, arith}
use Rattle.rel_model.specs.Cells.{bits_cells}
use Rattle.rel_choice.specs.Steps.{step_cells}
use Rattle.rel_choice.proofs.StepCells.{steps-4, steps-8}
use Rattle.rel_choice.proofs.stepping.step_bits.Goals as goal

pub returns-in-2-clause-cells : goal.returns-in-2-clause-cells
returns-in-2-clause-cells c = let e : c.args.bottom ≡ 2 = omega arith in subst (λ (b : ℕ). bits_cells (2 ^ b) 16912 ≡ step_cells (2 ^ b)) (sym e) steps-4

pub returns-in_default-clause-cells : goal.returns-in_default-clause-cells
returns-in_default-clause-cells c = let e : c.args.bottom ≡ 3 = omega arith in subst (λ (b : ℕ). bits_cells (2 ^ b) 4620710844295151872 ≡ step_cells (2 ^ b)) (sym e) steps-8
