use Rattle.std.proofs.Common.{◌≡◌, ◌^◌, ℕ, sym, subst, arith}
use Rattle.rel_model.specs.Cells.{bits_cells}
use Rattle.rel_choice.specs.Steps.{carry_cells}
use Rattle.rel_choice.proofs.StepCells.{carry-4, carry-8}
use Rattle.rel_choice.proofs.stepping.carry_bits.Goals as goal

pub returns-in-2-clause-cells : goal.returns-in-2-clause-cells
returns-in-2-clause-cells c = let e : c.args.bottom ≡ 2 = omega arith in subst (λ (b : ℕ). bits_cells (2 ^ b) 8 ≡ carry_cells (2 ^ b)) (sym e) carry-4

pub returns-in_default-clause-cells : goal.returns-in_default-clause-cells
returns-in_default-clause-cells c = let e : c.args.bottom ≡ 3 = omega arith in subst (λ (b : ℕ). bits_cells (2 ^ b) 128 ≡ carry_cells (2 ^ b)) (sym e) carry-8
