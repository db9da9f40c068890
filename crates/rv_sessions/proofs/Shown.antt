-- Values within a limit are due, and a refusal of the printer or of the writer is what is due of the others.
use Rattle.std.proofs.Common.{◌≡◌, ◌*◌, ◌<◌, ◌≤◌, ◌∙◌, ◌⊎◌, inl, inr, ℕ, true, false, cond, nat_lt, sym, ap, ap₂, subst, arith}
use Rattle.std.proofs.lemmas.Bool.Decides.{nat_tests}
use Rattle.rel_model.specs.Relation.{Relation}
use Rattle.run_model.specs.declared.outcome.Outcome.{Outcome}
use Rattle.run_model.specs.declared.outcome.Outcome.TheVariants.{TooLarge, TooLong, NoMemory as NO_MEMORY}
use Rattle.run_model.specs.declared.outcome.Unit.{Unit as COUNTED}
use Rattle.run_model.specs.declared.outcome.Unit.TheVariants.{Cells}
use Rattle.run_model.specs.Due.{Due, Late, Value, Refused, printed, within}
use Rattle.run_model.specs.Limits.{print_limit, save_limit}
use Rattle.rv_print.specs.declared.refused.PrintRefused.{PrintRefused}
use Rattle.rv_print.specs.declared.refused.PrintRefused.TheVariants.{TooLarge as TOO_LARGE, NoMemory as PRINT_NO_MEMORY}
use Rattle.rv_print.specs.Refusals.{IsOver}
use Rattle.k2_file.specs.declared.refused.WriteRefused.{WriteRefused}
use Rattle.k2_file.specs.declared.refused.WriteRefused.TheVariants.{TooLong as TOO_LONG, NoMemory as WRITE_NO_MEMORY}
use Rattle.k2_file.specs.Writing.{IsTooLong}
use Rattle.rv_sessions.specs.Valuing.{IsRefusal}
use Rattle.rv_sessions.specs.Told.{print_told, write_told}

passes : (limit n : ℕ) → limit < n → nat_lt limit n ≡ true
passes limit n h = grind (arith, nat_tests, h)

-- a value that passes a limit is due to be refused
over_due : (limit wanted : ℕ) (o : Outcome) (r : Relation) → limit < wanted → within limit wanted o r ≡ Refused Late o
over_due limit wanted o r h = ap (λ b. cond b (Refused Late o) (Value r)) (passes limit wanted h)

stays : (limit n : ℕ) → n ≤ limit → nat_lt limit n ≡ false
stays limit n h = grind (arith, nat_tests, h)

-- a value within a limit is due
pub within_due : (limit wanted : ℕ) (o : Outcome) (r : Relation) → wanted ≤ limit → within limit wanted o r ≡ Value r
within_due limit wanted o r h = ap (λ b. cond b (Refused Late o) (Value r)) (stays limit wanted h)

-- what is due of a matrix, by its sizes
pub printed_due : (r : Relation) (rows cols : ℕ) → r.rows ≡ rows → r.cols ≡ cols →
    printed r ≡ within print_limit (rows * cols) (TooLarge (rows * cols) Cells) r
printed_due r rows cols h k = ap₂ (λ m n. within print_limit (m * n) (TooLarge (m * n) Cells) r) h k

-- a refusal of the printer
pub print_due : (limit wanted : ℕ) (counted : COUNTED) (r : Relation) (d : Due) (o : Outcome) (refused : PrintRefused) → d ≡ within limit wanted (TooLarge wanted counted) r →
    IsOver limit wanted counted refused → o ≡ print_told refused → ((d ≡ Refused Late o) × IsRefusal o) ⊎ (o ≡ NO_MEMORY)
print_due limit wanted counted r d o (TOO_LARGE told unit) e h i =
    subst (λ x. ((d ≡ Refused Late x) × IsRefusal x) ⊎ (x ≡ NO_MEMORY)) (sym i)
    (inl (e ∙ over_due limit wanted (TooLarge wanted counted) r h.0 ∙ ap₂ (λ n u. Refused Late (TooLarge n u)) (sym h.1) (sym h.2), tt))
print_due limit wanted counted r d o PRINT_NO_MEMORY e h i = inr i

-- a refusal of the writer
pub write_due : (wanted : ℕ) (r : Relation) (d : Due) (o : Outcome) (refused : WriteRefused) → d ≡ within save_limit wanted (TooLong wanted) r →
    IsTooLong wanted refused → o ≡ write_told refused → ((d ≡ Refused Late o) × IsRefusal o) ⊎ (o ≡ NO_MEMORY)
write_due wanted r d o (TOO_LONG bits) e h i =
    subst (λ x. ((d ≡ Refused Late x) × IsRefusal x) ⊎ (x ≡ NO_MEMORY)) (sym i)
    (inl (e ∙ over_due save_limit wanted (TooLong wanted) r h.0 ∙ ap (λ n. Refused Late (TooLong n)) (sym h.1), tt))
write_due wanted r d o WRITE_NO_MEMORY e h i = inr i
