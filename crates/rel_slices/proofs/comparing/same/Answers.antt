use Rattle.std.proofs.Common.{◌≡◌, ◌<◌, ◌∙◌, ℕ, sym, subst, ap}
use Rattle.std.specs.Prelude.{◌↔◌, IsTrue}
use Rattle.rel_model.specs.Algebra.{HasType}
use Rattle.rel_slices.specs.declared.thin.Value.{Value}
use Rattle.rel_slices.specs.Thin.{line_of, line_set, thin_of, thin_rows, thin_cols, ValueStands, value_of, value_rows, value_cols, HasForm}
use Rattle.rel_slices.proofs.Valuing.{alike, lines_make, made_of_lines}
use Rattle.rel_slices.proofs.comparing.same.Goals as goal

pub returns-in-Lines-y-2 : goal.returns-in-Lines-y-2
returns-in-Lines-y-2 g c =
    let laws = g.met.C.Core in
    let core = c.args.core.now in
    let o = g.C.Core.worker core in
    let x = c.args.x.now in
    let y = c.args.y.now in
    let a = c.in-Lines.a in
    let b = c.in-Lines-y-2.b in
    let ex = c.in-Lines.is in
    let ey = c.in-Lines-y-2.is in
    let sa = subst (λ (v : Value). ValueStands o v) ex c.requires.left in
    let sb = subst (λ (v : Value). ValueStands o v) ey c.requires.right in
    let fa = subst (λ (v : Value). HasForm v) ex c.requires.left_form in
    let fb = subst (λ (v : Value). HasForm v) ey c.requires.right_form in
    let er : thin_rows a ≡ thin_rows b = sym (ap value_rows ex) ∙ c.requires.rows ∙ ap value_rows ey in
    let ec : thin_cols a ≡ thin_cols b = sym (ap value_cols ex) ∙ c.requires.cols ∙ ap value_cols ey in
    let k = alike a b sa.few sb.few fa fb er ec in
    let ta : (i : ℕ) → i < a.count → HasType 1 a.other (line_set o a i) = (λ i l. record { valid = laws.valid core (line_of a i) (sa.lines i l); row_size = laws.row_size core (line_of a i) (sa.lines i l); col_size = laws.col_size core (line_of a i) (sa.lines i l) }) in
    let tb : (i : ℕ) → i < a.count → HasType 1 a.other (line_set o b i) = (λ i l. let m : i < b.count = subst (λ (n : ℕ). i < n) k.1 l in subst (λ (n : ℕ). HasType 1 n (line_set o b i)) (sym k.2) (record { valid = laws.valid core (line_of b i) (sb.lines i m); row_size = laws.row_size core (line_of b i) (sb.lines i m); col_size = laws.col_size core (line_of b i) (sb.lines i m) })) in
    let q = c.lines_same.ensures in
    subst (λ (v : Value). IsTrue c.lines_same.result ↔ (value_of o v ≡ value_of o y)) (sym ex)
    (subst (λ (v : Value). IsTrue c.lines_same.result ↔ (thin_of o a ≡ value_of o v)) (sym ey)
    ((λ t. lines_make o a b k.0 k.1 k.2 (q.0 t)), (λ e. q.1 (made_of_lines o a b ta tb k.0 k.1 k.2 e))))
