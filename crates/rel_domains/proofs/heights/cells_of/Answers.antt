use Rattle.std.proofs.Common.{◌≡◌, ◌≤◌, ◌+◌, ◌*◌, ◌^◌, ◌%◌, ◌∙◌, sym, ap, arith}
use Rattle.std.proofs.Math.Pow.{pow_mono}
use Rattle.std.proofs.lemmas.Nat.{pow-add, mul-pow}
use Rattle.rel_model.specs.Trees.{top_height}
use Rattle.rel_domains.proofs.heights.cells_of.Goals as goal

pub overflow_mul-result : goal.overflow_mul-result
unfolding top_height
overflow_mul-result c = let h = c.requires in omega arith

pub overflow_shl-result : goal.overflow_shl-result
unfolding top_height
overflow_shl-result c = let h = c.requires in omega arith

pub returns-clause-value : goal.returns-clause-value
unfolding top_height
returns-clause-value c =
    let h = c.args.height in
    let r = c.requires in
    let k : 2 * h ≡ h + h = omega arith in
    let p : 2 ^ (2 * h) ≤ 2 ^ 48 = pow_mono {i = 2 * h} {j = 48} (omega arith) in
    let e : 1 * 2 ^ (2 * h) % 18446744073709551616 ≡ 2 ^ (2 * h) = omega (arith, p) in
    e ∙ ap (λ n. 2 ^ n) k ∙ pow-add 2 h h ∙ sym (mul-pow 2 2 h)

pub returns-clause-limit : goal.returns-clause-limit
unfolding top_height
returns-clause-limit c =
    let h = c.args.height in
    let r = c.requires in
    let p : 2 ^ (2 * h) ≤ 2 ^ 48 = pow_mono {i = 2 * h} {j = 48} (omega arith) in
    omega (arith, p)
