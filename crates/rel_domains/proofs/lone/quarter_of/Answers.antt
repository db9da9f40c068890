use Rattle.std.proofs.Common.{◌≡◌, ◌≤◌, ◌<◌, ◌+◌, ◌*◌, ◌^◌, ◌/◌, ◌∙◌, sym, ap, subst, arith, ℕ}
use Rattle.std.proofs.lemmas.Nat.{pow-add, mul-pow, pow_pos}
use Rattle.rel_model.specs.Trees.{top_height}
use Rattle.rel_domains.proofs.Single.{quotient}
use Rattle.rel_domains.proofs.lone.quarter_of.Goals as goal

pub overflow_mul-result : goal.overflow_mul-result
unfolding top_height
overflow_mul-result c = let h = c.requires.high in omega arith

pub overflow_shr-result : goal.overflow_shr-result
unfolding top_height
overflow_shr-result c = let h = c.requires.high in omega arith

-- four to a height is two to twice the height
square : (h : ℕ) → 4 ^ h ≡ 2 ^ (2 * h)
square h = let k : 2 * h ≡ h + h = omega arith in mul-pow 2 2 h ∙ sym (pow-add 2 h h) ∙ sym (ap (λ n. 2 ^ n) k)

pub returns-clause-low : goal.returns-clause-low
returns-clause-low c = subst (λ n. c.args.place / 2 ^ (2 * c.args.height) * n ≤ c.args.place) (sym (square c.args.height)) (quotient c.args.place (2 ^ (2 * c.args.height)) (pow_pos (2 * c.args.height))).low

pub returns-clause-above : goal.returns-clause-above
returns-clause-above c = subst (λ n. c.args.place < c.args.place / 2 ^ (2 * c.args.height) * n + n) (sym (square c.args.height)) (quotient c.args.place (2 ^ (2 * c.args.height)) (pow_pos (2 * c.args.height))).above

pub returns-clause-four : goal.returns-clause-four
returns-clause-four c = (quotient c.args.place (2 ^ (2 * c.args.height)) (pow_pos (2 * c.args.height))).four (subst (λ n. c.args.place < 4 * n) (square c.args.height) c.requires.within)
