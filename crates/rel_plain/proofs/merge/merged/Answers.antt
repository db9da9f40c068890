use Rattle.std.proofs.Common.{◌≡◌, ◌-◌, ◌⊎◌, length, drop, take, length-drop, sym, ap, subst, ◌∙◌, inl, inr, arith, ℕ, cond, [], ◌++◌}
use Rattle.std.proofs.lemmas.Grind.{common_steps}
use Rattle.rel_plain.specs.Merge.{IsMerge}
use Rattle.rel_plain.proofs.Merging.{merge, merged_all, IsMerge-merge}
use Rattle.rel_plain.proofs.merge.merged.Goals as goal
use Rattle.rel_plain.proofs.merge.merged.Goals.{then-pairs-test+else-j-ys, else-pairs-test}

pub returns : goal.returns
returns c =
    let at_end : (length (drop c.pairs.i c.args.xs.now) ≡ 0) ⊎ (length (drop c.pairs.j c.args.ys.now) ≡ 0) =
    elim c.pairs-test.branch [
      | then-pairs-test+else-j-ys w ↦ inr (omega (arith, length-drop {A = ℕ × ℕ}))
      | else-pairs-test w ↦ inl (omega (arith, length-drop {A = ℕ × ℕ}))
    ] in
    let part = c.args.part in
    let xs = c.args.xs.now in
    let ys = c.args.ys.now in
    let rest_x : take (length xs - c.pairs.i) (drop c.pairs.i xs) ≡ drop c.pairs.i xs = grind (arith, common_steps) in
    let rest_y : take (length ys - c.pairs.j) (drop c.pairs.j ys) ≡ drop c.pairs.j ys = grind (arith, common_steps) in
    let whole : c.extend_if-2.new.out.items ≡ merge part xs ys =
    c.in_ok-extend_if-2.ensures
    ∙ ap (λ zs. c.extend_if.new.out.items ++ cond part.right zs []) rest_y
    ∙ ap (λ zs. zs ++ cond part.right (drop c.pairs.j ys) []) (c.in_ok-extend_if.ensures ∙ ap (λ zs. c.pairs.out.items ++ cond part.left zs []) rest_x)
    ∙ merged_all part xs ys c.pairs.out.items (drop c.pairs.i xs) (drop c.pairs.j ys) _ at_end c.pairs.invariant.so_far in
    subst (IsMerge part xs ys) (sym whole) (IsMerge-merge part xs ys c.requires.left c.requires.right)
