use Rattle.std.proofs.Common.{◌∙◌, ◌++◌, ◌∷◌, [], map, ap, sym, arith, append_assoc, ℕ}
use Rattle.std.specs.List.{range_with_len}
use Rattle.std.proofs.lemmas.List.FromFn.{map-range_with_len_more}
use Rattle.rel_plain.proofs.grid.push_row.Goals as goal

pub cols-preserved : goal.cols-preserved
cols-preserved c =
    let i = c.args.i in
    let j = c.cols.j in
    let old = c.args.out.now.items in
    c.in_ok-push.ensures.items ∙ ap (λ zs. zs ++ (i, j) ∷ []) c.cols.invariant
    ∙ append_assoc old (map (λ (k : ℕ). (i, k)) (range_with_len 0 j)) ((i, j) ∷ [])
    ∙ ap (λ zs. old ++ zs) (sym (map-range_with_len_more (λ (k : ℕ). (i, k)) 0 j j (omega arith)))
