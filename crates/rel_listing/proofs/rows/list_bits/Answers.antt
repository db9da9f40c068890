use Rattle.std.proofs.Common.{◌≡◌, ◌≢◌, ◌+◌, ◌*◌, ◌/◌, ◌%◌, ◌^◌, ◌++◌, ◌∙◌, ℕ, [], ◌∷◌, sym, subst, arith, bit_and}
use Rattle.rel_listing.specs.Lists.{Adds}
use lib.Bits.{and_mask}
use Rattle.std.proofs.lemmas.Bool.{eq-eqb, ne_eqb}
use Rattle.rel_listing.proofs.RowSteps.{cells_none, cells_all, cell_none, cell_more, leaf_none, cell_bit, left_of, leaf}
use Rattle.rel_listing.proofs.rows.list_bits.Goals.{then-bits-side-eq1+in_ok-push, else-bits-side-eq1}
use Rattle.rel_listing.proofs.rows.list_bits.Goals as goal

pub returns-then-row_is_empty : goal.returns-then-row_is_empty
returns-then-row_is_empty c = leaf_none c.args.row c.args.i c.args.column c.args.side c.args.bits c.args.pairs.now.items (c.row_is_empty.ensures c.if-row_is_empty.true)

pub columns-init : goal.columns-init
columns-init c = cells_none c.args.row c.args.i c.args.column c.args.side c.args.bits c.args.pairs.now.items

pub columns-preserved : goal.columns-preserved
columns-preserved c =
    let a = c.args in
    let j = c.columns.j in
    let rest : ℕ = a.bits / 2 ^ (a.side * a.i + j) in
    let low : bit_and rest 1 ≡ rest % 2 = and_mask rest 1 in
    let cell = cell_bit a.side a.bits a.i j c.requires.within (omega (arith, c.columns-test.true)) in
    elim c.if-bits-side-eq1.branch [
      | then-bits-side-eq1+in_ok-push w ↦
          (let e : c.if-bits-side-eq1.pairs.items ≡ c.columns.pairs.items ++ (a.row + a.i, a.column + j) ∷ [] = grind (arith, w.pairs-is, w.in_ok-push.ensures.items) in
          let t : bit_and rest 1 ≡ 1 = w.if-bits-side-eq1.true in
          cell_more a.row a.i a.column a.side a.bits j (cell ∙ eq-eqb (rest % 2) 1 (sym low ∙ t)) e c.columns.invariant)
      | else-bits-side-eq1 w ↦
          (let e : c.columns.pairs.items ≡ c.if-bits-side-eq1.pairs.items = grind (arith, w.pairs-is) in
          let t : bit_and rest 1 ≢ 1 = w.if-bits-side-eq1.false in
          subst (λ zs. Adds (left_of (a.column + (j + 1)) (leaf a.row a.i a.column a.side a.bits)) a.pairs.now.items zs) e
          (cell_none a.row a.i a.column a.side a.bits j (cell ∙ ne_eqb (rest % 2) 1 (λ h. t (low ∙ h))) c.columns.invariant))
    ]

pub returns : goal.returns
returns c = cells_all c.args.row c.args.i c.args.column c.args.side c.args.bits c.columns.j (omega (arith, c.columns-test.false)) c.columns.invariant
