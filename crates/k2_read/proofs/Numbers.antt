-- The quarters of a listed square, by its number.
use Rattle.std.proofs.Common.{◌≡◌, ◌≢◌, ◌<◌, ◌≤◌, ◌+◌, ◌-◌, ◌^◌, zero, suc, ℕ, List, length, refl, sym, ap, subst, ◌∙◌, inl, inr, arith}
use Rattle.std.proofs.lemmas.Option.{slice_get_within}
use Rattle.rel_model.specs.Trees.{quartered}
use Rattle.run_model.specs.SharedFiles.{Quadrant, quadrant_at, cells_told}
use Rattle.run_model.proofs.SharedCells.{IsNumber, quadrant-listed}

-- the four numbers of a square stand at a height
pub record AreNumbers (quads : List Quadrant) (h : ℕ) (q : Quadrant) : Type 0 where
  pub nw_is : IsNumber quads h q.nw
  pub ne_is : IsNumber quads h q.ne
  pub sw_is : IsNumber quads h q.sw
  pub se_is : IsNumber quads h q.se

module _ (quads : List Quadrant) where
  -- a number has a place among the listed ones, and those of no square and of the cell
  pub number-below : (h n : ℕ) → IsNumber quads h n → n < length quads + 2
  number-below zero n (inl e) = omega (arith, e)
  number-below zero n (inr e) = omega (arith, e)
  number-below (suc h) n (inl e) = omega (arith, e)
  number-below (suc h) n (inr x) = let l = slice_get_within quads x.0 x.1 x.3 in let e = x.2 in omega (arith, l, e)

  -- over the cells another number than 0 is listed
  pub number-listed : (h n : ℕ) → IsNumber quads h n → h ≢ 0 → n ≢ 0 → 2 ≤ n
  number-listed zero n is over some = absurd (over refl)
  number-listed (suc h) n (inl e) over some = absurd (some e)
  number-listed (suc h) n (inr x) over some = let e = x.2 in omega (arith, e)

  -- at the height of the cells another number than 0 is 1
  pub number-cell : (n : ℕ) → IsNumber quads 0 n → n ≢ 0 → n ≡ 1
  number-cell n (inl e) some = absurd (some e)
  number-cell n (inr e) some = e

  pub parts-numbers : (h n : ℕ) (q : Quadrant) → q ≡ quadrant_at quads n → IsNumber quads h n → h ≢ 0 → n ≢ 0 → AreNumbers quads (h - 1) q
  parts-numbers zero n q e is over some = absurd (over refl)
  parts-numbers (suc h) n q e (inl z) over some = absurd (some z)
  parts-numbers (suc h) n q e (inr (k, p, is, at, there, nw, ne, sw, se)) over some =
      let same : p ≡ q = sym (quadrant-listed quads k p at) ∙ (ap (quadrant_at quads) (sym is) ∙ sym e) in
      let down : h ≡ suc h - 1 = omega arith in
      subst (λ x. AreNumbers quads x q) down (subst (AreNumbers quads h) same (record { nw_is = nw; ne_is = ne; sw_is = sw; se_is = se }))

  pub parts-cells : (h n : ℕ) (q : Quadrant) → q ≡ quadrant_at quads n → h ≢ 0 →
      cells_told quads h n ≡ quartered (2 ^ (h - 1)) (cells_told quads (h - 1) q.nw) (cells_told quads (h - 1) q.ne) (cells_told quads (h - 1) q.sw) (cells_told quads (h - 1) q.se)
  parts-cells zero n q e over = absurd (over refl)
  parts-cells (suc h) n q e over =
      let down : h ≡ suc h - 1 = omega arith in
      subst (λ x. cells_told quads (suc h) n ≡ quartered (2 ^ x) (cells_told quads x q.nw) (cells_told quads x q.ne) (cells_told quads x q.sw) (cells_told quads x q.se)) down
      (ap (λ p. quartered (2 ^ h) (cells_told quads h p.nw) (cells_told quads h p.ne) (cells_told quads h p.sw) (cells_told quads h p.se)) (sym e))
