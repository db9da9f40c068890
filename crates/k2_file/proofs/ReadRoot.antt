-- The root of a file: from where its levels begin, the pairs below are the file's.
use Rattle.std.proofs.Common.{◌≡◌, ◌==◌, ◌&&◌, ◌-◌, ◌^◌, ◌<◌, ◌≤◌, ltb, ℕ, zero, suc, Bool, true, false, cond, inl, inr, Some, List, [], ◌∷◌, length, take, refl, sym, ap, ◌∙◌, subst, arith}
use Rattle.std.proofs.lemmas.Bool.{and_parts, lt-ltb, or_cases, eqb-true, false≢true}
use Rattle.rel_model.specs.declared.Quad.{Quad}
use Rattle.rel_model.specs.declared.Rel.{Rel}
use Rattle.rel_model.specs.Cells.{Cells}
use Rattle.rel_model.specs.Listed.{is_among, AreWithin}
use Rattle.rel_model.specs.Quarters.{LiesWithin}
use Rattle.rel_model.specs.Relation.{relation_of, size_limit}
use Rattle.rel_model.specs.Roots.{height_over}
use Rattle.rel_model.specs.Worker.{Worker, Gives, GivesQuad, quad_set}
use Rattle.rel_model.proofs.Heights.{height_over-rows, height_over-cols}
use Rattle.rel_model.proofs.Relations.{relation_of-agree}
use Rattle.run_model.specs.Files.{Corner, whole, chosen, cells_below, levels_fit, number_of_bit}
use Rattle.k2_file.specs.declared.root.Form.{Form}
use Rattle.k2_file.specs.Told.{bits_in, groups_of}
use Rattle.k2_file.specs.Form.{pairs_in, IsWhole}
use Rattle.k2_file.specs.Rests.{pairs_below, count_below, AreThere, cells_of_part, cells_inside, rests_at, starts_of}
use Rattle.k2_file.proofs.ReadBits.{length-told}
use Rattle.k2_file.proofs.ReadWalk.{length-whole}
use Rattle.k2_file.proofs.ReadRests.{length-pairs}
use Rattle.k2_file.proofs.ReadStarts.{starts-pairs, starts-there}
use Rattle.rel_steps.proofs.Given.{gives_quad_set}

one-or-none : (n : ℕ) → n ≤ 1 → number_of_bit (n == 1) ≡ n
one-or-none zero l = refl
one-or-none (suc zero) l = refl
one-or-none (suc (suc n)) l = absurd (omega (arith, l))

whole-or-none : (n : ℕ) → n ≤ 1 → cond (n == 1) whole [] ≡ take n whole
whole-or-none zero l = refl
whole-or-none (suc zero) l = refl
whole-or-none (suc (suc n)) l = absurd (omega (arith, l))

-- a set bit chooses the whole matrix, and otherwise there is none
length-part : (b : Bool) → length (cond {A = List Corner} b whole []) ≡ number_of_bit b
length-part true = refl
length-part false = refl

module _ (form : Form) (w : IsWhole form) (n : ℕ) (few : n ≤ 1) (groups : n ≡ groups_of form.header.tree_count form.header.cell_count) (used : List ℕ)
    (starts : used ≡ starts_of (form.header.height - 1) n 0 (bits_in form.parts.tree)) where
  abbrev T : List Bool
  T = bits_in form.parts.tree

  abbrev L : List Bool
  L = bits_in form.parts.cells

  abbrev rests : List (List Bool)
  rests = rests_at T L used

  pub root-there : AreThere (number_of_bit (n == 1)) rests
  root-there =
      let k = form.header.height - 1 in
      let many : length L ≡ form.header.cell_count = length-told form.parts.cells.count form.parts.cells.bytes.now form.parts.cells.fits ∙ w.cells in
      let fit : levels_fit k n T (length L) ≡ true = ap (levels_fit k n T) many ∙ ap (λ (m : ℕ). levels_fit k m T form.header.cell_count) groups ∙ w.fit in
      subst (λ (m : ℕ). AreThere m rests) (sym (one-or-none n few))
      (subst (λ ps. AreThere n (rests_at T L ps)) (sym starts) (starts-there T L k n 0 w.groups (omega arith) fit))

  pub root-pairs : pairs_below (cond (n == 1) whole []) rests ≡ pairs_in form
  root-pairs =
      let k = form.header.height - 1 in
      let ps = take n whole in
      ap (λ qs. pairs_below qs rests) (whole-or-none n few) ∙ ap (λ us. pairs_below ps (rests_at T L us)) (starts ∙ ap (λ (m : ℕ). starts_of k m 0 T) (sym (length-whole n few)))
      ∙ starts-pairs T L k 0 ps ∙ ap (λ (m : ℕ). pairs_of m) groups
    where
      pairs_of : ℕ → List Corner
      pairs_of m = chosen (cells_below (form.header.height - 1) (take m whole) T) L

  pub root-count : count_below (number_of_bit (n == 1)) rests ≡ length (pairs_in form)
  root-count =
      ap (λ (m : ℕ). count_below m rests) (sym (length-part (n == 1))) ∙ sym (length-pairs (cond (n == 1) whole []) rests) ∙ ap length root-pairs

  pub root-cells : (side : ℕ) → cells_inside side (cells_of_part (n == 1) rests) ≡ cells_inside side (is_among (pairs_in form))
  root-cells side = ap (λ ps. cells_inside side (is_among ps)) root-pairs

-- ---- the relation of these cells
record IsListed (rows cols i j : ℕ) : Type 0 where
  row : i < rows
  col : j < cols

among-listed : (rows cols : ℕ) (ps : List Corner) (i j : ℕ) → AreWithin rows cols ps → is_among ps i j ≡ true → IsListed rows cols i j
among-listed rows cols [] i j h t = absurd (false≢true t)
among-listed rows cols (p ∷ ps) i j h t = elim (or_cases ((p.0 == i) && (p.1 == j)) (is_among ps i j) t) [
  | inl e ↦ (let q = and_parts (p.0 == i) (p.1 == j) e in
      let r = eqb-true p.0 i q.0 in
      let s = eqb-true p.1 j q.1 in
      let x = h.0.0 in
      let y = h.0.1 in
      record { row = omega (arith, r, x); col = omega (arith, s, y) })
  | inr e ↦ among-listed rows cols ps i j h.1 e
]

pub lies-listed : (w : Worker) (height side rows cols : ℕ) (ps : List Corner) (f : Cells) (q : Quad) → GivesQuad w height f q → f ≡ cells_inside side (is_among ps) → AreWithin rows cols ps
    → LiesWithin rows cols (quad_set w q)
lies-listed w height side rows cols ps f q g e h = subst (LiesWithin rows cols) (sym (gives_quad_set w height f q g ∙ e)) (record {
  row = λ i j t. (own i j t).row;
  col = λ i j t. (own i j t).col;
})
  where
    own : (i j : ℕ) → cells_inside side (is_among ps) i j ≡ true → IsListed rows cols i j
    own i j t = among-listed rows cols ps i j h (and_parts (ltb j side) (is_among ps i j) (and_parts (ltb i side) (ltb j side && is_among ps i j) t).1).1

-- a quad with the cells of the listed pairs gives their relation: all places within the sizes lie in its square
pub gives-listed : (w : Worker) (least rows cols : ℕ) (ps : List Corner) (f : Cells) (q : Quad) (rel : Rel) → rows ≤ size_limit → cols ≤ size_limit
    → GivesQuad w (height_over least rows cols) f q → f ≡ cells_inside (2 ^ height_over least rows cols) (is_among ps)
    → Gives w rows cols (relation_of rows cols (quad_set w q)) rel → Gives w rows cols (relation_of rows cols (is_among ps)) rel
gives-listed w least rows cols ps f q rel a b g e r =
    let side = 2 ^ height_over least rows cols in
    record {
      means = r.means ∙ ap Some (ap (relation_of rows cols) (gives_quad_set w (height_over least rows cols) f q g ∙ e)
          ∙ relation_of-agree rows cols (cells_inside side (is_among ps)) (is_among ps) (λ i j x y. both (ltb i side) (ltb j side) (is_among ps i j)
          (lt-ltb i side (let l = height_over-rows least rows cols a in omega (arith, l, x))) (lt-ltb j side (let l = height_over-cols least rows cols b in omega (arith, l, y)))));
      row_size = r.row_size;
      col_size = r.col_size;
    }
  where
    both : (s t b : Bool) → s ≡ true → t ≡ true → (s && (t && b)) ≡ b
    both s t b p q = rw (p, q) refl
