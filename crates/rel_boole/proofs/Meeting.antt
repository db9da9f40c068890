-- Whether two quads have a cell in common.
-- 1. A quad has no cell exactly where its name is 0, since one set has one name; a block, where its word is 0.
-- 2. So where the intersection has a name, by a cut or a note, its name says whether the quads meet.
-- 3. Else four sets within their squares are empty exactly where the set of which they are the quarters is.
use Rattle.std.proofs.Common.{◌≡◌, ◌≢◌, ◌<◌, ◌↔◌, ◌^◌, eqb, ltb, not, ℕ, Bool, true, false, refl, sym, ap, ◌∙◌, inl, inr, arith}
use Rattle.std.proofs.lemmas.Bool.{cases_Bool, false≢true, eqb-true, eq-eqb}
use Rattle.rel_model.specs.declared.Quad.{Quad}
use Rattle.rel_model.specs.declared.Quarters.{Quarters}
use Rattle.rel_model.specs.Cells.{Cells, no_cells, block_cells}
use Rattle.rel_model.specs.Trees.{quartered}
use Rattle.rel_model.specs.Equations.{depth_of, side_of}
use Rattle.rel_model.specs.Quads.{Keeper, IsKeeper, quad_cells, QuadStands, IsQuad, KeepsQuads, ReadsQuads}
use Rattle.rel_model.proofs.TreeLaws.{same_cells, zero_cells, zero_stands, one_set_one_name, Within}
use Rattle.rel_model.proofs.QuadLaws.{keeps_on}
use Rattle.leaf_block.proofs.Sets.{same_block, block_cells-zero}
use Rattle.quad_nodes.proofs.Finding.{AreSame, quartered_parts}
use Rattle.quad_nodes.proofs.Making.{AreParts}
use Rattle.rel_boole.specs.declared.boole.Boole.TheVariants.{Inter as INTER}
use Rattle.rel_boole.proofs.Cutting.{no_quad, named_0}
use Rattle.rel_boole.proofs.Combining.{HaveQuarters, StandBelow, part, are_parts, operands_stay, ne_stand, sw_stand, se_stand}

-- whether a set is empty, as a call tells it
abbrev pub Tells : Bool → Cells → Type 0
Tells t f = (t ≡ false) ↔ (f ≡ no_cells)

-- a quad with no cell is named 0
pub none_named : (w : Keeper) (q : Quad) → IsKeeper w → QuadStands w q → quad_cells w q ≡ no_cells → q.name ≡ 0
none_named w q i s e = one_set_one_name w.view.words i.of.canonical (depth_of q.height) q.name 0 s.standing (zero_stands w.view.words (depth_of q.height)) (e ∙ sym (zero_cells w.view.words i.of.canonical.none_at_0 (depth_of q.height)))

not_0 : (n : ℕ) → not (eqb n 0) ≡ false → n ≡ 0
not_0 n e = elim (cases_Bool (eqb n 0)) [ inl a ↦ eqb-true n 0 a | inr a ↦ absurd (false≢true (sym e ∙ ap not a)) ]

is_0 : (n : ℕ) → n ≡ 0 → not (eqb n 0) ≡ false
is_0 n e = ap not (eq-eqb n 0 e)

-- the name of the intersection tells whether it is empty
pub told_by_name : {w : Keeper} {h : ℕ} {f : Cells} {q : Quad} {t : Bool} → IsKeeper w → IsQuad w h f q → (t ≡ true → q.name ≡ 0) → (t ≡ false → q.name ≢ 0) → Tells (not t) f
told_by_name {w} {h} {f} {q} {t} i s empty filled = elim (cases_Bool t) [
  | inl a ↦ ((λ e. sym s.means ∙ named_0 w q i s.stands (empty a)), (λ e. ap not a))
  | inr a ↦ ((λ e. absurd (false≢true (sym e ∙ ap not a))), (λ e. absurd (filled a (none_named w q i s.stands (s.means ∙ e)))))
]

-- so does the word of the common block
pub told_by_word : {f : Cells} {bits : ℕ} → bits < 2 ^ 64 → block_cells bits ≡ f → Tells (not (eqb bits 0)) f
told_by_word {f} {bits} l e = (
  (λ z. sym e ∙ ap block_cells (not_0 bits z) ∙ block_cells-zero),
  (λ z. is_0 bits (same_block bits 0 l (omega arith) (e ∙ z ∙ sym block_cells-zero))),
)

-- the same set in other words
pub tells_as : {t : Bool} {f g : Cells} → f ≡ g → Tells t f → Tells t g
tells_as e s = ((λ z. sym e ∙ s.0 z), (λ z. s.1 (e ∙ z)))

-- ---- quarters
quartered_none : (m : ℕ) → quartered m no_cells no_cells no_cells no_cells ≡ no_cells
quartered_none m = same_cells _ _ (λ i j. elim (cases_Bool (ltb i m)) [
  | inl a ↦ elim (cases_Bool (ltb j m)) [ inl b ↦ rw (a, b) refl | inr b ↦ rw (a, b) refl ]
  | inr a ↦ elim (cases_Bool (ltb j m)) [ inl b ↦ rw (a, b) refl | inr b ↦ rw (a, b) refl ]
])

none_within : (m : ℕ) → Within m m no_cells
none_within m = record { row = λ i j e. absurd (false≢true e); col = λ i j e. absurd (false≢true e) }

-- a call told of a later state tells of the first
pub told_before : {m h : ℕ} {v w : Keeper} {a b : Quad} {t : Bool} → KeepsQuads m v w → StandBelow v h a b → Tells t (part INTER w a b) → Tells t (part INTER v a b)
told_before k s x = tells_as (operands_stay INTER k s.a_stands s.b_stands) x

-- where the square has no cell, no quarter has one
pub quarters_none : {w : Keeper} {k h : ℕ} {f f0 f1 f2 f3 : Cells} → AreParts w k f h f0 f1 f2 f3 → f ≡ no_cells → AreSame f0 f1 f2 f3 no_cells no_cells no_cells no_cells
quarters_none {h = h} {f0 = f0} {f1 = f1} {f2 = f2} {f3 = f3} p e =
    let n = none_within (side_of h) in
    quartered_parts (side_of h) f0 f1 f2 f3 no_cells no_cells no_cells no_cells p.within (record { nw = n; ne = n; sw = n; se = n }) (p.means ∙ e ∙ sym (quartered_none (side_of h)))

-- where no quarter has a cell, the square has none
pub square_none : {w : Keeper} {k h : ℕ} {f f0 f1 f2 f3 : Cells} → AreParts w k f h f0 f1 f2 f3 → f0 ≡ no_cells → f1 ≡ no_cells → f2 ≡ no_cells → f3 ≡ no_cells → f ≡ no_cells
square_none {h = h} {f0 = f0} {f1 = f1} {f2 = f2} {f3 = f3} p e0 e1 e2 e3 =
    sym p.means
    ∙ ap (λ (c : Cells). quartered (side_of h) c f1 f2 f3) e0
    ∙ ap (λ (c : Cells). quartered (side_of h) no_cells c f2 f3) e1
    ∙ ap (λ (c : Cells). quartered (side_of h) no_cells no_cells c f3) e2
    ∙ ap (λ (c : Cells). quartered (side_of h) no_cells no_cells no_cells c) e3 ∙ quartered_none (side_of h)

-- a quarter that meets is one of a square that does
pub met : {t : Bool} {f g : Cells} → t ≡ true → Tells t g → (f ≡ no_cells → g ≡ no_cells) → Tells true f
met e s h = ((λ z. absurd (false≢true (sym z))), (λ z. absurd (false≢true (sym (s.1 (h z)) ∙ e))))

-- where no two quarters meet, each told of its own state, the squares do not
pub none_met : {s0 s2 v1 v2 v3 : Keeper} {a b : Quad} {fa fb : Quarters} {t0 t1 t2 t3 : Bool} → HaveQuarters s0 s2 a b fa fb → ReadsQuads s2 v1 → ReadsQuads v1 v2 → ReadsQuads v2 v3
    → Tells t0 (part INTER s2 fa.nw fb.nw) → Tells t1 (part INTER v1 fa.ne fb.ne) → Tells t2 (part INTER v2 fa.sw fb.sw) → Tells t3 (part INTER v3 fa.se fb.se) → t0 ≡ false → t1 ≡ false → t2 ≡ false → t3 ≡ false
    → part INTER s0 a b ≡ no_cells
none_met {s0} {s2} {v1} {v2} {v3} q r1 r2 r3 x0 x1 x2 x3 e0 e1 e2 e3 =
    let k2 = keeps_on 0 0 s2 v1 v2 r1.keeps r2.keeps in
    let k3 = keeps_on 0 0 s2 v2 v3 k2 r3.keeps in
    square_none (are_parts INTER q) (x0.0 e0) ((told_before r1.keeps (ne_stand q) x1).0 e1) ((told_before k2 (sw_stand q) x2).0 e2) ((told_before k3 (se_stand q) x3).0 e3)

-- that the intersection is empty may be noted later
pub none_noted : {m : ℕ} {v w : Keeper} {a b none : Quad} → none ≡ record { height = a.height; name = 0 } → KeepsQuads m v w → QuadStands v a → QuadStands v b → part INTER v a b ≡ no_cells → IsQuad w a.height (part INTER w a b) none
none_noted {m} {v} {w} {a} {b} {none} z k s t e =
    let n = no_quad w a.height none z k.after s.low s.high in
    record { same_height = n.same_height; stands = n.stands; means = n.means ∙ sym (operands_stay INTER k s t ∙ e) }
