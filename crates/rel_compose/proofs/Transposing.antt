-- One step of the recursion: the transposed quarters, of which north-east and south-west change places, and their corner.
use Rattle.std.proofs.Common.{◌≡◌, ◌<◌, ◌+◌, ◌-◌, ltb, ℕ, refl, sym, ap, subst, ◌∙◌, arith}
use Rattle.std.proofs.Math.Bool.{and_comm}
use Rattle.rel_model.specs.declared.Quad.{Quad}
use Rattle.rel_model.specs.declared.Quarters.{Quarters}
use Rattle.rel_model.specs.Cells.{Cells, no_cells, cells_rect, cells_transpose}
use Rattle.rel_model.specs.Trees.{bottom_height, quartered}
use Rattle.rel_model.specs.Equations.{depth_of, side_of}
use Rattle.rel_model.specs.Quads.{Keeper, IsKeeper, quad_cells, QuadStands, IsQuad, KeepsQuads, ReadsQuads, AreQuarters}
use Rattle.rel_model.proofs.TreeLaws.{zero_stands, same_cells, Within}
use Rattle.rel_model.proofs.Composing.{cells_transpose-quartered}
use Rattle.rel_model.proofs.QuadLaws.{quad_stays, quad_cells-stay, empty_quad}
use Rattle.quad_nodes.proofs.Finding.{within_at}
use Rattle.quad_nodes.proofs.Making.{AreParts}
use Rattle.rel_compose.proofs.FourParts.{Aim, Plan, Stays, Four}

-- the empty quad stands at the height of any quad
pub none_stands : {w : Keeper} {a none : Quad} → none ≡ record { height = a.height; name = 0 } → QuadStands w a → QuadStands w none
none_stands {w} {a} {none} e s =
    let i : QuadStands w (record { height = a.height; name = 0 }) = record { low = s.low; high = s.high; standing = zero_stands w.view.words (depth_of a.height) } in
    subst (λ (q : Quad). QuadStands w q) (sym e) i

-- a quad named 0 is its own transposition
pub transposed_none : (w : Keeper) (a : Quad) → IsKeeper w → QuadStands w a → a.name ≡ 0 → IsQuad w a.height (cells_transpose (quad_cells w a)) a
transposed_none w a i s e =
    let z : quad_cells w a ≡ no_cells = (empty_quad w a.height a.name i s.low s.high e).means in
    record { same_height = refl; stands = s; means = z ∙ sym (ap (λ (c : Cells). cells_transpose c) z) }

-- the transposition of a quad's set
abbrev pub turned : Keeper → Quad → Cells
turned w a = cells_transpose (quad_cells w a)

-- a quad and its quarters, which were read first
pub record HasQuarters (s0 s2 : Keeper) (a : Quad) (fa : Quarters) : Type 0 where
  pub stands : QuadStands s0 a
  pub over : bottom_height < a.height
  pub four : AreQuarters s0 s2 a fa
  pub reads : ReadsQuads s0 s2

-- a transposed set lies within the same square
transpose-within : (m : ℕ) (f : Cells) → Within m m f → Within m m (cells_transpose f)
transpose-within m f a = record { row = λ i j e. a.col j i e; col = λ i j e. a.row j i e }

-- its transposed quarters are the quarters of its transposition
pub are_parts : {s0 s2 : Keeper} {a : Quad} {fa : Quarters} → HasQuarters s0 s2 a fa
    → AreParts s2 a.height (turned s0 a) (a.height - 1) (turned s2 fa.nw) (turned s2 fa.sw) (turned s2 fa.ne) (turned s2 fa.se)
are_parts {s0} {s2} {a} {fa} q =
    let p = q.four in
    let low = p.nw.low in
    let h0 = p.nw_height in
    let e : a.height - 1 ≡ fa.nw.height = omega arith in
    let within : (x : Quad) → x.height + 1 ≡ a.height → Within (side_of (a.height - 1)) (side_of (a.height - 1)) (turned s2 x) = λ x i. transpose-within (side_of (a.height - 1)) _ (within_at s2 (a.height - 1) x (omega arith)) in
    record {
      work = q.reads.keeps.after;
      low = omega arith;
      next = omega arith;
      within = record { nw = within fa.nw p.nw_height; ne = within fa.sw p.sw_height; sw = within fa.ne p.ne_height; se = within fa.se p.se_height };
      means = ap (λ (x : ℕ). quartered (side_of x) (turned s2 fa.nw) (turned s2 fa.sw) (turned s2 fa.ne) (turned s2 fa.se)) e
          ∙ sym (cells_transpose-quartered (side_of fa.nw.height) (quad_cells s2 fa.nw) (quad_cells s2 fa.ne) (quad_cells s2 fa.sw) (quad_cells s2 fa.se)) ∙ ap (λ (c : Cells). cells_transpose c) (sym p.means);
    }

-- the transposition after a call that keeps the quad
pub turned_stay : {m : ℕ} {v w : Keeper} {a : Quad} → KeepsQuads m v w → QuadStands v a → turned w a ≡ turned v a
turned_stay {m} {v} {w} {a} k s = ap (λ (c : Cells). cells_transpose c) (quad_cells-stay m v w a k s)

-- the transpositions of the quarters, of which north-east and south-west change places
abbrev turn : Quad → Aim
turn x = record { height = x.height; after = λ (w : Keeper). turned w x }

abbrev pub turns : Keeper → Quad → Quarters → Plan
turns s0 a fa = record { height = a.height; set = turned s0 a; nw = turn fa.nw; ne = turn fa.sw; sw = turn fa.ne; se = turn fa.se }

turn_stays : {u : Keeper} {k : ℕ} {x : Quad} → QuadStands u x → x.height + 1 ≡ k → Stays u (k - 1) (turn x)
turn_stays s e = record { height = omega arith; same = λ n v i. turned_stay i s }

pub four_turned : {s0 s2 : Keeper} {a : Quad} {fa : Quarters} → HasQuarters s0 s2 a fa → Four s2 (turns s0 a fa)
four_turned q = let f = q.four in record { parts = are_parts q; nw = turn_stays f.nw f.nw_height; ne = turn_stays f.sw f.sw_height; sw = turn_stays f.ne f.ne_height; se = turn_stays f.se f.se_height }

-- the result as an equation says it
pub transposed_now : (m : ℕ) (v w : Keeper) (a r : Quad) → KeepsQuads m v w → QuadStands v a → IsQuad w a.height (cells_transpose (quad_cells v a)) r → IsQuad w a.height (cells_transpose (quad_cells w a)) r
transposed_now m v w a r k s i = record { same_height = i.same_height; stands = i.stands; means = i.means ∙ ap (λ (c : Cells). cells_transpose c) (sym (quad_cells-stay m v w a k s)) }

-- a square with every cell is its own transposition
rect_transposed : (m : ℕ) → cells_transpose (cells_rect m m) ≡ cells_rect m m
rect_transposed m = same_cells _ _ (λ i j. and_comm (ltb j m) (ltb i m))

pub transposed_full : (v w : Keeper) (a : Quad) → ReadsQuads v w → QuadStands v a → quad_cells v a ≡ cells_rect (side_of a.height) (side_of a.height) → IsQuad w a.height (cells_transpose (quad_cells v a)) a
transposed_full v w a r s f = record { same_height = refl; stands = quad_stays 0 v w a r.keeps s; means = quad_cells-stay 0 v w a r.keeps s ∙ f ∙ sym (rect_transposed (side_of a.height)) ∙ ap (λ (c : Cells). cells_transpose c) (sym f) }
