-- Four calls that make the quarters of a set, one after the other, and the corner of what they made.
-- 1. What a call makes depends on the state before it; since quads stay, it is the same as before the first call.
-- 2. How far the calls came, after each of them, is `Underway`; a miss of one is a miss of all.
use Rattle.std.proofs.Common.{◌≡◌, ◌<◌, ◌+◌, ◌-◌, ℕ, [], ◌∷◌, Result, Ok, Err, IsErr, arith}
use Rattle.rel_model.specs.declared.Quad.{Quad}
use Rattle.rel_model.specs.Cells.{Cells}
use Rattle.rel_model.specs.Trees.{bottom_height}
use Rattle.rel_model.specs.Quads.{Keeper, KeepsQuads, ReadsQuads, quad_room}
use Rattle.rel_model.proofs.QuadLaws.{rooms-next}
use Rattle.quad_nodes.specs.Making.{MakesQuad}
use Rattle.quad_nodes.proofs.Finding.{corner_cells}
use Rattle.quad_nodes.proofs.Making.{AreParts, Underway, made_at, made_after, started, goes_on, stops, ends, nw_under, ne_under, sw_under, se_under, cornered}

-- what a call makes: a quad of a height, and the set it has if the call comes after a state
pub record Aim : Type 0 where
  pub height : ℕ
  pub after : Keeper → Cells

-- what four calls make, and the whole: a quad of a height and a set
pub record Plan : Type 0 where
  pub height : ℕ
  pub set : Cells
  pub nw : Aim
  pub ne : Aim
  pub sw : Aim
  pub se : Aim

abbrev pub Makes : {E : Type 0} → Aim → Keeper → Keeper → Result Quad E → Type 0
Makes x v w r = MakesQuad (quad_room x.height) x.height (x.after v) v w r

-- in each later state the call makes the same as in this one
pub record Stays (u : Keeper) (h : ℕ) (x : Aim) : Type 0 where
  pub height : x.height ≡ h
  pub same : (n : ℕ) (v : Keeper) → KeepsQuads n u v → x.after v ≡ x.after u

-- from this state on the four calls make the quarters of the whole
pub record Four (u : Keeper) (d : Plan) : Type 0 where
  pub parts : AreParts u d.height d.set (d.height - 1) (d.nw.after u) (d.ne.after u) (d.sw.after u) (d.se.after u)
  pub nw : Stays u (d.height - 1) d.nw
  pub ne : Stays u (d.height - 1) d.ne
  pub sw : Stays u (d.height - 1) d.sw
  pub se : Stays u (d.height - 1) d.se

part_made : {E : Type 0} {n h : ℕ} {x : Aim} {u v w : Keeper} {r : Result Quad E} → Stays u h x → KeepsQuads n u v → Makes x v w r → MakesQuad (quad_room h) h (x.after u) v w r
part_made {n = n} {v = v} p k s = made_at p.height (p.same n v k) s

-- ---- one, two, three and four quarters were made
one_made : {E : Type 0} {d : Plan} {u v : Keeper} {x : Quad} → Four u d → Makes {E = E} d.nw u v (Ok x)
    → Underway (0 + quad_room (d.height - 1)) d.height d.set (d.height - 1) ((x, d.nw.after u) ∷ []) u v
one_made q a = let s = started q.parts in goes_on s (nw_under q.parts) (part_made q.nw s.keeps a)

two_made : {E : Type 0} {d : Plan} {u v w : Keeper} {x y : Quad} → Four u d → Makes {E = E} d.nw u v (Ok x) → Makes {E = E} d.ne v w (Ok y)
    → let m : ℕ = quad_room (d.height - 1) in Underway (0 + m + m) d.height d.set (d.height - 1) ((y, d.ne.after u) ∷ (x, d.nw.after u) ∷ []) u w
two_made q a b = let s = one_made q a in goes_on s (ne_under q.parts) (part_made q.ne s.keeps b)

three_made : {E : Type 0} {d : Plan} {u v w z : Keeper} {x y i : Quad} → Four u d → Makes {E = E} d.nw u v (Ok x) → Makes {E = E} d.ne v w (Ok y) → Makes {E = E} d.sw w z (Ok i)
    → let m : ℕ = quad_room (d.height - 1) in Underway (0 + m + m + m) d.height d.set (d.height - 1) ((i, d.sw.after u) ∷ (y, d.ne.after u) ∷ (x, d.nw.after u) ∷ []) u z
three_made q a b c = let s = two_made q a b in goes_on s (sw_under q.parts) (part_made q.sw s.keeps c)

abbrev pub AllMade : Plan → Quad → Quad → Quad → Quad → Keeper → Keeper → Type 0
AllMade d nw ne sw se u v = let m : ℕ = quad_room (d.height - 1) in
    Underway (0 + m + m + m + m) d.height d.set (d.height - 1) ((se, d.se.after u) ∷ (sw, d.sw.after u) ∷ (ne, d.ne.after u) ∷ (nw, d.nw.after u) ∷ []) u v

pub all_made : {E : Type 0} {d : Plan} {u v w z t : Keeper} {x y m n : Quad} → Four u d → Makes {E = E} d.nw u v (Ok x) → Makes {E = E} d.ne v w (Ok y) → Makes {E = E} d.sw w z (Ok m) → Makes {E = E} d.se z t (Ok n)
    → AllMade d x y m n u t
all_made q a b c e = let s = three_made q a b c in goes_on s (se_under q.parts) (part_made q.se s.keeps e)

-- ---- a quarter was missed, and so is the whole
over : {u : Keeper} {d : Plan} → Four u d → bottom_height < d.height
over q = let l = q.parts.low in let n = q.parts.next in omega arith

pub first_fails : {D E : Type 0} {d : Plan} {s u v : Keeper} {e : E} → ReadsQuads s u → Four u d → (r : Result Quad D) → IsErr r → Makes {E = E} d.nw u v (Err e) → MakesQuad (quad_room d.height) d.height d.set s v r
first_fails {d = d} i q r f a = let k = rooms-next d.height (over q) in let s = started q.parts in made_after i (stops r f (omega (arith, k)) s (nw_under q.parts) (part_made q.nw s.keeps a))

pub second_fails : {D E : Type 0} {d : Plan} {s u v w : Keeper} {x : Quad} {e : E} → ReadsQuads s u → Four u d → (r : Result Quad D) → IsErr r → Makes {E = E} d.nw u v (Ok x) → Makes {E = E} d.ne v w (Err e)
    → MakesQuad (quad_room d.height) d.height d.set s w r
second_fails {d = d} i q r f a b = let k = rooms-next d.height (over q) in let s = one_made q a in made_after i (stops r f (omega (arith, k)) s (ne_under q.parts) (part_made q.ne s.keeps b))

pub third_fails : {D E : Type 0} {d : Plan} {s u v w z : Keeper} {x y : Quad} {e : E} → ReadsQuads s u → Four u d → (r : Result Quad D) → IsErr r → Makes {E = E} d.nw u v (Ok x) → Makes {E = E} d.ne v w (Ok y)
    → Makes {E = E} d.sw w z (Err e) → MakesQuad (quad_room d.height) d.height d.set s z r
third_fails {d = d} i q r f a b c = let k = rooms-next d.height (over q) in let s = two_made q a b in made_after i (stops r f (omega (arith, k)) s (sw_under q.parts) (part_made q.sw s.keeps c))

pub fourth_fails : {D E : Type 0} {d : Plan} {s u v w z t : Keeper} {x y m : Quad} {e : E} → ReadsQuads s u → Four u d → (r : Result Quad D) → IsErr r → Makes {E = E} d.nw u v (Ok x) → Makes {E = E} d.ne v w (Ok y)
    → Makes {E = E} d.sw w z (Ok m) → Makes {E = E} d.se z t (Err e) → MakesQuad (quad_room d.height) d.height d.set s t r
fourth_fails {d = d} i q r f a b c g = let k = rooms-next d.height (over q) in let s = three_made q a b c in made_after i (stops r f (omega (arith, k)) s (se_under q.parts) (part_made q.se s.keeps g))

-- ---- the corner of the four is the whole
pub whole_made : {E : Type 0} {d : Plan} {s u v w : Keeper} {nw ne sw se : Quad} {r : Result Quad E} → ReadsQuads s u → Four u d → AllMade d nw ne sw se u v
    → MakesQuad 3 (nw.height + 1) (corner_cells v nw ne sw se) v w r → MakesQuad (quad_room d.height) d.height d.set s w r
whole_made {d = d} i q t x = let k = rooms-next d.height (over q) in made_after i (ends (omega (arith, k)) t (cornered q.parts t x))
