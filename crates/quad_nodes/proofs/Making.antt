-- Calls that make quads one after the other: what the first ones made and kept, and what they make together.
use Rattle.std.proofs.Common.{◌≡◌, ◌≤◌, ◌+◌, ℕ, List, [], ◌∷◌, Result, Ok, Err, IsErr, refl, sym, ap, subst, ◌∙◌, arith}
use Rattle.std.proofs.lemmas.Bool.{true≢false}
use Rattle.rel_model.specs.declared.Quad.{Quad}
use Rattle.rel_model.specs.Cells.{Cells}
use Rattle.rel_model.specs.Trees.{bottom_height, quartered}
use Rattle.rel_model.specs.Equations.{side_of}
use Rattle.rel_model.specs.Quads.{Keeper, IsKeeper, quad_cells, IsQuad, KeepsQuads, ReadsQuads, one_more_miss, quad_room}
use Rattle.rel_model.proofs.QuadLaws.{keeps_on, keeps_most, reads_itself, reads_on, counts_on, is_quad-stays}
use Rattle.quad_nodes.specs.Making.{MakesQuad, MakesBoth}
use Rattle.quad_nodes.proofs.Finding.{AreWithin, QuartersStood, quarters_stood, corner_cells, found_is, found_later, both_found, not_missed}

-- ---- one call
-- the same under an equal height and set
pub made_as : {E : Type 0} {m h k : ℕ} {f g : Cells} {v w : Keeper} {r : Result Quad E} → h ≡ k → f ≡ g → MakesQuad m h f v w r → MakesQuad m k g v w r
made_as {E} {m} {h} {k} {f} {g} {v} {w} {r} e d s = subst (λ (x : ℕ). MakesQuad m x g v w r) e (subst (λ (c : Cells). MakesQuad m h c v w r) d s)

-- the same under an equal height, whose room it has, and an equal set
pub made_at : {E : Type 0} {h k : ℕ} {f g : Cells} {v w : Keeper} {r : Result Quad E} → h ≡ k → f ≡ g → MakesQuad (quad_room h) h f v w r → MakesQuad (quad_room k) k g v w r
made_at {E} {h} {k} {f} {g} {v} {w} {r} e d s = subst (λ (x : ℕ). MakesQuad (quad_room x) x g v w r) e (subst (λ (c : Cells). MakesQuad (quad_room h) h c v w r) d s)

-- the same within more room
pub made_within : {E : Type 0} {m n h : ℕ} {f : Cells} {v w : Keeper} {r : Result Quad E} → m ≤ n → MakesQuad m h f v w r → MakesQuad n h f v w r
made_within {E} {m} {n} {h} {f} {v} {w} l s = record { value = s.value; stood = s.stood; keeps = keeps_most m n v w l s.keeps; counts = s.counts }

-- a quad that stands is made by reading
pub made_is : {E : Type 0} {m h : ℕ} {f : Cells} {v w : Keeper} {p : Quad} → ReadsQuads v w → IsQuad w h f p → MakesQuad {E = E} m h f v w (Ok p)
made_is {E} {m} {h} {f} {v} {w} {p} r s = record {
  value = s;
  stood = found_is {E = E} v w h f p r s;
  keeps = keeps_most 0 m v w (omega arith) r.keeps;
  counts = r.misses;
}

-- a call that makes a quad, after one that reads
pub made_after : {E : Type 0} {m h : ℕ} {f : Cells} {u v w : Keeper} {r : Result Quad E} → ReadsQuads u v → MakesQuad m h f v w r → MakesQuad m h f u w r
made_after {E} {m} {h} {f} {u} {v} {w} {r} a s = record {
  value = s.value;
  stood = found_later u v w h h f f r a refl refl s.stood;
  keeps = keeps_most (0 + m) m u w (omega arith) (keeps_on 0 m u v w a.keeps s.keeps);
  counts = counts_on u v w r a.misses s.counts;
}

-- and before one that reads
pub made_before : {E : Type 0} {m h : ℕ} {f : Cells} {u v w : Keeper} {p : Quad} → MakesQuad {E = E} m h f u v (Ok p) → ReadsQuads v w → MakesQuad {E = E} m h f u w (Ok p)
made_before {E} {m} {h} {f} {u} {v} {w} {p} s a = record {
  value = is_quad-stays 0 v w h f p a.keeps s.value;
  stood = λ q i. let x = s.stood q i in record { answer = x.answer; reads = reads_on u v w x.reads a };
  keeps = keeps_most (m + 0) m u w (omega arith) (keeps_on m 0 u v w s.keeps a.keeps);
  counts = a.misses ∙ s.counts;
}

-- the same result under another name for it
pub made_result : {E : Type 0} {m h : ℕ} {f : Cells} {v w : Keeper} {r s : Result Quad E} → r ≡ s → MakesQuad m h f v w r → MakesQuad m h f v w s
made_result {E} {m} {h} {f} {v} {w} e x = subst (λ (r : Result Quad E). MakesQuad m h f v w r) e x

-- a refusal that is passed on
pub made_failed : {D E : Type 0} {m h : ℕ} {f : Cells} {v w : Keeper} {e : E} (r : Result Quad D) → IsErr r → MakesQuad {E = E} m h f v w (Err e) → MakesQuad m h f v w r
made_failed (Ok x) i s = absurd (true≢false (sym i))
made_failed {v = v} {w = w} {e = e} (Err d) i s = record { value = tt; stood = λ q j. absurd (not_missed v w e q (s.stood q j)); keeps = s.keeps; counts = s.counts }

-- ---- two calls
-- two quads that were made one after the other
pub both_made : {E : Type 0} {m n l h : ℕ} {f g : Cells} {u v w : Keeper} {x y : Quad} → m + n ≤ l → MakesQuad {E = E} m h f u v (Ok x) → MakesQuad {E = E} n h g v w (Ok y) → MakesBoth {E = E} l h f g u w (Ok (x, y))
both_made {E} {m} {n} {l} {h} {f} {g} {u} {v} {w} {x} {y} o a b = record {
  value = (is_quad-stays n v w h f x b.keeps a.value, b.value);
  stood = λ p q s t. let r = a.stood p s in both_found {E = E} u v w p q x y r (b.stood q (is_quad-stays 0 u v h g q r.reads.keeps t));
  keeps = keeps_most (m + n) l u w o (keeps_on m n u v w a.keeps b.keeps);
  counts = b.counts ∙ a.counts;
}

-- the first was missed
pub first_missed : {D E : Type 0} {m l h : ℕ} {f g : Cells} {u v : Keeper} {e : E} (r : Result (Quad × Quad) D) → IsErr r → m ≤ l → MakesQuad {E = E} m h f u v (Err e) → MakesBoth l h f g u v r
first_missed (Ok x) i o a = absurd (true≢false (sym i))
first_missed {m = m} {l = l} {u = u} {v = v} {e = e} (Err d) i o a = record {
  value = tt;
  stood = λ p q s t. absurd (not_missed u v e p (a.stood p s));
  keeps = keeps_most m l u v o a.keeps;
  counts = a.counts;
}

-- or the second
pub second_missed : {D E : Type 0} {m n l h : ℕ} {f g : Cells} {u v w : Keeper} {x : Quad} {e : E} (r : Result (Quad × Quad) D) → IsErr r → m + n ≤ l → MakesQuad {E = E} m h f u v (Ok x) → MakesQuad {E = E} n h g v w (Err e)
    → MakesBoth l h f g u w r
second_missed (Ok x) i o a b = absurd (true≢false (sym i))
second_missed {D} {E} {m} {n} {l} {h} {f} {g} {u} {v} {w} {x} {e} (Err d) i o a b = record {
  value = tt;
  stood = λ p q s t. let r = a.stood p s in absurd (not_missed v w e q (b.stood q (is_quad-stays 0 u v h g q r.reads.keeps t)));
  keeps = keeps_most (m + n) l u w o (keeps_on m n u v w a.keeps b.keeps);
  counts = b.counts ∙ ap one_more_miss a.counts;
}

-- two that stand are made by reading
pub both_are : {E : Type 0} {h : ℕ} {f g : Cells} {w : Keeper} {x y : Quad} → IsKeeper w → IsQuad w h f x → IsQuad w h g y → MakesBoth {E = E} 0 h f g w w (Ok (x, y))
both_are {w = w} i a b = both_made (omega arith) (made_is {m = 0} (reads_itself w i) a) (made_is {m = 0} (reads_itself w i) b)

-- ---- several calls
-- where a quad of one height and set stands, one of another stands
pub record StandsUnder (w : Keeper) (k : ℕ) (f : Cells) (h : ℕ) (g : Cells) : Type 0 where
  pub quad : (q : Quad) → IsQuad w k f q → Quad
  pub is : (q : Quad) (s : IsQuad w k f q) → IsQuad w h g (quad q s)

-- these quads have one height, and each the set beside it
abbrev pub AreMade : Keeper → ℕ → List (Quad × Cells) → Type 0
AreMade w h [] = Unit
AreMade w h (p ∷ ps) = IsQuad w h p.1 p.0 × AreMade w h ps

-- a call that is to make a quad of this height and set has come so far: it made these quads, the last one first, kept all
-- that was, missed no place, and placed no word where the quad stood that it is to make
pub record Underway (room k : ℕ) (f : Cells) (h : ℕ) (made : List (Quad × Cells)) (old now : Keeper) : Type 0 where
  pub keeps : KeepsQuads room old now
  pub misses : now.misses ≡ old.misses
  pub lean : (q : Quad) → IsQuad old k f q → ReadsQuads old now
  pub are : AreMade now h made

are_made-stay : (m : ℕ) (v w : Keeper) (h : ℕ) (ps : List (Quad × Cells)) → KeepsQuads m v w → AreMade v h ps → AreMade w h ps
are_made-stay m v w h [] k a = tt
are_made-stay m v w h (p ∷ ps) k a = (is_quad-stays m v w h p.1 p.0 k a.0, are_made-stay m v w h ps k a.1)

-- it began with a call that reads
pub begun : {k h : ℕ} {f : Cells} {v w : Keeper} → ReadsQuads v w → Underway 0 k f h [] v w
begun r = record { keeps = r.keeps; misses = r.misses; lean = λ q s. r; are = tt }

-- one more quad was made
pub goes_on : {E : Type 0} {m n k h : ℕ} {f g : Cells} {ps : List (Quad × Cells)} {u v w : Keeper} {x : Quad} → Underway m k f h ps u v → StandsUnder u k f h g → MakesQuad {E = E} n h g v w (Ok x)
    → Underway (m + n) k f h ((x, g) ∷ ps) u w
goes_on {E} {m} {n} {k} {h} {f} {g} {ps} {u} {v} {w} a b s = record {
  keeps = keeps_on m n u v w a.keeps s.keeps;
  misses = s.counts ∙ a.misses;
  lean = λ q i. let r = a.lean q i in reads_on u v w r (s.stood (b.quad q i) (is_quad-stays 0 u v h g (b.quad q i) r.keeps (b.is q i))).reads;
  are = (s.value, are_made-stay n v w h ps s.keeps a.are);
}

-- one more quad was missed, and so the call is
pub stops : {D E : Type 0} {m n k h l : ℕ} {f g : Cells} {ps : List (Quad × Cells)} {u v w : Keeper} {e : E} (r : Result Quad D) → IsErr r → m + n ≤ l → Underway m k f h ps u v → StandsUnder u k f h g
    → MakesQuad {E = E} n h g v w (Err e) → MakesQuad l k f u w r
stops (Ok x) i o a b s = absurd (true≢false (sym i))
stops {D} {E} {m} {n} {k} {h} {l} {f} {g} {ps} {u} {v} {w} {e} (Err d) i o a b s = record {
  value = tt;
  stood = λ q j. let r = a.lean q j in absurd (not_missed v w e (b.quad q j) (s.stood (b.quad q j) (is_quad-stays 0 u v h g (b.quad q j) r.keeps (b.is q j))));
  keeps = keeps_most (m + n) l u w o (keeps_on m n u v w a.keeps s.keeps);
  counts = s.counts ∙ ap one_more_miss a.misses;
}

-- two more quads were made
pub both_go_on : {E : Type 0} {m n k h : ℕ} {f g0 g1 : Cells} {ps : List (Quad × Cells)} {u v w : Keeper} {x y : Quad} → Underway m k f h ps u v → StandsUnder u k f h g0 → StandsUnder u k f h g1 → MakesBoth {E = E} n h g0 g1 v w (Ok (x, y))
    → Underway (m + n) k f h ((y, g1) ∷ (x, g0) ∷ ps) u w
both_go_on {E} {m} {n} {k} {h} {f} {g0} {g1} {ps} {u} {v} {w} {x} {y} a b0 b1 s = record {
  keeps = keeps_on m n u v w a.keeps s.keeps;
  misses = s.counts ∙ a.misses;
  lean = λ q i. let r = a.lean q i in reads_on u v w r (s.stood (b0.quad q i) (b1.quad q i) (is_quad-stays 0 u v h g0 (b0.quad q i) r.keeps (b0.is q i)) (is_quad-stays 0 u v h g1 (b1.quad q i) r.keeps (b1.is q i))).reads;
  are = (s.value.1, (s.value.0, are_made-stay n v w h ps s.keeps a.are));
}

-- one of two more quads was missed
pub both_stop : {D E : Type 0} {m n k h l : ℕ} {f g0 g1 : Cells} {ps : List (Quad × Cells)} {u v w : Keeper} {e : E} (r : Result Quad D) → IsErr r → m + n ≤ l → Underway m k f h ps u v → StandsUnder u k f h g0 → StandsUnder u k f h g1
    → MakesBoth {E = E} n h g0 g1 v w (Err e) → MakesQuad l k f u w r
both_stop (Ok x) i o a b0 b1 s = absurd (true≢false (sym i))
both_stop {D} {E} {m} {n} {k} {h} {l} {f} {g0} {g1} {ps} {u} {v} {w} {e} (Err d) i o a b0 b1 s = record {
  value = tt;
  stood = λ q j. let r = a.lean q j in absurd (not_missed v w e (b0.quad q j, b1.quad q j) (s.stood (b0.quad q j) (b1.quad q j) (is_quad-stays 0 u v h g0 (b0.quad q j) r.keeps (b0.is q j)) (is_quad-stays 0 u v h g1 (b1.quad q j) r.keeps (b1.is q j))));
  keeps = keeps_most (m + n) l u w o (keeps_on m n u v w a.keeps s.keeps);
  counts = s.counts ∙ ap one_more_miss a.misses;
}

-- the last call answers what the whole is to make
pub ends : {E : Type 0} {m n k h l : ℕ} {f : Cells} {ps : List (Quad × Cells)} {u v w : Keeper} {r : Result Quad E} → m + n ≤ l → Underway m k f h ps u v → MakesQuad n k f v w r → MakesQuad l k f u w r
ends {E} {m} {n} {k} {h} {l} {f} {ps} {u} {v} {w} {r} o a s = record {
  value = s.value;
  stood = λ q i. let x = a.lean q i in let g = s.stood q (is_quad-stays 0 u v k f q x.keeps i) in record { answer = g.answer; reads = reads_on u v w x g.reads };
  keeps = keeps_most (m + n) l u w o (keeps_on m n u v w a.keeps s.keeps);
  counts = counts_on u v w r a.misses s.counts;
}

-- ---- quarters
-- four sets are the quarters of a set, within the squares of the height below
pub record AreParts (w : Keeper) (k : ℕ) (f : Cells) (h : ℕ) (f0 f1 f2 f3 : Cells) : Type 0 where
  pub work : IsKeeper w
  pub low : bottom_height ≤ h
  pub next : h + 1 ≡ k
  pub within : AreWithin (side_of h) f0 f1 f2 f3
  pub means : quartered (side_of h) f0 f1 f2 f3 ≡ f

-- a call that is to make a set of known quarters began
pub started : {w : Keeper} {k h : ℕ} {f f0 f1 f2 f3 : Cells} → AreParts w k f h f0 f1 f2 f3 → Underway 0 k f h [] w w
started {w} p = begun (reads_itself w p.work)

parts_stood : {w : Keeper} {k h : ℕ} {f f0 f1 f2 f3 : Cells} → AreParts w k f h f0 f1 f2 f3 → (q : Quad) → IsQuad w k f q → QuartersStood w h q f0 f1 f2 f3
parts_stood {w} {k} {h} {f} {f0} {f1} {f2} {f3} p q s =
    quarters_stood w h q f0 f1 f2 f3 p.work p.low p.within (record { same_height = s.same_height ∙ sym p.next; stands = s.stands; means = s.means ∙ sym p.means })

-- so each of them stands under a quad of that set
pub nw_under : {w : Keeper} {k h : ℕ} {f f0 f1 f2 f3 : Cells} → AreParts w k f h f0 f1 f2 f3 → StandsUnder w k f h f0
nw_under {h = h} p = record { quad = λ q s. record { height = h; name = (parts_stood p q s).nw }; is = λ q s. (parts_stood p q s).nw_is }

pub ne_under : {w : Keeper} {k h : ℕ} {f f0 f1 f2 f3 : Cells} → AreParts w k f h f0 f1 f2 f3 → StandsUnder w k f h f1
ne_under {h = h} p = record { quad = λ q s. record { height = h; name = (parts_stood p q s).ne }; is = λ q s. (parts_stood p q s).ne_is }

pub sw_under : {w : Keeper} {k h : ℕ} {f f0 f1 f2 f3 : Cells} → AreParts w k f h f0 f1 f2 f3 → StandsUnder w k f h f2
sw_under {h = h} p = record { quad = λ q s. record { height = h; name = (parts_stood p q s).sw }; is = λ q s. (parts_stood p q s).sw_is }

pub se_under : {w : Keeper} {k h : ℕ} {f f0 f1 f2 f3 : Cells} → AreParts w k f h f0 f1 f2 f3 → StandsUnder w k f h f3
se_under {h = h} p = record { quad = λ q s. record { height = h; name = (parts_stood p q s).se }; is = λ q s. (parts_stood p q s).se_is }

-- and the corner of four quads with these sets has that set
pub cornered : {E : Type 0} {m n k h : ℕ} {f f0 f1 f2 f3 : Cells} {nw ne sw se : Quad} {u v w : Keeper} {r : Result Quad E} → AreParts u k f h f0 f1 f2 f3
    → Underway m k f h ((se, f3) ∷ (sw, f2) ∷ (ne, f1) ∷ (nw, f0) ∷ []) u v → MakesQuad n (nw.height + 1) (corner_cells v nw ne sw se) v w r → MakesQuad n k f v w r
cornered {h = h} {f0 = f0} {f1 = f1} {f2 = f2} {f3 = f3} {nw = nw} {ne = ne} {sw = sw} {se = se} {v = v} p a s =
    let x3 = a.are.0 in
    let x2 = a.are.1.0 in
    let x1 = a.are.1.1.0 in
    let x0 = a.are.1.1.1.0 in
    made_as (ap (λ (x : ℕ). x + 1) x0.same_height ∙ p.next)
    (ap (λ (x : ℕ). quartered (side_of x) (quad_cells v nw) (quad_cells v ne) (quad_cells v sw) (quad_cells v se)) x0.same_height
    ∙ ap (λ (x : Cells). quartered (side_of h) x (quad_cells v ne) (quad_cells v sw) (quad_cells v se)) x0.means
    ∙ ap (λ (x : Cells). quartered (side_of h) f0 x (quad_cells v sw) (quad_cells v se)) x1.means
    ∙ ap (λ (x : Cells). quartered (side_of h) f0 f1 x (quad_cells v se)) x2.means
    ∙ ap (λ (x : Cells). quartered (side_of h) f0 f1 f2 x) x3.means ∙ p.means) s
