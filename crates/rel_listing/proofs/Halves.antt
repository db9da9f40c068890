-- A strip halved.
-- 1. Each quad adds to the upper strip its northern quarters and to the lower one its southern quarters, from its first column
--    on (`put_two`).
-- 2. What was halved so far and what is left are the strip (`Halving`): that holds at the start, after each quad, and says at
--    the end that the halves are the strip.
-- 3. The same for the words of a strip of leaves (`Wording`).
use Rattle.std.proofs.Common.{◌≡◌, ◌∙◌, ◌≤◌, ◌<◌, ◌+◌, ◌^◌, ◌++◌, ◌||◌, ℕ, List, [], ◌∷◌, refl, sym, ap, subst, arith, inl, inr, length, ◌≢◌, Option, Some, Result, Ok, Err}
use Rattle.std.specs.Prelude.{unwrap_or, IsSome, OnErr}
use Rattle.std.proofs.lemmas.Bool.{false≢true, cases_eq}
use Rattle.rel_model.specs.declared.Quad.{Quad}
use Rattle.rel_model.specs.declared.Quarters.{Quarters}
use Rattle.rel_model.specs.Relation.{Relation, has, size_limit}
use Rattle.rel_model.specs.Cells.{Cells, no_cells, bits_cells}
use Rattle.rel_model.specs.Trees.{quartered}
use Rattle.rel_model.specs.Quarters.{LiesWithin}
use Rattle.rel_model.specs.Worker.{Worker, HasQuad, quad_set, Keeps}
use Rattle.rel_steps.specs.Reading.{OnlyReads}
use Rattle.rel_steps.proofs.Given.{kept_quad, kept_set}
use Rattle.rel_steps.proofs.Reading.{reads_itself, reads_on}
use Rattle.rel_listing.specs.Lists.{Adds}
use Rattle.rel_listing.specs.Strips.{Spaced, IsStripFrom, IsStrip, placed, laid, kept, Quartered, Halves, AreWords}
use Rattle.rel_listing.proofs.Truth.{or_none, or_or, or_each}
use Rattle.rel_listing.proofs.Lists.{adds_none, adds_on, adds_same}
use Rattle.rel_listing.proofs.RowSteps.{before_by_row}
use Rattle.rel_listing.proofs.Strips.{laid_low, laid_high, spaced-le, spaced-upto, spaced-append, strip-append, strip_later, laid_later, laid-append, kept_strip, kept_laid, placed-quartered, double}

-- two quads of half the side were put at the end of a strip
record PutTwo (w : Worker) (h c : ℕ) (f g : Cells) (xs ys : List (Quad × ℕ)) : Type 0 where
  pub is : IsStripFrom w h 0 (c + 2 ^ h + 2 ^ h) ys
  pub means : (row i j : ℕ) → laid (quad_set w) row ys i j ≡ (laid (quad_set w) row xs i j || (placed row c f i j || placed row (c + 2 ^ h) g i j))

put_two : {w : Worker} {h a : ℕ} {xs ys : List (Quad × ℕ)} (c : ℕ) (west east : Quad) → IsStripFrom w h 0 a xs → a ≤ c → HasQuad w west → HasQuad w east → west.height ≡ h → east.height ≡ h
    → (west.name ≡ 0 → quad_set w west ≡ no_cells) → (east.name ≡ 0 → quad_set w east ≡ no_cells) → ys ≡ (xs ++ kept west c) ++ kept east (c + 2 ^ h) → PutTwo w h c (quad_set w west) (quad_set w east) xs ys
put_two {w} {h} {a} {xs} {ys} c west east s l hw he kw ke nw ne e =
    let upto : IsStripFrom w h 0 c xs = record { quads = s.quads; spaced = spaced-upto (2 ^ h) 0 a c xs l s.spaced } in
    let first = strip-append upto (kept_strip w h west c (c + 2 ^ h) hw kw refl) in
    let both = strip-append first (kept_strip w h east (c + 2 ^ h) (c + 2 ^ h + 2 ^ h) he ke refl) in
    record {
      is = subst (λ (zs : List (Quad × ℕ)). IsStripFrom w h 0 (c + 2 ^ h + 2 ^ h) zs) (sym e) both;
      means = λ row i j. ap (λ (zs : List (Quad × ℕ)). laid (quad_set w) row zs i j) e
          ∙ laid-append (quad_set w) row (xs ++ kept west c) (kept east (c + 2 ^ h)) i j
          ∙ ap (λ b. b || laid (quad_set w) row (kept east (c + 2 ^ h)) i j) (laid-append (quad_set w) row xs (kept west c) i j)
          ∙ ap (λ b. (laid (quad_set w) row xs i j || b) || laid (quad_set w) row (kept east (c + 2 ^ h)) i j) (kept_laid w west row c i j nw)
          ∙ ap (λ b. (laid (quad_set w) row xs i j || placed row c (quad_set w west) i j) || b) (kept_laid w east row (c + 2 ^ h) i j ne)
          ∙ sym (or_or (laid (quad_set w) row xs i j) (placed row c (quad_set w west) i j) (placed row (c + 2 ^ h) (quad_set w east) i j));
    }

-- what was halved so far, and what is left
pub record Halving (u v : Worker) (h : ℕ) (strip rest upper lower : List (Quad × ℕ)) : Type 0 where
  pub reads : OnlyReads u v
  pub at : ℕ
  pub rest_is : IsStripFrom u (h + 1) at size_limit rest
  pub upper_is : IsStripFrom v h 0 at upper
  pub lower_is : IsStripFrom v h 0 at lower
  pub means : (row i j : ℕ) → laid (quad_set u) row strip i j ≡ ((laid (quad_set v) row upper i j || laid (quad_set v) (row + 2 ^ h) lower i j) || laid (quad_set u) row rest i j)

pub halving_none : {u v : Worker} {h : ℕ} {strip rest upper lower : List (Quad × ℕ)} → IsStrip u (h + 1) size_limit strip → OnlyReads u v → rest ≡ strip → upper ≡ [] → lower ≡ [] → Halving u v h strip rest upper lower
halving_none {u} {v} {h} {strip} {rest} {upper} {lower} s only r a b =
    subst (λ (zs : List (Quad × ℕ)). Halving u v h strip zs upper lower) (sym r)
    (subst (λ (zs : List (Quad × ℕ)). Halving u v h strip strip zs lower) (sym a)
    (subst (λ (zs : List (Quad × ℕ)). Halving u v h strip strip [] zs) (sym b) whole))
  where
    whole : Halving u v h strip strip [] []
    whole = record {
      reads = only;
      at = 0;
      rest_is = s;
      upper_is = record { quads = tt; spaced = omega arith };
      lower_is = record { quads = tt; spaced = omega arith };
      means = λ row i j. refl;
    }

-- the first quad that is left stands, over the leaves' height, within the limit
pub record IsNext (v : Worker) (h : ℕ) (e : Quad × ℕ) : Type 0 where
  pub stands : HasQuad v e.0
  pub over : (least : ℕ) → least < h → least < e.0.height
  pub fits : e.1 + 2 ^ e.0.height ≤ size_limit

pub next_is : {u v : Worker} {h at : ℕ} {e : Quad × ℕ} {more rest : List (Quad × ℕ)} → Keeps u v → rest ≡ e ∷ more → IsStripFrom u h at size_limit rest → IsNext v h e
next_is {u} {v} {h} {at} {e} {more} {rest} k r s = here (subst (λ (zs : List (Quad × ℕ)). IsStripFrom u h at size_limit zs) r s)
  where
    here : IsStripFrom u h at size_limit (e ∷ more) → IsNext v h e
    here t = record { stands = kept_quad u v e.0 k t.quads.0.0; over = λ least l. subst (λ (x : ℕ). least < x) (sym t.quads.0.1) l; fits = subst (λ (x : ℕ). e.1 + 2 ^ x ≤ size_limit) (sym t.quads.0.1) (spaced-le (2 ^ h) (e.1 + 2 ^ h) size_limit more t.spaced.1) }

-- quads of a strip were read, and these are left
pub record Reading (u v : Worker) (h : ℕ) (rest : List (Quad × ℕ)) : Type 0 where
  pub reads : OnlyReads u v
  pub at : ℕ
  pub rest_is : IsStripFrom u h at size_limit rest

pub reading_more : {u v w : Worker} {h : ℕ} {e : Quad × ℕ} {more rest : List (Quad × ℕ)} → Reading u v h rest → rest ≡ e ∷ more → OnlyReads v w → Reading u w h more
reading_more {u} {v} {w} {h} {e} {more} {rest} s r reads = here (subst (λ (zs : List (Quad × ℕ)). IsStripFrom u h s.at size_limit zs) r s.rest_is)
  where
    here : IsStripFrom u h s.at size_limit (e ∷ more) → Reading u w h more
    here t = record { reads = reads_on s.reads reads; at = e.1 + 2 ^ h; rest_is = record { quads = t.quads.1; spaced = t.spaced.1 } }

-- the quad named 0 has no cell
pub none_of : (w : Worker) (q : Quad) → w.quad (record { height = q.height; name = 0 }) ≡ Some no_cells → q.name ≡ 0 → quad_set w q ≡ no_cells
none_of w q h e = ap (λ (n : ℕ). quad_set w (record { height = q.height; name = n })) e ∙ ap (λ o. unwrap_or o no_cells) h

-- what a worker says of its quads
pub record Sound (w : Worker) (four : Quarters) : Type 0 where
  pub nw : LiesWithin (2 ^ four.nw.height) (2 ^ four.nw.height) (quad_set w four.nw)
  pub ne : LiesWithin (2 ^ four.ne.height) (2 ^ four.ne.height) (quad_set w four.ne)
  pub sw : LiesWithin (2 ^ four.sw.height) (2 ^ four.sw.height) (quad_set w four.sw)
  pub se : LiesWithin (2 ^ four.se.height) (2 ^ four.se.height) (quad_set w four.se)
  pub none_nw : four.nw.name ≡ 0 → quad_set w four.nw ≡ no_cells
  pub none_ne : four.ne.name ≡ 0 → quad_set w four.ne ≡ no_cells
  pub none_sw : four.sw.name ≡ 0 → quad_set w four.sw ≡ no_cells
  pub none_se : four.se.name ≡ 0 → quad_set w four.se ≡ no_cells

lies_at : {h k : ℕ} {f : Cells} → k ≡ h → LiesWithin (2 ^ k) (2 ^ k) f → LiesWithin (2 ^ h) (2 ^ h) f
lies_at {f = f} e l = subst (λ (x : ℕ). LiesWithin (2 ^ x) (2 ^ x) f) e l

pub halving_more : {u v w : Worker} {h : ℕ} {strip rest more upper lower upper_then lower_then : List (Quad × ℕ)} (e : Quad × ℕ) → Halving u v h strip rest upper lower → rest ≡ e ∷ more → OnlyReads v w
    → (q : Quartered v w e.0 e.1 upper upper_then lower lower_then) → Sound w q.four → Halving u w h strip more upper_then lower_then
halving_more {u} {v} {w} {h} {strip} {rest} {more} {upper} {lower} {upper_then} {lower_then} e s r reads q sound =
    let four = q.four in
    let g = q.gives in
    let now : IsStripFrom u (h + 1) s.at size_limit (e ∷ more) = subst (λ (zs : List (Quad × ℕ)). IsStripFrom u (h + 1) s.at size_limit zs) r s.rest_is in
    let high = now.quads.0.1 in
    let a : four.nw.height ≡ h = let x = g.nw_height in omega (arith, x, high) in
    let b : four.ne.height ≡ h = let x = g.ne_height in omega (arith, x, high) in
    let c : four.sw.height ≡ h = let x = g.sw_height in omega (arith, x, high) in
    let d : four.se.height ≡ h = let x = g.se_height in omega (arith, x, high) in
    let n : ℕ = 2 ^ h in
    let north = put_two e.1 four.nw four.ne (strip_later reads.keeps s.upper_is) now.spaced.0 g.nw g.ne a b sound.none_nw sound.none_ne (q.north ∙ ap (λ (x : ℕ). (upper ++ kept four.nw e.1) ++ kept four.ne (e.1 + 2 ^ x)) a) in
    let south = put_two e.1 four.sw four.se (strip_later reads.keeps s.lower_is) now.spaced.0 g.sw g.se c d sound.none_sw sound.none_se (q.south ∙ ap (λ (x : ℕ). (lower ++ kept four.sw e.1) ++ kept four.se (e.1 + 2 ^ x)) a) in
    let quarters : quad_set u e.0 ≡ quartered n (quad_set w four.nw) (quad_set w four.ne) (quad_set w four.sw) (quad_set w four.se)
    = sym (kept_set u v e.0 s.reads.keeps now.quads.0.0) ∙ g.means ∙ ap (λ (x : ℕ). quartered (2 ^ x) (quad_set w four.nw) (quad_set w four.ne) (quad_set w four.sw) (quad_set w four.se)) a in
    let twice : 2 ^ (h + 1) ≡ n + n = double h in
    let ends : e.1 + 2 ^ (h + 1) ≡ e.1 + n + n = omega (arith, twice) in
    record {
      reads = reads_on s.reads reads;
      at = e.1 + n + n;
      rest_is = record { quads = now.quads.1; spaced = subst (λ (x : ℕ). Spaced (2 ^ (h + 1)) x size_limit more) ends now.spaced.1 };
      upper_is = north.is;
      lower_is = south.is;
      means = λ row i j.
          (let U = laid (quad_set w) row upper i j in
          let L = laid (quad_set w) (row + n) lower i j in
          let M = laid (quad_set u) row more i j in
          let X = placed row e.1 (quad_set w four.nw) i j || placed row (e.1 + n) (quad_set w four.ne) i j in
          let Y = placed (row + n) e.1 (quad_set w four.sw) i j || placed (row + n) (e.1 + n) (quad_set w four.se) i j in
          s.means row i j
          ∙ ap (λ (zs : List (Quad × ℕ)). (laid (quad_set v) row upper i j || laid (quad_set v) (row + n) lower i j) || laid (quad_set u) row zs i j) r
          ∙ ap (λ z. (z || laid (quad_set v) (row + n) lower i j) || (placed row e.1 (quad_set u e.0) i j || M)) (sym (laid_later v w h row upper i j reads.keeps s.upper_is.quads))
          ∙ ap (λ z. (U || z) || (placed row e.1 (quad_set u e.0) i j || M)) (sym (laid_later v w h (row + n) lower i j reads.keeps s.lower_is.quads))
          ∙ ap (λ (f : Cells). (U || L) || (placed row e.1 f i j || M)) quarters
          ∙ ap (λ z. (U || L) || (z || M)) (placed-quartered n row e.1 (quad_set w four.nw) (quad_set w four.ne) (quad_set w four.sw) (quad_set w four.se) (lies_at a sound.nw) (lies_at b sound.ne) (lies_at c sound.sw) (lies_at d sound.se) i j)
          ∙ or_each U L X Y M
          ∙ ap (λ z. (z || (L || Y)) || M) (sym (north.means row i j))
          ∙ ap (λ z. (laid (quad_set w) row upper_then i j || z) || M) (sym (south.means (row + n) i j)));
    }

pub halving_all : {u v : Worker} {h : ℕ} {strip rest upper lower : List (Quad × ℕ)} → rest ≡ [] → Halving u v h strip rest upper lower → Halves u v h strip upper lower
halving_all {u} {v} {h} {strip} {rest} {upper} {lower} r s =
    let now : IsStripFrom u (h + 1) s.at size_limit [] = subst (λ (zs : List (Quad × ℕ)). IsStripFrom u (h + 1) s.at size_limit zs) r s.rest_is in
    record {
      upper = record { quads = s.upper_is.quads; spaced = spaced-upto (2 ^ h) 0 s.at size_limit upper now.spaced s.upper_is.spaced };
      lower = record { quads = s.lower_is.quads; spaced = spaced-upto (2 ^ h) 0 s.at size_limit lower now.spaced s.lower_is.spaced };
      means = λ row i j. s.means row i j
          ∙ ap (λ (zs : List (Quad × ℕ)). (laid (quad_set v) row upper i j || laid (quad_set v) (row + 2 ^ h) lower i j) || laid (quad_set u) row zs i j) r
          ∙ or_none (laid (quad_set v) row upper i j || laid (quad_set v) (row + 2 ^ h) lower i j);
    }

-- ---- words
pub record Wording (u v : Worker) (least : ℕ) (strip rest : List (Quad × ℕ)) (words : List (ℕ × ℕ)) : Type 0 where
  pub reads : OnlyReads u v
  pub at : ℕ
  pub rest_is : IsStripFrom u least at size_limit rest
  pub spaced : Spaced (2 ^ least) 0 at words
  pub means : (row i j : ℕ) → laid (quad_set u) row strip i j ≡ (laid (bits_cells (2 ^ least)) row words i j || laid (quad_set u) row rest i j)

pub wording_none : {u : Worker} {least : ℕ} {strip rest : List (Quad × ℕ)} {words : List (ℕ × ℕ)} → IsStrip u least size_limit strip → rest ≡ strip → words ≡ [] → Wording u u least strip rest words
wording_none {u} {least} {strip} {rest} {words} s r a =
    subst (λ (zs : List (Quad × ℕ)). Wording u u least strip zs words) (sym r) (subst (λ (zs : List (ℕ × ℕ)). Wording u u least strip strip zs) (sym a) whole)
  where
    whole : Wording u u least strip strip []
    whole = record { reads = reads_itself u; at = 0; rest_is = s; spaced = omega arith; means = λ row i j. refl }

pub wording_more : {u v w : Worker} {least : ℕ} {strip rest more : List (Quad × ℕ)} {words then : List (ℕ × ℕ)} (e : Quad × ℕ) (bits : ℕ) → Wording u v least strip rest words → rest ≡ e ∷ more → OnlyReads v w
    → bits_cells (2 ^ least) bits ≡ quad_set v e.0 → then ≡ words ++ (bits, e.1) ∷ [] → Wording u w least strip more then
wording_more {u} {v} {w} {least} {strip} {rest} {more} {words} {then} e bits s r reads b t =
    let now : IsStripFrom u least s.at size_limit (e ∷ more) = subst (λ (zs : List (Quad × ℕ)). IsStripFrom u least s.at size_limit zs) r s.rest_is in
    let n : ℕ = 2 ^ least in
    let cells : quad_set u e.0 ≡ bits_cells n bits = sym (kept_set u v e.0 s.reads.keeps now.quads.0.0) ∙ sym b in
    let one : Spaced n s.at (e.1 + n) ((bits, e.1) ∷ []) = (now.spaced.0, omega arith) in
    record {
      reads = reads_on s.reads reads;
      at = e.1 + n;
      rest_is = record { quads = now.quads.1; spaced = now.spaced.1 };
      spaced = subst (λ (zs : List (ℕ × ℕ)). Spaced n 0 (e.1 + n) zs) (sym t) (spaced-append n 0 s.at (e.1 + n) words ((bits, e.1) ∷ []) s.spaced one);
      means = λ row i j.
          (let W = laid (bits_cells n) row words i j in
          let M = laid (quad_set u) row more i j in
          let P = placed row e.1 (bits_cells n bits) i j in
          s.means row i j ∙ ap (λ (zs : List (Quad × ℕ)). W || laid (quad_set u) row zs i j) r
          ∙ ap (λ (f : Cells). W || (placed row e.1 f i j || M)) cells
          ∙ or_or W P M
          ∙ ap (λ z. (W || z) || M) (sym (or_none P))
          ∙ ap (λ z. z || M) (sym (laid-append (bits_cells n) row words ((bits, e.1) ∷ []) i j) ∙ ap (λ (zs : List (ℕ × ℕ)). laid (bits_cells n) row zs i j) (sym t)));
    }

pub wording_all : {u v : Worker} {least : ℕ} {strip rest : List (Quad × ℕ)} {words : List (ℕ × ℕ)} → rest ≡ [] → Wording u v least strip rest words → AreWords u (2 ^ least) strip words
wording_all {u} {v} {least} {strip} {rest} {words} r s =
    let now : IsStripFrom u least s.at size_limit [] = subst (λ (zs : List (Quad × ℕ)). IsStripFrom u least s.at size_limit zs) r s.rest_is in
    record {
      spaced = spaced-upto (2 ^ least) 0 s.at size_limit words now.spaced s.spaced;
      means = λ row i j. s.means row i j ∙ ap (λ (zs : List (Quad × ℕ)). laid (bits_cells (2 ^ least)) row words i j || laid (quad_set u) row zs i j) r ∙ or_none (laid (bits_cells (2 ^ least)) row words i j);
    }

-- ---- what is appended
pub halves_done : {u v w : Worker} {h side : ℕ} (row : ℕ) {strip upper lower xs ys : List (Quad × ℕ)} {a b c : List (ℕ × ℕ)} → ((q : Quad) → HasQuad v q → LiesWithin (2 ^ q.height) (2 ^ q.height) (quad_set v q)) → side ≡ 2 ^ h → Halves u v h strip upper lower → Keeps v w
    → xs ≡ upper → ys ≡ lower → Adds (laid (quad_set v) row xs) a b → Adds (laid (quad_set w) (row + side) ys) b c → Adds (laid (quad_set u) row strip) a c
halves_done {u} {v} {w} {h} {side} row {strip} {upper} {lower} {xs} {ys} {a} {b} {c} square e halves k p q s t =
    adds_same (λ i j g. halves.means row i j ∙ g) (λ i j g. sym (halves.means row i j) ∙ g) (adds_on north south (λ i j x y f g.
    (let l = laid_high v h row upper i j square halves.upper.quads f in
    let m = laid_low (quad_set v) (row + 2 ^ h) lower x y g in
    before_by_row i j x y (omega (arith, l, m)))))
  where
    north : Adds (laid (quad_set v) row upper) a b
    north = subst (λ (zs : List (Quad × ℕ)). Adds (laid (quad_set v) row zs) a b) p s

    there : Adds (laid (quad_set w) (row + 2 ^ h) lower) b c
    there = subst (λ (x : ℕ). Adds (laid (quad_set w) (row + x) lower) b c) e (subst (λ (zs : List (Quad × ℕ)). Adds (laid (quad_set w) (row + side) zs) b c) q t)

    south : Adds (laid (quad_set v) (row + 2 ^ h) lower) b c
    south = adds_same (λ i j g. sym (laid_later v w h (row + 2 ^ h) lower i j k halves.lower.quads) ∙ g) (λ i j g. laid_later v w h (row + 2 ^ h) lower i j k halves.lower.quads ∙ g) there

-- nothing of an empty strip
pub nothing_done : {A : Type 0} (set : A → Cells) (row : ℕ) (strip : List (A × ℕ)) (old : List (ℕ × ℕ)) → length strip ≡ 0 → Adds (laid set row strip) old old
nothing_done set row [] old e = adds_none old (λ i j h. false≢true h)
nothing_done set row (x ∷ xs) old e = absurd (omega (arith, e))

-- ---- where something is listed
pub on_err : {T E : Type 0} {P : Type 0} (r : Result T E) → P → OnErr r P
on_err (Ok x) p = tt
on_err (Err x) p = p

pub some_pairs : (m n : ℕ) → n ≢ 0 → (m ≡ 0 → n ≡ 0) → 0 < m
some_pairs m n k f = elim (cases_eq m 0) [ inl e ↦ absurd (k (f e)) | inr e ↦ omega (arith, e) ]

no-pair : (ps : List (ℕ × ℕ)) → length ps ≡ 0 → ps ≡ []
no-pair [] e = refl
no-pair (p ∷ ps) e = absurd (omega (arith, e))

-- a relation without a pair has the quad named 0
pub empty_name : (w : Worker) (r : Relation) (q : Quad) → w.quad (record { height = q.height; name = 0 }) ≡ Some no_cells
    → (HasQuad w (record { height = q.height; name = 0 }) → quad_set w q ≡ quad_set w (record { height = q.height; name = 0 }) → q.name ≡ 0) → quad_set w q ≡ has r → length r.pairs ≡ 0 → q.name ≡ 0
empty_name w r q z one g e =
    let none : has r ≡ no_cells = ap (λ (ps : List (ℕ × ℕ)). has (record { rows = r.rows; cols = r.cols; pairs = ps })) (no-pair r.pairs e) in
    one (subst (λ (o : Option Cells). IsSome o) (sym z) refl) (g ∙ none ∙ sym (ap (λ o. unwrap_or o no_cells) z))
