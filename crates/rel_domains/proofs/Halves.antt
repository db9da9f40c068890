-- The halves of a vector, as a worker keeps them, and the square of its ranks from those of its halves.
use Rattle.std.proofs.Common.{◌≡◌, ◌≢◌, ◌<◌, ◌≤◌, ◌+◌, ◌-◌, ◌^◌, ◌∙◌, ◌&&◌, eqb, ltb, ℕ, Bool, true, refl, sym, ap, subst, arith, Some}
use Rattle.std.specs.Prelude.{unwrap_or}
use Rattle.std.proofs.Math.Pow.{pow_mono}
use Rattle.std.proofs.lemmas.Nat.{pow_pos}
use Rattle.std.proofs.lemmas.Bool.{lt-ltb, and_parts, eqb-true, ltb-true}
use Rattle.rel_model.specs.declared.Rel.{Rel}
use Rattle.rel_model.specs.declared.Quad.{Quad}
use Rattle.rel_model.specs.declared.Quarters.{Quarters}
use Rattle.rel_model.specs.Relation.{Relation, has, relation_of, size_height, size_limit, IsRelation}
use Rattle.rel_model.specs.Cells.{Cells, no_cells}
use Rattle.rel_model.specs.Choice.{holds, count_below, inj}
use Rattle.rel_model.specs.Trees.{quartered, top_height}
use Rattle.rel_model.specs.Roots.{height_over}
use Rattle.rel_model.specs.Quarters.{GivesQuarters, LiesWithin}
use Rattle.rel_model.specs.Worker.{Worker, HasQuad, quad_set, Gives, GivesQuad, Keeps, height_of}
use Rattle.rel_model.proofs.Heights.{height_of-covers, height_of-least, height_over-rows, height_over-low}
use Rattle.rel_model.proofs.Relations.{relation_of-agree}
use Rattle.rel_model.proofs.Members.{inside}
use Rattle.rel_model.proofs.TreeLaws.{same_cells}
use Rattle.rel_domains.specs.Ranks.{first_column, ranked}
use Rattle.rel_domains.proofs.Places.{side_step}
use Rattle.rel_steps.proofs.Given.{gives_quad_set, gives_later, kept_set, kept_quad}
use Rattle.rel_domains.proofs.Ranking.{count-most, count-none, count-past, count-beyond, count-halves, ranked-quartered}
use Rattle.rel_domains.proofs.Repeats.{both_more}
use Rattle.rel_domains.proofs.Windows.{corner_of}

-- a quad named 0
pub none_set : (w : Worker) (q : Quad) → w.quad (record { height = q.height; name = 0 }) ≡ Some no_cells → q.name ≡ 0 → quad_set w q ≡ no_cells
none_set w q e z = ap (λ n. unwrap_or (w.quad (record { height = q.height; name = n })) no_cells) z ∙ ap (λ o. unwrap_or o no_cells) e

pub none_count : (w : Worker) (q : Quad) → w.quad (record { height = q.height; name = 0 }) ≡ Some no_cells → q.name ≡ 0 → 0 ≡ count_below (2 ^ q.height) (first_column (quad_set w q))
none_count w q e z = sym (count-none (2 ^ q.height) (first_column (quad_set w q)) (λ k l. ap (λ f. first_column f k) (none_set w q e z)))

pub count_limit : (h : ℕ) (t : ℕ → Bool) → h ≤ top_height → count_below (2 ^ h) t ≤ size_limit
unfolding top_height
count_limit h t l = let p : 2 ^ h ≤ size_limit = pow_mono {i = h} {j = size_height} l in let q = count-most (2 ^ h) t in omega (arith, p, q)

double_side : (h k : ℕ) → h + 1 ≡ k → 2 ^ k ≡ 2 ^ h + 2 ^ h
double_side h k e = let s = side_step 0 k (omega (arith, e)) in let g : 2 ^ (0 + k) ≡ 2 ^ k = ap (λ n. 2 ^ n) (let z : 0 + k ≡ k = omega arith in z) in let f : 2 ^ (0 + (k - 1)) ≡ 2 ^ h = ap (λ n. 2 ^ n) (let z : 0 + (k - 1) ≡ h = omega (arith, e) in z) in omega (arith, s, g, f)

-- what a vector has is what its halves have
pub halves_count : (w0 w1 : Worker) (vector : Quad) (four : Quarters) → GivesQuarters w0 w1 vector four
    → count_below (2 ^ vector.height) (first_column (quad_set w0 vector)) ≡ count_below (2 ^ four.nw.height) (first_column (quad_set w1 four.nw)) + count_below (2 ^ four.sw.height) (first_column (quad_set w1 four.sw))
halves_count w0 w1 vector four g =
    let m = 2 ^ four.nw.height in
    let e : four.sw.height ≡ four.nw.height = let a = g.nw_height in let b = g.sw_height in omega (arith, a, b) in
    ap (λ n. count_below n (first_column (quad_set w0 vector))) (double_side four.nw.height vector.height g.nw_height)
    ∙ ap (λ f. count_below (m + m) (first_column f)) g.means
    ∙ count-halves m (pow_pos four.nw.height) (quad_set w1 four.nw) (quad_set w1 four.ne) (quad_set w1 four.sw) (quad_set w1 four.se)
    ∙ ap (λ n. count_below m (first_column (quad_set w1 four.nw)) + count_below (2 ^ n) (first_column (quad_set w1 four.sw))) (sym e)

-- both halves as they stand, with their heights, sets and counts
pub record AreHalves (w : Worker) (h many above : ℕ) (upper lower : Quad) (a c : Cells) : Type 0 where
  pub upper_stands : HasQuad w upper
  pub lower_stands : HasQuad w lower
  pub upper_height : upper.height ≡ h
  pub lower_height : lower.height ≡ h
  pub upper_is : quad_set w upper ≡ a
  pub lower_is : quad_set w lower ≡ c
  pub upper_many : above ≡ count_below (2 ^ upper.height) (first_column (quad_set w upper))
  pub lower_many : many - above ≡ count_below (2 ^ lower.height) (first_column (quad_set w lower))
  pub fits : above ≤ many

-- the halves of a vector stay so in a later worker, which keeps their sets and so what they count
pub halves_later : (v w : Worker) (h many above : ℕ) (upper lower : Quad) (a c : Cells) → Keeps v w → AreHalves v h many above upper lower a c → AreHalves w h many above upper lower a c
halves_later v w h many above upper lower a c k p =
    let u = kept_set v w upper k p.upper_stands in
    let l = kept_set v w lower k p.lower_stands in
    record {
      upper_stands = kept_quad v w upper k p.upper_stands;
      lower_stands = kept_quad v w lower k p.lower_stands;
      upper_height = p.upper_height;
      lower_height = p.lower_height;
      upper_is = u ∙ p.upper_is;
      lower_is = l ∙ p.lower_is;
      upper_many = p.upper_many ∙ ap (λ f. count_below (2 ^ upper.height) (first_column f)) (sym u);
      lower_many = p.lower_many ∙ ap (λ f. count_below (2 ^ lower.height) (first_column f)) (sym l);
      fits = p.fits;
    }

-- the western quarters of a vector are its halves: what it counts is what both of them count
pub halves_first : (w0 w1 w2 : Worker) (least depth many above : ℕ) (vector : Quad) (four : Quarters) → depth ≢ 0 → vector.height ≡ least + depth → GivesQuarters w0 w1 vector four
    → many ≡ count_below (2 ^ vector.height) (first_column (quad_set w0 vector)) → above ≡ count_below (2 ^ four.nw.height) (first_column (quad_set w1 four.nw)) → Keeps w1 w2
    → AreHalves w2 (least + (depth - 1)) many above four.nw four.sw (quad_set w1 four.nw) (quad_set w1 four.sw)
halves_first w0 w1 w2 least depth many above vector four over e g m n k =
    let s = halves_count w0 w1 vector four g in
    halves_later w1 w2 (least + (depth - 1)) many above four.nw four.sw (quad_set w1 four.nw) (quad_set w1 four.sw) k
    (record {
      upper_stands = g.nw;
      lower_stands = g.sw;
      upper_height = (let a = g.nw_height in omega (arith, a, e, over));
      lower_height = (let a = g.sw_height in omega (arith, a, e, over));
      upper_is = refl;
      lower_is = refl;
      upper_many = n;
      lower_many = omega (arith, s, m, n);
      fits = omega (arith, s, m, n);
    })

-- ---- the square of the ranks
ranked_whole : (m row before half above big : ℕ) (a b c d s2 s3 s4 s5 v : Cells) → 0 < m → half ≡ m → above ≡ count_below m (first_column a) → s2 ≡ a → s3 ≡ c → s4 ≡ a → s5 ≡ c → v ≡ quartered m a b c d → m + m ≡ big
    → quartered m (ranked m row before (first_column s2)) (ranked m row (before + above) (first_column s3)) (ranked m (row + half) before (first_column s4)) (ranked m (row + half) (before + above) (first_column s5)) ≡ ranked big row before (first_column v)
ranked_whole m row before half above big a b c d s2 s3 s4 s5 v some e n p q r s w u =
    ap (λ x. quartered m (ranked m row before (first_column x)) (ranked m row (before + above) (first_column s3)) (ranked m (row + half) before (first_column s4)) (ranked m (row + half) (before + above) (first_column s5))) p
    ∙ ap (λ x. quartered m (ranked m row before (first_column a)) (ranked m row (before + above) (first_column x)) (ranked m (row + half) before (first_column s4)) (ranked m (row + half) (before + above) (first_column s5))) q
    ∙ ap (λ x. quartered m (ranked m row before (first_column a)) (ranked m row (before + above) (first_column c)) (ranked m (row + half) before (first_column x)) (ranked m (row + half) (before + above) (first_column s5))) r
    ∙ ap (λ x. quartered m (ranked m row before (first_column a)) (ranked m row (before + above) (first_column c)) (ranked m (row + half) before (first_column a)) (ranked m (row + half) (before + above) (first_column x))) s
    ∙ ap (λ x. quartered m (ranked m row before (first_column a)) (ranked m row (before + above) (first_column c)) (ranked m (row + x) before (first_column a)) (ranked m (row + x) (before + above) (first_column c))) e
    ∙ ap (λ x. quartered m (ranked m row before (first_column a)) (ranked m row (before + x) (first_column c)) (ranked m (row + m) before (first_column a)) (ranked m (row + m) (before + x) (first_column c))) n
    ∙ ranked-quartered m row before some a b c d
    ∙ ap (λ x. ranked (m + m) row before (first_column x)) (sym w) ∙ ap (λ x. ranked x row before (first_column v)) u

-- the squares of ranks of both halves, in the upper and in the lower rows, and their corner are the vector's square:
-- the lower half counts on from the upper one
pub ranks_given : (w0 w1 w2 w3 w4 w5 w6 w7 : Worker) (least depth many row before half above : ℕ) (vector : Quad) (four : Quarters) (nw ne sw se q : Quad) → depth ≢ 0 → vector.height ≡ least + depth
    → half ≡ 2 ^ (vector.height - 1) → GivesQuarters w0 w1 vector four → above ≡ count_below (2 ^ four.nw.height) (first_column (quad_set w1 four.nw))
    → AreHalves w2 (least + (depth - 1)) many above four.nw four.sw (quad_set w1 four.nw) (quad_set w1 four.sw) → Keeps w2 w3
    → GivesQuad w3 (least + (depth - 1)) (ranked (2 ^ (least + (depth - 1))) row before (first_column (quad_set w2 four.nw))) nw → Keeps w3 w4
    → GivesQuad w4 (least + (depth - 1)) (ranked (2 ^ (least + (depth - 1))) row (before + above) (first_column (quad_set w3 four.sw))) ne → Keeps w4 w5
    → GivesQuad w5 (least + (depth - 1)) (ranked (2 ^ (least + (depth - 1))) (row + half) before (first_column (quad_set w4 four.nw))) sw → Keeps w5 w6
    → GivesQuad w6 (least + (depth - 1)) (ranked (2 ^ (least + (depth - 1))) (row + half) (before + above) (first_column (quad_set w5 four.sw))) se
    → GivesQuad w7 (nw.height + 1) (quartered (2 ^ nw.height) (quad_set w6 nw) (quad_set w6 ne) (quad_set w6 sw) (quad_set w6 se)) q
    → GivesQuad w7 (least + depth) (ranked (2 ^ (least + depth)) row before (first_column (quad_set w0 vector))) q
ranks_given w0 w1 w2 w3 w4 w5 w6 w7 least depth many row before half above vector four nw ne sw se q over e hf g n p2 k3 g3 k4 g4 k5 g5 k6 g6 g7 =
    let d : ℕ = least + (depth - 1) in
    let p3 = halves_later w2 w3 d many above four.nw four.sw _ _ k3 p2 in
    let p4 = halves_later w3 w4 d many above four.nw four.sw _ _ k4 p3 in
    let p5 = halves_later w4 w5 d many above four.nw four.sw _ _ k5 p4 in
    let r = corner_of w3 w4 w5 w6 w7 d _ _ _ _ nw ne sw se q g3 k4 g4 k5 g5 k6 g6 g7 in
    let dh : four.nw.height ≡ d = p2.upper_height in
    let hm : half ≡ 2 ^ d = hf ∙ ap (λ x. 2 ^ x) (let z : vector.height - 1 ≡ d = omega (arith, e, over) in z) in
    let nm : above ≡ count_below (2 ^ d) (first_column (quad_set w1 four.nw)) = n ∙ ap (λ x. count_below (2 ^ x) (first_column (quad_set w1 four.nw))) dh in
    let vm : quad_set w0 vector ≡ quartered (2 ^ d) (quad_set w1 four.nw) (quad_set w1 four.ne) (quad_set w1 four.sw) (quad_set w1 four.se) = g.means ∙ ap (λ x. quartered (2 ^ x) (quad_set w1 four.nw) (quad_set w1 four.ne) (quad_set w1 four.sw) (quad_set w1 four.se)) dh in
    let big : 2 ^ d + 2 ^ d ≡ 2 ^ (least + depth) = let s = side_step least depth over in omega (arith, s) in
    record {
      means = r.means ∙ ap Some (ranked_whole (2 ^ d) row before half above (2 ^ (least + depth)) (quad_set w1 four.nw) (quad_set w1 four.ne) (quad_set w1 four.sw) (quad_set w1 four.se) _ _ _ _ (quad_set w0 vector)
          (pow_pos d) hm nm p2.upper_is p3.lower_is p4.upper_is p5.lower_is vm big);
      same_height = (let h = r.same_height in omega (arith, h, over));
    }

-- ---- halves that are one quad
pub one_quad : (p q : Quad) → p.height ≡ q.height → p.name ≡ q.name → p ≡ q
one_quad p q e f = ap (λ h. made h p.name) e ∙ ap (made q.height) f
  where
    made : ℕ → ℕ → Quad
    made h n = record { height = h; name = n }

-- as many rows further, and as many elements later
pub ranked-later : (m row before k : ℕ) (t : ℕ → Bool) → ranked m row before t ≡ ranked m (row + k) (before + k) t
ranked-later m row before k t = same_cells _ _ (λ i x. ap (λ b. ltb i m && (ltb x m && (t x && b)))
    (sym (both_more (before + count_below x t) (row + i) k) ∙ ap (λ n. eqb n (row + i + k)) (let e : before + count_below x t + k ≡ before + k + count_below x t = omega arith in e) ∙ ap (eqb (before + k + count_below x t)) (let e : row + i + k ≡ row + k + i = omega arith in e)))

pub ranks_again : (w3 w4 w5 : Worker) (d row before half above : ℕ) (t u : ℕ → Bool) (nw : Quad) → above ≡ half → t ≡ u → GivesQuad w3 d (ranked (2 ^ d) row before t) nw → Keeps w3 w4 → Keeps w4 w5 → GivesQuad w5 d (ranked (2 ^ d) (row + half) (before + above) u) nw
ranks_again w3 w4 w5 d row before half above t u nw e f g k l =
    let r = gives_later w4 w5 d _ nw l (gives_later w3 w4 d _ nw k g) in
    record { means = r.means ∙ ap Some (ranked-later (2 ^ d) row before half t ∙ ap (λ n. ranked (2 ^ d) (row + half) (before + n) t) (sym e) ∙ ap (ranked (2 ^ d) (row + half) (before + above)) f); same_height = r.same_height }

-- ---- the relation
-- a vector, the height of its tree and the number of its elements
pub record IsListed (least many m h : ℕ) (v : Relation) : Type 0 where
  pub valid : IsRelation v
  pub rows : v.rows ≡ m
  pub cols : v.cols ≡ 1
  pub limit : m ≤ size_limit
  pub high : h ≡ height_over least m 1
  pub all : many ≡ count_below (2 ^ h) (first_column (has v))

module _ (least many m h : ℕ) (v : Relation) (is : IsListed least many m h v) where
  elements_within : (x : ℕ) → holds v x ≡ true → x < m
  elements_within x t = let w = inside m 1 v (record { valid = is.valid; row_size = is.rows; col_size = is.cols }) x 0 t in w.row

  side_covers : m ≤ 2 ^ h
  side_covers = subst (λ k. m ≤ 2 ^ k) (sym is.high) (height_over-rows least m 1 is.limit)

  pub many_is : many ≡ count_below v.rows (holds v)
  many_is = is.all ∙ count-beyond m (2 ^ h) (holds v) side_covers elements_within ∙ ap (λ n. count_below n (holds v)) (sym is.rows)

  pub many_most : many ≤ m
  many_most = let c = count-most v.rows (holds v) in omega (arith, many_is, c, is.rows)

  pub ranks_height : h ≡ height_over least many m
  unfolding height_over
  ranks_height =
      let a = height_of-least many (height_of m) (let c = height_of-covers m is.limit in let l = many_most in omega (arith, c, l)) in
      let b = height_of-least 1 0 (omega arith) in
      omega (arith, is.high, a, b)

  -- ranks lie within the sizes: an element's row is how many come before it, fewer than all, and its column is itself
  pub ranks_within : LiesWithin many m (ranked (2 ^ h) 0 0 (first_column (has v)))
  ranks_within = record {
    row = λ i x t. (let p = parts i x t in let q = count-past (2 ^ h) x (holds v) p.0 p.1 in let e = p.2 in omega (arith, q, e, is.all));
    col = λ i x t. (let p = parts i x t in elements_within x p.1);
  }
    where
      parts : (i x : ℕ) → ranked (2 ^ h) 0 0 (first_column (has v)) i x ≡ true → (x < 2 ^ h) × (holds v x ≡ true) × (0 + count_below x (holds v) ≡ 0 + i)
      parts i x t =
          let a = and_parts (ltb i (2 ^ h)) (ltb x (2 ^ h) && (holds v x && eqb (0 + count_below x (holds v)) (0 + i))) t in
          let b = and_parts (ltb x (2 ^ h)) (holds v x && eqb (0 + count_below x (holds v)) (0 + i)) a.1 in
          let c = and_parts (holds v x) (eqb (0 + count_below x (holds v)) (0 + i)) b.1 in
          (ltb-true x (2 ^ h) b.0, c.0, eqb-true (0 + count_below x (holds v)) (0 + i) c.1)

  pub inj_is : relation_of many m (ranked (2 ^ h) 0 0 (first_column (has v))) ≡ inj v
  unfolding inj
  inj_is =
      relation_of-agree many m (ranked (2 ^ h) 0 0 (first_column (has v))) (λ r x. holds v x && eqb (count_below x (holds v)) r) (λ i x a b.
      let l = many_most in
      let s = side_covers in
      rw (lt-ltb i (2 ^ h) (omega (arith, a, l, s)), lt-ltb x (2 ^ h) (omega (arith, b, s)))
      (ap (λ n. holds v x && eqb n (0 + i)) (let z : 0 + count_below x (holds v) ≡ count_below x (holds v) = omega arith in z) ∙ ap (λ n. holds v x && eqb (count_below x (holds v)) n) (let z : 0 + i ≡ i = omega arith in z)))
      ∙ ap (λ n. relation_of n m (λ r x. holds v x && eqb (count_below x (holds v)) r)) many_is ∙ ap (λ n. relation_of (count_below v.rows (holds v)) n (λ r x. holds v x && eqb (count_below x (holds v)) r)) (sym is.rows)

  pub inj_given : (w : Worker) (q : Quad) (rel : Rel) → GivesQuad w h (ranked (2 ^ h) 0 0 (first_column (has v))) q → Gives w many m (relation_of many m (quad_set w q)) rel → Gives w (count_below m (holds v)) m (inj v) rel
  inj_given w q rel g r = record {
    means = r.means ∙ ap Some (ap (relation_of many m) (gives_quad_set w h _ q g) ∙ inj_is);
    row_size = r.row_size ∙ many_is ∙ ap (λ n. count_below n (holds v)) is.rows;
    col_size = r.col_size;
  }

-- ---- from the root of a vector
pub root_high : (least m n bottom height : ℕ) → bottom ≡ least → height ≡ height_over least m n → least + (height - bottom) ≡ height_over least m n
root_high least m n bottom height b e = let l = height_over-low least m n in omega (arith, b, e, l)

pub root_count : (o : Worker) (many h : ℕ) (f : Cells) (vector : Quad) → vector.height ≡ h → quad_set o vector ≡ f → many ≡ count_below (2 ^ vector.height) (first_column (quad_set o vector)) → many ≡ count_below (2 ^ h) (first_column f)
root_count o many h f vector e s n = n ∙ ap (λ k. count_below (2 ^ k) (first_column (quad_set o vector))) e ∙ ap (λ g. count_below (2 ^ h) (first_column g)) s
