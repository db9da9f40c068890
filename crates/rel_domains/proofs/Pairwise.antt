-- The pairing of two relations by the projections of the product of their columns.
-- 1. A relation through the converse of a rule's has the pairs whose column is that of the rule.
-- 2. Both together are the pairing.
-- 3. Rooms.
use Rattle.std.proofs.Common.{◌≡◌, ◌<◌, ◌≤◌, ◌+◌, ◌*◌, ◌/◌, ◌%◌, ◌^◌, ◌∙◌, ◌&&◌, max, ℕ, true, Some, refl, sym, ap, subst, arith}
use Rattle.std.proofs.Math.Nat.{pow-le-pow_right}
use Rattle.std.proofs.lemmas.Bool.{and_parts, and_from, eqb-true, eq-eqb}
use Rattle.rel_model.specs.declared.Rel.{Rel}
use Rattle.rel_model.specs.Relation.{Relation, has, relation_of, size_limit}
use Rattle.rel_model.specs.Operators.{inter, compose, transpose}
use Rattle.rel_model.specs.Algebra.{HasType}
use Rattle.rel_model.specs.Domains.{pairing}
use Rattle.rel_model.specs.Worker.{Worker, Stands, set_of, Gives, Keeps, height_of, height_of_three, operator_room, product_room, derived_room}
use Rattle.rel_model.proofs.Heights.{height_of-covers, height_of-least}
use Rattle.rel_model.proofs.Members.{inside, type-test, in_test, from_test, one_relation, type-inter, in_inter, from_inter, type-transpose, in_transpose, from_transpose, type-compose, in_compose, from_compose}
use Rattle.rel_model.proofs.Rooms.{operator_room-most, product_room-most, derived_room-least}
use Rattle.rel_model.proofs.Workers.{gives_set, gives_stands, keeps_set}
use Rattle.rel_steps.proofs.Rooms.{as_high}
use Rattle.rel_domains.specs.declared.rule.Rule.{Rule}
use Rattle.rel_domains.specs.declared.rule.Rule.TheVariants.{Quotient, Remainder}
use Rattle.rel_domains.specs.Rules.{passes}
use Rattle.rel_domains.proofs.Named.{divisor}

-- ---- through a rule
module _ (m n c : ℕ) (r : Relation) (rule : Rule) (f : ℕ → ℕ) (is : (i j : ℕ) → passes rule i j ≡ true → f i ≡ j) (of : (i j : ℕ) → f i ≡ j → passes rule i j ≡ true) (t : HasType m n r) where
  abbrev ruled : Relation
  ruled = relation_of c n (passes rule)

  ruled_type : HasType c n ruled
  ruled_type = type-test c n c n (passes rule) refl refl

  turned_type : HasType n c (transpose ruled)
  turned_type = type-transpose c n ruled ruled_type

  pub through_type : HasType m c (compose r (transpose ruled))
  through_type = type-compose m n c r (transpose ruled) t turned_type

  pub in_through : (i x : ℕ) → has (compose r (transpose ruled)) i x ≡ true → has r i (f x) ≡ true
  in_through i x h =
      let p = in_compose r (transpose ruled) i x h in
      let u = in_test c n c n (passes rule) refl refl x p.at (in_transpose ruled p.at x p.second) in
      subst (λ j. has r i j ≡ true) (sym (is x p.at u)) p.first

  -- and back: an element in the column that the rule gives to x is one of the product in column x
  pub from_through : (i x : ℕ) → x < c → has r i (f x) ≡ true → has (compose r (transpose ruled)) i x ≡ true
  from_through i x l h =
      let w = inside m n r t i (f x) h in
      from_compose m n c r (transpose ruled) t turned_type i (f x) x h (from_transpose c n ruled ruled_type (f x) x (from_test c n c n (passes rule) refl refl x (f x) l w.col (of x (f x) refl)))

-- ---- the pairing
module _ (m n k c by : ℕ) (r s : Relation) (tr : HasType m n r) (ts : HasType m k s) (e : c ≡ n * k) (b : by ≡ max k 1) where
  abbrev firsts : Relation
  firsts = compose r (transpose (relation_of c n (passes (Quotient by))))

  abbrev seconds : Relation
  seconds = compose s (transpose (relation_of c k (passes (Remainder by))))

  firsts_type : HasType m c firsts
  firsts_type = through_type m n c r (Quotient by) (λ x. x / by) (λ i j h. eqb-true (i / by) j h) (λ i j h. eq-eqb (i / by) j h) tr

  seconds_type : HasType m c seconds
  seconds_type = through_type m k c s (Remainder by) (λ x. x % by) (λ i j h. eqb-true (i % by) j h) (λ i j h. eq-eqb (i % by) j h) ts

  pairing_type : HasType m c (pairing r s)
  unfolding pairing
  pairing_type = type-test r.rows (r.cols * s.cols) m c _ tr.row_size (ap (λ x. x * s.cols) tr.col_size ∙ ap (λ x. n * x) ts.col_size ∙ sym e)

  -- the divisor is the number of columns
  by_columns : (x : ℕ) → x < c → by ≡ s.cols
  by_columns x l = b ∙ divisor n k x (subst (λ y. x < y) e l) ∙ sym ts.col_size

  -- first and second columns together are the pairing: a column of the product is a quotient and a remainder
  pub pairing_is : inter firsts seconds ≡ pairing r s
  unfolding pairing
  pairing_is = one_relation m c (inter firsts seconds) (pairing r s) (type-inter m c firsts seconds firsts_type) pairing_type
      (λ i x h.
      let p = in_inter m c firsts seconds firsts_type i x h in
      let w = inside m c firsts firsts_type i x p.0 in
      let a = in_through m n c r (Quotient by) (λ y. y / by) (λ i j h. eqb-true (i / by) j h) (λ i j h. eq-eqb (i / by) j h) tr i x p.0 in
      let z = in_through m k c s (Remainder by) (λ y. y % by) (λ i j h. eqb-true (i % by) j h) (λ i j h. eq-eqb (i % by) j h) ts i x p.1 in
      let d = by_columns x w.col in
      from_test r.rows (r.cols * s.cols) m c (λ i x. has r i (x / s.cols) && has s i (x % s.cols)) tr.row_size (ap (λ x. x * s.cols) tr.col_size ∙ ap (λ x. n * x) ts.col_size ∙ sym e) i x w.row w.col
      (and_from _ _ (subst (λ y. has r i (x / y) ≡ true) d a) (subst (λ y. has s i (x % y) ≡ true) d z)))
      (λ i x h.
      let w = inside m c (pairing r s) pairing_type i x h in
      let u = in_test r.rows (r.cols * s.cols) m c (λ i x. has r i (x / s.cols) && has s i (x % s.cols)) tr.row_size (ap (λ x. x * s.cols) tr.col_size ∙ ap (λ x. n * x) ts.col_size ∙ sym e) i x h in
      let p = and_parts _ _ u in
      let d = by_columns x w.col in
      from_inter m c firsts seconds firsts_type i x
      (from_through m n c r (Quotient by) (λ y. y / by) (λ i j h. eqb-true (i / by) j h) (λ i j h. eq-eqb (i / by) j h) tr i x w.col (subst (λ y. has r i (x / y) ≡ true) (sym d) p.0))
      (from_through m k c s (Remainder by) (λ y. y % by) (λ i j h. eqb-true (i % by) j h) (λ i j h. eq-eqb (i % by) j h) ts i x w.col (subst (λ y. has s i (x % y) ≡ true) (sym d) p.1)))

-- what a worker gives
pub pairing_given : (w0 w1 w2 w3 : Worker) (m n k c by : ℕ) (r s left right both : Rel) → HasType m n (set_of w0 r) → HasType m k (set_of w0 s) → c ≡ n * k → by ≡ max k 1 → Stands w0 s → Keeps w0 w1 → Keeps w1 w2
    → Gives w1 m c (compose (set_of w0 r) (transpose (relation_of c n (passes (Quotient by))))) left
    → Gives w2 s.rows c (compose (set_of w1 s) (transpose (relation_of c k (passes (Remainder by))))) right
    → Gives w3 left.rows left.cols (inter (set_of w2 left) (set_of w2 right)) both → Gives w3 m c (pairing (set_of w0 r) (set_of w0 s)) both
pairing_given w0 w1 w2 w3 m n k c by r s left right both tr ts e b ss k0 k1 g1 g2 g3 =
    let R : Relation = set_of w0 r in
    let S : Relation = set_of w0 s in
    let e1 : set_of w2 left ≡ compose R (transpose (relation_of c n (passes (Quotient by)))) = keeps_set w1 w2 left k1 (gives_stands w1 m c _ left g1) ∙ gives_set w1 m c _ left g1 in
    let e2 : set_of w2 right ≡ compose S (transpose (relation_of c k (passes (Remainder by)))) = gives_set w2 s.rows c _ right g2 ∙ ap (λ x. compose x (transpose (relation_of c k (passes (Remainder by))))) (keeps_set w0 w1 s k0 ss) in
    record {
      means = g3.means ∙ ap Some (ap (λ x. inter x (set_of w2 right)) e1 ∙ ap (inter (compose R (transpose (relation_of c n (passes (Quotient by)))))) e2 ∙ pairing_is m n k c by R S tr ts e b);
      row_size = g3.row_size ∙ g1.row_size;
      col_size = g3.col_size ∙ g1.col_size;
    }

-- ---- rooms
-- the greater of two sizes is at least as high as either
left_height : (a b : ℕ) → a ≤ size_limit → b ≤ size_limit → height_of a ≤ height_of (max a b)
left_height a b l k = height_of-least a (height_of (max a b)) (let c = height_of-covers (max a b) (omega arith) in omega (arith, c))

right_height : (a b : ℕ) → a ≤ size_limit → b ≤ size_limit → height_of b ≤ height_of (max a b)
right_height a b l k = height_of-least b (height_of (max a b)) (let c = height_of-covers (max a b) (omega arith) in omega (arith, c))

through-most : (m n c h : ℕ) → height_of m ≤ h → height_of n ≤ h → height_of c ≤ h → 24 * 8 ^ height_of_three m n c ≤ 24 * 8 ^ h
through-most m n c h a b d = let p = pow-le-pow_right {n = 8} (omega arith) {i = height_of_three m n c} {j = h} (omega arith) in omega (arith, p)

derived-enough : (m k c : ℕ) → 52 * 8 ^ height_of_three m k c ≤ derived_room m k c
derived-enough m k c = let p = derived_room-least m k c in omega (arith, p)

-- the calls of a composition through a rule, and those of a pairing
pub through_rooms : (k n c x y z : ℕ) → x ≡ c → y ≡ n → z ≡ c → operator_room c n + operator_room x y + product_room k n z ≤ 24 * 8 ^ height_of_three k n c
through_rooms k n c x y z a b d =
    let h : ℕ = height_of_three k n c in
    let u = operator_room-most c n h (omega arith) (omega arith) in
    let v = operator_room-most x y h (as_high x c h a (omega arith)) (as_high y n h b (omega arith)) in
    let w = product_room-most k n z h (omega arith) (omega arith) (as_high z c h d (omega arith)) in
    omega (arith, u, v, w)

pub paired_rooms : (m i p q c x y : ℕ) → p ≤ size_limit → q ≤ size_limit → m ≡ i → x ≡ m → y ≡ c
    → 24 * 8 ^ height_of_three m p c + 24 * 8 ^ height_of_three i q c + operator_room x y ≤ derived_room m (max p q) c
paired_rooms m i p q c x y lp lq a b d =
    let h : ℕ = height_of_three m (max p q) c in
    let l = left_height p q lp lq in
    let r = right_height p q lp lq in
    let u = through-most m p c h (omega arith) (omega (arith, l)) (omega arith) in
    let v = through-most i q c h (as_high i m h (sym a) (omega arith)) (omega (arith, r)) (omega arith) in
    let w = operator_room-most x y h (as_high x m h b (omega arith)) (as_high y c h d (omega arith)) in
    omega (arith, u, v, w, derived-enough m (max p q) c)
