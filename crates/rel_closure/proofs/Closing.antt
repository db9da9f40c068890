-- The identity and the closures, from what a worker answers on the way.
-- 1. The identity is the union of its halves, down to single pairs.
-- 2. A square united with its relation has the walks of twice as many steps; where it adds no pair, or has as many steps as there are elements, it is the transitive closure.
-- 3. The rooms of the calls add up: at most 2 n of single pairs and unions for the identity, and one composition and one union for each binary digit of n for the closure.
use Rattle.std.proofs.Common.{◌≡◌, ◌≢◌, ◌<◌, ◌≤◌, ◌+◌, ◌-◌, ◌*◌, ◌/◌, ◌^◌, ◌∙◌, ◌&&◌, ltb, leb, eqb, max, suc, ℕ, true, Some, refl, sym, ap, subst, inl, inr, arith}
use Rattle.std.proofs.lemmas.Bool.{cases_lt, and_parts, and_from, eqb-true, eq-eqb, ltb-true, lt-ltb, leb-true, le-leb}
use Rattle.std.proofs.lemmas.Nat.{mul-pow}
use Rattle.std.proofs.Math.Nat.{pow-suc, mul-le-mul, pow-le-pow_right}
use Rattle.rel_model.specs.declared.Rel.{Rel}
use Rattle.rel_model.specs.Relation.{Relation, has, size_limit}
use Rattle.rel_model.specs.Operators.{empty, single, union, compose, identity}
use Rattle.rel_model.specs.Closures.{walks_within, transitive_closure, reflexive_closure}
use Rattle.rel_model.specs.Algebra.{HasType}
use Rattle.rel_model.specs.Worker.{Worker, Stands, set_of, Gives, Keeps, height_of, operator_room, derived_room, wide_room, height_of_three, product_room}
use Rattle.rel_model.proofs.Somes.{same_truth}
use Rattle.rel_model.proofs.Workers.{stands_some, gives_set, gives_stands, keeps_set, keeps_gives, keeps_trans}
use Rattle.rel_model.proofs.Relations.{relation_of-agree}
use Rattle.rel_model.proofs.Members.{inside, type-test, in_test, from_test, one_relation, type-union, in_union, left_union, right_union}
use Rattle.rel_model.proofs.Heights.{height_of-covers}
use Rattle.rel_steps.proofs.Rooms.{as_high}
use Rattle.rel_model.proofs.Rooms.{derived_room-least, wide_room-four, product_room-most, operator_room-most}
use Rattle.rel_model.proofs.Walking.{walks_within-one, walks_within-double, walks_within-enough, walks_within-still, reflexive-union}
use Rattle.rel_closure.specs.Diagonal.{diagonal}

distrib : (a b x : ℕ) → (a + b) * x ≡ a * x + b * x
distrib a b x = omega arith

-- ---- the identity
type-diagonal : (n a k : ℕ) → HasType n n (diagonal n a k)
unfolding diagonal
type-diagonal n a k = type-test n n n n _ refl refl

-- a pair (i, i) with i from a on
record OnDiagonal (a k i j : ℕ) : Type 0 where
  same : i ≡ j
  from : a ≤ i
  below : i < a + k

in_diagonal : (n a k i j : ℕ) → has (diagonal n a k) i j ≡ true → OnDiagonal a k i j
unfolding diagonal
in_diagonal n a k i j h =
    let p = and_parts _ _ (in_test n n n n (λ i j. eqb i j && (leb a i && ltb i (a + k))) refl refl i j h) in
    let q = and_parts _ _ p.1 in
    record { same = eqb-true i j p.0; from = leb-true a i q.0; below = ltb-true i (a + k) q.1 }

from_diagonal : (n a k i j : ℕ) → i < n → OnDiagonal a k i j → has (diagonal n a k) i j ≡ true
unfolding diagonal
from_diagonal n a k i j l d =
    from_test n n n n (λ i j. eqb i j && (leb a i && ltb i (a + k))) refl refl i j l (subst (λ (x : ℕ). x < n) d.same l)
    (and_from (eqb i j) _ (eq-eqb i j d.same) (and_from (leb a i) _ (le-leb a i d.from) (lt-ltb i (a + k) d.below)))

pub single-diagonal : (n a k : ℕ) → k ≡ 1 → single n n a a ≡ diagonal n a k
unfolding single diagonal
single-diagonal n a k e = relation_of-agree n n _ _ (λ i j l m. same_truth (eqb i a && eqb j a) (eqb i j && (leb a i && ltb i (a + k)))
    (λ h. let p = and_parts _ _ h in let x = eqb-true i a p.0 in let y = eqb-true j a p.1 in
    and_from (eqb i j) _ (eq-eqb i j (omega (arith, x, y))) (and_from (leb a i) _ (le-leb a i (omega (arith, x))) (lt-ltb i (a + k) (omega (arith, x, e)))))
    (λ h. let p = and_parts _ _ h in let q = and_parts _ _ p.1 in let x = eqb-true i j p.0 in let y = leb-true a i q.0 in let z = ltb-true i (a + k) q.1 in
    and_from (eqb i a) (eqb j a) (eq-eqb i a (omega (arith, x, y, z, e))) (eq-eqb j a (omega (arith, x, y, z, e)))))

-- two stretches of the diagonal, one behind the other, are one: each of its pairs lies before the place where they
-- meet or from there on
diagonal-halves : (n a k m : ℕ) → union (diagonal n a k) (diagonal n (a + k) m) ≡ diagonal n a (k + m)
diagonal-halves n a k m =
    let x = type-diagonal n a k in
    let y = type-diagonal n (a + k) m in
    let z = type-diagonal n a (k + m) in
    one_relation n n _ _ (type-union n n (diagonal n a k) (diagonal n (a + k) m) x) z
    (λ i j h. elim (in_union n n (diagonal n a k) (diagonal n (a + k) m) x i j h) [
      | inl p ↦ let w = inside n n (diagonal n a k) x i j p in let d = in_diagonal n a k i j p in let u = d.below in from_diagonal n a (k + m) i j w.row (record { same = d.same; from = d.from; below = omega (arith, u) })
      | inr p ↦ let w = inside n n (diagonal n (a + k) m) y i j p in let d = in_diagonal n (a + k) m i j p in let t = d.from in let u = d.below in from_diagonal n a (k + m) i j w.row (record { same = d.same; from = omega (arith, t); below = omega (arith, u) })
    ])
    (λ i j h. let w = inside n n (diagonal n a (k + m)) z i j h in let d = in_diagonal n a (k + m) i j h in let t = d.from in let u = d.below in
    elim (cases_lt i (a + k)) [
      | inl l ↦ left_union n n (diagonal n a k) (diagonal n (a + k) m) x i j (from_diagonal n a k i j w.row (record { same = d.same; from = t; below = l }))
      | inr g ↦ right_union n n (diagonal n a k) (diagonal n (a + k) m) x y i j (from_diagonal n (a + k) m i j w.row (record { same = d.same; from = g; below = omega (arith, u) }))
    ])

pub diagonal-all : (n : ℕ) → diagonal n 0 n ≡ identity n
unfolding diagonal identity
diagonal-all n = relation_of-agree n n _ _ (λ i j l m. same_truth (eqb i j && (leb 0 i && ltb i (0 + n))) (eqb i j)
    (λ h. (and_parts _ _ h).0)
    (λ h. and_from (eqb i j) _ h (and_from (leb 0 i) _ (le-leb 0 i (omega arith)) (lt-ltb i (0 + n) (omega (arith, l))))))

-- no element has no pair
pub empty-identity : (n : ℕ) → n ≡ 0 → empty n n ≡ identity n
unfolding empty identity
empty-identity n e = relation_of-agree n n _ _ (λ i j l m. absurd (omega (arith, l, e)))

pub halves_given : (w1 w2 w3 : Worker) (n a k count : ℕ) (left right both : Rel) → k ≤ count → Keeps w1 w2 → Gives w1 n n (diagonal n a k) left → Gives w2 n n (diagonal n (a + k) (count - k)) right
    → Gives w3 left.rows left.cols (union (set_of w2 left) (set_of w2 right)) both → Gives w3 n n (diagonal n a count) both
halves_given w1 w2 w3 n a k count left right both l s g h u =
    let e : k + (count - k) ≡ count = omega (arith, l) in
    record {
      means = u.means ∙ ap Some (ap (λ x. union x (set_of w2 right)) (keeps_set w1 w2 left s (gives_stands w1 n n _ left g) ∙ gives_set w1 n n _ left g) ∙ ap (union (diagonal n a k)) (gives_set w2 n n _ right h) ∙ diagonal-halves n a k (count - k) ∙ ap (diagonal n a) e);
      row_size = u.row_size ∙ g.row_size;
      col_size = u.col_size ∙ g.col_size;
    }

-- the value of an answer in other words
pub gives_as : (w : Worker) (m n : ℕ) (a b : Relation) (r : Rel) → a ≡ b → Gives w m n a r → Gives w m n b r
gives_as w m n a b r e g = subst (λ v. Gives w m n v r) e g

pub reflexive_given : (w0 w1 w2 : Worker) (r same both : Rel) → HasType r.rows r.rows (set_of w0 r) → Stands w0 r → Keeps w0 w1 → Gives w1 r.rows r.rows (identity r.rows) same
    → Gives w2 r.rows r.cols (union (set_of w1 r) (set_of w1 same)) both → Gives w2 r.rows r.cols (reflexive_closure (set_of w0 r)) both
reflexive_given w0 w1 w2 r same both t s k g u =
    gives_as w2 r.rows r.cols _ _ both (ap (λ x. union x (set_of w1 same)) (keeps_set w0 w1 r k s) ∙ ap (union (set_of w0 r)) (gives_set w1 _ _ _ same g) ∙ sym (reflexive-union r.rows (set_of w0 r) t)) u

-- ---- the transitive closure
pub squared_given : (w1 w2 w3 : Worker) (m : ℕ) (R : Relation) (r walks square more : Rel) → HasType r.rows r.rows R → 0 < m → Gives w1 r.rows r.cols (walks_within m R) walks → Keeps w1 w2
    → Gives w2 walks.rows walks.cols (compose (set_of w1 walks) (set_of w1 walks)) square → Gives w3 walks.rows walks.cols (union (set_of w2 walks) (set_of w2 square)) more → Gives w3 r.rows r.cols (walks_within (m + m) R) more
squared_given w1 w2 w3 m R r walks square more t z g k h u =
    let W : Relation = walks_within m R in
    let e1 : set_of w1 walks ≡ W = gives_set w1 _ _ W walks g in
    let e2 : set_of w2 walks ≡ W = keeps_set w1 w2 walks k (gives_stands w1 _ _ W walks g) ∙ e1 in
    let e3 : set_of w2 square ≡ compose W W = gives_set w2 _ _ _ square h ∙ ap (λ x. compose x x) e1 in
    record {
      means = u.means ∙ ap Some (ap (λ x. union x (set_of w2 square)) e2 ∙ ap (union W) e3 ∙ walks_within-double r.rows m R t z);
      row_size = u.row_size ∙ g.row_size;
      col_size = u.col_size ∙ g.col_size;
    }

-- a square that added no pair
pub still_given : (w1 w2 w3 : Worker) (m : ℕ) (R : Relation) (r walks more : Rel) → HasType r.rows r.rows R → 0 < m → Gives w1 r.rows r.cols (walks_within m R) walks → Keeps w1 w2 → Keeps w2 w3
    → Gives w3 r.rows r.cols (walks_within (m + m) R) more → set_of w3 walks ≡ set_of w3 more → Gives w3 r.rows r.cols (transitive_closure R) walks
still_given w1 w2 w3 m R r walks more t z g k l h e =
    let v = keeps_gives w1 w3 r.rows r.cols (walks_within m R) walks (keeps_trans w1 w2 w3 k l) g in
    gives_as w3 r.rows r.cols _ _ walks (walks_within-still r.rows m R t z (sym (gives_set w3 _ _ _ walks v) ∙ e ∙ gives_set w3 _ _ _ more h)) v

-- the walks of twice as many steps are the closure too
pub still_enough : (w1 w2 w3 : Worker) (m : ℕ) (R : Relation) (r walks more : Rel) → HasType r.rows r.rows R → 0 < m → Gives w1 r.rows r.cols (walks_within m R) walks → Keeps w1 w2 → Keeps w2 w3
    → Gives w3 r.rows r.cols (walks_within (m + m) R) more → set_of w3 walks ≡ set_of w3 more → transitive_closure R ≡ walks_within (m + m) R
still_enough w1 w2 w3 m R r walks more t z g k l h e =
    let v = keeps_gives w1 w3 r.rows r.cols (walks_within m R) walks (keeps_trans w1 w2 w3 k l) g in
    let s : walks_within m R ≡ walks_within (m + m) R = sym (gives_set w3 _ _ _ walks v) ∙ e ∙ gives_set w3 _ _ _ more h in
    sym (walks_within-still r.rows m R t z s) ∙ s

-- as many steps as there are elements
pub enough_given : (w : Worker) (m : ℕ) (R : Relation) (r walks : Rel) → HasType r.rows r.rows R → r.rows ≤ m → Gives w r.rows r.cols (walks_within m R) walks → Gives w r.rows r.cols (transitive_closure R) walks
enough_given w m R r walks t l g = gives_as w r.rows r.cols _ _ walks (walks_within-enough r.rows m R t l) g

-- the relation itself has the walks of one step
pub first_given : (w : Worker) (r : Rel) → HasType r.rows r.rows (set_of w r) → Stands w r → Gives w r.rows r.cols (walks_within 1 (set_of w r)) r
first_given w r t s = record { means = stands_some w r s ∙ ap Some (sym (walks_within-one r.rows (set_of w r) t)); row_size = refl; col_size = refl }

-- ---- rooms
-- both halves and their union
halves_room : (a b count x : ℕ) → 0 < a → 0 < b → a + b ≡ count → (a + a - 1) * x + (b + b - 1) * x + x ≤ (count + count - 1) * x
halves_room a b count x p q e =
    let one : count + count - 1 ≡ (a + a - 1) + (b + b - 1) + 1 = omega (arith, p, q, e) in
    let f : (count + count - 1) * x ≡ ((a + a - 1) + (b + b - 1) + 1) * x = ap (λ (y : ℕ). y * x) one in
    let g = distrib ((a + a - 1) + (b + b - 1)) 1 x in
    let h = distrib (a + a - 1) (b + b - 1) x in
    omega (arith, f, g, h)

pub part_room : (n count x y : ℕ) → 0 < count → count ≢ 1 → x ≡ n → y ≡ n → let half = count / 2 in let rest = count - count / 2 in
    (half + half - 1) * operator_room n n + (rest + rest - 1) * operator_room n n + operator_room x y ≤ (count + count - 1) * operator_room n n
part_room n count x y some more a b =
    let r = halves_room (count / 2) (count - count / 2) count (operator_room n n) (omega (arith, some, more)) (omega (arith, some, more)) (omega arith) in
    let same : operator_room x y ≡ operator_room n n = ap (λ (m : ℕ). operator_room m y) a ∙ ap (operator_room n) b in
    omega (arith, r, same)

-- the identity and a union
pub reflexive_rooms : (n c : ℕ) → n ≡ c → derived_room n n n + operator_room n c ≤ wide_room n n n
reflexive_rooms n c e =
    let h : ℕ = height_of_three n n n in
    let u = operator_room-most n c h (omega arith) (as_high c n h (sym e) (omega arith)) in
    omega (arith, u, derived_room-least n n n, wide_room-four n n n)

-- twice as many operators as elements
pub identity_room : (n : ℕ) → n ≤ size_limit → (n + n - 1) * operator_room n n ≤ derived_room n n n
unfolding operator_room
identity_room n l =
    let h : ℕ = height_of n in
    let p = height_of-covers n l in
    let least : 64 * 8 ^ h ≤ derived_room n n n = subst (λ (x : ℕ). 64 * 8 ^ x ≤ derived_room n n n) (let e : height_of_three n n n ≡ h = omega arith in e) (derived_room-least n n n) in
    let m : (n + n - 1) * (4 * 4 ^ max h h) ≤ (2 * 2 ^ h) * (4 * 4 ^ h) = mul-le-mul {n₁ = n + n - 1} {n₂ = 2 * 2 ^ h} (omega (arith, p)) (let e : max h h ≡ h = omega arith in subst (λ (x : ℕ). 4 * 4 ^ x ≤ 4 * 4 ^ h) (sym e) (omega arith)) in
    let q : 8 ^ h ≡ 2 ^ h * 4 ^ h = mul-pow 2 4 h in
    let s : (2 * 2 ^ h) * (4 * 4 ^ h) ≡ 8 * (2 ^ h * 4 ^ h) = omega arith in
    omega (arith, least, m, q, s)

-- one more composition and union
pub round_room : (d h old now mid new : ℕ) → now ≤ old + d * (20 * 8 ^ h) → mid ≤ now + 16 * 8 ^ h → new ≤ mid + 4 * 8 ^ h → new ≤ old + (d + 1) * (20 * 8 ^ h)
round_room d h old now mid new a b c = let e = distrib d 1 (20 * 8 ^ h) in omega (arith, a, b, c, e)

-- at most as many rounds as the height
pub rounds_room : (d n : ℕ) → d ≤ height_of n → d * (20 * 8 ^ height_of n) ≤ derived_room n n n
unfolding derived_room
rounds_room d n l =
    let h : ℕ = height_of n in
    let m : d * (20 * 8 ^ h) ≤ h * (20 * 8 ^ h) = mul-le-mul {n₁ = d} {n₂ = h} l (omega arith) in
    let f : 64 * (height_of_three n n n + 1) * 8 ^ height_of_three n n n ≡ 64 * (h + 1) * 8 ^ h = ap (λ (x : ℕ). 64 * (x + 1) * 8 ^ x) (let e : height_of_three n n n ≡ h = omega arith in e) in
    let s : 64 * (h + 1) * 8 ^ h ≡ 64 * (h * 8 ^ h) + 64 * 8 ^ h = omega arith in
    let t : h * (20 * 8 ^ h) ≡ 20 * (h * 8 ^ h) = omega arith in
    omega (arith, m, f, s, t)

-- a power below the size is one of a lower height
pub fewer_rounds : (d n : ℕ) → n ≤ size_limit → 2 ^ d < n → d + 1 ≤ height_of n
fewer_rounds d n l p = elim (cases_lt d (height_of n)) [
  | inl b ↦ omega (arith, b)
  | inr g ↦ let q = height_of-covers n l in let u = pow-le-pow_right {n = 2} (omega arith) {i = height_of n} {j = d} g in absurd (omega (arith, p, q, u))
]

-- what one more round has room for
pub record Round (d n : ℕ) (rows cols : ℕ) : Type 0 where
  pub fewer : d + 1 ≤ height_of n
  pub next : (old now mid new : ℕ) → now ≤ old + d * (20 * 8 ^ height_of n) → mid ≤ now + product_room rows cols cols → new ≤ mid + operator_room rows cols → new ≤ old + (d + 1) * (20 * 8 ^ height_of n)
  pub room : (old now mid new : ℕ) → now ≤ old + d * (20 * 8 ^ height_of n) → mid ≤ now + product_room rows cols cols → new ≤ mid + operator_room rows cols → new ≤ old + derived_room n n n

-- while the walks reach fewer steps than there are elements one more round has room: each round doubles the steps, so
-- there were fewer rounds than the height of n
pub round_of : (d n reach rows cols : ℕ) → n ≤ size_limit → 2 ^ d ≡ reach → reach < n → rows ≡ n → cols ≡ n → Round d n rows cols
round_of d n reach rows cols limit power under er ec =
    let h : ℕ = height_of n in
    let fewer = fewer_rounds d n limit (omega (arith, power, under)) in
    let wr = as_high rows n h er (omega arith) in
    let wc = as_high cols n h ec (omega arith) in
    let u1 = product_room-most rows cols cols h wr wc wc in
    let u2 = operator_room-most rows cols h wr wc in
    let all = rounds_room (d + 1) n fewer in
    record {
      fewer = fewer;
      next = λ old now mid new a b c. round_room d h old now mid new a (omega (arith, b, u1)) (omega (arith, c, u2));
      room = λ old now mid new a b c. let r = round_room d h old now mid new a (omega (arith, b, u1)) (omega (arith, c, u2)) in omega (arith, r, all);
    }

-- one more step doubles
pub next_power : (old steps reach : ℕ) → old ≤ steps → 2 ^ (steps - old) ≡ reach → 2 ^ (steps + 1 - old) ≡ reach + reach
next_power old steps reach l e =
    let f : steps + 1 - old ≡ suc (steps - old) = omega (arith, l) in
    let p = pow-suc 2 (steps - old) in
    ap (λ (x : ℕ). 2 ^ x) f ∙ (let q : 2 ^ suc (steps - old) ≡ reach + reach = omega (arith, p, e) in q)
