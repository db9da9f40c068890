-- The types of base calls, domain operators and pairings describe their values.
use Rattle.std.proofs.Common.{◌≡◌, ◌==◌, ◌&&◌, ◌+◌, ◌*◌, ◌^◌, ◌-◌, min, max, ℕ, Bool, true, false, cond, List, [], ◌∷◌, codes, Option, Some, None, nat_lt, refl, sym, subst}
use Rattle.lang_model.specs.declared.syntax.Place.{Place}
use Rattle.lang_model.specs.declared.syntax.Base.{Base}
use Rattle.lang_model.specs.declared.syntax.Base.TheVariants.{L, O, I, Ln1, On1, L1n, O1n, Dom, Ran, Trans, Refl, Epsi, Point, Atom, Init, Next, Inj, Empty, Unival, Less, Hasse, Quot, Syq, Eq, Incl, Ubd, Lbd, Least, Greatest, Sup, Inf, P1, P2, I1, I2}
use Rattle.lang_model.specs.declared.faults.TypeFault.TheVariants.{Mismatch, NotSquare, NotVector}
use Rattle.lang_model.specs.declared.faults.StaticShape.{StaticShape}
use Rattle.rel_model.specs.Relation.{Relation, relation_of, size_limit}
use Rattle.rel_model.specs.Operators.{empty, full, identity, symmetric_quotient}
use Rattle.rel_model.specs.Choice.{point, atom, init, next, dom, ran, inj}
use Rattle.rel_model.specs.Closures.{transitive_closure, reflexive_closure, walks_within}
use Rattle.rel_model.specs.Domains.{first_projection, second_projection, left_injection, right_injection, membership, pairing}
use Rattle.rel_model.specs.Orders.{less, hasse, classes, upper_bounds, lower_bounds, least, greatest, suprema, infima}
use Rattle.rel_model.specs.Operators.{inter}
use Rattle.lang_model.specs.Rooms.{wide_cost}
use Rattle.lang_model.specs.State.{State}
use Rattle.lang_model.specs.Missing.{first_of_both}
use Rattle.lang_model.specs.Types.{known}
use Rattle.lang_model.specs.Outcomes.{Size, Cost, Makes, Refuses, with_turns}
use Rattle.lang_model.specs.BaseNames.{base_text}
use Rattle.lang_model.specs.Types.{Fits, Misfit, sizes, type_of, agree, may_be, within_limit, computed, computed_of_two, side, squared, square, bounding, vector, typed_base, typed_base_of_two, typed_pair, type_of_domain}
use Rattle.lang_model.specs.Mean.{fitting, limited, answer_of_test, base_made, base_wants, base_made_of_two, based, paired, domain_made, injected_of, injected_by}
use Rattle.lang_model.specs.Shape.{Types, typed_based, typed_injected_of, typed_injected}
use Rattle.lang_model.specs.Sound.{IsSize, Describes, Agree, CoversAt, Covers}
use Rattle.lang_model.proofs.Sizes.{one_fits}
use Rattle.lang_model.proofs.Sounding.{known_of, describes_test, AreDescribed}

limit-size : (n : ℕ) → IsSize (within_limit n) n
limit-size n = at (nat_lt size_limit n)
  where
    at : (b : Bool) → IsSize (cond b None (Some n)) n
    at true = tt
    at false = refl

computed-size : (f : ℕ → ℕ) (a : Option ℕ) (m : ℕ) → IsSize a m → IsSize (computed f a) (f m)
computed-size f None m h = tt
computed-size f (Some x) m h = subst (λ y. IsSize (within_limit (f x)) (f y)) h (limit-size (f x))

computed-size-of_two : (f : ℕ → ℕ → ℕ) (a b : Option ℕ) (m n : ℕ) → IsSize a m → IsSize b n → IsSize (computed_of_two f a b) (f m n)
computed-size-of_two f None b m n h k = tt
computed-size-of_two f (Some x) b m n h k = subst (λ y. IsSize (computed (f x) b) (f y n)) h (computed-size (f x) b n k)

-- a value within the limit, or none
limited-agree : (t : StaticShape) (v : Relation) (at : Place) (want : ℕ) (cost : Cost) (n : ℕ) → Describes t v → Agree Describes (Fits t) (with_turns (limited at want (Makes v cost)) n).answer
limited-agree t v at want cost n h = by (nat_lt size_limit want)
  where
    by : (b : Bool) → Agree Describes (Fits t) (with_turns (cond b (Refuses (Size at (min want (2 ^ 64 - 1)))) (Makes v cost)) n).answer
    by true = tt
    by false = h

vector-agree : (at : Place) (base : Base) (s t q u : StaticShape) (v : Relation) (want : ℕ) (cost : Cost) (n : ℕ) → Describes t v → Agree Describes (vector at base s t) (with_turns (fitting (vector at base q u) (limited at want (Makes v cost))) n).answer
vector-agree at base s t q u v want cost n h = by (may_be 1 s.cols) (may_be 1 q.cols)
  where
    by : (b c : Bool) → Agree Describes (cond b (Fits t) (Misfit (NotVector at (base_text base) s))) (with_turns (fitting (cond c (Fits u) (Misfit (NotVector at (base_text base) q))) (limited at want (Makes v cost))) n).answer
    by false c = tt
    by true false = tt
    by true true = limited-agree t v at want cost n h

square-agree : (at : Place) (base : Base) (s : StaticShape) (r v : Relation) (cost : Cost) (n : ℕ) → (r.rows ≡ r.cols → Describes (type_of (first_of_both s.rows s.cols) (first_of_both s.rows s.cols)) v) →
    Agree Describes (square at base s) (with_turns (fitting (square at base (sizes r)) (limited at 0 (Makes v cost))) n).answer
square-agree at base s r v cost n h = by (agree s.rows s.cols) (r.rows == r.cols) refl
  where
    by : (b c : Bool) → (r.rows == r.cols) ≡ c → Agree Describes (cond b (Fits (type_of (first_of_both s.rows s.cols) (first_of_both s.rows s.cols))) (Misfit (NotSquare at (base_text base) s)))
        (with_turns (fitting (cond c (Fits (type_of (Some r.rows) (Some r.rows))) (Misfit (NotSquare at (base_text base) (sizes r)))) (limited at 0 (Makes v cost))) n).answer
    by false c e = tt
    by true false e = tt
    by true true e = limited-agree (type_of (first_of_both s.rows s.cols) (first_of_both s.rows s.cols)) v at 0 cost n (h (one_fits r.rows r.cols e))

-- a square operand, and a type that is not that of its sizes
squared-agree : (at : Place) (base : Base) (s t : StaticShape) (r v : Relation) (f : StaticShape) (cost : Cost) (n : ℕ) → (r.rows ≡ r.cols → Describes t v) →
    Agree Describes (squared at base s (Fits t)) (with_turns (fitting (squared at base (sizes r) (Fits f)) (limited at 0 (Makes v cost))) n).answer
squared-agree at base s t r v f cost n h = by (agree s.rows s.cols) (r.rows == r.cols) refl
  where
    by : (b c : Bool) → (r.rows == r.cols) ≡ c → Agree Describes (cond b (Fits t) (Misfit (NotSquare at (base_text base) s)))
        (with_turns (fitting (cond c (Fits f) (Misfit (NotSquare at (base_text base) (sizes r)))) (limited at 0 (Makes v cost))) n).answer
    by false c e = tt
    by true false e = tt
    by true true e = limited-agree t v at 0 cost n (h (one_fits r.rows r.cols e))

-- a square operand, and one of as many rows
bounding-agree : (at : Place) (base : Base) (s t : StaticShape) (r q v : Relation) (cost : Cost) (n : ℕ) → Describes s r → Describes t q → (r.rows ≡ q.rows → v.rows ≡ r.rows) → v.cols ≡ q.cols →
    Agree Describes (bounding at base s t) (with_turns (fitting (bounding at base (sizes r) (sizes q)) (Makes v cost)) n).answer
bounding-agree at base s t r q v cost n h k rows cols = by (agree s.rows s.cols) (r.rows == r.cols) refl (agree (side s) t.rows) (r.rows == q.rows) refl
  where
    by : (b c : Bool) → (r.rows == r.cols) ≡ c → (d e : Bool) → (r.rows == q.rows) ≡ e →
        Agree Describes (cond b (cond d (Fits (type_of (first_of_both (side s) t.rows) t.cols)) (Misfit (Mismatch at (base_text base) s t))) (Misfit (NotSquare at (base_text base) s)))
        (with_turns (fitting (cond c (cond e (Fits (type_of (Some r.rows) (Some q.cols))) (Misfit (Mismatch at (base_text base) (sizes r) (sizes q)))) (Misfit (NotSquare at (base_text base) (sizes r)))) (Makes v cost)) n).answer
    by false c f d e g = tt
    by true false f false e g = tt
    by true false f true e g = tt
    by true true f false e g = tt
    by true true f true false g = tt
    by true true f true true g =
        let a : IsSize (side s) r.rows = known_of s.rows s.cols r.rows r.cols h.row_size h.col_size (one_fits r.rows r.cols f) in
        record {
          row_size = subst (IsSize (first_of_both (side s) t.rows)) (sym (rows (one_fits r.rows q.rows g))) (known_of (side s) t.rows r.rows q.rows a k.row_size (one_fits r.rows q.rows g));
          col_size = subst (IsSize t.cols) (sym cols) k.col_size;
        }

one_by_one : (b : Bool) → Describes (known 1 1) (answer_of_test b)
unfolding answer_of_test
one_by_one b = describes_test (Some 1) (Some 1) 1 1 _ refl refl

module _ (s : StaticShape) (r : Relation) (h : Describes s r) (at : Place) (n : ℕ) where
  known_twice : r.rows ≡ r.cols → IsSize (first_of_both s.rows s.cols) r.rows
  known_twice e = known_of s.rows s.cols r.rows r.cols h.row_size h.col_size e

  -- the type of a base call of one operand describes its value, base by base: each size that it knows is one of the
  -- operand's, or is computed from one as the value's own is
  base-agree : (base : Base) → Agree Describes (typed_base at base s) (with_turns (fitting (typed_base at base (sizes r)) (limited at (base_wants base r) (base_made base r))) n).answer
  unfolding full empty identity dom ran transitive_closure walks_within reflexive_closure membership point atom init next inj less hasse classes
  base-agree L = describes_test s.rows s.cols r.rows r.cols _ h.row_size h.col_size
  base-agree O = describes_test s.rows s.cols r.rows r.cols _ h.row_size h.col_size
  base-agree I = square-agree at I s r _ _ n (λ e. describes_test _ _ r.rows r.rows _ (known_twice e) (known_twice e))
  base-agree Ln1 = describes_test s.rows (Some 1) r.rows 1 _ h.row_size refl
  base-agree On1 = describes_test s.rows (Some 1) r.rows 1 _ h.row_size refl
  base-agree L1n = describes_test (Some 1) s.cols 1 r.cols _ refl h.col_size
  base-agree O1n = describes_test (Some 1) s.cols 1 r.cols _ refl h.col_size
  base-agree Dom = describes_test s.rows (Some 1) r.rows 1 _ h.row_size refl
  base-agree Ran = describes_test s.cols (Some 1) r.cols 1 _ h.col_size refl
  base-agree Trans = square-agree at Trans s r _ _ n (λ e. describes_test _ _ r.rows r.cols _ (known_twice e) (subst (IsSize (first_of_both s.rows s.cols)) e (known_twice e)))
  base-agree Refl = square-agree at Refl s r _ _ n (λ e. describes_test _ _ r.rows r.cols _ (known_twice e) (subst (IsSize (first_of_both s.rows s.cols)) e (known_twice e)))
  base-agree Epsi = vector-agree at Epsi s _ (sizes r) _ _ (2 ^ r.rows) _ n (describes_test s.rows (computed (λ m. 2 ^ m) s.rows) r.rows (2 ^ r.rows) _ h.row_size (computed-size (λ m. 2 ^ m) s.rows r.rows h.row_size))
  base-agree Point = vector-agree at Point s _ (sizes r) _ _ 0 _ n (describes_test s.rows (Some 1) r.rows 1 _ h.row_size refl)
  base-agree Atom = describes_test s.rows s.cols r.rows r.cols _ h.row_size h.col_size
  base-agree Init = vector-agree at Init s _ (sizes r) _ _ 0 _ n (describes_test s.rows (Some 1) r.rows 1 _ h.row_size refl)
  base-agree Next = vector-agree at Next s _ (sizes r) _ _ 0 _ n (describes_test s.rows (Some 1) r.rows 1 _ h.row_size refl)
  base-agree Inj = vector-agree at Inj s _ (sizes r) _ _ 0 _ n (describes_test None s.rows _ r.rows _ tt h.row_size)
  base-agree Empty = one_by_one _
  base-agree Unival = one_by_one _
  base-agree Less = square-agree at Less s r _ _ n (λ e. describes_test _ _ r.rows r.rows _ (known_twice e) (known_twice e))
  base-agree Hasse = square-agree at Hasse s r _ _ n (λ e. describes_test _ _ r.rows r.cols _ (known_twice e) (subst (IsSize (first_of_both s.rows s.cols)) e (known_twice e)))
  base-agree Quot = squared-agree at Quot s (type_of (side s) None) r _ (type_of (Some r.rows) None) _ n (λ e. describes_test _ None r.rows _ _ (known_twice e) tt)
  base-agree Syq = describes_test (Some 0) (Some 0) 0 0 _ refl refl
  base-agree Eq = describes_test (Some 0) (Some 0) 0 0 _ refl refl
  base-agree Incl = describes_test (Some 0) (Some 0) 0 0 _ refl refl
  base-agree Ubd = describes_test (Some 0) (Some 0) 0 0 _ refl refl
  base-agree Lbd = describes_test (Some 0) (Some 0) 0 0 _ refl refl
  base-agree Least = describes_test (Some 0) (Some 0) 0 0 _ refl refl
  base-agree Greatest = describes_test (Some 0) (Some 0) 0 0 _ refl refl
  base-agree Sup = describes_test (Some 0) (Some 0) 0 0 _ refl refl
  base-agree Inf = describes_test (Some 0) (Some 0) 0 0 _ refl refl
  base-agree P1 = describes_test (Some 0) (Some 0) 0 0 _ refl refl
  base-agree P2 = describes_test (Some 0) (Some 0) 0 0 _ refl refl
  base-agree I1 = describes_test (Some 0) (Some 0) 0 0 _ refl refl
  base-agree I2 = describes_test (Some 0) (Some 0) 0 0 _ refl refl

pub none_given : Describes (known 0 0) (empty 0 0)
unfolding empty
none_given = describes_test (Some 0) (Some 0) 0 0 _ refl refl

-- a test of two operands, and a value that is described where it passes
two-agree : (t : StaticShape) (v : Relation) (f : StaticShape) (cost : Cost) (n : ℕ) (b c : Bool) (k j : _) → Describes t v → Agree Describes (cond b (Fits t) (Misfit k)) (with_turns (fitting (cond c (Fits f) (Misfit j)) (Makes v cost)) n).answer
two-agree t v f cost n false c k j h = tt
two-agree t v f cost n true false k j h = tt
two-agree t v f cost n true true k j h = h

-- and so for two operands: where their sizes pass the base's test, its result has the sizes that the type tells
base-agree-of_two : (at : Place) (base : Base) (s t : StaticShape) (r q : Relation) (n : ℕ) → Describes s r → Describes t q → Agree Describes (typed_base_of_two at base s t) (with_turns (fitting (typed_base_of_two at base (sizes r) (sizes q)) (base_made_of_two base r q)) n).answer
unfolding symmetric_quotient upper_bounds lower_bounds least greatest suprema infima inter relation_of
base-agree-of_two at Syq s t r q n h k = two-agree _ _ _ _ n (agree s.rows t.rows) (r.rows == q.rows) _ _ (describes_test s.cols t.cols r.cols q.cols _ h.col_size k.col_size)
base-agree-of_two at Eq s t r q n h k = two-agree _ _ _ _ n (agree s.rows t.rows && agree s.cols t.cols) ((r.rows == q.rows) && (r.cols == q.cols)) _ _ (one_by_one _)
base-agree-of_two at Incl s t r q n h k = two-agree _ _ _ _ n (agree s.rows t.rows && agree s.cols t.cols) ((r.rows == q.rows) && (r.cols == q.cols)) _ _ (one_by_one _)
base-agree-of_two at Ubd s t r q n h k = bounding-agree at Ubd s t r q (upper_bounds r q) _ n h k (λ e. refl) refl
base-agree-of_two at Lbd s t r q n h k = bounding-agree at Lbd s t r q (lower_bounds r q) _ n h k (λ e. refl) refl
base-agree-of_two at Least s t r q n h k = bounding-agree at Least s t r q (least r q) _ n h k (λ e. sym e) refl
base-agree-of_two at Greatest s t r q n h k = bounding-agree at Greatest s t r q (greatest r q) _ n h k (λ e. sym e) refl
base-agree-of_two at Sup s t r q n h k = bounding-agree at Sup s t r q (suprema r q) _ n h k (λ e. refl) refl
base-agree-of_two at Inf s t r q n h k = bounding-agree at Inf s t r q (infima r q) _ n h k (λ e. refl) refl
base-agree-of_two at base s t r q n h k = none_given

-- by the number of operands: one and two as above, and any other number gives the relation without rows and columns
pub based-agree : (at : Place) (base : Base) (ss : List StaticShape) (rs : List Relation) (n : ℕ) → AreDescribed ss rs → Agree Describes (typed_based at base ss) (with_turns (based at base rs) n).answer
unfolding typed_based based
based-agree at base [] [] n h = none_given
based-agree at base [] (r ∷ rs) n h = absurd (let e : r ∷ rs ≡ [] = h in cc)
based-agree at base (s ∷ []) [] n h = absurd h
based-agree at base (s ∷ []) (r ∷ []) n h = base-agree s r h.0 at n base
based-agree at base (s ∷ []) (r ∷ q ∷ rs) n h = absurd (let e : q ∷ rs ≡ [] = h.1 in cc)
based-agree at base (s ∷ t ∷ []) [] n h = absurd h
based-agree at base (s ∷ t ∷ []) (r ∷ []) n h = absurd h.1
based-agree at base (s ∷ t ∷ []) (r ∷ q ∷ []) n h = base-agree-of_two at base s t r q n h.0 (let k = h.1 in k.0)
based-agree at base (s ∷ t ∷ []) (r ∷ q ∷ p ∷ rs) n h = absurd (let k = h.1 in let e : p ∷ rs ≡ [] = k.1 in cc)
based-agree at base (s ∷ t ∷ u ∷ us) [] n h = absurd h
based-agree at base (s ∷ t ∷ u ∷ us) (r ∷ []) n h = absurd h.1
based-agree at base (s ∷ t ∷ u ∷ us) (r ∷ q ∷ []) n h = absurd (let k = h.1 in k.1)
based-agree at base (s ∷ t ∷ u ∷ us) (r ∷ q ∷ p ∷ rs) n h = none_given

pub paired-agree : (at : Place) (t u : StaticShape) (r q : Relation) (n : ℕ) → Describes t r → Describes u q → Agree Describes (typed_pair at t u) (with_turns (paired at r q) n).answer
unfolding paired pairing
paired-agree at t u r q n h k = by (agree t.rows u.rows) (r.rows == q.rows) refl
  where
    by : (b c : Bool) → (r.rows == q.rows) ≡ c → Agree Describes (cond b (Fits (type_of (first_of_both t.rows u.rows) (computed_of_two (λ m p. m * p) t.cols u.cols))) (Misfit (Mismatch at (codes "[") t u)))
        (with_turns (fitting (cond c (Fits (type_of (Some r.rows) (computed_of_two (λ m p. m * p) (Some r.cols) (Some q.cols)))) (Misfit (Mismatch at (codes "[") (sizes r) (sizes q)))) (limited at (r.cols * q.cols) (Makes (pairing r q) (wide_cost r.rows (max r.cols q.cols) (r.cols * q.cols))))) n).answer
    by false c e = tt
    by true false e = tt
    by true true e = limited-agree _ (pairing r q) at (r.cols * q.cols) (wide_cost r.rows (max r.cols q.cols) (r.cols * q.cols)) n (describes_test _ _ r.rows (r.cols * q.cols) _ (known_of t.rows u.rows r.rows q.rows h.row_size k.row_size (one_fits r.rows q.rows e)) (computed-size-of_two (λ m p. m * p) t.cols u.cols r.cols q.cols h.col_size k.col_size))

module _ (at : Place) (a b : Option ℕ) (x y : ℕ) (h : IsSize a x) (k : IsSize b y) (n : ℕ) where
  domain-agree : (base : Base) → Agree Describes (Fits (type_of_domain base a b)) (with_turns (domain_made at base x y) n).answer
  unfolding first_projection second_projection left_injection right_injection
  domain-agree P1 = limited-agree _ _ at (x * y) _ n (describes_test _ a (x * y) x _ (computed-size-of_two (λ m p. m * p) a b x y h k) h)
  domain-agree P2 = limited-agree _ _ at (x * y) _ n (describes_test _ b (x * y) y _ (computed-size-of_two (λ m p. m * p) a b x y h k) k)
  domain-agree I1 = limited-agree _ _ at (x + y) _ n (describes_test a _ x (x + y) _ h (computed-size-of_two (λ m p. m + p) a b x y h k))
  domain-agree base = limited-agree _ _ at (x + y) _ n (describes_test b _ y (x + y) _ k (computed-size-of_two (λ m p. m + p) a b x y h k))

-- the type of a domain operator describes its value: both are made of the rows of its two names, whose
-- types cover their relations
pub injected-agree : (T : Types) (S : State) → Covers T S → (at : Place) (base : Base) (o : Option (List ℕ × List ℕ)) (n : ℕ) → Agree Describes (typed_injected T at base o) (with_turns (injected_by S at base o) n).answer
injected-agree T S c at base None n = tt
injected-agree T S c at base (Some names) n = by (T names.0) (T names.1) (S names.0) (S names.1) (c names.0) (c names.1)
  where
    by : (t u : Option StaticShape) (o p : Option Relation) → CoversAt t o → CoversAt u p → Agree Describes (typed_injected_of at base t u) (with_turns (injected_of at base o p) n).answer
    by (Some t) (Some u) (Some r) (Some q) h k = domain-agree at t.rows u.rows r.rows q.rows h.row_size k.row_size n base
    by (Some t) (Some u) (Some r) None h k = tt
    by (Some t) (Some u) None p h k = tt
    by None u (Some r) p h k = absurd h
    by None u None p h k = tt
    by (Some t) None o (Some q) h k = absurd k
    by (Some t) None o None h k = tt
