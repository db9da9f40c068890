-- Single operations are refused for sizes alone, one after the other; and parts of lists of faults that are empty.
use Rattle.std.proofs.Common.{◌≡◌, ◌==◌, ◌+◌, ◌*◌, ◌-◌, ◌^◌, ◌++◌, ◌&&◌, ℕ, max, min, nat_lt, Bool, true, false, cond, List, [], ◌∷◌, codes, Option, Some, None, refl}
use Rattle.lang_model.specs.declared.syntax.Place.{Place}
use Rattle.lang_model.specs.declared.syntax.Base.{Base}
use Rattle.lang_model.specs.declared.syntax.Base.TheVariants.{L, O, I, Ln1, On1, L1n, O1n, Dom, Ran, Trans, Refl, Epsi, Point, Atom, Init, Next, Inj, Empty, Unival}
use Rattle.lang_model.specs.declared.syntax.Base.TheVariants.{Less, Hasse, Quot, Syq, Eq, Incl, Ubd, Lbd, Least, Greatest, Sup, Inf, P1, P2, I1, I2}
use Rattle.lang_model.specs.declared.syntax.Op2.{Op2}
use Rattle.lang_model.specs.declared.faults.TypeFault.{TypeFault}
use Rattle.lang_model.specs.declared.faults.TypeFault.TheVariants.{Mismatch, NotSquare, NotVector, NotTest}
use Rattle.lang_model.specs.declared.faults.StaticShape.{StaticShape}
use Rattle.rel_model.specs.Relation.{Relation, has, size_limit}
use Rattle.rel_model.specs.Domains.{pairing, first_projection, second_projection, left_injection, right_injection}
use Rattle.lang_model.specs.Rooms.{wide_cost, link_cost}
use Rattle.lang_model.specs.Missing.{first_of_both}
use Rattle.lang_model.specs.Outcomes.{Size, Answer, Got, Not, Came, following, Operation, Makes, Refuses, with_turns}
use Rattle.lang_model.specs.BaseNames.{base_text}
use Rattle.lang_model.specs.Types.{Fits, Misfit, sizes, type_of, computed_of_two, agree, may_be, takes, square, vector, typed_base, typed_base_of_two}
use Rattle.lang_model.specs.Mean.{fitting, limited, base_made, base_wants, base_made_of_two, based, linked, result_of_both, complemented, turned, paired, domain_made, where_fitting, tested}
use Rattle.rv_eval.specs.Faultless.{IllBySizes}

-- ---- answers
-- a value of which this holds, or a refusal by sizes
abbrev pub Good : {T : Type 0} → (T → Type 0) → Answer T → Type 0
Good P (Got x n) = P x
Good P (Not why) = IllBySizes why

-- no more is said of a value
abbrev pub Any : {T : Type 0} → T → Type 0
Any x = Unit {0}

pub then_good : {T U : Type 0} (P : T → Type 0) (Q : U → Type 0) (a : Answer T) (next : T → ℕ → Came U) → Good P a → ((x : T) (n : ℕ) → P x → Good Q (next x n).answer) → Good Q (following a next).answer
then_good P Q (Got x n) next h k = k x n h
then_good P Q (Not why) next h k = h

-- ---- single operations
limited-good : (at : Place) (wanted : ℕ) (o : Operation) (n : ℕ) → Good Any (with_turns o n).answer → Good Any (with_turns (limited at wanted o) n).answer
limited-good at wanted o n h = by (nat_lt size_limit wanted)
  where
    by : (b : Bool) → Good Any (with_turns (cond b (Refuses (Size at (min wanted (2 ^ 64 - 1)))) o) n).answer
    by true = tt
    by false = h

square-good : (at : Place) (base : Base) (s : StaticShape) (o : Operation) (n : ℕ) → Good Any (with_turns o n).answer → Good Any (with_turns (fitting (square at base s) o) n).answer
square-good at base s o n h = by (agree s.rows s.cols)
  where
    by : (b : Bool) → Good Any (with_turns (fitting (cond b (Fits (type_of (first_of_both s.rows s.cols) (first_of_both s.rows s.cols))) (Misfit (NotSquare at (base_text base) s))) o) n).answer
    by true = h
    by false = tt

vector-good : (at : Place) (base : Base) (s t : StaticShape) (o : Operation) (n : ℕ) → Good Any (with_turns o n).answer → Good Any (with_turns (fitting (vector at base s t) o) n).answer
vector-good at base s t o n h = by (may_be 1 s.cols)
  where
    by : (b : Bool) → Good Any (with_turns (fitting (cond b (Fits t) (Misfit (NotVector at (base_text base) s))) o) n).answer
    by true = h
    by false = tt

-- what a base call makes, where its operand fits
abbrev made : Place → Base → Relation → Operation
made at base r = limited at (base_wants base r) (base_made base r)

side-good : (b : Bool) (t : StaticShape) (at : Place) (op : List ℕ) (s : StaticShape) (o : Operation) (n : ℕ) → Good Any (with_turns o n).answer → Good Any (with_turns (fitting (cond b (Fits t) (Misfit (NotSquare at op s))) o) n).answer
side-good true t at op s o n h = h
side-good false t at op s o n h = tt

-- a base call of one operand is refused for its sizes alone, one base name after the other
base-good : (at : Place) (r : Relation) (n : ℕ) (base : Base) → Good Any (with_turns (fitting (typed_base at base (sizes r)) (limited at (base_wants base r) (base_made base r))) n).answer
base-good at r n L = tt
base-good at r n O = tt
base-good at r n I = square-good at I (sizes r) (made at I r) n (limited-good at (base_wants I r) (base_made I r) n tt)
base-good at r n Ln1 = tt
base-good at r n On1 = tt
base-good at r n L1n = tt
base-good at r n O1n = tt
base-good at r n Dom = tt
base-good at r n Ran = tt
base-good at r n Trans = square-good at Trans (sizes r) (made at Trans r) n (limited-good at (base_wants Trans r) (base_made Trans r) n tt)
base-good at r n Refl = square-good at Refl (sizes r) (made at Refl r) n (limited-good at (base_wants Refl r) (base_made Refl r) n tt)
base-good at r n Epsi = vector-good at Epsi (sizes r) _ (made at Epsi r) n (limited-good at (base_wants Epsi r) (base_made Epsi r) n tt)
base-good at r n Point = vector-good at Point (sizes r) _ (made at Point r) n (limited-good at (base_wants Point r) (base_made Point r) n tt)
base-good at r n Atom = tt
base-good at r n Init = vector-good at Init (sizes r) _ (made at Init r) n (limited-good at (base_wants Init r) (base_made Init r) n tt)
base-good at r n Next = vector-good at Next (sizes r) _ (made at Next r) n (limited-good at (base_wants Next r) (base_made Next r) n tt)
base-good at r n Inj = vector-good at Inj (sizes r) _ (made at Inj r) n (limited-good at (base_wants Inj r) (base_made Inj r) n tt)
base-good at r n Empty = tt
base-good at r n Unival = tt
base-good at r n Less = square-good at Less (sizes r) (made at Less r) n (limited-good at (base_wants Less r) (base_made Less r) n tt)
base-good at r n Hasse = square-good at Hasse (sizes r) (made at Hasse r) n (limited-good at (base_wants Hasse r) (base_made Hasse r) n tt)
base-good at r n Quot = side-good (r.rows == r.cols) (type_of (Some r.rows) None) at _ (sizes r) (made at Quot r) n (limited-good at (base_wants Quot r) (base_made Quot r) n tt)
base-good at r n Syq = tt
base-good at r n Eq = tt
base-good at r n Incl = tt
base-good at r n Ubd = tt
base-good at r n Lbd = tt
base-good at r n Least = tt
base-good at r n Greatest = tt
base-good at r n Sup = tt
base-good at r n Inf = tt
base-good at r n P1 = tt
base-good at r n P2 = tt
base-good at r n I1 = tt
base-good at r n I2 = tt

two-good : (b : Bool) (f : StaticShape) (at : Place) (op : List ℕ) (s t : StaticShape) (o : Operation) (n : ℕ) → Good Any (with_turns o n).answer → Good Any (with_turns (fitting (cond b (Fits f) (Misfit (Mismatch at op s t))) o) n).answer
two-good true f at op s t o n h = h
two-good false f at op s t o n h = tt

bounds-good : (b c : Bool) (f : StaticShape) (at : Place) (op : List ℕ) (s t : StaticShape) (o : Operation) (n : ℕ) → Good Any (with_turns o n).answer
    → Good Any (with_turns (fitting (cond b (cond c (Fits f) (Misfit (Mismatch at op s t))) (Misfit (NotSquare at op s))) o) n).answer
bounds-good true true f at op s t o n h = h
bounds-good true false f at op s t o n h = tt
bounds-good false c f at op s t o n h = tt

base-good-of_two : (at : Place) (r q : Relation) (n : ℕ) (base : Base) → Good Any (with_turns (fitting (typed_base_of_two at base (sizes r) (sizes q)) (base_made_of_two base r q)) n).answer
base-good-of_two at r q n Syq = two-good (r.rows == q.rows) _ at _ _ _ (base_made_of_two Syq r q) n tt
base-good-of_two at r q n Eq = two-good ((r.rows == q.rows) && (r.cols == q.cols)) _ at _ _ _ (base_made_of_two Eq r q) n tt
base-good-of_two at r q n Incl = two-good ((r.rows == q.rows) && (r.cols == q.cols)) _ at _ _ _ (base_made_of_two Incl r q) n tt
base-good-of_two at r q n Ubd = bounds-good (r.rows == r.cols) (r.rows == q.rows) _ at _ _ _ (base_made_of_two Ubd r q) n tt
base-good-of_two at r q n Lbd = bounds-good (r.rows == r.cols) (r.rows == q.rows) _ at _ _ _ (base_made_of_two Lbd r q) n tt
base-good-of_two at r q n Least = bounds-good (r.rows == r.cols) (r.rows == q.rows) _ at _ _ _ (base_made_of_two Least r q) n tt
base-good-of_two at r q n Greatest = bounds-good (r.rows == r.cols) (r.rows == q.rows) _ at _ _ _ (base_made_of_two Greatest r q) n tt
base-good-of_two at r q n Sup = bounds-good (r.rows == r.cols) (r.rows == q.rows) _ at _ _ _ (base_made_of_two Sup r q) n tt
base-good-of_two at r q n Inf = bounds-good (r.rows == r.cols) (r.rows == q.rows) _ at _ _ _ (base_made_of_two Inf r q) n tt
base-good-of_two at r q n base = tt

pub based-good : (at : Place) (base : Base) (rs : List Relation) (n : ℕ) → Good Any (with_turns (based at base rs) n).answer
unfolding based
based-good at base [] n = tt
based-good at base (r ∷ []) n = base-good at r n base
based-good at base (r ∷ q ∷ []) n = base-good-of_two at r q n base
based-good at base (r ∷ q ∷ p ∷ rs) n = tt

pub linked-good : (at : Place) (op : Op2) (r q : Relation) (n : ℕ) → Good Any (with_turns (linked at op r q) n).answer
unfolding linked
linked-good at op r q n = two-good (takes op (sizes r) (sizes q)) _ at _ _ _ (Makes (result_of_both op r q) (link_cost op r q)) n tt

pub complemented-good : (r : Relation) (n : ℕ) → Good Any (with_turns (complemented r) n).answer
unfolding complemented
complemented-good r n = tt

pub turned-good : (times : ℕ) (r : Relation) (n : ℕ) → Good Any (with_turns (turned times r) n).answer
unfolding turned
turned-good times r n = tt

pub paired-good : (at : Place) (r q : Relation) (n : ℕ) → Good Any (with_turns (paired at r q) n).answer
unfolding paired
paired-good at r q n = by (r.rows == q.rows)
  where
    by : (b : Bool) → Good Any (with_turns (fitting (cond b (Fits (type_of (Some r.rows) (computed_of_two (λ m p. m * p) (Some r.cols) (Some q.cols)))) (Misfit (Mismatch at (codes "[") (sizes r) (sizes q)))) (limited at (r.cols * q.cols) (Makes (pairing r q) (wide_cost r.rows (max r.cols q.cols) (r.cols * q.cols))))) n).answer
    by true = limited-good at (r.cols * q.cols) (Makes (pairing r q) (wide_cost r.rows (max r.cols q.cols) (r.cols * q.cols))) n tt
    by false = tt

pub domain-good : (at : Place) (base : Base) (x y n : ℕ) → Good Any (with_turns (domain_made at base x y) n).answer
domain-good at P1 x y n = limited-good at (x * y) (Makes (first_projection x y) (wide_cost x y (x * y))) n tt
domain-good at P2 x y n = limited-good at (x * y) (Makes (second_projection x y) (wide_cost x y (x * y))) n tt
domain-good at I1 x y n = limited-good at (x + y) (Makes (left_injection x y) (wide_cost x y (x + y))) n tt
domain-good at base x y n = limited-good at (x + y) (Makes (right_injection x y) (wide_cost x y (x + y))) n tt

pub tested-good : (at : Place) (r : Relation) (n : ℕ) → Good Any (tested at r n).answer
tested-good at r n = by (may_be 1 (Some r.rows) && may_be 1 (Some r.cols))
  where
    by : (b : Bool) → Good Any (where_fitting (cond b (Fits (sizes r)) (Misfit (NotTest at (sizes r)))) (has r 0 0) n).answer
    by true = tt
    by false = tt

-- ---- lists of faults that are empty
pub left_none : (xs ys : List TypeFault) → xs ++ ys ≡ [] → xs ≡ []
left_none [] ys h = refl
left_none (x ∷ xs) ys h = cc

pub right_none : (xs ys : List TypeFault) → xs ++ ys ≡ [] → ys ≡ []
right_none [] ys h = h
right_none (x ∷ xs) ys h = cc

pub no_fault_left : {f : TypeFault} {fs : List TypeFault} → f ∷ fs ≡ [] → ⊥
no_fault_left e = cc

pub cond_true : (b : Bool) (f : TypeFault) → cond b [] (f ∷ []) ≡ [] → b ≡ true
cond_true true f h = refl
cond_true false f h = absurd (no_fault_left h)

pub first_none : {T : Type 0} (a b : Option T) → first_of_both a b ≡ None → a ≡ None
first_none None b h = refl
first_none (Some x) b h = h

-- where neither of two faults is there, the second is not
pub second_none : {T : Type 0} (a b : Option T) → first_of_both a b ≡ None → b ≡ None
second_none None b h = h
second_none (Some x) b h = absurd (let e : Some x ≡ None = h in cc)
