-- The closure of a list of pairs, by searches.
-- 1. A step from a listed pair along a given pair stays in the closure, which is transitive (`closing_step`).
-- 2. Once all rows are begun and all places are followed, the list has the given pairs and is closed under such steps,
--    so it has each pair that a walk joins (`walk_listed`, `closing_all`).
use Rattle.std.proofs.Common.{◌≡◌, ◌<◌, ◌≤◌, ◌+◌, ◌∙◌, ◌&&◌, eqb, zero, suc, ℕ, Bool, true, List, [], refl, sym, ap, subst, inl, inr, arith, length, get_or}
use Rattle.std.specs.List.{AllByRecursion}
use Rattle.std.proofs.lemmas.Bool.{false≢true, cases_lt, and_parts, and_from, or_cases, or_left, or_right, eqb-true, eq-eqb}
use Rattle.std.proofs.lemmas.List.{get_or_read_under}
use Rattle.std.proofs.lemmas.List.Folds.{list_any_at}
use Rattle.rel_model.specs.Algebra.{HasType}
use Rattle.rel_model.specs.Closures.{walk, transitive_closure}
use Rattle.rel_model.specs.Listed.{AreWithin, is_among}
use Rattle.rel_model.specs.Relation.{IsIncreasing, has}
use Rattle.rel_model.proofs.Grid.{all-weaker}
use Rattle.rel_model.proofs.Members.{Inside, inside, from_compose}
use Rattle.rel_model.proofs.Somes.{same_truth, some_passes}
use Rattle.rel_model.proofs.Walking.{type-closure, closure_laws}
use Rattle.rel_joins.specs.Reaches.{square_of, AreClosed, Adds, Closing}
use Rattle.rel_joins.proofs.Starts.{found}

-- ---- what is added
-- what was listed still is
still_among : {i : ℕ} {test : ℕ → Bool} {old new : List (ℕ × ℕ)} → Adds i test old new → (x y : ℕ) → is_among old x y ≡ true → is_among new x y ≡ true
still_among {i} {test} {old} {new} a x y h = a.among x y ∙ or_left (is_among old x y) (eqb x i && test y) h

added : {i : ℕ} {test : ℕ → Bool} {old new : List (ℕ × ℕ)} → Adds i test old new → (y : ℕ) → test y ≡ true → is_among new i y ≡ true
added {i} {test} {old} {new} a y h = a.among i y ∙ or_right (is_among old i y) (eqb i i && test y) (and_from _ _ (eq-eqb i i refl) h)

-- a pair at a place is among them
pub placed_among : (ps : List (ℕ × ℕ)) (s : ℕ) → s < length ps → is_among ps (get_or ps s (0, 0)).0 (get_or ps s (0, 0)).1 ≡ true
placed_among ps s l =
    let p = get_or ps s (0, 0) in
    list_any_at (λ q. eqb q.0 p.0 && eqb q.1 p.1) ps s (0, 0) l (and_from _ _ (eq-eqb p.0 p.0 refl) (eq-eqb p.1 p.1 refl))

-- ---- the closure
pub square_type : (n : ℕ) (pairs : List (ℕ × ℕ)) → AreWithin n n pairs → IsIncreasing pairs → HasType n n (square_of n pairs)
square_type n pairs w s = record { valid = record { within = w; increasing = s }; row_size = refl; col_size = refl }

-- both ends of a listed pair are elements
closing_inside : {n begun places : ℕ} {pairs listed : List (ℕ × ℕ)} → AreWithin n n pairs → IsIncreasing pairs → Closing n pairs begun places listed → (s : ℕ) → s < length listed → (get_or listed s (0, 0)).1 < n
closing_inside {n} {begun} {places} {pairs} {listed} w o c s l =
    let r = square_of n pairs in
    let p = get_or listed s (0, 0) in
    (inside n n (transitive_closure r) (type-closure n r (square_type n pairs w o)) p.0 p.1 (c.sound p.0 p.1 (placed_among listed s l))).col

pub closing_none : {n : ℕ} {pairs listed : List (ℕ × ℕ)} → listed ≡ [] → Closing n pairs 0 0 listed
closing_none {n} {pairs} {listed} e =
    subst (λ (ps : List (ℕ × ℕ)). Closing n pairs 0 0 ps) (sym e) record {
      sound = λ x y h. absurd (false≢true h);
      begins = λ x y l h. absurd (omega (arith, l));
      goes_on = λ s y l h. absurd (omega (arith, l));
      few = omega arith;
    }

-- what was followed stays followed
kept_on : {n begun places i : ℕ} {pairs old new : List (ℕ × ℕ)} {test : ℕ → Bool} → Closing n pairs begun places old → places ≤ length old → Adds i test old new
    → (s y : ℕ) → s < places → is_among pairs (get_or new s (0, 0)).1 y ≡ true → is_among new (get_or new s (0, 0)).0 y ≡ true
kept_on {n} {begun} {places} {i} {pairs} {old} {new} {test} c b a s y l h =
    let e = a.kept s (omega (arith, l, b)) in
    subst (λ (p : ℕ × ℕ). is_among new p.0 y ≡ true) (sym e)
    (still_among a (get_or old s (0, 0)).0 y (c.goes_on s y l (subst (λ (p : ℕ × ℕ). is_among pairs p.1 y ≡ true) e h)))

-- all pairs of one more row: they are in the closure
pub closing_row : {n begun places : ℕ} {pairs old new : List (ℕ × ℕ)} → AreWithin n n pairs → IsIncreasing pairs → Closing n pairs begun places old → places ≤ length old
    → Adds begun (λ y. is_among pairs begun y) old new → Closing n pairs (begun + 1) places new
closing_row {n} {begun} {places} {pairs} {old} {new} w o c b a =
    let r = square_of n pairs in
    record {
      sound = λ x y h. elim (or_cases (is_among old x y) (eqb x begun && is_among pairs begun y) (sym (a.among x y) ∙ h)) [
        | inl d ↦ c.sound x y d
        | inr d ↦ let p = and_parts _ _ d in subst (λ (z : ℕ). has (transitive_closure r) z y ≡ true) (sym (eqb-true x begun p.0)) (closure_laws.over n r (square_type n pairs w o) begun y p.1)
      ];
      begins = λ x y l h. elim (cases_lt x begun) [
        | inl d ↦ still_among a x y (c.begins x y d h)
        | inr d ↦ let e : x ≡ begun = omega (arith, d, l) in
            subst (λ (z : ℕ). is_among new z y ≡ true) (sym e) (added a y (subst (λ (z : ℕ). is_among pairs z y ≡ true) e h))
      ];
      goes_on = kept_on c b a;
      few = a.few c.few;
    }

-- a row is begun
pub row_begun : {n i place : ℕ} {pairs old new : List (ℕ × ℕ)} → AreWithin n n pairs → IsIncreasing pairs → Closing n pairs i (length old) old → place ≡ length old
    → Adds i (λ y. is_among pairs i y) old new → (place ≤ length new) × Closing n pairs (i + 1) place new
row_begun {n} {i} {place} {pairs} {old} {new} w o c e a =
    let l = a.longer in
    (omega (arith, l, e), closing_row w o (subst (λ (k : ℕ). Closing n pairs i k old) (sym e) c) (omega (arith, e)) a)

-- one more place: what its pair leads to is in the closure, since a listed pair is, and the closure is transitive
pub closing_step : {n begun places : ℕ} {pairs old new : List (ℕ × ℕ)} → AreWithin n n pairs → IsIncreasing pairs → Closing n pairs begun places old → places < length old
    → Adds (get_or old places (0, 0)).0 (λ y. is_among pairs (get_or old places (0, 0)).1 y) old new → Closing n pairs begun (places + 1) new
closing_step {n} {begun} {places} {pairs} {old} {new} w o c b a =
    let r = square_of n pairs in
    let t = square_type n pairs w o in
    let p = get_or old places (0, 0) in
    record {
      sound = λ x y h. elim (or_cases (is_among old x y) (eqb x p.0 && is_among pairs p.1 y) (sym (a.among x y) ∙ h)) [
        | inl d ↦ c.sound x y d
        | inr d ↦ (let q = and_parts _ _ d in
            let u = type-closure n r t in
            subst (λ (z : ℕ). has (transitive_closure r) z y ≡ true) (sym (eqb-true x p.0 q.0))
            (closure_laws.transitive n r t p.0 y
            (from_compose n n n (transitive_closure r) (transitive_closure r) u u p.0 p.1 y (c.sound p.0 p.1 (placed_among old places b)) (closure_laws.over n r t p.1 y q.1))))
      ];
      begins = λ x y l h. still_among a x y (c.begins x y l h);
      goes_on = λ s y l h. elim (cases_lt s places) [
        | inl d ↦ kept_on c (omega (arith, b)) a s y d h
        | inr d ↦ (let e : s ≡ places = omega (arith, d, l) in
            let k = ap (λ (z : ℕ). get_or new z (0, 0)) e ∙ a.kept places b in
            subst (λ (q : ℕ × ℕ). is_among new q.0 y ≡ true) (sym k) (added a y (subst (λ (q : ℕ × ℕ). is_among pairs q.1 y ≡ true) k h)))
      ];
      few = a.few c.few;
    }

-- the end of the pair that was read there is an element
pub read_inside : {n begun place : ℕ} {pairs listed : List (ℕ × ℕ)} (p : ℕ × ℕ) → p ≡ get_or listed place p → AreWithin n n pairs → IsIncreasing pairs → Closing n pairs begun place listed → place < length listed → p.1 < n
read_inside {n} {begun} {place} {pairs} {listed} p e w o c l =
    subst (λ (q : ℕ × ℕ). q.1 < n) (sym (get_or_read_under listed place (length listed) p (0, 0) e l refl)) (closing_inside w o c place l)

-- a place is followed, from the pair that was read there
pub place_followed : {n begun place : ℕ} {pairs old new : List (ℕ × ℕ)} (p : ℕ × ℕ) → p ≡ get_or old place p → AreWithin n n pairs → IsIncreasing pairs → Closing n pairs begun place old → place < length old
    → Adds p.0 (λ y. is_among pairs p.1 y) old new → (place + 1 ≤ length new) × Closing n pairs begun (place + 1) new
place_followed {n} {begun} {place} {pairs} {old} {new} p e w o c b a =
    let l = a.longer in
    (omega (arith, l, b), closing_step w o c b (subst (λ (q : ℕ × ℕ). Adds q.0 (λ y. is_among pairs q.1 y) old new) (get_or_read_under old place (length old) p (0, 0) e b refl) a))

-- the ends of pairs within sizes
pub ends_below : {n m : ℕ} (pairs : List (ℕ × ℕ)) → n ≡ m → AreWithin n n pairs → AllByRecursion (λ p. p.1 < m) pairs
ends_below {n} {m} pairs e w = all-weaker (λ p. (p.0 < n) × (p.1 < n)) (λ p. p.1 < m) (λ p h. subst (λ (k : ℕ). p.1 < k) e h.1) pairs w

-- a step from the end of a listed pair leads to the end of another from the same beginning
step_listed : {n begun places : ℕ} {pairs listed : List (ℕ × ℕ)} → Closing n pairs begun places listed → length listed ≤ places
    → (x z y : ℕ) → is_among listed x z ≡ true → is_among pairs z y ≡ true → is_among listed x y ≡ true
step_listed {n} {begun} {places} {pairs} {listed} c l x z y h g =
    let f = found (λ p. eqb p.0 x && eqb p.1 z) listed h in
    let b = f.below in
    let q = and_parts _ _ f.passes in
    subst (λ (i : ℕ). is_among listed i y ≡ true) (eqb-true _ x q.0)
    (c.goes_on f.place y (omega (arith, b, l)) (subst (λ (j : ℕ). is_among pairs j y ≡ true) (sym (eqb-true _ z q.1)) g))

-- so does a walk from it
walk_listed : {n begun places : ℕ} {pairs listed : List (ℕ × ℕ)} → Closing n pairs begun places listed → length listed ≤ places
    → (k x z y : ℕ) → is_among listed x z ≡ true → walk (square_of n pairs) (suc k) z y ≡ true → is_among listed x y ≡ true
walk_listed c l zero x z y h g = step_listed c l x z y h g
walk_listed {n} {begun} {places} {pairs} {listed} c l (suc k) x z y h g =
    let p = some_passes n (λ j. is_among pairs z j && walk (square_of n pairs) (suc k) j y) g in
    let q = and_parts _ _ p.passes in
    walk_listed c l k x p.at y (step_listed c l x z p.at h q.0) q.1

-- and a walk from an element
walk_begun : {n begun places : ℕ} {pairs listed : List (ℕ × ℕ)} → Closing n pairs begun places listed → length listed ≤ places
    → (k x y : ℕ) → x < begun → walk (square_of n pairs) (suc k) x y ≡ true → is_among listed x y ≡ true
walk_begun {n} {begun} {places} {pairs} {listed} c l zero x y b g = c.begins x y b g
walk_begun {n} {begun} {places} {pairs} {listed} c l (suc k) x y b g =
    let p = some_passes n (λ j. is_among pairs x j && walk (square_of n pairs) (suc k) j y) g in
    let q = and_parts _ _ p.passes in
    walk_listed c l k x p.at y (c.begins x p.at b q.0) q.1

walks_begun : {n begun places : ℕ} {pairs listed : List (ℕ × ℕ)} → Closing n pairs begun places listed → length listed ≤ places
    → (steps x y : ℕ) → x < begun → walk (square_of n pairs) steps x y ≡ true → is_among listed x y ≡ true
walks_begun c l zero x y b g = absurd (false≢true g)
walks_begun c l (suc k) x y b g = walk_begun c l k x y b g

-- all rows are begun and all places followed
pub closing_all : {n begun places : ℕ} {pairs listed : List (ℕ × ℕ)} → AreWithin n n pairs → IsIncreasing pairs → Closing n pairs begun places listed → n ≤ begun → length listed ≤ places → AreClosed n pairs listed
closing_all {n} {begun} {places} {pairs} {listed} w o c b l i k =
    let r = square_of n pairs in
    let t = square_type n pairs w o in
    same_truth _ _ (c.sound i k) (λ h.
    let at : Inside n n i k = inside n n (transitive_closure r) (type-closure n r t) i k h in
    let row = at.row in
    let j = (closure_laws.walks n r t i k at.row at.col).0 h in
    walks_begun c l j.steps i k (omega (arith, row, b)) j.walks)
