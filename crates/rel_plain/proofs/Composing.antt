-- Two lists of pairs, composed by halves of the first, are the composition.
-- 1. The pairs of one row stand together in an increasing list: where the second half begins past the row, only the first has any, and the other way about.
-- 2. One pair (i, j) through a list has the pairs (i, k) for its row j, in order.
-- 3. Halves composed and merged are the whole composed, since some pair of the whole is some pair of one of the halves.
-- 4. That some pair (i, j) passes is that some j below the columns does.
use Rattle.std.proofs.Common.{◌≡◌, ◌<◌, ◌≤◌, ◌&&◌, ◌||◌, ℕ, Bool, true, false, eqb, List, [], ◌∷◌, ◌++◌, refl, sym, ap, subst, ◌∙◌, inl, inr, arith, length, get_or, take, drop, Result, Ok, Err, OnOk}
use Rattle.std.specs.List.{AllByRecursion, list_any}
use Rattle.std.proofs.lemmas.List.{append-nil, take-append-drop}
use Rattle.std.proofs.lemmas.List.Folds.{list_any-append}
use Rattle.std.proofs.lemmas.Bool.{cases_Bool, ne_eqb, eq-eqb, eqb-true, and_from, lt-ltb, or_right, or_cases, and_parts, false≢true}
use Rattle.rel_model.specs.Relation.{Relation, has, relation_of, before, IsIncreasing}
use Rattle.rel_model.specs.Operators.{compose}
use Rattle.rel_model.specs.Cells.{some_below}
use Rattle.rel_model.proofs.Pairs.{member, before-true, all-member}
use Rattle.rel_model.proofs.Somes.{some_agree, some_either, some_point, some_none}
use Rattle.rel_model.proofs.Relations.{relation_of-agree, has-relation_of}
use Rattle.rel_plain.specs.Kept.{IsKept}
use Rattle.rel_plain.specs.Merge.{IsMerge, picked}
use Rattle.rel_plain.specs.Compose.{row_through, IsComposed}
use Rattle.rel_plain.proofs.Merging.{all-from-member}
use Rattle.rel_plain.proofs.Stored.{stored}

-- ---- the pairs of a row stand together
before-row : (p q : ℕ × ℕ) → before p q ≡ true → p.0 ≤ q.0
before-row p q h = elim (before-true p q h) [ inl l ↦ omega arith | inr e ↦ let f = e.0 in omega arith ]

-- a list of which no pair has the row
no_row : (i j : ℕ) (ps : List (ℕ × ℕ)) → AllByRecursion (λ q. eqb q.0 j ≡ false) ps → row_through i j ps ≡ []
no_row i j [] h = refl
no_row i j (p ∷ ps) h = rw h.0 (no_row i j ps h.1)

rows_above : (j : ℕ) (p : ℕ × ℕ) (ps : List (ℕ × ℕ)) → j < p.0 → AllByRecursion (λ q. before p q ≡ true) ps → AllByRecursion (λ q. eqb q.0 j ≡ false) ps
rows_above j p [] l h = tt
rows_above j p (q ∷ ps) l h = (let b = before-row p q h.0 in ne_eqb q.0 j (λ e. omega (arith, l, b, e)), rows_above j p ps l h.1)

-- a list that begins past the row
pub row_past : (i j : ℕ) (p : ℕ × ℕ) (ps : List (ℕ × ℕ)) → j < p.0 → IsIncreasing (p ∷ ps) → row_through i j (p ∷ ps) ≡ []
row_past i j p ps l up = no_row i j (p ∷ ps) (ne_eqb p.0 j (λ e. omega (arith, l, e)), rows_above j p ps l up.0)

-- both parts of an increasing list
pub increasing-front : (xs ys : List (ℕ × ℕ)) → IsIncreasing (xs ++ ys) → IsIncreasing xs
increasing-front [] ys up = tt
increasing-front (x ∷ xs) ys up = (all-front xs ys up.0, increasing-front xs ys up.1)
  where
    all-front : (xs ys : List (ℕ × ℕ)) → AllByRecursion (λ q. before x q ≡ true) (xs ++ ys) → AllByRecursion (λ q. before x q ≡ true) xs
    all-front [] ys h = tt
    all-front (z ∷ xs) ys h = (h.0, all-front xs ys h.1)

pub increasing-back : (xs ys : List (ℕ × ℕ)) → IsIncreasing (xs ++ ys) → IsIncreasing ys
increasing-back [] ys up = up
increasing-back (x ∷ xs) ys up = increasing-back xs ys up.1

all-past : (P : ℕ × ℕ → Type 0) (xs : List (ℕ × ℕ)) (y : ℕ × ℕ) (ys : List (ℕ × ℕ)) → AllByRecursion P (xs ++ (y ∷ ys)) → P y
all-past P [] y ys h = h.0
all-past P (x ∷ xs) y ys h = all-past P xs y ys h.1

rows_below : (j : ℕ) (xs : List (ℕ × ℕ)) (y : ℕ × ℕ) (ys : List (ℕ × ℕ)) → y.0 < j → IsIncreasing (xs ++ (y ∷ ys)) → AllByRecursion (λ q. eqb q.0 j ≡ false) xs
rows_below j [] y ys l up = tt
rows_below j (x ∷ xs) y ys l up = (let b = before-row x y (all-past (λ q. before x q ≡ true) xs y ys up.0) in ne_eqb x.0 j (λ e. omega (arith, l, b, e)), rows_below j xs y ys l up.1)

-- a front whose back begins before the row
pub row_behind : (i j : ℕ) (xs : List (ℕ × ℕ)) (y : ℕ × ℕ) (ys : List (ℕ × ℕ)) → y.0 < j → IsIncreasing (xs ++ (y ∷ ys)) → row_through i j xs ≡ []
row_behind i j xs y ys l up = no_row i j xs (rows_below j xs y ys l up)

pub row_through-append : (i j : ℕ) (xs ys : List (ℕ × ℕ)) → row_through i j (xs ++ ys) ≡ row_through i j xs ++ row_through i j ys
row_through-append i j [] ys = refl
row_through-append i j (x ∷ xs) ys = elim (cases_Bool (eqb x.0 j)) [
  | inl e ↦ rw e (ap (λ zs. (i, x.1) ∷ zs) (row_through-append i j xs ys))
  | inr e ↦ rw e (row_through-append i j xs ys)
]

-- ---- halves of a list
-- two parts of an increasing list
pub record Parts (xs ys ps : List (ℕ × ℕ)) : Type 0 where
  pub whole : xs ++ ys ≡ ps
  pub front : IsIncreasing xs
  pub back : IsIncreasing ys

pub parts : (n : ℕ) (xs ys ps : List (ℕ × ℕ)) → IsIncreasing ps → xs ≡ take n ps → ys ≡ drop n ps → Parts xs ys ps
parts n xs ys ps up e f =
    let w : xs ++ ys ≡ ps = ap (λ zs. zs ++ ys) e ∙ ap (λ zs. take n ps ++ zs) f ∙ take-append-drop n ps in
    let v : IsIncreasing (xs ++ ys) = subst IsIncreasing (sym w) up in
    record { whole = w; front = increasing-front xs ys v; back = increasing-back xs ys v }

-- what follows of a success
pub on_ok : {T E : Type 0} (r : Result T E) (P Q : Type 0) → (P → Q) → OnOk r P → OnOk r Q
on_ok (Ok x) P Q f h = f h
on_ok (Err e) P Q f h = tt

-- the second half alone, which begins before the row
pub second_through : (i j : ℕ) (out new xs ys ps : List (ℕ × ℕ)) (d : ℕ × ℕ) → xs ++ ys ≡ ps → IsIncreasing ps → 0 < length ys → (get_or ys 0 d).0 < j → new ≡ out ++ row_through i j ys → new ≡ out ++ row_through i j ps
second_through i j out new xs [] ps d e up z l g = absurd (omega (arith, z))
second_through i j out new xs (y ∷ ys) ps d e up z l g =
    g ∙ ap (λ zs. out ++ zs) (sym (sym (ap (row_through i j) e) ∙ row_through-append i j xs (y ∷ ys) ∙ ap (λ zs. zs ++ row_through i j (y ∷ ys)) (row_behind i j xs y ys l (subst IsIncreasing (sym e) up))))

-- the first half alone, where the second begins past the row
pub first_through : (i j : ℕ) (out new xs ys ps : List (ℕ × ℕ)) (d : ℕ × ℕ) → xs ++ ys ≡ ps → IsIncreasing ps → 0 < length ys → j < (get_or ys 0 d).0 → new ≡ out ++ row_through i j xs → new ≡ out ++ row_through i j ps
first_through i j out new xs [] ps d e up z l g = absurd (omega (arith, z))
first_through i j out new xs (y ∷ ys) ps d e up z l g =
    g ∙ ap (λ zs. out ++ zs) (sym (sym (ap (row_through i j) e) ∙ row_through-append i j xs (y ∷ ys) ∙ ap (λ zs. row_through i j xs ++ zs) (row_past i j y ys l (increasing-back xs (y ∷ ys) (subst IsIncreasing (sym e) up))) ∙ append-nil (row_through i j xs)))

-- ---- one pair through a list
member-through : (x y i k : ℕ) (ps : List (ℕ × ℕ)) → member (i, k) (row_through x y ps) ≡ (eqb x i && member (y, k) ps)
member-through x y i k [] = sym (none (eqb x i))
  where
    none : (b : Bool) → (b && false) ≡ false
    none true = refl
    none false = refl
member-through x y i k (p ∷ ps) = elim (cases_Bool (eqb p.0 y)) [
  | inl e ↦ rw e (ap (λ b. (eqb x i && eqb p.1 k) || b) (member-through x y i k ps) ∙ both (eqb x i) (eqb p.1 k) (member (y, k) ps))
  | inr e ↦ rw e (member-through x y i k ps)
]
  where
    both : (a b c : Bool) → ((a && b) || (a && c)) ≡ (a && (b || c))
    both true b c = refl
    both false b c = refl

-- pairs composed through row y keep the order of the list: two pairs of that row differ in their columns
through-after : (x y : ℕ) (p : ℕ × ℕ) (ps : List (ℕ × ℕ)) → p.0 ≡ y → AllByRecursion (λ q. before p q ≡ true) ps → AllByRecursion (λ q. before (x, p.1) q ≡ true) (row_through x y ps)
through-after x y p [] e h = tt
through-after x y p (q ∷ ps) e h = elim (cases_Bool (eqb q.0 y)) [
  | inl f ↦ rw f (
    (elim (before-true p q h.0) [
      | inl l ↦ let g = eqb-true q.0 y f in absurd (omega (arith, l, g, e))
      | inr l ↦ or_right _ _ (and_from _ _ (eq-eqb x x refl) (lt-ltb p.1 q.1 l.1))
    ]),
    through-after x y p ps e h.1,
  )
  | inr f ↦ rw f (through-after x y p ps e h.1)
]

through-increasing : (x y : ℕ) (ps : List (ℕ × ℕ)) → IsIncreasing ps → IsIncreasing (row_through x y ps)
through-increasing x y [] up = tt
through-increasing x y (p ∷ ps) up = elim (cases_Bool (eqb p.0 y)) [
  | inl e ↦ rw e (through-after x y p ps (eqb-true p.0 y e) up.0, through-increasing x y ps up.1)
  | inr e ↦ rw e (through-increasing x y ps up.1)
]

-- ---- the composition of lists
composed_none : (right : List (ℕ × ℕ)) → IsComposed [] right []
composed_none right = record { increasing = tt; members = λ i k. refl }

composed_one : (x y : ℕ) (right : List (ℕ × ℕ)) → IsIncreasing right → IsComposed ((x, y) ∷ []) right (row_through x y right)
composed_one x y right up = record { increasing = through-increasing x y right up; members = λ i k. member-through x y i k right ∙ sym (or_false (eqb x i && member (y, k) right)) }
  where
    or_false : (b : Bool) → (b || false) ≡ b
    or_false true = refl
    or_false false = refl

-- a list of one pair
pub composed_single : (left right before after : List (ℕ × ℕ)) (d : ℕ × ℕ) → IsIncreasing right → length left ≡ 1 → before ≡ [] → after ≡ before ++ row_through (get_or left 0 d).0 (get_or left 0 d).1 right → IsComposed left right after
composed_single [] right before after d up l e f = absurd (omega (arith, l))
composed_single (p ∷ []) right before after d up l e f = subst (λ zs. IsComposed (p ∷ []) right zs) (sym (f ∙ ap (λ zs. zs ++ row_through p.0 p.1 right) e)) (composed_one p.0 p.1 right up)
composed_single (p ∷ q ∷ ps) right before after d up l e f = absurd (omega (arith, l))

-- compositions of two halves merge to that of the whole: some pair of the whole passes where one of a half does
pub composed_merge : (left front back right xs ys zs : List (ℕ × ℕ)) → front ++ back ≡ left → IsComposed front right xs → IsComposed back right ys → IsMerge (record { left = true; both = true; right = true }) xs ys zs → IsComposed left right zs
composed_merge left front back right xs ys zs e c d is = record {
  increasing = is.increasing;
  members = λ i k. is.members i k
      ∙ either (member (i, k) xs) (member (i, k) ys)
      ∙ ap (λ b. b || member (i, k) ys) (c.members i k) ∙ ap (λ b. list_any (λ p. eqb p.0 i && member (p.1, k) right) front || b) (d.members i k)
      ∙ sym (list_any-append (λ p. eqb p.0 i && member (p.1, k) right) front back) ∙ ap (list_any (λ p. eqb p.0 i && member (p.1, k) right)) e;
}
  where
    either : (a b : Bool) → picked (record { left = true; both = true; right = true }) a b ≡ (a || b)
    either true true = refl
    either true false = refl
    either false true = refl
    either false false = refl

-- ---- the composition of relations
-- some pair of a row is some column
some_column : (l i : ℕ) (f : ℕ → Bool) (ps : List (ℕ × ℕ)) → AllByRecursion (λ p. p.1 < l) ps → some_below l (λ j. member (i, j) ps && f j) ≡ list_any (λ p. eqb p.0 i && f p.1) ps
some_column l i f [] h = some_none l _ (λ j b. refl)
some_column l i f (p ∷ ps) h =
    some_agree l _ (λ j. ((eqb p.0 i && eqb p.1 j) && f j) || (member (i, j) ps && f j)) (λ j b. parts (eqb p.0 i && eqb p.1 j) (member (i, j) ps) (f j))
    ∙ some_either l (λ j. (eqb p.0 i && eqb p.1 j) && f j) (λ j. member (i, j) ps && f j)
    ∙ ap (λ b. b || some_below l (λ j. member (i, j) ps && f j)) (some_point l (eqb p.0 i) p.1 f h.0)
    ∙ ap (λ b. (eqb p.0 i && f p.1) || b) (some_column l i f ps h.1)
  where
    parts : (a b c : Bool) → ((a || b) && c) ≡ ((a && c) || (b && c))
    parts true true true = refl
    parts true true false = refl
    parts true false true = refl
    parts true false false = refl
    parts false b c = refl

all-cols : (m l : ℕ) (ps : List (ℕ × ℕ)) → AllByRecursion (λ p. (p.0 < m) × (p.1 < l)) ps → AllByRecursion (λ p. p.1 < l) ps
all-cols m l [] h = tt
all-cols m l (p ∷ ps) h = (h.0.1, all-cols m l ps h.1)

-- the composed list has the membership of the composition
pub compose_is : (m l n : ℕ) (ps qs rs : List (ℕ × ℕ)) (a b : Relation) → IsKept (stored m l ps) → IsComposed ps qs rs → a ≡ relation_of m l (has (stored m l ps)) → b ≡ relation_of l n (has (stored l n qs)) → a.rows ≡ m → a.cols ≡ l → b.cols ≡ n
    → relation_of m n (has (stored m n rs)) ≡ compose a b
unfolding compose
compose_is m l n ps qs rs a b v c e f r s t =
    relation_of-agree m n _ _ (λ i k x y. c.members i k
    ∙ sym (ap (λ (z : ℕ). some_below z (λ j. has a i j && has b j k)) s
    ∙ some_agree l (λ j. has a i j && has b j k) (λ j. member (i, j) ps && member (j, k) qs) (λ j z. ap (λ w. has w i j && has b j k) e ∙ ap (λ w. w && has b j k) (has-relation_of m l (has (stored m l ps)) i j x z) ∙ ap (λ w. member (i, j) ps && has w j k) f ∙ ap (λ w. member (i, j) ps && w) (has-relation_of l n (has (stored l n qs)) j k z y))
    ∙ some_column l i (λ j. member (j, k) qs) ps (all-cols m l ps v.valid.within)))
    ∙ ap (λ x. relation_of x n (λ i k. some_below a.cols (λ j. has a i j && has b j k))) (sym r) ∙ ap (λ y. relation_of a.rows y (λ i k. some_below a.cols (λ j. has a i j && has b j k))) (sym t)

-- some witness of a pair of a composed list
any-member : (t : ℕ × ℕ → Bool) (P : ℕ × ℕ → Type 0) (B : Type 0) (ps : List (ℕ × ℕ)) → AllByRecursion P ps → ((p : ℕ × ℕ) → P p → t p ≡ true → B) → list_any t ps ≡ true → B
any-member t P B [] h f e = absurd (false≢true e)
any-member t P B (p ∷ ps) h f e = elim (or_cases (t p) (list_any t ps) e) [ inl g ↦ f p h.0 g | inr g ↦ any-member t P B ps h.1 f g ]

-- a composed list of kept relations is kept
pub IsKept-composed : (m l n : ℕ) (ps qs rs : List (ℕ × ℕ)) → IsKept (stored m l ps) → IsKept (stored l n qs) → IsComposed ps qs rs → IsKept (stored m n rs)
IsKept-composed m l n ps qs rs v w c = record {
  valid = record {
    within = all-from-member (λ p. (p.0 < m) × (p.1 < n)) rs (λ q k. any-member (λ p. eqb p.0 q.0 && member (p.1, q.1) qs) (λ p. (p.0 < m) × (p.1 < l)) ((q.0 < m) × (q.1 < n)) ps v.valid.within
        (λ p b h. let g = and_parts _ _ h in
        let x : (p.1 < l) × (q.1 < n) = all-member (λ z. (z.0 < l) × (z.1 < n)) qs (p.1, q.1) w.valid.within g.1 in
        (let y = b.0 in let z = eqb-true p.0 q.0 g.0 in omega (arith, y, z), x.1))
        (sym (c.members q.0 q.1) ∙ k));
    increasing = c.increasing;
  };
  row_limit = v.row_limit;
  col_limit = w.col_limit;
}
