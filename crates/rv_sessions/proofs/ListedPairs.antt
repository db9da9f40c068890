-- Lists of pairs that grow, and the relations of such lists.
use Rattle.std.proofs.Common.{◌≡◌, ◌<◌, ◌≤◌, ◌+◌, ◌-◌, ◌*◌, ◌&&◌, ◌||◌, ◌∙◌, ℕ, Bool, true, false, eqb, List, [], ◌∷◌, ◌++◌, length, take, get_or, refl, sym, ap, arith, inl, inr}
use Rattle.std.specs.List.{list_any}
use Rattle.std.proofs.lemmas.Bool.{cases_Bool, and_parts, eqb-true, eq-eqb}
use Rattle.std.proofs.lemmas.List.{take_more}
use Rattle.lang_model.specs.declared.rows.Column.{Column}
use Rattle.lang_model.specs.declared.rows.Row.{Row}
use Rattle.rel_model.specs.Relation.{relation_of}
use Rattle.lang_model.specs.State.{lists}
use Rattle.rel_model.specs.Roots.{height_over}
use Rattle.rel_model.specs.Worker.{Worker, MakesAtMost, listed_room}
use Rattle.run_model.specs.Cost.{listed_count, listed_cost}
use Rattle.std.proofs.lemmas.Nat.{mul-le}
use Rattle.rel_model.proofs.Relations.{relation_of-agree}
use Rattle.rv_sessions.specs.Listed.{IsListed, Extends}
use Rattle.rel_model.specs.Listed.{AreWithin, is_among}

or_nothing : (b : Bool) → (b || false) ≡ b
or_nothing true = refl
or_nothing false = refl

regroup : (a b c : Bool) → ((a || b) || c) ≡ (a || (b || c))
regroup true b c = refl
regroup false b c = refl

-- ---- lists
pub is_among-append : (ps qs : List (ℕ × ℕ)) (i j : ℕ) → is_among (ps ++ qs) i j ≡ (is_among ps i j || is_among qs i j)
is_among-append [] qs i j = refl
is_among-append (p ∷ ps) qs i j = ap (λ b. (eqb p.0 i && eqb p.1 j) || b) (is_among-append ps qs i j) ∙ sym (regroup (eqb p.0 i && eqb p.1 j) (is_among ps i j) (is_among qs i j))

pub within-append : (m n : ℕ) (ps qs : List (ℕ × ℕ)) → AreWithin m n ps → AreWithin m n qs → AreWithin m n (ps ++ qs)
within-append m n [] qs a b = b
within-append m n (p ∷ ps) qs a b = (a.0, within-append m n ps qs a.1 b)

-- a column that counts from 1 is the one that counts from 0
below_one : (x i : ℕ) → 1 ≤ x → eqb (x - 1) i ≡ eqb x (i + 1)
below_one x i h = elim (cases_Bool (eqb x (i + 1))) [
  | inl t ↦ let e : x ≡ i + 1 = eqb-true x (i + 1) t in let f : x - 1 ≡ i = omega arith in ap (λ y. eqb y i) f ∙ same i ∙ sym t
  | inr t ↦ elim (cases_Bool (eqb (x - 1) i)) [
    | inl u ↦ let e : x - 1 ≡ i = eqb-true (x - 1) i u in let f : x ≡ i + 1 = omega arith in u ∙ sym (ap (λ y. eqb y (i + 1)) f ∙ same (i + 1))
    | inr u ↦ u ∙ sym t
  ]
]
  where
    same : (n : ℕ) → eqb n n ≡ true
    same n = eq-eqb n n refl

-- one pair within the sizes
pub pair_listed : (m n row col : ℕ) (ps : List (ℕ × ℕ)) → 1 ≤ row → 1 ≤ col → Extends m n ps (ps ++ (row - 1, col - 1) ∷ []) (λ i j. eqb row (i + 1) && eqb col (j + 1))
pair_listed m n row col ps a b i j l k =
    is_among-append ps ((row - 1, col - 1) ∷ []) i j ∙ ap (λ t. is_among ps i j || t) (or_nothing (eqb (row - 1) i && eqb (col - 1) j) ∙ ap (λ t. t && eqb (col - 1) j) (below_one row i a) ∙ ap (λ t. eqb row (i + 1) && t) (below_one col j b))

-- a pair outside the sizes
pub none_listed : (m n row col : ℕ) (ps : List (ℕ × ℕ)) → (1 ≤ row → row ≤ m → 1 ≤ col → col ≤ n → ⊥) → Extends m n ps ps (λ i j. eqb row (i + 1) && eqb col (j + 1))
none_listed m n row col ps out i j l k = sym (ap (λ b. is_among ps i j || b) (no) ∙ or_nothing (is_among ps i j))
  where
    no : (eqb row (i + 1) && eqb col (j + 1)) ≡ false
    no = elim (cases_Bool (eqb row (i + 1) && eqb col (j + 1))) [
      | inl t ↦ let both = and_parts _ _ t in
          let r : row ≡ i + 1 = eqb-true row (i + 1) both.0 in
          let c : col ≡ j + 1 = eqb-true col (j + 1) both.1 in
          absurd (out (omega arith) (omega arith) (omega arith) (omega arith))
      | inr t ↦ t
    ]

-- ---- rows and columns
any_push : {X : Type 0} (p : X → Bool) (xs : List X) (x : X) → list_any p (xs ++ x ∷ []) ≡ (list_any p xs || p x)
any_push p [] x = or_nothing (p x)
any_push p (y ∷ ys) x = ap (λ b. p y || b) (any_push p ys x) ∙ sym (regroup (p y) (list_any p ys) (p x))

and_or : (a b c d : Bool) → ((a || (b && c)) || (b && d)) ≡ (a || (b && (c || d)))
and_or true b c d = refl
and_or false true c d = refl
and_or false false c d = refl

and_false : (a b : Bool) → (a || (b && false)) ≡ a
and_false a true = or_nothing a
and_false a false = or_nothing a

pub columns_none : (m n row : ℕ) (ps : List (ℕ × ℕ)) → Extends m n ps ps (λ i j. eqb row (i + 1) && list_any (λ (c : Column). eqb c.col (j + 1)) [])
columns_none m n row ps i j l k = sym (and_false (is_among ps i j) (eqb row (i + 1)))

pub columns_more : (m n row k : ℕ) (cs : List Column) (d : Column) (start old new : List (ℕ × ℕ)) → k < length cs → Extends m n start old (λ i j. eqb row (i + 1) && list_any (λ (c : Column). eqb c.col (j + 1)) (take k cs)) →
    Extends m n old new (λ i j. eqb row (i + 1) && eqb (get_or cs k d).col (j + 1)) → Extends m n start new (λ i j. eqb row (i + 1) && list_any (λ (c : Column). eqb c.col (j + 1)) (take (k + 1) cs))
columns_more m n row k cs d start old new h a b i j l c =
    b i j l c ∙ ap (λ x. x || (eqb row (i + 1) && eqb (get_or cs k d).col (j + 1))) (a i j l c)
    ∙ and_or (is_among start i j) (eqb row (i + 1)) _ (eqb (get_or cs k d).col (j + 1))
    ∙ ap (λ x. is_among start i j || (eqb row (i + 1) && x)) (sym (ap (list_any (λ (c : Column). eqb c.col (j + 1))) (take_more cs k d h) ∙ any_push (λ (c : Column). eqb c.col (j + 1)) (take k cs) (get_or cs k d)))

pub rows_more : (m n k : ℕ) (rs : List Row) (r : Row) (old new : List (ℕ × ℕ)) → k < length rs → r ≡ get_or rs k r → IsListed m n old (lists (take k rs)) →
    Extends m n old new (λ i j. eqb r.row (i + 1) && list_any (λ (c : Column). eqb c.col (j + 1)) r.cols.items) → IsListed m n new (lists (take (k + 1) rs))
unfolding lists
rows_more m n k rs r old new h is a b i j l c =
    b i j l c ∙ ap (λ x. x || (eqb r.row (i + 1) && list_any (λ (c : Column). eqb c.col (j + 1)) r.cols.items)) (a i j l c)
    ∙ sym (ap (λ xs. lists xs i j) (take_more rs k r h ∙ ap (λ x. take k rs ++ x ∷ []) (sym is)) ∙ any_push (λ (q : Row). eqb q.row (i + 1) && list_any (λ (c : Column). eqb c.col (j + 1)) q.cols.items) (take k rs) r)

pub rows_none : (m n : ℕ) → IsListed m n [] (lists [])
unfolding lists
rows_none m n i j l k = refl

-- ---- relations
-- the listed pairs make the listed relation
pub relation_listed : (m n : ℕ) (ps : List (ℕ × ℕ)) (rs : List Row) → IsListed m n ps (lists rs) → relation_of m n (is_among ps) ≡ relation_of m n (lists rs)
relation_listed m n ps rs h = relation_of-agree m n (is_among ps) (lists rs) h

-- ---- counts
listed_count-append : (rs ss : List Row) → listed_count (rs ++ ss) ≡ listed_count rs + listed_count ss
listed_count-append [] ss = omega arith
listed_count-append (r ∷ rs) ss = omega (arith, listed_count-append rs ss)

pub count_more : (k : ℕ) (rs : List Row) (r : Row) → k < length rs → r ≡ get_or rs k r → listed_count (take (k + 1) rs) ≡ listed_count (take k rs) + length r.cols.items
count_more k rs r h is = ap listed_count (take_more rs k r h ∙ ap (λ x. take k rs ++ x ∷ []) (sym is)) ∙ listed_count-append (take k rs) (r ∷ []) ∙ omega arith

-- the room of fewer pairs is within the cost of the listed ones
room_of_fewer : (leaf a b m n : ℕ) → a ≤ b → listed_room a (height_over leaf m n - leaf) ≤ listed_cost leaf b m n
unfolding listed_cost
room_of_fewer leaf a b m n l =
    let d : ℕ = height_over leaf m n - leaf in mul-le a (3 * d + 1) b (3 * d + 1) l (omega arith)

-- so what is made of the pairs that are kept is
pub listed_fits : (leaf b m n : ℕ) (ps qs : List (ℕ × ℕ)) (old new : Worker) → ps ≡ qs → length qs ≤ b →
    MakesAtMost (listed_room (length ps) (height_over leaf m n - leaf)) old new → MakesAtMost (listed_cost leaf b m n) old new
listed_fits leaf b m n ps qs old new is l made =
    let a = room_of_fewer leaf (length ps) b m n (let s = ap length is in omega (arith, s, l)) in omega (arith, a, made)
