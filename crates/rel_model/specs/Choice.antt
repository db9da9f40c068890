-- Choice, domains of definition, and walks over pairs. The choices made by point and atom, and init, next and the order
-- of pairs are defined by this project; the rest is Schmidt and Ströhlein's.
use Rattle.std.specs.Prelude.{◌==◌, ◌&&◌, ◌+◌, ◌-◌, not, nat_lt, cond, zero, suc, ℕ, Bool, List, [], ◌∷◌, filter, length, Option, Some, None}
use Rattle.rel_model.specs.Relation.{Relation, before, has, relation_of}
use Rattle.rel_model.specs.Cells.{some_below}

-- how many numbers below n pass a test
abbrev pub count_below : ℕ → (ℕ → Bool) → ℕ
count_below zero t = 0
count_below (suc n) t = count_below n t + cond (t n) 1 0

-- whether an element is in a vector (a relation of one column)
abbrev pub holds : Relation → ℕ → Bool
holds v i = has v i 0

-- whether row i has any pair
abbrev pub row_has : Relation → ℕ → Bool
row_has r i = some_below r.cols (has r i)

-- whether column j has any pair
abbrev pub column_has : Relation → ℕ → Bool
column_has r j = some_below r.rows (λ i. has r i j)

-- the least element of a vector as a point; the empty vector if there is none
unfoldable pub point : Relation → Relation
point v = relation_of v.rows 1 (λ i j. holds v i && not (some_below i (holds v)))

-- the least pair of a relation by row and then by column; the empty relation if there is none
unfoldable pub atom : Relation → Relation
atom r = relation_of r.rows r.cols (λ i j. has r i j && (not (some_below i (row_has r))
    && not (some_below j (has r i))))

-- element 0 as a vector with the rows of another; the empty vector if there are no rows
unfoldable pub init : Relation → Relation
init v = relation_of v.rows 1 (λ i j. i == 0)

-- each element moved up by one; the last is dropped
unfoldable pub next : Relation → Relation
next v = relation_of v.rows 1 (λ i j. nat_lt 0 i && holds v (i - 1))

-- the rows that have a pair, as a vector
unfoldable pub dom : Relation → Relation
dom r = relation_of r.rows 1 (λ i k. row_has r i)

-- the columns that have a pair, as a vector
unfoldable pub ran : Relation → Relation
ran r = relation_of r.cols 1 (λ j k. column_has r j)

-- whether no row has two pairs
unfoldable pub is_unival : Relation → Bool
is_unival r = not (some_below r.rows (λ i. some_below r.cols (λ j. has r i j && some_below j (has r i))))

-- how many pairs a relation has
abbrev pub count : Relation → ℕ
count r = length r.pairs

-- the first element of a list, if there is one
abbrev pub first_in : List (ℕ × ℕ) → Option (ℕ × ℕ)
first_in [] = None
first_in (p ∷ ps) = Some p

-- the least pair by row and then by column; if a pair is given, the least one after it
unfoldable pub next_pair : Relation → Option (ℕ × ℕ) → Option (ℕ × ℕ)
next_pair r None = first_in r.pairs
next_pair r (Some p) = first_in (filter (before p) r.pairs)

-- the elements of a vector in order: row r has the element with r elements before it
unfoldable pub inj : Relation → Relation
inj v = relation_of (count_below v.rows (holds v)) v.rows (λ r x. holds v x && (count_below x (holds v) == r))
