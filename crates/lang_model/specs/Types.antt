-- The types of operators and base calls. A size is known or unknown; if all sizes of the operands are known, these are
-- the tests that evaluation makes.
use Rattle.std.specs.Prelude.{◌==◌, ◌&&◌, ◌+◌, ◌*◌, ◌^◌, nat_lt, cond, zero, suc, ℕ, Bool, true, List, codes, Option, Some, None}
use Rattle.lang_model.specs.declared.syntax.Place.{Place}
use Rattle.lang_model.specs.declared.syntax.Op2.{Op2}
use Rattle.lang_model.specs.declared.syntax.Op2.TheVariants.{Or, And, Times, Under, Over}
use Rattle.lang_model.specs.declared.syntax.Base.{Base}
use Rattle.lang_model.specs.declared.syntax.Base.TheVariants.{L, O, I, Ln1, On1, L1n, O1n, Dom, Ran, Trans, Refl, Epsi}
use Rattle.lang_model.specs.declared.syntax.Base.TheVariants.{Point, Atom, Init, Next, Inj, Empty, Unival, Less, Hasse}
use Rattle.lang_model.specs.declared.syntax.Base.TheVariants.{Quot, Syq, Eq, Incl, Ubd, Lbd, Least, Greatest, Sup, Inf}
use Rattle.lang_model.specs.declared.syntax.Base.TheVariants.{P1, P2, I1}
use Rattle.lang_model.specs.declared.faults.TypeFault.{TypeFault}
use Rattle.lang_model.specs.declared.faults.TypeFault.TheVariants.{Mismatch, NotSquare, NotVector, NotTest}
use Rattle.lang_model.specs.declared.faults.StaticShape.{StaticShape}
use Rattle.lang_model.specs.BaseNames.{base_text}
use Rattle.rel_model.specs.Relation.{Relation, size_limit}
use Rattle.lang_model.specs.Missing.{first_of_both}

-- the result of a test: what passes, or the fault
pub data Passed (T : Type 0) : Type 0 where
  Fits : T → Passed T
  Misfit : TypeFault → Passed T

-- the type of an operation, or its fault
abbrev pub Typed : Type 0
Typed = Passed StaticShape

-- sizes that are known
abbrev pub known : ℕ → ℕ → StaticShape
known m n = record { rows = Some m; cols = Some n }

-- the type of a relation
abbrev pub sizes : Relation → StaticShape
sizes r = known r.rows r.cols

-- a type with these sizes, as far as they are known
abbrev pub type_of : Option ℕ → Option ℕ → StaticShape
type_of m n = record { rows = m; cols = n }

-- a test between two sizes: it fails if and only if both are known and differ
abbrev pub agree : Option ℕ → Option ℕ → Bool
agree (Some m) (Some n) = m == n
agree (Some m) None = true
agree None n = true

-- a test on one size: it fails if and only if the size is known and differs
abbrev pub may_be : ℕ → Option ℕ → Bool
may_be n m = agree m (Some n)

-- a size computed from others: it is known only if it is within the limit
abbrev pub within_limit : ℕ → Option ℕ
within_limit n = cond (nat_lt size_limit n) None (Some n)

-- a size computed from one size, if that is known
abbrev pub computed : (ℕ → ℕ) → Option ℕ → Option ℕ
computed f None = None
computed f (Some m) = within_limit (f m)

-- a size computed from two sizes, if both are known
abbrev pub computed_of_two : (ℕ → ℕ → ℕ) → Option ℕ → Option ℕ → Option ℕ
computed_of_two f None n = None
computed_of_two f (Some m) n = computed (f m) n

-- ---- operators between two
-- how an operator is written
abbrev pub spelling : Op2 → List ℕ
spelling Or = codes "|"
spelling And = codes "&"
spelling Times = codes "*"
spelling Under = codes "\\"
spelling Over = codes "/"

-- whether an operator takes operands of these types
abbrev pub takes : Op2 → StaticShape → StaticShape → Bool
takes Or s t = agree s.rows t.rows && agree s.cols t.cols
takes And s t = agree s.rows t.rows && agree s.cols t.cols
takes Times s t = agree s.cols t.rows
takes Under s t = agree s.rows t.rows
takes Over s t = agree s.cols t.cols

-- the type of its result
abbrev pub type_of_link : Op2 → StaticShape → StaticShape → StaticShape
type_of_link Or s t = type_of (first_of_both s.rows t.rows) (first_of_both s.cols t.cols)
type_of_link And s t = type_of (first_of_both s.rows t.rows) (first_of_both s.cols t.cols)
type_of_link Times s t = type_of s.rows t.cols
type_of_link Under s t = type_of s.cols t.cols
type_of_link Over s t = type_of s.rows t.rows

-- R | S, R & S, R * S, R \ S, R / S
abbrev pub typed_link : Place → Op2 → StaticShape → StaticShape → Typed
typed_link at op s t = cond (takes op s t) (Fits (type_of_link op s t)) (Misfit (Mismatch at (spelling op) s t))

-- [R, S]: both have the same number of rows; the columns are multiplied
abbrev pub typed_pair : Place → StaticShape → StaticShape → Typed
typed_pair at s t =
    cond (agree s.rows t.rows)
    (Fits (type_of (first_of_both s.rows t.rows) (computed_of_two (λ n q. n * q) s.cols t.cols)))
    (Misfit (Mismatch at (codes "[") s t))

-- ---- transposition
abbrev pub type_turned : StaticShape → StaticShape
type_turned s = type_of s.cols s.rows

-- transposed n times
abbrev pub type_turned_by : ℕ → StaticShape → StaticShape
type_turned_by zero s = s
type_turned_by (suc n) s = type_turned (type_turned_by n s)

-- ---- base calls
-- the known one of the two sizes of a square operand
abbrev pub side : StaticShape → Option ℕ
side s = first_of_both s.rows s.cols

-- the operand must be square
abbrev pub squared : Place → Base → StaticShape → Typed → Typed
squared at base s rest = cond (agree s.rows s.cols) rest (Misfit (NotSquare at (base_text base) s))

-- the operand must be square: both sizes of the type are the known one of its sizes
abbrev pub square : Place → Base → StaticShape → Typed
square at base s = squared at base s (Fits (type_of (side s) (side s)))

-- the first operand must be square, and the second have the same number of rows: the type has the known one of these
-- sizes, and the columns of the second
abbrev pub bounding : Place → Base → StaticShape → StaticShape → Typed
bounding at base s t =
    squared at base s (cond (agree (side s) t.rows) (Fits (type_of (first_of_both (side s) t.rows) t.cols))
    (Misfit (Mismatch at (base_text base) s t)))

-- the operand must have one column
abbrev pub vector : Place → Base → StaticShape → StaticShape → Typed
vector at base s t = cond (may_be 1 s.cols) (Fits t) (Misfit (NotVector at (base_text base) s))

-- a base call of one operand; no text calls another base name with one
abbrev pub typed_base : Place → Base → StaticShape → Typed
typed_base at L s = Fits s
typed_base at O s = Fits s
typed_base at I s = square at I s
typed_base at Ln1 s = Fits (type_of s.rows (Some 1))
typed_base at On1 s = Fits (type_of s.rows (Some 1))
typed_base at L1n s = Fits (type_of (Some 1) s.cols)
typed_base at O1n s = Fits (type_of (Some 1) s.cols)
typed_base at Dom s = Fits (type_of s.rows (Some 1))
typed_base at Ran s = Fits (type_of s.cols (Some 1))
typed_base at Trans s = square at Trans s
typed_base at Refl s = square at Refl s
typed_base at Epsi s = vector at Epsi s (type_of s.rows (computed (λ m. 2 ^ m) s.rows))
typed_base at Point s = vector at Point s (type_of s.rows (Some 1))
typed_base at Atom s = Fits s
typed_base at Init s = vector at Init s (type_of s.rows (Some 1))
typed_base at Next s = vector at Next s (type_of s.rows (Some 1))
typed_base at Inj s = vector at Inj s (type_of None s.rows)
typed_base at Empty s = Fits (known 1 1)
typed_base at Unival s = Fits (known 1 1)
typed_base at Less s = square at Less s
typed_base at Hasse s = square at Hasse s
typed_base at Quot s = squared at Quot s (Fits (type_of (side s) None))
typed_base at _ s = Fits (known 0 0)

-- a base call of two operands; no text calls another base name with two
abbrev pub typed_base_of_two : Place → Base → StaticShape → StaticShape → Typed
typed_base_of_two at Syq s t =
    cond (agree s.rows t.rows) (Fits (type_of s.cols t.cols)) (Misfit (Mismatch at (base_text Syq) s t))
typed_base_of_two at Eq s t =
    cond (agree s.rows t.rows && agree s.cols t.cols) (Fits (known 1 1)) (Misfit (Mismatch at (base_text Eq) s t))
typed_base_of_two at Incl s t =
    cond (agree s.rows t.rows && agree s.cols t.cols) (Fits (known 1 1)) (Misfit (Mismatch at (base_text Incl) s t))
typed_base_of_two at Ubd s t = bounding at Ubd s t
typed_base_of_two at Lbd s t = bounding at Lbd s t
typed_base_of_two at Least s t = bounding at Least s t
typed_base_of_two at Greatest s t = bounding at Greatest s t
typed_base_of_two at Sup s t = bounding at Sup s t
typed_base_of_two at Inf s t = bounding at Inf s t
typed_base_of_two at _ s t = Fits (known 0 0)

-- the domain operators on domains of x and of y elements; the last line is that of i-2, the only other base name that
-- can occur
abbrev pub type_of_domain : Base → Option ℕ → Option ℕ → StaticShape
type_of_domain P1 x y = type_of (computed_of_two (λ m n. m * n) x y) x
type_of_domain P2 x y = type_of (computed_of_two (λ m n. m * n) x y) y
type_of_domain I1 x y = type_of x (computed_of_two (λ m n. m + n) x y)
type_of_domain _ x y = type_of y (computed_of_two (λ m n. m + n) x y)

-- ---- tests
-- the test of a WHILE or an IF has one row and one column
abbrev pub typed_test : Place → StaticShape → Typed
typed_test at s = cond (may_be 1 s.rows && may_be 1 s.cols) (Fits s) (Misfit (NotTest at s))
