-- Products, sums and power sets of domains, each relation by its membership clause (Schmidt and Ströhlein, Relations
-- and Graphs). The numbering of pairs, sums and subsets is defined by this project.
use Rattle.std.specs.Prelude.{◌≡◌, ◌<◌, ◌≤◌, ◌==◌, ◌&&◌, ◌+◌, ◌-◌, ◌*◌, ◌/◌, ◌%◌, ◌^◌, min, ℕ, Bool, true, Result, IfOk, IfErr, IsErrOf}
use Rattle.std.specs.Int.{bit_at}
use Rattle.rel_model.specs.declared.faults.DomainError.{DomainError}
use Rattle.rel_model.specs.declared.faults.DomainError.TheVariants.{Size, Full, NoMemory}
use Rattle.rel_model.specs.Relation.{Relation, has, relation_of, size_limit}
use Rattle.rel_model.specs.Worker.{Worker, Rose, MissesNothing}

-- the projection of a product to its first factor: element i * y + j of the product is the pair of i and j
unfoldable pub first_projection : ℕ → ℕ → Relation
first_projection x y = relation_of (x * y) x (λ p i. p / y == i)

-- the projection of a product to its second factor
unfoldable pub second_projection : ℕ → ℕ → Relation
second_projection x y = relation_of (x * y) y (λ p j. p % y == j)

-- the injection of the first summand: element i is element i of the sum
unfoldable pub left_injection : ℕ → ℕ → Relation
left_injection x y = relation_of x (x + y) (λ i s. s == i)

-- the injection of the second summand: element j is element x + j of the sum
unfoldable pub right_injection : ℕ → ℕ → Relation
right_injection x y = relation_of y (x + y) (λ j s. s == x + j)

-- the membership relation: element i is in subset s if bit i of s is 1
unfoldable pub membership : ℕ → Relation
membership x = relation_of x (2 ^ x) (λ i s. bit_at s i == 1)

-- the pairing of two relations with the same number of rows: (i, j * q + k) if (i, j) is in the first and (i, k) in the
-- second, which has q columns
unfoldable pub pairing : Relation → Relation → Relation
pairing r s = relation_of r.rows (r.cols * s.cols) (λ i c. has r i (c / s.cols) && has s i (c % s.cols))

-- a refusal for size: a size of the result exceeds the limit, and the fault reports that size, capped at 64 bits
abbrev pub IsOverSize : ℕ → DomainError → Type 0
IsOverSize wanted (Size w limit) = (size_limit < wanted) × (w ≡ min wanted (2 ^ 64 - 1)) × (limit ≡ size_limit)
IsOverSize wanted Full = wanted ≤ size_limit
IsOverSize wanted NoMemory = wanted ≤ size_limit

-- a refusal has its cause: a size that exceeds the limit (then no place in the table was looked for), or the cause of
-- an operator
pub record HasDomainCause {T : Type 0} (lean : Bool) (wanted : ℕ) (old new : Worker)
    (result : Result T DomainError) : Type 0 where
  pub size : IfErr result (IsOverSize wanted)
  pub full : IsErrOf result Full → Rose old.misses new.misses
  pub no_memory : lean ≡ true → IsErrOf result NoMemory → ⊥
  pub done : IfOk result (λ x. MissesNothing old new)
  pub wanting : IsErrOf result NoMemory → MissesNothing old new
  pub over : size_limit < wanted → MissesNothing old new
