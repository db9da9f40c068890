-- Parts of the identity.
use Rattle.std.specs.Prelude.{◌==◌, ◌+◌, ◌&&◌, nat_lt, nat_le, ℕ}
use Rattle.rel_model.specs.Relation.{Relation, relation_of}

-- the pairs (i, i) of n elements, for `count` numbers i from `first` on
unfoldable pub diagonal : ℕ → ℕ → ℕ → Relation
diagonal n first count = relation_of n n (λ i j. (i == j) && (nat_le first i && nat_lt i (first + count)))
