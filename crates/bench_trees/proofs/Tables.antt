-- Sound words of ten to 24 bits are those of a table.
use Rattle.std.proofs.Common.{◌≤◌, ℕ, List}
use Rattle.rel_model.specs.Equations.{IsSoundTable}
use Rattle.rv_compact.specs.Compacted.{IsTable}

pub of_bits : (bits : ℕ) (words : List ℕ) → 10 ≤ bits → bits ≤ 24 → IsSoundTable bits words → IsTable words
of_bits bits words low high sound = record { bits = bits; low = low; high = high; sound = sound }
