-- What callers see of memo words that are stored, and of memo words after closing.
use Rattle.std.specs.Prelude.{◌≡◌, ◌≢◌, ℕ, List, Option, Some, IfSome}
use Rattle.rel_model.specs.Equations.{memo_word}
use Rattle.rel_model.specs.Views.{View, Keeps}

-- a memo word is stored: what was seen stays, no word is made, and the seat's last memo step is on this slot, which
-- then held this word
pub record Stores (slot word : ℕ) (old new : View) : Type 0 where
  pub keeps : Keeps old new
  pub made : new.made ≡ old.made
  pub last : new.last ≡ Some (slot, word)
  pub refused : new.refused ≡ old.refused

-- if a last memo step left its slot taken, the slot is still taken
abbrev pub IsStillTaken : ℕ → List ℕ → Option (ℕ × ℕ) → Type 0
IsStillTaken bits words last = IfSome last (λ p. p.1 ≢ 0 → memo_word bits words p.0 ≢ 0)

-- the memo word of a last memo step is still in its slot
abbrev pub IsStillThere : ℕ → List ℕ → Option (ℕ × ℕ) → Type 0
IsStillThere bits words last = IfSome last (λ p. memo_word bits words p.0 ≡ p.1)
