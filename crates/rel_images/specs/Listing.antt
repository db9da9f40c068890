-- The image of a line by listed pairs.
use Rattle.std.specs.Prelude.{◌≡◌, ◌==◌, ◌<◌, ◌+◌, ◌^◌, ◌&&◌, ◌||◌, cond, ℕ, Bool, List, length}
use Rattle.std.specs.List.{list_any}
use Rattle.rel_images.specs.Lines.{Line, bits_of, line_under}

-- the image of a line by these pairs, or by the pairs turned
abbrev pub listed_image : Bool → Line → List (ℕ × ℕ) → Line
listed_image turned x pairs j = list_any (λ p. x (cond turned p.1 p.0) && (cond turned p.0 p.1 == j)) pairs

-- element j was added to the line of a heap, d levels above its leaves, if a test holds
pub record AddsElement (least d : ℕ) (test : Bool) (j : ℕ) (old new : List ℕ) : Type 0 where
  pub len : length new ≡ length old
  pub line : (i : ℕ) → i < 2 ^ (least + d) → line_under least (bits_of new) d 1 i
      ≡ (line_under least (bits_of old) d 1 i || (test && (i == j)))
