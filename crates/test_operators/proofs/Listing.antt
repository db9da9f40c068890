-- Listed pairs within the sizes, one after another.
use Rattle.std.proofs.Common.{ℕ, ◌<◌, List, [], ◌∷◌, ◌++◌}
use Rattle.rel_model.specs.Listed.{AreWithin}

pub within_more : (m n i j : ℕ) (ps : List (ℕ × ℕ)) → AreWithin m n ps → i < m → j < n → AreWithin m n (ps ++ (i, j) ∷ [])
within_more m n i j [] w a b = ((a, b), tt)
within_more m n i j (p ∷ ps) w a b = (w.0, within_more m n i j ps w.1 a b)
