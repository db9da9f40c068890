-- What a turn book keeps of first names and versions is all of them.
use Rattle.std.proofs.Common.{◌≡◌, ℕ, List, [], ◌∷◌, map, refl, ap}
use Rattle.rel_model.specs.declared.Rel.{Rel}
use Rattle.run_model.specs.Carried.{Carried, First}
use Rattle.rv_workspace.specs.Starts.{parts_of, rel_from, start_of, first_of}

same_names : (names : Carried) → map (λ (entry : List ℕ × (ℕ × ℕ × ℕ)). (entry.0, rel_from entry.1)) (map (λ (entry : List ℕ × Rel). (entry.0, parts_of entry.1)) names) ≡ names
same_names [] = refl
same_names (e ∷ es) = ap (λ (m : Carried). e ∷ m) (same_names es)

pub first_of-start_of : (first : First) → first_of (start_of first) ≡ first
first_of-start_of first = ap (λ (m : Carried). record { names = m; versions = first.versions }) (same_names first.names)
