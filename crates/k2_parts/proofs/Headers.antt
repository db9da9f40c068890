-- The tests of the header, one by one.
use Rattle.std.proofs.Common.{◌≡◌, ◌≤◌, ◌<◌, leb, Bool, true, false, List, [], ◌∷◌, ℕ, length, Option, Some, None, ap, ◌∙◌}
use Rattle.std.proofs.lemmas.Bool.{le-leb, lt-leb}
use Rattle.run_model.specs.declared.outcome.BadFile.{BadFile}
use Rattle.run_model.specs.declared.outcome.BadFile.TheVariants.{Short, Magic}
use Rattle.run_model.specs.Files.{unless, first_of_all}
use Rattle.run_model.specs.SharedFiles.{begins_shared, entries_at}
use Rattle.k2_parts.specs.Tests.{header_fault}

-- three tests in a row
abbrev three : Bool → Bool → Bool → Option BadFile
three a b c = first_of_all (unless a Magic ∷ unless b Short ∷ unless c Short ∷ [])

second : (a b c : Bool) → a ≡ true → b ≡ false → three a b c ≡ Some Short
second a b c x y = ap (λ t. three t b c) x ∙ ap (λ t. three true t c) y

third : (a b c d : Bool) → a ≡ true → b ≡ true → c ≡ d → three a b c ≡ three true true d
third a b c d x y z = ap (λ t. three t b c) x ∙ (ap (λ t. three true t c) y ∙ ap (λ t. three true true t) z)

module _ (bytes : List ℕ) where
  pub header-magic : begins_shared bytes ≡ false → header_fault bytes ≡ Some Magic
  unfolding header_fault
  header-magic n = ap (λ t. three t (leb 12 (length bytes)) (leb (entries_at bytes) (length bytes))) n

  pub header-short : begins_shared bytes ≡ true → length bytes < 12 → header_fault bytes ≡ Some Short
  unfolding header_fault
  header-short n l = second (begins_shared bytes) (leb 12 (length bytes)) (leb (entries_at bytes) (length bytes)) n (lt-leb 12 (length bytes) l)

  pub header-end : begins_shared bytes ≡ true → 12 ≤ length bytes → length bytes < entries_at bytes → header_fault bytes ≡ Some Short
  unfolding header_fault
  header-end n l e = third _ _ _ false n (le-leb 12 (length bytes) l) (lt-leb (entries_at bytes) (length bytes) e)

  pub header-good : begins_shared bytes ≡ true → 12 ≤ length bytes → entries_at bytes ≤ length bytes → header_fault bytes ≡ None
  unfolding header_fault
  header-good n l e = third _ _ _ true n (le-leb 12 (length bytes) l) (le-leb (entries_at bytes) (length bytes) e)
