-- The tests of a named relation, in the two groups in which they are made.
-- 1. The tests of a group are truth values in a row; where the first ones are true and the next is false, the fault is
--    the next one's (`name-…`, `root-…`).
-- 2. Both groups behind one another are the tests of the format (`both-groups`).
use Rattle.std.proofs.Common.{◌≡◌, ◌&&◌, ◌^◌, ◌≤◌, ◌<◌, leb, eqb, ℕ, Bool, true, false, List, [], ◌∷◌, length, Option, Some, None, refl, sym, ap, ◌∙◌, arith}
use Rattle.std.proofs.lemmas.Bool.{le-leb, lt-leb, and_from, and_left, and_right, eqb-true, eqb-false}
use Rattle.run_model.specs.declared.outcome.BadFile.{BadFile}
use Rattle.run_model.specs.declared.outcome.BadFile.TheVariants.{Short, Sizes, Outside, Names as BAD_NAMES, Root}
use Rattle.lang_model.specs.Missing.{first_of_both}
use Rattle.rel_model.specs.Relation.{size_limit}
use Rattle.rel_model.specs.Roots.{lies_within}
use Rattle.run_model.specs.Files.{file_height, unless, first_of_all}
use Rattle.run_model.specs.SharedFiles.{Quadrant, name_length, entry_length, entry_in, is_word, is_behind, is_root, cells_told, entry_fault}
use Rattle.k2_parts.specs.Roots.{root_fault, name_fault}

-- ---- the name
pub none_there : (n : ℕ) (b : Bool) → b ≡ eqb n 0 → b ≡ true → n < 1
none_there n b e t = let z = eqb-true n 0 (sym e ∙ t) in omega (arith, z)

pub some_there : (n : ℕ) (b : Bool) → b ≡ eqb n 0 → b ≡ false → 1 ≤ n
some_there n b e t = let z = eqb-false n 0 (sym e ∙ t) in omega (arith, z)

abbrev pub four : ℕ → Bool → Bool → Bool → Bool → Option BadFile
four at a b c d = first_of_all (unless a Short ∷ unless b (BAD_NAMES at) ∷ unless c Short ∷ unless d (BAD_NAMES at) ∷ [])

four-1 : (at : ℕ) (a b c d : Bool) → a ≡ false → four at a b c d ≡ Some Short
four-1 at a b c d x = ap (λ t. four at t b c d) x

four-2 : (at : ℕ) (a b c d : Bool) → a ≡ true → b ≡ false → four at a b c d ≡ Some (BAD_NAMES at)
four-2 at a b c d x y = ap (λ t. four at t b c d) x ∙ ap (λ t. four at true t c d) y

four-3 : (at : ℕ) (a b c d : Bool) → a ≡ true → b ≡ true → c ≡ false → four at a b c d ≡ Some Short
four-3 at a b c d x y z = ap (λ t. four at t b c d) x ∙ (ap (λ t. four at true t c d) y ∙ ap (λ t. four at true true t d) z)

-- where the first three tests pass, the last one tells
four-4 : (at : ℕ) (a b c d e : Bool) → a ≡ true → b ≡ true → c ≡ true → d ≡ e → four at a b c d ≡ four at true true true e
four-4 at a b c d e x y z w = ap (λ t. four at t b c d) x ∙ (ap (λ t. four at true t c d) y ∙ (ap (λ t. four at true true t d) z ∙ ap (λ t. four at true true true t) w))

module _ (at : ℕ) (earlier : Option (List ℕ)) (bytes : List ℕ) where
  abbrev l : ℕ
  l = name_length bytes

  abbrev size_fits : Bool
  size_fits = leb 1 l && leb l 64

  abbrev is_there : Bool
  is_there = leb (entry_length bytes) (length bytes)

  abbrev is_next : Bool
  is_next = is_word (entry_in bytes).name && is_behind earlier (entry_in bytes).name

  -- where no byte is left there is not even the length of a name
  pub name-none : length bytes < 1 → name_fault at earlier bytes ≡ Some Short
  unfolding name_fault
  name-none h = four-1 at (leb 1 (length bytes)) size_fits is_there is_next (lt-leb 1 (length bytes) h)

  module _ (some : 1 ≤ length bytes) where
    pub name-empty : l < 1 → name_fault at earlier bytes ≡ Some (BAD_NAMES at)
    unfolding name_fault
    name-empty h = four-2 at (leb 1 (length bytes)) size_fits is_there is_next (le-leb 1 (length bytes) some) (and_left (leb 1 l) (leb l 64) (lt-leb 1 l h))

    pub name-over : 64 < l → name_fault at earlier bytes ≡ Some (BAD_NAMES at)
    unfolding name_fault
    name-over h = four-2 at (leb 1 (length bytes)) size_fits is_there is_next (le-leb 1 (length bytes) some) (and_right (leb 1 l) (leb l 64) (lt-leb l 64 h))

    module _ (low : 1 ≤ l) (high : l ≤ 64) where
      pub name-short : length bytes < entry_length bytes → name_fault at earlier bytes ≡ Some Short
      unfolding name_fault
      name-short h =
          four-3 at (leb 1 (length bytes)) size_fits is_there is_next (le-leb 1 (length bytes) some) (and_from (leb 1 l) (leb l 64) (le-leb 1 l low) (le-leb l 64 high))
          (lt-leb (entry_length bytes) (length bytes) h)

      module _ (long : entry_length bytes ≤ length bytes) where
        last : (b : Bool) → is_next ≡ b → name_fault at earlier bytes ≡ four at true true true b
        unfolding name_fault
        last b h =
            four-4 at (leb 1 (length bytes)) size_fits is_there is_next b (le-leb 1 (length bytes) some) (and_from (leb 1 l) (leb l 64) (le-leb 1 l low) (le-leb l 64 high))
            (le-leb (entry_length bytes) (length bytes) long) h

        pub name-other : is_word (entry_in bytes).name ≡ false → name_fault at earlier bytes ≡ Some (BAD_NAMES at)
        name-other h = last false (and_left (is_word (entry_in bytes).name) (is_behind earlier (entry_in bytes).name) h)

        pub name-before : is_behind earlier (entry_in bytes).name ≡ false → name_fault at earlier bytes ≡ Some (BAD_NAMES at)
        name-before h = last false (and_right (is_word (entry_in bytes).name) (is_behind earlier (entry_in bytes).name) h)

        pub name-good : is_word (entry_in bytes).name ≡ true → is_behind earlier (entry_in bytes).name ≡ true → name_fault at earlier bytes ≡ None
        name-good h k = last true (and_from (is_word (entry_in bytes).name) (is_behind earlier (entry_in bytes).name) h k)

-- ---- the root
abbrev pub three : ℕ → Bool → Bool → Bool → Option BadFile
three at a b c = first_of_all (unless a Sizes ∷ unless b (Root at) ∷ unless c (Outside at) ∷ [])

three-1 : (at : ℕ) (a b c : Bool) → a ≡ false → three at a b c ≡ Some Sizes
three-1 at a b c x = ap (λ t. three at t b c) x

three-2 : (at : ℕ) (a b c : Bool) → a ≡ true → b ≡ false → three at a b c ≡ Some (Root at)
three-2 at a b c x y = ap (λ t. three at t b c) x ∙ ap (λ t. three at true t c) y

-- where the first two tests pass, the last one tells
three-3 : (at : ℕ) (a b c d : Bool) → a ≡ true → b ≡ true → c ≡ d → three at a b c ≡ three at true true d
three-3 at a b c d x y z = ap (λ t. three at t b c) x ∙ (ap (λ t. three at true t c) y ∙ ap (λ t. three at true true t) z)

module _ (quads : List Quadrant) (heights : List ℕ) (at rows cols root : ℕ) where
  abbrev h : ℕ
  h = file_height rows cols

  abbrev sizes_fit : Bool
  sizes_fit = leb rows size_limit && leb cols size_limit

  abbrev is_one : Bool
  is_one = is_root quads heights h root

  abbrev is_inside : Bool
  is_inside = lies_within (2 ^ h) rows cols (cells_told quads h root)

  pub root-rows : size_limit < rows → root_fault quads heights at rows cols root ≡ Some Sizes
  unfolding root_fault
  root-rows l = three-1 at sizes_fit is_one is_inside (and_left (leb rows size_limit) (leb cols size_limit) (lt-leb rows size_limit l))

  -- too many columns fail the first test, as too many rows do
  pub root-cols : size_limit < cols → root_fault quads heights at rows cols root ≡ Some Sizes
  unfolding root_fault
  root-cols l = three-1 at sizes_fit is_one is_inside (and_right (leb rows size_limit) (leb cols size_limit) (lt-leb cols size_limit l))

  module _ (r : rows ≤ size_limit) (c : cols ≤ size_limit) where
    both_fit : sizes_fit ≡ true
    both_fit = and_from (leb rows size_limit) (leb cols size_limit) (le-leb rows size_limit r) (le-leb cols size_limit c)

    pub root-none : is_one ≡ false → root_fault quads heights at rows cols root ≡ Some (Root at)
    unfolding root_fault
    root-none n = three-2 at sizes_fit is_one is_inside both_fit n

    pub root-outside : is_one ≡ true → is_inside ≡ false → root_fault quads heights at rows cols root ≡ Some (Outside at)
    unfolding root_fault
    root-outside n o = three-3 at sizes_fit is_one is_inside false both_fit n o

    pub root-good : is_one ≡ true → is_inside ≡ true → root_fault quads heights at rows cols root ≡ None
    unfolding root_fault
    root-good n o = three-3 at sizes_fit is_one is_inside true both_fit n o

-- where no test of the root fails it is one
pub root-is : (quads : List Quadrant) (heights : List ℕ) (at rows cols root : ℕ) → root_fault quads heights at rows cols root ≡ None → is_root quads heights (file_height rows cols) root ≡ true
unfolding root_fault
root-is quads heights at rows cols root none = by (leb rows size_limit && leb cols size_limit) (is_root quads heights (file_height rows cols) root) (lies_within (2 ^ file_height rows cols) rows cols (cells_told quads (file_height rows cols) root)) none
  where
    count : Option BadFile → ℕ
    count None = 0
    count (Some f) = 1

    by : (a b c : Bool) → three at a b c ≡ None → b ≡ true
    by a true c e = refl
    by true false c e = let x : 1 ≡ 0 = ap count e in absurd (omega (arith, x))
    by false false c e = let x : 1 ≡ 0 = ap count e in absurd (omega (arith, x))

-- ---- both
parted : (a b c d rest : Option BadFile) → first_of_both a (first_of_both b (first_of_both c (first_of_both d rest))) ≡ first_of_both (first_of_both a (first_of_both b (first_of_both c (first_of_both d None)))) rest
parted (Some x) b c d rest = refl
parted None (Some x) c d rest = refl
parted None None (Some x) d rest = refl
parted None None None (Some x) rest = refl
parted None None None None rest = refl

pub both-groups : (quads : List Quadrant) (heights : List ℕ) (at : ℕ) (earlier : Option (List ℕ)) (bytes : List ℕ) →
    entry_fault quads heights at earlier bytes ≡ first_of_both (name_fault at earlier bytes) (root_fault quads heights at (entry_in bytes).rows (entry_in bytes).cols (entry_in bytes).root)
unfolding entry_fault name_fault root_fault
both-groups quads heights at earlier bytes =
    let e = entry_in bytes in
    let h = file_height e.rows e.cols in
    parted (unless (leb 1 (length bytes)) Short) (unless (leb 1 (name_length bytes) && leb (name_length bytes) 64) (BAD_NAMES at)) (unless (leb (entry_length bytes) (length bytes)) Short)
    (unless (is_word e.name && is_behind earlier e.name) (BAD_NAMES at))
    (three at (leb e.rows size_limit && leb e.cols size_limit) (is_root quads heights h e.root) (lies_within (2 ^ h) e.rows e.cols (cells_told quads h e.root)))
