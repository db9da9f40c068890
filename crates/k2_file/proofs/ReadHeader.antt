-- The numbers of a header, and the first of its tests that fails.
-- 1. Each field is the number in its bytes, by `byteorder` as by std.
-- 2. The tests are five truth values in a row; where the first ones are true and the next is false, the fault is the next one's.
use Rattle.std.proofs.Common.{◌≡◌, ◌==◌, ◌&&◌, ◌+◌, ◌≤◌, ◌<◌, ℕ, Bool, true, false, leb, List, [], ◌∷◌, length, take, get_or, codes, Option, Some, None, refl, ap, ◌∙◌, arith}
use Rattle.std.specs.Int.{w32, w64, from_be_bytes}
use Rattle.byteorder.specs.Endian.{big_number}
use Rattle.std.proofs.lemmas.Bool.{le-leb, lt-leb, and_from, and_left, and_right, eq-eqb, ne_eqb}
use Rattle.run_model.specs.declared.outcome.BadFile.{BadFile}
use Rattle.run_model.specs.declared.outcome.BadFile.TheVariants.{Short, Magic, Sizes, Height}
use Rattle.lang_model.specs.Tokens.{same_text}
use Rattle.rel_model.specs.Relation.{size_limit}
use Rattle.rel_model.proofs.Heights.{height_of-limit}
use Rattle.run_model.specs.Files.{header_length, bytes_for, fields, part, file_height, unless, first_of_all}
use Rattle.k2_file.specs.declared.header.Header.{Header}
use Rattle.k2_file.specs.Told.{AreFields, end_of, header_fault}

-- byteorder's numbers are std's
pub number_4 : (xs : List ℕ) → big_number 4 xs ≡ from_be_bytes w32 xs
number_4 xs = omega arith

pub number_8 : (xs : List ℕ) → big_number 8 xs ≡ from_be_bytes w64 xs
number_8 xs = omega arith

-- the numbers of the fields
pub rows-is : (bytes : List ℕ) → (fields bytes).rows ≡ from_be_bytes w32 (part bytes 4 4)
unfolding fields
rows-is bytes = refl

pub cols-is : (bytes : List ℕ) → (fields bytes).cols ≡ from_be_bytes w32 (part bytes 8 4)
unfolding fields
cols-is bytes = refl

pub height-is : (bytes : List ℕ) → (fields bytes).height ≡ get_or bytes 12 0
unfolding fields
height-is bytes = refl

pub tree_count-is : (bytes : List ℕ) → (fields bytes).tree_count ≡ from_be_bytes w64 (part bytes 13 8)
unfolding fields
tree_count-is bytes = refl

pub cell_count-is : (bytes : List ℕ) → (fields bytes).cell_count ≡ from_be_bytes w64 (part bytes 21 8)
unfolding fields
cell_count-is bytes = refl

-- ---- five tests
unfoldable pub five : Bool → Bool → Bool → Bool → Bool → Option BadFile
five a b c d e = first_of_all (unless a Short ∷ unless b Magic ∷ unless c Sizes ∷ unless d Height ∷ unless e Short ∷ [])

pub five-header : (bytes : List ℕ) → header_fault bytes ≡ five (leb header_length (length bytes)) (same_text (take 4 bytes) (codes "RVK1"))
    (leb (fields bytes).rows size_limit && leb (fields bytes).cols size_limit)
    ((fields bytes).height == file_height (fields bytes).rows (fields bytes).cols) (leb (end_of bytes) (length bytes))
unfolding header_fault five
five-header bytes = refl

five-1 : (a b c d e : Bool) → a ≡ false → five a b c d e ≡ Some Short
unfolding five
five-1 a b c d e x = ap (λ t. five t b c d e) x

five-2 : (a b c d e : Bool) → a ≡ true → b ≡ false → five a b c d e ≡ Some Magic
unfolding five
five-2 a b c d e x y = ap (λ t. five t b c d e) x ∙ ap (λ t. five true t c d e) y

five-3 : (a b c d e : Bool) → a ≡ true → b ≡ true → c ≡ false → five a b c d e ≡ Some Sizes
unfolding five
five-3 a b c d e x y z = ap (λ t. five t b c d e) x ∙ ap (λ t. five true t c d e) y ∙ ap (λ t. five true true t d e) z

five-4 : (a b c d e : Bool) → a ≡ true → b ≡ true → c ≡ true → d ≡ false → five a b c d e ≡ Some Height
unfolding five
five-4 a b c d e x y z w = ap (λ t. five t b c d e) x ∙ ap (λ t. five true t c d e) y ∙ ap (λ t. five true true t d e) z ∙ ap (λ t. five true true true t e) w

five-5 : (a b c d e : Bool) → a ≡ true → b ≡ true → c ≡ true → d ≡ true → five a b c d e ≡ five true true true true e
five-5 a b c d e x y z w = ap (λ t. five t b c d e) x ∙ ap (λ t. five true t c d e) y ∙ ap (λ t. five true true t d e) z ∙ ap (λ t. five true true true t e) w

five-short : (e : Bool) → e ≡ false → five true true true true e ≡ Some Short
unfolding five
five-short e x = ap (λ t. five true true true true t) x

five-none : (e : Bool) → e ≡ true → five true true true true e ≡ None
unfolding five
five-none e x = ap (λ t. five true true true true t) x

module _ (bytes : List ℕ) where
  pub header-short : length bytes < 29 → header_fault bytes ≡ Some Short
  header-short l = five-header bytes ∙ five-1 _ _ _ _ _ (lt-leb 29 (length bytes) l)

  pub header-magic : 29 ≤ length bytes → same_text (take 4 bytes) (codes "RVK1") ≡ false → header_fault bytes ≡ Some Magic
  header-magic l n = five-header bytes ∙ five-2 _ _ _ _ _ (le-leb 29 (length bytes) l) n

  pub header-rows : 29 ≤ length bytes → same_text (take 4 bytes) (codes "RVK1") ≡ true → size_limit < (fields bytes).rows → header_fault bytes ≡ Some Sizes
  header-rows l n s =
      five-header bytes ∙ five-3 _ _ _ _ _ (le-leb 29 (length bytes) l) n (and_left _ (leb (fields bytes).cols size_limit) (lt-leb (fields bytes).rows size_limit s))

  -- too many columns fail the third test, as too many rows do
  pub header-cols : 29 ≤ length bytes → same_text (take 4 bytes) (codes "RVK1") ≡ true → size_limit < (fields bytes).cols → header_fault bytes ≡ Some Sizes
  header-cols l n s =
      five-header bytes ∙ five-3 _ _ _ _ _ (le-leb 29 (length bytes) l) n (and_right (leb (fields bytes).rows size_limit) _ (lt-leb (fields bytes).cols size_limit s))

  module _ (l : 29 ≤ length bytes) (n : same_text (take 4 bytes) (codes "RVK1") ≡ true) (r : (fields bytes).rows ≤ size_limit) (c : (fields bytes).cols ≤ size_limit) where
    sizes-pass : (leb (fields bytes).rows size_limit && leb (fields bytes).cols size_limit) ≡ true
    sizes-pass = and_from _ _ (le-leb (fields bytes).rows size_limit r) (le-leb (fields bytes).cols size_limit c)

    pub header-height : ((fields bytes).height ≡ file_height (fields bytes).rows (fields bytes).cols → ⊥) → header_fault bytes ≡ Some Height
    header-height h =
        five-header bytes ∙ five-4 _ _ _ _ _ (le-leb 29 (length bytes) l) n sizes-pass
        (ne_eqb (fields bytes).height (file_height (fields bytes).rows (fields bytes).cols) h)

    pub header-end : (fields bytes).height ≡ file_height (fields bytes).rows (fields bytes).cols → length bytes < end_of bytes → header_fault bytes ≡ Some Short
    header-end h e =
        five-header bytes ∙ five-5 _ _ _ _ _ (le-leb 29 (length bytes) l) n sizes-pass
        (eq-eqb (fields bytes).height (file_height (fields bytes).rows (fields bytes).cols) h)
        ∙ five-short _ (lt-leb (end_of bytes) (length bytes) e)

    pub header-good : (fields bytes).height ≡ file_height (fields bytes).rows (fields bytes).cols → end_of bytes ≤ length bytes → header_fault bytes ≡ None
    header-good h e =
        five-header bytes ∙ five-5 _ _ _ _ _ (le-leb 29 (length bytes) l) n sizes-pass
        (eq-eqb (fields bytes).height (file_height (fields bytes).rows (fields bytes).cols) h)
        ∙ five-none _ (le-leb (end_of bytes) (length bytes) e)

-- ---- by a header
module _ (bytes : List ℕ) (h : Header) (w : AreFields bytes h) where
  pub same-height : file_height h.rows h.cols ≡ file_height (fields bytes).rows (fields bytes).cols
  same-height = ap (λ (n : ℕ). file_height n h.cols) w.rows_are ∙ ap (λ (n : ℕ). file_height (fields bytes).rows n) w.cols_are

  pub same-end : 29 + bytes_for h.tree_count + bytes_for h.cell_count ≡ end_of bytes
  same-end = ap (λ (n : ℕ). 29 + bytes_for n + bytes_for h.cell_count) w.tree_is ∙ ap (λ (n : ℕ). 29 + bytes_for (fields bytes).tree_count + bytes_for n) w.cells_are

pub height-least : (rows cols : ℕ) → 1 ≤ file_height rows cols
unfolding file_height
height-least rows cols = omega arith

pub height-most : (rows cols : ℕ) → file_height rows cols ≤ 24
unfolding file_height
height-most rows cols = omega (arith, height_of-limit rows, height_of-limit cols)
