-- The tests of a file in the groups in which they are made, one group behind the other.
-- 1. Those behind the listed quadrants: of the named roots, of the order, and that no byte is left (`rest-…`).
-- 2. Those of the file: of the header, of the quadrants, and of what is behind them (`parts`).
-- 3. What the code reads from slices is what the file has (`quads-are`, `rest-are`), so its faults and its parts are the file's.
use Rattle.std.proofs.Common.{◌≡◌, ◌==◌, ◌+◌, ◌-◌, ◌*◌, leb, ℕ, Bool, true, false, List, [], ◌∷◌, length, take, drop, Option, Some, None, refl, sym, ap, subst, ◌∙◌}
use Rattle.std.proofs.lemmas.Bool.{eq-eqb, ne_eqb}
use Rattle.std.proofs.lemmas.List.{length-map}
use Rattle.run_model.specs.declared.outcome.BadFile.{BadFile}
use Rattle.run_model.specs.declared.outcome.BadFile.TheVariants.{Short, Magic, Rest, Order, Quad}
use Rattle.lang_model.specs.Missing.{first_of_both}
use Rattle.run_model.specs.Files.{unless, found_at, first_of_all}
use Rattle.run_model.specs.SharedFiles.{Quadrant, begins_shared, quadrant_count, entry_count, entries_at, quadrants_in, quadrants_of, entries_in, entries_of, entries_length, entries_fault, heights_behind, first_bad, first_out, visit_roots, shared_fault}
use Rattle.run_model.proofs.SharedBytes.{quadrants_count}
use Rattle.k2_file.specs.Told.{IsFaultOf}
use Rattle.k2_file.proofs.ReadFaults.{fault-moves}
use Rattle.k2_parts.specs.declared.form.Quadrant.{Quadrant as LISTED}
use Rattle.k2_parts.specs.declared.form.NamedRoot.{NamedRoot as NAMED}
use Rattle.k2_parts.specs.declared.header.Header.{Header}
use Rattle.k2_parts.specs.declared.quads.Listed.{Listed}
use Rattle.k2_parts.specs.Told.{quadrant_told, quadrants_told, roots_told, AreSound}
use Rattle.k2_parts.specs.Tests.{IsHeader, AreListed, header_fault, quads_fault}
use Rattle.k2_parts.specs.Roots.{rest_fault}
use Rattle.k2_parts.proofs.Entering.{IsPlain, is-fault}
use Rattle.k2_parts.proofs.Listing.{tail}

-- ---- behind the quadrants
module _ (quads : List Quadrant) (heights : List ℕ) (count : ℕ) (bytes : List ℕ) where
  abbrev roots_found : Option BadFile
  roots_found = entries_fault quads heights 0 None count bytes

  abbrev out : Option ℕ
  out = first_out 2 (length quads) (visit_roots quads [] (entries_in count bytes))

  abbrev is_all : Bool
  is_all = length bytes == entries_length count bytes

  -- a fault of the named roots is that of the rest, since they are tested first
  pub rest-roots : (fault : BadFile) → IsFaultOf roots_found fault → IsFaultOf (rest_fault quads heights count bytes) fault
  unfolding rest_fault
  rest-roots fault h =
      fault-moves roots_found (first_of_all (roots_found ∷ found_at Order out ∷ unless is_all Rest ∷ [])) fault
      (λ e f. ap (λ t. first_of_all (t ∷ found_at Order out ∷ unless is_all Rest ∷ [])) f) h

  module _ (none : roots_found ≡ None) where
    pub rest-order : (at : ℕ) → out ≡ Some at → rest_fault quads heights count bytes ≡ Some (Order at)
    unfolding rest_fault
    rest-order at o =
        ap (λ t. first_of_all (t ∷ found_at Order out ∷ unless is_all Rest ∷ [])) none
        ∙ ap (λ t. first_of_all (None ∷ found_at Order t ∷ unless is_all Rest ∷ [])) o

    last : (b : Bool) → out ≡ None → is_all ≡ b → rest_fault quads heights count bytes ≡ first_of_all (unless b Rest ∷ [])
    unfolding rest_fault
    last b o h =
        ap (λ t. first_of_all (t ∷ found_at Order out ∷ unless is_all Rest ∷ [])) none
        ∙ (ap (λ t. first_of_all (None ∷ found_at Order t ∷ unless is_all Rest ∷ [])) o ∙ ap (λ t. first_of_all (unless t Rest ∷ [])) h)

    pub rest-left : out ≡ None → (length bytes ≡ entries_length count bytes → ⊥) → rest_fault quads heights count bytes ≡ Some Rest
    rest-left o h = last false o (ne_eqb (length bytes) (entries_length count bytes) h)

    pub rest-none : out ≡ None → length bytes ≡ entries_length count bytes → rest_fault quads heights count bytes ≡ None
    rest-none o h = last true o (eq-eqb (length bytes) (entries_length count bytes) h)

-- the order test, by the roots that were read
pub out-told : (quads : List LISTED) (roots : List NAMED) (count : ℕ) (bytes : List ℕ) → roots_told roots ≡ entries_in count bytes →
    first_out 2 (length (quadrants_told quads)) (visit_roots (quadrants_told quads) [] (entries_in count bytes)) ≡ first_out 2 (length quads) (visit_roots (quadrants_told quads) [] (roots_told roots))
out-told quads roots count bytes e = λ i. first_out 2 (length-map quads quadrant_told i) (visit_roots (quadrants_told quads) [] (sym e i))

-- ---- the file
joined : (a b c rest : Option BadFile) → first_of_both a (first_of_both b (first_of_both c rest)) ≡ first_of_both (first_of_both a (first_of_both b (first_of_both c None))) rest
joined (Some x) b c rest = refl
joined None (Some x) c rest = refl
joined None None (Some x) rest = refl
joined None None None rest = refl

-- the tests behind the quadrants of the file
abbrev rest_of : List ℕ → Option BadFile
rest_of bytes = rest_fault (quadrants_of bytes) (heights_behind [] (quadrants_of bytes)) (entry_count bytes) (drop (entries_at bytes) bytes)

count-listed : (bytes : List ℕ) → quadrant_count bytes ≡ length (quadrants_of bytes)
unfolding quadrants_of
count-listed bytes = sym (quadrants_count (quadrant_count bytes) (drop 12 bytes))

pub parts : (bytes : List ℕ) → shared_fault bytes ≡ first_of_both (header_fault bytes) (first_of_both (quads_fault (quadrants_of bytes)) (rest_of bytes))
unfolding shared_fault header_fault rest_fault entries_of
parts bytes =
    let quads = quadrants_of bytes in
    let k = entry_count bytes in
    let rest = drop (entries_at bytes) bytes in
    let e = entries_fault quads (heights_behind [] quads) 0 None k rest in
    let left = first_of_both (unless (length rest == entries_length k rest) Rest) None in
    joined (unless (begins_shared bytes) Magic) (unless (leb 12 (length bytes)) Short) (unless (leb (entries_at bytes) (length bytes)) Short)
    (first_of_both (quads_fault quads) (first_of_both e (first_of_both (found_at Order (first_out 2 (quadrant_count bytes) (visit_roots quads [] (entries_in k rest)))) left)))
    ∙ ap (λ (n : ℕ). first_of_both (header_fault bytes) (first_of_both (quads_fault quads) (first_of_both e (first_of_both (found_at Order (first_out 2 n (visit_roots quads [] (entries_in k rest)))) left)))) (count-listed bytes)

plain-header : (a b c : Bool) → IsPlain (first_of_all (unless a Magic ∷ unless b Short ∷ unless c Short ∷ []))
plain-header false b c = tt
plain-header true false c = tt
plain-header true true false = tt
plain-header true true true = tt

header-plain : (bytes : List ℕ) → IsPlain (header_fault bytes)
unfolding header_fault
header-plain bytes = plain-header (begins_shared bytes) (leb 12 (length bytes)) (leb (entries_at bytes) (length bytes))

pub fault-header : (bytes : List ℕ) (fault : BadFile) → header_fault bytes ≡ Some fault → IsFaultOf (shared_fault bytes) fault
fault-header bytes fault h =
    fault-moves (header_fault bytes) (shared_fault bytes) fault
    (λ e f. parts bytes ∙ ap (λ t. first_of_both t (first_of_both (quads_fault (quadrants_of bytes)) (rest_of bytes))) f)
    (is-fault (header_fault bytes) fault (header-plain bytes) h)

-- the bytes from a place on, as the code takes them
abbrev from : List ℕ → ℕ → List ℕ
from bytes at = take (length bytes - at) (drop at bytes)

module _ (bytes : List ℕ) (h : Header) (k : IsHeader bytes h) (none : header_fault bytes ≡ None) where
  quads-are : quadrants_in h.quads (from bytes 12) ≡ quadrants_of bytes
  unfolding quadrants_of
  quads-are = λ i. quadrants_in (k.quads_are i) (tail 12 bytes i)

  behind-header : shared_fault bytes ≡ first_of_both (quads_fault (quadrants_of bytes)) (rest_of bytes)
  behind-header = parts bytes ∙ ap (λ t. first_of_both t (first_of_both (quads_fault (quadrants_of bytes)) (rest_of bytes))) none

  -- where the header has no fault, one of the quadrants is the file's, since they are tested next
  pub fault-quads : (fault : BadFile) → IsFaultOf (quads_fault (quadrants_in h.quads (from bytes 12))) fault → IsFaultOf (shared_fault bytes) fault
  fault-quads fault f =
      fault-moves (quads_fault (quadrants_of bytes)) (shared_fault bytes) fault (λ e g. behind-header ∙ ap (λ t. first_of_both t (rest_of bytes)) g)
      (subst (λ qs. IsFaultOf (quads_fault qs) fault) quads-are f)

  module _ (l : Listed) (a : AreListed (quadrants_in h.quads (from bytes 12)) l) (qs : List LISTED) (hs : List ℕ) (q : qs ≡ l.quads.items) (g : hs ≡ l.heights.items) where
    told-are : quadrants_told qs ≡ quadrants_of bytes
    told-are = ap quadrants_told q ∙ (a.told ∙ quads-are)

    heights-are : hs ≡ heights_behind [] (quadrants_of bytes)
    heights-are = g ∙ (a.heights ∙ ap (heights_behind []) quads-are)

    -- what the code knows of the quadrants where it reads on
    pub sound : AreSound qs hs
    sound = record {
      none_bad = ap (first_bad 2 [] []) (ap quadrants_told q ∙ a.told) ∙ a.none_bad;
      heights_are = heights-are ∙ ap (heights_behind []) (sym told-are);
    }

    none-bad : quads_fault (quadrants_of bytes) ≡ None
    none-bad = ap quads_fault (sym quads-are) ∙ ap (found_at Quad) a.none_bad

    all-behind : shared_fault bytes ≡ rest_of bytes
    all-behind = behind-header ∙ ap (λ t. first_of_both t (rest_of bytes)) none-bad

    module _ (end : ℕ) (e : end ≡ 12 + 16 * h.quads) where
      rest-are : from bytes end ≡ drop (entries_at bytes) bytes
      rest-are = tail end bytes ∙ ap (λ (n : ℕ). drop n bytes) (e ∙ ap (λ (n : ℕ). 12 + 16 * n) k.quads_are)

      rest-is : rest_fault (quadrants_told qs) hs h.roots (from bytes end) ≡ rest_of bytes
      rest-is = λ i. rest_fault (told-are i) (heights-are i) (k.roots_are i) (rest-are i)

      pub fault-rest : (fault : BadFile) → IsFaultOf (rest_fault (quadrants_told qs) hs h.roots (from bytes end)) fault → IsFaultOf (shared_fault bytes) fault
      fault-rest fault f = subst (λ t. IsFaultOf t fault) (rest-is ∙ sym all-behind) f

      pub no-fault : rest_fault (quadrants_told qs) hs h.roots (from bytes end) ≡ None → shared_fault bytes ≡ None
      no-fault n = all-behind ∙ (sym rest-is ∙ n)

      pub are-quads : quadrants_told l.quads.items ≡ quadrants_of bytes
      are-quads = a.told ∙ quads-are

      pub are-heights : l.heights.items ≡ heights_behind [] (quadrants_of bytes)
      are-heights = a.heights ∙ ap (heights_behind []) quads-are

      pub are-roots : (roots : List NAMED) → roots_told roots ≡ entries_in h.roots (from bytes end) → roots_told roots ≡ entries_of bytes
      unfolding entries_of
      are-roots roots t = t ∙ (λ i. entries_in (k.roots_are i) (rest-are i))
