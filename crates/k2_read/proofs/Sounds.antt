-- Named roots of bytes without a fault: their sizes are within the limit, and their numbers stand at the heights of files.
use Rattle.std.proofs.Common.{◌≡◌, ◌+◌, ◌^◌, ◌&&◌, leb, cond, zero, suc, ℕ, Bool, true, false, List, [], ◌∷◌, map, length, drop, Option, Some, None, refl, sym, ap, subst, arith}
use Rattle.std.specs.List.{AllByRecursion}
use Rattle.std.proofs.lemmas.Bool.{leb-true, and_parts}
use Rattle.lang_model.specs.Tokens.{same_text}
use Rattle.rel_model.specs.Relation.{Relation, size_limit}
use Rattle.rel_model.proofs.Rooting.{lies_within-means}
use Rattle.run_model.specs.declared.outcome.BadFile.{BadFile}
use Rattle.run_model.specs.declared.outcome.BadFile.TheVariants.{Short, Magic, Sizes, Outside, Quad, Names as BAD_NAMES, Root}
use Rattle.run_model.specs.Files.{file_height, unless, found_at}
use Rattle.run_model.specs.SharedFiles.{begins_shared, Quadrant, shared_header, entry_count, entries_at, quadrants_of, heights_behind, first_bad, cells_told, name_length, entry_length, entry_in, entries_in, is_word, is_behind, is_root, entry_fault, entries_fault, entries_of, shared_fault, shared_relations, relation_told, relation_named}
use Rattle.run_model.proofs.SharedCells.{cells_within}
use Rattle.run_model.proofs.SharedTable.{IsTable, table}
use Rattle.run_model.proofs.SharedBack.{both_none, root_number}
use Rattle.k2_parts.specs.declared.form.Form.{Form}
use Rattle.k2_parts.specs.declared.form.NamedRoot.{NamedRoot as NAMED}
use Rattle.k2_parts.specs.Told.{quadrants_told, roots_told, IsFormOf}
use Rattle.k2_read.specs.declared.root.Root.{Root as ROOT}
use Rattle.k2_read.specs.Numbers.{IsSound, relation_at, entries_told, root_named}

abbrev fault_count : Option BadFile → ℕ
fault_count None = 0
fault_count (Some f) = 1

passes : (b : Bool) (f : BadFile) → unless b f ≡ None → b ≡ true
passes true f h = refl
passes false f h = let e : 1 ≡ 0 = ap fault_count h in absurd (omega (arith, e))

not_found : (f : ℕ → BadFile) (o : Option ℕ) → found_at f o ≡ None → o ≡ None
not_found f None h = refl
not_found f (Some at) h = let e : 1 ≡ 0 = ap fault_count h in absurd (omega (arith, e))

-- ---- entries that pass their tests
module _ (quads : List Quadrant) (heights : List ℕ) (t : IsTable quads heights) where
  entry_sound : (at : ℕ) (earlier : Option (List ℕ)) (xs : List ℕ) → entry_fault quads heights at earlier xs ≡ None →
      IsSound quads (entry_in xs).rows (entry_in xs).cols (entry_in xs).root
  unfolding entry_fault
  entry_sound at earlier xs none =
      let e = entry_in xs in
      let h = file_height e.rows e.cols in
      let r1 = both_none (unless (leb 1 (length xs)) Short) _ none in
      let r2 = both_none (unless (leb 1 (name_length xs) && leb (name_length xs) 64) (BAD_NAMES at)) _ r1.1 in
      let r3 = both_none (unless (leb (entry_length xs) (length xs)) Short) _ r2.1 in
      let r4 = both_none (unless (is_word e.name && is_behind earlier e.name) (BAD_NAMES at)) _ r3.1 in
      let r5 = both_none (unless (leb e.rows size_limit && leb e.cols size_limit) Sizes) _ r4.1 in
      let r6 = both_none (unless (is_root quads heights h e.root) (Root at)) _ r5.1 in
      let r7 = both_none _ None r6.1 in
      let sizes = and_parts (leb e.rows size_limit) (leb e.cols size_limit) (passes _ Sizes r5.0) in
      let w = cells_within quads h e.root in
      record {
        row_limit = leb-true e.rows size_limit sizes.0;
        col_limit = leb-true e.cols size_limit sizes.1;
        is_number = root_number quads heights t h e.root (passes (is_root quads heights h e.root) (Root at) r6.0);
        inside = lies_within-means (2 ^ h) e.rows e.cols (cells_told quads h e.root) (record { row = w.row; col = w.col }) (passes _ (Outside at) r7.0);
      }

  entries_sound : (at : ℕ) (earlier : Option (List ℕ)) (k : ℕ) (xs : List ℕ) → entries_fault quads heights at earlier k xs ≡ None
      → AllByRecursion (λ e. IsSound quads e.rows e.cols e.root) (entries_in k xs)
  entries_sound at earlier zero xs none = tt
  entries_sound at earlier (suc k) xs none =
      let r = both_none (entry_fault quads heights at earlier xs) _ none in
      (entry_sound at earlier xs r.0, entries_sound (at + 1) (Some (entry_in xs).name) k (drop (entry_length xs) xs) r.1)

-- bytes without a fault have sound named roots: all tests before theirs pass, so the quadrants are a table, and there
-- the tests of a root say that it is sound
all_sound : (bytes : List ℕ) → shared_fault bytes ≡ None → AllByRecursion (λ e. IsSound (quadrants_of bytes) e.rows e.cols e.root) (entries_of bytes)
unfolding shared_fault quadrants_of entries_of
all_sound bytes none =
    let quads = quadrants_of bytes in
    let heights = heights_behind [] quads in
    let rest = drop (entries_at bytes) bytes in
    let r1 = both_none (unless (begins_shared bytes) Magic) _ none in
    let r2 = both_none (unless (leb shared_header (length bytes)) Short) _ r1.1 in
    let r3 = both_none (unless (leb (entries_at bytes) (length bytes)) Short) _ r2.1 in
    let r4 = both_none (found_at Quad (first_bad 2 [] [] quads)) _ r3.1 in
    let r5 = both_none (entries_fault quads heights 0 None (entry_count bytes) rest) _ r4.1 in
    entries_sound quads heights (table quads (not_found Quad (first_bad 2 [] [] quads) r4.0)) 0 None (entry_count bytes) rest r5.0

-- ---- the roots of a form
roots_sound : (quads : List Quadrant) (rs : List NAMED) → AllByRecursion (λ e. IsSound quads e.rows e.cols e.root) (roots_told rs) → AllByRecursion (λ r. IsSound quads r.rows r.cols r.root) rs
roots_sound quads [] a = tt
roots_sound quads (r ∷ rs) a = (a.0, roots_sound quads rs a.1)

pub form-sound : (bytes : List ℕ) (form : Form) → IsFormOf bytes form → AllByRecursion (λ r. IsSound (quadrants_told form.quads.items) r.rows r.cols r.root) form.roots.items
form-sound bytes form w =
    roots_sound (quadrants_told form.quads.items) form.roots.items
    (subst (λ es. AllByRecursion (λ e. IsSound (quadrants_told form.quads.items) e.rows e.cols e.root) es) (sym w.roots)
    (subst (λ qs. AllByRecursion (λ e. IsSound qs e.rows e.cols e.root) (entries_of bytes)) (sym w.quads) (all_sound bytes w.passes)))

pub form-relations : (bytes : List ℕ) (form : Form) → IsFormOf bytes form → entries_told (quadrants_told form.quads.items) form.roots.items ≡ shared_relations bytes
unfolding shared_relations
form-relations bytes form w = λ i. map (relation_told (w.quads i)) (w.roots i)

-- ---- the root of a name
-- the relation of a root, where there is one
abbrev pub relation_of_root : List Quadrant → Option ROOT → Option Relation
relation_of_root quads None = None
relation_of_root quads (Some root) = Some (relation_at quads root.shape.rows root.shape.cols root.number)

pub named-relation : (quads : List Quadrant) (name : List ℕ) (rs : List NAMED) → relation_named name (entries_told quads rs) ≡ relation_of_root quads (root_named name rs)
named-relation quads name [] = refl
named-relation quads name (r ∷ rs) = picked (same_text r.name name) (relation_named name (entries_told quads rs)) (root_named name rs) (named-relation quads name rs)
  where
    picked : (b : Bool) (o : Option Relation) (p : Option ROOT) → o ≡ relation_of_root quads p
        → cond b (Some (relation_at quads r.rows r.cols r.root)) o
        ≡ relation_of_root quads (cond b (Some (record { shape = record { rows = r.rows; cols = r.cols }; number = r.root })) p)
    picked true o p e = refl
    picked false o p e = e

-- a root that is found by its name is sound, by induction on the named roots: it is the first one's or one behind it
pub named-sound : (quads : List Quadrant) (name : List ℕ) (rs : List NAMED) (root : ROOT) → AllByRecursion (λ r. IsSound quads r.rows r.cols r.root) rs → root_named name rs ≡ Some root
    → IsSound quads root.shape.rows root.shape.cols root.number
named-sound quads name [] root a e = let z : 0 ≡ 1 = ap root_count e in absurd (omega (arith, z))
  where
    root_count : Option ROOT → ℕ
    root_count None = 0
    root_count (Some r) = 1
named-sound quads name (r ∷ rs) root a e = picked (same_text r.name name) (root_named name rs) (λ f. named-sound quads name rs root a.1 f) e
  where
    or_else : ROOT → Option ROOT → ROOT
    or_else d None = d
    or_else d (Some x) = x

    picked : (b : Bool) (p : Option ROOT) → (p ≡ Some root → IsSound quads root.shape.rows root.shape.cols root.number)
        → cond b (Some (record { shape = record { rows = r.rows; cols = r.cols }; number = r.root })) p ≡ Some root → IsSound quads root.shape.rows root.shape.cols root.number
    picked true p more f = subst (λ (x : ROOT). IsSound quads x.shape.rows x.shape.cols x.number) (ap (or_else root) f) a.0
    picked false p more f = more f
