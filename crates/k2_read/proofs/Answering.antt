-- What is answered of the parts of bytes: all relations, or that of a name; and which faults there are.
use Rattle.std.proofs.Common.{◌≡◌, ◌+◌, ◌&&◌, ◌∙◌, leb, eqb, zero, suc, ℕ, Bool, true, false, List, [], length, drop, Option, Some, None, refl, sym, ap, subst, arith}
use Rattle.rel_model.specs.declared.Rel.{Rel}
use Rattle.rel_model.specs.Relation.{size_limit}
use Rattle.rel_model.specs.Worker.{Worker, Gives}
use Rattle.rel_model.proofs.Relations.{rows-relation_of, cols-relation_of}
use Rattle.lang_model.specs.Missing.{first_of_both}
use Rattle.run_model.specs.declared.outcome.BadFile.{BadFile}
use Rattle.run_model.specs.declared.outcome.BadFile.TheVariants.{
  Short,
  Magic,
  Sizes,
  Height,
  Lengths,
  ZeroGroup,
  Outside,
  Padding,
  Rest,
  Full,
  NoMemory,
  Quad,
  Names as BAD_NAMES,
  Root,
  Order,
  Missing,
}
use Rattle.run_model.specs.Cost.{cost_of_loaded, cost_of_gifts}
use Rattle.run_model.specs.Files.{file_height, unless, found_at}
use Rattle.run_model.specs.SharedFiles.{begins_shared, Quadrant, shared_header, quadrant_count, entry_count, entries_at, quadrants_of, heights_behind, first_bad, cells_told, name_length, entry_length, entry_in, entries_length, is_word, is_behind, is_root, entry_fault, entries_fault, entries_of, visit_roots, first_out, shared_fault, shared_relations, relation_named}
use Rattle.k2_file.specs.Reading.{cost_unless}
use Rattle.k2_file.specs.Told.{IsFaultOf}
use Rattle.k2_parts.specs.declared.form.Form.{Form}
use Rattle.k2_parts.specs.declared.form.NamedRoot.{NamedRoot as NAMED}
use Rattle.k2_parts.specs.declared.form.Quadrant.{Quadrant as LISTED}
use Rattle.k2_parts.specs.Told.{quadrants_told, IsFormOf}
use Rattle.k2_read.specs.declared.root.Root.{Root as ROOT}
use Rattle.k2_read.specs.Numbers.{IsSound, relation_at, entries_told, root_named}
use Rattle.k2_read.specs.Reading.{IsRefused, IsNamed, cost_of_shared, cost_of_found, cost_of_named}
use Rattle.k2_read.proofs.Sounds.{form-sound, form-relations, relation_of_root, named-relation, named-sound}

-- ---- no test tells that a name is missing
abbrev missing_count : BadFile → ℕ
missing_count Missing = 1
missing_count _ = 0

-- a fault is another one
abbrev IsOther : Option BadFile → Type 0
IsOther None = Unit {0}
IsOther (Some f) = missing_count f ≡ 0

other-both : (a b : Option BadFile) → IsOther a → IsOther b → IsOther (first_of_both a b)
other-both None b p q = q
other-both (Some f) b p q = p

other-unless : (b : Bool) (f : BadFile) → missing_count f ≡ 0 → IsOther (unless b f)
other-unless true f e = tt
other-unless false f e = e

other-found : (f : ℕ → BadFile) (o : Option ℕ) → ((n : ℕ) → missing_count (f n) ≡ 0) → IsOther (found_at f o)
other-found f None h = tt
other-found f (Some n) h = h n

-- no test of a named relation says that a name is missing: each says something else
other-entry : (quads : List Quadrant) (heights : List ℕ) (at : ℕ) (earlier : Option (List ℕ)) (xs : List ℕ) → IsOther (entry_fault quads heights at earlier xs)
unfolding entry_fault
other-entry quads heights at earlier xs =
    let e = entry_in xs in
    let h = file_height e.rows e.cols in
    other-both (unless (leb 1 (length xs)) Short) _ (other-unless _ Short refl)
    (other-both (unless (leb 1 (name_length xs) && leb (name_length xs) 64) (BAD_NAMES at)) _ (other-unless _ (BAD_NAMES at) refl)
    (other-both (unless (leb (entry_length xs) (length xs)) Short) _ (other-unless _ Short refl)
    (other-both (unless (is_word e.name && is_behind earlier e.name) (BAD_NAMES at)) _ (other-unless _ (BAD_NAMES at) refl)
    (other-both (unless (leb e.rows size_limit && leb e.cols size_limit) Sizes) _ (other-unless _ Sizes refl)
    (other-both (unless (is_root quads heights h e.root) (Root at)) _ (other-unless _ (Root at) refl)
    (other-both _ None (other-unless _ (Outside at) refl) tt))))))

other-entries : (quads : List Quadrant) (heights : List ℕ) (at : ℕ) (earlier : Option (List ℕ)) (k : ℕ) (xs : List ℕ) → IsOther (entries_fault quads heights at earlier k xs)
other-entries quads heights at earlier zero xs = tt
other-entries quads heights at earlier (suc k) xs =
    other-both (entry_fault quads heights at earlier xs) _ (other-entry quads heights at earlier xs)
    (other-entries quads heights (at + 1) (Some (entry_in xs).name) k (drop (entry_length xs) xs))

-- nor does any test of the bytes: those of the header, the quadrants, the named relations, their order and the rest
other-fault : (bytes : List ℕ) → IsOther (shared_fault bytes)
unfolding shared_fault
other-fault bytes =
    let q = quadrant_count bytes in
    let k = entry_count bytes in
    let quads = quadrants_of bytes in
    let heights = heights_behind [] quads in
    let rest = drop (entries_at bytes) bytes in
    let es = entries_of bytes in
    other-both (unless (begins_shared bytes) Magic) _ (other-unless _ Magic refl)
    (other-both (unless (leb shared_header (length bytes)) Short) _ (other-unless _ Short refl)
    (other-both (unless (leb (entries_at bytes) (length bytes)) Short) _ (other-unless _ Short refl)
    (other-both (found_at Quad (first_bad 2 [] [] quads)) _ (other-found Quad (first_bad 2 [] [] quads) (λ n. refl))
    (other-both (entries_fault quads heights 0 None k rest) _ (other-entries quads heights 0 None k rest)
    (other-both (found_at Order (first_out 2 q (visit_roots quads [] es))) _ (other-found Order (first_out 2 q (visit_roots quads [] es)) (λ n. refl))
    (other-both (unless (eqb (length rest) (entries_length k rest)) Rest) None (other-unless _ Rest refl) tt))))))

never-missing : (o : Option BadFile) → IsOther o → o ≡ Some Missing → ⊥
never-missing o p e = let z : 1 ≡ 0 = subst IsOther e p in absurd (omega (arith, z))

-- a fault of the bytes, before a node was asked
pub read-fault : (there missing : Type 0) (old : Worker) (bytes : List ℕ) (fault : BadFile) → IsFaultOf (shared_fault bytes) fault → IsRefused there missing old old bytes fault
read-fault there missing old bytes NoMemory h = refl
read-fault there missing old bytes Full h = absurd h
read-fault there missing old bytes Missing h = absurd (never-missing (shared_fault bytes) (other-fault bytes) h)
read-fault there missing old bytes Short h = (h, refl, omega arith)
read-fault there missing old bytes Magic h = (h, refl, omega arith)
read-fault there missing old bytes Sizes h = (h, refl, omega arith)
read-fault there missing old bytes Height h = (h, refl, omega arith)
read-fault there missing old bytes Lengths h = (h, refl, omega arith)
read-fault there missing old bytes (ZeroGroup at) h = (h, refl, omega arith)
read-fault there missing old bytes (Outside at) h = (h, refl, omega arith)
read-fault there missing old bytes Padding h = (h, refl, omega arith)
read-fault there missing old bytes Rest h = (h, refl, omega arith)
read-fault there missing old bytes (Quad at) h = (h, refl, omega arith)
read-fault there missing old bytes (BAD_NAMES at) h = (h, refl, omega arith)
read-fault there missing old bytes (Root at) h = (h, refl, omega arith)
read-fault there missing old bytes (Order at) h = (h, refl, omega arith)

-- ---- all relations
module _ (bytes : List ℕ) (form : Form) (w : IsFormOf bytes form) (quads : List LISTED) (same_quads : quads ≡ form.quads.items) where
  pub all-relations : entries_told (quadrants_told quads) form.roots.items ≡ shared_relations bytes
  all-relations = ap (λ qs. entries_told (quadrants_told qs) form.roots.items) same_quads ∙ form-relations bytes form w

  pub all-cost : (leaf : ℕ) → cost_of_gifts leaf (entries_told (quadrants_told quads) form.roots.items) ≡ cost_of_shared leaf bytes
  unfolding cost_of_shared
  all-cost leaf = ap (cost_of_gifts leaf) all-relations ∙ ap (λ o. cost_unless o (cost_of_gifts leaf (shared_relations bytes))) (sym w.passes)

-- ---- the relation of a name
module _ (bytes name : List ℕ) (form : Form) (w : IsFormOf bytes form) (roots : List NAMED) (same_roots : roots ≡ form.roots.items) where
  found : relation_named name (shared_relations bytes) ≡ relation_of_root (quadrants_told form.quads.items) (root_named name roots)
  found =
      ap (relation_named name) (sym (form-relations bytes form w)) ∙ (named-relation (quadrants_told form.quads.items) name form.roots.items
      ∙ ap (λ rs. relation_of_root (quadrants_told form.quads.items) (root_named name rs)) (sym same_roots))

  -- no root has the name
  pub named-none : root_named name roots ≡ None → relation_named name (shared_relations bytes) ≡ None
  named-none e = found ∙ ap (relation_of_root (quadrants_told form.quads.items)) e

  module _ (quads : List LISTED) (same_quads : quads ≡ form.quads.items) (root : ROOT) (is : root_named name roots ≡ Some root) where
    pub named-found : relation_named name (shared_relations bytes) ≡ Some (relation_at (quadrants_told quads) root.shape.rows root.shape.cols root.number)
    named-found =
        found ∙ (ap (relation_of_root (quadrants_told form.quads.items)) is
        ∙ ap (λ qs. Some (relation_at (quadrants_told qs) root.shape.rows root.shape.cols root.number)) (sym same_quads))

    pub named-stands : IsSound (quadrants_told quads) root.shape.rows root.shape.cols root.number
    named-stands =
        subst (λ qs. IsSound (quadrants_told qs) root.shape.rows root.shape.cols root.number) (sym same_quads)
        (named-sound (quadrants_told form.quads.items) name form.roots.items root (form-sound bytes form w) (ap (root_named name) (sym same_roots) ∙ is))

    pub named-given : (now : Worker) (rel : Rel) → Gives now root.shape.rows root.shape.cols (relation_at (quadrants_told quads) root.shape.rows root.shape.cols root.number) rel
        → IsNamed now (relation_named name (shared_relations bytes)) rel
    named-given now rel g =
        let f = cells_told (quadrants_told quads) (file_height root.shape.rows root.shape.cols) root.number in
        subst (λ o. IsNamed now o rel) (sym named-found)
        (record { means = g.means; row_size = g.row_size ∙ sym (rows-relation_of root.shape.rows root.shape.cols f); col_size = g.col_size ∙ sym (cols-relation_of root.shape.rows root.shape.cols f) })

    pub named-cost : (leaf : ℕ) → cost_of_loaded leaf (relation_at (quadrants_told quads) root.shape.rows root.shape.cols root.number) ≡ cost_of_named leaf bytes name
    unfolding cost_of_named
    named-cost leaf =
        ap (cost_of_found leaf) (sym named-found) ∙ ap (λ o. cost_unless o (cost_of_found leaf (relation_named name (shared_relations bytes)))) (sym w.passes)
