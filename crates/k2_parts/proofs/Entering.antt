-- Named roots that are read one by one: those that were read, and those that are still to come, are all.
-- 1. A relation fails the first test of its name, or else of its root, and neither is that a table is full
--    (`is-fault-name`, `is-fault-root`); where it passes, it is what the bytes tell (`is-root`).
-- 2. Each one moves from the rest behind those that were read (`next`), and a fault of the next one is that of all
--    (`fault-next`). Where none is left, all are read (`read_end`).
use Rattle.std.proofs.Common.{◌≡◌, ◌+◌, ◌-◌, ◌^◌, ◌&&◌, ◌≤◌, leb, suc, ℕ, Bool, true, false, List, [], ◌∷◌, ◌++◌, length, drop, Option, Some, None, refl, sym, ap, subst, ◌∙◌, arith, append_assoc, length-append}
use Rattle.std.specs.Prelude.{slice_get, option_map}
use Rattle.std.specs.List.{AllByRecursion}
use Rattle.std.proofs.lemmas.List.{length-drop, drop-drop}
use Rattle.run_model.specs.declared.outcome.BadFile.{BadFile}
use Rattle.run_model.specs.declared.outcome.BadFile.TheVariants.{Short, Magic, Sizes, Height, Lengths, ZeroGroup, Outside, Padding, Rest, Full, NoMemory, Quad, Names as BAD_NAMES, Root, Order, Missing}
use Rattle.lang_model.specs.Missing.{first_of_both}
use Rattle.run_model.specs.Files.{file_height}
use Rattle.run_model.specs.SharedFiles.{Quadrant, number_at, name_length, entry_length, entry_in, entries_in, entries_length, is_root, heights_behind, entry_fault, entries_fault, NamedRoot, is_word, is_behind, cells_told}
use Rattle.rel_model.specs.Relation.{size_limit}
use Rattle.rel_model.specs.Roots.{lies_within}
use Rattle.k2_file.specs.Told.{IsFaultOf}
use Rattle.k2_file.proofs.ReadFaults.{fault-moves}
use Rattle.k2_parts.specs.declared.form.NamedRoot.{NamedRoot as NAMED}
use Rattle.k2_parts.specs.declared.roots.Roots.{Roots}
use Rattle.k2_parts.specs.declared.squares.Squares.{Squares}
use Rattle.k2_parts.specs.Told.{quadrants_told, root_told, roots_told}
use Rattle.k2_parts.specs.Roots.{root_fault, name_fault, last_name, IsName, IsRootOf, AreRoots}
use Rattle.k2_parts.proofs.Naming.{four, three, both-groups, root-is}

-- ---- one relation
-- no test of a name or of a root says that memory ran out
abbrev pub IsPlain : Option BadFile → Type 0
IsPlain None = Unit {0}
IsPlain (Some Full) = ⊥
IsPlain (Some NoMemory) = Unit {0}
IsPlain (Some Short) = Unit {0}
IsPlain (Some Magic) = Unit {0}
IsPlain (Some Sizes) = Unit {0}
IsPlain (Some Height) = Unit {0}
IsPlain (Some Lengths) = Unit {0}
IsPlain (Some (ZeroGroup at)) = Unit {0}
IsPlain (Some (Outside at)) = Unit {0}
IsPlain (Some Padding) = Unit {0}
IsPlain (Some Rest) = Unit {0}
IsPlain (Some (Quad at)) = Unit {0}
IsPlain (Some (BAD_NAMES at)) = Unit {0}
IsPlain (Some (Root at)) = Unit {0}
IsPlain (Some (Order at)) = Unit {0}
IsPlain (Some Missing) = Unit {0}

-- a fault that is found is the fault, where it is none of the table's
pub is-fault : (found : Option BadFile) (fault : BadFile) → IsPlain found → found ≡ Some fault → IsFaultOf found fault
is-fault found NoMemory p h = tt
is-fault found Full p h = subst IsPlain h p
is-fault found Short p h = h
is-fault found Magic p h = h
is-fault found Sizes p h = h
is-fault found Height p h = h
is-fault found Lengths p h = h
is-fault found (ZeroGroup at) p h = h
is-fault found (Outside at) p h = h
is-fault found Padding p h = h
is-fault found Rest p h = h
is-fault found (Quad at) p h = h
is-fault found (BAD_NAMES at) p h = h
is-fault found (Root at) p h = h
is-fault found (Order at) p h = h
is-fault found Missing p h = h

plain-four : (at : ℕ) (a b c d : Bool) → IsPlain (four at a b c d)
plain-four at false b c d = tt
plain-four at true false c d = tt
plain-four at true true false d = tt
plain-four at true true true false = tt
plain-four at true true true true = tt

plain-three : (at : ℕ) (a b c : Bool) → IsPlain (three at a b c)
plain-three at false b c = tt
plain-three at true false c = tt
plain-three at true true false = tt
plain-three at true true true = tt

name-plain : (at : ℕ) (earlier : Option (List ℕ)) (bytes : List ℕ) → IsPlain (name_fault at earlier bytes)
unfolding name_fault
name-plain at earlier bytes =
    plain-four at (leb 1 (length bytes)) (leb 1 (name_length bytes) && leb (name_length bytes) 64) (leb (entry_length bytes) (length bytes))
    (is_word (entry_in bytes).name && is_behind earlier (entry_in bytes).name)

root-plain : (quads : List Quadrant) (heights : List ℕ) (at rows cols root : ℕ) → IsPlain (root_fault quads heights at rows cols root)
unfolding root_fault
root-plain quads heights at rows cols root =
    let h = file_height rows cols in
    plain-three at (leb rows size_limit && leb cols size_limit) (is_root quads heights h root) (lies_within (2 ^ h) rows cols (cells_told quads h root))

module _ (quads : List Quadrant) (heights : List ℕ) (at : ℕ) (earlier : Option (List ℕ)) (bytes : List ℕ) where
  -- a fault of the name is that of the relation, since the name is tested before the root
  pub is-fault-name : (fault : BadFile) → name_fault at earlier bytes ≡ Some fault → IsFaultOf (entry_fault quads heights at earlier bytes) fault
  is-fault-name fault h =
      fault-moves (name_fault at earlier bytes) (entry_fault quads heights at earlier bytes) fault
      (λ e f. both-groups quads heights at earlier bytes ∙ ap (λ t. first_of_both t (root_fault quads heights at (entry_in bytes).rows (entry_in bytes).cols (entry_in bytes).root)) f)
      (is-fault (name_fault at earlier bytes) fault (name-plain at earlier bytes) h)

  module _ (name : List ℕ) (rows cols root : ℕ) (n : IsName bytes name) (r : rows ≡ number_at bytes (1 + length name)) (c : cols ≡ number_at bytes (1 + length name + 4))
      (t : root ≡ number_at bytes (1 + length name + 8)) (none : name_fault at earlier bytes ≡ None) where
    rows-are : rows ≡ (entry_in bytes).rows
    rows-are = r ∙ ap (λ (k : ℕ). number_at bytes (1 + k)) n.count

    cols-are : cols ≡ (entry_in bytes).cols
    cols-are = c ∙ ap (λ (k : ℕ). number_at bytes (1 + k + 4)) n.count

    root-are : root ≡ (entry_in bytes).root
    root-are = t ∙ ap (λ (k : ℕ). number_at bytes (1 + k + 8)) n.count

    of-root : entry_fault quads heights at earlier bytes ≡ root_fault quads heights at rows cols root
    of-root =
        both-groups quads heights at earlier bytes
        ∙ (ap (λ t. first_of_both t (root_fault quads heights at (entry_in bytes).rows (entry_in bytes).cols (entry_in bytes).root)) none
        ∙ (λ i. root_fault quads heights at (sym rows-are i) (sym cols-are i) (sym root-are i)))

    pub is-fault-root : (fault : BadFile) → root_fault quads heights at rows cols root ≡ Some fault → IsFaultOf (entry_fault quads heights at earlier bytes) fault
    is-fault-root fault h =
        fault-moves (root_fault quads heights at rows cols root) (entry_fault quads heights at earlier bytes) fault (λ e f. of-root ∙ f)
        (is-fault (root_fault quads heights at rows cols root) fault (root-plain quads heights at rows cols root) h)

-- a name and a root that pass their tests are the named root that these bytes begin with: the length of the name tells
-- where its sizes and its root stand
pub is-root : (s : Squares) (roots : List NAMED) (bytes name : List ℕ) (rows cols root : ℕ) → IsName bytes name → rows ≡ number_at bytes (1 + length name) → cols ≡ number_at bytes (1 + length name + 4) →
    root ≡ number_at bytes (1 + length name + 8) → name_fault (length roots) (last_name roots) bytes ≡ None → (own : List ℕ) → own ≡ name →
    root_fault (quadrants_told s.quads.now) s.heights.now (length roots) rows cols root ≡ None →
    IsRootOf s roots bytes (record { name = own; rows = rows; cols = cols; root = root })
is-root s roots bytes name rows cols root n r c t none own e good =
    let quads = quadrants_told s.quads.now in
    let hs = s.heights.now in
    record {
      told = λ i. record {
        name = (e ∙ n.told) i;
        rows = (r ∙ ap (λ (k : ℕ). number_at bytes (1 + k)) n.count) i;
        cols = (c ∙ ap (λ (k : ℕ). number_at bytes (1 + k + 4)) n.count) i;
        root = (t ∙ ap (λ (k : ℕ). number_at bytes (1 + k + 8)) n.count) i;
      };
      passes = of-root quads hs (length roots) (last_name roots) bytes name rows cols root n r c t none ∙ good;
      rooted = root-is quads hs (length roots) rows cols root good;
      count = ap length e ∙ n.count;
      long = n.long;
    }

-- ---- the walk
-- named roots that were read, and the bytes of so many that are left
pub record IsReading (s : Squares) (count : ℕ) (bytes : List ℕ) (left at : ℕ) (roots : List NAMED) : Type 0 where
  pub within : at ≤ length bytes
  pub told : roots_told roots ++ entries_in left (drop at bytes) ≡ entries_in count bytes
  pub faults : entries_fault (quadrants_told s.quads.now) s.heights.now (length roots) (last_name roots) left (drop at bytes) ≡ entries_fault (quadrants_told s.quads.now) s.heights.now 0 None count bytes
  pub ends : at + entries_length left (drop at bytes) ≡ entries_length count bytes
  pub rooted : AllByRecursion (λ r. is_root (quadrants_told s.quads.now) s.heights.now (file_height r.rows r.cols) r.root ≡ true) (roots_told roots)

roots-append : (xs ys : List NAMED) → roots_told (xs ++ ys) ≡ roots_told xs ++ roots_told ys
roots-append [] ys = refl
roots-append (x ∷ xs) ys = ap (λ zs. root_told x ∷ zs) (roots-append xs ys)

all-append : (P : NamedRoot → Type 0) (xs : List NamedRoot) (y : NamedRoot) → AllByRecursion P xs → P y → AllByRecursion P (xs ++ y ∷ [])
all-append P [] y h p = (p, tt)
all-append P (x ∷ xs) y h p = (h.0, all-append P xs y h.1 p)

get-last : (xs : List NAMED) (y : NAMED) (k : ℕ) → k ≡ length xs → slice_get (xs ++ y ∷ []) k ≡ Some y
get-last [] y k e = ap (slice_get (y ∷ [])) e
get-last (x ∷ xs) y k e = ap (slice_get ((x ∷ xs) ++ y ∷ [])) e ∙ get-last xs y (length xs) refl

last-append : (xs : List NAMED) (y : NAMED) → last_name (xs ++ y ∷ []) ≡ Some y.name
last-append xs y =
    ap (option_map (λ (r : NAMED). r.name)) (get-last xs y (length (xs ++ y ∷ []) - 1) (let n = length-append xs (y ∷ []) in omega (arith, n)))

module _ (s : Squares) (count : ℕ) (bytes : List ℕ) (left at k : ℕ) (roots : List NAMED) (r : IsReading s count bytes left at roots) (e : left ≡ suc k) where
  one_left : IsReading s count bytes (suc k) at roots
  one_left = subst (λ (n : ℕ). IsReading s count bytes n at roots) e r

  abbrev rest : List ℕ
  rest = drop at bytes

  abbrev quads : List Quadrant
  quads = quadrants_told s.quads.now

  -- a fault of the next one is that of all
  pub fault-next : (fault : BadFile) → IsFaultOf (entry_fault quads s.heights.now (length roots) (last_name roots) rest) fault → IsFaultOf (entries_fault quads s.heights.now 0 None count bytes) fault
  fault-next fault h =
      fault-moves (entry_fault quads s.heights.now (length roots) (last_name roots) rest) (entries_fault quads s.heights.now 0 None count bytes) fault
      (λ x f. sym one_left.faults
      ∙ ap (λ t. first_of_both t (entries_fault quads s.heights.now (length roots + 1) (Some (entry_in rest).name) k (drop (entry_length rest) rest))) f)
      h

  module _ (new : NAMED) (n : IsRootOf s roots rest new) where
    pub next-long : at + (13 + length new.name) ≤ length bytes
    next-long = let a = n.long in let b = n.count in let c = length-drop at bytes in let d = one_left.within in omega (arith, a, b, c, d)

    pub next : (end : ℕ) (now : List NAMED) → end ≡ at + (13 + length new.name) → now ≡ roots ++ new ∷ [] → IsReading s count bytes k end now
    next end now is items = subst (λ (xs : List NAMED). IsReading s count bytes k end xs) (sym items) (
        record {
          within = omega (arith, is, next-long);
          told =
              ap (λ xs. xs ++ entries_in k (drop end bytes)) (roots-append roots (new ∷ []))
              ∙ (append_assoc (roots_told roots) (root_told new ∷ []) (entries_in k (drop end bytes))
              ∙ ((λ i. roots_told roots ++ (n.told i ∷ entries_in k (rest-is i))) ∙ one_left.told));
          faults =
              (λ i. entries_fault quads s.heights.now (many i) (name-is i) k (rest-is i))
              ∙ (sym (ap (λ t. first_of_both t (entries_fault quads s.heights.now (length roots + 1) (Some (entry_in rest).name) k (drop (entry_length rest) rest))) n.passes)
              ∙ one_left.faults);
          ends =
              ap (λ xs. end + entries_length k xs) rest-is
              ∙ (let a = n.count in let b = one_left.ends in
              joined at (length new.name) (name_length rest) end (entries_length k (drop (entry_length rest) rest)) (entries_length count bytes) is a b);
          rooted = subst (AllByRecursion (λ r. is_root quads s.heights.now (file_height r.rows r.cols) r.root ≡ true)) (sym (roots-append roots (new ∷ []))) (all-append (λ r. is_root quads s.heights.now (file_height r.rows r.cols) r.root ≡ true) (roots_told roots) (root_told new) one_left.rooted n.rooted);
        }
        )
      where
        to : end ≡ at + entry_length rest
        to = let a = n.count in omega (arith, is, a)

        rest-is : drop end bytes ≡ drop (entry_length rest) rest
        rest-is = ap (λ (m : ℕ). drop m bytes) to ∙ sym (drop-drop (entry_length rest) at bytes)

        many : length (roots ++ new ∷ []) ≡ length roots + 1
        many = length-append roots (new ∷ [])

        name-is : last_name (roots ++ new ∷ []) ≡ Some (entry_in rest).name
        name-is = last-append roots new ∙ ap (λ (e : NamedRoot). Some e.name) n.told

        joined : (at l m end more all : ℕ) → end ≡ at + (13 + l) → l ≡ m → at + ((1 + m + 12) + more) ≡ all → end + more ≡ all
        joined at l m end more all a b c = omega (arith, a, b, c)

-- where none is left
append_none : (xs : List NamedRoot) → xs ++ [] ≡ xs
append_none [] = refl
append_none (x ∷ xs) = ap (λ ys. x ∷ ys) (append_none xs)

pub read_end : (s : Squares) (count : ℕ) (bytes : List ℕ) (left at : ℕ) (r : Roots) → heights_behind [] (quadrants_told s.quads.now) ≡ s.heights.now → at ≡ r.end → IsReading s count bytes left at r.roots.items →
    left ≡ 0 → AreRoots s count bytes r
read_end s count bytes left at r hs is w e =
    let x : IsReading s count bytes 0 at r.roots.items = subst (λ (n : ℕ). IsReading s count bytes n at r.roots.items) e w in
    record {
      told = sym (append_none (roots_told r.roots.items)) ∙ x.told;
      passes = sym x.faults;
      ends = let y = x.ends in omega (arith, y, is);
      rooted =
          subst (λ (h : List ℕ). AllByRecursion (λ r. is_root (quadrants_told s.quads.now) h (file_height r.rows r.cols) r.root ≡ true) (roots_told r.roots.items)) (sym hs) x.rooted;
    }
