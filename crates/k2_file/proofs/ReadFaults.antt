-- The tests of a file in the groups in which they are made: the header, the levels, the cells and the end.
-- 1. The first fault of two lists of tests, one behind the other, is that of the first list, or else that of the second.
-- 2. So a group's fault is the file's where the groups before it have none.
-- 3. No test says that the table is full, since each names its own fault.
use Rattle.std.proofs.Common.{◌≡◌, ◌==◌, ◌&&◌, ◌-◌, ℕ, Bool, true, false, List, [], ◌∷◌, ◌++◌, length, take, drop, codes, nat_le, Option, Some, None, refl, ap, ◌∙◌}
use Rattle.run_model.specs.declared.outcome.BadFile.{BadFile}
use Rattle.run_model.specs.declared.outcome.BadFile.TheVariants.{Short, Magic, Sizes, Height, Lengths, ZeroGroup, Outside, Padding, Rest, Full, NoMemory}
use Rattle.run_model.specs.declared.outcome.BadFile.TheVariants.{Quad, Names as BAD_NAMES, Root, Order, Missing}
use Rattle.lang_model.specs.Missing.{first_of_both}
use Rattle.lang_model.specs.Tokens.{same_text}
use Rattle.rel_model.specs.Relation.{size_limit}
use Rattle.run_model.specs.Files.{header_length, fields, file_height, levels_fit, first_groups, zero_group, cells_told, cell_outside, ones, unless, found_at, first_of_all, k2_fault}
use Rattle.k2_file.specs.Told.{end_of, header_fault, fault_of_levels, outside_fault, end_fault, IsFaultOf}

-- the tests of the levels
unfoldable pub level_fault : List ℕ → Option BadFile
level_fault bytes =
    let f = fields bytes in fault_of_levels f.height (first_groups f) (take f.tree_count f.tree) (take f.cell_count f.cells) f.cell_count

first-append : (xs ys : List (Option BadFile)) → first_of_all (xs ++ ys) ≡ first_of_both (first_of_all xs) (first_of_all ys)
first-append [] ys = refl
first-append (None ∷ xs) ys = first-append xs ys
first-append (Some x ∷ xs) ys = refl

ten : (a b c d e f g h i j : Option BadFile) → first_of_all (a ∷ b ∷ c ∷ d ∷ e ∷ f ∷ g ∷ h ∷ i ∷ j ∷ [])
    ≡ first_of_both (first_of_all (a ∷ b ∷ c ∷ d ∷ e ∷ [])) (first_of_both (first_of_all (f ∷ g ∷ [])) (first_of_both h (first_of_all (i ∷ j ∷ []))))
ten a b c d e f g h i j =
    first-append (a ∷ b ∷ c ∷ d ∷ e ∷ []) (f ∷ g ∷ h ∷ i ∷ j ∷ [])
    ∙ ap (λ o. first_of_both (first_of_all (a ∷ b ∷ c ∷ d ∷ e ∷ [])) o) (first-append (f ∷ g ∷ []) (h ∷ i ∷ j ∷ []))

-- a file's first fault is that of the first group that has one
pub fault-parts : (bytes : List ℕ)
    → k2_fault bytes ≡ first_of_both (header_fault bytes) (first_of_both (level_fault bytes) (first_of_both (outside_fault bytes) (end_fault bytes)))
unfolding k2_fault header_fault level_fault outside_fault end_fault
fault-parts bytes =
    let f = fields bytes in
    let tree = take f.tree_count f.tree in
    let cells = take f.cell_count f.cells in
    ten (unless (nat_le header_length (length bytes)) Short)
    (unless (same_text (take 4 bytes) (codes "RVK1")) Magic)
    (unless (nat_le f.rows size_limit && nat_le f.cols size_limit) Sizes)
    (unless (f.height == file_height f.rows f.cols) Height)
    (unless (nat_le (end_of bytes) (length bytes)) Short)
    (unless (levels_fit (f.height - 1) (first_groups f) tree f.cell_count) Lengths)
    (found_at ZeroGroup (zero_group 0 (tree ++ cells)))
    (found_at Outside (cell_outside f.rows f.cols f.tree_count (cells_told f) cells))
    (unless ((ones (drop f.tree_count f.tree) == 0) && (ones (drop f.cell_count f.cells) == 0)) Padding)
    (unless (length bytes == end_of bytes) Rest)

pub fault-header : (bytes : List ℕ) (fault : BadFile) → header_fault bytes ≡ Some fault → k2_fault bytes ≡ Some fault
fault-header bytes fault a = fault-parts bytes ∙ ap (λ o. first_of_both o (first_of_both (level_fault bytes) (first_of_both (outside_fault bytes) (end_fault bytes)))) a

past-header : (bytes : List ℕ) → header_fault bytes ≡ None → k2_fault bytes ≡ first_of_both (level_fault bytes) (first_of_both (outside_fault bytes) (end_fault bytes))
past-header bytes a = fault-parts bytes ∙ ap (λ o. first_of_both o (first_of_both (level_fault bytes) (first_of_both (outside_fault bytes) (end_fault bytes)))) a

pub fault-levels : (bytes : List ℕ) (fault : BadFile) → header_fault bytes ≡ None → level_fault bytes ≡ Some fault → k2_fault bytes ≡ Some fault
fault-levels bytes fault a b = past-header bytes a ∙ ap (λ o. first_of_both o (first_of_both (outside_fault bytes) (end_fault bytes))) b

past-levels : (bytes : List ℕ) → header_fault bytes ≡ None → level_fault bytes ≡ None → k2_fault bytes ≡ first_of_both (outside_fault bytes) (end_fault bytes)
past-levels bytes a b = past-header bytes a ∙ ap (λ o. first_of_both o (first_of_both (outside_fault bytes) (end_fault bytes))) b

pub fault-outside : (bytes : List ℕ) (fault : BadFile) → header_fault bytes ≡ None → level_fault bytes ≡ None → outside_fault bytes ≡ Some fault
    → k2_fault bytes ≡ Some fault
fault-outside bytes fault a b c = past-levels bytes a b ∙ ap (λ o. first_of_both o (end_fault bytes)) c

-- behind the cells the end decides
pub fault-end : (bytes : List ℕ) → header_fault bytes ≡ None → level_fault bytes ≡ None → outside_fault bytes ≡ None → k2_fault bytes ≡ end_fault bytes
fault-end bytes a b c = past-levels bytes a b ∙ ap (λ o. first_of_both o (end_fault bytes)) c

-- ---- no test says that the table is full
abbrev NotFull : Option BadFile → Type 0
NotFull found = found ≡ Some Full → ⊥

not-both : (a b : Option BadFile) → NotFull a → NotFull b → NotFull (first_of_both a b)
not-both None b x y = y
not-both (Some f) b x y = x

not-unless : (passes : Bool) (fault : BadFile) → (fault ≡ Full → ⊥) → NotFull (unless passes fault)
not-unless true fault n e = cc
not-unless false fault n e = n (some-is e)
  where
    some-is : Some fault ≡ Some Full → fault ≡ Full
    some-is e = cc

not-found-zero : (found : Option ℕ) → NotFull (found_at ZeroGroup found)
not-found-zero None e = cc
not-found-zero (Some at) e = cc

not-found-outside : (found : Option ℕ) → NotFull (found_at Outside found)
not-found-outside None e = cc
not-found-outside (Some at) e = cc

short-not : Short ≡ Full → ⊥
short-not e = cc

magic-not : Magic ≡ Full → ⊥
magic-not e = cc

sizes-not : Sizes ≡ Full → ⊥
sizes-not e = cc

height-not : Height ≡ Full → ⊥
height-not e = cc

lengths-not : Lengths ≡ Full → ⊥
lengths-not e = cc

padding-not : Padding ≡ Full → ⊥
padding-not e = cc

rest-not : Rest ≡ Full → ⊥
rest-not e = cc

none-not : NotFull None
none-not e = cc

-- none of the ten tests of a file says that the table is full: each names another fault
not-ten : (a b c d e f i j : Bool) (g h : Option ℕ) → NotFull (first_of_all (
    unless a Short ∷ unless b Magic ∷ unless c Sizes ∷ unless d Height ∷ unless e Short ∷ unless f Lengths ∷ found_at ZeroGroup g ∷ found_at Outside h
    ∷ unless i Padding ∷ unless j Rest ∷ []))
not-ten a b c d e f i j g h =
    not-both (unless a Short) _ (not-unless a Short short-not)
    (not-both (unless b Magic) _ (not-unless b Magic magic-not)
    (not-both (unless c Sizes) _ (not-unless c Sizes sizes-not)
    (not-both (unless d Height) _ (not-unless d Height height-not)
    (not-both (unless e Short) _ (not-unless e Short short-not)
    (not-both (unless f Lengths) _ (not-unless f Lengths lengths-not)
    (not-both (found_at ZeroGroup g) _ (not-found-zero g)
    (not-both (found_at Outside h) _ (not-found-outside h)
    (not-both (unless i Padding) _ (not-unless i Padding padding-not)
    (not-both (unless j Rest) None (not-unless j Rest rest-not) none-not)))))))))

pub not-full : (bytes : List ℕ) → k2_fault bytes ≡ Some Full → ⊥
unfolding k2_fault
not-full bytes =
    let f = fields bytes in
    let tree = take f.tree_count f.tree in
    let cells = take f.cell_count f.cells in
    not-ten (nat_le header_length (length bytes)) (same_text (take 4 bytes) (codes "RVK1")) (nat_le f.rows size_limit && nat_le f.cols size_limit)
    (f.height == file_height f.rows f.cols) (nat_le (end_of bytes) (length bytes)) (levels_fit (f.height - 1) (first_groups f) tree f.cell_count)
    ((ones (drop f.tree_count f.tree) == 0) && (ones (drop f.cell_count f.cells) == 0)) (length bytes == end_of bytes)
    (zero_group 0 (tree ++ cells)) (cell_outside f.rows f.cols f.tree_count (cells_told f) cells)

-- a fault that a test found
pub is-fault : (bytes : List ℕ) (fault : BadFile) → k2_fault bytes ≡ Some fault → IsFaultOf (k2_fault bytes) fault
is-fault bytes NoMemory h = tt
is-fault bytes Full h = not-full bytes h
is-fault bytes Short h = h
is-fault bytes Magic h = h
is-fault bytes Sizes h = h
is-fault bytes Height h = h
is-fault bytes Lengths h = h
is-fault bytes (ZeroGroup at) h = h
is-fault bytes (Outside at) h = h
is-fault bytes Padding h = h
is-fault bytes Rest h = h
is-fault bytes (Quad at) h = h
is-fault bytes (BAD_NAMES at) h = h
is-fault bytes (Root at) h = h
is-fault bytes (Order at) h = h
is-fault bytes Missing h = h

-- a fault of one group is that of the file
pub fault-moves : (found all : Option BadFile) (fault : BadFile) → ((e : BadFile) → found ≡ Some e → all ≡ Some e) → IsFaultOf found fault → IsFaultOf all fault
fault-moves found all NoMemory f h = tt
fault-moves found all Full f h = h
fault-moves found all Short f h = f Short h
fault-moves found all Magic f h = f Magic h
fault-moves found all Sizes f h = f Sizes h
fault-moves found all Height f h = f Height h
fault-moves found all Lengths f h = f Lengths h
fault-moves found all (ZeroGroup at) f h = f (ZeroGroup at) h
fault-moves found all (Outside at) f h = f (Outside at) h
fault-moves found all Padding f h = f Padding h
fault-moves found all Rest f h = f Rest h
fault-moves found all (Quad at) f h = f (Quad at) h
fault-moves found all (BAD_NAMES at) f h = f (BAD_NAMES at) h
fault-moves found all (Root at) f h = f (Root at) h
fault-moves found all (Order at) f h = f (Order at) h
fault-moves found all Missing f h = f Missing h
