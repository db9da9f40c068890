-- What is known of the relations of a list before their file is written: heights that cover their sizes, squares that
-- only grow, names in order, and tests that pass.
use Rattle.std.proofs.Common.{◌≡◌, ◌≢◌, ◌<◌, ◌≤◌, ◌+◌, ◌^◌, ◌&&◌, leb, ℕ, Bool, true, false, List, [], ◌∷◌, ◌++◌, length, Option, Some, None, refl, sym, ap, subst, ◌∙◌, arith, append_assoc, append-nil, length-append}
use Rattle.std.specs.Prelude.{T}
use Rattle.std.specs.List.{AllByRecursion, list_all}
use Rattle.std.specs.Ordering.{is_lt}
use Rattle.std.specs.FinMap.Entries.{below_all, is_sorted}
use Rattle.std.proofs.lemmas.Bool.{leb-true, and_parts, false≢true}
use Rattle.lang_model.specs.Limits.{name_limit}
use Rattle.lang_model.specs.Missing.{first_of_both}
use Rattle.lang_model.specs.Tokens.{is_letter, is_word_byte}
use Rattle.rel_model.specs.Relation.{Relation, IsRelation, size_limit, size_height}
use Rattle.rel_model.specs.Worker.{height_of}
use Rattle.rel_model.specs.Roots.{lies_within}
use Rattle.rel_model.proofs.Heights.{power_up, height_of-covers, height_of-limit}
use Rattle.run_model.specs.declared.outcome.BadFile.{BadFile}
use Rattle.run_model.specs.declared.outcome.BadFile.TheVariants.{Short, Sizes, Outside, Names as BAD_NAMES, Root}
use Rattle.run_model.specs.Names.{compare}
use Rattle.run_model.specs.Files.{file_height, unless, first_of_all}
use Rattle.run_model.specs.SharedFiles.{Quadrant, cells_told, NamedRoot, name_length, entry_length, entry_in, is_word, is_behind, is_root, entry_fault, IsFiled}
use Rattle.run_model.specs.SharedBytes.{Square, visit, visit_all}
use Rattle.run_model.proofs.SharedOrder.{height, square}
use Rattle.run_model.proofs.SharedSquares.{Proper, Known, known_more, AllBehind, NoneTwice, visit_grows}

-- ---- heights
pub low_height : (rows cols : ℕ) → file_height rows cols ≤ size_height
unfolding file_height
low_height rows cols = omega (arith, height_of-limit rows, height_of-limit cols)

pub covers_rows : (rows cols : ℕ) → rows ≤ size_limit → rows ≤ 2 ^ file_height rows cols
unfolding file_height
covers_rows rows cols l =
    let a = height_of-covers rows l in
    let b = power_up (height_of rows) (file_height rows cols) (omega arith) in
    omega (arith, a, b)

pub covers_cols : (rows cols : ℕ) → cols ≤ size_limit → cols ≤ 2 ^ file_height rows cols
unfolding file_height
covers_cols rows cols l =
    let a = height_of-covers cols l in
    let b = power_up (height_of cols) (file_height rows cols) (omega arith) in
    omega (arith, a, b)

-- the pairs of a relation are those of a square of its height
pub proper_relation : (r : Relation) → IsRelation r → r.rows ≤ size_limit → r.cols ≤ size_limit → Proper (file_height r.rows r.cols) r.pairs
proper_relation r v a b =
    record { within = wider r.pairs v.within; increasing = v.increasing }
  where
    wider : (ps : List (ℕ × ℕ)) → AllByRecursion (λ p. (p.0 < r.rows) × (p.1 < r.cols)) ps → AllByRecursion (λ p. (p.0 < 2 ^ file_height r.rows r.cols) × (p.1 < 2 ^ file_height r.rows r.cols)) ps
    wider [] h = tt
    wider (p ∷ ps) h =
        ((let c = covers_rows r.rows r.cols a in let x = h.0.0 in omega (arith, c, x), let c = covers_cols r.rows r.cols b in let x = h.0.1 in omega (arith, c, x)), wider ps h.1)

-- ---- the squares of a list
abbrev pub Entry : Type 0
Entry = List ℕ × Relation

abbrev pub KnownIn : List Square → Entry → Type 0
KnownIn squares e = Known squares (length squares) (file_height e.1.rows e.1.cols) e.1.pairs

pub record AllGrown (old new : List Square) (list : List Entry) : Type 0 where
  pub behind : AllBehind new
  pub once : NoneTwice new
  pub more : List Square
  pub is_more : new ≡ old ++ more
  pub known : AllByRecursion (KnownIn new) list

-- by induction on the list: a relation's visit only puts squares behind the others, so that what was
-- known of the earlier ones stays
pub all_grow : (list : List Entry) (old : List Square) → AllByRecursion IsFiled list → AllBehind old → NoneTwice old → AllGrown old (visit_all old list) list
all_grow [] old f all once = record { behind = all; once = once; more = []; is_more = sym (append-nil old); known = tt }
all_grow (e ∷ list) old f all once =
    let h = file_height e.1.rows e.1.cols in
    let mid = visit h e.1.pairs old in
    let g = visit_grows h e.1.pairs old (low_height e.1.rows e.1.cols) (proper_relation e.1 f.0.valid f.0.rows f.0.cols) all once in
    let r = all_grow list mid f.1 g.behind g.once in
    let n = length-append mid r.more in
    record {
      behind = r.behind;
      once = r.once;
      more = g.more ++ r.more;
      is_more = r.is_more ∙ (ap (λ z. z ++ r.more) g.is_more ∙ append_assoc old g.more r.more);
      known = (
        subst (λ z. Known z (length z) h e.1.pairs) (sym r.is_more) (known_more mid r.more (length mid) (length (mid ++ r.more)) h e.1.pairs (omega (arith, n)) g.known),
        r.known,
      );
    }

-- ---- names in order
pub is_true : (b : Bool) → T b → b ≡ true
is_true true h = refl
is_true false h = absurd h

pub both_true : (a b : Bool) → T (a && b) → T a × T b
both_true true b h = (tt, h)
both_true false b h = absurd h

-- the name before is before the first
abbrev pub Before : Option (List ℕ) → List Entry → Type 0
Before earlier [] = Unit {0}
Before earlier (e ∷ list) = is_behind earlier e.0 ≡ true

pub next_before : (e : Entry) (list : List Entry) → T (is_sorted compare (e ∷ list)) → Before (Some e.0) list
next_before e [] h = tt
next_before e (x ∷ list) h =
    is_true (is_lt (compare e.0 x.0)) (both_true (is_lt (compare e.0 x.0)) (below_all compare e.0 list) (both_true (below_all compare e.0 (x ∷ list)) (is_sorted compare (x ∷ list)) h).0).0

pub word_length : (name : List ℕ) → is_word name ≡ true → (1 ≤ length name) × (length name ≤ 64)
word_length [] h = absurd (false≢true h)
word_length (b ∷ bs) h =
    let p = and_parts (list_all is_word_byte bs) (leb (length (b ∷ bs)) name_limit) (and_parts (is_letter b) (list_all is_word_byte bs && leb (length (b ∷ bs)) name_limit) h).1 in
    (omega arith, leb-true (length (b ∷ bs)) 64 p.1)

-- ---- tests that pass
pub passed : (b : Bool) (f : BadFile) → b ≡ true → unless b f ≡ None
passed b f e = ap (λ z. unless z f) e

-- two tests one after the other find no fault where neither does
pub both_pass : (a b : Option BadFile) → a ≡ None → b ≡ None → first_of_both a b ≡ None
both_pass a b e f = ap (λ z. first_of_both z b) e ∙ f

-- the tests of a named relation by its parts
abbrev pub tests_of : List Quadrant → List ℕ → ℕ → Option (List ℕ) → ℕ → ℕ → ℕ → NamedRoot → Option BadFile
tests_of qs heights at earlier long l all e =
    first_of_all (
    unless (leb 1 long) Short
    ∷ unless (leb 1 l && leb l name_limit) (BAD_NAMES at)
    ∷ unless (leb all long) Short
    ∷ unless (is_word e.name && is_behind earlier e.name) (BAD_NAMES at)
    ∷ unless (leb e.rows size_limit && leb e.cols size_limit) Sizes
    ∷ unless (is_root qs heights (file_height e.rows e.cols) e.root) (Root at)
    ∷ unless (lies_within (2 ^ file_height e.rows e.cols) e.rows e.cols (cells_told qs (file_height e.rows e.cols) e.root)) (Outside at)
    ∷ []
    )

pub tests_are : (qs : List Quadrant) (heights : List ℕ) (at : ℕ) (earlier : Option (List ℕ)) (xs : List ℕ) →
    entry_fault qs heights at earlier xs ≡ tests_of qs heights at earlier (length xs) (name_length xs) (entry_length xs) (entry_in xs)
unfolding entry_fault
tests_are qs heights at earlier xs = refl
