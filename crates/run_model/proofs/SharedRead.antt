-- The file of a list has no fault and is read as the list.
-- 1. The visits of the relations list squares behind their quarters, none twice, so that the listed squares are not bad, and
--    each root is a number of its relation's height with the relation's pairs.
-- 2. The numbers are read off the bytes, and so are the squares and the relations.
-- 3. The visits of the roots list the squares of the list, which are those of the numbers from 2 on, and so these numbers.
use Rattle.std.proofs.Common.{◌≡◌, ◌≢◌, ◌<◌, ◌≤◌, ◌+◌, ◌^◌, ◌&&◌, ◌||◌, leb, ltb, cond, eqb, zero, suc, ℕ, Bool, true, false, List, [], ◌∷◌, ◌++◌, map, length, drop, codes, Option, Some, None, option_map, refl, sym, ap, subst, ◌∙◌, inl, inr, arith, append_assoc, length-append}
use Rattle.std.specs.Prelude.{slice_get, T}
use Rattle.std.specs.List.{flat_map, AllByRecursion}
use Rattle.std.specs.FinMap.Entries.{below_all, is_sorted}
use Rattle.std.proofs.lemmas.Bool.{cases_Bool, eqb-true, eq-eqb, le-leb, lt-ltb, and_from}
use Rattle.std.proofs.lemmas.Option.{slice_get_within, slice_get-map}
use Rattle.std.proofs.lemmas.List.{drop_at}
use Rattle.lang_model.specs.Limits.{name_limit}
use Rattle.lang_model.specs.Tokens.{same_text}
use Rattle.rel_model.specs.Relation.{Relation, relation_of, size_limit}
use Rattle.rel_model.specs.Listed.{is_among}
use Rattle.rel_model.specs.Roots.{lies_within}
use Rattle.rel_model.specs.Quarters.{LiesWithin}
use Rattle.rel_model.proofs.Relations.{of_itself}
use Rattle.rel_model.proofs.Rooting.{lies_within-from}
use Rattle.run_model.specs.declared.outcome.BadFile.{BadFile}
use Rattle.run_model.specs.declared.outcome.BadFile.TheVariants.{Short, Magic, Sizes, Outside, Rest, Quad, Names as BAD_NAMES, Root, Order}
use Rattle.run_model.specs.Names.{compare, Names, IsIncreasing}
use Rattle.run_model.specs.Files.{file_height, unless, found_at, first_of_all}
use Rattle.run_model.specs.SharedFiles.{begins_shared, Quadrant, shared_header, quadrant_count, entry_count, entries_at, quadrants_in, quadrants_of, height_at, heights_behind, first_bad, cells_told, NamedRoot, name_length, entry_length, entries_in, entries_length, is_word, is_behind, is_root, entry_fault, entries_fault, entries_of, visit_roots, first_out, shared_fault, relation_told, shared_relations, IsFiled, SharedFilesLaws}
use Rattle.run_model.specs.SharedBytes.{quarter, Square, same_square, visit_all, squares_of, number_in, quarter_bytes, entry_bytes, shared_file}
use Rattle.run_model.proofs.SharedCells.{pairs_of, pairs_among, among_within, IsNumber}
use Rattle.run_model.proofs.SharedVisits.{pairs_at, same_square_itself}
use Rattle.run_model.proofs.SharedTable.{get_next, height_is, IsTable, table, table_height}
use Rattle.run_model.proofs.SharedBytes.{quadrant_bytes}
use Rattle.run_model.proofs.SharedOrder.{numbers_from, height, high, Listed, square}
use Rattle.run_model.proofs.SharedVisits.{same_number}
use Rattle.run_model.proofs.SharedBack.{IsEntry, roots_visited, roots_listed, map_length, some_height, bytes_of_read}
use Rattle.run_model.proofs.SharedSquares.{square_of, Known, Behind, AllBehind, NoneTwice}
use Rattle.run_model.proofs.SharedNumbers.{quadrant_of, quads, told, placed, no_bad_square, heights_are}
use Rattle.run_model.proofs.SharedParsed.{word_of, number_behind, IsSmall, quadrants_read, quadrants_length, root_text, IsSmallRoot, root_read, roots_read, roots_length}
use Rattle.run_model.proofs.SharedEntries.{Entry, AllGrown, KnownIn, Before, tests_of, proper_relation, all_grow, both_true, next_before, word_length, passed, both_pass, tests_are}
use Rattle.run_model.proofs.SharedPlaces.{number_low, to_end}

-- ---- one list
module _ (list : List Entry) (filed : AllByRecursion IsFiled list) (few : length (squares_of list) + 1 < 2 ^ 32) where
  abbrev squares : List Square
  squares = visit_all [] list

  abbrev sq_few : Type 0
  sq_few = length squares + 1 < 2 ^ 32

  few_squares : length squares + 1 < 2 ^ 32
  unfolding squares_of
  few_squares = few

  none_listed : AllBehind []
  none_listed k s at = let e : 0 ≡ 1 = ap count at in absurd (omega (arith, e))
    where
      count : Option Square → ℕ
      count None = 0
      count (Some x) = 1

  none_twice : NoneTwice []
  none_twice j k s at = let e : 0 ≡ 1 = ap count at in absurd (omega (arith, e))
    where
      count : Option Square → ℕ
      count None = 0
      count (Some x) = 1

  grown : AllGrown [] squares list
  grown = all_grow list [] filed none_listed none_twice

  abbrev listed : List Quadrant
  listed = quads squares grown.behind grown.once

  abbrev heights : List ℕ
  heights = heights_behind [] listed

  stands : IsTable listed heights
  stands = table listed (no_bad_square squares grown.behind grown.once)

  count_listed : length listed ≡ length squares
  count_listed = map_length (quadrant_of squares grown.behind grown.once) squares

  -- the root of a relation
  abbrev root_of : Entry → NamedRoot
  root_of e = record { name = e.0; rows = e.1.rows; cols = e.1.cols; root = number_in squares (file_height e.1.rows e.1.cols) e.1.pairs }

  told_root : (e : Entry) → IsFiled e → KnownIn squares e →
      IsNumber listed (file_height e.1.rows e.1.cols) (root_of e).root × (cells_told listed (file_height e.1.rows e.1.cols) (root_of e).root ≡ is_among e.1.pairs)
  told_root e f k =
      told squares grown.behind grown.once (file_height e.1.rows e.1.cols) e.1.pairs (proper_relation e.1 f.valid f.rows f.cols) k

  inside : (e : Entry) → IsFiled e → KnownIn squares e → LiesWithin e.1.rows e.1.cols (cells_told listed (file_height e.1.rows e.1.cols) (root_of e).root)
  inside e f k = subst (LiesWithin e.1.rows e.1.cols) (sym (told_root e f k).1) (among_within e.1.rows e.1.cols e.1.pairs f.valid)

  -- it is read as the relation
  read_entry : (e : Entry) → IsFiled e → KnownIn squares e → relation_told listed (root_of e) ≡ e
  read_entry e f k = λ i. (e.0, (ap (relation_of e.1.rows e.1.cols) (told_root e f k).1 ∙ sym (of_itself e.1 f.valid)) i)

  read_entries : (es : List Entry) → AllByRecursion IsFiled es → AllByRecursion (KnownIn squares) es → map (relation_told listed) (map root_of es) ≡ es
  read_entries [] f k = refl
  read_entries (e ∷ es) f k = λ i. read_entry e f.0 k.0 i ∷ read_entries es f.1 k.1 i

  are_entries : (es : List Entry) → AllByRecursion IsFiled es → AllByRecursion (KnownIn squares) es → AllByRecursion (IsEntry listed heights stands) (map root_of es)
  are_entries [] f k = tt
  are_entries (e ∷ es) f k = (record { number = (told_root e f.0 k.0).0; inside = inside e f.0 k.0 }, are_entries es f.1 k.1)

  -- ---- small numbers
  -- each of the four numbers of a listed square fits in four bytes: parts stand before the
  -- end, and there are few squares
  small_squares : (xs : List Square) → ((j : ℕ) (s : Square) → slice_get xs j ≡ Some s → (k : ℕ) × (k ≤ length squares) × Behind squares k s) →
      AllByRecursion IsSmall (map (quadrant_of squares grown.behind grown.once) xs)
  small_squares [] f = tt
  small_squares (s ∷ xs) f = (small s.height s.pairs (f 0 s refl), small_squares xs (λ j x at. f (suc j) x at))
    where
      small : (h : ℕ) (ps : List (ℕ × ℕ)) → (k : ℕ) × (k ≤ length squares) × Behind squares k (square_of h ps) →
          IsSmall (quadrant_of squares grown.behind grown.once (square_of h ps))
      small zero ps f = record { nw = omega arith; ne = omega arith; sw = omega arith; se = omega arith }
      small (suc h) ps (k, l, b) =
          let e : b.below ≡ h = let g = b.is_height in omega (arith, g) in
          record {
            nw = number_low squares few_squares h _ (to_end squares k h _ l (subst (λ (z : ℕ). Known squares k z (quarter (2 ^ z) 0 0 ps)) e b.nw));
            ne = number_low squares few_squares h _ (to_end squares k h _ l (subst (λ (z : ℕ). Known squares k z (quarter (2 ^ z) 0 (2 ^ z) ps)) e b.ne));
            sw = number_low squares few_squares h _ (to_end squares k h _ l (subst (λ (z : ℕ). Known squares k z (quarter (2 ^ z) (2 ^ z) 0 ps)) e b.sw));
            se = number_low squares few_squares h _ (to_end squares k h _ l (subst (λ (z : ℕ). Known squares k z (quarter (2 ^ z) (2 ^ z) (2 ^ z) ps)) e b.se));
          }

  all_small : AllByRecursion IsSmall (map (quadrant_of squares grown.behind grown.once) squares)
  all_small = small_squares squares (λ j s at.
      (j, let w = slice_get_within squares j s at in omega (arith, w), grown.behind j s at))

  -- and so do the sizes and the root of each relation: sizes keep to their limit, and roots are numbers like these
  small_roots : (es : List Entry) → AllByRecursion IsFiled es → AllByRecursion (KnownIn squares) es → AllByRecursion IsSmallRoot (map root_of es)
  small_roots [] f k = tt
  small_roots (e ∷ es) f k = (
    record {
      rows = let a = f.0.rows in omega (arith, a);
      cols = let a = f.0.cols in omega (arith, a);
      root = number_low squares few_squares (file_height e.1.rows e.1.cols) e.1.pairs k.0;
    },
    small_roots es f.1 k.1,
  )

  -- ---- bytes
  abbrev squares_text : List ℕ
  squares_text = flat_map quadrant_bytes listed

  abbrev roots_text : List ℕ
  roots_text = flat_map root_text (map root_of list)

  quarters_written : (xs : List Square) → ((j : ℕ) (s : Square) → slice_get xs j ≡ Some s → (h : ℕ) × (s.height ≡ suc h)) →
      flat_map (λ s. quarter_bytes squares s.height s.pairs) xs ≡ flat_map quadrant_bytes (map (quadrant_of squares grown.behind grown.once) xs)
  quarters_written [] h = refl
  quarters_written (s ∷ xs) h = λ i. one s.height s.pairs (h 0 s refl) i ++ quarters_written xs (λ j x at. h (suc j) x at) i
    where
      one : (g : ℕ) (ps : List (ℕ × ℕ)) → (h : ℕ) × (g ≡ suc h) → quarter_bytes squares g ps ≡ quadrant_bytes (quadrant_of squares grown.behind grown.once (square_of g ps))
      one zero ps e = let q = e.1 in absurd (omega (arith, q))
      one (suc g) ps e = refl

  roots_written : (es : List Entry) → flat_map (entry_bytes squares) es ≡ flat_map root_text (map root_of es)
  roots_written [] = refl
  roots_written (e ∷ es) = ap (λ z. root_text (root_of e) ++ z) (roots_written es)

  abbrev header : List ℕ
  header = (codes "RVK2" ++ word_of (length squares)) ++ word_of (length list)

  -- the file of the list is the header, the bytes of the squares by their numbers, and those of
  -- the relations by their roots
  written : shared_file list ≡ (header ++ squares_text) ++ roots_text
  unfolding shared_file squares_of
  written = λ i.
      (header ++ quarters_written squares (λ j s at. (let b = grown.behind j s at in (b.below, b.is_height))) i) ++ roots_written list i

  -- ---- reading
  module _ (less : length list < 2 ^ 32) where
    abbrev bytes : List ℕ
    bytes = (header ++ squares_text) ++ roots_text

    in_header : bytes ≡ header ++ (squares_text ++ roots_text)
    in_header = append_assoc header squares_text roots_text

    squares_counted : quadrant_count bytes ≡ length squares
    squares_counted =
        ap quadrant_count (in_header ∙ (append_assoc (codes "RVK2" ++ word_of (length squares)) (word_of (length list)) (squares_text ++ roots_text)
        ∙ append_assoc (codes "RVK2") (word_of (length squares)) (word_of (length list) ++ (squares_text ++ roots_text))))
        ∙ number_behind (codes "RVK2") 4 (length squares) (word_of (length list) ++ (squares_text ++ roots_text)) refl (let a = few_squares in omega (arith, a))

    entries_counted : entry_count bytes ≡ length list
    entries_counted =
        ap entry_count (in_header ∙ append_assoc (codes "RVK2" ++ word_of (length squares)) (word_of (length list)) (squares_text ++ roots_text))
        ∙ number_behind (codes "RVK2" ++ word_of (length squares)) 8 (length list) (squares_text ++ roots_text) refl less

    squares_read : quadrants_of bytes ≡ listed
    unfolding quadrants_of
    squares_read =
        (λ i. quadrants_in ((squares_counted ∙ sym count_listed) i) ((ap (drop 12) in_header ∙ drop_at header (squares_text ++ roots_text) 12 refl) i))
        ∙ quadrants_read listed roots_text all_small

    entries_place : entries_at bytes ≡ length (header ++ squares_text)
    entries_place =
        let a = length-append header squares_text in
        let b = quadrants_length listed in
        let c = count_listed in
        let d = squares_counted in
        omega (arith, a, b, c, d)

    behind_squares : drop (entries_at bytes) bytes ≡ roots_text
    behind_squares = drop_at (header ++ squares_text) roots_text (entries_at bytes) (sym entries_place)

    count_roots : length (map root_of list) ≡ length list
    count_roots = map_length root_of list

    entries_read : entries_of bytes ≡ map root_of list
    unfolding entries_of
    entries_read = (λ i. entries_in ((entries_counted ∙ sym count_roots) i) (behind_squares i)) ∙ roots_read (map root_of list) (small_roots list filed grown.known)

    -- ---- the tests of the named relations
    not_zero : (n : ℕ) → eqb (suc n) 0 ≡ false
    not_zero n = elim (cases_Bool (eqb (suc n) 0)) [
      | inl t ↦ let z = eqb-true (suc n) 0 t in absurd (omega (arith, z))
      | inr f ↦ f
    ]

    is_root_true : (h n : ℕ) → (g : ℕ) × (h ≡ suc g) → IsNumber listed h n → is_root listed heights h n ≡ true
    is_root_true h zero g is = refl
    is_root_true h (suc n) g is = listed_one g.0 (subst (λ z. IsNumber listed z (suc n)) g.1 is)
      where
        listed_one : (g0 : ℕ) → IsNumber listed (suc g0) (suc n) → is_root listed heights h (suc n) ≡ true
        listed_one g0 (inl e) = absurd (omega (arith, e))
        listed_one g0 (inr x) =
            let k = x.0 in
            let e : suc n ≡ k + 2 = x.2 in
            let l = slice_get_within listed k x.1 x.3 in
            let other : suc n ≢ 0 = λ z. omega (arith, z) in
            let tall : height_at heights (suc n) ≡ suc g.0 = table_height listed heights stands g.0 (suc n) (subst (λ z. IsNumber listed z (suc n)) g.1 is) other in
            ap (λ b. b || ((leb 2 (suc n) && ltb (suc n) (length listed + 2)) && eqb (height_at heights (suc n)) h)) (not_zero n)
            ∙ and_from (leb 2 (suc n) && ltb (suc n) (length listed + 2)) (eqb (height_at heights (suc n)) h)
            (and_from (leb 2 (suc n)) (ltb (suc n) (length listed + 2)) (le-leb 2 (suc n) (omega (arith, e))) (lt-ltb (suc n) (length listed + 2) (omega (arith, e, l))))
            (eq-eqb (height_at heights (suc n)) h (tall ∙ sym g.1))

    one_passes : (at : ℕ) (earlier : Option (List ℕ)) (e : Entry) (ys : List ℕ) → IsFiled e → KnownIn squares e → is_behind earlier e.0 ≡ true → IsSmallRoot (root_of e) →
        entry_fault listed heights at earlier (root_text (root_of e) ++ ys) ≡ None
    one_passes at earlier e ys f k before small =
        let r = root_of e in
        let xs = root_text r ++ ys in
        let h = file_height e.1.rows e.1.cols in
        let b = root_read r ys small in
        let w = word_length e.0 f.word in
        let n = length-append (root_text r) ys in
        let long = b.long in
        tests_are listed heights at earlier xs
        ∙ (ap (tests_of listed heights at earlier (length xs) (name_length xs) (entry_length xs)) b.entry
        ∙ both_pass _ _ (passed (leb 1 (length xs)) Short (le-leb 1 (length xs) (omega arith)))
        (both_pass _ _ (passed (leb 1 (length e.0) && leb (length e.0) name_limit) (BAD_NAMES at) (and_from (leb 1 (length e.0)) (leb (length e.0) name_limit) (le-leb 1 (length e.0) w.0) (le-leb (length e.0) name_limit w.1)))
        (both_pass _ _ (passed (leb (entry_length xs) (length xs)) Short (le-leb (entry_length xs) (length xs) (omega (arith, n, long))))
        (both_pass _ _ (passed (is_word e.0 && is_behind earlier e.0) (BAD_NAMES at) (and_from (is_word e.0) (is_behind earlier e.0) f.word before))
        (both_pass _ _ (passed (leb e.1.rows size_limit && leb e.1.cols size_limit) Sizes (and_from (leb e.1.rows size_limit) (leb e.1.cols size_limit) (le-leb e.1.rows size_limit f.rows) (le-leb e.1.cols size_limit f.cols)))
        (both_pass _ _ (passed (is_root listed heights h r.root) (Root at) (is_root_true h r.root (some_height e.1.rows e.1.cols) (told_root e f k).0))
        (both_pass _ _ (passed (lies_within (2 ^ h) e.1.rows e.1.cols (cells_told listed h r.root)) (Outside at) (lies_within-from (2 ^ h) e.1.rows e.1.cols (cells_told listed h r.root) (inside e f k))) refl)))))))

    all_pass : (es : List Entry) (at : ℕ) (earlier : Option (List ℕ)) → AllByRecursion IsFiled es → AllByRecursion (KnownIn squares) es → T (is_sorted compare es) → Before earlier es →
        entries_fault listed heights at earlier (length es) (flat_map root_text (map root_of es)) ≡ None
    all_pass [] at earlier f k sorted before = refl
    all_pass (e ∷ es) at earlier f k sorted before =
        let r = root_of e in
        let ys = flat_map root_text (map root_of es) in
        let small = (small_roots (e ∷ es) f k).0 in
        let b = root_read r ys small in
        both_pass (entry_fault listed heights at earlier (root_text r ++ ys)) _ (one_passes at earlier e ys f.0 k.0 before small)
        ((λ i. entries_fault listed heights (at + 1) (Some (b.entry i).name) (length es) (b.rest i))
        ∙ all_pass es (at + 1) (Some e.0) f.1 k.1 (both_true (below_all compare e.0 es) (is_sorted compare es) sorted).1 (next_before e es sorted))

    -- ---- the order
    abbrev roots : List NamedRoot
    roots = map root_of list

    abbrev visits : List ℕ
    visits = visit_roots listed [] roots

    visits_listed : AllByRecursion (Listed listed heights stands) visits
    visits_listed = roots_listed listed heights stands [] roots (are_entries list filed grown.known) tt

    visits_squares : squares ≡ map (square listed heights stands) visits
    visits_squares =
        ap (visit_all []) (sym (read_entries list filed grown.known))
        ∙ roots_visited listed heights stands [] roots (are_entries list filed grown.known) tt

    -- the square of each number is the one at its place
    square_there : (k : ℕ) (s : Square) → slice_get squares k ≡ Some s → square listed heights stands (k + 2) ≡ s
    square_there k s at =
        let p = placed squares grown.behind grown.once k s at in
        let tall : height_at heights (k + 2) ≡ s.height =
        height_is listed heights k s.height
        (ap (λ z. slice_get z k) (heights_are squares grown.behind grown.once) ∙ (slice_get-map (λ x. x.height) squares k ∙ ap (option_map (λ x. x.height)) at)) in
        let pairs : pairs_at listed (height_at heights (k + 2)) (k + 2) ≡ s.pairs =
        ap (λ z. pairs_at listed z (k + 2)) (tall ∙ p.is_height) ∙ (ap (pairs_of (2 ^ suc p.below)) p.cells ∙ pairs_among (2 ^ suc p.below) s.pairs p.proper) in
        λ i. record { height = tall i; pairs = pairs i }

    squares_there : (pre more : List Square) → squares ≡ pre ++ more → map (square listed heights stands) (numbers_from (length pre + 2) (length more)) ≡ more
    squares_there pre [] w = refl
    squares_there pre (s ∷ more) w =
        let i = squares_there (pre ++ s ∷ []) more (w ∙ sym (append_assoc pre (s ∷ []) more)) in
        λ j. square_there (length pre) s (ap (λ z. slice_get z (length pre)) w ∙ get_next pre s more) j
        ∷ (ap (λ n. map (square listed heights stands) (numbers_from n (length more))) (later pre s) ∙ i) j
      where
        later : (pre : List Square) (s : Square) → (length pre + 2) + 1 ≡ length (pre ++ s ∷ []) + 2
        later pre s = let e = length-append pre (s ∷ []) in omega (arith, e)

    numbers_listed : (k j : ℕ) → k + j ≤ length listed → AllByRecursion (Listed listed heights stands) (numbers_from (j + 2) k)
    numbers_listed zero j l = tt
    numbers_listed (suc k) j l =
        let s = stands.stand j (omega (arith, l)) in (
          (s.0, (λ e. omega (arith, e)), s.2),
          subst (λ z. AllByRecursion (Listed listed heights stands) (numbers_from z k)) (later j) (numbers_listed k (j + 1) (omega (arith, l))),
        )
      where
        later : (j : ℕ) → (j + 1) + 2 ≡ (j + 2) + 1
        later j = omega arith

    abbrev head_or : Square → List Square → Square
    head_or d [] = d
    head_or d (x ∷ xs) = x

    abbrev tail_of : List Square → List Square
    tail_of [] = []
    tail_of (x ∷ xs) = xs

    abbrev square_count : List Square → ℕ
    square_count [] = 0
    square_count (x ∷ xs) = 1

    -- numbers of the same squares are the same
    same_numbers : (xs ys : List ℕ) → AllByRecursion (Listed listed heights stands) xs → AllByRecursion (Listed listed heights stands) ys →
        map (square listed heights stands) xs ≡ map (square listed heights stands) ys → xs ≡ ys
    same_numbers [] [] a b e = refl
    same_numbers [] (y ∷ ys) a b e = let n : 0 ≡ 1 = ap square_count e in absurd (omega (arith, n))
    same_numbers (x ∷ xs) [] a b e = let n : 1 ≡ 0 = ap square_count e in absurd (omega (arith, n))
    same_numbers (x ∷ xs) (y ∷ ys) a b e =
        let s : square listed heights stands x ≡ square listed heights stands y = ap (head_or (square listed heights stands x)) e in
        let t : eqb x y ≡ true =
        sym (same_number listed stands.distinct (height listed heights stands) (high listed heights stands) x y a.0 b.0)
        ∙ (ap (same_square (square listed heights stands y)) s ∙ same_square_itself (square listed heights stands y)) in
        λ i. eqb-true x y t i ∷ same_numbers xs ys a.1 b.1 (ap tail_of e) i

    visits_are : visits ≡ numbers_from 2 (length squares)
    visits_are =
        same_numbers visits (numbers_from 2 (length squares)) visits_listed
        (numbers_listed (length squares) 0 (let e = count_listed in omega (arith, e)))
        (sym visits_squares ∙ sym (squares_there [] squares refl))

    none_out : (n k : ℕ) → first_out n k (numbers_from n k) ≡ None
    none_out n zero = refl
    none_out n (suc k) = ap (λ b. cond b (first_out (n + 1) k (numbers_from (n + 1) k)) (Some n)) (eq-eqb n n refl) ∙ none_out (n + 1) k

    -- ---- the whole
    whole_tests : (a b c d : Bool) (x : Option ℕ) (y : Option BadFile) (z : Option ℕ) → a ≡ true → b ≡ true → c ≡ true → x ≡ None → y ≡ None → z ≡ None → d ≡ true →
        first_of_all (unless a Magic ∷ unless b Short ∷ unless c Short ∷ found_at Quad x ∷ y ∷ found_at Order z ∷ unless d Rest ∷ []) ≡ None
    whole_tests a b c d x y z ea eb ec ex ey ez ed = λ i.
        first_of_all (unless (ea i) Magic ∷ unless (eb i) Short ∷ unless (ec i) Short ∷ found_at Quad (ex i) ∷ ey i ∷ found_at Order (ez i) ∷ unless (ed i) Rest ∷ [])

    no_fault : IsIncreasing list → shared_fault bytes ≡ None
    unfolding shared_fault begins_shared
    no_fault sorted =
        let a = length-append (header ++ squares_text) roots_text in
        let b = length-append header squares_text in
        let p = entries_place in
        whole_tests
        (same_text (codes "RVK2") (codes "RVK2")) (leb shared_header (length bytes)) (leb (entries_at bytes) (length bytes))
        (eqb (length (drop (entries_at bytes) bytes)) (entries_length (entry_count bytes) (drop (entries_at bytes) bytes)))
        (first_bad 2 [] [] (quadrants_of bytes))
        (entries_fault (quadrants_of bytes) (heights_behind [] (quadrants_of bytes)) 0 None (entry_count bytes) (drop (entries_at bytes) bytes))
        (first_out 2 (quadrant_count bytes) (visit_roots (quadrants_of bytes) [] (entries_of bytes)))
        refl
        (le-leb 12 (length bytes) (omega (arith, a, b)))
        (le-leb (entries_at bytes) (length bytes) (omega (arith, a, p)))
        (ap (first_bad 2 [] []) squares_read ∙ no_bad_square squares grown.behind grown.once)
        ((λ i. entries_fault (squares_read i) (heights_behind [] (squares_read i)) 0 None (entries_counted i) (behind_squares i))
        ∙ all_pass list 0 None filed grown.known sorted (first_before list))
        ((λ i. first_out 2 (squares_counted i) (visit_roots (squares_read i) [] (entries_read i))) ∙ (ap (first_out 2 (length squares)) visits_are ∙ none_out 2 (length squares)))
        (eq-eqb (length (drop (entries_at bytes) bytes)) (entries_length (entry_count bytes) (drop (entries_at bytes) bytes))
        (ap length behind_squares ∙ (roots_length (map root_of list) (small_roots list filed grown.known) ∙ (λ i. entries_length ((count_roots ∙ sym entries_counted) i) (sym behind_squares i)))))
      where
        first_before : (es : List Entry) → Before None es
        first_before [] = tt
        first_before (e ∷ es) = refl

    read_back : shared_relations bytes ≡ list
    unfolding shared_relations
    read_back = (λ i. map (relation_told (squares_read i)) (entries_read i)) ∙ read_entries list filed grown.known

pub read_of_bytes : (list : Names Relation) → IsIncreasing list → AllByRecursion IsFiled list → length (squares_of list) + 1 < 2 ^ 32 → length list < 2 ^ 32 →
    (shared_fault (shared_file list) ≡ None) × (shared_relations (shared_file list) ≡ list)
read_of_bytes list sorted filed few less =
    let w = written list filed few in (
      ap shared_fault w ∙ no_fault list filed few less sorted,
      ap shared_relations w ∙ read_back list filed few less,
    )

pub shared_files_laws : SharedFilesLaws
shared_files_laws = record { bytes_of_read = bytes_of_read; read_of_bytes = read_of_bytes }
