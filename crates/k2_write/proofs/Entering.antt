-- The visits of relations, one after another, and their bytes.
-- 1. A relation is a square of its height, with its own pairs.
-- 2. The squares of relations that were visited keep their numbers, so that the bytes of these relations stay.
use Rattle.std.proofs.Common.{◌≡◌, ◌<◌, ◌≤◌, ◌+◌, ◌^◌, zero, suc, ℕ, List, [], ◌∷◌, ◌++◌, length, take, get_or, refl, sym, ap, subst, ◌∙◌, arith, Option, append_assoc, append-nil, Result, Ok, Err}
use Rattle.std.specs.Prelude.{IfOk}
use Rattle.std.specs.List.{flat_map, AllByRecursion}
use Rattle.std.proofs.lemmas.List.{take_more}
use Rattle.rel_model.specs.declared.Rel.{Rel}
use Rattle.rel_model.specs.Relation.{Relation, IsRelation, has, size_limit, size_height}
use Rattle.rel_model.specs.Listed.{is_among}
use Rattle.rel_model.specs.Worker.{Worker, Stands, set_of, Keeps, height_of}
use Rattle.rel_model.proofs.Heights.{power_up, height_of-covers, height_of-limit}
use Rattle.run_model.specs.Files.{file_height}
use Rattle.run_model.specs.SharedBytes.{Square, visit, visit_all, entry_bytes}
use Rattle.run_model.proofs.SharedCells.{pairs_agree, pairs_among}
use Rattle.run_model.proofs.SharedSquares.{Proper, AllBehind, NoneTwice, visit_grows}
use Rattle.k2_file.specs.declared.squares.Square.{Square as Shown}
use Rattle.k2_file.specs.Squares.{piece, Shows}
use Rattle.k2_file.proofs.WritePieces.{piece-in}
use Rattle.k2_file.proofs.WriteLevels.{map-append}
use Rattle.k2_write.specs.declared.listing.Listing.{Listing}
use Rattle.k2_write.specs.declared.visits.Visits.{Visits}
use Rattle.k2_write.specs.Visiting.{Pairs, pairs_in, part_pairs, Lists, IsVisited, Visited, VisitedSet}
use Rattle.k2_write.specs.Writing.{named_sets, named_bytes}
use Rattle.k2_write.specs.Listed.{IsKnown, AreListed, IsListing}
use Rattle.k2_write.proofs.Showing.{shown_pairs}
use Rattle.k2_write.proofs.Visited.{lists_kept, known_later, number_later}

-- a named relation
abbrev Entry : Type 0
Entry = List ℕ × Relation

-- ---- a relation as a square
low_height : (rows cols : ℕ) → file_height rows cols ≤ size_height
unfolding file_height
low_height rows cols = omega (arith, height_of-limit rows, height_of-limit cols)

covers_rows : (rows cols : ℕ) → rows ≤ size_limit → rows ≤ 2 ^ file_height rows cols
unfolding file_height
covers_rows rows cols l =
    let a = height_of-covers rows l in
    let b = power_up (height_of rows) (file_height rows cols) (omega arith) in
    omega (arith, a, b)

covers_cols : (rows cols : ℕ) → cols ≤ size_limit → cols ≤ 2 ^ file_height rows cols
unfolding file_height
covers_cols rows cols l =
    let a = height_of-covers cols l in
    let b = power_up (height_of cols) (file_height rows cols) (omega arith) in
    omega (arith, a, b)

-- a relation that fits a file
pub record Fitting (r : Relation) : Type 0 where
  pub valid : IsRelation r
  pub rows : r.rows ≤ size_limit
  pub cols : r.cols ≤ size_limit

proper_relation : (r : Relation) → Fitting r → Proper (file_height r.rows r.cols) r.pairs
proper_relation r f =
    record { within = wider r.pairs f.valid.within; increasing = f.valid.increasing }
  where
    wider : (ps : Pairs) → AllByRecursion (λ p. (p.0 < r.rows) × (p.1 < r.cols)) ps → AllByRecursion (λ p. (p.0 < 2 ^ file_height r.rows r.cols) × (p.1 < 2 ^ file_height r.rows r.cols)) ps
    wider [] h = tt
    wider (p ∷ ps) h =
        ((let c = covers_rows r.rows r.cols f.rows in let x = h.0.0 in omega (arith, c, x), let c = covers_cols r.rows r.cols f.cols in let x = h.0.1 in omega (arith, c, x)), wider ps h.1)

-- its pairs as a square
own_pairs : (r : Relation) → Fitting r → pairs_in (file_height r.rows r.cols) (piece (2 ^ file_height r.rows r.cols) 0 0 (has r)) ≡ r.pairs
own_pairs r f =
    let m : ℕ = 2 ^ file_height r.rows r.cols in
    pairs_agree m (piece m 0 0 (has r)) (is_among r.pairs) (λ i j x y. piece-in m 0 0 (has r) i j x y ∙ (λ k. has r (none i k) (none j k)))
    ∙ pairs_among m r.pairs (proper_relation r f)
  where
    none : (i : ℕ) → 0 + i ≡ i
    none i = omega arith

pub set_visited : (w0 w1 w2 : Worker) (least h : ℕ) (r : Relation) (o : Option Shown) (v0 v1 : Visits) (n : ℕ) → h ≡ file_height r.rows r.cols → Fitting r → Keeps w0 w1 → Shows w1 least h (piece (2 ^ h) 0 0 (has r)) o
    → Visited w1 w2 least v0 v1 h (part_pairs w1 h o) n → VisitedSet w0 w2 least v0 v1 r n
set_visited w0 w1 w2 least h r o v0 v1 n e f k s x squares l =
    let a : part_pairs w1 h o ≡ pairs_in h (piece (2 ^ h) 0 0 (has r)) = shown_pairs w1 least h (piece (2 ^ h) 0 0 (has r)) o s in
    let b : pairs_in h (piece (2 ^ h) 0 0 (has r)) ≡ r.pairs = ap (λ z. pairs_in z (piece (2 ^ z) 0 0 (has r))) e ∙ own_pairs r f in
    subst (λ z. IsVisited w2 least squares v1 z r.pairs n) e
    (subst (λ ps. IsVisited w2 least squares v1 h ps n) (a ∙ b) (x squares (lists_kept w0 w1 least squares v0 k l)))

-- ---- relations one after another
visit_all_append : (squares : List Square) (xs : List Entry) (e : Entry) → visit_all squares (xs ++ e ∷ []) ≡ visit (file_height e.1.rows e.1.cols) e.1.pairs (visit_all squares xs)
visit_all_append squares [] e = refl
visit_all_append squares (x ∷ xs) e = visit_all_append (visit (file_height x.1.rows x.1.cols) x.1.pairs squares) xs e

flat_map_append : {X Y : Type 0} (f : X → List Y) (xs : List X) (x : X) → flat_map f (xs ++ x ∷ []) ≡ flat_map f xs ++ f x
flat_map_append f [] x = append-nil (f x)
flat_map_append f (y ∷ xs) x = ap (λ zs. f y ++ zs) (flat_map_append f xs x) ∙ sym (append_assoc (f y) (flat_map f xs) (f x))

all_append : (P : Entry → Type 0) (xs : List Entry) (x : Entry) → AllByRecursion P xs → P x → AllByRecursion P (xs ++ x ∷ [])
all_append P [] x h p = (p, tt)
all_append P (y ∷ xs) x h p = (h.0, all_append P xs x h.1 p)

module _ (old new more : List Square) (e : new ≡ old ++ more) (a : AllBehind old) (o : NoneTwice old) (b : AllBehind new) (p : NoneTwice new) where
  known_stay : (xs : List Entry) → AllByRecursion (IsKnown old) xs → AllByRecursion (IsKnown new) xs
  known_stay [] h = tt
  known_stay (x ∷ xs) h = (known_later old new more (file_height x.1.rows x.1.cols) x.1.pairs e h.0, known_stay xs h.1)

  bytes_stay : (xs : List Entry) → AllByRecursion (IsKnown old) xs → flat_map (entry_bytes new) xs ≡ flat_map (entry_bytes old) xs
  bytes_stay [] h = refl
  bytes_stay (x ∷ xs) h =
      let n = number_later old new more (file_height x.1.rows x.1.cols) x.1.pairs e a o b p h.0 in
      λ i. named_bytes x.0 x.1.rows x.1.cols (n i) ++ bytes_stay xs h.1 i

-- one relation more
pub one_more : (w1 w2 : Worker) (least : ℕ) (named : List Entry) (e : Entry) (rows cols n : ℕ) (v1 v2 : Visits) (bytes more : List ℕ) → Fitting e.1 → e.1.rows ≡ rows → e.1.cols ≡ cols
    → AreListed w1 least named v1 bytes → VisitedSet w1 w2 least v1 v2 e.1 n → more ≡ bytes ++ named_bytes e.0 rows cols n → AreListed w2 least (named ++ e ∷ []) v2 more
one_more w1 w2 least named e rows cols n v1 v2 bytes more f is_rows is_cols l x is =
    let old : List Square = visit_all [] named in
    let h : ℕ = file_height e.1.rows e.1.cols in
    let new : List Square = visit h e.1.pairs old in
    let r = x old l.lists in
    let g = visit_grows h e.1.pairs old (low_height e.1.rows e.1.cols) (proper_relation e.1 f) l.lists.behind l.lists.once in
    let last = sym (visit_all_append [] named e) in
    let stay = bytes_stay old new g.more g.is_more l.lists.behind l.lists.once g.behind g.once named l.known in
    let own : more ≡ flat_map (entry_bytes new) named ++ entry_bytes new e =
    is ∙ (λ i. (l.relations ∙ sym stay) i ++ named_bytes e.0 (sym is_rows i) (sym is_cols i) (r.number i)) in
    record {
      lists = subst (λ z. Lists w2 least z v2) last r.lists;
      known = subst (λ z. AllByRecursion (IsKnown z) (named ++ e ∷ [])) last
          (all_append (IsKnown new) named e (known_stay old new g.more g.is_more l.lists.behind l.lists.once g.behind g.once named l.known) g.known);
      relations = own ∙ (sym (flat_map_append (entry_bytes new) named e) ∙ ap (λ z. flat_map (entry_bytes z) (named ++ e ∷ [])) last);
    }

-- the relations so far, with the next
pub named_next : (w : Worker) (rels : List (List ℕ × Rel)) (k : ℕ) (x : List ℕ × Rel) → k < length rels → x ≡ get_or rels k x
    → named_sets w (take (k + 1) rels) ≡ named_sets w (take k rels) ++ (x.0, set_of w x.1) ∷ []
named_next w rels k x l is =
    ap (named_sets w) (take_more rels k x l ∙ ap (λ y. take k rels ++ y ∷ []) (sym is)) ∙ map-append (λ e. (e.0, set_of w e.1)) (take k rels) (x ∷ [])

all_at : {X : Type 0} (P : X → Type 0) (xs : List X) (k : ℕ) (d : X) → AllByRecursion P xs → k < length xs → P (get_or xs k d)
all_at P [] k d h l = absurd (omega (arith, l))
all_at P (x ∷ xs) zero d h l = h.0
all_at P (x ∷ xs) (suc k) d h l = all_at P xs k d h.1 (omega (arith, l))

pub stands_at : (w : Worker) (rels : List (List ℕ × Rel)) (k : ℕ) (x : List ℕ × Rel) → AllByRecursion (λ e. Stands w e.1) rels → k < length rels → x ≡ get_or rels k x → Stands w x.1
stands_at w rels k x h l is = subst (λ e. Stands w e.1) (sym is) (all_at (λ e. Stands w e.1) rels k x h l)

-- what is so of an answer is so of it in other words
pub if_ok : {X F : Type 0} (r : Result X F) (P Q : X → Type 0) → ((x : X) → P x → Q x) → IfOk r P → IfOk r Q
if_ok (Ok x) P Q f h = f x h
if_ok (Err e) P Q f h = h

-- all of them
pub all_listed : (w : Worker) (least : ℕ) (named : List Entry) (visits : Visits) (bytes : List ℕ) (l : Listing) → AreListed w least named visits bytes → l.squares.keys ≡ visits.squares.keys → l.relations.items ≡ bytes → IsListing named l
all_listed w least named visits bytes l is keys relations = record { behind = is.lists.behind; keys = keys ∙ is.lists.keys; relations = relations ∙ is.relations }
