-- The bytes of a file by its listed squares and the bytes of its relations.
use Rattle.std.proofs.Common.{◌≡◌, ◌<◌, ◌≤◌, ◌+◌, ◌*◌, ◌^◌, suc, ℕ, List, [], ◌∷◌, ◌++◌, length, map, refl, sym, ap, ◌∙◌, arith, Some, length-append}
use Rattle.std.specs.Prelude.{slice_get}
use Rattle.std.specs.List.{flat_map}
use Rattle.rel_model.specs.declared.Rel.{Rel}
use Rattle.rel_model.specs.Relation.{Relation}
use Rattle.rel_model.specs.Worker.{Worker, set_of}
use Rattle.run_model.specs.Limits.{save_limit}
use Rattle.run_model.specs.SharedBytes.{Square, visit_all, quarter_bytes, entry_bytes, shared_file, squares_of}
use Rattle.run_model.proofs.SharedSquares.{Behind}
use Rattle.k2_write.specs.declared.visits.Quarters.{Quarters}
use Rattle.k2_write.specs.declared.listing.Listing.{Listing}
use Rattle.k2_write.specs.Visiting.{quarters_by, quarters_in}
use Rattle.k2_write.specs.Writing.{named_sets, quarters_bytes, header_bytes, listed_bytes}
use Rattle.k2_write.specs.Listed.{IsListing}

-- ---- squares
-- the bytes of listed squares are those of their quarters
one_square : (squares : List Square) (k : ℕ) (s : Square) → Behind squares k s → quarters_bytes (quarters_in squares s) ≡ quarter_bytes squares s.height s.pairs
one_square squares k s b =
    ap (λ h. quarters_bytes (quarters_by squares h s.pairs)) b.is_height ∙ sym (ap (λ h. quarter_bytes squares h s.pairs) b.is_height)

squares_bytes : (squares xs : List Square) → ((k : ℕ) (x : Square) → slice_get xs k ≡ Some x → quarters_bytes (quarters_in squares x) ≡ quarter_bytes squares x.height x.pairs)
    → flat_map quarters_bytes (map (quarters_in squares) xs) ≡ flat_map (λ s. quarter_bytes squares s.height s.pairs) xs
squares_bytes squares [] h = refl
squares_bytes squares (x ∷ xs) h = λ i. h 0 x refl i ++ squares_bytes squares xs (λ k y at. h (suc k) y at) i

squares_length : (qs : List Quarters) → length (flat_map quarters_bytes qs) ≡ 16 * length qs
squares_length [] = refl
squares_length (q ∷ qs) =
    let a = length-append (quarters_bytes q) (flat_map quarters_bytes qs) in
    let b = squares_length qs in
    omega (arith, a, b, sixteen q)
  where
    sixteen : (q : Quarters) → length (quarters_bytes q) ≡ 16
    sixteen q = refl

map_length : {X Y : Type 0} (f : X → Y) (xs : List X) → length (map f xs) ≡ length xs
map_length f [] = refl
map_length f (x ∷ xs) = ap suc (map_length f xs)

-- ---- the file
whole : (named : List (List ℕ × Relation)) →
    header_bytes (length (visit_all [] named)) (length named)
    ++ (flat_map (λ s. quarter_bytes (visit_all [] named) s.height s.pairs) (visit_all [] named) ++ flat_map (entry_bytes (visit_all [] named)) named)
    ≡ shared_file named
unfolding shared_file squares_of
whole named = refl

pub file_is : (named : List (List ℕ × Relation)) (l : Listing) (count : ℕ) → IsListing named l → count ≡ length named → listed_bytes l.squares.keys count l.relations.items ≡ shared_file named
file_is named l count is e =
    let squares : List Square = visit_all [] named in
    let n : length l.squares.keys ≡ length squares = ap length is.keys ∙ map_length (quarters_in squares) squares in
    let q : flat_map quarters_bytes l.squares.keys ≡ flat_map (λ s. quarter_bytes squares s.height s.pairs) squares =
    ap (flat_map quarters_bytes) is.keys ∙ squares_bytes squares squares (λ k x at. one_square squares k x (is.behind k x at)) in
    (λ i. header_bytes (n i) (e i) ++ (q i ++ is.relations i)) ∙ whole named

-- how long it is
pub file_length : (named : List (List ℕ × Relation)) (l : Listing) → IsListing named l → length (shared_file named) ≡ 12 + 16 * length l.squares.keys + length l.relations.items
file_length named l is =
    let h : List ℕ = header_bytes (length l.squares.keys) (length named) in
    let a = length-append h (flat_map quarters_bytes l.squares.keys ++ l.relations.items) in
    let b = length-append (flat_map quarters_bytes l.squares.keys) l.relations.items in
    let c = squares_length l.squares.keys in
    let d = ap length (file_is named l (length named) is refl) in
    let e : length h ≡ 12 = refl in
    omega (arith, a, b, c, d, e)

-- each relation has a byte
entries_long : (squares : List Square) (named : List (List ℕ × Relation)) → length named ≤ length (flat_map (entry_bytes squares) named)
entries_long squares [] = omega arith
entries_long squares (x ∷ xs) =
    let a = length-append (entry_bytes squares x) (flat_map (entry_bytes squares) xs) in
    let b = entries_long squares xs in
    let c : 1 ≤ length (entry_bytes squares x) = omega arith in
    omega (arith, a, b, c)

pub count_named : (w : Worker) (rels : List (List ℕ × Rel)) → length rels ≡ length (named_sets w rels)
count_named w rels = sym (map_length (λ e. (e.0, set_of w e.1)) rels)

-- relations of a file within the limit are few
pub few_relations : (w : Worker) (rels : List (List ℕ × Rel)) (l : Listing) → IsListing (named_sets w rels) l → 8 * (12 + 16 * length l.squares.keys + length l.relations.items) ≤ save_limit → length rels < 2 ^ 32
few_relations w rels l is h =
    let a = entries_long (visit_all [] (named_sets w rels)) (named_sets w rels) in
    let b = ap length is.relations in
    let c = count_named w rels in
    omega (arith, a, b, c, h)

-- the number of bits by what is listed
pub bits_are : (named : List (List ℕ × Relation)) (l : Listing) (squares : List Quarters) (relations : List ℕ) (bits : ℕ) → IsListing named l → squares ≡ l.squares.keys → relations ≡ l.relations.items
    → bits ≡ 8 * (12 + 16 * length squares + length relations) → bits ≡ 8 * length (shared_file named)
bits_are named l squares relations bits is a b e =
    let x = file_length named l is in
    let y = ap length a in
    let z = ap length b in
    omega (arith, x, y, z, e)
