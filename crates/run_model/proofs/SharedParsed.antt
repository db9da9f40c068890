-- The numbers of a file are read off the bytes that were written of them.
use Rattle.std.proofs.Common.{◌≡◌, ◌<◌, ◌+◌, ◌*◌, ◌^◌, suc, ℕ, List, [], ◌∷◌, ◌++◌, length, take, drop, refl, sym, ap, ◌∙◌, arith, append_assoc, length-append}
use Rattle.std.specs.List.{flat_map, AllByRecursion}
use Rattle.std.specs.Int.{w32, to_be_bytes, from_be_bytes}
use Rattle.std.proofs.lemmas.Nat.{from_be_bytes-to_be_bytes_4}
use Rattle.std.proofs.lemmas.List.{take_at, drop_at}
use Rattle.run_model.specs.SharedFiles.{Quadrant, number_at, quadrants_in, NamedRoot, entry_length, entry_in, entries_in, entries_length}
use Rattle.run_model.proofs.SharedBytes.{quadrant_bytes}

abbrev pub word_of : ℕ → List ℕ
word_of n = to_be_bytes w32 n

four_bytes : (n : ℕ) → length (word_of n) ≡ 4
four_bytes n = refl

-- the number of four bytes behind others
pub number_behind : (xs : List ℕ) (at n : ℕ) (ys : List ℕ) → length xs ≡ at → n < 2 ^ 32 → number_at (xs ++ (word_of n ++ ys)) at ≡ n
number_behind xs at n ys e l =
    ap (λ zs. from_be_bytes w32 (take 4 zs)) (drop_at xs (word_of n ++ ys) at e)
    ∙ (ap (from_be_bytes w32) (take_at (word_of n) ys 4 (four_bytes n)) ∙ from_be_bytes-to_be_bytes_4 n l)

-- ---- listed squares
-- the four numbers of a square have four bytes each
pub record IsSmall (q : Quadrant) : Type 0 where
  pub nw : q.nw < 2 ^ 32
  pub ne : q.ne < 2 ^ 32
  pub sw : q.sw < 2 ^ 32
  pub se : q.se < 2 ^ 32

abbrev in_four : List ℕ → List ℕ → List ℕ → List ℕ → List ℕ → List ℕ
in_four a b c d ys = (((a ++ b) ++ c) ++ d) ++ ys

at_first : (a b c d ys : List ℕ) → in_four a b c d ys ≡ [] ++ (a ++ (b ++ (c ++ (d ++ ys))))
at_first a b c d ys = append_assoc ((a ++ b) ++ c) d ys ∙ (append_assoc (a ++ b) c (d ++ ys) ∙ append_assoc a b (c ++ (d ++ ys)))

at_second : (a b c d ys : List ℕ) → in_four a b c d ys ≡ a ++ (b ++ (c ++ (d ++ ys)))
at_second a b c d ys = at_first a b c d ys

at_third : (a b c d ys : List ℕ) → in_four a b c d ys ≡ (a ++ b) ++ (c ++ (d ++ ys))
at_third a b c d ys = append_assoc ((a ++ b) ++ c) d ys ∙ append_assoc (a ++ b) c (d ++ ys)

at_fourth : (a b c d ys : List ℕ) → in_four a b c d ys ≡ ((a ++ b) ++ c) ++ (d ++ ys)
at_fourth a b c d ys = append_assoc ((a ++ b) ++ c) d ys

-- quadrants are read off their bytes again: by induction, the four numbers at the head and then the rest
pub quadrants_read : (qs : List Quadrant) (ys : List ℕ) → AllByRecursion IsSmall qs → quadrants_in (length qs) (flat_map quadrant_bytes qs ++ ys) ≡ qs
quadrants_read [] ys h = refl
quadrants_read (q ∷ qs) ys h =
    let rest = flat_map quadrant_bytes qs ++ ys in
    let whole : flat_map quadrant_bytes (q ∷ qs) ++ ys ≡ quadrant_bytes q ++ rest = append_assoc (quadrant_bytes q) (flat_map quadrant_bytes qs) ys in
    let a = word_of q.nw in
    let b = word_of q.ne in
    let c = word_of q.sw in
    let d = word_of q.se in
    ap (quadrants_in (suc (length qs))) whole
    ∙ (λ i.
    record {
      nw = (ap (λ z. number_at z 0) (at_first a b c d rest) ∙ number_behind [] 0 q.nw (b ++ (c ++ (d ++ rest))) refl h.0.nw) i;
      ne = (ap (λ z. number_at z 4) (at_second a b c d rest) ∙ number_behind a 4 q.ne (c ++ (d ++ rest)) refl h.0.ne) i;
      sw = (ap (λ z. number_at z 8) (at_third a b c d rest) ∙ number_behind (a ++ b) 8 q.sw (d ++ rest) refl h.0.sw) i;
      se = (ap (λ z. number_at z 12) (at_fourth a b c d rest) ∙ number_behind ((a ++ b) ++ c) 12 q.se rest refl h.0.se) i;
    }
    ∷ (ap (quadrants_in (length qs)) (drop_at (quadrant_bytes q) rest 16 refl) ∙ quadrants_read qs ys h.1) i)

-- each quadrant takes sixteen bytes, so that the bytes of a list are sixteen times as many as its quadrants
pub quadrants_length : (qs : List Quadrant) → length (flat_map quadrant_bytes qs) ≡ 16 * length qs
quadrants_length [] = none 16
  where
    none : (n : ℕ) → 0 ≡ n * 0
    none n = omega arith
quadrants_length (q ∷ qs) =
    let i = quadrants_length qs in
    length-append (quadrant_bytes q) (flat_map quadrant_bytes qs) ∙ more (length (flat_map quadrant_bytes qs)) (length qs) i
  where
    more : (a n : ℕ) → a ≡ 16 * n → 16 + a ≡ 16 * suc n
    more a n e = omega (arith, e)

-- ---- named relations
abbrev pub root_text : NamedRoot → List ℕ
root_text e = length e.name ∷ (e.name ++ to_be_bytes w32 e.rows ++ to_be_bytes w32 e.cols ++ to_be_bytes w32 e.root)

-- sizes and root have four bytes each
pub record IsSmallRoot (e : NamedRoot) : Type 0 where
  pub rows : e.rows < 2 ^ 32
  pub cols : e.cols < 2 ^ 32
  pub root : e.root < 2 ^ 32

pub root_length : (e : NamedRoot) → length (root_text e) ≡ 1 + length e.name + 12
root_length e =
    let a = length-append ((e.name ++ word_of e.rows) ++ word_of e.cols) (word_of e.root) in
    let b = length-append (e.name ++ word_of e.rows) (word_of e.cols) in
    let c = length-append e.name (word_of e.rows) in
    omega (arith, a, b, c)

-- what is read of one that was written
pub record ReadBack (e : NamedRoot) (ys : List ℕ) : Type 0 where
  pub entry : entry_in (root_text e ++ ys) ≡ e
  pub long : entry_length (root_text e ++ ys) ≡ length (root_text e)
  pub rest : drop (entry_length (root_text e ++ ys)) (root_text e ++ ys) ≡ ys

-- a named relation is read off its bytes again: the name's length tells where the sizes and the root stand
pub root_read : (e : NamedRoot) (ys : List ℕ) → IsSmallRoot e → ReadBack e ys
root_read e ys s =
    let n = e.name in
    let a = word_of e.rows in
    let b = word_of e.cols in
    let c = word_of e.root in
    let xs = root_text e ++ ys in
    let first : List ℕ = length n ∷ n in
    let name : (((n ++ a) ++ b) ++ c) ++ ys ≡ n ++ (a ++ (b ++ (c ++ ys))) =
    append_assoc ((n ++ a) ++ b) c ys ∙ (append_assoc (n ++ a) b (c ++ ys) ∙ append_assoc n a (b ++ (c ++ ys))) in
    let rows : xs ≡ first ++ (a ++ (b ++ (c ++ ys))) = ap (λ z. length n ∷ z) name in
    let cols : xs ≡ (first ++ a) ++ (b ++ (c ++ ys)) = ap (λ z. length n ∷ z) (append_assoc ((n ++ a) ++ b) c ys ∙ append_assoc (n ++ a) b (c ++ ys)) in
    let root : xs ≡ ((first ++ a) ++ b) ++ (c ++ ys) = ap (λ z. length n ∷ z) (append_assoc ((n ++ a) ++ b) c ys) in
    let l1 : length first ≡ 1 + length n = omega arith in
    let l2 : length (first ++ a) ≡ (1 + length n) + 4 = let x = length-append first a in omega (arith, x) in
    let l3 : length ((first ++ a) ++ b) ≡ (1 + length n) + 8 = let x = length-append (first ++ a) b in let y = length-append first a in omega (arith, x, y) in
    let long : entry_length xs ≡ length (root_text e) = sym (root_length e) in
    record {
      entry = λ i. record {
        name = (ap (take (length n)) name ∙ take_at n (a ++ (b ++ (c ++ ys))) (length n) refl) i;
        rows = (ap (λ z. number_at z (1 + length n)) rows ∙ number_behind first (1 + length n) e.rows (b ++ (c ++ ys)) l1 s.rows) i;
        cols = (ap (λ z. number_at z ((1 + length n) + 4)) cols ∙ number_behind (first ++ a) ((1 + length n) + 4) e.cols (c ++ ys) l2 s.cols) i;
        root = (ap (λ z. number_at z ((1 + length n) + 8)) root ∙ number_behind ((first ++ a) ++ b) ((1 + length n) + 8) e.root ys l3 s.root) i;
      };
      long = long;
      rest = ap (λ z. drop z xs) long ∙ drop_at (root_text e) ys (length (root_text e)) refl;
    }

pub roots_read : (es : List NamedRoot) → AllByRecursion IsSmallRoot es → entries_in (length es) (flat_map root_text es) ≡ es
roots_read [] h = refl
roots_read (e ∷ es) h =
    let r = root_read e (flat_map root_text es) h.0 in
    λ i. r.entry i ∷ (ap (entries_in (length es)) r.rest ∙ roots_read es h.1) i

pub roots_length : (es : List NamedRoot) → AllByRecursion IsSmallRoot es → length (flat_map root_text es) ≡ entries_length (length es) (flat_map root_text es)
roots_length [] h = refl
roots_length (e ∷ es) h =
    let r = root_read e (flat_map root_text es) h.0 in
    length-append (root_text e) (flat_map root_text es)
    ∙ (λ i. sym r.long i + (roots_length es h.1 ∙ ap (entries_length (length es)) (sym r.rest)) i)
