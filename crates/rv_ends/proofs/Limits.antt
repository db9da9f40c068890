-- Scripts that were read, and those that are generated, are within the limit of a script.
use Rattle.std.proofs.Common.{◌≡◌, ◌≤◌, ◌+◌, ◌*◌, ◌^◌, ◌%◌, ◌∙◌, ℕ, Bool, true, false, cond, List, [], ◌∷◌, ◌++◌, length, map, Option, refl, sym, ap, subst, arith, zero, suc}
use Rattle.std.proofs.lemmas.List.{length-map, length-append}
use Rattle.std.proofs.lemmas.List.Elements.{All-cons, All-nil}
use Rattle.std.proofs.lemmas.List.FromFn.{length-map-range_with_len}
use Rattle.std.proofs.lemmas.Fmt.{length-decimal-le_succ}
use Rattle.std.specs.Prelude.{if◌then◌else◌, All, codes}
use Rattle.std.specs.Fmt.{decimal}
use Rattle.std.specs.List.{AllByRecursion}
use Rattle.std.specs.declared.vec.Vec.{Vec}
use Rattle.std.specs.declared.alloc.Global.{Global}
use Rattle.rv_words.specs.Uses.{Word}
use Rattle.rv_words.specs.Said.{is_relation_word, scripts_in}
use Rattle.rv_io.specs.Outside.{Files}
use Rattle.rv_generate.specs.Generator.{generated, script_text, rows_text, row_of, row_text, closure_text, counts_text, draw, value_of, after}
use Rattle.lang_model.specs.Limits.{script_limit}
use Rattle.rv_ends.specs.Given.{limit_of, relation_limit, AreTaken}

-- ---- scripts that were read
-- a script in a vector, within the limit
abbrev pub IsShort : Vec ℕ Global → Type 0
IsShort v = length v.items ≤ 2 ^ 20

limit_of_script : (word : Word) → is_relation_word word ≡ false → limit_of word ≡ script_limit
unfolding limit_of
limit_of_script word e = ap (λ b. cond b relation_limit script_limit) e

-- files of scripts are within the limit
pub taken_short : (files : Option Files) (words : List Word) (vs : List (Vec ℕ Global)) → AreTaken files (scripts_in words) (map (λ v. v.items) vs) → All IsShort vs
taken_short files [] [] h = All-nil IsShort
taken_short files [] (v ∷ vs) h = absurd h
taken_short files (word ∷ words) vs h = by_kind (λ us. taken_short files words us) (is_relation_word word) refl vs h
  where
    by_kind : ((us : List (Vec ℕ Global)) → AreTaken files (scripts_in words) (map (λ v. v.items) us) → All IsShort us) → (b : Bool) → is_relation_word word ≡ b → (us : List (Vec ℕ Global)) → AreTaken files (if b then scripts_in words else word ∷ scripts_in words) (map (λ v. v.items) us) → All IsShort us
    by_kind h true e us k = h us k
    by_kind h false e [] k = absurd k
    by_kind h false e (u ∷ us) k =
        let within = subst (λ m. length u.items ≤ m) (limit_of_script word e) k.0.1 in
        All-cons IsShort u us (omega (arith, within)) (h us k.1)

-- as many files as words
pub taken-length : (files : Option Files) (words : List Word) (bs : List (List ℕ)) → AreTaken files words bs → length bs ≡ length words
taken-length files [] [] h = refl
taken-length files (word ∷ words) (b ∷ bs) h = ap suc (taken-length files words bs h.1)
taken-length files [] (b ∷ bs) h = absurd h
taken-length files (word ∷ words) [] h = absurd h

-- ---- scripts that are generated
-- a drawn number
drawn_short : (x : ℕ) → value_of x ≤ 64
drawn_short x = omega arith

-- a piece of so many bytes behind others
more_of : (xs ys : List ℕ) (a n : ℕ) → length xs ≤ a → length ys ≡ n → length (xs ++ ys) ≤ a + n
more_of xs ys a n h e = omega (arith, length-append xs ys, h, e)

-- a piece of at most so many behind others
more_upto : (xs ys : List ℕ) (a b : ℕ) → length xs ≤ a → length ys ≤ b → length (xs ++ ys) ≤ a + b
more_upto xs ys a b h k = omega (arith, length-append xs ys, h, k)

-- the digits of the number of a script behind others
more_digits : (xs : List ℕ) (a s : ℕ) → length xs ≤ a → s ≤ 8 → length (xs ++ decimal s) ≤ a + 9
more_digits xs a s h k = omega (arith, length-append xs (decimal s), length-decimal-le_succ s (omega arith), h, k)

exact : (xs : List ℕ) (n : ℕ) → length xs ≡ n → length xs ≤ n
exact xs n e = omega (arith, e)

-- a row of a graph
row_short : (row a b : ℕ) → row ≤ 64 → a ≤ 64 → b ≤ 64 → length (row_text row a b) ≤ 197
unfolding row_text
row_short row a b hr ha hb =
    let first : length (decimal row) ≤ 65 = omega (arith, length-decimal-le_succ row (omega arith)) in
    let second : length (decimal a) ≤ 65 = omega (arith, length-decimal-le_succ a (omega arith)) in
    let third : length (decimal b) ≤ 65 = omega (arith, length-decimal-le_succ b (omega arith)) in
    let c : List ℕ = decimal row ++ codes ":" in
    let d : List ℕ = c ++ decimal a in
    let e : List ℕ = d ++ codes "," in
    more_upto e (decimal b) 132 65 (more_of d (codes ",") 131 1 (more_upto c (decimal a) 66 65 (more_of (decimal row) (codes ":") 65 1 first refl) second) refl) third

one_row_short : (x i : ℕ) → i ≤ 63 → length (row_of x i) ≤ 197
unfolding row_of
one_row_short x i h = row_short (i + 1) (draw x (2 * i)) (draw x (2 * i + 1)) (omega arith) (drawn_short (after x (2 * i + 1))) (drawn_short (after x (2 * i + 1 + 1)))

-- one row more
row_more : (rows row : List ℕ) (n : ℕ) → length rows ≤ 200 * (n + 1) → length row ≤ 197 → length (rows ++ codes "; " ++ row) ≤ 200 * (suc n + 1)
row_more rows row n h k =
    let all = more_upto (rows ++ codes "; ") row (200 * (n + 1) + 2) 197 (more_of rows (codes "; ") (200 * (n + 1)) 2 h refl) k in
    omega (arith, all)

-- the rows of a graph
rows_short : (x n : ℕ) → n ≤ 63 → length (rows_text x n) ≤ 200 * (n + 1)
unfolding rows_text
rows_short x zero h = let one = one_row_short x zero h in omega (arith, one)
rows_short x (suc n) h = row_more (rows_text x n) (row_of x (suc n)) n (rows_short x n (omega arith)) (one_row_short x (suc n) h)

closure_short : (s : ℕ) → s ≤ 8 → length (closure_text s) ≤ 54
unfolding closure_text
closure_short s h =
    let a : List ℕ = codes " LET C" in
    let b : List ℕ = a ++ decimal s in
    let c : List ℕ = b ++ codes " = trans(G" in
    let d : List ℕ = c ++ decimal s in
    let e : List ℕ = d ++ codes "). COUNT C" in
    let f : List ℕ = e ++ decimal s in
    more_of f (codes ".") 53 1 (more_digits e 44 s (more_of d (codes "). COUNT C") 34 10 (more_digits c 25 s (more_of b (codes " = trans(G") 15 10 (more_digits a 6 s (exact a 6 refl) h) refl) h) refl) h) refl

-- the text of the other two counts is short: so are its words, and each of its four numbers adds at most 9 bytes
counts_short : (s : ℕ) → s ≤ 8 → length (counts_text s) ≤ 66
unfolding counts_text
counts_short s h =
    let a : List ℕ = codes " COUNT C" in
    let b : List ℕ = a ++ decimal s in
    let c : List ℕ = b ++ codes " & C" in
    let d : List ℕ = c ++ decimal s in
    let e : List ℕ = d ++ codes "^. COUNT syq(C" in
    let f : List ℕ = e ++ decimal s in
    let g : List ℕ = f ++ codes ",C" in
    let i : List ℕ = g ++ decimal s in
    more_of i (codes ").") 64 2 (more_digits g 55 s (more_of f (codes ",C") 53 2 (more_digits e 44 s (more_of d (codes "^. COUNT syq(C") 30 14 (more_digits c 21 s
    (more_of b (codes " & C") 17 4 (more_digits a 8 s (exact a 8 refl) h) refl) h) refl) h) refl) h) refl

-- a whole script
script_bound : (x s : ℕ) → s ≤ 8 → length (script_text x s) ≤ 12945
unfolding script_text
script_bound x s h =
    let rows : length (rows_text x 63) ≤ 12800 = omega (arith, rows_short x 63 (omega arith)) in
    let a : List ℕ = codes "REL G" in
    let b : List ℕ = a ++ decimal s in
    let c : List ℕ = b ++ codes " 64 64 {" in
    let d : List ℕ = c ++ rows_text x 63 in
    let e : List ℕ = d ++ codes "}." in
    let f : List ℕ = e ++ closure_text s in
    let g : List ℕ = f ++ counts_text s in
    more_of g (10 ∷ []) 12944 1 (more_upto f (counts_text s) 12878 66 (more_upto e (closure_text s) 12824 54 (more_of d (codes "}.") 12822 2 (more_upto c (rows_text x 63) 22 12800
    (more_of b (codes " 64 64 {") 14 8 (more_digits a 5 s (exact a 5 refl) h) refl) rows) refl) (closure_short s h)) (counts_short s h)) refl

script_short : (x s : ℕ) → s ≤ 8 → length (script_text x s) ≤ 2 ^ 20
script_short x s h = omega (arith, script_bound x s h)

-- of texts within the limit the vectors are
vectors_short : (vs : List (Vec ℕ Global)) (texts : List (List ℕ)) → map (λ v. v.items) vs ≡ texts → AllByRecursion (λ t. length t ≤ 2 ^ 20) texts → All IsShort vs
vectors_short vs texts e h = go vs (subst (AllByRecursion (λ t. length t ≤ 2 ^ 20)) (sym e) h)
  where
    go : (us : List (Vec ℕ Global)) → AllByRecursion (λ t. length t ≤ 2 ^ 20) (map (λ v. v.items) us) → All IsShort us
    go [] k = All-nil IsShort
    go (u ∷ us) k = All-cons IsShort u us k.0 (go us k.1)

-- the eight scripts of a number
generated_short : (number : ℕ) → AllByRecursion (λ t. length t ≤ 2 ^ 20) (generated number)
unfolding generated
generated_short number =
    let x = number % 2 ^ 32 in (
      script_short (after x 0) 1 (omega arith),
      (
        script_short (after x 128) 2 (omega arith),
        (
          script_short (after x 256) 3 (omega arith),
          (
            script_short (after x 384) 4 (omega arith),
            (script_short (after x 512) 5 (omega arith), (script_short (after x 640) 6 (omega arith), (script_short (after x 768) 7 (omega arith), (script_short (after x 896) 8 (omega arith), tt)))),
          ),
        ),
      ),
    )

pub made_short : (vs : List (Vec ℕ Global)) (number : ℕ) → map (λ v. v.items) vs ≡ generated number → All IsShort vs
made_short vs number e = vectors_short vs (generated number) e (generated_short number)

-- they are eight
pub eight : (vs : List (Vec ℕ Global)) (number : ℕ) → map (λ v. v.items) vs ≡ generated number → length vs ≡ 8
unfolding generated
eight vs number e = sym (length-map vs (λ v. v.items)) ∙ ap length e ∙ length-map-range_with_len (λ k. script_text (after (number % 2 ^ 32) (128 * k)) (k + 1)) 0 8
