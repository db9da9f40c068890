-- One row more, and one script more.
use Rattle.std.proofs.Common.{◌≡◌, ◌≤◌, ◌+◌, ◌*◌, ◌-◌, ℕ, zero, suc, List, [], ◌∷◌, ◌++◌, codes, refl, sym, ap, ◌∙◌, arith, add-one}
use Rattle.std.specs.declared.vec.Vec.{Vec}
use Rattle.std.specs.declared.alloc.Global.{Global}
use Rattle.std.proofs.lemmas.List.FromFn.{map-range_with_len_more}
use Rattle.rv_generate.specs.Generator.{step, value_of, after, row_text, row_of, rows_text, script_text, scripts_from, texts_of}

-- ---- states
pub after-none : (x : ℕ) → after x 0 ≡ x
unfolding after
after-none x = refl

after-more : (x k : ℕ) → after x (k + 1) ≡ step (after x k)
unfolding after
after-more x k = ap (after x) (add-one k)

-- two draws more
pub after-two : (x i s t : ℕ) → s ≡ after x (2 * i) → t ≡ step (step s) → t ≡ after x (2 * (i + 1))
after-two x i s t h e =
    let twice : 2 * (i + 1) ≡ 2 * i + 1 + 1 = omega arith in
    e ∙ ap (λ y. step (step y)) h ∙ sym (ap (after x) twice ∙ after-more x (2 * i + 1) ∙ ap step (after-more x (2 * i)))

-- draws that go on
pub after-after : (x a b : ℕ) → after (after x a) b ≡ after x (a + b)
unfolding after
after-after x a zero =
    let same : a ≡ a + zero = omega arith in
    ap (after x) same
after-after x a (suc b) =
    let more : a + suc b ≡ suc (a + b) = omega arith in
    ap step (after-after x a b) ∙ sym (ap (after x) more)

-- ---- rows
-- the two draws of a row
row-drawn : (x i s : ℕ) → s ≡ after x (2 * i) → row_text (i + 1) (value_of (step s)) (value_of (step (step s))) ≡ row_of x i
unfolding row_of
row-drawn x i s h =
    let one : step s ≡ after x (2 * i + 1) = ap step h ∙ sym (after-more x (2 * i)) in
    let two : step (step s) ≡ after x (2 * i + 1 + 1) = ap step one ∙ sym (after-more x (2 * i + 1)) in
    ap (λ y. row_text (i + 1) (value_of y) (value_of (step (step s)))) one ∙ ap (λ y. row_text (i + 1) (value_of (after x (2 * i + 1))) (value_of y)) two

-- the first row
pub rows-first : (x : ℕ) → row_text 1 (value_of (step x)) (value_of (step (step x))) ≡ rows_text x 0
unfolding rows_text
rows-first x = row-drawn x 0 x (sym (after-none x))

rows-next : (x n : ℕ) → rows_text x (suc n) ≡ rows_text x n ++ codes "; " ++ row_of x (suc n)
unfolding rows_text
rows-next x n = refl

-- one row more
pub rows-more : (x i s : ℕ) → 1 ≤ i → s ≡ after x (2 * i) → rows_text x (i - 1) ++ codes "; " ++ row_text (i + 1) (value_of (step s)) (value_of (step (step s))) ≡ rows_text x (i + 1 - 1)
rows-more x zero s l h = absurd (omega arith)
rows-more x (suc n) s l h =
    let before : suc n - 1 ≡ n = omega arith in
    let now : suc n ≡ suc n + 1 - 1 = omega arith in
    ap (λ k. rows_text x k ++ codes "; " ++ row_text (suc n + 1) (value_of (step s)) (value_of (step (step s)))) before
    ∙ ap (λ zs. rows_text x n ++ codes "; " ++ zs) (row-drawn x (suc n) s h)
    ∙ sym (rows-next x n) ∙ ap (rows_text x) now

-- ---- scripts
texts-push : (vs : List (Vec ℕ Global)) (v : Vec ℕ Global) → texts_of (vs ++ v ∷ []) ≡ texts_of vs ++ v.items ∷ []
texts-push [] v = refl
texts-push (x ∷ xs) v = ap (λ ts. x.items ∷ ts) (texts-push xs v)

-- one script more
pub scripts-more : (x n s : ℕ) (vs now : List (Vec ℕ Global)) (v : Vec ℕ Global) → texts_of vs ≡ scripts_from x n → s ≡ after x (128 * n) → now ≡ vs ++ v ∷ [] → v.items ≡ script_text s (n + 1) → texts_of now ≡ scripts_from x (n + 1)
scripts-more x n s vs now v h d e t =
    let start : 0 + n ≡ n = omega arith in
    ap texts_of e ∙ texts-push vs v ∙ ap (λ ts. ts ++ v.items ∷ []) h
    ∙ ap (λ zs. scripts_from x n ++ zs ∷ []) (t ∙ ap (λ y. script_text y (n + 1)) d)
    ∙ sym (map-range_with_len_more (λ k. script_text (after x (128 * k)) (k + 1)) 0 n n start)

-- the draws of one script more
pub draws-more : (x n s t : ℕ) → s ≡ after x (128 * n) → t ≡ after s 128 → t ≡ after x (128 * (n + 1))
draws-more x n s t h e =
    let more : 128 * n + 128 ≡ 128 * (n + 1) = omega arith in
    e ∙ ap (λ y. after y 128) h ∙ after-after x (128 * n) 128 ∙ ap (after x) more
