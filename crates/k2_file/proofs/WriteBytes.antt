-- The bytes of a file by its sizes, its height and its two parts.
use Rattle.std.proofs.Common.{◌≡◌, ◌<◌, ◌+◌, ◌∙◌, zero, suc, ℕ, Bool, List, [], ◌∷◌, ◌++◌, length, get_or, drop, arith, refl, sym, ap, subst, append_assoc, Result}
use Rattle.std.specs.Prelude.{OnOk}
use Rattle.rel_model.specs.Relation.{Relation}
use Rattle.run_model.specs.Files.{file_height, tree_part, cell_part, packed, k2}
use Rattle.k2_file.specs.Writing.{header_bytes, file_bytes}

k2-bytes : (r : Relation) → file_bytes r.rows r.cols (file_height r.rows r.cols) (tree_part r) (cell_part r) ≡ k2 r
unfolding k2
k2-bytes r = refl

pub file-bytes : (r : Relation) (rows cols h : ℕ) (tree cells : List Bool) → r.rows ≡ rows → r.cols ≡ cols → h ≡ file_height r.rows r.cols → tree ≡ tree_part r → cells ≡ cell_part r
    → file_bytes rows cols h tree cells ≡ k2 r
file-bytes r rows cols h tree cells a b e p q =
    ap (λ (n : ℕ). file_bytes n cols h tree cells) (sym a)
    ∙ ap (λ (n : ℕ). file_bytes r.rows n h tree cells) (sym b)
    ∙ ap (λ (n : ℕ). file_bytes r.rows r.cols n tree cells) e
    ∙ ap (λ bs. file_bytes r.rows r.cols (file_height r.rows r.cols) bs cells) p
    ∙ ap (λ bs. file_bytes r.rows r.cols (file_height r.rows r.cols) (tree_part r) bs) q
    ∙ k2-bytes r

-- ---- one behind another
-- the last of two parts, where it is added
pub two-added : {T E : Type 0} (r : Result T E) (old now new a b : List ℕ) → now ≡ old ++ a → OnOk r (new ≡ now ++ b) → OnOk r (new ≡ old ++ (a ++ b))
two-added r old now new a b p h = subst (λ zs. OnOk r (new ≡ zs)) (ap (λ zs. zs ++ b) p ∙ append_assoc old a b) h

-- the last part of a header
pub header-added : {T E : Type 0} (r : Result T E) (old n1 n2 n3 n4 new a b c e : List ℕ) (d : ℕ) → n1 ≡ old ++ a → n2 ≡ n1 ++ b → n3 ≡ n2 ++ c → n4 ≡ n3 ++ d ∷ [] → OnOk r (new ≡ n4 ++ e)
    → OnOk r (new ≡ old ++ (a ++ (b ++ (c ++ (d ∷ e)))))
header-added r old n1 n2 n3 n4 new a b c e d p q s t h =
    subst (λ zs. OnOk r (new ≡ zs))
    (ap (λ zs. zs ++ e) (t ∙ ap (λ zs. zs ++ d ∷ []) (s ∙ ap (λ zs. zs ++ c) (q ∙ ap (λ zs. zs ++ b) p)))
    ∙ append_assoc (((old ++ a) ++ b) ++ c) (d ∷ []) e ∙ append_assoc ((old ++ a) ++ b) c (d ∷ e) ∙ append_assoc (old ++ a) b (c ++ (d ∷ e)) ∙ append_assoc old a (b ++ (c ++ (d ∷ e)))) h

-- a header and both parts
pub parts-added : (n0 n1 n2 n3 : List ℕ) (rows cols h a b : ℕ) (s t tree cells : List Bool) → n0 ≡ [] → n1 ≡ n0 ++ header_bytes rows cols h a b → n2 ≡ n1 ++ packed 0 0 s → n3 ≡ n2 ++ packed 0 0 t
    → s ≡ tree → t ≡ cells → a ≡ length tree → b ≡ length cells → n3 ≡ file_bytes rows cols h tree cells
parts-added n0 n1 n2 n3 rows cols h a b s t tree cells e p q r x y i j =
    r ∙ ap (λ zs. zs ++ packed 0 0 t) (q ∙ ap (λ zs. zs ++ packed 0 0 s) (p ∙ ap (λ zs. zs ++ header_bytes rows cols h a b) e))
    ∙ ap (λ (n : ℕ). header_bytes rows cols h n b ++ packed 0 0 s ++ packed 0 0 t) i
    ∙ ap (λ (n : ℕ). header_bytes rows cols h (length tree) n ++ packed 0 0 s ++ packed 0 0 t) j
    ∙ ap (λ bs. header_bytes rows cols h (length tree) (length cells) ++ packed 0 0 bs ++ packed 0 0 t) x
    ∙ ap (λ bs. header_bytes rows cols h (length tree) (length cells) ++ packed 0 0 tree ++ packed 0 0 bs) y

-- ---- bits as bytes
-- one bit more is packed
pub packed-more : (old now new : List ℕ) (v h w k : ℕ) (bits : List Bool) (i : ℕ) (d : Bool) → i < length bits → ((rest : List Bool) → new ++ packed w k rest ≡ now ++ packed v h (get_or bits i d ∷ rest))
    → now ++ packed v h (drop i bits) ≡ old → new ++ packed w k (drop (i + 1) bits) ≡ old
packed-more old now new v h w k bits i d l p e =
    let more : i + 1 ≡ suc i = omega arith in
    p (drop (i + 1) bits) ∙ ap (λ (n : ℕ). now ++ packed v h (get_or bits i d ∷ drop n bits)) more ∙ ap (λ bs. now ++ packed v h bs) (next bits i l) ∙ e
  where
    next : (bs : List Bool) (n : ℕ) → n < length bs → get_or bs n d ∷ drop (suc n) bs ≡ drop n bs
    next [] n a = absurd (omega (arith, a))
    next (b ∷ bs) zero a = refl
    next (b ∷ bs) (suc n) a = next bs n (omega (arith, a))
