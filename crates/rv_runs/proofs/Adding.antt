-- Texts that are added for the elements of a list, one after another.
use Rattle.std.proofs.Common.{◌≡◌, ◌<◌, ◌+◌, ◌++◌, ◌∙◌, ℕ, suc, List, [], ◌∷◌, length, take, get_or, sym, ap, append_assoc, arith}
use Rattle.std.specs.List.{flat_map}
use Rattle.std.proofs.Math.Seq.{take-suc}
use Rattle.std.proofs.lemmas.List.{append-nil}
use Rattle.std.proofs.lemmas.List.Concat.{flat_map-append}

-- the text of one element more
pub adds_more : {X : Type 0} (f : X → List ℕ) (xs : List X) (i : ℕ) (x d : X) (old now new : List ℕ) → i < length xs → x ≡ get_or xs i d
    → now ≡ old ++ flat_map f (take i xs) → new ≡ now ++ f x → new ≡ old ++ flat_map f (take (i + 1) xs)
adds_more f xs i x d old now new l e so more =
    let next : i + 1 ≡ suc i = omega arith in
    more ∙ ap (λ zs. zs ++ f x) so ∙ append_assoc old (flat_map f (take i xs)) (f x)
    ∙ ap (λ zs. old ++ zs) (
    ap (λ zs. flat_map f (take i xs) ++ zs) (ap f e ∙ sym (append-nil (f (get_or xs i d)))) ∙ sym (flat_map-append f (take i xs) (get_or xs i d ∷ []))
    ∙ ap (flat_map f) (sym (take-suc xs i d l)) ∙ ap (λ n. flat_map f (take n xs)) (sym next)
    )
