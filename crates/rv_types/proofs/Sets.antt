-- Sets of names: what a set's keys say of the names in it.
use Rattle.std.proofs.Common.{◌≡◌, ◌<◌, ◌+◌, ◌||◌, ◌&&◌, ◌∙◌, ℕ, Bool, true, false, cond, List, [], ◌∷◌, length, take, get_or, map, nat_eq, Bor, refl, sym, ap}
use Rattle.std.proofs.lemmas.List.{take_more, map-append}
use Rattle.std.proofs.lemmas.List.Folds.{list_any-append}
use Rattle.std.specs.List.{list_any}
use Rattle.std.specs.Cmp.Lexicographic.{pointwise, nat_list_eq_equiv, same_text as text_of_test}
use Rattle.lang_model.specs.Tokens.{same_text}
use Rattle.lang_model.specs.Checking.{among}

-- the texts of keys
abbrev pub texts : List (Bor (List ℕ)) → List (List ℕ)
texts = map (λ k. k.now)

-- a key is found exactly where its text is among the texts
pub among-texts : (ks : List (Bor (List ℕ))) (n : List ℕ) → list_any (λ k. pointwise nat_eq n k.now) ks ≡ among (texts ks) n
among-texts [] n = refl
among-texts (k ∷ ks) n = λ i. nat_list_eq_equiv.symm n k.now i || among-texts ks n i

pub or-cond : (b c : Bool) → cond b true c ≡ (b || c)
or-cond true c = refl
or-cond false c = refl

-- one more key
pub among-took : (ks : List (Bor (List ℕ))) (k : ℕ) (d : Bor (List ℕ)) (n : List ℕ) → k < length ks → among (texts (take (k + 1) ks)) n ≡ (same_text (get_or ks k d).now n || among (texts (take k ks)) n)
among-took ks k d n h =
    let x = (get_or ks k d).now in
    ap (λ xs. among (texts xs) n) (take_more ks k d h) ∙ ap (λ xs. among xs n) (map-append (λ k. k.now) (take k ks) (get_or ks k d ∷ []))
    ∙ list_any-append (λ t. same_text t n) (texts (take k ks)) (x ∷ []) ∙ turned (among (texts (take k ks)) n) (same_text x n)
  where
    turned : (a b : Bool) → (a || (b || false)) ≡ (b || a)
    turned true true = refl
    turned true false = refl
    turned false true = refl
    turned false false = refl

-- a name that both sets have
pub shared-has : (x n : List ℕ) (B : List (List ℕ)) (a t o : Bool) → true ≡ among B x → o ≡ (a || (t && among B n)) → (same_text x n || o) ≡ (a || ((same_text x n || t) && among B n))
shared-has x n B a t o has e = by (same_text x n) refl
  where
    all : (b : Bool) → true ≡ b → true ≡ (a || b)
    all b h = elim a as (λ v. true ≡ (v || b)) [ true ↦ refl | false ↦ h ]

    by : (s : Bool) → s ≡ same_text x n → (s || o) ≡ (a || ((s || t) && among B n))
    by true s = all (among B n) (has ∙ ap (among B) (text_of_test x n s))
    by false s = e

-- a name that the second lacks
pub shared-lacks : (x n : List ℕ) (B : List (List ℕ)) (a t o : Bool) → false ≡ among B x → o ≡ (a || (t && among B n)) → o ≡ (a || ((same_text x n || t) && among B n))
shared-lacks x n B a t o lacks e = by (same_text x n) refl
  where
    by : (s : Bool) → s ≡ same_text x n → o ≡ (a || ((s || t) && among B n))
    by true s =
        let f : among B n ≡ false = sym (lacks ∙ ap (among B) (text_of_test x n s)) in
        e ∙ ap (λ b. a || (t && b)) f ∙ none t ∙ ap (λ b. a || b) (sym f)
      where
        none : (b : Bool) → (a || (b && false)) ≡ (a || false)
        none true = refl
        none false = refl
    by false s = e
