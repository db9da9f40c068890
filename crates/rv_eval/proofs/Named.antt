-- Names that are found, set and bound, one after another.
use Rattle.std.proofs.Common.{◌≡◌, ◌<◌, ◌+◌, ◌++◌, ◌∙◌, ℕ, zero, suc, Bool, true, false, cond, List, [], ◌∷◌, length, take, get_or, Option, Some, None, refl, sym, ap, arith}
use Rattle.std.specs.Cmp.Lexicographic.{same_text as text_of_test}
use Rattle.std.proofs.Math.ListN.{set}
use Rattle.std.proofs.lemmas.List.{take_more, length-take-le}
use Rattle.lang_model.specs.Tokens.{same_text}
use Rattle.rv_eval.specs.Names.{first_of, beside}

text_same : (a b : List ℕ) → same_text a b ≡ true → a ≡ b
text_same a b h = text_of_test a b (sym h)

clash : {X : Type 0} {v : X} → Some v ≡ None → ⊥
clash e = cc

-- a pair in front that is not of the name
apart : {X : Type 0} (x name n : List ℕ) (r v : X) (o p q : Option X) → cond (same_text x name) (Some v) q ≡ None → (q ≡ None → o ≡ cond (same_text name n) (Some r) p) → cond (same_text x n) (Some v) o ≡ cond (same_text name n) (Some r) (cond (same_text x n) (Some v) p)
apart x name n r v o p q = at (same_text x name) (same_text x n) (same_text name n) refl refl refl
  where
    at : (b c d : Bool) → same_text x name ≡ b → same_text x n ≡ c → same_text name n ≡ d → cond b (Some v) q ≡ None → (q ≡ None → o ≡ cond d (Some r) p) → cond c (Some v) o ≡ cond d (Some r) (cond c (Some v) p)
    at true c d i j k e f = absurd (clash e)
    at false false d i j k e f = f e
    at false true false i j k e f = refl
    at false true true i j k e f = absurd (let same : name ≡ n = text_same name n k in let z : true ≡ false = sym j ∙ ap (same_text x) (sym same) ∙ i in cc)

-- a name that none had stands behind all others
pub first_of-push : {X : Type 0} (ns : List (List ℕ × X)) (name n : List ℕ) (r : X) → first_of ns name ≡ None → first_of (ns ++ (name, r) ∷ []) n ≡ cond (same_text name n) (Some r) (first_of ns n)
first_of-push [] name n r h = refl
first_of-push (x ∷ xs) name n r h = apart x.0 name n r x.1 (first_of (xs ++ (name, r) ∷ []) n) (first_of xs n) (first_of xs name) h (λ k. first_of-push xs name n r k)

-- a name that the pairs before place i do not have
pub first_of-none : {X : Type 0} (ns : List (List ℕ × X)) (i : ℕ) (name : List ℕ) (d : List ℕ × X) → i < length ns → first_of (take i ns) name ≡ None → same_text (get_or ns i d).0 name ≡ false → first_of (take (i + 1) ns) name ≡ None
first_of-none {X = X} ns i name d h none differs = ap (λ xs. first_of xs name) (take_more ns i d h) ∙ at (take i ns) none
  where
    at : (xs : List (List ℕ × X)) → first_of xs name ≡ None → first_of (xs ++ get_or ns i d ∷ []) name ≡ None
    at [] e = ap (λ b. cond b (Some (get_or ns i d).1) None) differs
    at (x ∷ xs) e = behind (same_text x.0 name) e (at xs)
      where
        behind : (b : Bool) → cond b (Some x.1) (first_of xs name) ≡ None → (first_of xs name ≡ None → first_of (xs ++ get_or ns i d ∷ []) name ≡ None) → cond b (Some x.1) (first_of (xs ++ get_or ns i d ∷ []) name) ≡ None
        behind true e f = absurd (clash e)
        behind false e f = f e

-- the first pair of the name is changed
pub first_of-set : {X : Type 0} (ns : List (List ℕ × X)) (i : ℕ) (name n : List ℕ) (r : X) (d : List ℕ × X) → i < length ns → first_of (take i ns) name ≡ None → same_text (get_or ns i d).0 name ≡ true →
    first_of (set ns i ((get_or ns i d).0, r)) n ≡ cond (same_text name n) (Some r) (first_of ns n)
first_of-set [] i name n r d h none is = absurd (omega (arith, h))
first_of-set (x ∷ xs) zero name n r d h none is = let same : x.0 ≡ name = text_same x.0 name is in at (same_text x.0 n) (same_text name n) (ap (λ y. same_text y n) same)
  where
    at : (b c : Bool) → b ≡ c → cond b (Some r) (first_of xs n) ≡ cond c (Some r) (cond b (Some x.1) (first_of xs n))
    at true true e = refl
    at false false e = refl
    at true false e = absurd (let f : true ≡ false = e in cc)
    at false true e = absurd (let f : false ≡ true = e in cc)
first_of-set (x ∷ xs) (suc i) name n r d h none is =
    apart x.0 name n r x.1 (first_of (set xs i ((get_or xs i d).0, r)) n) (first_of xs n) (first_of (take i xs) name) none (λ k. first_of-set xs i name n r d (omega (arith, h)) k is)

-- one more parameter with its value
pub beside-more : {X : Type 0} (ps : List (List ℕ)) (vs : List X) (p : List ℕ) (v : X) → length ps ≡ length vs → beside (ps ++ p ∷ []) (vs ++ v ∷ []) ≡ beside ps vs ++ (p, v) ∷ []
beside-more [] [] p v h = refl
beside-more [] (v ∷ vs) p w h = absurd (let e : 0 ≡ suc (length vs) = h in omega (arith, e))
beside-more (p ∷ ps) [] q w h = absurd (let e : suc (length ps) ≡ 0 = h in omega (arith, e))
beside-more (p ∷ ps) (v ∷ vs) q w h = let e : suc (length ps) ≡ suc (length vs) = h in ap (λ xs. (p, v) ∷ xs) (beside-more ps vs q w (omega (arith, e)))

pub beside-step : {X : Type 0} (ps : List (List ℕ)) (vs : List X) (i : ℕ) (p : List ℕ) (d : X) → i < length ps → length ps ≡ length vs → p ≡ get_or ps i p → beside (take (i + 1) ps) (take (i + 1) vs) ≡ beside (take i ps) (take i vs) ++ (p, get_or vs i d) ∷ []
beside-step ps vs i p d h e is =
    let k : i < length vs = omega (arith, h, e) in
    ap (λ xs. beside xs (take (i + 1) vs)) (take_more ps i p h) ∙ ap (beside (take i ps ++ get_or ps i p ∷ [])) (take_more vs i d k)
    ∙ beside-more (take i ps) (take i vs) (get_or ps i p) (get_or vs i d) (length-take-le i ps (omega (arith, h)) ∙ sym (length-take-le i vs (omega (arith, k))))
    ∙ ap (λ x. beside (take i ps) (take i vs) ++ (x, get_or vs i d) ∷ []) (sym is)

-- what stands at a place does not depend on what is answered where none does
pub same_at : {X : Type 0} (xs : List X) (i : ℕ) (d e : X) → i < length xs → get_or xs i d ≡ get_or xs i e
same_at [] i d e h = absurd (omega (arith, h))
same_at (x ∷ xs) zero d e h = refl
same_at (x ∷ xs) (suc i) d e h = same_at xs i d e (omega (arith, h))
