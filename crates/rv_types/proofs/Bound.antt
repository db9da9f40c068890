-- Names that are bound to the types of arguments, and that get one by their first assignment.
use Rattle.std.proofs.Common.{◌≡◌, ◌<◌, ◌+◌, ◌++◌, ◌∙◌, ℕ, suc, Bool, true, false, cond, List, [], ◌∷◌, length, take, get_or, Option, Some, None, refl, sym, ap, arith}
use Rattle.std.specs.Cmp.Lexicographic.{same_text as text_of_test}
use Rattle.std.proofs.lemmas.List.{take_more, length-take-le}
use Rattle.lang_model.specs.declared.syntax.Place.{Place}
use Rattle.lang_model.specs.declared.faults.StaticShape.{StaticShape}
use Rattle.lang_model.specs.Tokens.{same_text}
use Rattle.lang_model.specs.Types.{Fits}
use Rattle.lang_model.specs.Shape.{no_types, typed_as, types_bound, set_type}
use Rattle.rv_types.specs.Shaping.{types_of, beside}

text_same : (a b : List ℕ) → same_text a b ≡ true → a ≡ b
text_same a b h = text_of_test a b (sym h)

clash : {s : StaticShape} → Some s ≡ None → ⊥
clash e = cc

-- a pair in front that is not of the name
apart : (x name n : List ℕ) (s t : StaticShape) (o p q : Option StaticShape) → cond (same_text x name) (Some t) q ≡ None → (q ≡ None → o ≡ cond (same_text name n) (Some s) p) →
    cond (same_text x n) (Some t) o ≡ cond (same_text name n) (Some s) (cond (same_text x n) (Some t) p)
apart x name n s t o p q = at (same_text x name) (same_text x n) (same_text name n) refl refl refl
  where
    at : (b c d : Bool) → same_text x name ≡ b → same_text x n ≡ c → same_text name n ≡ d → cond b (Some t) q ≡ None → (q ≡ None → o ≡ cond d (Some s) p) → cond c (Some t) o ≡ cond d (Some s) (cond c (Some t) p)
    at true c d i j k e f = absurd (clash e)
    at false false d i j k e f = f e
    at false true false i j k e f = refl
    at false true true i j k e f = absurd (let same : name ≡ n = text_same name n k in let z : true ≡ false = sym j ∙ ap (same_text x) (sym same) ∙ i in cc)

-- a name that none had stands behind all others
types_of-push : (ns : List (List ℕ × StaticShape)) (name n : List ℕ) (s : StaticShape) → types_of ns name ≡ None → types_of (ns ++ (name, s) ∷ []) n ≡ cond (same_text name n) (Some s) (types_of ns n)
types_of-push [] name n s h = refl
types_of-push (x ∷ xs) name n s h = apart x.0 name n s x.1 (types_of (xs ++ (name, s) ∷ []) n) (types_of xs n) (types_of xs name) h (λ k. types_of-push xs name n s k)

-- the first assignment of a name gives it its type
pub first_assigned : (ns : List (List ℕ × StaticShape)) (at : Place) (name : List ℕ) (s : StaticShape) → types_of ns name ≡ None →
    set_type at name s (types_of ns) (types_of ns name) ≡ Fits (types_of (ns ++ (name, s) ∷ []))
unfolding typed_as
first_assigned ns at name s e = ap (set_type at name s (types_of ns)) e ∙ ap Fits (λ i n. sym (types_of-push ns name n s e) i)

-- one more parameter with the type of its argument
beside-more : (ps : List (List ℕ)) (ss : List StaticShape) (p : List ℕ) (s : StaticShape) → length ps ≡ length ss → beside (ps ++ p ∷ []) (ss ++ s ∷ []) ≡ beside ps ss ++ (p, s) ∷ []
beside-more [] [] p s h = refl
beside-more [] (t ∷ ts) p s h = absurd (let e : 0 ≡ suc (length ts) = h in omega (arith, e))
beside-more (q ∷ qs) [] p s h = absurd (let e : suc (length qs) ≡ 0 = h in omega (arith, e))
beside-more (q ∷ qs) (t ∷ ts) p s h = let e : suc (length qs) ≡ suc (length ts) = h in ap (λ xs. (q, t) ∷ xs) (beside-more qs ts p s (omega (arith, e)))

pub beside-step : (ps : List (List ℕ)) (ss : List StaticShape) (i : ℕ) (p : List ℕ) (d : StaticShape) → i < length ps → length ps ≡ length ss → p ≡ get_or ps i p →
    beside (take (i + 1) ps) (take (i + 1) ss) ≡ beside (take i ps) (take i ss) ++ (p, get_or ss i d) ∷ []
beside-step ps ss i p d h e is =
    let k : i < length ss = omega (arith, h, e) in
    ap (λ xs. beside xs (take (i + 1) ss)) (take_more ps i p h) ∙ ap (beside (take i ps ++ get_or ps i p ∷ [])) (take_more ss i d k)
    ∙ beside-more (take i ps) (take i ss) (get_or ps i p) (get_or ss i d) (length-take-le i ps (omega (arith, h)) ∙ sym (length-take-le i ss (omega (arith, k))))
    ∙ ap (λ x. beside (take i ps) (take i ss) ++ (x, get_or ss i d) ∷ []) (sym is)

-- what parameters beside types give is what the definition binds
pub types_of-beside : (ps : List (List ℕ)) (ss : List StaticShape) → types_of (beside ps ss) ≡ types_bound ps ss
unfolding no_types typed_as
types_of-beside [] ss = refl
types_of-beside (p ∷ ps) [] = refl
types_of-beside (p ∷ ps) (s ∷ ss) = λ i n. cond (same_text p n) (Some s) (types_of-beside ps ss i n)
