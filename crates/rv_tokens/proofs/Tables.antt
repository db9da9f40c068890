-- Looking a text up in one table behind another.
use Rattle.std.proofs.Common.{◌≡◌, ℕ, Bool, true, false, cond, List, [], ◌∷◌, ◌++◌, Some, None, refl, arith}
use Rattle.lang_model.specs.declared.token.Kind.{Kind}
use Rattle.lang_model.specs.Tokens.{same_text, found_in}

-- what the first table has is found there
pub found_in-front : (text : List ℕ) (xs ys : List (List ℕ × Kind)) (k : Kind) → found_in text xs ≡ Some k → found_in text (xs ++ ys) ≡ Some k
found_in-front text [] ys k h = grind (arith, h)
found_in-front text (x ∷ xs) ys k h = by (same_text x.0 text) (found_in-front text xs ys k) h
  where
    by : (v : Bool) → (found_in text xs ≡ Some k → found_in text (xs ++ ys) ≡ Some k) → cond v (Some x.1) (found_in text xs) ≡ Some k → cond v (Some x.1) (found_in text (xs ++ ys)) ≡ Some k
    by true more e = e
    by false more e = more e

-- what it has not is looked up in the second
pub found_in-behind : (text : List ℕ) (xs ys : List (List ℕ × Kind)) → None ≡ found_in text xs → found_in text ys ≡ found_in text (xs ++ ys)
found_in-behind text [] ys h = refl
found_in-behind text (x ∷ xs) ys h = by (same_text x.0 text) (found_in-behind text xs ys) h
  where
    by : (v : Bool) → (None ≡ found_in text xs → found_in text ys ≡ found_in text (xs ++ ys)) → None ≡ cond v (Some x.1) (found_in text xs) → found_in text ys ≡ cond v (Some x.1) (found_in text (xs ++ ys))
    by true more e = grind (arith, e)
    by false more e = more e
