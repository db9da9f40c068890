-- Texts that are added one behind another.
use Rattle.std.proofs.Common.{◌≡◌, ◌∙◌, ℕ, List, ◌++◌, ap, sym, subst, append_assoc, Result, Ok, Err}
use Rattle.std.specs.Prelude.{OnOk, if◌then◌else◌}
use Rattle.std.specs.Result.{is_ok}
use Rattle.std.specs.Fmt.{decimal}

-- a part more
pub part_more : (old a b now new : List ℕ) → new ≡ now ++ b → now ≡ old ++ a → new ≡ old ++ (a ++ b)
part_more old a b now new h k = h ∙ ap (λ z. z ++ b) k ∙ append_assoc old a b

-- a text and a number more
pub numbered_more : (old a text now new : List ℕ) (n : ℕ) → new ≡ now ++ (text ++ decimal n) → now ≡ old ++ a → new ≡ old ++ ((a ++ text) ++ decimal n)
numbered_more old a text now new n h k = part_more old a (text ++ decimal n) now new h k ∙ ap (λ z. old ++ z) (sym (append_assoc a text (decimal n)))

-- what a call adds where it succeeds
pub where_ok : {T E : Type 0} (r : Result T E) (new some none : List ℕ) → new ≡ (if is_ok r then some else none) → OnOk r (new ≡ some)
where_ok (Ok x) new some none h = h
where_ok (Err e) new some none h = tt

-- the same, said of a text that is equal
pub where_same : {T E : Type 0} (r : Result T E) (new some same : List ℕ) → some ≡ same → OnOk r (new ≡ some) → OnOk r (new ≡ same)
where_same r new some same e h = subst (λ zs. OnOk r (new ≡ zs)) e h

-- what a last call adds behind a part, where it succeeds
pub where_more : {T E : Type 0} (r : Result T E) (old a b now new : List ℕ) → OnOk r (new ≡ now ++ b) → now ≡ old ++ a → OnOk r (new ≡ old ++ (a ++ b))
where_more r old a b now new h k = where_same r new (now ++ b) (old ++ (a ++ b)) (ap (λ z. z ++ b) k ∙ append_assoc old a b) h

-- the same of a text with a number behind it, which may be said otherwise
pub where_numbered : {T E : Type 0} (r : Result T E) (old a text now new : List ℕ) (n m : ℕ) → n ≡ m → OnOk r (new ≡ now ++ (text ++ decimal n)) → now ≡ old ++ a → OnOk r (new ≡ old ++ ((a ++ text) ++ decimal m))
where_numbered r old a text now new n m e h k =
    where_same r new (now ++ (text ++ decimal n)) (old ++ ((a ++ text) ++ decimal m))
    (ap (λ (i : ℕ). now ++ (text ++ decimal i)) e ∙ ap (λ z. z ++ (text ++ decimal m)) k ∙ append_assoc old a (text ++ decimal m) ∙ ap (λ z. old ++ z) (sym (append_assoc a text (decimal m)))) h
