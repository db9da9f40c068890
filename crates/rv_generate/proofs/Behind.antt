-- Texts that were added one behind another.
use Rattle.std.proofs.Common.{◌≡◌, ◌∙◌, ℕ, List, ◌++◌, ap, append_assoc}

-- the first two parts
pub begun : (old now a b : List ℕ) → now ≡ old ++ a ++ b → now ≡ old ++ (a ++ b)
begun old now a b e = e ∙ append_assoc old a b

-- one part more
pub then_one : (old before now a b : List ℕ) → before ≡ old ++ a → now ≡ before ++ b → now ≡ old ++ (a ++ b)
then_one old before now a b h e = e ∙ ap (λ zs. zs ++ b) h ∙ append_assoc old a b

-- two parts more
pub then_two : (old before now a b c : List ℕ) → before ≡ old ++ a → now ≡ before ++ b ++ c → now ≡ old ++ (a ++ b ++ c)
then_two old before now a b c h e = then_one old (before ++ b) now (a ++ b) c (ap (λ zs. zs ++ b) h ∙ append_assoc old a b) e
