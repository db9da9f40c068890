-- The injection of a domain into its sum with none is the identity.
use Rattle.std.proofs.Common.{◌≡◌, ◌+◌, ℕ, eqb, sym, ap, ◌∙◌, subst, arith}
use Rattle.std.proofs.lemmas.Bool.{eqb-true, eq-eqb}
use Rattle.rel_model.specs.declared.Rel.{Rel}
use Rattle.rel_model.specs.Relation.{relation_of}
use Rattle.rel_model.specs.Operators.{identity}
use Rattle.rel_model.specs.Domains.{left_injection}
use Rattle.rel_model.specs.Worker.{Worker, Gives}
use Rattle.rel_model.proofs.Relations.{relation_of-agree}
use Rattle.rel_model.proofs.Somes.{same_truth}

turned_equal : (i j : ℕ) → eqb j i ≡ eqb i j
turned_equal i j = same_truth (eqb j i) (eqb i j) (λ h. eq-eqb i j (sym (eqb-true j i h))) (λ h. eq-eqb j i (sym (eqb-true i j h)))

with_none : (n : ℕ) → n + 0 ≡ n
with_none n = omega arith

pub injection-identity : (n : ℕ) → left_injection n 0 ≡ identity n
unfolding left_injection identity
injection-identity n = ap (λ m. relation_of n m (λ i s. eqb s i)) (with_none n) ∙ relation_of-agree n n (λ i s. eqb s i) (λ i j. eqb i j) (λ i j a b. turned_equal i j)

pub gives_identity : (w : Worker) (n : ℕ) (rel : Rel) → Gives w n (n + 0) (left_injection n 0) rel → Gives w n n (identity n) rel
gives_identity w n rel g = subst (λ m. Gives w n m (identity n) rel) (with_none n) (subst (λ r. Gives w n (n + 0) r rel) (injection-identity n) g)
