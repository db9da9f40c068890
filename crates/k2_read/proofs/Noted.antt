-- Quads that are noted: they stay, and one more is noted.
use Rattle.std.proofs.Common.{◌≡◌, ◌<◌, ◌∙◌, ℕ, List, length, get_or, set, Option, Some, None, sym, ap, subst, inl, inr}
use Rattle.std.proofs.lemmas.Bool.{cases_eq}
use Rattle.std.proofs.lemmas.List.{get_or-set_same, get_or-set_other}
use Rattle.rel_model.specs.declared.Quad.{Quad}
use Rattle.rel_model.specs.Worker.{Worker, GivesQuad, Keeps}
use Rattle.rel_steps.proofs.Given.{gives_later}
use Rattle.run_model.specs.SharedFiles.{Quadrant, cells_told}
use Rattle.run_model.proofs.SharedCells.{IsNumber, one_height}
use Rattle.k2_read.specs.Numbers.{AreNoted}

pub noted-later : (v w : Worker) (quads : List Quadrant) (noted : List (Option Quad)) → Keeps v w → AreNoted v quads noted → AreNoted w quads noted
noted-later v w quads noted k a = record { given = λ n quad e some h is. gives_later v w h (cells_told quads h n) quad k (a.given n quad e some h is) }

-- with one more quad noted all are still given: a number is the new one, with its quad at the one height that it has,
-- or another, for which the same quad is noted as before
pub noted-more : (w : Worker) (quads : List Quadrant) (noted : List (Option Quad)) (n h : ℕ) (quad : Quad) → n < length noted → IsNumber quads h n
    → GivesQuad w h (cells_told quads h n) quad → AreNoted w quads noted → AreNoted w quads (set noted n (Some quad))
noted-more w quads noted n h quad l is g a = record {
  given = λ m other e some k at. elim (cases_eq m n) [
    | inl same ↦
        let there : get_or (set noted n (Some quad)) m None ≡ Some quad = ap (λ x. get_or (set noted n (Some quad)) x None) same ∙ get_or-set_same noted n (Some quad) None l in
        let one : quad ≡ other = ap (or_else quad) (sym there ∙ e) in
        let height : h ≡ k = one_height quads h k n is (subst (IsNumber quads k) same at) (λ z. some (same ∙ z)) in
        subst (λ x. GivesQuad w k (cells_told quads k x) other) (sym same)
        (subst (λ x. GivesQuad w x (cells_told quads x n) other) height (subst (GivesQuad w h (cells_told quads h n)) one g))
    | inr apart ↦ a.given m other (sym (get_or-set_other noted n m (Some quad) None apart) ∙ e) some k at
  ];
}
  where
    or_else : Quad → Option Quad → Quad
    or_else d None = d
    or_else d (Some q) = q
