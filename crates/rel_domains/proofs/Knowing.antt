-- Names of the quads of single cells that are kept.
-- 1. A place counted from another base is the same cell (`from_base`).
-- 2. No name is known at first (`knows_nothing`).
-- 3. The name of a quad that was made may be noted under its place (`knows_noted`).
use Rattle.std.proofs.Common.{◌≡◌, ◌≢◌, ◌<◌, ◌≤◌, ◌+◌, ◌-◌, ◌^◌, ◌&&◌, ◌||◌, ◌∙◌, eqb, ltb, cond, ℕ, suc, zero, Bool, true, false, List, [], ◌∷◌, refl, sym, ap, subst, arith, inl, inr, length, get_or, replicate}
use Rattle.std.proofs.lemmas.Bool.{cases_Bool, eqb-true, false≢true}
use Rattle.std.proofs.lemmas.Bool.Decides.{nat_tests}
use Rattle.rel_model.specs.declared.Quad.{Quad}
use Rattle.rel_model.specs.Worker.{Worker, GivesQuad, Keeps}
use Rattle.rel_model.proofs.TreeLaws.{same_cells}
use Rattle.rel_steps.proofs.Given.{gives_later}
use Rattle.rel_domains.specs.Curve.{place, cells_at}
use Rattle.rel_domains.specs.Singles.{KnowsSingles}

place_moved : (base x p : ℕ) → base ≤ x → eqb (x - base) (0 + p) ≡ eqb x (base + p)
place_moved base x p l = grind (arith, nat_tests, l)

pub from_base : (least d base x : ℕ) → base ≤ x → cells_at least d 0 ((x - base) ∷ []) ≡ cells_at least d base (x ∷ [])
from_base least d base x l = same_cells _ _ (λ i j. ap (λ t. ltb i (2 ^ (least + d)) && (ltb j (2 ^ (least + d)) && (t || false))) (place_moved base x (place least d i j) l))

pub knows_nothing : (w : Worker) (least d : ℕ) (names : List ℕ) → ((k : ℕ) → get_or names k 0 ≡ 0) → KnowsSingles w least d names
knows_nothing w least d names h = record { named = λ k l n. absurd (n (h k)) }

pub no_names : (n k : ℕ) → get_or {A = ℕ} (replicate n 0) k 0 ≡ 0
no_names zero k = refl
no_names (suc n) zero = refl
no_names (suc n) (suc k) = no_names n k

both_true : (a b : Bool) → (a && b) ≡ true → (a ≡ true) × (b ≡ true)
both_true true true e = (refl, refl)
both_true true false e = absurd (false≢true e)
both_true false b e = absurd (false≢true e)

-- a quad under its own height and name
own_name : (w : Worker) (h : ℕ) (f : ℕ → ℕ → Bool) (quad : Quad) (name : ℕ) → name ≡ quad.name → GivesQuad w h f quad → GivesQuad w h f (record { height = h; name = name })
own_name w h f quad name e g =
    let q : quad ≡ record { height = h; name = name } = ap (λ (x : ℕ). record { height = x; name = quad.name }) g.same_height ∙ ap (λ (x : ℕ). record { height = h; name = x }) (sym e) in
    subst (λ (x : Quad). GivesQuad w h f x) q g

-- the new name under its place, and the others as they were: by whether it is the place that is asked for
pub knows_noted : {v w : Worker} {least d : ℕ} {old new : List ℕ} (depth base place : ℕ) (quad : Quad) → KnowsSingles v least d old → Keeps v w → base ≤ place → GivesQuad w (least + depth) (cells_at least depth base (place ∷ [])) quad → length new ≡ length old
    → ((k : ℕ) → get_or new k 0 ≡ cond (eqb depth d && (ltb (place - base) (length old) && eqb k (place - base))) quad.name (get_or old k 0)) → KnowsSingles w least d new
knows_noted {v} {w} {least} {d} {old} {new} depth base place quad s keeps low g size names = record { named = named }
  where
    at : ℕ
    at = place - base

    noted : (k : ℕ) → Bool
    noted k = eqb depth d && (ltb at (length old) && eqb k at)

    named : (k : ℕ) → k < length new → get_or new k 0 ≢ 0 → GivesQuad w (least + d) (cells_at least d 0 (k ∷ [])) (record { height = least + d; name = get_or new k 0 })
    named k l n = elim (cases_Bool (noted k)) [
      | inl t ↦
          let b = both_true (eqb depth d) _ t in
          let c = both_true (ltb at (length old)) (eqb k at) b.1 in
          let e : depth ≡ d = eqb-true depth d b.0 in
          let f : k ≡ at = eqb-true k at c.1 in
          let name : get_or new k 0 ≡ quad.name = names k ∙ ap (λ u. cond u quad.name (get_or old k 0)) t in
          let here : GivesQuad w (least + depth) (cells_at least depth 0 (at ∷ [])) quad = subst (λ (u : ℕ → ℕ → Bool). GivesQuad w (least + depth) u quad) (sym (from_base least depth base place low)) g in
          let there : GivesQuad w (least + d) (cells_at least d 0 (k ∷ [])) quad = subst (λ x. GivesQuad w (least + x) (cells_at least x 0 (k ∷ [])) quad) e (subst (λ x. GivesQuad w (least + depth) (cells_at least depth 0 (x ∷ [])) quad) (sym f) here) in
          own_name w (least + d) _ quad (get_or new k 0) name there
      | inr t ↦
          let same : get_or new k 0 ≡ get_or old k 0 = names k ∙ ap (λ u. cond u quad.name (get_or old k 0)) t in
          let before = s.named k (omega (arith, l, size)) (λ z. n (same ∙ z)) in
          subst (λ x. GivesQuad w (least + d) (cells_at least d 0 (k ∷ [])) (record { height = least + d; name = x })) (sym same) (gives_later v w _ _ _ keeps before)
    ]
