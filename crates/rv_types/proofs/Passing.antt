-- The walk goes on with what fits, and a misfit ends it: what is left to do has the whole answer. Each step of the code is one lemma here.
use Rattle.std.proofs.Common.{◌≡◌, ◌∙◌, ◌⊎◌, inl, inr, sym, ap, subst, Result}
use Rattle.lang_model.specs.declared.faults.TypeFault.{TypeFault}
use Rattle.lang_model.specs.declared.faults.TypeFault.TheVariants.{NoMemory as NO_MEMORY}
use Rattle.lang_model.specs.Types.{Passed, Fits, Misfit}
use Rattle.lang_model.specs.Shape.{passing}
use Rattle.rv_types.specs.Shaping.{Tells, Answers}

-- a step fits
pub goes_on : {T U : Type 0} (total : Passed T) (x : Passed U) (next : U → Passed T) (u : U) → total ≡ passing x next → x ≡ Fits u → total ≡ next u
goes_on total x next u g e = g ∙ ap (λ y. passing y next) e

-- a step ends the walk
pub goes_err : {T U : Type 0} (total : Passed T) (x : Passed U) (next : U → Passed T) (f : TypeFault) → total ≡ passing x next → (f ≡ NO_MEMORY) ⊎ (x ≡ Misfit f) → (f ≡ NO_MEMORY) ⊎ (total ≡ Misfit f)
goes_err total x next f g (inl m) = inl m
goes_err total x next f g (inr e) = inr (g ∙ ap (λ y. passing y next) e)

-- the last step
pub goes_last : {T X : Type 0} (total rest : Passed T) (is : X → T) (r : Result X TypeFault) → total ≡ rest → Answers rest is r → Answers total is r
goes_last total rest is r g a = subst (λ t. Answers t is r) (sym g) a

-- what is left is a misfit
pub goes_not : {T : Type 0} (total : Passed T) (fault f : TypeFault) → total ≡ Misfit fault → Tells fault f → (f ≡ NO_MEMORY) ⊎ (total ≡ Misfit f)
goes_not total fault f g (inl m) = inl m
goes_not total fault f g (inr e) = inr (g ∙ ap Misfit (sym e))
