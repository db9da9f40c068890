-- Declarations: what one more changes, and that only which names were given counts.
use Rattle.std.proofs.Common.{◌≡◌, ◌<◌, ◌+◌, ◌++◌, ◌∙◌, ◌||◌, ℕ, cond, List, [], ◌∷◌, length, drop, get_or, Option, refl, sym, ap}
use Rattle.std.proofs.lemmas.List.{drop_more}
use Rattle.lang_model.specs.declared.syntax.Decl.{Decl}
use Rattle.lang_model.specs.declared.syntax.Decl.TheVariants.{Variable, Domain}
use Rattle.lang_model.specs.declared.faults.TypeFault.{TypeFault}
use Rattle.lang_model.specs.declared.faults.TypeFault.TheVariants.{Unknown, Twice}
use Rattle.lang_model.specs.Tokens.{same_text}
use Rattle.lang_model.specs.Checking.{among, name_of, place_of_decl, operand_faults, decl_faults}
use Rattle.rv_types.specs.Found.{noted}
use Rattle.rv_types.proofs.Walks.{noted-append}
use Rattle.rv_types.proofs.Agreeing.{SameNames}
use Rattle.rv_types.proofs.Heads.{same-cons}

same-operand_faults : (p q : List (List ℕ)) (d : Decl) → SameNames p q → operand_faults p d ≡ operand_faults q d
same-operand_faults p q (Variable at name) h = refl
same-operand_faults p q (Domain at name sum left right) h = λ i. cond (h left i) (cond (h right i) [] (Unknown at right ∷ [])) (Unknown at left ∷ [])

pub same-decl_faults : (p q a b : List (List ℕ)) (ds : List Decl) → SameNames p q → SameNames a b → decl_faults p a ds ≡ decl_faults q b ds
same-decl_faults p q a b [] h g = refl
same-decl_faults p q a b (d ∷ ds) h g =
    λ i. (cond (g (name_of d) i) (Twice (place_of_decl d) (name_of d) ∷ []) [] ++ same-operand_faults p q d h i) ++ same-decl_faults p q (name_of d ∷ a) (name_of d ∷ b) ds h (same-cons a b (name_of d) g) i

-- one more declaration
pub noted-decl : (t : Option TypeFault) (P a b : List (List ℕ)) (ds : List Decl) (k : ℕ) (d : Decl) → k < length ds → d ≡ get_or ds k d → ((n : List ℕ) → among b n ≡ (same_text (name_of d) n || among a n)) →
    noted t (decl_faults P a (drop k ds)) ≡ noted (noted (noted t (cond (among a (name_of d)) (Twice (place_of_decl d) (name_of d) ∷ []) [])) (operand_faults P d)) (decl_faults P b (drop (k + 1) ds))
noted-decl t P a b ds k d h is e =
    let repeated = cond (among a (name_of d)) (Twice (place_of_decl d) (name_of d) ∷ []) [] in
    let rest = drop (k + 1) ds in
    ap (λ xs. noted t (decl_faults P a xs)) (drop_more ds k d h ∙ ap (λ x. x ∷ rest) (sym is))
    ∙ noted-append t (repeated ++ operand_faults P d) (decl_faults P (name_of d ∷ a) rest) ∙ ap (λ u. noted u (decl_faults P (name_of d ∷ a) rest)) (noted-append t repeated (operand_faults P d))
    ∙ ap (noted (noted (noted t repeated) (operand_faults P d))) (same-decl_faults P P (name_of d ∷ a) b rest (λ n. refl) (λ n. sym (e n)))
