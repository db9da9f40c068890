-- Names that were given before: what one more parameter or declaration changes, and that only which names were given counts.
use Rattle.std.proofs.Common.{◌≡◌, ◌<◌, ◌+◌, ◌++◌, ◌∙◌, ◌||◌, ℕ, Bool, true, false, cond, List, [], ◌∷◌, length, drop, get_or, Option, Some, None, is_some, option_map, refl, sym, ap}
use Rattle.std.proofs.lemmas.List.{drop_more}
use Rattle.lang_model.specs.declared.syntax.Place.{Place}
use Rattle.lang_model.specs.declared.faults.TypeFault.{TypeFault}
use Rattle.lang_model.specs.declared.faults.TypeFault.TheVariants.{Twice}
use Rattle.lang_model.specs.Tokens.{same_text}
use Rattle.lang_model.specs.Checking.{among, Known, definition_of, names_of, parameter_faults}
use Rattle.rv_types.specs.declared.definitions.Summary.{Summary}
use Rattle.rv_types.specs.Definitions.{summary_of}
use Rattle.rv_types.specs.Found.{noted}
use Rattle.rv_types.proofs.Walks.{noted-append}
use Rattle.rv_types.proofs.Agreeing.{SameNames}

-- a name that has a definition is among their names
pub among-names_of : (ds : List Known) (n : List ℕ) → among (names_of ds) n ≡ is_some (definition_of ds n)
among-names_of [] n = refl
among-names_of (d ∷ ds) n = by (among-names_of ds n) (same_text d.name n)
  where
    by : among (names_of ds) n ≡ is_some (definition_of ds n) → (b : Bool) → (b || among (names_of ds) n) ≡ is_some (cond b (Some d) (definition_of ds n))
    by rest true = refl
    by rest false = rest

pub same-cons : (a b : List (List ℕ)) (x : List ℕ) → SameNames a b → SameNames (x ∷ a) (x ∷ b)
same-cons a b x h n = ap (λ c. same_text x n || c) (h n)

pub same-parameter_faults : (at : Place) (a b ps : List (List ℕ)) → SameNames a b → parameter_faults at a ps ≡ parameter_faults at b ps
same-parameter_faults at a b [] h = refl
same-parameter_faults at a b (p ∷ ps) h = λ i. cond (h p i) (Twice at p ∷ []) [] ++ same-parameter_faults at (p ∷ a) (p ∷ b) ps (same-cons a b p h) i

-- one more parameter
pub noted-parameter : (t : Option TypeFault) (at : Place) (a b ps : List (List ℕ)) (k : ℕ) (p : List ℕ) → k < length ps → p ≡ get_or ps k p → ((n : List ℕ) → among b n ≡ (same_text p n || among a n)) →
    noted t (parameter_faults at a (drop k ps)) ≡ noted (noted t (cond (among a p) (Twice at p ∷ []) [])) (parameter_faults at b (drop (k + 1) ps))
noted-parameter t at a b ps k p h is e =
    ap (λ xs. noted t (parameter_faults at a xs)) (drop_more ps k p h ∙ ap (λ x. x ∷ drop (k + 1) ps) (sym is))
    ∙ noted-append t (cond (among a p) (Twice at p ∷ []) []) (parameter_faults at (p ∷ a) (drop (k + 1) ps))
    ∙ ap (noted (noted t (cond (among a p) (Twice at p ∷ []) []))) (same-parameter_faults at (p ∷ a) b (drop (k + 1) ps) (λ n. sym (e n)))

pub among-parameter : (a b ps : List (List ℕ)) (k : ℕ) (p n : List ℕ) → k < length ps → p ≡ get_or ps k p → among b n ≡ (same_text p n || among a n) →
    (among (drop k ps) n || among a n) ≡ (among (drop (k + 1) ps) n || among b n)
among-parameter a b ps k p n h is e =
    ap (λ xs. among xs n || among a n) (drop_more ps k p h ∙ ap (λ x. x ∷ drop (k + 1) ps) (sym is)) ∙ turned (same_text p n) (among (drop (k + 1) ps) n) (among a n)
    ∙ ap (λ c. among (drop (k + 1) ps) n || c) (sym e)
  where
    turned : (x y z : Bool) → ((x || y) || z) ≡ (y || (x || z))
    turned true true z = refl
    turned true false z = refl
    turned false true z = refl
    turned false false z = refl

pub named-none : (ds : List Known) (n : List ℕ) → None ≡ option_map summary_of (definition_of ds n) → among (names_of ds) n ≡ false
named-none ds n h = among-names_of ds n ∙ by (definition_of ds n) h
  where
    by : (o : Option Known) → None ≡ option_map summary_of o → is_some o ≡ false
    by None e = refl
    by (Some d) e = cc

pub named-some : (ds : List Known) (n : List ℕ) (s : Summary) → Some s ≡ option_map summary_of (definition_of ds n) → among (names_of ds) n ≡ true
named-some ds n s h = among-names_of ds n ∙ by (definition_of ds n) h
  where
    by : (o : Option Known) → Some s ≡ option_map summary_of o → is_some o ≡ true
    by None e = cc
    by (Some d) e = refl
