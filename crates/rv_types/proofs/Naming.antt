-- The definitions so far: what the entries of a map say of the definition of a name, and what one more at the end changes.
use Rattle.std.proofs.Common.{◌≡◌, ◌∙◌, ℕ, Bool, true, false, cond, List, [], ◌∷◌, ◌++◌, map, nat_eq, Option, Some, None, option_map, refl, sym, ap}
use Rattle.std.specs.Prelude.{Result, Ok, Err, OnErr}
use Rattle.std.specs.Map.{lookup}
use Rattle.std.specs.Cmp.Lexicographic.{pointwise, nat_list_eq_equiv, same_text as text_of_test}
use Rattle.lang_model.specs.Tokens.{same_text}
use Rattle.lang_model.specs.Checking.{Known, definition_of}
use Rattle.rv_types.specs.declared.definitions.Summary.{Summary}
use Rattle.rv_types.specs.Definitions.{known_as, summary_of}

-- a fact that holds does at an error
pub at_error : {T E : Type 0} (r : Result T E) (P : Type 0) → P → OnErr r P
at_error (Ok v) P p = tt
at_error (Err e) P p = p

module _ {K : Type 0} (text : K → List ℕ) where
  -- the definitions that entries hold
  abbrev pub knowns : List (K × Summary) → List Known
  knowns = map (λ e. known_as (text e.0) e.1)

  -- a look-up finds the definition's summary
  pub lookup-knowns : (es : List (K × Summary)) (n : List ℕ) → lookup (λ k. pointwise nat_eq n (text k)) es ≡ option_map summary_of (definition_of (knowns es) n)
  lookup-knowns [] n = refl
  lookup-knowns (e ∷ es) n =
      ap (λ b. cond b (Some e.1) (lookup (λ k. pointwise nat_eq n (text k)) es)) (nat_list_eq_equiv.symm n (text e.0)) ∙ by (lookup-knowns es n) (same_text (text e.0) n)
    where
      by : lookup (λ k. pointwise nat_eq n (text k)) es ≡ option_map summary_of (definition_of (knowns es) n) → (b : Bool) → cond b (Some e.1) (lookup (λ k. pointwise nat_eq n (text k)) es) ≡ option_map summary_of (cond b (Some (known_as (text e.0) e.1)) (definition_of (knowns es) n))
      by rest true = refl
      by rest false = rest

-- the first, where there is one
abbrev pub or_known : Option Known → Option Known → Option Known
or_known None y = y
or_known (Some x) y = Some x

pub definition_of-push : (ds : List Known) (d : Known) (n : List ℕ) → definition_of (ds ++ d ∷ []) n ≡ or_known (definition_of ds n) (cond (same_text d.name n) (Some d) None)
definition_of-push [] d n = refl
definition_of-push (e ∷ ds) d n = ap (cond (same_text e.name n) (Some e)) (definition_of-push ds d n) ∙ by (same_text e.name n)
  where
    by : (b : Bool) → cond b (Some e) (or_known (definition_of ds n) (cond (same_text d.name n) (Some d) None)) ≡ or_known (cond b (Some e) (definition_of ds n)) (cond (same_text d.name n) (Some d) None)
    by true = refl
    by false = refl

-- a name that has a definition keeps it
pub definition_of-present : (ds : List Known) (d : Known) (s : Summary) → Some s ≡ option_map summary_of (definition_of ds d.name) → (n : List ℕ) → definition_of ds n ≡ definition_of (ds ++ d ∷ []) n
definition_of-present ds d s there n = by (same_text d.name n) refl ∙ sym (definition_of-push ds d n)
  where
    kept : (o : Option Known) → Some s ≡ option_map summary_of o → o ≡ or_known o (Some d)
    kept None h = cc
    kept (Some x) h = refl

    same : (o : Option Known) → o ≡ or_known o None
    same None = refl
    same (Some x) = refl

    by : (b : Bool) → b ≡ same_text d.name n → definition_of ds n ≡ or_known (definition_of ds n) (cond b (Some d) None)
    by true e = kept (definition_of ds n) (there ∙ ap (λ t. option_map summary_of (definition_of ds t)) (text_of_test d.name n e))
    by false e = same (definition_of ds n)
