use Rattle.std.proofs.Common.{◌≡◌, ◌≢◌, ℕ, true, false, List, refl, sym, inl, inr}
use Rattle.std.proofs.lemmas.Bool.{cases_Bool}
use Rattle.std.specs.Cmp.Lexicographic.{nat_list_eq_equiv, same_text as text_of_test}
use Rattle.lang_model.specs.State.{nothing, assigned, removed}
use Rattle.lang_model.specs.Tokens.{same_text}
use Rattle.lang_model.proofs.laws.laws_of_the_workspace.Goals as goal

-- a text is the same as itself
itself : (n : List ℕ) → same_text n n ≡ true
itself n = nat_list_eq_equiv.refl n

-- and as no other
other : (m n : List ℕ) → m ≢ n → same_text m n ≡ false
other m n d = elim (cases_Bool (same_text m n)) [ inl e ↦ absurd (d (text_of_test m n (sym e))) | inr e ↦ e ]

pub returns : goal.returns
unfolding nothing assigned removed
returns c = record {
  at_first = λ n. refl;
  assigned_name = λ name r state. rw (itself name) refl;
  other_names_stay = λ name n r state d. rw (other name n d) refl;
  removed_name = λ name state. rw (itself name) refl;
  others_stay = λ name n state d. rw (other name n d) refl;
}
