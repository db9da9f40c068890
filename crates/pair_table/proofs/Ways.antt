-- The way of one call over the places: every step passes one more place that holds another word, until the word is found, placed, or every place was passed.
use Rattle.std.proofs.Common.{◌≡◌, ◌≤◌, ◌≢◌, ◌+◌, ◌-◌, ◌%◌, ℕ, length, sym, ap, subst, ◌∙◌, inl, inr, arith, get_or, Err}
use Rattle.std.proofs.lemmas.Bool.{cases_lt}
use Rattle.rel_model.specs.Words.{place_at, home_sum}
use Rattle.rel_model.proofs.NamesStand.{extends_on}
use Rattle.pair_table.specs.declared.Missed.{Missed}
use Rattle.pair_table.specs.declared.rule.Known.{Known}
use Rattle.pair_table.specs.Tells.{Steps, IsUnderWay, InternsFor}
use Rattle.pair_table.proofs.Probing.{next_mod, all_passed}
use Rattle.pair_table.proofs.Ruling.{passed_on}

-- two steps as one
pub steps_on : (a b c : Known) → Steps a b → Steps b c → Steps a c
steps_on a b c s t = record { seen = extends_on _ _ _ s.seen t.seen; canonical = t.canonical; parts = t.parts ∙ s.parts }

-- one more place is passed
pub way_on : (old v w : Known) (word step place count found after : ℕ) → IsUnderWay old v word step place count → Steps v w → w.made ≡ v.made → w.last ≡ v.last
    → found ≢ 0 → found ≢ word → get_or w.words (2 + place) 0 ≡ found → after ≡ (place + 1) % count → IsUnderWay old w word (step + 1) after count
way_on old v w word step place count found after u s m g z d e n = record {
  steps = steps_on old v w u.steps s;
  made = m ∙ u.made;
  last = g ∙ u.last;
  counted = s.seen.same_length ∙ u.counted;
  here = n ∙ next_mod place (home_sum word) count step u.here;
  passed = λ t l. elim (cases_lt t step) [
    | inl h ↦ passed_on v.words w.words s.seen word step u.passed t h
    | inr h ↦
        let q : length w.words - 2 ≡ count = (let a = s.seen.same_length in let b = u.counted in omega arith) in
        let k : 2 + place ≡ place_at (length w.words) word t =
        ap (λ (x : ℕ). 2 + x) u.here ∙ ap (λ (c : ℕ). 2 + (home_sum word + step) % c) (sym q) ∙ ap (λ (y : ℕ). place_at (length w.words) word y) (let e3 : step ≡ t = omega arith in e3) in
        subst (λ (x : ℕ). (get_or w.words x 0 ≢ 0) × (get_or w.words x 0 ≢ word)) k ((λ y. z (sym e ∙ y)), (λ y. d (sym e ∙ y)))
  ];
}

-- every place was passed
pub way_ended : (old v : Known) (word step place count : ℕ) → IsUnderWay old v word step place count → count ≤ step → InternsFor {E = Missed} old v word (Err (record {}))
way_ended old v word step place count u l = record {
  named = tt;
  missed = λ _. all_passed v.words word (λ s h. u.passed s (let a = u.counted in omega arith));
  made = inl u.made;
  steps = u.steps;
  last = u.last;
}
