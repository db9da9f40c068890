-- A word in its place: the walk over the places from its home on ends at a place that holds it or is vacant.
-- 1. Each step passes one more place that holds another word (`way_begun`, `way_on`).
-- 2. A vacant place behind them takes the word, and the words stay sound (`way_placed`); a place that holds it is its name (`way_found`).
-- 3. Whoever passed all places passed as many taken ones, so that none is vacant (`way_ended`).
use Rattle.std.proofs.Common.{◌≡◌, ◌≤◌, ◌<◌, ◌≢◌, ◌+◌, ◌-◌, ◌%◌, ◌^◌, eqb, suc, ℕ, List, [], ◌∷◌, length, set, false, refl, sym, ap, subst, ◌∙◌, inl, inr, arith, get_or}
use Rattle.std.proofs.lemmas.Bool.{cases_lt, ne_eqb}
use Rattle.std.proofs.lemmas.Nat.{mod_below}
use Rattle.rel_model.specs.Words.{IsSound, IsFull, place_at, home_sum, stored_count}
use Rattle.pair_table.specs.Probe.{Passed, IsNext}
use Rattle.pair_table.proofs.Placing.{cases_eq, placed_set, placed_extends, placed_sound, placed_count}
use Rattle.pair_table.proofs.Probing.{next_mod, all_passed}
use Rattle.rv_compact.specs.Copies.{Places}

-- on the way from a word's home: so many places hold other words
pub record IsOnWay (words : List ℕ) (word step place count : ℕ) : Type 0 where
  pub counted : length words ≡ count + 2
  pub within : place < count
  pub here : place ≡ (home_sum word + step) % count
  pub passed : Passed words word step

-- the place of a step
at_step : (words : List ℕ) (word step place count : ℕ) → IsOnWay words word step place count → 2 + place ≡ place_at (length words) word step
at_step words word step place count w =
    ap (λ (x : ℕ). 2 + x) w.here ∙ ap (λ (n : ℕ). 2 + (home_sum word + step) % n) (let e : count ≡ length words - 2 = (let h = w.counted in omega arith) in e)

pub way_begun : (words : List ℕ) (word place count : ℕ) → length words ≡ count + 2 → 0 < count → place ≡ home_sum word % count → IsOnWay words word 0 place count
way_begun words word place count l p e = record {
  counted = l;
  within = subst (λ (x : ℕ). x < count) (sym e) (mod_below (home_sum word) count p);
  here = e ∙ ap (λ (x : ℕ). x % count) (let z : home_sum word ≡ home_sum word + 0 = omega arith in z);
  passed = λ s h. absurd (omega arith);
}

pub way_on : (words : List ℕ) (word step place after count found : ℕ) → IsOnWay words word step place count → get_or words (2 + place) 0 ≡ found → found ≢ 0 → found ≢ word → after ≡ (place + 1) % count → IsOnWay words word (step + 1) after count
way_on words word step place after count found w e z d n = record {
  counted = w.counted;
  within = subst (λ (x : ℕ). x < count) (sym n) (mod_below (place + 1) count (let h = w.within in omega arith));
  here = n ∙ next_mod place (home_sum word) count step w.here;
  passed = λ s l. elim (cases_lt s step) [
    | inl h ↦ w.passed s h
    | inr h ↦ let k : 2 + place ≡ place_at (length words) word s = at_step words word step place count w ∙ ap (place_at (length words) word) (let g : step ≡ s = omega arith in g) in
        subst (λ (x : ℕ). (get_or words x 0 ≢ 0) × (get_or words x 0 ≢ word)) k ((λ y. z (sym e ∙ y)), (λ y. d (sym e ∙ y)))
  ];
}

-- the place of a step is the next one for the word
way_next : (words : List ℕ) (word step place count : ℕ) → IsOnWay words word step place count → IsNext words word (2 + place)
way_next words word step place count w = record {
  low = omega arith;
  high = (let h = w.counted in let i = w.within in omega arith);
  steps = step;
  here = at_step words word step place count w;
  passed = w.passed;
}

-- a word goes into the vacant place where its way ends: all places before hold other words, so this one is next, and
-- the words stay sound
pub way_placed : (words : List ℕ) (word step place count found : ℕ) → IsSound words → IsOnWay words word step place count → get_or words (2 + place) 0 ≡ found → found ≡ 0 → word ≢ 0 → word < 2 ^ 64
    → Places words (set words (2 + place) word) word (2 + place)
way_placed words word step place count found s w e z h f =
    let n = way_next words word step place count w in
    let v : get_or words (2 + place) 0 ≡ 0 = e ∙ z in
    let p = placed_set words (2 + place) word n.high v in
    record {
      seen = placed_extends _ _ _ _ p;
      sound = placed_sound _ _ _ _ s (record { next = n; vacant = v }) p h f;
      few = (let c = placed_count words (2 + place) word n.high v h in omega arith);
      low = omega arith;
      there = p.there;
      only = λ m t. elim (cases_eq m (2 + place)) [ inl q ↦ inr q | inr q ↦ inl (λ y. t (p.others m q ∙ y)) ];
    }

pub way_found : (words : List ℕ) (word place found : ℕ) → IsSound words → get_or words (2 + place) 0 ≡ found → found ≡ word → Places words words word (2 + place)
way_found words word place found s e f = record {
  seen = record { same_length = refl; kept = λ n h. refl };
  sound = s;
  few = omega arith;
  low = omega arith;
  there = e ∙ f;
  only = λ m t. inl t;
}

-- ---- full words
-- as many places are taken as there are, where each one is
all_taken : (words : List ℕ) → ((n : ℕ) → n < length words → get_or words n 0 ≢ 0) → stored_count words ≡ length words
all_taken [] h = refl
all_taken (w ∷ ws) h =
    let i = all_taken ws (λ n l. h (suc n) (omega arith)) in
    let a : eqb w 0 ≡ false = ne_eqb w 0 (h 0 (omega arith)) in
    rw a (omega arith)

pub full_count : (words : List ℕ) → IsFull words → length words ≤ stored_count words + 2
full_count [] h = omega arith
full_count (w ∷ []) h = omega arith
full_count (v ∷ w ∷ ws) h =
    let i = all_taken ws (λ n l. h (suc (suc n)) (omega arith) (omega arith)) in
    omega arith

pub way_ended : (words : List ℕ) (word step place count : ℕ) → IsOnWay words word step place count → count ≤ step → stored_count words + 2 < length words → ⊥
way_ended words word step place count w l r =
    let f = all_passed words word (λ s h. w.passed s (let c = w.counted in omega arith)) in
    let i = full_count words (λ n a b. (f n a b).0) in
    omega arith
