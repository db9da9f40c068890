-- A word that is placed at a vacant place behind its home leaves the words sound.
-- 1. The call saw other words at every place from the home up to this one, so the word stands nowhere (`nowhere`): a word that stood somewhere would be reached from the home before the vacant place.
-- 2. So no word stands twice, and every word is still reached over taken places (`placed_sound`).
-- 3. One more place is taken (`placed_count`).
use Rattle.std.proofs.Common.{◌≡◌, ◌<◌, ◌≢◌, ◌+◌, ◌^◌, ◌⊎◌, eqb, zero, suc, ℕ, List, [], ◌∷◌, length, set, replicate, true, false, lit<, refl, sym, ap, subst, ◌∙◌, inl, inr, arith, get_or, get_or-set_other, get_or-set_same}
use Rattle.std.proofs.Math.ListN.{length-set}
use Rattle.std.proofs.lemmas.Bool.{cases_Bool, cases_lt, eqb-true, eqb-false, eq-eqb, ne_eqb}
use Rattle.rel_model.specs.Words.{Extends, IsReached, IsSound, place_at, stored_count}
use Rattle.pair_table.specs.Probe.{IsNext, IsPlaced}

-- a place behind places that all hold other words, which is vacant
pub record IsFree (words : List ℕ) (word n : ℕ) : Type 0 where
  pub next : IsNext words word n
  pub vacant : get_or words n 0 ≡ 0

-- two numbers are equal or not
pub cases_eq : (m n : ℕ) → (m ≡ n) ⊎ (m ≢ n)
cases_eq m n = elim (cases_Bool (eqb m n)) [ inl e ↦ inl (eqb-true m n e) | inr e ↦ inr (eqb-false m n e) ]

-- writing a word to a vacant place places it
pub placed_set : (words : List ℕ) (n word : ℕ) → n < length words → get_or words n 0 ≡ 0 → IsPlaced words (set words n word) n word
placed_set words n word l z = record {
  same_length = length-set words n word;
  there = rw get_or-set_same refl;
  others = λ m h. rw get_or-set_other refl;
  vacant = z;
}

-- what was seen stays seen
pub placed_extends : (old new : List ℕ) (n word : ℕ) → IsPlaced old new n word → Extends old new
placed_extends old new n word p = record {
  same_length = p.same_length;
  kept = λ m h. elim (cases_eq m n) [ inl e ↦ absurd (h (ap (λ (x : ℕ). get_or old x 0) e ∙ p.vacant)) | inr e ↦ p.others m e ];
}

-- a place that was taken stays taken
pub still : (old new : List ℕ) → Extends old new → (n : ℕ) → get_or old n 0 ≢ 0 → get_or new n 0 ≢ 0
still old new x n h z = h (sym (x.kept n h) ∙ z)

-- the word stands nowhere else
pub nowhere : (words : List ℕ) (word n : ℕ) → IsSound words → IsFree words word n → word ≢ 0 → (m : ℕ) → get_or words m 0 ≢ word
nowhere words word n w p h m e =
    let r : IsReached words word m = subst (λ (x : ℕ). IsReached words x m) e (w.reached m (λ y. h (sym e ∙ y))) in
    elim (cases_lt r.steps p.next.steps) [
      | inl l ↦ (p.next.passed r.steps l).1 (ap (λ (x : ℕ). get_or words x 0) (sym r.here) ∙ e)
      | inr l ↦ elim (cases_lt p.next.steps r.steps) [
        | inl g ↦ r.before p.next.steps g (ap (λ (x : ℕ). get_or words x 0) (sym p.next.here) ∙ p.vacant)
        | inr g ↦ let s : p.next.steps ≡ r.steps = omega arith in
            h (sym e ∙ ap (λ (x : ℕ). get_or words x 0) (r.here ∙ ap (place_at (length words) word) (sym s) ∙ sym p.next.here) ∙ p.vacant)
      ]
    ]

-- what was reached is still reached
still_reached : (old new : List ℕ) → Extends old new → (word n : ℕ) → IsReached old word n → IsReached new word n
still_reached old new x word n r = record {
  steps = r.steps;
  here = r.here ∙ ap (λ (l : ℕ). place_at l word r.steps) (sym x.same_length);
  before = λ s l. subst (λ (k : ℕ). get_or new (place_at k word s) 0 ≢ 0) (sym x.same_length) (still old new x _ (r.before s l));
}

-- words stay sound when one is placed
pub placed_sound : (old new : List ℕ) (word n : ℕ) → IsSound old → IsFree old word n → IsPlaced old new n word → word ≢ 0 → word < 2 ^ 64 → IsSound new
placed_sound old new word n w p q h l =
    let x = placed_extends old new n word q in
    let away = nowhere old word n w p h in
    record {
      distinct = record {
        none_at_0 = q.others 0 (let lo = p.next.low in (λ e. omega arith)) ∙ w.distinct.none_at_0;
        none_at_1 = q.others 1 (let lo = p.next.low in (λ e. omega arith)) ∙ w.distinct.none_at_1;
        one_place = λ a b k e. elim (cases_eq a n) [
          | inl an ↦ elim (cases_eq b n) [
            | inl bn ↦ an ∙ sym bn
            | inr bn ↦ absurd (away b (sym (q.others b bn) ∙ sym e ∙ ap (λ (y : ℕ). get_or new y 0) an ∙ q.there))
          ]
          | inr an ↦ elim (cases_eq b n) [
            | inl bn ↦ absurd (away a (sym (q.others a an) ∙ e ∙ ap (λ (y : ℕ). get_or new y 0) bn ∙ q.there))
            | inr bn ↦ w.distinct.one_place a b (λ z. k (q.others a an ∙ z)) (sym (q.others a an) ∙ e ∙ q.others b bn)
          ]
        ];
        fits = λ a. elim (cases_eq a n) [
          | inl an ↦ subst (λ (y : ℕ). y < 2 ^ 64) (sym (ap (λ (y : ℕ). get_or new y 0) an ∙ q.there)) l
          | inr an ↦ subst (λ (y : ℕ). y < 2 ^ 64) (sym (q.others a an)) (w.distinct.fits a)
        ];
      };
      reached = λ a k. elim (cases_eq a n) [
        | inl an ↦ subst (λ (y : ℕ). IsReached new y a) (sym (ap (λ (y : ℕ). get_or new y 0) an ∙ q.there))
            (record {
              steps = p.next.steps;
              here = an ∙ p.next.here ∙ ap (λ (m : ℕ). place_at m word p.next.steps) (sym q.same_length);
              before = λ s g. subst (λ (m : ℕ). get_or new (place_at m word s) 0 ≢ 0) (sym q.same_length) (still old new x _ (p.next.passed s g).0);
            })
        | inr an ↦ subst (λ (y : ℕ). IsReached new y a) (sym (q.others a an))
            (still_reached old new x _ a (w.reached a (λ z. k (q.others a an ∙ z))))
      ];
    }

-- ---- how many places are taken
-- one more is taken when a word is placed
pub placed_count : (words : List ℕ) (n word : ℕ) → n < length words → get_or words n 0 ≡ 0 → word ≢ 0 → stored_count (set words n word) ≡ stored_count words + 1
placed_count [] n word l z h = absurd (omega arith)
placed_count (w ∷ ws) zero word l z h =
    let a : eqb word 0 ≡ false = ne_eqb word 0 h in
    let b : eqb w 0 ≡ true = eq-eqb w 0 z in
    rw (a, b) (omega arith)
placed_count (w ∷ ws) (suc n) word l z h =
    let i = placed_count ws n word (omega arith) z h in
    rw i (omega arith)

-- no place is taken where all are vacant
pub vacant_count : (n : ℕ) → stored_count (replicate n zero) ≡ zero
vacant_count zero = refl
vacant_count (suc n) = let i = vacant_count n in omega arith

-- each place of vacant words is vacant
pub vacant_at : (n m : ℕ) → get_or (replicate n zero) m zero ≡ zero
vacant_at zero m = refl
vacant_at (suc n) zero = refl
vacant_at (suc n) (suc m) = vacant_at n m

-- ---- a table in the beginning
-- vacant words are sound
pub vacant_sound : (n : ℕ) → IsSound (replicate n zero)
vacant_sound n = record {
  distinct = record {
    none_at_0 = vacant_at n 0;
    none_at_1 = vacant_at n 1;
    one_place = λ a b h e. absurd (h (vacant_at n a));
    fits = λ a. rw (vacant_at n a) (lit< tt);
  };
  reached = λ a h. absurd (h (vacant_at n a));
}
