-- The calls of a derivation one after the other, and what they promise together over leaves of 8 by 8.
-- 1. `Underway` holds while they come: all that stood stands, so many nodes were made at most, and no place was missing
--    (`begun`, `called`, `goes_on`).
-- 2. A call that fails ends the derivation with its cause (`stops`).
-- 3. Or the derivation answers what its last call does (`ends`).
use Rattle.std.proofs.Common.{◌≡◌, ◌≤◌, ◌+◌, ◌∙◌, ℕ, Bool, Result, IfOk, refl, sym, subst, arith}
use Rattle.std.specs.Prelude.{Ok, Err}
use Rattle.std.specs.Result.{IsErrAnd}
use Rattle.std.proofs.lemmas.Result.{err_from_is_err_and}
use Rattle.rel_model.specs.declared.Lack.{Lack}
use Rattle.rel_model.specs.Relation.{Relation}
use Rattle.rel_model.specs.Worker.{Worker, Keeps, MakesAtMost, MissesNothing, HasCause, derived_room, wide_room}
use Rattle.rel_model.proofs.Workers.{keeps_itself, keeps_trans}
use Rattle.rel_model.proofs.Rooms.{derived_room-least, wide_room-four}
use Rattle.rel_steps.proofs.Causes.{later_cause, failed_cause}
use Rattle.rel_slices.specs.declared.thin.Value.{Value}
use Rattle.rel_slices.specs.Thin.{GivesValue, HasForm}
use Rattle.rel_slices.specs.ValueRooms.{residual_room}
use Rattle.rel_slices.specs.Derived.{Derives}
use Rattle.rel_slices.proofs.Valuing.{recast_ok}

-- calls have come so far
pub record Underway (least most : ℕ) (old now : Worker) : Type 0 where
  pub keeps : Keeps old now
  pub room : least ≡ 3 → MakesAtMost most old now
  pub misses : MissesNothing old now

-- none has come
pub begun : (least : ℕ) (w : Worker) → Underway least 0 w w
begun least w = record { keeps = keeps_itself w; room = λ e. omega arith; misses = refl }

-- one has come
pub called : {lean : Bool} {least : ℕ} (n : ℕ) {v w : Worker} {x : Value} → Keeps v w → (least ≡ 3 → MakesAtMost n v w) → HasCause lean v w (Ok x) → Underway least n v w
called n k r c = record { keeps = k; room = r; misses = c.done }

-- one more has come
pub goes_on : {lean : Bool} {least m : ℕ} (n : ℕ) {u v w : Worker} {x : Value} → Underway least m u v → Keeps v w → (least ≡ 3 → MakesAtMost n v w) → HasCause lean v w (Ok x) → Underway least (m + n) u w
goes_on n {u = u} {v = v} {w = w} a k r c = record {
  keeps = keeps_trans u v w a.keeps k;
  room = λ e. omega (arith, a.room e, r e);
  misses = c.done ∙ a.misses;
}

-- a call failed, and so the derivation does
pub stops : {lean : Bool} {least m : ℕ} (n : ℕ) {rows cols counted most : ℕ} {set : Relation} {u v w : Worker} {x : Lack} (r : Result Value Lack) → IsErrAnd r (λ (y : Lack). y ≡ x) → Underway least m u v → Keeps v w → (least ≡ 3 → MakesAtMost n v w)
    → HasCause {T = Value} lean v w (Err x) → m + n ≤ most → most ≤ counted → Derives least lean u w rows cols set counted most r
stops {lean} n {rows = rows} {cols = cols} {set = set} {u = u} {v = v} {w = w} {x = x} r e a k q c fits within =
    let p = err_from_is_err_and r e in
    record {
      value = subst (λ (z : Result Value Lack). IfOk z (GivesValue w rows cols set)) (sym p.1) tt;
      form = subst (λ (z : Result Value Lack). IfOk z HasForm) (sym p.1) tt;
      keeps = keeps_trans u v w a.keeps k;
      cost = λ d. omega (arith, a.room d, q d, fits, within);
      close = λ d. omega (arith, a.room d, q d, fits);
      cause = failed_cause lean u v w x p.0 r a.misses c p.1 p.2;
    }

-- what is made at most is no more than the language counts
pub residual_counted : (k m n : ℕ) → residual_room k m n ≤ derived_room k m n
residual_counted k m n = omega (arith, derived_room-least k m n)

pub quotient_counted : (k m n : ℕ) → derived_room k m n ≤ wide_room k m n
quotient_counted k m n = omega (arith, wide_room-four k m n)

-- the derivation answers what its last call does
pub ends : {lean : Bool} {least m : ℕ} (n : ℕ) {rows cols i j counted most : ℕ} {set other : Relation} {u v w : Worker} (r : Result Value Lack) → Underway least m u v → Keeps v w → (least ≡ 3 → MakesAtMost n v w) → HasCause lean v w r
    → IfOk r (GivesValue w i j other) → IfOk r HasForm → i ≡ rows → j ≡ cols → other ≡ set → m + n ≤ most → most ≤ counted → Derives least lean u w rows cols set counted most r
ends {lean} n {u = u} {v = v} {w = w} r a k q c g f er ec es fits within = record {
  value = recast_ok w r er ec es g;
  form = f;
  keeps = keeps_trans u v w a.keeps k;
  cost = λ d. omega (arith, a.room d, q d, fits, within);
  close = λ d. omega (arith, a.room d, q d, fits);
  cause = later_cause lean u v w r a.misses c;
}
