-- Calls one after the other, and what they promise together of an operation on values.
-- 1. `Underway` holds while they come: all that stood stands, so many nodes were made at most, and no place was missing
--    (`begun`, `called`, `goes_on`).
-- 2. A call that fails ends the operation with its cause (`stops`).
-- 3. The last one gives the value of the operation: one that stands whole owes nothing more (`ends_whole`), another
--    what making it whole takes (`ends`). Or the operation answers what its last call does (`ends_value`, `ends_rel`,
--    `after`).
-- 4. A test ends likewise (`stops_test`, `ends_test`).
use Rattle.std.proofs.Common.{◌≡◌, ◌≤◌, ◌+◌, ◌/◌, ◌%◌, ◌∙◌, ℕ, Bool, Result, IfOk, refl, sym, ap, subst, arith, Some}
use Rattle.std.specs.Prelude.{Ok, Err, IfErr, IsTrue, ◌↔◌}
use Rattle.std.specs.Result.{IsErrAnd}
use Rattle.std.proofs.lemmas.Result.{err_from_is_err_and}
use Rattle.rel_model.specs.declared.Lack.{Lack}
use Rattle.rel_model.specs.declared.faults.DomainError.{DomainError}
use Rattle.rel_model.specs.declared.Rel.{Rel}
use Rattle.rel_model.specs.Relation.{Relation, IsRelation}
use Rattle.rel_model.specs.Operators.{transpose, transposed_by}
use Rattle.rel_model.specs.Algebra.{HasType}
use Rattle.rel_model.specs.Worker.{Worker, Stands, Gives, Keeps, MakesAtMost, MissesNothing, HasCause}
use Rattle.rel_model.proofs.Workers.{keeps_itself, keeps_trans}
use Rattle.rel_model.proofs.OperatorLaws.{transposed_by-even, transposed_by-odd}
use Rattle.rel_model.proofs.Members.{type-transpose}
use Rattle.rel_steps.proofs.Causes.{done_cause, later_cause, failed_cause}
use Rattle.rel_slices.specs.declared.thin.Value.{Value}
use Rattle.rel_slices.specs.declared.thin.Value.TheVariants.{Whole, Lines}
use Rattle.rel_slices.specs.Thin.{ValueStands, value_of, value_rows, value_cols, GivesValue, HasForm, IsLong}
use Rattle.rel_slices.proofs.Valuing.{value_stays, value_same, whole_value, recast_value}
use Rattle.rel_steps.specs.Reading.{OnlyReads}
use Rattle.rel_values.specs.Values.{Fits, owed, Operates, OperatesWithin}
use Rattle.rel_values.specs.Deciding.{Decides}

-- calls have come so far
pub record Underway (most : ℕ) (old now : Worker) : Type 0 where
  pub keeps : Keeps old now
  pub room : MakesAtMost most old now
  pub misses : MissesNothing old now

-- none has come
pub begun : (w : Worker) → Underway 0 w w
begun w = record { keeps = keeps_itself w; room = omega arith; misses = refl }

-- one has only read
pub has_read : {v w : Worker} → OnlyReads v w → Underway 0 v w
has_read r = record { keeps = r.keeps; room = r.room; misses = r.misses }

-- one has come
pub called : {T : Type 0} {lean : Bool} {n : ℕ} {v w : Worker} {x : T} → Keeps v w → MakesAtMost n v w → HasCause lean v w (Ok x) → Underway n v w
called k r c = record { keeps = k; room = r; misses = c.done }

-- one more has come
pub goes_on : {T : Type 0} {lean : Bool} {m : ℕ} (n : ℕ) {u v w : Worker} {x : T} → Underway m u v → Keeps v w → MakesAtMost n v w → HasCause lean v w (Ok x) → Underway (m + n) u w
goes_on n {u = u} {v = v} {w = w} a k r c = record {
  keeps = keeps_trans u v w a.keeps k;
  room = omega (arith, a.room, r);
  misses = c.done ∙ a.misses;
}

-- the cause of a call that failed is that of another which fails by it
failed_alike : {S T : Type 0} (lean : Bool) (v w : Worker) (x : Lack) → HasCause {T = S} lean v w (Err x) → HasCause {T = T} lean v w (Err x)
failed_alike {S} {T} lean v w x h = record {
  full = λ e. h.full (ap (carry (Err x)) e);
  no_memory = λ l e. h.no_memory l (ap (carry (Err x)) e);
  done = tt;
  wanting = λ e. h.wanting (ap (carry (Err x)) e);
}
  where
    carry : Result S Lack → Result T Lack → Result S Lack
    carry d (Ok a) = d
    carry d (Err y) = Err y

-- a call failed, and so the operation does
pub stops : {T : Type 0} {lean : Bool} {m : ℕ} (n : ℕ) {least rows cols cost : ℕ} {set : Relation} {u v w : Worker} {x : Lack} (r : Result Value Lack) → IsErrAnd r (λ (y : Lack). y ≡ x) → m + n ≤ cost → Underway m u v → Keeps v w → MakesAtMost n v w
    → HasCause {T = T} lean v w (Err x) → Operates least lean u w rows cols set cost r
stops {T} {lean} n {least = least} {rows = rows} {cols = cols} {cost = cost} {set = set} {u = u} {v = v} {w = w} {x = x} r e o a k q c =
    let p = err_from_is_err_and r e in
    record {
      value = subst (λ (z : Result Value Lack). IfOk z (GivesValue w rows cols set)) (sym p.1) tt;
      long = subst (λ (z : Result Value Lack). IfOk z IsLong) (sym p.1) tt;
      keeps = keeps_trans u v w a.keeps k;
      room = omega (arith, a.room, q, o);
      owes = subst (λ (z : Result Value Lack). IfOk z (λ (v : Value). w.made + owed least v ≤ u.made + cost)) (sym p.1) tt;
      cause = failed_cause lean u v w x p.0 r a.misses (failed_alike lean v w x c) p.1 p.2;
    }

-- what was made is long lines, or stands whole
pub ends : {least rows cols cost m : ℕ} {lean : Bool} {set : Relation} {u w : Worker} {v : Value} → m + owed least v ≤ cost → Underway m u w → GivesValue w rows cols set v → IsLong v → Operates least lean u w rows cols set cost (Ok v)
ends {lean = lean} {u = u} {w = w} {v = v} o a g l = record {
  value = g;
  long = l;
  keeps = a.keeps;
  room = omega (arith, a.room, o);
  owes = omega (arith, a.room, o);
  cause = done_cause lean u w v a.misses;
}

pub ends_whole : {least rows cols cost m : ℕ} {lean : Bool} {set : Relation} {u w : Worker} {r : Rel} → m ≤ cost → Underway m u w → Gives w rows cols set r → Operates least lean u w rows cols set cost (Ok (Whole r))
ends_whole {least} {rows} {cols} {m = m} {set = set} {w = w} {r = r} o a g = ends {least = least} {m = m} (omega (arith, o)) a (whole_value w rows cols set r g) tt

-- what has the form of its sizes is long
pub form_long : (v : Value) → HasForm v → IsLong v
form_long (Whole r) f = tt
form_long (Lines s) f = f

-- what is given, in other words
pub regives : {m n p q : ℕ} {x y : Relation} {w : Worker} {r : Rel} → m ≡ p → n ≡ q → x ≡ y → Gives w m n x r → Gives w p q y r
regives a b c g = record { means = g.means ∙ ap Some c; row_size = g.row_size ∙ a; col_size = g.col_size ∙ b }

-- the operation answers what its last call does, a value in the form of its sizes
pub ends_value : {lean : Bool} {m : ℕ} (n : ℕ) {least rows cols cost i j : ℕ} {set other : Relation} {u v w : Worker} (r : Result Value Lack) → Underway m u v → Keeps v w → MakesAtMost n v w → HasCause lean v w r → IfOk r (GivesValue w i j other) → IfOk r HasForm
    → i ≡ rows → j ≡ cols → other ≡ set → m + n ≤ cost → ((a : Value) → GivesValue w rows cols set a → HasForm a → m + n + owed least a ≤ cost) → Operates least lean u w rows cols set cost r
ends_value {lean} n {u = u} {v = v} {w = w} (Err x) a k q c g f er ec es o p = record {
  value = tt;
  long = tt;
  keeps = keeps_trans u v w a.keeps k;
  room = omega (arith, a.room, q, o);
  owes = tt;
  cause = later_cause lean u v w (Err x) a.misses c;
}
ends_value {lean} {m} n {least} {rows} {cols} {cost} {u = u} {v = v} {w = w} (Ok y) a k q c g f er ec es o p =
    let t = recast_value w _ _ _ _ _ _ y er ec es g in
    let l = p y t f in
    record {
      value = t;
      long = form_long y f;
      keeps = keeps_trans u v w a.keeps k;
      room = omega (arith, a.room, q, o);
      owes = omega (arith, a.room, q, l);
      cause = later_cause lean u v w (Ok y) a.misses c;
    }

-- the operation answers what its last call does, a relation that stands whole
pub ends_rel : {lean : Bool} {m : ℕ} (n : ℕ) {least rows cols cost i j : ℕ} {set other : Relation} {u v w : Worker} (s : Result Rel Lack) (r : Result Value Lack) → IfOk s (λ (x : Rel). r ≡ Ok (Whole x)) → IfErr s (λ (y : Lack). r ≡ Err y) → Underway m u v → Keeps v w → MakesAtMost n v w → HasCause lean v w s → IfOk s (Gives w i j other)
    → i ≡ rows → j ≡ cols → other ≡ set → m + n ≤ cost → Operates least lean u w rows cols set cost r
ends_rel {lean} {m} n {least} {rows} {cols} {cost} {set = set} {u = u} {v = v} {w = w} (Err x) r good bad a k q c g er ec es o =
    subst (Operates least lean u w rows cols set cost) (sym bad) (record {
      value = tt;
      long = tt;
      keeps = keeps_trans u v w a.keeps k;
      room = omega (arith, a.room, q, o);
      owes = tt;
      cause = later_cause lean u v w (Err x) a.misses (failed_alike lean v w x c);
    })
ends_rel {lean} {m} n {least} {rows} {cols} {cost} {set = set} {u = u} {v = v} {w = w} (Ok x) r good bad a k q c g er ec es o =
    subst (Operates least lean u w rows cols set cost) (sym good) (ends_whole {m = m + n} o (goes_on n a k q c) (regives er ec es g))

-- the operation answers what another does
pub after : {lean : Bool} {m least rows cols cost i j inner : ℕ} {set other : Relation} {u v w : Worker} (r : Result Value Lack) → Underway m u v → Operates least lean v w i j other inner r → i ≡ rows → j ≡ cols → other ≡ set → m + inner ≤ cost → Operates least lean u w rows cols set cost r
after {lean} {u = u} {v = v} {w = w} (Err x) a q er ec es o = record {
  value = tt;
  long = tt;
  keeps = keeps_trans u v w a.keeps q.keeps;
  room = omega (arith, a.room, q.room, o);
  owes = tt;
  cause = later_cause lean u v w (Err x) a.misses q.cause;
}
after {lean} {u = u} {v = v} {w = w} (Ok y) a q er ec es o = record {
  value = recast_value w _ _ _ _ _ _ y er ec es q.value;
  long = q.long;
  keeps = keeps_trans u v w a.keeps q.keeps;
  room = omega (arith, a.room, q.room, o);
  owes = omega (arith, a.room, q.owes, o);
  cause = later_cause lean u v w (Ok y) a.misses q.cause;
}

-- a value that was given goes on meaning its set
pub value_later : (u v : Worker) (m n : ℕ) (set : Relation) (x : Value) → Keeps u v → GivesValue u m n set x → GivesValue v m n set x
value_later u v m n set x k g = record {
  stands = value_stays u v x k g.stands;
  means = value_same u v x k g.stands ∙ g.means;
  row_size = g.row_size;
  col_size = g.col_size;
}

-- ---- tests
-- a call failed, and so the test does
pub stops_test : {T : Type 0} {lean : Bool} (n : ℕ) {m cost : ℕ} {fact : Type 0} {u v w : Worker} {x : Lack} (r : Result Bool Lack) → IsErrAnd r (λ (y : Lack). y ≡ x) → m + n ≤ cost → Underway m u v → Keeps v w → MakesAtMost n v w
    → HasCause {T = T} lean v w (Err x) → Decides lean u w fact cost r
stops_test {lean = lean} n {cost = cost} {fact = fact} {u = u} {v = v} {w = w} {x = x} r e o a k q c =
    let p = err_from_is_err_and r e in
    record {
      value = subst (λ (z : Result Bool Lack). IfOk z (λ yes. IsTrue yes ↔ fact)) (sym p.1) tt;
      keeps = keeps_trans u v w a.keeps k;
      room = omega (arith, a.room, q, o);
      cause = failed_cause lean u v w x p.0 r a.misses (failed_alike lean v w x c) p.1 p.2;
    }

-- what was read after them is the answer
pub ends_test : {lean : Bool} {m cost : ℕ} {fact : Type 0} {u w : Worker} {answer : Bool} → m ≤ cost → Underway m u w → IsTrue answer ↔ fact → Decides lean u w fact cost (Ok answer)
ends_test {lean} {u = u} {w = w} {answer = answer} o a t = record {
  value = t;
  keeps = a.keeps;
  room = omega (arith, a.room, o);
  cause = done_cause lean u w answer a.misses;
}

-- ---- the same of other words
pub recast : {least : ℕ} {lean : Bool} {u w : Worker} {m n p q cost : ℕ} {x y : Relation} {r : Result Value Lack} → m ≡ p → n ≡ q → x ≡ y → Operates least lean u w m n x cost r → Operates least lean u w p q y cost r
recast {least} {lean} {u} {w} {m} {n} {p} {q} {cost} {x} {y} {r} e f h o =
    subst (λ (k : ℕ). Operates least lean u w k q y cost r) e
    (subst (λ (k : ℕ). Operates least lean u w m k y cost r) f
    (subst (λ (z : Relation). Operates least lean u w m n z cost r) h o))

-- ---- so many transpositions
pub turned_even : (n : ℕ) (r : Relation) → n % 2 ≡ 0 → IsRelation r → transposed_by n r ≡ r
turned_even n r e v = let d : n ≡ n / 2 + n / 2 = omega (arith, e) in ap (λ (x : ℕ). transposed_by x r) d ∙ transposed_by-even (n / 2) r v

pub turned_odd : (n : ℕ) (r : Relation) → n % 2 ≡ 1 → IsRelation r → transposed_by n r ≡ transpose r
turned_odd n r e v = let d : n ≡ n / 2 + n / 2 + 1 = omega (arith, e) in ap (λ (x : ℕ). transposed_by x r) d ∙ transposed_by-odd (n / 2) r v

-- a value is itself transposed evenly
pub turned_value : (w : Worker) (n : ℕ) (v : Value) → n % 2 ≡ 0 → ValueStands w v → HasType (value_rows v) (value_cols v) (value_of w v)
    → GivesValue w (transposed_by n (value_of w v)).rows (transposed_by n (value_of w v)).cols (transposed_by n (value_of w v)) v
turned_value w n v e s t =
    let d = sym (turned_even n (value_of w v) e t.valid) in
    record {
      stands = s;
      means = d;
      row_size = sym t.row_size ∙ ap (λ (r : Relation). r.rows) d;
      col_size = sym t.col_size ∙ ap (λ (r : Relation). r.cols) d;
    }

-- and transposed oddly it is as transposed once
pub turned_once : {least cost : ℕ} {lean : Bool} {u w : Worker} {result : Result Value Lack} (n : ℕ) (v : Value) → n % 2 ≡ 1 → HasType (value_rows v) (value_cols v) (value_of u v)
    → Operates least lean u w (value_cols v) (value_rows v) (transpose (value_of u v)) cost result
    → Operates least lean u w (transposed_by n (value_of u v)).rows (transposed_by n (value_of u v)).cols (transposed_by n (value_of u v)) cost result
turned_once {u = u} n v e t o =
    let d = sym (turned_odd n (value_of u v) e t.valid) in
    let tt = type-transpose (value_rows v) (value_cols v) (value_of u v) t in
    recast (sym tt.row_size ∙ ap (λ (r : Relation). r.rows) d) (sym tt.col_size ∙ ap (λ (r : Relation). r.cols) d) d o

-- ---- values that fit
-- what stood goes on standing, and lines stay long
pub fits_stays : (u w : Worker) (v : Value) → Keeps u w → Fits u v → Fits w v
fits_stays u w v k f = record { stands = value_stays u w v k f.stands; long = f.long }

-- what was given in its form
pub given_fits : {w : Worker} {m n : ℕ} {set : Relation} (v : Value) → GivesValue w m n set v → HasForm v → Fits w v
given_fits v g f = record { stands = g.stands; long = form_long v f }

-- what stands whole
pub whole_fits : {w : Worker} (r : Rel) → Stands w r → Fits w (Whole r)
whole_fits r s = record { stands = s; long = tt }

-- what an operation answered
pub operates_fits : {least : ℕ} {lean : Bool} {u w : Worker} {m n cost : ℕ} {set : Relation} (r : Result Value Lack) → Operates least lean u w m n set cost r → IfOk r (Fits w)
operates_fits (Ok v) o = record { stands = o.value.stands; long = o.long }
operates_fits (Err x) o = tt

pub operates_within_fits : {least : ℕ} {lean : Bool} {u w : Worker} {m n cost wanted : ℕ} {set : Relation} (r : Result Value DomainError) → OperatesWithin least lean u w m n set cost wanted r → IfOk r (Fits w)
operates_within_fits (Ok v) o = record { stands = o.value.stands; long = o.long }
operates_within_fits (Err x) o = tt
