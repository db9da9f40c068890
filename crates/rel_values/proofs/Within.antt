-- Calls of an operation whose answer may be too large.
use Rattle.std.proofs.Common.{◌≡◌, ◌<◌, ◌≤◌, ◌+◌, ◌-◌, ◌*◌, ◌^◌, ◌∙◌, max, ℕ, Bool, Result, IfOk, sym, ap, subst, arith}
use Rattle.std.specs.Prelude.{Ok, Err, IfErr}
use Rattle.rel_model.specs.declared.Rel.{Rel}
use Rattle.rel_model.specs.declared.Lack.{Lack}
use Rattle.rel_model.specs.declared.Lack.TheVariants.{Full as LACK_FULL, NoMemory as LACK_MEMORY}
use Rattle.rel_model.specs.declared.faults.DomainError.{DomainError}
use Rattle.rel_model.specs.declared.faults.DomainError.TheVariants.{Full, NoMemory}
use Rattle.rel_model.specs.Relation.{Relation, size_limit}
use Rattle.rel_model.specs.Roots.{relation_room, tree_room}
use Rattle.rel_model.specs.Domains.{HasDomainCause}
use Rattle.rel_model.specs.Worker.{Worker, Gives, Keeps, MakesAtMost, MissesNothing, Rose, HasCause, height_of, height_of_three, derived_room, wide_room}
use Rattle.rel_model.proofs.Heights.{height_of-covers, height_of-least, power_up}
use Rattle.rel_model.proofs.Rooms.{derived_room-least, derived_room-most, wide_room-four}
use Rattle.rel_model.proofs.Workers.{keeps_trans}
use Rattle.rel_slices.specs.declared.thin.Value.{Value}
use Rattle.rel_slices.specs.declared.thin.Value.TheVariants.{Whole}
use Rattle.rel_slices.specs.Thin.{GivesValue, HasForm, value_rows, value_cols}
use Rattle.rel_slices.proofs.Membering.{member_height}
use Rattle.rel_slices.proofs.Rooming.{trees_fit, tree_fits}
use Rattle.rel_slices.proofs.Costs.{squares_in_cubes, first_covered, last_covered, some_side}
use Rattle.rel_values.specs.Values.{Fits, OperatesWithin, owed}
use Rattle.rel_values.proofs.Operating.{Underway, form_long, regives}
use Rattle.rel_slices.proofs.Valuing.{whole_value}
use Rattle.rel_values.proofs.Sizes.{owed_at}

-- the cause of a call that came after others which missed nothing
later_within : {T : Type 0} (lean : Bool) (wanted : ℕ) (u v w : Worker) (r : Result T DomainError) → MissesNothing u v → HasDomainCause lean wanted v w r → HasDomainCause lean wanted u w r
later_within lean wanted u v w r e h = record {
  size = h.size;
  full = λ f. subst (λ (n : ℕ). Rose n w.misses) e (h.full f);
  no_memory = h.no_memory;
  done = subst (λ (n : ℕ). IfOk r (λ x. w.misses ≡ n)) e h.done;
  wanting = λ f. h.wanting f ∙ e;
  over = λ l. h.over l ∙ e;
}

-- a failure is that of another call
failed_within : {S T : Type 0} (lean : Bool) (wanted : ℕ) (v w : Worker) (x : DomainError) → HasDomainCause {T = S} lean wanted v w (Err x) → HasDomainCause {T = T} lean wanted v w (Err x)
failed_within {S} {T} lean wanted v w x h = record {
  size = h.size;
  full = λ e. h.full (ap (carry (Err x)) e);
  no_memory = λ l e. h.no_memory l (ap (carry (Err x)) e);
  done = tt;
  wanting = λ e. h.wanting (ap (carry (Err x)) e);
  over = h.over;
}
  where
    carry : Result S DomainError → Result T DomainError → Result S DomainError
    carry d (Ok a) = d
    carry d (Err y) = Err y

-- the operation answers what its last call does, a relation that stands whole
pub ends_within : {lean : Bool} {m : ℕ} (n : ℕ) {least rows cols cost wanted i j : ℕ} {set other : Relation} {u v w : Worker} (s : Result Rel DomainError) (r : Result Value DomainError) → IfOk s (λ (x : Rel). r ≡ Ok (Whole x)) → IfErr s (λ (y : DomainError). r ≡ Err y) → Underway m u v → Keeps v w → MakesAtMost n v w
    → (size_limit < wanted → MakesAtMost 0 u w) → HasDomainCause lean wanted v w s → IfOk s (Gives w i j other) → i ≡ rows → j ≡ cols → other ≡ set → m + n ≤ cost → OperatesWithin least lean u w rows cols set cost wanted r
ends_within {lean} {m} n {least} {rows} {cols} {cost} {wanted} {set = set} {u = u} {v = v} {w = w} (Err x) r good bad a k q z c g er ec es o =
    subst (OperatesWithin least lean u w rows cols set cost wanted) (sym bad) (record {
      value = tt;
      long = tt;
      keeps = keeps_trans u v w a.keeps k;
      room = omega (arith, a.room, q, o);
      owes = tt;
      nothing = z;
      cause = later_within lean wanted u v w (Err x) a.misses (failed_within lean wanted v w x c);
    })
ends_within {lean} {m} n {least} {rows} {cols} {cost} {wanted} {set = set} {u = u} {v = v} {w = w} (Ok x) r good bad a k q z c g er ec es o =
    subst (OperatesWithin least lean u w rows cols set cost wanted) (sym good) (record {
      value = whole_value w rows cols set x (regives er ec es g);
      long = tt;
      keeps = keeps_trans u v w a.keeps k;
      room = omega (arith, a.room, q, o);
      owes = omega (arith, a.room, q, o);
      nothing = z;
      cause = record {
        size = tt;
        full = λ e. cc;
        no_memory = λ l e. cc;
        done = c.done ∙ a.misses;
        wanting = λ e. absurd cc;
        over = λ l. c.over l ∙ a.misses;
      };
    })

-- a call was refused for a full table
pub full_within : {T : Type 0} {lean : Bool} {least rows cols cost wanted : ℕ} {set : Relation} {o w : Worker} {x : Lack} → wanted ≤ size_limit → x ≡ LACK_FULL → Keeps o w → MakesAtMost cost o w → HasCause {T = T} lean o w (Err x) → OperatesWithin least lean o w rows cols set cost wanted (Err Full)
full_within l e k r c = record {
  value = tt;
  long = tt;
  keeps = k;
  room = r;
  owes = tt;
  nothing = λ m. absurd (omega (arith, l, m));
  cause = record {
    size = l;
    full = λ h. c.full (ap Err e);
    no_memory = λ n h. cc;
    done = tt;
    wanting = λ h. absurd cc;
    over = λ m. absurd (omega (arith, l, m));
  };
}

-- or for want of memory
pub memory_within : {T : Type 0} {lean : Bool} {least rows cols cost wanted : ℕ} {set : Relation} {o w : Worker} {x : Lack} → wanted ≤ size_limit → x ≡ LACK_MEMORY → Keeps o w → MakesAtMost cost o w → HasCause {T = T} lean o w (Err x) → OperatesWithin least lean o w rows cols set cost wanted (Err NoMemory)
memory_within l e k r c = record {
  value = tt;
  long = tt;
  keeps = k;
  room = r;
  owes = tt;
  nothing = λ m. absurd (omega (arith, l, m));
  cause = record {
    size = l;
    full = λ h. absurd cc;
    no_memory = λ n h. c.no_memory n (ap Err e);
    done = tt;
    wanting = λ h. c.wanting (ap Err e);
    over = λ m. absurd (omega (arith, l, m));
  };
}

-- a smaller size has no greater height
height_up : (m n : ℕ) → m ≤ n → n ≤ size_limit → height_of m ≤ height_of n
height_up m n l a = let p = height_of-covers n a in height_of-least m (height_of n) (omega (arith, l, p))

-- two values made whole, and their pairing
pub pair_cost : (least : ℕ) (o : Worker) (x y : Value) → least ≡ 3 → Fits o x → Fits o y → value_rows x ≡ value_rows y → value_cols x ≤ size_limit → value_cols y ≤ size_limit
    → owed least x + owed least y + derived_room (value_rows x) (max (value_cols x) (value_cols y)) (value_cols x * value_cols y) ≤ wide_room (value_rows x) (max (value_cols x) (value_cols y)) (value_cols x * value_cols y)
pair_cost least o x y e f t q a b =
    let k : ℕ = value_rows x in
    let m : ℕ = max (value_cols x) (value_cols y) in
    let n : ℕ = value_cols x * value_cols y in
    let h : ℕ = height_of_three k m n in
    let u = height_up (value_cols x) m (omega arith) (omega (arith, a, b)) in
    let v = height_up (value_cols y) m (omega arith) (omega (arith, a, b)) in
    let i = owed_at least h o x e f (omega arith) (omega (arith, u)) in
    let j = owed_at least h o y e t (subst (λ (z : ℕ). height_of z ≤ h) q (omega arith)) (omega (arith, v)) in
    let s = squares_in_cubes h in
    let l = derived_room-least k m n in
    let r = wide_room-four k m n in
    omega (arith, i, j, s, l, r)

-- membership that stands whole
pub epsi_cost : (x : ℕ) → derived_room x (2 ^ x) (2 ^ x) ≤ wide_room x 1 (2 ^ x)
epsi_cost x =
    let d = derived_room-most x (2 ^ x) (2 ^ x) x 1 (2 ^ x) (omega arith) (omega arith) (omega arith) in
    let r = wide_room-four x 1 (2 ^ x) in
    omega (arith, d, r)

-- membership as lines, of which each is a tree of the columns
pub member_cost : (least x : ℕ) → least ≡ 3 → 9 ≤ x → x ≤ 24 → x * tree_room (x - least) ≤ 4 * 4 ^ height_of_three x 1 (2 ^ x)
member_cost least x e low few = subst (λ (l : ℕ). x * tree_room (x - l) ≤ 4 * 4 ^ height_of_three x 1 (2 ^ x)) (sym e) (
    let h : ℕ = height_of_three x 1 (2 ^ x) in
    let top : 2 ^ x ≤ size_limit = power_up x 24 few in
    let a = first_covered x 1 (2 ^ x) (omega (arith, few)) in
    let b = last_covered x 1 (2 ^ x) top in
    let t : relation_room 3 1 (2 ^ x) ≡ tree_room (x - 3) = ap (λ (y : ℕ). tree_room (y - 3)) (member_height 3 x (omega arith) (omega (arith, low)) few) in
    let f = trees_fit x (relation_room 3 1 (2 ^ x)) h (omega (arith, few)) a (tree_fits 1 (2 ^ x) h (some_side h) b) in
    let m = ap (λ (y : ℕ). x * y) t in
    omega (arith, f, m))

pub members_room : (x made owes : ℕ) → made ≤ 4 * 4 ^ height_of_three x 1 (2 ^ x) → owes ≤ 4 ^ height_of_three x 1 (2 ^ x) → made + owes ≤ wide_room x 1 (2 ^ x)
members_room x made owes p q =
    let s = squares_in_cubes (height_of_three x 1 (2 ^ x)) in
    let l = derived_room-least x 1 (2 ^ x) in
    let r = wide_room-four x 1 (2 ^ x) in
    omega (arith, p, q, s, l, r)

-- the lines are the answer
pub lines_within : {lean : Bool} {least rows cols cost wanted : ℕ} (made : ℕ) {set : Relation} {o w : Worker} {v : Value} → wanted ≤ size_limit → made + owed least v ≤ cost → Keeps o w → MakesAtMost made o w → MissesNothing o w → GivesValue w rows cols set v → HasForm v → OperatesWithin least lean o w rows cols set cost wanted (Ok v)
lines_within made {o = o} {w = w} {v = v} l q k r n g f = record {
  value = g;
  long = form_long v f;
  keeps = k;
  room = omega (arith, q, r);
  owes = omega (arith, q, r);
  nothing = λ m. absurd (omega (arith, l, m));
  cause = record {
    size = tt;
    full = λ e. cc;
    no_memory = λ p e. cc;
    done = n;
    wanting = λ e. n;
    over = λ m. n;
  };
}
