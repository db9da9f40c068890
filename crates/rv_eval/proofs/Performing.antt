-- What the calls of operations come to. Each call of the code is one lemma:
-- 1. An operation on values performs what it makes, once its answer is lifted (`lifted_performs`), and so does one on
--    relations, whose answer is made a value before (`whole_performs`).
-- 2. What performs an operation performs each that is the same (`performs_as`).
-- 3. A fault of types performs an operation that refuses (`fault_performs`).
-- 4. After a test, `Tested` holds: then want of nodes performs the whole (`lack_performs`), and so does the truth value of
--    what it told (`truth_performs`).
use Rattle.std.proofs.Common.{◌≡◌, ◌≤◌, ◌+◌, ◌∙◌, ◌⊎◌, ℕ, Bool, sym, ap, subst, arith, Result, Err, IfOk}
use Rattle.rel_model.specs.declared.Rel.{Rel}
use Rattle.rel_model.specs.declared.Lack.{Lack}
use Rattle.rel_model.specs.declared.Lack.TheVariants.{NoMemory}
use Rattle.rel_model.specs.Relation.{Relation}
use Rattle.rel_model.specs.Worker.{Worker, Gives, Keeps, HasCause, operator_room}
use Rattle.rel_model.proofs.Workers.{keeps_itself}
use Rattle.rel_slices.specs.declared.thin.Value.{Value}
use Rattle.rel_values.specs.Values.{Operates}
use Rattle.lang_model.specs.declared.faults.TypeFault.{TypeFault}
use Rattle.lang_model.specs.Outcomes.{Cost, Ill, Operation, Makes, Refuses, with_turns}
use Rattle.lang_model.specs.Rooms.{plain_cost}
use Rattle.lang_model.specs.Mean.{answer_of_test}
use Rattle.rv_eval.specs.declared.halt.Halt.{Halt}
use Rattle.rv_eval.specs.declared.halt.Halt.TheVariants.{Ill as ILL, Lack as LACK}
use Rattle.rv_eval.specs.Ends.{Performs, wholly, lifted}
use Rattle.rv_eval.proofs.Going.{refuses}
use Rattle.rv_eval.proofs.Operating.{made_ends, made_fits, made_lack, whole_operates}
use Rattle.rv_eval.proofs.Costing.{test_plain, counted_more}
use Rattle.rv_eval.proofs.Basing.{after_made}

-- ---- operations
pub lifted_performs : {leaf k l room : ℕ} {old new : Worker} {lean : Bool} {value : Relation} {cost : Cost}
    {o : Operation} {given : Result Value Lack} {result : Result Value Halt}
    → o ≡ Makes value cost → result ≡ lifted given → room ≤ cost leaf → Operates leaf lean old new k l value room given
    → Performs leaf old new o result
lifted_performs {old = old} {new = new} {given = given} {result = result} is lifts less made = record {
  ends = made_ends old new _ _ _ _ _ _ _ given result is lifts less made;
  fits = made_fits old new _ _ _ _ _ given result lifts made;
}

pub whole_performs : {leaf room : ℕ} {old new : Worker} {lean : Bool} {value : Relation} {cost : Cost} {o : Operation}
    {whole : Result Value Lack} {result : Result Value Halt} (k l : ℕ) (given : Result Rel Lack)
    → o ≡ Makes value cost → whole ≡ wholly given → result ≡ lifted whole → room ≤ cost leaf
    → IfOk given (Gives new k l value) → Keeps old new → new.made ≤ old.made + room → HasCause lean old new given
    → Performs leaf old new o result
whole_performs {old = old} {new = new} {whole = whole} k l given is made lifts less gives keeps room cause =
    lifted_performs is lifts less (whole_operates old new _ k l _ _ given whole made gives keeps room cause)

-- ---- the same said of another operation
pub performs_as : {leaf : ℕ} {old new : Worker} {o p : Operation} {r : Result Value Halt} → o ≡ p
    → Performs leaf old new p r → Performs leaf old new o r
performs_as {leaf = leaf} {old = old} {new = new} {r = r} is p = subst (λ x. Performs leaf old new x r) (sym is) p

-- ---- refusals
pub fault_performs : {leaf : ℕ} {w : Worker} {o : Operation} {fault : TypeFault} {halt : Halt}
    → o ≡ Refuses (Ill fault) → (halt ≡ ILL fault) ⊎ (halt ≡ LACK NoMemory) → Performs leaf w w o (Err halt)
fault_performs {w = w} is told = record { ends = refuses w 0 _ _ _ _ _ (ap (λ o. with_turns o 0) is) told; fits = tt }

-- ---- tests
-- a test on these sizes went before: what stood stands, and it made no more nodes than an operator
pub record Tested (old new : Worker) (rows cols : ℕ) : Type 0 where
  pub keeps : Keeps old new
  pub room : new.made ≤ old.made + operator_room rows cols

pub tested_still : {rows cols : ℕ} (w : Worker) → Tested w w rows cols
tested_still w = record { keeps = keeps_itself w; room = omega arith }

pub tested_read : {rows cols : ℕ} {old new : Worker} → Keeps old new → new.made ≤ old.made + 0
    → Tested old new rows cols
tested_read kept none = record { keeps = kept; room = omega (arith, none) }

pub tested_by : {rows cols m n : ℕ} {old new : Worker} → m ≡ rows → n ≡ cols → Keeps old new
    → new.made ≤ old.made + operator_room rows cols → Tested old new m n
tested_by {rows = rows} {cols = cols} {m = m} {n = n} {old = old} {new = new} a b kept made = record {
  keeps = kept;
  room = (let same : operator_room m n ≡ operator_room rows cols =
      ap (λ k. operator_room k n) a ∙ ap (operator_room rows) b in
      omega (arith, made, same));
}

pub lack_performs : {leaf rows cols : ℕ} {old new : Worker} {lean : Bool} {value : Relation} {o : Operation}
    {lack : Lack} → o ≡ Makes value (plain_cost rows cols) → Tested old new rows cols
    → HasCause {T = Bool} lean old new (Err lack) → Performs leaf old new o (Err (LACK lack))
lack_performs {leaf = leaf} {rows = rows} {cols = cols} {old = old} {new = new} {lean = lean} {lack = lack} is t cause =
    let fits = test_plain leaf rows cols in
    let made = t.room in
    performs_as is (record {
      ends = made_lack old new 0 _ _ _ lean lack cause t.keeps (omega (arith, made, fits));
      fits = tt;
    })

pub truth_performs : {leaf rows cols : ℕ} {old mid new : Worker} {yes told : Bool} {o : Operation}
    {r : Result Value Halt} → o ≡ Makes (answer_of_test yes) (plain_cost rows cols) → yes ≡ told
    → Tested old mid rows cols → Performs leaf mid new (Makes (answer_of_test told) (λ leaf. operator_room 1 1)) r
    → Performs leaf old new o r
truth_performs {leaf = leaf} {rows = rows} {cols = cols} {old = old} {mid = mid} {new = new} {r = r} is same t p =
    performs_as is (performs_as (ap (λ b. Makes (answer_of_test b) (plain_cost rows cols)) same) (record {
      ends = counted_more old new _ _ _ r (test_plain leaf rows cols)
          (after_made old mid new _ (λ leaf. operator_room rows cols) (λ leaf. operator_room 1 1) r t.keeps t.room p.ends);
      fits = p.fits;
    }))
