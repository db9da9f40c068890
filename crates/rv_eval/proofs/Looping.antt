-- The loops of the walk, each from where it stands to the end of one round.
-- 1. A WHILE stands before its test: what is left to do is a round (`rounds`). The test halts it, or is passed.
-- 2. Behind a test that fails it has ended; otherwise it takes a turn, if one is left, and its body halts it, or it
--    stands before its test again.
-- 3. A chain stands before its next link: the operand on the right halts it, or it stands before the operator.
-- 4. Arguments stand before the next one.
use Rattle.std.proofs.Common.{◌≡◌, ◌≢◌, ◌≤◌, ◌<◌, ◌+◌, ◌-◌, ◌∙◌, ℕ, suc, max, Bool, true, false, cond, List, [], ◌∷◌, ◌++◌, length, map, drop, get_or, Ok, Err, sym, ap, arith}
use Rattle.lang_model.specs.declared.syntax.Place.{Place}
use Rattle.lang_model.specs.declared.syntax.Expr.{Expr}
use Rattle.lang_model.specs.declared.syntax.Link.{Link}
use Rattle.rel_model.specs.Relation.{Relation}
use Rattle.rel_model.specs.Worker.{Worker}
use Rattle.rel_slices.specs.declared.thin.Value.{Value}
use Rattle.rel_slices.specs.Thin.{value_of}
use Rattle.rel_values.specs.Values.{Fits, owed}
use Rattle.lang_model.specs.State.{State}
use Rattle.lang_model.specs.Outcomes.{Came, Turns, got, and_then, with_turns}
use Rattle.lang_model.specs.Mean.{Around, mean, means_by, mean_by, linked, one_turn, rounds}
use Rattle.rv_eval.specs.declared.halt.Halt.{Halt}
use Rattle.rv_eval.specs.declared.halt.Halt.TheVariants.{Turns as TURNS}
use Rattle.rv_eval.specs.Values.{state_by, AllFit, names_owe, values_owe}
use Rattle.rv_eval.specs.Ends.{Ends, EndsRun}
use Rattle.rv_eval.proofs.Going.{Goes, goes_as, goes_with, goes_turn, goes_on, goes_err, goes_got, goes_not}
use Rattle.rv_eval.proofs.Fitting.{value_kept, state_kept}
use Rattle.rv_eval.proofs.Unfolding.{turn_taken, links_next, args_next}

-- ---- a WHILE before its test, in worker v with m turns left
module _ {leaf start : ℕ} (at : Place) (test : State → ℕ → Came Bool) (body : State → ℕ → Came State) (k : ℕ)
    {old v : Worker} {n m : ℕ} {names slice : List (List ℕ × Value)} {total : Came State}
    (is : slice ≡ names) (stand : AllFit v names)
    (stood : Goes leaf old v n m start (names_owe leaf names) total (rounds at test body (suc k) (state_by v names) m)) where
  before : Goes leaf old v n m start (names_owe leaf names) total
      (and_then (test (state_by v slice) m) (λ b i. cond b (one_turn at body (rounds at test body k) (state_by v names) i) (got (state_by v names) i)))
  before =
      goes_as _ _ _ _ _ _ _
      (ap (λ xs. and_then (test (state_by v xs) m) (λ b i. cond b (one_turn at body (rounds at test body k) (state_by v names) i) (got (state_by v names) i))) (sym is))
      stood

  -- where the test of a loop halts, the loop does
  pub test_halts : {X : Type 0} {begun : ℕ} (u : Worker) (j : ℕ) (js : X → State) (further : X → ℕ) (h : Halt)
      → Ends leaf {X = Bool} v u m j begun (test (state_by v slice) m) (λ b. b) (λ b. 0) (Err h) → Ends leaf old u n j start total js further (Err h)
  test_halts u j js further h e = goes_err _ _ _ _ _ _ _ _ _ _ _ _ _ _ before e

  module _ {u : Worker} {j : ℕ} (b : Bool)
      (tested : Ends leaf v u m j (names_owe leaf slice) (test (state_by v slice) m) (λ b. b) (λ b. 0) (Ok b)) where
    kept : state_by v names ≡ state_by u names
    kept = sym (state_kept v u names tested.keeps stand)

    passed : Goes leaf old u n j start (max 0 (names_owe leaf names)) total (cond b (one_turn at body (rounds at test body k) (state_by v names) j) (got (state_by v names) j))
    passed = let owe : names_owe leaf slice ≡ names_owe leaf names = ap (names_owe leaf) is in goes_on _ _ _ _ _ _ _ _ _ _ _ _ before tested (omega (arith, owe))

    chosen : (c : Bool) → b ≡ c → Goes leaf old u n j start (max 0 (names_owe leaf names)) total (cond c (one_turn at body (rounds at test body k) (state_by v names) j) (got (state_by v names) j))
    chosen c e = goes_as _ _ _ _ _ _ _ (ap (λ b. cond b (one_turn at body (rounds at test body k) (state_by v names) j) (got (state_by v names) j)) e) passed

    pub loop_ends : {X : Type 0} (x : X) → b ≡ false → Ends leaf old u n j start total (λ (y : X). state_by u names) (λ y. names_owe leaf names) (Ok x)
    loop_ends x e = goes_got _ _ _ _ _ _ _ _ _ kept (chosen false e) (omega arith)

    pub no_turn_left : {X : Type 0} (js : X → State) (further : X → ℕ) → b ≡ true → j ≡ 0 → Ends leaf old u n j start total js further (Err (TURNS at))
    no_turn_left js further e z =
        goes_not _ _ _ _ _ (Turns at) _ _ _ (λ x e. e)
        (goes_as _ _ _ _ _ _ _ (ap (one_turn at body (rounds at test body k) (state_by v names)) z) (chosen true e))

    turn : b ≡ true → j ≢ 0 → Goes leaf old u n (j - 1) start (max 0 (names_owe leaf names)) total (and_then (body (state_by u names) (j - 1)) (rounds at test body k))
    turn e z =
        goes_turn _ _ _ _ (j - 1) _ _ (omega arith)
        (goes_as _ _ _ _ _ _ _ (turn_taken at body (rounds at test body k) (state_by v names) j z ∙ ap (λ x. and_then (body x (j - 1)) (rounds at test body k)) kept) (chosen true e))

    pub body_halts : {X Y : Type 0} {begun : ℕ} (w : Worker) (i : ℕ) (own : Y → State) (owing : Y → ℕ) (js : X → State) (further : X → ℕ) (h : Halt) → b ≡ true → j ≢ 0
        → Ends leaf u w (j - 1) i begun (body (state_by u names) (j - 1)) own owing (Err h) → Ends leaf old w n i start total js further (Err h)
    body_halts w i own owing js further h e z ends = goes_err _ _ _ _ _ _ _ _ _ _ _ _ _ _ (turn e z) ends

    pub one_round : {w : Worker} {i : ℕ} (after : List (List ℕ × Value)) (x : Unit {0}) → b ≡ true → j ≢ 0 → m ≤ k
        → EndsRun leaf u w (j - 1) i names after (body (state_by u names) (j - 1)) (Ok x)
        → (q : ℕ) × (i ≤ q) × Goes leaf old w n i start (names_owe leaf after) total (rounds at test body (suc q) (state_by w after) i)
    one_round {w = w} {i = i} after x e z enough ends =
        let again : k ≡ suc (k - 1) = omega (arith, enough, tested.turns, z) in
        let last : i ≤ k - 1 = omega (arith, enough, tested.turns, ends.turns, z) in (
          k - 1,
          last,
          goes_as _ _ _ _ _ _ _ (ap (λ y. rounds at test body y (state_by w after) i) again)
              (goes_with _ _ _ _ _ _ _ (omega arith) (goes_on _ _ _ _ _ _ _ _ _ _ _ _ (turn e z) ends (omega arith))),
        )

-- ---- a chain before its next link, in worker v with m turns left
module _ {leaf start : ℕ} (a : Around) {old v : Worker} {n m : ℕ} (names : List (List ℕ × Value)) (all : Value)
    (ls : List Link) (k : ℕ) (l : Link) {total : Came Relation} (h : k < length ls) (is : l ≡ get_or ls k l)
    (stand : AllFit old names) (stands : Fits v all)
    (stood : Goes leaf old v n m start (max (owed leaf all) (names_owe leaf names)) total (mean_by a (state_by old names) (value_of v all) (drop k ls) m)) where
  pub before_link : Goes leaf old v n m start (max (owed leaf all) (names_owe leaf names)) total
      (and_then (mean a (state_by v names) l.right m) (λ q i. and_then (with_turns (linked l.at l.op (value_of v all) q) i) (λ t j. mean_by a (state_by old names) t (drop (k + 1) ls) j)))
  before_link =
      goes_as _ _ _ _ _ _ _ (links_next a (state_by old names) (state_by v names) (value_of v all) ls k l m (state_kept old v names stood.keeps stand) h is) stood

  pub before_operator : {u : Worker} {j : ℕ} (x : Value) → Ends leaf v u m j (names_owe leaf names) (mean a (state_by v names) l.right m) (value_of u) (owed leaf) (Ok x)
      → Goes leaf old u n j start (max (owed leaf x) (max (owed leaf all) (names_owe leaf names))) total
      (and_then (with_turns (linked l.at l.op (value_of u all) (value_of u x)) j) (λ t i. mean_by a (state_by old names) t (drop (k + 1) ls) i))
  before_operator {u = u} {j = j} x given =
      let left : value_of v all ≡ value_of u all = sym (value_kept v u all given.keeps stands) in
      goes_as _ _ _ _ _ _ _ (ap (λ r. and_then (with_turns (linked l.at l.op r (value_of u x)) j) (λ t i. mean_by a (state_by old names) t (drop (k + 1) ls) i)) left)
      (goes_on _ _ _ _ _ _ _ _ _ _ _ _ before_link given (omega arith))

-- ---- arguments before the next one
pub before_arg : {leaf start : ℕ} (a : Around) {old v : Worker} {n m : ℕ} (names : List (List ℕ × Value)) (values : List Value)
    (es : List Expr) (k : ℕ) (e : Expr) {total : Came (List Relation)} → k < length es → e ≡ get_or es k e → AllFit old names
    → Goes leaf old v n m start (max (values_owe leaf values) (names_owe leaf names)) total (means_by a (state_by old names) (map (value_of v) values) (drop k es) m)
    → Goes leaf old v n m start (max (values_owe leaf values) (names_owe leaf names)) total
    (and_then (mean a (state_by v names) e m) (λ r i. means_by a (state_by old names) (map (value_of v) values ++ r ∷ []) (drop (k + 1) es) i))
before_arg a {old = old} {v = v} {m = m} names values es k e h is stand stood =
    goes_as _ _ _ _ _ _ _
    (args_next a (state_by old names) (state_by v names) (map (value_of v) values) es k e m (state_kept old v names stood.keeps stand) h is) stood
