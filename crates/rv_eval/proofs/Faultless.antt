-- In a checked script the meaning is Ill by sizes alone.
-- 1. Single operations are refused for sizes alone (`based-good`, `paired-good`, `domain-good`).
-- 2. An expression without faults whose names have relations is too, where its calls are: by induction on the expression
--    (`mean-good`). Statements without faults keep what is assigned (`run-good`): by induction on the statement, and in a
--    loop on its rounds.
-- 3. A definition that stands earlier is the first of its name among the items, and the definitions that it calls have a
--    lower rank (`found`).
-- 4. So calls are good, by induction on how deep they may stand in one another (`calls-good`).
use Rattle.std.proofs.Common.{◌≡◌, ◌≤◌, ◌==◌, ◌+◌, ◌++◌, ◌||◌, ◌&&◌, ◌∙◌, ℕ, zero, suc, max, Bool, true, false, cond, List, [], ◌∷◌, length, Option, Some, None, is_some, refl, ap, subst, arith}
use Rattle.std.specs.Prelude.{IsSome}
use Rattle.std.specs.Option.{option_map_or}
use Rattle.lang_model.specs.declared.syntax.Place.{Place}
use Rattle.lang_model.specs.declared.syntax.Base.{Base}
use Rattle.lang_model.specs.declared.syntax.Expr.{Expr, Ref, Call', Base', Inject, Pair', Minus', Turned', Chain', Row_of-Expr, end_of-Expr, more_of-Expr, Row_of-Link, end_of-Link, more_of-Link}
use Rattle.lang_model.specs.declared.syntax.Stmt.{Stmt, Set, While', If', Row_of-Stmt, end_of-Stmt, more_of-Stmt}
use Rattle.lang_model.specs.declared.syntax.Decl.{Decl}
use Rattle.lang_model.specs.declared.faults.TypeFault.TheVariants.{Unknown, Arity, Unassigned}
use Rattle.rel_model.specs.Relation.{Relation}
use Rattle.lang_model.specs.Tokens.{same_text}
use Rattle.lang_model.specs.State.{State, assigned}
use Rattle.lang_model.specs.Missing.{missing, missing_in, missing_along, first_of_both}
use Rattle.lang_model.specs.Outcomes.{Answer, Got, Not, Came, got, following, and_then, with_turns}
use Rattle.lang_model.specs.Checking.{Names, among, no_name, Known, definition_of, Scope, is_projection, ref_faults, call_faults, domain_faults, target_faults, count_in, faults, faults_in, faults_along, rank_named, called, called_in, called_along, assigned_after, assigned_behind, assigned_by, faults_of, faults_within, faults_by, called_by, called_within, called_by_all}
use Rattle.lang_model.specs.Mean.{Calls, around_with, named, injected_by, domain_named, mean, means, mean_along, mean_test, one_turn, rounds, run, run_within, run_by}
use Rattle.rv_eval.proofs.BySizes.{Good, Any, then_good, based-good, linked-good, complemented-good, turned-good, paired-good, tested-good, left_none, right_none, no_fault_left, cond_true, first_none, second_none}

-- ---- expressions
-- the parameters have relations
abbrev pub Params : Scope → State → Type 0
Params S T = (name : List ℕ) → among S.parameters name ≡ true → IsSome (T name)

-- and so do these names
abbrev pub Vars : Names → State → Type 0
Vars A T = (name : List ℕ) → A name ≡ true → IsSome (T name)

some_none : {X : Type 0} {x : X} → Some x ≡ None → ⊥
some_none e = cc

-- the name, where it has no relation
abbrev lacking : Place → List ℕ → Option Relation → Option (Place × List ℕ)
lacking at name o = cond (is_some o) None (Some (at, name))

name-good : (at : Place) (name : List ℕ) (o : Option Relation) (n : ℕ) → lacking at name o ≡ None → Good Any (with_turns (named at name o) n).answer
name-good at name None n h = absurd (some_none h)
name-good at name (Some r) n h = tt

max_left : (a b c : ℕ) → max a b ≤ c → a ≤ c
max_left a b c h = omega (arith, h)

max_right : (a b c : ℕ) → max a b ≤ c → b ≤ c
max_right a b c h = omega (arith, h)

more_counted : (vs : List Relation) (r : Relation) (k : ℕ) → length (vs ++ r ∷ []) + k ≡ length vs + (k + 1)
more_counted [] r k = omega arith
more_counted (v ∷ vs) r k = let e = more_counted vs r k in omega (arith, e)

module _ (S : Scope) (C : Calls) (ds : List Decl) (R : ℕ)
    (calls-good : (at : Place) (name : List ℕ) (values : List Relation) (n : ℕ) (d : Known) → definition_of S.earlier name ≡ Some d → (d.takes == length values) ≡ true → d.rank ≤ R → Good Any (C at name values n).answer)
    (domains-good : (T : State) → Params S T → (at : Place) (base : Base) (domain : List ℕ) → among (cond (is_projection base) S.products S.sums) domain ≡ true → (n : ℕ) → Good Any (with_turns (injected_by T at base (domain_named ds domain)) n).answer) where
  call-good : (at : Place) (name : List ℕ) (values : List Relation) (given n : ℕ) → call_faults S at name given ≡ [] → rank_named S.earlier name ≤ R → length values ≡ given → Good Any (C at name values n).answer
  unfolding call_faults
  call-good at name values given n h k e = by (definition_of S.earlier name) refl h k
    where
      by : (o : Option Known) → definition_of S.earlier name ≡ o → option_map_or (λ d. cond (d.takes == given) [] (Arity at name d.takes given ∷ [])) o (Unknown at name ∷ []) ≡ [] → option_map_or (λ d. d.rank) o 0 ≤ R → Good Any (C at name values n).answer
      by None is h k = absurd (no_fault_left h)
      by (Some d) is h k = calls-good at name values n d is (ap (λ j. d.takes == j) e ∙ cond_true (d.takes == given) _ h) k

  -- a projection or an injection of a declared domain has an answer where the domain has no fault
  inject-good : (T : State) → Params S T → (at : Place) (base : Base) (domain : List ℕ) (n : ℕ) → domain_faults S at base domain ≡ [] → Good Any (with_turns (injected_by T at base (domain_named ds domain)) n).answer
  unfolding domain_faults
  inject-good T p at base domain n h = domains-good T p at base domain (cond_true _ _ h) n

  mutual
    mean-good : (A : Names) (T : State) → Params S T → (e : Expr) → faults S A e ≡ [] → called S.earlier e ≤ R → missing T e ≡ None → (n : ℕ) → Good Any (mean (around_with C ds) T e n).answer
    mean-good A T p (Ref at name) h k m n = name-good at name (T name) n m
    mean-good A T p (Call' at name sh args) h k m n =
        then_good (λ vs. length vs ≡ 0 + count_in args) Any _ _ (means-good A T p [] args (right_none (call_faults S at name (count_in args)) _ h) (max_right _ _ R k) m n)
        (λ vs j e. call-good at name vs (count_in args) j (left_none _ _ h) (max_left _ _ R k) (omega (arith, e)))
    mean-good A T p (Base' at base sh args) h k m n =
        then_good (λ vs. length vs ≡ 0 + count_in args) Any _ _ (means-good A T p [] args h k m n) (λ vs j e. based-good at base vs j)
    mean-good A T p (Inject at base domain) h k m n = inject-good T p at base domain n h
    mean-good A T p (Pair' at q left t right) h k m n =
        then_good Any Any _ _ (mean-good A T p left (left_none _ _ h) (max_left _ _ R k) (first_none _ _ m) n)
        (λ r i x. then_good Any Any _ _ (mean-good A T p right (right_none (faults S A left) _ h) (max_right _ _ R k) (second_none (missing T left) _ m) i) (λ s j y. paired-good at r s j))
    mean-good A T p (Minus' at q of) h k m n = then_good Any Any _ _ (mean-good A T p of h k m n) (λ r j x. complemented-good r j)
    mean-good A T p (Turned' at q of times) h k m n = then_good Any Any _ _ (mean-good A T p of h k m n) (λ r j x. turned-good times r j)
    mean-good A T p (Chain' q first sh rest) h k m n =
        then_good Any Any _ _ (mean-good A T p first (left_none _ _ h) (max_left _ _ R k) (first_none _ _ m) n)
        (λ r j x. along-good A T p r rest (right_none (faults S A first) _ h) (max_right _ _ R k) (second_none (missing T first) _ m) j)

    means-good : (A : Names) (T : State) → Params S T → (vs : List Relation) {l : _} (row : Row_of-Expr l) → faults_in S A row ≡ [] → called_in S.earlier row ≤ R → missing_in T row ≡ None → (n : ℕ) →
        Good (λ us. length us ≡ length vs + count_in row) (means (around_with C ds) T vs row n).answer
    means-good A T p vs end_of-Expr h k m n = omega arith
    means-good A T p vs (more_of-Expr e rest) h k m n =
        then_good Any (λ us. length us ≡ length vs + (count_in rest + 1)) _ _ (mean-good A T p e (left_none _ _ h) (max_left _ _ R k) (first_none _ _ m) n)
        (λ r j x. subst (λ len. Good (λ us. length us ≡ len) (means (around_with C ds) T (vs ++ r ∷ []) rest j).answer) (more_counted vs r (count_in rest))
        (means-good A T p (vs ++ r ∷ []) rest (right_none (faults S A e) _ h) (max_right _ _ R k) (second_none (missing T e) _ m) j))

    along-good : (A : Names) (T : State) → Params S T → (r : Relation) {l : _} (row : Row_of-Link l) → faults_along S A row ≡ [] → called_along S.earlier row ≤ R → missing_along T row ≡ None → (n : ℕ) →
        Good Any (mean_along (around_with C ds) T r row n).answer
    along-good A T p r end_of-Link h k m n = tt
    along-good A T p r (more_of-Link at op right rest) h k m n =
        then_good Any Any _ _ (mean-good A T p right (left_none _ _ h) (max_left _ _ R k) (first_none _ _ m) n)
        (λ s i x. then_good Any Any _ _ (linked-good at op r s i) (λ t j y. along-good A T p t rest (right_none (faults S A right) _ h) (max_right _ _ R k) (second_none (missing T right) _ m) j))

  -- ---- statements
  module _ (own : S.is_command ≡ false) where
    by_some : (at : Place) (name : List ℕ) (o : Option Relation) → IsSome o → lacking at name o ≡ None
    by_some at name None e = absurd (let z : false ≡ true = e in cc)
    by_some at name (Some r) e = refl

    ref-named : (A : Names) (T : State) → Params S T → Vars A T → (at : Place) (name : List ℕ) → ref_faults S A at name ≡ [] → lacking at name (T name) ≡ None
    unfolding ref_faults
    ref-named A T p v at name h = by (among S.parameters name) (among S.variables name) (A name) refl refl (subst (λ b. cond (b || among S.parameters name) [] (cond (among S.variables name) (cond (A name) [] (Unassigned at name ∷ [])) (Unknown at name ∷ [])) ≡ []) own h)
      where
        there : IsSome (T name) → lacking at name (T name) ≡ None
        there e = by_some at name (T name) e

        by : (b c d : Bool) → among S.parameters name ≡ b → A name ≡ d → cond b [] (cond c (cond d [] (Unassigned at name ∷ [])) (Unknown at name ∷ [])) ≡ [] → lacking at name (T name) ≡ None
        by true c d e f h = there (p name e)
        by false true true e f h = there (v name f)
        by false true false e f h = absurd (no_fault_left h)
        by false false d e f h = absurd (no_fault_left h)

    both_none : {X : Type 0} (a b : Option X) → a ≡ None → b ≡ None → first_of_both a b ≡ None
    both_none None b h k = k
    both_none (Some x) b h k = h

    mutual
      named-none : (A : Names) (T : State) → Params S T → Vars A T → (e : Expr) → faults S A e ≡ [] → missing T e ≡ None
      named-none A T p v (Ref at name) h = ref-named A T p v at name h
      named-none A T p v (Call' at name sh args) h = named_in-none A T p v args (right_none (call_faults S at name (count_in args)) _ h)
      named-none A T p v (Base' at base sh args) h = named_in-none A T p v args h
      named-none A T p v (Inject at base domain) h = refl
      named-none A T p v (Pair' at q left t right) h = both_none _ _ (named-none A T p v left (left_none _ _ h)) (named-none A T p v right (right_none (faults S A left) _ h))
      named-none A T p v (Minus' at q of) h = named-none A T p v of h
      named-none A T p v (Turned' at q of times) h = named-none A T p v of h
      named-none A T p v (Chain' q first sh rest) h = both_none _ _ (named-none A T p v first (left_none _ _ h)) (named_along-none A T p v rest (right_none (faults S A first) _ h))

      named_in-none : (A : Names) (T : State) → Params S T → Vars A T → {l : _} (row : Row_of-Expr l) → faults_in S A row ≡ [] → missing_in T row ≡ None
      named_in-none A T p v end_of-Expr h = refl
      named_in-none A T p v (more_of-Expr e rest) h = both_none _ _ (named-none A T p v e (left_none _ _ h)) (named_in-none A T p v rest (right_none (faults S A e) _ h))

      named_along-none : (A : Names) (T : State) → Params S T → Vars A T → {l : _} (row : Row_of-Link l) → faults_along S A row ≡ [] → missing_along T row ≡ None
      named_along-none A T p v end_of-Link h = refl
      named_along-none A T p v (more_of-Link at op right rest) h = both_none _ _ (named-none A T p v right (left_none _ _ h)) (named_along-none A T p v rest (right_none (faults S A right) _ h))

    -- an expression of a definition
    own-good : (A : Names) (T : State) → Params S T → Vars A T → (e : Expr) → faults S A e ≡ [] → called S.earlier e ≤ R → (n : ℕ) → Good Any (mean (around_with C ds) T e n).answer
    own-good A T p v e h k n = mean-good A T p e h k (named-none A T p v e h) n

    abbrev Holds : Names → State → Type 0
    Holds A T = Params S T × Vars A T

    test-good : (A : Names) (T : State) → Holds A T → (at : Place) (e : Expr) → faults S A e ≡ [] → called S.earlier e ≤ R → (n : ℕ) → Good Any (mean_test (around_with C ds) at e T n).answer
    test-good A T v at e h k n = then_good Any Any _ _ (own-good A T v.0 v.1 e h k n) (λ r j x. tested-good at r j)

    some_assigned : (name : List ℕ) (r : Relation) (T : State) (m : List ℕ) → IsSome (T m) → IsSome (assigned name r T m)
    unfolding assigned
    some_assigned name r T m h = by (same_text name m)
      where
        by : (b : Bool) → IsSome (cond b (Some r) (T m))
        by true = refl
        by false = h

    new_assigned : (A : Names) (name : List ℕ) (r : Relation) (T : State) → Vars A T → Vars (λ m. same_text name m || A m) (assigned name r T)
    unfolding assigned
    new_assigned A name r T v m h = by (same_text name m) h
      where
        by : (b : Bool) → (b || A m) ≡ true → IsSome (cond b (Some r) (T m))
        by true h = refl
        by false h = v m h

    or_left : (a b : Bool) → a ≡ true → (a || b) ≡ true
    or_left true b h = refl
    or_left false b h = absurd (let e : false ≡ true = h in cc)

    or_right : (a b : Bool) → b ≡ true → (a || b) ≡ true
    or_right true b h = refl
    or_right false b h = h

    -- what was assigned stays assigned
    mutual
      stays : (A : Names) (s : Stmt) (m : List ℕ) → A m ≡ true → assigned_after A s m ≡ true
      stays A (Set at name value) m h = or_right (same_text name m) (A m) h
      stays A (While' at test sh body) m h = h
      stays A (If' at test sh first t second) m h = or_left (A m) _ h

      stays_behind : (A : Names) {l : _} (row : Row_of-Stmt l) (m : List ℕ) → A m ≡ true → assigned_behind A row m ≡ true
      stays_behind A end_of-Stmt m h = h
      stays_behind A (more_of-Stmt s rest) m h = stays_behind (assigned_after A s) rest m (stays A s m h)

    weaker : (A B : Names) (a : Answer State) → ((m : List ℕ) → A m ≡ true → B m ≡ true) → Good (Holds B) a → Good (Holds A) a
    weaker A B (Got T n) f h = (h.0, λ m e. h.1 m (f m e))
    weaker A B (Not why) f h = h

    branch-good : (Q : State → Type 0) (a : Answer Bool) (first second : ℕ → Came State) → Good Any a → ((j : ℕ) → Good Q (first j).answer) → ((j : ℕ) → Good Q (second j).answer) → Good Q (following a (λ b j. cond b (first j) (second j))).answer
    branch-good Q (Got true n) first second h f g = f n
    branch-good Q (Got false n) first second h f g = g n
    branch-good Q (Not why) first second h f g = h

    turn-good : (Q : State → Type 0) (at : Place) (body next : State → ℕ → Came State) → ((V : State) (j : ℕ) → Q V → Good Q (body V j).answer) → ((V : State) (j : ℕ) → Q V → Good Q (next V j).answer) → (V : State) (n : ℕ) → Q V → Good Q (one_turn at body next V n).answer
    turn-good Q at body next f g V zero q = tt
    turn-good Q at body next f g V (suc n) q = then_good Q Q _ _ (f V n q) (λ W j r. g W j r)

    loop-good : (Q : State → Type 0) (at : Place) (test : State → ℕ → Came Bool) (body : State → ℕ → Came State) → ((V : State) (j : ℕ) → Q V → Good Any (test V j).answer) → ((V : State) (j : ℕ) → Q V → Good Q (body V j).answer) → (k : ℕ) (V : State) (n : ℕ) → Q V → Good Q (rounds at test body k V n).answer
    loop-good Q at test body f g zero V n q = tt
    loop-good Q at test body f g (suc k) V n q =
        branch-good Q (test V n).answer (λ j. one_turn at body (rounds at test body k) V j) (λ j. got V j) (f V n q)
        (λ j. turn-good Q at body (rounds at test body k) g (λ W i r. loop-good Q at test body f g k W i r) V j q) (λ j. q)

    and_left : (a b : Bool) → (a && b) ≡ true → a ≡ true
    and_left true b h = refl
    and_left false b h = h

    and_right : (a b : Bool) → (a && b) ≡ true → b ≡ true
    and_right true b h = h
    and_right false b h = absurd (let e : false ≡ true = h in cc)

    either_of : (A B D : Names) (m : List ℕ) → (A m || (B m && D m)) ≡ true → (A m ≡ true → B m ≡ true) → B m ≡ true
    either_of A B D m h f = by (A m) refl h
      where
        by : (a : Bool) → A m ≡ a → (a || (B m && D m)) ≡ true → B m ≡ true
        by true e h = f e
        by false e h = and_left (B m) (D m) h

    other_of : (A B D : Names) (m : List ℕ) → (A m || (B m && D m)) ≡ true → (A m ≡ true → D m ≡ true) → D m ≡ true
    other_of A B D m h f = by (A m) refl h
      where
        by : (a : Bool) → A m ≡ a → (a || (B m && D m)) ≡ true → D m ≡ true
        by true e h = f e
        by false e h = and_right (B m) (D m) h

    mutual
      run-good : (A : Names) (s : Stmt) → faults_of S A s ≡ [] → called_by S.earlier s ≤ R → (T : State) → Holds A T → (n : ℕ) → Good (Holds (assigned_after A s)) (run (around_with C ds) s T n).answer
      run-good A (Set at name value) h k T v n =
          then_good Any (Holds (λ m. same_text name m || A m)) _ _ (own-good A T v.0 v.1 value (right_none (target_faults S at name) _ h) k n)
          (λ r j x. ((λ m e. some_assigned name r T m (v.0 m e)), new_assigned A name r T v.1))
      run-good A (While' at test sh body) h k T v n =
          loop-good (Holds A) at (mean_test (around_with C ds) at test) (run_within (around_with C ds) body)
          (λ V j w. test-good A V w at test (left_none _ _ h) (max_left _ _ R k) j)
          (λ V j w. weaker A (assigned_behind A body) _ (stays_behind A body) (within-good A body (right_none (faults S A test) _ h) (max_right _ _ R k) V w j))
          (suc n) T n v
      run-good A (If' at test sh first t second) h k T v n =
          let rest = right_none (faults S A test) _ h in
          branch-good (Holds (assigned_after A (If' at test sh first t second))) _ _ _ (test-good A T v at test (left_none _ _ h) (max_left _ _ R k) n)
          (λ j. weaker (assigned_after A (If' at test sh first t second)) (assigned_behind A first) _ (λ m e. either_of A (assigned_behind A first) (assigned_behind A second) m e (stays_behind A first m)) (within-good A first (left_none _ _ rest) (max_left _ _ R (max_right _ _ R k)) T v j))
          (λ j. weaker (assigned_after A (If' at test sh first t second)) (assigned_behind A second) _ (λ m e. other_of A (assigned_behind A first) (assigned_behind A second) m e (stays_behind A second m)) (within-good A second (right_none (faults_within S A first) _ rest) (max_right _ _ R (max_right _ _ R k)) T v j))

      within-good : (A : Names) {l : _} (row : Row_of-Stmt l) → faults_within S A row ≡ [] → called_within S.earlier row ≤ R → (T : State) → Holds A T → (n : ℕ) → Good (Holds (assigned_behind A row)) (run_within (around_with C ds) row T n).answer
      within-good A end_of-Stmt h k T v n = v
      within-good A (more_of-Stmt s rest) h k T v n =
          then_good (Holds (assigned_after A s)) (Holds (assigned_behind (assigned_after A s) rest)) _ _ (run-good A s (left_none _ _ h) (max_left _ _ R k) T v n)
          (λ V j w. within-good (assigned_after A s) rest (right_none (faults_of S A s) _ h) (max_right _ _ R k) V w j)

    by-good : (A : Names) (ss : List Stmt) → faults_by S A ss ≡ [] → called_by_all S.earlier ss ≤ R → (T : State) → Holds A T → (n : ℕ) → Good (Holds (assigned_by A ss)) (run_by (around_with C ds) ss T n).answer
    by-good A [] h k T v n = v
    by-good A (s ∷ ss) h k T v n =
        then_good (Holds (assigned_after A s)) (Holds (assigned_by (assigned_after A s) ss)) _ _ (run-good A s (left_none _ _ h) (max_left _ _ R k) T v n)
        (λ V j w. by-good (assigned_after A s) ss (right_none (faults_of S A s) _ h) (max_right _ _ R k) V w j)

    -- a program: its statements, and then its result
    pub program-good : (ss : List Stmt) (e : Expr) → faults_by S no_name ss ≡ [] → faults S (assigned_by no_name ss) e ≡ [] → called_by_all S.earlier ss ≤ R → called S.earlier e ≤ R → (T : State) → Params S T → (n : ℕ) →
        Good Any (and_then (run_by (around_with C ds) ss T n) (λ V m. mean (around_with C ds) V e m)).answer
    program-good ss e h g k l T p n =
        then_good (Holds (assigned_by no_name ss)) Any _ _ (by-good no_name ss h k T (p, λ m x. absurd (let z : false ≡ true = x in cc)) n)
        (λ V j w. own-good (assigned_by no_name ss) V w.0 w.1 e g l j)

    -- a function
    pub function-good : (e : Expr) → faults S no_name e ≡ [] → called S.earlier e ≤ R → (T : State) → Params S T → (n : ℕ) → Good Any (mean (around_with C ds) T e n).answer
    function-good e h k T p n = own-good no_name T p (λ m x. absurd (let z : false ≡ true = x in cc)) e h k n

  -- an expression of a command
  pub command-good : (e : Expr) → faults S no_name e ≡ [] → called S.earlier e ≤ R → (T : State) → Params S T → missing T e ≡ None → (n : ℕ) → Good Any (mean (around_with C ds) T e n).answer
  command-good e h k T p m n = mean-good no_name T p e h k m n
