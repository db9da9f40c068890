-- A variable is found unassigned exactly where some path leads to it that does not assign it.
-- (1) An expression has the fault exactly where it reads the name there and the name is not assigned (`sees`, `faulted`): by induction on the expression.
-- (2) From a fault behind statements to a path: what the walk lacks behind them some path lacks (`Paths`), and it is put before the path that leads on (`found`).
-- (3) From a path to a fault: what was not assigned before and is not on a path the walk lacks (`led`).
use Rattle.std.proofs.Common.{◌≡◌, ◌||◌, ◌++◌, ◌==◌, ◌⊎◌, ◌∙◌, ℕ, Bool, true, false, cond, List, [], ◌∷◌, Option, Some, None, Contains, refl, sym, ap, subst, inl, inr, ⊎_elim, arith}
use Rattle.std.proofs.lemmas.Bool.{both_ways, or_parts, or_from, false_from_ne_true}
use Rattle.std.proofs.lemmas.List.Elements.{Contains-append_left, Contains-append_right, Contains-append_cases, Contains-push, Contains-push_cases}
use Rattle.std.specs.Option.{option_map_or}
use Rattle.lang_model.specs.declared.syntax.Place.{Place}
use Rattle.lang_model.specs.declared.syntax.Base.{Base}
use Rattle.lang_model.specs.declared.syntax.Expr.{Expr, Ref, Call', Base', Inject, Pair', Minus', Turned', Chain', Row_of-Expr, end_of-Expr, more_of-Expr, Row_of-Link, end_of-Link, more_of-Link}
use Rattle.lang_model.specs.declared.syntax.Stmt.{Stmt, Set, While', If', Row_of-Stmt, end_of-Stmt, more_of-Stmt}
use Rattle.lang_model.specs.declared.faults.TypeFault.{TypeFault}
use Rattle.lang_model.specs.declared.faults.TypeFault.TheVariants.{Unknown, Arity, Unassigned}
use Rattle.lang_model.specs.Checking.{Names, among, Known, definition_of, Scope, is_projection, domain_operator_text, ref_faults, call_faults, domain_faults, target_faults, count_in, faults, faults_in, faults_along, assigned_after, assigned_by, faults_of, faults_within, faults_by, number_of, place_of}
use Rattle.rv_types.specs.Paths.{no_turn, IsPathOf, IsPath, LeadsIn, LeadsWithin, LeadsTo, Reads, ReadsIn, ReadsAlong, IsVariable, UnassignedOnSomePath}
use Rattle.rv_types.proofs.Paths.{among-append, off_both, stmt-on_each, list-on_each, stmt-avoided, list-avoided}

-- the name of an unassigned variable
abbrev named : TypeFault → List ℕ
named (Unassigned at name) = name
named _ = []

none : (f : TypeFault) → Contains [] f → ⊥
none f c = omega (arith, c.1)

only : (g f : TypeFault) → Contains (g ∷ []) f → g ≡ f
only g f c = ⊎_elim (λ x. absurd (none f x)) (λ e. e) (Contains-push_cases [] g f c)

module _ (S : Scope) (at : Place) (n : List ℕ) where
  abbrev f : TypeFault
  f = Unassigned at n

  abbrev Lacks : List TypeFault → Type 0
  Lacks fs = Contains fs f → ⊥

  lacks-unknown : (p : Place) (m : List ℕ) → Lacks (Unknown p m ∷ [])
  lacks-unknown p m c = omega (arith, ap number_of (only (Unknown p m) f c))

  lacks-arity : (p : Place) (m : List ℕ) (k l : ℕ) → Lacks (Arity p m k l ∷ [])
  lacks-arity p m k l c = omega (arith, ap number_of (only (Arity p m k l) f c))

  lacks-cond : (b : Bool) (fs gs : List TypeFault) → Lacks fs → Lacks gs → Lacks (cond b fs gs)
  lacks-cond true fs gs l r = l
  lacks-cond false fs gs l r = r

  lacks-call : (p : Place) (m : List ℕ) (given : ℕ) → Lacks (call_faults S p m given)
  unfolding call_faults
  lacks-call p m given = by (definition_of S.earlier m)
    where
      by : (o : Option Known) → Lacks (option_map_or (λ d. cond (d.takes == given) [] (Arity p m d.takes given ∷ [])) o (Unknown p m ∷ []))
      by None = lacks-unknown p m
      by (Some d) = lacks-cond (d.takes == given) [] (Arity p m d.takes given ∷ []) (none f) (lacks-arity p m d.takes given)

  lacks-domain : (p : Place) (base : Base) (m : List ℕ) → Lacks (domain_faults S p base m)
  unfolding domain_faults
  lacks-domain p base m = lacks-cond (among (cond (is_projection base) S.products S.sums) m) [] (Unknown p (domain_operator_text base) ∷ []) (none f) (lacks-unknown p (domain_operator_text base))

  -- the target of an assignment never has the fault: it is unknown at most
  lacks-target : (p : Place) (m : List ℕ) → Lacks (target_faults S p m)
  unfolding target_faults
  lacks-target p m = lacks-cond (among S.variables m) [] (Unknown p m ∷ []) (none f) (lacks-unknown p m)

  -- expressions
  module _ (A : Names) where
    -- where the fault is among these, the name is an unassigned variable, and this holds
    abbrev Sees : List TypeFault → Type 0 → Type 0
    Sees fs R = Contains fs f → IsVariable S n × (A n ≡ false) × R

    sees-append : (fs gs : List TypeFault) (R Q : Type 0) → Sees fs R → Sees gs Q → Sees (fs ++ gs) (R ⊎ Q)
    sees-append fs gs R Q p q c = ⊎_elim (λ x. let r = p x in (r.0, r.1, inl r.2)) (λ y. let r = q y in (r.0, r.1, inr r.2)) (Contains-append_cases fs gs f c)

    sees-ref : (p : Place) (m : List ℕ) → Sees (ref_faults S A p m) ((p ≡ at) × (m ≡ n))
    unfolding ref_faults
    sees-ref p m = by (S.is_command || among S.parameters m) (among S.variables m) (A m) refl refl refl
      where
        by : (t v x : Bool) → (S.is_command || among S.parameters m) ≡ t → among S.variables m ≡ v → A m ≡ x → Sees (cond t [] (cond v (cond x [] (Unassigned p m ∷ [])) (Unknown p m ∷ []))) ((p ≡ at) × (m ≡ n))
        by true v x et ev ex c = absurd (none f c)
        by false false x et ev ex c = absurd (lacks-unknown p m c)
        by false true true et ev ex c = absurd (none f c)
        by false true false et ev ex c =
            let same = only (Unassigned p m) f c in
            let is : m ≡ n = ap named same in
            let there : p ≡ at = ap place_of same in
            ((ap (λ k. S.is_command || among S.parameters k) (sym is) ∙ et, ap (λ k. among S.variables k) (sym is) ∙ ev), ap A (sym is) ∙ ex, (there, is))

    mutual
      sees : (e : Expr) → Sees (faults S A e) (Reads e at n)
      sees (Ref p m) = sees-ref p m
      sees (Call' p m shape args) =
          λ c. ⊎_elim (λ x. absurd (lacks-call p m (count_in args) x)) (λ y. sees-in args y) (Contains-append_cases (call_faults S p m (count_in args)) (faults_in S A args) f c)
      sees (Base' p base shape args) = sees-in args
      sees (Inject p base m) = λ c. absurd (lacks-domain p base m c)
      sees (Pair' p x left y right) = sees-append (faults S A left) (faults S A right) (Reads left at n) (Reads right at n) (sees left) (sees right)
      sees (Minus' p x of) = sees of
      sees (Turned' p x of times) = sees of
      sees (Chain' x first shape rest) = sees-append (faults S A first) (faults_along S A rest) (Reads first at n) (ReadsAlong rest at n) (sees first) (sees-along rest)

      sees-in : {m : _} (k : Row_of-Expr m) → Sees (faults_in S A k) (ReadsIn k at n)
      sees-in end_of-Expr = λ c. absurd (none f c)
      sees-in (more_of-Expr e rest) = sees-append (faults S A e) (faults_in S A rest) (Reads e at n) (ReadsIn rest at n) (sees e) (sees-in rest)

      sees-along : {m : _} (k : Row_of-Link m) → Sees (faults_along S A k) (ReadsAlong k at n)
      sees-along end_of-Link = λ c. absurd (none f c)
      sees-along (more_of-Link p op right rest) = sees-append (faults S A right) (faults_along S A rest) (Reads right at n) (ReadsAlong rest at n) (sees right) (sees-along rest)

    module _ (v : IsVariable S n) (a : A n ≡ false) where
      faulted-here : Contains (ref_faults S A at n) f
      unfolding ref_faults
      faulted-here =
          subst (λ t. Contains (cond t [] (cond (among S.variables n) (cond (A n) [] (Unassigned at n ∷ [])) (Unknown at n ∷ []))) f) (sym v.0)
          (subst (λ t. Contains (cond t (cond (A n) [] (Unassigned at n ∷ [])) (Unknown at n ∷ [])) f) (sym v.1) (subst (λ t. Contains (cond t [] (Unassigned at n ∷ [])) f) (sym a) (Contains-push [] f)))

      mutual
        faulted : (e : Expr) → Reads e at n → Contains (faults S A e) f
        faulted (Ref p m) is = subst (λ q. Contains (ref_faults S A q m) f) (sym is.0) (subst (λ k. Contains (ref_faults S A at k) f) (sym is.1) faulted-here)
        faulted (Call' p m shape args) is = Contains-append_right (call_faults S p m (count_in args)) (faults_in S A args) f (faulted-in args is)
        faulted (Base' p base shape args) is = faulted-in args is
        faulted (Inject p base m) is = absurd is
        faulted (Pair' p x left y right) is =
            ⊎_elim (λ l. Contains-append_left (faults S A left) (faults S A right) f (faulted left l)) (λ r. Contains-append_right (faults S A left) (faults S A right) f (faulted right r)) is
        faulted (Minus' p x of) is = faulted of is
        faulted (Turned' p x of times) is = faulted of is
        faulted (Chain' x first shape rest) is =
            ⊎_elim (λ l. Contains-append_left (faults S A first) (faults_along S A rest) f (faulted first l)) (λ r. Contains-append_right (faults S A first) (faults_along S A rest) f (faulted-along rest r)) is

        faulted-in : {m : _} (k : Row_of-Expr m) → ReadsIn k at n → Contains (faults_in S A k) f
        faulted-in end_of-Expr is = absurd is
        faulted-in (more_of-Expr e rest) is =
            ⊎_elim (λ l. Contains-append_left (faults S A e) (faults_in S A rest) f (faulted e l)) (λ r. Contains-append_right (faults S A e) (faults_in S A rest) f (faulted-in rest r)) is

        faulted-along : {m : _} (k : Row_of-Link m) → ReadsAlong k at n → Contains (faults_along S A k) f
        faulted-along end_of-Link is = absurd is
        faulted-along (more_of-Link p op right rest) is =
            ⊎_elim (λ l. Contains-append_left (faults S A right) (faults_along S A rest) f (faulted right l)) (λ r. Contains-append_right (faults S A right) (faults_along S A rest) f (faulted-along rest r)) is

  -- from a fault to a path that leads on
  abbrev Leaves : (Expr → List (List ℕ) → Type 0) → Type 0
  Leaves Leads = (e : Expr) × (p : List (List ℕ)) × Leads e p × Reads e at n × (among p n ≡ false)

  mutual
    stmt-found : (A : Names) (s : Stmt) → Sees A (faults_of S A s) (Leaves (LeadsIn s))
    stmt-found A (Set p m value) =
        λ c. ⊎_elim (λ t. absurd (lacks-target p m t)) (λ v. let r = sees A value v in (r.0, r.1, (value, [], (refl, refl), r.2, refl))) (Contains-append_cases (target_faults S p m) (faults S A value) f c)
    stmt-found A (While' p test s body) =
        λ c. ⊎_elim (λ t. let r = sees A test t in (r.0, r.1, (test, [], inl (refl, no_turn), r.2, refl)))
        (λ b. let r = row-found A body b in let w = r.2 in (r.0, r.1, (w.0, w.1, inr ([], w.1, no_turn, w.2, refl), w.3, w.4)))
        (Contains-append_cases (faults S A test) (faults_within S A body) f c)
    stmt-found A (If' p test s first t second) =
        λ c. ⊎_elim (λ x. let r = sees A test x in (r.0, r.1, (test, [], inl (refl, refl), r.2, refl)))
        (λ d. ⊎_elim (λ x. let r = row-found A first x in let w = r.2 in (r.0, r.1, (w.0, w.1, inr (inl w.2), w.3, w.4)))
        (λ y. let r = row-found A second y in let w = r.2 in (r.0, r.1, (w.0, w.1, inr (inr w.2), w.3, w.4)))
        (Contains-append_cases (faults_within S A first) (faults_within S A second) f d))
        (Contains-append_cases (faults S A test) (faults_within S A first ++ faults_within S A second) f c)

    row-found : (A : Names) {m : _} (k : Row_of-Stmt m) → Sees A (faults_within S A k) (Leaves (LeadsWithin k))
    row-found A end_of-Stmt = λ c. absurd (none f c)
    row-found A (more_of-Stmt s rest) =
        λ c. ⊎_elim (λ x. let r = stmt-found A s x in let w = r.2 in (r.0, r.1, (w.0, w.1, inl w.2, w.3, w.4)))
        (λ y.
        let r = row-found (assigned_after A s) rest y in
        let w = r.2 in
        let l = stmt-avoided n A s r.1 in
        (r.0, l.1, (w.0, l.0 ++ w.1, inr (l.0, w.1, l.2, w.2, refl), w.3, off_both n l.0 w.1 l.3 w.4)))
        (Contains-append_cases (faults_of S A s) (faults_within S (assigned_after A s) rest) f c)

  list-found : (A : Names) (ss : List Stmt) → Sees A (faults_by S A ss) (Leaves (LeadsTo ss))
  list-found A [] = λ c. absurd (none f c)
  list-found A (s ∷ ss) =
      λ c. ⊎_elim (λ x. let r = stmt-found A s x in let w = r.2 in (r.0, r.1, (w.0, w.1, inl w.2, w.3, w.4)))
      (λ y.
      let r = list-found (assigned_after A s) ss y in
      let w = r.2 in
      let l = stmt-avoided n A s r.1 in
      (r.0, l.1, (w.0, l.0 ++ w.1, inr (l.0, w.1, l.2, w.2, refl), w.3, off_both n l.0 w.1 l.3 w.4)))
      (Contains-append_cases (faults_of S A s) (faults_by S (assigned_after A s) ss) f c)

  -- from a path to a fault
  both_off : (p one more : List (List ℕ)) → p ≡ one ++ more → among p n ≡ false → (among one n ≡ false) × (among more n ≡ false)
  both_off p one more is h = or_parts (among one n) (among more n) (sym (among-append n one more) ∙ ap (λ q. among q n) (sym is) ∙ h)

  not_after : (A : Names) (s : Stmt) (one : List (List ℕ)) → A n ≡ false → IsPathOf s one → among one n ≡ false → assigned_after A s n ≡ false
  not_after A s one a is h = false_from_ne_true (assigned_after A s n) (λ t. both_ways (A n || among one n) (or_from (A n) (among one n) a h) (stmt-on_each n A s one is t))

  -- a name that was not assigned before and is not on a path is not assigned behind the statements either: else it
  -- would be on each path
  not_behind : (A : Names) (ss : List Stmt) (p : List (List ℕ)) → A n ≡ false → IsPath ss p → among p n ≡ false → assigned_by A ss n ≡ false
  not_behind A ss p a is h = false_from_ne_true (assigned_by A ss n) (λ t. both_ways (A n || among p n) (or_from (A n) (among p n) a h) (list-on_each n A ss p is t))

  module _ (v : IsVariable S n) (e : Expr) (read : Reads e at n) where
    -- an expression that is this one
    faulted-as : (A : Names) (x : Expr) → A n ≡ false → e ≡ x → Contains (faults S A x) f
    faulted-as A x a is = subst (λ y. Contains (faults S A y) f) is (faulted A v a e read)

    mutual
      stmt-led : (A : Names) (s : Stmt) (p : List (List ℕ)) → A n ≡ false → LeadsIn s e p → among p n ≡ false → Contains (faults_of S A s) f
      stmt-led A (Set q m value) p a is h = Contains-append_right (target_faults S q m) (faults S A value) f (faulted-as A value a is.0)
      stmt-led A (While' q test s body) p a is h =
          ⊎_elim (λ t. Contains-append_left (faults S A test) (faults_within S A body) f (faulted-as A test a t.0))
          (λ b. Contains-append_right (faults S A test) (faults_within S A body) f (row-led A body b.1 a b.3 (both_off p b.0 b.1 b.4 h).1)) is
      stmt-led A (If' q test s first t second) p a is h =
          ⊎_elim (λ x. Contains-append_left (faults S A test) (faults_within S A first ++ faults_within S A second) f (faulted-as A test a x.0))
          (λ d. Contains-append_right (faults S A test) (faults_within S A first ++ faults_within S A second) f
          (⊎_elim (λ x. Contains-append_left (faults_within S A first) (faults_within S A second) f (row-led A first p a x h))
          (λ y. Contains-append_right (faults_within S A first) (faults_within S A second) f (row-led A second p a y h)) d)) is

      row-led : (A : Names) {m : _} (k : Row_of-Stmt m) (p : List (List ℕ)) → A n ≡ false → LeadsWithin k e p → among p n ≡ false → Contains (faults_within S A k) f
      row-led A end_of-Stmt p a is h = absurd is
      row-led A (more_of-Stmt s rest) p a is h =
          ⊎_elim (λ x. Contains-append_left (faults_of S A s) (faults_within S (assigned_after A s) rest) f (stmt-led A s p a x h))
          (λ y.
          let off = both_off p y.0 y.1 y.4 h in
          Contains-append_right (faults_of S A s) (faults_within S (assigned_after A s) rest) f (row-led (assigned_after A s) rest y.1 (not_after A s y.0 a y.2 off.0) y.3 off.1)) is

    list-led : (A : Names) (ss : List Stmt) (p : List (List ℕ)) → A n ≡ false → LeadsTo ss e p → among p n ≡ false → Contains (faults_by S A ss) f
    list-led A [] p a is h = absurd is
    list-led A (s ∷ ss) p a is h =
        ⊎_elim (λ x. Contains-append_left (faults_of S A s) (faults_by S (assigned_after A s) ss) f (stmt-led A s p a x h))
        (λ y.
        let off = both_off p y.0 y.1 y.4 h in
        Contains-append_right (faults_of S A s) (faults_by S (assigned_after A s) ss) f (list-led (assigned_after A s) ss y.1 (not_after A s y.0 a y.2 off.0) y.3 off.1)) is

pub unassigned_on_some_path : UnassignedOnSomePath
unassigned_on_some_path S A ss at n = record {
  in_statements = (λ c. list-found S at n A ss c, λ r. let w = r.2 in list-led S at n r.0 w.0 w.3 A ss w.1 r.1 w.2 w.4);
  behind_them = λ e. (
    λ c. let r = sees S at n (assigned_by A ss) e c in let l = list-avoided n A ss r.1 in (r.0, l.1, r.2, (l.0, l.2, l.3)),
    λ r. let w = r.3 in faulted S at n (assigned_by A ss) r.0 (not_behind S at n A ss w.0 r.1 w.1 w.2) e r.2,
  );
}
