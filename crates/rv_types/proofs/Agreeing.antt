-- What faults and ranks depend on: of a scope, which names are parameters, variables, products and sums; of the definitions so far, the definition of each name.
use Rattle.std.proofs.Common.{◌≡◌, ◌==◌, ◌++◌, ◌||◌, ℕ, Bool, true, false, max, cond, List, [], ◌∷◌, refl, ap}
use Rattle.std.specs.Option.{option_map_or}
use Rattle.lang_model.specs.declared.syntax.Place.{Place}
use Rattle.lang_model.specs.declared.syntax.Base.{Base}
use Rattle.lang_model.specs.declared.syntax.Expr.{Expr, Ref, Call', Base', Inject, Pair', Minus', Turned', Chain', Row_of-Expr, end_of-Expr, more_of-Expr, Row_of-Link, end_of-Link, more_of-Link}
use Rattle.lang_model.specs.declared.syntax.Stmt.{Stmt, Set, While', If', Row_of-Stmt, end_of-Stmt, more_of-Stmt}
use Rattle.lang_model.specs.declared.faults.TypeFault.TheVariants.{Unknown, Arity, Unassigned}
use Rattle.lang_model.specs.Checking.{Names, among, Known, definition_of, Scope, is_projection, domain_operator_text, ref_faults, call_faults, domain_faults, target_faults, count_in, faults, faults_in, faults_along, rank_named, called, called_in, called_along, assigned_after, faults_of, faults_within, faults_by, called_by, called_within, called_by_all}

-- two lists hold the same names
abbrev pub SameNames : List (List ℕ) → List (List ℕ) → Type 0
SameNames xs ys = (n : List ℕ) → among xs n ≡ among ys n

-- two lists give each name the same definition
abbrev pub SameDefinitions : List Known → List Known → Type 0
SameDefinitions ds es = (n : List ℕ) → definition_of ds n ≡ definition_of es n

-- two scopes take the same names
pub record Agrees (S T : Scope) : Type 0 where
  pub same_kind : S.is_command ≡ T.is_command
  pub same_parameters : SameNames S.parameters T.parameters
  pub same_variables : SameNames S.variables T.variables
  pub same_products : SameNames S.products T.products
  pub same_sums : SameNames S.sums T.sums
  pub same_earlier : SameDefinitions S.earlier T.earlier

module _ (S T : Scope) (h : Agrees S T) where
  same-ref : (A : Names) (at : Place) (n : List ℕ) → ref_faults S A at n ≡ ref_faults T A at n
  unfolding ref_faults
  same-ref A at n = λ i. cond (h.same_kind i || h.same_parameters n i) [] (cond (h.same_variables n i) (cond (A n) [] (Unassigned at n ∷ [])) (Unknown at n ∷ []))

  same-call : (at : Place) (n : List ℕ) (given : ℕ) → call_faults S at n given ≡ call_faults T at n given
  unfolding call_faults
  same-call at n given = λ i. option_map_or (λ d. cond (d.takes == given) [] (Arity at n d.takes given ∷ [])) (h.same_earlier n i) (Unknown at n ∷ [])

  same-domain : (at : Place) (base : Base) (n : List ℕ) → domain_faults S at base n ≡ domain_faults T at base n
  unfolding domain_faults
  same-domain at base n = ap (λ b. cond b [] (Unknown at (domain_operator_text base) ∷ [])) (by (is_projection base))
    where
      by : (b : Bool) → among (cond b S.products S.sums) n ≡ among (cond b T.products T.sums) n
      by true = h.same_products n
      by false = h.same_sums n

  -- an assignment's target has the same faults, since the scopes have the same variables; expressions and statements
  -- have, by induction, since each name in them is found alike
  same-target : (at : Place) (n : List ℕ) → target_faults S at n ≡ target_faults T at n
  unfolding target_faults
  same-target at n = λ i. cond (h.same_variables n i) [] (Unknown at n ∷ [])

  mutual
    pub same-faults : (A : Names) (e : Expr) → faults S A e ≡ faults T A e
    same-faults A (Ref at n) = same-ref A at n
    same-faults A (Call' at n shape args) = λ i. same-call at n (count_in args) i ++ same-faults_in A args i
    same-faults A (Base' at base shape args) = same-faults_in A args
    same-faults A (Inject at base n) = same-domain at base n
    same-faults A (Pair' at p left q right) = λ i. same-faults A left i ++ same-faults A right i
    same-faults A (Minus' at p of) = same-faults A of
    same-faults A (Turned' at p of times) = same-faults A of
    same-faults A (Chain' p first shape rest) = λ i. same-faults A first i ++ same-faults_along A rest i

    same-faults_in : (A : Names) {m : _} (k : Row_of-Expr m) → faults_in S A k ≡ faults_in T A k
    same-faults_in A end_of-Expr = refl
    same-faults_in A (more_of-Expr e rest) = λ i. same-faults A e i ++ same-faults_in A rest i

    same-faults_along : (A : Names) {m : _} (k : Row_of-Link m) → faults_along S A k ≡ faults_along T A k
    same-faults_along A end_of-Link = refl
    same-faults_along A (more_of-Link at op right rest) = λ i. same-faults A right i ++ same-faults_along A rest i

  mutual
    pub same-faults_of : (A : Names) (s : Stmt) → faults_of S A s ≡ faults_of T A s
    same-faults_of A (Set at n value) = λ i. same-target at n i ++ same-faults A value i
    same-faults_of A (While' at test s body) = λ i. same-faults A test i ++ same-faults_within A body i
    same-faults_of A (If' at test s first t second) = λ i. same-faults A test i ++ (same-faults_within A first i ++ same-faults_within A second i)

    same-faults_within : (A : Names) {m : _} (k : Row_of-Stmt m) → faults_within S A k ≡ faults_within T A k
    same-faults_within A end_of-Stmt = refl
    same-faults_within A (more_of-Stmt s rest) = λ i. same-faults_of A s i ++ same-faults_within (assigned_after A s) rest i

  pub same-faults_by : (A : Names) (ss : List Stmt) → faults_by S A ss ≡ faults_by T A ss
  same-faults_by A [] = refl
  same-faults_by A (s ∷ ss) = λ i. same-faults_of A s i ++ same-faults_by (assigned_after A s) ss i

module _ (D E : List Known) (h : SameDefinitions D E) where
  -- a name has the same rank, which is that of its one definition; and so, by induction, has what expressions and
  -- statements call
  same-rank : (n : List ℕ) → rank_named D n ≡ rank_named E n
  same-rank n = ap (λ o. option_map_or (λ d. d.rank) o 0) (h n)

  mutual
    pub same-called : (e : Expr) → called D e ≡ called E e
    same-called (Ref at n) = refl
    same-called (Call' at n shape args) = λ i. max (same-rank n i) (same-called_in args i)
    same-called (Base' at base shape args) = same-called_in args
    same-called (Inject at base n) = refl
    same-called (Pair' at p left q right) = λ i. max (same-called left i) (same-called right i)
    same-called (Minus' at p of) = same-called of
    same-called (Turned' at p of times) = same-called of
    same-called (Chain' p first shape rest) = λ i. max (same-called first i) (same-called_along rest i)

    same-called_in : {m : _} (k : Row_of-Expr m) → called_in D k ≡ called_in E k
    same-called_in end_of-Expr = refl
    same-called_in (more_of-Expr e rest) = λ i. max (same-called e i) (same-called_in rest i)

    same-called_along : {m : _} (k : Row_of-Link m) → called_along D k ≡ called_along E k
    same-called_along end_of-Link = refl
    same-called_along (more_of-Link at op right rest) = λ i. max (same-called right i) (same-called_along rest i)

  mutual
    pub same-called_by : (s : Stmt) → called_by D s ≡ called_by E s
    same-called_by (Set at n value) = same-called value
    same-called_by (While' at test s body) = λ i. max (same-called test i) (same-called_within body i)
    same-called_by (If' at test s first t second) = λ i. max (same-called test i) (max (same-called_within first i) (same-called_within second i))

    same-called_within : {m : _} (k : Row_of-Stmt m) → called_within D k ≡ called_within E k
    same-called_within end_of-Stmt = refl
    same-called_within (more_of-Stmt s rest) = λ i. max (same-called_by s i) (same-called_within rest i)

  pub same-called_by_all : (ss : List Stmt) → called_by_all D ss ≡ called_by_all E ss
  same-called_by_all [] = refl
  same-called_by_all (s ∷ ss) = λ i. max (same-called_by s i) (same-called_by_all ss i)
