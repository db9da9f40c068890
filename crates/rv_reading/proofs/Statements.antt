-- What statements do, and what is read off them, goes by their trees alone.
-- 1. For each function of statements one of trees that computes the same.
-- 2. They agree by induction on the statement, for expressions by definition or by `Expressions.antt`.
use Rattle.std.proofs.Common.{◌≡◌, ◌||◌, ◌&&◌, ◌++◌, ℕ, Bool, cond, List, [], ◌∷◌, refl, ap, ◌∙◌}
use Rattle.std.specs.Prelude.{max}
use Rattle.lang_model.specs.declared.syntax.Place.{Place}
use Rattle.lang_model.specs.declared.syntax.Stmt.{Stmt, Set, While', If', Row_of-Stmt, end_of-Stmt, more_of-Stmt}
use Rattle.lang_model.specs.declared.faults.TypeFault.{TypeFault}
use Rattle.lang_model.specs.Tokens.{same_text}
use Rattle.lang_model.specs.Trees.{Tree}
use Rattle.lang_model.specs.State.{State, assigned}
use Rattle.lang_model.specs.Outcomes.{Came, got, and_then}
use Rattle.lang_model.specs.Types.{Passed, Typed, Fits, typed_test}
use Rattle.lang_model.specs.Mean.{Around, tested, mean_tree, mean_test, looped, run, run_within, run_by}
use Rattle.lang_model.specs.Shape.{AroundTypes, Types, passing, set_type, shape_tree, shape_test, typed_behind, typed_within, typed_by}
use Rattle.lang_model.specs.Checking.{Names, Known, Scope, target_faults, assigned_after, assigned_behind, assigned_by, faults_of, faults_within, faults_by, called_by, called_within, called_by_all}
use Rattle.rv_spell.specs.Plain.{StmtTree, StmtTrees, SetTree, WhileTree, IfTree, NoStmt, MoreStmts, stmt_tree, stmt_trees, stmts_in}
use Rattle.rv_reading.proofs.Expressions.{tree_faults, faults-tree, called_tree, called-tree}

-- ---- meanings
module _ (around : Around) where
  -- the test of a WHILE or an IF
  abbrev pub test_of_tree : Place → Tree → State → ℕ → Came Bool
  test_of_tree at t state n = and_then (mean_tree around state t n) (tested at)

  abbrev mutual
    -- the state behind a statement
    pub run_tree : StmtTree → State → ℕ → Came State
    run_tree (SetTree at name t) state n = and_then (mean_tree around state t n) (λ r m. got (assigned name r state) m)
    run_tree (WhileTree at t body) state n = looped at (test_of_tree at t) (run_trees body) state n
    run_tree (IfTree at t first second) state n =
        and_then (test_of_tree at t state n) (λ b m. cond b (run_trees first state m) (run_trees second state m))

    -- that behind statements
    pub run_trees : StmtTrees → State → ℕ → Came State
    run_trees NoStmt state n = got state n
    run_trees (MoreStmts s rest) state n = and_then (run_tree s state n) (λ t m. run_trees rest t m)

  mutual
    run-tree : (s : Stmt) (state : State) (n : ℕ) → run around s state n ≡ run_tree (stmt_tree s) state n
    run-tree (Set at name value) state n = refl
    run-tree (While' at test s body) state n = λ i.
        looped at (mean_test around at test) (λ st k. run-trees body st k i) state n
    run-tree (If' at test s first t second) state n = λ i.
        and_then (mean_test around at test state n) (λ b m. cond b (run-trees first state m i) (run-trees second state m i))

    run-trees : {m : _} (ss : Row_of-Stmt m) (state : State) (n : ℕ) → run_within around ss state n ≡ run_trees (stmt_trees ss) state n
    run-trees end_of-Stmt state n = refl
    run-trees (more_of-Stmt s rest) state n = λ i. and_then (run-tree s state n i) (λ t m. run-trees rest t m i)

  -- a list of statements runs as its trees do, one statement after another
  pub run-list : (ss : List Stmt) (state : State) (n : ℕ) → run_by around ss state n ≡ run_trees (stmts_in ss) state n
  run-list [] state n = refl
  run-list (s ∷ ss) state n = λ i. and_then (run-tree s state n i) (λ t m. run-list ss t m i)

-- ---- types
module _ (around : AroundTypes) where
  -- the test of a WHILE or an IF
  abbrev pub type_of_test : Place → Tree → Types → Typed
  type_of_test at t types = passing (shape_tree around types t) (λ s. typed_test at s)

  abbrev mutual
    -- the types behind a statement
    pub typed_tree : StmtTree → Types → Passed Types
    typed_tree (SetTree at name t) types = passing (shape_tree around types t) (λ s. set_type at name s types (types name))
    typed_tree (WhileTree at t body) types = passing (type_of_test at t types) (λ u. typed_trees body types)
    typed_tree (IfTree at t first second) types =
        passing (type_of_test at t types)
        (λ u. passing (typed_trees first types) (λ more. typed_trees second more))

    -- those behind statements
    pub typed_trees : StmtTrees → Types → Passed Types
    typed_trees NoStmt types = Fits types
    typed_trees (MoreStmts s rest) types = passing (typed_tree s types) (λ more. typed_trees rest more)

  mutual
    typed-tree : (s : Stmt) (types : Types) → typed_behind around s types ≡ typed_tree (stmt_tree s) types
    typed-tree (Set at name value) types = refl
    typed-tree (While' at test s body) types = λ i.
        passing (shape_test around at test types) (λ t. typed-trees body types i)
    typed-tree (If' at test s first t second) types = λ i.
        passing (shape_test around at test types)
        (λ u. passing (typed-trees first types i) (λ more. typed-trees second more i))

    typed-trees : {m : _} (ss : Row_of-Stmt m) (types : Types) → typed_within around ss types ≡ typed_trees (stmt_trees ss) types
    typed-trees end_of-Stmt types = refl
    typed-trees (more_of-Stmt s rest) types = λ i. passing (typed-tree s types i) (λ more. typed-trees rest more i)

  pub typed-list : (ss : List Stmt) (types : Types) → typed_by around ss types ≡ typed_trees (stmts_in ss) types
  typed-list [] types = refl
  typed-list (s ∷ ss) types = λ i. passing (typed-tree s types i) (λ more. typed-list ss more i)

-- ---- assigned variables
abbrev mutual
  -- those behind a statement
  pub assigned_tree : Names → StmtTree → Names
  assigned_tree before (SetTree at name t) = λ n. same_text name n || before n
  assigned_tree before (WhileTree at t body) = before
  assigned_tree before (IfTree at t first second) = λ n.
      before n || (assigned_trees before first n && assigned_trees before second n)

  -- those behind statements
  pub assigned_trees : Names → StmtTrees → Names
  assigned_trees before NoStmt = before
  assigned_trees before (MoreStmts s rest) = assigned_trees (assigned_tree before s) rest

mutual
  assigned-tree : (before : Names) (s : Stmt) → assigned_after before s ≡ assigned_tree before (stmt_tree s)
  assigned-tree before (Set at name value) = refl
  assigned-tree before (While' at test s body) = refl
  assigned-tree before (If' at test s first t second) = λ i n.
      before n || (assigned-trees before first i n && assigned-trees before second i n)

  assigned-trees : (before : Names) {m : _} (ss : Row_of-Stmt m) → assigned_behind before ss ≡ assigned_trees before (stmt_trees ss)
  assigned-trees before end_of-Stmt = refl
  assigned-trees before (more_of-Stmt s rest) =
      assigned-trees (assigned_after before s) rest ∙ ap (λ names. assigned_trees names (stmt_trees rest)) (assigned-tree before s)

-- the names that are assigned behind a list are those behind its trees, one statement after another
pub assigned-list : (before : Names) (ss : List Stmt) → assigned_by before ss ≡ assigned_trees before (stmts_in ss)
assigned-list before [] = refl
assigned-list before (s ∷ ss) =
    assigned-list (assigned_after before s) ss ∙ ap (λ names. assigned_trees names (stmts_in ss)) (assigned-tree before s)

-- ---- faults
module _ (scope : Scope) where
  abbrev mutual
    -- those of a statement
    pub stmt_faults : Names → StmtTree → List TypeFault
    stmt_faults before (SetTree at name t) = target_faults scope at name ++ tree_faults scope before t
    stmt_faults before (WhileTree at t body) = tree_faults scope before t ++ stmts_faults before body
    stmt_faults before (IfTree at t first second) =
        tree_faults scope before t ++ (stmts_faults before first ++ stmts_faults before second)

    -- those of statements
    pub stmts_faults : Names → StmtTrees → List TypeFault
    stmts_faults before NoStmt = []
    stmts_faults before (MoreStmts s rest) = stmt_faults before s ++ stmts_faults (assigned_tree before s) rest

  mutual
    stmt-faults : (before : Names) (s : Stmt) → faults_of scope before s ≡ stmt_faults before (stmt_tree s)
    stmt-faults before (Set at name value) = ap (λ fs. target_faults scope at name ++ fs) (faults-tree scope before value)
    stmt-faults before (While' at test s body) = λ i. faults-tree scope before test i ++ stmts-faults before body i
    stmt-faults before (If' at test s first t second) = λ i.
        faults-tree scope before test i ++ (stmts-faults before first i ++ stmts-faults before second i)

    stmts-faults : (before : Names) {m : _} (ss : Row_of-Stmt m) → faults_within scope before ss ≡ stmts_faults before (stmt_trees ss)
    stmts-faults before end_of-Stmt = refl
    stmts-faults before (more_of-Stmt s rest) = λ i.
        stmt-faults before s i
        ++ (stmts-faults (assigned_after before s) rest
        ∙ ap (λ names. stmts_faults names (stmt_trees rest)) (assigned-tree before s)) i

  -- the faults of a list are those of its trees: each statement's stand behind the names that the earlier ones assigned
  pub faults-list : (before : Names) (ss : List Stmt) → faults_by scope before ss ≡ stmts_faults before (stmts_in ss)
  faults-list before [] = refl
  faults-list before (s ∷ ss) = λ i.
      stmt-faults before s i
      ++ (faults-list (assigned_after before s) ss
      ∙ ap (λ names. stmts_faults names (stmts_in ss)) (assigned-tree before s)) i

-- ---- ranks
module _ (earlier : List Known) where
  abbrev mutual
    -- the greatest that a statement calls
    pub called_stmt : StmtTree → ℕ
    called_stmt (SetTree at name t) = called_tree earlier t
    called_stmt (WhileTree at t body) = max (called_tree earlier t) (called_stmts body)
    called_stmt (IfTree at t first second) = max (called_tree earlier t) (max (called_stmts first) (called_stmts second))

    -- that of statements
    pub called_stmts : StmtTrees → ℕ
    called_stmts NoStmt = 0
    called_stmts (MoreStmts s rest) = max (called_stmt s) (called_stmts rest)

  mutual
    called-stmt : (s : Stmt) → called_by earlier s ≡ called_stmt (stmt_tree s)
    called-stmt (Set at name value) = called-tree earlier value
    called-stmt (While' at test s body) = λ i. max (called-tree earlier test i) (called-stmts body i)
    called-stmt (If' at test s first t second) = λ i.
        max (called-tree earlier test i) (max (called-stmts first i) (called-stmts second i))

    called-stmts : {m : _} (ss : Row_of-Stmt m) → called_within earlier ss ≡ called_stmts (stmt_trees ss)
    called-stmts end_of-Stmt = refl
    called-stmts (more_of-Stmt s rest) = λ i. max (called-stmt s i) (called-stmts rest i)

  pub called-list : (ss : List Stmt) → called_by_all earlier ss ≡ called_stmts (stmts_in ss)
  called-list [] = refl
  called-list (s ∷ ss) = λ i. max (called-stmt s i) (called-list ss i)
