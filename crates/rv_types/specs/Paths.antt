-- The paths that a run may take through statements, each as the names that it assigns in order; and what it means that
-- a variable is assigned, or unassigned, on them.
use Rattle.std.specs.Prelude.{◌≡◌, ◌||◌, ◌++◌, ◌⊎◌, ◌↔◌, ℕ, true, false, List, [], ◌∷◌, Contains}
use Rattle.lang_model.specs.declared.syntax.Place.{Place}
use Rattle.lang_model.specs.declared.syntax.Expr.{Expr, Ref, Call', Base', Inject, Pair', Minus', Turned', Chain', Row_of-Expr, end_of-Expr, more_of-Expr, Row_of-Link, end_of-Link, more_of-Link}
use Rattle.lang_model.specs.declared.syntax.Stmt.{Stmt, Set, While', If', Row_of-Stmt, end_of-Stmt, more_of-Stmt}
use Rattle.lang_model.specs.declared.faults.TypeFault.TheVariants.{Unassigned}
use Rattle.lang_model.specs.Checking.{Names, among, no_name, Scope, faults, faults_by, assigned_by}

-- ---- paths
-- the names assigned by any number of turns of a loop, turn after turn
pub data Turns (IsTurn : List (List ℕ) → Type 0) : List (List ℕ) → Type 0 where
  -- no turn at all
  no_turn : Turns IsTurn []
  -- one turn, and then the others
  one_more_turn : (turn rest : List (List ℕ)) → IsTurn turn → Turns IsTurn rest → Turns IsTurn (turn ++ rest)

-- a path: the names that one run through a statement, or through a row of statements, assigns in order
abbrev mutual
  -- a path through a statement assigns these names
  pub IsPathOf : Stmt → List (List ℕ) → Type 0
  -- for `name = value`, its name
  IsPathOf (Set at name value) path = path ≡ name ∷ []
  -- for a WHILE, any number of paths of its body, one after another
  IsPathOf (While' at test s body) path = Turns (IsPathWithin body) path
  -- for an IF, a path of one of its two branches; without ELSE, the second branch has no statement
  IsPathOf (If' at test s first t second) path = IsPathWithin first path ⊎ IsPathWithin second path

  -- a path through a list of statements
  pub IsPathWithin : {m : _} → Row_of-Stmt m → List (List ℕ) → Type 0
  -- for no statement, no name
  IsPathWithin end_of-Stmt path = path ≡ []
  -- for more statements, a path of the first, and then one of the rest
  IsPathWithin (more_of-Stmt s rest) path = (one more : List (List ℕ)) × IsPathOf s one × IsPathWithin rest more
      × (path ≡ one ++ more)

-- the same for a list of statements
abbrev pub IsPath : List Stmt → List (List ℕ) → Type 0
IsPath [] path = path ≡ []
IsPath (s ∷ ss) path = (one more : List (List ℕ)) × IsPathOf s one × IsPath ss more × (path ≡ one ++ more)

-- a path that leads to an expression: the names that one run, from the start of a statement or of a row of statements,
-- assigns in order before it reads the expression
abbrev mutual
  -- a path inside a statement leads to an expression of it
  pub LeadsIn : Stmt → Expr → List (List ℕ) → Type 0
  -- `name = value` reads its value before it assigns
  LeadsIn (Set at name value) e path = (e ≡ value) × (path ≡ [])
  -- a WHILE reads its test after any number of turns; what its body reads, it reads after any number of turns and the
  -- path that leads there in the body
  LeadsIn (While' at test s body) e path =
      ((e ≡ test) × Turns (IsPathWithin body) path) ⊎ ((turns rest : List (List ℕ)) × Turns (IsPathWithin body) turns
      × LeadsWithin body e rest × (path ≡ turns ++ rest))
  -- an IF reads its test first, and then what one of its two branches reads
  LeadsIn (If' at test s first t second) e path = ((e ≡ test) × (path ≡ []))
      ⊎ (LeadsWithin first e path ⊎ LeadsWithin second e path)

  -- the same inside a row of statements
  pub LeadsWithin : {m : _} → Row_of-Stmt m → Expr → List (List ℕ) → Type 0
  -- no statement reads nothing
  LeadsWithin end_of-Stmt e path = ⊥
  -- more statements read what the first reads, and then, after a path of the first, what the rest reads
  LeadsWithin (more_of-Stmt s rest) e path = LeadsIn s e path
      ⊎ ((one more : List (List ℕ)) × IsPathOf s one × LeadsWithin rest e more × (path ≡ one ++ more))

-- the same for a list of statements
abbrev pub LeadsTo : List Stmt → Expr → List (List ℕ) → Type 0
LeadsTo [] e path = ⊥
LeadsTo (s ∷ ss) e path = LeadsIn s e path ⊎ ((one more : List (List ℕ)) × IsPathOf s one × LeadsTo ss e more
    × (path ≡ one ++ more))

-- ---- names that are read
-- this name is read at this place in an expression; the names of called definitions, and of domains, are not read
abbrev mutual
  -- an expression reads a name at a place
  pub Reads : Expr → Place → List ℕ → Type 0
  Reads (Ref p m) at name = (p ≡ at) × (m ≡ name)
  Reads (Call' p m shape args) at name = ReadsIn args at name
  Reads (Base' p base shape args) at name = ReadsIn args at name
  Reads (Inject p base domain) at name = ⊥
  Reads (Pair' p x left y right) at name = Reads left at name ⊎ Reads right at name
  Reads (Minus' p x of) at name = Reads of at name
  Reads (Turned' p x of times) at name = Reads of at name
  Reads (Chain' x first shape rest) at name = Reads first at name ⊎ ReadsAlong rest at name

  -- the same for arguments
  pub ReadsIn : {m : _} → Row_of-Expr m → Place → List ℕ → Type 0
  ReadsIn end_of-Expr at name = ⊥
  ReadsIn (more_of-Expr e rest) at name = Reads e at name ⊎ ReadsIn rest at name

  -- the same for the links of a chain
  pub ReadsAlong : {m : _} → Row_of-Link m → Place → List ℕ → Type 0
  ReadsAlong end_of-Link at name = ⊥
  ReadsAlong (more_of-Link p op right rest) at name = Reads right at name ⊎ ReadsAlong rest at name

-- ---- laws
-- each path through the statements assigns the name
abbrev pub IsOnEachPath : List Stmt → List ℕ → Type 0
IsOnEachPath ss name = (path : List (List ℕ)) → IsPath ss path → among path name ≡ true

-- what it means that a name counts as assigned after statements
pub record CountsAsAssigned (ss : List Stmt) (name : List ℕ) : Type 0 where
  -- if none was assigned before: each path through them assigns it
  pub from_none : (assigned_by no_name ss name ≡ true) ↔ IsOnEachPath ss name
  -- in general: it was assigned before, or each path through them assigns it
  pub from_others : (before : Names) → (assigned_by before ss name ≡ true) ↔ ((before name ≡ true)
      ⊎ IsOnEachPath ss name)

-- the walk over sets of names finds exactly what is assigned on every path
abbrev pub AssignedOnEveryPath : Type 0
AssignedOnEveryPath = (ss : List Stmt) (name : List ℕ) → CountsAsAssigned ss name

-- a name is that of a declared variable: not in a command, and not a parameter
abbrev pub IsVariable : Scope → List ℕ → Type 0
IsVariable scope name = ((scope.is_command || among scope.parameters name) ≡ false)
    × (among scope.variables name ≡ true)

-- what it means that a variable is reported as unassigned at a place
pub record CountsAsUnassigned (scope : Scope) (before : Names) (ss : List Stmt) (at : Place)
    (name : List ℕ) : Type 0 where
  -- in statements: it was not assigned before, and some path that does not assign it leads to an expression that reads
  -- it at this place
  pub in_statements :
      Contains (faults_by scope before ss) (Unassigned at name)
      ↔ (IsVariable scope name × (before name ≡ false)
      × ((e : Expr) × (path : List (List ℕ)) × LeadsTo ss e path × Reads e at name × (among path name ≡ false)))
  -- in an expression after them: it was not assigned before, the expression reads it at this place, and some path
  -- through them does not assign it
  pub behind_them : (e : Expr) →
      Contains (faults scope (assigned_by before ss) e) (Unassigned at name)
      ↔ (IsVariable scope name × (before name ≡ false) × Reads e at name
      × ((path : List (List ℕ)) × IsPath ss path × (among path name ≡ false)))

-- a variable is reported as unassigned exactly if some path leaves it unassigned
abbrev pub UnassignedOnSomePath : Type 0
UnassignedOnSomePath = (scope : Scope) (before : Names) (ss : List Stmt) (at : Place) (name : List ℕ)
    → CountsAsUnassigned scope before ss at name
