-- The faults that a script has before it runs, and the first of them: of names, arguments, assignments and ranks.
use Rattle.std.specs.Prelude.{◌==◌, ◌&&◌, ◌||◌, ◌+◌, not, nat_lt, max, cond, ℕ, Bool, true, false, List, [], ◌∷◌, ◌++◌, length, map, codes, Option, Some, None}
use Rattle.std.specs.List.{list_any}
use Rattle.std.specs.Option.{option_map_or}
use Rattle.lang_model.specs.Limits.{rank_limit}
use Rattle.lang_model.specs.declared.syntax.Place.{Place}
use Rattle.lang_model.specs.declared.syntax.Base.{Base}
use Rattle.lang_model.specs.declared.syntax.Base.TheVariants.{P1, P2, I1}
use Rattle.lang_model.specs.declared.syntax.Expr.{Expr, Ref, Call', Base', Inject, Pair', Minus', Turned', Chain', Row_of-Expr, end_of-Expr, more_of-Expr, Row_of-Link, end_of-Link, more_of-Link}
use Rattle.lang_model.specs.declared.syntax.Stmt.{Stmt, Set, While', If', Row_of-Stmt, end_of-Stmt, more_of-Stmt}
use Rattle.lang_model.specs.declared.syntax.Decl.{Decl}
use Rattle.lang_model.specs.declared.syntax.Decl.TheVariants.{Variable, Domain}
use Rattle.lang_model.specs.declared.syntax.Let.{Let as LetOf}
use Rattle.lang_model.specs.declared.syntax.Command.{Command}
use Rattle.lang_model.specs.declared.syntax.Command.TheVariants.{Let, Print, List as LIST, Count, Typed, At, Save, Atomic, Explain}
use Rattle.lang_model.specs.declared.syntax.Item.{Item}
use Rattle.lang_model.specs.declared.syntax.Item.TheVariants.{Function, Program, Command as COMMAND}
use Rattle.lang_model.specs.declared.syntax.Script.{Script}
use Rattle.lang_model.specs.declared.faults.TypeFault.{TypeFault}
use Rattle.lang_model.specs.declared.faults.TypeFault.TheVariants.{Unknown, Arity, Unassigned, Rank, Mismatch, NotSquare, NotVector, NotTest, Twice, NoMemory}
use Rattle.lang_model.specs.Tokens.{same_text}

-- ---- names
-- a set of names, as a test
abbrev pub Names : Type 0
Names = List ℕ → Bool

-- the names of a list
abbrev pub among : List (List ℕ) → Names
among names name = list_any (λ n. same_text n name) names

-- the empty set of names
abbrev pub no_name : Names
no_name name = false

-- a definition that occurs earlier in the script: its name, how many arguments it takes, and its rank
pub record Known : Type 0 where
  pub name : List ℕ
  pub takes : ℕ
  pub rank : ℕ

-- the first definition of a name
abbrev pub definition_of : List Known → List ℕ → Option Known
definition_of [] name = None
definition_of (d ∷ ds) name = cond (same_text d.name name) (Some d) (definition_of ds name)

-- what the names of an expression may refer to
pub record Scope : Type 0 where
  -- whether its names are names of relations, which are looked up when the command runs
  pub is_command : Bool
  pub parameters : List (List ℕ)
  pub variables : List (List ℕ)
  -- the domains declared by PROD, and by SUM
  pub products : List (List ℕ)
  pub sums : List (List ℕ)
  -- the definitions of earlier items
  pub earlier : List Known

-- ---- expressions
-- how a domain operator is written; no text is parsed to a tree with another base there
abbrev pub domain_operator_text : Base → List ℕ
domain_operator_text P1 = codes "p-1"
domain_operator_text P2 = codes "p-2"
domain_operator_text I1 = codes "i-1"
domain_operator_text _ = codes "i-2"

-- whether a domain operator is a projection, of a product
abbrev pub is_projection : Base → Bool
is_projection P1 = true
is_projection P2 = true
is_projection _ = false

-- a name must be a relation's, a parameter, or a variable that is assigned on every path before it
unfoldable pub ref_faults : Scope → Names → Place → List ℕ → List TypeFault
ref_faults scope assigned at name =
    cond (scope.is_command || among scope.parameters name) [] (cond (among scope.variables name)
    (cond (assigned name) [] (Unassigned at name ∷ [])) (Unknown at name ∷ []))

-- a call must be of a definition of an earlier item, with the number of arguments that it takes
unfoldable pub call_faults : Scope → Place → List ℕ → ℕ → List TypeFault
call_faults scope at name given = option_map_or (λ d. cond (d.takes == given) [] (Arity at name d.takes given ∷ []))
    (definition_of scope.earlier name) (Unknown at name ∷ [])

-- a projection must be of a declared product, and an injection of a declared sum
unfoldable pub domain_faults : Scope → Place → Base → List ℕ → List TypeFault
domain_faults scope at base domain = cond (among (cond (is_projection base) scope.products scope.sums)
    domain) [] (Unknown at (domain_operator_text base) ∷ [])

-- how many expressions are in a row
abbrev pub count_in : {m : _} → Row_of-Expr m → ℕ
count_in end_of-Expr = 0
count_in (more_of-Expr e rest) = count_in rest + 1

-- the faults of an expression, given the variables assigned before it
abbrev mutual
  -- the faults of an expression, in the order of its places
  pub faults : Scope → Names → Expr → List TypeFault
  faults scope assigned (Ref at name) = ref_faults scope assigned at name
  faults scope assigned (Call' at name shape args) = call_faults scope at name (count_in args)
      ++ faults_in scope assigned args
  faults scope assigned (Base' at base shape args) = faults_in scope assigned args
  faults scope assigned (Inject at base domain) = domain_faults scope at base domain
  faults scope assigned (Pair' at p left q right) = faults scope assigned left ++ faults scope assigned right
  faults scope assigned (Minus' at p of) = faults scope assigned of
  faults scope assigned (Turned' at p of times) = faults scope assigned of
  faults scope assigned (Chain' p first shape rest) = faults scope assigned first ++ faults_along scope assigned rest

  -- the faults of arguments
  pub faults_in : Scope → Names → {m : _} → Row_of-Expr m → List TypeFault
  faults_in scope assigned end_of-Expr = []
  faults_in scope assigned (more_of-Expr e rest) = faults scope assigned e ++ faults_in scope assigned rest

  -- the faults of the links of a chain
  pub faults_along : Scope → Names → {m : _} → Row_of-Link m → List TypeFault
  faults_along scope assigned end_of-Link = []
  faults_along scope assigned (more_of-Link at op right rest) = faults scope assigned right
      ++ faults_along scope assigned rest

-- ---- ranks
-- the rank of the definition of a name; 0 if there is none
abbrev pub rank_named : List Known → List ℕ → ℕ
rank_named earlier name = option_map_or (λ d. d.rank) (definition_of earlier name) 0

-- the greatest rank of the definitions that an expression calls; 0 if it calls none
abbrev mutual
  -- the same for one expression
  pub called : List Known → Expr → ℕ
  called earlier (Ref at name) = 0
  called earlier (Call' at name shape args) = max (rank_named earlier name) (called_in earlier args)
  called earlier (Base' at base shape args) = called_in earlier args
  called earlier (Inject at base domain) = 0
  called earlier (Pair' at p left q right) = max (called earlier left) (called earlier right)
  called earlier (Minus' at p of) = called earlier of
  called earlier (Turned' at p of times) = called earlier of
  called earlier (Chain' p first shape rest) = max (called earlier first) (called_along earlier rest)

  -- the same for arguments
  pub called_in : List Known → {m : _} → Row_of-Expr m → ℕ
  called_in earlier end_of-Expr = 0
  called_in earlier (more_of-Expr e rest) = max (called earlier e) (called_in earlier rest)

  -- the same for the links of a chain
  pub called_along : List Known → {m : _} → Row_of-Link m → ℕ
  called_along earlier end_of-Link = 0
  called_along earlier (more_of-Link at op right rest) = max (called earlier right) (called_along earlier rest)

-- ---- statements
-- the variables that are assigned on every path after a statement: after an IF, those assigned in both branches too;
-- after a WHILE, only those from before it, since its body may never run
abbrev mutual
  -- the names assigned after a statement
  pub assigned_after : Names → Stmt → Names
  assigned_after before (Set at name value) = λ n. same_text name n || before n
  assigned_after before (While' at test s body) = before
  assigned_after before (If' at test s first t second) = λ n. before n
      || (assigned_behind before first n && assigned_behind before second n)

  -- the names assigned after a row of statements
  pub assigned_behind : Names → {m : _} → Row_of-Stmt m → Names
  assigned_behind before end_of-Stmt = before
  assigned_behind before (more_of-Stmt s rest) = assigned_behind (assigned_after before s) rest

-- the names assigned after a list of statements
abbrev pub assigned_by : Names → List Stmt → Names
assigned_by before [] = before
assigned_by before (s ∷ ss) = assigned_by (assigned_after before s) ss

-- an assignment must be to a declared variable
unfoldable pub target_faults : Scope → Place → List ℕ → List TypeFault
target_faults scope at name = cond (among scope.variables name) [] (Unknown at name ∷ [])

-- the faults of statements, given the variables assigned before them; a test is checked before its branches
abbrev mutual
  -- the faults of a statement
  pub faults_of : Scope → Names → Stmt → List TypeFault
  faults_of scope before (Set at name value) = target_faults scope at name ++ faults scope before value
  faults_of scope before (While' at test s body) = faults scope before test ++ faults_within scope before body
  faults_of scope before (If' at test s first t second) = faults scope before test
      ++ (faults_within scope before first ++ faults_within scope before second)

  -- the faults of a row of statements
  pub faults_within : Scope → Names → {m : _} → Row_of-Stmt m → List TypeFault
  faults_within scope before end_of-Stmt = []
  faults_within scope before (more_of-Stmt s rest) = faults_of scope before s
      ++ faults_within scope (assigned_after before s) rest

-- the faults of a list of statements
abbrev pub faults_by : Scope → Names → List Stmt → List TypeFault
faults_by scope before [] = []
faults_by scope before (s ∷ ss) = faults_of scope before s ++ faults_by scope (assigned_after before s) ss

-- the greatest rank of the definitions that statements call
abbrev mutual
  -- the greatest rank of the definitions that a statement calls
  pub called_by : List Known → Stmt → ℕ
  called_by earlier (Set at name value) = called earlier value
  called_by earlier (While' at test s body) = max (called earlier test) (called_within earlier body)
  called_by earlier (If' at test s first t second) = max (called earlier test)
      (max (called_within earlier first) (called_within earlier second))

  -- the same for a row of statements
  pub called_within : List Known → {m : _} → Row_of-Stmt m → ℕ
  called_within earlier end_of-Stmt = 0
  called_within earlier (more_of-Stmt s rest) = max (called_by earlier s) (called_within earlier rest)

-- the same for a list of statements
abbrev pub called_by_all : List Known → List Stmt → ℕ
called_by_all earlier [] = 0
called_by_all earlier (s ∷ ss) = max (called_by earlier s) (called_by_all earlier ss)

-- ---- definitions
-- the name of a declaration
abbrev pub name_of : Decl → List ℕ
name_of (Variable at name) = name
name_of (Domain at name sum left right) = name

-- the declared variables
abbrev pub variables_of : List Decl → List (List ℕ)
variables_of [] = []
variables_of (Variable at name ∷ ds) = name ∷ variables_of ds
variables_of (Domain at name sum left right ∷ ds) = variables_of ds

-- the declared domains: those of SUM, or those of PROD
abbrev pub domains_of : Bool → List Decl → List (List ℕ)
domains_of sums [] = []
domains_of sums (Variable at name ∷ ds) = domains_of sums ds
domains_of sums (Domain at name sum left right ∷ ds) = cond (cond sums sum (not sum)) (name ∷ domains_of sums ds)
    (domains_of sums ds)

-- a domain must be of two parameters; the first operand that is not one is reported, at the declaration
abbrev pub operand_faults : List (List ℕ) → Decl → List TypeFault
operand_faults parameters (Variable at name) = []
operand_faults parameters (Domain at name sum left right) = cond (among parameters left)
    (cond (among parameters right) [] (Unknown at right ∷ [])) (Unknown at left ∷ [])

-- the place of a declaration
abbrev pub place_of_decl : Decl → Place
place_of_decl (Variable at name) = at
place_of_decl (Domain at name sum left right) = at

-- declarations whose name a parameter or an earlier one has, and those with operands that are not parameters
abbrev pub decl_faults : List (List ℕ) → List (List ℕ) → List Decl → List TypeFault
decl_faults parameters before [] = []
decl_faults parameters before (d ∷ ds) =
    (cond (among before (name_of d)) (Twice (place_of_decl d) (name_of d) ∷ []) [] ++ operand_faults parameters d)
    ++ decl_faults parameters (name_of d ∷ before) ds

-- parameters whose name is taken, reported at the place of the definition's name
abbrev pub parameter_faults : Place → List (List ℕ) → List (List ℕ) → List TypeFault
parameter_faults at before [] = []
parameter_faults at before (p ∷ ps) = cond (among before p) (Twice at p ∷ []) [] ++ parameter_faults at (p ∷ before) ps

-- the names of the definitions of earlier items
abbrev pub names_of : List Known → List (List ℕ)
names_of = map (λ d. d.name)

-- the faults at a definition's name: its rank is over the limit, its name is taken, or a parameter occurs twice
unfoldable pub head_faults : List Known → Place → List ℕ → List (List ℕ) → ℕ → List TypeFault
head_faults earlier at name parameters rank =
    cond (nat_lt rank_limit rank) (Rank at name ∷ []) []
    ++ (cond (among (names_of earlier) name) (Twice at name ∷ []) [] ++ parameter_faults at [] parameters)

-- what the names of a function may refer to
abbrev pub function_scope : List Known → List (List ℕ) → Scope
function_scope earlier parameters = record {
  is_command = false;
  parameters = parameters;
  variables = [];
  products = [];
  sums = [];
  earlier = earlier;
}

-- what the names of a program may refer to
abbrev pub program_scope : List Known → List (List ℕ) → List Decl → Scope
program_scope earlier parameters decls =
    record {
      is_command = false;
      parameters = parameters;
      variables = variables_of decls;
      products = domains_of false decls;
      sums = domains_of true decls;
      earlier = earlier;
    }

-- what the names of a command may refer to
abbrev pub command_scope : List Known → Scope
command_scope earlier = record {
  is_command = true;
  parameters = [];
  variables = [];
  products = [];
  sums = [];
  earlier = earlier;
}

-- the rank of a definition: 1 more than the greatest rank of the earlier definitions that it calls; 1 if it calls none
unfoldable pub rank_of : List Known → Item → ℕ
rank_of earlier (Function at name params body) = called earlier body + 1
rank_of earlier (Program at name params decls body result) = max (called_by_all earlier body.items)
    (called earlier result) + 1
rank_of earlier (COMMAND command) = 0

-- ---- scripts
-- the faults of the expressions of a block
abbrev pub let_faults : Scope → List LetOf → List TypeFault
let_faults scope [] = []
let_faults scope (l ∷ ls) = faults scope no_name l.value ++ let_faults scope ls

-- the faults of the expressions of a command
unfoldable pub command_faults : List Known → Command → List TypeFault
command_faults earlier (Let name value) = faults (command_scope earlier) no_name value
command_faults earlier (Print value) = faults (command_scope earlier) no_name value
command_faults earlier (LIST value) = faults (command_scope earlier) no_name value
command_faults earlier (Count value) = faults (command_scope earlier) no_name value
command_faults earlier (Typed value) = faults (command_scope earlier) no_name value
command_faults earlier (At at name value) = faults (command_scope earlier) no_name value
command_faults earlier (Save value file) = faults (command_scope earlier) no_name value
command_faults earlier (Atomic lets) = let_faults (command_scope earlier) lets.items
command_faults earlier (Explain value) = faults (command_scope earlier) no_name value
command_faults earlier _ = []

-- the faults of an item, given the earlier ones
unfoldable pub item_faults : List Known → Item → List TypeFault
item_faults earlier (Function at name params body) =
    head_faults earlier at name params.items (rank_of earlier (Function at name params body))
    ++ faults (function_scope earlier params.items) no_name body
item_faults earlier (Program at name params decls body result) =
    let scope = program_scope earlier params.items decls.items in
    head_faults earlier at name params.items (rank_of earlier (Program at name params decls body result))
    ++ (decl_faults params.items params.items decls.items
    ++ (faults_by scope no_name body.items ++ faults scope (assigned_by no_name body.items) result))
item_faults earlier (COMMAND command) = command_faults earlier command

-- the definitions up to and including an item
unfoldable pub known_with : List Known → Item → List Known
known_with earlier (Function at name params body) = earlier
    ++ record { name = name; takes = length params.items; rank = rank_of earlier (Function at name params body) } ∷ []
known_with earlier (Program at name params decls body result) = earlier
    ++ record {
      name = name;
      takes = length params.items;
      rank = rank_of earlier (Program at name params decls body result);
    } ∷ []
known_with earlier (COMMAND command) = earlier

-- the faults of items, given the earlier ones
abbrev pub items_faults : List Known → List Item → List TypeFault
items_faults earlier [] = []
items_faults earlier (item ∷ items) = item_faults earlier item ++ items_faults (known_with earlier item) items

-- ---- the first fault
-- where a fault is
abbrev pub place_of : TypeFault → Place
place_of (Unknown at name) = at
place_of (Arity at name takes given) = at
place_of (Unassigned at name) = at
place_of (Rank at name) = at
place_of (Mismatch at op left right) = at
place_of (NotSquare at op shape) = at
place_of (NotVector at op shape) = at
place_of (NotTest at shape) = at
place_of (Twice at name) = at
place_of NoMemory = record { line = 0; column = 0 }

-- the number of a fault's kind, which orders faults at one place
abbrev pub number_of : TypeFault → ℕ
number_of (Unknown at name) = 1
number_of (Arity at name takes given) = 2
number_of (Unassigned at name) = 3
number_of (Rank at name) = 4
number_of (Mismatch at op left right) = 5
number_of (NotSquare at op shape) = 6
number_of (NotVector at op shape) = 7
number_of (NotTest at shape) = 8
number_of (Twice at name) = 9
number_of NoMemory = 10

-- whether a fault comes before another: by line, then by column, then by number
unfoldable pub precedes : TypeFault → TypeFault → Bool
precedes f g =
    let p = place_of f in
    let q = place_of g in
    nat_lt p.line q.line || ((p.line == q.line) && (nat_lt p.column q.column
    || ((p.column == q.column) && nat_lt (number_of f) (number_of g))))

-- the first of two faults; the left one if neither precedes the other
abbrev pub first_of_two : TypeFault → Option TypeFault → TypeFault
first_of_two f None = f
first_of_two f (Some g) = cond (precedes g f) g f

-- the first fault of a list
abbrev pub first_fault : List TypeFault → Option TypeFault
first_fault [] = None
first_fault (f ∷ fs) = Some (first_of_two f (first_fault fs))

-- the fault of a script that is reported: the first in the text, and at one place the one with the least number
unfoldable pub flaw : Script → Option TypeFault
flaw script = first_fault (items_faults [] script.items.items)
