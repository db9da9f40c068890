-- The meaning of expressions, statements and calls of definitions on a state: a value and the turns that are left, or
-- the first refusal, together with how many nodes may be made on the way. It is defined by recursion on how deeply
-- calls may nest, on the text, and on the turns of each loop. Expressions mean what their trees mean.
use Rattle.std.specs.Prelude.{◌==◌, ◌&&◌, ◌+◌, ◌-◌, ◌*◌, ◌^◌, not, nat_lt, min, max, cond, zero, suc, ℕ, Bool, List, [], ◌∷◌, ◌++◌, length, Option, Some, None}
use Rattle.lang_model.specs.declared.syntax.Place.{Place}
use Rattle.lang_model.specs.declared.syntax.Op2.{Op2}
use Rattle.lang_model.specs.declared.syntax.Op2.TheVariants.{Or, And, Times, Under, Over}
use Rattle.lang_model.specs.declared.syntax.Base.{Base}
use Rattle.lang_model.specs.declared.syntax.Base.TheVariants.{L, O, I, Ln1, On1, L1n, O1n, Dom, Ran, Trans, Refl, Epsi}
use Rattle.lang_model.specs.declared.syntax.Base.TheVariants.{Point, Atom, Init, Next, Inj, Empty, Unival, Less, Hasse}
use Rattle.lang_model.specs.declared.syntax.Base.TheVariants.{Quot, Syq, Eq, Incl, Ubd, Lbd, Least, Greatest, Sup, Inf}
use Rattle.lang_model.specs.declared.syntax.Base.TheVariants.{P1, P2, I1}
use Rattle.lang_model.specs.declared.syntax.Expr.{Expr, Row_of-Expr, Row_of-Link}
use Rattle.lang_model.specs.declared.syntax.Link.{Link}
use Rattle.lang_model.specs.declared.syntax.Stmt.{Stmt, Set, While', If', Row_of-Stmt, end_of-Stmt, more_of-Stmt}
use Rattle.lang_model.specs.declared.syntax.Decl.{Decl}
use Rattle.lang_model.specs.declared.syntax.Decl.TheVariants.{Variable, Domain}
use Rattle.lang_model.specs.declared.syntax.Item.{Item}
use Rattle.lang_model.specs.declared.syntax.Item.TheVariants.{Function, Program, Command as COMMAND}
use Rattle.lang_model.specs.declared.syntax.Script.{Script}
use Rattle.lang_model.specs.declared.faults.TypeFault.TheVariants.{Unknown, Arity, Rank}
use Rattle.rel_model.specs.Relation.{Relation, has, relation_of, size_limit}
use Rattle.rel_model.specs.Cells.{some_below}
use Rattle.rel_model.specs.Operators.{empty, full, union, inter, complement, transposed_by, compose, right_residual, left_residual, identity, symmetric_quotient}
use Rattle.rel_model.specs.Choice.{point, atom, init, next, dom, ran, is_unival, inj}
use Rattle.rel_model.specs.Closures.{transitive_closure, reflexive_closure}
use Rattle.rel_model.specs.Domains.{first_projection, second_projection, left_injection, right_injection, membership, pairing}
use Rattle.rel_model.specs.Orders.{less, hasse, classes, upper_bounds, lower_bounds, least, greatest, suprema, infima}
use Rattle.lang_model.specs.Trees.{Tree, NameTree, CallTree, BaseTree, InjectTree, PairTree, MinusTree, TurnedTree}
use Rattle.lang_model.specs.Trees.{ChainTree, Trees, NoTree, MoreTrees, Branches, NoBranch, MoreBranches, tree_of}
use Rattle.lang_model.specs.Trees.{trees_of, branches_of}
use Rattle.lang_model.specs.State.{State, nothing, assigned}
use Rattle.lang_model.specs.Checking.{domain_operator_text}
use Rattle.lang_model.specs.Limits.{rank_limit}
use Rattle.lang_model.specs.Tokens.{same_text}
use Rattle.lang_model.specs.Defining.{defines}
use Rattle.lang_model.specs.Rooms.{plain_cost, wide_cost, order_cost, link_cost}
use Rattle.lang_model.specs.Outcomes.{Ill, Size, Turns, no_cost, Came, got, refused, and_then, Operation, Makes, Refuses, with_turns}
use Rattle.lang_model.specs.Types.{Typed, Fits, Misfit, sizes, typed_link, typed_pair, typed_base, typed_base_of_two, typed_test}

-- ---- single operations
-- the result of an operator on two relations
abbrev pub result_of_both : Op2 → Relation → Relation → Relation
result_of_both Or r s = union r s
result_of_both And r s = inter r s
result_of_both Times r s = compose r s
result_of_both Under r s = right_residual r s
result_of_both Over r s = left_residual r s

-- the test of types comes first
abbrev pub fitting : Typed → Operation → Operation
fitting (Fits shape) made = made
fitting (Misfit fault) made = Refuses (Ill fault)

-- then the test of the result's size; the size reported is capped at 2 ^ 64 - 1
abbrev pub limited : Place → ℕ → Operation → Operation
limited at wanted made = cond (nat_lt size_limit wanted) (Refuses (Size at (min wanted (2 ^ 64 - 1)))) made

-- an operator between two relations
unfoldable pub linked : Place → Op2 → Relation → Relation → Operation
linked at op r s = fitting (typed_link at op (sizes r) (sizes s)) (Makes (result_of_both op r s) (link_cost op r s))

-- the complement
unfoldable pub complemented : Relation → Operation
complemented r = Makes (complement r) (plain_cost r.rows r.cols)

-- transposed this many times
unfoldable pub turned : ℕ → Relation → Operation
turned times r = Makes (transposed_by times r) (plain_cost r.rows r.cols)

-- the pairing
unfoldable pub paired : Place → Relation → Relation → Operation
paired at r s =
    fitting (typed_pair at (sizes r) (sizes s))
    (limited at (r.cols * s.cols) (Makes (pairing r s) (wide_cost r.rows (max r.cols s.cols) (r.cols * s.cols))))

-- the answer of a test: a relation of one row and one column, full for yes
unfoldable pub answer_of_test : Bool → Relation
answer_of_test b = relation_of 1 1 (λ i j. b)

-- whether each pair of the first is in the second
abbrev pub is_within : Relation → Relation → Bool
is_within r s = not (some_below r.rows (λ i. some_below r.cols (λ j. has r i j && not (has s i j))))

-- whether a relation has no pair
abbrev pub is_empty : Relation → Bool
is_empty r = not (some_below r.rows (λ i. some_below r.cols (λ j. has r i j)))

-- the value and the cost of a base call of one operand that fits; no text calls another base name with one
abbrev pub base_made : Base → Relation → Operation
base_made L r = Makes (full r.rows r.cols) (plain_cost r.rows r.cols)
base_made O r = Makes (empty r.rows r.cols) (plain_cost r.rows r.cols)
base_made I r = Makes (identity r.rows) (wide_cost r.rows r.rows r.rows)
base_made Ln1 r = Makes (full r.rows 1) (plain_cost r.rows r.cols)
base_made On1 r = Makes (empty r.rows 1) (plain_cost r.rows r.cols)
base_made L1n r = Makes (full 1 r.cols) (plain_cost r.rows r.cols)
base_made O1n r = Makes (empty 1 r.cols) (plain_cost r.rows r.cols)
base_made Dom r = Makes (dom r) (wide_cost r.rows r.cols 1)
base_made Ran r = Makes (ran r) (wide_cost r.rows r.cols 1)
base_made Trans r = Makes (transitive_closure r) (wide_cost r.rows r.rows r.rows)
base_made Refl r = Makes (reflexive_closure r) (wide_cost r.rows r.rows r.rows)
base_made Epsi r = Makes (membership r.rows) (wide_cost r.rows r.cols (2 ^ r.rows))
base_made Point r = Makes (point r) (wide_cost r.rows r.cols 1)
base_made Atom r = Makes (atom r) (wide_cost r.rows r.cols 1)
base_made Init r = Makes (init r) (wide_cost r.rows r.cols 1)
base_made Next r = Makes (next r) (wide_cost r.rows r.cols 1)
base_made Inj r = Makes (inj r) (wide_cost r.rows r.cols 1)
base_made Empty r = Makes (answer_of_test (is_empty r)) (plain_cost r.rows r.cols)
base_made Unival r = Makes (answer_of_test (is_unival r)) (plain_cost r.rows r.cols)
base_made Less r = Makes (less r.rows) (order_cost r.rows r.rows r.rows)
base_made Hasse r = Makes (hasse r) (order_cost r.rows r.rows r.rows)
base_made Quot r = Makes (classes r) (order_cost r.rows r.rows r.rows)
base_made _ r = Makes (empty 0 0) no_cost

-- the size that a base call of one operand computes: that of a power set; others compute none
abbrev pub base_wants : Base → Relation → ℕ
base_wants Epsi r = 2 ^ r.rows
base_wants _ r = 0

-- the same for two operands; no text calls another base name with two
abbrev pub base_made_of_two : Base → Relation → Relation → Operation
base_made_of_two Syq r s = Makes (symmetric_quotient r s) (wide_cost r.rows r.cols s.cols)
base_made_of_two Eq r s = Makes (answer_of_test (is_within r s && is_within s r)) (plain_cost r.rows r.cols)
base_made_of_two Incl r s = Makes (answer_of_test (is_within r s)) (plain_cost r.rows r.cols)
base_made_of_two Ubd r s = Makes (upper_bounds r s) (order_cost r.rows r.cols s.cols)
base_made_of_two Lbd r s = Makes (lower_bounds r s) (order_cost r.rows r.cols s.cols)
base_made_of_two Least r s = Makes (least r s) (order_cost r.rows r.cols s.cols)
base_made_of_two Greatest r s = Makes (greatest r s) (order_cost r.rows r.cols s.cols)
base_made_of_two Sup r s = Makes (suprema r s) (order_cost r.rows r.cols s.cols)
base_made_of_two Inf r s = Makes (infima r s) (order_cost r.rows r.cols s.cols)
base_made_of_two _ r s = Makes (empty 0 0) no_cost

-- a base call of these operands; no text spells one with none or with more than two
unfoldable pub based : Place → Base → List Relation → Operation
based at base [] = Makes (empty 0 0) no_cost
based at base (r ∷ []) = fitting (typed_base at base (sizes r)) (limited at (base_wants base r) (base_made base r))
based at base (r ∷ s ∷ []) = fitting (typed_base_of_two at base (sizes r) (sizes s)) (base_made_of_two base r s)
based at base (r ∷ s ∷ t ∷ ts) = Makes (empty 0 0) no_cost

-- a domain operator on domains of x and of y elements; the last line is that of i-2, the only other base name that can
-- occur
abbrev pub domain_made : Place → Base → ℕ → ℕ → Operation
domain_made at P1 x y = limited at (x * y) (Makes (first_projection x y) (wide_cost x y (x * y)))
domain_made at P2 x y = limited at (x * y) (Makes (second_projection x y) (wide_cost x y (x * y)))
domain_made at I1 x y = limited at (x + y) (Makes (left_injection x y) (wide_cost x y (x + y)))
domain_made at _ x y = limited at (x + y) (Makes (right_injection x y) (wide_cost x y (x + y)))

-- the two names that a declared domain is made of
abbrev pub domain_named : List Decl → List ℕ → Option (List ℕ × List ℕ)
domain_named [] name = None
domain_named (Variable at own ∷ decls) name = domain_named decls name
domain_named (Domain at own sum left right ∷ decls) name =
    cond (same_text own name) (Some (left, right)) (domain_named decls name)

-- a domain operator whose domain is declared, if its two names have relations: their numbers of rows are the two sizes
abbrev pub injected_of : Place → Base → Option Relation → Option Relation → Operation
injected_of at base (Some a) (Some b) = domain_made at base a.rows b.rows
injected_of at base _ _ = Refuses (Ill (Unknown at (domain_operator_text base)))

-- the same if the domain is declared
abbrev pub injected_by : State → Place → Base → Option (List ℕ × List ℕ) → Operation
injected_by state at base None = Refuses (Ill (Unknown at (domain_operator_text base)))
injected_by state at base (Some names) = injected_of at base (state names.0) (state names.1)

-- the relation of a name, if it has one
abbrev pub named : Place → List ℕ → Option Relation → Operation
named at name None = Refuses (Ill (Unknown at name))
named at name (Some r) = Makes r no_cost

-- whether the value of a test is full, if the value is a test
abbrev pub where_fitting : Typed → Bool → ℕ → Came Bool
where_fitting (Fits shape) b n = got b n
where_fitting (Misfit fault) b n = refused (Ill fault)

-- the value of a test: it must have one row and one column, and is yes if it is full
abbrev pub tested : Place → Relation → ℕ → Came Bool
tested at r n = where_fitting (typed_test at (sizes r)) (has r 0 0) n

-- ---- expressions
-- what a call means: at a place, of a name, with these arguments and this number of turns left
abbrev pub Calls : Type 0
Calls = Place → List ℕ → List Relation → ℕ → Came Relation

-- the surroundings of an expression: what calls mean there, and the declarations of its program
pub record Around : Type 0 where
  pub calls : Calls
  pub decls : List Decl

-- the surroundings inside a definition, in which calls mean this, with these declarations
abbrev pub around_with : Calls → List Decl → Around
around_with calls decls = record { calls = calls; decls = decls }

-- the meaning of a tree with this number of turns left: operands from left to right, and then the operator
abbrev mutual
  -- the meaning of one expression
  pub mean_tree : Around → State → Tree → ℕ → Came Relation
  mean_tree around state (NameTree at name) n = with_turns (named at name (state name)) n
  mean_tree around state (CallTree at name args) n =
      and_then (mean_trees around state [] args n) (λ values m. around.calls at name values m)
  mean_tree around state (BaseTree at base args) n =
      and_then (mean_trees around state [] args n) (λ values m. with_turns (based at base values) m)
  mean_tree around state (InjectTree at base domain) n =
      with_turns (injected_by state at base (domain_named around.decls domain)) n
  mean_tree around state (PairTree at left right) n =
      and_then (mean_tree around state left n)
      (λ r m. and_then (mean_tree around state right m) (λ s k. with_turns (paired at r s) k))
  mean_tree around state (MinusTree at of) n =
      and_then (mean_tree around state of n) (λ r m. with_turns (complemented r) m)
  mean_tree around state (TurnedTree at of times) n =
      and_then (mean_tree around state of n) (λ r m. with_turns (turned times r) m)
  mean_tree around state (ChainTree first links) n =
      and_then (mean_tree around state first n) (λ r m. mean_branches around state r links m)

  -- the values of arguments from left to right, after those already computed
  pub mean_trees : Around → State → List Relation → Trees → ℕ → Came (List Relation)
  mean_trees around state values NoTree n = got values n
  mean_trees around state values (MoreTrees t rest) n =
      and_then (mean_tree around state t n) (λ r m. mean_trees around state (values ++ r ∷ []) rest m)

  -- the meaning of the links of a chain, after the value so far
  pub mean_branches : Around → State → Relation → Branches → ℕ → Came Relation
  mean_branches around state r NoBranch n = got r n
  mean_branches around state r (MoreBranches at op right rest) n =
      and_then (mean_tree around state right n)
      (λ s m. and_then (with_turns (linked at op r s) m) (λ t k. mean_branches around state t rest k))

-- the meaning of an expression is that of its tree
abbrev pub mean : Around → State → Expr → ℕ → Came Relation
mean around state e n = mean_tree around state (tree_of e) n

-- the same for arguments
abbrev pub means : Around → State → List Relation → {m : _} → Row_of-Expr m → ℕ → Came (List Relation)
means around state values args n = mean_trees around state values (trees_of args) n

-- the same for the links of a chain
abbrev pub mean_along : Around → State → Relation → {m : _} → Row_of-Link m → ℕ → Came Relation
mean_along around state r rest n = mean_branches around state r (branches_of rest) n

-- the same for a list of arguments, and for a list of links
abbrev pub means_by : Around → State → List Relation → List Expr → ℕ → Came (List Relation)
means_by around state values [] n = got values n
means_by around state values (e ∷ es) n =
    and_then (mean around state e n) (λ r m. means_by around state (values ++ r ∷ []) es m)

-- the same for a list of links
abbrev pub mean_by : Around → State → Relation → List Link → ℕ → Came Relation
mean_by around state r [] n = got r n
mean_by around state r (l ∷ ls) n =
    and_then (mean around state l.right n)
    (λ s m. and_then (with_turns (linked l.at l.op r s) m) (λ t k. mean_by around state t ls k))

-- ---- loops
-- one turn of a loop and what comes after it; with no turn left, it is refused
abbrev pub one_turn : Place → (State → ℕ → Came State) → (State → ℕ → Came State) → State → ℕ → Came State
one_turn at body next state zero = refused (Turns at)
one_turn at body next state (suc n) = and_then (body state n) next

-- the test of a loop, and a turn if it is full
abbrev pub round :
    Place → (State → ℕ → Came Bool) → (State → ℕ → Came State) → (State → ℕ → Came State) → State → ℕ → Came State
round at test body next state n = and_then (test state n) (λ b m. cond b (one_turn at body next state m) (got state m))

-- at most k rounds; a loop with n turns left has no more than n + 1
abbrev pub rounds : Place → (State → ℕ → Came Bool) → (State → ℕ → Came State) → ℕ → State → ℕ → Came State
rounds at test body zero state n = refused (Turns at)
rounds at test body (suc k) state n = round at test body (rounds at test body k) state n

-- WHILE test DO body OD
abbrev pub looped : Place → (State → ℕ → Came Bool) → (State → ℕ → Came State) → State → ℕ → Came State
looped at test body state n = rounds at test body (suc n) state n

-- ---- statements
-- the test of a WHILE or an IF
abbrev pub mean_test : Around → Place → Expr → State → ℕ → Came Bool
mean_test around at test state n = and_then (mean around state test n) (tested at)

-- the state after statements, and the turns that are left
abbrev mutual
  -- after one statement
  pub run : Around → Stmt → State → ℕ → Came State
  run around (Set at name value) state n = and_then (mean around state value n) (λ r m. got (assigned name r state) m)
  run around (While' at test s body) state n = looped at (mean_test around at test) (run_within around body) state n
  run around (If' at test s first t second) state n =
      and_then (mean_test around at test state n)
      (λ b m. cond b (run_within around first state m) (run_within around second state m))

  -- after a row of statements
  pub run_within : Around → {m : _} → Row_of-Stmt m → State → ℕ → Came State
  run_within around end_of-Stmt state n = got state n
  run_within around (more_of-Stmt s rest) state n = and_then (run around s state n) (λ t m. run_within around rest t m)

-- after a list of statements
abbrev pub run_by : Around → List Stmt → State → ℕ → Came State
run_by around [] state n = got state n
run_by around (s ∷ ss) state n = and_then (run around s state n) (λ t m. run_by around ss t m)

-- ---- definitions
-- the first parameter bound to its value, and then the others
abbrev pub bound_first : List ℕ → (List Relation → State) → List Relation → State
bound_first p rest [] = nothing
bound_first p rest (v ∷ vs) = assigned p v (rest vs)

-- all parameters bound to their values
abbrev pub bound : List (List ℕ) → List Relation → State
bound [] = λ vs. nothing
bound (p ∷ ps) = bound_first p (bound ps)

-- the first item that defines a name
abbrev pub item_named : List Item → List ℕ → Option Item
item_named [] name = None
item_named (item ∷ items) name = cond (defines name item) (Some item) (item_named items name)

-- a definition with its parameters bound; calls inside it have this meaning
abbrev pub body_of : Calls → List Relation → Item → ℕ → Came Relation
body_of calls values (Function at name params body) n = mean (around_with calls []) (bound params.items values) body n
body_of calls values (Program at name params decls body result) n =
    let around = around_with calls decls.items in
    and_then (run_by around body.items (bound params.items values) n) (λ state m. mean around state result m)
body_of calls values (COMMAND command) n = got (empty 0 0) n

-- how many arguments a definition takes
abbrev pub takes_arguments : Item → ℕ
takes_arguments (Function at name params body) = length params.items
takes_arguments (Program at name params decls body result) = length params.items
takes_arguments (COMMAND command) = 0

-- a call of a definition; it must take this number of arguments
abbrev pub called : Calls → Place → List ℕ → Option Item → List Relation → ℕ → Came Relation
called calls at name None values n = refused (Ill (Unknown at name))
called calls at name (Some item) values n =
    cond (takes_arguments item == length values) (body_of calls values item n)
    (refused (Ill (Arity at name (takes_arguments item) (length values))))

-- the meaning of calls if at most this many definitions may nest
abbrev pub calls_within : List Item → ℕ → Calls
calls_within items zero at name values n = refused (Ill (Rank at name))
calls_within items (suc rank) at name values n =
    called (calls_within items rank) at name (item_named items name) values n

-- the surroundings of an expression of a command
abbrev pub around_command : Script → Around
around_command script = around_with (calls_within script.items.items rank_limit) []

-- the meaning of a tree of a command
abbrev pub meaning_of_tree : Script → State → Tree → ℕ → Came Relation
meaning_of_tree script state t n = mean_tree (around_command script) state t n

-- the meaning of an expression of a command
abbrev pub meaning : Script → State → Expr → ℕ → Came Relation
meaning script state e n = meaning_of_tree script state (tree_of e) n
