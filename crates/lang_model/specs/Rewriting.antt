-- Rewriting by laws of relation algebra: in which parts of an expression, by which rules, and in which order. Trees are
-- compared up to places; a new node takes the place of the node that it replaces.
use Rattle.std.specs.Prelude.{◌==◌, ◌&&◌, ◌+◌, ◌%◌, nat_le, nat_lt, cond, zero, suc, ℕ, Bool, true, false, List, []}
use Rattle.std.specs.Prelude.{◌∷◌, Option, Some, None, option_map}
use Rattle.std.specs.List.{list_any}
use Rattle.lang_model.specs.declared.syntax.Place.{Place}
use Rattle.lang_model.specs.declared.syntax.Op2.{Op2}
use Rattle.lang_model.specs.declared.syntax.Op2.TheVariants.{Or, And, Times, Under, Over}
use Rattle.lang_model.specs.declared.syntax.Base.{Base}
use Rattle.lang_model.specs.declared.syntax.Base.TheVariants.{Syq}
use Rattle.lang_model.specs.Limits.{compared_limit}
use Rattle.lang_model.specs.Tokens.{same_text}
use Rattle.lang_model.specs.BaseNames.{base_text}
use Rattle.lang_model.specs.Printing.{sign_of}
use Rattle.lang_model.specs.Trees.{Tree, NameTree, CallTree, BaseTree, InjectTree, PairTree, MinusTree, TurnedTree}
use Rattle.lang_model.specs.Trees.{ChainTree, Trees, NoTree, MoreTrees, Branches, NoBranch, MoreBranches, nowhere}

-- ---- parts that may be rewritten
-- whether a base name is the symmetric quotient
abbrev pub is_quotient : Base → Bool
is_quotient Syq = true
is_quotient _ = false

-- whether a tree is calm: it consists of names, prefixes -, signs ^, chains and symmetric quotients only, so it has a
-- value whenever its types fit, for any number of turns
abbrev mutual
  -- a tree
  pub is_calm : Tree → Bool
  is_calm (NameTree at name) = true
  is_calm (CallTree at name args) = false
  is_calm (BaseTree at base args) = is_quotient base && are_calm args
  is_calm (InjectTree at base domain) = false
  is_calm (PairTree at left right) = false
  is_calm (MinusTree at of) = is_calm of
  is_calm (TurnedTree at of times) = is_calm of
  is_calm (ChainTree first links) = is_calm first && are_calm_along links

  -- arguments
  pub are_calm : Trees → Bool
  are_calm NoTree = true
  are_calm (MoreTrees t args) = is_calm t && are_calm args

  -- the operands of links
  pub are_calm_along : Branches → Bool
  are_calm_along NoBranch = true
  are_calm_along (MoreBranches at op right links) = is_calm right && are_calm_along links

-- ---- equality up to places
-- whether two operators are equal
abbrev pub same_operator : Op2 → Op2 → Bool
same_operator a b = sign_of a == sign_of b

-- whether two base names are equal
abbrev pub same_base : Base → Base → Bool
same_base a b = same_text (base_text a) (base_text b)

-- whether two trees are equal up to places
abbrev mutual
  -- two expressions
  pub same_tree : Tree → Tree → Bool
  same_tree (NameTree at name) (NameTree there other) = same_text name other
  same_tree (CallTree at name args) (CallTree there other others) = same_text name other && same_trees args others
  same_tree (BaseTree at base args) (BaseTree there other others) = same_base base other && same_trees args others
  same_tree (InjectTree at base domain) (InjectTree there other another) =
      same_base base other && same_text domain another
  same_tree (PairTree at left right) (PairTree there other another) = same_tree left other && same_tree right another
  same_tree (MinusTree at of) (MinusTree there other) = same_tree of other
  same_tree (TurnedTree at of times) (TurnedTree there other signs) = (times == signs) && same_tree of other
  same_tree (ChainTree first links) (ChainTree other others) = same_tree first other && same_branches links others
  same_tree _ _ = false

  -- two lists of arguments
  pub same_trees : Trees → Trees → Bool
  same_trees NoTree NoTree = true
  same_trees (MoreTrees t args) (MoreTrees u others) = same_tree t u && same_trees args others
  same_trees _ _ = false

  -- two lists of links
  pub same_branches : Branches → Branches → Bool
  same_branches NoBranch NoBranch = true
  same_branches (MoreBranches at op right links) (MoreBranches there other another others) =
      same_operator op other && (same_tree right another && same_branches links others)
  same_branches _ _ = false

-- ---- how a node is made
-- a partial function applied to an optional value
abbrev pub where_some : {A B : Type 0} → Option A → (A → Option B) → Option B
where_some None f = None
where_some (Some x) f = f x

-- the operand of a prefix -, if the tree is one
abbrev pub negated : Tree → Option Tree
negated (MinusTree at of) = Some of
negated _ = None

-- the operand of a single sign ^, if the tree is one
abbrev pub turned_once : Tree → Option Tree
turned_once (TurnedTree at of times) = cond (times == 1) (Some of) None
turned_once _ = None

-- two operands with an operator between them
pub record Two : Type 0 where
  pub op : Op2
  pub left : Tree
  pub right : Tree

-- the operands of a chain of exactly two
abbrev pub two_operands : Tree → Option Two
two_operands (ChainTree first (MoreBranches at op right NoBranch)) =
    Some (record { op = op; left = first; right = right })
two_operands _ = None

-- the operands of a chain of exactly two with this operator
abbrev pub operands_of : Op2 → Tree → Option (Tree × Tree)
operands_of op t = where_some (two_operands t) (λ x. cond (same_operator x.op op) (Some (x.left, x.right)) None)

-- a chain of two operands
abbrev pub two : Place → Tree → Op2 → Tree → Tree
two at left op right = ChainTree left (MoreBranches at op right NoBranch)

-- a chain, or its only operand if it has no links
abbrev pub chain_of : Tree → Branches → Tree
chain_of first NoBranch = first
chain_of first (MoreBranches at op right links) = ChainTree first (MoreBranches at op right links)

-- the place of a node: that of its name or sign; for a chain, that of its first operator
abbrev pub place_of_node : Tree → Place
place_of_node (NameTree at name) = at
place_of_node (CallTree at name args) = at
place_of_node (BaseTree at base args) = at
place_of_node (InjectTree at base domain) = at
place_of_node (PairTree at left right) = at
place_of_node (MinusTree at of) = at
place_of_node (TurnedTree at of times) = at
place_of_node (ChainTree first NoBranch) = nowhere
place_of_node (ChainTree first (MoreBranches at op right links)) = at

-- ---- repeated operands
-- whether an operator is | or &
abbrev pub is_lattice : Op2 → Bool
is_lattice Or = true
is_lattice And = true
is_lattice _ = false

-- the dual operator: | for &, & for |
abbrev pub dual : Op2 → Op2
dual Or = And
dual And = Or
dual Times = Times
dual Under = Under
dual Over = Over

-- whether all links have this operator
abbrev pub all_links : Op2 → Branches → Bool
all_links op NoBranch = true
all_links op (MoreBranches at own right links) = same_operator own op && all_links op links

-- whether all operators of a chain are |, or all are &
abbrev pub is_of_one_sign : Branches → Bool
is_of_one_sign NoBranch = false
is_of_one_sign (MoreBranches at op right links) = is_lattice op && all_links op links

-- how many links there are
abbrev pub link_count : Branches → ℕ
link_count NoBranch = 0
link_count (MoreBranches at op right links) = link_count links + 1

-- the links without those whose operand equals an earlier one
abbrev pub without_repeats : List Tree → Branches → Branches
without_repeats before NoBranch = NoBranch
without_repeats before (MoreBranches at op right links) =
    cond (list_any (λ t. same_tree t right) before) (without_repeats before links)
    (MoreBranches at op right (without_repeats (right ∷ before) links))

-- a chain without the operands that equal an earlier one, if there are any
abbrev pub shortened : Tree → Branches → Branches → Option Tree
shortened first links kept =
    cond (is_of_one_sign links
    && (nat_lt (link_count links) compared_limit && nat_lt (link_count kept) (link_count links)))
    (Some (chain_of first kept)) None

-- ---- the rules
-- 1. `--R` is `R`
abbrev pub double_complement : Tree → Option Tree
double_complement t = where_some (negated t) negated

-- 2. `R` turned more than once is `R` if the number of signs is even, and `R^` otherwise
abbrev pub many_turns : Tree → Option Tree
many_turns (TurnedTree at of times) = cond (nat_le 2 times) (Some (cond (times % 2 == 0) of (TurnedTree at of 1))) None
many_turns _ = None

-- 3. turning twice in succession adds up the signs
abbrev pub turned_again : Tree → Option Tree
turned_again (TurnedTree at (TurnedTree there of less) times) = Some (TurnedTree at of (times + less))
turned_again _ = None

-- 4. in a chain of | only, or of & only, repeated operands are dropped
abbrev pub repeated_operands : Tree → Option Tree
repeated_operands (ChainTree first links) = shortened first links (without_repeats (first ∷ []) links)
repeated_operands _ = None

-- 5. `-(R^*-S)` is `R\S`
abbrev pub to_right_residual : Tree → Option Tree
to_right_residual t =
    where_some (negated t) (λ c. where_some (operands_of Times c)
    (λ x. where_some (turned_once x.0) (λ r. where_some (negated x.1) (λ s. Some (two (place_of_node t) r Under s)))))

-- 6. `-(-S*R^)` is `S/R`
abbrev pub to_left_residual : Tree → Option Tree
to_left_residual t =
    where_some (negated t) (λ c. where_some (operands_of Times c)
    (λ x. where_some (negated x.0) (λ s. where_some (turned_once x.1) (λ r. Some (two (place_of_node t) s Over r)))))

-- 7. `R^*S^` is `(S*R)^`
abbrev pub turned_product : Tree → Option Tree
turned_product t =
    where_some (operands_of Times t) (λ x. where_some (turned_once x.0) (λ r. where_some (turned_once x.1)
    (λ s. Some (TurnedTree (place_of_node t) (two (place_of_node t) s Times r) 1))))

-- 8. `R^|S^` is `(R|S)^`, and the same for &
abbrev pub turned_operands : Tree → Option Tree
turned_operands t =
    where_some (two_operands t)
    (λ x. cond (is_lattice x.op) (where_some (turned_once x.left) (λ r. where_some (turned_once x.right)
    (λ s. Some (TurnedTree (place_of_node t) (two (place_of_node t) r x.op s) 1)))) None)

-- 9. `-R&-S` is `-(R|S)`, and `-R|-S` is `-(R&S)`
abbrev pub negated_operands : Tree → Option Tree
negated_operands t =
    where_some (two_operands t)
    (λ x. cond (is_lattice x.op) (where_some (negated x.left) (λ r. where_some (negated x.right)
    (λ s. Some (MinusTree (place_of_node t) (two (place_of_node t) r (dual x.op) s))))) None)

-- 10. `(R\S)&R^/S^`, with the same R and S in both, is `syq(R,S)`
abbrev pub to_quotient : Tree → Option Tree
to_quotient t =
    where_some (operands_of And t) (λ x. where_some (operands_of Under x.0) (λ y. where_some (operands_of Over x.1)
    (λ z. where_some (turned_once z.0) (λ r. where_some (turned_once z.1)
    (λ s. cond (same_tree y.0 r && same_tree y.1 s)
    (Some (BaseTree (place_of_node t) Syq (MoreTrees y.0 (MoreTrees y.1 NoTree)))) None)))))

-- a rule's number and its result if it applies, and otherwise what further rules give
abbrev pub numbered : ℕ → Option Tree → Option (ℕ × Tree) → Option (ℕ × Tree)
numbered n (Some t) others = Some (n, t)
numbered n None others = others

-- the rule with the least number that applies to a node, with its result
abbrev pub least_rule : Tree → Option (ℕ × Tree)
least_rule t =
    numbered 1 (double_complement t) (numbered 2 (many_turns t) (numbered 3 (turned_again t)
    (numbered 4 (repeated_operands t) (numbered 5 (to_right_residual t) (numbered 6 (to_left_residual t)
    (numbered 7 (turned_product t) (numbered 8 (turned_operands t) (numbered 9 (negated_operands t)
    (numbered 10 (to_quotient t) None)))))))))

-- what the rule with this number makes of a node, if it applies
unfoldable pub result_of_rule : ℕ → Tree → Option Tree
result_of_rule n t =
    cond (n == 1) (double_complement t) (cond (n == 2) (many_turns t) (cond (n == 3) (turned_again t)
    (cond (n == 4) (repeated_operands t) (cond (n == 5) (to_right_residual t) (cond (n == 6) (to_left_residual t)
    (cond (n == 7) (turned_product t) (cond (n == 8) (turned_operands t) (cond (n == 9) (negated_operands t)
    (cond (n == 10) (to_quotient t) None)))))))))

-- ---- steps
-- a step: the rule's number, and the node before and after it
pub record Step : Type 0 where
  pub rule : ℕ
  pub before : Tree
  pub after : Tree

-- whether this is the rule's result
abbrev pub is_result : Tree → Option Tree → Bool
is_result after None = false
is_result after (Some t) = same_tree t after

-- whether a step is valid: its node is calm, and its rule makes of it the node after the step
abbrev pub is_step : Step → Bool
is_step s = is_calm s.before && is_result s.after (result_of_rule s.rule s.before)

-- a step at a node itself, with the node after it
abbrev pub here : Tree → Option (Step × Tree)
here t = cond (is_calm t) (option_map (λ x. (record { rule = x.0; before = t; after = x.1 }, x.1)) (least_rule t)) None

-- a step in a part, with the whole rebuilt around it, or else another
abbrev pub inside : {A B : Type 0} → (A → B) → Option (Step × A) → Option (Step × B) → Option (Step × B)
inside whole (Some x) other = Some (x.0, whole x.1)
inside whole None other = other

-- the next step and the tree after it: the step is at the first node to which a rule applies, operands before their
-- node and from left to right
abbrev mutual
  -- that of an expression
  pub next_step : Tree → Option (Step × Tree)
  next_step (NameTree at name) = here (NameTree at name)
  next_step (CallTree at name args) = inside (CallTree at name) (next_in args) (here (CallTree at name args))
  next_step (BaseTree at base args) = inside (BaseTree at base) (next_in args) (here (BaseTree at base args))
  next_step (InjectTree at base domain) = here (InjectTree at base domain)
  next_step (PairTree at left right) =
      inside (λ t. PairTree at t right) (next_step left)
      (inside (PairTree at left) (next_step right) (here (PairTree at left right)))
  next_step (MinusTree at of) = inside (MinusTree at) (next_step of) (here (MinusTree at of))
  next_step (TurnedTree at of times) =
      inside (λ t. TurnedTree at t times) (next_step of) (here (TurnedTree at of times))
  next_step (ChainTree first links) =
      inside (λ t. ChainTree t links) (next_step first)
      (inside (ChainTree first) (next_along links) (here (ChainTree first links)))

  -- that of arguments
  pub next_in : Trees → Option (Step × Trees)
  next_in NoTree = None
  next_in (MoreTrees t args) =
      inside (λ u. MoreTrees u args) (next_step t) (inside (MoreTrees t) (next_in args) None)

  -- that of the links of a chain
  pub next_along : Branches → Option (Step × Branches)
  next_along NoBranch = None
  next_along (MoreBranches at op right links) =
      inside (λ t. MoreBranches at op t links) (next_step right)
      (inside (MoreBranches at op right) (next_along links) None)

-- the weight of a tree: how many nodes and signs ^ it has together; each step lowers it
abbrev mutual
  -- that of an expression
  pub weight : Tree → ℕ
  weight (NameTree at name) = 1
  weight (CallTree at name args) = weight_in args + 1
  weight (BaseTree at base args) = weight_in args + 1
  weight (InjectTree at base domain) = 1
  weight (PairTree at left right) = weight left + weight right + 1
  weight (MinusTree at of) = weight of + 1
  weight (TurnedTree at of times) = weight of + times + 1
  weight (ChainTree first links) = weight first + weight_along links + 1

  -- the sum for arguments
  pub weight_in : Trees → ℕ
  weight_in NoTree = 0
  weight_in (MoreTrees t args) = weight t + weight_in args

  -- the sum for the operands of links
  pub weight_along : Branches → ℕ
  weight_along NoBranch = 0
  weight_along (MoreBranches at op right links) = weight right + weight_along links

-- a step, and then those that come after it
abbrev pub steps_behind : Option (Step × Tree) → (Tree → List Step) → List Step
steps_behind None more = []
steps_behind (Some x) more = x.0 ∷ more x.1

-- at most k steps
abbrev pub steps_within : ℕ → Tree → List Step
steps_within zero t = []
steps_within (suc k) t = steps_behind (next_step t) (steps_within k)

-- the tree after a step, or the tree itself if there is none
abbrev pub calm_behind : Tree → Option (Step × Tree) → (Tree → Tree) → Tree
calm_behind t None more = t
calm_behind t (Some x) more = more x.1

-- the tree after at most k steps
abbrev pub calm_within : ℕ → Tree → Tree
calm_within zero t = t
calm_within (suc k) t = calm_behind t (next_step t) (calm_within k)

-- the steps of a tree until no rule applies: at most as many as its weight
unfoldable pub steps_of : Tree → List Step
steps_of t = steps_within (weight t) t

-- the tree after all its steps
unfoldable pub calmed : Tree → Tree
calmed t = calm_within (weight t) t
