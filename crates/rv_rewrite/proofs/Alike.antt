-- Whether a tree is one up to places, by its parts.
use Rattle.std.proofs.Common.{◌≡◌, ◌∙◌, ◌==◌, ◌&&◌, Bool, true, false, cond, ℕ, Option, Some, None, refl, ap, arith}
use Rattle.std.proofs.lemmas.Bool.Decides.{nat_tests}
use Rattle.lang_model.specs.declared.syntax.Place.{Place}
use Rattle.lang_model.specs.declared.syntax.Op2.{Op2}
use Rattle.lang_model.specs.Trees.{Tree, NameTree, CallTree, BaseTree, InjectTree, PairTree, MinusTree, TurnedTree, ChainTree, NoBranch, MoreBranches}
use Rattle.lang_model.specs.Rewriting.{negated, turned_once, two_operands, two, same_operator, same_tree}
use Rattle.rv_rewrite.specs.Marked.{turn}

-- whether something passes a test, where there is something
abbrev passes : {A : Type 0} → Option A → (A → Bool) → Bool
passes None f = false
passes (Some x) f = f x

and_true : (b : Bool) → (b && true) ≡ b
and_true true = refl
and_true false = refl

and_false : (b : Bool) → (b && false) ≡ false
and_false true = refl
and_false false = refl

-- a node is one operator on two operands, up to places, exactly where it has two, and the operator and both operands
-- are the same
pub same_two : (at : Place) (left : Tree) (op : Op2) (right node : Tree) → same_tree (two at left op right) node
    ≡ passes (two_operands node) (λ x. same_tree left x.left && (same_operator op x.op && same_tree right x.right))
same_two at left op right (ChainTree first (MoreBranches there other another NoBranch)) =
    ap (λ b. same_tree left first && (same_operator op other && b)) (and_true (same_tree right another))
same_two at left op right (ChainTree first NoBranch) = and_false (same_tree left first)
same_two at left op right (ChainTree first (MoreBranches there other another (MoreBranches x y z links))) =
    ap (λ b. same_tree left first && (same_operator op other && b)) (and_false (same_tree right another))
    ∙ ap (λ b. same_tree left first && b) (and_false (same_operator op other)) ∙ and_false (same_tree left first)
same_two at left op right (NameTree there name) = refl
same_two at left op right (CallTree there name args) = refl
same_two at left op right (BaseTree there base args) = refl
same_two at left op right (InjectTree there base domain) = refl
same_two at left op right (PairTree there a b) = refl
same_two at left op right (MinusTree there of) = refl
same_two at left op right (TurnedTree there of times) = refl

pub same_turns : (at : Place) (of : Tree) (times : ℕ) (node : Tree) → same_tree (TurnedTree at of times) node
    ≡ passes (turn node) (λ x. (times == x.times) && same_tree of x.of)
same_turns at of times (TurnedTree there other signs) = refl
same_turns at of times (NameTree there name) = refl
same_turns at of times (CallTree there name args) = refl
same_turns at of times (BaseTree there base args) = refl
same_turns at of times (InjectTree there base domain) = refl
same_turns at of times (PairTree there a b) = refl
same_turns at of times (MinusTree there other) = refl
same_turns at of times (ChainTree first links) = refl

eq_sym : (signs : ℕ) → (1 == signs) ≡ (signs == 1)
eq_sym signs = grind (arith, nat_tests)

where_passes : (b : Bool) (o : Tree) (f : Tree → Bool) → (b && f o) ≡ passes (cond b (Some o) None) f
where_passes true o f = refl
where_passes false o f = refl

once : (signs : ℕ) (o : Tree) (f : Tree → Bool) → ((1 == signs) && f o) ≡ passes (cond (signs == 1) (Some o) None) f
once signs o f = ap (λ b. b && f o) (eq_sym signs) ∙ where_passes (signs == 1) o f

pub same_turns_of_two : (at there : Place) (left : Tree) (op : Op2) (right node : Tree)
    → same_tree (TurnedTree at (two there left op right) 1) node ≡ passes (turned_once node) (same_tree (two there left op right))
same_turns_of_two at there left op right (TurnedTree x other signs) = once signs other (same_tree (two there left op right))
same_turns_of_two at there left op right (NameTree x name) = refl
same_turns_of_two at there left op right (CallTree x name args) = refl
same_turns_of_two at there left op right (BaseTree x base args) = refl
same_turns_of_two at there left op right (InjectTree x base domain) = refl
same_turns_of_two at there left op right (PairTree x a b) = refl
same_turns_of_two at there left op right (MinusTree x other) = refl
same_turns_of_two at there left op right (ChainTree first links) = refl

pub same_minus : (at : Place) (of node : Tree) → same_tree (MinusTree at of) node ≡ passes (negated node) (same_tree of)
same_minus at of (MinusTree there other) = refl
same_minus at of (NameTree there name) = refl
same_minus at of (CallTree there name args) = refl
same_minus at of (BaseTree there base args) = refl
same_minus at of (InjectTree there base domain) = refl
same_minus at of (PairTree there a b) = refl
same_minus at of (TurnedTree there other times) = refl
same_minus at of (ChainTree first links) = refl
