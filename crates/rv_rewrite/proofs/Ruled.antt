-- The rules on two operands, by the operands of marked sides: which test comes first makes no difference.
use Rattle.std.proofs.Common.{◌≡◌, ◌∙◌, ◌==◌, ◌&&◌, ◌+◌, ◌%◌, nat_le, Bool, true, false, cond, Option, Some, None, refl, sym, ap}
use Rattle.lang_model.specs.declared.syntax.Op2.{Op2}
use Rattle.lang_model.specs.declared.syntax.Op2.TheVariants.{And, Times, Under, Over}
use Rattle.lang_model.specs.declared.syntax.Base.TheVariants.{Syq}
use Rattle.lang_model.specs.Trees.{Tree, NameTree, CallTree, BaseTree, InjectTree, PairTree, MinusTree, TurnedTree, ChainTree, NoTree, MoreTrees}
use Rattle.lang_model.specs.Rewriting.{where_some, negated, Two, two_operands, operands_of, two, same_operator, is_lattice, dual, same_tree, place_of_node, many_turns, turned_again, to_right_residual, to_left_residual, turned_product, turned_operands, negated_operands, to_quotient}
use Rattle.rv_rewrite.specs.declared.sides.Mark.{Mark}
use Rattle.rv_rewrite.specs.declared.sides.Mark.TheVariants.{Turned, Negated}
use Rattle.rv_rewrite.specs.Marked.{marked, marked_sides, sides_of, lattice_sides, turn}

pub where_same : {A B : Type 0} (o : Option A) (f g : A → Option B) → ((x : A) → f x ≡ g x) → where_some o f ≡ where_some o g
where_same None f g h = refl
where_same (Some x) f g h = h x

-- a test ahead of the marks, and behind them
ahead : (e : Bool) (x : Two) (f : Op2 → Bool) (m n : Option Tree) (K : Op2 → Tree → Tree → Option Tree) → f x.op ≡ e
    → cond e (where_some m (λ r. where_some n (λ s. K x.op r s))) None
    ≡ where_some (where_some (where_some m (λ l. where_some n (λ r. Some (record { op = x.op; left = l; right = r }))))
    (λ (y : Two). cond (f y.op) (Some y) None)) (λ (y : Two). K y.op y.left y.right)
ahead true x f None n K h = refl
ahead true x f (Some r) None K h = refl
ahead true x f (Some r) (Some s) K h = sym (ap (λ b. where_some (cond b (Some (record { op = x.op; left = r; right = s })) None) (λ (y : Two). K y.op y.left y.right)) h)
ahead false x f None n K h = refl
ahead false x f (Some r) None K h = refl
ahead false x f (Some r) (Some s) K h = sym (ap (λ b. where_some (cond b (Some (record { op = x.op; left = r; right = s })) None) (λ (y : Two). K y.op y.left y.right)) h)

by_lattice : (a : Mark) (K : Op2 → Tree → Tree → Option Tree) (c : Tree) → where_some (two_operands c)
    (λ x. cond (is_lattice x.op) (where_some (marked a x.left) (λ r. where_some (marked a x.right) (λ s. K x.op r s))) None)
    ≡ where_some (lattice_sides a c) (λ y. K y.op y.left y.right)
by_lattice a K c = go (two_operands c)
  where
    go : (o : Option Two) → where_some o
        (λ x. cond (is_lattice x.op) (where_some (marked a x.left) (λ r. where_some (marked a x.right) (λ s. K x.op r s))) None)
        ≡ where_some (where_some (where_some o (marked_sides a a)) (λ y. cond (is_lattice y.op) (Some y) None)) (λ y. K y.op y.left y.right)
    go None = refl
    go (Some x) = ahead (is_lattice x.op) x is_lattice (marked a x.left) (marked a x.right) K refl

-- the same for one operator
ahead_of : (e : Bool) (op : Op2) (x : Two) (m n : Option Tree) (K : Tree → Tree → Option Tree) → same_operator x.op op ≡ e
    → cond e (where_some m (λ r. where_some n (λ s. K r s))) None
    ≡ where_some (where_some (where_some m (λ l. where_some n (λ r. Some (record { op = x.op; left = l; right = r }))))
    (λ (y : Two). cond (same_operator y.op op) (Some (y.left, y.right)) None)) (λ (y : Tree × Tree). K y.0 y.1)
ahead_of true op x None n K h = refl
ahead_of true op x (Some r) None K h = refl
ahead_of true op x (Some r) (Some s) K h = sym (ap (λ b. where_some (cond b (Some (r, s)) None) (λ (y : Tree × Tree). K y.0 y.1)) h)
ahead_of false op x None n K h = refl
ahead_of false op x (Some r) None K h = refl
ahead_of false op x (Some r) (Some s) K h = sym (ap (λ b. where_some (cond b (Some (r, s)) None) (λ (y : Tree × Tree). K y.0 y.1)) h)

-- a test ahead of what follows
cond_where : {A B : Type 0} (b : Bool) (y : A) (f : A → Option B) → where_some (cond b (Some y) None) f ≡ cond b (f y) None
cond_where true y f = refl
cond_where false y f = refl

by_sides : (op : Op2) (a b : Mark) (K : Tree → Tree → Option Tree) (c : Tree) → where_some (operands_of op c)
    (λ x. where_some (marked a x.0) (λ r. where_some (marked b x.1) (λ s. K r s)))
    ≡ where_some (sides_of op a b c) (λ x. K x.0 x.1)
by_sides op a b K c = go (two_operands c)
  where
    go : (o : Option Two) → where_some (where_some o (λ x. cond (same_operator x.op op) (Some (x.left, x.right)) None))
        (λ (x : Tree × Tree). where_some (marked a x.0) (λ r. where_some (marked b x.1) (λ s. K r s)))
        ≡ where_some (where_some (where_some o (marked_sides a b)) (λ y. cond (same_operator y.op op) (Some (y.left, y.right)) None)) (λ (x : Tree × Tree). K x.0 x.1)
    go None = refl
    go (Some x) = cond_where (same_operator x.op op) (x.left, x.right) _
        ∙ ahead_of (same_operator x.op op) op x (marked a x.left) (marked b x.right) K refl

pub right_residual_sides : (t : Tree) → to_right_residual t ≡ where_some (negated t)
    (λ c. where_some (sides_of Times Turned Negated c) (λ x. Some (two (place_of_node t) x.0 Under x.1)))
right_residual_sides t = where_same (negated t) _ _
    (λ c. by_sides Times Turned Negated (λ r s. Some (two (place_of_node t) r Under s)) c)

pub left_residual_sides : (t : Tree) → to_left_residual t ≡ where_some (negated t)
    (λ c. where_some (sides_of Times Negated Turned c) (λ x. Some (two (place_of_node t) x.0 Over x.1)))
left_residual_sides t = where_same (negated t) _ _
    (λ c. by_sides Times Negated Turned (λ r s. Some (two (place_of_node t) r Over s)) c)

pub turned_product_sides : (t : Tree) → turned_product t ≡ where_some (sides_of Times Turned Turned t)
    (λ x. Some (TurnedTree (place_of_node t) (two (place_of_node t) x.1 Times x.0) 1))
turned_product_sides t = by_sides Times Turned Turned
    (λ r s. Some (TurnedTree (place_of_node t) (two (place_of_node t) s Times r) 1)) t

pub turned_operands_sides : (t : Tree) → turned_operands t ≡ where_some (lattice_sides Turned t)
    (λ y. Some (TurnedTree (place_of_node t) (two (place_of_node t) y.left y.op y.right) 1))
turned_operands_sides t = by_lattice Turned
    (λ o r s. Some (TurnedTree (place_of_node t) (two (place_of_node t) r o s) 1)) t

pub negated_operands_sides : (t : Tree) → negated_operands t ≡ where_some (lattice_sides Negated t)
    (λ y. Some (MinusTree (place_of_node t) (two (place_of_node t) y.left (dual y.op) y.right)))
negated_operands_sides t = by_lattice Negated
    (λ o r s. Some (MinusTree (place_of_node t) (two (place_of_node t) r (dual o) s))) t

pub quotient_sides : (t : Tree) → to_quotient t ≡ where_some (operands_of And t)
    (λ x. where_some (operands_of Under x.0) (λ y. where_some (sides_of Over Turned Turned x.1)
    (λ z. cond (same_tree y.0 z.0 && same_tree y.1 z.1)
    (Some (BaseTree (place_of_node t) Syq (MoreTrees y.0 (MoreTrees y.1 NoTree)))) None)))
quotient_sides t = where_same (operands_of And t) _ _ (λ x. where_same (operands_of Under x.0) _ _
    (λ y. by_sides Over Turned Turned (λ r s. cond (same_tree y.0 r && same_tree y.1 s)
    (Some (BaseTree (place_of_node t) Syq (MoreTrees y.0 (MoreTrees y.1 NoTree)))) None) x.1))

pub many_turns_of : (t : Tree) → many_turns t ≡ where_some (turn t)
    (λ x. cond (nat_le 2 x.times) (Some (cond (x.times % 2 == 0) x.of (TurnedTree x.at x.of 1))) None)
many_turns_of (TurnedTree at of times) = refl
many_turns_of t = refl

pub turned_again_of : (t : Tree) → turned_again t ≡ where_some (turn t)
    (λ x. where_some (turn x.of) (λ y. Some (TurnedTree x.at y.of (x.times + y.times))))
turned_again_of (TurnedTree at (TurnedTree there of less) times) = refl
turned_again_of (TurnedTree at (NameTree there name) times) = refl
turned_again_of (TurnedTree at (CallTree there name args) times) = refl
turned_again_of (TurnedTree at (BaseTree there base args) times) = refl
turned_again_of (TurnedTree at (InjectTree there base domain) times) = refl
turned_again_of (TurnedTree at (PairTree there left right) times) = refl
turned_again_of (TurnedTree at (MinusTree there of) times) = refl
turned_again_of (TurnedTree at (ChainTree first links) times) = refl
turned_again_of t = refl
