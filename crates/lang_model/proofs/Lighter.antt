-- Each rule lowers the weight of a node, and so each step that of the whole tree.
use Rattle.std.proofs.Common.{◌≡◌, ◌∙◌, ◌==◌, ◌&&◌, ◌⊎◌, ◌<◌, ◌≤◌, ◌+◌, ◌%◌, nat_lt, nat_le, ℕ, zero, suc, Bool, true, false, cond, List, [], ◌∷◌, Option, Some, None, option_map, refl, ap, subst, inl, inr, arith}
use Rattle.std.proofs.lemmas.Bool.{and_parts, eqb-true, leb-true, ltb-true}
use Rattle.std.specs.List.{list_any}
use Rattle.lang_model.specs.declared.syntax.Base.TheVariants.{Syq}
use Rattle.lang_model.specs.declared.syntax.Op2.{Op2}
use Rattle.lang_model.specs.declared.syntax.Op2.TheVariants.{And, Times, Under, Over}
use Rattle.lang_model.specs.Trees.{Tree, NameTree, CallTree, BaseTree, InjectTree, PairTree, MinusTree, TurnedTree, ChainTree, Trees, NoTree, MoreTrees, Branches, NoBranch, MoreBranches}
use Rattle.lang_model.specs.Limits.{compared_limit}
use Rattle.lang_model.specs.Calm.{StepsEnd}
use Rattle.lang_model.specs.Rewriting.{same_operator, same_tree, negated, turned_once, Two, two_operands, operands_of, two, chain_of, place_of_node, is_lattice, dual, link_count, without_repeats, double_complement, many_turns, turned_again, repeated_operands, to_right_residual, to_left_residual, turned_product, turned_operands, negated_operands, to_quotient, numbered, least_rule, is_calm, Step, here, inside, next_step, next_in, next_along, weight, weight_in, weight_along, calm_within, calm_behind, calmed, is_of_one_sign}
use Rattle.lang_model.proofs.Sameness.{found, passed, same_some}

-- ---- parts of a rule
pub weight-negated : (t u : Tree) → negated t ≡ Some u → weight t ≡ weight u + 1
weight-negated (MinusTree at of) u h = ap (λ x. weight x + 1) (same_some h)
weight-negated t u h = absurd (let z : None ≡ Some u = h in cc)

pub weight-turned : (t u : Tree) → turned_once t ≡ Some u → weight t ≡ weight u + 1 + 1
weight-turned (TurnedTree at of times) u h =
    let p = passed (times == 1) (Some of) u h in
    (λ i. weight (same_some p.1 i) + eqb-true times 1 p.0 i + 1)
weight-turned t u h = absurd (let z : None ≡ Some u = h in cc)

pub weight-two : (t : Tree) (x : Two) → two_operands t ≡ Some x → weight t ≡ weight x.left + weight x.right + 1
weight-two (ChainTree first (MoreBranches at op right NoBranch)) x h =
    let e : weight first + (weight right + 0) + 1 ≡ weight first + weight right + 1 = omega arith in
    e ∙ ap (λ (y : Two). weight y.left + weight y.right + 1) (same_some h)
weight-two (ChainTree first NoBranch) x h = absurd (let z : None ≡ Some x = h in cc)
weight-two (ChainTree first (MoreBranches at op right (MoreBranches there other another links))) x h = absurd
    (let z : None ≡ Some x = h in cc)
weight-two t x h = absurd (let z : None ≡ Some x = h in cc)

pub weight-operands : (op : Op2) (t : Tree) (x : Tree × Tree) → operands_of op t ≡ Some x
    → weight t ≡ weight x.0 + weight x.1 + 1
weight-operands op t x h =
    let f = found (two_operands t) _ x h in
    let p = passed (same_operator (f.at).op op) (Some ((f.at).left, (f.at).right)) x f.then in
    weight-two t f.at f.first ∙ ap (λ (y : Tree × Tree). weight y.0 + weight y.1 + 1) (same_some p.1)

-- each tree has a node
pub weight-some : (t : Tree) → 1 ≤ weight t
weight-some (NameTree at name) = omega arith
weight-some (CallTree at name args) = omega arith
weight-some (BaseTree at base args) = omega arith
weight-some (InjectTree at base domain) = omega arith
weight-some (PairTree at left right) = omega arith
weight-some (MinusTree at of) = omega arith
weight-some (TurnedTree at of times) = omega arith
weight-some (ChainTree first links) = omega arith

-- ---- the rules
by : (u v : Tree) (w : ℕ) → Some u ≡ Some v → weight u < w → weight v < w
by u v w e l = let same : weight u ≡ weight v = ap weight (same_some e) in omega (arith, l, same)

rule_1 : (t u : Tree) → double_complement t ≡ Some u → weight u < weight t
rule_1 t u h =
    let f = found (negated t) negated u h in
    omega (arith, weight-negated t f.at f.first, weight-negated f.at u f.then)

rule_2 : (t u : Tree) → many_turns t ≡ Some u → weight u < weight t
rule_2 (TurnedTree at of times) u h =
    let p = passed (nat_le 2 times) _ u h in
    let l = leb-true 2 times p.0 in
    by _ u (weight of + times + 1) p.1 (either (times % 2 == 0) l)
  where
    either : (even : Bool) → 2 ≤ times → weight (cond even of (TurnedTree at of 1)) < weight of + times + 1
    either true l = omega (arith, l)
    either false l = omega (arith, l)
rule_2 t u h = absurd (let z : None ≡ Some u = h in cc)

rule_3 : (t u : Tree) → turned_again t ≡ Some u → weight u < weight t
rule_3 (TurnedTree at (TurnedTree there of less) times) u h = by (TurnedTree at of (times + less)) u _ h (omega arith)
rule_3 (TurnedTree at (NameTree there name) times) u h = absurd (let z : None ≡ Some u = h in cc)
rule_3 (TurnedTree at (CallTree there name args) times) u h = absurd (let z : None ≡ Some u = h in cc)
rule_3 (TurnedTree at (BaseTree there base args) times) u h = absurd (let z : None ≡ Some u = h in cc)
rule_3 (TurnedTree at (InjectTree there base domain) times) u h = absurd (let z : None ≡ Some u = h in cc)
rule_3 (TurnedTree at (PairTree there left right) times) u h = absurd (let z : None ≡ Some u = h in cc)
rule_3 (TurnedTree at (MinusTree there of) times) u h = absurd (let z : None ≡ Some u = h in cc)
rule_3 (TurnedTree at (ChainTree first links) times) u h = absurd (let z : None ≡ Some u = h in cc)
rule_3 t u h = absurd (let z : None ≡ Some u = h in cc)

-- a link that is dropped has an operand, which has a node
kept_weight : (before : List Tree) (links : Branches) → weight_along
    (without_repeats before links) + link_count links ≤ weight_along links + link_count (without_repeats before links)
kept_weight before NoBranch = omega arith
kept_weight before (MoreBranches at op right links) =
    either (list_any (λ t. same_tree t right) before) (kept_weight before links) (kept_weight (right ∷ before) links)
  where
    either : (b : Bool)
        → weight_along (without_repeats before links) + link_count links ≤ weight_along links + link_count
        (without_repeats before links)
        → weight_along (without_repeats (right ∷ before) links) + link_count links ≤ weight_along links + link_count
        (without_repeats (right ∷ before) links)
        → weight_along (cond b (without_repeats before links)
        (MoreBranches at op right (without_repeats (right ∷ before) links))) + (link_count links + 1)
        ≤ weight right + weight_along links + link_count
        (cond b (without_repeats before links) (MoreBranches at op right (without_repeats (right ∷ before) links)))
    either true i j = omega (arith, i, weight-some right)
    either false i j = omega (arith, j)

chain_weight : (first : Tree) (links : Branches) → weight (chain_of first links) ≤ weight first + weight_along links + 1
chain_weight first NoBranch = omega arith
chain_weight first (MoreBranches at op right links) = omega arith

-- a chain without its repeated operands weighs less: each operand that is dropped has a node
rule_4 : (t u : Tree) → repeated_operands t ≡ Some u → weight u < weight t
rule_4 (ChainTree first links) u h =
    let kept = without_repeats (first ∷ []) links in
    let few = nat_lt (link_count links) compared_limit in
    let less = nat_lt (link_count kept) (link_count links) in
    let p = passed (is_of_one_sign links && (few && less)) (Some (chain_of first kept)) u h in
    let k = and_parts (is_of_one_sign links) (few && less) p.0 in
    let j = and_parts few less k.1 in
    let fewer : link_count kept < link_count links = ltb-true (link_count kept) (link_count links) j.1 in
    by (chain_of first kept) u (weight first + weight_along links + 1) p.1
    (omega (arith, chain_weight first kept, kept_weight (first ∷ []) links, fewer))
rule_4 t u h = absurd (let z : None ≡ Some u = h in cc)

-- `R\S` weighs less than `-(R^*-S)`: both complements and the turn are gone
rule_5 : (t u : Tree) → to_right_residual t ≡ Some u → weight u < weight t
rule_5 t u h =
    let f = found (negated t) _ u h in
    let g = found (operands_of Times f.at) _ u f.then in
    let a = found (turned_once (g.at).0) _ u g.then in
    let b = found (negated (g.at).1) _ u a.then in
    by (two (place_of_node t) a.at Under b.at) u (weight t) b.then
    (omega (
      arith,
      weight-negated t f.at f.first,
      weight-operands Times f.at g.at g.first,
      weight-turned
          (g.at).0 a.at a.first,
      weight-negated (g.at).1 b.at b.first,
    ))

-- `S/R` weighs less than `-(-S*R^)`, for the same reason
rule_6 : (t u : Tree) → to_left_residual t ≡ Some u → weight u < weight t
rule_6 t u h =
    let f = found (negated t) _ u h in
    let g = found (operands_of Times f.at) _ u f.then in
    let a = found (negated (g.at).0) _ u g.then in
    let b = found (turned_once (g.at).1) _ u a.then in
    by (two (place_of_node t) a.at Over b.at) u (weight t) b.then
    (omega (
      arith,
      weight-negated t f.at f.first,
      weight-operands Times f.at g.at g.first,
      weight-negated
          (g.at).0 a.at a.first,
      weight-turned (g.at).1 b.at b.first,
    ))

-- `(S*R)^` weighs less than `R^*S^`: one turn stands where there were two
rule_7 : (t u : Tree) → turned_product t ≡ Some u → weight u < weight t
rule_7 t u h =
    let g = found (operands_of Times t) _ u h in
    let a = found (turned_once (g.at).0) _ u g.then in
    let b = found (turned_once (g.at).1) _ u a.then in
    by (TurnedTree (place_of_node t) (two (place_of_node t) b.at Times a.at) 1) u (weight t) b.then
    (omega (
      arith,
      weight-operands Times t g.at g.first,
      weight-turned (g.at).0 a.at a.first,
      weight-turned
          (g.at).1 b.at b.first,
    ))

-- `(R|S)^` weighs less than `R^|S^`, and so for &: one turn stands where there were two
rule_8 : (t u : Tree) → turned_operands t ≡ Some u → weight u < weight t
rule_8 t u h =
    let g = found (two_operands t) _ u h in
    let p = passed (is_lattice (g.at).op) _ u g.then in
    let a = found (turned_once (g.at).left) _ u p.1 in
    let b = found (turned_once (g.at).right) _ u a.then in
    by (TurnedTree (place_of_node t) (two (place_of_node t) a.at (g.at).op b.at) 1) u (weight t) b.then
    (omega (
      arith,
      weight-two t g.at g.first,
      weight-turned (g.at).left a.at a.first,
      weight-turned
          (g.at).right b.at b.first,
    ))

-- `-(R|S)` weighs less than `-R&-S`, and so for | and & exchanged: one complement stands where there were two
rule_9 : (t u : Tree) → negated_operands t ≡ Some u → weight u < weight t
rule_9 t u h =
    let g = found (two_operands t) _ u h in
    let p = passed (is_lattice (g.at).op) _ u g.then in
    let a = found (negated (g.at).left) _ u p.1 in
    let b = found (negated (g.at).right) _ u a.then in
    by (MinusTree (place_of_node t) (two (place_of_node t) a.at (dual (g.at).op) b.at)) u (weight t) b.then
    (omega (
      arith,
      weight-two t g.at g.first,
      weight-negated (g.at).left a.at a.first,
      weight-negated
          (g.at).right b.at b.first,
    ))

rule_10 : (t u : Tree) → to_quotient t ≡ Some u → weight u < weight t
rule_10 t u h =
    let g = found (operands_of And t) _ u h in
    let c = found (operands_of Under (g.at).0) _ u g.then in
    let d = found (operands_of Over (g.at).1) _ u c.then in
    let a = found (turned_once (d.at).0) _ u d.then in
    let b = found (turned_once (d.at).1) _ u a.then in
    let p = passed (same_tree (c.at).0 a.at && same_tree (c.at).1 b.at) _ u b.then in
    by (BaseTree (place_of_node t) Syq (MoreTrees (c.at).0 (MoreTrees (c.at).1 NoTree))) u (weight t) p.1
    (omega (arith, weight-operands And t g.at g.first, weight-operands Under (g.at).0 c.at c.first))

-- ---- the least rule
-- what holds of each rule's result holds of that of the least rule
pub numbered_by : (P : Tree → Type 0) (n : ℕ) (o : Option Tree) (others : Option (ℕ × Tree)) (x : ℕ × Tree)
    → ((u : Tree) → o ≡ Some u → P u) → (others ≡ Some x → P x.1) → numbered n o others ≡ Some x → P x.1
numbered_by P n None others x f g h = g h
numbered_by P n (Some t) others x f g h = subst (λ (y : ℕ × Tree). P y.1) (same_some h) (f t refl)

pub least_by : (P : Tree → Type 0) (t : Tree) (x : ℕ × Tree) → ((u : Tree) → double_complement t ≡ Some u → P u)
    → ((u : Tree) → many_turns t ≡ Some u → P u) → ((u : Tree) → turned_again t ≡ Some u → P u)
    → ((u : Tree) → repeated_operands t ≡ Some u → P u) → ((u : Tree) → to_right_residual t ≡ Some u → P u)
    → ((u : Tree) → to_left_residual t ≡ Some u → P u) → ((u : Tree) → turned_product t ≡ Some u → P u)
    → ((u : Tree) → turned_operands t ≡ Some u → P u) → ((u : Tree) → negated_operands t ≡ Some u → P u)
    → ((u : Tree) → to_quotient t ≡ Some u → P u) → least_rule t ≡ Some x → P x.1
least_by P t x a b c d e f g h i j = numbered_by P 1 _ _ x a
    (numbered_by P 2 _ _ x b (numbered_by P 3 _ _ x c (numbered_by P 4 _ _ x d
    (numbered_by P 5 _ _ x e (numbered_by P 6 _ _ x f
    (numbered_by P 7 _ _ x g (numbered_by P 8 _ _ x h (numbered_by P 9 _ _ x i
    (numbered_by P 10 _ _ x j (λ n. absurd (let z : None ≡ Some x = n in cc)))))))))))

least_lower : (t : Tree) (x : ℕ × Tree) → least_rule t ≡ Some x → weight x.1 < weight t
least_lower t x = least_by (λ u. weight u < weight t) t x (rule_1 t) (rule_2 t) (rule_3 t) (rule_4 t) (rule_5 t)
    (rule_6 t) (rule_7 t) (rule_8 t) (rule_9 t) (rule_10 t)

-- ---- steps
-- a step at a node itself
pub record AtNode (t : Tree) (x : Step × Tree) : Type 0 where
  pub calm : is_calm t ≡ true
  pub rule : ℕ × Tree
  pub least : least_rule t ≡ Some rule
  pub step : (record { rule = rule.0; before = t; after = rule.1 }) ≡ x.0
  pub after : rule.1 ≡ x.1

-- a step at a node is that of the least rule which applies there, and the node is calm: otherwise there is none
pub at_node : (t : Tree) (x : Step × Tree) → here t ≡ Some x → AtNode t x
at_node t x h =
    let p = passed (is_calm t) _ x h in
    by_rule (least_rule t) refl p.0 p.1
  where
    by_rule : (o : Option (ℕ × Tree)) → least_rule t ≡ o → is_calm t ≡ true
        → option_map (λ (y : ℕ × Tree). (record { rule = y.0; before = t; after = y.1 }, y.1)) o ≡ Some x → AtNode t x
    by_rule None e c g = absurd (let z : None ≡ Some x = g in cc)
    by_rule (Some y) e c g = record {
      calm = c;
      rule = y;
      least = e;
      step = ap (λ (z : Step × Tree). z.0)
          (same_some g);
      after = ap (λ (z : Step × Tree). z.1) (same_some g);
    }

-- a step in a part
pub record InPart {A B : Type 0} (whole : A → B) (o : Option (Step × A)) (x : Step × B) : Type 0 where
  pub part : Step × A
  pub first : o ≡ Some part
  pub step : part.0 ≡ x.0
  pub after : whole part.1 ≡ x.1

pub in_part : {A B : Type 0} (whole : A → B) (o : Option (Step × A)) (other : Option (Step × B)) (x : Step × B)
    → inside whole o other ≡ Some x → InPart whole o x ⊎ (other ≡ Some x)
in_part whole None other x h = inr h
in_part whole (Some y) other x h = inl (record {
  part = y;
  first = refl;
  step = ap (λ z. z.0) (same_some h);
  after = ap
      (λ z. z.1) (same_some h);
})

here_lower : (t : Tree) (x : Step × Tree) → here t ≡ Some x → weight x.1 < weight t
here_lower t x h =
    let n = at_node t x h in
    let l = least_lower t n.rule n.least in
    let e : weight (n.rule).1 ≡ weight x.1 = ap weight n.after in
    omega (arith, l, e)

mutual
  -- a step lowers the weight of the whole tree: by induction, it is at the node itself, or it lowers one
  -- part and leaves the others
  lower : (t : Tree) (x : Step × Tree) → next_step t ≡ Some x → weight x.1 < weight t
  lower (NameTree at name) x h = here_lower (NameTree at name) x h
  lower (CallTree at name args) x h = elim (in_part (CallTree at name) (next_in args)
      (here (CallTree at name args)) x h) [
        | inl p ↦ (let i = lower_in args p.part p.first in let e : weight_in (p.part).1 + 1 ≡ weight x.1 = ap weight p.after
            in omega (arith, i, e))
        | inr q ↦ here_lower (CallTree at name args) x q
      ]
  lower (BaseTree at base args) x h = elim (in_part (BaseTree at base) (next_in args)
      (here (BaseTree at base args)) x h) [
        | inl p ↦ (let i = lower_in args p.part p.first in let e : weight_in (p.part).1 + 1 ≡ weight x.1 = ap weight p.after
            in omega (arith, i, e))
        | inr q ↦ here_lower (BaseTree at base args) x q
      ]
  lower (InjectTree at base domain) x h = here_lower (InjectTree at base domain) x h
  lower (PairTree at left right) x h = elim (in_part (λ t. PairTree at t right) (next_step left)
      (inside (PairTree at left) (next_step right) (here (PairTree at left right))) x h) [
        | inl p ↦ (let i = lower left p.part p.first in let e : weight
            (p.part).1 + weight right + 1 ≡ weight x.1 = ap weight p.after in omega (arith, i, e))
        | inr q ↦ elim (in_part (PairTree at left) (next_step right) (here (PairTree at left right)) x q) [
          | inl p ↦ (let i = lower right p.part p.first in let e : weight left + weight
              (p.part).1 + 1 ≡ weight x.1 = ap weight p.after in omega (arith, i, e))
          | inr r ↦ here_lower (PairTree at left right) x r
        ]
      ]
  lower (MinusTree at of) x h = elim (in_part (MinusTree at) (next_step of) (here (MinusTree at of)) x h) [
    | inl p ↦ (let i = lower of p.part p.first in let e : weight (p.part).1 + 1 ≡ weight x.1 = ap weight p.after
        in omega (arith, i, e))
    | inr q ↦ here_lower (MinusTree at of) x q
  ]
  lower (TurnedTree at of times) x h = elim (in_part (λ t. TurnedTree at t times) (next_step of)
      (here (TurnedTree at of times)) x h) [
        | inl p ↦ (let i = lower of p.part p.first in let e : weight (p.part).1 + times + 1 ≡ weight x.1 = ap weight p.after
            in omega (arith, i, e))
        | inr q ↦ here_lower (TurnedTree at of times) x q
      ]
  lower (ChainTree first links) x h = elim (in_part (λ t. ChainTree t links) (next_step first)
      (inside (ChainTree first) (next_along links) (here (ChainTree first links))) x h) [
        | inl p ↦ (let i = lower first p.part p.first in let e : weight
            (p.part).1 + weight_along links + 1 ≡ weight x.1 = ap weight p.after in omega (arith, i, e))
        | inr q ↦ elim (in_part (ChainTree first) (next_along links) (here (ChainTree first links)) x q) [
          | inl p ↦ (let i = lower_along links p.part p.first in let e : weight first + weight_along
              (p.part).1 + 1 ≡ weight x.1 = ap weight p.after in omega (arith, i, e))
          | inr r ↦ here_lower (ChainTree first links) x r
        ]
      ]

  -- the same for arguments: the step is in the first that has one, and the others keep their weight
  lower_in : (args : Trees) (x : Step × Trees) → next_in args ≡ Some x → weight_in x.1 < weight_in args
  lower_in NoTree x h = absurd (let z : None ≡ Some x = h in cc)
  lower_in (MoreTrees t args) x h = elim (in_part (λ u. MoreTrees u args) (next_step t)
      (inside (MoreTrees t) (next_in args) None) x h) [
        | inl p ↦ (let i = lower t p.part p.first in let e : weight
            (p.part).1 + weight_in args ≡ weight_in x.1 = ap weight_in p.after in omega (arith, i, e))
        | inr q ↦ elim (in_part (MoreTrees t) (next_in args) None x q) [
          | inl p ↦ (let i = lower_in args p.part p.first in let e : weight t + weight_in
              (p.part).1 ≡ weight_in x.1 = ap weight_in p.after in omega (arith, i, e))
          | inr r ↦ absurd (let z : None ≡ Some x = r in cc)
        ]
      ]

  -- and for the links of a chain
  lower_along : (links : Branches) (x : Step × Branches) → next_along links ≡ Some x
      → weight_along x.1 < weight_along links
  lower_along NoBranch x h = absurd (let z : None ≡ Some x = h in cc)
  lower_along (MoreBranches at op right links) x h = elim
      (in_part (λ t. MoreBranches at op t links) (next_step right)
      (inside (MoreBranches at op right) (next_along links) None) x h) [
        | inl p ↦ (let i = lower right p.part p.first in let e : weight
            (p.part).1 + weight_along links ≡ weight_along x.1 = ap weight_along p.after in omega (arith, i, e))
        | inr q ↦ elim (in_part (MoreBranches at op right) (next_along links) None x q) [
          | inl p ↦ (let i = lower_along links p.part p.first in let e : weight right + weight_along
              (p.part).1 ≡ weight_along x.1 = ap weight_along p.after in omega (arith, i, e))
          | inr r ↦ absurd (let z : None ≡ Some x = r in cc)
        ]
      ]

-- ---- the last
-- a number of steps that is no less than the weight leads to a tree that has none
last : (k : ℕ) (t : Tree) → weight t ≤ k → next_step (calm_within k t) ≡ None
last zero t l = absurd (omega (arith, l, weight-some t))
last (suc k) t l = at_step (next_step t) refl (λ x h. last k x.1 (omega (arith, l, lower t x h)))
  where
    at_step : (o : Option (Step × Tree)) → next_step t ≡ o
        → ((x : Step × Tree) → next_step t ≡ Some x → next_step (calm_within k x.1) ≡ None)
        → next_step (calm_behind t o (calm_within k)) ≡ None
    at_step None e f = e
    at_step (Some x) e f = f x e

pub steps_end : StepsEnd
unfolding calmed
steps_end = record {
  lower = λ t step u h. lower t (step, u) h;
  last = λ t. last (weight t) t (omega arith);
}
