-- What each rule makes of a calm node whose parts have no next step is calm, and its parts have none either, but for
-- a new operand of - or ^, whose parts have none.
use Rattle.std.proofs.Common.{◌≡◌, ◌∙◌, ◌==◌, ◌&&◌, ◌%◌, nat_lt, nat_le, ℕ, Bool, true, false, cond, List, [], ◌∷◌, Option, Some, None, option_map, refl, sym, ap, subst, arith}
use Rattle.std.proofs.lemmas.Bool.{and_parts, and_from, false≢true}
use Rattle.std.proofs.lemmas.Bool.Decides.{nat_tests}
use Rattle.std.specs.List.{list_any}
use Rattle.lang_model.specs.declared.syntax.Op2.{Op2}
use Rattle.lang_model.specs.declared.syntax.Op2.TheVariants.{And, Times, Under, Over}
use Rattle.lang_model.specs.declared.syntax.Base.TheVariants.{Syq}
use Rattle.lang_model.specs.Trees.{Tree, NameTree, CallTree, BaseTree, InjectTree, PairTree, MinusTree, TurnedTree, ChainTree, NoTree, MoreTrees, Branches, NoBranch, MoreBranches}
use Rattle.lang_model.specs.Limits.{compared_limit}
use Rattle.lang_model.specs.Rewriting.{Step as STEP, numbered, result_of_rule, shortened, same_operator, same_tree, negated, turned_once, Two, two_operands, operands_of, two, chain_of, place_of_node, is_lattice, dual, link_count, is_of_one_sign, without_repeats, double_complement, many_turns, turned_again, repeated_operands, to_right_residual, to_left_residual, turned_product, turned_operands, negated_operands, to_quotient, least_rule, is_calm, are_calm_along, inside, next_step, next_in, next_along}
use Rattle.lang_model.proofs.Sameness.{found, passed, same_some}
use Rattle.rv_rewrite.specs.Running.{StillInside, ReadyInside, Follows}
use Rattle.rv_rewrite.proofs.Runs.{still_here, still_parts, still_links}

-- calm, with no next step
pub record Good (t : Tree) : Type 0 where
  pub calm : is_calm t ≡ true
  pub still : next_step t ≡ None

-- calm, with no next step in the parts
pub record GoodInside (t : Tree) : Type 0 where
  pub calm : is_calm t ≡ true
  pub still : StillInside t

inside_of : (t : Tree) → Good t → GoodInside t
inside_of t g = record { calm = g.calm; still = still_parts t g.still }

ready_still : (t : Tree) → StillInside t → ReadyInside t
ready_still (MinusTree at of) s = still_parts of s
ready_still (TurnedTree at of n) s = still_parts of s
ready_still (NameTree at name) s = s
ready_still (CallTree at name args) s = s
ready_still (BaseTree at base args) s = s
ready_still (InjectTree at base domain) s = s
ready_still (PairTree at l r) s = s
ready_still (ChainTree first links) s = s

-- a node in which no operand stands twice, and whose parts have no next step
follows_inside : (n : ℕ) (t : Tree) → GoodInside t → repeated_operands t ≡ None → Follows n t
follows_inside n t g d = record { calm = g.calm; ready = ready_still t g.still; still = λ e. g.still; distinct = d }

pub no_result : {A B : Type 0} (f : A → B) (o : Option A) → option_map f o ≡ None → o ≡ None
no_result f None h = refl
no_result f (Some x) h = absurd (let z : Some (f x) ≡ None = h in cc)

not_numbered : (n : ℕ) (o : Option Tree) (others : Option (ℕ × Tree)) → numbered n o others ≡ None → (o ≡ None) × (others ≡ None)
not_numbered n None others h = (refl, h)
not_numbered n (Some t) others h = absurd (let z : Some (n, t) ≡ None = h in cc)

-- where no rule applies, the fourth does not
none_repeats : (t : Tree) → least_rule t ≡ None → repeated_operands t ≡ None
none_repeats t h =
    let five = numbered 5 (to_right_residual t) (numbered 6 (to_left_residual t) (numbered 7 (turned_product t) (numbered 8 (turned_operands t)
    (numbered 9 (negated_operands t) (numbered 10 (to_quotient t) None))))) in
    let four = numbered 4 (repeated_operands t) five in
    let three = numbered 3 (turned_again t) four in
    let a = not_numbered 1 (double_complement t) (numbered 2 (many_turns t) three) h in
    let b = not_numbered 2 (many_turns t) three a.1 in
    let c = not_numbered 3 (turned_again t) four b.1 in
    (not_numbered 4 (repeated_operands t) five c.1).0

good_quiet : (t : Tree) → Good t → least_rule t ≡ None
good_quiet t g =
    let f : ℕ × Tree → STEP × Tree = λ x. (record { rule = x.0; before = t; after = x.1 }, x.1) in
    let quiet : option_map f (least_rule t) ≡ None = sym (still_here t (still_parts t g.still) ∙ ap (λ b. cond b (option_map f (least_rule t)) None) g.calm) ∙ g.still in
    no_result f (least_rule t) quiet

follows_good : (n : ℕ) (t : Tree) → Good t → Follows n t
follows_good n t g = follows_inside n t (inside_of t g) (none_repeats t (good_quiet t g))

-- ---- parts
good_negated : (t u : Tree) → GoodInside t → negated t ≡ Some u → Good u
good_negated (MinusTree at of) u g h = subst Good (same_some h) (record { calm = g.calm; still = g.still })
good_negated t u g h = absurd (let z : None ≡ Some u = h in cc)

good_turned : (t u : Tree) → GoodInside t → turned_once t ≡ Some u → Good u
good_turned (TurnedTree at of n) u g h =
    let p = passed (n == 1) (Some of) u h in
    subst Good (same_some p.1) (record { calm = g.calm; still = g.still })
good_turned t u g h = absurd (let z : None ≡ Some u = h in cc)

record GoodTwo (x : Two) : Type 0 where
  pub left : Good x.left
  pub right : Good x.right

-- both operands of such a node are calm with no next step, since they are its parts
good_two : (t : Tree) (x : Two) → GoodInside t → two_operands t ≡ Some x → GoodTwo x
good_two (ChainTree first (MoreBranches at op right NoBranch)) x g h =
    let c = and_parts _ _ g.calm in
    let d = and_parts _ _ c.1 in
    let s = g.still in
    subst GoodTwo (same_some h) (record {
      left = record { calm = c.0; still = s.0 };
      right = record { calm = d.0; still = (still_links at op right NoBranch s.1).0 };
    })
good_two (ChainTree first NoBranch) x g h = absurd (let z : None ≡ Some x = h in cc)
good_two (ChainTree first (MoreBranches at op right (MoreBranches there other another links))) x g h = absurd
    (let z : None ≡ Some x = h in cc)
good_two t x g h = absurd (let z : None ≡ Some x = h in cc)

record GoodPair (x : Tree × Tree) : Type 0 where
  pub left : Good x.0
  pub right : Good x.1

good_operands : (op : Op2) (t : Tree) (x : Tree × Tree) → GoodInside t → operands_of op t ≡ Some x → GoodPair x
good_operands op t x g h =
    let f = found (two_operands t) _ x h in
    let p = passed (same_operator (f.at).op op) (Some ((f.at).left, (f.at).right)) x f.then in
    let k = good_two t f.at g f.first in
    subst GoodPair (same_some p.1) (record { left = k.left; right = k.right })

-- ---- new nodes
good_of_two : (at : _) (l : Tree) (op : Op2) (r : Tree) → Good l → Good r → GoodInside (two at l op r)
good_of_two at l op r g h = record {
  calm = and_from _ _ g.calm (and_from _ _ h.calm refl);
  still = (g.still, ap (λ o. inside (λ t. MoreBranches at op t NoBranch) o None) h.still);
}

-- what is left without repeats has none
kept_again : (before : List Tree) (links : Branches) → without_repeats before (without_repeats before links) ≡ without_repeats before links
kept_again before NoBranch = refl
kept_again before (MoreBranches at op right links) =
    either (list_any (λ t. same_tree t right) before) refl (kept_again before links) (kept_again (right ∷ before) links)
  where
    rest : Branches
    rest = without_repeats (right ∷ before) links

    either : (b : Bool) → list_any (λ t. same_tree t right) before ≡ b
        → without_repeats before (without_repeats before links) ≡ without_repeats before links
        → without_repeats (right ∷ before) (without_repeats (right ∷ before) links) ≡ without_repeats (right ∷ before) links
        → without_repeats before (cond b (without_repeats before links) (MoreBranches at op right (without_repeats (right ∷ before) links)))
        ≡ cond b (without_repeats before links) (MoreBranches at op right (without_repeats (right ∷ before) links))
    either true h i j = i
    either false h i j =
        ap (λ b. cond b (without_repeats before (without_repeats (right ∷ before) links)) (MoreBranches at op right (without_repeats (right ∷ before) (without_repeats (right ∷ before) links)))) h
        ∙ ap (MoreBranches at op right) j

not_below : (n : ℕ) → nat_lt n n ≡ false
not_below n = grind (arith, nat_tests)

and_no : (b : Bool) → (b && false) ≡ false
and_no true = refl
and_no false = refl

-- nothing is shortened where all links are kept
not_shorter : (first : Tree) (links kept : Branches) → kept ≡ links → shortened first links kept ≡ None
not_shorter first links kept e =
    ap (shortened first links) e
    ∙ ap (λ b. cond (is_of_one_sign links && (nat_lt (link_count links) compared_limit && b)) (Some (chain_of first links)) None) (not_below (link_count links))
    ∙ ap (λ b. cond (is_of_one_sign links && b) (Some (chain_of first links)) None) (and_no (nat_lt (link_count links) compared_limit))
    ∙ ap (λ b. cond b (Some (chain_of first links)) None) (and_no (is_of_one_sign links))

-- ---- the rules
rule_1 : (t u : Tree) → GoodInside t → double_complement t ≡ Some u → Follows 1 u
rule_1 t u g h =
    let f = found (negated t) negated u h in
    let n = good_negated t f.at g f.first in
    follows_good 1 u (good_negated f.at u (inside_of f.at n) f.then)

rule_2 : (t u : Tree) → GoodInside t → many_turns t ≡ Some u → Follows 2 u
rule_2 (TurnedTree at of times) u g h =
    let p = passed (nat_le 2 times) _ u h in
    let w : Good of = record { calm = g.calm; still = g.still } in
    subst (Follows 2) (same_some p.1) (either (times % 2 == 0) w)
  where
    either : (even : Bool) → Good of → Follows 2 (cond even of (TurnedTree at of 1))
    either true w = follows_good 2 of w
    either false w = record { calm = w.calm; ready = still_parts of w.still; still = λ e. w.still; distinct = refl }
rule_2 t u g h = absurd (let z : None ≡ Some u = h in cc)

-- signs ^ on signs ^ become signs ^ on the inner operand, which is calm with no next step, since it was part of a part
rule_3 : (t u : Tree) → GoodInside t → turned_again t ≡ Some u → Follows 3 u
rule_3 (TurnedTree at (TurnedTree there of less) times) u g h =
    subst (Follows 3) (same_some h) (record {
      calm = g.calm;
      ready = still_parts of (still_parts (TurnedTree there of less) g.still);
      still = λ e. still_parts (TurnedTree there of less) g.still;
      distinct = refl;
    })
rule_3 (TurnedTree at (NameTree there name) times) u g h = absurd (let z : None ≡ Some u = h in cc)
rule_3 (TurnedTree at (CallTree there name args) times) u g h = absurd (let z : None ≡ Some u = h in cc)
rule_3 (TurnedTree at (BaseTree there base args) times) u g h = absurd (let z : None ≡ Some u = h in cc)
rule_3 (TurnedTree at (InjectTree there base domain) times) u g h = absurd (let z : None ≡ Some u = h in cc)
rule_3 (TurnedTree at (PairTree there left right) times) u g h = absurd (let z : None ≡ Some u = h in cc)
rule_3 (TurnedTree at (MinusTree there of) times) u g h = absurd (let z : None ≡ Some u = h in cc)
rule_3 (TurnedTree at (ChainTree first links) times) u g h = absurd (let z : None ≡ Some u = h in cc)
rule_3 t u g h = absurd (let z : None ≡ Some u = h in cc)

-- links that are kept
record GoodLinks (links : Branches) : Type 0 where
  pub calm : are_calm_along links ≡ true
  pub still : next_along links ≡ None

-- links stay calm with no next step where those whose operands stood before are left out: each that is kept was so
good_kept : (before : List Tree) (links : Branches) → GoodLinks links → GoodLinks (without_repeats before links)
good_kept before NoBranch g = record { calm = refl; still = refl }
good_kept before (MoreBranches at op right links) g =
    let c = and_parts _ _ g.calm in
    let s = still_links at op right links g.still in
    let rest : GoodLinks links = record { calm = c.1; still = s.1 } in
    either (list_any (λ t. same_tree t right) before) c.0 s.0 (good_kept before links rest) (good_kept (right ∷ before) links rest)
  where
    either : (b : Bool) → is_calm right ≡ true → next_step right ≡ None → GoodLinks (without_repeats before links)
        → GoodLinks (without_repeats (right ∷ before) links)
        → GoodLinks (cond b (without_repeats before links) (MoreBranches at op right (without_repeats (right ∷ before) links)))
    either true c s i j = i
    either false c s i j = record {
      calm = and_from _ _ c j.calm;
      still = ap (λ o. inside (λ u. MoreBranches at op u (without_repeats (right ∷ before) links)) o
          (inside (MoreBranches at op right) (next_along (without_repeats (right ∷ before) links)) None)) s
          ∙ ap (λ o. inside (MoreBranches at op right) o None) j.still;
    }

follows_chain : (first : Tree) (links : Branches) → without_repeats (first ∷ []) links ≡ links → Good first → GoodLinks links
    → Follows 4 (chain_of first links)
follows_chain first NoBranch k g h = follows_good 4 first g
follows_chain first (MoreBranches at op right links) k g h =
    follows_inside 4 (ChainTree first (MoreBranches at op right links))
    (record { calm = and_from _ _ g.calm h.calm; still = (g.still, h.still) })
    (not_shorter first (MoreBranches at op right links) _ k)

rule_4 : (t u : Tree) → GoodInside t → repeated_operands t ≡ Some u → Follows 4 u
rule_4 (ChainTree first links) u g h =
    let kept = without_repeats (first ∷ []) links in
    let p = passed (is_of_one_sign links && (nat_lt (link_count links) compared_limit && nat_lt (link_count kept) (link_count links)))
    (Some (chain_of first kept)) u h in
    let c = and_parts _ _ g.calm in
    let s = g.still in
    subst (Follows 4) (same_some p.1) (follows_chain first kept (kept_again (first ∷ []) links) (record { calm = c.0; still = s.0 })
    (good_kept (first ∷ []) links (record { calm = c.1; still = s.1 })))
rule_4 t u g h = absurd (let z : None ≡ Some u = h in cc)

rule_5 : (t u : Tree) → GoodInside t → to_right_residual t ≡ Some u → Follows 5 u
rule_5 t u g h =
    let f = found (negated t) _ u h in
    let k = found (operands_of Times f.at) _ u f.then in
    let a = found (turned_once (k.at).0) _ u k.then in
    let b = found (negated (k.at).1) _ u a.then in
    let n = good_negated t f.at g f.first in
    let o = good_operands Times f.at k.at (inside_of f.at n) k.first in
    let r = good_turned (k.at).0 a.at (inside_of (k.at).0 o.left) a.first in
    let s = good_negated (k.at).1 b.at (inside_of (k.at).1 o.right) b.first in
    subst (Follows 5) (same_some b.then) (follows_inside 5 _ (good_of_two (place_of_node t) a.at Under b.at r s) refl)

rule_6 : (t u : Tree) → GoodInside t → to_left_residual t ≡ Some u → Follows 6 u
rule_6 t u g h =
    let f = found (negated t) _ u h in
    let k = found (operands_of Times f.at) _ u f.then in
    let a = found (negated (k.at).0) _ u k.then in
    let b = found (turned_once (k.at).1) _ u a.then in
    let n = good_negated t f.at g f.first in
    let o = good_operands Times f.at k.at (inside_of f.at n) k.first in
    let r = good_negated (k.at).0 a.at (inside_of (k.at).0 o.left) a.first in
    let s = good_turned (k.at).1 b.at (inside_of (k.at).1 o.right) b.first in
    subst (Follows 6) (same_some b.then) (follows_inside 6 _ (good_of_two (place_of_node t) a.at Over b.at r s) refl)

rule_7 : (t u : Tree) → GoodInside t → turned_product t ≡ Some u → Follows 7 u
rule_7 t u g h =
    let k = found (operands_of Times t) _ u h in
    let a = found (turned_once (k.at).0) _ u k.then in
    let b = found (turned_once (k.at).1) _ u a.then in
    let o = good_operands Times t k.at g k.first in
    let r = good_turned (k.at).0 a.at (inside_of (k.at).0 o.left) a.first in
    let s = good_turned (k.at).1 b.at (inside_of (k.at).1 o.right) b.first in
    let n = good_of_two (place_of_node t) b.at Times a.at s r in
    subst (Follows 7) (same_some b.then) (record { calm = n.calm; ready = n.still; still = λ e. absurd (false≢true (sym e)); distinct = refl })

rule_8 : (t u : Tree) → GoodInside t → turned_operands t ≡ Some u → Follows 8 u
rule_8 t u g h =
    let k = found (two_operands t) _ u h in
    let p = passed (is_lattice (k.at).op) _ u k.then in
    let a = found (turned_once (k.at).left) _ u p.1 in
    let b = found (turned_once (k.at).right) _ u a.then in
    let o = good_two t k.at g k.first in
    let r = good_turned (k.at).left a.at (inside_of (k.at).left o.left) a.first in
    let s = good_turned (k.at).right b.at (inside_of (k.at).right o.right) b.first in
    let n = good_of_two (place_of_node t) a.at (k.at).op b.at r s in
    subst (Follows 8) (same_some b.then) (record { calm = n.calm; ready = n.still; still = λ e. absurd (false≢true (sym e)); distinct = refl })

rule_9 : (t u : Tree) → GoodInside t → negated_operands t ≡ Some u → Follows 9 u
rule_9 t u g h =
    let k = found (two_operands t) _ u h in
    let p = passed (is_lattice (k.at).op) _ u k.then in
    let a = found (negated (k.at).left) _ u p.1 in
    let b = found (negated (k.at).right) _ u a.then in
    let o = good_two t k.at g k.first in
    let r = good_negated (k.at).left a.at (inside_of (k.at).left o.left) a.first in
    let s = good_negated (k.at).right b.at (inside_of (k.at).right o.right) b.first in
    let n = good_of_two (place_of_node t) a.at (dual (k.at).op) b.at r s in
    subst (Follows 9) (same_some b.then) (record { calm = n.calm; ready = n.still; still = λ e. absurd (false≢true (sym e)); distinct = refl })

good_quotient : (at : _) (l r : Tree) → Good l → Good r → GoodInside (BaseTree at Syq (MoreTrees l (MoreTrees r NoTree)))
good_quotient at l r g h = record {
  calm = and_from _ _ g.calm (and_from _ _ h.calm refl);
  still = ap (λ o. inside (λ u. MoreTrees u (MoreTrees r NoTree)) o (inside (MoreTrees l) (next_in (MoreTrees r NoTree)) None)) g.still
      ∙ ap (λ o. inside (MoreTrees l) (inside (λ u. MoreTrees u NoTree) o None) None) h.still;
}

rule_10 : (t u : Tree) → GoodInside t → to_quotient t ≡ Some u → Follows 10 u
rule_10 t u g h =
    let k = found (operands_of And t) _ u h in
    let c = found (operands_of Under (k.at).0) _ u k.then in
    let d = found (operands_of Over (k.at).1) _ u c.then in
    let a = found (turned_once (d.at).0) _ u d.then in
    let b = found (turned_once (d.at).1) _ u a.then in
    let p = passed (same_tree (c.at).0 a.at && same_tree (c.at).1 b.at) _ u b.then in
    let o = good_operands And t k.at g k.first in
    let q = good_operands Under (k.at).0 c.at (inside_of (k.at).0 o.left) c.first in
    subst (Follows 10) (same_some p.1) (follows_inside 10 _ (good_quotient (place_of_node t) (c.at).0 (c.at).1 q.left q.right) refl)

-- ---- the rule of the least number
numbered_at : (P : ℕ → Tree → Type 0) (n : ℕ) (o : Option Tree) (others : Option (ℕ × Tree)) (x : ℕ × Tree) → ((u : Tree) → o ≡ Some u → P n u)
    → (others ≡ Some x → P x.0 x.1) → numbered n o others ≡ Some x → P x.0 x.1
numbered_at P n None others x h g e = g e
numbered_at P n (Some t) others x h g e = subst (λ (y : ℕ × Tree). P y.0 y.1) (same_some e) (h t refl)

least_at : (P : ℕ → Tree → Type 0) (t : Tree) (x : ℕ × Tree) → ((u : Tree) → double_complement t ≡ Some u → P 1 u)
    → ((u : Tree) → many_turns t ≡ Some u → P 2 u) → ((u : Tree) → turned_again t ≡ Some u → P 3 u)
    → ((u : Tree) → repeated_operands t ≡ Some u → P 4 u) → ((u : Tree) → to_right_residual t ≡ Some u → P 5 u)
    → ((u : Tree) → to_left_residual t ≡ Some u → P 6 u) → ((u : Tree) → turned_product t ≡ Some u → P 7 u)
    → ((u : Tree) → turned_operands t ≡ Some u → P 8 u) → ((u : Tree) → negated_operands t ≡ Some u → P 9 u)
    → ((u : Tree) → to_quotient t ≡ Some u → P 10 u) → least_rule t ≡ Some x → P x.0 x.1
least_at P t x a b c d e f g h i j = numbered_at P 1 _ _ x a
    (numbered_at P 2 _ _ x b (numbered_at P 3 _ _ x c (numbered_at P 4 _ _ x d
    (numbered_at P 5 _ _ x e (numbered_at P 6 _ _ x f
    (numbered_at P 7 _ _ x g (numbered_at P 8 _ _ x h (numbered_at P 9 _ _ x i
    (numbered_at P 10 _ _ x j (λ n. absurd (let z : None ≡ Some x = n in cc)))))))))))

pub least_follows : (t : Tree) (x : ℕ × Tree) → GoodInside t → least_rule t ≡ Some x → Follows x.0 x.1
least_follows t x g = least_at Follows t x (λ u. rule_1 t u g) (λ u. rule_2 t u g) (λ u. rule_3 t u g) (λ u. rule_4 t u g)
    (λ u. rule_5 t u g) (λ u. rule_6 t u g) (λ u. rule_7 t u g) (λ u. rule_8 t u g) (λ u. rule_9 t u g) (λ u. rule_10 t u g)

-- it gives what the rule of that number gives
least_result : (t : Tree) (x : ℕ × Tree) → least_rule t ≡ Some x → result_of_rule x.0 t ≡ Some x.1
unfolding result_of_rule
least_result t x = least_at (λ n u. result_of_rule n t ≡ Some u) t x (λ u h. h) (λ u h. h) (λ u h. h) (λ u h. h) (λ u h. h)
    (λ u h. h) (λ u h. h) (λ u h. h) (λ u h. h) (λ u h. h)

-- and so, where its number is known, what is made by that rule is its result
pub made_by_least : (t : Tree) (n : ℕ) (u : Tree) → Some n ≡ option_map (λ (x : ℕ × Tree). x.0) (least_rule t) → result_of_rule n t ≡ Some u
    → least_rule t ≡ Some (n, u)
made_by_least t n u h r = go (least_rule t) refl h
  where
    go : (m : Option (ℕ × Tree)) → least_rule t ≡ m → Some n ≡ option_map (λ (x : ℕ × Tree). x.0) m → least_rule t ≡ Some (n, u)
    go None e k = absurd (let z : Some n ≡ None = k in cc)
    go (Some x) e k =
        let same : n ≡ x.0 = same_some k in
        let made : Some x.1 ≡ Some u = sym (least_result t x e) ∙ (ap (λ m. result_of_rule m t) (sym same) ∙ r) in
        e ∙ (λ i. Some (sym same i, same_some made i))

-- which makes something
pub least_makes : (t : Tree) (n : ℕ) → Some n ≡ option_map (λ (x : ℕ × Tree). x.0) (least_rule t) → result_of_rule n t ≡ None → ⊥
least_makes t n h r = go (least_rule t) refl h
  where
    go : (m : Option (ℕ × Tree)) → least_rule t ≡ m → Some n ≡ option_map (λ (x : ℕ × Tree). x.0) m → ⊥
    go None e k = let z : Some n ≡ None = k in cc
    go (Some x) e k =
        let same : n ≡ x.0 = same_some k in
        let made : Some x.1 ≡ None = sym (least_result t x e) ∙ (ap (λ m. result_of_rule m t) (sym same) ∙ r) in
        cc
