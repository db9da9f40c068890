-- Operands that stand twice, by the lists that the code goes over; and equality up to places as an equivalence.
use Rattle.std.proofs.lemmas.Grind.{common_steps}
use Rattle.std.proofs.Common.{◌≡◌, ◌∙◌, ◌-◌, ◌==◌, ◌&&◌, ◌||◌, drop, take, get_or, ◌++◌, ◌+◌, ◌<◌, ◌≤◌, nat_lt, add-one, cond, ℕ, Bool, true, false, List, [], ◌∷◌, length, Some, None, refl, sym, ap, subst, inl, inr, arith}
use Rattle.std.proofs.lemmas.Bool.{and_parts, or_cases, false≢true}
use Rattle.std.proofs.lemmas.Bool.Decides.{nat_tests}
use Rattle.rv_rewrite.proofs.Equal.{same-left}
use Rattle.rv_rewrite.proofs.Items.{tree_chain, links_ahead-more, links_ahead-all}
use Rattle.lang_model.specs.declared.syntax.Expr.{Expr}
use Rattle.lang_model.specs.declared.syntax.Expr.TheVariants.{Chain}
use Rattle.std.proofs.lemmas.List.{drop_more, take_more, drop_all}
use Rattle.std.specs.List.{list_any}
use Rattle.lang_model.specs.declared.syntax.Link.{Link}
use Rattle.lang_model.specs.declared.syntax.Place.{Place}
use Rattle.lang_model.specs.declared.syntax.Op2.{Op2}
use Rattle.lang_model.specs.Limits.{compared_limit}
use Rattle.lang_model.specs.Trees.{Tree, ChainTree, Branches, NoBranch, MoreBranches, tree_of}
use Rattle.lang_model.specs.Rewriting.{same_operator, same_tree, same_branches, is_of_one_sign, link_count, without_repeats, repeated_operands, chain_of, where_some}
use Rattle.rv_rewrite.specs.Items.{links_of, links_ahead}
use Rattle.rv_rewrite.specs.Repeated.{chain_parts, is_among, kept_with, KeepsAlike, repeats, may_be_shortened, operands_behind, without_earlier, all_equal}

-- one more operand stands first
pub behind_one : (before : List Tree) (xs : List Link) (y : Link) → operands_behind before (xs ++ y ∷ []) ≡ tree_of y.right ∷ operands_behind before xs
behind_one before [] y = refl
behind_one before (x ∷ xs) y = behind_one (tree_of x.right ∷ before) xs y

or_assoc : (a b c : Bool) → (a || (b || c)) ≡ (b || (a || c))
or_assoc true true c = refl
or_assoc true false c = refl
or_assoc false true c = refl
or_assoc false false c = refl

any_behind : (right : Tree) (before : List Tree) (x : Link) (xs : List Link) → list_any (λ t. same_tree t right) (operands_behind (tree_of x.right ∷ before) xs)
    ≡ (same_tree (tree_of x.right) right || list_any (λ t. same_tree t right) (operands_behind before xs))
any_behind right before x [] = refl
any_behind right before x (y ∷ ys) = any_behind right (tree_of x.right ∷ before) y ys
    ∙ ap (λ b. same_tree (tree_of y.right) right || b) (any_behind right before x ys)
    ∙ or_assoc (same_tree (tree_of y.right) right) (same_tree (tree_of x.right) right) _
    ∙ ap (λ b. same_tree (tree_of x.right) right || b) (sym (any_behind right before y ys))

or_false : (b : Bool) → (b || false) ≡ b
or_false true = refl
or_false false = refl

pub among_behind : (first right : Tree) (xs : List Link) → is_among first xs right ≡ list_any (λ t. same_tree t right) (operands_behind (first ∷ []) xs)
among_behind first right [] = sym (or_false (same_tree first right))
among_behind first right (x ∷ xs) = ap (λ b. same_tree (tree_of x.right) right || b) (among_behind first right xs) ∙ sym (any_behind right (first ∷ []) x xs)

-- ---- one link of those that are left
pub record AtLink (first : Tree) (links : List Link) (i : ℕ) (x : Link) : Type 0 where
  pub left : links_of (drop i links) ≡ MoreBranches x.at x.op (tree_of x.right) (links_of (drop (i + 1) links))
  pub behind : operands_behind (first ∷ []) (take (i + 1) links) ≡ tree_of x.right ∷ operands_behind (first ∷ []) (take i links)
  pub among : is_among first (take i links) (tree_of x.right) ≡ list_any (λ t. same_tree t (tree_of x.right)) (operands_behind (first ∷ []) (take i links))

pub at_link : (first : Tree) (links : List Link) (i : ℕ) (x : Link) → i < length links → x ≡ get_or links i x → AtLink first links i x
at_link first links i x l e = record {
  left = ap links_of (drop_more links i x l) ∙ ap (λ (y : Link). MoreBranches y.at y.op (tree_of y.right) (links_of (drop (i + 1) links))) (sym e);
  behind = ap (operands_behind (first ∷ [])) (take_more links i x l) ∙ behind_one (first ∷ []) (take i links) (get_or links i x)
      ∙ ap (λ (y : Link). tree_of y.right ∷ operands_behind (first ∷ []) (take i links)) (sym e);
  among = among_behind first (tree_of x.right) (take i links);
}

pub repeat_found : (first : Tree) (links : List Link) (i : ℕ) (x : Link) → i < length links → x ≡ get_or links i x
    → is_among first (take i links) (tree_of x.right) ≡ true
    → repeats (operands_behind (first ∷ []) (take i links)) (links_of (drop i links)) ≡ true
repeat_found first links i x l e h =
    let a = at_link first links i x l e in
    let B = operands_behind (first ∷ []) (take i links) in
    ap (repeats B) a.left ∙ ap (λ b. b || repeats (tree_of x.right ∷ B) (links_of (drop (i + 1) links))) (sym a.among ∙ h)

pub repeat_not : (first : Tree) (links : List Link) (i : ℕ) (x : Link) → i < length links → x ≡ get_or links i x
    → is_among first (take i links) (tree_of x.right) ≡ false
    → repeats (operands_behind (first ∷ []) (take i links)) (links_of (drop i links)) ≡ repeats (operands_behind (first ∷ []) (take (i + 1) links)) (links_of (drop (i + 1) links))
repeat_not first links i x l e h =
    let a = at_link first links i x l e in
    let B = operands_behind (first ∷ []) (take i links) in
    ap (repeats B) a.left ∙ ap (λ b. b || repeats (tree_of x.right ∷ B) (links_of (drop (i + 1) links))) (sym a.among ∙ h)
    ∙ ap (λ z. repeats z (links_of (drop (i + 1) links))) (sym a.behind)

pub earlier_skip : (first : Tree) (links : List Link) (i : ℕ) (x : Link) → i < length links → x ≡ get_or links i x
    → is_among first (take i links) (tree_of x.right) ≡ true
    → without_earlier (operands_behind (first ∷ []) (take i links)) (links_of (drop i links)) ≡ without_earlier (operands_behind (first ∷ []) (take (i + 1) links)) (links_of (drop (i + 1) links))
earlier_skip first links i x l e h =
    let a = at_link first links i x l e in
    let B = operands_behind (first ∷ []) (take i links) in
    let rest = without_earlier (tree_of x.right ∷ B) (links_of (drop (i + 1) links)) in
    ap (without_earlier B) a.left ∙ ap (λ b. cond b rest (MoreBranches x.at x.op (tree_of x.right) rest)) (sym a.among ∙ h)
    ∙ ap (λ z. without_earlier z (links_of (drop (i + 1) links))) (sym a.behind)

pub earlier_keep : (first : Tree) (links : List Link) (i : ℕ) (x : Link) → i < length links → x ≡ get_or links i x
    → is_among first (take i links) (tree_of x.right) ≡ false
    → without_earlier (operands_behind (first ∷ []) (take i links)) (links_of (drop i links))
    ≡ MoreBranches x.at x.op (tree_of x.right) (without_earlier (operands_behind (first ∷ []) (take (i + 1) links)) (links_of (drop (i + 1) links)))
earlier_keep first links i x l e h =
    let a = at_link first links i x l e in
    let B = operands_behind (first ∷ []) (take i links) in
    let rest = without_earlier (tree_of x.right ∷ B) (links_of (drop (i + 1) links)) in
    ap (without_earlier B) a.left ∙ ap (λ b. cond b rest (MoreBranches x.at x.op (tree_of x.right) rest)) (sym a.among ∙ h)
    ∙ ap (λ z. MoreBranches x.at x.op (tree_of x.right) (without_earlier z (links_of (drop (i + 1) links)))) (sym a.behind)

pub no_more : (at : Place) (op : Op2) (right : Tree) (rest : Branches) (others : List Link) → length others < 1
    → same_branches (MoreBranches at op right rest) (links_of others) ≡ false
no_more at op right rest [] l = refl
no_more at op right rest (y ∷ ys) l = absurd (omega arith)

pub one_more : (at : Place) (op : Op2) (right : Tree) (rest : Branches) (others : List Link) (y : Link) → 1 ≤ length others → y ≡ get_or others 0 y
    → same_branches (MoreBranches at op right rest) (links_of others)
    ≡ (same_operator op y.op && (same_tree right (tree_of y.right) && same_branches rest (links_of (drop 1 others))))
one_more at op right rest [] y l e = absurd (omega arith)
one_more at op right rest (z ∷ zs) y l e = ap (λ (x : Link). same_operator op x.op && (same_tree right (tree_of x.right) && same_branches rest (links_of zs))) (sym e)

pub and_no : (b : Bool) → (b && false) ≡ false
and_no true = refl
and_no false = refl

pub no_links_left : (links : List Link) (i : ℕ) (before : List Tree) → length links ≤ i → without_earlier before (links_of (drop i links)) ≡ NoBranch
no_links_left links i before l = ap (λ z. without_earlier before (links_of z)) (drop_all i links l)

pub behind_first : (others : List Link) → take (length others - 1) (drop 1 others) ≡ drop 1 others
behind_first others = grind (arith, common_steps)

-- ---- the fourth rule, by repeated operands
-- links that are kept are no more than all
fewer : (before : List Tree) (links : Branches) → link_count (without_repeats before links) ≤ link_count links
fewer before NoBranch = omega arith
fewer before (MoreBranches at op right links) =
    either (list_any (λ t. same_tree t right) before) (fewer before links) (fewer (right ∷ before) links)
  where
    either : (b : Bool) → link_count (without_repeats before links) ≤ link_count links
        → link_count (without_repeats (right ∷ before) links) ≤ link_count links
        → link_count (cond b (without_repeats before links) (MoreBranches at op right (without_repeats (right ∷ before) links))) ≤ link_count links + 1
    either true i j = omega (arith, i)
    either false i j = omega (arith, j)

less_by_one : (a b : ℕ) → nat_lt (a + 1) (b + 1) ≡ nat_lt a b
less_by_one a b = grind (arith, nat_tests)

less : (a b : ℕ) → a ≤ b → nat_lt a (b + 1) ≡ true
less a b l = grind (arith, nat_tests, l)

pub shorter-repeats : (before : List Tree) (links : Branches) → nat_lt (link_count (without_repeats before links)) (link_count links) ≡ repeats before links
shorter-repeats before NoBranch = refl
shorter-repeats before (MoreBranches at op right links) =
    either (list_any (λ t. same_tree t right) before) (fewer before links) (shorter-repeats (right ∷ before) links)
  where
    either : (b : Bool) → link_count (without_repeats before links) ≤ link_count links
        → nat_lt (link_count (without_repeats (right ∷ before) links)) (link_count links) ≡ repeats (right ∷ before) links
        → nat_lt (link_count (cond b (without_repeats before links) (MoreBranches at op right (without_repeats (right ∷ before) links)))) (link_count links + 1)
        ≡ (b || repeats (right ∷ before) links)
    either true i j = less _ _ i
    either false i j = less_by_one _ _ ∙ j

pub shortened-may_be : (first : Tree) (links : Branches) → repeated_operands (ChainTree first links)
    ≡ cond (may_be_shortened first links) (Some (chain_of first (without_repeats (first ∷ []) links))) None
shortened-may_be first links = ap (λ b. cond (is_of_one_sign links && (nat_lt (link_count links) compared_limit && b))
    (Some (chain_of first (without_repeats (first ∷ []) links))) None) (shorter-repeats (first ∷ []) links)

pub link_count-items : (xs : List Link) → link_count (links_of xs) ≡ length xs
link_count-items [] = refl
link_count-items (x ∷ xs) = ap (λ n. n + 1) (link_count-items xs) ∙ add-one (length xs)

pub short_enough : (xs : List Link) → length xs < compared_limit → nat_lt (link_count (links_of xs)) compared_limit ≡ true
short_enough xs l = ap (λ n. nat_lt n compared_limit) (link_count-items xs) ∙ is_less _ _ l
  where
    is_less : (a b : ℕ) → a < b → nat_lt a b ≡ true
    is_less a b l = grind (arith, nat_tests, l)

pub too_long : (xs : List Link) → compared_limit ≤ length xs → nat_lt (link_count (links_of xs)) compared_limit ≡ false
too_long xs l = ap (λ n. nat_lt n compared_limit) (link_count-items xs) ∙ not_less _ _ l
  where
    not_less : (a b : ℕ) → b ≤ a → nat_lt a b ≡ false
    not_less a b l = grind (arith, nat_tests, l)

-- ---- what equals an operand that was not kept equals one that was
or_twice : (b c : Bool) → (b || (b || c)) ≡ (b || c)
or_twice true c = refl
or_twice false c = refl

pub absorbed : (r x : Tree) (before : List Tree) → list_any (λ t. same_tree t r) before ≡ true
    → (same_tree r x || list_any (λ t. same_tree t x) before) ≡ list_any (λ t. same_tree t x) before
absorbed r x [] h = absurd (false≢true h)
absorbed r x (y ∷ before) h = elim (or_cases (same_tree y r) (list_any (λ t. same_tree t r) before) h) [
  | inl e ↦ (
      let s = same-left y r x e in
      let c = list_any (λ t. same_tree t x) before in
      ap (λ b. b || (same_tree y x || c)) (sym s) ∙ or_twice (same_tree y x) c)
  | inr e ↦ or_assoc (same_tree r x) (same_tree y x) (list_any (λ t. same_tree t x) before)
      ∙ ap (λ b. same_tree y x || b) (absorbed r x before e)
]

-- the code compares with all earlier operands, and the rule with those that it kept: both leave out the same links,
-- since what equals one that was left out equals one that was kept
pub earlier-repeats : (earlier before : List Tree) (links : Branches)
    → ((x : Tree) → list_any (λ t. same_tree t x) earlier ≡ list_any (λ t. same_tree t x) before)
    → without_earlier earlier links ≡ without_repeats before links
earlier-repeats earlier before NoBranch e = refl
earlier-repeats earlier before (MoreBranches at op right links) e =
    either (list_any (λ t. same_tree t right) before) refl (earlier-repeats (right ∷ earlier) before links)
    (earlier-repeats (right ∷ earlier) (right ∷ before) links)
  where
    more : (x : Tree) → list_any (λ t. same_tree t x) (right ∷ earlier) ≡ list_any (λ t. same_tree t x) (right ∷ before)
    more x = ap (λ b. same_tree right x || b) (e x)

    either : (b : Bool) → list_any (λ t. same_tree t right) before ≡ b
        → (((x : Tree) → list_any (λ t. same_tree t x) (right ∷ earlier) ≡ list_any (λ t. same_tree t x) before)
        → without_earlier (right ∷ earlier) links ≡ without_repeats before links)
        → (((x : Tree) → list_any (λ t. same_tree t x) (right ∷ earlier) ≡ list_any (λ t. same_tree t x) (right ∷ before))
        → without_earlier (right ∷ earlier) links ≡ without_repeats (right ∷ before) links)
        → without_earlier earlier (MoreBranches at op right links) ≡ without_repeats before (MoreBranches at op right links)
    either true h f g =
        ap (λ b. cond b (without_earlier (right ∷ earlier) links) (MoreBranches at op right (without_earlier (right ∷ earlier) links))) (e right ∙ h)
        ∙ f (λ x. more x ∙ absorbed right x before h)
        ∙ sym (ap (λ b. cond b (without_repeats before links) (MoreBranches at op right (without_repeats (right ∷ before) links))) h)
    either false h f g =
        ap (λ b. cond b (without_earlier (right ∷ earlier) links) (MoreBranches at op right (without_earlier (right ∷ earlier) links))) (e right ∙ h)
        ∙ ap (MoreBranches at op right) (g more)
        ∙ sym (ap (λ b. cond b (without_repeats before links) (MoreBranches at op right (without_repeats (right ∷ before) links))) h)

-- ---- the chain that is left
pub none_kept : (first : Tree) (links : Branches) → all_equal first links ≡ true → without_repeats (first ∷ []) links ≡ NoBranch
none_kept first NoBranch h = refl
none_kept first (MoreBranches at op right links) h =
    let p = and_parts _ _ h in
    ap (λ b. cond (b || false) (without_repeats (first ∷ []) links) (MoreBranches at op right (without_repeats (right ∷ first ∷ []) links))) p.0
    ∙ none_kept first links p.1

pub some_kept : (first : Tree) (links : Branches) → all_equal first links ≡ false
    → chain_of first (without_repeats (first ∷ []) links) ≡ ChainTree first (without_repeats (first ∷ []) links)
some_kept first NoBranch h = absurd (false≢true (sym h))
some_kept first (MoreBranches at op right links) h = either (same_tree first right) h (some_kept first links)
  where
    either : (b : Bool) → (b && all_equal first links) ≡ false
        → (all_equal first links ≡ false → chain_of first (without_repeats (first ∷ []) links) ≡ ChainTree first (without_repeats (first ∷ []) links))
        → chain_of first (cond (b || false) (without_repeats (first ∷ []) links) (MoreBranches at op right (without_repeats (right ∷ first ∷ []) links)))
        ≡ ChainTree first (cond (b || false) (without_repeats (first ∷ []) links) (MoreBranches at op right (without_repeats (right ∷ first ∷ []) links)))
    either true k f = f k
    either false k f = refl

pub shortened_at : (e : Expr) (first : _) (rest : _) → e ≡ Chain first rest → (f : Expr) (xs : List Link) → f ≡ first.value → xs ≡ rest.items
    → (b : Bool) → may_be_shortened (tree_of f) (links_of xs) ≡ b
    → repeated_operands (tree_of e) ≡ cond b (Some (chain_of (tree_of f) (without_repeats (tree_of f ∷ []) (links_of xs)))) None
shortened_at e first rest is f xs d v b h =
    ap (λ x. repeated_operands (tree_of x)) is ∙ ap repeated_operands (tree_chain first rest)
    ∙ (λ i. repeated_operands (ChainTree (tree_of (sym d i)) (links_of (sym v i))))
    ∙ shortened-may_be (tree_of f) (links_of xs)
    ∙ ap (λ b. cond b (Some (chain_of (tree_of f) (without_repeats (tree_of f ∷ []) (links_of xs)))) None) h

-- the same by the parts of a chain
pub repeated_of : (t : Tree) → repeated_operands t ≡ where_some (chain_parts t)
    (λ x. cond (may_be_shortened x.0 x.1) (Some (chain_of x.0 (without_repeats (x.0 ∷ []) x.1))) None)
repeated_of (ChainTree first links) = shortened-may_be first links
repeated_of t = refl

-- ---- the links that are kept
-- what is kept so far, with what is kept of those that are left
abbrev pub KeptSoFar : Tree → List Link → List Link → List Link → Type 0
KeptSoFar first all kept left = without_repeats (first ∷ []) (links_of all)
    ≡ links_ahead kept (without_repeats (operands_behind (first ∷ []) kept) (links_of left))

kept_skip : (first : Tree) (all kept left : List Link) (x : Link) (more : List Link) → left ≡ x ∷ more
    → is_among first kept (tree_of x.right) ≡ true → KeptSoFar first all kept left → KeptSoFar first all kept more
kept_skip first all kept left x more e a h =
    let B = operands_behind (first ∷ []) kept in
    let rest = links_of more in
    h ∙ ap (λ z. links_ahead kept (without_repeats B (links_of z))) e
    ∙ ap (λ b. links_ahead kept (cond b (without_repeats B rest) (MoreBranches x.at x.op (tree_of x.right) (without_repeats (tree_of x.right ∷ B) rest))))
    (sym (among_behind first (tree_of x.right) kept) ∙ a)

kept_more : (first : Tree) (all kept left : List Link) (x : Link) (more : List Link) → left ≡ x ∷ more
    → is_among first kept (tree_of x.right) ≡ false → KeptSoFar first all kept left → KeptSoFar first all (kept ++ x ∷ []) more
kept_more first all kept left x more e a h =
    let B = operands_behind (first ∷ []) kept in
    let rest = links_of more in
    h ∙ ap (λ z. links_ahead kept (without_repeats B (links_of z))) e
    ∙ ap (λ b. links_ahead kept (cond b (without_repeats B rest) (MoreBranches x.at x.op (tree_of x.right) (without_repeats (tree_of x.right ∷ B) rest))))
    (sym (among_behind first (tree_of x.right) kept) ∙ a)
    ∙ sym (links_ahead-more kept x (without_repeats (tree_of x.right ∷ B) rest))
    ∙ ap (λ z. links_ahead (kept ++ x ∷ []) (without_repeats z rest)) (sym (behind_one (first ∷ []) kept x))

pub kept_one : (first : Tree) (all kept left : List Link) (x : Link) (more : List Link) → left ≡ x ∷ more
    → KeptSoFar first all kept left → KeptSoFar first all (kept_with first kept x) more
kept_one first all kept left x more e h = either (is_among first kept (tree_of x.right)) refl
  where
    either : (b : Bool) → is_among first kept (tree_of x.right) ≡ b → KeptSoFar first all (cond b kept (kept ++ x ∷ [])) more
    either true a = kept_skip first all kept left x more e a h
    either false a = kept_more first all kept left x more e a h

-- the same with a copy of the link
kept_alike : (first : Tree) (all kept new : List Link) (x : Link) (more : List Link) → KeepsAlike first kept x new
    → KeptSoFar first all kept (x ∷ more) → KeptSoFar first all new more
kept_alike first all kept new x more k h =
    let y = k.0 in
    let a = k.1 in
    let same : links_of (x ∷ more) ≡ links_of (y ∷ more) = λ i. MoreBranches (sym a.at i) (sym a.op i) (sym a.right i) (links_of more) in
    subst (λ z. KeptSoFar first all z more) (sym k.2)
    (kept_one first all kept (y ∷ more) y more refl (h ∙ ap (λ z. links_ahead kept (without_repeats (operands_behind (first ∷ []) kept) z)) same))

pub kept_copied : (first : Tree) (all kept new : List Link) (i : ℕ) (x : Link) → drop i all ≡ x ∷ drop (i + 1) all → KeepsAlike first kept x new
    → KeptSoFar first all kept (drop i all) → KeptSoFar first all new (drop (i + 1) all)
kept_copied first all kept new i x d k h = kept_alike first all kept new x (drop (i + 1) all) k (subst (KeptSoFar first all kept) d h)

pub keeps_none : (first : Tree) (kept : List Link) (x : Link) → is_among first kept (tree_of x.right) ≡ true → KeepsAlike first kept x kept
keeps_none first kept x a = (x, record { at = refl; op = refl; right = refl }, sym (ap (λ b. cond b kept (kept ++ x ∷ [])) a))

pub keeps_copy : (first : Tree) (kept : List Link) (x y : Link) (new : List Link) → is_among first kept (tree_of x.right) ≡ false
    → y.at ≡ x.at → y.op ≡ x.op → tree_of y.right ≡ tree_of x.right → new ≡ kept ++ y ∷ [] → KeepsAlike first kept x new
keeps_copy first kept x y new a p o r n =
    (y, record { at = p; op = o; right = r }, n ∙ sym (ap (λ b. cond b kept (kept ++ y ∷ [])) (ap (is_among first kept) r ∙ a)))

pub kept_all : (first : Tree) (all kept left : List Link) → left ≡ [] → KeptSoFar first all kept left
    → links_of kept ≡ without_repeats (first ∷ []) (links_of all)
kept_all first all kept left e h =
    sym (h ∙ ap (λ z. links_ahead kept (without_repeats (operands_behind (first ∷ []) kept) (links_of z))) e ∙ links_ahead-all kept)

pub chain_some : (f : Tree) (xs : List Link) → 0 < length xs → ChainTree f (links_of xs) ≡ chain_of f (links_of xs)
chain_some f [] l = absurd (omega arith)
chain_some f (x ∷ xs) l = refl

pub not_none : (n : ℕ) → (n == 0) ≡ false → 0 < n
not_none n h = grind (arith, nat_tests, h)
