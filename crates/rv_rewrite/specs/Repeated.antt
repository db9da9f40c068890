-- Repeated operands in a chain.
use Rattle.std.specs.Prelude.{◌≡◌, ◌||◌, ◌&&◌, ◌++◌, Bool, true, false, cond, nat_lt, List, [], ◌∷◌, Option, Some, None}
use Rattle.std.specs.List.{list_any}
use Rattle.lang_model.specs.declared.syntax.Link.{Link}
use Rattle.lang_model.specs.Limits.{compared_limit}
use Rattle.lang_model.specs.Trees.{Tree, ChainTree, Branches, NoBranch, MoreBranches, tree_of}
use Rattle.lang_model.specs.Rewriting.{same_tree, is_of_one_sign, link_count}

-- whether an operand equals the first one, or the operand of one of these links
abbrev pub is_among : Tree → List Link → Tree → Bool
is_among first [] right = same_tree first right
is_among first (x ∷ links) right = same_tree (tree_of x.right) right || is_among first links right

-- the kept links, and one more if its operand equals none before it
abbrev pub kept_with : Tree → List Link → Link → List Link
kept_with first kept x = cond (is_among first kept (tree_of x.right)) kept (kept ++ x ∷ [])

-- a link like another one, with the same place, operator and operand
pub record IsAlike (x y : Link) : Type 0 where
  pub at : y.at ≡ x.at
  pub op : y.op ≡ x.op
  pub right : tree_of y.right ≡ tree_of x.right

-- the same, for a link like this one
abbrev pub KeepsAlike : Tree → List Link → Link → List Link → Type 0
KeepsAlike first kept x new = (y : Link) × IsAlike x y × (new ≡ kept_with first kept y)

-- whether the operand of some link equals one of these, or one before it
abbrev pub repeats : List Tree → Branches → Bool
repeats before NoBranch = false
repeats before (MoreBranches at op right links) =
    list_any (λ t. same_tree t right) before || repeats (right ∷ before) links

-- whether a chain has the operators, the length and the repeated operand that rule 4 requires
abbrev pub may_be_shortened : Tree → Branches → Bool
may_be_shortened first links =
    is_of_one_sign links && (nat_lt (link_count links) compared_limit && repeats (first ∷ []) links)

-- the operands of links, put onto those before them, so that the last one comes first
abbrev pub operands_behind : List Tree → List Link → List Tree
operands_behind before [] = before
operands_behind before (x ∷ links) = operands_behind (tree_of x.right ∷ before) links

-- the links, without those whose operand equals one before it, whether or not that one was kept
abbrev pub without_earlier : List Tree → Branches → Branches
without_earlier before NoBranch = NoBranch
without_earlier before (MoreBranches at op right links) =
    cond (list_any (λ t. same_tree t right) before) (without_earlier (right ∷ before) links)
    (MoreBranches at op right (without_earlier (right ∷ before) links))

-- whether the operands of all links equal the first one
abbrev pub all_equal : Tree → Branches → Bool
all_equal first NoBranch = true
all_equal first (MoreBranches at op right links) = same_tree first right && all_equal first links

-- the first operand and the links of a chain
abbrev pub chain_parts : Tree → Option (Tree × Branches)
chain_parts (ChainTree first links) = Some (first, links)
chain_parts t = None
