-- The parts of a chain, by the list of its links.
use Rattle.std.proofs.Common.{◌≡◌, ◌≢◌, ◌∙◌, ◌<◌, ◌≤◌, List, [], ◌∷◌, Some, None, length, get_or, refl, sym, ap, arith}
use Rattle.lang_model.specs.declared.syntax.Expr.{Expr}
use Rattle.lang_model.specs.declared.syntax.Expr.TheVariants.{Chain}
use Rattle.lang_model.specs.declared.syntax.Link.{Link}
use Rattle.lang_model.specs.Trees.{Tree, ChainTree, nowhere, tree_of}
use Rattle.lang_model.specs.Rewriting.{two_operands, place_of_node}
use Rattle.rv_rewrite.specs.Items.{links_of}
use Rattle.rv_rewrite.proofs.Items.{tree_chain}

two_links : (first : Tree) (xs : List Link) (x : Link) → length xs ≡ 1 → x ≡ get_or xs 0 x
    → two_operands (ChainTree first (links_of xs)) ≡ Some (record { op = x.op; left = first; right = tree_of x.right })
two_links first [] x l e = absurd (omega arith)
two_links first (y ∷ []) x l e = ap (λ (z : Link). Some (record { op = z.op; left = first; right = tree_of z.right })) (sym e)
two_links first (y ∷ (z ∷ zs)) x l e = absurd (omega arith)

not_two_links : (first : Tree) (xs : List Link) → length xs ≢ 1 → two_operands (ChainTree first (links_of xs)) ≡ None
not_two_links first [] l = refl
not_two_links first (y ∷ []) l = absurd (l refl)
not_two_links first (y ∷ (z ∷ zs)) l = refl

place_links : (first : Tree) (xs : List Link) (x : Link) → 1 ≤ length xs → x ≡ get_or xs 0 x
    → x.at ≡ place_of_node (ChainTree first (links_of xs))
place_links first [] x l e = absurd (omega arith)
place_links first (y ∷ ys) x l e = ap (λ (z : Link). z.at) e

no_place_links : (first : Tree) (xs : List Link) → length xs < 1 → nowhere ≡ place_of_node (ChainTree first (links_of xs))
no_place_links first [] l = refl
no_place_links first (y ∷ ys) l = absurd (omega arith)

module _ (e : Expr) (first : _) (rest : _) (is : e ≡ Chain first rest) (xs : List Link) (same : xs ≡ rest.items) where
  shape : ChainTree (tree_of first.value) (links_of xs) ≡ tree_of e
  shape = ap (λ z. ChainTree (tree_of first.value) (links_of z)) same ∙ sym (ap tree_of is ∙ tree_chain first rest)

  pub two_at : (x : Link) → length xs ≡ 1 → x ≡ get_or xs 0 x
      → two_operands (tree_of e) ≡ Some (record { op = x.op; left = tree_of first.value; right = tree_of x.right })
  two_at x l g = ap two_operands (sym shape) ∙ two_links (tree_of first.value) xs x l g

  pub not_two_at : length xs ≢ 1 → two_operands (tree_of e) ≡ None
  not_two_at l = ap two_operands (sym shape) ∙ not_two_links (tree_of first.value) xs l

  pub place_at : (x : Link) → 1 ≤ length xs → x ≡ get_or xs 0 x → x.at ≡ place_of_node (tree_of e)
  place_at x l g = place_links (tree_of first.value) xs x l g ∙ ap place_of_node shape

  pub no_place_at : length xs < 1 → nowhere ≡ place_of_node (tree_of e)
  no_place_at l = no_place_links (tree_of first.value) xs l ∙ ap place_of_node shape
