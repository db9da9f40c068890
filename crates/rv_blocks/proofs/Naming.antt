-- The names of calls and chains, read off the lists that the code walks.
use Rattle.std.proofs.Common.{◌≡◌, ◌<◌, ◌+◌, ◌∙◌, ℕ, List, ◌∷◌, ◌++◌, append_assoc, length, drop, get_or, refl, sym, ap, rules}
use Rattle.std.proofs.lemmas.List.{drop_more}
use Rattle.lang_model.specs.declared.syntax.Expr.{
  Expr,
  Row_of-Expr,
  end_of-Expr,
  more_of-Expr,
  items-the_row-Expr,
  Row_of-Link,
  end_of-Link,
  more_of-Link,
  items-the_row-Link,
  the_lemmas,
}
use Rattle.lang_model.specs.declared.syntax.Expr.TheVariants.{Call, Base, Chain}
use Rattle.lang_model.specs.declared.syntax.Link.{Link}
use Rattle.lang_model.specs.Eval.{names_in, names_in_all, names_along}
use Rattle.rv_blocks.specs.Naming.{names_of_args, names_of_links}

names_in_all-items : (n : _) (k : Row_of-Expr n) → names_in_all k ≡ names_of_args (items-the_row-Expr n k)
names_in_all-items _ end_of-Expr = refl
names_in_all-items _ (more_of-Expr e rest) = ap (λ z. names_in e ++ z) (names_in_all-items _ rest)

names_along-items : (n : _) (k : Row_of-Link n) → names_along k ≡ names_of_links (items-the_row-Link n k)
names_along-items _ end_of-Link = refl
names_along-items _ (more_of-Link at op right rest) = ap (λ z. names_in right ++ z) (names_along-items _ rest)

pub names-call : (at : _) (name : _) (args : _) → names_in (Call at name args) ≡ names_of_args args.items
names-call at name args = search (rules, the_lemmas, names_in_all-items)

pub names-base : (at : _) (base : _) (args : _) → names_in (Base at base args) ≡ names_of_args args.items
names-base at base args = search (rules, the_lemmas, names_in_all-items)

pub names-chain : (first : _) (rest : _) → names_in (Chain first rest) ≡ names_in first.value ++ names_of_links rest.items
names-chain first rest = search (rules, the_lemmas, names_along-items)

-- one argument more
pub args_step : (total now new : List (List ℕ)) (es : List Expr) (i : ℕ) (e : Expr) → i < length es → e ≡ get_or es i e →
    total ≡ now ++ names_of_args (drop i es) → new ≡ now ++ names_in e → total ≡ new ++ names_of_args (drop (i + 1) es)
args_step total now new es i e h is inv n =
    inv ∙ ap (λ z. now ++ names_of_args z) (drop_more es i e h ∙ ap (λ x. x ∷ drop (i + 1) es) (sym is))
    ∙ sym (append_assoc now (names_in e) (names_of_args (drop (i + 1) es)))
    ∙ ap (λ z. z ++ names_of_args (drop (i + 1) es)) (sym n)

-- one link more
pub links_step : (total now new : List (List ℕ)) (ls : List Link) (i : ℕ) (l : Link) → i < length ls → l ≡ get_or ls i l →
    total ≡ now ++ names_of_links (drop i ls) → new ≡ now ++ names_in l.right → total ≡ new ++ names_of_links (drop (i + 1) ls)
links_step total now new ls i l h is inv n =
    inv ∙ ap (λ z. now ++ names_of_links z) (drop_more ls i l h ∙ ap (λ x. x ∷ drop (i + 1) ls) (sym is))
    ∙ sym (append_assoc now (names_in l.right) (names_of_links (drop (i + 1) ls)))
    ∙ ap (λ z. z ++ names_of_links (drop (i + 1) ls)) (sym n)

-- behind the first operand of a chain
pub links_begin : (old now : List (List ℕ)) (e : Expr) (first : _) (rest : _) (ls : List Link) → e ≡ Chain first rest →
    now ≡ old ++ names_in first.value → ls ≡ rest.items → old ++ names_in e ≡ now ++ names_of_links ls
links_begin old now e first rest ls is n l =
    ap (λ z. old ++ names_in z) is ∙ ap (λ z. old ++ z) (names-chain first rest)
    ∙ sym (append_assoc old (names_in first.value) (names_of_links rest.items))
    ∙ ap (λ z. z ++ names_of_links rest.items) (sym n) ∙ ap (λ z. now ++ names_of_links z) (sym l)
