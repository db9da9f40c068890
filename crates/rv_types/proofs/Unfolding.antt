-- The types of calls, chains and statements, read off the lists that the code walks.
use Rattle.std.proofs.Common.{◌≡◌, ◌<◌, ◌+◌, ◌∙◌, ◌++◌, ℕ, List, [], ◌∷◌, length, drop, get_or, refl, sym, ap}
use Rattle.std.proofs.lemmas.List.{drop_more}
use Rattle.lang_model.specs.declared.syntax.Expr.{Expr, Call', Base', Chain', Row_of-Expr, end_of-Expr, more_of-Expr, items-the_row-Expr, Row_of-Link, end_of-Link, more_of-Link, items-the_row-Link, the_lemmas}
use Rattle.lang_model.specs.declared.syntax.Expr.TheVariants.{Call, Base, Chain}
use Rattle.lang_model.specs.declared.syntax.Link.{Link}
use Rattle.lang_model.specs.declared.syntax.Stmt.{Stmt, While', If', Row_of-Stmt, end_of-Stmt, more_of-Stmt, items-the_row-Stmt, the_lemmas as stmt_lemmas}
use Rattle.lang_model.specs.declared.syntax.Stmt.TheVariants.{While, If}
use Rattle.lang_model.specs.declared.faults.StaticShape.{StaticShape}
use Rattle.lang_model.specs.Types.{typed_link}
use Rattle.lang_model.specs.Shape.{passing, Types, AroundTypes, typed_based, shape, shapes, shape_along, shape_test, typed_behind, typed_within, typed_by}
use Rattle.rv_types.specs.Shaping.{shapes_by, shape_by}

shapes-items : (A : AroundTypes) (T : Types) (ss : List StaticShape) (n : _) (k : Row_of-Expr n) → shapes A T ss k ≡ shapes_by A T ss (items-the_row-Expr n k)
shapes-items A T ss _ end_of-Expr = refl
shapes-items A T ss _ (more_of-Expr e rest) = λ i. passing (shape A T e) (λ s. shapes-items A T (ss ++ s ∷ []) _ rest i)

shape_along-items : (A : AroundTypes) (T : Types) (s : StaticShape) (n : _) (k : Row_of-Link n) → shape_along A T s k ≡ shape_by A T s (items-the_row-Link n k)
shape_along-items A T s _ end_of-Link = refl
shape_along-items A T s _ (more_of-Link at op right rest) = λ i. passing (shape A T right) (λ t. passing (typed_link at op s t) (λ u. shape_along-items A T u _ rest i))

typed_within-items : (A : AroundTypes) (n : _) (k : Row_of-Stmt n) (T : Types) → typed_within A k T ≡ typed_by A (items-the_row-Stmt n k) T
typed_within-items A _ end_of-Stmt T = refl
typed_within-items A _ (more_of-Stmt s rest) T = λ i. passing (typed_behind A s T) (λ more. typed_within-items A _ rest more i)

-- the same with a row for a list
call_row : (A : AroundTypes) (T : Types) (at : _) (name : _) (sh : _) (k : _) (xs : List Expr) → items-the_row-Expr _ k ≡ xs →
    shape A T (Call' at name sh k) ≡ passing (shapes_by A T [] xs) (λ ts. A.calls at name ts)
call_row A T at name sh k xs e = ap (λ p. passing p (λ ts. A.calls at name ts)) (shapes-items A T [] _ k ∙ ap (shapes_by A T []) e)

base_row : (A : AroundTypes) (T : Types) (at : _) (base : _) (sh : _) (k : _) (xs : List Expr) → items-the_row-Expr _ k ≡ xs →
    shape A T (Base' at base sh k) ≡ passing (shapes_by A T [] xs) (λ ts. typed_based at base ts)
base_row A T at base sh k xs e = ap (λ p. passing p (λ ts. typed_based at base ts)) (shapes-items A T [] _ k ∙ ap (shapes_by A T []) e)

chain_row : (A : AroundTypes) (T : Types) (p : _) (first : Expr) (sh : _) (k : _) (xs : List Link) → items-the_row-Link _ k ≡ xs →
    shape A T (Chain' p first sh k) ≡ passing (shape A T first) (λ s. shape_by A T s xs)
chain_row A T p first sh k xs e = λ i. passing (shape A T first) (λ s. (shape_along-items A T s _ k ∙ ap (shape_by A T s) e) i)

while_row : (A : AroundTypes) (T : Types) (at : _) (test : Expr) (sh : _) (k : _) (xs : List Stmt) → items-the_row-Stmt _ k ≡ xs →
    typed_behind A (While' at test sh k) T ≡ passing (shape_test A at test T) (λ t. typed_by A xs T)
while_row A T at test sh k xs e = λ i. passing (shape_test A at test T) (λ t. (typed_within-items A _ k T ∙ ap (λ zs. typed_by A zs T) e) i)

if_row : (A : AroundTypes) (T : Types) (at : _) (test : Expr) (s : _) (k : _) (t : _) (j : _) (xs ys : List Stmt) → items-the_row-Stmt _ k ≡ xs → items-the_row-Stmt _ j ≡ ys →
    typed_behind A (If' at test s k t j) T ≡ passing (shape_test A at test T) (λ u. passing (typed_by A xs T) (λ more. typed_by A ys more))
if_row A T at test s k t j xs ys e d =
    λ i. passing (shape_test A at test T)
    (λ u. passing ((typed_within-items A _ k T ∙ ap (λ zs. typed_by A zs T) e) i) (λ more. (typed_within-items A _ j more ∙ ap (λ zs. typed_by A zs more) d) i))

pub shape-call : (A : AroundTypes) (T : Types) (at : _) (name : _) (args : _) → shape A T (Call at name args) ≡ passing (shapes_by A T [] args.items) (λ ts. A.calls at name ts)
shape-call A T at name args = search (the_lemmas, call_row)

pub shape-base : (A : AroundTypes) (T : Types) (at : _) (base : _) (args : _) → shape A T (Base at base args) ≡ passing (shapes_by A T [] args.items) (λ ts. typed_based at base ts)
shape-base A T at base args = search (the_lemmas, base_row)

pub shape-chain : (A : AroundTypes) (T : Types) (first : _) (rest : _) → shape A T (Chain first rest) ≡ passing (shape A T first.value) (λ s. shape_by A T s rest.items)
shape-chain A T first rest = search (the_lemmas, chain_row)

pub behind-while : (A : AroundTypes) (T : Types) (at : _) (test : _) (body : _) → typed_behind A (While at test body) T ≡ passing (shape_test A at test T) (λ t. typed_by A body.items T)
behind-while A T at test body = search (stmt_lemmas, while_row)

pub behind-if : (A : AroundTypes) (T : Types) (at : _) (test : _) (then : _) (other : _) →
    typed_behind A (If at test then other) T ≡ passing (shape_test A at test T) (λ u. passing (typed_by A then.items T) (λ more. typed_by A other.items more))
behind-if A T at test then other = search (stmt_lemmas, if_row)

-- ---- one element
pub arg_next : (A : AroundTypes) (T : Types) (ss : List StaticShape) (es : List Expr) (k : ℕ) (e : Expr) → k < length es → e ≡ get_or es k e →
    shapes_by A T ss (drop k es) ≡ passing (shape A T e) (λ s. shapes_by A T (ss ++ s ∷ []) (drop (k + 1) es))
arg_next A T ss es k e h is = ap (shapes_by A T ss) (drop_more es k e h ∙ ap (λ x. x ∷ drop (k + 1) es) (sym is))

pub link_next : (A : AroundTypes) (T : Types) (s : StaticShape) (ls : List Link) (k : ℕ) (l : Link) → k < length ls → l ≡ get_or ls k l →
    shape_by A T s (drop k ls) ≡ passing (shape A T l.right) (λ t. passing (typed_link l.at l.op s t) (λ u. shape_by A T u (drop (k + 1) ls)))
link_next A T s ls k l h is = ap (shape_by A T s) (drop_more ls k l h ∙ ap (λ x. x ∷ drop (k + 1) ls) (sym is))

pub stmt_next : (A : AroundTypes) (T : Types) (ss : List Stmt) (k : ℕ) (s : Stmt) → k < length ss → s ≡ get_or ss k s →
    typed_by A (drop k ss) T ≡ passing (typed_behind A s T) (λ more. typed_by A (drop (k + 1) ss) more)
stmt_next A T ss k s h is = ap (λ xs. typed_by A xs T) (drop_more ss k s h ∙ ap (λ x. x ∷ drop (k + 1) ss) (sym is))
