-- What the definitions say of a row of arguments or links, read off the vector that the code has. By induction on the row.
use Rattle.std.proofs.Common.{◌≡◌, ◌+◌, ◌++◌, ◌∙◌, ℕ, max, List, length, drop, get_or, [], ◌∷◌, ◌<◌, Option, refl, sym, ap, add-one, rules}
use Rattle.std.proofs.lemmas.List.{drop_more}
use Rattle.lang_model.specs.declared.syntax.Expr.{Row_of-Expr, end_of-Expr, more_of-Expr, items-the_row-Expr, Row_of-Link, end_of-Link, more_of-Link, items-the_row-Link, the_lemmas}
use Rattle.lang_model.specs.declared.syntax.Expr.TheVariants.{Call, Base, Chain}
use Rattle.lang_model.specs.Checking.{Names, Known, Scope, faults, faults_in, faults_along, call_faults, count_in, called, called_in, called_along, rank_named}
use Rattle.lang_model.specs.declared.syntax.Expr.{Expr}
use Rattle.lang_model.specs.declared.syntax.Link.{Link}
use Rattle.lang_model.specs.declared.faults.TypeFault.{TypeFault}
use Rattle.rv_types.specs.Found.{noting, noted}
use Rattle.rv_types.specs.Rows.{faults_of_args, faults_of_links, called_of_args, called_of_links}

faults_in-items : (S : Scope) (A : Names) (n : _) (k : Row_of-Expr n) → faults_in S A k ≡ faults_of_args S A (items-the_row-Expr n k)
faults_in-items S A _ end_of-Expr = refl
faults_in-items S A _ (more_of-Expr e rest) = ap (λ fs. faults S A e ++ fs) (faults_in-items S A _ rest)

faults_along-items : (S : Scope) (A : Names) (n : _) (k : Row_of-Link n) → faults_along S A k ≡ faults_of_links S A (items-the_row-Link n k)
faults_along-items S A _ end_of-Link = refl
faults_along-items S A _ (more_of-Link at op right rest) = ap (λ fs. faults S A right ++ fs) (faults_along-items S A _ rest)

called_in-items : (E : List Known) (n : _) (k : Row_of-Expr n) → called_in E k ≡ called_of_args E (items-the_row-Expr n k)
called_in-items E _ end_of-Expr = refl
called_in-items E _ (more_of-Expr e rest) = ap (max (called E e)) (called_in-items E _ rest)

called_along-items : (E : List Known) (n : _) (k : Row_of-Link n) → called_along E k ≡ called_of_links E (items-the_row-Link n k)
called_along-items E _ end_of-Link = refl
called_along-items E _ (more_of-Link at op right rest) = ap (max (called E right)) (called_along-items E _ rest)

count_in-items : (n : _) (k : Row_of-Expr n) → count_in k ≡ length (items-the_row-Expr n k)
count_in-items _ end_of-Expr = refl
count_in-items _ (more_of-Expr e rest) = ap (λ c. c + 1) (count_in-items _ rest) ∙ add-one _

pub faults-call : (S : Scope) (A : Names) (at : _) (name : _) (args : _) → faults S A (Call at name args) ≡ call_faults S at name (length args.items) ++ faults_of_args S A args.items
faults-call S A at name args = search (rules, the_lemmas, faults_in-items, count_in-items)

pub faults-base : (S : Scope) (A : Names) (at : _) (base : _) (args : _) → faults S A (Base at base args) ≡ faults_of_args S A args.items
faults-base S A at base args = search (rules, the_lemmas, faults_in-items)

pub faults-chain : (S : Scope) (A : Names) (first : _) (rest : _) → faults S A (Chain first rest) ≡ faults S A first.value ++ faults_of_links S A rest.items
faults-chain S A first rest = search (rules, the_lemmas, faults_along-items)

pub called-call : (E : List Known) (at : _) (name : _) (args : _) → called E (Call at name args) ≡ max (rank_named E name) (called_of_args E args.items)
called-call E at name args = search (rules, the_lemmas, called_in-items)

pub called-base : (E : List Known) (at : _) (base : _) (args : _) → called E (Base at base args) ≡ called_of_args E args.items
called-base E at base args = search (rules, the_lemmas, called_in-items)

pub called-chain : (E : List Known) (first : _) (rest : _) → called E (Chain first rest) ≡ max (called E first.value) (called_of_links E rest.items)
called-chain E first rest = search (rules, the_lemmas, called_along-items)

-- ---- the first fault of more faults
pub noted-append : (t : Option TypeFault) (xs ys : List TypeFault) → noted t (xs ++ ys) ≡ noted (noted t xs) ys
noted-append t [] ys = refl
noted-append t (x ∷ xs) ys = noted-append (noting t x) xs ys

-- one more argument
pub noted-arg : (S : Scope) (A : Names) (t : Option TypeFault) (es : List Expr) (k : ℕ) (e : Expr) → k < length es → e ≡ get_or es k e →
    noted t (faults_of_args S A (drop k es)) ≡ noted (noted t (faults S A e)) (faults_of_args S A (drop (k + 1) es))
noted-arg S A t es k e h is =
    ap (λ xs. noted t (faults_of_args S A xs)) (drop_more es k e h ∙ ap (λ x. x ∷ drop (k + 1) es) (sym is)) ∙ noted-append t (faults S A e) (faults_of_args S A (drop (k + 1) es))

-- one more link
pub noted-link : (S : Scope) (A : Names) (t : Option TypeFault) (ls : List Link) (k : ℕ) (l : Link) → k < length ls → l ≡ get_or ls k l →
    noted t (faults_of_links S A (drop k ls)) ≡ noted (noted t (faults S A l.right)) (faults_of_links S A (drop (k + 1) ls))
noted-link S A t ls k l h is =
    ap (λ xs. noted t (faults_of_links S A xs)) (drop_more ls k l h ∙ ap (λ x. x ∷ drop (k + 1) ls) (sym is)) ∙ noted-append t (faults S A l.right) (faults_of_links S A (drop (k + 1) ls))
