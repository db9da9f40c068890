-- What the definitions say of a row of statements, read off the vector that the code has, and what one more statement changes. By induction on the row.
use Rattle.std.proofs.Common.{◌≡◌, ◌<◌, ◌+◌, ◌++◌, ◌∙◌, ◌||◌, ◌&&◌, ℕ, max, List, ◌∷◌, length, drop, get_or, Option, refl, sym, ap, rules}
use Rattle.std.proofs.lemmas.List.{drop_more}
use Rattle.lang_model.specs.declared.syntax.Stmt.{Stmt, Row_of-Stmt, end_of-Stmt, more_of-Stmt, items-the_row-Stmt, the_lemmas}
use Rattle.lang_model.specs.declared.syntax.Stmt.TheVariants.{While, If}
use Rattle.lang_model.specs.declared.faults.TypeFault.{TypeFault}
use Rattle.lang_model.specs.Checking.{Names, Known, Scope, faults, faults_of, faults_within, faults_by, assigned_after, assigned_behind, assigned_by, called, called_by, called_within, called_by_all}
use Rattle.rv_types.specs.Found.{noted}
use Rattle.rv_types.proofs.Walks.{noted-append}

faults_within-items : (S : Scope) (A : Names) (n : _) (k : Row_of-Stmt n) → faults_within S A k ≡ faults_by S A (items-the_row-Stmt n k)
faults_within-items S A _ end_of-Stmt = refl
faults_within-items S A _ (more_of-Stmt s rest) = ap (λ fs. faults_of S A s ++ fs) (faults_within-items S (assigned_after A s) _ rest)

assigned_behind-items : (A : Names) (n : _) (k : Row_of-Stmt n) → assigned_behind A k ≡ assigned_by A (items-the_row-Stmt n k)
assigned_behind-items A _ end_of-Stmt = refl
assigned_behind-items A _ (more_of-Stmt s rest) = assigned_behind-items (assigned_after A s) _ rest

called_within-items : (E : List Known) (n : _) (k : Row_of-Stmt n) → called_within E k ≡ called_by_all E (items-the_row-Stmt n k)
called_within-items E _ end_of-Stmt = refl
called_within-items E _ (more_of-Stmt s rest) = ap (max (called_by E s)) (called_within-items E _ rest)

pub faults-while : (S : Scope) (A : Names) (at : _) (test : _) (body : _) → faults_of S A (While at test body) ≡ faults S A test ++ faults_by S A body.items
faults-while S A at test body = search (rules, the_lemmas, faults_within-items)

pub faults-if : (S : Scope) (A : Names) (at : _) (test : _) (then : _) (other : _) → faults_of S A (If at test then other) ≡ faults S A test ++ (faults_by S A then.items ++ faults_by S A other.items)
faults-if S A at test then other = search (rules, the_lemmas, faults_within-items)

pub assigned-if : (A : Names) (at : _) (test : _) (then : _) (other : _) → assigned_after A (If at test then other) ≡ (λ n. A n || (assigned_by A then.items n && assigned_by A other.items n))
assigned-if A at test then other = search (rules, the_lemmas, assigned_behind-items)

pub called-while : (E : List Known) (at : _) (test : _) (body : _) → called_by E (While at test body) ≡ max (called E test) (called_by_all E body.items)
called-while E at test body = search (rules, the_lemmas, called_within-items)

pub called-if : (E : List Known) (at : _) (test : _) (then : _) (other : _) → called_by E (If at test then other) ≡ max (called E test) (max (called_by_all E then.items) (called_by_all E other.items))
called-if E at test then other = search (rules, the_lemmas, called_within-items)

-- one more statement
pub noted-stmt : (S : Scope) (A B : Names) (t : Option TypeFault) (ss : List Stmt) (k : ℕ) (s : Stmt) → k < length ss → s ≡ get_or ss k s → ((n : List ℕ) → B n ≡ assigned_after A s n) →
    noted t (faults_by S A (drop k ss)) ≡ noted (noted t (faults_of S A s)) (faults_by S B (drop (k + 1) ss))
noted-stmt S A B t ss k s h is e =
    ap (λ xs. noted t (faults_by S A xs)) (drop_more ss k s h ∙ ap (λ x. x ∷ drop (k + 1) ss) (sym is)) ∙ noted-append t (faults_of S A s) (faults_by S (assigned_after A s) (drop (k + 1) ss))
    ∙ (λ i. noted (noted t (faults_of S A s)) (faults_by S (λ n. sym (e n) i) (drop (k + 1) ss)))

pub assigned-stmt : (A B : Names) (ss : List Stmt) (k : ℕ) (s : Stmt) → k < length ss → s ≡ get_or ss k s → ((n : List ℕ) → B n ≡ assigned_after A s n) → assigned_by A (drop k ss) ≡ assigned_by B (drop (k + 1) ss)
assigned-stmt A B ss k s h is e =
    ap (assigned_by A) (drop_more ss k s h ∙ ap (λ x. x ∷ drop (k + 1) ss) (sym is)) ∙ (λ i. assigned_by (λ n. sym (e n) i) (drop (k + 1) ss))
