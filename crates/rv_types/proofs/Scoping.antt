-- The scopes that the walk keeps, and those that the definitions speak of: they take the same names.
use Rattle.std.proofs.Common.{◌≡◌, ◌∙◌, ℕ, true, false, List, [], Option, Some, None, refl, ap}
use Rattle.std.specs.Option.{option_map_or}
use Rattle.lang_model.specs.declared.syntax.Command.{Command}
use Rattle.lang_model.specs.declared.syntax.Command.TheVariants.{Relation, Let, Print, List as LIST, Count, Typed, Remove, Snap, At, Load, Save, LoadAll, SaveAll, Atomic, Explain}
use Rattle.rv_types.specs.Items.{value_of_command, lets_of_command}
use Rattle.lang_model.specs.declared.syntax.Expr.{Expr}
use Rattle.lang_model.specs.declared.syntax.Let.{Let as LetOf}
use Rattle.lang_model.specs.declared.faults.TypeFault.{TypeFault}
use Rattle.lang_model.specs.declared.syntax.Stmt.{Stmt}
use Rattle.lang_model.specs.declared.syntax.Decl.{Decl}
use Rattle.lang_model.specs.Checking.{Names, among, no_name, Known, definition_of, Scope, faults, faults_by, function_scope, program_scope, command_scope, let_faults, command_faults}
use Rattle.rv_types.specs.Scopes.{OfProgram}
use Rattle.rv_types.proofs.Agreeing.{SameNames, Agrees, same-faults, same-faults_by}

empty : (xs : List (List ℕ)) → xs ≡ [] → SameNames xs []
empty xs h n = ap (λ v. among v n) h

pub faults-function : (K : Scope) (params assigned : List (List ℕ)) (e : Expr) → K.is_command ≡ false → SameNames K.parameters params → K.variables ≡ [] → K.products ≡ [] → K.sums ≡ [] → assigned ≡ [] →
    faults K (among assigned) e ≡ faults (function_scope K.earlier params) no_name e
faults-function K params assigned e kind ps vs us ss none =
    let agree : Agrees K (function_scope K.earlier params) =
    record { same_kind = kind; same_parameters = ps; same_variables = empty K.variables vs; same_products = empty K.products us; same_sums = empty K.sums ss; same_earlier = λ n. refl } in
    same-faults K (function_scope K.earlier params) agree (among assigned) e ∙ ap (λ a. faults (function_scope K.earlier params) (among a) e) none

pub faults-command : (K : Scope) (assigned : List (List ℕ)) (e : Expr) → K.is_command ≡ true → K.parameters ≡ [] → K.variables ≡ [] → K.products ≡ [] → K.sums ≡ [] → assigned ≡ [] →
    faults K (among assigned) e ≡ faults (command_scope K.earlier) no_name e
faults-command K assigned e kind ps vs us ss none =
    let agree : Agrees K (command_scope K.earlier) =
    record { same_kind = kind; same_parameters = empty K.parameters ps; same_variables = empty K.variables vs; same_products = empty K.products us; same_sums = empty K.sums ss; same_earlier = λ n. refl } in
    same-faults K (command_scope K.earlier) agree (among assigned) e ∙ ap (λ a. faults (command_scope K.earlier) (among a) e) none

module _ (E : List Known) (ps params : List (List ℕ)) (decls : List Decl) (K : Scope) (h : OfProgram E ps decls K) (same_params : SameNames ps params) where
  agrees : Agrees K (program_scope E params decls)
  agrees =
      record {
        same_kind = h.kind;
        same_parameters = λ n. ap (λ v. among v n) h.parameters_kept ∙ same_params n;
        same_variables = h.variables_declared;
        same_products = h.products_declared;
        same_sums = h.sums_declared;
        same_earlier = λ n. ap (λ ds. definition_of ds n) h.earlier_kept;
      }

  pub faults-program : (A B : Names) (e : Expr) → ((n : List ℕ) → A n ≡ B n) → faults K A e ≡ faults (program_scope E params decls) B e
  faults-program A B e same = same-faults K (program_scope E params decls) agrees A e ∙ (λ i. faults (program_scope E params decls) (λ n. same n i) e)

  pub faults_by-program : (A B : Names) (ss : List Stmt) → ((n : List ℕ) → A n ≡ B n) → faults_by K A ss ≡ faults_by (program_scope E params decls) B ss
  faults_by-program A B ss same = same-faults_by K (program_scope E params decls) agrees A ss ∙ (λ i. faults_by (program_scope E params decls) (λ n. same n i) ss)

-- the faults of a command are those of its expression, or of its block
abbrev pub faults_of_parts : Scope → Option (List LetOf) → Option Expr → List TypeFault
faults_of_parts S (Some lets) value = let_faults S lets
faults_of_parts S None value = option_map_or (faults S no_name) value []

-- by kind of command: they are those of its block, those of its expression, or none
pub command_faults-parts : (E : List Known) (c : Command) → command_faults E c ≡ faults_of_parts (command_scope E) (lets_of_command c) (value_of_command c)
unfolding command_faults
command_faults-parts E (Relation name rows rows_at cols cols_at list) = refl
command_faults-parts E (Let name value) = refl
command_faults-parts E (Print value) = refl
command_faults-parts E (LIST value) = refl
command_faults-parts E (Count value) = refl
command_faults-parts E (Typed value) = refl
command_faults-parts E (Remove at name) = refl
command_faults-parts E (Snap name) = refl
command_faults-parts E (At at name value) = refl
command_faults-parts E (Load name file) = refl
command_faults-parts E (Save value file) = refl
command_faults-parts E (LoadAll file) = refl
command_faults-parts E (SaveAll file) = refl
command_faults-parts E (Atomic lets) = refl
command_faults-parts E (Explain value) = refl

-- those of a command with one expression
pub command_faults-value : (E : List Known) (c : Command) (e : Expr) → value_of_command c ≡ Some e → command_faults E c ≡ faults (command_scope E) no_name e
command_faults-value E c e v = command_faults-parts E c ∙ ap (λ o. faults_of_parts (command_scope E) o (value_of_command c)) (no_lets c e v) ∙ ap (λ o. option_map_or (faults (command_scope E) no_name) o []) v
  where
    no_lets : (c : Command) (e : Expr) → value_of_command c ≡ Some e → lets_of_command c ≡ None
    no_lets (Atomic lets) e v = absurd (let z : None ≡ Some e = v in cc)
    no_lets (Relation name rows rows_at cols cols_at list) e v = refl
    no_lets (Let name value) e v = refl
    no_lets (Print value) e v = refl
    no_lets (LIST value) e v = refl
    no_lets (Count value) e v = refl
    no_lets (Typed value) e v = refl
    no_lets (Remove at name) e v = refl
    no_lets (Snap name) e v = refl
    no_lets (At at name value) e v = refl
    no_lets (Load name file) e v = refl
    no_lets (Save value file) e v = refl
    no_lets (LoadAll file) e v = refl
    no_lets (SaveAll file) e v = refl
    no_lets (Explain value) e v = refl
