-- What clap's clauses say of its answer, in the words of the uses.
use Rattle.std.proofs.Common.{◌≡◌, ◌∙◌, ◌≢◌, true, List, [], ◌∷◌, refl, sym, ap, subst, Option, Some, None, inl, inr}
use Rattle.std.specs.Prelude.{String, unwrap_or, option_and_then}
use Rattle.std.specs.declared.alloc.Global.{Global}
use Rattle.clap.specs.Words.{App, HasKind, HasMatchesOf, Kinds, Row, fault_of, found_of, is_simple, is_simple_and_free, kind_of, matches_of, rows_of}
use Rattle.clap.specs.declared.error.Error.{Error}
use Rattle.clap.specs.declared.error.kind.ErrorKind.TheVariants as kind
use Rattle.clap.specs.declared.parser.matches.ArgMatches.{ArgMatches}
use Rattle.clap.proofs.WalkLemmas.{raw_values-rows}
use Rattle.rv_words.specs.Uses.{Use, Word, uses_in, values_of}
use Rattle.rv_words.specs.Said.{said_from}
use Rattle.rv_words.specs.Shown.{Finds, found_values, texts}
use Rattle.rv_words.specs.Simple.{app}
use Rattle.rv_words.proofs.Splitting.{Ends, are_texts, splits}
use Rattle.rv_words.proofs.Walking.{not_empty, row_values}

-- the command is one of which clap's clauses are exact
app_simple : is_simple app ≡ true
app_simple = refl

app_free : is_simple_and_free app ≡ true
app_free = refl

-- the rows of a parse are the values that are found
rows_found : (m : ArgMatches) (rows : List Row) (name : Word) → rows_of (found_of m) ≡ rows → found_values m name ≡ row_values rows name
rows_found m rows name is = ap (λ o. unwrap_or o []) (raw_values-rows (found_of m) name) ∙ ap (λ r. row_values r name) is

finds_all : (m : ArgMatches) (kinds : Kinds) (rows : List Row) (uses : Option (List Use)) → Ends [] uses kinds rows → kinds ≡ [] → rows_of (found_of m) ≡ rows → Finds uses m
finds_all m kinds rows None ends none is = ends none
finds_all m kinds rows (Some uses) ends none is = λ name. rows_found m rows name is ∙ ends.1 name

-- a parse that succeeds found the uses
pub finds : (a : App) (words : List (String Global)) (m : ArgMatches) → a ≡ app → HasMatchesOf a (texts words) m
    → (is_simple_and_free a ≡ true → fault_of a (texts words) ≡ []) → Finds (uses_in (texts words)) m
finds a words m is has none =
    let simple_a : is_simple a ≡ true = ap is_simple is ∙ app_simple in
    let free_a : is_simple_and_free a ≡ true = ap is_simple_and_free is ∙ app_free in
    let passes : fault_of app (texts words) ≡ [] = ap (λ b. fault_of b (texts words)) (sym is) ∙ none free_a in
    let rows : rows_of (found_of m) ≡ matches_of app (texts words) = (has simple_a).0 ∙ ap (λ b. matches_of b (texts words)) is in
    finds_all m (fault_of app (texts words)) (matches_of app (texts words)) (uses_in (texts words)) (splits (texts words) (are_texts words)) passes rows

no_kind : (kinds : Kinds) (e : Error) → HasKind kinds e → kind_of e ≢ kind.OutOfMemory → kinds ≡ [] → ⊥
no_kind [] e (inl memory) fails none = fails memory
no_kind [] e (inr among) fails none = among
no_kind (k ∷ ks) e has fails none = not_empty none

no_uses : (kinds : Kinds) (rows : List Row) (uses : Option (List Use)) → Ends [] uses kinds rows → (kinds ≡ [] → ⊥) → uses ≡ None
no_uses kinds rows None ends fails = refl
no_uses kinds rows (Some uses) ends fails = absurd (fails ends.0)

-- a parse that fails with memory left found none
pub refuses : (a : App) (words : List (String Global)) (e : Error) → a ≡ app → (is_simple_and_free a ≡ true → HasKind (fault_of a (texts words)) e)
    → kind_of e ≢ kind.OutOfMemory → uses_in (texts words) ≡ None
refuses a words e is has fails =
    let free_a : is_simple_and_free a ≡ true = ap is_simple_and_free is ∙ app_free in
    let kinds : HasKind (fault_of app (texts words)) e = subst (λ b. HasKind (fault_of b (texts words)) e) is (has free_a) in
    no_uses (fault_of app (texts words)) (matches_of app (texts words)) (uses_in (texts words)) (splits (texts words) (are_texts words))
    (no_kind (fault_of app (texts words)) e kinds fails)

-- ---- what is said
-- the values that are found say what the uses say
pub said_found : (uses : Option (List Use)) (m : ArgMatches) (later : List (List Word)) → Finds uses m
    → option_and_then (λ us. said_from (values_of us) later) uses ≡ said_from (found_values m) later
said_found None m later finds = absurd finds
said_found (Some us) m later finds = sym (λ i. said_from (λ name. finds name i) later)
