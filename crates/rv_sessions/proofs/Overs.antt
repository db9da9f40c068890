-- The first number of a listed relation that passes its limit: read off the lists that the code walks, and a refusal.
use Rattle.std.proofs.lemmas.Bool.Decides.{nat_tests}
use Rattle.std.proofs.Common.{◌≡◌, ◌<◌, ◌≤◌, ◌+◌, ◌∙◌, arith, ℕ, Bool, true, false, cond, nat_lt, List, [], ◌∷◌, length, drop, get_or, Option, Some, None, refl, sym, ap, subst}
use Rattle.std.proofs.lemmas.List.{drop_more}
use Rattle.lang_model.specs.declared.syntax.Place.{Place}
use Rattle.lang_model.specs.declared.rows.Column.{Column}
use Rattle.lang_model.specs.declared.rows.Row.{Row}
use Rattle.lang_model.specs.Missing.{first_of_both}
use Rattle.rel_model.specs.Relation.{size_limit}
use Rattle.run_model.specs.declared.outcome.Outcome.{Outcome}
use Rattle.run_model.specs.Due.{over, columns_over, rows_over, listing_over}
use Rattle.rv_sessions.specs.Valuing.{IsRefusal}

-- what is not refused first is refused later
pub none_first : (a b : Option Outcome) → a ≡ None → first_of_both a b ≡ b
none_first a b e = ap (λ x. first_of_both x b) e

pub some_first : (a b : Option Outcome) (o : Outcome) → a ≡ Some o → first_of_both a b ≡ Some o
some_first a b o e = ap (λ x. first_of_both x b) e

-- one column more
pub column_step : (cols : ℕ) (cs : List Column) (i : ℕ) (c : Column) → i < length cs → c ≡ get_or cs i c →
    columns_over cols (drop i cs) ≡ first_of_both (over c.at c.col cols) (columns_over cols (drop (i + 1) cs))
column_step cols cs i c h is = ap (columns_over cols) (drop_more cs i c h ∙ ap (λ x. x ∷ drop (i + 1) cs) (sym is))

-- one row more
pub row_step : (rows cols : ℕ) (rs : List Row) (i : ℕ) (r : Row) → i < length rs → r ≡ get_or rs i r →
    rows_over rows cols (drop i rs)
    ≡ first_of_both (over r.at r.row rows) (first_of_both (columns_over cols r.cols.items) (rows_over rows cols (drop (i + 1) rs)))
row_step rows cols rs i r h is = ap (rows_over rows cols) (drop_more rs i r h ∙ ap (λ x. x ∷ drop (i + 1) rs) (sym is))

-- ---- refusals
abbrev Refuses : Option Outcome → Type 0
Refuses None = Unit {0}
Refuses (Some o) = IsRefusal o

either : (b : Bool) (o : Outcome) → IsRefusal o → Refuses (cond b (Some o) None)
either true o h = h
either false o h = tt

one_over : (at : Place) (wanted limit : ℕ) → Refuses (over at wanted limit)
one_over at wanted limit = either (nat_lt limit wanted) _ tt

both : (a b : Option Outcome) → Refuses a → Refuses b → Refuses (first_of_both a b)
both None b h k = k
both (Some o) b h k = h

columns_refuse : (cols : ℕ) (cs : List Column) → Refuses (columns_over cols cs)
columns_refuse cols [] = tt
columns_refuse cols (c ∷ cs) = both (over c.at c.col cols) (columns_over cols cs) (one_over c.at c.col cols) (columns_refuse cols cs)

rows_refuse : (rows cols : ℕ) (rs : List Row) → Refuses (rows_over rows cols rs)
rows_refuse rows cols [] = tt
rows_refuse rows cols (r ∷ rs) =
    both (over r.at r.row rows) (first_of_both (columns_over cols r.cols.items) (rows_over rows cols rs)) (one_over r.at r.row rows)
    (both (columns_over cols r.cols.items) (rows_over rows cols rs) (columns_refuse cols r.cols.items) (rows_refuse rows cols rs))

pub over_refuses : (rows : ℕ) (rows_at : Place) (cols : ℕ) (cols_at : Place) (list : List Row) (o : Outcome) →
    listing_over rows rows_at cols cols_at list ≡ Some o → IsRefusal o
unfolding listing_over
over_refuses rows rows_at cols cols_at list o e =
    subst Refuses e
    (both (over rows_at rows size_limit) (first_of_both (over cols_at cols size_limit) (rows_over rows cols list)) (one_over rows_at rows size_limit)
    (both (over cols_at cols size_limit) (rows_over rows cols list) (one_over cols_at cols size_limit) (rows_refuse rows cols list)))

-- what is within its limits
within_at : (b : Bool) (o : Outcome) → cond b (Some o) None ≡ None → b ≡ false
within_at true o e = absurd (no_none o e)
  where
    no_none : (x : Outcome) → Some x ≡ None → ⊥
    no_none x k = cc
within_at false o e = refl

none_of_both : (a b : Option Outcome) → first_of_both a b ≡ None → (a ≡ None) × (b ≡ None)
none_of_both None b e = (refl, e)
none_of_both (Some o) b e = absurd (no_none o e)
  where
    no_none : (x : Outcome) → Some x ≡ None → ⊥
    no_none x k = cc

pub sizes_within : (rows : ℕ) (rows_at : Place) (cols : ℕ) (cols_at : Place) (list : List Row) →
    listing_over rows rows_at cols cols_at list ≡ None → (nat_lt size_limit rows ≡ false) × (nat_lt size_limit cols ≡ false)
unfolding listing_over
sizes_within rows rows_at cols cols_at list e =
    let a = none_of_both (over rows_at rows size_limit) (first_of_both (over cols_at cols size_limit) (rows_over rows cols list)) e in
    let b = none_of_both (over cols_at cols size_limit) (rows_over rows cols list) a.1 in
    (within_at (nat_lt size_limit rows) _ a.0, within_at (nat_lt size_limit cols) _ b.0)

not_over : (limit n : ℕ) → nat_lt limit n ≡ false → n ≤ limit
not_over limit n e = grind (arith, nat_tests, e)

pub within_limits : (rows : ℕ) (rows_at : Place) (cols : ℕ) (cols_at : Place) (list : List Row) →
    listing_over rows rows_at cols cols_at list ≡ None → (rows ≤ size_limit) × (cols ≤ size_limit)
within_limits rows rows_at cols cols_at list e =
    let w = sizes_within rows rows_at cols cols_at list e in (not_over size_limit rows w.0, not_over size_limit cols w.1)
