-- The workspace: which names have relations.
use Rattle.std.specs.Prelude.{◌==◌, ◌&&◌, ◌+◌, ℕ, Bool, cond, List, Option, Some, None}
use Rattle.std.specs.List.{list_any}
use Rattle.lang_model.specs.declared.rows.Row.{Row}
use Rattle.rel_model.specs.Relation.{Relation}
use Rattle.lang_model.specs.Tokens.{same_text}

-- the relation of each name that has one
abbrev pub State : Type 0
State = List ℕ → Option Relation

-- the empty workspace
unfoldable pub nothing : State
nothing name = None

-- the state in which this name has this relation, and others are unchanged
unfoldable pub assigned : List ℕ → Relation → State → State
assigned name r state = λ n. cond (same_text name n) (Some r) (state n)

-- the state without this name
unfoldable pub removed : List ℕ → State → State
removed name state = λ n. cond (same_text name n) None (state n)

-- whether the rows list the pair (i, j); texts count rows and columns from 1, pairs from 0
unfoldable pub lists : List Row → ℕ → ℕ → Bool
lists rows i j = list_any (λ r. (r.row == i + 1) && list_any (λ c. c.col == j + 1) r.cols.items) rows
