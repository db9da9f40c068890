-- Sets of cells with at most one cell in each row, and sets that share no row.
use Rattle.std.specs.Prelude.{◌&&◌, ◌^◌, not, ℕ, Bool}
use Rattle.rel_model.specs.declared.Quad.{Quad}
use Rattle.rel_model.specs.Cells.{Cells, some_below}
use Rattle.rel_model.specs.Worker.{Worker, quad_set}

-- whether a test passes at two different numbers below n
abbrev pub passes_twice : ℕ → (ℕ → Bool) → Bool
passes_twice n t = some_below n (λ j. t j && some_below j t)

-- whether no row has two cells
abbrev pub single_rows : ℕ → ℕ → Cells → Bool
single_rows rows cols f = not (some_below rows (λ i. passes_twice cols (f i)))

-- whether no row has a cell in both sets
abbrev pub rows_apart : ℕ → ℕ → Cells → Cells → Bool
rows_apart rows cols f g = not (some_below rows (λ i. some_below cols (f i) && some_below cols (g i)))

-- whether no row of a quad has two cells
abbrev pub quad_single : Worker → Quad → Bool
quad_single w q = single_rows (2 ^ q.height) (2 ^ q.height) (quad_set w q)

-- whether no row has a cell in both quads
abbrev pub quads_apart : Worker → Quad → Quad → Bool
quads_apart w a b = rows_apart (2 ^ a.height) (2 ^ a.height) (quad_set w a) (quad_set w b)

-- whether no row has a cell in both of two halves, each of two quads side by side
abbrev pub halves_apart : Worker → Quad × Quad → Quad × Quad → Bool
halves_apart w a b = (quads_apart w a.0 b.0 && quads_apart w a.0 b.1)
    && (quads_apart w a.1 b.0 && quads_apart w a.1 b.1)
