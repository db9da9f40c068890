-- The scripts generated from a number: random graphs, with questions on their closures and quotients.
use Rattle.std.specs.Prelude.{ℕ, zero, suc, ◌+◌, ◌*◌, ◌/◌, ◌%◌, ◌^◌, List, [], ◌∷◌, ◌++◌, map, codes}
use Rattle.std.specs.List.{range_with_len}
use Rattle.std.specs.Fmt.{decimal}
use Rattle.std.specs.declared.vec.Vec.{Vec}
use Rattle.std.specs.declared.alloc.Global.{Global}

-- ---- numbers that are drawn
-- the state after this one, by the linear congruence
abbrev pub step : ℕ → ℕ
step x = (1664525 * x + 1013904223) % 2 ^ 32

-- the state after k draws from state x on
unfoldable pub after : ℕ → ℕ → ℕ
after x zero = x
after x (suc k) = step (after x k)

-- the number, from 1 to 64, that is drawn on reaching a state
abbrev pub value_of : ℕ → ℕ
value_of x = 1 + (x / 65536) % 64

-- draw k from state x on, counted from 0
abbrev pub draw : ℕ → ℕ → ℕ
draw x k = value_of (after x (k + 1))

-- ---- texts
-- `ROW:A,B`
unfoldable pub row_text : ℕ → ℕ → ℕ → List ℕ
row_text row a b = decimal row ++ codes ":" ++ decimal a ++ codes "," ++ decimal b

-- the row of vertex i, counted from 0: each row has two draws of its own
unfoldable pub row_of : ℕ → ℕ → List ℕ
row_of x i = row_text (i + 1) (draw x (2 * i)) (draw x (2 * i + 1))

-- the rows of the vertices 0 to n, joined by `; `
unfoldable pub rows_text : ℕ → ℕ → List ℕ
rows_text x zero = row_of x zero
rows_text x (suc n) = rows_text x n ++ codes "; " ++ row_of x (suc n)

-- ` LET Cs = trans(Gs). COUNT Cs.`: the closure of graph s, and the number of its pairs
unfoldable pub closure_text : ℕ → List ℕ
closure_text s = codes " LET C" ++ decimal s ++ codes " = trans(G" ++ decimal s ++ codes "). COUNT C" ++ decimal s
    ++ codes "."

-- ` COUNT Cs & Cs^. COUNT syq(Cs,Cs).`: the pairs that reach each other, and the pairs of equal columns of the closure
unfoldable pub counts_text : ℕ → List ℕ
counts_text s =
    codes " COUNT C" ++ decimal s ++ codes " & C" ++ decimal s
    ++ codes "^. COUNT syq(C" ++ decimal s ++ codes ",C" ++ decimal s ++ codes ")."

-- script s, drawn from state x on: a graph of 64 vertices by rows, and the questions on it, in one line
unfoldable pub script_text : ℕ → ℕ → List ℕ
script_text x s =
    codes "REL G" ++ decimal s ++ codes " 64 64 {" ++ rows_text x 63 ++ codes "}." ++ closure_text s ++ counts_text s
    ++ 10 ∷ []

-- the scripts 1 to n, drawn from state x on: each takes 128 draws, and the draws continue from script to script
abbrev pub scripts_from : ℕ → ℕ → List (List ℕ)
scripts_from x n = map (λ k. script_text (after x (128 * k)) (k + 1)) (range_with_len 0 n)

-- the eight scripts generated from a number
unfoldable pub generated : ℕ → List (List ℕ)
generated number = scripts_from (number % 2 ^ 32) 8

-- the texts in vectors of bytes
abbrev pub texts_of : List (Vec ℕ Global) → List (List ℕ)
texts_of vectors = map (λ v. v.items) vectors
