-- The tables of a report, one for each batch.
use Rattle.std.specs.Prelude.{zero, suc, ℕ, List, [], ◌∷◌}
use Rattle.rel_model.specs.Equations.{node_words}
use Rattle.run_model.specs.declared.batch.OldBatch.{OldBatch}
use Rattle.run_model.specs.Stored.{uses_of_live}
use Rattle.relview.specs.declared.report.Report.{Report}

-- the words of batch b, counted from 0: one of the finished ones, or the last one
abbrev pub words_of_batch : List OldBatch → List ℕ → ℕ → List ℕ
words_of_batch [] last b = last
words_of_batch (old ∷ olds) last zero = old.words.items
words_of_batch (old ∷ olds) last (suc b) = words_of_batch olds last b

-- how many uses of nodes batch b began with, if the first began with this many
abbrev pub uses_before : ℕ → ℕ → List OldBatch → ℕ → ℕ
uses_before bits uses olds zero = uses
uses_before bits uses [] (suc b) = uses
uses_before bits uses (old ∷ olds) (suc b) =
    uses_before bits (uses_of_live (node_words bits old.words.items) old.live.items) olds b

-- the node words of batch b of a report
abbrev pub nodes_of_batch : ℕ → Report → ℕ → List ℕ
nodes_of_batch bits report b = node_words bits (words_of_batch report.old.items report.words.items b)

-- how many uses of nodes lived on into batch b of a report; none into the first
abbrev pub uses_into : ℕ → Report → ℕ → ℕ
uses_into bits report b = uses_before bits 0 report.old.items b
