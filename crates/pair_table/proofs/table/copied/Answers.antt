use Rattle.std.proofs.Common.{◌∙◌, sym, ap, ◌++◌, ◌∷◌, [], List, ℕ}
use Rattle.pair_table.proofs.Wrapping.{take_at}
use Rattle.pair_table.proofs.table.copied.Goals as goal

pub words-preserved : goal.words-preserved
words-preserved c = c.in_ok-push.ensures.items ∙ ap (λ (ws : List ℕ). ws ++ c.word.result ∷ []) c.words.invariant ∙ sym (take_at _ c.words.i c.word.result c.word.ensures)
