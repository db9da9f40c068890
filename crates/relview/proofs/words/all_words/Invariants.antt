use Rattle.std.proofs.Common.{◌≡◌, ◌++◌}
use Rattle.std.specs.Vec.Iter.{into_iter_items, into_iter_len}
use Rattle.relview.proofs.words.all_words.Given as goal

abbrev pub invariant-each : goal.invariant-each
invariant-each l = into_iter_items l.fn.args ≡ l.words.items ++ into_iter_items l.rest

abbrev pub decreases-each : goal.decreases-each
decreases-each l = into_iter_len l.rest
