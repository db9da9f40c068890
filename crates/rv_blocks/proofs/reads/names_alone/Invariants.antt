use Rattle.std.proofs.Common.{◌≡◌, ◌++◌}
use Rattle.std.specs.Vec.Iter.{into_iter_items}
use Rattle.run_model.specs.Names.{names_of}
use Rattle.rv_blocks.proofs.reads.names_alone.Given as goal

abbrev pub invariant-entries : goal.invariant-entries
invariant-entries l =
    (goal.iterator-entries).can_next l.entry-iterator × (goal.iterator-entries).is_finite l.entry-iterator
    × (l.fn.entries.items ≡ l.yielded ++ into_iter_items l.entry-iterator) × (l.names.items ≡ names_of l.yielded)
