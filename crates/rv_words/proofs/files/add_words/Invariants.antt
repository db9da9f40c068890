use Rattle.std.proofs.Common.{◌≡◌, ◌++◌, length, map}
use Rattle.rv_words.specs.Shown.{texts, IsSorted}
use Rattle.rv_words.proofs.files.add_words.Given as goal

abbrev pub invariant-each : goal.invariant-each
invariant-each l = record {
  files : texts l.list.files.items ++ map (λ file. file.now) l.rest ≡ texts l.initial.list.files.items ++ map (λ file. file.now) l.fn.files;
  sorted : IsSorted l.initial.list → IsSorted l.list;
  ends : l.list.ends.items ≡ l.initial.list.ends.items;
}

abbrev pub decreases-each : goal.decreases-each
decreases-each l = length l.rest
