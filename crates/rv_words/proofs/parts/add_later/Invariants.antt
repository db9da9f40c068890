use Rattle.std.proofs.Common.{◌≡◌, length}
use Rattle.std.specs.Prelude.{option_map}
use Rattle.rv_words.specs.Parts.{parts_behind}
use Rattle.rv_words.specs.Said.{with_later}
use Rattle.rv_words.specs.Shown.{texts, listed_by, IsSorted}
use Rattle.rv_words.proofs.parts.add_later.Given as goal

abbrev pub invariant-parts : goal.invariant-parts
invariant-parts l = record {
  same : with_later (parts_behind (option_map (λ words. texts words.now) l.initial.rest)) (listed_by l.initial.list)
      ≡ with_later (parts_behind (option_map (λ words. texts words.now) l.rest)) (listed_by l.list);
  sorted : IsSorted l.list;
}

abbrev pub decreases-parts : goal.decreases-parts
decreases-parts l = length (parts_behind (option_map (λ words. texts words.now) l.rest))
