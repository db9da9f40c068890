use Rattle.std.proofs.Common.{◌≡◌, ◌<◌, ℕ, true, get_or}
use Rattle.rel_model.specs.declared.Rel.{Rel}
use Rattle.rel_model.specs.Roots.{stands_in}
use Rattle.test_compact.proofs.standing.all_stand.Given as goal

abbrev pub invariant-rels : goal.invariant-rels
invariant-rels l = (k : ℕ) (d : Rel) → k < l.rel-index → stands_in l.fn.words (get_or l.fn.rels k d) ≡ true
