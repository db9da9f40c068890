use Rattle.std.proofs.Common.{◌≡◌, eqb, ℕ, true, false, take, get_or}
use Rattle.std.specs.List.{list_any}
use Rattle.rel_joins.proofs.postorder.are_marked.Given as goal

-- the ends so far are marked
abbrev pub invariant-pairs : goal.invariant-pairs
invariant-pairs l = (y : ℕ) → list_any (λ q. eqb q.1 y) (take l.y-index l.fn.row) ≡ true → get_or l.fn.marks y false ≡ true
