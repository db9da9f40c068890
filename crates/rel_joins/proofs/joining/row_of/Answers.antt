use Rattle.std.proofs.Common.{◌<◌, ◌+◌, ◌∙◌, eqb, ℕ, List, refl, sym, ap, subst}
use Rattle.std.specs.List.{list_any, AllByRecursion}
use Rattle.rel_joins.proofs.Starts.{all_take, all_drop, starts_rise, row_among}
use Rattle.rel_joins.proofs.joining.row_of.Goals as goal

pub part-requires-clause-order : goal.part-requires-clause-order
part-requires-clause-order c = starts_rise c.args.row c.requires.index c.requires.within

pub part-requires-clause-end : goal.part-requires-clause-end
part-requires-clause-end c = c.requires.index.short (c.args.row + 1) c.requires.within

pub returns-clause-ends : goal.returns-clause-ends
returns-clause-ends c n h =
    subst (AllByRecursion (λ (p : ℕ × ℕ). p.1 < n)) (sym c.part.ensures) (all_take (λ p. p.1 < n) _ _ (all_drop (λ p. p.1 < n) _ c.args.pairs.now h))

pub returns-clause-among : goal.returns-clause-among
returns-clause-among c k = ap (λ (xs : List (ℕ × ℕ)). list_any (λ q. eqb q.1 k) xs) c.part.ensures ∙ row_among c.args.row _ _ c.requires.index c.requires.within refl refl k
