use Rattle.std.proofs.Common.{sym, inl, inr, ◌∙◌}
use Rattle.rel_model.proofs.TreeLaws.{stored_below}
use Rattle.rv_compact.proofs.Walking.{stored_at, walked_still, kids_block, kids_pair, walked_more}
use Rattle.rv_compact.proofs.walk.+walk.Goals as goal

pub walk-returns-then-name-eq0 : goal.walk-returns-then-name-eq0
walk-returns-then-name-eq0 t c = walked_still _ _ _ _ c.requires.closed (inl c.if-name-eq0.true)

pub walk-returns-then-contains : goal.walk-returns-then-contains
walk-returns-then-contains t c = walked_still _ _ _ _ c.requires.closed (inr (sym c.contains.ensures ∙ c.if-contains.true))

pub walk-returns : goal.walk-returns
walk-returns t c =
    walked_more _ _ _ _ _ _ c.if-name-eq0.false (stored_at _ _ _ c.if-name-eq0.false c.requires.standing) c.in_ok-walk_kids.ensures c.in_ok-insert.ensures.keys

pub walk_kids-bounds-words-name : goal.walk_kids-bounds-words-name
walk_kids-bounds-words-name t c = stored_below _ _ (stored_at _ _ _ c.requires.some c.requires.standing)

pub walk_kids-returns-then-depth-eq0 : goal.walk_kids-returns-then-depth-eq0
walk_kids-returns-then-depth-eq0 t c = kids_block _ _ _ _ c.if-depth-eq0.true c.requires.closed

pub walk_kids-returns : goal.walk_kids-returns
walk_kids-returns t c =
    kids_pair _ _ _ _ _ _ _ _ c.if-depth-eq0.false c.requires.some c.kids-first.ensures.first c.kids-first.ensures.second c.in_ok-walk.ensures c.in_ok-walk-2.ensures
