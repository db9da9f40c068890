use Rattle.fork_quads.proofs.Parts.{place-first, place-next}
use Rattle.std.proofs.Common.{◌∙◌}
use Rattle.fork_quads.proofs.pieces.+place.Goals as goal

pub returns-then-cuts-eq0 : goal.returns-then-cuts-eq0
returns-then-cuts-eq0 t c = place-first c.args.cuts c.args.number c.if-cuts-eq0.true

pub returns : goal.returns
returns t c = c.place.ensures ∙ place-next c.args.cuts c.args.number c.if-cuts-eq0.false
