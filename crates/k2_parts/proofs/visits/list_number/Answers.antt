use Rattle.std.proofs.Common.{◌+◌, true, false, refl}
use Rattle.k2_parts.proofs.Visiting.{listed-next, listed-other}
use Rattle.k2_parts.proofs.visits.list_number.Goals as goal

pub returns-then-number-noted-clause-lists : goal.returns-then-number-noted-clause-lists
returns-then-number-noted-clause-lists c =
    listed-next c.args.number c.args.noted.next c.args.noted (record { next = c.args.noted.next + 1; is_out = false }) c.if-noted.false refl c.requires.low
    c.if-number-noted.true refl refl

pub returns-else-number-noted-clause-lists : goal.returns-else-number-noted-clause-lists
returns-else-number-noted-clause-lists c =
    listed-other c.args.number c.args.noted (record { next = c.args.noted.next; is_out = true }) c.if-noted.false c.requires.low c.requires.high
    c.if-number-noted.false refl refl
