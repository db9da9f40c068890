use Rattle.rel_images.proofs.Words.{meets_none, meets_some, meeting_left, meeting_added, meeting-less}
use Rattle.rel_images.proofs.leaf.with_meeting.Goals as goal

pub returns-then-row_of-line-eq0-clause-bits : goal.returns-then-row_of-line-eq0-clause-bits
returns-then-row_of-line-eq0-clause-bits c j l =
    let a = c.args in
    meeting_left a.all a.side a.bits a.line a.t j (meets_none a.side a.bits a.line a.t c.row_of.result c.row_of.ensures.bits c.if-row_of-line-eq0.true)

pub returns-clause-less : goal.returns-clause-less
returns-clause-less c = meeting-less c.args.all c.args.side c.args.t c.requires.small c.requires.within c.requires.less

pub returns-clause-bits : goal.returns-clause-bits
returns-clause-bits c j l =
    let a = c.args in
    meeting_added a.all a.side a.bits a.line a.t j c.requires.small c.requires.within (meets_some a.side a.bits a.line a.t c.row_of.result c.requires.small c.row_of.ensures.less c.row_of.ensures.bits c.if-row_of-line-eq0.false)
