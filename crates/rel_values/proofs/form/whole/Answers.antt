use Rattle.rel_values.proofs.form.whole.Goals as goal
use Rattle.rel_values.proofs.Noting.{own_lines}

-- src/form.rt:23:9
pub note_lines-requires-clause-means : goal.note_lines-requires-clause-means
note_lines-requires-clause-means g c =
    let p = c.in_ok-made in
    own_lines _ _ c.args.v.now p.made c.in-Lines.lines c.in-Lines.is p.ensures.keeps c.requires.fits p.ensures.value
