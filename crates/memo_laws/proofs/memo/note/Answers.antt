use Rattle.memo_laws.specs.Looking.{equation_of}
use Rattle.memo_laws.proofs.Looking.{noted_has_room}
use Rattle.memo_laws.proofs.memo.note.Goals as goal

pub word_of-requires : goal.word_of-requires
word_of-requires c =
    let h = noted_has_room _ _ (equation_of c.args.eq) c.requires.of c.requires.holds in
    record { a_fits = h.a_fits; b_fits = h.b_fits; r_fits = h.r_fits; height_fits = h.height_fits }
