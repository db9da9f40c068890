use Rattle.rv_io.proofs.Pieces.{refused_later}
use Rattle.rv_io.proofs.reading.read_left.Goals as goal

pub returns-in-Err-clause-refused : goal.returns-in-Err-clause-refused
returns-in-Err-clause-refused g c =
    refused_later (g.S.Shelf.told c.args.shelf.now) (g.S.Shelf.told c.pieces.shelf) (g.S.Shelf.told c.read_piece.new.shelf) c.pieces.bytes.items c.args.limit c.in-Err.error c.pieces.invariant.consumed c.pieces.invariant.leaves.faults c.in-Err.ensures.refused
