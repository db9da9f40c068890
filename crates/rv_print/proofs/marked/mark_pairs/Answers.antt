use Rattle.rv_print.proofs.Setting.{place-inside, place-marked}
use Rattle.rv_print.proofs.marked.mark_pairs.Goals as goal

pub bounds-cells-place : goal.bounds-cells-place
bounds-cells-place c =
    place-inside c.args.shape.rows c.args.shape.cols c.pairs.pair-index c.args.pairs.now (0, 0) c.pairs.cells c.place_of-place.result
    c.pairs-test.true c.requires.within c.pairs.invariant c.place_of-place.ensures

pub pairs-preserved : goal.pairs-preserved
pairs-preserved c =
    place-marked c.args.shape.rows c.args.shape.cols c.pairs.pair-index c.args.pairs.now (0, 0) c.pairs.cells c.place_of-place.result
    c.pairs-test.true c.requires.within c.pairs.invariant c.place_of-place.ensures
