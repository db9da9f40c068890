use Rattle.rel_model.specs.Worker.{set_of}
use Rattle.rel_plain.specs.Kept.{worker_of}
use Rattle.rel_plain.specs.KeptLaws.{rows_law, cols_law}
use Rattle.rel_plain.proofs.Operating.{gives_same}
use Rattle.rel_plain.proofs.Turning.{transpose_is, IsKept-turned}
use Rattle.rel_plain.proofs.plain.PlainCore.transpose.Goals as goal

pub keep-requires : goal.keep-requires
keep-requires c = IsKept-turned c.args.r.rows c.args.r.cols c.pairs_of.result.now c.in_ok-pairs.pairs.items c.pairs_of.ensures.kept c.in_ok-pairs.ensures

pub returns-clause-value : goal.returns-clause-value
returns-clause-value c =
    gives_same _ _ _ c.keep.result _ _
    (transpose_is c.args.r.rows c.args.r.cols c.pairs_of.result.now c.in_ok-pairs.pairs.items (set_of (worker_of c.args.self.now) c.args.r) c.in_ok-pairs.ensures c.pairs_of.ensures.means
    (rows_law c.args.self.now c.args.r c.requires) (cols_law c.args.self.now c.args.r c.requires)) c.keep.ensures.value
