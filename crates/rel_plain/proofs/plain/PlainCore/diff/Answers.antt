use Rattle.rel_model.specs.Worker.{set_of}
use Rattle.rel_plain.specs.Kept.{worker_of}
use Rattle.rel_plain.specs.KeptLaws.{rows_law, cols_law}
use Rattle.rel_plain.proofs.Operating.{gives_same, diff_is}
use Rattle.rel_plain.proofs.plain.PlainCore.diff.Goals as goal

pub returns-clause-value : goal.returns-clause-value
returns-clause-value c =
    gives_same _ _ _ c.combined.result _ _
    (diff_is c.args.r.rows c.args.r.cols (set_of (worker_of c.args.self.now) c.args.r) (set_of (worker_of c.args.self.now) c.args.s)
    (rows_law c.args.self.now c.args.r c.requires.left) (cols_law c.args.self.now c.args.r c.requires.left)) c.combined.ensures.value
