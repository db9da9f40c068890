use Rattle.std.proofs.Common.{arith}
use Rattle.rel_model.specs.Operators.{compose}
use Rattle.rel_model.specs.Worker.{set_of, Gives}
use Rattle.rel_slices.proofs.Putting.{some_given}
use Rattle.rel_slices.proofs.Rooming.{line_in_product}
use Rattle.rel_slices.proofs.through.image.Goals as goal

pub returns-in_err-walked-clause-room : goal.returns-in_err-walked-clause-room
returns-in_err-walked-clause-room g c = let r = c.in_err-walked.ensures.room in let l = line_in_product g.C.Core.least c.args.u.cols c.args.r.cols in omega (arith, r, l)

pub returns-in-Some-clause-value : goal.returns-in-Some-clause-value
returns-in-Some-clause-value g c =
    some_given (Gives (g.C.Core.worker c.sparse_image.new.core) 1 c.args.r.cols (compose (set_of (g.C.Core.worker c.args.core.now) c.args.u) (set_of (g.C.Core.worker c.args.core.now) c.args.r)))
    c.in_ok-walked.walked c.in-Some.line c.in-Some.is c.in_ok-walked.ensures.value

pub returns-in-Some-clause-room : goal.returns-in-Some-clause-room
returns-in-Some-clause-room g c = let r = c.in_ok-walked.ensures.room in let l = line_in_product g.C.Core.least c.args.u.cols c.args.r.cols in omega (arith, r, l)
