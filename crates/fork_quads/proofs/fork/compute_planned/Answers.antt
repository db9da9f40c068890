use Rattle.fork_quads.proofs.Joining.{can_kept, job_sequential, job_after}
use Rattle.fork_quads.proofs.fork.compute_planned.Goals as goal

pub compute_sequential-requires-clause-a_stands : goal.compute_sequential-requires-clause-a_stands
compute_sequential-requires-clause-a_stands g c = (can_kept c.plan_of.ensures.reads.keeps c.requires.can).a_stands

pub compute_sequential-requires-clause-b_stands : goal.compute_sequential-requires-clause-b_stands
compute_sequential-requires-clause-b_stands g c = (can_kept c.plan_of.ensures.reads.keeps c.requires.can).b_stands

pub compute_in_pieces-requires-clause-can : goal.compute_in_pieces-requires-clause-can
compute_in_pieces-requires-clause-can g c = can_kept c.plan_of.ensures.reads.keeps c.requires.can

pub compute_in_pieces-requires-in-Sums-clause-can : goal.compute_in_pieces-requires-in-Sums-clause-can
compute_in_pieces-requires-in-Sums-clause-can g c =
    let x = can_kept c.plan_of.ensures.reads.keeps c.requires.can in
    record { a_stands = x.a_stands; b_stands = x.b_stands; one_height = x.one_height; deep = x.deep; few = x.few }

pub returns-in-Sequential : goal.returns-in-Sequential
returns-in-Sequential g c = let e = c.compute_sequential.ensures in job_after c.plan_of.ensures.reads c.requires.can (job_sequential c.args.job c.compute_sequential.result e.value e.stood e.keeps e.counts)

pub returns-in-Parts : goal.returns-in-Parts
returns-in-Parts g c = job_after c.plan_of.ensures.reads c.requires.can c.compute_in_pieces.ensures

pub returns-in-Sums : goal.returns-in-Sums
returns-in-Sums g c =
    let e = c.compute_in_pieces-in-Sums.ensures in
    job_after c.plan_of.ensures.reads c.requires.can (record { value = e.value; stood = e.stood; keeps = e.keeps; misses = e.misses })
