use Rattle.fork_quads.proofs.Joining.{can_kept, set_kept, job_found, job_after, job_before}
use Rattle.std.proofs.Common.{sym, subst}
use Rattle.rel_model.specs.Cells.{Cells}
use Rattle.rel_model.specs.Quads.{IsQuad}
use Rattle.fork_quads.proofs.fork.compute_noted.Goals as goal

pub returns-in-Some : goal.returns-in-Some
returns-in-Some g c = job_found c.args.job c.look.ensures.reads c.in-Some.ensures.found

pub compute_planned-answer-requires-clause-can : goal.compute_planned-answer-requires-clause-can
compute_planned-answer-requires-clause-can g c = can_kept c.look.ensures.reads.keeps c.requires.can

pub note-requires-clause-a_stands : goal.note-requires-clause-a_stands
note-requires-clause-a_stands g c = (can_kept c.compute_planned-answer.ensures.keeps (can_kept c.look.ensures.reads.keeps c.requires.can)).a_stands

pub note-requires-clause-b_stands : goal.note-requires-clause-b_stands
note-requires-clause-b_stands g c = (can_kept c.compute_planned-answer.ensures.keeps (can_kept c.look.ensures.reads.keeps c.requires.can)).b_stands

pub note-requires-clause-holds : goal.note-requires-clause-holds
note-requires-clause-holds g c =
    subst (λ (f : Cells). IsQuad c.compute_planned-answer.new.nodes c.args.job.a.height f c.in-Ok.found)
    (sym (set_kept {job = c.args.job} c.compute_planned-answer.ensures.keeps (can_kept c.look.ensures.reads.keeps c.requires.can))) c.in-Ok.ensures.value

pub returns-in-Ok : goal.returns-in-Ok
returns-in-Ok g c = job_before (job_after c.look.ensures.reads c.requires.can c.in-Ok.ensures) c.note.ensures.reads

pub returns-in_default-answer : goal.returns-in_default-answer
returns-in_default-answer g c = job_after c.look.ensures.reads c.requires.can c.compute_planned-answer.ensures
