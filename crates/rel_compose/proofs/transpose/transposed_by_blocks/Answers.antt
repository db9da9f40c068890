use Rattle.std.proofs.Common.{refl, arith}
use Rattle.rel_model.specs.Quads.{quad_room}
use Rattle.rel_model.proofs.QuadLaws.{quad_stays}
use Rattle.quad_nodes.specs.Making.{MakesQuad}
use Rattle.quad_nodes.proofs.Making.{made_as, made_after, made_before, made_failed, made_result}
use Rattle.tree_blocks.proofs.Counting.{count_8}
use Rattle.rel_compose.proofs.Transposing.{turned, none_stands, transposed_now}
use Rattle.rel_compose.proofs.transpose.transposed_by_blocks.Goals.{After-gather_blocks}
use Rattle.rel_compose.proofs.transpose.transposed_by_blocks.Goals as goal

made : (c : After-gather_blocks) → MakesQuad (quad_room c.args.a.height) c.args.a.height (turned c.args.nodes.now c.args.a) c.args.nodes.now c.gather_blocks.new.nodes c.gather_blocks.result
made c = let e = c.gather_blocks.ensures in made_after c.spill_turned.ensures.reads (made_as refl c.spill_turned.ensures.cells (record { value = e.value; stood = e.stood; keeps = e.keeps; counts = e.counts }))

pub spill_turned-requires-clause-len : goal.spill_turned-requires-clause-len
spill_turned-requires-clause-len c = let x = count_8 c.args.a.height c.requires.rows in omega (arith, x)

pub gather_blocks-requires-clause-blocks : goal.gather_blocks-requires-clause-blocks
gather_blocks-requires-clause-blocks c =
    let x = count_8 c.args.a.height c.requires.rows in
    let l = c.spill_turned.ensures.len in
    omega (arith, x, l)

pub returns-in_err-found : goal.returns-in_err-found
returns-in_err-found c =
    made_failed c.from_residual.result c.from_residual.ensures.0 (made_result c.in_err-found.was (made (goal.at.returns-in_err-found c).After-gather_blocks))

pub note-requires-clause-a_stands : goal.note-requires-clause-a_stands
note-requires-clause-a_stands c = quad_stays _ _ _ _ (made (goal.at.note-requires-clause-a_stands c).After-gather_blocks).keeps c.requires.stands

pub note-requires-clause-b_stands : goal.note-requires-clause-b_stands
note-requires-clause-b_stands c = none_stands c.empty-none.ensures (quad_stays _ _ _ _ (made (goal.at.note-requires-clause-b_stands c).After-gather_blocks).keeps c.requires.stands)

pub note-requires-clause-holds : goal.note-requires-clause-holds
note-requires-clause-holds c =
    let w = made_result c.in_ok-found.was (made (goal.at.note-requires-clause-holds c).After-gather_blocks) in
    transposed_now _ _ _ _ _ w.keeps c.requires.stands w.value

pub returns : goal.returns
returns c = made_before (made_result c.in_ok-found.was (made (goal.at.returns c).After-gather_blocks)) c.note.ensures.reads
