use Rattle.std.proofs.Common.{refl, sym, ◌∙◌, arith}
use Rattle.rel_model.specs.Quads.{quad_room}
use Rattle.rel_model.proofs.QuadLaws.{quad_stays, reads_on}
use Rattle.tree_blocks.proofs.Counting.{count_8}
use Rattle.quad_nodes.specs.Making.{MakesQuad}
use Rattle.quad_nodes.proofs.Making.{made_as, made_after, made_before, made_failed, made_result}
use Rattle.rel_boole.proofs.Combining.{part, as_equation, no_transposition}
use Rattle.rel_boole.proofs.ByBlocks.{blocks_by}
use Rattle.rel_boole.proofs.blocks.combined_by_blocks.Goals.{After-gather_blocks}
use Rattle.rel_boole.proofs.blocks.combined_by_blocks.Goals as goal

made : (c : After-gather_blocks) → MakesQuad (quad_room c.args.a.height) c.args.a.height (part c.args.op c.args.nodes.now c.args.a c.args.b) c.args.nodes.now c.gather_blocks.new.nodes c.gather_blocks.result
made c =
    let s0 = c.args.nodes.now in
    let e = c.gather_blocks.ensures in
    let same = blocks_by c.args.op s0 c.spill_blocks.new.nodes c.args.a c.args.b c.spill_blocks.new.out c.spill_blocks-2.new.out c.combine_blocks.new.blocks c.requires.b_stands c.requires.one_height c.requires.rows c.spill_blocks.ensures.len
    c.spill_blocks.ensures.reads c.spill_blocks.ensures.cells c.spill_blocks-2.ensures.cells c.combine_blocks.ensures.cells in
    made_after (reads_on _ _ _ c.spill_blocks.ensures.reads c.spill_blocks-2.ensures.reads) (made_as refl same (record { value = e.value; stood = e.stood; keeps = e.keeps; counts = e.counts }))

pub spill_blocks-requires-clause-len : goal.spill_blocks-requires-clause-len
spill_blocks-requires-clause-len c = sym (count_8 c.args.a.height c.requires.rows)

pub spill_blocks-requires-2-clause-stands : goal.spill_blocks-requires-2-clause-stands
spill_blocks-requires-2-clause-stands c = quad_stays _ _ _ _ c.spill_blocks.ensures.reads.keeps c.requires.b_stands

pub spill_blocks-requires-2-clause-len : goal.spill_blocks-requires-2-clause-len
spill_blocks-requires-2-clause-len c = sym (count_8 c.args.b.height (c.requires.one_height ∙ c.requires.rows))

pub gather_blocks-requires-clause-blocks : goal.gather_blocks-requires-clause-blocks
gather_blocks-requires-clause-blocks c = let x = count_8 c.args.a.height c.requires.rows in let y = c.combine_blocks.ensures.len in let z = c.spill_blocks.ensures.len in omega (arith, x, y, z)

pub returns-in_err-found : goal.returns-in_err-found
returns-in_err-found c =
    made_failed c.from_residual.result c.from_residual.ensures.0 (made_result c.in_err-found.was (made (goal.at.returns-in_err-found c).After-gather_blocks))

pub note-requires-clause-a_stands : goal.note-requires-clause-a_stands
note-requires-clause-a_stands c = quad_stays _ _ _ _ (made (goal.at.note-requires-clause-a_stands c).After-gather_blocks).keeps c.requires.a_stands

pub note-requires-clause-b_stands : goal.note-requires-clause-b_stands
note-requires-clause-b_stands c = quad_stays _ _ _ _ (made (goal.at.note-requires-clause-b_stands c).After-gather_blocks).keeps c.requires.b_stands

pub note-requires-clause-one_operand : goal.note-requires-clause-one_operand
note-requires-clause-one_operand c = λ z. absurd (no_transposition c.args.op _ c.op_of.ensures z)

pub note-requires-clause-holds : goal.note-requires-clause-holds
note-requires-clause-holds c =
    let w = made_result c.in_ok-found.was (made (goal.at.note-requires-clause-holds c).After-gather_blocks) in
    as_equation c.args.op c.op_of.ensures w.keeps c.requires.a_stands c.requires.b_stands w.value

pub returns : goal.returns
returns c = made_before (made_result c.in_ok-found.was (made (goal.at.returns c).After-gather_blocks)) c.note.ensures.reads
