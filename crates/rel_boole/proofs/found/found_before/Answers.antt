use Rattle.std.proofs.Common.{ap, subst, ◌∙◌}
use Rattle.rel_model.specs.Cells.{Cells}
use Rattle.rel_model.specs.Equations.{side_of}
use Rattle.rel_model.specs.Quads.{IsQuad, quad_cells}
use Rattle.memo_laws.specs.Looking.{operator_of}
use Rattle.rel_model.proofs.QuadLaws.{quad_stays, quad_cells-stay, reads_on}
use Rattle.rel_boole.specs.Cellwise.{cells_by}
use Rattle.rel_boole.proofs.Filled.{looked_by}
use Rattle.rel_boole.proofs.Combining.{no_transposition}
use Rattle.rel_boole.proofs.found.found_before.Goals as goal

pub look-requires-clause-a_stands : goal.look-requires-clause-a_stands
look-requires-clause-a_stands c = quad_stays 0 c.args.nodes.now c.cut_off_full.new.nodes c.args.a c.cut_off_full.ensures.reads.keeps c.requires.a_stands

pub look-requires-clause-b_stands : goal.look-requires-clause-b_stands
look-requires-clause-b_stands c = quad_stays 0 c.args.nodes.now c.cut_off_full.new.nodes c.args.b c.cut_off_full.ensures.reads.keeps c.requires.b_stands

pub returns-in-Some-look-clause-found : goal.returns-in-Some-look-clause-found
returns-in-Some-look-clause-found c =
    let s0 = c.args.nodes.now in
    let s1 = c.cut_off_full.new.nodes in
    let k = c.cut_off_full.ensures.reads.keeps in
    let ea = quad_cells-stay 0 s0 s1 c.args.a k c.requires.a_stands in
    let eb = quad_cells-stay 0 s0 s1 c.args.b k c.requires.b_stands in
    let i = looked_by c.look.new.self (operator_of c.op_of.result) c.args.op c.args.a.height (side_of c.args.a.height) (quad_cells s1 c.args.a) (quad_cells s1 c.args.b) c.in-Some-look.found c.op_of.ensures c.in-Some-look.ensures.found in
    subst (λ (f : Cells). IsQuad c.look.new.self c.args.a.height f c.in-Some-look.found) (ap (λ (f : Cells). cells_by c.args.op f (quad_cells s1 c.args.b)) ea ∙ ap (λ (f : Cells). cells_by c.args.op (quad_cells s0 c.args.a) f) eb) i

pub look-requires-clause-one_operand : goal.look-requires-clause-one_operand
look-requires-clause-one_operand c = λ z. absurd (no_transposition c.args.op _ c.op_of.ensures z)

pub returns-in-Some-look-clause-reads : goal.returns-in-Some-look-clause-reads
returns-in-Some-look-clause-reads c = reads_on c.args.nodes.now c.cut_off_full.new.nodes c.look.new.self c.cut_off_full.ensures.reads c.look.ensures.reads

pub returns-in-None-clause-reads : goal.returns-in-None-clause-reads
returns-in-None-clause-reads c = reads_on c.args.nodes.now c.cut_off_full.new.nodes c.look.new.self c.cut_off_full.ensures.reads c.look.ensures.reads
