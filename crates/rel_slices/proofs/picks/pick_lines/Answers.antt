use Rattle.std.proofs.Common.{◌≡◌, ◌∙◌, refl, ap}
use Rattle.rel_model.specs.Relation.{Relation, has}
use Rattle.rel_model.specs.Worker.{set_of}
use Rattle.rel_model.proofs.Workers.{keeps_set}
use Rattle.rel_slices.specs.Thin.{line_set}
use Rattle.rel_slices.specs.Ops.{picked}
use Rattle.rel_slices.proofs.Putting.{puts_more, recast, line_later}
use Rattle.rel_slices.proofs.Laying.{picked_agree}
use Rattle.rel_slices.proofs.picks.pick_lines.Goals as goal

pub rows-preserved : goal.rows-preserved
rows-preserved g c =
    let o = g.C.Core.worker c.args.core.now in
    let now = g.C.Core.worker c.rows.core in
    let next = g.C.Core.worker c.pick_line.new.core in
    let b = c.args.lines.now in
    let h = c.rows.invariant in
    let es : set_of now c.args.small ≡ set_of o c.args.small = keeps_set o now c.args.small h.keeps c.requires.small_stands in
    puts_more o now next _ _ _ _ _ c.rows.i c.rows.made c.put.new.self c.in_ok-line.line h c.in_ok-line.ensures.keeps c.in_ok-line.ensures.cause.done c.in_ok-line.ensures.room
    (recast next 1 b.other 1 b.other _ _ c.in_ok-line.line refl refl
    (ap (λ (x : Relation). picked b.count b.other (has x c.rows.i) (line_set now b)) es ∙ picked_agree b.count b.other (has (set_of o c.args.small) c.rows.i) (line_set now b) (line_set o b) (λ i l. line_later o now b h.keeps c.requires.standing i l))
    c.in_ok-line.ensures.value)
    c.put.ensures.here c.put.ensures.others c.put.ensures.turned c.put.ensures.count c.put.ensures.other
