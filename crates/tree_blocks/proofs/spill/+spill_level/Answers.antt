use Rattle.std.proofs.Common.{◌<◌, ◌≤◌, ◌-◌, ◌*◌, length, arith}
use Rattle.std.proofs.lemmas.Grind.{common_steps}
use Rattle.rel_model.specs.Trees.{bottom_height}
use Rattle.tree_blocks.proofs.Counting.{count_below, count_least}
use Rattle.tree_blocks.proofs.Opening.{spilled_level, all_opened}
use Rattle.tree_blocks.proofs.spill.+spill_level.Goals as goal

pub open_level-requires-clause-room : goal.open_level-requires-clause-room
open_level-requires-clause-room t c =
    let over : bottom_height < c.args.height = (let l = c.requires.low in let n = c.if-height-bottom.false in let b = c.bottom-bottom.ensures.height in omega arith) in
    let x = count_least (4 * c.args.count) (c.args.height - 1 - bottom_height) (length c.args.out.now) (count_below c.args.count c.args.height (length c.args.out.now) over c.requires.len) in
    let r = c.requires.room in
    omega arith

pub overflow_mul-count : goal.overflow_mul-count
overflow_mul-count t c =
    let over : bottom_height < c.args.height = (let l = c.requires.low in let n = c.if-height-bottom.false in let b = c.bottom-bottom.ensures.height in omega arith) in
    let x = count_least (4 * c.args.count) (c.args.height - 1 - bottom_height) (length c.args.out.now) (count_below c.args.count c.args.height (length c.args.out.now) over c.requires.len) in
    grind (arith, common_steps)

pub spill_level-requires : goal.spill_level-requires
spill_level-requires t c =
    let over : bottom_height < c.args.height = (let l = c.requires.low in let n = c.if-height-bottom.false in let b = c.bottom-bottom.ensures.height in omega arith) in
    let falls : c.args.height - 1 < t = omega arith in
    let low : bottom_height ≤ c.args.height - 1 = omega arith in
    let e = c.open_level.ensures in
    let long = count_below c.args.count c.args.height (length c.args.out.now) over c.requires.len in
    let room : length c.args.out.now ≤ length c.open_level.new.names = (let r = c.requires.room in let l = e.len in omega arith) in
    (falls, (e.reads.keeps.after, (all_opened c.args.turned c.args.nodes.now c.open_level.new.nodes c.args.height c.args.names.now c.open_level.new.names c.args.count e.opened, (low, (long, room)))))

pub returns-clause-cells : goal.returns-clause-cells
returns-clause-cells t c =
    let over : bottom_height < c.args.height = (let l = c.requires.low in let n = c.if-height-bottom.false in let b = c.bottom-bottom.ensures.height in omega arith) in
    spilled_level c.args.turned c.args.nodes.now c.open_level.new.nodes c.args.height c.args.names.now c.open_level.new.names c.spill_level.new.out c.args.count over c.open_level.ensures.opened c.spill_level.ensures.cells
