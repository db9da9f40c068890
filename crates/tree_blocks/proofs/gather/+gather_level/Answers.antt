use Rattle.std.proofs.Common.{◌≡◌, ◌<◌, ◌≤◌, ◌-◌, ◌*◌, length, ◌∙◌, arith}
use Rattle.std.proofs.lemmas.Grind.{common_steps}
use Rattle.rel_model.specs.Trees.{bottom_height, top_height}
use Rattle.quad_nodes.proofs.Finding.{not_missed}
use Rattle.tree_blocks.proofs.Counting.{room_below, room_least, room_bottom}
use Rattle.tree_blocks.proofs.Naming.{bottom_stood, level_value, level_stood, level_keeps, first_keeps, quarters_of_all}
use Rattle.tree_blocks.proofs.gather.+gather_level.Goals as goal

pub returns-then-height-bottom-clause-stood : goal.returns-then-height-bottom-clause-stood
returns-then-height-bottom-clause-stood t c =
    let bottom : c.args.height ≡ bottom_height = c.if-height-bottom.true ∙ c.bottom-bottom.ensures.height in
    bottom_stood c.args.nodes.now c.name_blocks.new.nodes c.args.height c.args.count c.args.blocks.now c.name_blocks.result bottom c.name_blocks.ensures.stood

pub name_blocks-requires-clause-blocks : goal.name_blocks-requires-clause-blocks
name_blocks-requires-clause-blocks t c = room_bottom c.args.count c.args.height (length c.args.blocks.now) (c.if-height-bottom.true ∙ c.bottom-bottom.ensures.height) c.requires.blocks

pub name_blocks-requires-clause-room : goal.name_blocks-requires-clause-room
name_blocks-requires-clause-room t c = room_bottom c.args.count c.args.height (length c.args.names.now) (c.if-height-bottom.true ∙ c.bottom-bottom.ensures.height) c.requires.room

pub overflow_mul-count : goal.overflow_mul-count
overflow_mul-count t c =
    let over : bottom_height < c.args.height = (let l = c.requires.low in let n = c.if-height-bottom.false in let b = c.bottom-bottom.ensures.height in omega arith) in
    let x = room_least (4 * c.args.count) (c.args.height - 1 - bottom_height) (length c.args.blocks.now) (room_below c.args.count c.args.height (length c.args.blocks.now) over c.requires.blocks) in
    grind (arith, common_steps)

pub gather_level-requires : goal.gather_level-requires
gather_level-requires t c =
    let over : bottom_height < c.args.height = (let l = c.requires.low in let n = c.if-height-bottom.false in let b = c.bottom-bottom.ensures.height in omega arith) in
    let falls : c.args.height - 1 < t = omega arith in
    let low : bottom_height ≤ c.args.height - 1 = omega arith in
    let high : c.args.height - 1 ≤ top_height = (let l = c.requires.high in omega arith) in
    (falls, (low, (high, (room_below c.args.count c.args.height (length c.args.blocks.now) over c.requires.blocks, room_below c.args.count c.args.height (length c.args.names.now) over c.requires.room))))

pub returns-in_err-gather_level-clause-stood : goal.returns-in_err-gather_level-clause-stood
returns-in_err-gather_level-clause-stood t c all =
    let over : bottom_height < c.args.height = (let l = c.requires.low in let n = c.if-height-bottom.false in let b = c.bottom-bottom.ensures.height in omega arith) in
    absurd (not_missed _ _ _ _ (c.in_err-gather_level.ensures.stood (quarters_of_all c.args.nodes.now c.args.height c.args.blocks.now c.args.count c.bottom-bottom.ensures.work over all)))

pub returns-in_err-gather_level-clause-keeps : goal.returns-in_err-gather_level-clause-keeps
returns-in_err-gather_level-clause-keeps t c =
    let over : bottom_height < c.args.height = (let l = c.requires.low in let n = c.if-height-bottom.false in let b = c.bottom-bottom.ensures.height in omega arith) in
    first_keeps c.args.nodes.now c.gather_level.new.nodes c.args.height c.args.count over c.in_err-gather_level.ensures.keeps

pub close_level-requires-clause-room : goal.close_level-requires-clause-room
close_level-requires-clause-room t c =
    let over : bottom_height < c.args.height = (let l = c.requires.low in let n = c.if-height-bottom.false in let b = c.bottom-bottom.ensures.height in omega arith) in
    let x = room_least (4 * c.args.count) (c.args.height - 1 - bottom_height) (length c.args.names.now) (room_below c.args.count c.args.height (length c.args.names.now) over c.requires.room) in
    let l = c.in_ok-gather_level.ensures.len in
    omega arith

pub returns-clause-value : goal.returns-clause-value
returns-clause-value t c =
    let over : bottom_height < c.args.height = (let l = c.requires.low in let n = c.if-height-bottom.false in let b = c.bottom-bottom.ensures.height in omega arith) in
    level_value c.gather_level.new.nodes c.close_level.new.nodes c.args.height c.args.blocks.now c.gather_level.new.names c.close_level.new.names c.args.count c.close_level.result over c.in_ok-gather_level.ensures.value c.close_level.ensures.value

pub returns-clause-stood : goal.returns-clause-stood
returns-clause-stood t c =
    let over : bottom_height < c.args.height = (let l = c.requires.low in let n = c.if-height-bottom.false in let b = c.bottom-bottom.ensures.height in omega arith) in
    level_stood c.args.nodes.now c.gather_level.new.nodes c.close_level.new.nodes c.args.height c.args.blocks.now c.gather_level.new.names c.args.count _ c.close_level.result c.bottom-bottom.ensures.work over
    c.in_ok-gather_level.ensures.value c.in_ok-gather_level.ensures.stood c.close_level.ensures.stood

pub returns-clause-keeps : goal.returns-clause-keeps
returns-clause-keeps t c =
    let over : bottom_height < c.args.height = (let l = c.requires.low in let n = c.if-height-bottom.false in let b = c.bottom-bottom.ensures.height in omega arith) in
    level_keeps c.args.nodes.now c.gather_level.new.nodes c.close_level.new.nodes c.args.height c.args.count over c.in_ok-gather_level.ensures.keeps c.close_level.ensures.keeps
