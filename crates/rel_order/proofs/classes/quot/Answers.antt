use Rattle.std.proofs.Common.{◌≤◌, ◌≡◌, ◌∙◌, ℕ, sym, arith}
use Rattle.rel_model.specs.Algebra.{HasType}
use Rattle.rel_model.specs.Worker.{set_of, height_of, height_of_three}
use Rattle.rel_model.proofs.Rooms.{classes_room-sixteen, wide_room-four}
use Rattle.rel_model.proofs.Workers.{gives_stands}
use Rattle.rel_steps.proofs.Rooms.{as_high}
use Rattle.rel_order.proofs.Calling.{classes_given, fewer_high, alike_rooms, numbers_room, numbered_room, found_room}
use Rattle.rel_order.proofs.classes.quot.Given.{Over}
use Rattle.rel_order.proofs.classes.quot.Goals.{In_ok-least, In_ok-numbers}
use Rattle.rel_order.proofs.classes.quot.Goals as goal

-- ---- sizes on the way
many : (g : Over) (c : In_ok-least g) → c.in_ok-least.least.rows ≡ c.args.r.cols
many g c = c.in_ok-least.ensures.value.row_size ∙ c.in_ok-alike.ensures.value.row_size

few : (g : Over) (c : In_ok-numbers g) → height_of c.in_ok-numbers.numbers.rows ≤ height_of_three c.args.r.rows c.args.r.cols c.args.r.cols
few g c =
    let h : ℕ = height_of_three c.args.r.rows c.args.r.cols c.args.r.cols in
    let n : ℕ = c.in_ok-least.least.rows in
    let s = gives_stands (g.Q.Core.worker c.leaders.new.q) _ _ _ c.in_ok-least.least c.in_ok-least.ensures.value in
    let e : n ≡ c.args.r.cols = c.in_ok-least.ensures.value.row_size ∙ c.in_ok-alike.ensures.value.row_size in
    as_high _ _ h c.in_ok-numbers.ensures.value.row_size (fewer_high n h _ (g.met.Q.Core.row_limit c.leaders.new.q c.in_ok-least.least s) (as_high n c.args.r.cols h e (omega arith)))

-- ---- rooms
pub returns-in_err-alike-clause-room : goal.returns-in_err-alike-clause-room
returns-in_err-alike-clause-room g c = omega (arith, classes_room-sixteen c.args.r.rows c.args.r.cols c.args.r.cols, wide_room-four c.args.r.rows c.args.r.cols c.args.r.cols, c.in_err-alike.ensures.room)

pub returns-in_err-least-clause-room : goal.returns-in_err-least-clause-room
returns-in_err-least-clause-room g c = omega (arith, alike_rooms c.args.r.rows c.args.r.cols c.in_ok-alike.alike c.in_ok-alike.ensures.value.row_size c.in_ok-alike.ensures.value.col_size, c.in_ok-alike.ensures.room, c.in_err-least.ensures.room)

pub returns-in_err-numbers-clause-room : goal.returns-in_err-numbers-clause-room
returns-in_err-numbers-clause-room g c = omega (arith, alike_rooms c.args.r.rows c.args.r.cols c.in_ok-alike.alike c.in_ok-alike.ensures.value.row_size c.in_ok-alike.ensures.value.col_size, numbers_room c.args.r.rows c.args.r.cols c.in_ok-least.least (many g (goal.at.returns-in_err-numbers-clause-room g c).In_ok-least) c.in_ok-least.ensures.value.col_size, c.in_ok-alike.ensures.room, c.in_ok-least.ensures.room, c.in_err-numbers.ensures.room)

pub returns-in_err-numbered-clause-room : goal.returns-in_err-numbered-clause-room
returns-in_err-numbered-clause-room g c = omega (arith, alike_rooms c.args.r.rows c.args.r.cols c.in_ok-alike.alike c.in_ok-alike.ensures.value.row_size c.in_ok-alike.ensures.value.col_size, numbers_room c.args.r.rows c.args.r.cols c.in_ok-least.least (many g (goal.at.returns-in_err-numbered-clause-room g c).In_ok-least) c.in_ok-least.ensures.value.col_size, numbered_room c.args.r.rows c.args.r.cols c.in_ok-numbers.numbers (few g (goal.at.returns-in_err-numbered-clause-room g c).In_ok-numbers) (c.in_ok-numbers.ensures.value.col_size ∙ many g (goal.at.returns-in_err-numbered-clause-room g c).In_ok-least), c.in_ok-alike.ensures.room, c.in_ok-least.ensures.room, c.in_ok-numbers.ensures.room, c.in_err-numbered.ensures.room)

pub returns-in_err-found-clause-room : goal.returns-in_err-found-clause-room
returns-in_err-found-clause-room g c = omega (arith, alike_rooms c.args.r.rows c.args.r.cols c.in_ok-alike.alike c.in_ok-alike.ensures.value.row_size c.in_ok-alike.ensures.value.col_size, numbers_room c.args.r.rows c.args.r.cols c.in_ok-least.least (many g (goal.at.returns-in_err-found-clause-room g c).In_ok-least) c.in_ok-least.ensures.value.col_size, numbered_room c.args.r.rows c.args.r.cols c.in_ok-numbers.numbers (few g (goal.at.returns-in_err-found-clause-room g c).In_ok-numbers) (c.in_ok-numbers.ensures.value.col_size ∙ many g (goal.at.returns-in_err-found-clause-room g c).In_ok-least), found_room c.args.r.rows c.args.r.cols _ c.in_ok-alike.alike c.in_ok-numbered.numbered c.in_ok-alike.ensures.value.row_size c.in_ok-alike.ensures.value.col_size (few g (goal.at.returns-in_err-found-clause-room g c).In_ok-numbers) (c.in_ok-numbered.ensures.value.col_size), c.in_ok-alike.ensures.room, c.in_ok-least.ensures.room, c.in_ok-numbers.ensures.room, c.in_ok-numbered.ensures.room, c.in_err-found.ensures.room)

pub returns-clause-room : goal.returns-clause-room
returns-clause-room g c = omega (arith, alike_rooms c.args.r.rows c.args.r.cols c.in_ok-alike.alike c.in_ok-alike.ensures.value.row_size c.in_ok-alike.ensures.value.col_size, numbers_room c.args.r.rows c.args.r.cols c.in_ok-least.least (many g (goal.at.returns-clause-room g c).In_ok-least) c.in_ok-least.ensures.value.col_size, numbered_room c.args.r.rows c.args.r.cols c.in_ok-numbers.numbers (few g (goal.at.returns-clause-room g c).In_ok-numbers) (c.in_ok-numbers.ensures.value.col_size ∙ many g (goal.at.returns-clause-room g c).In_ok-least), found_room c.args.r.rows c.args.r.cols _ c.in_ok-alike.alike c.in_ok-numbered.numbered c.in_ok-alike.ensures.value.row_size c.in_ok-alike.ensures.value.col_size (few g (goal.at.returns-clause-room g c).In_ok-numbers) (c.in_ok-numbered.ensures.value.col_size), c.in_ok-alike.ensures.room, c.in_ok-least.ensures.room, c.in_ok-numbers.ensures.room, c.in_ok-numbered.ensures.room, c.in_ok-found.ensures.room)

pub returns-clause-value : goal.returns-clause-value
returns-clause-value g c =
    let laws = g.met.Q.Core in
    let o = c.args.q.now in
    let r = c.args.r in
    let w0 = g.Q.Core.worker o in
    let t : HasType r.rows r.rows (set_of w0 r) = record { valid = laws.valid o r c.requires.stands; row_size = laws.row_size o r c.requires.stands; col_size = laws.col_size o r c.requires.stands ∙ sym c.requires.square } in
    classes_given w0 _ _ _ _ _ r _ _ _ _ _ c.requires.square t c.in_ok-least.ensures.keeps c.in_ok-numbers.ensures.keeps c.in_ok-numbered.ensures.keeps
    c.in_ok-alike.ensures.value c.in_ok-least.ensures.value c.in_ok-numbers.ensures.value c.in_ok-numbered.ensures.value c.in_ok-found.ensures.value
