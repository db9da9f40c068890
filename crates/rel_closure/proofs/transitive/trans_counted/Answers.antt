use Rattle.std.proofs.Common.{◌≡◌, ◌<◌, ◌≤◌, ◌+◌, ◌-◌, ◌*◌, ◌^◌, ◌∙◌, max, ℕ, refl, sym, ap, subst, arith}
use Rattle.std.proofs.Math.Nat.{one-le-pow}
use Rattle.rel_model.specs.Relation.{Relation}
use Rattle.rel_model.specs.Closures.{walks_within}
use Rattle.rel_model.specs.Algebra.{HasType}
use Rattle.rel_model.specs.Worker.{set_of, height_of, Gives}
use Rattle.rel_model.proofs.Workers.{keeps_itself, keeps_trans}
use Rattle.rel_model.proofs.Walking.{walks_within-enough}
use Rattle.rel_steps.proofs.Causes.{done_cause}
use Rattle.rel_closure.proofs.Closing.{Round, round_of, first_given, squared_given, still_given, still_enough, enough_given, rounds_room, next_power}
use Rattle.rel_closure.proofs.transitive.trans_counted.Given.{Over}
use Rattle.rel_closure.proofs.transitive.trans_counted.Goals.{After-step, In_ok-more}
use Rattle.rel_closure.proofs.transitive.trans_counted.Goals as goal

pub squares-init : goal.squares-init
squares-init g c =
    let laws = g.met.C.Core in
    let o = c.args.core.now in
    let t : HasType c.args.r.rows c.args.r.rows (set_of (g.C.Core.worker o) c.args.r) = record { valid = laws.valid o c.args.r c.requires.standing; row_size = laws.row_size o c.args.r c.requires.standing; col_size = laws.col_size o c.args.r c.requires.standing ∙ sym c.requires.square } in
    record {
      gives = first_given (g.C.Core.worker o) c.args.r t c.requires.standing;
      keeps = keeps_itself (g.C.Core.worker o);
      rises = omega arith;
      power = ap (λ (x : ℕ). 2 ^ x) (let e : c.args.steps.now - c.args.steps.now ≡ 0 = omega arith in e);
      rounds = omega arith;
      digits = omega arith;
      misses = refl;
      nothing = λ few. omega arith;
      room = omega arith;
    }

-- ---- one round
round : (g : Over) (c : After-step g) → Round (c.squares.steps - c.args.steps.now) c.args.r.rows c.squares.walks.rows c.squares.walks.cols
round g c =
    let i = c.squares.invariant in
    round_of _ _ c.squares.reach _ _ (g.met.C.Core.row_limit c.args.core.now c.args.r c.requires.standing) i.power c.squares-test.true i.gives.row_size (i.gives.col_size ∙ sym c.requires.square)

power : (g : Over) (c : After-step g) → 2 ^ (c.step.new.self - c.args.steps.now) ≡ c.squares.reach + c.squares.reach
power g c = ap (λ (x : ℕ). 2 ^ (x - c.args.steps.now)) c.step.ensures ∙ next_power c.args.steps.now c.squares.steps c.squares.reach c.squares.invariant.rises c.squares.invariant.power

digits : (g : Over) (c : After-step g) → 2 ^ (c.step.new.self - c.args.steps.now) ≤ max 1 (2 * c.args.r.rows - 1)
digits g c = omega (arith, power g c, c.squares-test.true)

some : (g : Over) (c : After-step g) → 0 < c.squares.reach
some g c = let z = one-le-pow (c.squares.steps - c.args.steps.now) 2 (omega arith) in let y = c.squares.invariant.power in omega (arith, z, y)

more : (g : Over) (c : In_ok-more g) → Gives (g.C.Core.worker c.union.new.self) c.args.r.rows c.args.r.cols (walks_within (c.squares.reach + c.squares.reach) (set_of (g.C.Core.worker c.args.core.now) c.args.r)) c.in_ok-more.more
more g c =
    let laws = g.met.C.Core in
    let o = c.args.core.now in
    let t : HasType c.args.r.rows c.args.r.rows (set_of (g.C.Core.worker o) c.args.r) = record { valid = laws.valid o c.args.r c.requires.standing; row_size = laws.row_size o c.args.r c.requires.standing; col_size = laws.col_size o c.args.r c.requires.standing ∙ sym c.requires.square } in
    let some : 0 < c.squares.reach = (let z = one-le-pow (c.squares.steps - c.args.steps.now) 2 (omega arith) in let y = c.squares.invariant.power in omega (arith, z, y)) in
    squared_given (g.C.Core.worker c.squares.core) (g.C.Core.worker c.compose.new.self) (g.C.Core.worker c.union.new.self) c.squares.reach (set_of (g.C.Core.worker o) c.args.r) c.args.r c.squares.walks c.in_ok-square.square c.in_ok-more.more
    t some c.squares.invariant.gives c.in_ok-square.ensures.keeps c.in_ok-square.ensures.value c.in_ok-more.ensures.value

-- ---- its exits
pub returns-in_err-square-clause-room : goal.returns-in_err-square-clause-room
returns-in_err-square-clause-room g c = (round g (goal.at.returns-in_err-square-clause-room g c).After-step).room _ (g.C.Core.worker c.squares.core).made (g.C.Core.worker c.compose.new.self).made _ c.squares.invariant.room c.in_err-square.ensures.room (omega arith)

pub returns-in_err-square-clause-nothing : goal.returns-in_err-square-clause-nothing
returns-in_err-square-clause-nothing g c few = let z = some g (goal.at.returns-in_err-square-clause-nothing g c).After-step in let under = c.squares-test.true in omega (arith, z, under, few)

pub returns-in_err-square-clause-digits : goal.returns-in_err-square-clause-digits
returns-in_err-square-clause-digits g c = digits g (goal.at.returns-in_err-square-clause-digits g c).After-step

pub returns-in_err-square-clause-keeps : goal.returns-in_err-square-clause-keeps
returns-in_err-square-clause-keeps g c = keeps_trans _ _ _ c.squares.invariant.keeps c.in_err-square.ensures.keeps

pub returns-in_err-more-clause-room : goal.returns-in_err-more-clause-room
returns-in_err-more-clause-room g c = (round g (goal.at.returns-in_err-more-clause-room g c).After-step).room _ (g.C.Core.worker c.squares.core).made (g.C.Core.worker c.compose.new.self).made _ c.squares.invariant.room c.in_ok-square.ensures.room c.in_err-more.ensures.room

pub returns-in_err-more-clause-nothing : goal.returns-in_err-more-clause-nothing
returns-in_err-more-clause-nothing g c few = let z = some g (goal.at.returns-in_err-more-clause-nothing g c).After-step in let under = c.squares-test.true in omega (arith, z, under, few)

pub returns-in_err-more-clause-digits : goal.returns-in_err-more-clause-digits
returns-in_err-more-clause-digits g c = digits g (goal.at.returns-in_err-more-clause-digits g c).After-step

pub returns-in_err-more-clause-keeps : goal.returns-in_err-more-clause-keeps
returns-in_err-more-clause-keeps g c = keeps_trans _ _ _ c.squares.invariant.keeps (keeps_trans _ _ _ c.in_ok-square.ensures.keeps c.in_err-more.ensures.keeps)

pub returns-then-same-clause-room : goal.returns-then-same-clause-room
returns-then-same-clause-room g c = (round g (goal.at.returns-then-same-clause-room g c).After-step).room _ (g.C.Core.worker c.squares.core).made (g.C.Core.worker c.compose.new.self).made _ c.squares.invariant.room c.in_ok-square.ensures.room c.in_ok-more.ensures.room

pub returns-then-same-clause-nothing : goal.returns-then-same-clause-nothing
returns-then-same-clause-nothing g c few = let z = some g (goal.at.returns-then-same-clause-nothing g c).After-step in let under = c.squares-test.true in omega (arith, z, under, few)

pub returns-then-same-clause-digits : goal.returns-then-same-clause-digits
returns-then-same-clause-digits g c = digits g (goal.at.returns-then-same-clause-digits g c).After-step

pub returns-then-same-clause-keeps : goal.returns-then-same-clause-keeps
returns-then-same-clause-keeps g c = keeps_trans _ _ _ c.squares.invariant.keeps (keeps_trans _ _ _ c.in_ok-square.ensures.keeps c.in_ok-more.ensures.keeps)

pub returns-then-same-clause-cause : goal.returns-then-same-clause-cause
returns-then-same-clause-cause g c = done_cause _ _ _ _ (c.in_ok-more.ensures.cause.done ∙ c.in_ok-square.ensures.cause.done ∙ c.squares.invariant.misses)

pub returns-then-same-clause-value : goal.returns-then-same-clause-value
returns-then-same-clause-value g c =
    let laws = g.met.C.Core in
    let o = c.args.core.now in
    let at = goal.at.returns-then-same-clause-value g c in
    let t : HasType c.args.r.rows c.args.r.rows (set_of (g.C.Core.worker o) c.args.r) = record { valid = laws.valid o c.args.r c.requires.standing; row_size = laws.row_size o c.args.r c.requires.standing; col_size = laws.col_size o c.args.r c.requires.standing ∙ sym c.requires.square } in
    still_given (g.C.Core.worker c.squares.core) (g.C.Core.worker c.compose.new.self) (g.C.Core.worker c.union.new.self) c.squares.reach (set_of (g.C.Core.worker o) c.args.r) c.args.r c.squares.walks c.in_ok-more.more
    t (some g at.After-step) c.squares.invariant.gives c.in_ok-square.ensures.keeps c.in_ok-more.ensures.keeps (more g at.In_ok-more) (c.same.ensures.0 c.if-same.true)

pub returns-then-same-clause-enough : goal.returns-then-same-clause-enough
returns-then-same-clause-enough g c =
    let laws = g.met.C.Core in
    let o = c.args.core.now in
    let at = goal.at.returns-then-same-clause-enough g c in
    let t : HasType c.args.r.rows c.args.r.rows (set_of (g.C.Core.worker o) c.args.r) = record { valid = laws.valid o c.args.r c.requires.standing; row_size = laws.row_size o c.args.r c.requires.standing; col_size = laws.col_size o c.args.r c.requires.standing ∙ sym c.requires.square } in
    still_enough (g.C.Core.worker c.squares.core) (g.C.Core.worker c.compose.new.self) (g.C.Core.worker c.union.new.self) c.squares.reach (set_of (g.C.Core.worker o) c.args.r) c.args.r c.squares.walks c.in_ok-more.more
    t (some g at.After-step) c.squares.invariant.gives c.in_ok-square.ensures.keeps c.in_ok-more.ensures.keeps (more g at.In_ok-more) (c.same.ensures.0 c.if-same.true)
    ∙ ap (λ (x : ℕ). walks_within x (set_of (g.C.Core.worker o) c.args.r)) (sym (power g at.After-step))

pub squares-preserved : goal.squares-preserved
squares-preserved g c =
    let at = goal.at.squares-preserved g c in
    let i = c.squares.invariant in
    let x = round g at.After-step in
    let rises = i.rises in
    let one = c.step.ensures in
    let under = c.squares-test.true in
    let e : c.step.new.self - c.args.steps.now ≡ c.squares.steps - c.args.steps.now + 1 = omega (arith, rises, one) in
    let r = x.next _ (g.C.Core.worker c.squares.core).made (g.C.Core.worker c.compose.new.self).made (g.C.Core.worker c.union.new.self).made i.room c.in_ok-square.ensures.room c.in_ok-more.ensures.room in
    record {
      gives = more g at.In_ok-more;
      keeps = keeps_trans _ _ _ i.keeps (keeps_trans _ _ _ c.in_ok-square.ensures.keeps c.in_ok-more.ensures.keeps);
      rises = omega (arith, rises, one);
      power = power g at.After-step;
      rounds = omega (arith, e, x.fewer);
      digits = omega (arith, under);
      misses = c.in_ok-more.ensures.cause.done ∙ (c.in_ok-square.ensures.cause.done ∙ i.misses);
      nothing = λ few. omega (arith, some g at.After-step, under, few);
      room = subst (λ (y : ℕ). (g.C.Core.worker c.union.new.self).made ≤ (g.C.Core.worker c.args.core.now).made + y * (20 * 8 ^ height_of c.args.r.rows)) (sym e) r;
    }

-- ---- the end
pub returns-clause-value : goal.returns-clause-value
returns-clause-value g c =
    let laws = g.met.C.Core in
    let o = c.args.core.now in
    let t : HasType c.args.r.rows c.args.r.rows (set_of (g.C.Core.worker o) c.args.r) = record { valid = laws.valid o c.args.r c.requires.standing; row_size = laws.row_size o c.args.r c.requires.standing; col_size = laws.col_size o c.args.r c.requires.standing ∙ sym c.requires.square } in
    let over = c.squares-test.false in
    enough_given (g.C.Core.worker c.squares.core) c.squares.reach (set_of (g.C.Core.worker o) c.args.r) c.args.r c.squares.walks t (omega (arith, over)) c.squares.invariant.gives

pub returns-clause-enough : goal.returns-clause-enough
returns-clause-enough g c =
    let laws = g.met.C.Core in
    let o = c.args.core.now in
    let R : Relation = set_of (g.C.Core.worker o) c.args.r in
    let t : HasType c.args.r.rows c.args.r.rows R = record { valid = laws.valid o c.args.r c.requires.standing; row_size = laws.row_size o c.args.r c.requires.standing; col_size = laws.col_size o c.args.r c.requires.standing ∙ sym c.requires.square } in
    let over = c.squares-test.false in
    sym (walks_within-enough c.args.r.rows c.squares.reach R t (omega (arith, over))) ∙ ap (λ (x : ℕ). walks_within x R) (sym c.squares.invariant.power)

pub returns-clause-room : goal.returns-clause-room
returns-clause-room g c =
    let before = c.squares.invariant.room in
    let rooms = rounds_room (c.squares.steps - c.args.steps.now) c.args.r.rows c.squares.invariant.rounds in
    omega (arith, before, rooms)

pub returns-clause-cause : goal.returns-clause-cause
returns-clause-cause g c = done_cause _ _ _ _ c.squares.invariant.misses
