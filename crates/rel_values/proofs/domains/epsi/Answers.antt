use Rattle.std.proofs.Common.{◌≤◌, ◌^◌, ℕ, refl, arith}
use Rattle.rel_model.specs.Worker.{height_of_three}
use Rattle.rel_model.proofs.Heights.{power_up}
use Rattle.rel_slices.specs.declared.thin.Value.TheVariants.{Lines}
use Rattle.rel_slices.proofs.Valuing.{recast_value, lines_value}
use Rattle.rel_slices.proofs.Membering.{members_laid}
use Rattle.rel_values.proofs.Operating.{begun, given_fits}
use Rattle.rel_steps.proofs.Rooms.{as_high}
use Rattle.rel_values.proofs.Sizes.{owed_at}
use Rattle.rel_values.proofs.Within.{ends_within, full_within, memory_within, lines_within, epsi_cost, member_cost, members_room}
use Rattle.rel_values.proofs.domains.epsi.Goals as goal

pub returns-then-x-lt9 : goal.returns-then-x-lt9
returns-then-x-lt9 g c =
    let d = c.epsi.ensures in
    let r = epsi_cost c.args.x in
    record { operates = ends_within _ c.epsi.result c.whole_within.result c.whole_within.ensures.found c.whole_within.ensures.failed (begun _) d.keeps d.room d.nothing d.cause d.value refl refl refl (omega (arith, r)) }

pub returns-in-Ok : goal.returns-in-Ok
returns-in-Ok g c =
    let w = g.E.Core.worker c.member_lines.new.q in
    let x : ℕ = c.args.x in
    let h : ℕ = height_of_three x 1 (2 ^ x) in
    let few : x ≤ 24 = omega arith in
    let low : 9 ≤ x = omega arith in
    let leaf = g.met.E.Engine.leaf_height in
    let d = c.in-Ok.ensures in
    let v = recast_value w _ _ x (2 ^ x) _ _ (Lines c.in-Ok.lines) refl refl (members_laid x) (lines_value w _ _ _ _ c.in-Ok.lines d.lines) in
    let long : 257 ≤ c.in-Ok.lines.other = (let p = power_up 9 x low in let e = d.lines.other_is in omega (arith, p, e)) in
    let m = member_cost g.E.Core.least x leaf low few in
    let q = owed_at g.E.Core.least h w (Lines c.in-Ok.lines) leaf (given_fits (Lines c.in-Ok.lines) v long) (as_high _ x h v.row_size (omega arith)) (as_high _ (2 ^ x) h v.col_size (omega arith)) in
    let r = members_room x _ _ m q in
    record { operates = lines_within _ (power_up x 24 few) r d.keeps d.room d.cause.done v long }

pub returns-in-Err-Full : goal.returns-in-Err-Full
returns-in-Err-Full g c =
    let few : c.args.x ≤ 24 = omega arith in
    let low : 9 ≤ c.args.x = omega arith in
    let d = c.in-Err-Full.ensures in
    let m = member_cost g.E.Core.least c.args.x g.met.E.Engine.leaf_height low few in
    let r = members_room c.args.x _ 0 m (omega arith) in
    let a = d.room in
    record { operates = full_within (power_up c.args.x 24 few) c.in-Err-Full.field-0-is d.keeps (omega (arith, r, a)) d.cause }

pub returns-in-Err-NoMemory : goal.returns-in-Err-NoMemory
returns-in-Err-NoMemory g c =
    let few : c.args.x ≤ 24 = omega arith in
    let low : 9 ≤ c.args.x = omega arith in
    let d = c.in-Err-NoMemory.ensures in
    let m = member_cost g.E.Core.least c.args.x g.met.E.Engine.leaf_height low few in
    let r = members_room c.args.x _ 0 m (omega arith) in
    let a = d.room in
    record { operates = memory_within (power_up c.args.x 24 few) c.in-Err-NoMemory.field-0-is d.keeps (omega (arith, r, a)) d.cause }
