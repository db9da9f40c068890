use Rattle.std.proofs.Common.{◌≡◌, ◌≢◌, ◌+◌, ◌-◌, ◌^◌, ◌∙◌, ℕ, ap, arith}
use Rattle.rel_domains.proofs.Steps.{room_step}
use Rattle.rel_order.proofs.Ascending.{upper_given}
use Rattle.rel_model.specs.Roots.{tree_room}
use Rattle.rel_order.proofs.numbers.+upper.Goals as goal

-- half the height has half the quarterings
half_room : (least depth height bottom : ℕ) → depth ≢ 0 → bottom ≡ least → height ≡ bottom + depth → tree_room (height - 1 - least) ≡ tree_room (depth - 1)
half_room least depth height bottom over b e = ap tree_room (let z : height - 1 - least ≡ depth - 1 = omega (arith, over, b, e) in z)

pub returns-in_err-part-clause-room : goal.returns-in_err-part-clause-room
returns-in_err-part-clause-room g t c =
    let r = room_step c.args.depth c.if-depth-eq0.false in
    omega (arith, r, c.in_err-part.ensures.room)

pub returns-in_err-full-clause-room : goal.returns-in_err-full-clause-room
returns-in_err-full-clause-room g t c =
    let r = room_step c.args.depth c.if-depth-eq0.false in
    let h = half_room g.Q.Core.least c.args.depth (c.bottom.result + c.args.depth) c.bottom.result c.if-depth-eq0.false c.bottom.ensures (omega arith) in
    omega (arith, r, h, c.in_ok-part.ensures.room, c.in_err-full.ensures.room)

pub returns-in_err-corner-clause-room : goal.returns-in_err-corner-clause-room
returns-in_err-corner-clause-room g t c =
    let r = room_step c.args.depth c.if-depth-eq0.false in
    let h = half_room g.Q.Core.least c.args.depth (c.bottom.result + c.args.depth) c.bottom.result c.if-depth-eq0.false c.bottom.ensures (omega arith) in
    omega (arith, r, h, c.in_ok-part.ensures.room, c.in_ok-full.ensures.room, c.in_err-corner.ensures.room)

pub returns-clause-room : goal.returns-clause-room
returns-clause-room g t c =
    let r = room_step c.args.depth c.if-depth-eq0.false in
    let h = half_room g.Q.Core.least c.args.depth (c.bottom.result + c.args.depth) c.bottom.result c.if-depth-eq0.false c.bottom.ensures (omega arith) in
    omega (arith, r, h, c.in_ok-part.ensures.room, c.in_ok-full.ensures.room, c.in_ok-corner.ensures.room)

pub returns-clause-value : goal.returns-clause-value
unfolding Rattle.rel_model.specs.Trees.top_height
returns-clause-value g t c =
    let over : c.args.depth ≢ 0 = c.if-depth-eq0.false in
    let laws = g.met.Q.Quads in
    let h : ℕ = c.bottom.result + c.args.depth - 1 in
    let half : c.side_of-half.result ≡ 2 ^ (g.Q.Core.least + (c.args.depth - 1)) = c.side_of-half.ensures ∙ ap (λ k. 2 ^ k) (omega (arith, c.bottom.ensures, over)) in
    upper_given _ (g.Q.Core.worker c.rect.new.self) _ g.Q.Core.least c.args.depth c.side_of-half.result h _ _ (record { height = h; name = 0 }) _ over half
    c.in_ok-part.ensures.value c.in_ok-full.ensures.keeps c.in_ok-full.ensures.value
    (laws.none c.rect.new.self h (omega (arith, c.bottom.ensures, over)) (omega (arith, c.bottom.ensures, c.requires)))
    c.in_ok-corner.ensures.value
