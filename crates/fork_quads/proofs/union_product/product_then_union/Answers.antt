use Rattle.rel_model.proofs.QuadLaws.{quad_stays, keeps_on, keeps_most}
use Rattle.fork_quads.proofs.Unions.{union_of_product}
use Rattle.std.proofs.Common.{◌∙◌, ℕ, ap, arith}
use Rattle.rel_model.specs.Quads.{quad_room, compose_room}
use Rattle.fork_quads.proofs.union_product.product_then_union.Goals as goal

pub compute-requires-2-clause-a_stands : goal.compute-requires-2-clause-a_stands
compute-requires-2-clause-a_stands g c = quad_stays _ c.args.nodes.now c.compute.new.nodes c.args.x c.in_ok-product.ensures.keeps c.requires.x_stands

pub returns : goal.returns
returns g c =
    let x = c.in_ok-product.ensures in
    let y = c.in_ok-both.ensures in
    let e = ap (λ (h : ℕ). compose_room h) c.requires.y_height in
    let k = keeps_on (compose_room c.args.y.height) (quad_room c.args.x.height) c.args.nodes.now c.compute.new.nodes c.compute-2.new.nodes x.keeps y.keeps in
    record {
      value = union_of_product _ c.args.nodes.now c.compute.new.nodes c.compute-2.new.nodes c.args.x c.args.y c.args.z c.in_ok-product.product c.in_ok-both.both c.requires.y_height x.keeps c.requires.x_stands x.value y.value;
      keeps = keeps_most _ _ c.args.nodes.now c.compute-2.new.nodes (omega (arith, e)) k;
      misses = y.misses ∙ x.misses;
    }

pub compute-requires-2-clause-one_height : goal.compute-requires-2-clause-one_height
compute-requires-2-clause-one_height g c = c.in_ok-product.ensures.value.same_height ∙ c.requires.y_height

pub returns-in_err-product-clause-keeps : goal.returns-in_err-product-clause-keeps
returns-in_err-product-clause-keeps g c =
    let e = ap (λ (h : ℕ). compose_room h) c.requires.y_height in
    keeps_most (compose_room c.args.y.height) _ c.args.nodes.now c.compute.new.nodes (omega (arith, e)) c.in_err-product.ensures.keeps

pub returns-in_err-both-clause-keeps : goal.returns-in_err-both-clause-keeps
returns-in_err-both-clause-keeps g c =
    let e = ap (λ (h : ℕ). compose_room h) c.requires.y_height in
    let k = keeps_on (compose_room c.args.y.height) (quad_room c.args.x.height) c.args.nodes.now c.compute.new.nodes c.compute-2.new.nodes c.in_ok-product.ensures.keeps c.in_err-both.ensures.keeps in
    keeps_most _ _ c.args.nodes.now c.compute-2.new.nodes (omega (arith, e)) k
