use Rattle.std.proofs.Common.{sym, ◌∙◌}
use Rattle.fork_quads.proofs.InRows.{read_stands, union_in_rows, union_after}
use Rattle.fork_quads.proofs.union_product.union_with_product.Goals as goal

pub goes_by_rows-requires-clause-one_height : goal.goes_by_rows-requires-clause-one_height
goes_by_rows-requires-clause-one_height g c = c.requires.z_height ∙ sym c.requires.y_height

pub joined_by_rows-requires : goal.joined_by_rows-requires
joined_by_rows-requires g c =
    let r = c.goes_by_rows.ensures.reads in
    let s = c.requires in
    record { x_stands = read_stands r s.x_stands; y_stands = read_stands r s.y_stands; z_stands = read_stands r s.z_stands; y_height = s.y_height; z_height = s.z_height }

pub returns-then-goes_by_rows : goal.returns-then-goes_by_rows
returns-then-goes_by_rows g c =
    let e = union_after c.goes_by_rows.ensures.reads c.requires.x_stands c.requires.y_stands c.requires.z_stands (union_in_rows c.args.x c.args.y c.args.z c.joined_by_rows.ensures) in
    record { value = e.value; keeps = e.keeps; misses = e.misses }

pub product_then_union-requires : goal.product_then_union-requires
product_then_union-requires g c =
    let r = c.goes_by_rows.ensures.reads in
    let s = c.requires in
    record { x_stands = read_stands r s.x_stands; y_stands = read_stands r s.y_stands; z_stands = read_stands r s.z_stands; y_height = s.y_height; z_height = s.z_height }

pub returns : goal.returns
returns g c =
    let d = c.product_then_union.ensures in
    let e = union_after {x = c.args.x} {y = c.args.y} {z = c.args.z} {r = c.product_then_union.result} c.goes_by_rows.ensures.reads c.requires.x_stands c.requires.y_stands c.requires.z_stands (record { value = d.value; keeps = d.keeps; misses = d.misses }) in
    record { value = e.value; keeps = e.keeps; misses = e.misses }
