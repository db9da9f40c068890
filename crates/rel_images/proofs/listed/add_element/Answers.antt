use Rattle.std.proofs.Common.{◌-◌, ◌*◌, ◌%◌, ◌^◌, length, refl, arith}
use Rattle.rel_images.proofs.Words.{leaf-side}
use Rattle.rel_images.proofs.Listing.{entry_within, bit_below, bit_shifted, bit_less, element_added}
use Rattle.rel_images.proofs.listed.add_element.Goals as goal

pub overflow_shl-bit : goal.overflow_shl-bit
overflow_shl-bit c = let b = bit_below c.args.bottom c.args.j c.bit_of-bit.result c.requires.small c.bit_of-bit.ensures in omega (arith, b)

pub add_line-requires-clause-small : goal.add_line-requires-clause-small
add_line-requires-clause-small c = leaf-side c.args.bottom c.args.bottom c.side_of.result refl c.requires.small c.side_of.ensures

pub add_line-requires-clause-within : goal.add_line-requires-clause-within
add_line-requires-clause-within c = entry_within c.args.bottom c.args.height c.args.j c.entry_of-entry.result (length c.args.ys.now) c.requires.low c.requires.within c.entry_of-entry.ensures c.requires.places

pub add_line-requires-clause-less : goal.add_line-requires-clause-less
add_line-requires-clause-less c = bit_less c.args.bottom c.side_of.result c.args.j c.bit_of-bit.result c.requires.small c.side_of.ensures c.bit_of-bit.ensures

pub returns : goal.returns
returns c =
    let a = c.args in
    element_added a.bottom (a.height - a.bottom) a.j c.entry_of-entry.result c.side_of.result (1 * 2 ^ c.bit_of-bit.result % 18446744073709551616) a.ys.now c.add_line.new.xs c.entry_of-entry.ensures c.side_of.ensures
    (bit_shifted a.bottom a.j c.bit_of-bit.result c.requires.small c.bit_of-bit.ensures) c.add_line.ensures
