use Rattle.std.proofs.Common.{◌-◌, ◌%◌, ◌^◌, ◌∙◌, ℕ, length, sym, ap, get_or}
use Rattle.rel_images.specs.Lines.{has_bit, bits_of}
use Rattle.rel_images.proofs.Listing.{line_under-element, entry_within, bit_below, height-over}
use Rattle.rel_images.proofs.listed.has_element.Goals as goal

pub bounds-xs-entry_of : goal.bounds-xs-entry_of
bounds-xs-entry_of c = entry_within c.args.bottom c.args.height c.args.i c.entry_of.result (length c.args.xs.now) c.requires.low c.requires.within c.entry_of.ensures c.requires.places

pub overflow_shr-result : goal.overflow_shr-result
overflow_shr-result c = bit_below c.args.bottom c.args.i c.bit_of.result c.requires.small c.bit_of.ensures

pub returns : goal.returns
returns c =
    let a = c.args in
    let d : ℕ = a.height - a.bottom in
    ap (λ (b : ℕ). has_bit (get_or a.xs.now c.entry_of.result 0) b) c.bit_of.ensures ∙ ap (λ (n : ℕ). has_bit (get_or a.xs.now n 0) (a.i % 2 ^ a.bottom)) c.entry_of.ensures
    ∙ sym (line_under-element a.bottom d (bits_of a.xs.now) a.i (height-over a.bottom a.height a.i c.requires.low c.requires.within))
