use Rattle.std.proofs.Common.{◌-◌, take}
use Rattle.rel_images.specs.Lines.{bits_of, line_under}
use Rattle.rel_images.proofs.Listing.{Listed}
use Rattle.rel_images.proofs.listed.fill_listed.Given as goal

-- the pairs so far
abbrev pub invariant-pairs : goal.invariant-pairs
invariant-pairs l = Listed l.fn.bottom (l.fn.height - l.fn.bottom) l.fn.turned (line_under l.fn.bottom (bits_of l.fn.xs) (l.fn.height - l.fn.bottom) 1) (take l.i-index l.fn.pairs) l.ys
