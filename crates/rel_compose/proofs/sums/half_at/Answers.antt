use Rattle.std.proofs.Common.{refl, inl, inr}
use Rattle.rel_compose.proofs.sums.half_at.Goals as goal

pub returns-then-place-half : goal.returns-then-place-half
returns-then-place-half c = record { which = inl (c.if-place-half.true, refl, refl) }

pub returns : goal.returns
returns c = record { which = inr (c.if-place-half.false, refl, refl) }
