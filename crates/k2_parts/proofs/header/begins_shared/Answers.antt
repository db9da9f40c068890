-- The name is compared from either side.
use Rattle.std.proofs.Common.{◌∙◌, take, codes, ap, eqb}
use Rattle.std.specs.List.{starts_with}
use Rattle.std.specs.Cmp.Lexicographic.{nat_list_eq_equiv}
use Rattle.run_model.specs.SharedFiles.{begins_shared}
use Rattle.k2_parts.proofs.header.begins_shared.Goals as goal

pub returns : goal.returns
unfolding begins_shared
returns c =
    c.starts_with.ensures.value
    ∙ (ap (λ ys. starts_with eqb c.args.bytes.now ys) c.as_slice.ensures ∙ nat_list_eq_equiv.symm (codes "RVK2") (take 4 c.args.bytes.now))
