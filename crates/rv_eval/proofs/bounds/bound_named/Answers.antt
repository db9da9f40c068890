use Rattle.std.proofs.Common.{ap}
use Rattle.lang_model.specs.Mean.{base_made_of_two}
use Rattle.rv_eval.proofs.Bounding.{last_bounds}
use Rattle.rv_eval.proofs.bounds.bound_named.Goals as goal

pub returns-in-Ubd : goal.returns-in-Ubd
returns-in-Ubd c r s = ap (λ b. base_made_of_two b r s) c.in-Ubd.is

pub returns-in-Lbd : goal.returns-in-Lbd
returns-in-Lbd c r s = ap (λ b. base_made_of_two b r s) c.in-Lbd.is

pub returns-in-Least : goal.returns-in-Least
returns-in-Least c r s = ap (λ b. base_made_of_two b r s) c.in-Least.is

pub returns-in-Greatest : goal.returns-in-Greatest
returns-in-Greatest c r s = ap (λ b. base_made_of_two b r s) c.in-Greatest.is

pub returns-in-Sup : goal.returns-in-Sup
returns-in-Sup c r s = ap (λ b. base_made_of_two b r s) c.in-Sup.is

pub returns-in_default : goal.returns-in_default
returns-in_default c r s = ap (λ b. base_made_of_two b r s) (last_bounds c.args.base c.requires c.in_default.not-Ubd c.in_default.not-Lbd c.in_default.not-Least c.in_default.not-Greatest c.in_default.not-Sup)
