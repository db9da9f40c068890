use Rattle.rv_eval.proofs.Basing.{both_as, other_two}
use Rattle.rv_eval.proofs.Performing.{performs_as}
use Rattle.rv_eval.proofs.comparisons.base_of_two.Goals as goal

pub returns-in-Syq : goal.returns-in-Syq
returns-in-Syq g c = performs_as (both_as c.args.at _ _ c.in-Syq.is) c.quotient.ensures

pub returns-in-Eq : goal.returns-in-Eq
returns-in-Eq g c = performs_as (both_as c.args.at _ _ c.in-Eq.is) c.equality.ensures

pub returns-in-Incl : goal.returns-in-Incl
returns-in-Incl g c = performs_as (both_as c.args.at _ _ c.in-Incl.is) c.inclusion.ensures

pub returns-in-Ubd : goal.returns-in-Ubd
returns-in-Ubd g c = performs_as (both_as c.args.at _ _ c.in-Ubd.is) c.bounding.ensures

pub returns-in-Lbd : goal.returns-in-Lbd
returns-in-Lbd g c = performs_as (both_as c.args.at _ _ c.in-Lbd.is) c.bounding-in-Lbd.ensures

pub returns-in-Least : goal.returns-in-Least
returns-in-Least g c = performs_as (both_as c.args.at _ _ c.in-Least.is) c.bounding-in-Least.ensures

pub returns-in-Greatest : goal.returns-in-Greatest
returns-in-Greatest g c = performs_as (both_as c.args.at _ _ c.in-Greatest.is) c.bounding-in-Greatest.ensures

pub returns-in-Sup : goal.returns-in-Sup
returns-in-Sup g c = performs_as (both_as c.args.at _ _ c.in-Sup.is) c.bounding-in-Sup.ensures

pub returns-in-Inf : goal.returns-in-Inf
returns-in-Inf g c = performs_as (both_as c.args.at _ _ c.in-Inf.is) c.bounding-in-Inf.ensures

pub returns-in_default : goal.returns-in_default
returns-in_default g c =
    let d = c.in_default in
    performs_as (other_two c.args.at c.args.base _ _ d.not-Syq d.not-Eq d.not-Incl d.not-Ubd d.not-Lbd d.not-Least
    d.not-Greatest d.not-Sup d.not-Inf) c.none_given.ensures
