use Rattle.std.proofs.Common.{rules, ◌^◌, sym, refl, subst}
use Rattle.rel_model.specs.Domains.{IsOverSize}
use Rattle.rel_domains.proofs.Leaves.{shifted}
use Rattle.rel_domains.proofs.Named.{all_subsets, member_rule, epsi_given}
use Rattle.rel_domains.proofs.power_set.epsi.Goals as goal

pub returns-then-x-ge64-clause-cause : goal.returns-then-x-ge64-clause-cause
returns-then-x-ge64-clause-cause g c = let s = subst (IsOverSize (2 ^ c.args.x)) (sym c.too_large.ensures) (all_subsets c.args.x c.if-x-ge64.true) in record { size = s; full = search rules; no_memory = search rules; done = search rules; wanting = search rules; over = λ _. refl }

pub wide-requires-clause-rule : goal.wide-requires-clause-rule
wide-requires-clause-rule g c = λ l. member_rule c.args.x _ c.if-x-ge64.false refl l

pub returns-clause-value : goal.returns-clause-value
returns-clause-value g c = epsi_given _ c.args.x _ c.wide.result (shifted c.args.x c.if-x-ge64.false) c.wide.ensures.value
