use Rattle.std.proofs.Common.{inl}
use Rattle.rel_domains.proofs.Windows.{rest_before, rest_behind}
use Rattle.rel_domains.proofs.missing.first_with.Goals as goal

pub returns-then-at-col : goal.returns-then-at-col
returns-then-at-col c = λ k l a. inl (rest_before c.args.by c.args.row c.args.col k l a)

pub returns-else-at-col-2 : goal.returns-else-at-col-2
returns-else-at-col-2 c = λ k l a. rest_behind c.args.by c.args.row c.args.col c.args.side k c.requires.by c.if-at-col-2.false l a
