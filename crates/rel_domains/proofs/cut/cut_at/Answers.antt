use Rattle.std.proofs.Common.{rules, ltb}
use Rattle.std.proofs.lemmas.List.Sorted.{IsPartitionPoint-from_clause, IsPartitionedBy-ltb}
use Rattle.rel_domains.proofs.Cutting.{cut_there}
use Rattle.rel_domains.proofs.cut.cut_at.Goals as goal

pub returns : goal.returns
returns c =
    let point = IsPartitionPoint-from_clause (λ x. ltb x c.args.bound) _ _ c.partition_point-end.ensures.partitioned (IsPartitionedBy-ltb (λ x. x) c.args.numbers.now c.args.bound c.requires) (λ a r q k. search rules) in
    cut_there c.args.bound c.args.numbers.now _ _ c.partition_point-end.result c.partition_point-end.ensures.bound c.requires point c.split_at.ensures.front c.split_at.ensures.back
