use Rattle.std.proofs.Common.{sym, subst}
use Rattle.std.specs.List.{AllByRecursion}
use Rattle.rel_model.specs.Worker.{Stands}
use Rattle.run_model.specs.SharedFiles.{shared_relations}
use Rattle.test_files.proofs.Standing.{all_stand}
use Rattle.test_files.proofs.several.is_written_again.Goals as goal

pub are_written-requires : goal.are_written-requires
are_written-requires g c =
    let w = g.E.Core.worker c.read_k2_all.new.engine in
    subst (λ xs. AllByRecursion (λ x. Stands w x.1) xs) (sym c.as_slice.ensures.value)
    (all_stand w (shared_relations c.args.bytes.now) c.in-Ok.list.items c.in-Ok.ensures.answer.1)
