use Rattle.std.proofs.Common.{sym, subst}
use Rattle.rv_workspace.specs.Books.{AllNamesStand}
use Rattle.rv_workspace.proofs.Keeping.{begins_left, first_stands}
use Rattle.rv_workspace.proofs.book.Book.with.Goals as goal

pub invariant_of-result : goal.invariant_of-result
invariant_of-result g c =
    let w = g.E.Core.worker in
    let log = c.new-history.result.items in
    let names = c.of-first_names in
    let versions = c.of-first_versions in (
      begins_left c.args.names names.result.value c.args.versions versions.result.value log names.ensures versions.ensures c.new-history.ensures.items c.requires.few,
      record {
        stand = first_stands (w c.args.archive) log c.new-history.ensures.items;
        first_stand = subst (AllNamesStand (w c.args.archive)) (sym names.ensures) c.requires.stand;
        spare = c.requires.spare;
        made = c.requires.made;
      },
    )
