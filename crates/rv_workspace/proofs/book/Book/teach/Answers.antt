use Rattle.std.proofs.Common.{◌∙◌}
use Rattle.rv_workspace.proofs.Keeping.{archive_stands, archive_names}
use Rattle.rv_workspace.proofs.book.Book.teach.Goals as goal

pub invariant_of-self : goal.invariant_of-self
invariant_of-self g c =
    let w = g.E.Core.worker in
    let i = c.self.invariant in
    let l = c.exchange.ensures.other in (
      i.0,
      record {
        stand = archive_stands (w c.self.inside.archive) (w c.args.mine.now) (w c.exchange.new.other) c.self.inside.history.items l i.1.stand;
        first_stand = archive_names (w c.self.inside.archive) (w c.args.mine.now) (w c.exchange.new.other) c.self.inside.first_names.value l i.1.first_stand;
        spare = l.stays.keeps.spare ∙ i.1.spare;
        made = l.stays.made ∙ i.1.made;
      },
    )
