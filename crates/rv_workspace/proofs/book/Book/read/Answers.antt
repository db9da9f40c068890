use Rattle.std.proofs.Common.{◌≡◌, ◌∙◌, ap, sym, subst}
use Rattle.std.specs.Prelude.{IfOk}
use Rattle.std.specs.Option.{option_map}
use Rattle.run_model.specs.Carried.{Carried}
use Rattle.rv_workspace.specs.Books.{names_of}
use Rattle.rv_workspace.specs.Picking.{picked}
use Rattle.rv_workspace.proofs.Keeping.{names_after_read, stands_after_read, view_stands, archive_stands, archive_names}
use Rattle.rv_workspace.proofs.Noting.{versions_after_read}
use Rattle.rv_workspace.proofs.book.Book.read.Goals as goal

pub invariant_of-self : goal.invariant_of-self
invariant_of-self g c =
    let w = g.E.Core.worker in
    let t = c.take_view in
    let old = c.self.inside.history.items in
    let i = c.self.invariant in
    let first = c.self.inside.first_versions.value in
    let names = c.self.inside.first_names.value in
    let l = c.exchange.ensures.other in (
      record {
        names_left = i.0.names_left ∙ sym (names_after_read names t.result c.args.session c.args.command old t.new.history.items t.ensures.entered t.ensures.err);
        versions_left = i.0.versions_left ∙ sym (versions_after_read first t.result c.args.session c.args.command old t.new.history.items t.ensures.entered t.ensures.err);
        few = i.0.few;
      },
      record {
        stand = stands_after_read (w c.exchange.new.other) t.result c.args.session c.args.command old t.new.history.items t.ensures.entered t.ensures.err
            (archive_stands (w c.self.inside.archive) (w c.args.mine.now) (w c.exchange.new.other) old l i.1.stand);
        first_stand = archive_names (w c.self.inside.archive) (w c.args.mine.now) (w c.exchange.new.other) names l i.1.first_stand;
        spare = l.stays.keeps.spare ∙ i.1.spare;
        made = l.stays.made ∙ i.1.made;
      },
    )

pub returns-clause-names : goal.returns-clause-names
returns-clause-names g c =
    subst (λ (n : Carried). IfOk c.take_view.result (λ v. v.names.items ≡ picked (option_map (λ x. x.now) c.args.wanted) n))
    (c.self.invariant.0.names_left ∙ ap names_of c.self.view_is) c.take_view.ensures.value

pub returns-clause-stand : goal.returns-clause-stand
returns-clause-stand g c =
    let w = g.E.Core.worker in
    view_stands w c.args.self.now c.self.inside.archive (w c.exchange.new.mine) c.self.inside.first_names.value c.self.inside.history.items c.take_view.result c.self.inside.names (option_map (λ x. x.now) c.args.wanted)
    (ap (λ k. k.archive) c.self.view_is) c.self.invariant.0.names_left c.self.invariant.1.first_stand c.self.invariant.1.stand c.exchange.ensures.mine.other_holds c.take_view.ensures.value

pub returns-clause-same_names : goal.returns-clause-same_names
returns-clause-same_names g c =
    let t = c.take_view in
    names_after_read c.self.inside.first_names.value t.result c.args.session c.args.command c.self.inside.history.items t.new.history.items t.ensures.entered t.ensures.err
    ∙ ap names_of c.self.view_is
