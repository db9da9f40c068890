use Rattle.std.proofs.Common.{◌∙◌, ap, sym}
use Rattle.rv_workspace.specs.Books.{names_of}
use Rattle.rv_workspace.specs.Entering.{dropped}
use Rattle.rv_workspace.proofs.Keeping.{names_after_drop, stands_after_drop}
use Rattle.rv_workspace.proofs.Noting.{few_behind}
use Rattle.rv_workspace.proofs.book.Book.drop_name.Goals as goal

pub drop_one-requires : goal.drop_one-requires
drop_one-requires g c =
    let k = c.self.inside in
    record {
      few = few_behind k.names k.versions (record { names = k.first_names.value; versions = k.first_versions.value }) k.history.items c.self.invariant.0;
    }

pub invariant_of-self : goal.invariant_of-self
invariant_of-self g c =
    let r = c.drop_one.result in
    let n = c.args.name.now in
    let old = c.self.inside.history.items in
    let new = c.drop_one.new.history.items in
    let names = c.self.inside.first_names.value in
    let i = c.self.invariant in (
      record {
        names_left = c.drop_one.ensures.value ∙ ap (dropped n r) i.0.names_left ∙ sym (names_after_drop names r c.args.session c.args.command n old new c.drop_one.ensures.entered);
        versions_left = c.drop_one.ensures.versions c.self.inside.first_versions.value i.0.versions_left;
        few = i.0.few;
      },
      record {
        stand = stands_after_drop (g.E.Core.worker c.self.inside.archive) r c.args.session c.args.command n old new c.drop_one.ensures.entered i.1.stand;
        first_stand = i.1.first_stand;
        spare = i.1.spare;
        made = i.1.made;
      },
    )

pub returns-clause-names : goal.returns-clause-names
returns-clause-names g c =
    let r = c.drop_one.result in
    let n = c.args.name.now in
    names_after_drop c.self.inside.first_names.value r c.args.session c.args.command n c.self.inside.history.items c.drop_one.new.history.items c.drop_one.ensures.entered
    ∙ ap (λ k. dropped n r (names_of k)) c.self.view_is
