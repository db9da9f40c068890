use Rattle.std.proofs.Common.{◌≡◌, ◌∙◌, ◌∷◌, [], refl, subst}
use Rattle.std.specs.Prelude.{OnOk}
use Rattle.rv_workspace.specs.Books.{names_of}
use Rattle.name_map.specs.Giving.{set_all}
use Rattle.run_model.specs.Carried.{carried_from}
use Rattle.rv_workspace.proofs.Keeping.{names_after_gifts, in_step_after_gifts, stands_after_gifts, one_gift, held_stands, archive_stands, archive_names}
use Rattle.rv_workspace.proofs.Noting.{few_behind}
use Rattle.rv_workspace.proofs.book.Book.assign.Goals as goal

pub give_one-requires : goal.give_one-requires
give_one-requires g c =
    let k = c.self.inside in
    record {
      few = few_behind k.names k.versions (record { names = k.first_names.value; versions = k.first_versions.value }) k.history.items c.self.invariant.0;
    }

pub invariant_of-self : goal.invariant_of-self
invariant_of-self g c =
    let w = g.E.Core.worker in
    let t = c.give_one in
    let s = c.args.session in
    let k = c.args.command in
    let gifts = (c.args.name, c.args.rel) ∷ [] in
    let old = c.self.inside.history.items in
    let new = t.new.history.items in
    let i = c.self.invariant in
    let names = c.self.inside.first_names.value in
    let l = c.exchange.ensures.other in (
      record {
        names_left = in_step_after_gifts names t.result s k gifts c.self.inside.names t.new.names old new i.0.names_left t.ensures.value t.ensures.err t.ensures.entered t.ensures.err_history;
        versions_left = t.ensures.versions c.self.inside.first_versions.value i.0.versions_left;
        few = i.0.few;
      },
      record {
        stand = stands_after_gifts (w c.exchange.new.other) t.result s k gifts old new
            (one_gift (w c.exchange.new.other) [] gifts (c.args.name, c.args.rel) refl refl (held_stands (w c.args.mine.now) (w c.exchange.new.other) c.args.rel l.other_holds c.requires.stands)) t.ensures.entered t.ensures.err_history
            (archive_stands (w c.self.inside.archive) (w c.args.mine.now) (w c.exchange.new.other) old l i.1.stand);
        first_stand = archive_names (w c.self.inside.archive) (w c.args.mine.now) (w c.exchange.new.other) names l i.1.first_stand;
        spare = l.stays.keeps.spare ∙ i.1.spare;
        made = l.stays.made ∙ i.1.made;
      },
    )

pub returns-clause-names : goal.returns-clause-names
returns-clause-names g c =
    let t = c.give_one in
    subst (λ k. OnOk t.result (carried_from c.self.inside.first_names.value t.new.history.items ≡ set_all ((c.args.name, c.args.rel) ∷ []) (names_of k))) c.self.view_is
    (names_after_gifts c.self.inside.first_names.value t.result c.args.session c.args.command ((c.args.name, c.args.rel) ∷ []) c.self.inside.history.items t.new.history.items t.ensures.entered)
