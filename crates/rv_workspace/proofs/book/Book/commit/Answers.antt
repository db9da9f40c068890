use Rattle.std.proofs.Common.{◌∙◌, ap, sym, subst}
use Rattle.rv_workspace.specs.Books.{names_of}
use Rattle.rv_workspace.specs.Committing.{IsCommitAnswer, change_since, committed}
use Rattle.rv_workspace.proofs.Keeping.{gifts_learnt, archive_stands, archive_names}
use Rattle.rv_workspace.proofs.Changing.{names_after_commit, stands_after_commit}
use Rattle.rv_workspace.proofs.Noting.{few_behind}
use Rattle.rv_workspace.proofs.book.Book.commit.Goals as goal

pub commit_all-requires : goal.commit_all-requires
commit_all-requires g c =
    let k = c.self.inside in
    record {
      few = few_behind k.names k.versions (record { names = k.first_names.value; versions = k.first_versions.value }) k.history.items c.self.invariant.0;
    }

pub invariant_of-self : goal.invariant_of-self
invariant_of-self g c =
    let w = g.E.Core.worker in
    let t = c.commit_all in
    let s = c.args.session in
    let k = c.args.command in
    let gifts = c.args.list.items in
    let old = c.self.inside.history.items in
    let new = t.new.history.items in
    let i = c.self.invariant in
    let names = c.self.inside.first_names.value in
    let l = c.exchange.ensures.other in (
      record {
        names_left = t.ensures.value ∙ ap (committed gifts t.result) i.0.names_left ∙ sym (names_after_commit names t.result s k gifts old new t.ensures.entered);
        versions_left = t.ensures.versions c.self.inside.first_versions.value i.0.versions_left;
        few = i.0.few;
      },
      record {
        stand = stands_after_commit (w c.exchange.new.other) t.result s k gifts old new
            (gifts_learnt (w c.args.mine.now) (w c.exchange.new.other) gifts l.other_holds c.requires.stand) t.ensures.entered
            (archive_stands (w c.self.inside.archive) (w c.args.mine.now) (w c.exchange.new.other) old l i.1.stand);
        first_stand = archive_names (w c.self.inside.archive) (w c.args.mine.now) (w c.exchange.new.other) names l i.1.first_stand;
        spare = l.stays.keeps.spare ∙ i.1.spare;
        made = l.stays.made ∙ i.1.made;
      },
    )

pub returns-clause-names : goal.returns-clause-names
returns-clause-names g c =
    let t = c.commit_all in
    let gifts = c.args.list.items in
    names_after_commit c.self.inside.first_names.value t.result c.args.session c.args.command gifts c.self.inside.history.items t.new.history.items t.ensures.entered
    ∙ ap (λ k. committed gifts t.result (names_of k)) c.self.view_is

pub returns-clause-answer : goal.returns-clause-answer
returns-clause-answer g c =
    let r = c.commit_all.result in
    subst (λ k. IsCommitAnswer (change_since k.first.versions c.args.reads.now k.history) r) c.self.view_is
    (c.commit_all.ensures.answer c.self.inside.first_versions.value c.self.invariant.0.versions_left)
