-- All passes are joined, so the book can be closed; and what its sessions told makes the end of the batch.
use Rattle.std.proofs.Common.{rules, ◌≡◌, ◌∙◌, true, List, length, map, sym, subst, ap}
use Rattle.std.proofs.lemmas.List.{length-map}
use Rattle.run_model.specs.declared.event.Event.{Event}
use Rattle.run_model.specs.Carried.{First}
use Rattle.run_model.specs.Versions.{noted}
use Rattle.turn_book.specs.Logs.{MakeUp}
use Rattle.turn_book.specs.Views.{lists_of}
use Rattle.rv_workspace.specs.Starts.{start_of, first_of}
use Rattle.rv_workspace.proofs.Starting.{first_of-start_of}
use Rattle.rv_runs.specs.Works.{SplitsWorkers}
use Rattle.rv_runs.proofs.Joining.{one_place_each, all_began, starts_stay}
use Rattle.rv_runs.proofs.Collecting.{came_to, book_left}
use Rattle.rv_runs.proofs.batch.run_batch.Goals as goal

pub close-requires-clause-whole : goal.close-requires-clause-whole
close-requires-clause-whole g c =
    let j = c.join_all-whole.ensures.joins.spare in
    let p = one_place_each g.E.Core.worker c.in-Ok-make.book c.run_works.new.works.items c.run_works.ensures.joins in
    search rules

pub returns : goal.returns
returns g c =
    let worker = g.E.Core.worker in
    let first : First = record { names = c.args.names; versions = c.args.versions } in
    let works = c.run_works.new.works.items in
    let told = c.join_all-whole.new.told.items in
    let log = c.into_parts-archive.result.1.items in
    let parts = c.into_parts-archive.ensures in
    let whole : c.join_all-whole.result ≡ true = search rules in
    let pass = c.in-Ok-make.pass in
    let begins : pass.start ≡ start_of first = search rules in
    let same : length works ≡ length c.split_all.new.works.items = search rules in
    let long : length works ≡ length c.args.scripts.now = search rules in
    came_to worker g.E.Core.least (map (λ v. v.items) c.args.scripts.now) c.args.number c.args.files.now c.args.turns first
    c.in-Ok-make.book works told c.split_all.new.pass c.join_all-whole.new.pass log c.into_parts-archive.result.2 (noted c.into_parts-archive.result.3)
    (worker c.args.engine) (worker c.split-archive.new.self) (worker c.split_all.new.engine) (worker c.join_all-whole.new.engine)
    (worker c.split-archive.result) (worker c.join.new.self) c.into_parts-archive.result.0
    (record {
      ran = c.run_works.ensures.ran;
      joins = c.run_works.ensures.joins;
      numbers = c.run_works.ensures.numbers;
      starts = all_began pass.start first works (ap first_of begins ∙ first_of-start_of first)
          (starts_stay pass.start c.split_all.new.works.items works c.split_all.ensures.starts same c.run_works.ensures.starts);
      long = long ∙ sym (length-map c.args.scripts.now (λ v. v.items));
      all_told = c.join_all-whole.ensures.told whole;
      no_mine = search rules;
      no_joined = search rules;
      joined = c.join_all-whole.ensures.joins;
      seen = parts.history ∙ c.close.ensures.log;
      makes = subst (λ (l : List Event). MakeUp (lists_of c.join_all-whole.new.pass) l) (sym parts.history) c.close.ensures.shared;
    })
    (record {
      archive_split = c.split-archive.ensures;
      splits = subst (λ n. SplitsWorkers n (worker c.split-archive.new.self) (worker c.split_all.new.engine)) (sym long) c.split_all.ensures.workers;
      takes = c.join_all-whole.ensures.takes;
      archive_joins = c.join.ensures;
      first_stood = c.requires.stand;
    })
    (book_left worker first c.close.result c.into_parts-archive.result.0 log c.into_parts-archive.result.2 (noted c.into_parts-archive.result.3) parts.book
    (c.close.ensures.start ∙ (search rules)) parts.archive parts.history parts.names parts.versions)
