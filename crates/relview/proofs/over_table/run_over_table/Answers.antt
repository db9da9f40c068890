use Rattle.std.proofs.Common.{◌∙◌, ap, map, sym, subst, arith}
use Rattle.rel_model.specs.Trees.{bottom_height}
use Rattle.rel_model.specs.Quads.{Keeper}
use Rattle.fork_quads.specs.Crew.{worker_of}
use Rattle.run_model.specs.Versions.{noted}
use Rattle.run_model.specs.Carried.{First}
use Rattle.rv_workspace.specs.Books.{AllNamesStand}
use Rattle.rv_runs.specs.Parts.{CameToEnd}
use Rattle.relview.specs.declared.over_table.OverTable.{OverTable}
use Rattle.relview.proofs.Holding.{of_table, whole_table, named_stand, ran_over}
use Rattle.relview.proofs.over_table.run_over_table.Goals as goal

pub run_batch-requires-clause-stand : goal.run_batch-requires-clause-stand
run_batch-requires-clause-stand g c κs within =
    subst (λ w. AllNamesStand (worker_of w) c.args.names) (sym (c.new-works.ensures ∙ c.new-crew.ensures)) (named_stand c.args.table c.args.seat c.args.names c.requires.stand)

pub run_batch-requires-clause-misses : goal.run_batch-requires-clause-misses
run_batch-requires-clause-misses g c κs within = ap (λ (w : Keeper). w.misses) (c.new-works.ensures ∙ c.new-crew.ensures) ∙ c.requires.none_refused

pub close-requires-clause-of : goal.close-requires-clause-of
unfolding bottom_height
close-requires-clause-of g c =
    let ended = c.in_ok-ended.ended in
    let first : First = record { names = c.args.names; versions = c.args.versions } in
    let came = subst (λ w. CameToEnd bottom_height (map (λ v. v.items) c.args.scripts.now) c.args.number c.args.files.now c.args.options.now.turns first (worker_of w) (worker_of ended.engine)
    ended.events.items ended.told.items ended.names (noted ended.versions)) (c.new-works.ensures ∙ c.new-crew.ensures) c.in_ok-ended.ensures in
    of_table c.args.table c.args.seat c.into_seat-seat.result ended.engine came.house c.into_seat-seat.ensures.of

pub close-requires-clause-whole : goal.close-requires-clause-whole
unfolding bottom_height
close-requires-clause-whole g c =
    let ended = c.in_ok-ended.ended in
    let first : First = record { names = c.args.names; versions = c.args.versions } in
    let came = subst (λ w. CameToEnd bottom_height (map (λ v. v.items) c.args.scripts.now) c.args.number c.args.files.now c.args.options.now.turns first (worker_of w) (worker_of ended.engine)
    ended.events.items ended.told.items ended.names (noted ended.versions)) (c.new-works.ensures ∙ c.new-crew.ensures) c.in_ok-ended.ensures in
    let seats = c.requires.seats in
    let spare = c.requires.spare in
    whole_table c.args.table c.args.seat c.into_seat-seat.result ended.engine (omega (arith, seats, spare)) came.spare c.into_seat-seat.ensures.view

pub returns : goal.returns
unfolding bottom_height
returns g c =
    let table = c.args.table in
    let seat = c.args.seat in
    let ended = c.in_ok-ended.ended in
    let last = c.into_seat-seat in
    let first : First = record { names = c.args.names; versions = c.args.versions } in
    let scripts = map (λ v. v.items) c.args.scripts.now in
    let came = subst (λ w. CameToEnd bottom_height scripts c.args.number c.args.files.now c.args.options.now.turns first (worker_of w) (worker_of ended.engine)
    ended.events.items ended.told.items ended.names (noted ended.versions)) (c.new-works.ensures ∙ c.new-crew.ensures) c.in_ok-ended.ensures in
    let of = of_table table seat last.result ended.engine came.house last.ensures.of in
    let ran : OverTable = record { events = ended.events; told = ended.told; names = ended.names; versions = ended.versions; words = c.in_ok-words.words } in
    ran_over c.args.options.now.nodes table seat last.result ended.engine scripts c.args.number c.args.files.now c.args.options.now.turns first ran c.requires.size came last.ensures.view of
    last.ensures.full c.in_ok-words.ensures.closed
