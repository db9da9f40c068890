use Rattle.std.proofs.Common.{◌∙◌, map, refl, sym, subst, arith}
use Rattle.std.proofs.lemmas.List.{length-map}
use Rattle.run_model.specs.Batches.{state_left}
use Rattle.run_model.specs.Stored.{LiveIn}
use Rattle.rv_runs.specs.Past.{batch_of_past}
use Rattle.rv_compact.specs.Compacted.{nodes_of}
use Rattle.relview.specs.OverTable.{AllNamed}
use Rattle.relview.specs.Between.{IsCarriedOn}
use Rattle.relview.proofs.Carrying.{live_named}
use Rattle.relview.proofs.Growing.{last_named, next_named, more_done, few_versions}
use Rattle.relview.proofs.batches.go_on.Goals as goal

pub carry_on-requires-clause-stand : goal.carry_on-requires-clause-stand
carry_on-requires-clause-stand g c =
    let d = c.requires.so_far in
    let bits = c.args.options.now.nodes in
    let live = c.in_ok-live.live.items in
    let named = last_named bits c.args.files.now c.args.options.now.turns d.scripts d.ends c.args.so_far d.is live c.in_ok-live.ensures in
    subst (λ ws. AllNamed (nodes_of ws) c.as_slice-2.result.now) (sym c.as_slice.ensures.value)
    (subst (AllNamed (nodes_of c.args.so_far.words.items)) (sym c.as_slice-2.ensures.value) named)

pub run_over_table-requires-clause-stand : goal.run_over_table-requires-clause-stand
run_over_table-requires-clause-stand g c κs within =
    let d = c.requires.so_far in
    let bits = c.args.options.now.nodes in
    let live = c.in_ok-live.live.items in
    let next = c.in_ok-next.next in
    let words = subst (λ ws. IsCarriedOn ws c.as_slice-2.result.now next) c.as_slice.ensures.value c.in_ok-next.ensures in
    let carried = subst (λ l. IsCarriedOn c.args.so_far.words.items l next) c.as_slice-2.ensures.value words in
    let there = next_named bits c.args.files.now c.args.options.now.turns d.scripts d.ends c.args.so_far d.is live next c.in_ok-live.ensures carried in
    let state = state_left (batch_of_past d.is.last) in
    live_named c.in_ok-table.seat.words next.names state (subst (λ ws. LiveIn ws next.names state) (sym c.in_ok-table.ensures.words_are) there)

pub run_over_table-requires-clause-counts : goal.run_over_table-requires-clause-counts
run_over_table-requires-clause-counts g c κs within name =
    let events = c.args.so_far.events in
    let same = c.requires.so_far.is.counted name in
    let few = few_versions name events.items in
    let long = events.ok.0 in
    let room = events.ok.1 in
    let small = events.small in
    omega (arith, same, few, long, room, small)

pub returns : goal.returns
returns g c scripts ends is next =
    let bits = c.args.options.now.nodes in
    let files = c.args.files.now in
    let turns = c.args.options.now.turns in
    let so_far = c.args.so_far in
    let more = map (λ v. v.items) c.args.scripts.now in
    let live = c.in_ok-live.live in
    let on = c.in_ok-next.next in
    let words = subst (λ ws. IsCarriedOn ws c.as_slice-2.result.now on) c.as_slice.ensures.value c.in_ok-next.ensures in
    let carried = subst (λ l. IsCarriedOn so_far.words.items l on) c.as_slice-2.ensures.value words in
    let long = length-map c.args.scripts.now (λ v. v.items) in
    let some = c.requires.some in
    more_done bits files turns scripts ends so_far is c.in_ok-table.table c.in_ok-table.seat c.seats_for-seats.result c.args.number more on c.in_ok-ran.ran
    (record { upto = c.len-upto.result; words = so_far.words; live = live }) _ next (omega (arith, long, some)) carried c.in_ok-live.ensures refl (c.len-upto.ensures ∙ so_far.events.ok.0)
    c.in_ok-table.ensures c.in_ok-ran.ensures c.in_ok-append.ensures.items c.in_ok-append-2.ensures.items c.in_ok-push.ensures.items refl refl refl
