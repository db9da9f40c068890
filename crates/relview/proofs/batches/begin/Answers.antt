use Rattle.std.proofs.Common.{◌∷◌, [], map, refl, subst, arith}
use Rattle.std.proofs.lemmas.List.{length-map}
use Rattle.relview.specs.declared.batches.SoFar.{SoFar}
use Rattle.relview.specs.OverTable.{RanOver}
use Rattle.relview.specs.Batches.{IsSoFar}
use Rattle.relview.proofs.Growing.{first_done}
use Rattle.relview.proofs.batches.begin.Goals as goal

pub returns : goal.returns
returns g c =
    let bits = c.args.options.now.nodes in
    let files = c.args.files.now in
    let turns = c.args.options.now.turns in
    let scripts = map (λ v. v.items) c.args.scripts.now in
    let seat = c.in_ok-table.seat in
    let ran = c.in_ok-ran.ran in
    let long = length-map c.args.scripts.now (λ v. v.items) in
    let some = c.requires.some in
    let named = subst (λ ns. RanOver bits scripts 1 files turns (record { names = ns; versions = c.new-versions.result }) seat ran) c.new-names.ensures c.in_ok-ran.ensures in
    let began = subst (λ vs. RanOver bits scripts 1 files turns (record { names = []; versions = vs }) seat ran) c.new-versions.ensures named in
    let so_far : SoFar = record { events = ran.events; told = ran.told; old = c.new.result; words = ran.words; names = ran.names; versions = ran.versions } in
    subst (λ n. IsSoFar bits files turns scripts (n ∷ []) so_far) long
    (first_done bits c.seats_for-seats.result c.in_ok-table.table seat scripts files turns ran so_far c.in_ok-table.ensures began (omega (arith, long, some)) refl refl c.new.ensures.items refl refl refl)
