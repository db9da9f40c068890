use Rattle.std.proofs.Common.{arith, ◌≡◌, ◌∙◌, ◌-◌, map, sym, subst}
use Rattle.std.specs.Prelude.{IfSome}
use Rattle.rv_sessions.specs.Telling.{input_of}
use Rattle.rv_runs.specs.Works.{HasRun, bytes_of}
use Rattle.rv_runs.proofs.Told.{has_run, bytes_at}
use Rattle.rv_runs.proofs.work.run_work.Goals as goal

pub returns-clause-joins : goal.returns-clause-joins
returns-clause-joins g c =
    let kept = c.run-ran.ensures.kept in
    let keeps = c.run-ran.ensures.keeps in
    let fresh = c.requires.fresh in
    record {
      ready = record { of = kept.book ∙ fresh.ready.of; idle = kept.turn ∙ fresh.ready.idle };
      no_joined = kept.joined ∙ fresh.no_joined;
      no_spare = kept.spare ∙ fresh.no_spare;
      kin = keeps.house ∙ (fresh.kin ∙ sym kept.house);
      seats = keeps.spare ∙ fresh.seats;
    }

pub returns-clause-ran : goal.returns-clause-ran
returns-clause-ran g c =
    let fresh = c.requires.fresh in
    let s = c.args.work.now.number in
    let given = input_of c.args.files.now c.args.turns in
    let own = g.E.Core.worker c.run-ran.new.seat.engine in
    let bytes = bytes_of c.args.number (map (λ v. v.items) c.args.scripts.now) s in
    let script : c.as_slice-script.result.now ≡ bytes =
    c.as_slice-script.ensures.value ∙ bytes_at c.args.scripts.now (s - c.args.number) c.index-scripts-work.result _ (omega (arith, fresh.from_first, fresh.at_most)) c.index-scripts-work.is in
    subst (λ told. IfSome told (HasRun g.E.Core.least given s bytes own c.run-ran.new.seat.pass)) (sym c.ok.ensures.value)
    (has_run g.E.Core.least given s bytes c.as_slice-script.result.now (g.E.Core.worker c.args.work.now.seat.engine) own c.args.work.now.seat.pass c.run-ran.new.seat.pass c.run-ran.result
    script fresh.no_made fresh.no_misses fresh.no_seen fresh.no_mine (let kept = c.run-ran.ensures.kept in kept.start) c.run-ran.ensures.ran)

pub returns-clause-house : goal.returns-clause-house
returns-clause-house g c = let kept = c.run-ran.ensures.kept in kept.house

pub returns-clause-start : goal.returns-clause-start
returns-clause-start g c = let kept = c.run-ran.ensures.kept in kept.start
