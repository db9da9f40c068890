use Rattle.std.proofs.Common.{◌∙◌, ◌∷◌, [], length, map, sym, ap, subst, arith}
use Rattle.std.proofs.lemmas.List.{length-map}
use Rattle.std.specs.Prelude.{All}
use Rattle.rv_words.specs.Shown.{shown}
use Rattle.rv_ends.specs.Writing.{sunk}
use Rattle.rv_ends.proofs.Limits.{IsShort, made_short, eight}
use Rattle.relview.specs.Top.{AnswersGiven}
use Rattle.relview.proofs.Naming.{gen_gives}
use Rattle.relview.proofs.Reporting.{answers}
use Rattle.relview.proofs.top.run_generated.Goals as goal

pub count_of-requires : goal.count_of-requires
count_of-requires g c = record {
  few = (let e = ap length c.as_slice.ensures.value in let n = eight c.in-Ok.scripts.items c.args.number c.in-Ok.ensures in omega (arith, e, n));
}

pub run_given-requires-clause-some : goal.run_given-requires-clause-some
run_given-requires-clause-some g c κs within =
    let e = ap length c.as_slice-in-Ok.ensures.value in
    let n = eight c.in-Ok.scripts.items c.args.number c.in-Ok.ensures in
    omega (arith, e, n)

pub run_given-requires-clause-few : goal.run_given-requires-clause-few
run_given-requires-clause-few g c κs within =
    let e = ap length c.as_slice-in-Ok.ensures.value in
    let n = eight c.in-Ok.scripts.items c.args.number c.in-Ok.ensures in
    omega (arith, e, n)

pub run_given-requires-clause-limits : goal.run_given-requires-clause-limits
run_given-requires-clause-limits g c κs within = subst (λ vs. All IsShort vs) (sym c.as_slice-in-Ok.ensures.value) (made_short c.in-Ok.scripts.items c.args.number c.in-Ok.ensures)

pub run_given-requires-clause-ends : goal.run_given-requires-clause-ends
run_given-requires-clause-ends g c κs within =
    let count = c.count_of.ensures in
    let e = ap length c.as_slice.ensures.value in
    let f = ap length c.as_slice-in-Ok.ensures.value in
    let n = eight c.in-Ok.scripts.items c.args.number c.in-Ok.ensures in
    (omega (arith, count, e, n), omega (arith, count, e, f))

pub returns-in-Ok : goal.returns-in-Ok
returns-in-Ok g c words taken =
    let o = c.args.options.now in
    let so = g.S.Shelf.told c.args.shelf.now in
    let last = g.S.Shelf.told c.run_given.new.shelf in
    let old = sunk (g.K.Sink.written c.args.sink.now) (g.K.Sink.faults c.args.sink.now) in
    let new = sunk (g.K.Sink.written c.run_given.new.sink) (g.K.Sink.faults c.run_given.new.sink) in
    let report = c.run_given.result in
    let scripts = c.in-Ok.scripts.items in
    let count = c.count_of.ensures ∙ ap length c.as_slice.ensures.value ∙ sym (length-map scripts (λ v. v.items)) in
    let first = subst (λ vs. AnswersGiven o.nodes (map (λ v. v.items) vs) [] o.turns o.history (c.count_of.result ∷ []) so last old new report) c.as_slice-in-Ok.ensures.value c.run_given.ensures in
    let placed = subst (λ n. AnswersGiven o.nodes (map (λ v. v.items) scripts) [] o.turns o.history (n ∷ []) so last old new report) count first in
    answers words (shown o) so so last old new (map (λ v. v.items) scripts) [] (length (map (λ v. v.items) scripts) ∷ []) report
    (gen_gives words o c.args.number so scripts taken c.requires.number c.requires.none c.in-Ok.ensures) placed
