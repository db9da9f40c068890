use Rattle.std.proofs.Common.{◌∙◌, length, map, sym, ap, subst, arith}
use Rattle.std.specs.Prelude.{All, IsTrue}
use Rattle.std.specs.String.{string_bytes}
use Rattle.run_model.specs.Inputs.{Rise}
use Rattle.rv_words.specs.Shown.{texts, shown}
use Rattle.rv_ends.specs.Given.{GivesFiles, IsHalted}
use Rattle.rv_ends.specs.Writing.{sunk}
use Rattle.relview.specs.Top.{AnswersGiven}
use Rattle.rv_ends.proofs.Limits.{IsShort}
use Rattle.rv_ends.proofs.Wording.{words_told}
use Rattle.relview.proofs.Naming.{IsNamed, of_names, nodes_low, nodes_high, workers_some, workers_few, named_some, named_few, named_short, named_ends, named_gives}
use Rattle.relview.proofs.Reporting.{answers, answers_stopped}
use Rattle.relview.proofs.Stopping.{reading_puts_none, first_of}
use Rattle.relview.proofs.top.run_named.Goals as goal

pub read_files-requires : goal.read_files-requires
read_files-requires g c =
    let may = (g.S.Shelf.told c.args.shelf.now).may_pick in
    subst (λ ns. All (λ name. IsTrue (may (string_bytes name))) ns) (sym c.as_slice.ensures.value) (of_names (λ w. IsTrue (may w)) c.args.options.now.files.items c.requires.may_pick)

pub run_given-requires-clause-low : goal.run_given-requires-clause-low
run_given-requires-clause-low g c κs within = nodes_low c.requires.taken.0 c.args.options.now c.requires.taken.1

pub run_given-requires-clause-high : goal.run_given-requires-clause-high
run_given-requires-clause-high g c κs within = nodes_high c.requires.taken.0 c.args.options.now c.requires.taken.1

pub run_given-requires-clause-manned : goal.run_given-requires-clause-manned
run_given-requires-clause-manned g c κs within = workers_some c.requires.taken.0 c.args.options.now c.requires.taken.1

pub run_given-requires-clause-crew : goal.run_given-requires-clause-crew
run_given-requires-clause-crew g c κs within = workers_few c.requires.taken.0 c.args.options.now c.requires.taken.1

pub run_given-requires-clause-some : goal.run_given-requires-clause-some
run_given-requires-clause-some g c κs within =
    let o = c.args.options.now in
    let so = g.S.Shelf.told c.args.shelf.now in
    let mid = g.S.Shelf.told c.read_files.new.shelf in
    let given = c.in-Ok.given in
    let words = c.requires.taken.0 in
    let n : IsNamed words o so mid given = (record {
      taken = c.requires.taken.1;
      number = c.requires.number;
      gives = subst (λ xs. GivesFiles so.files (texts xs) given) c.as_slice.ensures.value c.in-Ok.ensures.given;
      leaves = c.read_files.ensures.leaves;
    }) in
    let e = ap length c.as_slice-in-Ok-2.ensures.value in
    let some = named_some words o so mid given n in
    omega (arith, e, some)

pub run_given-requires-clause-few : goal.run_given-requires-clause-few
run_given-requires-clause-few g c κs within =
    let o = c.args.options.now in
    let so = g.S.Shelf.told c.args.shelf.now in
    let mid = g.S.Shelf.told c.read_files.new.shelf in
    let given = c.in-Ok.given in
    let words = c.requires.taken.0 in
    let n : IsNamed words o so mid given = (record {
      taken = c.requires.taken.1;
      number = c.requires.number;
      gives = subst (λ xs. GivesFiles so.files (texts xs) given) c.as_slice.ensures.value c.in-Ok.ensures.given;
      leaves = c.read_files.ensures.leaves;
    }) in
    let e = ap length c.as_slice-in-Ok-2.ensures.value in
    let few = named_few words o so mid given n in
    omega (arith, e, few)

pub run_given-requires-clause-limits : goal.run_given-requires-clause-limits
run_given-requires-clause-limits g c κs within =
    let o = c.args.options.now in
    let so = g.S.Shelf.told c.args.shelf.now in
    let mid = g.S.Shelf.told c.read_files.new.shelf in
    let given = c.in-Ok.given in
    let words = c.requires.taken.0 in
    let n : IsNamed words o so mid given = (record {
      taken = c.requires.taken.1;
      number = c.requires.number;
      gives = subst (λ xs. GivesFiles so.files (texts xs) given) c.as_slice.ensures.value c.in-Ok.ensures.given;
      leaves = c.read_files.ensures.leaves;
    }) in
    subst (λ vs. All IsShort vs) (sym c.as_slice-in-Ok-2.ensures.value) (named_short words o so mid given n)

pub run_given-requires-clause-ends : goal.run_given-requires-clause-ends
run_given-requires-clause-ends g c κs within =
    let o = c.args.options.now in
    let so = g.S.Shelf.told c.args.shelf.now in
    let mid = g.S.Shelf.told c.read_files.new.shelf in
    let given = c.in-Ok.given in
    let words = c.requires.taken.0 in
    let n : IsNamed words o so mid given = (record {
      taken = c.requires.taken.1;
      number = c.requires.number;
      gives = subst (λ xs. GivesFiles so.files (texts xs) given) c.as_slice.ensures.value c.in-Ok.ensures.given;
      leaves = c.read_files.ensures.leaves;
    }) in
    subst (λ es. Rise 0 (length c.as_slice-in-Ok-2.result.now) es) (sym c.as_slice-in-Ok.ensures.value)
    (subst (λ vs. Rise 0 (length vs) o.ends.items) (sym c.as_slice-in-Ok-2.ensures.value) (named_ends words o so mid given n))

pub returns-in-Ok : goal.returns-in-Ok
returns-in-Ok g c words taken =
    let o = c.args.options.now in
    let so = g.S.Shelf.told c.args.shelf.now in
    let mid = g.S.Shelf.told c.read_files.new.shelf in
    let given = c.in-Ok.given in
    let n : IsNamed words o so mid given = (record {
      taken = taken;
      number = c.requires.number;
      gives = subst (λ xs. GivesFiles so.files (texts xs) given) c.as_slice.ensures.value c.in-Ok.ensures.given;
      leaves = c.read_files.ensures.leaves;
    }) in
    let last = g.S.Shelf.told c.run_given.new.shelf in
    let old = sunk (g.K.Sink.written c.args.sink.now) (g.K.Sink.faults c.args.sink.now) in
    let new = sunk (g.K.Sink.written c.run_given.new.sink) (g.K.Sink.faults c.run_given.new.sink) in
    let report = c.run_given.result in
    let placed = subst (λ es. AnswersGiven o.nodes (map (λ v. v.items) c.as_slice-in-Ok-2.result.now) c.as_slice-in-Ok-3.result.now o.turns o.history es mid last old new report) c.as_slice-in-Ok.ensures.value c.run_given.ensures in
    let first = subst (λ vs. AnswersGiven o.nodes (map (λ v. v.items) vs) c.as_slice-in-Ok-3.result.now o.turns o.history o.ends.items mid last old new report) c.as_slice-in-Ok-2.ensures.value placed in
    let both = subst (λ fs. AnswersGiven o.nodes (map (λ v. v.items) given.scripts.items) fs o.turns o.history o.ends.items mid last old new report) c.as_slice-in-Ok-3.ensures.value first in
    answers words (shown o) so mid last old new (map (λ v. v.items) given.scripts.items) given.files.items o.ends.items report (named_gives words o so mid given n) both

pub returns-in-Err : goal.returns-in-Err
returns-in-Err g c words taken =
    let so = g.S.Shelf.told c.args.shelf.now in
    let mid = g.S.Shelf.told c.read_files.new.shelf in
    let o = c.args.options.now in
    let halt = c.in-Err.halt in
    let halted = subst (λ ns. IsHalted so mid ns halt) (ap texts c.as_slice.ensures.value ∙ sym (words_told words (shown o) taken)) c.in-Err.ensures.halted in
    answers_stopped words so mid _ _ c.refuse_file.result c.refuse_file.ensures.ran
    (c.refuse_file.ensures.stopped words so mid (reading_puts_none so mid c.read_files.ensures.leaves) (first_of words (shown o) so mid halt taken halted) halted.refused)
