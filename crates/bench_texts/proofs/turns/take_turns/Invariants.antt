use Rattle.turn_book.specs.Views.{IsReady}
use Rattle.bench_texts.proofs.turns.take_turns.Given as goal

abbrev pub invariant-turns : goal.invariant-turns
invariant-turns g l = IsReady l.fn.book l.pass
