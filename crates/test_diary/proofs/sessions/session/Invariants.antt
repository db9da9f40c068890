use Rattle.test_diary.specs.Runs.{Enters}
use Rattle.test_diary.proofs.sessions.session.Given as goal

abbrev pub invariant-commands : goal.invariant-commands
invariant-commands g l = Enters l.fn.number l.command l.fn.pass l.pass
