-- The work of one thread.
use Rattle.turn_book.specs.Views.{Book, IsReady}
use Rattle.bench_texts.specs.declared.turns.Work.{Work}

-- its pass belongs to the book, and does not have the turn
abbrev pub IsWork : Book → Work → Type 0
IsWork book work = IsReady book work.pass
