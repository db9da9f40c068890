-- What holds of the seat of a session before each of its commands.
use Rattle.std.specs.Prelude.{◌≡◌}
use Rattle.rel_model.specs.Worker.{Worker}
use Rattle.turn_book.specs.Views.{Book, IsReady}
use Rattle.rv_sessions.specs.declared.seat.Seat.{Seat}

module _ {E : Type 0} (worker : E → Worker) where
  -- a seat at this book: its pass is ready for a turn, and its engine belongs to the house of the book
  pub record IsSeated (book : Book) (seat : Seat E) : Type 0 where
    pub ready : IsReady book seat.pass
    pub kin : seat.pass.house ≡ (worker seat.engine).house
