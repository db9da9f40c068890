-- The work of concurrent sessions: what is known of each before and after its session runs, and of all when they are
-- joined.
use Rattle.std.specs.Prelude.{◌≡◌, ◌<◌, ◌≤◌, ◌+◌, ◌-◌, ◌*◌, ℕ, List, [], ◌∷◌, length, slice_index_or, All, Option, IfSome}
use Rattle.rel_model.specs.Worker.{Worker}
use Rattle.rel_model.specs.Seats.{Holds}
use Rattle.run_model.specs.Inputs.{Input}
use Rattle.turn_book.specs.Views.{Book, House, Start, View, IsReady}
use Rattle.rv_sessions.specs.declared.transcript.Transcript.{Transcript}
use Rattle.rv_sessions.specs.Sessions.{RanBytes}
use Rattle.rv_runs.specs.declared.work.Work.{Work}

-- the bytes of the script of session number s, given the number of the first session
abbrev pub bytes_of : ℕ → List (List ℕ) → ℕ → List ℕ
bytes_of number scripts s = slice_index_or scripts (s - number) []

-- a session ran these bytes in a new worker and a new pass of its own
pub record HasRun (leaf : ℕ) (given : Input) (s : ℕ) (bytes : List ℕ) (own : Worker) (pass : View)
    (told : Transcript) : Type 0 where
  pub first : Worker
  pub before : View
  pub ran : RanBytes leaf given s bytes first own before pass told
  pub no_made : first.made ≡ 0
  pub no_misses : first.misses ≡ 0
  pub no_seen : before.seen ≡ []
  pub no_mine : before.mine ≡ []
  pub same_start : pass.start ≡ before.start

-- a worker was joined into another: everything that stood in it stands there, and if it had misses, so has the other
pub record IsAbsorbed (own all : Worker) : Type 0 where
  pub holds : Holds own all
  pub missed : 0 < own.misses → 0 < all.misses

-- all passes are split off
pub record SplitsAll (old new : View) : Type 0 where
  pub book : new.book ≡ old.book
  pub house : new.house ≡ old.house
  pub start : new.start ≡ old.start
  pub seen : new.seen ≡ old.seen
  pub mine : new.mine ≡ old.mine
  pub joined : new.joined ≡ old.joined
  pub turn : new.turn ≡ old.turn
  pub spare : new.spare ≡ 0

-- `count` workers with 64 spare ones each are split off
pub record SplitsWorkers (count : ℕ) (old new : Worker) : Type 0 where
  pub holds : Holds old new
  pub house : new.house ≡ old.house
  pub made : new.made ≡ old.made
  pub misses : new.misses ≡ old.misses
  pub spare : new.spare + 65 * count ≡ old.spare

module _ {E : Type 0} where
  -- sessions count from this number on, in order
  abbrev pub Numbered : ℕ → List (Work E) → Type 0
  Numbered number works = (k : ℕ) (d : Work E) → k < length works → (slice_index_or works k d).number ≡ k + number

  -- the passes of all works belong to one house
  abbrev pub HaveHouse : House → List (Work E) → Type 0
  HaveHouse house works = All (λ work. work.seat.pass.house ≡ house) works

  -- the passes of all works belong to a book that began like this
  abbrev pub HaveStart : Start → List (Work E) → Type 0
  HaveStart start works = All (λ work. work.seat.pass.start ≡ start) works

  -- the pass of a piece of work
  abbrev pub pass_of : Work E → View
  pass_of work = work.seat.pass

  -- what its session answered
  abbrev pub told_of : Work E → Option Transcript
  told_of work = work.told

  module _ (worker : E → Worker) where
    -- a piece of work before its session runs, in a batch of `count` sessions from this number on
    pub record IsFresh (book : Book) (first count : ℕ) (work : Work E) : Type 0 where
      pub ready : IsReady book work.seat.pass
      pub no_seen : work.seat.pass.seen ≡ []
      pub no_mine : work.seat.pass.mine ≡ []
      pub no_joined : work.seat.pass.joined ≡ []
      pub no_spare : work.seat.pass.spare ≡ 0
      pub kin : (worker work.seat.engine).house ≡ work.seat.pass.house
      pub seats : (worker work.seat.engine).spare ≡ 64
      pub no_made : (worker work.seat.engine).made ≡ 0
      pub no_misses : (worker work.seat.engine).misses ≡ 0
      pub from_first : first ≤ work.number
      pub at_most : work.number < first + count

    -- a piece of work that can be joined
    pub record CanJoin (book : Book) (work : Work E) : Type 0 where
      pub ready : IsReady book work.seat.pass
      pub no_joined : work.seat.pass.joined ≡ []
      pub no_spare : work.seat.pass.spare ≡ 0
      pub kin : (worker work.seat.engine).house ≡ work.seat.pass.house
      pub seats : (worker work.seat.engine).spare ≡ 64

    -- what its session answered follows from the bytes of its script
    abbrev pub RanWhereTold : ℕ → Input → ℕ → List (List ℕ) → Work E → Type 0
    RanWhereTold leaf given number scripts work = IfSome work.told
        (HasRun leaf given work.number (bytes_of number scripts work.number) (worker work.seat.engine) work.seat.pass)

    -- how many nodes the workers of works made
    abbrev pub made_by : List (Work E) → ℕ
    made_by [] = 0
    made_by (work ∷ works) = (worker work.seat.engine).made + made_by works

    -- the workers of works are joined into one
    pub record TakesAll (works : List (Work E)) (old new : Worker) : Type 0 where
      pub own : IsAbsorbed old new
      pub each : All (λ work. IsAbsorbed (worker work.seat.engine) new) works
      pub made : new.made ≡ old.made + made_by works
      pub spare : new.spare ≡ old.spare + 65 * length works
      pub house : new.house ≡ old.house
