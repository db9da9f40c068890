-- What each kind of step adds to the view of the pass that takes it.
use Rattle.std.specs.Prelude.{◌≡◌, ◌≢◌, ◌<◌, ◌^◌, ℕ, true, false, List, [], ◌∷◌, ◌++◌, length, drop, Option, Some, None}
use Rattle.atomic_table.specs.Table.{Me, Step}
use Rattle.turn_book.specs.Entries.{Entry}
use Rattle.turn_book.specs.declared.rule.Known.{Known}
use Rattle.turn_book.specs.Logs.{Begins}
use Rattle.turn_book.specs.Origins.{Origin}

module _ {S : Type 0} where
  -- a ticket is drawn
  abbrev pub drawn : ℕ → Known S → Known S
  drawn t v = record {
    origin = v.origin;
    parts = v.parts;
    ticket = Some t;
    turn = false;
    seen = v.seen;
    told = v.told;
    mine = v.mine;
    joined = v.joined;
  }

  -- the turn has come, and the value's log is seen
  abbrev pub holding : List Entry → Known S → Known S
  holding log v = record {
    origin = v.origin;
    parts = v.parts;
    ticket = v.ticket;
    turn = true;
    seen = log;
    told = v.told;
    mine = v.mine;
    joined = v.joined;
  }

  -- the value is put back, with the entries that were added
  abbrev pub given : List Entry → Known S → Known S
  given log v = record {
    origin = v.origin;
    parts = v.parts;
    ticket = None;
    turn = false;
    seen = log;
    told = v.told;
    mine = v.mine ++ drop (length v.seen) log;
    joined = v.joined;
  }

  -- after a join, the shorter log is known to be a prefix of the longer one, and is dropped
  abbrev pub settled : Known S → Known S
  settled v = record {
    origin = v.origin;
    parts = v.parts;
    ticket = v.ticket;
    turn = v.turn;
    seen = v.seen;
    told = [];
    mine = v.mine;
    joined = v.joined;
  }

  -- a ticket is drawn; its number is the one found
  abbrev pub draw_tells : Step (Option S) → Me (Option S) (Known S) → ℕ → Me (Option S) (Known S) → Type 0
  draw_tells s m found n = n ≡ (drawn found m.0, m.1)

  -- a ticket is drawn if the next number is this one; otherwise nothing changes
  pub record DrawWhereTells (number : ℕ) (m : Me (Option S) (Known S)) (found : ℕ)
      (n : Me (Option S) (Known S)) : Type 0 where
    pub there : found ≡ number → n ≡ (drawn number m.0, m.1)
    pub gone : found ≢ number → n ≡ m

  -- the same for the step
  abbrev pub draw_where_tells : Step (Option S) → Me (Option S) (Known S) → ℕ → Me (Option S) (Known S) → Type 0
  draw_where_tells s m found n = DrawWhereTells s.first m found n

  -- the value is taken: what was seen is a prefix of its log, and it has the book's origin
  abbrev pub TakesValue : (S → List Entry) → (S → Origin) → Me (Option S) (Known S) → Me (Option S) (Known S) → Type 0
  TakesValue log origin m n = (y : S) × (n ≡ (holding (log y) m.0, (0, Some y) ∷ m.1)) × Begins m.0.seen (log y)
      × ((x : S) → m.0.origin ≡ Some x → origin y ≡ origin x)

  -- a look at the number being served: if it is the pass's own ticket, the value is taken, and what was seen is a
  -- prefix of its log; otherwise nothing changes
  pub record LookTells (log : S → List Entry) (origin : S → Origin) (m : Me (Option S) (Known S)) (found : ℕ)
      (n : Me (Option S) (Known S)) : Type 0 where
    pub own : m.0.ticket ≡ Some found → TakesValue log origin m n
    pub other : m.0.ticket ≢ Some found → n ≡ m

  abbrev pub look_tells : (S → List Entry) → (S → Origin) → Step (Option S) → Me (Option S) (Known S) → ℕ
      → Me (Option S) (Known S) → Type 0
  look_tells log origin s m found n = LookTells log origin m found n

  -- the pass has the value: what was seen is a prefix of its log, and it has the book's origin
  abbrev pub HasValue : (S → List Entry) → (S → Origin) → Me (Option S) (Known S) → Type 0
  HasValue log origin m = (y : S) × (m.1 ≡ (0, Some y) ∷ []) × Begins m.0.seen (log y)
      × ((x : S) → m.0.origin ≡ Some x → origin y ≡ origin x)

  -- the value is put back, and the next number is served
  abbrev pub GivesValue : (S → List Entry) → Me (Option S) (Known S) → Me (Option S) (Known S) → Type 0
  GivesValue log m n = (y : S) → m.1 ≡ (0, Some y) ∷ [] → n ≡ (given (log y) m.0, [])

  -- the same for the step
  abbrev pub serve_tells : (S → List Entry) → Step (Option S) → Me (Option S) (Known S) → ℕ → Me (Option S) (Known S)
      → Type 0
  serve_tells log s m found n = GivesValue log m n

  -- a load after a join: the shorter log is a prefix of what was seen
  abbrev pub settle_tells : Step (Option S) → Me (Option S) (Known S) → ℕ → Me (Option S) (Known S) → Type 0
  settle_tells s m found n = (n ≡ (settled m.0, m.1)) × Begins m.0.told m.0.seen × (m.0.parts < 2 ^ 32)
