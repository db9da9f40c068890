-- The workspace by the relations that events carry, which is what the book and its sessions know; and the values of
-- these relations in one worker.
use Rattle.std.specs.Prelude.{◌≡◌, ◌+◌, ℕ, Bool, true, List, [], ◌∷◌, map, Some, slice_get}
use Rattle.std.specs.List.{AllByRecursion}
use Rattle.rel_model.specs.declared.Rel.{Rel}
use Rattle.run_model.specs.declared.event.Event.{Event}
use Rattle.run_model.specs.declared.event.Act.{Act}
use Rattle.run_model.specs.declared.event.Act.TheVariants.{Read, Assign, Remove}
use Rattle.rel_model.specs.Relation.{Relation}
use Rattle.run_model.specs.Names.{Names, no_names, set, remove}
use Rattle.run_model.specs.Due.{Workspace, Gifts}
use Rattle.run_model.specs.States.{Replay, begun, at_command, replay}
use Rattle.run_model.specs.Versions.{Versions}

-- the relations of names as a table knows them
abbrev pub Carried : Type 0
Carried = Names Rel

-- an event's step: an assignment gives its name the relation that it carries
abbrev pub carry_act : ℕ → ℕ → Act → Replay Rel → Replay Rel
carry_act s c Read p = record { now = p.now; at_read = at_command s c p.now p.at_read; given = p.given }
carry_act s c (Assign name rel) p =
    record { now = set name rel p.now; at_read = p.at_read; given = at_command s c (p.given s c + 1) p.given }
carry_act s c (Remove name) p = record { now = remove name p.now; at_read = p.at_read; given = p.given }

-- the steps of events in order
abbrev pub carry : Replay Rel → List Event → Replay Rel
carry p [] = p
carry p (e ∷ es) = carry (carry_act e.session e.command e.act p) es

-- the relations that names have after these events, given those they had at first
unfoldable pub carried_from : Carried → List Event → Carried
carried_from first es = (carry (begun first) es).now

-- the relations after the events of a first batch, before which no name has a relation
abbrev pub carried : List Event → Carried
carried es = carried_from no_names es

-- what a batch begins with: the relations that names have in its table, and their versions
pub record First : Type 0 where
  pub names : Carried
  pub versions : Versions

-- the first batch begins with no relation, and with version 0 of each name
abbrev pub no_first : First
no_first = record { names = no_names; versions = [] }

-- the values of carried relations
abbrev pub valued : (Rel → Relation) → Carried → Workspace
valued means = map (λ entry. (entry.0, means entry.1))

-- an assigned relation has the value that is due next of its command, on the carried state at the command's last read
abbrev pub HasDue : (ℕ → ℕ → Workspace → Gifts) → (Rel → Relation) → ℕ → ℕ → Act → Replay Rel → Type 0
HasDue gifts means s c Read p = Unit {0}
HasDue gifts means s c (Assign name rel) p =
    (gift : List ℕ × Relation) × (slice_get (gifts s c (valued means (p.at_read s c))) (p.given s c) ≡ Some gift)
    × (means rel ≡ gift.1)
HasDue gifts means s c (Remove name) p = Unit {0}

-- so have all assigned relations that follow
abbrev pub AllHaveDue : (ℕ → ℕ → Workspace → Gifts) → (Rel → Relation) → Replay Rel → List Event → Type 0
AllHaveDue gifts means p [] = Unit {0}
AllHaveDue gifts means p (e ∷ es) =
    HasDue gifts means e.session e.command e.act p
    × AllHaveDue gifts means (carry_act e.session e.command e.act p) es

-- two replays of values look the same to sessions of a kind: the same state now, and the same notes of their commands
pub record SameTo (kind : ℕ → Bool) (p q : Replay Relation) : Type 0 where
  pub now : p.now ≡ q.now
  pub at_read : (s c : ℕ) → kind s ≡ true → p.at_read s c ≡ q.at_read s c
  pub given : (s c : ℕ) → kind s ≡ true → p.given s c ≡ q.given s c

-- a replay of carried relations, turned into one of their values
abbrev pub valued_replay : (Rel → Relation) → Replay Rel → Replay Relation
valued_replay means p =
    record { now = valued means p.now; at_read = λ s c. valued means (p.at_read s c); given = p.given }

-- If each assigned relation has the value that is due, the state by what is due is that of the carried relations, now
-- and at the last read of each command. This starts from first names that have the values of the state before, for
-- events of sessions of which nothing was noted before.
abbrev pub CarriedIsState : Type 0
CarriedIsState =
    (kind : ℕ → Bool) (gifts : ℕ → ℕ → Workspace → Gifts) (means : Rel → Relation) (first : Carried)
    (before : Replay Relation) (log : List Event) → AllByRecursion (λ e. kind e.session ≡ true) log
    → SameTo kind before (begun (valued means first)) → AllHaveDue gifts means (begun first) log
    → SameTo kind (replay gifts before log) (valued_replay means (carry (begun first) log))
