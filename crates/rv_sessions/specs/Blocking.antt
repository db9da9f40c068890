-- The results of the assignments of a block, one after another, and how a refused commit is reported.
use Rattle.std.specs.Prelude.{◌≡◌, ◌≤◌, ◌+◌, ◌⊎◌, ℕ, List, [], ◌∷◌, map, drop, Result, Ok, Err}
use Rattle.std.specs.List.{AllByRecursion}
use Rattle.std.specs.declared.vec.Vec.{Vec}
use Rattle.std.specs.declared.alloc.Global.{Global}
use Rattle.rel_model.specs.declared.NoMemory.{NoMemory}
use Rattle.rel_model.specs.declared.Rel.{Rel}
use Rattle.rel_model.specs.Worker.{Worker, Stands, set_of, Keeps, MakesAtMost, Rose}
use Rattle.lang_model.specs.declared.syntax.Let.{Let as BlockLet}
use Rattle.lang_model.specs.declared.syntax.Script.{Script}
use Rattle.lang_model.specs.Blocks.{evaluated_block, cost_of_block}
use Rattle.lang_model.specs.Eval.{Evaluated}
use Rattle.lang_model.specs.State.{State}
use Rattle.run_model.specs.declared.outcome.Outcome.{Outcome}
use Rattle.run_model.specs.declared.outcome.Outcome.TheVariants.{Nodes as NODES, NoMemory as NO_MEMORY, Changed}
use Rattle.run_model.specs.Blocks.{AnyCompound}
use Rattle.run_model.specs.Due.{When, Gifts, Due, Values, Refused as REFUSED, late, with_gift, due_of_lets}
use Rattle.run_model.specs.Outcomes.{IsNotEarly}
use Rattle.rv_eval.specs.Names.{AllStand, state_of}
use Rattle.rv_workspace.specs.declared.refused.CommitRefused.{CommitRefused}
use Rattle.rv_workspace.specs.declared.refused.CommitRefused.TheVariants.{Changed as CHANGED, NoMemory as COMMIT_NO_MEMORY}
use Rattle.rv_sessions.specs.declared.told.Told.{Told}
use Rattle.rv_sessions.specs.Telling.{TellsRefusal}
use Rattle.rv_sessions.specs.Valuing.{IsRefusal}

-- names with relations, as names with the values of these in a worker
abbrev pub gifts_in : Worker → List (List ℕ × Rel) → Gifts
gifts_in w = map (λ gift. (gift.0, set_of w gift.1))

-- all these relations stand
abbrev pub GiftsStand : Worker → List (List ℕ × Rel) → Type 0
GiftsStand w = AllByRecursion (λ gift. Stands w gift.1)

-- a block stopped: it is refused as is due; or the table was full, for an expression that is not just a name; or memory
-- ran out
abbrev pub BlockStopped : Worker → Worker → List BlockLet → Due → Outcome → Type 0
BlockStopped old new lets d o =
    ((when : When) × (d ≡ REFUSED when o) × IsRefusal o)
    ⊎ (((o ≡ NODES) × AnyCompound lets × IsNotEarly d × Rose old.misses new.misses) ⊎ (o ≡ NO_MEMORY))

-- the assignments of a block have these values, given the results of their expressions; or the block stopped
abbrev pub BlockCame : Worker → Worker → ℕ → List BlockLet → List Evaluated
    → Result (Vec (List ℕ × Rel) Global) Outcome → Type 0
BlockCame old new turns lets es (Ok gifts) =
    GiftsStand new gifts.items × (due_of_lets turns lets es ≡ Values (gifts_in new gifts.items))
BlockCame old new turns lets es (Err o) = BlockStopped old new lets (due_of_lets turns lets es) o

-- the assignments of a block were computed over names: they came to these values or stopped, everything that stood
-- still stands, and no more nodes were made than they may cost
pub record BlockCameOver (leaf : ℕ) (script : Script) (state : State) (lets : List BlockLet) (turns : ℕ)
    (old new : Worker) (result : Result (Vec (List ℕ × Rel) Global) Outcome) : Type 0 where
  pub came : BlockCame old new turns lets (evaluated_block script state lets turns) result
  pub keeps : Keeps old new
  pub room : MakesAtMost (cost_of_block leaf (evaluated_block script state lets turns)) old new

-- ---- on the way
-- what is due after values that were computed already
abbrev pub due_behind : Gifts → Due → Due
due_behind [] d = d
due_behind (gift ∷ gifts) d = with_gift gift (late (due_behind gifts d))

-- the first assignments of a block have their values: what is due of the block is these values, followed by what is due
-- of the other assignments on the names as they are now; and no more nodes were made than the expressions so far may
-- cost
pub record ValuedSoFar (leaf : ℕ) (script : Script) (turns : ℕ) (lets : List BlockLet) (state : State)
    (first now : Worker) (names gifts : List (List ℕ × Rel)) (done : ℕ) : Type 0 where
  pub keeps : Keeps first now
  pub names_stand : AllStand now names
  pub gifts_stand : GiftsStand now gifts
  pub total : due_of_lets turns lets (evaluated_block script state lets turns)
      ≡ due_behind (gifts_in now gifts)
      (due_of_lets turns (drop done lets) (evaluated_block script (state_of now names) (drop done lets) turns))
  pub room : now.made + cost_of_block leaf (evaluated_block script (state_of now names) (drop done lets) turns)
      ≤ first.made + cost_of_block leaf (evaluated_block script state lets turns)

-- ---- commits
-- a refused commit is reported with the name that changed; or memory ran out
abbrev pub TellsRefusedCommit : ℕ → ℕ → CommitRefused → Result Told NoMemory → Type 0
TellsRefusedCommit s c (CHANGED name seen found) result = TellsRefusal s c (Changed name seen found) result
TellsRefusedCommit s c COMMIT_NO_MEMORY result = (lack : NoMemory) × (result ≡ Err lack)
