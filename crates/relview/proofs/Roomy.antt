-- Words that are full store as many nodes as they have places for, which is more than lived on and than the commands cost.
use Rattle.std.proofs.Common.{◌≡◌, ◌≢◌, ◌<◌, ◌≤◌, ◌+◌, ◌^◌, ℕ, List, [], ◌∷◌, length, subst, arith, length-take}
use Rattle.std.specs.List.{AllByRecursion}
use Rattle.run_model.specs.declared.outcome.Outcome.{Outcome}
use Rattle.run_model.specs.declared.outcome.Outcome.TheVariants.{Nodes}
use Rattle.run_model.specs.Inputs.{Rise}
use Rattle.run_model.specs.Stored.{FillsWhereFull, FillsInBatch}
use Rattle.rel_model.specs.Words.{IsFull, stored_count}
use Rattle.rel_model.proofs.Filling.{stored_count-full}
use Rattle.rel_model.specs.Trees.{bottom_height}
use Rattle.relview.specs.Top.{outcomes_of}
use Rattle.relview.specs.Tables.{nodes_of_batch, uses_into, words_of_batch}
use Rattle.relview.specs.Alone.{NoneFullIn, EnoughRoom, EnoughRoomAtOnce}
use Rattle.relview.proofs.Batched.{first_batch, ends_rise, outcomes_many, costs_all}
use Rattle.relview.proofs.Tabled.{HasTable, table_at, batch_count}

-- words that store fewer nodes than they have places for are not full
not_full : (words : List ℕ) → stored_count words + 2 < length words → IsFull words → ⊥
not_full words few full = let a = stored_count-full words full in omega (arith, few, a)

none_of : (words : List ℕ) → (IsFull words → ⊥) → (outcomes : List Outcome) → FillsWhereFull words outcomes
    → AllByRecursion (λ o. o ≢ Nodes) outcomes
none_of words vacant [] h = tt
none_of words vacant (o ∷ os) h = (λ e. vacant (h.0 e), none_of words vacant os h.1)

none_in : (ends : List ℕ) (b : ℕ) (words : List ℕ) → (IsFull words → ⊥) → (s : ℕ) (outcomes : List (List Outcome))
    → FillsInBatch ends b words s outcomes → NoneFullIn ends b s outcomes
none_in ends b words vacant s [] h = tt
none_in ends b words vacant s (os ∷ others) h = (λ e. none_of words vacant os (h.0 e), none_in ends b words vacant (s + 1) others h.1)

-- the words of a batch store at most what lived on into it and what its commands cost; where this is less than their
-- places, one is vacant, and no command found them full
pub enough_room : EnoughRoom
enough_room words a b o n report ran k within few =
    let bits = ran.said.nodes in
    let input = ran.input in
    let history = report.history.items in
    let outcomes = outcomes_of report in
    let count = batch_count bits input history outcomes 0 0 0 report.old.items report.words.items ran.holds in
    let here : HasTable bits input history outcomes k (uses_into bits report k) (words_of_batch report.old.items report.words.items k) =
    subst (λ m. HasTable bits input history outcomes m (uses_into bits report k) (words_of_batch report.old.items report.words.items k)) (whole k)
    (table_at bits input history outcomes 0 0 0 report.old.items report.words.items ran.holds k (omega (arith, within, count))) in
    let nodes = nodes_of_batch bits report k in
    let size : length nodes ≡ 2 ^ bits = (let t = length-take (2 ^ bits) (words_of_batch report.old.items report.words.items k) in let s = here.sound.size in omega (arith, t, s)) in
    let stored = here.cost in
    none_in input.ends k nodes (not_full nodes (omega (arith, size, stored, few))) 1 outcomes here.full
  where
    whole : (n : ℕ) → 0 + n ≡ n
    whole n = omega arith

-- where all sessions are of one batch, none found the table full
all_none : (ends : List ℕ) (count : ℕ) → length ends ≡ 1 → Rise 0 count ends → (s : ℕ) (outcomes : List (List Outcome)) → s + length outcomes ≤ count + 1
    → NoneFullIn ends 0 s outcomes → AllByRecursion (AllByRecursion (λ o. o ≢ Nodes)) outcomes
all_none ends count one rise s [] l h = tt
all_none ends count one rise s (os ∷ others) l h =
    (h.0 (first_batch ends s count one rise (omega (arith, l))), all_none ends count one rise (s + 1) others (omega (arith, l)) h.1)

pub enough_room_at_once : EnoughRoomAtOnce
enough_room_at_once words a b o n report ran one few =
    let input = ran.input in
    let history = report.history.items in
    let outcomes = outcomes_of report in
    let rise = ends_rise words ran.said a.files input ran.taken ran.given in
    let whole = costs_all input one rise bottom_height history outcomes in
    let many = outcomes_many input history 1 input.readings outcomes ran.legal.sessions in
    all_none input.ends (length input.readings) one rise 1 outcomes (omega (arith, many))
    (enough_room words a b o n report ran 0 (omega (arith, one)) (omega (arith, whole, few)))
