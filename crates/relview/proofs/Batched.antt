-- The batches of a run by its sessions: each session is of one of the batches, and where there is one batch, of that.
use Rattle.std.proofs.Common.{◌≡◌, ◌<◌, ◌≤◌, ◌+◌, ◌*◌, ◌%◌, ◌^◌, ◌∙◌, ℕ, Bool, true, false, cond, eqb, nat_lt, List, [], ◌∷◌, length, Option, Some, None, refl, sym, ap, subst, arith}
use Rattle.std.proofs.lemmas.Bool.{le-ltb}
use Rattle.std.proofs.lemmas.List.FromFn.{length-map-range_with_len}
use Rattle.run_model.specs.declared.event.Event.{Event}
use Rattle.run_model.specs.declared.outcome.Outcome.{Outcome}
use Rattle.run_model.specs.Inputs.{Input, Reading, AreReadings, Rise, batch_of}
use Rattle.run_model.specs.Legal.{LegalSessions}
use Rattle.run_model.specs.Cost.{cost_of_session, cost_of_sessions, cost_in_batch, cost_of_run, cost_of_batch}
use Rattle.rv_generate.specs.Generator.{generated, script_text, after}
use Rattle.rv_io.specs.Outside.{Files}
use Rattle.rv_words.specs.Uses.{Word}
use Rattle.rv_words.specs.Said.{Said, said_by}
use Rattle.rv_ends.specs.Given.{IsInput, AreScripts}
use Rattle.rv_ends.proofs.Limits.{taken-length}
use Rattle.rv_ends.proofs.Wording.{of_words, batches_rise}

-- ---- numbers of batches
-- a session up to the last end is of one of the batches
pub batch_within : (earlier count : ℕ) (ends : List ℕ) (s : ℕ) → Rise earlier count ends → s ≤ count → 1 ≤ length ends → batch_of ends s < length ends
batch_within earlier count [] s h l some = absurd (omega (arith, some))
batch_within earlier count (x ∷ []) s h l some =
    let few : nat_lt x s ≡ false = le-ltb x s (let same = h.1 in omega (arith, l, same)) in
    rw few (omega arith)
batch_within earlier count (x ∷ y ∷ ys) s h l some = one (nat_lt x s) (batch_within x count (y ∷ ys) s h.1 l (omega arith))
  where
    one : (b : Bool) → batch_of (y ∷ ys) s < length (y ∷ ys) → cond b 1 0 + batch_of (y ∷ ys) s < length (x ∷ y ∷ ys)
    one true r = omega (arith, r)
    one false r = omega (arith, r)

-- where there is one, it is the first
pub first_batch : (ends : List ℕ) (s count : ℕ) → length ends ≡ 1 → Rise 0 count ends → s ≤ count → batch_of ends s ≡ 0
first_batch ends s count one rise l = let w = batch_within 0 count ends s rise l (omega (arith, one)) in omega (arith, w, one)

-- ---- the ends of a run
generated_many : (number : ℕ) → length (generated number) ≡ 8
unfolding generated
generated_many number = length-map-range_with_len (λ k. script_text (after (number % 2 ^ 32) (128 * k)) (k + 1)) 0 8

as_many : (scripts : List (List ℕ)) (readings : List Reading) → AreReadings scripts readings → length readings ≡ length scripts
as_many [] [] h = refl
as_many [] (r ∷ rs) h = absurd h
as_many (b ∷ bs) [] h = absurd h
as_many (b ∷ bs) (r ∷ rs) h = let rest = as_many bs rs h.1 in omega (arith, rest)

-- the ends of an input that the words give
pub ends_rise : (words : List Word) (said : Said) (files : Option Files) (input : Input) → said_by words ≡ Some said → IsInput said files input → Rise 0 (length input.readings) input.ends
ends_rise words said files input taken given =
    subst (Rise 0 (length input.readings)) (sym given.batches)
    (batches_rise words said (length input.readings) taken (some said.number refl given.given) (λ none. as_many given.scripts input.readings given.read ∙ named none))
  where
    named : said.number ≡ None → length given.scripts ≡ length said.scripts
    named none = taken-length files said.scripts given.scripts (subst (λ m. AreScripts m files said.scripts given.scripts) none given.given)

    some : (number : Option ℕ) → said.number ≡ number → AreScripts number files said.scripts given.scripts → 1 ≤ length input.readings
    some (Some number) e scripts =
        let many = as_many given.scripts input.readings given.read in
        let made = ap length scripts ∙ generated_many number in
        omega (arith, many, made)
    some None e scripts =
        let of = of_words words said taken in
        let many = as_many given.scripts input.readings given.read in
        let same = named e in
        let one = of.some e in
        let those = ap length of.scripts_are in
        omega (arith, many, same, one, those)

-- ---- lengths
pub outcomes_many : (input : Input) (history : List Event) (s : ℕ) (rs : List Reading) (oss : List (List Outcome)) → LegalSessions input history s rs oss → length oss ≡ length rs
outcomes_many input history s [] [] h = refl
outcomes_many input history s [] (os ∷ oss) h = absurd h
outcomes_many input history s (r ∷ rs) [] h = absurd h
outcomes_many input history s (r ∷ rs) (os ∷ oss) h = let rest = outcomes_many input history (s + 1) rs oss h.1 in omega (arith, rest)

-- ---- one batch
module _ (input : Input) (one : length input.ends ≡ 1) (rise : Rise 0 (length input.readings) input.ends) (leaf : ℕ) (history : List Event) where
  sessions_cost : (s : ℕ) (rs : List Reading) (oss : List (List Outcome)) → s + length rs ≤ length input.readings + 1 →
      cost_of_sessions leaf input history s rs oss ≡ cost_in_batch leaf input history 0 s rs oss
  sessions_cost s [] oss l = refl
  sessions_cost s (r ∷ rs) [] l = refl
  sessions_cost s (r ∷ rs) (os ∷ oss) l =
      let zero = sym (first_batch input.ends s (length input.readings) one rise (omega (arith, l))) in
      let rest = sessions_cost (s + 1) rs oss (omega (arith, l)) in
      λ i. cond (eqb (zero i) 0) (cost_of_session leaf input history s r os) 0 + rest i

  -- it costs what the run costs
  pub costs_all : (oss : List (List Outcome)) → cost_of_run leaf input history oss ≡ cost_of_batch leaf input history oss 0
  unfolding cost_of_run cost_of_batch
  costs_all oss = sessions_cost 1 input.readings oss (omega arith)
