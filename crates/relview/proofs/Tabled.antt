-- What the words of a run's tables hold, batch by batch, and of the whole history by the batches of its sessions.
-- 1. Each batch has its words, within the uses that lived on into it and its own cost, full where it found them full.
-- 2. Its events have its number, so of each event of the history the words of its session's batch hold what it assigns.
use Rattle.std.specs.List.{AllByRecursion}
use Rattle.std.proofs.Common.{◌≡◌, ◌<◌, ◌≤◌, ◌+◌, ◌-◌, ◌++◌, ◌∙◌, ℕ, zero, suc, List, [], ◌∷◌, length, take, drop, refl, sym, ap, subst, arith, add-zero}
use Rattle.rel_model.specs.Relation.{Relation}
use Rattle.rel_model.specs.Trees.{bottom_height}
use Rattle.rel_model.specs.Words.{stored_count}
use Rattle.rel_model.specs.Equations.{IsSoundTable, node_words}
use Rattle.run_model.specs.declared.batch.OldBatch.{OldBatch}
use Rattle.run_model.specs.declared.event.Event.{Event}
use Rattle.run_model.specs.declared.outcome.Outcome.{Outcome}
use Rattle.run_model.specs.Inputs.{Input, batch_of}
use Rattle.run_model.specs.Due.{Workspace, Gifts}
use Rattle.run_model.specs.States.{Replay, start, replay_act, replay, gifts_due}
use Rattle.run_model.specs.Cost.{cost_of_batch}
use Rattle.run_model.specs.Stored.{IsStored, AreStored, FillsInBatch, HoldsBatch, HoldsFrom, events_between, uses_of_live}
use Rattle.relview.specs.Tables.{words_of_batch, uses_before}

-- ---- one batch
-- the words of a batch: sound, within its uses and its cost, and full where it found them full
pub record HasTable (bits : ℕ) (input : Input) (history : List Event) (outcomes : List (List Outcome)) (b uses : ℕ) (words : List ℕ) : Type 0 where
  pub sound : IsSoundTable bits words
  pub cost : stored_count (node_words bits words) ≤ uses + cost_of_batch bottom_height input history outcomes b
  pub full : FillsInBatch input.ends b (node_words bits words) 1 outcomes

module _ (bits : ℕ) (input : Input) (history : List Event) (outcomes : List (List Outcome)) where
  of_batch : (b from upto uses : ℕ) (words : List ℕ) → HoldsBatch bits input history outcomes b from upto uses words → HasTable bits input history outcomes b uses words
  of_batch b from upto uses words h = record { sound = h.sound; cost = h.cost; full = h.full }

  -- the table at a batch's number holds that batch, by induction on the batches that are over
  pub table_at : (b from uses : ℕ) (olds : List OldBatch) (last : List ℕ) → HoldsFrom bits input history outcomes b from uses olds last → (k : ℕ) → k < 1 + length olds →
      HasTable bits input history outcomes (b + k) (uses_before bits uses olds k) (words_of_batch olds last k)
  table_at b from uses [] last h zero l =
      subst (λ n. HasTable bits input history outcomes n uses last) (sym (add-zero b)) (of_batch b from (length history) uses last h.0)
  table_at b from uses [] last h (suc k) l = absurd (omega (arith, l))
  table_at b from uses (old ∷ olds) last h zero l =
      subst (λ n. HasTable bits input history outcomes n uses old.words.items) (sym (add-zero b)) (of_batch b from old.upto uses old.words.items h.0)
  table_at b from uses (old ∷ olds) last h (suc k) l =
      subst (λ n. HasTable bits input history outcomes n (uses_before bits (uses_of_live (node_words bits old.words.items) old.live.items) olds k) (words_of_batch olds last k)) (next b k)
      (table_at (b + 1) old.upto (uses_of_live (node_words bits old.words.items) old.live.items) olds last h.2 k (omega (arith, l)))
    where
      next : (m n : ℕ) → m + 1 + n ≡ m + suc n
      next m n = omega arith

  -- there are as many batches as ends
  pub batch_count : (b from uses : ℕ) (olds : List OldBatch) (last : List ℕ) → HoldsFrom bits input history outcomes b from uses olds last → b + 1 + length olds ≡ length input.ends
  batch_count b from uses [] last h = let e = h.1 in omega (arith, e)
  batch_count b from uses (old ∷ olds) last h =
      let rest = batch_count (b + 1) old.upto (uses_of_live (node_words bits old.words.items) old.live.items) olds last h.2 in omega (arith, rest)

-- ---- all events
module _ (gifts : ℕ → ℕ → Workspace → Gifts) (words : ℕ → List ℕ) where
  -- the words that there are for the session of each event hold what it assigns
  abbrev pub StoredBy : Replay Relation → List Event → Type 0
  StoredBy p [] = Unit {0}
  StoredBy p (e ∷ es) = IsStored gifts (words e.session) p e.session e.command e.act × StoredBy (replay_act gifts e.session e.command e.act p) es

  stored_append : (p : Replay Relation) (xs ys : List Event) → StoredBy p xs → StoredBy (replay gifts p xs) ys → StoredBy p (xs ++ ys)
  stored_append p [] ys h k = k
  stored_append p (x ∷ xs) ys h k = (h.0, stored_append (replay_act gifts x.session x.command x.act p) xs ys h.1 k)

  one_stored : (own : List ℕ) (p : Replay Relation) (es : List Event) → AllByRecursion (λ e. own ≡ words e.session) es → AreStored gifts own p es → StoredBy p es
  one_stored own p [] a h = tt
  one_stored own p (e ∷ es) a h =
      (subst (λ ws. IsStored gifts ws p e.session e.command e.act) a.0 h.0, one_stored own (replay_act gifts e.session e.command e.act p) es a.1 h.1)

-- ---- pieces of a history
replay_append : (gifts : ℕ → ℕ → Workspace → Gifts) (p : Replay Relation) (xs ys : List Event) → replay gifts p (xs ++ ys) ≡ replay gifts (replay gifts p xs) ys
replay_append gifts p [] ys = refl
replay_append gifts p (x ∷ xs) ys = replay_append gifts (replay_act gifts x.session x.command x.act p) xs ys

-- some first events, with some of those behind them, are as many first events as both together
take_further : (m n : ℕ) (xs : List Event) → take m xs ++ take n (drop m xs) ≡ take (m + n) xs
take_further zero n xs = ap (λ k. take k xs) (whole n)
  where
    whole : (n : ℕ) → n ≡ 0 + n
    whole n = omega arith
take_further (suc m) n [] = empty n ∙ none (suc m + n)
  where
    empty : (n : ℕ) → ◌≡◌ {A = List Event} (take n []) []
    empty zero = refl
    empty (suc n) = refl

    none : (k : ℕ) → ◌≡◌ {A = List Event} [] (take k [])
    none zero = refl
    none (suc k) = refl
take_further (suc m) n (x ∷ xs) = ap (λ (l : List Event). x ∷ l) (take_further m n xs) ∙ ap (λ k. take k (x ∷ xs)) (more m n)
  where
    more : (m n : ℕ) → suc (m + n) ≡ suc m + n
    more m n = omega arith

parts_of : (n : ℕ) (xs : List Event) → xs ≡ take n xs ++ drop n xs
parts_of zero xs = refl
parts_of (suc n) [] = refl
parts_of (suc n) (x ∷ xs) = ap (λ (l : List Event). x ∷ l) (parts_of n xs)

-- to leave out some events and then some more is to leave out as many as both together
drop_further : (m n : ℕ) (xs : List Event) → drop n (drop m xs) ≡ drop (m + n) xs
drop_further zero n xs = ap (λ k. drop k xs) (whole n)
  where
    whole : (n : ℕ) → n ≡ 0 + n
    whole n = omega arith
drop_further (suc m) n [] = none n ∙ sym (none (suc m + n))
  where
    none : (k : ℕ) → ◌≡◌ {A = List Event} (drop k []) []
    none zero = refl
    none (suc k) = refl
drop_further (suc m) n (x ∷ xs) = drop_further m n xs ∙ ap (λ k. drop k (x ∷ xs)) (more m n)
  where
    more : (m n : ℕ) → suc (m + n) ≡ suc m + n
    more m n = omega arith

drop_all : (xs : List Event) → drop (length xs) xs ≡ []
drop_all [] = refl
drop_all (x ∷ xs) = drop_all xs

-- ---- the whole history
module _ (bits : ℕ) (input : Input) (history : List Event) (outcomes : List (List Outcome)) (nodes : ℕ → List ℕ) where
  abbrev by_session : ℕ → List ℕ
  by_session s = nodes (batch_of input.ends s)

  abbrev Behind : ℕ → Type 0
  Behind from = StoredBy (gifts_due input) by_session (replay (gifts_due input) start (take from history)) (drop from history)

  numbered : (b : ℕ) (es : List Event) → AllByRecursion (λ e. batch_of input.ends e.session ≡ b) es → AllByRecursion (λ e. nodes b ≡ by_session e.session) es
  numbered b [] h = tt
  numbered b (e ∷ es) h = (ap nodes (sym h.0), numbered b es h.1)

  -- a batch, and what is stored behind it
  with_batch : (b from upto uses : ℕ) (words : List ℕ) → nodes b ≡ node_words bits words → HoldsBatch bits input history outcomes b from upto uses words → Behind upto → Behind from
  with_batch b from upto uses words same h rest =
      let gifts = gifts_due input in
      let forward = h.forward in
      let count : from + (upto - from) ≡ upto = omega (arith, forward) in
      let own = events_between from upto history in
      let p = replay gifts start (take from history) in
      let here = one_stored gifts by_session (nodes b) p own (numbered b own h.events) (subst (λ ws. AreStored gifts ws p own) (sym same) h.stored) in
      let state : replay gifts p own ≡ replay gifts start (take upto history) =
      sym (replay_append gifts start (take from history) own) ∙ ap (replay gifts start) (take_further from (upto - from) history ∙ ap (λ n. take n history) count) in
      let after : drop upto history ≡ drop (upto - from) (drop from history) = ap (λ n. drop n history) (sym count) ∙ sym (drop_further from (upto - from) history) in
      let behind = subst (StoredBy gifts by_session (replay gifts p own)) after (subst (λ q. StoredBy gifts by_session q (drop upto history)) (sym state) rest) in
      subst (StoredBy gifts by_session p) (sym (parts_of (upto - from) (drop from history))) (stored_append gifts by_session p own (drop (upto - from) (drop from history)) here behind)

  -- from a batch on all events are stored in the words of their batches: its own in its words, and those behind by
  -- induction
  stored_from : (b from uses : ℕ) (olds : List OldBatch) (last : List ℕ) → ((k : ℕ) → k < 1 + length olds → nodes (b + k) ≡ node_words bits (words_of_batch olds last k)) →
      HoldsFrom bits input history outcomes b from uses olds last → Behind from
  stored_from b from uses [] last same h =
      let gifts = gifts_due input in
      with_batch b from (length history) uses last (ap nodes (sym (add-zero b)) ∙ same 0 (omega arith)) h.0
      (subst (StoredBy gifts by_session (replay gifts start (take (length history) history))) (sym (drop_all history)) tt)
  stored_from b from uses (old ∷ olds) last same h =
      with_batch b from old.upto uses old.words.items (ap nodes (sym (add-zero b)) ∙ same 0 (omega arith)) h.0
      (stored_from (b + 1) old.upto (uses_of_live (node_words bits old.words.items) old.live.items) olds last (λ k l. ap nodes (next b k) ∙ same (suc k) (omega (arith, l))) h.2)
    where
      next : (m n : ℕ) → m + 1 + n ≡ m + suc n
      next m n = omega arith

  -- all that a run assigned stands in the words of its session's batch
  pub stored_all : (uses : ℕ) (olds : List OldBatch) (last : List ℕ) → ((k : ℕ) → nodes k ≡ node_words bits (words_of_batch olds last k)) →
      HoldsFrom bits input history outcomes 0 0 uses olds last → StoredBy (gifts_due input) by_session start history
  stored_all uses olds last same h = stored_from 0 0 uses olds last (λ k l. ap nodes (whole k) ∙ same k) h
    where
      whole : (n : ℕ) → 0 + n ≡ n
      whole n = omega arith
