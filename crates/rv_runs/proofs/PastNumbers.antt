-- The numbers of sessions and batches in a run of batches that are over.
-- 1. A batch has as many readings as sessions, so the numbers of sessions up to the end of each batch are sums.
-- 2. A session's batch is told by how many of these sums are below its number: none of those that begin behind it, and
--    each of those before.
use Rattle.std.proofs.Common.{◌≡◌, ◌<◌, ◌≤◌, ◌+◌, ◌++◌, ℕ, true, false, cond, nat_lt, List, [], ◌∷◌, length, refl, subst, ◌∙◌, arith, length-append}
use Rattle.std.proofs.lemmas.Bool.{le-ltb, lt-ltb}
use Rattle.run_model.specs.Inputs.{Reading, AreReadings, batch_of, Rise}
use Rattle.run_model.specs.declared.files.Loaded.{Loaded}
use Rattle.run_model.specs.Due.{Workspace}
use Rattle.run_model.specs.Batches.{state_left, versions_left}
use Rattle.rv_runs.specs.Past.{Part, Past, scripts_of, batch_of_past, ArePast, parts_of, readings_of, ends_from}

-- ---- readings
pub as_many : (parts : List Part) (rs : List Reading) → AreReadings (scripts_of parts) rs → length rs ≡ length parts
as_many [] [] h = refl
as_many [] (r ∷ rs) h = absurd h
as_many (part ∷ parts) [] h = absurd h
as_many (part ∷ parts) (r ∷ rs) h = let i = as_many parts rs h.1 in omega (arith, i)

-- scripts behind scripts have the readings of both, one by one
pub readings_append : (parts others : List Part) (rs qs : List Reading) → AreReadings (scripts_of parts) rs → AreReadings (scripts_of others) qs →
    AreReadings (scripts_of (parts ++ others)) (rs ++ qs)
readings_append [] others [] qs h k = k
readings_append [] others (r ∷ rs) qs h k = absurd h
readings_append (part ∷ parts) others [] qs h k = absurd h
readings_append (part ∷ parts) others (r ∷ rs) qs h k = (h.0, readings_append parts others rs qs h.1 k)

-- ---- numbers
-- the sessions of batches, the first of which has this number, are of the batches from number k on
abbrev pub Numbered : List ℕ → ℕ → ℕ → List Past → Type 0
Numbered ends k number [] = Unit {0}
Numbered ends k number (p ∷ ps) =
    ((s : ℕ) → number ≤ s → s < number + length p.parts → batch_of ends s ≡ k)
    × Numbered ends (k + 1) (number + length p.parts) ps

-- no batch behind a session ends before it
pub none_before : (ps : List Past) (count s : ℕ) → s ≤ count → batch_of (ends_from count ps) s ≡ 0
none_before [] count s l = refl
none_before (p ∷ ps) count s l =
    let few : nat_lt (count + length p.parts) s ≡ false = le-ltb (count + length p.parts) s (omega (arith, l)) in
    let rest = none_before ps (count + length p.parts) s (omega (arith, l)) in
    λ i. cond (few i) 1 0 + rest i

-- one that ends before all these sessions has the number before theirs
pub one_more : (end : ℕ) (ends : List ℕ) (ps : List Past) (k number : ℕ) → end < number → Numbered ends k number ps → Numbered (end ∷ ends) (k + 1) number ps
one_more end ends [] k number l h = tt
one_more end ends (p ∷ ps) k number l h = (
  λ s low high.
      let over : nat_lt end s ≡ true = lt-ltb end s (omega (arith, l, low)) in
      let same = h.0 s low high in
      (λ i. cond (over i) 1 0 + same i) ∙ swapped k,
  one_more end ends ps (k + 1) (number + length p.parts) (omega (arith, l)) h.1,
)
  where
    swapped : (n : ℕ) → 1 + n ≡ n + 1
    swapped n = omega arith

-- the number of a session tells its batch, by induction on the batches: one of the first is above no end, and one of
-- the others is above the first end too
pub numbered : (count : ℕ) (ps : List Past) → Numbered (ends_from count ps) 0 (count + 1) ps
numbered count [] = tt
numbered count (p ∷ ps) = (
  λ s low high.
      let few : nat_lt (count + length p.parts) s ≡ false = le-ltb (count + length p.parts) s (omega (arith, high)) in
      let rest = none_before ps (count + length p.parts) s (omega (arith, high)) in
      λ i. cond (few i) 1 0 + rest i,
  subst (λ n. Numbered ((count + length p.parts) ∷ ends_from (count + length p.parts) ps) 1 n ps) (moved count (length p.parts))
      (one_more (count + length p.parts) (ends_from (count + length p.parts) ps) ps 0 (count + length p.parts + 1) (omega arith) (numbered (count + length p.parts) ps)),
)
  where
    moved : (m n : ℕ) → m + n + 1 ≡ m + 1 + n
    moved m n = omega arith

-- ---- batches that are over
module _ (leaf : ℕ) (files : List Loaded) (turns : ℕ) where
  pub are_read : (ps : List Past) (number : ℕ) (state : Workspace) (versions : List ℕ → ℕ) → ArePast leaf files turns number state versions ps →
      AreReadings (scripts_of (parts_of ps)) (readings_of ps)
  are_read [] number state versions h = tt
  are_read (p ∷ ps) number state versions h =
      readings_append p.parts (parts_of ps) p.readings (readings_of ps) h.0
      (are_read ps (number + length p.parts) (state_left (batch_of_past p)) (versions_left (batch_of_past p)) h.6)

  -- the sums rise from batch to batch, since each has a session
  pub rises : (ps : List Past) (count number : ℕ) (state : Workspace) (versions : List ℕ → ℕ) → ArePast leaf files turns number state versions ps →
      Rise count (count + length (parts_of ps)) (ends_from count ps)
  rises [] count number state versions h = same count
    where
      same : (n : ℕ) → n ≡ n + 0
      same n = omega arith
  rises (p ∷ ps) count number state versions h =
      let some = h.3 in
      let long = length-append p.parts (parts_of ps) in (
        omega (arith, some),
        subst (λ n. Rise (count + length p.parts) n (ends_from (count + length p.parts) ps)) (omega (arith, long))
            (rises ps (count + length p.parts) (number + length p.parts) (state_left (batch_of_past p)) (versions_left (batch_of_past p)) h.6),
      )
