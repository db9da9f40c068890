-- Sessions that have ended, numbered from some number on: their passes make up the closed log of their batch.
-- 1. All events of a session's own are of its number.
-- 2. So the events of each number in the closed log are its session's own, and none is of another number.
use Rattle.std.specs.List.{AllByRecursion, filter}
use Rattle.std.proofs.Common.{◌≡◌, ◌<◌, ◌≤◌, ◌≢◌, ◌+◌, ◌++◌, ◌⊎◌, ℕ, zero, suc, Bool, true, cond, eqb, List, [], ◌∷◌, length, refl, sym, ap, subst, ◌∙◌, map, inl, inr, arith, get_or}
use Rattle.std.proofs.lemmas.Bool.{cases_Bool, cases_lt, eq-eqb, ne_eqb}
use Rattle.rel_model.specs.Worker.{Worker}
use Rattle.run_model.specs.declared.event.Event.{Event}
use Rattle.run_model.specs.Inputs.{Input, Reading, NoScript, Flawed, Runs}
use Rattle.run_model.specs.States.{events_of}
use Rattle.run_model.specs.Carried.{First}
use Rattle.run_model.specs.Turns.{BeginsLog, Turn, puts_of, IsTurn}
use Rattle.turn_book.specs.Logs.{MakeUp, pick}
use Rattle.turn_book.specs.Views.{View}
use Rattle.turn_book.proofs.Sharing.{its_own, no_ones}
use Rattle.rv_sessions.specs.declared.transcript.Transcript.{Transcript}
use Rattle.rv_sessions.specs.Sessions.{DidReading}
use Rattle.rv_workspace.specs.Starts.{first_of}
use Rattle.rv_runs.specs.Past.{IsWithin}
use Rattle.rv_runs.specs.Works.{HasRun, IsAbsorbed}
use Rattle.rv_runs.proofs.Accounts.{Session, Accounts}

-- ---- tests of numbers
abbrev is_of : ℕ → Event → Bool
is_of s e = eqb e.session s

pick_is_filter : (is : Event → Bool) (xs : List Event) → pick is xs ≡ filter is xs
pick_is_filter is [] = refl
pick_is_filter is (x ∷ xs) = ap (λ (l : List Event). cond (is x) (x ∷ l) l) (pick_is_filter is xs)

-- all of these are of this session
abbrev AreOf : ℕ → List Event → Type 0
AreOf s = AllByRecursion (λ e. e.session ≡ s)

pick_own : (s : ℕ) (xs : List Event) → AreOf s xs → pick (is_of s) xs ≡ xs
pick_own s [] h = refl
pick_own s (x ∷ xs) h = (λ i. cond (eq-eqb x.session s h.0 i) (x ∷ pick_own s xs h.1 i) (pick_own s xs h.1 i))

pick_other : (s r : ℕ) (xs : List Event) → AreOf s xs → s ≢ r → pick (is_of r) xs ≡ []
pick_other s r [] h d = refl
pick_other s r (x ∷ xs) h d = (λ i. cond (ne_eqb x.session r (λ e. d (sym h.0 ∙ e)) i) (x ∷ pick_other s r xs h.1 d i) (pick_other s r xs h.1 d i))

-- ---- a session's own events
both_own : (s c : ℕ) (xs ys : List Event) → AllByRecursion (λ e. (e.session ≡ s) × (e.command ≡ c)) xs → AreOf s ys → AreOf s (xs ++ ys)
both_own s c [] ys h k = k
both_own s c (x ∷ xs) ys h k = (h.0.0, both_own s c xs ys h.1 k)

puts_own : (s : ℕ) (ts : List Turn) → AllByRecursion (IsTurn s) ts → AreOf s (puts_of ts)
puts_own s [] h = tt
puts_own s (t ∷ ts) h = both_own s h.0.0 t.put (puts_of ts) h.0.1 (puts_own s ts h.1)

-- all that a session put is of its number: a script that runs puts its turns, and one that doesn't puts nothing
did_own : (leaf : ℕ) (given : Input) (s : ℕ) (reading : Reading) (old new : Worker) (before after : View) (told : Transcript)
    → DidReading leaf given s reading old new before after told → before.mine ≡ [] → AreOf s after.mine
did_own leaf given s (NoScript fault) old new before after told d none = subst (AreOf s) (sym (d.nothing.mine ∙ none)) tt
did_own leaf given s (Flawed fault) old new before after told d none = subst (AreOf s) (sym (d.nothing.mine ∙ none)) tt
did_own leaf given s (Runs script) old new before after told d none =
    subst (AreOf s) (sym (d.mine ∙ ap (λ l. l ++ puts_of d.ts) none)) (puts_own s d.ts d.runs.own)

-- each session ran, from number s on
abbrev pub AllHaveRun : ℕ → Input → ℕ → List Session → Type 0
AllHaveRun leaf given s [] = Unit {0}
AllHaveRun leaf given s (one ∷ ones) = HasRun leaf given s one.bytes one.own one.pass one.told × AllHaveRun leaf given (s + 1) ones

-- the events of a session's own
abbrev pub mine_of : Session → List Event
mine_of one = one.pass.mine

module _ (leaf : ℕ) (given : Input) where
  -- the events of each session are of its number, by induction on the sessions: their numbers go up by one
  own_at : (s k : ℕ) (ones : List Session) → AllHaveRun leaf given s ones → AreOf (s + k) (get_or (map mine_of ones) k [])
  own_at s k [] h = tt
  own_at s zero (one ∷ ones) h = subst (λ n. AreOf n one.pass.mine) (same s) (did_own leaf given s h.0.ran.reading h.0.first one.own h.0.before one.pass one.told h.0.ran.did h.0.no_mine)
    where
      same : (s : ℕ) → s ≡ s + 0
      same s = omega arith
  own_at s (suc k) (one ∷ ones) h = subst (λ n. AreOf n (get_or (map mine_of ones) k [])) (later s k) (own_at (s + 1) k ones h.1)
    where
      later : (s k : ℕ) → (s + 1) + k ≡ s + suc k
      later s k = omega arith

  -- ---- the closed log
  module _ (number : ℕ) (ones : List Session) (log : List Event) (ran : AllHaveRun leaf given number ones) (makes : MakeUp ([] ∷ map mine_of ones) log) where
    list_past : (ps : List Session) (k : ℕ) → length ps ≤ k → get_or (map mine_of ps) k [] ≡ []
    list_past [] k l = refl
    list_past (p ∷ ps) zero l = absurd (omega arith)
    list_past (p ∷ ps) (suc k) l = list_past ps k (omega arith)

    length_mine : (ps : List Session) → length (map mine_of ps) ≡ length ps
    length_mine [] = refl
    length_mine (p ∷ ps) = let i = length_mine ps in omega arith

    others : (k j : ℕ) → j ≢ suc k → pick (is_of (number + k)) (get_or ([] ∷ map mine_of ones) j []) ≡ []
    others k zero n = refl
    others k (suc j) n = pick_other (number + j) (number + k) (get_or (map mine_of ones) j []) (own_at number j ones ran) (λ e. n (omega arith))

    -- the events of a session's number are its own
    events_at : (k : ℕ) → k < length ones → events_of (number + k) log ≡ get_or (map mine_of ones) k []
    events_at k l =
        sym (pick_is_filter (is_of (number + k)) log)
        ∙ its_own (is_of (number + k)) ([] ∷ map mine_of ones) log (suc k) makes (let w = length_mine ones in omega arith)
        (pick_own (number + k) (get_or (map mine_of ones) k []) (own_at number k ones ran)) (others k)

    -- a number that no session has
    abbrev IsOutside : ℕ → Type 0
    IsOutside s = (s < number) ⊎ (number + length ones ≤ s)

    none_else : (s : ℕ) → IsOutside s → (j : ℕ) → pick (is_of s) (get_or ([] ∷ map mine_of ones) j []) ≡ []
    none_else s o zero = refl
    none_else s o (suc j) = elim (cases_lt j (length ones)) [
      | inl l ↦ pick_other (number + j) s (get_or (map mine_of ones) j []) (own_at number j ones ran) (apart o l)
      | inr l ↦ ap (pick (is_of s)) (list_past ones j l)
    ]
      where
        apart : IsOutside s → j < length ones → number + j ≢ s
        apart (inl z) l e = omega arith
        apart (inr g) l e = omega arith

    -- each event is of one of the sessions
    pub within : AllByRecursion (IsWithin number (length ones)) log
    within = numbered log (λ s o. no_ones (is_of s) ([] ∷ map mine_of ones) log makes (none_else s o))
      where
        wrong : (e : Event) (es : List Event) → ((s : ℕ) → IsOutside s → pick (is_of s) (e ∷ es) ≡ []) → IsOutside e.session → ⊥
        wrong e es h o =
            let t : eqb e.session e.session ≡ true = eq-eqb e.session e.session refl in
            let k : length (e ∷ pick (is_of e.session) es) ≡ 0 = ap length (sym (ap (λ (b : Bool). cond b (e ∷ pick (is_of e.session) es) (pick (is_of e.session) es)) t) ∙ h e.session o) in omega arith

        later : (e : Event) (es : List Event) → ((s : ℕ) → IsOutside s → pick (is_of s) (e ∷ es) ≡ []) → (s : ℕ) → IsOutside s → pick (is_of s) es ≡ []
        later e es h s o = elim (cases_Bool (eqb e.session s)) [
          | inl t ↦ (let k : length (e ∷ pick (is_of s) es) ≡ 0 = ap length (sym (ap (λ (b : Bool). cond b (e ∷ pick (is_of s) es) (pick (is_of s) es)) t) ∙ h s o) in absurd (omega arith))
          | inr f ↦ sym (ap (λ (b : Bool). cond b (e ∷ pick (is_of s) es) (pick (is_of s) es)) f) ∙ h s o
        ]

        numbered : (es : List Event) → ((s : ℕ) → IsOutside s → pick (is_of s) es ≡ []) → AllByRecursion (IsWithin number (length ones)) es
        numbered [] h = tt
        numbered (e ∷ es) h = (
          (
            elim (cases_lt e.session number) [ inl l ↦ absurd (wrong e es h (inl l)) | inr g ↦ g ],
            elim (cases_lt e.session (number + length ones)) [ inl l ↦ l | inr g ↦ absurd (wrong e es h (inr g)) ],
          ),
          numbered es (later e es h),
        )

    module _ (first : First) (all : Worker) where
      accounts_from : (s : ℕ) (ps : List Session) → AllHaveRun leaf given s ps → AllByRecursion (λ p. first_of p.pass.start ≡ first) ps
          → AllByRecursion (λ p. IsAbsorbed p.own all) ps → AllByRecursion (λ p. BeginsLog p.pass.seen log) ps
          → ((k : ℕ) → k < length ps → events_of (s + k) log ≡ get_or (map mine_of ps) k []) → Accounts leaf given first all log s ps
      accounts_from s [] r f a b e = tt
      accounts_from s (p ∷ ps) r f a b e = (
        record {
          has_run = r.0;
          began = f.0;
          absorbed = a.0;
          begins = b.0;
          events = subst (λ n. events_of n log ≡ p.pass.mine) (same s) (e 0 (omega arith));
        },
        accounts_from (s + 1) ps r.1 f.1 a.1 b.1 (λ k l. subst (λ n. events_of n log ≡ get_or (map mine_of ps) k []) (later s k) (e (suc k) (omega arith))),
      )
        where
          same : (s : ℕ) → s + 0 ≡ s
          same s = omega arith

          later : (s k : ℕ) → s + suc k ≡ (s + 1) + k
          later s k = omega arith

      -- all sessions have their accounts
      pub accounts : AllByRecursion (λ p. first_of p.pass.start ≡ first) ones → AllByRecursion (λ p. IsAbsorbed p.own all) ones
          → AllByRecursion (λ p. BeginsLog p.pass.seen log) ones → Accounts leaf given first all log number ones
      accounts f a b = accounts_from number ones ran f a b events_at
