-- What one session gives, by the states of the closed log.
use Rattle.std.proofs.Common.{◌≡◌, ◌<◌, ◌+◌, ◌-◌, ◌&&◌, ℕ, true, false, cond, eqb, List, [], ◌∷◌, ◌++◌, map, length, Option, Some, None, refl, sym, ap, subst, ◌∙◌, inr, arith, append_assoc, append-nil}
use Rattle.std.specs.Prelude.{slice_get}
use Rattle.std.specs.List.{list_any, AllByRecursion}
use Rattle.std.proofs.lemmas.Bool.{eq-eqb, ne_eqb, and_from, and_right}
use Rattle.rel_model.specs.declared.Rel.{Rel}
use Rattle.lang_model.specs.declared.syntax.Command.TheVariants.{}
use Rattle.lang_model.specs.declared.syntax.Script.{Script}
use Rattle.run_model.specs.declared.event.Event.{Event}
use Rattle.run_model.specs.declared.event.Act.{Act}
use Rattle.run_model.specs.declared.event.Act.TheVariants.{Read, Assign, Remove}
use Rattle.run_model.specs.declared.outcome.Outcome.{Outcome}
use Rattle.rel_model.specs.Relation.{Relation}
use Rattle.run_model.specs.Names.{no_names}
use Rattle.run_model.specs.Inputs.{Input, item_at}
use Rattle.run_model.specs.Due.{Workspace, gives, due}
use Rattle.run_model.specs.Steps.{Ending, Succeeds, Fails, ending, steps_from, steps}
use Rattle.run_model.specs.Events.{Reads, deed_of, Entry, entry_of, entries, first_of, done_deeds, HasDeeds, AreEvents}
use Rattle.run_model.specs.States.{begun, is_of, events_of, before_first, gifts_due}
use Rattle.run_model.specs.Carried.{First, carry, carried_from, valued, HasDue, AllHaveDue}
use Rattle.run_model.specs.Turns.{puts_of, taken, state_of_log, state_taken}
use Rattle.run_model.specs.Sessions.{rels_of, HaveValues, HasValuesAt, HasValues, RanIn, SessionsMakeDue}
use Rattle.run_model.proofs.Entries.{event, entry, map_append}
use Rattle.run_model.proofs.Places.{behind_log, behind_none, first_here, first_passes}
use Rattle.run_model.proofs.Standing.{own_append, any_own, Ahead, taken_first}
use Rattle.run_model.proofs.Locating.{Leads, done_leads, none_before, gives_done, read_before, Located, locate}
use Rattle.run_model.proofs.Values.{rels_append, all_given, next_value, is_read, any_map, any_mid, read_own, carry_append, log_count, some_read, noted, gifts_at, same_gifts}

-- ---- one session
placed : (script : Script) (k : ℕ) → item_at script (1 + k) ≡ slice_get script.items.items k
unfolding item_at
placed script k = ap (slice_get script.items.items) (less k)
  where
    less : (k : ℕ) → (1 + k) - 1 ≡ k
    less k = omega arith

module _ (input : Input) (first : First) (means : Rel → Relation) (log : List Event) (s : ℕ) (r : RanIn input first means log s) where
  abbrev puts : List Event
  puts = puts_of r.ts

  abbrev sees : ℕ → Workspace
  sees = state_taken first.names means r.ts

  -- the entry of an event of the session, among the session's own
  own_split : (xs : List Event) (e : Event) (ys : List Event) → log ≡ xs ++ e ∷ ys → e.session ≡ s → puts ≡ events_of s xs ++ e ∷ events_of s ys
  own_split xs e ys w own =
      sym r.all ∙ (ap (events_of s) w ∙ (own_append s xs (e ∷ ys)
      ∙ ap (λ b. events_of s xs ++ cond b (e ∷ events_of s ys) (events_of s ys)) (eq-eqb e.session s own)))

  events_told : (log : List Entry) → map entry_of puts ≡ log →
      AreEvents input r.script s (steps_from sees 1 no_names r.script.items.items r.outcomes) log
  unfolding steps
  events_told log told = subst (AreEvents input r.script s (steps sees r.script r.outcomes)) told r.runs.events

  values_told : AllByRecursion (HasValues input r.script means puts) (steps_from sees 1 no_names r.script.items.items r.outcomes)
  unfolding steps
  values_told = r.runs.values

  located : (xs : List Event) (c : ℕ) (a : Act) (ys : List Event) → log ≡ xs ++ event s c a ∷ ys →
      Located input r.script s means sees puts r.outcomes 1 c (deed_of a) (map entry_of (events_of s xs))
  located xs c a ys w =
      let parts = own_split xs (event s c a) ys w refl in
      let told : map entry_of puts ≡ map entry_of (events_of s xs) ++ entry s c (deed_of a) ∷ map entry_of (events_of s ys) =
      ap (map entry_of) parts ∙ map_append (events_of s xs) (event s c a ∷ events_of s ys) in
      locate input r.script s means sees puts r.script.items.items r.outcomes 1 no_names c (deed_of a) (map entry_of (events_of s xs)) (map entry_of (events_of s ys))
      (placed r.script) (events_told _ told) values_told

  -- no event of a command below is one of this command
  none_lower : (c : ℕ) (xs : List Event) → AllByRecursion (λ x. x.command < c) (map entry_of xs) → list_any (is_of s c) xs ≡ false
  none_lower c [] h = refl
  none_lower c (x ∷ xs) h = rw (ne_eqb x.command c (λ k. absurd (omega (arith, h.0)))) (rw (and_right (eqb x.session s) false refl) (none_lower c xs h.1))

  -- a read of a command that is done stands behind the log that the command took
  read_first : (c : ℕ) (o : Outcome) → slice_get r.outcomes (c - 1) ≡ Some o → ending o ≡ Succeeds → (before behind : List Event) →
      log ≡ before ++ event s c Read ∷ behind → taken c r.ts ≡ Some before
  read_first c o is done before behind w =
      let l = located before c Read behind w in
      let same : ending l.outcome ≡ Succeeds = ap ending_of (sym l.came ∙ is) ∙ done in
      let deeds : l.deeds ≡ done_deeds l.item (due input r.script l.item (sees c) l.snap) =
      subst (λ x. HasDeeds x l.item (due input r.script l.item (sees c) l.snap) l.deeds) same l.has in
      let alone : l.pre ≡ [] = none_before l.deeds l.pre l.post (subst Leads (sym deeds) (done_leads l.item (due input r.script l.item (sees c) l.snap))) l.whole in
      let lower : map entry_of (events_of s before) ≡ l.lower = l.before ∙ (ap (λ d. l.lower ++ entries s c d) alone ∙ append-nil l.lower) in
      let free : list_any (is_of s c) before ≡ false = any_own s c before ∙ none_lower c (events_of s before) (subst (AllByRecursion (λ x. x.command < c)) (sym lower) l.is_lower) in
      let own : is_of s c (event s c Read) ≡ true = and_from (eqb s s) (eqb c c) (eq-eqb s s refl) (eq-eqb c c refl) in
      let ahead : Ahead s r.ts [] log = record { new = r.seen; turns = r.runs.turns; begins = r.begins; own = r.runs.own; all = r.all } in
      sym (taken_first s c r.ts [] log log ahead refl) ∙ (behind_none (before_first s c log)
      ∙ (ap (before_first s c) w ∙ (first_passes s c before (event s c Read ∷ behind) free
      ∙ (ap (behind_log before) (first_here s c (event s c Read) behind own) ∙ ap (λ x. Some x) (append-nil before)))))
    where
      ending_of : Option Outcome → Ending
      ending_of None = Fails
      ending_of (Some x) = ending x

  carried_there : (at : List Event) → valued means ((carry (begun first.names) at).now) ≡ state_of_log first.names means (Some at)
  unfolding carried_from
  carried_there at = refl

  -- an assignment of the session has the value that is due
  pub has_due : (xs : List Event) (c : ℕ) (name : List ℕ) (rel : Rel) (ys : List Event) → log ≡ xs ++ event s c (Assign name rel) ∷ ys →
      HasDue (gifts_due input) means s c (Assign name rel) (carry (begun first.names) xs)
  has_due xs c name rel ys w =
      let l = located xs c (Assign name rel) ys w in
      let d = due input r.script l.item (sees c) l.snap in
      let done = gives_done (ending l.outcome) l.item d l.deeds l.pre l.post name rel.rows rel.cols l.has l.whole in
      let deeds : l.deeds ≡ done_deeds l.item d = subst (λ x. HasDeeds x l.item d l.deeds) done l.has in
      let values : HaveValues means (rels_of c puts) (gives l.item d) = subst (λ x. HasValuesAt x means (rels_of c puts) (gives l.item d)) done l.values in
      let mine : rels_of c puts ≡ rels_of c (events_of s xs) ++ rel ∷ rels_of c (events_of s ys) =
      ap (rels_of c) (own_split xs (event s c (Assign name rel)) ys w refl)
      ∙ (rels_append c (events_of s xs) (event s c (Assign name rel) ∷ events_of s ys)
      ∙ ap (λ b. rels_of c (events_of s xs) ++ cond b (rel ∷ rels_of c (events_of s ys)) (rels_of c (events_of s ys))) (eq-eqb c c refl)) in
      let v = next_value means (rels_of c (events_of s xs)) rel (rels_of c (events_of s ys)) (gives l.item d) (subst (λ z. HaveValues means z (gives l.item d)) mine values) in
      let counted : (carry (begun first.names) xs).given s c ≡ length (rels_of c (events_of s xs)) = all_given s c xs (begun first.names) ∙ from_zero (length (rels_of c (events_of s xs))) in
      let state : first_of l.item ≡ Reads ∷ [] → valued means ((carry (begun first.names) xs).at_read s c) ≡ sees c = λ f.
      let b = read_before l.item d l.pre l.post name rel.rows rel.cols f (sym deeds ∙ l.whole) in
      let told : map entry_of (events_of s xs) ≡ l.lower ++ entry s c Reads ∷ entries s c b.0 = l.before ∙ ap (λ z. l.lower ++ entries s c z) b.1 in
      let any : list_any (λ e. is_read s c (entry_of e)) (events_of s xs) ≡ true =
      sym (any_map (is_read s c) (events_of s xs)) ∙ (ap (list_any (is_read s c)) told ∙ any_mid (is_read s c) l.lower (entry s c Reads) (entries s c b.0) (read_is c)) in
      seen_there xs c (event s c (Assign name rel) ∷ ys) w (taken c r.ts) refl (read_first c l.outcome l.came done) (read_own s c xs any) in (
        v.0,
        (λ i. slice_get (gifts_due input s c (valued means ((carry (begun first.names) xs).at_read s c))) (counted i))
            ∙ (ap (λ g. slice_get g (length (rels_of c (events_of s xs))))
            (gifts_at input r.script s c l.item (valued means ((carry (begun first.names) xs).at_read s c)) r.is_script l.at
            ∙ same_gifts input r.script l.item (valued means ((carry (begun first.names) xs).at_read s c)) (sees c) l.snap state)
            ∙ v.1),
        v.2,
      )
    where
      from_zero : (n : ℕ) → 0 + n ≡ n
      from_zero n = omega arith

      read_is : (c : ℕ) → is_read s c (entry s c Reads) ≡ true
      read_is c = and_from (eqb s s && eqb c c) true (and_from (eqb s s) (eqb c c) (eq-eqb s s refl) (eq-eqb c c refl)) refl

      log_of : List Event → Option (List Event) → List Event
      log_of d None = d
      log_of d (Some x) = x

      -- what was noted at the reads of a command is the state that it took
      seen_there : (xs : List Event) (c : ℕ) (ys : List Event) → log ≡ xs ++ ys → (o : Option (List Event)) → taken c r.ts ≡ o →
          ((before behind : List Event) → log ≡ before ++ event s c Read ∷ behind → taken c r.ts ≡ Some before) →
          list_any (λ e. is_read s c (entry_of e)) xs ≡ true → valued means ((carry (begun first.names) xs).at_read s c) ≡ sees c
      seen_there xs c ys w None is first_read any =
          let f = some_read s c xs any in
          let k : 0 ≡ 1 = ap log_count (sym is ∙ first_read f.0 (f.1 ++ ys) (w ∙ (ap (λ z. z ++ ys) f.2 ∙ append_assoc f.0 (event s c Read ∷ f.1) ys))) in
          absurd (omega (arith, k))
      seen_there xs c ys w (Some at) is first_read any =
          ap (valued means) (noted first.names s c log at (λ before behind v. ap (log_of []) (sym (first_read before behind v) ∙ is)) [] xs ys w (inr any))
          ∙ (carried_there at ∙ ap (state_of_log first.names means) (sym is))

-- ---- the whole log
module _ (input : Input) (first : First) (means : Rel → Relation) (log : List Event) where
  act_due : (s c : ℕ) (a : Act) (xs ys : List Event) → RanIn input first means log s → log ≡ xs ++ event s c a ∷ ys →
      HasDue (gifts_due input) means s c a (carry (begun first.names) xs)
  act_due s c Read xs ys r w = tt
  act_due s c (Assign name rel) xs ys r w = has_due input first means log s r xs c name rel ys w
  act_due s c (Remove name) xs ys r w = tt

  all_due : (xs ys : List Event) → log ≡ xs ++ ys → AllByRecursion (λ e. RanIn input first means log e.session) ys →
      AllHaveDue (gifts_due input) means (carry (begun first.names) xs) ys
  all_due xs [] w h = tt
  all_due xs (e ∷ es) w h = (
    act_due e.session e.command e.act xs es h.0 w,
    subst (λ q. AllHaveDue (gifts_due input) means q es) (carry_append (begun first.names) xs (e ∷ []))
        (all_due (xs ++ e ∷ []) es (w ∙ sym (append_assoc xs (e ∷ []) es)) h.1),
  )

pub sessions_make_due : SessionsMakeDue
sessions_make_due input first means log h = all_due input first means log [] log refl h
