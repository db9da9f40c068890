-- The workspace behind the events of one command is the one that is due.
use Rattle.std.proofs.Common.{◌≡◌, ◌<◌, ◌+◌, ◌||◌, ℕ, Bool, cond, eqb, List, [], ◌∷◌, ◌++◌, map, suc, Option, Some, None, refl, sym, ap, ◌∙◌, arith, add-zero, append-nil}
use Rattle.std.specs.Prelude.{slice_get}
use Rattle.std.specs.List.{list_any}
use Rattle.std.specs.Option.{option_map_or}
use Rattle.std.proofs.lemmas.Bool.{and_from, eq-eqb, ne_eqb, and_right}
use Rattle.lang_model.specs.declared.syntax.Command.TheVariants.{
  Relation as RELATION,
  Let,
  Print as PRINT,
  List as LIST,
  Count,
  Typed,
  Remove as DROP,
  Snap,
  At,
  Load,
  Save,
  LoadAll,
  SaveAll,
  Atomic,
  Explain,
}
use Rattle.lang_model.specs.declared.syntax.Item.{Item}
use Rattle.lang_model.specs.declared.syntax.Item.TheVariants.{Function, Program, Command as COMMAND}
use Rattle.lang_model.specs.declared.syntax.Script.{Script}
use Rattle.run_model.specs.declared.event.Event.{Event}
use Rattle.run_model.specs.declared.event.Act.{Act}
use Rattle.run_model.specs.declared.event.Act.TheVariants.{Read, Assign, Remove}
use Rattle.run_model.specs.declared.outcome.Outcome.{Outcome}
use Rattle.rel_model.specs.Relation.{Relation}
use Rattle.run_model.specs.Names.{no_names, remove}
use Rattle.run_model.specs.Inputs.{Input, script_at, item_at}
use Rattle.run_model.specs.Due.{When, Workspace, Due, Nothing, Value, Values, Bytes, Explained, Refused, Gifts, given, given_all, gives, due, due_of_command}
use Rattle.run_model.specs.Events.{Deed, Reads, Removes, entry_of, entries, giving, first_of, reads_of}
use Rattle.run_model.specs.States.{Replay, start, at_command, set_by, replay_act, replay, gifts_of_item, gifts_of_script, gifts_due, is_of, events_before, state_after, state_for}
use Rattle.run_model.specs.Solo.{set_all, without, state_behind, deeds_due}
use Rattle.run_model.proofs.Entries.{reads_event, gives_event, removes_event, heads, tails, not_empty, none, Below, From, not_below, not_from, any_append, passes, is_own}

module _ {V : Type 0} where
  -- what is put for a command is there
  pub put_here : (s c : ℕ) (v : V) (f : ℕ → ℕ → V) → at_command s c v f s c ≡ v
  put_here s c v f = ap (λ (b : Bool). cond b v (f s c)) (and_from (eqb s s) (eqb c c) (eq-eqb s s refl) (eq-eqb c c refl))

  -- and for another command nothing changes
  put_there : (s t c d : ℕ) (v : V) (f : ℕ → ℕ → V) → d < c → at_command t d v f s c ≡ f s c
  put_there s t c d v f l =
      ap (λ (b : Bool). cond b v (f s c)) (and_right (eqb s t) (eqb c d) (ne_eqb c d (λ e. absurd (omega (arith, l)))))

module _ (gifts : ℕ → ℕ → Workspace → Gifts) where
  pub replay_append : (p : Replay Relation) (xs ys : List Event) → replay gifts p (xs ++ ys) ≡ replay gifts (replay gifts p xs) ys
  replay_append p [] ys = refl
  replay_append p (x ∷ xs) ys = replay_append (replay_act gifts x.session x.command x.act p) xs ys

  -- events of earlier commands leave what is noted of this one
  act_read : (c t d : ℕ) (a : Act) (p : Replay Relation) → d < c → (replay_act gifts t d a p).at_read 1 c ≡ p.at_read 1 c
  act_read c t d Read p l = put_there 1 t c d p.now p.at_read l
  act_read c t d (Assign name rel) p l = refl
  act_read c t d (Remove name) p l = refl

  act_given : (c t d : ℕ) (a : Act) (p : Replay Relation) → d < c → (replay_act gifts t d a p).given 1 c ≡ p.given 1 c
  act_given c t d Read p l = refl
  act_given c t d (Assign name rel) p l = put_there 1 t c d (p.given t d + 1) p.given l
  act_given c t d (Remove name) p l = refl

  pub read_stays : (c : ℕ) (xs : List Event) (p : Replay Relation) → Below c xs → (replay gifts p xs).at_read 1 c ≡ p.at_read 1 c
  read_stays c [] p h = refl
  read_stays c (x ∷ xs) p h =
      read_stays c xs (replay_act gifts x.session x.command x.act p) h.1 ∙ act_read c x.session x.command x.act p h.0.1

  pub given_stays : (c : ℕ) (xs : List Event) (p : Replay Relation) → Below c xs → (replay gifts p xs).given 1 c ≡ p.given 1 c
  given_stays c [] p h = refl
  given_stays c (x ∷ xs) p h =
      given_stays c xs (replay_act gifts x.session x.command x.act p) h.1 ∙ act_given c x.session x.command x.act p h.0.1

  -- assignments of a command give their names the values that are due, in order
  gives_all : (c k : ℕ) (gs all : Gifts) (p : Replay Relation) (mine : List Event) →
      gifts 1 c (p.at_read 1 c) ≡ all → p.given 1 c ≡ k → ((j : ℕ) → slice_get all (k + j) ≡ slice_get gs j) →
      map entry_of mine ≡ entries 1 c (giving gs) → (replay gifts p mine).now ≡ set_all gs p.now
  gives_all c k [] all p mine a g d h = ap (λ (xs : List Event). (replay gifts p xs).now) (none mine h)
  gives_all c k (gift ∷ gs) all p [] a g d h = absurd (not_empty _ _ (sym h))
  gives_all c k (gift ∷ gs) all p (e ∷ es) a g d h =
      let x = gives_event e 1 c gift.0 gift.1.rows gift.1.cols (heads _ _ _ _ h) in
      let q : Replay Relation = replay_act gifts 1 c (Assign gift.0 x.0) p in
      let found : slice_get (gifts 1 c (p.at_read 1 c)) (p.given 1 c) ≡ Some gift =
      (λ i. slice_get (a i) (g i)) ∙ ap (slice_get all) (sym (add-zero k)) ∙ d 0 in
      ap (λ (y : Event). (replay gifts (replay_act gifts y.session y.command y.act p) es).now) x.1
      ∙ gives_all c (k + 1) gs all q es a (put_here 1 c (p.given 1 c + 1) p.given ∙ ap (λ n. n + 1) g)
      (λ j. ap (slice_get all) (later k j) ∙ d (suc j)) (tails _ _ _ _ h)
      ∙ ap (λ (o : Option (List ℕ × Relation)). set_all gs (set_by gift.0 o p.now)) found
    where
      later : (k j : ℕ) → (k + 1) + j ≡ k + suc j
      later k j = omega arith

-- ---- one item
-- the deeds of an item and the state behind it, by what it does in general
module _ (item : Item) (state : Workspace) (stays : without item state ≡ state) where
  module _ (none_given : (d : Due) → gives item d ≡ []) (firsts : List Deed) (f : first_of item ≡ firsts) (r : reads_of item ≡ firsts) where
    plain_deeds : (d : Due) → deeds_due item d ≡ firsts
    plain_deeds Nothing = (λ i. f i ++ giving (none_given Nothing i)) ∙ append-nil firsts
    plain_deeds (Value v) = (λ i. f i ++ giving (none_given (Value v) i)) ∙ append-nil firsts
    plain_deeds (Values gifts) = (λ i. f i ++ giving (none_given (Values gifts) i)) ∙ append-nil firsts
    plain_deeds (Bytes bytes) = (λ i. f i ++ giving (none_given (Bytes bytes) i)) ∙ append-nil firsts
    plain_deeds (Explained steps) = (λ i. f i ++ giving (none_given (Explained steps) i)) ∙ append-nil firsts
    plain_deeds (Refused when outcome) = r

    plain_state : (d : Due) → state_behind item d state ≡ state
    plain_state Nothing = λ i. set_all (none_given Nothing i) (stays i)
    plain_state (Value v) = λ i. set_all (none_given (Value v) i) (stays i)
    plain_state (Values gifts) = λ i. set_all (none_given (Values gifts) i) (stays i)
    plain_state (Bytes bytes) = λ i. set_all (none_given (Bytes bytes) i) (stays i)
    plain_state (Explained steps) = λ i. set_all (none_given (Explained steps) i) (stays i)
    plain_state (Refused when outcome) = refl

  module _ (gs : Due → Gifts) (g : (d : Due) → gives item d ≡ gs d) (n : (when : When) (outcome : Outcome) → gs (Refused when outcome) ≡ []) (firsts : List Deed) (f : first_of item ≡ firsts) (r : reads_of item ≡ firsts) where
    giver_deeds : (d : Due) → deeds_due item d ≡ firsts ++ giving (gs d)
    giver_deeds Nothing = λ i. f i ++ giving (g Nothing i)
    giver_deeds (Value v) = λ i. f i ++ giving (g (Value v) i)
    giver_deeds (Values gifts) = λ i. f i ++ giving (g (Values gifts) i)
    giver_deeds (Bytes bytes) = λ i. f i ++ giving (g (Bytes bytes) i)
    giver_deeds (Explained steps) = λ i. f i ++ giving (g (Explained steps) i)
    giver_deeds (Refused when outcome) = r ∙ (sym (append-nil firsts) ∙ ap (λ l. firsts ++ giving l) (sym (n when outcome)))

    giver_state : (d : Due) → state_behind item d state ≡ set_all (gs d) state
    giver_state Nothing = λ i. set_all (g Nothing i) (stays i)
    giver_state (Value v) = λ i. set_all (g (Value v) i) (stays i)
    giver_state (Values gifts) = λ i. set_all (g (Values gifts) i) (stays i)
    giver_state (Bytes bytes) = λ i. set_all (g (Bytes bytes) i) (stays i)
    giver_state (Explained steps) = λ i. set_all (g (Explained steps) i) (stays i)
    giver_state (Refused when outcome) = ap (λ l. set_all l state) (sym (n when outcome))

module _ (gifts : ℕ → ℕ → Workspace → Gifts) (c : ℕ) (p : Replay Relation) where
  -- no event leaves the workspace, nor does a read
  quiet_now : (mine : List Event) → map entry_of mine ≡ entries 1 c [] → (replay gifts p mine).now ≡ p.now
  quiet_now mine h = ap (λ (xs : List Event). (replay gifts p xs).now) (none mine h)

  read_now : (mine : List Event) → map entry_of mine ≡ entries 1 c (Reads ∷ []) → (replay gifts p mine).now ≡ p.now
  read_now [] h = absurd (not_empty _ _ (sym h))
  read_now (e ∷ es) h =
      (λ i. (replay gifts p (reads_event e 1 c (heads _ _ _ _ h) i ∷ none es (tails _ _ _ _ h) i)).now)

  -- a removal takes the name away
  remove_now : (name : List ℕ) (mine : List Event) → map entry_of mine ≡ entries 1 c (Removes name ∷ []) →
      (replay gifts p mine).now ≡ remove name p.now
  remove_now name [] h = absurd (not_empty _ _ (sym h))
  remove_now name (e ∷ es) h =
      (λ i. (replay gifts p (removes_event e 1 c name (heads _ _ _ _ h) i ∷ none es (tails _ _ _ _ h) i)).now)

  module _ (gs : Gifts) (unread : p.at_read 1 c ≡ no_names) (ungiven : p.given 1 c ≡ 0) where
    -- assignments without a read
    giver_now : (mine : List Event) → gifts 1 c no_names ≡ gs → map entry_of mine ≡ entries 1 c (giving gs) →
        (replay gifts p mine).now ≡ set_all gs p.now
    giver_now mine own h =
        gives_all gifts c 0 gs gs p mine (ap (gifts 1 c) unread ∙ own) ungiven (λ j. ap (slice_get gs) (from_zero j)) h
      where
        from_zero : (j : ℕ) → 0 + j ≡ j
        from_zero j = omega arith

    -- a read, and then assignments
    reader_now : (mine : List Event) → gifts 1 c p.now ≡ gs → map entry_of mine ≡ entries 1 c (Reads ∷ giving gs) →
        (replay gifts p mine).now ≡ set_all gs p.now
    reader_now [] own h = absurd (not_empty _ _ (sym h))
    reader_now (e ∷ es) own h =
        let q : Replay Relation = replay_act gifts 1 c Read p in
        ap (λ (y : Event). (replay gifts (replay_act gifts y.session y.command y.act p) es).now) (reads_event e 1 c (heads _ _ _ _ h))
        ∙ gives_all gifts c 0 gs gs q es (ap (gifts 1 c) (put_here 1 c p.now p.at_read) ∙ own) ungiven
        (λ j. ap (slice_get gs) (from_zero j)) (tails _ _ _ _ h)
      where
        from_zero : (j : ℕ) → 0 + j ≡ j
        from_zero j = omega arith

module _ (input : Input) (script : Script) (only : script_at input 1 ≡ Some script) where
  -- a command of the only script is due to give what its item gives: its session and number find script and item
  gifts_here : (c : ℕ) (item : Item) (s : Workspace) → item_at script c ≡ Some item →
      gifts_due input 1 c s ≡ gives item (due input script item s None)
  unfolding gifts_due
  gifts_here c item s at =
      ap (λ (o : Option Script). option_map_or (gifts_of_script input c s) o []) only
      ∙ ap (λ (o : Option Item). option_map_or (gifts_of_item input script s) o []) at

  module _ (c : ℕ) (state : Workspace) (snap : Option Workspace) (p : Replay Relation) (now : p.now ≡ state)
      (unread : p.at_read 1 c ≡ no_names) (ungiven : p.given 1 c ≡ 0) (mine : List Event) where
    abbrev Behind : Item → Due → Type 0
    Behind item d = (replay (gifts_due input) p mine).now ≡ state_behind item d state

    abbrev Own : Item → Due → Type 0
    Own item d = map entry_of mine ≡ entries 1 c (deeds_due item d)

    quiet : (item : Item) (d : Due) → ((x : Due) → gives item x ≡ []) → first_of item ≡ [] → reads_of item ≡ [] →
        without item state ≡ state → Own item d → Behind item d
    quiet item d g f r w h =
        quiet_now (gifts_due input) c p mine (h ∙ ap (entries 1 c) (plain_deeds item state w g [] f r d))
        ∙ (now ∙ sym (plain_state item state w g [] f r d))

    reading : (item : Item) (d : Due) → ((x : Due) → gives item x ≡ []) → first_of item ≡ Reads ∷ [] →
        reads_of item ≡ Reads ∷ [] → without item state ≡ state → Own item d → Behind item d
    reading item d g f r w h =
        read_now (gifts_due input) c p mine (h ∙ ap (entries 1 c) (plain_deeds item state w g (Reads ∷ []) f r d))
        ∙ (now ∙ sym (plain_state item state w g (Reads ∷ []) f r d))

    giver : (item : Item) (d : Due) (gs : Due → Gifts) → ((x : Due) → gives item x ≡ gs x) →
        ((when : When) (outcome : Outcome) → gs (Refused when outcome) ≡ []) → first_of item ≡ [] →
        reads_of item ≡ [] → without item state ≡ state → gifts_due input 1 c no_names ≡ gs d → Own item d →
        Behind item d
    giver item d gs g n f r w own h =
        giver_now (gifts_due input) c p (gs d) unread ungiven mine own
        (h ∙ ap (entries 1 c) (giver_deeds item state w gs g n [] f r d))
        ∙ (ap (set_all (gs d)) now ∙ sym (giver_state item state w gs g n [] f r d))

    reader : (item : Item) (d : Due) (gs : Due → Gifts) → ((x : Due) → gives item x ≡ gs x) →
        ((when : When) (outcome : Outcome) → gs (Refused when outcome) ≡ []) →
        first_of item ≡ Reads ∷ [] → reads_of item ≡ Reads ∷ [] → without item state ≡ state →
        gifts_due input 1 c state ≡ gs d → Own item d → Behind item d
    reader item d gs g n f r w own h =
        reader_now (gifts_due input) c p (gs d) unread ungiven mine (ap (gifts_due input 1 c) now ∙ own)
        (h ∙ ap (entries 1 c) (giver_deeds item state w gs g n (Reads ∷ []) f r d))
        ∙ (ap (set_all (gs d)) now ∙ sym (giver_state item state w gs g n (Reads ∷ []) f r d))

    dropper : (at : _) (name : List ℕ) (d : Due) → Own (COMMAND (DROP at name)) d → Behind (COMMAND (DROP at name)) d
    dropper at name Nothing h = remove_now (gifts_due input) c p name mine h ∙ ap (remove name) now
    dropper at name (Value r) h = remove_now (gifts_due input) c p name mine h ∙ ap (remove name) now
    dropper at name (Values gifts) h = remove_now (gifts_due input) c p name mine h ∙ ap (remove name) now
    dropper at name (Bytes bytes) h = remove_now (gifts_due input) c p name mine h ∙ ap (remove name) now
    dropper at name (Explained steps) h = remove_now (gifts_due input) c p name mine h ∙ ap (remove name) now
    dropper at name (Refused when outcome) h = read_now (gifts_due input) c p mine h ∙ now

    -- behind the events of an item of which this is due, the workspace is the one that is due
    pub behind : (item : Item) → item_at script c ≡ Some item → (d : Due) → d ≡ due input script item state snap →
        Own item d → Behind item d
    unfolding due due_of_command
    behind (COMMAND (RELATION name rows rows_at cols cols_at list)) at d is h =
        let item = COMMAND (RELATION name rows rows_at cols cols_at list) in
        giver item d (given name) (λ x. refl) (λ w o. refl) refl refl refl (gifts_here c item no_names at ∙ ap (given name) (sym is)) h
    behind (COMMAND (Let name e)) at d is h =
        let item = COMMAND (Let name e) in
        reader item d (given name) (λ x. refl) (λ w o. refl) refl refl refl (gifts_here c item state at ∙ ap (given name) (sym is)) h
    behind (COMMAND (PRINT e)) at d is h = reading (COMMAND (PRINT e)) d (λ x. refl) refl refl refl h
    behind (COMMAND (LIST e)) at d is h = reading (COMMAND (LIST e)) d (λ x. refl) refl refl refl h
    behind (COMMAND (Count e)) at d is h = reading (COMMAND (Count e)) d (λ x. refl) refl refl refl h
    behind (COMMAND (Typed e)) at d is h = reading (COMMAND (Typed e)) d (λ x. refl) refl refl refl h
    behind (COMMAND (DROP place name)) at d is h = dropper place name d h
    behind (COMMAND (Snap name)) at d is h = reading (COMMAND (Snap name)) d (λ x. refl) refl refl refl h
    behind (COMMAND (At place name e)) at d is h = quiet (COMMAND (At place name e)) d (λ x. refl) refl refl refl h
    behind (COMMAND (Load name file)) at d is h =
        let item = COMMAND (Load name file) in
        giver item d (given name) (λ x. refl) (λ w o. refl) refl refl refl (gifts_here c item no_names at ∙ ap (given name) (sym is)) h
    behind (COMMAND (Save e file)) at d is h = reading (COMMAND (Save e file)) d (λ x. refl) refl refl refl h
    behind (COMMAND (LoadAll file)) at d is h =
        let item = COMMAND (LoadAll file) in
        giver item d given_all (λ x. refl) (λ w o. refl) refl refl refl (gifts_here c item no_names at ∙ ap given_all (sym is)) h
    behind (COMMAND (SaveAll file)) at d is h = reading (COMMAND (SaveAll file)) d (λ x. refl) refl refl refl h
    behind (COMMAND (Atomic lets)) at d is h =
        let item = COMMAND (Atomic lets) in
        reader item d given_all (λ x. refl) (λ w o. refl) refl refl refl (gifts_here c item state at ∙ ap given_all (sym is)) h
    behind (COMMAND (Explain e)) at d is h = reading (COMMAND (Explain e)) d (λ x. refl) refl refl refl h
    behind (Function place name params body) at d is h = quiet (Function place name params body) d (λ x. refl) refl refl refl h
    behind (Program place name params decls body result) at d is h =
        quiet (Program place name params decls body result) d (λ x. refl) refl refl refl h

-- ---- the state that a command sees
-- where the command's first event comes behind those of earlier ones, it sees the workspace of then
pub sees_now : (input : Input) (c : ℕ) (done : List Event) (e : Event) (rest : List Event) → Below c done →
    e.session ≡ 1 → e.command ≡ c → state_for input (done ++ e ∷ rest) 1 c ≡ (replay (gifts_due input) start done).now
unfolding state_for state_after
sees_now input c done e rest b s n =
    let own = is_own c e s n in
    let not_there = not_below c done b in
    ap (λ t. cond t (state_after input (events_before 1 c (done ++ e ∷ rest))) no_names)
    (any_append (is_of 1 c) done (e ∷ rest) not_there ∙ ap (λ t. t || list_any (is_of 1 c) rest) own)
    ∙ ap (state_after input) (passes c done (e ∷ rest) not_there ∙ ap (λ t. done ++ cond t [] (e ∷ events_before 1 c rest)) own ∙ append-nil done)

-- where it has no event, the empty one
pub sees_none : (input : Input) (c : ℕ) (done rest : List Event) → Below c done → From (c + 1) (map entry_of rest) →
    state_for input (done ++ rest) 1 c ≡ no_names
unfolding state_for
sees_none input c done rest b f =
    ap (λ t. cond t (state_after input (events_before 1 c (done ++ rest))) no_names)
    (any_append (is_of 1 c) done rest (not_below c done b) ∙ not_from c rest f)
