-- Where an entry stands among those of a session: in the entries of its command, of which a read comes first where the
-- command is done.
use Rattle.std.proofs.Common.{◌≡◌, ◌<◌, ◌≤◌, ◌⊎◌, ◌+◌, ◌-◌, ℕ, suc, Bool, true, false, List, [], ◌∷◌, ◌++◌, Option, Some, refl, sym, ap, subst, ◌∙◌, inl, inr, arith, append_assoc, add-zero}
use Rattle.std.specs.Prelude.{slice_get}
use Rattle.std.specs.List.{AllByRecursion}
use Rattle.std.proofs.lemmas.Bool.{true≢false}
use Rattle.rel_model.specs.declared.Rel.{Rel}
use Rattle.lang_model.specs.declared.syntax.Command.TheVariants.{
  Relation as RELATION,
  Let,
  Print as PRINT,
  List as LIST,
  Count,
  Typed,
  Remove as DROP,
  Snap,
  At,
  Load,
  Save,
  LoadAll,
  SaveAll,
  Atomic,
  Explain,
}
use Rattle.lang_model.specs.declared.syntax.Item.{Item}
use Rattle.lang_model.specs.declared.syntax.Item.TheVariants.{Function, Program, Command as COMMAND}
use Rattle.lang_model.specs.declared.syntax.Script.{Script}
use Rattle.run_model.specs.declared.event.Event.{Event}
use Rattle.run_model.specs.declared.outcome.Outcome.{Outcome}
use Rattle.rel_model.specs.Relation.{Relation}
use Rattle.run_model.specs.Inputs.{Input, item_at}
use Rattle.run_model.specs.Due.{Workspace, Due, Gifts, gives, due}
use Rattle.run_model.specs.Steps.{Ending, Succeeds, Fails, Changes, LacksMemory, ending, Snapshots, snaps_behind, snap_for, steps_from}
use Rattle.run_model.specs.Events.{Deed, Reads, Gives, Removes, Entry, entries, giving, first_of, reads_of, all_reads_of, done_deeds, HasDeeds, AreEvents}
use Rattle.run_model.specs.Sessions.{rels_of, HasValuesAt, HasValues}
use Rattle.run_model.proofs.Entries.{entry, heads, tails, not_empty}

-- ---- deeds
abbrev pub gives_name : Deed → Bool
gives_name Reads = false
gives_name (Gives name m n) = true
gives_name (Removes name) = false

abbrev pub is_reads : Deed → Bool
is_reads Reads = true
is_reads (Gives name m n) = false
is_reads (Removes name) = false

abbrev deed_or : Deed → List Deed → Deed
deed_or d [] = d
deed_or d (x ∷ xs) = x

abbrev rest_of : List Deed → List Deed
rest_of [] = []
rest_of (x ∷ xs) = xs

abbrev count_deeds : List Deed → ℕ
count_deeds [] = 0
count_deeds (x ∷ xs) = 1

-- no deed passes a test
abbrev NonePass : (Deed → Bool) → List Deed → Type 0
NonePass p = AllByRecursion (λ d. p d ≡ false)

none_right : (p : Deed → Bool) (xs ys : List Deed) → NonePass p (xs ++ ys) → NonePass p ys
none_right p [] ys h = h
none_right p (x ∷ xs) ys h = none_right p xs ys h.1

none_left : (p : Deed → Bool) (xs ys : List Deed) → NonePass p (xs ++ ys) → NonePass p xs
none_left p [] ys h = tt
none_left p (x ∷ xs) ys h = (h.0, none_left p xs ys h.1)

giving_quiet : (gs : Gifts) → NonePass is_reads (giving gs)
giving_quiet [] = tt
giving_quiet (g ∷ gs) = (refl, giving_quiet gs)

-- reads are the first of the deeds, or there are none
abbrev pub Leads : List Deed → Type 0
Leads deeds = NonePass is_reads (rest_of deeds)

quiet_leads : (deeds : List Deed) → NonePass is_reads deeds → Leads deeds
quiet_leads [] h = tt
quiet_leads (d ∷ ds) h = h.1

-- an item's reads give no name, case by case: they are reads and nothing else
reads_quiet : (item : Item) → NonePass gives_name (reads_of item) × NonePass gives_name (all_reads_of item)
reads_quiet (COMMAND (RELATION name rows rows_at cols cols_at list)) = (tt, tt)
reads_quiet (COMMAND (Let name e)) = ((refl, tt), (refl, tt))
reads_quiet (COMMAND (PRINT e)) = ((refl, tt), (refl, tt))
reads_quiet (COMMAND (LIST e)) = ((refl, tt), (refl, tt))
reads_quiet (COMMAND (Count e)) = ((refl, tt), (refl, tt))
reads_quiet (COMMAND (Typed e)) = ((refl, tt), (refl, tt))
reads_quiet (COMMAND (DROP at name)) = ((refl, tt), (refl, tt))
reads_quiet (COMMAND (Snap name)) = ((refl, tt), (refl, tt))
reads_quiet (COMMAND (At at name e)) = (tt, tt)
reads_quiet (COMMAND (Load name file)) = (tt, tt)
reads_quiet (COMMAND (Save e file)) = ((refl, tt), (refl, tt))
reads_quiet (COMMAND (LoadAll file)) = (tt, tt)
reads_quiet (COMMAND (SaveAll file)) = ((refl, tt), (refl, tt))
reads_quiet (COMMAND (Atomic lets)) = ((refl, tt), (refl, (refl, tt)))
reads_quiet (COMMAND (Explain e)) = ((refl, tt), (refl, tt))
reads_quiet (Function at name params body) = (tt, tt)
reads_quiet (Program at name params decls body result) = (tt, tt)

-- a read among the deeds of an item that is done stands first: behind the first deed the item only gives
pub done_leads : (item : Item) (d : Due) → Leads (done_deeds item d)
done_leads (COMMAND (RELATION name rows rows_at cols cols_at list)) d = quiet_leads (giving (gives (COMMAND (RELATION name rows rows_at cols cols_at list)) d)) (giving_quiet (gives (COMMAND (RELATION name rows rows_at cols cols_at list)) d))
done_leads (COMMAND (Let name e)) d = giving_quiet (gives (COMMAND (Let name e)) d)
done_leads (COMMAND (PRINT e)) d = tt
done_leads (COMMAND (LIST e)) d = tt
done_leads (COMMAND (Count e)) d = tt
done_leads (COMMAND (Typed e)) d = tt
done_leads (COMMAND (DROP at name)) d = tt
done_leads (COMMAND (Snap name)) d = tt
done_leads (COMMAND (At at name e)) d = tt
done_leads (COMMAND (Load name file)) d = quiet_leads (giving (gives (COMMAND (Load name file)) d)) (giving_quiet (gives (COMMAND (Load name file)) d))
done_leads (COMMAND (Save e file)) d = tt
done_leads (COMMAND (LoadAll file)) d = quiet_leads (giving (gives (COMMAND (LoadAll file)) d)) (giving_quiet (gives (COMMAND (LoadAll file)) d))
done_leads (COMMAND (SaveAll file)) d = tt
done_leads (COMMAND (Atomic lets)) d = giving_quiet (gives (COMMAND (Atomic lets)) d)
done_leads (COMMAND (Explain e)) d = tt
done_leads (Function at name params body) d = tt
done_leads (Program at name params decls body result) d = tt

-- nothing stands before a read
pub none_before : (deeds pre post : List Deed) → Leads deeds → deeds ≡ pre ++ Reads ∷ post → pre ≡ []
none_before deeds [] post l e = refl
none_before deeds (y ∷ pre) post l e =
    absurd (true≢false (none_right is_reads pre (Reads ∷ post) (subst Leads e l)).0)

-- an item that gives a name is done
pub gives_done : (x : Ending) (item : Item) (d : Due) (deeds pre post : List Deed) (name : List ℕ) (m n : ℕ) → HasDeeds x item d deeds →
    deeds ≡ pre ++ Gives name m n ∷ post → x ≡ Succeeds
gives_done Succeeds item d deeds pre post name m n h e = refl
gives_done Fails item d deeds pre post name m n h e =
    absurd (true≢false (none_right gives_name pre (Gives name m n ∷ post) (subst (NonePass gives_name) (sym h ∙ e) (reads_quiet item).0)).0)
gives_done Changes item d deeds pre post name m n h e =
    absurd (true≢false (none_right gives_name pre (Gives name m n ∷ post) (subst (NonePass gives_name) (sym h ∙ e) (reads_quiet item).1)).0)
gives_done LacksMemory item d deeds pre post name m n h e =
    absurd (true≢false (none_right gives_name pre (Gives name m n ∷ post)
    (subst (NonePass gives_name) e (none_left gives_name deeds h.0 (subst (NonePass gives_name) h.1 (reads_quiet item).1)))).0)

-- behind its read, where it has one
pub read_before : (item : Item) (d : Due) (pre post : List Deed) (name : List ℕ) (m n : ℕ) → first_of item ≡ Reads ∷ [] →
    done_deeds item d ≡ pre ++ Gives name m n ∷ post → (more : List Deed) × (pre ≡ Reads ∷ more)
read_before item d [] post name m n f e =
    let x : Reads ∷ giving (gives item d) ≡ Gives name m n ∷ post = sym (ap (λ l. l ++ giving (gives item d)) f) ∙ e in
    absurd (true≢false (ap (λ l. is_reads (deed_or Reads l)) x))
read_before item d (y ∷ pre) post name m n f e =
    let x : Reads ∷ giving (gives item d) ≡ y ∷ (pre ++ Gives name m n ∷ post) = sym (ap (λ l. l ++ giving (gives item d)) f) ∙ e in
    (pre, ap (λ z. z ∷ pre) (sym (ap (deed_or Reads) x)))

-- ---- entries
-- an entry of two lists one behind the other is in one of them
cut : (us : List Entry) (x : Entry) (vs block rest : List Entry) → us ++ x ∷ vs ≡ block ++ rest →
    ((bs : List Entry) × (block ≡ us ++ x ∷ bs)) ⊎ ((us2 : List Entry) × (us ≡ block ++ us2) × (us2 ++ x ∷ vs ≡ rest))
cut us x vs [] rest e = inr (us, refl, e)
cut [] x vs (b ∷ bs) rest e = inl (bs, ap (λ z. z ∷ bs) (sym (heads x b vs (bs ++ rest) e)))
cut (u ∷ us) x vs (b ∷ bs) rest e =
    let h = heads u b (us ++ x ∷ vs) (bs ++ rest) e in
    elim (cut us x vs bs rest (tails u b (us ++ x ∷ vs) (bs ++ rest) e)) [
      | inl l ↦ inl (l.0, (λ i. sym h i ∷ l.1 i))
      | inr r ↦ inr (r.0, (λ i. h i ∷ r.1 i), r.2)
    ]

-- an entry of a block is that of one of its deeds
in_block : (s n c : ℕ) (d : Deed) (deeds : List Deed) (us bs : List Entry) → entries s n deeds ≡ us ++ entry s c d ∷ bs →
    (pre post : List Deed) × (deeds ≡ pre ++ d ∷ post) × (us ≡ entries s n pre) × (n ≡ c)
in_block s n c d [] [] bs e = absurd (not_empty (entry s c d) bs (sym e))
in_block s n c d [] (u ∷ us) bs e = absurd (not_empty u (us ++ entry s c d ∷ bs) (sym e))
in_block s n c d (x ∷ xs) [] bs e =
    let h = heads (entry s n x) (entry s c d) (entries s n xs) bs e in
    ([], xs, ap (λ z. z ∷ xs) (ap (λ (y : Entry). y.deed) h), refl, ap (λ (y : Entry). y.command) h)
in_block s n c d (x ∷ xs) (u ∷ us) bs e =
    let h = heads (entry s n x) u (entries s n xs) (us ++ entry s c d ∷ bs) e in
    let r = in_block s n c d xs us bs (tails (entry s n x) u (entries s n xs) (us ++ entry s c d ∷ bs) e) in
    (x ∷ r.0, r.1, ap (λ l. x ∷ l) r.2, (λ i. sym h i ∷ r.3 i), r.4)

block_number : (s n c : ℕ) (deeds : List Deed) → n < c → AllByRecursion (λ x. x.command < c) (entries s n deeds)
block_number s n c [] l = tt
block_number s n c (d ∷ ds) l = (l, block_number s n c ds l)

-- two lists of entries of lower commands make one, by induction on the first
lower_append : (c : ℕ) (xs ys : List Entry) → AllByRecursion (λ x. x.command < c) xs → AllByRecursion (λ x. x.command < c) ys → AllByRecursion (λ x. x.command < c) (xs ++ ys)
lower_append c [] ys h k = k
lower_append c (x ∷ xs) ys h k = (h.0, lower_append c xs ys h.1 k)

module _ (input : Input) (script : Script) (s : ℕ) (means : Rel → Relation) (f : ℕ → Workspace) (evs : List Event) where
  -- where the entry of a deed of command c stands: what the item is, and what stands before
  pub record Located (outcomes : List Outcome) (n c : ℕ) (d : Deed) (us : List Entry) : Type 0 where
    pub low : n ≤ c
    pub item : Item
    pub snap : Option Workspace
    pub outcome : Outcome
    pub came : slice_get outcomes (c - n) ≡ Some outcome
    pub at : item_at script c ≡ Some item
    pub deeds : List Deed
    pub pre : List Deed
    pub post : List Deed
    pub whole : deeds ≡ pre ++ d ∷ post
    pub has : HasDeeds (ending outcome) item (due input script item (f c) snap) deeds
    pub values : HasValuesAt (ending outcome) means (rels_of c evs) (gives item (due input script item (f c) snap))
    pub lower : List Entry
    pub before : us ≡ lower ++ entries s c pre
    pub is_lower : AllByRecursion (λ x. x.command < c) lower

  -- by induction on the items: an entry is one of the first item's, or it stands behind them and the rest locates it;
  -- all that stands before it is of lower commands
  pub locate : (items : List Item) (outcomes : List Outcome) (n : ℕ) (snaps : Snapshots) (c : ℕ) (d : Deed) (us vs : List Entry) →
      ((k : ℕ) → item_at script (n + k) ≡ slice_get items k) →
      AreEvents input script s (steps_from f n snaps items outcomes) (us ++ entry s c d ∷ vs) →
      AllByRecursion (HasValues input script means evs) (steps_from f n snaps items outcomes) → Located outcomes n c d us
  locate [] outcomes n snaps c d us vs placed ev val = absurd (none_there us ev)
    where
      none_there : (us : List Entry) → us ++ entry s c d ∷ vs ≡ [] → ⊥
      none_there [] e = not_empty (entry s c d) vs e
      none_there (u ∷ us) e = not_empty u (us ++ entry s c d ∷ vs) e
  locate (item ∷ items) [] n snaps c d us vs placed ev val = absurd (none_there us ev)
    where
      none_there : (us : List Entry) → us ++ entry s c d ∷ vs ≡ [] → ⊥
      none_there [] e = not_empty (entry s c d) vs e
      none_there (u ∷ us) e = not_empty u (us ++ entry s c d ∷ vs) e
  locate (item ∷ items) (o ∷ outcomes) n snaps c d us vs placed ev val = elim (cut us (entry s c d) vs (entries s n ev.0) ev.1 ev.2) [
    | inl l ↦
        let b = in_block s n c d ev.0 us l.0 l.1 in
        let here : Located (o ∷ outcomes) n n d us = record {
          low = omega arith;
          item = item;
          snap = snap_for item snaps;
          outcome = o;
          came = ap (slice_get (o ∷ outcomes)) (less_itself n);
          at = ap (item_at script) (sym (add-zero n)) ∙ placed 0;
          deeds = ev.0;
          pre = b.0;
          post = b.1;
          whole = b.2;
          has = ev.3;
          values = val.0;
          lower = [];
          before = b.3;
          is_lower = tt;
        } in
        subst (λ m. Located (o ∷ outcomes) n m d us) b.4 here
    | inr r ↦
        let more = locate items outcomes (n + 1) (snaps_behind item o (f n) snaps) c d r.0 vs
        (λ k. ap (item_at script) (later n k) ∙ placed (suc k))
        (subst (AreEvents input script s (steps_from f (n + 1) (snaps_behind item o (f n) snaps) items outcomes)) (sym r.2) ev.4) val.1 in
        record {
          low = omega (arith, more.low);
          item = more.item;
          snap = more.snap;
          outcome = more.outcome;
          came = ap (slice_get (o ∷ outcomes)) (one_more n c more.low) ∙ more.came;
          at = more.at;
          deeds = more.deeds;
          pre = more.pre;
          post = more.post;
          whole = more.whole;
          has = more.has;
          values = more.values;
          lower = entries s n ev.0 ++ more.lower;
          before = r.1 ∙ (ap (λ l. entries s n ev.0 ++ l) more.before ∙ sym (append_assoc (entries s n ev.0) more.lower (entries s c more.pre)));
          is_lower = lower_append c (entries s n ev.0) more.lower (block_number s n c ev.0 (omega (arith, more.low))) more.is_lower;
        }
  ]
    where
      later : (n k : ℕ) → (n + 1) + k ≡ n + suc k
      later n k = omega arith

      less_itself : (n : ℕ) → n - n ≡ 0
      less_itself n = omega arith

      one_more : (n c : ℕ) → n + 1 ≤ c → c - n ≡ suc (c - (n + 1))
      one_more n c l = omega (arith, l)
