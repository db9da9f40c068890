-- Where a session's turns stand in the closed log of its batch.
-- 1. When a turn took its log, the session's events in it were those of its earlier turns: the closed log has no place for
--    more.
-- 2. So the first event of a command stands behind the log of its first turn, and its second event behind that of the
--    next, or behind the first where both were put at once.
-- 3. And behind an assignment there comes another one of its command, or none follows.
use Rattle.std.proofs.Common.{◌≡◌, ◌≤◌, ◌⊎◌, ◌+◌, ◌&&◌, ◌||◌, ℕ, Bool, true, false, cond, eqb, List, [], ◌∷◌, ◌++◌, length, Option, Some, refl, sym, ap, subst, ◌∙◌, inl, inr, arith, append_assoc, append-nil, length-append}
use Rattle.std.specs.List.{list_any, AllByRecursion}
use Rattle.std.proofs.lemmas.Bool.{cases_Bool, false≢true, eq-eqb, and_from, or_parts}
use Rattle.run_model.specs.declared.event.Event.{Event}
use Rattle.run_model.specs.States.{is_of, events_of, before_first, before_second}
use Rattle.run_model.specs.Legal.{is_assign, assigns, BeginsWithAssign, GoesOn}
use Rattle.run_model.specs.Turns.{BeginsLog, Turn, puts_of, AreTurns, IsOne, IsTurn, AssignsOnce, taken, second_taken, taken_again}
use Rattle.run_model.proofs.Places.{behind_log, behind_both, first_none, first_here, first_passes, second_none, second_here, second_passes}

-- ---- lists of events
abbrev behind_head : List Event → List Event
behind_head [] = []
behind_head (x ∷ xs) = xs

abbrev head_or : Event → List Event → Event
head_or d [] = d
head_or d (x ∷ xs) = x

pub cancel : (p xs ys : List Event) → p ++ xs ≡ p ++ ys → xs ≡ ys
cancel [] xs ys h = h
cancel (x ∷ p) xs ys h = cancel p xs ys (ap behind_head h)

empty_is : (xs : List Event) → length xs ≡ 0 → xs ≡ []
empty_is [] z = refl
empty_is (x ∷ xs) z = absurd (omega arith)

pub begins_on : (xs ys zs : List Event) → BeginsLog xs ys → BeginsLog ys zs → BeginsLog xs zs
begins_on xs ys zs b c = (b.0 ++ c.0, c.1 ∙ (ap (λ (l : List Event). l ++ c.0) b.1 ∙ append_assoc xs b.0 c.0))

-- an event of two lists one behind the other is in one of them
cut : (us : List Event) (x : Event) (vs block rest : List Event) → us ++ x ∷ vs ≡ block ++ rest →
    ((bs : List Event) × (block ≡ us ++ x ∷ bs) × (vs ≡ bs ++ rest)) ⊎ ((us2 : List Event) × (us ≡ block ++ us2) × (us2 ++ x ∷ vs ≡ rest))
cut us x vs [] rest e = inr (us, refl, e)
cut [] x vs (b ∷ bs) rest e = inl (bs, (λ i. head_or x (sym e i) ∷ bs), ap behind_head e)
cut (u ∷ us) x vs (b ∷ bs) rest e = elim (cut us x vs bs rest (ap behind_head e)) [
  | inl l ↦ inl (l.0, (λ i. head_or u (sym e i) ∷ l.1 i), l.2)
  | inr r ↦ inr (r.0, (λ i. head_or u (e i) ∷ r.1 i), r.2)
]

turns_begin : (ts : List Turn) (old new : List Event) → AreTurns ts old new → BeginsLog old new
turns_begin [] old new h = h
turns_begin (t ∷ ts) old new h =
    begins_on old t.took new h.0 (begins_on t.took (t.took ++ t.put) new (t.put, refl) (turns_begin ts (t.took ++ t.put) new h.1))

module _ (s : ℕ) where
  pub own_append : (xs ys : List Event) → events_of s (xs ++ ys) ≡ events_of s xs ++ events_of s ys
  own_append [] ys = refl
  own_append (x ∷ xs) ys = let i = own_append xs ys in elim (cases_Bool (eqb x.session s)) [
    | inl t ↦ rw t (ap (λ (l : List Event). x ∷ l) i)
    | inr f ↦ rw f i
  ]

  own_length : (xs ys : List Event) → BeginsLog xs ys → length (events_of s xs) ≤ length (events_of s ys)
  own_length xs ys b =
      let e : length (events_of s ys) ≡ length (events_of s xs ++ events_of s b.0) = ap length (ap (events_of s) b.1 ∙ own_append xs b.0) in
      omega (arith, length-append (events_of s xs) (events_of s b.0))

  all_own : (c : ℕ) (es : List Event) → AllByRecursion (λ e. (e.session ≡ s) × (e.command ≡ c)) es → events_of s es ≡ es
  all_own c [] h = refl
  all_own c (e ∷ es) h = rw (eq-eqb e.session s h.0.0) (ap (λ (l : List Event). e ∷ l) (all_own c es h.1))

  put_own : (t : Turn) → IsTurn s t → events_of s t.put ≡ t.put
  put_own t h = all_own h.0 t.put h.1

  abbrev pub Own : List Turn → Type 0
  Own = AllByRecursion (IsTurn s)

  mid_own : (t : Turn) → IsTurn s t → events_of s (t.took ++ t.put) ≡ events_of s t.took ++ t.put
  mid_own t h = own_append t.took t.put ∙ ap (λ (l : List Event). events_of s t.took ++ l) (put_own t h)

  -- the log behind turns has at least the session's events before them and those that they put: by induction on the
  -- turns, each log begins with the one before
  turns_length : (ts : List Turn) (old new : List Event) → AreTurns ts old new → Own ts → length (events_of s old) + length (puts_of ts) ≤ length (events_of s new)
  turns_length [] old new h own = let l = own_length old new h in omega arith
  turns_length (t ∷ ts) old new h own =
      let l = turns_length ts (t.took ++ t.put) new h.1 own.1 in
      let k = own_length old t.took h.0 in
      let m : length (events_of s (t.took ++ t.put)) ≡ length (events_of s t.took ++ t.put) = ap length (mid_own t own.0) in
      omega (arith, length-append (events_of s t.took) t.put, length-append t.put (puts_of ts))

  -- what is known of turns behind a log that the session had seen
  pub record Ahead (ts : List Turn) (p log : List Event) : Type 0 where
    pub new : List Event
    pub turns : AreTurns ts p new
    pub begins : BeginsLog new log
    pub own : Own ts
    pub all : events_of s log ≡ events_of s p ++ puts_of ts

  -- the first of them: between the log before and its own the session has no event
  pub record First (t : Turn) (ts : List Turn) (p log : List Event) : Type 0 where
    pub between : List Event
    pub took : t.took ≡ p ++ between
    pub quiet : events_of s between ≡ []
    pub rest : List Event
    pub whole : log ≡ (t.took ++ t.put) ++ rest
    pub next : Ahead ts (t.took ++ t.put) log

  -- between the log before and the first turn's own the session has no event: counted with what its turns put, the
  -- closed log has no place for more
  pub first_turn : (t : Turn) (ts : List Turn) (p log : List Event) → Ahead (t ∷ ts) p log → First t ts p log
  first_turn t ts p log a =
      let z = a.turns.0.0 in
      let mid : List Event = t.took ++ t.put in
      let took_own : events_of s t.took ≡ events_of s p ++ events_of s z = ap (events_of s) a.turns.0.1 ∙ own_append p z in
      let i1 : length (events_of s t.took) ≡ length (events_of s p ++ events_of s z) = ap length took_own in
      let i2 : length (events_of s mid) ≡ length (events_of s t.took ++ t.put) = ap length (mid_own t a.own.0) in
      let i3 = turns_length ts mid a.new a.turns.1 a.own.1 in
      let i4 = own_length a.new log a.begins in
      let i5 : length (events_of s log) ≡ length (events_of s p ++ (t.put ++ puts_of ts)) = ap length a.all in
      let none : length (events_of s z) ≡ 0 =
      omega (arith, length-append (events_of s p) (events_of s z), length-append (events_of s t.took) t.put, length-append (events_of s p) (t.put ++ puts_of ts), length-append t.put (puts_of ts)) in
      let quiet = empty_is (events_of s z) none in
      let took_is : events_of s t.took ≡ events_of s p = took_own ∙ (ap (λ (l : List Event). events_of s p ++ l) quiet ∙ append-nil (events_of s p)) in
      let m = begins_on mid a.new log (turns_begin ts mid a.new a.turns.1) a.begins in
      record {
        between = z;
        took = a.turns.0.1;
        quiet = quiet;
        rest = m.0;
        whole = m.1;
        next = record {
          new = a.new;
          turns = a.turns.1;
          begins = a.begins;
          own = a.own.1;
          all =
              a.all ∙ (sym (append_assoc (events_of s p) t.put (puts_of ts))
              ∙ ap (λ (l : List Event). l ++ puts_of ts) (sym (mid_own t a.own.0 ∙ ap (λ (l : List Event). l ++ t.put) took_is)));
        };
      }

  -- behind all turns the session has no event
  pub none_left : (p log rest : List Event) → Ahead [] p log → log ≡ p ++ rest → events_of s rest ≡ []
  none_left p log rest a w =
      let e : events_of s p ++ events_of s rest ≡ events_of s p ++ [] = sym (own_append p rest) ∙ (sym (ap (events_of s) w) ∙ a.all) in
      cancel (events_of s p) (events_of s rest) [] e

  -- what stands behind the log before
  rest_is : (t : Turn) (ts : List Turn) (p log rest : List Event) (f : First t ts p log) → log ≡ p ++ rest → rest ≡ f.between ++ (t.put ++ f.rest)
  rest_is t ts p log rest f w =
      cancel p rest (f.between ++ (t.put ++ f.rest))
      (sym w ∙ (f.whole ∙ (ap (λ (l : List Event). (l ++ t.put) ++ f.rest) f.took
      ∙ (append_assoc (p ++ f.between) t.put f.rest ∙ append_assoc p f.between (t.put ++ f.rest)))))

  -- ---- one command
  module _ (c : ℕ) where
    -- an event of the command is one of the session's
    pub any_own : (xs : List Event) → list_any (is_of s c) xs ≡ list_any (is_of s c) (events_of s xs)
    any_own [] = refl
    any_own (x ∷ xs) = elim (cases_Bool (eqb x.session s)) [
      | inl t ↦ rw t (ap (λ (b : Bool). eqb x.command c || b) (any_own xs) ∙ sym (ap (λ (b : Bool). (b && eqb x.command c) || list_any (is_of s c) (events_of s xs)) t))
      | inr f ↦ rw f (any_own xs)
    ]

    pub none_own : (xs : List Event) → events_of s xs ≡ [] → list_any (is_of s c) xs ≡ false
    none_own xs h = any_own xs ∙ ap (list_any (is_of s c)) h

    has_none : (es : List Event) → list_any (λ e. eqb e.command c) es ≡ false → list_any (is_of s c) es ≡ false
    has_none [] h = refl
    has_none (e ∷ es) h =
        let a : (eqb e.command c ≡ false) × (list_any (λ e. eqb e.command c) es ≡ false) = or_parts (eqb e.command c) (list_any (λ e. eqb e.command c) es) h in
        rw (ap (λ b. eqb e.session s && b) a.0 ∙ and_false (eqb e.session s)) (has_none es a.1)
      where
        and_false : (b : Bool) → (b && false) ≡ false
        and_false true = refl
        and_false false = refl

    -- events of one command that have one of this command are all of this command
    which : (d : ℕ) (es : List Event) → AllByRecursion (λ e. (e.session ≡ s) × (e.command ≡ d)) es → list_any (λ e. eqb e.command c) es ≡ true → d ≡ c
    which d [] h any = absurd (false≢true any)
    which d (e ∷ es) h any = elim (cases_Bool (eqb e.command c)) [
      | inl t ↦ let q : e.command ≡ c = grind (arith, t) in sym h.0.1 ∙ q
      | inr f ↦ which d es h.1 (sym (ap (λ b. b || list_any (λ e. eqb e.command c) es) f) ∙ any)
    ]

    is_here : (d : ℕ) (e : Event) → d ≡ c → e.session ≡ s → e.command ≡ d → is_of s c e ≡ true
    is_here d e q h k = and_from (eqb e.session s) (eqb e.command c) (eq-eqb e.session s h) (eq-eqb e.command c (k ∙ q))

    -- the first event stands behind the log that the command took
    pub taken_first : (ts : List Turn) (p log rest : List Event) → Ahead ts p log → log ≡ p ++ rest → behind_log p (before_first s c rest) ≡ taken c ts
    taken_first [] p log rest a w = ap (behind_log p) (first_none s c rest (none_own rest (none_left p log rest a w)))
    taken_first (t ∷ ts) p log rest a w =
        let f = first_turn t ts p log a in
        let up : behind_log p (before_first s c rest) ≡ behind_log t.took (before_first s c (t.put ++ f.rest)) =
        ap (λ l. behind_log p (before_first s c l)) (rest_is t ts p log rest f w)
        ∙ (ap (behind_log p) (first_passes s c f.between (t.put ++ f.rest) (none_own f.between f.quiet))
        ∙ (behind_both p f.between (before_first s c (t.put ++ f.rest)) ∙ ap (λ l. behind_log l (before_first s c (t.put ++ f.rest))) (sym f.took))) in
        elim (cases_Bool (list_any (λ e. eqb e.command c) t.put)) [
          | inl y ↦
              up ∙ (ap (behind_log t.took) (here t.put f.rest a.own.0.0 a.own.0.1 y)
              ∙ (ap (λ l. Some l) (append-nil t.took) ∙ sym (ap (λ b. cond b (Some t.took) (taken c ts)) y)))
          | inr n ↦
              up ∙ (ap (behind_log t.took) (first_passes s c t.put f.rest (has_none t.put n))
              ∙ (behind_both t.took t.put (before_first s c f.rest)
              ∙ (taken_first ts (t.took ++ t.put) log f.rest f.next f.whole ∙ sym (ap (λ b. cond b (Some t.took) (taken c ts)) n))))
        ]
      where
        here : (put rest : List Event) (d : ℕ) → AllByRecursion (λ e. (e.session ≡ s) × (e.command ≡ d)) put → list_any (λ e. eqb e.command c) put ≡ true →
            before_first s c (put ++ rest) ≡ Some []
        here [] rest d h any = absurd (false≢true any)
        here (e ∷ es) rest d h any = first_here s c e (es ++ rest) (is_here d e (which d (e ∷ es) h any) h.0.0 h.0.1)

    -- and the second one behind that of the next turn, or behind the first event where both were put at once
    pub taken_second : (ts : List Turn) (p log rest : List Event) → Ahead ts p log → log ≡ p ++ rest → behind_log p (before_second s c rest) ≡ taken_again c ts
    taken_second [] p log rest a w = ap (behind_log p) (second_none s c rest (none_own rest (none_left p log rest a w)))
    taken_second (t ∷ ts) p log rest a w =
        let f = first_turn t ts p log a in
        let up : behind_log p (before_second s c rest) ≡ behind_log t.took (before_second s c (t.put ++ f.rest)) =
        ap (λ l. behind_log p (before_second s c l)) (rest_is t ts p log rest f w)
        ∙ (ap (behind_log p) (second_passes s c f.between (t.put ++ f.rest) (none_own f.between f.quiet))
        ∙ (behind_both p f.between (before_second s c (t.put ++ f.rest)) ∙ ap (λ l. behind_log l (before_second s c (t.put ++ f.rest))) (sym f.took))) in
        elim (cases_Bool (list_any (λ e. eqb e.command c) t.put)) [
          | inl y ↦
              up ∙ (here t.took t.put f.rest (taken c ts) a.own.0.0 a.own.0.1 y
              (taken_first ts (t.took ++ t.put) log f.rest f.next f.whole)
              ∙ sym (ap (λ b. cond b (second_taken t.took t.put (taken c ts)) (taken_again c ts)) y))
          | inr n ↦
              up ∙ (ap (behind_log t.took) (second_passes s c t.put f.rest (has_none t.put n))
              ∙ (behind_both t.took t.put (before_second s c f.rest)
              ∙ (taken_second ts (t.took ++ t.put) log f.rest f.next f.whole ∙ sym (ap (λ b. cond b (second_taken t.took t.put (taken c ts)) (taken_again c ts)) n))))
        ]
      where
        here : (took put rest : List Event) (later : Option (List Event)) (d : ℕ) → AllByRecursion (λ e. (e.session ≡ s) × (e.command ≡ d)) put →
            list_any (λ e. eqb e.command c) put ≡ true → behind_log (took ++ put) (before_first s c rest) ≡ later →
            behind_log took (before_second s c (put ++ rest)) ≡ second_taken took put later
        here took [] rest later d h any next = absurd (false≢true any)
        here took (e ∷ []) rest later d h any next =
            ap (behind_log took) (second_here s c e rest (is_here d e (which d (e ∷ []) h any) h.0.0 h.0.1))
            ∙ (behind_both took (e ∷ []) (before_first s c rest) ∙ next)
        here took (e ∷ g ∷ es) rest later d h any next =
            let q = which d (e ∷ g ∷ es) h any in
            ap (behind_log took) (second_here s c e (g ∷ (es ++ rest)) (is_here d e q h.0.0 h.0.1))
            ∙ ap (λ o. behind_log took (behind_log (e ∷ []) o)) (first_here s c g (es ++ rest) (is_here d g q h.1.0.0 h.1.0.1))

  -- ---- assignments
  assigned_own : (c : ℕ) (xs : List Event) → list_any (assigns s c) xs ≡ list_any (assigns s c) (events_of s xs)
  assigned_own c [] = refl
  assigned_own c (x ∷ xs) = elim (cases_Bool (eqb x.session s)) [
    | inl t ↦ rw t (ap (λ (b : Bool). (eqb x.command c && is_assign x.act) || b) (assigned_own c xs)
        ∙ sym (ap (λ (b : Bool). ((b && eqb x.command c) && is_assign x.act) || list_any (assigns s c) (events_of s xs)) t))
    | inr f ↦ rw f (assigned_own c xs)
  ]

  not_quiet : (xs : List Event) (e : Event) (ys : List Event) → e.session ≡ s → events_of s (xs ++ e ∷ ys) ≡ [] → ⊥
  not_quiet xs e ys h q =
      let k : events_of s (xs ++ e ∷ ys) ≡ events_of s xs ++ e ∷ events_of s ys =
      own_append xs (e ∷ ys) ∙ ap (λ b. events_of s xs ++ cond b (e ∷ events_of s ys) (events_of s ys)) (eq-eqb e.session s h) in
      let n : length (events_of s xs ++ e ∷ events_of s ys) ≡ 0 = ap length (sym k ∙ q) in
      omega (arith, n, length-append (events_of s xs) (e ∷ events_of s ys))

  -- one of the events of a turn
  of_all : (P : Event → Type 0) (xs : List Event) (e : Event) (ys : List Event) → AllByRecursion P (xs ++ e ∷ ys) → P e × AllByRecursion P ys
  of_all P [] e ys h = h
  of_all P (x ∷ xs) e ys h = of_all P xs e ys h.1

  -- an assignment is followed by one of its command, or none follows: by induction on the turns, it is one of the first
  -- turn's, which are put at once and never again, or it stands behind that turn
  pub goes_on : (ts : List Turn) (p log rest : List Event) → Ahead ts p log → AssignsOnce ts → log ≡ p ++ rest →
      (xs : List Event) (e : Event) (ys : List Event) → rest ≡ xs ++ e ∷ ys → e.session ≡ s → GoesOn e ys
  goes_on [] p log rest a once w xs e ys r own = absurd (not_quiet xs e ys own (sym (ap (events_of s) r) ∙ none_left p log rest a w))
  goes_on (t ∷ ts) p log rest a once w xs e ys r own =
      let f = first_turn t ts p log a in
      elim (cut xs e ys f.between (t.put ++ f.rest) (sym r ∙ rest_is t ts p log rest f w)) [
        | inl z ↦ absurd (not_quiet xs e z.0 own (sym (ap (events_of s) z.1) ∙ f.quiet))
        | inr u ↦ elim (cut u.0 e ys t.put f.rest u.2) [
          | inl b ↦ in_turn t ts f.rest once.0 a.own.0 (own_rest t ts p log f) u.0 e ys b.0 b.1 b.2 own
          | inr v ↦ goes_on ts (t.took ++ t.put) log f.rest f.next once.1 f.whole v.0 e ys (sym v.2) own
        ]
      ]
    where
      -- behind a turn the session has the events of the later ones
      own_rest : (t : Turn) (ts : List Turn) (p log : List Event) (f : First t ts p log) → events_of s f.rest ≡ puts_of ts
      own_rest t ts p log f =
          cancel (events_of s (t.took ++ t.put)) (events_of s f.rest) (puts_of ts)
          (sym (own_append (t.took ++ t.put) f.rest) ∙ (sym (ap (events_of s) f.whole) ∙ f.next.all))

      in_turn : (t : Turn) (ts : List Turn) (rest : List Event) →
          AllByRecursion (λ e. is_assign e.act ≡ true → list_any (assigns e.session e.command) (puts_of ts) ≡ false) t.put → IsTurn s t →
          events_of s rest ≡ puts_of ts → (us : List Event) (e : Event) (ys bs : List Event) → t.put ≡ us ++ e ∷ bs → ys ≡ bs ++ rest → e.session ≡ s → GoesOn e ys
      in_turn t ts rest once turn mine us e ys bs w v own = λ is.
          subst (λ l. BeginsWithAssign e.session e.command l ⊎ (list_any (assigns e.session e.command) l ≡ false)) (sym v)
          (next bs turn.2 w is)
        where
          none_later : is_assign e.act ≡ true → list_any (assigns e.session e.command) rest ≡ false
          none_later is =
              let o = (of_all (λ e. is_assign e.act ≡ true → list_any (assigns e.session e.command) (puts_of ts) ≡ false) us e bs (subst (AllByRecursion (λ e. is_assign e.act ≡ true → list_any (assigns e.session e.command) (puts_of ts) ≡ false)) w once)).0 is in
              subst (λ n. list_any (assigns n e.command) rest ≡ false) (sym own)
              (assigned_own e.command rest ∙ (ap (list_any (assigns s e.command)) mine ∙ subst (λ n. list_any (assigns n e.command) (puts_of ts) ≡ false) own o))

          next : (bs : List Event) → IsOne t.put ⊎ AllByRecursion (λ e. is_assign e.act ≡ true) t.put → t.put ≡ us ++ e ∷ bs → is_assign e.act ≡ true →
              BeginsWithAssign e.session e.command (bs ++ rest) ⊎ (list_any (assigns e.session e.command) (bs ++ rest) ≡ false)
          next [] k w is = inr (none_later is)
          next (x ∷ xs) (inl one) w is =
              let n : length (us ++ e ∷ x ∷ xs) ≡ 1 = ap length (sym w ∙ one.1) in absurd (omega (arith, n, length-append us (e ∷ x ∷ xs)))
          next (x ∷ xs) (inr all) w is =
              let commands = of_all (λ e. (e.session ≡ s) × (e.command ≡ turn.0)) us e (x ∷ xs) (subst (AllByRecursion (λ e. (e.session ≡ s) × (e.command ≡ turn.0))) w turn.1) in
              let acts = of_all (λ e. is_assign e.act ≡ true) us e (x ∷ xs) (subst (AllByRecursion (λ e. is_assign e.act ≡ true)) w all) in
              inl (and_from (eqb x.session e.session && eqb x.command e.command) (is_assign x.act)
              (and_from (eqb x.session e.session) (eqb x.command e.command)
              (eq-eqb x.session e.session (commands.1.0.0 ∙ sym commands.0.0)) (eq-eqb x.command e.command (commands.1.0.1 ∙ sym commands.0.1)))
              acts.1.0)
