-- Where the events of one command stand in a history.
-- 1. The first of them stands behind events of others, and so does the second.
-- 2. Where assignments of one command stand together, those of the command from one on stand one after another.
use Rattle.std.specs.List.{list_any, AllByRecursion}
use Rattle.std.proofs.Common.{◌≡◌, ◌&&◌, ◌||◌, ℕ, Bool, true, false, cond, eqb, List, [], ◌∷◌, ◌++◌, filter, Some, refl, sym, ap, subst, ◌∙◌, inl, inr, arith, append_assoc, append-nil}
use Rattle.std.proofs.lemmas.Bool.{cases_Bool, false≢true, and_parts}
use Rattle.run_model.specs.declared.event.Event.{Event}
use Rattle.run_model.specs.States.{is_of, events_before, before_second}
use Rattle.run_model.specs.Legal.{is_assign, assigns, BeginsWithAssign, AssignsTogether}
use Rattle.run_model.proofs.Places.{behind_log, first_here, first_passes, second_here, second_passes}

-- ---- lists
abbrev head_or : Event → List Event → Event
head_or d [] = d
head_or d (x ∷ xs) = x

abbrev pub behind_head : List Event → List Event
behind_head [] = []
behind_head (x ∷ xs) = xs

abbrev count : List Event → ℕ
count [] = 0
count (x ∷ xs) = 1

pub is_no_list : (x : Event) (xs : List Event) → x ∷ xs ≡ [] → ⊥
is_no_list x xs h = let e : 1 ≡ 0 = ap count h in omega (arith, e)

together_later : (xs ys : List Event) → AssignsTogether (xs ++ ys) → AssignsTogether ys
together_later [] ys h = h
together_later (x ∷ xs) ys h = together_later xs ys h.1

module _ (s c : ℕ) where
  -- the events of the command
  abbrev pub mine : List Event → List Event
  mine = filter (is_of s c)

  mine_here : (x : Event) (xs : List Event) → is_of s c x ≡ true → mine (x ∷ xs) ≡ x ∷ mine xs
  mine_here x xs t = ap (λ b. cond b (x ∷ mine xs) (mine xs)) t

  mine_other : (x : Event) (xs : List Event) → is_of s c x ≡ false → mine (x ∷ xs) ≡ mine xs
  mine_other x xs f = ap (λ b. cond b (x ∷ mine xs) (mine xs)) f

  -- where a list has no event of the command, no event of it passes the test for one
  pub none_mine : (xs : List Event) → mine xs ≡ [] → list_any (is_of s c) xs ≡ false
  none_mine [] h = refl
  none_mine (x ∷ xs) h = elim (cases_Bool (is_of s c x)) [
    | inl t ↦ absurd (is_no_list x (mine xs) (sym (mine_here x xs t) ∙ h))
    | inr f ↦ ap (λ b. b || list_any (is_of s c) xs) f ∙ none_mine xs (sym (mine_other x xs f) ∙ h)
  ]

  -- ---- the first of them
  pub record FirstAt (xs : List Event) (e : Event) (es : List Event) : Type 0 where
    pub pre : List Event
    pub post : List Event
    pub whole : xs ≡ pre ++ e ∷ post
    pub here : is_of s c e ≡ true
    pub quiet : list_any (is_of s c) pre ≡ false
    pub later : mine post ≡ es
    pub before : events_before s c xs ≡ pre
    pub any : list_any (is_of s c) xs ≡ true

  -- the first of the command's events stands behind events of others, and the rest of its events are behind it: by
  -- induction on the history
  pub first_at : (xs : List Event) (e : Event) (es : List Event) → mine xs ≡ e ∷ es → FirstAt xs e es
  first_at [] e es h = absurd (is_no_list e es (sym h))
  first_at (x ∷ xs) e es h = elim (cases_Bool (is_of s c x)) [
    | inl t ↦
        let both : x ∷ mine xs ≡ e ∷ es = sym (mine_here x xs t) ∙ h in
        let same : x ≡ e = ap (head_or x) both in
        record {
          pre = [];
          post = xs;
          whole = ap (λ (y : Event). y ∷ xs) same;
          here = ap (is_of s c) (sym same) ∙ t;
          quiet = refl;
          later = ap behind_head both;
          before = ap (λ b. cond b [] (x ∷ events_before s c xs)) t;
          any = ap (λ b. b || list_any (is_of s c) xs) t;
        }
    | inr f ↦
        let r = first_at xs e es (sym (mine_other x xs f) ∙ h) in
        record {
          pre = x ∷ r.pre;
          post = r.post;
          whole = ap (λ (l : List Event). x ∷ l) r.whole;
          here = r.here;
          quiet = ap (λ b. b || list_any (is_of s c) r.pre) f ∙ r.quiet;
          later = r.later;
          before = ap (λ b. cond b [] (x ∷ events_before s c xs)) f ∙ ap (λ (l : List Event). x ∷ l) r.before;
          any = ap (λ b. b || list_any (is_of s c) xs) f ∙ r.any;
        }
  ]

  -- ---- the second of them
  pub record SecondAt (xs : List Event) (e f : Event) (es : List Event) : Type 0 where
    pub pre : List Event
    pub mid : List Event
    pub post : List Event
    pub whole : xs ≡ (pre ++ e ∷ mid) ++ f ∷ post
    pub first_here : is_of s c e ≡ true
    pub here : is_of s c f ≡ true
    pub quiet : list_any (is_of s c) pre ≡ false
    pub quiet_mid : list_any (is_of s c) mid ≡ false
    pub later : mine post ≡ es
    pub before : events_before s c xs ≡ pre
    pub any : list_any (is_of s c) xs ≡ true
    pub second : before_second s c xs ≡ Some (pre ++ e ∷ mid)

  -- the second stands behind the first as the first of those that are left
  pub second_at : (xs : List Event) (e f : Event) (es : List Event) → mine xs ≡ e ∷ f ∷ es → SecondAt xs e f es
  second_at xs e f es h =
      let a = first_at xs e (f ∷ es) h in
      let b = first_at a.post f es a.later in
      let whole : xs ≡ a.pre ++ e ∷ (b.pre ++ f ∷ b.post) = a.whole ∙ ap (λ (l : List Event). a.pre ++ e ∷ l) b.whole in
      record {
        pre = a.pre;
        mid = b.pre;
        post = b.post;
        whole = whole ∙ sym (append_assoc a.pre (e ∷ b.pre) (f ∷ b.post));
        first_here = a.here;
        here = b.here;
        quiet = a.quiet;
        quiet_mid = b.quiet;
        later = b.later;
        before = a.before;
        any = a.any;
        second =
            ap (before_second s c) whole ∙ (second_passes s c a.pre (e ∷ (b.pre ++ f ∷ b.post)) a.quiet
            ∙ ap (behind_log a.pre) (second_here s c e (b.pre ++ f ∷ b.post) a.here
            ∙ ap (behind_log (e ∷ [])) (first_passes s c b.pre (f ∷ b.post) b.quiet ∙ ap (behind_log b.pre) (first_here s c f b.post b.here)))
            ∙ ap (λ (l : List Event). Some (a.pre ++ e ∷ l)) (append-nil b.pre));
      }

  -- ---- assignments stand together
  -- all of these assign
  abbrev pub AllAssign : List Event → Type 0
  AllAssign = AllByRecursion (λ e. is_assign e.act ≡ true)

  -- behind an assignment of the command, where all that follow of it assign, these follow at once
  pub goes_together : (f : Event) (post es : List Event) → is_of s c f ≡ true → is_assign f.act ≡ true → AllAssign es → mine post ≡ es
      → AssignsTogether (f ∷ post) → (behind : List Event) × (post ≡ es ++ behind) × (list_any (is_of s c) behind ≡ false)
  goes_together f post [] here assign all h t = (post, refl, none_mine post h)
  goes_together f post (g ∷ gs) here assign all h t = elim (t.0 assign) [
    | inl b ↦
        at_once (λ x xs here assign h t. goes_together x xs gs here assign all.1 h t) post h t.1
        (subst_command f (λ d q. BeginsWithAssign d q post) here b)
    | inr n ↦ absurd (none_else post g gs h all.0 (subst_command f (λ d q. list_any (assigns d q) post ≡ false) here n))
  ]
    where
      subst_command : (f : Event) (P : ℕ → ℕ → Type 0) → is_of s c f ≡ true → P f.session f.command → P s c
      subst_command f P here p =
          let parts = and_parts (eqb f.session s) (eqb f.command c) here in
          let same_s : f.session ≡ s = grind (arith, parts.0) in
          let same_c : f.command ≡ c = grind (arith, parts.1) in
          subst (P s) same_c (subst (λ d. P d f.command) same_s p)

      none_else : (post : List Event) (g : Event) (gs : List Event) → mine post ≡ g ∷ gs → is_assign g.act ≡ true → list_any (assigns s c) post ≡ false → ⊥
      none_else post g gs h a n =
          let r = first_at post g gs h in
          false≢true (sym n ∙ (ap (list_any (assigns s c)) r.whole ∙ has_one r.pre g r.post (ap (λ b. b && is_assign g.act) r.here ∙ a)))
        where
          has_one : (xs : List Event) (y : Event) (ys : List Event) → assigns s c y ≡ true → list_any (assigns s c) (xs ++ y ∷ ys) ≡ true
          has_one [] y ys k = ap (λ b. b || list_any (assigns s c) ys) k
          has_one (x ∷ xs) y ys k = ap (λ b. assigns s c x || b) (has_one xs y ys k) ∙ or_true (assigns s c x)
            where
              or_true : (b : Bool) → (b || true) ≡ true
              or_true true = refl
              or_true false = refl

      at_once : ((x : Event) (xs : List Event) → is_of s c x ≡ true → is_assign x.act ≡ true → mine xs ≡ gs → AssignsTogether (x ∷ xs) →
          (behind : List Event) × (xs ≡ gs ++ behind) × (list_any (is_of s c) behind ≡ false)) →
          (post : List Event) → mine post ≡ g ∷ gs → AssignsTogether post → BeginsWithAssign s c post →
          (behind : List Event) × (post ≡ (g ∷ gs) ++ behind) × (list_any (is_of s c) behind ≡ false)
      at_once next [] h t b = absurd b
      at_once next (x ∷ xs) h t b =
          let parts = and_parts (is_of s c x) (is_assign x.act) b in
          let both : x ∷ mine xs ≡ g ∷ gs = sym (mine_here x xs parts.0) ∙ h in
          let same : x ≡ g = ap (head_or x) both in
          let r = next x xs parts.0 parts.1 (ap behind_head both) t in
          (r.0, (λ i. same i ∷ r.1 i), r.2)

  -- from the second event on
  pub from_second : (xs : List Event) (e f : Event) (es : List Event) (a : SecondAt xs e f es) → is_assign f.act ≡ true → AllAssign es → AssignsTogether xs
      → (behind : List Event) × (xs ≡ (a.pre ++ e ∷ a.mid) ++ ((f ∷ es) ++ behind)) × (list_any (is_of s c) behind ≡ false)
  from_second xs e f es a assign all t =
      let later = together_later (a.pre ++ e ∷ a.mid) (f ∷ a.post) (subst AssignsTogether a.whole t) in
      let r = goes_together f a.post es a.here assign all a.later later in
      (r.0, a.whole ∙ ap (λ (l : List Event). (a.pre ++ e ∷ a.mid) ++ f ∷ l) r.1, r.2)

  -- what holds of all events of the command holds of each event of the history that is one
  pub all_mine : (P : Event → Type 0) (xs : List Event) → AllByRecursion P (mine xs) → AllByRecursion (λ e. is_of s c e ≡ true → P e) xs
  all_mine P [] h = tt
  all_mine P (x ∷ xs) h = elim (cases_Bool (is_of s c x)) [
    | inl t ↦ let k = subst (AllByRecursion P) (mine_here x xs t) h in ((λ is. k.0), all_mine P xs k.1)
    | inr f ↦ ((λ is. absurd (false≢true (sym f ∙ is))), all_mine P xs (subst (AllByRecursion P) (mine_other x xs f) h))
  ]
