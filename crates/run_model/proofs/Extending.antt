-- One command more behind the turns of a session: what is asked of the earlier turns stays, and the later ones are asked
-- by themselves. For callers that follow a session command by command.
use Rattle.std.proofs.Common.{◌≡◌, ◌<◌, ◌≤◌, ◌+◌, ◌&&◌, ℕ, Bool, true, false, cond, eqb, List, [], ◌∷◌, ◌++◌, length, Option, Some, None, refl, sym, ap, subst, ◌∙◌, arith, append_assoc}
use Rattle.std.specs.List.{list_any, AllByRecursion}
use Rattle.std.proofs.lemmas.Bool.{ne_eqb, and_right, or_from, or_parts}
use Rattle.lang_model.specs.declared.syntax.Item.{Item}
use Rattle.run_model.specs.declared.event.Event.{Event}
use Rattle.run_model.specs.declared.outcome.Outcome.{Outcome}
use Rattle.run_model.specs.Versions.{Change, Versions, version_behind}
use Rattle.run_model.specs.Outcomes.{lets_of}
use Rattle.run_model.specs.Legal.{is_assign, assigns, change_at, CommitsItem, CommitsFrom}
use Rattle.run_model.specs.Turns.{BeginsLog, Turn, puts_of, AreTurns, AssignsOnce, taken, second_taken, taken_again, log_or_none, change_taken}
use Rattle.run_model.proofs.Standing.{begins_on}

-- ---- turns behind turns
pub puts_append : (ts us : List Turn) → puts_of (ts ++ us) ≡ puts_of ts ++ puts_of us
puts_append [] us = refl
puts_append (t ∷ ts) us = ap (λ l. t.put ++ l) (puts_append ts us) ∙ sym (append_assoc t.put (puts_of ts) (puts_of us))

turns_from : (ts : List Turn) (a b c : List Event) → BeginsLog a b → AreTurns ts b c → AreTurns ts a c
turns_from [] a b c h k = begins_on a b c h k
turns_from (t ∷ ts) a b c h k = (begins_on a b t.took h k.0, k.1)

-- turns of a log and turns that go on from its end are turns of the whole: by induction on the first, each
-- keeps the log that it took
pub turns_append : (ts us : List Turn) (a b c : List Event) → AreTurns ts a b → AreTurns us b c → AreTurns (ts ++ us) a c
turns_append [] us a b c h k = turns_from us a b c h k
turns_append (t ∷ ts) us a b c h k = (h.0, turns_append ts us (t.took ++ t.put) b c h.1 k)

-- all events of a turn are of commands up to n, or of the next one
abbrev pub UpTo : ℕ → Turn → Type 0
UpTo n t = AllByRecursion (λ e. e.command ≤ n) t.put

abbrev pub OfNext : ℕ → Turn → Type 0
OfNext n t = AllByRecursion (λ e. e.command ≡ n + 1) t.put

module _ (n : ℕ) where
  abbrev has : ℕ → List Event → Bool
  has c = list_any (λ e. eqb e.command c)

  has_not : (c : ℕ) (es : List Event) → AllByRecursion (λ e. e.command ≡ c → ⊥) es → has c es ≡ false
  has_not c [] h = refl
  has_not c (e ∷ es) h = or_from (eqb e.command c) (has c es) (ne_eqb e.command c h.0) (has_not c es h.1)

  not_next : (c : ℕ) → c ≤ n → (es : List Event) → AllByRecursion (λ e. e.command ≡ n + 1) es → AllByRecursion (λ e. e.command ≡ c → ⊥) es
  not_next c l [] h = tt
  not_next c l (e ∷ es) h = ((λ q. let x = h.0 in omega (arith, q, x, l)), not_next c l es h.1)

  not_old : (es : List Event) → AllByRecursion (λ e. e.command ≤ n) es → AllByRecursion (λ e. e.command ≡ n + 1 → ⊥) es
  not_old [] h = tt
  not_old (e ∷ es) h = ((λ q. let x = h.0 in omega (arith, q, x)), not_old es h.1)

  none_taken : (c : ℕ) (us : List Turn) → c ≤ n → AllByRecursion (OfNext n) us → taken c us ≡ None
  none_taken c [] l k = refl
  none_taken c (u ∷ us) l k = ap (λ b. cond b (Some u.took) (taken c us)) (has_not c u.put (not_next c l u.put k.0)) ∙ none_taken c us l k.1

  none_again : (c : ℕ) (us : List Turn) → c ≤ n → AllByRecursion (OfNext n) us → taken_again c us ≡ None
  none_again c [] l k = refl
  none_again c (u ∷ us) l k =
      ap (λ b. cond b (second_taken u.took u.put (taken c us)) (taken_again c us)) (has_not c u.put (not_next c l u.put k.0)) ∙ none_again c us l k.1

  -- an earlier command took what it took
  pub taken_old : (c : ℕ) (ts us : List Turn) → c ≤ n → AllByRecursion (OfNext n) us → taken c (ts ++ us) ≡ taken c ts
  taken_old c [] us l k = none_taken c us l k
  taken_old c (t ∷ ts) us l k = ap (cond (has c t.put) (Some t.took)) (taken_old c ts us l k)

  pub again_old : (c : ℕ) (ts us : List Turn) → c ≤ n → AllByRecursion (OfNext n) us → taken_again c (ts ++ us) ≡ taken_again c ts
  again_old c [] us l k = none_again c us l k
  again_old c (t ∷ ts) us l k = λ i. cond (has c t.put) (second_taken t.took t.put (taken_old c ts us l k i)) (again_old c ts us l k i)

  -- the later one what its own turns took
  pub taken_new : (ts us : List Turn) → AllByRecursion (UpTo n) ts → taken (n + 1) (ts ++ us) ≡ taken (n + 1) us
  taken_new [] us h = refl
  taken_new (t ∷ ts) us h =
      ap (λ b. cond b (Some t.took) (taken (n + 1) (ts ++ us))) (has_not (n + 1) t.put (not_old t.put h.0)) ∙ taken_new ts us h.1

  pub again_new : (ts us : List Turn) → AllByRecursion (UpTo n) ts → taken_again (n + 1) (ts ++ us) ≡ taken_again (n + 1) us
  again_new [] us h = refl
  again_new (t ∷ ts) us h =
      ap (λ b. cond b (second_taken t.took t.put (taken (n + 1) (ts ++ us))) (taken_again (n + 1) (ts ++ us))) (has_not (n + 1) t.put (not_old t.put h.0))
      ∙ again_new ts us h.1

  -- so what changed before a commit is the same
  pub change_old : (versions : Versions) (c : ℕ) (ts us : List Turn) → c ≤ n → AllByRecursion (OfNext n) us → change_taken versions (ts ++ us) c ≡ change_taken versions ts c
  change_old versions c ts us l k = λ i.
      change_at (version_behind versions (log_or_none (taken_old c ts us l k i))) (version_behind versions) (again_old c ts us l k i)

  pub change_new : (versions : Versions) (ts us : List Turn) → AllByRecursion (UpTo n) ts → change_taken versions (ts ++ us) (n + 1) ≡ change_taken versions us (n + 1)
  change_new versions ts us h = λ i.
      change_at (version_behind versions (log_or_none (taken_new ts us h i))) (version_behind versions) (again_new ts us h i)

  -- ---- assignments
  next_puts : (us : List Turn) → AllByRecursion (OfNext n) us → AllByRecursion (λ e. e.command ≡ n + 1) (puts_of us)
  next_puts [] k = tt
  next_puts (u ∷ us) k = all_both u.put (puts_of us) k.0 (next_puts us k.1)
    where
      all_both : (xs ys : List Event) → AllByRecursion (λ e. e.command ≡ n + 1) xs → AllByRecursion (λ e. e.command ≡ n + 1) ys → AllByRecursion (λ e. e.command ≡ n + 1) (xs ++ ys)
      all_both [] ys h k = k
      all_both (x ∷ xs) ys h k = (h.0, all_both xs ys h.1 k)

  none_of : (s c : ℕ) (es : List Event) → c ≤ n → AllByRecursion (λ e. e.command ≡ n + 1) es → list_any (assigns s c) es ≡ false
  none_of s c [] l h = refl
  none_of s c (e ∷ es) l h =
      or_from (assigns s c e) (list_any (assigns s c) es)
      (ap (λ b. (eqb e.session s && b) && is_assign e.act) (ne_eqb e.command c (λ q. let x = h.0 in omega (arith, q, x, l))) ∙ ap (λ b. b && is_assign e.act) (and_right (eqb e.session s) false refl))
      (none_of s c es l h.1)

  none_assigned : (s c : ℕ) (us : List Turn) → c ≤ n → AllByRecursion (OfNext n) us → list_any (assigns s c) (puts_of us) ≡ false
  none_assigned s c us l k = none_of s c (puts_of us) l (next_puts us k)

  none_both : (p : Event → Bool) (xs ys : List Event) → list_any p xs ≡ false → list_any p ys ≡ false → list_any p (xs ++ ys) ≡ false
  none_both p [] ys h k = k
  none_both p (x ∷ xs) ys h k =
      let a : (p x ≡ false) × (list_any p xs ≡ false) = or_parts (p x) (list_any p xs) h in
      or_from (p x) (list_any p (xs ++ ys)) a.0 (none_both p xs ys a.1 k)

  pub once_append : (ts us : List Turn) → AssignsOnce ts → AssignsOnce us → AllByRecursion (UpTo n) ts → AllByRecursion (OfNext n) us → AssignsOnce (ts ++ us)
  once_append [] us a b h k = b
  once_append (t ∷ ts) us a b h k = (each t.put a.0 h.0, once_append ts us a.1 b h.1 k)
    where
      each : (es : List Event) → AllByRecursion (λ e. is_assign e.act ≡ true → list_any (assigns e.session e.command) (puts_of ts) ≡ false) es → AllByRecursion (λ e. e.command ≤ n) es →
          AllByRecursion (λ e. is_assign e.act ≡ true → list_any (assigns e.session e.command) (puts_of (ts ++ us)) ≡ false) es
      each [] a h = tt
      each (e ∷ es) a h = (
        λ is. ap (list_any (assigns e.session e.command)) (puts_append ts us) ∙ none_both (assigns e.session e.command) (puts_of ts) (puts_of us) (a.0 is) (none_assigned e.session e.command us h.0 k),
        each es a.1 h.1,
      )

-- ---- commits
-- commits of as many items go by the changes of their numbers alone
pub commits_agree : (f g : ℕ → List (List ℕ) → Option Change) (items : List Item) (outcomes : List Outcome) (c : ℕ) →
    ((d : ℕ) → c ≤ d → d < c + length outcomes → f d ≡ g d) → CommitsFrom f c items outcomes → CommitsFrom g c items outcomes
commits_agree f g [] outcomes c h k = tt
commits_agree f g (item ∷ items) [] c h k = tt
commits_agree f g (item ∷ items) (o ∷ outcomes) c h k = (
  subst (λ z. CommitsItem z (lets_of item) o) (h c (omega arith) (omega arith)) k.0,
  commits_agree f g items outcomes (c + 1) (λ d low up. h d (omega (arith, low)) (omega (arith, up))) k.1,
)
