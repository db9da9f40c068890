-- Events and their entries, which are events without the roots of their relations.
use Rattle.std.proofs.Common.{◌≡◌, ◌<◌, ◌≤◌, ◌+◌, ℕ, Bool, true, false, eqb, List, [], ◌∷◌, ◌++◌, map, refl, sym, ap, arith}
use Rattle.std.specs.List.{list_any, AllByRecursion}
use Rattle.std.proofs.lemmas.Bool.{and_from, eq-eqb, ne_eqb, or_parts, and_right}
use Rattle.rel_model.specs.declared.Rel.{Rel}
use Rattle.run_model.specs.declared.event.Event.{Event}
use Rattle.run_model.specs.declared.event.Act.{Act}
use Rattle.run_model.specs.declared.event.Act.TheVariants.{Read, Assign, Remove}
use Rattle.run_model.specs.Events.{Deed, Reads, Gives, Removes, deed_of, Entry, entry_of, entries}
use Rattle.run_model.specs.States.{is_of, events_of, events_before}

-- ---- one event
abbrev pub event : ℕ → ℕ → Act → Event
event s c act = record { session = s; command = c; act = act }

abbrev pub entry : ℕ → ℕ → Deed → Entry
entry s c deed = record { session = s; command = c; deed = deed }

abbrev kind : Deed → ℕ
kind Reads = 0
kind (Gives name m n) = 1
kind (Removes name) = 2

abbrev name_in : Deed → List ℕ
name_in Reads = []
name_in (Gives name m n) = name
name_in (Removes name) = name

act_reads : (a : Act) → deed_of a ≡ Reads → a ≡ Read
act_reads Read h = refl
act_reads (Assign name rel) h = let e : 1 ≡ 0 = ap kind h in absurd (omega (arith, e))
act_reads (Remove name) h = let e : 2 ≡ 0 = ap kind h in absurd (omega (arith, e))

act_gives : (a : Act) (name : List ℕ) (m n : ℕ) → deed_of a ≡ Gives name m n → (rel : Rel) × (a ≡ Assign name rel)
act_gives Read name m n h = let e : 0 ≡ 1 = ap kind h in absurd (omega (arith, e))
act_gives (Assign own rel) name m n h = (rel, ap (λ x. Assign x rel) (ap name_in h))
act_gives (Remove own) name m n h = let e : 2 ≡ 1 = ap kind h in absurd (omega (arith, e))

act_removes : (a : Act) (name : List ℕ) → deed_of a ≡ Removes name → a ≡ Remove name
act_removes Read name h = let e : 0 ≡ 2 = ap kind h in absurd (omega (arith, e))
act_removes (Assign own rel) name h = let e : 1 ≡ 2 = ap kind h in absurd (omega (arith, e))
act_removes (Remove own) name h = ap (λ x. Remove x) (ap name_in h)

pub reads_event : (e : Event) (s c : ℕ) → entry_of e ≡ entry s c Reads → e ≡ event s c Read
reads_event e s c h =
    let a = act_reads e.act (ap (λ (x : Entry). x.deed) h) in
    λ i. record { session = (h i).session; command = (h i).command; act = a i }

pub gives_event : (e : Event) (s c : ℕ) (name : List ℕ) (m n : ℕ) → entry_of e ≡ entry s c (Gives name m n) →
    (rel : Rel) × (e ≡ event s c (Assign name rel))
gives_event e s c name m n h =
    let a = act_gives e.act name m n (ap (λ (x : Entry). x.deed) h) in
    (a.0, λ i. record { session = (h i).session; command = (h i).command; act = a.1 i })

-- an event whose entry is a removal is that removal: an entry without a relation tells the whole act
pub removes_event : (e : Event) (s c : ℕ) (name : List ℕ) → entry_of e ≡ entry s c (Removes name) → e ≡ event s c (Remove name)
removes_event e s c name h =
    let a = act_removes e.act name (ap (λ (x : Entry). x.deed) h) in
    λ i. record { session = (h i).session; command = (h i).command; act = a i }

-- ---- lists of events
abbrev first_or : Entry → List Entry → Entry
first_or d [] = d
first_or d (x ∷ xs) = x

abbrev behind_first : List Entry → List Entry
behind_first [] = []
behind_first (x ∷ xs) = xs

abbrev count : List Entry → ℕ
count [] = 0
count (x ∷ xs) = 1

pub heads : (x y : Entry) (xs ys : List Entry) → x ∷ xs ≡ y ∷ ys → x ≡ y
heads x y xs ys h = ap (first_or x) h

pub tails : (x y : Entry) (xs ys : List Entry) → x ∷ xs ≡ y ∷ ys → xs ≡ ys
tails x y xs ys h = ap behind_first h

pub not_empty : (x : Entry) (xs : List Entry) → x ∷ xs ≡ [] → ⊥
not_empty x xs h = let e : 1 ≡ 0 = ap count h in omega (arith, e)

-- no entry, no event
pub none : (xs : List Event) → map entry_of xs ≡ [] → xs ≡ []
none [] h = refl
none (x ∷ xs) h = absurd (not_empty (entry_of x) (map entry_of xs) h)

-- events whose entries are those of two lists
pub split : (xs : List Event) (mine bs : List Entry) → map entry_of xs ≡ mine ++ bs →
    (ys zs : List Event) × (xs ≡ ys ++ zs) × (map entry_of ys ≡ mine) × (map entry_of zs ≡ bs)
split xs [] bs h = ([], xs, refl, refl, h)
split [] (a ∷ mine) bs h = absurd (not_empty a (mine ++ bs) (sym h))
split (x ∷ xs) (a ∷ mine) bs h =
    let r = split xs mine bs (tails (entry_of x) a (map entry_of xs) (mine ++ bs) h) in
    let e = heads (entry_of x) a (map entry_of xs) (mine ++ bs) h in
    (x ∷ r.0, r.1, ap (λ l. x ∷ l) r.2, (λ i. e i ∷ r.3 i), r.4)

-- the entries of two lists one behind the other are those of each, by induction on the first
pub map_append : (xs ys : List Event) → map entry_of (xs ++ ys) ≡ map entry_of xs ++ map entry_of ys
map_append [] ys = refl
map_append (x ∷ xs) ys = ap (λ l. entry_of x ∷ l) (map_append xs ys)

-- ---- numbers
-- the events are of session 1, and of commands below c
abbrev pub Below : ℕ → List Event → Type 0
Below c = AllByRecursion (λ e. (e.session ≡ 1) × (e.command < c))

-- the entries are of session 1, and of commands from c on
abbrev pub From : ℕ → List Entry → Type 0
From c = AllByRecursion (λ x. (x.session ≡ 1) × (c ≤ x.command))

pub below_more : (c : ℕ) (xs : List Event) → Below c xs → Below (c + 1) xs
below_more c [] h = tt
below_more c (x ∷ xs) h = ((h.0.0, omega (arith, h.0.1)), below_more c xs h.1)

pub below_append : (c : ℕ) (xs ys : List Event) → Below c xs → Below c ys → Below c (xs ++ ys)
below_append c [] ys h k = k
below_append c (x ∷ xs) ys h k = (h.0, below_append c xs ys h.1 k)

-- the events of command c are below the next
pub below_own : (c : ℕ) (xs : List Event) (deeds : List Deed) → map entry_of xs ≡ entries 1 c deeds → Below (c + 1) xs
below_own c [] deeds h = tt
below_own c (x ∷ xs) [] h = absurd (not_empty (entry_of x) (map entry_of xs) h)
below_own c (x ∷ xs) (d ∷ deeds) h =
    let e = heads (entry_of x) (entry 1 c d) (map entry_of xs) (entries 1 c deeds) h in
    let n : x.command ≡ c = ap (λ (y : Entry). y.command) e in
    ((ap (λ (y : Entry). y.session) e, omega (arith, n)), below_own c xs deeds (tails (entry_of x) (entry 1 c d) (map entry_of xs) (entries 1 c deeds) h))

pub from_own : (c : ℕ) (deeds : List Deed) → From c (entries 1 c deeds)
from_own c [] = tt
from_own c (d ∷ deeds) = ((refl, omega arith), from_own c deeds)

pub from_append : (c : ℕ) (xs ys : List Entry) → From c xs → From c ys → From c (xs ++ ys)
from_append c [] ys h k = k
from_append c (x ∷ xs) ys h k = (h.0, from_append c xs ys h.1 k)

pub from_less : (c : ℕ) (xs : List Entry) → From (c + 1) xs → From c xs
from_less c [] h = tt
from_less c (x ∷ xs) h = ((h.0.0, omega (arith, h.0.1)), from_less c xs h.1)

-- no event of command c is among those below it, nor among those from the next on
pub not_below : (c : ℕ) (xs : List Event) → Below c xs → list_any (is_of 1 c) xs ≡ false
not_below c [] h = refl
not_below c (x ∷ xs) h =
    rw (ne_eqb x.command c (λ e. absurd (omega (arith, h.0.1)))) (rw (and_right (eqb x.session 1) false refl) (not_below c xs h.1))

pub not_from : (c : ℕ) (xs : List Event) → From (c + 1) (map entry_of xs) → list_any (is_of 1 c) xs ≡ false
not_from c [] h = refl
not_from c (x ∷ xs) h =
    rw (ne_eqb x.command c (λ e. absurd (omega (arith, h.0.1)))) (rw (and_right (eqb x.session 1) false refl) (not_from c xs h.1))

pub any_append : (p : Event → Bool) (xs ys : List Event) → list_any p xs ≡ false → list_any p (xs ++ ys) ≡ list_any p ys
any_append p [] ys h = refl
any_append p (x ∷ xs) ys h =
    let a : (p x ≡ false) × (list_any p xs ≡ false) = or_parts (p x) (list_any p xs) h in
    rw a.0 (any_append p xs ys a.1)

pub passes : (c : ℕ) (xs ys : List Event) → list_any (is_of 1 c) xs ≡ false → events_before 1 c (xs ++ ys) ≡ xs ++ events_before 1 c ys
passes c [] ys h = refl
passes c (x ∷ xs) ys h =
    let a : (is_of 1 c x ≡ false) × (list_any (is_of 1 c) xs ≡ false) = or_parts (is_of 1 c x) (list_any (is_of 1 c) xs) h in
    rw a.0 (ap (λ zs. x ∷ zs) (passes c xs ys a.1))

pub is_own : (c : ℕ) (e : Event) → e.session ≡ 1 → e.command ≡ c → is_of 1 c e ≡ true
is_own c e s n = and_from (eqb e.session 1) (eqb e.command c) (eq-eqb e.session 1 s) (eq-eqb e.command c n)

-- all events are of session 1
pub one_session : (xs : List Event) → AllByRecursion (λ e. e.session ≡ 1) xs → events_of 1 xs ≡ xs
one_session [] h = refl
one_session (x ∷ xs) h = rw (eq-eqb x.session 1 h.0) (ap (λ ys. x ∷ ys) (one_session xs h.1))

pub sessions_from : (c : ℕ) (xs : List Event) → From c (map entry_of xs) → AllByRecursion (λ e. e.session ≡ 1) xs
sessions_from c [] h = tt
sessions_from c (x ∷ xs) h = (h.0.0, sessions_from c xs h.1)
