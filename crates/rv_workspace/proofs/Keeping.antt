-- What a book keeps over each of its calls, whatever the call answers: its names are those that its history leaves of the first ones, and the relations of both stand.
use Rattle.std.proofs.Common.{◌≡◌, ◌∙◌, ℕ, Bool, true, false, cond, List, [], ◌∷◌, ◌++◌, append-nil, Option, Some, None, Result, Ok, Err, sym, ap, subst}
use Rattle.std.specs.Prelude.{All, IsSome, OnOk, OnErr, IfOk}
use Rattle.std.proofs.lemmas.List.Elements.{All-nil, All-cons, All-append, All-weaker}
use Rattle.rel_model.specs.declared.Rel.{Rel}
use Rattle.rel_model.specs.Worker.{Worker, Stands}
use Rattle.rel_model.specs.Seats.{Holds, Learns}
use Rattle.rel_model.proofs.Workers.{keeps_stands}
use Rattle.run_model.specs.declared.event.Event.{Event}
use Rattle.run_model.specs.Names.{lookup}
use Rattle.run_model.specs.Versions.{Versions}
use Rattle.run_model.specs.Carried.{Carried, carried_from}
use Rattle.rv_workspace.specs.declared.refused.DropRefused.{DropRefused}
use Rattle.rv_workspace.specs.declared.refused.DropRefused.TheVariants.{Unknown, NoMemory}
use Rattle.rv_workspace.specs.Books.{EventStands, HistoryStands, NamesStand, AllNamesStand, StandAlike, AreFew, AreLeft, Held}
use Rattle.rv_workspace.specs.Entering.{read_of, removal, assigns, refusal_entries, drop_entries, dropped}
use Rattle.name_map.specs.Giving.{set_all}
use Rattle.rv_workspace.specs.Picking.{picked, among, is_among}
use Rattle.rv_workspace.proofs.Picking.{lookup-among}
use Rattle.rv_workspace.proofs.Replaying.{carried-nil, carried-read, carried-removal, carried-assigns, history_stands, assigns_stand, names_stand, all_names_stand}
use Rattle.rv_workspace.specs.declared.reading.View.{View}

-- ---- a new book
-- names and versions with which it begins are those that no event leaves
pub begins_left : (names first : Carried) (versions noted : Versions) (history : List Event) → first ≡ names → noted ≡ versions → history ≡ [] → AreFew versions →
    AreLeft names versions (record { names = first; versions = noted }) history
begins_left names first versions noted history f n d few =
    subst (AreLeft names versions (record { names = first; versions = noted })) (sym d)
    (record {
      names_left = sym f ∙ sym (carried-nil first);
      versions_left = sym n;
      few = subst AreFew (sym n) few;
    })

pub first_stands : (w : Worker) (history : List Event) → history ≡ [] → HistoryStands w history
first_stands w history e = subst (HistoryStands w) (sym e) (All-nil (EventStands w))

-- ---- one entry more
pub read_stands : (w : Worker) (s c : ℕ) (old : List Event) → HistoryStands w old → HistoryStands w (old ++ read_of s c ∷ [])
read_stands w s c old h = All-append (EventStands w) old (read_of s c ∷ []) h (All-cons (EventStands w) (read_of s c) [] tt (All-nil (EventStands w)))

removal_stands : (w : Worker) (s c : ℕ) (name : List ℕ) (old : List Event) → HistoryStands w old → HistoryStands w (old ++ removal s c name ∷ [])
removal_stands w s c name old h = All-append (EventStands w) old (removal s c name ∷ []) h (All-cons (EventStands w) (removal s c name) [] tt (All-nil (EventStands w)))

-- ---- a read
pub names_after_read : {T U : Type 0} (first : Carried) (r : Result T U) (s c : ℕ) (old new : List Event) → OnOk r (new ≡ old ++ read_of s c ∷ []) → OnErr r (new ≡ old) → carried_from first new ≡ carried_from first old
names_after_read first (Ok x) s c old new e d = ap (carried_from first) e ∙ carried-read first s c old
names_after_read first (Err x) s c old new e d = ap (carried_from first) d

pub stands_after_read : {T U : Type 0} (w : Worker) (r : Result T U) (s c : ℕ) (old new : List Event) → OnOk r (new ≡ old ++ read_of s c ∷ []) → OnErr r (new ≡ old) → HistoryStands w old → HistoryStands w new
stands_after_read w (Ok x) s c old new e d h = subst (HistoryStands w) (sym e) (read_stands w s c old h)
stands_after_read w (Err x) s c old new e d h = subst (HistoryStands w) (sym d) h

pub held_stands : (a b : Worker) (r : Rel) → Holds a b → Stands a r → Stands b r
held_stands a b r h s = subst IsSome (sym (h.same r s)) s

alike : (a m : Worker) (names : Carried) → NamesStand a names → Holds a m → StandAlike a m names
alike a m names all h n r e = (held_stands a m r h (all n r e), h.same r (all n r e))

no_rel : (x : Rel) → None ≡ Some x → ⊥
no_rel x e = cc

among_stand : (w : Worker) (wanted : List (List ℕ)) (names : Carried) → NamesStand w names → NamesStand w (among wanted names)
among_stand w wanted names all n r e = at (is_among wanted n) (sym (lookup-among wanted names n) ∙ e)
  where
    at : (b : Bool) → cond b (lookup names n) None ≡ Some r → Stands w r
    at true k = all n r k
    at false k = absurd (no_rel r k)

picked_stand : (w : Worker) (wanted : Option (List (List ℕ))) (names : Carried) → NamesStand w names → NamesStand w (picked wanted names)
picked_stand w None names all = all
picked_stand w (Some ws) names all = among_stand w ws names all

-- what a read gives stands where it was read, as in the archive
pub view_stands : {E U : Type 0} (worker : E → Worker) (k : Held E) (a : E) (m : Worker) (first : Carried) (old : List Event) (r : Result View U) (names : Carried) (wanted : Option (List (List ℕ)))
    → a ≡ k.archive → names ≡ carried_from first old → AllNamesStand (worker a) first → HistoryStands (worker a) old → Holds (worker a) m → IfOk r (λ v. v.names.items ≡ picked wanted names)
    → IfOk r (λ v. StandAlike (worker k.archive) m v.names.items)
view_stands worker k a m first old (Err x) names wanted is n f h l e = tt
view_stands worker k a m first old (Ok v) names wanted is n f h l e =
    let all : NamesStand (worker a) names = subst (NamesStand (worker a)) (sym n) (names_stand (worker a) first old f h) in
    subst (λ z. StandAlike (worker z) m v.names.items) is
    (subst (StandAlike (worker a) m) (sym e) (alike (worker a) m (picked wanted names) (picked_stand (worker a) wanted names all) l))

-- ---- assignments
pub names_after_gifts : {T U : Type 0} (first : Carried) (r : Result T U) (s c : ℕ) (gifts : List (List ℕ × Rel)) (old new : List Event) → OnOk r (new ≡ old ++ assigns s c gifts) → OnOk r (carried_from first new ≡ set_all gifts (carried_from first old))
names_after_gifts first (Ok x) s c gifts old new e = ap (carried_from first) e ∙ carried-assigns first s c gifts old
names_after_gifts first (Err x) s c gifts old new e = tt

pub in_step_after_gifts : {T U : Type 0} (first : Carried) (r : Result T U) (s c : ℕ) (gifts : List (List ℕ × Rel)) (names given : Carried) (old new : List Event) → names ≡ carried_from first old
    → OnOk r (given ≡ set_all gifts names) → OnErr r (given ≡ names) → OnOk r (new ≡ old ++ assigns s c gifts) → OnErr r (new ≡ old) → given ≡ carried_from first new
in_step_after_gifts first (Ok x) s c gifts names given old new n g f e d = g ∙ ap (set_all gifts) n ∙ sym (ap (carried_from first) e ∙ carried-assigns first s c gifts old)
in_step_after_gifts first (Err x) s c gifts names given old new n g f e d = f ∙ n ∙ sym (ap (carried_from first) d)

pub gifts_stand : (w : Worker) (s c : ℕ) (gifts : List (List ℕ × Rel)) (old : List Event) → All (λ g. Stands w g.1) gifts → HistoryStands w old → HistoryStands w (old ++ assigns s c gifts)
gifts_stand w s c gifts old g h = All-append (EventStands w) old (assigns s c gifts) h (assigns_stand w s c gifts g)

pub stands_after_gifts : {T U : Type 0} (w : Worker) (r : Result T U) (s c : ℕ) (gifts : List (List ℕ × Rel)) (old new : List Event) → All (λ g. Stands w g.1) gifts
    → OnOk r (new ≡ old ++ assigns s c gifts) → OnErr r (new ≡ old) → HistoryStands w old → HistoryStands w new
stands_after_gifts w (Ok x) s c gifts old new g e d h =
    subst (HistoryStands w) (sym e) (gifts_stand w s c gifts old g h)
stands_after_gifts w (Err x) s c gifts old new g e d h = subst (HistoryStands w) (sym d) h

-- relations that stand in a worker stand where that was learnt
pub gifts_learnt : (m b : Worker) (gifts : List (List ℕ × Rel)) → Holds m b → All (λ g. Stands m g.1) gifts → All (λ g. Stands b g.1) gifts
gifts_learnt m b gifts h all = All-weaker (λ g. Stands m g.1) (λ g. Stands b g.1) (λ g s. held_stands m b g.1 h s) gifts all

pub one_gift : (w : Worker) (none one : List (List ℕ × Rel)) (gift : List ℕ × Rel) → none ≡ [] → one ≡ none ++ gift ∷ [] → Stands w gift.1 → All (λ g. Stands w g.1) one
one_gift w none one gift e d s =
    subst (All (λ g. Stands w g.1)) (sym (d ∙ ap (λ xs. xs ++ gift ∷ []) e)) (All-cons (λ g. Stands w g.1) gift [] s (All-nil (λ g. Stands w g.1)))

-- ---- a drop
pub names_after_drop : (first : Carried) (r : Result (Unit {0}) DropRefused) (s c : ℕ) (name : List ℕ) (old new : List Event) → new ≡ old ++ drop_entries s c name r →
    carried_from first new ≡ dropped name r (carried_from first old)
names_after_drop first (Ok x) s c name old new e = ap (carried_from first) e ∙ carried-removal first s c name old
names_after_drop first (Err x) s c name old new e = refused x e
  where
    refused : (x : DropRefused) → new ≡ old ++ refusal_entries s c x → carried_from first new ≡ carried_from first old
    refused (Unknown n) k = ap (carried_from first) k ∙ carried-read first s c old
    refused NoMemory k = ap (carried_from first) (k ∙ append-nil old)

pub stands_after_drop : (w : Worker) (r : Result (Unit {0}) DropRefused) (s c : ℕ) (name : List ℕ) (old new : List Event) → new ≡ old ++ drop_entries s c name r → HistoryStands w old → HistoryStands w new
stands_after_drop w (Ok x) s c name old new e h = subst (HistoryStands w) (sym e) (removal_stands w s c name old h)
stands_after_drop w (Err x) s c name old new e h = refused x e
  where
    refused : (x : DropRefused) → new ≡ old ++ refusal_entries s c x → HistoryStands w new
    refused (Unknown n) k = subst (HistoryStands w) (sym k) (read_stands w s c old h)
    refused NoMemory k = subst (HistoryStands w) (sym (k ∙ append-nil old)) h

-- ---- the archive that learnt
pub archive_stands : (a m b : Worker) (old : List Event) → Learns a m b → HistoryStands a old → HistoryStands b old
archive_stands a m b old l h = history_stands a b (λ r s. keeps_stands a b r l.stays.keeps s) old h

pub archive_names : (a m b : Worker) (first : Carried) → Learns a m b → AllNamesStand a first → AllNamesStand b first
archive_names a m b first l h = all_names_stand a b (λ r s. keeps_stands a b r l.stays.keeps s) first h
