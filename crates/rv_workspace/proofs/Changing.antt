-- The first name that was read and has another version now, by the map of versions as by the history.
use Rattle.std.proofs.Common.{◌≡◌, ◌<◌, ◌∙◌, ℕ, suc, Bool, true, false, cond, List, [], ◌∷◌, ◌++◌, length, Option, Some, None, Result, Ok, Err, refl, sym, ap, subst, arith, append-nil, slice_index_or, nat_eq}
use Rattle.std.specs.Prelude.{All, option_map}
use Rattle.rel_model.specs.declared.Rel.{Rel}
use Rattle.rel_model.specs.Worker.{Worker, Stands}
use Rattle.run_model.specs.declared.event.Event.{Event}
use Rattle.run_model.specs.Versions.{Change, Versions, noted, version_behind, versions_after}
use Rattle.run_model.specs.Carried.{Carried, carried_from}
use Rattle.rv_blocks.specs.Changes.{first_other}
use Rattle.rv_workspace.specs.declared.refused.CommitRefused.{CommitRefused}
use Rattle.rv_workspace.specs.declared.refused.CommitRefused.TheVariants.{Changed, NoMemory}
use Rattle.rv_workspace.specs.Books.{HistoryStands}
use Rattle.rv_workspace.specs.Committing.{change_since, refused_entries, commit_entries, committed}
use Rattle.rv_workspace.proofs.Replaying.{carried-read, carried-assigns}
use Rattle.rv_workspace.proofs.Noting.{told_of, versions-read}
use Rattle.rv_workspace.proofs.Keeping.{read_stands, gifts_stand}

no_place : (k : ℕ) → Some k ≡ None → ⊥
no_place k e = cc

some_place : (k : ℕ) → None ≡ Some k → ⊥
some_place k e = cc

one_place : (j k : ℕ) → Some j ≡ Some k → j ≡ k
one_place j k e = cc

unmapped : (o : Option ℕ) → option_map suc o ≡ None → o ≡ None
unmapped None e = refl
unmapped (Some k) e = absurd (no_place (suc k) e)

mapped : (o : Option ℕ) (k : ℕ) → option_map suc o ≡ Some k → (j : ℕ) × (o ≡ Some j) × (suc j ≡ k)
mapped None k e = absurd (some_place k e)
mapped (Some j) k e = (j, refl, one_place (suc j) k e)

abbrev pub change_of : Versions → List ℕ × ℕ → List Event → Change
change_of first read history = record { name = read.0; seen = read.1; found = version_behind first history read.0 }

module _ (v first : Versions) (es : List Event) (counted : v ≡ versions_after first es) where
  by_map : (read : List ℕ × ℕ) (x y : Option Change) → cond (nat_eq (version_behind first es read.0) read.1) x y ≡ cond (nat_eq (noted v read.0) read.1) x y
  by_map read x y = ap (λ n. cond (nat_eq n read.1) x y) (sym (told_of v first es read.0 counted))

  pub none_changed : (reads : List (List ℕ × ℕ)) → first_other v reads ≡ None → change_since first reads es ≡ None
  none_changed [] h = refl
  none_changed (r ∷ rs) h = by_map r (change_since first rs es) (Some (change_of first r es)) ∙ at (λ k. none_changed rs k) (nat_eq (noted v r.0) r.1) h
    where
      at : (first_other v rs ≡ None → change_since first rs es ≡ None) → (b : Bool) → cond b (option_map suc (first_other v rs)) (Some 0) ≡ None
          → cond b (change_since first rs es) (Some (change_of first r es)) ≡ None
      at rest true k = rest (unmapped (first_other v rs) k)
      at rest false k = absurd (no_place 0 k)

  -- the first name with another version by the map is the first change by the history, by induction on the names read:
  -- both tell the same version of each
  pub one_changed : (reads : List (List ℕ × ℕ)) (place : ℕ) (other : List ℕ × ℕ) → first_other v reads ≡ Some place
      → change_since first reads es ≡ Some (change_of first (slice_index_or reads place other) es)
  one_changed [] place other h = absurd (some_place place h)
  one_changed (r ∷ rs) place other h = by_map r (change_since first rs es) (Some (change_of first r es)) ∙ at (λ j k. one_changed rs j other k) (nat_eq (noted v r.0) r.1) h
    where
      at : ((j : ℕ) → first_other v rs ≡ Some j → change_since first rs es ≡ Some (change_of first (slice_index_or rs j other) es))
          → (b : Bool) → cond b (option_map suc (first_other v rs)) (Some 0) ≡ Some place
          → cond b (change_since first rs es) (Some (change_of first r es)) ≡ Some (change_of first (slice_index_or (r ∷ rs) place other) es)
      at rest true k =
          let m = mapped (first_other v rs) place k in
          rest m.0 m.1 ∙ ap (λ p. Some (change_of first (slice_index_or (r ∷ rs) p other) es)) m.2
      at rest false k = ap (λ p. Some (change_of first (slice_index_or (r ∷ rs) p other) es)) (one_place 0 place k)

pub place_within : (v : Versions) (reads : List (List ℕ × ℕ)) (place : ℕ) → first_other v reads ≡ Some place → place < length reads
place_within v [] place h = absurd (some_place place h)
place_within v (r ∷ rs) place h = at (λ j k. place_within v rs j k) (nat_eq (noted v r.0) r.1) h
  where
    at : ((j : ℕ) → first_other v rs ≡ Some j → j < length rs) → (b : Bool) → cond b (option_map suc (first_other v rs)) (Some 0) ≡ Some place → place < length (r ∷ rs)
    at rest true k =
        let m = mapped (first_other v rs) place k in
        let i = rest m.0 m.1 in
        let e = m.2 in
        omega (arith, i, e)
    at rest false k = let e = one_place 0 place k in omega (arith, e)

-- ---- after a commit
pub versions_refused : (v : Versions) (s c : ℕ) (refused : CommitRefused) (old : List Event) → versions_after v (old ++ refused_entries s c refused) ≡ versions_after v old
versions_refused v s c (Changed name seen found) old = versions-read v s c old
versions_refused v s c NoMemory old = ap (versions_after v) (append-nil old)

carried_refused : (first : Carried) (s c : ℕ) (refused : CommitRefused) (old : List Event) → carried_from first (old ++ refused_entries s c refused) ≡ carried_from first old
carried_refused first s c (Changed name seen found) old = carried-read first s c old
carried_refused first s c NoMemory old = ap (carried_from first) (append-nil old)

pub names_after_commit : (first : Carried) (r : Result (Unit {0}) CommitRefused) (s c : ℕ) (gifts : List (List ℕ × Rel)) (old new : List Event) → new ≡ old ++ commit_entries s c gifts r
    → carried_from first new ≡ committed gifts r (carried_from first old)
names_after_commit first (Ok x) s c gifts old new e = ap (carried_from first) e ∙ carried-assigns first s c gifts old
names_after_commit first (Err x) s c gifts old new e = ap (carried_from first) e ∙ carried_refused first s c x old

refused_stands : (w : Worker) (s c : ℕ) (refused : CommitRefused) (old : List Event) → HistoryStands w old → HistoryStands w (old ++ refused_entries s c refused)
refused_stands w s c (Changed name seen found) old h = read_stands w s c old h
refused_stands w s c NoMemory old h = subst (HistoryStands w) (sym (append-nil old)) h

pub stands_after_commit : (w : Worker) (r : Result (Unit {0}) CommitRefused) (s c : ℕ) (gifts : List (List ℕ × Rel)) (old new : List Event) → All (λ g. Stands w g.1) gifts
    → new ≡ old ++ commit_entries s c gifts r → HistoryStands w old → HistoryStands w new
stands_after_commit w (Ok x) s c gifts old new g e h = subst (HistoryStands w) (sym e) (gifts_stand w s c gifts old g h)
stands_after_commit w (Err x) s c gifts old new g e h = subst (HistoryStands w) (sym e) (refused_stands w s c x old h)
