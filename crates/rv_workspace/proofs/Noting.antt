-- The versions after a history that grew.
use Rattle.std.proofs.Common.{◌≡◌, ◌≤◌, ◌<◌, ◌+◌, ◌^◌, ◌∙◌, ℕ, Bool, true, false, cond, List, [], ◌∷◌, ◌++◌, length, take, get_or, Result, Ok, Err, refl, sym, ap, arith}
use Rattle.std.specs.Prelude.{OnOk, OnErr}
use Rattle.std.proofs.lemmas.List.{take_more, map-append}
use Rattle.rel_model.specs.declared.Rel.{Rel}
use Rattle.run_model.specs.declared.event.Event.{Event}
use Rattle.run_model.specs.Names.{names_of}
use Rattle.run_model.specs.Versions.{Versions, changes, version, noted, version_behind, raised, all_raised, changed_by, versions_after}
use Rattle.run_model.specs.Carried.{Carried, First}
use Rattle.run_model.proofs.Counting.{versions_are_counted}
use Rattle.rv_blocks.proofs.Raising.{all_raised-few}
use Rattle.rv_workspace.specs.Books.{AreLeft}
use Rattle.rv_workspace.specs.Counting.{AreFewBehind}
use Rattle.rv_workspace.specs.Entering.{read_of, removal, assigns}

versions-append : (v : Versions) (xs ys : List Event) → versions_after v (xs ++ ys) ≡ versions_after (versions_after v xs) ys
versions-append v [] ys = refl
versions-append v (x ∷ xs) ys = versions-append (all_raised (changed_by x.act) v) xs ys

pub versions-read : (v : Versions) (s c : ℕ) (es : List Event) → versions_after v (es ++ read_of s c ∷ []) ≡ versions_after v es
versions-read v s c es = versions-append v es (read_of s c ∷ [])

pub versions-removal : (v : Versions) (s c : ℕ) (name : List ℕ) (es : List Event) → versions_after v (es ++ removal s c name ∷ []) ≡ raised name (versions_after v es)
versions-removal v s c name es = versions-append v es (removal s c name ∷ [])

given : (s c : ℕ) (gifts : List (List ℕ × Rel)) (v : Versions) → versions_after v (assigns s c gifts) ≡ all_raised (names_of gifts) v
given s c [] v = refl
given s c (g ∷ gs) v = given s c gs (raised g.0 v)

pub versions-assigns : (v : Versions) (s c : ℕ) (gifts : List (List ℕ × Rel)) (es : List Event) → versions_after v (es ++ assigns s c gifts) ≡ all_raised (names_of gifts) (versions_after v es)
versions-assigns v s c gifts es = versions-append v es (assigns s c gifts) ∙ given s c gifts (versions_after v es)

-- ---- how large versions are
version-few : (name : List ℕ) (es : List Event) → version name es ≤ length es
version-few name [] = omega arith
version-few name (e ∷ es) = picked (changes name e.act) (version-few name es)
  where
    picked : (b : Bool) → version name es ≤ length es → cond b 1 0 + version name es ≤ length (e ∷ es)
    picked true h = omega (arith, h)
    picked false h = omega (arith, h)

-- a map of versions tells those behind its history
pub told_of : (v first : Versions) (es : List Event) (name : List ℕ) → v ≡ versions_after first es → noted v name ≡ version_behind first es name
told_of v first es name e = ap (λ m. noted m name) e ∙ versions_are_counted first es name

-- those of a book passed 2^63 - 1 by no more than its events
pub few_behind : (names : Carried) (v : Versions) (first : First) (es : List Event) → AreLeft names v first es → AreFewBehind v es
few_behind names v first es left name =
    let a = told_of v first.versions es name left.versions_left in
    let b = version-few name es in
    let f = left.few name in
    omega (arith, a, b, f)

-- names for which a history has room are noted within the limit
pub all_fit : (v : Versions) (es : List Event) (names : List (List ℕ)) (room : ℕ) → AreFewBehind v es → length es + length names ≤ room → room < 2 ^ 63
    → (name : List ℕ) → noted (all_raised names v) name < 2 ^ 64
all_fit v es names room few l r name =
    let a = few name in
    let b = all_raised-few names v name in
    omega (arith, a, b, l, r)

-- the names of one gift more
pub names-take : (gifts : List (List ℕ × Rel)) (i : ℕ) (gift : List ℕ × Rel) → i < length gifts → gift ≡ get_or gifts i gift
    → names_of (take (i + 1) gifts) ≡ names_of (take i gifts) ++ gift.0 ∷ []
names-take gifts i gift l e =
    ap names_of (take_more gifts i gift l ∙ ap (λ x. take i gifts ++ x ∷ []) (sym e)) ∙ map-append (λ entry. entry.0) (take i gifts) (gift ∷ [])

-- ---- after each call
pub versions_after_read : {T U : Type 0} (v : Versions) (r : Result T U) (s c : ℕ) (old new : List Event) → OnOk r (new ≡ old ++ read_of s c ∷ []) → OnErr r (new ≡ old)
    → versions_after v new ≡ versions_after v old
versions_after_read v (Ok x) s c old new e d = ap (versions_after v) e ∙ versions-read v s c old
versions_after_read v (Err x) s c old new e d = ap (versions_after v) d
