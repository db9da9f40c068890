-- Quadrants that are read one by one: those that were read, and those that are still to come, are all.
-- 1. A set has a quadrant exactly if an earlier one has the same four numbers (`has_known`).
-- 2. Each one that is not bad moves from the rest behind those that were read (`read_more`); one that is bad is the
--    first bad one (`read_bad`).
use Rattle.std.proofs.Common.{◌≡◌, ◌||◌, ◌&&◌, ◌+◌, ◌*◌, ◌-◌, ◌≤◌, eqb, suc, ℕ, Bool, true, false, not, cond, take, drop, List, [], ◌∷◌, ◌++◌, length, Some, refl, sym, ap, subst, ◌∙◌, arith, append_assoc, length-append}
use Rattle.std.specs.List.{list_any}
use Rattle.std.specs.Prelude.{if◌then◌else◌}
use Rattle.std.proofs.lemmas.List.{length-drop, drop-drop}
use Rattle.std.proofs.lemmas.Grind.{common_steps}
use Rattle.indexmap.specs.IndexSet.{insert_key}
use Rattle.run_model.specs.declared.outcome.BadFile.TheVariants.{Quad}
use Rattle.run_model.specs.Files.{found_at}
use Rattle.run_model.specs.SharedFiles.{Quadrant, same_quadrant, number_at, quadrants_in, height_of_quadrant, heights_behind, is_bad, first_bad}
use Rattle.k2_parts.specs.declared.form.Quadrant.{Quadrant as LISTED}
use Rattle.k2_parts.specs.declared.quads.Listing.{Listing}
use Rattle.k2_parts.specs.Told.{quadrant_told, quadrants_told}
use Rattle.k2_parts.specs.Tests.{TellsFour, IsListing, IsBehind, is_bad_next, quads_fault}

-- ---- equal quadrants
and_end : (a b c d : Bool) → (a && (b && (c && d))) ≡ (a && (b && (c && (d && true))))
and_end false b c d = refl
and_end true false c d = refl
and_end true true false d = refl
and_end true true true false = refl
and_end true true true true = refl

pub same_numbers : (a b : LISTED) → (eqb a.nw b.nw && (eqb a.ne b.ne && (eqb a.sw b.sw && eqb a.se b.se))) ≡ same_quadrant (quadrant_told a) (quadrant_told b)
same_numbers a b = and_end (eqb a.nw b.nw) (eqb a.ne b.ne) (eqb a.sw b.sw) (eqb a.se b.se)

pub has_known : (E : LISTED → LISTED → Bool) → ((a b : LISTED) → E a b ≡ same_quadrant (quadrant_told a) (quadrant_told b)) → (q : LISTED) (xs : List LISTED) →
    list_any (E q) xs ≡ list_any (same_quadrant (quadrant_told q)) (quadrants_told xs)
has_known E same q [] = refl
has_known E same q (x ∷ xs) = λ i. same q x i || has_known E same q xs i

-- a set of the quadrants that were read
pub known_is : (E : LISTED → LISTED → Bool) → ((a b : LISTED) → E a b ≡ same_quadrant (quadrant_told a) (quadrant_told b)) → (q : LISTED) (keys xs : List LISTED) → keys ≡ xs →
    list_any (E q) keys ≡ list_any (same_quadrant (quadrant_told q)) (quadrants_told xs)
known_is E same q keys xs e = ap (list_any (E q)) e ∙ has_known E same q xs

pub key_more : (E : LISTED → LISTED → Bool) (keys : List LISTED) (q : LISTED) → list_any (E q) keys ≡ false → insert_key E keys q ≡ keys ++ q ∷ []
key_more E keys q none = ap (λ b. if b then keys else keys ++ q ∷ []) none

-- one more quadrant with its height leaves a listing: quadrants, heights and keys each grow by one at the end
pub listing_more : (old new : Listing) (q : LISTED) (h : ℕ) → IsListing old → new.quads.items ≡ old.quads.items ++ q ∷ [] → new.heights.items ≡ old.heights.items ++ h ∷ [] →
    new.known.keys ≡ old.known.keys ++ q ∷ [] → IsListing new
listing_more old new q h l quads heights keys = record {
  as_many =
      let m = l.as_many in
      ap length heights
      ∙ (length-append old.heights.items (h ∷ []) ∙ (ap (λ (n : ℕ). n + 1) m ∙ (sym (length-append old.quads.items (q ∷ [])) ∙ ap length (sym quads))));
  same = keys ∙ (ap (λ xs. xs ++ q ∷ []) l.same ∙ sym quads);
}

-- ---- the walk
-- quadrants that were read, and the bytes of so many that are left
pub record IsReading (all : List Quadrant) (done left : ℕ) (rest : List ℕ) (l : Listing) : Type 0 where
  pub long : 16 * left ≤ length rest
  pub told : quadrants_told l.quads.items ++ quadrants_in left rest ≡ all
  pub first : first_bad (done + 2) (quadrants_told l.quads.items) l.heights.items (quadrants_in left rest) ≡ first_bad 2 [] [] all
  pub behind : heights_behind l.heights.items (quadrants_in left rest) ≡ heights_behind [] all
  pub many : length l.heights.items ≡ done
  pub listing : IsListing l

told-append : (xs ys : List LISTED) → quadrants_told (xs ++ ys) ≡ quadrants_told xs ++ quadrants_told ys
told-append [] ys = refl
told-append (x ∷ xs) ys = ap (λ zs. quadrant_told x ∷ zs) (told-append xs ys)

step_first : (n m : ℕ) (earlier : List Quadrant) (hs : List ℕ) (q : Quadrant) (qs : List Quadrant) → m ≡ n + 1 → is_bad n earlier hs q ≡ false →
    first_bad m (earlier ++ q ∷ []) (hs ++ height_of_quadrant hs q ∷ []) qs ≡ first_bad n earlier hs (q ∷ qs)
step_first n m earlier hs q qs e good =
    ap (λ (k : ℕ). first_bad k (earlier ++ q ∷ []) (hs ++ height_of_quadrant hs q ∷ []) qs) e
    ∙ sym (ap (λ b. cond b (Some n) (first_bad (n + 1) (earlier ++ q ∷ []) (hs ++ height_of_quadrant hs q ∷ []) qs)) good)

-- the quadrant that bytes begin with
abbrev in_front : List ℕ → Quadrant
in_front bytes = record { nw = number_at bytes 0; ne = number_at bytes 4; sw = number_at bytes 8; se = number_at bytes 12 }

front_told : (bytes : List ℕ) (q : LISTED) → TellsFour bytes q → quadrant_told q ≡ in_front bytes
front_told bytes q t = λ i. record { nw = t.0 i; ne = t.1 i; sw = t.2 i; se = t.3 i }

module _ (all : List Quadrant) (done left k : ℕ) (rest : List ℕ) (l : Listing) (r : IsReading all done left rest l) (e : left ≡ suc k) where
  -- the same reading, with at least one quadrant left
  one_left : IsReading all done (suc k) rest l
  one_left = subst (λ (n : ℕ). IsReading all done n rest l) e r

  module _ (q : LISTED) (t : TellsFour rest q) where
    -- as it is named where it was read
    bad_there : is_bad (done + 2) (quadrants_told l.quads.items) l.heights.items (in_front rest) ≡ is_bad_next l q
    bad_there =
        ap (λ (n : ℕ). is_bad (n + 2) (quadrants_told l.quads.items) l.heights.items (in_front rest)) (sym one_left.many)
        ∙ ap (λ f. is_bad (length l.heights.items + 2) (quadrants_told l.quads.items) l.heights.items f) (sym (front_told rest q t))

    pub read_bad : is_bad_next l q ≡ true → first_bad 2 [] [] all ≡ Some (done + 2)
    read_bad bad =
        sym one_left.first
        ∙ ap (λ b. cond b (Some (done + 2)) (first_bad (done + 2 + 1) (quadrants_told l.quads.items ++ in_front rest ∷ []) (l.heights.items ++ height_of_quadrant l.heights.items (in_front rest) ∷ []) (quadrants_in k (drop 16 rest))))
        (bad_there ∙ bad)

    pub read_more : (next : List ℕ) (new : Listing) → next ≡ drop 16 rest → IsBehind l new q → IsReading all (done + 1) k next new
    read_more next new is b = subst (λ (ys : List ℕ). IsReading all (done + 1) k ys new) (sym is) (
        record {
          long = let h = one_left.long in let n = length-drop 16 rest in omega (arith, h, n);
          told =
              ap (λ xs. xs ++ quadrants_in k (drop 16 rest)) quads_are
              ∙ (append_assoc (quadrants_told l.quads.items) (in_front rest ∷ []) (quadrants_in k (drop 16 rest)) ∙ one_left.told);
          first =
              (λ i. first_bad ((done + 1) + 2) (quads_are i) (heights_are i) (quadrants_in k (drop 16 rest)))
              ∙ (step_first (done + 2) ((done + 1) + 2) (quadrants_told l.quads.items) l.heights.items (in_front rest) (quadrants_in k (drop 16 rest)) (omega arith) (bad_there ∙ b.good)
              ∙ one_left.first);
          behind = ap (λ (hs : List ℕ). heights_behind hs (quadrants_in k (drop 16 rest))) heights_are ∙ one_left.behind;
          many =
              let m = one_left.many in
              ap length b.heights ∙ (length-append l.heights.items (height_of_quadrant l.heights.items (quadrant_told q) ∷ []) ∙ ap (λ (n : ℕ). n + 1) m);
          listing = b.listing;
        }
        )
      where
        quads_are : quadrants_told new.quads.items ≡ quadrants_told l.quads.items ++ in_front rest ∷ []
        quads_are =
            ap quadrants_told b.quads
            ∙ (told-append l.quads.items (q ∷ []) ∙ ap (λ f. quadrants_told l.quads.items ++ f ∷ []) (front_told rest q t))

        heights_are : new.heights.items ≡ l.heights.items ++ height_of_quadrant l.heights.items (in_front rest) ∷ []
        heights_are = b.heights ∙ ap (λ f. l.heights.items ++ height_of_quadrant l.heights.items f ∷ []) (front_told rest q t)

-- ---- the bytes of the next one
pub tail : (at : ℕ) (bytes : List ℕ) → take (length bytes - at) (drop at bytes) ≡ drop at bytes
tail at bytes = grind (arith, common_steps)

pub not_new : (b : Bool) → not b ≡ false → b ≡ true
not_new true h = refl
not_new false h = sym h

pub is_new : (b : Bool) → not b ≡ true → b ≡ false
is_new false h = refl
is_new true h = sym h

-- ---- the fault
pub fault_there : (all : List Quadrant) (done n : ℕ) → n ≡ done → first_bad 2 [] [] all ≡ Some (done + 2) → quads_fault all ≡ Some (Quad (n + 2))
fault_there all done n e h = ap (found_at Quad) h ∙ ap (λ (k : ℕ). Some (Quad (k + 2))) (sym e)

-- ---- by places in the bytes
pub next_drop : (at next : ℕ) (bytes : List ℕ) → next ≡ at + 16 → drop next bytes ≡ drop 16 (drop at bytes)
next_drop at next bytes e = ap (λ (n : ℕ). drop n bytes) e ∙ sym (drop-drop 16 at bytes)
