-- What files that are kept one behind another in one row of bytes tell, as the bytes grow.
use Rattle.std.proofs.Common.{◌≡◌, ◌≢◌, ◌≤◌, ◌+◌, ◌-◌, ℕ, Bool, true, false, cond, List, [], ◌∷◌, ◌++◌, Option, Some, length, take, drop, nat_eq, refl, sym, ap, ◌∙◌, subst, inl, inr, arith, length-append, length-drop, drop-drop, take-add, length-take}
use lib.Seq.{take-append-le, drop-append-le, drop-append_seam, take_all}
use lib.Pointwise.{pointwise}
use Rattle.std.specs.Prelude.{is_some}
use Rattle.std.proofs.lemmas.List.{take_at}
use Rattle.std.proofs.lemmas.Bool.{cases_Bool}
use Rattle.std.proofs.lemmas.Slice.Eq.{bytes_eq-Decides}
use Rattle.rv_io.specs.declared.kept.Place.{Place}
use Rattle.rv_io.specs.Sure.{between, content_in, is_named, kept_at, IsWithin, AreWithin, IsPlaced, with_first}

-- bytes within those that were there stay as they are
pub between-grown : (bytes more : List ℕ) (from to : ℕ) → from ≤ to → to ≤ length bytes → between (bytes ++ more) from to ≡ between bytes from to
between-grown bytes more from to l m =
    ap (take (to - from)) (drop-append-le from bytes more (omega (arith, l, m))) ∙ take-append-le (to - from) (drop from bytes) more (omega (arith, l, m, length-drop from bytes))

-- so do kept files
is_named-grown : (bytes more name : List ℕ) (place : Place) → IsWithin bytes place → is_named (bytes ++ more) name place ≡ is_named bytes name place
is_named-grown bytes more name place w = ap (λ ns. pointwise nat_eq ns name) (between-grown bytes more place.name place.content w.0 (omega (arith, w.1, w.2)))

content_in-grown : (bytes more : List ℕ) (place : Place) → IsWithin bytes place → content_in (bytes ++ more) place ≡ content_in bytes place
content_in-grown bytes more place w = between-grown bytes more place.content place.end w.1 w.2

pub kept_at-grown : (bytes more : List ℕ) (places : List Place) (name : List ℕ) → AreWithin bytes places → kept_at (bytes ++ more) places name ≡ kept_at bytes places name
kept_at-grown bytes more [] name w = refl
kept_at-grown bytes more (place ∷ places) name w =
    ap (λ b. cond b (Some (content_in (bytes ++ more) place)) (kept_at (bytes ++ more) places name)) (is_named-grown bytes more name place w.0)
    ∙ ap (λ c. cond (is_named bytes name place) (Some c) (kept_at (bytes ++ more) places name)) (content_in-grown bytes more place w.0)
    ∙ ap (λ r. cond (is_named bytes name place) (Some (content_in bytes place)) r) (kept_at-grown bytes more places name w.1)

pub within-grown : (bytes more : List ℕ) (places : List Place) → AreWithin bytes places → AreWithin (bytes ++ more) places
within-grown bytes more [] w = tt
within-grown bytes more (place ∷ places) w =
    ((w.0.0, w.0.1, omega (arith, w.0.2, length-append bytes more)), within-grown bytes more places w.1)

-- a file that was placed before the others is the first
pub kept_at-first : (bytes name content : List ℕ) (place : Place) (places : List Place) (other : List ℕ) → IsPlaced name content bytes place → kept_at bytes (place ∷ places) other ≡ with_first name content (kept_at bytes places) other
kept_at-first bytes name content place places other p =
    ap (λ n. cond (pointwise nat_eq n other) (Some (content_in bytes place)) (kept_at bytes places other)) p.named
    ∙ ap (λ c. cond (pointwise nat_eq name other) (Some c) (kept_at bytes places other)) p.holds

-- where a name and a content were put behind bytes, there they lie
pub placed : (bytes name content all : List ℕ) (start middle end : ℕ) (place : Place) → all ≡ (bytes ++ name) ++ content → place.name ≡ length bytes → place.content ≡ length (bytes ++ name) → place.end ≡ length all → IsPlaced name content all place
placed bytes name content all start middle end place whole s m e =
    subst (λ xs. IsPlaced name content xs place) (sym whole) (record {
      within = (
        omega (arith, s, m, length-append bytes name),
        omega (arith, m, e, ap length whole, length-append (bytes ++ name) content),
        omega (arith, e, ap length whole),
      );
      named = at_name;
      holds = at_content;
    })
  where
    long : length (bytes ++ name) ≡ length bytes + length name
    long = length-append bytes name

    at_name : between ((bytes ++ name) ++ content) place.name place.content ≡ name
    at_name =
        between-grown (bytes ++ name) content place.name place.content (omega (arith, s, m, long)) (omega (arith, m))
        ∙ ap (λ k. take (place.content - k) (drop k (bytes ++ name))) s
        ∙ ap (λ xs. take (place.content - length bytes) xs) (drop-append_seam bytes name)
        ∙ ap (λ k. take k name) (omega (arith, m, long))
        ∙ take_all (length name) name (omega arith)

    at_content : between ((bytes ++ name) ++ content) place.content place.end ≡ content
    at_content =
        ap (λ k. take (place.end - k) (drop k ((bytes ++ name) ++ content))) m
        ∙ ap (λ xs. take (place.end - length (bytes ++ name)) xs) (drop-append_seam (bytes ++ name) content)
        ∙ take_all (place.end - length (bytes ++ name)) content (omega (arith, e, ap length whole, length-append (bytes ++ name) content))

-- the bytes up to a place and those from there on
pub between-split : (bytes : List ℕ) (from at to : ℕ) → from ≤ at → at ≤ to → between bytes from to ≡ between bytes from at ++ between bytes at to
between-split bytes from at to l m =
    ap (λ k. take k (drop from bytes)) gap
    ∙ take-add (at - from) (to - at) (drop from bytes)
    ∙ ap (λ xs. take (at - from) (drop from bytes) ++ take (to - at) xs) (drop-drop (at - from) from bytes ∙ ap (λ k. drop k bytes) back)
  where
    gap : to - from ≡ (at - from) + (to - at)
    gap = omega (arith, l, m)

    back : from + (at - from) ≡ at
    back = omega (arith, l)

-- a name among the files stays among them
pub has-first : (name content : List ℕ) (files : List ℕ → Option (List ℕ)) (other : List ℕ) → is_some (files other) ≡ true → is_some (with_first name content files other) ≡ true
has-first name content files other h = by (pointwise nat_eq name other)
  where
    by : (b : Bool) → is_some (cond b (Some content) (files other)) ≡ true
    by true = refl
    by false = h

-- the first file of a name is found, and files of other names stay
pub first-named : (name content : List ℕ) (files : List ℕ → Option (List ℕ)) → with_first name content files name ≡ Some content
first-named name content files = ap (λ b. cond b (Some content) (files name)) ((bytes_eq-Decides name name).1 refl)

pub first-other : (name content : List ℕ) (files : List ℕ → Option (List ℕ)) (other : List ℕ) → other ≢ name → with_first name content files other ≡ files other
first-other name content files other ne = elim (cases_Bool (pointwise nat_eq name other)) [
  | inl t ↦ absurd (ne (sym ((bytes_eq-Decides name other).0 t)))
  | inr f ↦ ap (λ b. cond b (Some content) (files other)) f
]

-- what was placed before the others, or was not, lies within the bytes with them
pub within-added : (b : Bool) (old new more name content : List ℕ) (places now : List Place) (place : Place) → new ≡ old ++ more → AreWithin old places → IsPlaced name content new place → now ≡ cond b (place ∷ places) places → AreWithin new now
within-added b old new more name content places now place grown w p e =
    subst (AreWithin new) (sym e) (by b)
  where
    others : AreWithin new places
    others = subst (λ bytes. AreWithin bytes places) (sym grown) (within-grown old more places w)

    by : (b : Bool) → AreWithin new (cond b (place ∷ places) places)
    by true = (p.within, others)
    by false = others

-- a file that was placed before the others, as the bytes grew, is the first
pub kept_at-added : (old new more name content : List ℕ) (places : List Place) (place : Place) (other : List ℕ) → new ≡ old ++ more → AreWithin old places → IsPlaced name content new place → kept_at new (place ∷ places) other ≡ with_first name content (kept_at old places) other
kept_at-added old new more name content places place other grown w p =
    kept_at-first new name content place places other p
    ∙ ap (λ r. cond (pointwise nat_eq name other) (Some content) r) (ap (λ bytes. kept_at bytes places other) grown ∙ kept_at-grown old more places other w)

-- what was read is the front of what was left
pub read_part : (bytes got tail : List ℕ) (from to n : ℕ) → from + n ≤ to → to ≤ length bytes → got ≡ between bytes from (from + n) → between bytes from to ≡ take n (got ++ tail) ++ between bytes (from + n) to
read_part bytes got tail from to n l m e =
    between-split bytes from (from + n) to (omega arith) l
    ∙ ap (λ xs. xs ++ between bytes (from + n) to) (sym (take_at got tail n long ∙ e))
  where
    long : length got ≡ n
    long = omega (arith, l, m, ap length e, length-take ((from + n) - from) (drop from bytes), length-drop from bytes)
