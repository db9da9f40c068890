-- Pairs turned round and sorted.
-- 1. A pair is in the turned list exactly if it is turned in the list (`member-turned`), and a sort keeps members.
-- 2. Pairs that differ still do when they are turned and when they change places.
-- 3. A sorted list of pairs that differ increases (`increases`), so it is the list of the transposition
--    (`turned_pairs`).
use Rattle.std.proofs.Common.{◌≡◌, ◌<◌, ◌+◌, ◌∙◌, ◌++◌, ◌&&◌, ◌||◌, eqb, ltb, cond, ℕ, suc, Bool, true, false, List, [], ◌∷◌, map, length, take, drop, get_or, set, refl, sym, ap, ap₂, subst, arith, inl, inr}
use Rattle.std.proofs.Math.Seq.{take-suc, drop-cons, get_or-append_seam, set-append_seam}
use Rattle.std.proofs.lemmas.List.{append_assoc, map-append, length-map, length-take-le}
use Rattle.std.proofs.lemmas.Bool.{false≢true, true≢false, cases_Bool}
use Rattle.std.specs.List.{AllByRecursion, IsDistinct}
use Rattle.std.specs.List.Sorted.{IsSorted, IsPermutation}
use Rattle.std.specs.Ordering.{is_lt, ordering_then, nat_cmp}
use Rattle.std.specs.declared.cmp.Ordering.{Ordering}
use Rattle.std.specs.declared.cmp.Ordering.TheVariants.{Less, Equal, Greater}
use Rattle.std.proofs.lemmas.List.Sorted.{All-permutation, IsPermutation-sym}
use Rattle.std.proofs.lemmas.List.Elements.{All-from_recursion, recursion_from_All}
use Rattle.std.proofs.lemmas.Map.Keys.{IsDistinct-IsPermutation}
use Rattle.rel_model.specs.Relation.{Relation, IsRelation, IsIncreasing, before, has}
use Rattle.rel_model.specs.Operators.{transpose}
use Rattle.rel_model.proofs.Pairs.{same, member, same-true, same_itself, all-member, before-irreflexive, before-total, before-all, same_members}
use Rattle.rel_model.proofs.Grid.{all-weaker}
use Rattle.rel_model.proofs.Relations.{IsRelation-relation_of, rows-relation_of, cols-relation_of, has-relation_of}
use Rattle.rel_model.proofs.Somes.{same_truth}
use Rattle.rel_choice.proofs.Standing.{has-within}
use Rattle.rel_values.proofs.LineLists.{all_members}

-- ---- turned round
abbrev pub turned_pair : ℕ × ℕ → ℕ × ℕ
turned_pair p = (p.1, p.0)

and_flip : (a b : Bool) → (a && b) ≡ (b && a)
and_flip true true = refl
and_flip true false = refl
and_flip false true = refl
and_flip false false = refl

member-turned : (i j : ℕ) (ps : List (ℕ × ℕ)) → member (i, j) (map turned_pair ps) ≡ member (j, i) ps
member-turned i j [] = refl
member-turned i j (p ∷ ps) = ap₂ (λ (a b : Bool). a || b) (and_flip (eqb p.1 i) (eqb p.0 j)) (member-turned i j ps)

turned-others : (p : ℕ × ℕ) (ps : List (ℕ × ℕ)) → AllByRecursion (λ q. same p q ≡ false) ps → AllByRecursion (λ q. same (turned_pair p) q ≡ false) (map turned_pair ps)
turned-others p [] h = tt
turned-others p (q ∷ qs) h = (and_flip (eqb p.1 q.1) (eqb p.0 q.0) ∙ h.0, turned-others p qs h.1)

turned-distinct : (ps : List (ℕ × ℕ)) → IsDistinct same ps → IsDistinct same (map turned_pair ps)
unfolding IsDistinct
turned-distinct [] h = tt
turned-distinct (p ∷ ps) h = (turned-others p ps h.0, turned-distinct ps h.1)

-- ---- differing
differs : (p q : ℕ × ℕ) → before p q ≡ true → same p q ≡ false
differs p q h =
    elim (cases_Bool (same p q)) [
      | inl s ↦ absurd (before-irreflexive p (subst (λ (x : ℕ × ℕ). before p x ≡ true) (sym (same-true p q s)) h))
      | inr s ↦ s
    ]

increasing-distinct : (ps : List (ℕ × ℕ)) → IsIncreasing ps → IsDistinct same ps
unfolding IsDistinct
increasing-distinct [] h = tt
increasing-distinct (p ∷ ps) h = (all-weaker _ _ (λ q k. differs p q k) ps h.0, increasing-distinct ps h.1)

same-flip : (p q : ℕ × ℕ) → same p q ≡ same q p
same-flip p q = same_truth (same p q) (same q p) (λ h. ap (λ (x : ℕ × ℕ). same q x) (same-true p q h) ∙ same_itself q) (λ h. ap (λ (x : ℕ × ℕ). same p x) (same-true q p h) ∙ same_itself p)

-- ---- sorted
-- the order of pairs by the first number and then by the second
abbrev pub by_both : ℕ × ℕ → ℕ × ℕ → Ordering
by_both x y = ordering_then (nat_cmp x.0 y.0) (nat_cmp x.1 y.1)

not_before : (a b c d : Bool) → is_lt (ordering_then (cond a Less (cond b Equal Greater)) (cond c Less (cond d Equal Greater))) ≡ false → (a || (b && c)) ≡ false
not_before true b c d h = absurd (true≢false h)
not_before false true true d h = absurd (true≢false h)
not_before false true false d h = refl
not_before false false c d h = refl

sorted-tail : (x : ℕ × ℕ) (xs : List (ℕ × ℕ)) → IsSorted by_both (x ∷ xs) → IsSorted by_both xs
sorted-tail x xs h k d a b =
    subst (λ (n : ℕ). is_lt (by_both (get_or (x ∷ xs) n d) (get_or xs k d)) ≡ false) {x = suc k + 1} {y = suc (k + 1)} (omega arith) (h (suc k) d (omega arith) (omega (arith, b)))

comes_before : (x y : ℕ × ℕ) → before y x ≡ false → same x y ≡ false → before x y ≡ true
comes_before x y h s =
    elim (cases_Bool (before x y)) [
      | inl b ↦ b
      | inr f ↦ absurd (false≢true (sym s ∙ ap (λ (z : ℕ × ℕ). same x z) (sym (before-total x y f h)) ∙ same_itself x))
    ]

increases : (xs : List (ℕ × ℕ)) → IsSorted by_both xs → IsDistinct same xs → IsIncreasing xs
unfolding IsDistinct
increases [] s d = tt
increases (x ∷ []) s d = (tt, tt)
increases (x ∷ (y ∷ zs)) s d =
    let rest : IsIncreasing (y ∷ zs) = increases (y ∷ zs) (sorted-tail x (y ∷ zs) s) d.1 in
    let first : is_lt (by_both y x) ≡ false = subst (λ (n : ℕ). is_lt (by_both (get_or (x ∷ (y ∷ zs)) n x) x) ≡ false) {x = 0 + 1} {y = suc 0} (omega arith) (s 0 x (omega arith) (omega arith)) in
    let here : before x y ≡ true = comes_before x y (not_before (ltb y.0 x.0) (eqb y.0 x.0) (ltb y.1 x.1) (eqb y.1 x.1) first) d.0.0 in
    ((here, before-all x y zs here rest.0), rest)

-- ---- the transposition
has-turned : (r : Relation) → IsRelation r → (i j : ℕ) → has (transpose r) i j ≡ has r j i
unfolding transpose
has-turned r v i j =
    same_truth (has (transpose r) i j) (has r j i)
    (λ h. (let w = has-within (transpose r) (IsRelation-relation_of r.cols r.rows (λ a b. has r b a)) i j h in
    sym (has-relation_of r.cols r.rows (λ a b. has r b a) i j (omega (arith, w.0, rows-relation_of r.cols r.rows (λ a b. has r b a))) (omega (arith, w.1, cols-relation_of r.cols r.rows (λ a b. has r b a)))) ∙ h))
    (λ h. (let w = has-within r v j i h in has-relation_of r.cols r.rows (λ a b. has r b a) i j w.1 w.0 ∙ h))

transpose-valid : (r : Relation) → IsRelation (transpose r)
unfolding transpose
transpose-valid r = IsRelation-relation_of r.cols r.rows (λ a b. has r b a)

permuted : (xs ys : List (ℕ × ℕ)) (q : ℕ × ℕ) → IsPermutation xs ys → member q xs ≡ true → member q ys ≡ true
permuted xs ys q s m =
    all-member (λ z. member z ys ≡ true) xs q
    (recursion_from_All (λ z. member z ys ≡ true) xs (All-permutation (λ z. member z ys ≡ true) ys xs (IsPermutation-sym xs ys s) (All-from_recursion (λ z. member z ys ≡ true) ys (all_members ys)))) m

pub turned_pairs : (r : Relation) (xs ys zs : List (ℕ × ℕ)) → IsRelation r → xs ≡ r.pairs → ys ≡ map turned_pair xs → IsPermutation ys zs → IsSorted by_both zs → zs ≡ (transpose r).pairs
turned_pairs r xs ys zs v e f s o =
    let turned : ys ≡ map turned_pair r.pairs = f ∙ ap (map turned_pair) e in
    let apart : IsDistinct same ys = subst (IsDistinct same) (sym turned) (turned-distinct r.pairs (increasing-distinct r.pairs v.increasing)) in
    let members : (q : ℕ × ℕ) → member q ys ≡ has (transpose r) q.0 q.1 = λ q. ap (member q) turned ∙ member-turned q.0 q.1 r.pairs ∙ sym (has-turned r v q.0 q.1) in
    same_members zs (transpose r).pairs (increases zs o (IsDistinct-IsPermutation same same-flip ys zs s apart)) (transpose-valid r).increasing
    (λ q. same_truth (member q zs) (member q (transpose r).pairs)
    (λ m. sym (members q) ∙ permuted zs ys q (IsPermutation-sym ys zs s) m)
    (λ m. permuted ys zs q s (members q ∙ m)))

-- ---- while pairs are turned
-- the pair behind those that are turned is as it was, and then it is turned too
pub turned_more : (ps xs : List (ℕ × ℕ)) (k : ℕ) (d : ℕ × ℕ) → k < length ps → xs ≡ map turned_pair (take k ps) ++ drop k ps
    → set xs k (turned_pair (get_or xs k d)) ≡ map turned_pair (take (k + 1) ps) ++ drop (k + 1) ps
turned_more ps xs k d l e =
    let x : ℕ × ℕ = get_or ps k d in
    let front : List (ℕ × ℕ) = map turned_pair (take k ps) in
    let back : List (ℕ × ℕ) = drop (suc k) ps in
    let long : length front ≡ k = length-map (take k ps) turned_pair ∙ length-take-le k ps (omega (arith, l)) in
    let more : suc k ≡ k + 1 = omega arith in
    let split : xs ≡ front ++ x ∷ back = e ∙ ap (λ zs. front ++ zs) (drop-cons ps k d l) in
    let read : get_or xs k d ≡ x = ap (λ zs. get_or zs k d) split ∙ ap (λ (n : ℕ). get_or (front ++ x ∷ back) n d) (sym long) ∙ get_or-append_seam front x back d in
    ap (λ zs. set zs k (turned_pair (get_or xs k d))) split
    ∙ ap (λ p. set (front ++ x ∷ back) k (turned_pair p)) read
    ∙ ap (λ (n : ℕ). set (front ++ x ∷ back) n (turned_pair x)) (sym long)
    ∙ set-append_seam front x back (turned_pair x)
    ∙ sym (append_assoc front (turned_pair x ∷ []) back)
    ∙ ap (λ zs. zs ++ back) (sym (map-append turned_pair (take k ps) (x ∷ [])) ∙ ap (map turned_pair) (sym (take-suc ps k d l)))
    ∙ ap (λ (n : ℕ). map turned_pair (take n ps) ++ drop n ps) more
