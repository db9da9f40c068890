-- The pairs of lines, listed line by line.
-- 1. The places of one line, each with the number of the line before it, are the cells of that row (`line_adds`).
-- 2. So after each line the cells of all lines so far are listed, by line and then by place (`adds_line`).
-- 3. After the last line these are the pairs of the relation whose rows are the lines (`laid_listed`).
use Rattle.std.proofs.Common.{◌≡◌, ◌<◌, ◌≤◌, ◌+◌, ◌∙◌, ◌++◌, ◌&&◌, ◌||◌, eqb, ltb, ℕ, zero, suc, Bool, true, false, List, [], ◌∷◌, map, length, take, drop, get_or, refl, sym, ap, ap₂, subst, arith, inl, inr}
use Rattle.std.proofs.Math.Seq.{take-suc}
use Rattle.std.proofs.Math.ListN.{drop_of_length-le}
use Rattle.std.proofs.lemmas.List.{append_assoc, append-nil, map-append, take_all}
use Rattle.std.proofs.lemmas.Bool.{and_parts, and_from, or_cases, or_right, eqb-true, eq-eqb, ltb-true, lt-ltb, cases_eq}
use Rattle.std.specs.List.{AllByRecursion}
use Rattle.rel_model.specs.Relation.{Relation, IsRelation, IsIncreasing, before, has, relation_of}
use Rattle.rel_model.specs.Cells.{Cells}
use Rattle.rel_model.specs.Algebra.{HasType}
use Rattle.rel_model.specs.Operators.{transpose}
use Rattle.rel_model.specs.Worker.{Worker, Keeps, MakesAtMost, MissesNothing}
use Rattle.rel_model.proofs.Pairs.{same, member, same_itself, before-true}
use Rattle.rel_model.proofs.Grid.{all-weaker}
use Rattle.rel_model.proofs.Relations.{IsRelation-relation_of, rows-relation_of, cols-relation_of, has-relation_of}
use Rattle.rel_model.proofs.Somes.{same_truth}
use Rattle.rel_model.proofs.Workers.{keeps_itself, keeps_trans}
use Rattle.rel_choice.specs.Counts.{sum_below}
use Rattle.rel_choice.proofs.Standing.{has-within}
use Rattle.rel_listing.specs.Lists.{Adds}
use Rattle.rel_listing.proofs.Lists.{adds_none, adds_on, adds_same, listed}
use Rattle.rel_slices.specs.declared.thin.Thin.{Thin}
use Rattle.rel_slices.specs.Thin.{laid, line_set, thin_of}
use Rattle.rel_slices.proofs.Laying.{laid_transposed}
use Rattle.rel_values.proofs.LineCounts.{count-laid}

-- ---- members
all_both : (P Q : ℕ × ℕ → Type 0) (ps : List (ℕ × ℕ)) → AllByRecursion P ps → AllByRecursion Q ps → AllByRecursion (λ p. P p × Q p) ps
all_both P Q [] h k = tt
all_both P Q (p ∷ ps) h k = ((h.0, k.0), all_both P Q ps h.1 k.1)

all_members_of : (xs ys : List (ℕ × ℕ)) → ((q : ℕ × ℕ) → member q ys ≡ true → member q xs ≡ true) → AllByRecursion (λ p. member p xs ≡ true) ys
all_members_of xs [] h = tt
all_members_of xs (y ∷ ys) h = (
  h y (ap (λ t. t || member y ys) (same_itself y)),
  all_members_of xs ys (λ q m. h q (or_right (same y q) (member q ys) m)),
)

-- each pair is a member of its own list
pub all_members : (xs : List (ℕ × ℕ)) → AllByRecursion (λ p. member p xs ≡ true) xs
all_members xs = all_members_of xs xs (λ q m. m)

-- ---- one line
-- the places of a line, with its number i
abbrev pub numbered : ℕ → List (ℕ × ℕ) → List (ℕ × ℕ)
numbered i ps = map (λ p. (i, p.1)) ps

numbered-all : (i : ℕ) (P : ℕ × ℕ → Type 0) (ps : List (ℕ × ℕ)) → AllByRecursion (λ p. P (i, p.1)) ps → AllByRecursion P (numbered i ps)
numbered-all i P [] h = tt
numbered-all i P (p ∷ ps) h = (h.0, numbered-all i P ps h.1)

later : (i : ℕ) (p q : ℕ × ℕ) → p.0 ≡ 0 → q.0 ≡ 0 → before p q ≡ true → before (i, p.1) (i, q.1) ≡ true
later i p q a b h =
    elim (before-true p q h) [
      | inl l ↦ absurd (omega (arith, l, a, b))
      | inr l ↦ or_right (ltb i i) _ (and_from _ _ (eq-eqb i i refl) (lt-ltb p.1 q.1 l.1))
    ]

numbered-increasing : (i : ℕ) (ps : List (ℕ × ℕ)) → AllByRecursion (λ p. p.0 ≡ 0) ps → IsIncreasing ps → IsIncreasing (numbered i ps)
numbered-increasing i [] z h = tt
numbered-increasing i (p ∷ ps) z h = (
  numbered-all i (λ q. before (i, p.1) q ≡ true) ps (all-weaker _ _ (λ q k. later i p q z.0 k.0 k.1) ps (all_both _ _ ps z.1 h.0)),
  numbered-increasing i ps z.1 h.1,
)

numbered-member : (i j : ℕ) (ps : List (ℕ × ℕ)) → AllByRecursion (λ p. p.0 ≡ 0) ps → member (i, j) (numbered i ps) ≡ member (0, j) ps
numbered-member i j [] z = refl
numbered-member i j (p ∷ ps) z =
    ap₂ (λ (a b : Bool). (a && eqb p.1 j) || b) (eq-eqb i i refl ∙ sym (eq-eqb p.0 0 z.0)) (numbered-member i j ps z.1)

-- the cells of row i
line_adds : (i n : ℕ) (r : Relation) (xs : List (ℕ × ℕ)) → HasType 1 n r → Adds (λ a b. eqb a i && has r 0 b) xs (xs ++ numbered i r.pairs)
line_adds i n r xs t =
    let first : AllByRecursion (λ p. p.0 ≡ 0) r.pairs = all-weaker _ _ (λ p h. omega (arith, h.0, t.row_size)) r.pairs t.valid.within in
    record {
      more = numbered i r.pairs;
      items = refl;
      increasing = numbered-increasing i r.pairs first t.valid.increasing;
      sound = numbered-all i _ r.pairs (all-weaker _ _ (λ p h. and_from (eqb i i) (has r 0 p.1) (eq-eqb i i refl) (subst (λ (a : ℕ). has r a p.1 ≡ true) h.0 h.1)) r.pairs (all_both _ _ r.pairs first (all_members r.pairs)));
      whole = λ a b h. (let k = and_parts (eqb a i) (has r 0 b) h in
          ap (λ (x : ℕ). member (x, b) (numbered i r.pairs)) (eqb-true a i k.0) ∙ numbered-member i b r.pairs first ∙ k.1);
    }

-- ---- the lines so far
-- the cells of the first i lines
abbrev pub up_to : (ℕ → Relation) → ℕ → Cells
up_to line i a b = ltb a i && has (line a) 0 b

one_row_more : (line : ℕ → Relation) (i a b : ℕ) → (up_to line i a b || (eqb a i && has (line i) 0 b)) ≡ true → up_to line (i + 1) a b ≡ true
one_row_more line i a b h =
    elim (or_cases (up_to line i a b) (eqb a i && has (line i) 0 b) h) [
      | inl l ↦ (let k = and_parts (ltb a i) (has (line a) 0 b) l in let s = ltb-true a i k.0 in
          and_from (ltb a (i + 1)) (has (line a) 0 b) (lt-ltb a (i + 1) (omega (arith, s))) k.1)
      | inr l ↦ (let k = and_parts (eqb a i) (has (line i) 0 b) l in let e = eqb-true a i k.0 in
          and_from (ltb a (i + 1)) (has (line a) 0 b) (lt-ltb a (i + 1) (omega (arith, e))) (ap (λ (x : ℕ). has (line x) 0 b) e ∙ k.1))
    ]

no_row_else : (line : ℕ → Relation) (i a b : ℕ) → up_to line (i + 1) a b ≡ true → (up_to line i a b || (eqb a i && has (line i) 0 b)) ≡ true
no_row_else line i a b h =
    let k = and_parts (ltb a (i + 1)) (has (line a) 0 b) h in
    let s = ltb-true a (i + 1) k.0 in
    elim (cases_eq a i) [
      | inl e ↦ or_right (up_to line i a b) _ (and_from (eqb a i) (has (line i) 0 b) (eq-eqb a i e) (ap (λ (x : ℕ). has (line x) 0 b) (sym e) ∙ k.1))
      | inr n ↦ ap (λ t. t || (eqb a i && has (line i) 0 b)) (and_from (ltb a i) (has (line a) 0 b) (lt-ltb a i (omega (arith, s, n))) k.1)
    ]

-- one line more
adds_line : (line : ℕ → Relation) (i n : ℕ) (xs ys zs : List (ℕ × ℕ)) → HasType 1 n (line i) → zs ≡ ys ++ numbered i (line i).pairs → Adds (up_to line i) xs ys → Adds (up_to line (i + 1)) xs zs
adds_line line i n xs ys zs t e s =
    subst (λ (w : List (ℕ × ℕ)). Adds (up_to line (i + 1)) xs w) (sym e)
    (adds_same (one_row_more line i) (no_row_else line i)
    (adds_on s (line_adds i n (line i) ys t)
    (λ a b k l h g. (let p = ltb-true a i (and_parts (ltb a i) (has (line a) 0 b) h).0 in let q = eqb-true k i (and_parts (eqb k i) (has (line i) 0 l) g).0 in
    ap (λ u. u || (eqb a k && ltb b l)) (lt-ltb a k (omega (arith, p, q)))))))

-- ---- all lines
all_rows : (n other : ℕ) (line : ℕ → Relation) → ((i : ℕ) → i < n → HasType 1 other (line i)) → (i j : ℕ)
    → up_to line n i j ≡ has (relation_of n other (λ a b. has (line a) 0 b)) i j
all_rows n other line h i j =
    same_truth (up_to line n i j) (has (relation_of n other (λ a b. has (line a) 0 b)) i j)
    (λ u. (let k = and_parts (ltb i n) (has (line i) 0 j) u in
    let l : i < n = ltb-true i n k.0 in
    let t = h i l in
    let w = has-within (line i) t.valid 0 j k.1 in
    has-relation_of n other (λ a b. has (line a) 0 b) i j l (omega (arith, w.1, t.col_size)) ∙ k.1))
    (λ u. (let w = has-within (relation_of n other (λ a b. has (line a) 0 b)) (IsRelation-relation_of n other (λ a b. has (line a) 0 b)) i j u in
    let l : i < n = omega (arith, w.0, rows-relation_of n other (λ a b. has (line a) 0 b)) in
    let k : j < other = omega (arith, w.1, cols-relation_of n other (λ a b. has (line a) 0 b)) in
    and_from (ltb i n) (has (line i) 0 j) (lt-ltb i n l) (sym (has-relation_of n other (λ a b. has (line a) 0 b) i j l k) ∙ u)))

pub laid_listed : (n other : ℕ) (line : ℕ → Relation) (xs : List (ℕ × ℕ)) → ((i : ℕ) → i < n → HasType 1 other (line i)) → Adds (up_to line n) [] xs → xs ≡ (laid false n other line).pairs
unfolding laid
laid_listed n other line xs h s = listed (relation_of n other (λ i j. has (line i) 0 j)) [] xs (IsRelation-relation_of n other _) refl (all_rows n other line h) s

-- ---- a pair of a line is a pair of all
sum_below-part : (n : ℕ) (g : ℕ → ℕ) (i : ℕ) → i < n → g i ≤ sum_below n g
sum_below-part zero g i l = absurd (omega (arith, l))
sum_below-part (suc n) g i l =
    elim (cases_eq i n) [
      | inl e ↦ (let same : g i ≡ g n = ap g e in omega (arith, same))
      | inr k ↦ (let part = sum_below-part n g i (omega (arith, l, k)) in omega (arith, part))
    ]

pub some_laid : (turned : Bool) (n other : ℕ) (line : ℕ → Relation) (i : ℕ) → ((k : ℕ) → k < n → HasType 1 other (line k)) → i < n → 0 < length (line i).pairs → 0 < length (laid turned n other line).pairs
some_laid turned n other line i h l s =
    let all : length (laid turned n other line).pairs ≡ sum_below n (λ k. length (line k).pairs) = count-laid turned n other line h in
    let part : length (line i).pairs ≤ sum_below n (λ k. length (line k).pairs) = sum_below-part n (λ k. length (line k).pairs) i l in
    omega (arith, all, part, s)

-- as many by rows as by columns
pub laid_as_many : (turned : Bool) (n other : ℕ) (line : ℕ → Relation) → ((k : ℕ) → k < n → HasType 1 other (line k)) → length (laid turned n other line).pairs ≡ length (laid false n other line).pairs
laid_as_many turned n other line h = count-laid turned n other line h ∙ sym (count-laid false n other line h)

-- ---- while lines are listed
-- the first lines are listed, and nothing else has changed
pub record Listing (old now : Worker) (s : Thin) (i : ℕ) (xs : List (ℕ × ℕ)) : Type 0 where
  pub adds : Adds (up_to (line_set old s) i) [] xs
  pub keeps : Keeps old now
  pub room : MakesAtMost 0 old now
  pub misses : MissesNothing old now

pub listing_none : (w : Worker) (s : Thin) (xs : List (ℕ × ℕ)) → xs ≡ [] → Listing w w s 0 xs
listing_none w s xs e = record {
  adds = subst (λ (ys : List (ℕ × ℕ)). Adds (up_to (line_set w s) 0) [] ys) (sym e)
      (adds_none {f = up_to (line_set w s) 0} [] (λ i j h. (let l = ltb-true i 0 (and_parts (ltb i 0) (has (line_set w s i) 0 j) h).0 in omega (arith, l))));
  keeps = keeps_itself w;
  room = omega arith;
  misses = refl;
}

pub listing_more : (old now next : Worker) (s : Thin) (i : ℕ) (xs ps ys : List (ℕ × ℕ)) → Listing old now s i xs → HasType 1 s.other (line_set old s i) → ps ≡ (line_set old s i).pairs → ys ≡ xs ++ numbered i ps
    → Keeps now next → MakesAtMost 0 now next → MissesNothing now next → Listing old next s (i + 1) ys
listing_more old now next s i xs ps ys h t p e k r m = record {
  adds = adds_line (line_set old s) i s.other [] xs ys t (e ∙ ap (λ (qs : List (ℕ × ℕ)). xs ++ numbered i qs) p) h.adds;
  keeps = keeps_trans old now next h.keeps k;
  room = (let made = h.room in omega (arith, made, r));
  misses = m ∙ h.misses;
}

-- ---- one place more
pub numbered-more : (i : ℕ) (ps xs ys : List (ℕ × ℕ)) (k : ℕ) (d : ℕ × ℕ) → k < length ps → ys ≡ (xs ++ numbered i (take k ps)) ++ (i, (get_or ps k d).1) ∷ [] → ys ≡ xs ++ numbered i (take (k + 1) ps)
numbered-more i ps xs ys k d l e =
    let more : suc k ≡ k + 1 = omega arith in
    e ∙ append_assoc xs (numbered i (take k ps)) ((i, (get_or ps k d).1) ∷ [])
    ∙ ap (λ zs. xs ++ zs) (sym (map-append (λ (p : ℕ × ℕ). (i, p.1)) (take k ps) (get_or ps k d ∷ [])) ∙ ap (numbered i) (sym (take-suc ps k d l)))
    ∙ ap (λ (n : ℕ). xs ++ numbered i (take n ps)) more

-- ---- either way
pub laid_valid : (n other : ℕ) (line : ℕ → Relation) → IsRelation (laid false n other line)
unfolding laid
laid_valid n other line = IsRelation-relation_of n other (λ i j. has (line i) 0 j)

-- lines that are rows are in order already
pub straight_list : (w : Worker) (s : Thin) (xs : List (ℕ × ℕ)) → s.turned ≡ false → xs ≡ (laid false s.count s.other (line_set w s)).pairs → xs ≡ (thin_of w s).pairs
straight_list w s xs e h = h ∙ ap (λ (t : Bool). (laid t s.count s.other (line_set w s)).pairs) (sym e)

-- lines that are columns are those of the transposition
pub turned_list : (w : Worker) (s : Thin) (xs : List (ℕ × ℕ)) → s.turned ≡ true → xs ≡ (transpose (laid false s.count s.other (line_set w s))).pairs → xs ≡ (thin_of w s).pairs
turned_list w s xs e h =
    h ∙ ap (λ (r : Relation). r.pairs) (laid_transposed false s.count s.other (line_set w s)) ∙ ap (λ (t : Bool). (laid t s.count s.other (line_set w s)).pairs) (sym e)

-- a list that is written over by one as long
pub written_over : (n : ℕ) (xs ys : List (ℕ × ℕ)) → length ys ≡ length xs → length xs ≤ n → take n (ys ++ drop (length ys) xs) ≡ ys
written_over n xs ys e l =
    ap (λ zs. take n (ys ++ zs)) (drop_of_length-le xs (omega (arith, e))) ∙ ap (take n) (append-nil ys) ∙ take_all n ys (omega (arith, e, l))
