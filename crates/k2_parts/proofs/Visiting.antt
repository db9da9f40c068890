-- The visits of numbers, as they are noted.
-- 1. A visit only lists numbers behind others, so one that is out of its place stays so (`out_stays`).
-- 2. While all numbers are in order, those below the next one are listed, and so are the quarters of each: a visit of one of
--    them lists no other (`visit-listed`).
-- 3. Any other number is listed behind its quarters, and is the next one or not (`listed`).
use Rattle.std.proofs.Common.{◌≡◌, ◌≢◌, ◌<◌, ◌≤◌, ◌+◌, ◌-◌, ◌||◌, max, cond, eqb, zero, suc, ℕ, Bool, true, false, List, [], ◌∷◌, ◌++◌, length, drop, get_or, Some, None, option_map, refl, sym, ap, subst, ◌∙◌, inl, inr, arith, append_assoc, append-nil}
use Rattle.std.specs.Prelude.{slice_get}
use Rattle.std.specs.List.{list_any, AllByRecursion}
use Rattle.std.proofs.lemmas.Bool.{eq-eqb, ne_eqb, or_from, false≢true}
use Rattle.std.proofs.lemmas.List.{length-map, at_drop_more, at_drop_all}
use Rattle.std.proofs.lemmas.Option.{slice_get-get_or, slice_get-map}
use Rattle.run_model.specs.Files.{file_height}
use Rattle.run_model.specs.SharedFiles.{Quadrant, NamedRoot, quadrant_at, heights_behind, first_bad, is_root, with_number, visit_number, visit_roots, first_out}
use Rattle.run_model.proofs.SharedCells.{IsNumber, quadrant-listed}
use Rattle.run_model.proofs.SharedTable.{one_of_two, table}
use Rattle.run_model.proofs.SharedOrder.{numbers_from}
use Rattle.run_model.proofs.SharedBack.{root_number}
use Rattle.k2_parts.specs.declared.form.Quadrant.{Quadrant as LISTED}
use Rattle.k2_parts.specs.declared.form.NamedRoot.{NamedRoot as NAMED}
use Rattle.k2_parts.specs.declared.visits.Noted.{Noted}
use Rattle.k2_parts.specs.Told.{quadrant_told, quadrants_told, root_told, roots_told, AreSound}
use Rattle.k2_parts.specs.Visits.{IsOutAt, IsNoted, ListsNumber, Visits, AreRooted}
use Rattle.k2_parts.proofs.Sound.{AreBelow, told_at, number_below}
use Rattle.k2_parts.proofs.Reaching.{no_quad}

-- ---- lists that only grow
-- the second list is the first and more
abbrev Grows : List ℕ → List ℕ → Type 0
Grows xs ys = (rest : List ℕ) × (ys ≡ xs ++ rest)

grows_none : (xs : List ℕ) → Grows xs xs
grows_none xs = ([], sym (append-nil xs))

grows_more : (xs ys zs : List ℕ) → Grows xs ys → Grows ys zs → Grows xs zs
grows_more xs ys zs a b = (a.0 ++ b.0, b.1 ∙ (ap (λ l. l ++ b.0) a.1 ∙ append_assoc xs a.0 b.0))

with_grows : (n : ℕ) (xs : List ℕ) → Grows xs (with_number n xs)
with_grows n xs = picked (list_any (λ m. eqb m n) xs)
  where
    picked : (b : Bool) → Grows xs (cond b xs (xs ++ n ∷ []))
    picked true = grows_none xs
    picked false = (n ∷ [], refl)

picked_grows : (xs ys : List ℕ) (b : Bool) → Grows xs ys → Grows xs (cond b xs ys)
picked_grows xs ys true g = grows_none xs
picked_grows xs ys false g = g

module _ (quads : List Quadrant) where
  -- the quarters of a square and then itself
  abbrev visited : ℕ → ℕ → Quadrant → List ℕ → List ℕ
  visited h n q list = with_number n (visit_number quads h q.se (visit_number quads h q.sw (visit_number quads h q.ne (visit_number quads h q.nw list))))

  -- a visit only lists numbers behind those that are listed, by induction on the height: the visits of the quarters do,
  -- and so does the number itself
  visit_grows : (h n : ℕ) (xs : List ℕ) → Grows xs (visit_number quads h n xs)
  visit_grows zero n xs = grows_none xs
  visit_grows (suc h) n xs =
      let q = quadrant_at quads n in
      let a = visit_number quads h q.nw xs in
      let b = visit_number quads h q.ne a in
      let c = visit_number quads h q.sw b in
      let d = visit_number quads h q.se c in
      picked_grows xs (with_number n d) (eqb n 0)
      (grows_more xs a (with_number n d) (visit_grows h q.nw xs)
      (grows_more a b (with_number n d) (visit_grows h q.ne a)
      (grows_more b c (with_number n d) (visit_grows h q.sw b) (grows_more c d (with_number n d) (visit_grows h q.se c) (with_grows n d)))))

  -- a visit of a listed number is one of its quarters and then of itself
  visit-step : (h k : ℕ) (q : Quadrant) → slice_get quads k ≡ Some q → (list : List ℕ) → visit_number quads (suc h) (k + 2) list ≡ visited h (k + 2) q list
  visit-step h k q at list =
      ap (λ z. cond (eqb (k + 2) 0) list (visited h (k + 2) z list)) (quadrant-listed quads k q at)
      ∙ ap (λ b. cond b list (visited h (k + 2) q list)) (ne_eqb (k + 2) 0 (λ e. omega (arith, e)))

  visit-none : (h : ℕ) (list : List ℕ) → visit_number quads h 0 list ≡ list
  visit-none zero list = refl
  visit-none (suc h) list = refl

out_stays : (count m : ℕ) (xs ys : List ℕ) → IsOutAt count m xs → Grows xs ys → IsOutAt count m ys
out_stays count m xs ys out g more =
    ap (first_out 2 count) (ap (λ l. l ++ more) g.1 ∙ append_assoc xs g.0 more) ∙ out (g.0 ++ more)

-- ---- numbers in order
among_numbers : (n d k : ℕ) → d < k → list_any (λ m. eqb m (n + d)) (numbers_from n k) ≡ true
among_numbers n d zero l = absurd (omega (arith, l))
among_numbers n zero (suc k) l = ap (λ b. b || list_any (λ m. eqb m (n + 0)) (numbers_from (n + 1) k)) (eq-eqb n (n + 0) (omega arith))
among_numbers n (suc d) (suc k) l =
    ap (λ b. eqb n (n + suc d) || b) (ap (λ v. list_any (λ m. eqb m v) (numbers_from (n + 1) k)) (later n d) ∙ among_numbers (n + 1) d k (omega (arith, l)))
    ∙ or_true (eqb n (n + suc d))
  where
    later : (n d : ℕ) → n + suc d ≡ (n + 1) + d
    later n d = omega arith

    or_true : (b : Bool) → (b || true) ≡ true
    or_true true = refl
    or_true false = refl

none_among : (v n k : ℕ) → n + k ≤ v → list_any (λ m. eqb m v) (numbers_from n k) ≡ false
none_among v n zero l = refl
none_among v n (suc k) l =
    or_from (eqb n v) (list_any (λ m. eqb m v) (numbers_from (n + 1) k)) (ne_eqb n v (λ e. omega (arith, e, l))) (none_among v (n + 1) k (omega (arith, l)))

numbers_more : (n k : ℕ) → numbers_from n k ++ (n + k) ∷ [] ≡ numbers_from n (suc k)
numbers_more n zero = ap (λ m. m ∷ []) (plus_none n)
  where
    plus_none : (n : ℕ) → n + 0 ≡ n
    plus_none n = omega arith
numbers_more n (suc k) = ap (λ l. n ∷ l) (ap (λ m. numbers_from (n + 1) k ++ m ∷ []) (later n k) ∙ numbers_more (n + 1) k)
  where
    later : (n d : ℕ) → n + suc d ≡ (n + 1) + d
    later n d = omega arith

-- another number behind those in order
out_behind : (n k count v : ℕ) (more : List ℕ) → k < count → v ≢ n + k → first_out n count ((numbers_from n k ++ v ∷ []) ++ more) ≡ Some (n + k)
out_behind n k zero v more l other = absurd (omega (arith, l))
out_behind n zero (suc count) v more l other =
    ap (λ b. cond b (first_out (n + 1) count more) (Some n)) (ne_eqb v n (λ e. other (e ∙ plus_none n))) ∙ ap (λ m. Some m) (plus_none n)
  where
    plus_none : (n : ℕ) → n ≡ n + 0
    plus_none n = omega arith
out_behind n (suc k) (suc count) v more l other =
    ap (λ b. cond b (first_out (n + 1) count ((numbers_from (n + 1) k ++ v ∷ []) ++ more)) (Some n)) (eq-eqb n n refl)
    ∙ (out_behind (n + 1) k count v more (omega (arith, l)) (λ e. other (e ∙ sym (later n k))) ∙ ap (λ m. Some m) (sym (later n k)))
  where
    later : (n d : ℕ) → n + suc d ≡ (n + 1) + d
    later n d = omega arith

-- fewer than all numbers
out_at_end : (n k count : ℕ) → k < count → first_out n count (numbers_from n k) ≡ Some (n + k)
out_at_end n k zero l = absurd (omega (arith, l))
out_at_end n zero (suc count) l = ap (λ m. Some m) (plus_none n)
  where
    plus_none : (n : ℕ) → n ≡ n + 0
    plus_none n = omega arith
out_at_end n (suc k) (suc count) l =
    ap (λ b. cond b (first_out (n + 1) count (numbers_from (n + 1) k)) (Some n)) (eq-eqb n n refl)
    ∙ (out_at_end (n + 1) k count (omega (arith, l)) ∙ ap (λ m. Some m) (sym (later n k)))
  where
    later : (n d : ℕ) → n + suc d ≡ (n + 1) + d
    later n d = omega arith

none_out : (n count : ℕ) → first_out n count (numbers_from n count) ≡ None
none_out n zero = refl
none_out n (suc count) = ap (λ b. cond b (first_out (n + 1) count (numbers_from (n + 1) count)) (Some n)) (eq-eqb n n refl) ∙ none_out (n + 1) count

-- ---- a number behind others
-- none is out
pub listed-next : (number next : ℕ) (old new : Noted) → old.is_out ≡ false → old.next ≡ next → 2 ≤ next → number ≡ next → new.is_out ≡ false → new.next ≡ next + 1 → ListsNumber number old new
listed-next number next old new in_order is low same stays more count list l noted =
    let k : ℕ = next - 2 in
    let two : 2 + k ≡ number = two_less number next low same in
    let before : list ≡ numbers_from 2 k = noted.in_order in_order ∙ ap (λ m. numbers_from 2 (m - 2)) is in
    let missing : list_any (λ m. eqb m number) (numbers_from 2 k) ≡ false = none_among number 2 k (omega (arith, two)) in
    let after : with_number number list ≡ numbers_from 2 (new.next - 2) =
    ap (with_number number) before
    ∙ (ap (λ b. cond b (numbers_from 2 k) (numbers_from 2 k ++ number ∷ [])) missing
    ∙ (ap (λ m. numbers_from 2 k ++ m ∷ []) (sym two) ∙ (numbers_more 2 k ∙ ap (numbers_from 2) (last next new.next low more)))) in
    record { in_order = λ e. after; out_of_order = λ e. absurd (false≢true (sym stays ∙ e)) }
  where
    two_less : (number next : ℕ) → 2 ≤ next → number ≡ next → 2 + (next - 2) ≡ number
    two_less number next l e = omega (arith, l, e)

    last : (next m : ℕ) → 2 ≤ next → m ≡ next + 1 → suc (next - 2) ≡ m - 2
    last next m l e = omega (arith, l, e)

-- where another number than the next one is listed behind those in order, the next one is the first out of its place
pub listed-other : (number : ℕ) (old new : Noted) → old.is_out ≡ false → 2 ≤ old.next → old.next ≤ number → number ≢ old.next → new.is_out ≡ true → new.next ≡ old.next → ListsNumber number old new
listed-other number old new in_order low high other out same count list l noted =
    let k : ℕ = old.next - 2 in
    let two : 2 + k ≡ old.next = omega (arith, low) in
    let before : list ≡ numbers_from 2 k = noted.in_order in_order in
    let missing : list_any (λ m. eqb m number) (numbers_from 2 k) ≡ false = none_among number 2 k (omega (arith, two, high)) in
    let after : with_number number list ≡ numbers_from 2 k ++ number ∷ [] =
    ap (with_number number) before ∙ ap (λ b. cond b (numbers_from 2 k) (numbers_from 2 k ++ number ∷ [])) missing in
    let less : k < count = omega (arith, l, high, other, two) in
    let differs : number ≢ 2 + k = λ e. other (e ∙ two) in
    record {
      in_order = λ e. absurd (false≢true (sym e ∙ out));
      out_of_order = λ e more.
          ap (λ ys. first_out 2 count (ys ++ more)) after
          ∙ (out_behind 2 k count number more less differs ∙ ap (λ m. Some m) (two ∙ sym same));
    }

pub listed-out : (number : ℕ) (old : Noted) → old.is_out ≡ true → ListsNumber number old old
listed-out number old out count list l noted = record {
  in_order = λ e. absurd (false≢true (sym e ∙ out));
  out_of_order = λ e. out_stays count old.next list (with_number number list) (noted.out_of_order e) (with_grows number list);
}

-- ---- visits
-- what is noted over the first roots, and which are left
pub record Over (quads : List Quadrant) (roots : List NamedRoot) (noted : Noted) (left : List NamedRoot) : Type 0 where
  pub list : List ℕ
  pub is_noted : IsNoted (length quads) noted list
  pub goes : visit_roots quads list left ≡ visit_roots quads [] roots
  pub rooted : AreRooted quads left
  pub low : 2 ≤ noted.next
  pub high : noted.next ≤ length quads + 2

module _ (quads : List Quadrant) (none : first_bad 2 [] [] quads ≡ None) where
  -- a visit of a number among those in order leaves them
  visit-listed : (k h n : ℕ) → IsNumber quads h n → n < k + 2 → visit_number quads h n (numbers_from 2 k) ≡ numbers_from 2 k
  visit-listed k zero n is l = refl
  visit-listed k (suc h) n (inl e) l = ap (λ z. visit_number quads (suc h) z (numbers_from 2 k)) e ∙ visit-none quads (suc h) (numbers_from 2 k)
  visit-listed k (suc h) n (inr (j, q, is, at, some, nw, ne, sw, se)) l =
      let xs = numbers_from 2 k in
      let below = (told_at quads none j q at).less in
      let less : (m : ℕ) → m < j + 2 → m < k + 2 = λ m x. omega (arith, x, is, l) in
      let v = visit_number quads h in
      let a = visit-listed k h q.nw nw (less q.nw below.nw) in
      let b = visit-listed k h q.ne ne (less q.ne below.ne) in
      let c = visit-listed k h q.sw sw (less q.sw below.sw) in
      let d = visit-listed k h q.se se (less q.se below.se) in
      let four : v q.se (v q.sw (v q.ne (v q.nw xs))) ≡ xs =
      ap (λ z. v q.se (v q.sw (v q.ne z))) a ∙ (ap (λ z. v q.se (v q.sw z)) b ∙ (ap (v q.se) c ∙ d)) in
      let two : j + 2 ≡ 2 + j = omega arith in
      let there : list_any (λ m. eqb m (j + 2)) xs ≡ true = ap (λ z. list_any (λ m. eqb m z) xs) two ∙ among_numbers 2 j k (omega (arith, is, l)) in
      ap (λ z. v' z) is
      ∙ (visit-step quads h j q at xs
      ∙ (ap (with_number (j + 2)) four ∙ ap (λ b. cond b xs (xs ++ (j + 2) ∷ [])) there))
    where
      v' : ℕ → List ℕ
      v' z = visit_number quads (suc h) z (numbers_from 2 k)

  pub visits-out : (number : ℕ) (old : Noted) → old.is_out ≡ true → Visits quads number old old
  visits-out number old out h list is noted = record {
    in_order = λ e. absurd (false≢true (sym e ∙ out));
    out_of_order = λ e. out_stays (length quads) old.next list (visit_number quads h number list) (noted.out_of_order e) (visit_grows quads h number list);
  }

  pub visits-listed : (number : ℕ) (old : Noted) → old.is_out ≡ false → number < old.next → 2 ≤ old.next → Visits quads number old old
  visits-listed number old in_order l low h list is noted = record {
    in_order = λ e.
        let before = noted.in_order e in
        ap (visit_number quads h number) before ∙ (visit-listed (old.next - 2) h number is (omega (arith, l, low)) ∙ refl);
    out_of_order = λ e. absurd (false≢true (sym in_order ∙ e));
  }

  -- its quarters and then itself
  pub visits-quarters : (number : ℕ) (q : Quadrant) → 2 ≤ number → number < length quads + 2 → slice_get quads (number - 2) ≡ Some q →
      (n0 n1 n2 n3 n4 n5 : Noted) → Visits quads q.nw n0 n1 → Visits quads q.ne n1 n2 → Visits quads q.sw n2 n3 → Visits quads q.se n3 n4 → ListsNumber number n4 n5 →
      Visits quads number n0 n5
  visits-quarters number q low high at n0 n1 n2 n3 n4 n5 nw ne sw se last zero list (inl e) noted = absurd (omega (arith, low, e))
  visits-quarters number q low high at n0 n1 n2 n3 n4 n5 nw ne sw se last zero list (inr e) noted = absurd (omega (arith, low, e))
  visits-quarters number q low high at n0 n1 n2 n3 n4 n5 nw ne sw se last (suc h) list (inl e) noted = absurd (omega (arith, low, e))
  visits-quarters number q low high at n0 n1 n2 n3 n4 n5 nw ne sw se last (suc h) list (inr (k, p, is, there, some, isnw, isne, issw, isse)) noted =
      let place : number - 2 ≡ k = omega (arith, is) in
      let here : slice_get quads k ≡ Some q = ap (slice_get quads) (sym place) ∙ at in
      let same : p ≡ q = one_of_two p q (sym there ∙ here) in
      let c = length quads in
      let v = visit_number quads h in
      let a1 = nw h list (subst (λ z. IsNumber quads h z.nw) same isnw) noted in
      let a2 = ne h (v q.nw list) (subst (λ z. IsNumber quads h z.ne) same isne) a1 in
      let a3 = sw h (v q.ne (v q.nw list)) (subst (λ z. IsNumber quads h z.sw) same issw) a2 in
      let a4 = se h (v q.sw (v q.ne (v q.nw list))) (subst (λ z. IsNumber quads h z.se) same isse) a3 in
      let a5 = last c (v q.se (v q.sw (v q.ne (v q.nw list)))) high a4 in
      subst (IsNoted c n5) (ap (λ z. with_number z (v q.se (v q.sw (v q.ne (v q.nw list))))) is ∙ (sym (visit-step quads h k q here list) ∙ ap (λ z. visit_number quads (suc h) z list) (sym is))) a5

  -- ---- roots
  pub over_none : (roots : List NamedRoot) (noted : Noted) → noted.next ≡ 2 → noted.is_out ≡ false → AreRooted quads roots → Over quads roots noted roots
  over_none roots noted two in_order r = record {
    list = [];
    is_noted = record { in_order = λ e. ap (λ m. numbers_from 2 (m - 2)) (sym two); out_of_order = λ e. absurd (false≢true (sym in_order ∙ e)) };
    goes = refl;
    rooted = r;
    low = (omega (arith, two));
    high = (omega (arith, two));
  }

  is_number : (h n : ℕ) → is_root quads (heights_behind [] quads) h n ≡ true → IsNumber quads h n
  is_number h n is = root_number quads (heights_behind [] quads) (table quads none) h n is

  pub root_within : (roots : List NamedRoot) (noted : Noted) (root : NamedRoot) (left : List NamedRoot) → Over quads roots noted (root ∷ left) → root.root < length quads + 2
  root_within roots noted root left o =
      number_below quads (file_height root.rows root.cols) root.root (is_number (file_height root.rows root.cols) root.root o.rooted.0)

  -- the visit of one more root goes on from the list over those before it, and leaves one root less
  pub over_more : (roots : List NamedRoot) (old new : Noted) (root : NamedRoot) (left : List NamedRoot) → Over quads roots old (root ∷ left) →
      Visits quads root.root old new → old.next ≤ new.next → new.next ≤ max old.next (root.root + 1) → Over quads roots new left
  over_more roots old new root left o visits low high =
      let h = file_height root.rows root.cols in
      let w = root_within roots old root left o in
      let l = o.low in
      let u = o.high in
      record {
        list = visit_number quads h root.root o.list;
        is_noted = visits h o.list (is_number h root.root o.rooted.0) o.is_noted;
        goes = o.goes;
        rooted = o.rooted.1;
        low = (omega (arith, l, low));
        high = (omega (arith, u, w, high));
      }

  -- at the end
  pub over_out : (roots : List NamedRoot) (noted : Noted) → Over quads roots noted [] → noted.is_out ≡ true → Some noted.next ≡ first_out 2 (length quads) (visit_roots quads [] roots)
  over_out roots noted o out = sym (ap (first_out 2 (length quads)) (sym o.goes ∙ sym (append-nil o.list)) ∙ o.is_noted.out_of_order out [])

  pub over_some : (roots : List NamedRoot) (noted : Noted) → Over quads roots noted [] → noted.is_out ≡ false → noted.next ≢ length quads + 2 → Some noted.next ≡ first_out 2 (length quads) (visit_roots quads [] roots)
  over_some roots noted o in_order other =
      let l = o.low in
      let u = o.high in
      let less : noted.next - 2 < length quads = omega (arith, l, u, other) in
      let two : 2 + (noted.next - 2) ≡ noted.next = omega (arith, l) in
      sym (ap (first_out 2 (length quads)) (sym o.goes ∙ o.is_noted.in_order in_order) ∙ (out_at_end 2 (noted.next - 2) (length quads) less ∙ ap (λ m. Some m) two))

  pub over_all : (roots : List NamedRoot) (noted : Noted) → Over quads roots noted [] → noted.is_out ≡ false → noted.next ≡ length quads + 2 → None ≡ first_out 2 (length quads) (visit_roots quads [] roots)
  over_all roots noted o in_order all =
      let less : noted.next - 2 ≡ length quads = omega (arith, all) in
      sym (ap (first_out 2 (length quads)) (sym o.goes ∙ (o.is_noted.in_order in_order ∙ ap (numbers_from 2) less)) ∙ none_out 2 (length quads))

-- ---- of listed quadrants
-- what a visit of a number from 2 on knows
module _ (quads : List LISTED) (none : first_bad 2 [] [] (quadrants_told quads) ≡ None) (number : ℕ) (low : 2 ≤ number) (high : number < length quads + 2) where
  abbrev pub the_quad : LISTED
  the_quad = get_or quads (number - 2) no_quad

  pub told_here : slice_get (quadrants_told quads) (number - 2) ≡ Some (quadrant_told the_quad)
  told_here =
      slice_get-map quadrant_told quads (number - 2) ∙ ap (option_map quadrant_told) (slice_get-get_or quads (number - 2) no_quad (omega (arith, low, high)))

  pub quarters_below : AreBelow number (quadrant_told the_quad)
  quarters_below =
      let two : (number - 2) + 2 ≡ number = omega (arith, low) in
      subst (λ n. AreBelow n (quadrant_told the_quad)) two (told_at (quadrants_told quads) none (number - 2) (quadrant_told the_quad) told_here).less

  pub visits-whole : (n0 n1 n2 n3 n4 n5 : Noted) → Visits (quadrants_told quads) the_quad.nw n0 n1 → Visits (quadrants_told quads) the_quad.ne n1 n2 →
      Visits (quadrants_told quads) the_quad.sw n2 n3 → Visits (quadrants_told quads) the_quad.se n3 n4 → ListsNumber number n4 n5 → Visits (quadrants_told quads) number n0 n5
  visits-whole =
      visits-quarters (quadrants_told quads) none number (quadrant_told the_quad) low (let l = length-map quads quadrant_told in omega (arith, l, high)) told_here

-- ---- of named roots
left-first : (roots : List NAMED) (i : ℕ) (root : NAMED) → i < length roots → root ≡ get_or roots i root → roots_told (drop i roots) ≡ root_told root ∷ roots_told (drop (i + 1) roots)
left-first roots i root l e = at_drop_more roots_told roots i root l ∙ ap (λ r. root_told r ∷ roots_told (drop (i + 1) roots)) (sym e)

module _ (quads : List LISTED) (none : first_bad 2 [] [] (quadrants_told quads) ≡ None) (roots : List NAMED) where
  -- what is noted over so many roots, and the others are left
  abbrev pub OverSome : Noted → ℕ → Type 0
  OverSome noted i = Over (quadrants_told quads) (roots_told roots) noted (roots_told (drop i roots))

  first_left : (noted : Noted) (i : ℕ) (root : NAMED) → OverSome noted i → i < length roots → root ≡ get_or roots i root →
      Over (quadrants_told quads) (roots_told roots) noted (root_told root ∷ roots_told (drop (i + 1) roots))
  first_left noted i root o l e = subst (Over (quadrants_told quads) (roots_told roots) noted) (left-first roots i root l e) o

  pub next_within : (noted : Noted) (i : ℕ) (root : NAMED) → OverSome noted i → i < length roots → root ≡ get_or roots i root → root.root < length quads + 2
  next_within noted i root o l e =
      let w = root_within (quadrants_told quads) none (roots_told roots) noted (root_told root) (roots_told (drop (i + 1) roots)) (first_left noted i root o l e) in
      let n = length-map quads quadrant_told in
      omega (arith, w, n)

  pub one_more : (old new : Noted) (i : ℕ) (root : NAMED) → OverSome old i → i < length roots → root ≡ get_or roots i root →
      Visits (quadrants_told quads) root.root old new → old.next ≤ new.next → new.next ≤ max old.next (root.root + 1) → OverSome new (i + 1)
  one_more old new i root o l e =
      over_more (quadrants_told quads) none (roots_told roots) old new (root_told root) (roots_told (drop (i + 1) roots)) (first_left old i root o l e)

  at_end : (noted : Noted) (i : ℕ) → OverSome noted i → length roots ≤ i → Over (quadrants_told quads) (roots_told roots) noted []
  at_end noted i o l = subst (Over (quadrants_told quads) (roots_told roots) noted) (at_drop_all roots_told roots i l) o

  pub told_out : (noted : Noted) (i : ℕ) → OverSome noted i → length roots ≤ i → noted.is_out ≡ true → Some noted.next ≡ first_out 2 (length quads) (visit_roots (quadrants_told quads) [] (roots_told roots))
  told_out noted i o l out =
      over_out (quadrants_told quads) none (roots_told roots) noted (at_end noted i o l) out
      ∙ ap (λ n. first_out 2 n (visit_roots (quadrants_told quads) [] (roots_told roots))) (length-map quads quadrant_told)

  pub told_some : (noted : Noted) (i : ℕ) → OverSome noted i → length roots ≤ i → noted.is_out ≡ false → noted.next ≢ length quads + 2 →
      Some noted.next ≡ first_out 2 (length quads) (visit_roots (quadrants_told quads) [] (roots_told roots))
  told_some noted i o l in_order other =
      over_some (quadrants_told quads) none (roots_told roots) noted (at_end noted i o l) in_order (λ e. other (e ∙ ap (λ n. n + 2) (length-map quads quadrant_told)))
      ∙ ap (λ n. first_out 2 n (visit_roots (quadrants_told quads) [] (roots_told roots))) (length-map quads quadrant_told)

  pub told_all : (noted : Noted) (i : ℕ) → OverSome noted i → length roots ≤ i → noted.is_out ≡ false → noted.next ≡ length quads + 2 →
      None ≡ first_out 2 (length quads) (visit_roots (quadrants_told quads) [] (roots_told roots))
  told_all noted i o l in_order all =
      over_all (quadrants_told quads) none (roots_told roots) noted (at_end noted i o l) in_order (all ∙ ap (λ n. n + 2) (sym (length-map quads quadrant_told)))
      ∙ ap (λ n. first_out 2 n (visit_roots (quadrants_told quads) [] (roots_told roots))) (length-map quads quadrant_told)

-- roots of these heights
pub rooted_from : (quads : List LISTED) (heights : List ℕ) (roots : List NamedRoot) → AreSound quads heights →
    AllByRecursion (λ r. is_root (quadrants_told quads) heights (file_height r.rows r.cols) r.root ≡ true) roots → AreRooted (quadrants_told quads) roots
rooted_from quads heights roots s all =
    subst (λ hs. AllByRecursion (λ r. is_root (quadrants_told quads) hs (file_height r.rows r.cols) r.root ≡ true) roots) s.heights_are all
