-- Univalence by lines.
-- 1. That row i of a relation has two pairs is a test on its elements (`twice`), the same for rows that are laid.
-- 2. Of columns, an element of a row with an earlier one beside it is two columns that meet there.
-- 3. Lines are tried one after the other, until one passes (`Tried`, `tried_more`, `found_one`).
use Rattle.std.proofs.Common.{◌≡◌, ◌<◌, ◌&&◌, ◌||◌, ◌+◌, ◌∙◌, not, suc, ℕ, Bool, true, false, refl, sym, ap, arith}
use Rattle.std.proofs.lemmas.Bool.{and_parts, and_from, true≢false}
use Rattle.std.specs.Prelude.{◌↔◌}
use Rattle.rel_model.specs.declared.Rel.{Rel}
use Rattle.rel_model.specs.Operators.{inter, empty}
use Rattle.rel_model.specs.Worker.{Worker, set_of, Keeps, MakesAtMost, MissesNothing}
use Rattle.rel_model.specs.Relation.{Relation, has}
use Rattle.rel_model.specs.Cells.{some_below}
use Rattle.rel_model.specs.Algebra.{HasType}
use Rattle.rel_model.specs.Choice.{is_unival}
use Rattle.rel_model.proofs.Workers.{keeps_itself, keeps_trans}
use Rattle.rel_model.proofs.Somes.{same_truth, some_agree, some_from, some_passes}
use Rattle.rel_slices.specs.declared.thin.Thin.{Thin}
use Rattle.rel_slices.specs.Thin.{laid, line_set, ThinStands}
use Rattle.rel_slices.specs.Ops.{meet}
use Rattle.rel_slices.proofs.Putting.{line_later}
use Rattle.rel_slices.proofs.Laying.{type-laid, apart_lines, meeting_lines}
use Rattle.rel_slices.proofs.Products.{has-rows, has-columns}

-- whether row i has two pairs
abbrev twice : ℕ → Relation → ℕ → Bool
twice n r i = some_below n (λ j. has r i j && some_below j (has r i))

unival_by : (m n : ℕ) (r : Relation) → r.rows ≡ m → r.cols ≡ n → is_unival r ≡ not (some_below m (twice n r))
unfolding is_unival
unival_by m n r e f = ap (λ (x : ℕ). not (some_below x (twice r.cols r))) e ∙ ap (λ (x : ℕ). not (some_below m (twice x r))) f

twice_agree : (n : ℕ) (r s : Relation) (i k : ℕ) → ((j : ℕ) → j < n → has r i j ≡ has s k j) → twice n r i ≡ twice n s k
twice_agree n r s i k h = some_agree n (λ j. has r i j && some_below j (has r i)) (λ j. has s k j && some_below j (has s k)) (λ j l.
    ap (λ (x : Bool). x && some_below j (has r i)) (h j l) ∙ ap (λ (x : Bool). has s k j && x) (some_agree j (has r i) (has s k) (λ t u. h t (omega (arith, l, u)))))

or_false : (a : Bool) → (a || false) ≡ a
or_false true = refl
or_false false = refl

not_not : (a : Bool) → not (not a) ≡ a
not_not true = refl
not_not false = refl

-- a line has two elements where it is not univalent
line_twice : (o : ℕ) (f : Relation) → HasType 1 o f → not (is_unival f) ≡ twice o f 0
line_twice o f t = ap not (unival_by 1 o f t.row_size t.col_size) ∙ not_not (some_below 1 (twice o f)) ∙ or_false (twice o f 0)

pub rows_univalent : (c o : ℕ) (f : ℕ → Relation) → ((i : ℕ) → i < c → HasType 1 o (f i)) → is_unival (laid false c o f) ≡ not (some_below c (λ i. not (is_unival (f i))))
rows_univalent c o f t =
    let y = type-laid false c o f in
    unival_by c o (laid false c o f) y.row_size y.col_size
    ∙ ap not (some_agree c (twice o (laid false c o f)) (λ i. not (is_unival (f i))) (λ i l. twice_agree o (laid false c o f) (f i) i 0 (λ j m. has-rows c o f i j l m) ∙ sym (line_twice o (f i) (t i l))))

-- columns are univalent exactly if no two of them meet: two elements in a row of the relation are an element that two
-- columns share
pub columns_univalent : (c o : ℕ) (f : ℕ → Relation) → is_unival (laid true c o f) ≡ not (some_below c (λ j. some_below j (λ k. meet o (f k) (f j))))
columns_univalent c o f =
    let r : Relation = laid true c o f in
    let y = type-laid true c o f in
    unival_by o c r y.row_size y.col_size
    ∙ ap not (same_truth (some_below o (twice c r)) (some_below c (λ j. some_below j (λ k. meet o (f k) (f j))))
    (λ h. let p = some_passes o (twice c r) h in
    let q = some_passes c (λ j. has r p.at j && some_below j (has r p.at)) p.passes in
    let a = and_parts (has r p.at q.at) (some_below q.at (has r p.at)) q.passes in
    let s = some_passes q.at (has r p.at) a.1 in
    let lq = q.within in
    let ls = s.within in
    some_from c (λ j. some_below j (λ k. meet o (f k) (f j))) q.at q.within
    (some_from q.at (λ k. meet o (f k) (f q.at)) s.at s.within
    (some_from o (λ x. has (f s.at) 0 x && has (f q.at) 0 x) p.at p.within
    (and_from _ _ (sym (has-columns c o f p.at s.at p.within (omega (arith, lq, ls))) ∙ s.passes) (sym (has-columns c o f p.at q.at p.within q.within) ∙ a.0)))))
    (λ h. let q = some_passes c (λ j. some_below j (λ k. meet o (f k) (f j))) h in
    let s = some_passes q.at (λ k. meet o (f k) (f q.at)) q.passes in
    let p = some_passes o (λ x. has (f s.at) 0 x && has (f q.at) 0 x) s.passes in
    let a = and_parts (has (f s.at) 0 p.at) (has (f q.at) 0 p.at) p.passes in
    let lq = q.within in
    let ls = s.within in
    some_from o (twice c r) p.at p.within
    (some_from c (λ j. has r p.at j && some_below j (has r p.at)) q.at q.within
    (and_from _ _ (has-columns c o f p.at q.at p.within q.within ∙ a.1)
    (some_from q.at (has r p.at) s.at s.within (has-columns c o f p.at s.at p.within (omega (arith, lq, ls)) ∙ a.0))))))

-- ---- lines that are tried one after the other
-- whether lines j and k meet
abbrev pub lines_meet : Worker → Thin → ℕ → ℕ → Bool
lines_meet w s j k = meet s.other (line_set w s k) (line_set w s j)

-- of a worker later on, no others do
pub lines_meet-later : (u v : Worker) (s : Thin) (j k : ℕ) → Keeps u v → ThinStands u s → j < s.count → k < s.count → lines_meet v s j k ≡ lines_meet u s j k
lines_meet-later u v s j k h t l m =
    ap (λ (x : Relation). meet s.other x (line_set v s j)) (line_later u v s h t k m) ∙ ap (meet s.other (line_set u s k)) (line_later u v s h t j l)

-- the first i numbers fail the test, and nothing else has changed
pub record Tried (old now : Worker) (test : ℕ → Bool) (i : ℕ) : Type 0 where
  pub none : some_below i test ≡ false
  pub keeps : Keeps old now
  pub room : MakesAtMost 0 old now
  pub misses : MissesNothing old now

pub tried_none : (w : Worker) (test : ℕ → Bool) → Tried w w test 0
tried_none w test = record { none = refl; keeps = keeps_itself w; room = omega arith; misses = refl }

pub tried_more : (old now next : Worker) (test : ℕ → Bool) (i : ℕ) → Tried old now test i → test i ≡ false → Keeps now next → MakesAtMost 0 now next → MissesNothing now next → Tried old next test (i + 1)
tried_more old now next test i t f k r m = record {
  none = ap (λ (x : ℕ). some_below x test) (let z : i + 1 ≡ suc i = omega arith in z) ∙ ap (λ (x : Bool). x || some_below i test) f ∙ t.none;
  keeps = keeps_trans old now next t.keeps k;
  room = (let a = t.room in omega (arith, a, r));
  misses = m ∙ t.misses;
}

pub found_one : (n : ℕ) (t : ℕ → Bool) (k : ℕ) → k < n → t k ≡ true → false ≡ not (some_below n t)
found_one n t k l h = sym (ap not (some_from n t k l h))

-- whether two lines meet, by the answer of a worker
pub meets_is : (w : Worker) (n : ℕ) (r s : Rel) (t : Bool) → HasType 1 n (set_of w r) → r.rows ≡ 1 → r.cols ≡ n → ((t ≡ false) ↔ (inter (set_of w r) (set_of w s) ≡ empty r.rows r.cols)) → meet n (set_of w r) (set_of w s) ≡ t
meets_is w n r s true t e f h = meeting_lines n (set_of w r) (set_of w s) t (λ a. true≢false (h.1 (a ∙ sym (ap (λ (x : ℕ). empty x r.cols) e ∙ ap (empty 1) f))))
meets_is w n r s false t e f h = apart_lines n (set_of w r) (set_of w s) t (h.0 refl ∙ ap (λ (x : ℕ). empty x r.cols) e ∙ ap (empty 1) f)

-- of a test that answers the opposite
pub opposite : (s t : Bool) → t ≡ not s → s ≡ not t
opposite s t a = sym (not_not s) ∙ ap not (sym a)
