-- What a worker keeps of values, and values from what stands.
-- 1. A value goes on standing with the same meaning where all that stood does (`value_stays`, `value_same`).
-- 2. Lines that were given are a value of their sizes (`lines_value`), and so is what stands whole (`whole_value`).
-- 3. A derivation is a chain of such values, each recast in the words of the definition (`right_set` and its kin).
-- 4. The form of the sizes says how two values of one type are cut (`alike`), and what may follow what in a composition.
use Rattle.std.proofs.Common.{◌≡◌, ◌<◌, ◌≤◌, ◌&&◌, ◌∙◌, cond, not, ℕ, Bool, true, false, Result, IfOk, refl, sym, ap, subst, arith}
use Rattle.std.specs.Prelude.{Ok, Err}
use Rattle.rel_model.specs.declared.Lack.{Lack}
use Rattle.rel_model.specs.declared.Rel.{Rel}
use Rattle.rel_model.specs.Relation.{Relation, IsRelation, relation_of, has}
use Rattle.rel_model.specs.Algebra.{HasType}
use Rattle.rel_model.specs.Operators.{empty, full, diff, inter, complement, transpose, compose, right_residual, left_residual, symmetric_quotient}
use Rattle.rel_model.specs.Worker.{Worker, Stands, set_of, Gives, Keeps}
use Rattle.rel_model.proofs.Workers.{gives_set, gives_stands, keeps_set, keeps_stands, keeps_trans}
use Rattle.rel_model.proofs.AlgebraLaws.{residual_laws, quotient_by_residuals}
use Rattle.rel_model.proofs.Relations.{relation_of-agree, has-relation_of}
use Rattle.rel_slices.specs.declared.thin.Thin.{Thin}
use Rattle.rel_slices.specs.declared.thin.Value.{Value}
use Rattle.rel_slices.specs.declared.thin.Value.TheVariants.{Whole, Lines}
use Rattle.rel_slices.specs.Thin.{most_lines, line_of, line_set, laid, thin_of, thin_rows, thin_cols, ThinStands, GivesLines, GivesRowsOf, GivesThin, ValueStands, value_of, value_rows, value_cols, GivesValue}
use Rattle.rel_slices.proofs.Putting.{thin_later, line_later, lines_stand, lines_sets}
use Rattle.rel_model.specs.Cells.{some_below}
use Rattle.rel_model.specs.Choice.{row_has, dom, ran}
use Rattle.rel_model.proofs.Somes.{some_agree}
use Rattle.rel_model.proofs.Members.{type-test, type-compose}
use Rattle.rel_model.proofs.OperatorLaws.{diff-full, relation_of-sizes, transpose-transpose}
use Rattle.rel_slices.specs.declared.lines.Boole.{Boole}
use Rattle.rel_slices.specs.declared.lines.Boole.TheVariants.{Diff}
use Rattle.rel_slices.specs.Ops.{boole_of}
use Rattle.rel_slices.proofs.Laying.{is_test, has-compose, type-laid, laid_agree, laid_boole, laid_transposed}
use Rattle.rel_slices.proofs.Products.{has-rows, has-columns}

-- ---- later
pub value_stays : (u v : Worker) (x : Value) → Keeps u v → ValueStands u x → ValueStands v x
value_stays u v (Whole r) k s = keeps_stands u v r k s
value_stays u v (Lines s) k h = thin_later u v s k h

pub value_same : (u v : Worker) (x : Value) → Keeps u v → ValueStands u x → value_of v x ≡ value_of u x
value_same u v (Whole r) k s = keeps_set u v r k s
value_same u v (Lines s) k h = laid_agree s.turned s.count s.other (line_set v s) (line_set u s) (λ i l. line_later u v s k h i l)

-- ---- from what stands
pub whole_value : (w : Worker) (m n : ℕ) (set : Relation) (r : Rel) → Gives w m n set r → GivesValue w m n set (Whole r)
whole_value w m n set r g = record { stands = gives_stands w m n set r g; means = gives_set w m n set r g; row_size = g.row_size; col_size = g.col_size }

pub lines_value : (w : Worker) (turned : Bool) (count other : ℕ) (line : ℕ → Relation) (s : Thin) → GivesLines w turned count other line s
    → GivesValue w (cond turned other count) (cond turned count other) (laid turned count other line) (Lines s)
lines_value w turned count other line s g = record {
  stands = lines_stand w turned count other line s g;
  means = ap (λ (x : Bool). laid x s.count s.other (line_set w s)) g.turned_is ∙ ap (λ (x : ℕ). laid turned x s.other (line_set w s)) g.count_is ∙ ap (λ (x : ℕ). laid turned count x (line_set w s)) g.other_is
      ∙ laid_agree turned count other (line_set w s) line (λ i l. lines_sets w turned count other line s g i l);
  row_size = ap (λ (x : Bool). cond x s.other s.count) g.turned_is ∙ ap (λ (x : ℕ). cond turned x s.count) g.other_is ∙ ap (λ (x : ℕ). cond turned other x) g.count_is;
  col_size = ap (λ (x : Bool). cond x s.count s.other) g.turned_is ∙ ap (λ (x : ℕ). cond turned x s.other) g.count_is ∙ ap (λ (x : ℕ). cond turned count x) g.other_is;
}

-- by other words
pub recast_value : (w : Worker) (m n p q : ℕ) (x y : Relation) (v : Value) → m ≡ p → n ≡ q → x ≡ y → GivesValue w m n x v → GivesValue w p q y v
recast_value w m n p q x y v e f h g = record { stands = g.stands; means = g.means ∙ h; row_size = g.row_size ∙ e; col_size = g.col_size ∙ f }

-- ---- types
pub value_type : (w : Worker) (x : Value) → ((r : Rel) → Stands w r → HasType r.rows r.cols (set_of w r)) → ValueStands w x → HasType (value_rows x) (value_cols x) (value_of w x)
value_type w (Whole r) f s = f r s
value_type w (Lines s) f h = type-laid s.turned s.count s.other (line_set w s)

-- ---- full lines
pub laid_full : (turned : Bool) (count other : ℕ) → laid turned count other (λ i. full 1 other) ≡ full (cond turned other count) (cond turned count other)
unfolding laid full
laid_full true count other = relation_of-agree other count _ _ (λ i j a b. has-relation_of 1 other (λ i j. true) 0 i (omega arith) a)
laid_full false count other = relation_of-agree count other _ _ (λ i j a b. has-relation_of 1 other (λ i j. true) 0 j (omega arith) b)

-- ---- operators
type_full : (m n : ℕ) → HasType m n (full m n)
unfolding full
type_full m n = type-test m n m n _ refl refl

pub boole_lines_given : (o w : Worker) (op : Boole) (a b s : Thin) → ((i : ℕ) → i < a.count → HasType 1 a.other (line_set o a i)) → a.turned ≡ b.turned → a.count ≡ b.count → a.other ≡ b.other
    → GivesLines w a.turned a.count a.other (λ i. boole_of op (line_set o a i) (line_set o b i)) s → GivesValue w (thin_rows a) (thin_cols a) (boole_of op (thin_of o a) (thin_of o b)) (Lines s)
boole_lines_given o w op a b s ta e f h g =
    recast_value w _ _ _ _ _ _ (Lines s) refl refl
    (sym (laid_boole op a.turned a.count a.other (line_set o a) (line_set o b) ta)
    ∙ ap (λ (x : Bool). boole_of op (thin_of o a) (laid x a.count a.other (line_set o b))) e
    ∙ ap (λ (x : ℕ). boole_of op (thin_of o a) (laid b.turned x a.other (line_set o b))) f
    ∙ ap (λ (x : ℕ). boole_of op (thin_of o a) (laid b.turned b.count x (line_set o b))) h)
    (lines_value w a.turned a.count a.other _ s g)

-- full lines without those of a set are its complement: laid beside each other they are the full relation
pub complement_lines_given : (o w1 w2 : Worker) (s all made : Thin) → Keeps o w1 → ThinStands o s → GivesLines w1 s.turned s.count s.other (λ i. full 1 s.other) all
    → GivesLines w2 all.turned all.count all.other (λ i. boole_of Diff (line_set w1 all i) (line_set w1 s i)) made → GivesValue w2 (thin_rows s) (thin_cols s) (complement (thin_of o s)) (Lines made)
complement_lines_given o w1 w2 s all made k h ga gm =
    let v = lines_value w2 all.turned all.count all.other _ made gm in
    recast_value w2 _ _ _ _ _ _ (Lines made)
    (ap (λ (x : Bool). cond x all.other all.count) ga.turned_is ∙ ap (λ (x : ℕ). cond s.turned x all.count) ga.other_is ∙ ap (λ (x : ℕ). cond s.turned s.other x) ga.count_is)
    (ap (λ (x : Bool). cond x all.count all.other) ga.turned_is ∙ ap (λ (x : ℕ). cond s.turned x all.other) ga.count_is ∙ ap (λ (x : ℕ). cond s.turned s.count x) ga.other_is)
    (ap (λ (x : Bool). laid x all.count all.other (λ i. diff (line_set w1 all i) (line_set w1 s i))) ga.turned_is
    ∙ ap (λ (x : ℕ). laid s.turned x all.other (λ i. diff (line_set w1 all i) (line_set w1 s i))) ga.count_is
    ∙ ap (λ (x : ℕ). laid s.turned s.count x (λ i. diff (line_set w1 all i) (line_set w1 s i))) ga.other_is
    ∙ laid_agree s.turned s.count s.other (λ i. diff (line_set w1 all i) (line_set w1 s i)) (λ i. diff (full 1 s.other) (line_set o s i))
    (λ i l. ap (λ (x : Relation). diff x (line_set w1 s i)) (lines_sets w1 _ _ _ _ all ga i l) ∙ ap (diff (full 1 s.other)) (line_later o w1 s k h i l))
    ∙ sym (laid_boole Diff s.turned s.count s.other (λ i. full 1 s.other) (line_set o s) (λ i l. type_full 1 s.other))
    ∙ ap (λ (x : Relation). diff x (thin_of o s)) (laid_full s.turned s.count s.other)
    ∙ diff-full (thin_rows s) (thin_cols s) (thin_of o s) (let t = type-laid s.turned s.count s.other (line_set o s) in t.row_size) (let t = type-laid s.turned s.count s.other (line_set o s) in t.col_size))
    v

pub complement_whole_given : (o w1 w2 : Worker) (m n : ℕ) (r made rel : Rel) → Keeps o w1 → Stands o r → HasType r.rows r.cols (set_of o r) → Gives w1 r.rows r.cols (full r.rows r.cols) made
    → Gives w2 made.rows made.cols (diff (set_of w1 made) (set_of w1 r)) rel → GivesValue w2 r.rows r.cols (complement (set_of o r)) (Whole rel)
complement_whole_given o w1 w2 m n r made rel k s t ga gm =
    recast_value w2 _ _ _ _ _ _ (Whole rel) ga.row_size ga.col_size
    (ap (λ (x : Relation). diff x (set_of w1 r)) (gives_set w1 _ _ _ made ga) ∙ ap (diff (full r.rows r.cols)) (keeps_set o w1 r k s) ∙ diff-full r.rows r.cols (set_of o r) t.row_size t.col_size)
    (whole_value w2 _ _ _ rel gm)

-- the same lines the other way
pub turned_given : (w : Worker) (s t : Thin) → ThinStands w s → t.turned ≡ not s.turned → t.count ≡ s.count → t.other ≡ s.other → ((i : ℕ) → line_of t i ≡ line_of s i)
    → GivesValue w (thin_cols s) (thin_rows s) (transpose (thin_of w s)) (Lines t)
turned_given w s t h a b c d = record {
  stands = record {
    few = (let x = h.few in omega (arith, x, b));
    limit = (let x = h.limit in omega (arith, x, c));
    lines = λ i l. subst (λ (x : Rel). Stands w x) (sym (d i)) (h.lines i (let y = b in omega (arith, l, y)));
  };
  means = ap (λ (x : Bool). laid x t.count t.other (line_set w t)) a ∙ ap (λ (x : ℕ). laid (not s.turned) x t.other (line_set w t)) b ∙ ap (λ (x : ℕ). laid (not s.turned) s.count x (line_set w t)) c
      ∙ laid_agree (not s.turned) s.count s.other (line_set w t) (line_set w s) (λ i l. ap (set_of w) (d i)) ∙ sym (laid_transposed s.turned s.count s.other (line_set w s));
  row_size = ap (λ (x : Bool). cond x t.other t.count) a ∙ ap (λ (x : ℕ). cond (not s.turned) x t.count) c ∙ ap (λ (x : ℕ). cond (not s.turned) s.other x) b ∙ swapped s.turned s.other s.count;
  col_size = ap (λ (x : Bool). cond x t.count t.other) a ∙ ap (λ (x : ℕ). cond (not s.turned) x t.other) b ∙ ap (λ (x : ℕ). cond (not s.turned) s.count x) c ∙ swapped s.turned s.count s.other;
}
  where
    swapped : (b : Bool) (m n : ℕ) → cond (not b) m n ≡ cond b n m
    swapped true m n = refl
    swapped false m n = refl

-- ---- residuals
pub later_value : (u v : Worker) (m n : ℕ) (set : Relation) (x : Value) → Keeps u v → GivesValue u m n set x → value_of v x ≡ set
later_value u v m n set x k g = value_same u v x k g.stands ∙ g.means

-- an answer by other words
pub recast_ok : (w : Worker) {m n p q : ℕ} {x y : Relation} (r : Result Value Lack) → m ≡ p → n ≡ q → x ≡ y → IfOk r (GivesValue w m n x) → IfOk r (GivesValue w p q y)
recast_ok w (Ok v) e f h g = recast_value w _ _ _ _ _ _ v e f h g
recast_ok w (Err x) e f h g = tt

pub right_set : (w0 w1 w2 : Worker) (r s turned lacking : Value) → HasType (value_rows r) (value_cols r) (value_of w0 r) → HasType (value_rows s) (value_cols s) (value_of w0 s) → value_rows r ≡ value_rows s → ValueStands w0 s → Keeps w0 w1 → Keeps w1 w2
    → GivesValue w1 (value_cols r) (value_rows r) (transpose (value_of w0 r)) turned → GivesValue w2 (value_rows s) (value_cols s) (complement (value_of w1 s)) lacking
    → complement (compose (value_of w2 turned) (value_of w2 lacking)) ≡ right_residual (value_of w0 r) (value_of w0 s)
right_set w0 w1 w2 r s turned lacking tr ts e ss k0 k1 g1 g2 =
    let R : Relation = value_of w0 r in
    let S : Relation = value_of w0 s in
    let e1 : value_of w2 turned ≡ transpose R = later_value w1 w2 _ _ _ turned k1 g1 in
    let e2 : value_of w2 lacking ≡ complement S = g2.means ∙ ap complement (value_same w0 w1 s k0 ss) in
    ap (λ (x : Relation). complement (compose x (value_of w2 lacking))) e1 ∙ ap (λ (x : Relation). complement (compose (transpose R) x)) e2
    ∙ sym (residual_laws.right (value_rows r) (value_cols r) (value_cols s) R S tr (subst (λ (x : ℕ). HasType x (value_cols s) S) (sym e) ts))

pub left_set : (w0 w1 w2 : Worker) (s r lacking turned : Value) → HasType (value_rows r) (value_cols r) (value_of w0 r) → HasType (value_rows s) (value_cols s) (value_of w0 s) → value_cols s ≡ value_cols r → ValueStands w0 r → Keeps w0 w1 → Keeps w1 w2
    → GivesValue w1 (value_rows s) (value_cols s) (complement (value_of w0 s)) lacking → GivesValue w2 (value_cols r) (value_rows r) (transpose (value_of w1 r)) turned
    → complement (compose (value_of w2 lacking) (value_of w2 turned)) ≡ left_residual (value_of w0 s) (value_of w0 r)
left_set w0 w1 w2 s r lacking turned tr ts e sr k0 k1 g1 g2 =
    let R : Relation = value_of w0 r in
    let S : Relation = value_of w0 s in
    let e1 : value_of w2 lacking ≡ complement S = later_value w1 w2 _ _ _ lacking k1 g1 in
    let e2 : value_of w2 turned ≡ transpose R = g2.means ∙ ap transpose (value_same w0 w1 r k0 sr) in
    ap (λ (x : Relation). complement (compose x (value_of w2 turned))) e1 ∙ ap (λ (x : Relation). complement (compose (complement S) x)) e2
    ∙ sym (residual_laws.left (value_rows s) (value_rows r) (value_cols s) R S (subst (λ (x : ℕ). HasType (value_rows r) x R) (sym e) tr) ts)

-- the symmetric quotient is the intersection of two residuals, the left one of transposed relations: what each step
-- made still means the same at the end
pub quotient_set : (w0 w1 w2 w3 w4 : Worker) (r s forth rt st back : Value) → HasType (value_rows r) (value_cols r) (value_of w0 r) → HasType (value_rows s) (value_cols s) (value_of w0 s) → value_rows r ≡ value_rows s → ValueStands w0 r → ValueStands w0 s
    → Keeps w0 w1 → Keeps w1 w2 → Keeps w2 w3 → Keeps w3 w4
    → GivesValue w1 (value_cols r) (value_cols s) (right_residual (value_of w0 r) (value_of w0 s)) forth → GivesValue w2 (value_cols r) (value_rows r) (transpose (value_of w1 r)) rt → GivesValue w3 (value_cols s) (value_rows s) (transpose (value_of w2 s)) st
    → GivesValue w4 (value_rows rt) (value_rows st) (left_residual (value_of w3 rt) (value_of w3 st)) back
    → inter (value_of w4 forth) (value_of w4 back) ≡ symmetric_quotient (value_of w0 r) (value_of w0 s)
quotient_set w0 w1 w2 w3 w4 r s forth rt st back tr ts e sr ss k0 k1 k2 k3 g1 g2 g3 g4 =
    let R : Relation = value_of w0 r in
    let S : Relation = value_of w0 s in
    let k02 = keeps_trans w0 w1 w2 k0 k1 in
    let k14 = keeps_trans w1 w2 w4 k1 (keeps_trans w2 w3 w4 k2 k3) in
    let e1 : value_of w4 forth ≡ right_residual R S = later_value w1 w4 _ _ _ forth k14 g1 in
    let e2 : value_of w3 rt ≡ transpose R = later_value w2 w3 _ _ _ rt k2 g2 ∙ ap transpose (value_same w0 w1 r k0 sr) in
    let e3 : value_of w3 st ≡ transpose S = g3.means ∙ ap transpose (value_same w0 w2 s k02 ss) in
    let e4 : value_of w4 back ≡ left_residual (transpose R) (transpose S) = g4.means ∙ ap (λ (x : Relation). left_residual x (value_of w3 st)) e2 ∙ ap (left_residual (transpose R)) e3 in
    ap (λ (x : Relation). inter x (value_of w4 back)) e1 ∙ ap (inter (right_residual R S)) e4 ∙ sym (quotient_by_residuals (value_rows r) (value_cols r) (value_cols s) R S tr (subst (λ (x : ℕ). HasType x (value_cols s) S) (sym e) ts))

-- ---- empty lines
pub laid_empty : (turned : Bool) (count other : ℕ) → laid turned count other (λ i. empty 1 other) ≡ empty (cond turned other count) (cond turned count other)
unfolding laid empty
laid_empty true count other = relation_of-agree other count _ _ (λ i j a b. has-relation_of 1 other (λ i j. false) 0 i (omega arith) a)
laid_empty false count other = relation_of-agree count other _ _ (λ i j a b. has-relation_of 1 other (λ i j. false) 0 j (omega arith) b)

-- ---- emptiness
pub all_empty : (turned : Bool) (count other : ℕ) (f : ℕ → Relation) → ((i : ℕ) → i < count → f i ≡ empty 1 other) → laid turned count other f ≡ empty (cond turned other count) (cond turned count other)
all_empty turned count other f h = laid_agree turned count other f (λ i. empty 1 other) h ∙ laid_empty turned count other

pub each_empty : (turned : Bool) (count other : ℕ) (f : ℕ → Relation) → ((i : ℕ) → i < count → HasType 1 other (f i)) → laid turned count other f ≡ empty (cond turned other count) (cond turned count other) → (i : ℕ) → i < count → f i ≡ empty 1 other
unfolding empty
each_empty true count other f t e i l = is_test 1 other (f i) (λ x y. false) (t i l) (λ x y a b.
    ap (λ (z : ℕ). has (f i) z y) (let z : x ≡ 0 = omega arith in z) ∙ sym (has-columns count other f y i b l) ∙ ap (λ (r : Relation). has r y i) e ∙ has-relation_of other count (λ i j. false) y i b l)
each_empty false count other f t e i l = is_test 1 other (f i) (λ x y. false) (t i l) (λ x y a b.
    ap (λ (z : ℕ). has (f i) z y) (let z : x ≡ 0 = omega arith in z) ∙ sym (has-rows count other f i y l b) ∙ ap (λ (r : Relation). has r i y) e ∙ has-relation_of count other (λ i j. false) i y l b)

-- ---- domains of definition
has-full : (m n i j : ℕ) → i < m → j < n → has (full m n) i j ≡ true
unfolding full
has-full m n i j a b = has-relation_of m n (λ i j. true) i j a b

and_true : (a : Bool) → (a && true) ≡ a
and_true true = refl
and_true false = refl

pub dom_full : (m n : ℕ) (r : Relation) → HasType m n r → compose r (full n 1) ≡ dom r
unfolding dom
dom_full m n r t =
    is_test m 1 (compose r (full n 1)) (λ i k. row_has r i) (type-compose m n 1 r (full n 1) t (type_full n 1)) (λ i k a b.
    has-compose m n 1 r (full n 1) t (type_full n 1) i k a b
    ∙ some_agree n (λ j. has r i j && has (full n 1) j k) (has r i) (λ j l. ap (λ (x : Bool). has r i j && x) (has-full n 1 j k l b) ∙ and_true (has r i j))
    ∙ ap (λ (x : ℕ). some_below x (has r i)) (sym t.col_size))
    ∙ relation_of-sizes m 1 r.rows 1 (λ i k. row_has r i) (sym t.row_size) refl

pub ran_dom : (r : Relation) → dom (transpose r) ≡ ran r
unfolding dom ran transpose relation_of
ran_dom r = relation_of-agree r.cols 1 _ _ (λ j k a b. some_agree r.rows (has (relation_of r.cols r.rows (λ i j. has r j i)) j) (λ i. has r i j) (λ i l. has-relation_of r.cols r.rows (λ i j. has r j i) j i a l))

-- ---- the form of the sizes
pub rows_formed : (w : Worker) (rows cols : ℕ) (set : Relation) (s : Thin) → GivesRowsOf w false rows cols set s → GivesValue w rows cols set (Lines s)
rows_formed w rows cols set s g = record {
  stands = g.stands;
  means = ap (λ (x : Bool). laid x s.count s.other (line_set w s)) g.turned_is ∙ ap (λ (x : ℕ). laid false x s.other (line_set w s)) g.count_is ∙ ap (λ (x : ℕ). laid false rows x (line_set w s)) g.other_is ∙ g.means;
  row_size = ap (λ (x : Bool). cond x s.other s.count) g.turned_is ∙ g.count_is;
  col_size = ap (λ (x : Bool). cond x s.count s.other) g.turned_is ∙ g.other_is;
}

pub columns_formed : (w : Worker) (rows cols : ℕ) (set : Relation) (s : Thin) → IsRelation set → GivesRowsOf w true cols rows (transpose set) s → GivesValue w rows cols set (Lines s)
columns_formed w rows cols set s v g = record {
  stands = g.stands;
  means = ap (λ (x : Bool). laid x s.count s.other (line_set w s)) g.turned_is ∙ ap (λ (x : ℕ). laid true x s.other (line_set w s)) g.count_is ∙ ap (λ (x : ℕ). laid true cols x (line_set w s)) g.other_is
      ∙ sym (laid_transposed false cols rows (line_set w s)) ∙ ap transpose g.means ∙ transpose-transpose set v;
  row_size = ap (λ (x : Bool). cond x s.other s.count) g.turned_is ∙ g.other_is;
  col_size = ap (λ (x : Bool). cond x s.count s.other) g.turned_is ∙ g.count_is;
}

-- the rows that were cut, as a thin relation
pub rows_thin : (w : Worker) (rows cols : ℕ) (set : Relation) (s : Thin) → GivesRowsOf w false rows cols set s → GivesThin w false rows cols set s
rows_thin w rows cols set s g = record {
  turned_is = g.turned_is;
  count_is = g.count_is;
  other_is = g.other_is;
  stands = g.stands;
  means = (let v = rows_formed w rows cols set s g in v.means);
}

pub columns_thin : (w : Worker) (rows cols : ℕ) (set : Relation) (s : Thin) → IsRelation set → GivesRowsOf w true cols rows (transpose set) s → GivesThin w true cols rows set s
columns_thin w rows cols set s v g = record {
  turned_is = g.turned_is;
  count_is = g.count_is;
  other_is = g.other_is;
  stands = g.stands;
  means = (let u = columns_formed w rows cols set s v g in u.means);
}

pub thin_value : (w : Worker) (turned : Bool) (count other : ℕ) (set : Relation) (s : Thin) → GivesThin w turned count other set s → GivesValue w (cond turned other count) (cond turned count other) set (Lines s)
thin_value w turned count other set s g = record {
  stands = g.stands;
  means = g.means;
  row_size = ap (λ (x : Bool). cond x s.other s.count) g.turned_is ∙ ap (λ (x : ℕ). cond turned x s.count) g.other_is ∙ ap (λ (x : ℕ). cond turned other x) g.count_is;
  col_size = ap (λ (x : Bool). cond x s.count s.other) g.turned_is ∙ ap (λ (x : ℕ). cond turned x s.other) g.count_is ∙ ap (λ (x : ℕ). cond turned count x) g.other_is;
}

-- what comes after few columns is rows, and what comes after long rows is columns
pub rows_after : (b : Thin) (few : ℕ) → few ≡ thin_rows b → few ≤ most_lines → 257 ≤ b.other → b.turned ≡ false
rows_after b few = by b.turned b.count b.other
  where
    by : (t : Bool) (c o : ℕ) → few ≡ cond t o c → few ≤ most_lines → 257 ≤ o → t ≡ false
    by true c o e f l = absurd (omega (arith, e, f, l))
    by false c o e f l = refl

pub columns_after : (b : Thin) (long : ℕ) → long ≡ thin_rows b → b.count ≤ most_lines → 257 ≤ long → b.turned ≡ true
columns_after b long = by b.turned b.count b.other
  where
    by : (t : Bool) (c o : ℕ) → long ≡ cond t o c → c ≤ most_lines → 257 ≤ long → t ≡ true
    by true c o e f l = refl
    by false c o e f l = absurd (omega (arith, e, f, l))

-- lines of one type are cut alike
pub alike : (s t : Thin) → s.count ≤ most_lines → t.count ≤ most_lines → 257 ≤ s.other → 257 ≤ t.other → thin_rows s ≡ thin_rows t → thin_cols s ≡ thin_cols t → (s.turned ≡ t.turned) × (s.count ≡ t.count) × (s.other ≡ t.other)
alike s t = by s.turned s.count s.other t.turned t.count t.other
  where
    by : (a : Bool) (c o : ℕ) (b : Bool) (d p : ℕ) → c ≤ most_lines → d ≤ most_lines → 257 ≤ o → 257 ≤ p → cond a o c ≡ cond b p d → cond a c o ≡ cond b d p → (a ≡ b) × (c ≡ d) × (o ≡ p)
    by true c o true d p h i j k e f = (refl, f, e)
    by true c o false d p h i j k e f = absurd (omega (arith, h, i, j, k, e, f))
    by false c o true d p h i j k e f = absurd (omega (arith, h, i, j, k, e, f))
    by false c o false d p h i j k e f = (refl, e, f)

-- lines that are laid alike and mean one relation are the same lines
each_same : (turned : Bool) (count other : ℕ) (f g : ℕ → Relation) → ((i : ℕ) → i < count → HasType 1 other (f i)) → ((i : ℕ) → i < count → HasType 1 other (g i)) → laid turned count other f ≡ laid turned count other g → (i : ℕ) → i < count → f i ≡ g i
each_same true count other f g t u e i l =
    is_test 1 other (f i) (has (g i)) (t i l) (λ x y a b.
    ap (λ (z : ℕ). has (f i) z y) (let z : x ≡ 0 = omega arith in z) ∙ sym (has-columns count other f y i b l) ∙ ap (λ (r : Relation). has r y i) e ∙ has-columns count other g y i b l ∙ ap (λ (z : ℕ). has (g i) z y) (let z : 0 ≡ x = omega arith in z))
    ∙ sym (is_test 1 other (g i) (has (g i)) (u i l) (λ x y a b. refl))
each_same false count other f g t u e i l =
    is_test 1 other (f i) (has (g i)) (t i l) (λ x y a b.
    ap (λ (z : ℕ). has (f i) z y) (let z : x ≡ 0 = omega arith in z) ∙ sym (has-rows count other f i y l b) ∙ ap (λ (r : Relation). has r i y) e ∙ has-rows count other g i y l b ∙ ap (λ (z : ℕ). has (g i) z y) (let z : 0 ≡ x = omega arith in z))
    ∙ sym (is_test 1 other (g i) (has (g i)) (u i l) (λ x y a b. refl))

-- lines of one cut, by the words of the first
recut : (w : Worker) (a b : Thin) → a.turned ≡ b.turned → a.count ≡ b.count → a.other ≡ b.other → laid a.turned a.count a.other (line_set w b) ≡ thin_of w b
recut w a b e f h = ap (λ (x : Bool). laid x a.count a.other (line_set w b)) e ∙ ap (λ (x : ℕ). laid b.turned x a.other (line_set w b)) f ∙ ap (λ (x : ℕ). laid b.turned b.count x (line_set w b)) h

pub lines_make : (w : Worker) (a b : Thin) → a.turned ≡ b.turned → a.count ≡ b.count → a.other ≡ b.other → ((i : ℕ) → i < a.count → line_set w a i ≡ line_set w b i) → thin_of w a ≡ thin_of w b
lines_make w a b e f h s = laid_agree a.turned a.count a.other (line_set w a) (line_set w b) s ∙ recut w a b e f h

pub made_of_lines : (w : Worker) (a b : Thin) → ((i : ℕ) → i < a.count → HasType 1 a.other (line_set w a i)) → ((i : ℕ) → i < a.count → HasType 1 a.other (line_set w b i)) → a.turned ≡ b.turned → a.count ≡ b.count → a.other ≡ b.other
    → thin_of w a ≡ thin_of w b → (i : ℕ) → i < a.count → line_set w a i ≡ line_set w b i
made_of_lines w a b t u e f h s = each_same a.turned a.count a.other (line_set w a) (line_set w b) t u (s ∙ sym (recut w a b e f h))
