-- Each call from what a worker answers on the way.
-- 1. What was given is kept by the calls after it, so that each set is read off where the next call takes it.
-- 2. So the set of the answer is the operators' own, one within another.
-- 3. The laws of bounds, and what Finding says of the rest, give the relation of the definition; its sizes are those of the answers on the way.
-- 4. What all calls of a function make together has room, so what the first of them make has.
use Rattle.std.proofs.Common.{◌≡◌, ◌≤◌, ◌+◌, ◌*◌, ◌^◌, ◌∙◌, ℕ, Bool, Some, refl, sym, ap, arith}
use Rattle.rel_model.specs.declared.Rel.{Rel}
use Rattle.rel_model.specs.Relation.{Relation, size_limit}
use Rattle.rel_model.specs.Operators.{full, union, inter, diff, transpose, compose, left_residual, symmetric_quotient}
use Rattle.rel_model.specs.Choice.{holds, count_below, inj}
use Rattle.rel_model.specs.Algebra.{HasType}
use Rattle.rel_model.specs.Orders.{less, hasse, upper_bounds, lower_bounds, class_count, classes}
use Rattle.rel_model.specs.Worker.{Worker, Stands, set_of, Gives, Keeps, height_of, height_of_three, operator_room, product_room, derived_room, bounds_room, wide_room, extremes_room, classes_room}
use Rattle.rel_model.proofs.Heights.{height_of-covers, height_of-least}
use Rattle.rel_model.proofs.Ordering.{bound_laws}
use Rattle.rel_model.proofs.Rooms.{operator_room-most, product_room-most, derived_room-least, derived_room-most, bounds_room-two, wide_room-four, extremes_room-eight, classes_room-sixteen}
use Rattle.rel_model.proofs.Workers.{gives_set, gives_stands, keeps_set, keeps_trans}
use Rattle.rel_domains.proofs.Ranking.{count-most}
use Rattle.rel_steps.proofs.Rooms.{as_high, step_rooms}
use Rattle.rel_order.specs.Steps.{proper_pairs, leading, proper_room, leading_room}
use Rattle.rel_order.proofs.Finding.{proper_found, hasse_found, leading_found, classes_found, class-count, type-leaders}

-- a relation that was given, some calls later
later : (v w : Worker) (m n : ℕ) (value : Relation) (r : Rel) → Keeps v w → Gives v m n value r → set_of w r ≡ value
later v w m n value r k g = keeps_set v w r k (gives_stands v m n value r g) ∙ gives_set v m n value r g

-- ---- bounds
pub upper_given : (w0 w1 w2 w3 : Worker) (r s rt st b : Rel) → r.rows ≡ r.cols → HasType r.rows r.rows (set_of w0 r) → HasType r.rows s.cols (set_of w0 s) → Stands w0 s → Keeps w0 w1 → Keeps w1 w2
    → Gives w1 r.cols r.rows (transpose (set_of w0 r)) rt → Gives w2 s.cols s.rows (transpose (set_of w1 s)) st → Gives w3 rt.rows st.rows (left_residual (set_of w2 rt) (set_of w2 st)) b
    → Gives w3 r.rows s.cols (upper_bounds (set_of w0 r) (set_of w0 s)) b
upper_given w0 w1 w2 w3 r s rt st b square tr ts ss k0 k1 g1 g2 g3 =
    let R : Relation = set_of w0 r in
    let S : Relation = set_of w0 s in
    let e1 : set_of w2 rt ≡ transpose R = later w1 w2 _ _ (transpose R) rt k1 g1 in
    let e2 : set_of w2 st ≡ transpose S = gives_set w2 _ _ _ st g2 ∙ ap transpose (keeps_set w0 w1 s k0 ss) in
    record {
      means = g3.means ∙ ap Some (ap (λ x. left_residual x (set_of w2 st)) e1 ∙ ap (left_residual (transpose R)) e2 ∙ sym (bound_laws.upper r.rows s.cols R S tr ts));
      row_size = g3.row_size ∙ g1.row_size ∙ sym square;
      col_size = g3.col_size ∙ g2.row_size;
    }

pub lower_given : (w0 w1 w2 : Worker) (r s st b : Rel) → HasType r.rows r.rows (set_of w0 r) → HasType r.rows s.cols (set_of w0 s) → Stands w0 r → Keeps w0 w1
    → Gives w1 s.cols s.rows (transpose (set_of w0 s)) st → Gives w2 r.rows st.rows (left_residual (set_of w1 r) (set_of w1 st)) b
    → Gives w2 r.rows s.cols (lower_bounds (set_of w0 r) (set_of w0 s)) b
lower_given w0 w1 w2 r s st b tr ts sr k0 g1 g2 =
    let R : Relation = set_of w0 r in
    let S : Relation = set_of w0 s in
    record {
      means = g2.means ∙ ap Some (ap (λ x. left_residual x (set_of w1 st)) (keeps_set w0 w1 r k0 sr) ∙ ap (left_residual R) (gives_set w1 _ _ _ st g1) ∙ sym (bound_laws.lower r.rows s.cols R S tr ts));
      row_size = g2.row_size;
      col_size = g2.col_size ∙ g1.row_size;
    }

-- ---- extremes
-- those of the operand among its bounds
pub among_given : (w0 w1 w2 : Worker) (m : ℕ) (bounds : Relation) (s b found : Rel) → m ≡ s.rows → Stands w0 s → Keeps w0 w1 → Gives w1 m s.cols bounds b
    → Gives w2 s.rows s.cols (inter (set_of w1 s) (set_of w1 b)) found → Gives w2 m s.cols (inter (set_of w0 s) bounds) found
among_given w0 w1 w2 m bounds s b found e ss k g1 g2 = record {
  means = g2.means ∙ ap Some (ap (λ x. inter x (set_of w1 b)) (keeps_set w0 w1 s k ss) ∙ ap (inter (set_of w0 s)) (gives_set w1 _ _ bounds b g1));
  row_size = g2.row_size ∙ sym e;
  col_size = g2.col_size;
}

-- the extremes of bounds
pub extreme_given : (extreme : Relation → Relation → Relation) (bounds : Relation) (w0 w1 w2 : Worker) (n : ℕ) (r b found : Rel) → Stands w0 r → Keeps w0 w1 → Gives w1 r.rows n bounds b
    → Gives w2 r.rows b.cols (extreme (set_of w1 r) (set_of w1 b)) found → Gives w2 r.rows n (extreme (set_of w0 r) bounds) found
extreme_given extreme bounds w0 w1 w2 n r b found sr k g1 g2 = record {
  means = g2.means ∙ ap Some (ap (λ x. extreme x (set_of w1 b)) (keeps_set w0 w1 r k sr) ∙ ap (extreme (set_of w0 r)) (gives_set w1 _ _ bounds b g1));
  row_size = g2.row_size;
  col_size = g2.col_size ∙ g1.col_size;
}

-- ---- the Hasse diagram
pub proper_given : (w0 w1 w2 w3 w4 : Worker) (r lesser greater other rest : Rel) → HasType r.rows r.rows (set_of w0 r) → Stands w0 r → Keeps w0 w1 → Keeps w1 w2 → Keeps w2 w3
    → Gives w1 r.rows r.rows (less r.rows) lesser → Gives w2 lesser.cols lesser.rows (transpose (set_of w1 lesser)) greater
    → Gives w3 lesser.rows lesser.cols (union (set_of w2 lesser) (set_of w2 greater)) other → Gives w4 r.rows r.cols (inter (set_of w3 r) (set_of w3 other)) rest
    → Gives w4 r.rows r.cols (proper_pairs (set_of w0 r)) rest
proper_given w0 w1 w2 w3 w4 r lesser greater other rest t s k0 k1 k2 g1 g2 g3 g4 =
    let R : Relation = set_of w0 r in
    let L : Relation = less r.rows in
    let e1 : set_of w2 lesser ≡ L = later w1 w2 _ _ L lesser k1 g1 in
    let e2 : set_of w2 greater ≡ transpose L = gives_set w2 _ _ _ greater g2 ∙ ap transpose (gives_set w1 _ _ L lesser g1) in
    let e3 : set_of w3 other ≡ union L (transpose L) = gives_set w3 _ _ _ other g3 ∙ ap (λ x. union x (set_of w2 greater)) e1 ∙ ap (union L) e2 in
    record {
      means = g4.means ∙ ap Some (ap (λ x. inter x (set_of w3 other)) (keeps_set w0 w3 r (keeps_trans w0 w1 w3 k0 (keeps_trans w1 w2 w3 k1 k2)) s) ∙ ap (inter R) e3 ∙ proper_found r.rows R t);
      row_size = g4.row_size;
      col_size = g4.col_size;
    }

-- the proper pairs without those that two of them make are the Hasse diagram: each call found what the calls before it
-- gave
pub hasse_given : (w0 w1 w2 w3 : Worker) (r steps twice rest : Rel) → HasType r.rows r.rows (set_of w0 r) → Keeps w1 w2 → Gives w1 r.rows r.cols (proper_pairs (set_of w0 r)) steps
    → Gives w2 steps.rows steps.cols (compose (set_of w1 steps) (set_of w1 steps)) twice → Gives w3 steps.rows steps.cols (diff (set_of w2 steps) (set_of w2 twice)) rest
    → Gives w3 r.rows r.cols (hasse (set_of w0 r)) rest
hasse_given w0 w1 w2 w3 r steps twice rest t k1 g1 g2 g3 =
    let R : Relation = set_of w0 r in
    let P : Relation = proper_pairs R in
    let e1 : set_of w1 steps ≡ P = gives_set w1 _ _ P steps g1 in
    let e2 : set_of w2 twice ≡ compose P P = gives_set w2 _ _ _ twice g2 ∙ ap (λ x. compose x x) e1 in
    record {
      means = g3.means ∙ ap Some (ap (λ x. diff x (set_of w2 twice)) (later w1 w2 _ _ P steps k1 g1) ∙ ap (diff P) e2 ∙ hasse_found r.rows R t);
      row_size = g3.row_size ∙ g1.row_size;
      col_size = g3.col_size ∙ g1.col_size;
    }

-- ---- classes
pub leading_given : (w0 w1 w2 w3 w4 w5 w6 : Worker) (r lesser greater behind all followers rest : Rel) → HasType r.rows r.rows (set_of w0 r) → Stands w0 r
    → Keeps w0 w1 → Keeps w1 w2 → Keeps w2 w3 → Keeps w3 w4 → Keeps w4 w5
    → Gives w1 r.rows r.rows (less r.rows) lesser → Gives w2 lesser.cols lesser.rows (transpose (set_of w1 lesser)) greater
    → Gives w3 r.rows r.cols (inter (set_of w2 r) (set_of w2 greater)) behind → Gives w4 r.rows 1 (full r.rows 1) all
    → Gives w5 behind.rows all.cols (compose (set_of w4 behind) (set_of w4 all)) followers → Gives w6 all.rows all.cols (diff (set_of w5 all) (set_of w5 followers)) rest
    → Gives w6 r.rows 1 (leading (set_of w0 r)) rest
leading_given w0 w1 w2 w3 w4 w5 w6 r lesser greater behind all followers rest t s k0 k1 k2 k3 k4 g1 g2 g3 g4 g5 g6 =
    let R : Relation = set_of w0 r in
    let n : ℕ = r.rows in
    let L : Relation = less n in
    let B : Relation = inter R (transpose L) in
    let e2 : set_of w2 greater ≡ transpose L = gives_set w2 _ _ _ greater g2 ∙ ap transpose (gives_set w1 _ _ L lesser g1) in
    let e3 : set_of w4 behind ≡ B = later w3 w4 _ _ _ behind k3 g3 ∙ ap (λ x. inter x (set_of w2 greater)) (keeps_set w0 w2 r (keeps_trans w0 w1 w2 k0 k1) s) ∙ ap (inter R) e2 in
    let e5 : set_of w5 followers ≡ compose B (full n 1) = gives_set w5 _ _ _ followers g5 ∙ ap (λ x. compose x (set_of w4 all)) e3 ∙ ap (compose B) (gives_set w4 _ _ (full n 1) all g4) in
    record {
      means = g6.means ∙ ap Some (ap (λ x. diff x (set_of w5 followers)) (later w4 w5 _ _ (full n 1) all k4 g4) ∙ ap (diff (full n 1)) e5 ∙ leading_found n R t);
      row_size = g6.row_size ∙ g4.row_size;
      col_size = g6.col_size ∙ g4.col_size;
    }

-- how many numbers there are
pub numbers_many : (w0 w1 w2 : Worker) (r alike least : Rel) → r.rows ≡ r.cols → HasType r.rows r.rows (set_of w0 r) → Gives w1 r.cols r.cols (symmetric_quotient (set_of w0 r) (set_of w0 r)) alike
    → Gives w2 alike.rows 1 (leading (set_of w1 alike)) least → count_below least.rows (holds (set_of w2 least)) ≡ class_count (set_of w0 r)
numbers_many w0 w1 w2 r alike least square t g1 g2 =
    let R : Relation = set_of w0 r in
    let V : Relation = leading (symmetric_quotient R R) in
    let e : set_of w2 least ≡ V = gives_set w2 _ _ _ least g2 ∙ ap leading (gives_set w1 _ _ _ alike g1) in
    let rows : least.rows ≡ V.rows = g2.row_size ∙ g1.row_size ∙ sym square ∙ sym (type-leaders r.rows R t).row_size in
    ap (λ x. count_below least.rows (holds x)) e ∙ ap (λ n. count_below n (holds V)) rows ∙ class-count r.rows R t

-- elements with equal columns, composed with the numbers of those that lead, are the classes: each element has the
-- number of the one that leads its class
pub classes_given : (w0 w1 w2 w3 w4 w5 : Worker) (r alike least numbers numbered found : Rel) → r.rows ≡ r.cols → HasType r.rows r.rows (set_of w0 r)
    → Keeps w1 w2 → Keeps w2 w3 → Keeps w3 w4
    → Gives w1 r.cols r.cols (symmetric_quotient (set_of w0 r) (set_of w0 r)) alike → Gives w2 alike.rows 1 (leading (set_of w1 alike)) least
    → Gives w3 (count_below least.rows (holds (set_of w2 least))) least.rows (inj (set_of w2 least)) numbers → Gives w4 numbers.cols numbers.rows (transpose (set_of w3 numbers)) numbered
    → Gives w5 alike.rows numbered.cols (compose (set_of w4 alike) (set_of w4 numbered)) found
    → Gives w5 r.rows (class_count (set_of w0 r)) (classes (set_of w0 r)) found
classes_given w0 w1 w2 w3 w4 w5 r alike least numbers numbered found square t k1 k2 k3 g1 g2 g3 g4 g5 =
    let R : Relation = set_of w0 r in
    let A : Relation = symmetric_quotient R R in
    let V : Relation = leading A in
    let e1 : set_of w4 alike ≡ A = later w1 w4 _ _ A alike (keeps_trans w1 w2 w4 k1 (keeps_trans w2 w3 w4 k2 k3)) g1 in
    let e2 : set_of w2 least ≡ V = gives_set w2 _ _ _ least g2 ∙ ap leading (gives_set w1 _ _ A alike g1) in
    let e3 : set_of w3 numbers ≡ inj V = gives_set w3 _ _ _ numbers g3 ∙ ap inj e2 in
    let e4 : set_of w4 numbered ≡ transpose (inj V) = gives_set w4 _ _ _ numbered g4 ∙ ap transpose e3 in
    record {
      means = g5.means ∙ ap Some (ap (λ x. compose x (set_of w4 numbered)) e1 ∙ ap (compose A) e4 ∙ classes_found r.rows R t);
      row_size = g5.row_size ∙ g1.row_size ∙ sym square;
      col_size = g5.col_size ∙ g4.col_size ∙ g3.row_size ∙ numbers_many w0 w1 w2 r alike least square t g1 g2;
    }

-- ---- heights
-- fewer elements have no greater height
pub fewer_high : (m h : ℕ) (t : ℕ → Bool) → m ≤ size_limit → height_of m ≤ h → height_of (count_below m t) ≤ h
fewer_high m h t l k =
    let a = count-most m t in
    let b = height_of-covers m l in
    let c = height_of-least (count_below m t) (height_of m) (omega (arith, a, b)) in
    omega (arith, c, k)

-- and one element has none
pub one_high : (h : ℕ) → height_of 1 ≤ h
one_high h = let a = height_of-least 1 0 (omega arith) in omega (arith, a)

-- ---- rooms
pub bound_rooms : (r s : Rel) → r.rows ≡ s.rows → operator_room r.rows r.cols + operator_room s.rows s.cols + derived_room r.rows r.cols s.cols ≤ bounds_room r.rows r.cols s.cols
bound_rooms r s e =
    let q = step_rooms r.rows r.cols s.cols in
    omega (arith, q.least, bounds_room-two r.rows r.cols s.cols, q.km r.rows r.cols refl refl, q.kn s.rows s.cols (sym e) refl)

pub among_rooms : (r s : Rel) → r.rows ≡ s.rows → bounds_room r.rows r.cols s.cols + operator_room s.rows s.cols ≤ wide_room r.rows r.cols s.cols
among_rooms r s e =
    let q = step_rooms r.rows r.cols s.cols in
    omega (arith, q.least, bounds_room-two r.rows r.cols s.cols, wide_room-four r.rows r.cols s.cols, q.kn s.rows s.cols (sym e) refl)

pub extreme_rooms : (k m n x : ℕ) → x ≡ n → bounds_room k m n + wide_room k m x ≤ extremes_room k m n
extreme_rooms k m n x e = omega (arith, bounds_room-two k m n, wide_room-four k m n, extremes_room-eight k m n, ap (wide_room k m) e)

-- the strict order of the rows, and what operators make of it
pub less_room : (k m : ℕ) → derived_room k k k ≤ derived_room k m m
less_room k m = derived_room-most k k k k m m (omega arith) (omega arith) (omega arith)

pub less_rooms : (k m : ℕ) (x : Rel) → x.rows ≡ k → x.cols ≡ k → derived_room k k k + 2 * operator_room x.rows x.cols + operator_room k m + operator_room k 1 + 20 * 8 ^ height_of_three k m m ≤ proper_room k m
less_rooms k m x a b =
    let h : ℕ = height_of_three k m m in
    let u = operator_room-most x.rows x.cols h (as_high x.rows k h a (omega arith)) (as_high x.cols k h b (omega arith)) in
    let v = operator_room-most k m h (omega arith) (omega arith) in
    let w = operator_room-most k 1 h (omega arith) (one_high h) in
    omega (arith, derived_room-least k m m, less_room k m, u, v, w)

pub hasse_rooms : (k m : ℕ) (p : Rel) → p.rows ≡ k → p.cols ≡ m → proper_room k m + product_room p.rows p.cols p.cols + operator_room p.rows p.cols ≤ wide_room k m m
hasse_rooms k m p a b =
    let q = step_rooms k m m in
    omega (arith, q.least, wide_room-four k m m, q.kmn p.rows p.cols p.cols a b b, q.km p.rows p.cols a b)

-- those that lead
pub leading_rooms : (k m : ℕ) (b a : Rel) → b.rows ≡ k → b.cols ≡ m → a.rows ≡ k → a.cols ≡ 1
    → product_room b.rows b.cols a.cols + operator_room a.rows a.cols ≤ 20 * 8 ^ height_of_three k m m
leading_rooms k m b a br bc ar ac =
    let h : ℕ = height_of_three k m m in
    let u = product_room-most b.rows b.cols a.cols h (as_high b.rows k h br (omega arith)) (as_high b.cols m h bc (omega arith)) (as_high a.cols 1 h ac (one_high h)) in
    let v = operator_room-most a.rows a.cols h (as_high a.rows k h ar (omega arith)) (as_high a.cols 1 h ac (one_high h)) in
    omega (arith, u, v)

-- classes
pub alike_rooms : (k m : ℕ) (a : Rel) → a.rows ≡ m → a.cols ≡ m → wide_room k m m + leading_room a.rows a.cols + 10 * derived_room k m m ≤ classes_room k m m
alike_rooms k m a ar ac =
    let h : ℕ = height_of_three k m m in
    let u = derived_room-most a.rows a.cols a.cols k m m (as_high a.rows m h ar (omega arith)) (as_high a.cols m h ac (omega arith)) (as_high a.cols m h ac (omega arith)) in
    omega (arith, wide_room-four k m m, classes_room-sixteen k m m, u)

pub numbers_room : (k m : ℕ) (l : Rel) → l.rows ≡ m → l.cols ≡ 1 → derived_room l.rows l.cols l.cols ≤ derived_room k m m
numbers_room k m l a b =
    let h : ℕ = height_of_three k m m in
    let c = as_high l.cols 1 h b (one_high h) in
    derived_room-most l.rows l.cols l.cols k m m (as_high l.rows m h a (omega arith)) c c

pub numbered_room : (k m : ℕ) (n : Rel) → height_of n.rows ≤ height_of_three k m m → n.cols ≡ m → operator_room n.rows n.cols ≤ derived_room k m m
numbered_room k m n few a =
    let h : ℕ = height_of_three k m m in
    let u = operator_room-most n.rows n.cols h few (as_high n.cols m h a (omega arith)) in
    omega (arith, derived_room-least k m m, u)

pub found_room : (k m x : ℕ) (a d : Rel) → a.rows ≡ m → a.cols ≡ m → height_of x ≤ height_of_three k m m → d.cols ≡ x → product_room a.rows a.cols d.cols ≤ derived_room k m m
found_room k m x a d ar ac few e =
    let h : ℕ = height_of_three k m m in
    let u = product_room-most a.rows a.cols d.cols h (as_high a.rows m h ar (omega arith)) (as_high a.cols m h ac (omega arith)) (as_high d.cols x h e few) in
    omega (arith, derived_room-least k m m, u)
