-- Residuals and the symmetric quotient, from what a worker answers on the way: each value is read off the calls, and the laws of the algebra say which relation it is.
use Rattle.std.proofs.Common.{◌≡◌, ◌∙◌, ℕ, Some, sym, ap}
use Rattle.rel_model.specs.declared.Rel.{Rel}
use Rattle.rel_model.specs.Relation.{Relation}
use Rattle.rel_model.specs.Operators.{full, diff, inter, complement, transpose, compose, right_residual, left_residual, symmetric_quotient}
use Rattle.rel_model.specs.Algebra.{HasType}
use Rattle.rel_model.specs.Worker.{Worker, Stands, set_of, Gives, Keeps}
use Rattle.rel_model.proofs.Workers.{gives_set, gives_stands, keeps_set, keeps_trans}
use Rattle.rel_model.proofs.OperatorLaws.{diff-full}
use Rattle.rel_model.proofs.AlgebraLaws.{residual_laws, quotient_by_residuals}

-- the difference of the full relation and this one
pub complement_given : (old mid new : Worker) (m n : ℕ) (r made rel : Rel) → Keeps old mid → Stands old r → (set_of old r).rows ≡ m → (set_of old r).cols ≡ n → Gives mid m n (full m n) made
    → Gives new made.rows made.cols (diff (set_of mid made) (set_of mid r)) rel → Gives new m n (complement (set_of old r)) rel
complement_given old mid new m n r made rel k s e f g h = record {
  means = h.means ∙ ap Some (ap (λ x. diff x (set_of mid r)) (gives_set mid m n (full m n) made g) ∙ ap (diff (full m n)) (keeps_set old mid r k s) ∙ diff-full m n (set_of old r) e f);
  row_size = h.row_size ∙ g.row_size;
  col_size = h.col_size ∙ g.col_size;
}

-- a relation that was given, one call later
later : (v w : Worker) (m n : ℕ) (value : Relation) (r : Rel) → Keeps v w → Gives v m n value r → set_of w r ≡ value
later v w m n value r k g = keeps_set v w r k (gives_stands v m n value r g) ∙ gives_set v m n value r g

-- both residuals by their formulas: two relations, made by two calls, are composed and the composition is complemented;
-- a law of the algebra says which relation that is
residual_given : {w3 w4 : Worker} {m n : ℕ} {value P Q : Relation} {broken rest : Rel} (w2 : Worker) (left right : Rel)
    → set_of w2 left ≡ P → set_of w2 right ≡ Q → left.rows ≡ m → right.cols ≡ n → value ≡ complement (compose P Q)
    → Gives w3 left.rows right.cols (compose (set_of w2 left) (set_of w2 right)) broken
    → Gives w4 broken.rows broken.cols (complement (set_of w3 broken)) rest → Gives w4 m n value rest
residual_given {w3 = w3} {P = P} {broken = broken} w2 left right e d rows cols law g h = record {
  means = h.means ∙ ap Some (ap complement (gives_set w3 _ _ _ broken g ∙ ap (λ x. compose x (set_of w2 right)) e
      ∙ ap (compose P) d) ∙ sym law);
  row_size = h.row_size ∙ g.row_size ∙ rows;
  col_size = h.col_size ∙ g.col_size ∙ cols;
}

-- the right one: r transposed, composed with the complement of s; the sets of earlier calls are kept in later ones
pub right_given : (w0 w1 w2 w3 w4 : Worker) (r s turned lacking broken rest : Rel) → HasType r.rows r.cols (set_of w0 r) → HasType r.rows s.cols (set_of w0 s) → Stands w0 s → Keeps w0 w1 → Keeps w1 w2
    → Gives w1 r.cols r.rows (transpose (set_of w0 r)) turned → Gives w2 s.rows s.cols (complement (set_of w1 s)) lacking
    → Gives w3 turned.rows lacking.cols (compose (set_of w2 turned) (set_of w2 lacking)) broken → Gives w4 broken.rows broken.cols (complement (set_of w3 broken)) rest
    → Gives w4 r.cols s.cols (right_residual (set_of w0 r) (set_of w0 s)) rest
right_given w0 w1 w2 w3 w4 r s turned lacking broken rest tr ts ss k0 k1 g1 g2 g3 g4 =
    residual_given w2 turned lacking (later w1 w2 _ _ (transpose (set_of w0 r)) turned k1 g1)
    (gives_set w2 _ _ _ lacking g2 ∙ ap complement (keeps_set w0 w1 s k0 ss))
    g1.row_size g2.col_size (residual_laws.right r.rows r.cols s.cols (set_of w0 r) (set_of w0 s) tr ts) g3 g4

-- the left one: the complement of s, composed with r transposed
pub left_given : (w0 w1 w2 w3 w4 : Worker) (s r lacking turned broken rest : Rel) → HasType r.rows s.cols (set_of w0 r) → HasType s.rows s.cols (set_of w0 s) → Stands w0 r → Keeps w0 w1 → Keeps w1 w2
    → Gives w1 s.rows s.cols (complement (set_of w0 s)) lacking → Gives w2 r.cols r.rows (transpose (set_of w1 r)) turned
    → Gives w3 lacking.rows turned.cols (compose (set_of w2 lacking) (set_of w2 turned)) broken → Gives w4 broken.rows broken.cols (complement (set_of w3 broken)) rest
    → Gives w4 s.rows r.rows (left_residual (set_of w0 s) (set_of w0 r)) rest
left_given w0 w1 w2 w3 w4 s r lacking turned broken rest tr ts sr k0 k1 g1 g2 g3 g4 =
    residual_given w2 lacking turned (later w1 w2 _ _ (complement (set_of w0 s)) lacking k1 g1)
    (gives_set w2 _ _ _ turned g2 ∙ ap transpose (keeps_set w0 w1 r k0 sr))
    g1.row_size g2.col_size (residual_laws.left s.rows r.rows s.cols (set_of w0 r) (set_of w0 s) tr ts) g3 g4

-- the symmetric quotient by its formula: the right residual, intersected with the left residual of the transposes
pub quotient_given : (w0 w1 w2 w3 w4 w5 : Worker) (r s forth rt st back both : Rel) → HasType r.rows r.cols (set_of w0 r) → HasType r.rows s.cols (set_of w0 s) → Stands w0 r → Stands w0 s
    → Keeps w0 w1 → Keeps w1 w2 → Keeps w2 w3 → Keeps w3 w4
    → Gives w1 r.cols s.cols (right_residual (set_of w0 r) (set_of w0 s)) forth → Gives w2 r.cols r.rows (transpose (set_of w1 r)) rt → Gives w3 s.cols s.rows (transpose (set_of w2 s)) st
    → Gives w4 rt.rows st.rows (left_residual (set_of w3 rt) (set_of w3 st)) back → Gives w5 forth.rows forth.cols (inter (set_of w4 forth) (set_of w4 back)) both
    → Gives w5 r.cols s.cols (symmetric_quotient (set_of w0 r) (set_of w0 s)) both
quotient_given w0 w1 w2 w3 w4 w5 r s forth rt st back both tr ts sr ss k0 k1 k2 k3 g1 g2 g3 g4 g5 =
    let R : Relation = set_of w0 r in
    let S : Relation = set_of w0 s in
    let k02 = keeps_trans w0 w1 w2 k0 k1 in
    let k14 = keeps_trans w1 w2 w4 k1 (keeps_trans w2 w3 w4 k2 k3) in
    let e1 : set_of w4 forth ≡ right_residual R S = later w1 w4 _ _ (right_residual R S) forth k14 g1 in
    let e2 : set_of w3 rt ≡ transpose R = later w2 w3 _ _ (transpose (set_of w1 r)) rt k2 g2 ∙ ap transpose (keeps_set w0 w1 r k0 sr) in
    let e3 : set_of w3 st ≡ transpose S = gives_set w3 _ _ _ st g3 ∙ ap transpose (keeps_set w0 w2 s k02 ss) in
    let e4 : set_of w4 back ≡ left_residual (transpose R) (transpose S) = gives_set w4 _ _ _ back g4 ∙ ap (λ x. left_residual x (set_of w3 st)) e2 ∙ ap (left_residual (transpose R)) e3 in
    record {
      means = g5.means ∙ ap Some (ap (λ x. inter x (set_of w4 back)) e1 ∙ ap (inter (right_residual R S)) e4 ∙ sym (quotient_by_residuals r.rows r.cols s.cols R S tr ts));
      row_size = g5.row_size ∙ g1.row_size;
      col_size = g5.col_size ∙ g1.col_size;
    }
