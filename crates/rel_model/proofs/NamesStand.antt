-- What callers draw from the promise of a call: the pair of two names that stand at one depth stands at the next, a block stands at depth 0, and a set stays.
use Rattle.std.proofs.Common.{◌≡◌, ◌<◌, ◌≢◌, ◌+◌, ◌*◌, ◌^◌, eqb, suc, ℕ, List, true, Ok, sym, ap, subst, ◌∙◌, arith, get_or}
use Rattle.std.proofs.lemmas.Bool.{or_right}
use Rattle.rel_model.specs.Cells.{Cells, block_cells}
use Rattle.rel_model.specs.Trees.{first_of, second_of, paired, cells, stands}
use Rattle.rel_model.specs.Words.{Extends, IsDistinct}
use Rattle.rel_model.specs.Views.{View, IsSet, Interns}
use Rattle.rel_model.proofs.TreeLaws.{stored_from, stands_from, kept_stands, kept_cells, one_set_one_name}

-- the first name of a pair
pub first_of-pair : (a b : ℕ) → b < 2 ^ 32 → first_of (a * 2 ^ 32 + b) ≡ a
first_of-pair a b h = omega arith

-- the second name of a pair
pub second_of-pair : (a b : ℕ) → b < 2 ^ 32 → second_of (a * 2 ^ 32 + b) ≡ b
second_of-pair a b h = omega arith

-- what was seen stays seen, over two calls
pub extends_on : (a b c : List ℕ) → Extends a b → Extends b c → Extends a c
extends_on a b c x y = record { same_length = y.same_length ∙ x.same_length; kept = λ n h. y.kept n (still a b x n h) ∙ x.kept n h }
  where
    still : (a b : List ℕ) → Extends a b → (n : ℕ) → get_or a n 0 ≢ 0 → get_or b n 0 ≢ 0
    still a b x n h z = h (sym (x.kept n h) ∙ z)

-- a set stays
pub set_stays : (v w : View) → Extends v.words w.words → IsDistinct v.words → IsDistinct w.words → (k n : ℕ) (f : Cells) → IsSet v k n f → IsSet w k n f
set_stays v w x d e k n f s = record {
  standing = kept_stands v.words w.words x k n s.standing;
  means = kept_cells v.words w.words x d.none_at_0 e.none_at_0 k n s.standing ∙ s.means;
}

-- two names with one set are one name
pub same_set_same_name : (v : View) → IsDistinct v.words → (k a b : ℕ) (f : Cells) → IsSet v k a f → IsSet v k b f → a ≡ b
same_set_same_name v d k a b f s t = one_set_one_name v.words d k a b s.standing t.standing (s.means ∙ sym t.means)

-- a name whose word is a pair of names that stand at one depth stands at the next
pub pair_stands : (v : View) (a b n k : ℕ) (f g : Cells) → b < 2 ^ 32 → a + b ≢ 0 → get_or v.words n 0 ≡ a * 2 ^ 32 + b → IsSet v k a f → IsSet v k b g → IsSet v (suc k) n (paired k f g)
pair_stands v a b n k f g l h e x y =
    let p : first_of (get_or v.words n 0) ≡ a = ap (λ (z : ℕ). first_of z) e ∙ first_of-pair a b l in
    let q : second_of (get_or v.words n 0) ≡ b = ap (λ (z : ℕ). second_of z) e ∙ second_of-pair a b l in
    record {
      standing = stands_from v.words k n (record {
        stored = λ z. h (omega (arith, z, e));
        first = subst (λ (m : ℕ). stands v.words k m ≡ true) (sym p) x.standing;
        second = subst (λ (m : ℕ). stands v.words k m ≡ true) (sym q) y.standing;
      });
      means = ap (λ (m : ℕ). paired k (cells v.words k m) (cells v.words k (second_of (get_or v.words n 0)))) p
          ∙ ap (λ (m : ℕ). paired k (cells v.words k a) (cells v.words k m)) q
          ∙ ap (λ (c : Cells). paired k c (cells v.words k b)) x.means ∙ ap (λ (c : Cells). paired k f c) y.means;
    }

-- the answer of an intern of two names that stand at one depth stands at the next
pub pair_set : {E : Type 0} (v w : View) (a b n k : ℕ) (f g : Cells) → b < 2 ^ 32 → a + b ≢ 0 → IsDistinct v.words → IsDistinct w.words → Interns {E = E} v w (a * 2 ^ 32 + b) (Ok n) → IsSet v k a f → IsSet v k b g
    → IsSet w (suc k) n (paired k f g)
pair_set v w a b n k f g l h d e i s t =
    pair_stands w a b n k f g l h i.named.1 (set_stays v w i.keeps.seen d e k a f s) (set_stays v w i.keeps.seen d e k b g t)

-- a name whose word is a block stands at depth 0
pub block_stands : (v : View) (bits n : ℕ) → bits ≢ 0 → get_or v.words n 0 ≡ bits → IsSet v 0 n (block_cells bits)
block_stands v bits n h e = record {
  standing = or_right (eqb n 0) _ (stored_from v.words n (λ z. h (sym e ∙ z)));
  means = ap block_cells e;
}

-- the answer of an intern of a block stands at depth 0
pub block_set : {E : Type 0} (v w : View) (bits n : ℕ) → bits ≢ 0 → Interns {E = E} v w bits (Ok n) → IsSet w 0 n (block_cells bits)
block_set v w bits n h i = block_stands w bits n h i.named.1
