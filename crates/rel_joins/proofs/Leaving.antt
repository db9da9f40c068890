-- A list of elements, each after all that pairs lead to from it: those at its first places are marked.
use Rattle.std.proofs.Common.{◌≡◌, ◌<◌, ◌≤◌, ◌+◌, ◌∙◌, eqb, ℕ, Bool, true, false, List, sym, ap, subst, inl, inr, arith, length, get_or, set}
use Rattle.std.proofs.lemmas.Bool.{false≢true, cases_lt, cases_Bool, eqb-true, eqb-false}
use Rattle.std.proofs.lemmas.List.{length-set, get_or-set_other}
use Rattle.rel_model.specs.Listed.{is_among}
use Rattle.rel_joins.specs.Postorder.{IsBefore, ComeAfter, IsPostorder}

-- what is marked so far: only elements at the first places
pub record Marking (n : ℕ) (pairs : List (ℕ × ℕ)) (order : List ℕ) (count : ℕ) (marks : List Bool) : Type 0 where
  pub size : length marks ≡ n
  pub come_after : ComeAfter n pairs order count
  pub marked : (x : ℕ) → get_or marks x false ≡ true → IsBefore order count x

pub marking_none : {n : ℕ} {pairs : List (ℕ × ℕ)} {order : List ℕ} {marks : List Bool} → length marks ≡ n → ((x : ℕ) → get_or marks x false ≡ false) → Marking n pairs order 0 marks
marking_none e h = record {
  size = e;
  come_after = record { within = λ p l. absurd (omega (arith, l)); after = λ p y l. absurd (omega (arith, l)) };
  marked = λ x m. absurd (false≢true (sym (h x) ∙ m));
}

before_more : {order : List ℕ} {k x : ℕ} → IsBefore order k x → IsBefore order (k + 1) x
before_more b = record { place = b.place; below = (let l = b.below in omega (arith, l)); inside = b.inside; here = b.here }

-- one more element, all whose successors are marked
pub marking_more : {n : ℕ} {pairs : List (ℕ × ℕ)} {order : List ℕ} {k : ℕ} {old new : List Bool} (x : ℕ) → Marking n pairs order k old → k < length order → get_or order k 0 ≡ x → x < n
    → ((y : ℕ) → is_among pairs x y ≡ true → get_or old y false ≡ true) → new ≡ set old x true → Marking n pairs order (k + 1) new
marking_more {n} {pairs} {order} {k} {old} {new} x m l e b h f = record {
  size = ap length f ∙ length-set old x true ∙ m.size;
  come_after = record {
    within = λ p i. elim (cases_lt p k) [
      | inl a ↦ m.come_after.within p a
      | inr a ↦ (let g : k ≡ p = omega (arith, a, i) in subst (λ (z : ℕ). get_or order z 0 < n) g (subst (λ (z : ℕ). z < n) (sym e) b))
    ];
    after = λ p y i t. elim (cases_lt p k) [
      | inl a ↦ m.come_after.after p y a t
      | inr a ↦ (let g : p ≡ k = omega (arith, a, i) in
          subst (λ (z : ℕ). IsBefore order z y) (sym g) (m.marked y (h y (subst (λ (z : ℕ). is_among pairs z y ≡ true) (ap (λ (z : ℕ). get_or order z 0) g ∙ e) t))))
    ];
  };
  marked = λ y t. elim (cases_Bool (eqb y x)) [
    | inl a ↦ record { place = k; below = omega arith; inside = l; here = e ∙ sym (eqb-true y x a) }
    | inr a ↦ before_more (m.marked y (sym (get_or-set_other old x y true false (eqb-false y x a)) ∙ ap (λ (zs : List Bool). get_or zs y false) (sym f) ∙ t))
  ];
}

-- all elements are marked
pub marking_all : {n : ℕ} {pairs : List (ℕ × ℕ)} {order : List ℕ} {k : ℕ} {marks : List Bool} → Marking n pairs order k marks → length order ≤ k → ((x : ℕ) → x < length marks → get_or marks x false ≡ true) → IsPostorder n pairs order
marking_all {n} {pairs} {order} {k} {marks} m l h = record {
  come_after = record { within = λ p i. m.come_after.within p (omega (arith, l, i)); after = λ p y i t. m.come_after.after p y (omega (arith, l, i)) t };
  all = λ x i. (let b = m.marked x (h x (let s = m.size in omega (arith, s, i))) in record { place = b.place; below = b.inside; inside = b.inside; here = b.here });
}
