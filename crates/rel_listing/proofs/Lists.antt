-- Sorted pairs appended one group after the other, and when they are all pairs of a relation.
use Rattle.std.proofs.Common.{◌≡◌, ◌∙◌, ◌++◌, ◌&&◌, eqb, ℕ, true, List, [], ◌∷◌, refl, sym, ap, inl, inr, append_assoc}
use Rattle.std.proofs.lemmas.List.{append-nil}
use Rattle.std.proofs.lemmas.List.Folds.{list_any-append}
use Rattle.std.proofs.lemmas.Bool.{false≢true, and_parts, and_from, or_cases, or_right, eqb-true, eq-eqb}
use Rattle.rel_model.specs.Relation.{Relation, IsRelation, before, has}
use Rattle.rel_model.specs.Cells.{Cells, no_cells, cells_union}
use Rattle.rel_model.proofs.Pairs.{member, all-member, same_members}
use Rattle.rel_model.proofs.Grid.{all-weaker, all-append, increasing-append}
use Rattle.rel_listing.specs.Lists.{Adds}
use Rattle.rel_listing.proofs.Truth.{same_truth, or_here}

-- no cell, no pair
pub adds_none : {f : Cells} (xs : List (ℕ × ℕ)) → ((i j : ℕ) → f i j ≡ true → ⊥) → Adds f xs xs
adds_none xs n = record { more = []; items = sym (append-nil xs); increasing = tt; sound = tt; whole = λ i j h. absurd (n i j h) }

-- one pair
pub adds_one : (x y : ℕ) (xs : List (ℕ × ℕ)) → Adds (λ i j. eqb i x && eqb j y) xs (xs ++ (x, y) ∷ [])
adds_one x y xs = record {
  more = (x, y) ∷ [];
  items = refl;
  increasing = (tt, tt);
  sound = (and_from (eqb x x) (eqb y y) (eq-eqb x x refl) (eq-eqb y y refl), tt);
  whole = λ i j h. (let a = and_parts (eqb i x) (eqb j y) h in
      or_here (eqb x i && eqb y j) _ (and_from (eqb x i) (eqb y j) (eq-eqb x i (sym (eqb-true i x a.0))) (eq-eqb y j (sym (eqb-true j y a.1)))));
}

-- cells that all come later
pub adds_on : {f g : Cells} {a b c : List (ℕ × ℕ)} → Adds f a b → Adds g b c → ((i j k l : ℕ) → f i j ≡ true → g k l ≡ true → before (i, j) (k, l) ≡ true) → Adds (cells_union f g) a c
adds_on {f} {g} {a} s t o = record {
  more = s.more ++ t.more;
  items = t.items ∙ ap (λ zs. zs ++ t.more) s.items ∙ append_assoc a s.more t.more;
  increasing = increasing-append s.more t.more s.increasing t.increasing (all-weaker _ _ (λ p h. all-weaker _ _ (λ q k. o p.0 p.1 q.0 q.1 h k) t.more t.sound) s.more s.sound);
  sound = all-append _ s.more t.more (all-weaker _ _ (λ p h. or_here (f p.0 p.1) (g p.0 p.1) h) s.more s.sound) (all-weaker _ _ (λ p h. or_right (f p.0 p.1) (g p.0 p.1) h) t.more t.sound);
  whole = λ i j h. list_any-append (λ p. eqb p.0 i && eqb p.1 j) s.more t.more ∙ elim (or_cases (f i j) (g i j) h) [
    | inl x ↦ or_here (member (i, j) s.more) (member (i, j) t.more) (s.whole i j x)
    | inr x ↦ or_right (member (i, j) s.more) (member (i, j) t.more) (t.whole i j x)
  ];
}

-- the same cells
pub adds_same : {f g : Cells} {a b : List (ℕ × ℕ)} → ((i j : ℕ) → f i j ≡ true → g i j ≡ true) → ((i j : ℕ) → g i j ≡ true → f i j ≡ true) → Adds f a b → Adds g a b
adds_same to back s = record {
  more = s.more;
  items = s.items;
  increasing = s.increasing;
  sound = all-weaker _ _ (λ p h. to p.0 p.1 h) s.more s.sound;
  whole = λ i j h. s.whole i j (back i j h);
}

-- the cells of a relation are listed as its pairs
pub listed : {f : Cells} (r : Relation) (old xs : List (ℕ × ℕ)) → IsRelation r → old ≡ [] → ((i j : ℕ) → f i j ≡ has r i j) → Adds f old xs → xs ≡ r.pairs
listed {f} r old xs v e h s =
    s.items ∙ ap (λ zs. zs ++ s.more) e
    ∙ same_members s.more r.pairs s.increasing v.increasing (λ q. same_truth (member q s.more) (member q r.pairs)
    (λ m. sym (h q.0 q.1) ∙ all-member (λ p. f p.0 p.1 ≡ true) s.more q s.sound m)
    (λ m. s.whole q.0 q.1 (h q.0 q.1 ∙ m)))

pub none_listed : (r : Relation) (xs : List (ℕ × ℕ)) → IsRelation r → has r ≡ no_cells → xs ≡ [] → xs ≡ r.pairs
none_listed r xs v n e = e ∙ listed {f = no_cells} r [] [] v refl (λ i j. ap (λ (f : Cells). f i j) (sym n)) (adds_none [] (λ i j h. false≢true h))
