-- Relations whose roots are copies have their sets, and reach exactly the copies.
-- 1. A copy stands at its depth and has the cells of its name, so a name has one copy (`copy_stands`, `copy_cells`, `one_copy`).
-- 2. A use that is reached from a name has a copy that is reached from the name's copy (`copy_use`).
-- 3. A node that is stored is the copy of a use that is listed, which a relation reaches, and so the moved relation reaches it; what stands reaches stored nodes alone (`reached_stored`, `stored_reached`).
use Rattle.std.proofs.Common.{◌≡◌, ◌≢◌, ◌<◌, ◌||◌, eqb, zero, suc, ℕ, true, false, List, [], ◌∷◌, ◌++◌, length, get_or, Some, None, sym, ap, subst, ◌∙◌, inl, inr, arith}
use Rattle.std.specs.List.{list_any}
use Rattle.std.proofs.lemmas.Bool.{false≢true, cases_Bool, eqb-true, eq-eqb, and_parts, and_from, or_cases, or_left, or_right, cond-true}
use Rattle.std.proofs.lemmas.List.Folds.{list_any-append, list_any_at}
use Rattle.rel_model.specs.declared.Rel.{Rel}
use Rattle.rel_model.specs.Cells.{Cells, block_cells}
use Rattle.rel_model.specs.Relation.{relation_of}
use Rattle.rel_model.specs.Trees.{first_of, second_of, paired, cells, stands}
use Rattle.rel_model.specs.Words.{IsDistinct}
use Rattle.rel_model.specs.Equations.{side_of}
use Rattle.rel_model.specs.Roots.{tree_height, lies_within, root_cells, stands_in, relation_in}
use Rattle.rel_model.specs.Uses.{Use, uses_from, uses_of, same_use, has_name, is_reached}
use Rattle.rel_model.proofs.TreeLaws.{standing, stands_from, stored_from, zero_cells, one_set_one_name}
use Rattle.rv_compact.specs.Compacted.{AllStand, IsMoved}
use Rattle.rv_compact.specs.Walks.{same_key, has_key, has_use, WalkedSome, root_depth}
use Rattle.rv_compact.specs.Copies.{IsCopy, AreCopies, AreNamed}
use Rattle.rv_compact.proofs.Walking.{same_self, same_both, stored_at, use-self, use-first, use-second, from-block, from-pair}
use Rattle.rv_compact.proofs.Reaching.{no_rel, root_stands, any-flat_map, flat_map-any}
use Rattle.rv_compact.proofs.Copying.{copy_stored, named_copy}

-- ---- what a copy is
pub copy_stands : (old new : List ℕ) (k n m : ℕ) → IsCopy old new k n m → stands new k m ≡ true
copy_stands old new zero n m c = elim c [
  | inl a ↦ or_left _ _ (eq-eqb m 0 a.1)
  | inr a ↦ or_right (eqb m 0) _ (stored_from new m (λ z. a.0 (sym a.1 ∙ z)))
]
copy_stands old new (suc k) n m c = elim c [
  | inl a ↦ or_left _ _ (eq-eqb m 0 a.1)
  | inr a ↦ stands_from new k m (record { stored = a.1; first = copy_stands old new k _ _ a.2; second = copy_stands old new k _ _ a.3 })
]

-- name 0 has the cells of name 0
none_cells : (old new : List ℕ) (k n m : ℕ) → get_or old 0 0 ≡ 0 → get_or new 0 0 ≡ 0 → n ≡ 0 → m ≡ 0 → cells new k m ≡ cells old k n
none_cells old new k n m x y a b = ap (cells new k) b ∙ zero_cells new y k ∙ sym (zero_cells old x k) ∙ ap (cells old k) (sym a)

pub copy_cells : (old new : List ℕ) → get_or old 0 0 ≡ 0 → get_or new 0 0 ≡ 0 → (k n m : ℕ) → IsCopy old new k n m → cells new k m ≡ cells old k n
copy_cells old new x y zero n m c = elim c [
  | inl a ↦ none_cells old new zero n m x y a.0 a.1
  | inr a ↦ ap block_cells a.1
]
copy_cells old new x y (suc k) n m c = elim c [
  | inl a ↦ none_cells old new (suc k) n m x y a.0 a.1
  | inr a ↦
      ap (λ (f : Cells). paired k f (cells new k (second_of (get_or new m 0)))) (copy_cells old new x y k _ _ a.2)
      ∙ ap (paired k (cells old k (first_of (get_or old n 0)))) (copy_cells old new x y k _ _ a.3)
]

-- a name has one copy
pub one_copy : (old new : List ℕ) → get_or old 0 0 ≡ 0 → IsDistinct new → (k n m p : ℕ) → IsCopy old new k n m → IsCopy old new k n p → m ≡ p
one_copy old new x d k n m p a b =
    one_set_one_name new d k m p (copy_stands old new k n m a) (copy_stands old new k n p b)
    (copy_cells old new x d.none_at_0 k n m a ∙ sym (copy_cells old new x d.none_at_0 k n p b))

-- ---- uses of copies
-- a use has a copy that is reached from a name
pub record UseCopy (old new : List ℕ) (depth root i n : ℕ) : Type 0 where
  pub name : ℕ
  pub copy : IsCopy old new i n name
  pub reached : has_use (uses_from new depth root) i name ≡ true

-- the copy of a name other than 0 is not 0
copy_some : (old new : List ℕ) (k n m : ℕ) → get_or new 0 0 ≡ 0 → n ≢ 0 → IsCopy old new k n m → m ≢ 0
copy_some old new k n m y h c e = copy_stored old new k n m h c (ap (λ (x : ℕ). get_or new x 0) e ∙ y)

-- the copy of a name is that of its own use
own_copy : (old new : List ℕ) (k r s i n : ℕ) → get_or new 0 0 ≡ 0 → r ≢ 0 → IsCopy old new k r s → same_key (i, n) (k, r) ≡ true → UseCopy old new k s i n
own_copy old new k r s i n y h c e =
    let p = same_both i n k r e in
    record {
      name = s;
      copy = subst (λ (x : ℕ). IsCopy old new x n s) (sym p.0) (subst (λ (x : ℕ). IsCopy old new k x s) (sym p.1) c);
      reached = subst (λ (x : ℕ). has_use (uses_from new k s) x s ≡ true) (sym p.0) (use-self new k s (copy_some old new k r s y h c));
    }

-- a use reached from a name has a copy reached from the name's copy, by induction on the depth: it is the name's own
-- use, or is reached from a name of its word, whose copy stands in the word of the copy
pub copy_use : (old new : List ℕ) → get_or new 0 0 ≡ 0 → (k r s : ℕ) → IsCopy old new k r s → (i n : ℕ) → has_use (uses_from old k r) i n ≡ true → UseCopy old new k s i n
copy_use old new y zero r s c i n e = let f = from-block old r i n e in own_copy old new 0 r s i n y f.0 c f.1
copy_use old new y (suc k) r s c i n e =
    let f = from-pair old k r i n e in
    let h = copy_some old new (suc k) r s y f.0 c in
    elim f.1 [
      | inl a ↦ own_copy old new (suc k) r s i n y f.0 c a
      | inr a ↦ elim c [
        | inl z ↦ absurd (f.0 z.0)
        | inr z ↦ elim a [
          | inl b ↦ let u = copy_use old new y k _ _ z.2 i n b in record { name = u.name; copy = u.copy; reached = use-first new k s i u.name h u.reached }
          | inr b ↦ let u = copy_use old new y k _ _ z.3 i n b in record { name = u.name; copy = u.copy; reached = use-second new k s i u.name h u.reached }
        ]
      ]
    ]

-- ---- names of uses
-- a use that is there has its name there
use-name : (us : List Use) (i n : ℕ) → has_use us i n ≡ true → list_any (has_name n) us ≡ true
use-name [] i n e = absurd (false≢true e)
use-name (u ∷ us) i n e = elim (or_cases (same_key (i, n) (u.depth, u.name)) _ e) [
  | inl a ↦ or_left (eqb u.name n) _ (eq-eqb u.name n (sym (same_both i n u.depth u.name a).1))
  | inr a ↦ or_right (eqb u.name n) _ (use-name us i n a)
]

-- what is reached from a name that stands is stored
pub uses_stored : (words : List ℕ) (k n : ℕ) → stands words k n ≡ true → (m : ℕ) → list_any (has_name m) (uses_from words k n) ≡ true → get_or words m 0 ≢ 0
uses_stored words zero n s m e = elim (cases_Bool (eqb n 0)) [
  | inl z ↦ absurd (false≢true (rw z at e))
  | inr z ↦
      let h : n ≢ 0 = λ q. false≢true (sym z ∙ eq-eqb n 0 q) in
      let f : (eqb n m || false) ≡ true = rw z at e in
      elim (or_cases (eqb n m) false f) [
        | inl a ↦ subst (λ (x : ℕ). get_or words x 0 ≢ 0) (eqb-true n m a) (stored_at words 0 n h s)
        | inr a ↦ absurd (false≢true a)
      ]
]
uses_stored words (suc k) n s m e = elim (cases_Bool (eqb n 0)) [
  | inl z ↦ absurd (false≢true (rw z at e))
  | inr z ↦
      let h : n ≢ 0 = λ q. false≢true (sym z ∙ eq-eqb n 0 q) in
      let us : List Use = uses_from words k (first_of (get_or words n 0)) in
      let vs : List Use = uses_from words k (second_of (get_or words n 0)) in
      let p = standing words k n h s in
      let f : (eqb n m || list_any (has_name m) (us ++ vs)) ≡ true = rw z at e in
      elim (or_cases (eqb n m) (list_any (has_name m) (us ++ vs)) f) [
        | inl a ↦ subst (λ (x : ℕ). get_or words x 0 ≢ 0) (eqb-true n m a) p.stored
        | inr a ↦ elim (or_cases (list_any (has_name m) us) (list_any (has_name m) vs) (sym (list_any-append (has_name m) us vs) ∙ a)) [
          | inl b ↦ uses_stored words k _ p.first m b
          | inr b ↦ uses_stored words k _ p.second m b
        ]
      ]
]

-- ---- relations
-- a relation with these sizes and this root
abbrev pub with_root : Rel → ℕ → Rel
with_root rel root = record { rows = rel.rows; cols = rel.cols; root = root }

same_rel : (a b : Rel) → b.rows ≡ a.rows → b.cols ≡ a.cols → b ≡ with_root a b.root
same_rel a b p q = λ t. record { rows = p t; cols = q t; root = b.root }

-- its root is a copy: it stands, and has the same set
pub same_set : (old new : List ℕ) (a : Rel) (root : ℕ) → get_or old 0 0 ≡ 0 → get_or new 0 0 ≡ 0 → stands_in old a ≡ true → IsCopy old new (root_depth a) a.root root
    → (stands_in new (with_root a root) ≡ true) × (relation_in new (with_root a root) ≡ relation_in old a)
unfolding stands_in relation_in
same_set old new a root x y s c =
    let e : root_cells new (with_root a root) ≡ root_cells old a = copy_cells old new x y (root_depth a) a.root root c in
    let p = and_parts _ _ s in
    let q = and_parts _ _ p.1 in
    let t : stands_in new (with_root a root) ≡ true =
    and_from _ _ p.0 (and_from _ _ (copy_stands old new (root_depth a) a.root root c) (subst (λ (f : Cells). lies_within (side_of (tree_height a.rows a.cols)) a.rows a.cols f ≡ true) (sym e) q.1)) in
    (t, cond-true (stands_in new (with_root a root)) _ None t ∙ ap (λ (f : Cells). Some (relation_of a.rows a.cols f)) e ∙ sym (cond-true (stands_in old a) _ None s))

-- the moved relations: each root is the copy of a root
pub record RootCopy (old new : List ℕ) (a b : Rel) : Type 0 where
  pub same_rows : b.rows ≡ a.rows
  pub same_cols : b.cols ≡ a.cols
  pub copy : IsCopy old new (root_depth a) a.root b.root
  pub standing : stands_in old a ≡ true

pub root_copy : (old : List ℕ) (keys : List (ℕ × ℕ)) (new names : List ℕ) (rels moved : List Rel) → AllStand old rels → AreCopies old keys new names → AreNamed keys names rels moved (length rels) → (k : ℕ) (d : Rel) → k < length rels
    → RootCopy old new (get_or rels k d) (get_or moved k d)
root_copy old keys new names rels moved s c a k d l =
    let p = a k d l in
    record { same_rows = p.0; same_cols = p.1; copy = named_copy old keys new names _ _ _ c.copies p.2; standing = s k d l }

pub root_moved : (old new : List ℕ) (a b : Rel) → get_or old 0 0 ≡ 0 → get_or new 0 0 ≡ 0 → RootCopy old new a b → IsMoved old new a b
root_moved old new a b x y r = record {
  same_rows = r.same_rows;
  same_cols = r.same_cols;
  same_set = ap (relation_in new) (same_rel a b r.same_rows r.same_cols) ∙ (same_set old new a b.root x y r.standing r.copy).1;
}

-- ---- what the moved relations reach
-- what they reach is stored
pub reached_stored : (old new : List ℕ) (rels moved : List Rel) → get_or old 0 0 ≡ 0 → get_or new 0 0 ≡ 0 → length moved ≡ length rels → ((k : ℕ) (d : Rel) → k < length rels → RootCopy old new (get_or rels k d) (get_or moved k d))
    → (n : ℕ) → is_reached new moved n ≡ true → get_or new n 0 ≢ 0
unfolding is_reached uses_of
reached_stored old new rels moved x y l c n e =
    let r = flat_map-any (has_name n) (uses_of new) moved e in
    let q = c r.place no_rel (let w = r.within in omega arith) in
    let p : Rel = get_or rels r.place no_rel in
    let b : Rel = get_or moved r.place no_rel in
    let s : stands_in new b ≡ true = subst (λ (z : Rel). stands_in new z ≡ true) (sym (same_rel p b q.same_rows q.same_cols)) (same_set old new p b.root x y q.standing q.copy).0 in
    uses_stored new (root_depth b) b.root (root_stands new b s) n (r.passes no_rel)

-- what is stored they reach
pub stored_reached : (old : List ℕ) (keys : List (ℕ × ℕ)) (new names : List ℕ) (rels moved : List Rel) → get_or old 0 0 ≡ 0 → AreCopies old keys new names → length names ≡ length keys → WalkedSome old rels (length rels) keys
    → length moved ≡ length rels → ((k : ℕ) (d : Rel) → k < length rels → RootCopy old new (get_or rels k d) (get_or moved k d)) → (n : ℕ) → get_or new n 0 ≢ 0 → is_reached new moved n ≡ true
unfolding is_reached uses_of
stored_reached old keys new names rels moved x a f w l c n h =
    let r = a.named n h in
    let d : ℕ × ℕ = (0, 0) in
    let k : ℕ = (get_or keys r.0 d).0 in
    let m : ℕ = (get_or keys r.0 d).1 in
    let there : has_key keys k m ≡ true = list_any_at (same_key (k, m)) keys r.0 d (let g = r.1 in omega arith) (same_self k m) in
    let u = flat_map-any (same_use (record { depth = k; name = m })) (uses_of old) rels (w.only k m there) in
    let q = c u.place no_rel u.within in
    let p : Rel = get_or rels u.place no_rel in
    let b : Rel = get_or moved u.place no_rel in
    let v = copy_use old new a.sound.distinct.none_at_0 (root_depth p) p.root b.root q.copy k m (u.passes no_rel) in
    let one : v.name ≡ n = one_copy old new x a.sound.distinct k m v.name (get_or names r.0 0) v.copy (a.copies r.0 d r.1) ∙ r.2 in
    let depth : root_depth b ≡ root_depth p = ap root_depth (same_rel p b q.same_rows q.same_cols) in
    let e : has_use (uses_from new (root_depth b) b.root) k v.name ≡ true = subst (λ (z : ℕ). has_use (uses_from new z b.root) k v.name ≡ true) (sym depth) v.reached in
    any-flat_map (has_name n) (uses_of new) moved u.place no_rel (let g = u.within in omega arith)
    (subst (λ (z : ℕ). list_any (has_name z) (uses_from new (root_depth b) b.root) ≡ true) one (use-name _ k v.name e))
