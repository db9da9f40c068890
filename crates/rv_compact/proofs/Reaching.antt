-- What a list of relations reaches, relation by relation.
use Rattle.std.proofs.Common.{◌≡◌, ◌<◌, ◌+◌, zero, suc, ℕ, Bool, true, List, [], ◌∷◌, length, get_or, sym, subst, ap, ◌∙◌, inl, inr, arith}
use Rattle.std.specs.List.{list_any, flat_map}
use Rattle.std.proofs.lemmas.Bool.{false≢true, cases_lt, and_parts, or_cases, or_left, or_right}
use Rattle.std.proofs.lemmas.List.Folds.{list_any-append}
use Rattle.std.proofs.lemmas.List.{get_or_default}
use Rattle.rel_model.specs.declared.Rel.{Rel}
use Rattle.rel_model.specs.Trees.{stands}
use Rattle.rel_model.specs.Roots.{stands_in}
use Rattle.rel_model.specs.Uses.{Use, uses_of}
use Rattle.rv_compact.specs.Walks.{IsListed, Walked, WalkedSome, root_depth}
use Rattle.rv_compact.proofs.Walking.{listed_on}

-- ---- tests on lists of lists
-- a test that a list passes
pub any-flat_map : {X : Type 0} (p : Use → Bool) (f : X → List Use) (xs : List X) (i : ℕ) (d : X) → i < length xs → list_any p (f (get_or xs i d)) ≡ true → list_any p (flat_map f xs) ≡ true
any-flat_map p f [] i d l e = absurd (omega arith)
any-flat_map p f (x ∷ xs) zero d l e = list_any-append p (f x) (flat_map f xs) ∙ or_left _ _ e
any-flat_map p f (x ∷ xs) (suc i) d l e = list_any-append p (f x) (flat_map f xs) ∙ or_right _ _ (any-flat_map p f xs i d (omega arith) e)

-- the list that passes it
pub record Passes {X : Type 0} (p : Use → Bool) (f : X → List Use) (xs : List X) : Type 0 where
  pub place : ℕ
  pub within : place < length xs
  pub passes : (d : X) → list_any p (f (get_or xs place d)) ≡ true

pub flat_map-any : {X : Type 0} (p : Use → Bool) (f : X → List Use) (xs : List X) → list_any p (flat_map f xs) ≡ true → Passes p f xs
flat_map-any p f [] e = absurd (false≢true e)
flat_map-any p f (x ∷ xs) e = elim (or_cases _ _ (sym (list_any-append p (f x) (flat_map f xs)) ∙ e)) [
  | inl a ↦ record { place = 0; within = omega arith; passes = λ d. a }
  | inr a ↦ let r = flat_map-any p f xs a in record { place = suc r.place; within = (let w = r.within in omega arith); passes = r.passes }
]

-- ---- roots
-- the root of a relation that stands stands
pub root_stands : (words : List ℕ) (rel : Rel) → stands_in words rel ≡ true → stands words (root_depth rel) rel.root ≡ true
unfolding stands_in
root_stands words rel e = (and_parts _ _ (and_parts _ _ e).1).0

-- ---- the walk over relations
-- what is read past the end
abbrev pub no_rel : Rel
no_rel = record { rows = 0; cols = 0; root = 0 }

pub none_walked : (words : List ℕ) (rels : List Rel) (keys : List (ℕ × ℕ)) → keys ≡ [] → WalkedSome words rels 0 keys
none_walked words rels keys e = subst (WalkedSome words rels 0) (sym e) (record {
  closed = λ i d l. absurd (omega arith);
  roots = λ k d l. absurd (omega arith);
  only = λ k n h. absurd (false≢true h);
})

-- the walk of one more relation keeps what is listed, lists its root, and adds only uses that this relation reaches
pub some_walked : (words : List ℕ) (rels : List Rel) (i : ℕ) (x : Rel) (old new : List (ℕ × ℕ)) → i < length rels → WalkedSome words rels i old
    → Walked words (root_depth (get_or rels i x)) (get_or rels i x).root old new → WalkedSome words rels (i + 1) new
unfolding uses_of
some_walked words rels i x old new l w v = record {
  closed = v.closed;
  roots = λ k d h. elim (cases_lt k i) [
    | inl a ↦ listed_on old new _ _ v.kept (w.roots k d a)
    | inr a ↦ let P : Rel → Type 0 = λ r. IsListed new (root_depth r) r.root in
        subst P (get_or_default rels i x d l ∙ ap (λ (j : ℕ). get_or rels j d) (let e : i ≡ k = omega arith in e)) v.listed
  ];
  only = λ k n h. elim (v.adds k n h) [
    | inl a ↦ w.only k n a
    | inr a ↦ any-flat_map _ (uses_of words) rels i x l a
  ];
}
