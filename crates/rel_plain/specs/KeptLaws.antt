-- What stands satisfies the laws of the trait.
use Rattle.std.proofs.Common.{◌≡◌, ◌≤◌, ◌&&◌, Bool, true, false, cond, eqb, leb, List, [], Option, Some, None, refl, sym, ap, subst, ◌∙◌}
use Rattle.std.proofs.lemmas.Bool.{and_parts, eqb-true, leb-true, false≢true}
use Rattle.std.specs.Prelude.{IsSome, slice_get, unwrap_or, option_and_then}
use Rattle.rel_model.specs.declared.Rel.{Rel}
use Rattle.rel_model.specs.Relation.{Relation, IsRelation, has, relation_of, size_limit}
use Rattle.rel_model.specs.Worker.{Stands, set_of}
use Rattle.rel_model.proofs.Relations.{IsRelation-relation_of, rows-relation_of, cols-relation_of}
use Rattle.rel_plain.specs.Kept.{kept_as, relation_at, worker_of}

-- what a relation that stands is
pub record Standing (ks : List Relation) (r : Rel) : Type 0 where
  pub kept : Relation
  pub at : slice_get ks r.root ≡ Some kept
  pub rows : kept.rows ≡ r.rows
  pub cols : kept.cols ≡ r.cols
  pub row_limit : r.rows ≤ size_limit
  pub col_limit : r.cols ≤ size_limit
  pub means : relation_at ks r ≡ Some (relation_of r.rows r.cols (has kept))

-- a relation that stands is a kept one of its sizes, within the limit
pub standing : (ks : List Relation) (r : Rel) → Stands (worker_of ks) r → Standing ks r
unfolding relation_at
standing ks r h = by_place (slice_get ks r.root) refl h
  where
    by_test : (k : Relation) → slice_get ks r.root ≡ Some k → (b : Bool)
        → ((eqb k.rows r.rows && eqb k.cols r.cols) && leb r.rows size_limit) && leb r.cols size_limit ≡ b
        → IsSome (cond b (Some (relation_of r.rows r.cols (has k))) None) → Standing ks r
    by_test k at true e s =
        let a = and_parts _ _ e in
        let b = and_parts _ _ a.0 in
        let c = and_parts _ _ b.0 in
        record {
          kept = k;
          at = at;
          rows = eqb-true _ _ c.0;
          cols = eqb-true _ _ c.1;
          row_limit = leb-true r.rows size_limit b.1;
          col_limit = leb-true r.cols size_limit a.1;
          means = ap (option_and_then (kept_as r)) at ∙ ap
              (λ t. cond t (Some (relation_of r.rows r.cols (has k))) None) e;
        }
    by_test k at false e s = absurd (false≢true s)

    by_place : (o : Option Relation) → slice_get ks r.root ≡ o → IsSome (option_and_then (kept_as r) o) → Standing ks r
    by_place None at s = absurd (false≢true s)
    by_place (Some k) at s = by_test k at _ refl s

-- its set is the kept one, by membership
set_is : (ks : List Relation) (r : Rel) (s : Standing ks r)
    → set_of (worker_of ks) r ≡ relation_of r.rows r.cols (has s.kept)
set_is ks r s = ap (λ o. unwrap_or o (record { rows = 0; cols = 0; pairs = [] })) s.means

-- what stands is a relation
pub valid_law : (ks : List Relation) (r : Rel) → Stands (worker_of ks) r → IsRelation (set_of (worker_of ks) r)
valid_law ks r h = let s = standing ks r h in subst IsRelation (sym (set_is ks r s))
    (IsRelation-relation_of r.rows r.cols (has s.kept))

-- it has as many rows as it claims
pub rows_law : (ks : List Relation) (r : Rel) → Stands (worker_of ks) r → (set_of (worker_of ks) r).rows ≡ r.rows
rows_law ks r h = let s = standing ks r h in ap (λ x. x.rows) (set_is ks r s)
    ∙ rows-relation_of r.rows r.cols (has s.kept)

-- it has as many columns as it claims
pub cols_law : (ks : List Relation) (r : Rel) → Stands (worker_of ks) r → (set_of (worker_of ks) r).cols ≡ r.cols
cols_law ks r h = let s = standing ks r h in ap (λ x. x.cols) (set_is ks r s)
    ∙ cols-relation_of r.rows r.cols (has s.kept)

-- its rows are within the limit
pub row_limit_law : (ks : List Relation) (r : Rel) → Stands (worker_of ks) r → r.rows ≤ size_limit
row_limit_law ks r h = (standing ks r h).row_limit

-- its columns are within the limit
pub col_limit_law : (ks : List Relation) (r : Rel) → Stands (worker_of ks) r → r.cols ≤ size_limit
col_limit_law ks r h = (standing ks r h).col_limit
