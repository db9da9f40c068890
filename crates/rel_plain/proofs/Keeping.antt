-- What stands after a relation is kept.
use Rattle.std.proofs.Common.{◌≡◌, ℕ, cond, List, [], ◌∷◌, ◌++◌, length, Some, None, refl, sym, ap, ◌∙◌, zero, suc}
use Rattle.std.proofs.lemmas.Bool.{and_from, eq-eqb, le-leb}
use Rattle.std.specs.Prelude.{slice_get, option_and_then}
use Rattle.rel_model.specs.declared.Rel.{Rel}
use Rattle.rel_model.specs.Relation.{Relation, has, relation_of, size_limit}
use Rattle.rel_model.specs.Worker.{Stands}
use Rattle.rel_plain.specs.Kept.{IsKept, kept_as, relation_at, worker_of}
use Rattle.rel_plain.specs.KeptLaws.{standing}

slice_get-push : {X : Type 0} (xs : List X) (x : X) → slice_get (xs ++ x ∷ []) (length xs) ≡ Some x
slice_get-push [] x = refl
slice_get-push (y ∷ xs) x = slice_get-push xs x

slice_get-append : {X : Type 0} (xs ys : List X) (i : ℕ) (x : X) → slice_get xs i ≡ Some x → slice_get (xs ++ ys) i ≡ Some x
slice_get-append [] ys i x h = cc
slice_get-append (y ∷ xs) ys zero x h = h
slice_get-append (y ∷ xs) ys (suc i) x h = slice_get-append xs ys i x h

-- what stood stands
pub relation_at-push : (ks : List Relation) (k : Relation) (r : Rel) → Stands (worker_of ks) r → relation_at (ks ++ k ∷ []) r ≡ relation_at ks r
unfolding relation_at
relation_at-push ks k r h =
    let s = standing ks r h in
    ap (option_and_then (kept_as r)) (slice_get-append ks (k ∷ []) r.root s.kept s.at ∙ sym s.at)

-- what is kept stands
pub relation_at-last : (ks : List Relation) (k : Relation) (n : ℕ) → IsKept k → n ≡ length ks → relation_at (ks ++ k ∷ []) (record { rows = k.rows; cols = k.cols; root = n }) ≡ Some (relation_of k.rows k.cols (has k))
unfolding relation_at
relation_at-last ks k n v e =
    let r : Rel = record { rows = k.rows; cols = k.cols; root = n } in
    ap (option_and_then (kept_as r)) (ap (slice_get (ks ++ k ∷ [])) e ∙ slice_get-push ks k)
    ∙ ap (λ t. cond t (Some (relation_of k.rows k.cols (has k))) None)
    (and_from _ _ (and_from _ _ (and_from _ _ (eq-eqb k.rows k.rows refl) (eq-eqb k.cols k.cols refl)) (le-leb k.rows size_limit v.row_limit)) (le-leb k.cols size_limit v.col_limit))
