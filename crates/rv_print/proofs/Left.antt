-- Relations by their pairs, for callers of the texts from pairs.
use Rattle.std.proofs.Common.{◌≡◌, ◌∙◌, ℕ, List, sym, ap}
use Rattle.rel_model.specs.Relation.{Relation}
use Rattle.rv_print.specs.Listed.{with_pairs}

-- a relation is the one of its sizes with its pairs
pub with_pairs-same : (r : Relation) (rows cols : ℕ) (ps : List (ℕ × ℕ))
    → r.rows ≡ rows → r.cols ≡ cols → ps ≡ r.pairs → with_pairs rows cols ps ≡ r
with_pairs-same r rows cols ps e f p =
    ap (λ (n : ℕ). with_pairs n cols ps) (sym e) ∙ ap (λ (n : ℕ). with_pairs r.rows n ps) (sym f)
    ∙ ap (with_pairs r.rows r.cols) p
