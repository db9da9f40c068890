use Rattle.std.proofs.Common.{◌≡◌, ◌∙◌, ap, sym, subst, ℕ, List}
use Rattle.rel_model.specs.Relation.{has, relation_of}
use Rattle.rel_model.specs.Worker.{set_of}
use Rattle.rel_plain.specs.Kept.{IsKept, worker_of}
use Rattle.rel_plain.specs.KeptLaws.{rows_law, cols_law}
use Rattle.rel_plain.proofs.Stored.{stored}
use Rattle.rel_plain.proofs.Operating.{gives_same}
use Rattle.rel_plain.proofs.Composing.{compose_is, IsKept-composed}
use Rattle.rel_plain.proofs.plain.PlainCore.compose.Goals as goal

-- the second list under the columns of the first
kept_below : (l k n : ℕ) (ps : List (ℕ × ℕ)) → l ≡ k → IsKept (stored k n ps) → IsKept (stored l n ps)
kept_below l k n ps e h = subst (λ (x : ℕ). IsKept (stored x n ps)) (sym e) h

means_below : (l k n : ℕ) (ps : List (ℕ × ℕ)) → l ≡ k → relation_of k n (has (stored k n ps)) ≡ relation_of l n (has (stored l n ps))
means_below l k n ps e = ap (λ (x : ℕ). relation_of x n (has (stored x n ps))) (sym e)

pub keep-requires : goal.keep-requires
keep-requires c =
    IsKept-composed c.args.r.rows c.args.r.cols c.args.s.cols c.pairs_of.result.now c.pairs_of-2.result.now c.in_ok-pairs.pairs.items c.pairs_of.ensures.kept
    (kept_below c.args.r.cols c.args.s.rows c.args.s.cols c.pairs_of-2.result.now c.requires.middle c.pairs_of-2.ensures.kept) c.in_ok-pairs.ensures

pub returns-clause-value : goal.returns-clause-value
returns-clause-value c =
    gives_same _ _ _ c.keep.result _ _
    (compose_is c.args.r.rows c.args.r.cols c.args.s.cols c.pairs_of.result.now c.pairs_of-2.result.now c.in_ok-pairs.pairs.items (set_of (worker_of c.args.self.now) c.args.r) (set_of (worker_of c.args.self.now) c.args.s)
    c.pairs_of.ensures.kept c.in_ok-pairs.ensures c.pairs_of.ensures.means (c.pairs_of-2.ensures.means ∙ means_below c.args.r.cols c.args.s.rows c.args.s.cols c.pairs_of-2.result.now c.requires.middle)
    (rows_law c.args.self.now c.args.r c.requires.left) (cols_law c.args.self.now c.args.r c.requires.left) (cols_law c.args.self.now c.args.s c.requires.right)) c.keep.ensures.value
