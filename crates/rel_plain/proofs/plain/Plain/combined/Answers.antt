use Rattle.std.proofs.Common.{◌≡◌, sym, ap, subst, ◌∙◌, IfOk, ℕ, List}
use Rattle.rel_model.specs.Relation.{Relation, has, relation_of}
use Rattle.rel_model.specs.Worker.{Gives, set_of}
use Rattle.rel_plain.specs.Kept.{IsKept, worker_of}
use Rattle.rel_plain.specs.Merge.{picked}
use Rattle.rel_plain.proofs.Merging.{IsKept-IsMerge, relation_of-IsMerge}
use Rattle.rel_plain.proofs.plain.Plain.combined.Goals as goal

-- the second list under the sizes of the first
abbrev second : ℕ → ℕ → List (ℕ × ℕ) → Relation
second m n ps = record { rows = m; cols = n; pairs = ps }

second_kept : (m n p q : ℕ) (ps : List (ℕ × ℕ)) → m ≡ p → n ≡ q → IsKept (second p q ps) → IsKept (second m n ps)
second_kept m n p q ps e f h = subst (λ x. IsKept (second x n ps)) (sym e) (subst (λ y. IsKept (second p y ps)) (sym f) h)

second_means : (m n p q : ℕ) (ps : List (ℕ × ℕ)) → m ≡ p → n ≡ q → relation_of p q (has (second p q ps)) ≡ relation_of m n (has (second m n ps))
second_means m n p q ps e f = ap (λ x. relation_of x q (has (second x q ps))) (sym e) ∙ ap (λ y. relation_of m y (has (second m y ps))) (sym f)

pub keep-requires : goal.keep-requires
keep-requires c =
    IsKept-IsMerge c.args.part c.args.r.rows c.args.r.cols c.pairs_of.result.now c.pairs_of-2.result.now c.in_ok-pairs.pairs.items c.in_ok-pairs.ensures c.pairs_of.ensures.kept
    (second_kept c.args.r.rows c.args.r.cols c.args.s.rows c.args.s.cols c.pairs_of-2.result.now c.requires.rows c.requires.cols c.pairs_of-2.ensures.kept)

pub returns-clause-value : goal.returns-clause-value
returns-clause-value c =
    let m = c.args.r.rows in
    let n = c.args.r.cols in
    let e : relation_of m n (has (second m n c.in_ok-pairs.pairs.items)) ≡ relation_of m n (λ i j. picked c.args.part (has (set_of (worker_of c.args.self.now) c.args.r) i j) (has (set_of (worker_of c.args.self.now) c.args.s) i j)) =
    relation_of-IsMerge c.args.part m n c.pairs_of.result.now c.pairs_of-2.result.now c.in_ok-pairs.pairs.items c.in_ok-pairs.ensures
    (set_of (worker_of c.args.self.now) c.args.r) (set_of (worker_of c.args.self.now) c.args.s) c.pairs_of.ensures.means
    (c.pairs_of-2.ensures.means ∙ second_means m n c.args.s.rows c.args.s.cols c.pairs_of-2.result.now c.requires.rows c.requires.cols) in
    subst (λ v. IfOk c.keep.result (Gives (worker_of c.keep.new.self) m n v)) e c.keep.ensures.value
