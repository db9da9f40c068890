use Rattle.std.proofs.Common.{◌≡◌, ◌≤◌, ◌*◌, ◌∙◌, max, ℕ, ap, subst, arith}
use Rattle.rel_model.specs.Relation.{Relation, size_limit}
use Rattle.rel_model.specs.Domains.{HasDomainCause, pairing}
use Rattle.rel_model.specs.declared.Rel.{Rel}
use Rattle.rel_model.specs.Worker.{set_of, derived_room}
use Rattle.rel_model.proofs.Workers.{gives_set}
use Rattle.rel_slices.specs.Thin.{value_of, value_cols}
use Rattle.rel_slices.proofs.Costs.{value_col_limit}
use Rattle.rel_values.proofs.Operating.{begun, goes_on}
use Rattle.rel_values.proofs.Forming.{same_three}
use Rattle.rel_values.proofs.Within.{ends_within, full_within, memory_within, pair_cost}
use Rattle.rel_values.proofs.domains.pair.Given.{Over}
use Rattle.rel_values.proofs.domains.pair.Goals.{After-two_whole}
use Rattle.rel_values.proofs.domains.pair.Goals as goal

-- the columns are within the limit
within : (g : Over) (c : After-two_whole g) → value_cols c.args.x.now * value_cols c.args.y.now ≤ size_limit
within g c =
    let a = c.shape_of.ensures.cols in
    let b = c.shape_of-2.ensures.cols in
    let p = ap (λ (z : ℕ). z * c.shape_of-2.result.cols) a in
    let q = ap (λ (z : ℕ). value_cols c.args.x.now * z) b in
    let f = c.if-wanted-from.false in
    let i = c.from.ensures in
    let j = c.from-2.ensures in
    let k = c.from-3.ensures in
    let u = ap (λ (z : ℕ). z * c.from-2.result) i in
    let v = ap (λ (z : ℕ). c.shape_of.result.cols * z) j in
    omega (arith, f, k, p, q, u, v)

pub returns-in-Ok : goal.returns-in-Ok
returns-in-Ok g c =
    let laws = g.met.E.Core in
    let engine = c.args.engine.now in
    let o = g.E.Core.worker engine in
    let x = c.args.x.now in
    let y = c.args.y.now in
    let p = pair_cost g.E.Core.least o x y g.met.E.Engine.leaf_height c.requires.left c.requires.right c.requires.rows (value_col_limit o x (laws.col_limit engine) c.requires.left.stands) (value_col_limit o y (laws.col_limit engine) c.requires.right.stands) in
    let w1 = g.E.Core.worker c.two_whole.new.engine in
    let l = within g (goal.at.returns-in-Ok g c).After-two_whole in
    let r = c.in-Ok.r in
    let s = c.in-Ok.s in
    let a = c.in-Ok.ensures in
    let d = c.fork.ensures in
    let i = a.first in
    let j = a.second in
    let cols : r.cols * s.cols ≡ value_cols x * value_cols y = ap (λ (z : ℕ). z * s.cols) i.col_size ∙ ap (λ (z : ℕ). value_cols x * z) j.col_size in
    let most : max r.cols s.cols ≡ max (value_cols x) (value_cols y) = ap (λ (z : ℕ). max z s.cols) i.col_size ∙ ap (max (value_cols x)) j.col_size in
    let q = same_three derived_room i.row_size most cols in
    let cause = subst (λ (z : ℕ). HasDomainCause {T = Rel} g.E.Core.lean z w1 (g.E.Core.worker c.fork.new.self) c.fork.result) cols d.cause in
    record {
      operates = ends_within _ c.fork.result c.whole_within.result c.whole_within.ensures.found c.whole_within.ensures.failed (goes_on _ (begun o) a.keeps a.room a.cause) d.keeps d.room (λ m. absurd (omega (arith, l, m))) cause d.value i.row_size cols
          (ap (λ (z : Relation). pairing z (set_of w1 s)) (gives_set _ _ _ _ _ i) ∙ ap (pairing (value_of o x)) (gives_set _ _ _ _ _ j)) (omega (arith, p, q));
    }

pub returns-in-Err-Full : goal.returns-in-Err-Full
returns-in-Err-Full g c =
    let laws = g.met.E.Core in
    let engine = c.args.engine.now in
    let o = g.E.Core.worker engine in
    let x = c.args.x.now in
    let y = c.args.y.now in
    let p = pair_cost g.E.Core.least o x y g.met.E.Engine.leaf_height c.requires.left c.requires.right c.requires.rows (value_col_limit o x (laws.col_limit engine) c.requires.left.stands) (value_col_limit o y (laws.col_limit engine) c.requires.right.stands) in
    let l = within g (goal.at.returns-in-Err-Full g c).After-two_whole in
    let d = c.in-Err-Full.ensures in
    let a = d.room in
    record { operates = full_within l c.in-Err-Full.field-0-is d.keeps (omega (arith, a, p)) d.cause }

pub returns-in-Err-NoMemory : goal.returns-in-Err-NoMemory
returns-in-Err-NoMemory g c =
    let laws = g.met.E.Core in
    let engine = c.args.engine.now in
    let o = g.E.Core.worker engine in
    let x = c.args.x.now in
    let y = c.args.y.now in
    let p = pair_cost g.E.Core.least o x y g.met.E.Engine.leaf_height c.requires.left c.requires.right c.requires.rows (value_col_limit o x (laws.col_limit engine) c.requires.left.stands) (value_col_limit o y (laws.col_limit engine) c.requires.right.stands) in
    let l = within g (goal.at.returns-in-Err-NoMemory g c).After-two_whole in
    let d = c.in-Err-NoMemory.ensures in
    let a = d.room in
    record { operates = memory_within l c.in-Err-NoMemory.field-0-is d.keeps (omega (arith, a, p)) d.cause }
