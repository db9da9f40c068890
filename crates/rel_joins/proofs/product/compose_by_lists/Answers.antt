use Rattle.std.proofs.Common.{◌≡◌, ◌<◌, ◌∙◌, ℕ, List, sym, ap, subst, arith, length}
use Rattle.std.specs.Prelude.{IfOk, IfSome}
use Rattle.std.specs.List.{AllByRecursion}
use Rattle.rel_model.specs.Algebra.{HasType}
use Rattle.rel_model.specs.Relation.{Relation}
use Rattle.rel_model.specs.Worker.{set_of, Gives}
use Rattle.rel_model.proofs.Grid.{all-weaker}
use Rattle.rel_model.proofs.Workers.{keeps_set, keeps_stands, keeps_trans}
use Rattle.rel_joins.specs.Joins.{AreJoined}
use Rattle.rel_joins.proofs.Joins.{joined_same}
use Rattle.rel_joins.proofs.Products.{joined_within, joined_is, joined_room}
use Rattle.rel_joins.proofs.product.compose_by_lists.Given.{Over}
use Rattle.rel_joins.proofs.product.compose_by_lists.Goals.{In-Some-join}
use Rattle.rel_joins.proofs.product.compose_by_lists.Goals as goal

pub join-requires-clause-ends : goal.join-requires-clause-ends
join-requires-clause-ends g c =
    let core = g.met.Q.Core in
    let r = c.args.r in
    let v = g.Q.Core.worker c.pays.new.q in
    let stands = keeps_stands (g.Q.Core.worker c.args.q.now) v r c.pays.ensures.reads.keeps c.requires.left in
    let size = core.col_size c.pays.new.q r stands in
    subst (AllByRecursion (λ (p : ℕ × ℕ). p.1 < r.cols)) (sym (c.deref.ensures.value ∙ c.in-Some-pairs_within.ensures.value))
    (all-weaker (λ p. (p.0 < (set_of v r).rows) × (p.1 < (set_of v r).cols)) (λ p. p.1 < r.cols) (λ p h. subst (λ n. p.1 < n) size h.1) (set_of v r).pairs (core.valid c.pays.new.q r stands).within)

-- the operands have their types, and the list has what is joined of their pairs
record Done (g : Over) (c : In-Some-join g) (xs : List (ℕ × ℕ)) : Type 0 where
  left : HasType c.args.r.rows c.args.r.cols (set_of (g.Q.Core.worker c.args.q.now) c.args.r)
  right : HasType c.args.r.cols c.args.s.cols (set_of (g.Q.Core.worker c.args.q.now) c.args.s)
  joined : AreJoined (set_of (g.Q.Core.worker c.args.q.now) c.args.r).pairs (set_of (g.Q.Core.worker c.args.q.now) c.args.s).pairs xs

done : (g : Over) (c : In-Some-join g) (xs : List (ℕ × ℕ)) → xs ≡ c.in-Some-join.joined.items → Done g c xs
done g c xs e =
    let core = g.met.Q.Core in
    let q = c.args.q.now in
    let r = c.args.r in
    let s = c.args.s in
    let u = g.Q.Core.worker q in
    let v = g.Q.Core.worker c.pays.new.q in
    let w = g.Q.Core.worker c.pairs_within.new.q in
    let first = c.pays.ensures.reads.keeps in
    let second = keeps_trans u v w first c.in-Some-pairs_within.ensures.reads.keeps in
    record {
      left = record { valid = core.valid q r c.requires.left; row_size = core.row_size q r c.requires.left; col_size = core.col_size q r c.requires.left };
      right = record { valid = core.valid q s c.requires.right; row_size = core.row_size q s c.requires.right ∙ sym c.requires.middle; col_size = core.col_size q s c.requires.right };
      joined = joined_same
          (c.deref.ensures.value ∙ c.in-Some-pairs_within.ensures.value ∙ ap (λ (x : Relation). x.pairs) (keeps_set u v r first c.requires.left))
          (c.deref-2.ensures.value ∙ c.in-Some-pairs_within-2.ensures.value ∙ ap (λ (x : Relation). x.pairs) (keeps_set u w s second c.requires.right))
          e c.in-Some-join.ensures.joined;
    }

pub from_pairs_or_none-requires-clause-within : goal.from_pairs_or_none-requires-clause-within
from_pairs_or_none-requires-clause-within g c =
    let a = c.args in
    let u = g.Q.Core.worker a.q.now in
    let d = done g (goal.at.from_pairs_or_none-requires-clause-within g c).In-Some-join c.deref-3.result.now c.deref-3.ensures.value in
    joined_within a.r.rows a.r.cols a.s.cols (set_of u a.r) (set_of u a.s) c.deref-3.result.now d.left d.right d.joined

pub returns-clause-value : goal.returns-clause-value
returns-clause-value g c =
    let a = c.args in
    let u = g.Q.Core.worker a.q.now in
    let d = done g (goal.at.returns-clause-value g c).In-Some-join c.deref-3.result.now c.deref-3.ensures.value in
    subst (λ (x : Relation). IfOk c.from_pairs_or_none.result (λ given. IfSome given (Gives (g.Q.Core.worker c.from_pairs_or_none.new.q) a.r.rows a.s.cols x)))
    (joined_is a.r.rows a.r.cols a.s.cols (set_of u a.r) (set_of u a.s) c.deref-3.result.now d.left d.right d.joined) c.from_pairs_or_none.ensures.value

pub returns-clause-room : goal.returns-clause-room
returns-clause-room g c =
    let a = c.args in
    let few = c.in-Some-join.ensures.few in
    let size = ap length c.deref-3.ensures.value in
    let room = joined_room (length c.deref-3.result.now) g.Q.Core.least a.r.rows a.r.cols a.s.cols (omega (arith, few, size)) c.in-Some.ensures.large (g.met.Q.Core.row_limit a.q.now a.r c.requires.left) g.met.Q.Quads.least_limit in
    omega (arith, room, c.pays.ensures.reads.room, c.in-Some-pairs_within.ensures.reads.room, c.in-Some-pairs_within-2.ensures.reads.room, c.from_pairs_or_none.ensures.few)
