use Rattle.std.proofs.Common.{◌≡◌, ◌∙◌, ℕ, List, sym, ap, subst, arith, length}
use Rattle.std.specs.Prelude.{IfOk, IfSome}
use Rattle.rel_model.specs.Algebra.{HasType}
use Rattle.rel_model.specs.Listed.{AreWithin}
use Rattle.rel_model.specs.Relation.{Relation}
use Rattle.rel_model.specs.Worker.{set_of, Gives}
use Rattle.rel_joins.specs.Reaches.{AreClosed}
use Rattle.rel_joins.proofs.Closed.{closed_within, closed_given, closed_same, closed_room}
use Rattle.rel_joins.proofs.closure.close_by_search.Given.{Over}
use Rattle.rel_joins.proofs.closure.close_by_search.Goals.{In-Some}
use Rattle.rel_joins.proofs.closure.close_by_search.Goals as goal

-- the operand has its type, and the list has the pairs of its closure
record Done (g : Over) (c : In-Some g) (xs : List (ℕ × ℕ)) : Type 0 where
  is : HasType c.args.r.rows c.args.r.rows (set_of (g.Q.Core.worker c.args.q.now) c.args.r)
  closed : AreClosed c.args.r.rows (set_of (g.Q.Core.worker c.args.q.now) c.args.r).pairs xs

done : (g : Over) (c : In-Some g) (xs : List (ℕ × ℕ)) → xs ≡ c.in-Some.closed.items → Done g c xs
done g c xs e =
    let core = g.met.Q.Core in
    let q = c.args.q.now in
    let r = c.args.r in
    record {
      is = record { valid = core.valid q r c.requires.standing; row_size = core.row_size q r c.requires.standing; col_size = core.col_size q r c.requires.standing ∙ sym c.requires.square };
      closed = closed_same r.rows c.requires.is e c.in-Some.ensures.closed;
    }

pub from_pairs_or_none-requires-clause-within : goal.from_pairs_or_none-requires-clause-within
from_pairs_or_none-requires-clause-within g c =
    let a = c.args in
    let d = done g (goal.at.from_pairs_or_none-requires-clause-within g c).In-Some c.deref.result.now c.deref.ensures.value in
    subst (λ (n : ℕ). AreWithin a.r.rows n c.deref.result.now) c.requires.square
    (closed_within a.r.rows (set_of (g.Q.Core.worker a.q.now) a.r) c.deref.result.now d.is d.closed)

pub returns-clause-value : goal.returns-clause-value
returns-clause-value g c =
    let a = c.args in
    let u = g.Q.Core.worker a.q.now in
    let d = done g (goal.at.returns-clause-value g c).In-Some c.deref.result.now c.deref.ensures.value in
    subst (λ (x : Relation). IfOk c.from_pairs_or_none.result (λ given. IfSome given (Gives (g.Q.Core.worker c.from_pairs_or_none.new.q) a.r.rows a.r.cols x)))
    (closed_given a.r.rows a.r.cols (set_of u a.r) c.deref.result.now c.requires.square d.is d.closed) c.from_pairs_or_none.ensures.value

pub returns-clause-room : goal.returns-clause-room
returns-clause-room g c =
    let a = c.args in
    let few = c.in-Some.ensures.few in
    let size = ap length c.deref.ensures.value in
    let room = closed_room (length c.deref.result.now) g.Q.Core.least a.r.rows a.r.cols (omega (arith, few, size)) c.requires.large (g.met.Q.Core.row_limit a.q.now a.r c.requires.standing) g.met.Q.Quads.least_limit c.requires.square in
    omega (arith, room, c.from_pairs_or_none.ensures.few)
