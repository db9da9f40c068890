use Rattle.std.proofs.Common.{◌≡◌, length, refl, sym, subst, arith}
use Rattle.rel_model.specs.Worker.{Stands}
use Rattle.rel_model.specs.Relation.{Relation}
use Rattle.rel_plain.specs.Kept.{worker_of}
use Rattle.rel_plain.proofs.Keeping.{relation_at-push, relation_at-last}
use Rattle.rel_plain.proofs.plain.Plain.keep.Goals as goal

pub returns-clause-value : goal.returns-clause-value
returns-clause-value c =
    let k : Relation = record { rows = c.args.rows; cols = c.args.cols; pairs = c.args.pairs.items } in
    let e : c.in-Ok.root ≡ length c.self.inside.kept.items = omega (arith, c.in-Ok.ensures.1) in
    record {
      means = rw (c.in_ok-push.ensures.items, c.new.ensures) (relation_at-last c.self.inside.kept.items k c.in-Ok.root c.requires e);
      row_size = refl;
      col_size = refl;
    }

pub returns-clause-keeps : goal.returns-clause-keeps
returns-clause-keeps c =
    let k : Relation = record { rows = c.args.rows; cols = c.args.cols; pairs = c.args.pairs.items } in
    record {
      same = λ r h. rw (c.in_ok-push.ensures.items, c.new.ensures, ← c.self.view_is) (relation_at-push c.self.inside.kept.items k r (subst (λ ks. Stands (worker_of ks) r) (sym c.self.view_is) h));
      same_quads = λ q h. refl;
      house = refl;
      spare = refl;
      misses = omega arith;
      made = omega arith;
    }
