use Rattle.std.proofs.Common.{◌∙◌, ℕ, ap, arith}
use Rattle.rel_model.specs.Relation.{Relation}
use Rattle.rel_model.specs.Choice.{holds, count_below, inj}
use Rattle.rel_model.specs.Worker.{set_of, height_of_three}
use Rattle.rel_model.proofs.Workers.{gives_set}
use Rattle.rel_steps.proofs.Rooms.{as_high}
use Rattle.rel_slices.specs.Thin.{value_rows, value_cols}
use Rattle.rel_values.proofs.Operating.{begun, called, stops, ends_rel}
use Rattle.rel_values.proofs.Sizes.{chosen_room}
use Rattle.rel_values.proofs.choice.inj.Goals as goal

pub returns-in_err-all : goal.returns-in_err-all
returns-in_err-all g c =
    let a = c.in_err-all.ensures in
    let r = chosen_room g.E.Core.least (g.E.Core.worker c.args.engine.now) c.args.v.now 1 1 1 g.met.E.Engine.leaf_height c.requires.fits (omega arith) (omega arith) (omega arith) in
    record { operates = stops _ c.from_residual.result c.from_residual.ensures.1 (omega (arith, r)) (begun _) a.keeps a.room a.cause }

pub returns : goal.returns
returns g c =
    let v = c.args.v.now in
    let h : ℕ = height_of_three (value_rows v) (value_cols v) 1 in
    let a = c.in_ok-all.ensures in
    let b = c.inj.ensures in
    let r = chosen_room g.E.Core.least (g.E.Core.worker c.args.engine.now) v _ _ _ g.met.E.Engine.leaf_height c.requires.fits (as_high _ (value_rows v) h a.value.row_size (omega arith)) (as_high _ (value_cols v) h a.value.col_size (omega arith)) (as_high _ (value_cols v) h a.value.col_size (omega arith)) in
    let e = gives_set _ _ _ _ _ a.value in
    record { operates = ends_rel _ c.inj.result c.stays_whole.result c.stays_whole.ensures.found c.stays_whole.ensures.failed (called a.keeps a.room a.cause) b.keeps b.room b.cause b.value (ap (λ (x : ℕ). count_below x (holds (set_of (g.E.Core.worker c.whole.new.core) c.in_ok-all.all))) a.value.row_size ∙ ap (λ (x : Relation). count_below (value_rows v) (holds x)) e) a.value.row_size (ap inj e) (omega (arith, r)) }
