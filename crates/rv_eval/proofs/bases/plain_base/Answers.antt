use Rattle.std.proofs.Common.{◌∙◌, sym, refl}
use Rattle.rel_model.specs.Operators.{full, empty}
use Rattle.rel_model.specs.Choice.{dom, ran, atom}
use Rattle.lang_model.specs.Rooms.{plain_cost, wide_cost}
use Rattle.lang_model.specs.Outcomes.{Makes}
use Rattle.lang_model.specs.Mean.{based}
use Rattle.rv_eval.proofs.Costing.{plain_of, column_plain, row_plain, wide_by}
use Rattle.rv_eval.proofs.Testing.{empty_test}
use Rattle.rv_eval.proofs.Basing.{base_as, base_is, other_base}
use Rattle.rv_eval.proofs.Performing.{lifted_performs, tested_still, tested_read, truth_performs, performs_as}
use Rattle.rv_eval.proofs.bases.plain_base.Goals as goal

pub returns-in-L : goal.returns-in-L
unfolding based
returns-in-L g c =
    let s = c.shape_in-shape.ensures in
    let is = base_is c.args.at (λ r m n. Makes (full m n) (plain_cost m n)) s.typed c.in-L.is refl in
    lifted_performs is c.lift.ensures (plain_of g.E.Core.least _ _ _ _ refl refl) c.full.ensures.operates

pub returns-in-O : goal.returns-in-O
unfolding based
returns-in-O g c =
    let s = c.shape_in-shape.ensures in
    let is = base_is c.args.at (λ r m n. Makes (empty m n) (plain_cost m n)) s.typed c.in-O.is refl in
    lifted_performs is c.lift-in-O.ensures (plain_of g.E.Core.least _ _ _ _ refl refl) c.empty.ensures.operates

pub returns-in-Ln1 : goal.returns-in-Ln1
unfolding based
returns-in-Ln1 g c =
    let s = c.shape_in-shape.ensures in
    let is = base_is c.args.at (λ r m n. Makes (full m 1) (plain_cost m n)) s.typed c.in-Ln1.is refl in
    lifted_performs is c.lift-in-Ln1.ensures (column_plain g.E.Core.least _ _) c.full-in-Ln1.ensures.operates

pub returns-in-On1 : goal.returns-in-On1
unfolding based
returns-in-On1 g c =
    let s = c.shape_in-shape.ensures in
    let is = base_is c.args.at (λ r m n. Makes (empty m 1) (plain_cost m n)) s.typed c.in-On1.is refl in
    lifted_performs is c.lift-in-On1.ensures (column_plain g.E.Core.least _ _) c.empty-in-On1.ensures.operates

pub returns-in-L1n : goal.returns-in-L1n
unfolding based
returns-in-L1n g c =
    let s = c.shape_in-shape.ensures in
    let is = base_is c.args.at (λ r m n. Makes (full 1 n) (plain_cost m n)) s.typed c.in-L1n.is refl in
    lifted_performs is c.lift-in-L1n.ensures (row_plain g.E.Core.least _ _) c.full-in-L1n.ensures.operates

pub returns-in-O1n : goal.returns-in-O1n
unfolding based
returns-in-O1n g c =
    let s = c.shape_in-shape.ensures in
    let is = base_is c.args.at (λ r m n. Makes (empty 1 n) (plain_cost m n)) s.typed c.in-O1n.is refl in
    lifted_performs is c.lift-in-O1n.ensures (row_plain g.E.Core.least _ _) c.empty-in-O1n.ensures.operates

pub returns-in-Dom : goal.returns-in-Dom
unfolding based
returns-in-Dom g c =
    let s = c.shape_in-shape.ensures in
    let is = base_is c.args.at (λ r m n. Makes (dom r) (wide_cost m n 1)) s.typed c.in-Dom.is refl in
    let room = wide_by g.E.Core.least _ _ 1 _ _ 1 s.rows s.cols refl in
    lifted_performs is c.lift-in-Dom.ensures room c.dom.ensures.operates

pub returns-in-Ran : goal.returns-in-Ran
unfolding based
returns-in-Ran g c =
    let s = c.shape_in-shape.ensures in
    let is = base_is c.args.at (λ r m n. Makes (ran r) (wide_cost m n 1)) s.typed c.in-Ran.is refl in
    let room = wide_by g.E.Core.least _ _ 1 _ _ 1 s.rows s.cols refl in
    lifted_performs is c.lift-in-Ran.ensures room c.ran.ensures.operates

pub returns-in-Atom : goal.returns-in-Atom
unfolding based
returns-in-Atom g c =
    let s = c.shape_in-shape.ensures in
    let is = base_is c.args.at (λ r m n. Makes (atom r) (wide_cost m n 1)) s.typed c.in-Atom.is refl in
    let room = wide_by g.E.Core.least _ _ 1 _ _ 1 s.rows s.cols refl in
    lifted_performs is c.lift-in-Atom.ensures room c.atom.ensures.operates

pub returns-in-Empty : goal.returns-in-Empty
unfolding based
returns-in-Empty g c =
    let s = c.shape_in-shape.ensures in
    let yes = c.is_empty-yes in
    let told = empty_test _ _ _ yes.result s.typed.valid (s.row_size ∙ s.rows) (s.col_size ∙ s.cols) yes.ensures in
    truth_performs (base_as c.args.at _ c.in-Empty.is refl) told (tested_still _) c.truth.ensures

pub returns-in-Unival : goal.returns-in-Unival
unfolding based
returns-in-Unival g c =
    let yes = c.unival-yes.ensures in
    let tested = tested_read yes.keeps yes.room in
    truth_performs (base_as c.args.at _ c.in-Unival.is refl) (sym yes.value) tested c.truth-in-Unival.ensures

pub returns-in_default : goal.returns-in_default
returns-in_default g c =
    let d = c.in_default in
    performs_as (other_base c.args.at c.args.base _ c.requires.demands d.not-L d.not-O d.not-Ln1 d.not-On1 d.not-L1n
    d.not-O1n d.not-Dom d.not-Ran d.not-Atom d.not-Empty d.not-Unival) c.none_given.ensures
