use Rattle.std.proofs.lemmas.Bool.{true≢false}
use Rattle.std.proofs.Common.{◌≡◌, ◌∙◌, ℕ, Bool, cond, true, false, Some, refl, sym, ap, arith}
use Rattle.rel_model.specs.Relation.{Relation}
use Rattle.rel_model.specs.Algebra.{HasType}
use Rattle.rel_model.specs.Roots.{relation_room}
use Rattle.rel_model.specs.Operators.{union, inter, single, empty}
use Rattle.rel_model.specs.Worker.{set_of}
use Rattle.rel_model.proofs.Workers.{gives_set, keeps_set, keeps_trans, stands_some}
use Rattle.rel_slices.specs.Ops.{meet}
use Rattle.rel_slices.specs.Rooms.{meet_room}
use Rattle.rel_slices.proofs.Laying.{apart_lines, meeting_lines}
use Rattle.rel_slices.proofs.through.meet_more.Goals as goal

pub returns-in_err-here-clause-room : goal.returns-in_err-here-clause-room
unfolding meet_room
returns-in_err-here-clause-room g c =
    let a = c.meets.ensures.room in
    let b = c.in_err-here.ensures.tree in
    omega (arith, a, b)

pub returns-in_err-more-clause-room : goal.returns-in_err-more-clause-room
unfolding meet_room
returns-in_err-more-clause-room g c =
    let a = c.meets.ensures.room in
    let b = c.in_ok-here.ensures.tree in
    let d = c.in_err-more.ensures.tree in
    let f = ap (λ (x : ℕ). relation_room g.C.Core.least x c.in_ok-here.here.cols) c.in_ok-here.ensures.value.row_size ∙ ap (relation_room g.C.Core.least 1) c.in_ok-here.ensures.value.col_size in
    omega (arith, a, b, d, f)

pub returns-clause-room : goal.returns-clause-room
unfolding meet_room
returns-clause-room g c =
    let a = c.meets.ensures.room in
    let b = c.in_ok-here.ensures.tree in
    let d = c.in_ok-more.ensures.tree in
    let f = ap (λ (x : ℕ). relation_room g.C.Core.least x c.in_ok-here.here.cols) c.in_ok-here.ensures.value.row_size ∙ ap (relation_room g.C.Core.least 1) c.in_ok-here.ensures.value.col_size in
    omega (arith, a, b, d, f)

pub returns-then-not-meets-clause-value : goal.returns-then-not-meets-clause-value
returns-then-not-meets-clause-value g c =
    let laws = g.met.C.Core in
    let w0 = g.C.Core.worker c.args.core.now in
    let U : Relation = set_of w0 c.args.u in
    let V : Relation = set_of w0 c.args.v in
    let A : Relation = set_of w0 c.args.all in
    let k0 = c.meets.ensures.keeps in
    let tu : HasType 1 c.args.u.cols U = record { valid = laws.valid c.args.core.now c.args.u c.requires.u_stands; row_size = laws.row_size c.args.core.now c.args.u c.requires.u_stands ∙ c.requires.u_row; col_size = laws.col_size c.args.core.now c.args.u c.requires.u_stands } in
    let e : inter U V ≡ empty 1 c.args.u.cols = c.meets.ensures.value.0 c.if-not-meets.true ∙ ap (λ (x : ℕ). empty x c.args.u.cols) c.requires.u_row in
    let no : meet c.args.u.cols U V ≡ false = apart_lines c.args.u.cols U V tu e in
    record {
      means = k0.same c.args.all c.requires.all_stands ∙ stands_some w0 c.args.all c.requires.all_stands ∙ ap Some (ap (λ (b : Bool). cond b (union (single 1 c.args.all.cols 0 c.args.j) A) A) (sym no));
      row_size = c.requires.row;
      col_size = refl;
    }

pub returns-clause-value : goal.returns-clause-value
returns-clause-value g c =
    let laws = g.met.C.Core in
    let w0 = g.C.Core.worker c.args.core.now in
    let w1 = g.C.Core.worker c.meets.new.self in
    let w2 = g.C.Core.worker c.single.new.self in
    let U : Relation = set_of w0 c.args.u in
    let V : Relation = set_of w0 c.args.v in
    let A : Relation = set_of w0 c.args.all in
    let k0 = c.meets.ensures.keeps in
    let k1 = c.in_ok-here.ensures.keeps in
    let m = c.in_ok-more.ensures.value in
    let tu : HasType 1 c.args.u.cols U = record { valid = laws.valid c.args.core.now c.args.u c.requires.u_stands; row_size = laws.row_size c.args.core.now c.args.u c.requires.u_stands ∙ c.requires.u_row; col_size = laws.col_size c.args.core.now c.args.u c.requires.u_stands } in
    let yes : meet c.args.u.cols U V ≡ true = meeting_lines c.args.u.cols U V tu (λ e. true≢false (sym c.if-not-meets.false ∙ c.meets.ensures.value.1 (e ∙ sym (ap (λ (x : ℕ). empty x c.args.u.cols) c.requires.u_row)))) in
    let eh : set_of w2 c.in_ok-here.here ≡ single 1 c.args.all.cols 0 c.args.j = gives_set w2 _ _ _ c.in_ok-here.here c.in_ok-here.ensures.value in
    let ea : set_of w2 c.args.all ≡ A = keeps_set w0 w2 c.args.all (keeps_trans w0 w1 w2 k0 k1) c.requires.all_stands in
    record {
      means = m.means ∙ ap Some (ap (λ (x : Relation). union x (set_of w2 c.args.all)) eh ∙ ap (union (single 1 c.args.all.cols 0 c.args.j)) ea ∙ ap (λ (b : Bool). cond b (union (single 1 c.args.all.cols 0 c.args.j) A) A) (sym yes));
      row_size = m.row_size ∙ c.in_ok-here.ensures.value.row_size;
      col_size = m.col_size ∙ c.in_ok-here.ensures.value.col_size;
    }
