use Rattle.std.proofs.Common.{Some, Bool, sym, subst}
use Rattle.rel_model.specs.declared.Quad.{Quad}
use Rattle.rel_boole.specs.declared.boole.Boole.{Boole}
use Rattle.rel_boole.specs.declared.boole.Boole.TheVariants.{Union as UNION, Inter as INTER, Diff as DIFF}
use Rattle.rel_boole.specs.Cellwise.{CutsOffFull}
use Rattle.rel_boole.proofs.Filled.{union_full_first, union_full_second, inter_full_first, inter_full_second, diff_full_second}
use Rattle.rel_boole.proofs.found.with_full.Goals as goal

pub returns-then-a_full : goal.returns-then-a_full
returns-then-a_full c =
    let r : Quad = c.args.a in
    subst (λ (o : Boole). CutsOffFull o c.args.a c.args.b c.args.a_full c.args.b_full (Some r)) (sym c.in-Union.is)
    (subst (λ (s : Bool). CutsOffFull UNION c.args.a c.args.b s c.args.b_full (Some r)) (sym c.if-a_full.true) (union_full_first c.args.a c.args.b c.args.b_full))

pub returns-then-a_full-2 : goal.returns-then-a_full-2
returns-then-a_full-2 c =
    let r : Quad = c.args.b in
    subst (λ (o : Boole). CutsOffFull o c.args.a c.args.b c.args.a_full c.args.b_full (Some r)) (sym c.in-Inter.is)
    (subst (λ (s : Bool). CutsOffFull INTER c.args.a c.args.b s c.args.b_full (Some r)) (sym c.if-a_full-2.true) (inter_full_first c.args.a c.args.b c.args.b_full))

pub returns-then-b_full : goal.returns-then-b_full
returns-then-b_full c =
    let r : Quad = c.args.b in
    subst (λ (o : Boole). CutsOffFull o c.args.a c.args.b c.args.a_full c.args.b_full (Some r)) (sym c.in-Union.is)
    (subst (λ (s : Bool). CutsOffFull UNION c.args.a c.args.b c.args.a_full s (Some r)) (sym c.if-b_full.true) (union_full_second c.args.a c.args.b c.args.a_full))

pub returns-then-b_full-2 : goal.returns-then-b_full-2
returns-then-b_full-2 c =
    let r : Quad = c.args.a in
    subst (λ (o : Boole). CutsOffFull o c.args.a c.args.b c.args.a_full c.args.b_full (Some r)) (sym c.in-Inter.is)
    (subst (λ (s : Bool). CutsOffFull INTER c.args.a c.args.b c.args.a_full s (Some r)) (sym c.if-b_full-2.true) (inter_full_second c.args.a c.args.b c.args.a_full))

pub returns-then-b_full-3 : goal.returns-then-b_full-3
returns-then-b_full-3 c =
    let r : Quad = c.empty-none.result in
    subst (λ (o : Boole). CutsOffFull o c.args.a c.args.b c.args.a_full c.args.b_full (Some r)) (sym c.in-Diff.is)
    (subst (λ (s : Bool). CutsOffFull DIFF c.args.a c.args.b c.args.a_full s (Some r)) (sym c.if-b_full-3.true) (diff_full_second c.args.a c.args.b r c.args.a_full c.empty-none.ensures))
