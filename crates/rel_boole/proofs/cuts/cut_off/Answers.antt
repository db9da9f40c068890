use Rattle.std.proofs.Common.{Some, sym, subst, inl, inr}
use Rattle.rel_boole.specs.declared.boole.Boole.{Boole}
use Rattle.rel_boole.specs.Cellwise.{CutsOff}
use Rattle.rel_boole.proofs.Cutting.{union_first, union_second, inter_none, diff_none, diff_first}
use Rattle.rel_boole.proofs.cuts.cut_off.Goals as goal

pub returns-then-is_empty-clause-value : goal.returns-then-is_empty-clause-value
returns-then-is_empty-clause-value c = subst (λ (o : Boole). CutsOff o c.args.a c.args.b (Some c.args.b)) (sym c.in-Union.is) (union_second c.args.a c.args.b (c.is_empty.ensures.empty c.if-is_empty.true))

pub returns-then-is_empty-2-clause-value : goal.returns-then-is_empty-2-clause-value
returns-then-is_empty-2-clause-value c = subst (λ (o : Boole). CutsOff o c.args.a c.args.b (Some c.args.a)) (sym c.in-Union.is) (union_first c.args.a c.args.b (inl (c.is_empty-in-Union.ensures.empty c.if-is_empty-2.true)))

pub returns-then-is_empty-3-clause-value : goal.returns-then-is_empty-3-clause-value
returns-then-is_empty-3-clause-value c =
    subst (λ (o : Boole). CutsOff o c.args.a c.args.b (Some c.empty-none.result)) (sym c.in-Inter.is) (inter_none c.args.a c.args.b c.empty-none.result c.empty-none.ensures (inl (c.is_empty-in-Inter.ensures.empty c.if-is_empty-3.true)))

pub returns-then-is_empty-4-clause-value : goal.returns-then-is_empty-4-clause-value
returns-then-is_empty-4-clause-value c =
    subst (λ (o : Boole). CutsOff o c.args.a c.args.b (Some c.empty-none.result)) (sym c.in-Inter.is) (inter_none c.args.a c.args.b c.empty-none.result c.empty-none.ensures (inr (c.is_empty-in-Inter-2.ensures.empty c.if-is_empty-4.true)))

pub returns-then-a-b-3-clause-value : goal.returns-then-a-b-3-clause-value
returns-then-a-b-3-clause-value c =
    subst (λ (o : Boole). CutsOff o c.args.a c.args.b (Some c.empty-none.result)) (sym c.in-Diff.is) (diff_none c.args.a c.args.b c.empty-none.result c.empty-none.ensures (inr c.if-a-b-3.true))

pub returns-then-is_empty-5-clause-value : goal.returns-then-is_empty-5-clause-value
returns-then-is_empty-5-clause-value c =
    subst (λ (o : Boole). CutsOff o c.args.a c.args.b (Some c.empty-none.result)) (sym c.in-Diff.is) (diff_none c.args.a c.args.b c.empty-none.result c.empty-none.ensures (inl (c.is_empty-in-Diff.ensures.empty c.if-is_empty-5.true)))

pub returns-then-is_empty-6-clause-value : goal.returns-then-is_empty-6-clause-value
returns-then-is_empty-6-clause-value c = subst (λ (o : Boole). CutsOff o c.args.a c.args.b (Some c.args.a)) (sym c.in-Diff.is) (diff_first c.args.a c.args.b (c.is_empty-in-Diff-2.ensures.empty c.if-is_empty-6.true))
