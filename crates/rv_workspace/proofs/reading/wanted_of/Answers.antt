use Rattle.std.proofs.Common.{◌≡◌, ◌∙◌, ap, sym, subst, arith}
use Rattle.std.specs.Prelude.{IfOk}
use Rattle.std.proofs.lemmas.List.{take_all}
use Rattle.run_model.specs.Carried.{Carried}
use Rattle.run_model.specs.Names.{lookup}
use Rattle.rv_workspace.specs.Picking.{among, with_name}
use Rattle.rv_workspace.proofs.Picking.{among-take, among-none}
use Rattle.rv_workspace.proofs.reading.wanted_of.Goals as goal

pub wanted-init : goal.wanted-init
wanted-init c = c.new-found.ensures ∙ sym (among-none c.args.wanted.now c.args.names.now)

pub wanted-preserved : goal.wanted-preserved
wanted-preserved c =
    let w = c.name-item.result in
    let names = c.args.names.now in
    c.in_ok-pick.ensures ∙ ap (with_name w (lookup names w)) c.wanted.invariant
    ∙ sym (among-take c.args.wanted.now c.wanted.name-index w names (omega arith) c.name-item.is c.in_order.ensures)

pub returns : goal.returns
returns c =
    let names = c.args.names.now in
    subst (λ (m : Carried). IfOk c.into_list.result (λ v. v.items ≡ m))
    (c.wanted.invariant ∙ ap (λ ws. among ws names) (take_all c.wanted.name-index c.args.wanted.now c.wanted-test.false)) c.into_list.ensures
