use Rattle.std.proofs.Common.{◌++◌, refl, ap}
use Rattle.run_model.specs.Texts.{prefix}
use Rattle.rv_sessions.specs.declared.transcript.Reply.TheVariants.{Told}
use Rattle.rv_sessions.proofs.Refusing.{one_told}
use Rattle.rv_sessions.proofs.session.one_refusal.Goals as goal

pub returns : goal.returns
returns c = one_told c.args.number c.args.outcome c.in_ok-lists.lists (Told c.args.number 0 c.in_ok-body.body)
    (record { replies = c.push_reserved-2.new.self; saves = c.in_ok-lists.lists.saves; outcomes = c.push_reserved.new.self }) c.in_ok-lists.ensures
    (ap (λ t. prefix c.args.number 0 ++ t) c.in_ok-body.ensures) c.push_reserved.ensures.items c.push_reserved-2.ensures.items refl
