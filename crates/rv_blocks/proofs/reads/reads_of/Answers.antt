use Rattle.std.proofs.Common.{◌≡◌, ◌∙◌, ap, subst, IfOk}
use Rattle.run_model.specs.Names.{names_of}
use Rattle.rv_blocks.proofs.Reading.{read_on-reads, read_on-end}
use Rattle.rv_blocks.proofs.reads.reads_of.Goals as goal

pub returns : goal.returns
returns c =
    let done = read_on-end c.args.lets.now c.lets.one-index c.lets.given c.lets.found c.lets-test.false c.lets.invariant in
    let all = ap names_of c.in_ok-entries.ensures ∙ read_on-reads c.args.lets.now c.lets.found c.in_order.ensures done in
    subst (λ x. IfOk c.names_alone.result (λ v. v.items ≡ x)) all c.names_alone.ensures
