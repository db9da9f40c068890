use Rattle.std.proofs.Common.{◌++◌, ◌∙◌, ap}
use Rattle.run_model.specs.Page.{event_line}
use Rattle.rv_runs.proofs.Adding.{adds_more}
use Rattle.rv_runs.proofs.page.push_history.Goals as goal

pub events-preserved : goal.events-preserved
events-preserved c =
    adds_more event_line c.args.history.now c.events.event-index c.event-item.result _ c.args.out.now.items c.events.out.items _ c.events-test.true c.event-item.is c.events.invariant
    (c.in_ok-extend_from_slice.ensures.items ∙ ap (λ bytes. c.events.out.items ++ bytes) (c.as_slice.ensures.value ∙ c.in_ok-line.ensures))
