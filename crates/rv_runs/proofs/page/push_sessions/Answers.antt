use Rattle.std.proofs.Common.{◌++◌, ◌∙◌, ap}
use Rattle.rv_sessions.specs.Telling.{texts_of}
use Rattle.rv_runs.specs.Pages.{text_of_session}
use Rattle.rv_runs.proofs.Adding.{adds_more}
use Rattle.rv_runs.proofs.page.push_sessions.Goals as goal

pub sessions-preserved : goal.sessions-preserved
sessions-preserved c =
    adds_more text_of_session c.args.told.now c.sessions.transcript-index c.transcript-item.result _ c.args.out.now.items c.sessions.out.items _ c.sessions-test.true c.transcript-item.is c.sessions.invariant
    (c.in_ok-push_replies.ensures ∙ ap (λ rs. c.sessions.out.items ++ texts_of rs) c.as_slice.ensures.value)
