use Rattle.rv_sessions.specs.Telling.{text_of}
use Rattle.rv_runs.proofs.Adding.{adds_more}
use Rattle.rv_runs.proofs.page.push_replies.Goals as goal

pub replies-preserved : goal.replies-preserved
replies-preserved c =
    adds_more text_of c.args.replies.now c.replies.reply-index c.reply-item.result _ c.args.out.now.items c.replies.out.items _ c.replies-test.true c.reply-item.is c.replies.invariant c.in_ok-push_reply.ensures
