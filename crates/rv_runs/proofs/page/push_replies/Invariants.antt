use Rattle.std.proofs.Common.{◌≡◌, ◌++◌, take}
use Rattle.rv_sessions.specs.Telling.{texts_of}
use Rattle.rv_runs.proofs.page.push_replies.Given as goal

abbrev pub invariant-replies : goal.invariant-replies
invariant-replies l = l.out.items ≡ l.fn.out.items ++ texts_of (take l.reply-index l.replies)
