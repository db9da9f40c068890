use Rattle.rv_ends.specs.Lines.{Usage, usage_line}
use Rattle.relview.proofs.Stopping.{by_line}
use Rattle.relview.proofs.top.refuse_words.Goals as goal

pub returns-in-Usage-clause-stopped : goal.returns-in-Usage-clause-stopped
returns-in-Usage-clause-stopped g c = λ words before now none usage.
    by_line words before now _ _ c.empty_report.result usage_line 2 c.say_usage-status.result c.empty_report.ensures.empty c.empty_report.ensures.status none
    (Usage (usage c.in-Usage.is)) c.say_usage-status.ensures
