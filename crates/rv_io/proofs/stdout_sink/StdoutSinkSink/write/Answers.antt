use Rattle.std.proofs.Common.{◌∙◌, sym, subst}
use Rattle.rv_io.specs.Writing.{HasPassed}
use Rattle.rv_io.proofs.Pieces.{passed_some, passed_none}
use Rattle.rv_io.proofs.stdout_sink.StdoutSinkSink.write.Goals as goal
use Rattle.rv_io.proofs.stdout_sink.StdoutSinkSink.write.Goals.{in-Ok+else-count-gt0, else-count-gt0-via-then-count-gt0+else-is_ok, else-count-gt0-via-else-count-gt0, in_default}

pub returns-clause-failed : goal.returns-clause-failed
returns-clause-failed g c =
    let contents = g.W.Write.contents in
    let old = contents c.args.self.now.inner in
    let bytes = c.args.bytes.now in
    elim c.match-write.branch [
      | in-Ok+else-count-gt0 w ↦ elim w.else-count-gt0.branch [
        | else-count-gt0-via-then-count-gt0+else-is_ok v ↦
            subst (λ s. HasPassed old (contents s.inner) bytes) (sym (w.self-is ∙ v.self-is))
            (passed_some old (contents c.write.new.self) (contents v.flush.new.self) bytes w.in-Ok.count w.in-Ok.ensures.bound w.in-Ok.ensures.bytes v.flush.ensures.bytes)
        | else-count-gt0-via-else-count-gt0 v ↦
            subst (λ s. HasPassed old (contents s.inner) bytes) (sym (w.self-is ∙ v.self-is)) (record { count = w.in-Ok.count; within = w.in-Ok.ensures.bound; once = w.in-Ok.ensures.bytes })
      ]
      | in_default w ↦
          subst (λ s. HasPassed old (contents s.inner) bytes) (sym w.self-is) (passed_none old (contents c.write.new.self) bytes w.in_default.ensures.bytes)
    ]
