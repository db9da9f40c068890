use Rattle.std.proofs.Common.{◌∙◌, map, ap, subst}
use Rattle.run_model.specs.Filed.{saved_all}
use Rattle.rv_ends.specs.Writing.{IsTold, sunk}
use Rattle.relview.specs.Top.{status_of}
use Rattle.relview.proofs.top.report_of.Goals as goal

pub returns-clause-told : goal.returns-clause-told
returns-clause-told g c =
    let so = g.S.Shelf.told c.args.shelf.now in
    let sn = g.S.Shelf.told c.tell-status.new.shelf in
    let old = sunk (g.K.Sink.written c.args.sink.now) (g.K.Sink.faults c.args.sink.now) in
    let new = sunk (g.K.Sink.written c.tell-status.new.sink) (g.K.Sink.faults c.tell-status.new.sink) in
    let whole = c.status_of-whole.ensures ∙ ap (λ os. status_of (map (λ v. v.items) os)) c.as_slice.ensures.value in
    let status = c.tell-status.result in
    let page = subst (λ bytes. IsTold so sn old new bytes (saved_all c.as_slice-3.result.now) c.status_of-whole.result status) c.as_slice-2.ensures.value c.tell-status.ensures in
    let saves = subst (λ files. IsTold so sn old new c.args.finished.page.items (saved_all files) c.status_of-whole.result status) c.as_slice-3.ensures.value page in
    subst (λ n. IsTold so sn old new c.args.finished.page.items (saved_all c.args.finished.saves.items) n status) whole saves
