use Rattle.std.proofs.Common.{◌∙◌, ◌++◌, ap, sym, arith, length}
use Rattle.std.proofs.lemmas.List.{length-map}
use Rattle.run_model.specs.Names.{names_of}
use Rattle.run_model.specs.Versions.{all_raised, versions_after}
use Rattle.rv_workspace.specs.Entering.{assigns}
use Rattle.rv_workspace.proofs.Noting.{all_fit, versions-assigns}
use Rattle.rv_workspace.proofs.giving.give_all.Goals as goal

pub note_all-requires : goal.note_all-requires
note_all-requires c =
    let list = c.args.list in
    let room = c.reserve.new.self in
    let names = c.as_slice-3.ensures.value ∙ c.in_ok-given.ensures ∙ ap names_of c.as_slice.ensures.value in
    let count = ap length names ∙ length-map list.items (λ gift. gift.0) in
    let same = ap length c.in_ok-reserve.ensures.items in
    record {
      fits = all_fit c.args.versions.now c.args.history.now.items c.as_slice-3.result.now room.cap c.requires.few
          (omega (arith, count, list.ok.0, c.len.ensures, c.in_ok-reserve.ensures.ok, same, room.ok.0)) (omega (arith, room.small));
    }

pub returns-in-Ok-clause-versions : goal.returns-in-Ok-clause-versions
returns-in-Ok-clause-versions c first counted =
    let gifts = c.args.list.items in
    let s = c.args.session in
    let k = c.args.command in
    let names = c.as_slice-3.ensures.value ∙ c.in_ok-given.ensures ∙ ap names_of c.as_slice.ensures.value in
    let entered = c.enter_all.ensures ∙ ap (λ l. l ++ assigns s k gifts) c.in_ok-reserve.ensures.items in
    c.in-Ok.ensures.value ∙ ap (λ ns. all_raised ns c.args.versions.now) names ∙ ap (all_raised (names_of gifts)) counted
    ∙ sym (ap (versions_after first) entered ∙ versions-assigns first s k gifts c.args.history.now.items)
