use Rattle.std.proofs.Common.{◌≡◌, ◌-◌, ◌∙◌, suc, drop, get_or, ap, arith}
use Rattle.run_model.specs.Names.{set}
use Rattle.relview.specs.Between.{renamed}
use Rattle.relview.proofs.Carrying.{put_before}
use Rattle.relview.proofs.between.with_rels.Goals as goal

pub names-preserved : goal.names-preserved
names-preserved c =
    let k = c.names.left - 1 in
    let live = c.args.live.now in
    let rels = c.args.rels.now in
    let d = c.index-live-left.result in
    let rel = get_or rels k (record { rows = 0; cols = 0; root = 0 }) in
    let next : c.names.left ≡ suc k = omega (arith, c.names-test.true) in
    let behind = c.names.invariant.1 ∙ ap (λ n. renamed (drop n live) (drop n rels)) next in
    let few = c.names.invariant.0 in (
      omega (arith, few),
      c.in_ok-put.ensures.value ∙ ap (λ n. set n rel c.names.names) c.in_ok-name.ensures ∙ ap (set (get_or live k d).0 rel) behind
          ∙ put_before live rels k d (record { rows = 0; cols = 0; root = 0 }) (omega (arith, few, next)) c.requires.as_many c.requires.order,
    )
