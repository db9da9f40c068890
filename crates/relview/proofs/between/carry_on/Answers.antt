use Rattle.std.proofs.Common.{◌∙◌, ◌<◌, sym, ap, subst}
use Rattle.rel_model.specs.Uses.{uses_count}
use Rattle.rv_compact.specs.Compacted.{AllStand, IsCompacted, HasCause, nodes_of, node_room}
use Rattle.relview.specs.Between.{renamed}
use Rattle.relview.proofs.Carrying.{all_stand, carried_moved, carried_same}
use Rattle.relview.proofs.between.carry_on.Goals as goal

pub compact-requires-clause-stand : goal.compact-requires-clause-stand
compact-requires-clause-stand c =
    let nodes = nodes_of c.args.words.now in
    subst (AllStand nodes) (sym c.as_slice.ensures.value) (all_stand nodes c.args.live.now c.in_ok-rels.rels.items c.in_ok-rels.ensures c.requires.stand)

pub returns-in-Ok : goal.returns-in-Ok
returns-in-Ok c =
    let live = c.args.live.now in
    carried_moved c.args.words.now live c.in_ok-rels.rels.items c.in-Ok.moved.items _ c.in_ok-rels.ensures
    (subst (λ rs. IsCompacted c.args.words.now rs c.in-Ok.new.items c.in-Ok.moved.items) c.as_slice.ensures.value c.in-Ok.ensures.compacted)
    (c.in_ok-names-in-Ok.ensures ∙ ap (renamed live) c.as_slice-in-Ok.ensures.value)

pub returns-in-Err-Full : goal.returns-in-Err-Full
returns-in-Err-Full c =
    let live = c.args.live.now in
    let words = c.args.words.now in
    let rels = c.in_ok-rels.rels.items in
    let cause = subst (HasCause words c.as_slice.result.now) c.in-Err-Full.field-0-is c.in-Err-Full.ensures.full in
    let full = subst (λ n. node_room words < n) cause.0 cause.1 in
    carried_same words live rels _ c.in_ok-rels.ensures c.requires.table
    (subst (λ rs. node_room words < uses_count (nodes_of words) rs) c.as_slice.ensures.value full)
    c.in_ok-again-in-Err-Full.ensures.items
    (c.in_ok-names-in-Err-Full.ensures ∙ ap (renamed live) c.as_slice-in-Err-Full.ensures.value)
