use Rattle.std.proofs.Common.{◌^◌, ◌∙◌, sym, subst, ap, length}
use Rattle.std.proofs.Math.ListN.{length-replicate}
use Rattle.rv_compact.specs.Copies.{AreCopies}
use Rattle.rv_compact.proofs.Copying.{copies_begun, step_word, step_copies}
use Rattle.rv_compact.proofs.copy.copy_uses.Goals as goal

pub uses-init : goal.uses-init
uses-init c = (
  subst (AreCopies c.args.words.now c.args.uses.now.keys c.args.nodes.now) (sym c.new-names.ensures.items) (copies_begun c.args.words.now c.args.uses.now.keys c.args.nodes.now (2 ^ c.args.bits) c.requires.vacant),
  ap length c.new-names.ensures.items,
  ap length c.requires.vacant ∙ length-replicate (2 ^ c.args.bits) 0,
)

pub place_word-requires-clause-some : goal.place_word-requires-clause-some
place_word-requires-clause-some c =
    (step_word c.args.words.now c.args.uses.now.keys c.as_slice-key-items.result.now c.uses.nodes c.uses.names.items c.deref.result.now c.uses.key-index (0, 0) c.new_word-word.result
    c.as_slice-key-items.ensures.keys c.deref.ensures.value c.uses-test.true c.requires.closed c.uses.invariant.0 c.new_word-word.ensures).some

pub uses-preserved : goal.uses-preserved
uses-preserved c =
    step_copies c.args.words.now c.args.uses.now.keys c.uses.nodes c.place_word.new.nodes c.uses.names.items c.push.new.self.items c.uses.key-index (0, 0) c.new_word-word.result c.place_word.result _
    c.uses.invariant.0 c.uses.invariant.1 c.uses.invariant.2
    (step_word c.args.words.now c.args.uses.now.keys c.as_slice-key-items.result.now c.uses.nodes c.uses.names.items c.deref.result.now c.uses.key-index (0, 0) c.new_word-word.result
    c.as_slice-key-items.ensures.keys c.deref.ensures.value c.uses-test.true c.requires.closed c.uses.invariant.0 c.new_word-word.ensures)
    c.place_word.ensures c.in_ok-push.ensures.items
