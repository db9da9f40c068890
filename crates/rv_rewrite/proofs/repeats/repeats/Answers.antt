use Rattle.std.proofs.Common.{◌∙◌, sym}
use Rattle.lang_model.specs.Trees.{tree_of}
use Rattle.rv_rewrite.proofs.Earlier.{repeat_found, repeat_not}
use Rattle.rv_rewrite.proofs.repeats.repeats.Goals as goal

pub returns-then-is_among : goal.returns-then-is_among
returns-then-is_among c = sym (c.each.invariant ∙ repeat_found (tree_of c.args.first.now) c.args.links.now c.each.i c.index-links-i.result c.each-test.true c.index-links-i.is (sym c.is_among.ensures ∙ c.if-is_among.true))

pub each-preserved : goal.each-preserved
each-preserved c = c.each.invariant ∙ repeat_not (tree_of c.args.first.now) c.args.links.now c.each.i c.index-links-i.result c.each-test.true c.index-links-i.is (sym c.is_among.ensures ∙ c.if-is_among.false)
