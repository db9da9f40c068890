use Rattle.std.proofs.Common.{◌∙◌, refl, sym, ap}
use Rattle.lang_model.specs.Trees.{tree_of}
use Rattle.rv_rewrite.specs.Repeated.{is_among}
use Rattle.rv_rewrite.proofs.Earlier.{keeps_none, keeps_copy}
use Rattle.rv_rewrite.proofs.made.keep.Goals as goal

pub returns-then-is_among : goal.returns-then-is_among
returns-then-is_among c =
    let f = tree_of c.args.first.now in
    let x = c.args.link.now in
    keeps_none f c.args.kept.now.items x
    (ap (λ xs. is_among f xs (tree_of x.right)) (sym c.as_slice.ensures.value) ∙ sym c.is_among.ensures ∙ c.if-is_among.true)

pub returns : goal.returns
returns c =
    let f = tree_of c.args.first.now in
    let x = c.args.link.now in
    keeps_copy f c.args.kept.now.items x (record { at = x.at; op = x.op; right = c.in_ok-right.right }) c.push.new.self.items
    (ap (λ xs. is_among f xs (tree_of x.right)) (sym c.as_slice.ensures.value) ∙ sym c.is_among.ensures ∙ c.if-is_among.false)
    refl refl c.in_ok-right.ensures c.in_ok-push.ensures.items
