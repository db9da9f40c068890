use Rattle.std.proofs.Common.{◌∙◌, ◌++◌, ◌∷◌, [], sym, ap, arith, get_or}
use Rattle.std.proofs.lemmas.List.{append-nil, take_all}
use Rattle.rel_values.proofs.LineLists.{numbered, numbered-more}
use Rattle.rel_values.proofs.listing.push_line.Goals as goal

pub places-init : goal.places-init
places-init c = sym (append-nil c.args.pairs.now.items)

pub places-preserved : goal.places-preserved
places-preserved c =
    numbered-more c.args.line c.args.places.now c.args.pairs.now.items c.push.new.self.items c.places.place-index (0, 0) c.places-test.true
    (c.in_ok-push.ensures.items ∙ ap (λ zs. zs ++ (c.args.line, (get_or c.args.places.now c.places.place-index (0, 0)).1) ∷ []) c.places.invariant)

pub returns-clause-items : goal.returns-clause-items
returns-clause-items c = c.places.invariant ∙ ap (λ zs. c.args.pairs.now.items ++ numbered c.args.line zs) (take_all c.places.place-index c.args.places.now (omega (arith, c.places-test.false)))
