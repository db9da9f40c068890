use Rattle.std.proofs.Common.{◌≡◌, ◌∷◌, ◌++◌, [], List, ◌∙◌, ap, subst, refl, arith, length}
use Rattle.lang_model.specs.declared.syntax.Item.{Item}
use Rattle.lang_model.specs.declared.token.Token.{Token}
use Rattle.lang_model.specs.Spelling.{SpellsItems}
use Rattle.lang_model.specs.Stop.{ItemsPart, stop_of}
use Rattle.rv_tokens.specs.Endings.{ending_of}
use Rattle.rv_parse.proofs.Parsing.{items_all}
use Rattle.rv_parse.proofs.script.items.Goals as goal

-- a list without length
empty : (ts : List Token) → length ts ≡ 0 → ts ≡ []
empty [] l = refl
empty (t ∷ ts) l = absurd (omega arith)

pub returns : goal.returns
returns c =
    let i = c.each.invariant in
    let end : c.each.rest.now ≡ [] = empty c.each.rest.now (omega (arith, c.each-test.false)) in (
      items_all c.each.items.items c.args.tokens.now (subst (λ z. (is : List Item) (y : List Token) → SpellsItems is z y → SpellsItems (c.each.items.items ++ is) c.args.tokens.now y) end i.spelled),
      i.read ∙ ap (λ z. stop_of (ItemsPart ∷ []) z (ending_of c.args.end)) end,
    )
