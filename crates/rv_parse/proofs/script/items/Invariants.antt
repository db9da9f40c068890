use Rattle.std.proofs.Common.{◌≡◌, ◌≤◌, ◌++◌, List, ◌∷◌, [], length}
use Rattle.lang_model.specs.declared.syntax.Item.{Item}
use Rattle.lang_model.specs.declared.token.Token.{Token}
use Rattle.lang_model.specs.Spelling.{SpellsItems}
use Rattle.lang_model.specs.Stop.{ItemsPart, stop_of}
use Rattle.rv_tokens.specs.Endings.{ending_of}
use Rattle.rv_parse.proofs.script.items.Given as goal

abbrev pub invariant-each : goal.invariant-each
invariant-each l = record {
  spelled : (is : List Item) (z : List Token) → SpellsItems is l.rest z → SpellsItems (l.items.items ++ is) l.fn.tokens z;
  shorter : length l.rest ≤ length l.fn.tokens;
  read : stop_of (ItemsPart ∷ []) l.fn.tokens (ending_of l.end) ≡ stop_of (ItemsPart ∷ []) l.rest (ending_of l.end);
}

abbrev pub decreases-each : goal.decreases-each
decreases-each l = length l.rest
