use Rattle.std.proofs.Common.{◌≡◌, ◌≤◌, ◌++◌, List, ◌∷◌, length}
use Rattle.lang_model.specs.declared.syntax.Let.{Let}
use Rattle.lang_model.specs.declared.token.Token.{Token}
use Rattle.lang_model.specs.declared.token.Keyword.TheVariants.{Let as LET}
use Rattle.lang_model.specs.Spelling.{SpelledLets, SpelledMoreLets}
use Rattle.lang_model.specs.Stop.{Part, WordPart, MoreLets, let_parts, stop_of}
use Rattle.rv_tokens.specs.Endings.{ending_of}
use Rattle.rv_parse.proofs.block.lets.Given as goal

abbrev pub invariant-lets : goal.invariant-lets
invariant-lets l = record {
  spelled : (ls : List Let) (z : List Token) → SpelledMoreLets ls l.rest z → SpelledLets (l.lets.items ++ ls) l.fn.tokens z;
  shorter : length l.rest ≤ length l.fn.tokens;
  read : (behind : List Part) → stop_of (WordPart LET ∷ let_parts ++ behind) l.fn.tokens (ending_of l.end) ≡ stop_of (MoreLets ∷ behind) l.rest (ending_of l.end);
}

abbrev pub decreases-lets : goal.decreases-lets
decreases-lets l = length l.rest
