use Rattle.std.proofs.Common.{◌≡◌, ◌<◌, ◌≤◌, ◌+◌, ◌-◌, ◌*◌, ◌++◌, List, ◌∷◌, length, suc}
use Rattle.lang_model.specs.declared.syntax.Expr.{Expr}
use Rattle.lang_model.specs.declared.syntax.Link.{Link}
use Rattle.lang_model.specs.declared.token.Token.{Token}
use Rattle.lang_model.specs.Spelling.{OrLevel, Spelled, Listed, Linked, tighter}
use Rattle.lang_model.specs.Stop.{Part, ExprPart, MoreLinks, MoreArgs, stop_of}
use Rattle.rv_tokens.specs.Endings.{ending_of}
use Rattle.rv_parse.specs.Readers.{level_of}
use Rattle.rv_parse.proofs.Exprs.{chain_rank}
use Rattle.rv_parse.proofs.expr.+expr.Given as goal

abbrev pub decreases-chain : goal.decreases-chain
decreases-chain l = 16 * (40 - l.depth) + (chain_rank l.level + 2)

abbrev pub decreases-operand : goal.decreases-operand
decreases-operand l = 16 * (40 - l.depth) + (chain_rank l.level + 1)

abbrev pub decreases-unary : goal.decreases-unary
decreases-unary l = 16 * (40 - l.depth) + 7

abbrev pub decreases-post : goal.decreases-post
decreases-post l = 16 * (40 - l.depth) + 6

abbrev pub decreases-prim : goal.decreases-prim
decreases-prim l = 16 * (40 - l.depth) + 5

abbrev pub decreases-named : goal.decreases-named
decreases-named l = 16 * (40 - l.depth) + 4

abbrev pub decreases-based : goal.decreases-based
decreases-based l = 16 * (40 - l.depth) + 4

abbrev pub decreases-enclosed : goal.decreases-enclosed
decreases-enclosed l = 16 * (40 - l.depth) + 3

abbrev pub decreases-pair : goal.decreases-pair
decreases-pair l = 16 * (40 - l.depth) + 3

abbrev pub decreases-arguments : goal.decreases-arguments
decreases-arguments l = 16 * (40 - l.depth) + 3

abbrev pub decreases-with_one : goal.decreases-with_one
decreases-with_one l = 16 * (40 - l.depth) + 3

abbrev pub decreases-with_two : goal.decreases-with_two
decreases-with_two l = 16 * (40 - l.depth) + 3

abbrev pub decreases-inner_pair : goal.decreases-inner_pair
decreases-inner_pair l = 16 * (40 - l.depth) + 2

abbrev pub decreases-inner_and_sign : goal.decreases-inner_and_sign
decreases-inner_and_sign l = 16 * (40 - l.depth) + 1

abbrev pub decreases-inner : goal.decreases-inner
decreases-inner l = 16 * (40 - l.depth)

abbrev pub invariant-chain-links : goal.invariant-chain-links
invariant-chain-links l = record {
  first : Spelled (tighter (level_of l.level)) l.depth l.first l.fn.tokens l.initial.rest;
  spelled : (xs : List Link) (rest : List Token) → Linked (level_of l.level) l.depth xs l.rest rest → Linked (level_of l.level) l.depth (l.links.items ++ xs) l.initial.rest rest;
  shorter : length l.rest < length l.fn.tokens;
  read : (behind : List Part) → stop_of (ExprPart (level_of l.level) l.depth ∷ behind) l.fn.tokens (ending_of l.end) ≡ stop_of (MoreLinks (level_of l.level) l.depth ∷ behind) l.rest (ending_of l.end);
}

abbrev pub decreases-chain-links : goal.decreases-chain-links
decreases-chain-links l = length l.rest

abbrev pub invariant-arguments-more : goal.invariant-arguments-more
invariant-arguments-more l = record {
  first : Expr;
  more : List Expr;
  all : l.args.items ≡ first ∷ more;
  mid : List Token;
  head : Spelled OrLevel (suc l.depth) first l.fn.tokens mid;
  few : length more ≤ 15;
  tail : (es : List Expr) (rest : List Token) → Listed (15 - length more) (suc l.depth) es l.rest rest → Listed 15 (suc l.depth) (more ++ es) mid rest;
  shorter : length l.rest < length l.fn.tokens;
  read : (behind : List Part) → stop_of (ExprPart OrLevel (suc l.depth) ∷ MoreArgs 15 (suc l.depth) ∷ behind) l.fn.tokens (ending_of l.end) ≡ stop_of (MoreArgs (15 - length more) (suc l.depth) ∷ behind) l.rest (ending_of l.end);
}

abbrev pub decreases-arguments-more : goal.decreases-arguments-more
decreases-arguments-more l = 16 - length l.args.items
