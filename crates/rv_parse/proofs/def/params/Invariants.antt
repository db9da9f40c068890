use Rattle.std.proofs.Common.{◌≡◌, ◌≤◌, ◌-◌, ◌++◌, ℕ, List, ◌∷◌, length}
use Rattle.lang_model.specs.declared.token.Kind.TheVariants.{Word}
use Rattle.lang_model.specs.declared.token.Token.{Token}
use Rattle.lang_model.specs.Taken.{Takes}
use Rattle.lang_model.specs.Spelling.{SpellsMoreNames}
use Rattle.lang_model.specs.Stop.{Part, NamePart, MoreParams, stop_of}
use Rattle.rv_tokens.specs.Endings.{ending_of}
use Rattle.rv_parse.proofs.def.params.Given as goal

abbrev pub invariant-more : goal.invariant-more
invariant-more l = record {
  first : List ℕ;
  more : List (List ℕ);
  all : l.params.items ≡ first ∷ more;
  mid : List Token;
  head : Takes (Word first) l.fn.tokens mid;
  few : length more ≤ 15;
  tail : (ns : List (List ℕ)) (z : List Token) → SpellsMoreNames ns l.rest z → SpellsMoreNames (more ++ ns) mid z;
  shorter : length l.rest ≤ length l.fn.tokens;
  read : (behind : List Part) → stop_of (NamePart ∷ MoreParams 15 ∷ behind) l.fn.tokens (ending_of l.end) ≡ stop_of (MoreParams (15 - length more) ∷ behind) l.rest (ending_of l.end);
}

abbrev pub decreases-more : goal.decreases-more
decreases-more l = 16 - length l.params.items
