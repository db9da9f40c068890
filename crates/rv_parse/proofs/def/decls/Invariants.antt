use Rattle.std.proofs.Common.{◌≡◌, ◌≤◌, ◌++◌, List, ◌∷◌, length}
use Rattle.lang_model.specs.declared.syntax.Decl.{Decl}
use Rattle.lang_model.specs.declared.token.Token.{Token}
use Rattle.lang_model.specs.Spelling.{SpellsDecl, SpellsMoreDecls}
use Rattle.lang_model.specs.Stop.{Part, NamePart, MeaningPart, MoreDecls, stop_of}
use Rattle.rv_tokens.specs.Endings.{ending_of}
use Rattle.rv_parse.proofs.def.decls.Given as goal

abbrev pub invariant-decls : goal.invariant-decls
invariant-decls l = record {
  first : Decl;
  more : List Decl;
  all : l.decls.items ≡ first ∷ more;
  mid : List Token;
  head : SpellsDecl first l.fn.tokens mid;
  tail : (ds : List Decl) (z : List Token) → SpellsMoreDecls ds l.rest z → SpellsMoreDecls (more ++ ds) mid z;
  shorter : length l.rest ≤ length l.fn.tokens;
  read : (behind : List Part) → stop_of (NamePart ∷ MeaningPart ∷ MoreDecls ∷ behind) l.fn.tokens (ending_of l.end) ≡ stop_of (MoreDecls ∷ behind) l.rest (ending_of l.end);
}

abbrev pub decreases-decls : goal.decreases-decls
decreases-decls l = length l.rest
