use Rattle.std.proofs.Common.{◌≡◌, ◌+◌, List, ◌∷◌, length}
use Rattle.lang_model.specs.Taken.{Carets}
use Rattle.lang_model.specs.Lexed.{Ending}
use Rattle.lang_model.specs.Stop.{Part, MoreCarets, stop_of}
use Rattle.rv_parse.proofs.operators.carets.Given as goal

abbrev pub invariant-carets : goal.invariant-carets
invariant-carets l = record {
  spelled : Carets l.count l.fn.tokens l.rest;
  counted : l.count + length l.rest ≡ length l.fn.tokens;
  read : (e : Ending) (behind : List Part) → stop_of (MoreCarets ∷ behind) l.fn.tokens e ≡ stop_of (MoreCarets ∷ behind) l.rest e;
}

abbrev pub decreases-carets : goal.decreases-carets
decreases-carets l = length l.rest
