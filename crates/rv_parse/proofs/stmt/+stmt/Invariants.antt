use Rattle.std.proofs.Common.{◌≡◌, ◌≤◌, ◌+◌, ◌-◌, ◌*◌, ◌++◌, List, ◌∷◌, length}
use Rattle.lang_model.specs.declared.syntax.Stmt.{Stmt}
use Rattle.lang_model.specs.declared.token.Token.{Token}
use Rattle.lang_model.specs.Spelling.{SpelledStmts}
use Rattle.lang_model.specs.Stop.{Part, StmtsPart, stop_of}
use Rattle.rv_tokens.specs.Endings.{ending_of}
use Rattle.rv_parse.proofs.stmt.+stmt.Given as goal

abbrev pub decreases-stmts : goal.decreases-stmts
decreases-stmts l = 8 * (40 - l.depth) + 5

abbrev pub decreases-next_stmt : goal.decreases-next_stmt
decreases-next_stmt l = 8 * (40 - l.depth) + 4

abbrev pub decreases-looped : goal.decreases-looped
decreases-looped l = 8 * (40 - l.depth) + 3

abbrev pub decreases-branched : goal.decreases-branched
decreases-branched l = 8 * (40 - l.depth) + 3

abbrev pub decreases-second_part : goal.decreases-second_part
decreases-second_part l = 8 * (40 - l.depth) + 2

abbrev pub decreases-stmts_and_word : goal.decreases-stmts_and_word
decreases-stmts_and_word l = 8 * (40 - l.depth) + 1

abbrev pub decreases-inner_stmts : goal.decreases-inner_stmts
decreases-inner_stmts l = 8 * (40 - l.depth)

abbrev pub invariant-stmts-each : goal.invariant-stmts-each
invariant-stmts-each l = record {
  spelled : (ss : List Stmt) (z : List Token) → SpelledStmts l.depth ss l.rest z → SpelledStmts l.depth (l.stmts.items ++ ss) l.fn.tokens z;
  shorter : length l.rest ≤ length l.fn.tokens;
  read : (behind : List Part) → stop_of (StmtsPart l.depth ∷ behind) l.fn.tokens (ending_of l.end) ≡ stop_of (StmtsPart l.depth ∷ behind) l.rest (ending_of l.end);
}

abbrev pub decreases-stmts-each : goal.decreases-stmts-each
decreases-stmts-each l = length l.rest
