-- One step of the readers of statements each.
use Rattle.std.proofs.Common.{◌≡◌, ℕ, false, List, [], ◌∷◌, ◌++◌, refl, sym, ap, ◌∙◌, subst, append_assoc}
use Rattle.std.proofs.lemmas.List.{append-nil}
use Rattle.lang_model.specs.declared.syntax.Place.{Place}
use Rattle.lang_model.specs.declared.syntax.Stmt.{Stmt}
use Rattle.lang_model.specs.declared.token.Keyword.TheVariants.{Else as ELSE}
use Rattle.lang_model.specs.declared.token.Kind.TheVariants.{Keyword as KEYWORD, Sign}
use Rattle.lang_model.specs.declared.token.Token.{Token}
use Rattle.lang_model.specs.Taken.{TakesAt, Takes}
use Rattle.lang_model.specs.Lexed.{Ending}
use Rattle.lang_model.specs.Spelling.{SpelledStmt, SpelledStmts, no_stmt, one_stmt, more_stmts}
use Rattle.lang_model.specs.Stop.{Part, StmtsPart, MoreStmts, ElsePart, stop_of}
use Rattle.rv_parse.specs.Readers.{begins, begins_word}
use Rattle.rv_parse.proofs.Optional.{dropped_at, dropped_end, drop_sign, enter_sign, begun_stmts}

pub drop_else : (d : ℕ) (tokens : List Token) (e : Ending) (behind : List Part) → begins_word ELSE tokens ≡ false → stop_of (ElsePart d ∷ behind) tokens e ≡ stop_of behind tokens e
drop_else d [] e behind h = dropped_end (ElsePart d) e behind refl
drop_else d (t ∷ ts) e behind h = dropped_at (ElsePart d) t ts e behind refl (rw h refl)

pub enter_else : (d : ℕ) (at : Place) (tokens rest : List Token) (e : Ending) (behind : List Part) → TakesAt at (KEYWORD ELSE) tokens rest → stop_of (ElsePart d ∷ behind) tokens e ≡ stop_of (StmtsPart d ∷ behind) rest e
enter_else d at tokens rest e behind t = rw t refl

pub drop_stmts : (d : ℕ) (tokens : List Token) (e : Ending) (behind : List Part) → begins 59 tokens ≡ false → stop_of (MoreStmts d ∷ behind) tokens e ≡ stop_of behind tokens e
drop_stmts d = drop_sign (MoreStmts d) 59 _ (begun_stmts d)

pub enter_stmts : (d : ℕ) (at : Place) (tokens rest : List Token) (e : Ending) (behind : List Part) → TakesAt at (Sign 59) tokens rest → stop_of (MoreStmts d ∷ behind) tokens e ≡ stop_of (StmtsPart d ∷ behind) rest e
enter_stmts d = enter_sign (MoreStmts d) 59 _ (begun_stmts d)

-- one more statement with its semicolon
pub stmts_step : (d : ℕ) (s : Stmt) (items new ss : List Stmt) (start rest mid after end : List Token) → new ≡ items ++ s ∷ [] → SpelledStmt d s rest mid → Takes (Sign 59) mid after
    → ((xs : List Stmt) (z : List Token) → SpelledStmts d xs rest z → SpelledStmts d (items ++ xs) start z) → SpelledStmts d ss after end → SpelledStmts d (new ++ ss) start end
stmts_step d s items new ss start rest mid after end eq h semicolon so_far more =
    subst (λ xs. SpelledStmts d xs start end) (sym (ap (λ xs. xs ++ ss) eq ∙ append_assoc items (s ∷ []) ss)) (so_far (s ∷ ss) end (more_stmts d s ss rest mid after end h semicolon more))

-- the last statement
pub stmts_last : (d : ℕ) (s : Stmt) (items new : List Stmt) (start rest end : List Token) → new ≡ items ++ s ∷ [] → SpelledStmt d s rest end
    → ((xs : List Stmt) (z : List Token) → SpelledStmts d xs rest z → SpelledStmts d (items ++ xs) start z) → SpelledStmts d new start end
stmts_last d s items new start rest end eq h so_far = subst (λ xs. SpelledStmts d xs start end) (sym eq) (so_far (s ∷ []) end (one_stmt d s rest end h))

-- no further statement
pub stmts_all : (d : ℕ) (items : List Stmt) (start rest : List Token) → ((xs : List Stmt) (z : List Token) → SpelledStmts d xs rest z → SpelledStmts d (items ++ xs) start z) → SpelledStmts d items start rest
stmts_all d items start rest so_far = subst (λ xs. SpelledStmts d xs start rest) (append-nil items) (so_far [] rest (no_stmt d rest rest refl))
