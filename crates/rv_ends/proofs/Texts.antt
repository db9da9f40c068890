-- The names of the files that a script saves are ASCII, since its file texts are.
-- 1. Each token of a text that is a file text has printing bytes alone.
-- 2. A tree of the grammar takes tokens from the front, so what it leaves are such tokens too.
-- 3. So each SAVE of a script has such a text, and each file of a run is one of a SAVE.
use Rattle.std.proofs.Common.{ℕ, zero, suc, List, sym, subst}
use Rattle.std.specs.List.{AllByRecursion}
use Rattle.std.specs.Str.{IsAscii}
use Rattle.lang_model.specs.declared.syntax.Expr.{Expr}
use Rattle.lang_model.specs.declared.syntax.Link.{Link}
use Rattle.lang_model.specs.declared.syntax.Stmt.{Stmt}
use Rattle.lang_model.specs.declared.syntax.Place.{Place}
use Rattle.lang_model.specs.declared.token.Kind.{Kind}
use Rattle.lang_model.specs.declared.token.Kind.TheVariants.{Keyword, Base, Word, Number, File, Sign}
use Rattle.lang_model.specs.declared.token.Token.{Token}
use Rattle.lang_model.specs.Taken.{TakesAt, Takes, Carets}
use Rattle.lang_model.specs.Spelling.{Level, Spelled, named, called, based, based_twice, injected, paired, enclosed, turned, negated, chained, alone, Listed, no_more, one_more, Linked, no_link, one_link, SpelledStmt, assigned, looped, branched, branched_twice, SpelledStmts, no_stmt, one_stmt, more_stmts}

-- a file text is ASCII
abbrev pub HasText : Kind → Type 0
HasText (Keyword word) = Unit {0}
HasText (Base base) = Unit {0}
HasText (Word text) = Unit {0}
HasText (Number value) = Unit {0}
HasText (File text) = IsAscii text
HasText (Sign byte) = Unit {0}

-- so are those of tokens
abbrev pub AreTexts : List Token → Type 0
AreTexts = AllByRecursion (λ t. HasText t.kind)

-- ---- what is left behind a tree
pub behind_at : {at : Place} {kind : Kind} {tokens rest : List Token} → TakesAt at kind tokens rest → AreTexts tokens → AreTexts rest
behind_at e h = (subst AreTexts e h).1

pub behind : {kind : Kind} {tokens rest : List Token} → Takes kind tokens rest → AreTexts tokens → AreTexts rest
behind t h = behind_at t.1 h

-- the file text that is taken
pub text_taken : {text : List ℕ} {tokens rest : List Token} → Takes (File text) tokens rest → AreTexts tokens → IsAscii text
text_taken t h = (subst AreTexts t.1 h).0

behind_carets : (n : ℕ) (tokens rest : List Token) → Carets n tokens rest → AreTexts tokens → AreTexts rest
behind_carets zero tokens rest c h = subst AreTexts (sym c) h
behind_carets (suc n) tokens rest c h = behind_carets n c.0 rest c.2 (behind c.1 h)

mutual
  -- an expression leaves such tokens behind it, by induction on how it is spelled: each of its parts takes tokens from
  -- the front
  pub behind_expr : {l : Level} {d : ℕ} {x : Expr} {tokens rest : List Token} → Spelled l d x tokens rest → AreTexts tokens → AreTexts rest
  behind_expr (named d at text tokens rest t) h = behind_at t h
  behind_expr (called d at text args first more tokens t1 t2 t3 t4 rest l q t opened s ls close) h = behind close (behind_listed ls (behind_expr s (behind opened (behind_at t h))))
  behind_expr (based d at base args x tokens t1 t2 t3 rest l f q t opened s close) h = behind close (behind_expr s (behind opened (behind_at t h)))
  behind_expr (based_twice d at base args x y tokens t1 t2 t3 t4 t5 rest l f q t opened s comma r close) h =
      behind close (behind_expr r (behind comma (behind_expr s (behind opened (behind_at t h)))))
  behind_expr (injected d at base domain tokens t1 t2 t3 rest l f t opened name close) h = behind close (behind name (behind opened (behind_at t h)))
  behind_expr (paired d at left right tokens t1 t2 t3 t4 rest l t s comma r close) h = behind close (behind_expr r (behind comma (behind_expr s (behind_at t h))))
  behind_expr (enclosed d x tokens mid after rest l paren s close) h = behind close (behind_expr s (behind paren h))
  behind_expr (turned d at of n tokens mid after rest s t cs) h = behind_carets n after rest cs (behind_at t (behind_expr s h))
  behind_expr (negated d at of tokens mid rest l t s) h = behind_expr s (behind_at t h)
  behind_expr (chained l d first links tokens mid rest s p ls) h = behind_linked ls (behind_expr s h)
  behind_expr (alone l d x tokens rest s) h = behind_expr s h

  behind_listed : {n d : ℕ} {es : List Expr} {tokens rest : List Token} → Listed n d es tokens rest → AreTexts tokens → AreTexts rest
  behind_listed (no_more n d tokens rest e) h = subst AreTexts (sym e) h
  behind_listed (one_more n d x es tokens mid after rest comma s ls) h = behind_listed ls (behind_expr s (behind comma h))

  behind_linked : {l : Level} {d : ℕ} {xs : List Link} {tokens rest : List Token} → Linked l d xs tokens rest → AreTexts tokens → AreTexts rest
  behind_linked (no_link l d tokens rest e) h = subst AreTexts (sym e) h
  behind_linked (one_link l d x xs sign tokens mid after rest o t s ls) h = behind_linked ls (behind_expr s (behind_at t h))

mutual
  behind_stmt : {d : ℕ} {x : Stmt} {tokens rest : List Token} → SpelledStmt d x tokens rest → AreTexts tokens → AreTexts rest
  behind_stmt (assigned d at name value tokens t1 t2 rest t is s) h = behind_expr s (behind is (behind_at t h))
  behind_stmt (looped d at test body tokens t1 t2 t3 t4 rest l t s w ss od) h = behind od (behind_stmts ss (behind w (behind_expr s (behind_at t h))))
  behind_stmt (branched d at test left right tokens t1 t2 t3 t4 rest l t s w ss e fi) h = behind fi (behind_stmts ss (behind w (behind_expr s (behind_at t h))))
  behind_stmt (branched_twice d at test left right tokens t1 t2 t3 t4 t5 t6 rest l t s w ss o rs fi) h =
      behind fi (behind_stmts rs (behind o (behind_stmts ss (behind w (behind_expr s (behind_at t h))))))

  pub behind_stmts : {d : ℕ} {xs : List Stmt} {tokens rest : List Token} → SpelledStmts d xs tokens rest → AreTexts tokens → AreTexts rest
  behind_stmts (no_stmt d tokens rest e) h = subst AreTexts (sym e) h
  behind_stmts (one_stmt d x tokens rest s) h = behind_stmt s h
  behind_stmts (more_stmts d x xs tokens mid after rest s semi ss) h = behind_stmts ss (behind semi (behind_stmt s h))
