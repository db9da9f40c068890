-- The tokens of any expression and statement fit. By induction on how they are spelled: each optional and repeated part is entered for what is spelled, and dropped before the token that follows it.
use Rattle.std.proofs.Common.{◌≡◌, ◌<◌, ℕ, false, List, [], ◌∷◌, ◌++◌, length, refl, sym, ap, ◌∙◌, subst, zero, suc, arith}
use Rattle.std.proofs.lemmas.Bool.{lt-ltb}
use Rattle.lang_model.specs.declared.syntax.Place.{Place}
use Rattle.lang_model.specs.declared.syntax.Op2.{Op2}
use Rattle.lang_model.specs.declared.syntax.Op2.TheVariants.{Or, And, Times, Under, Over}
use Rattle.lang_model.specs.declared.syntax.Expr.{Expr}
use Rattle.lang_model.specs.declared.syntax.Link.{Link}
use Rattle.lang_model.specs.declared.syntax.Stmt.{Stmt}
use Rattle.lang_model.specs.declared.token.Keyword.{Keyword}
use Rattle.lang_model.specs.declared.token.Keyword.TheVariants.{Return as RETURN, While as WHILE, Do as DO, Od as OD, If as IF, Then as THEN, Else as ELSE, Fi as FI}
use Rattle.lang_model.specs.declared.token.Kind.TheVariants.{Keyword as KEYWORD, Base as BASE, Word, File, Sign}
use Rattle.lang_model.specs.declared.token.Token.{Token}
use Rattle.lang_model.specs.Taken.{TakesAt, Carets}
use Rattle.lang_model.specs.Limits.{nesting_limit}
use Rattle.lang_model.specs.Lexed.{Ending}
use Rattle.lang_model.specs.BaseNames.{Form, TakesOne, TakesTwo, TakesDomain, form_of}
use Rattle.lang_model.specs.Spelling.{Level, OrLevel, AndLevel, ProdLevel, UnaryLevel, PostLevel, PrimLevel, tighter, IsOperatorOf, Spelled, named, called, based, based_twice, injected, paired, enclosed, turned, negated, chained, alone, Listed, no_more, one_more, Linked, no_link, one_link, SpelledStmt, assigned, looped, branched, branched_twice, SpelledStmts, no_stmt, one_stmt, more_stmts}
use Rattle.lang_model.specs.Stop.{Part, NamePart, SignPart, WordPart, ExprPart, CallPart, MoreArgs, MoreCarets, MoreLinks, StmtsPart, MoreStmts, ElsePart, form_parts, stop_of}
use Rattle.rv_parse.specs.Readers.{begins}
use Rattle.rv_parse.proofs.Leaves.{reads_sign, reads_word, opens}
use Rattle.rv_parse.proofs.Optional.{drop_call, enter_call, enter_args, enter_carets}
use Rattle.rv_parse.proofs.Exprs.{or_enters, and_enters, prod_enters, post_enters, unary_is_post, unary_negates}
use Rattle.rv_parse.proofs.Stmts.{enter_stmts, enter_else}

-- ---- what stands behind an expression
-- what may still come behind an expression of a level
abbrev pub after : Level → ℕ → List Part
after OrLevel d = MoreCarets ∷ MoreLinks ProdLevel d ∷ MoreLinks AndLevel d ∷ MoreLinks OrLevel d ∷ []
after AndLevel d = MoreCarets ∷ MoreLinks ProdLevel d ∷ MoreLinks AndLevel d ∷ []
after ProdLevel d = MoreCarets ∷ MoreLinks ProdLevel d ∷ []
after UnaryLevel d = MoreCarets ∷ []
after PostLevel d = MoreCarets ∷ []
after PrimLevel d = []

-- the first token goes on with no expression
pub record Closed (rest : List Token) : Type 0 where
  pub no_call : begins 40 rest ≡ false
  pub dropped : (e : Ending) (d : ℕ) (behind : List Part) → stop_of (after OrLevel d ++ behind) rest e ≡ stop_of behind rest e

pub closed_word : (w : Keyword) (at : Place) (rest end : List Token) → TakesAt at (KEYWORD w) rest end → Closed rest
closed_word w at rest end t = record { no_call = ap (begins 40) t; dropped = λ e d behind. rw t refl }

pub closed_file : (text : List ℕ) (at : Place) (rest end : List Token) → TakesAt at (File text) rest end → Closed rest
closed_file text at rest end t = record { no_call = ap (begins 40) t; dropped = λ e d behind. rw t refl }

pub closed_paren : (at : Place) (rest end : List Token) → TakesAt at (Sign 41) rest end → Closed rest
closed_paren at rest end t = record { no_call = ap (begins 40) t; dropped = λ e d behind. rw t refl }

pub closed_comma : (at : Place) (rest end : List Token) → TakesAt at (Sign 44) rest end → Closed rest
closed_comma at rest end t = record { no_call = ap (begins 40) t; dropped = λ e d behind. rw t refl }

closed_bracket : (at : Place) (rest end : List Token) → TakesAt at (Sign 93) rest end → Closed rest
closed_bracket at rest end t = record { no_call = ap (begins 40) t; dropped = λ e d behind. rw t refl }

pub closed_stop : (at : Place) (rest end : List Token) → TakesAt at (Sign 46) rest end → Closed rest
closed_stop at rest end t = record { no_call = ap (begins 40) t; dropped = λ e d behind. rw t refl }

pub closed_semicolon : (at : Place) (rest end : List Token) → TakesAt at (Sign 59) rest end → Closed rest
closed_semicolon at rest end t = record { no_call = ap (begins 40) t; dropped = λ e d behind. rw t refl }

-- ---- expressions
fits_carets : (n : ℕ) (tokens rest : List Token) → Carets n tokens rest → (e : Ending) (behind : List Part) → stop_of (MoreCarets ∷ behind) tokens e ≡ stop_of (MoreCarets ∷ behind) rest e
fits_carets zero tokens rest s e behind = ap (λ z. stop_of (MoreCarets ∷ behind) z e) (sym s)
fits_carets (suc n) tokens rest s e behind = enter_carets s.1.0 tokens s.0 e behind s.1.1 ∙ fits_carets n s.0 rest s.2 e behind

-- no name, call, pair, parenthesis or sign ^ begins with a minus
abbrev pub IsTight : Level → Type 0
IsTight PostLevel = Unit {0}
IsTight PrimLevel = Unit {0}
IsTight _ = ⊥

tight_tighter : (l : Level) → IsTight l → IsTight (tighter l)
tight_tighter OrLevel h = absurd h
tight_tighter AndLevel h = absurd h
tight_tighter ProdLevel h = absurd h
tight_tighter UnaryLevel h = absurd h
tight_tighter PostLevel h = tt
tight_tighter PrimLevel h = tt

-- an expression of these levels begins with no minus: by its first token, or that of the expression it begins with
pub no_minus : {l : Level} {d : ℕ} {x : Expr} {tokens rest : List Token} → Spelled l d x tokens rest → IsTight l → begins 45 tokens ≡ false
no_minus (named d at text tokens rest t) h = ap (begins 45) t
no_minus (called d at text args first more tokens t1 t2 t3 t4 rest l q t _ _ _ _) h = ap (begins 45) t
no_minus (based d at base args x tokens t1 t2 t3 rest l f q t _ _ _) h = ap (begins 45) t
no_minus (based_twice d at base args x y tokens t1 t2 t3 t4 t5 rest l f q t _ _ _ _ _) h = ap (begins 45) t
no_minus (injected d at base domain tokens t1 t2 t3 rest l f t _ _ _) h = ap (begins 45) t
no_minus (paired d at left right tokens t1 t2 t3 t4 rest l t _ _ _ _) h = ap (begins 45) t
no_minus (enclosed d x tokens mid after rest l paren s close) h = ap (begins 45) paren.1
no_minus (turned d at of n tokens mid after rest s t cs) h = no_minus s tt
no_minus (negated d at of tokens mid rest l t s) h = absurd h
no_minus (chained l d first links tokens mid rest s p ls) h = no_minus s (tight_tighter l h)
no_minus (alone l d x tokens rest s) h = no_minus s (tight_tighter l h)

-- the levels of chains
abbrev pub IsChains : Level → Type 0
IsChains OrLevel = Unit {0}
IsChains AndLevel = Unit {0}
IsChains ProdLevel = Unit {0}
IsChains _ = ⊥

pub is_chains : (l : Level) (op : Op2) (sign : ℕ) → IsOperatorOf l op sign → IsChains l
is_chains OrLevel Or sign o = tt
is_chains AndLevel And sign o = tt
is_chains ProdLevel Times sign o = tt
is_chains ProdLevel Under sign o = tt
is_chains ProdLevel Over sign o = tt
is_chains _ _ sign o = absurd o

chains_enter : (l : Level) (d : ℕ) (tokens : List Token) (e : Ending) (behind : List Part) → IsChains l → stop_of (ExprPart l d ∷ behind) tokens e ≡ stop_of (ExprPart (tighter l) d ∷ MoreLinks l d ∷ behind) tokens e
chains_enter OrLevel d tokens e behind h = or_enters d tokens e behind
chains_enter AndLevel d tokens e behind h = and_enters d tokens e behind
chains_enter ProdLevel d tokens e behind h = prod_enters d tokens e behind
chains_enter UnaryLevel d tokens e behind h = absurd h
chains_enter PostLevel d tokens e behind h = absurd h
chains_enter PrimLevel d tokens e behind h = absurd h

chains_go_on : (l : Level) (d : ℕ) (behind : List Part) → IsChains l → after (tighter l) d ++ MoreLinks l d ∷ behind ≡ after l d ++ behind
chains_go_on OrLevel d behind h = refl
chains_go_on AndLevel d behind h = refl
chains_go_on ProdLevel d behind h = refl
chains_go_on UnaryLevel d behind h = absurd h
chains_go_on PostLevel d behind h = absurd h
chains_go_on PrimLevel d behind h = absurd h

-- at an operator the operands' further parts are dropped, and a link is entered
link_enters : (l : Level) (d : ℕ) (op : Op2) (sign : ℕ) (at : Place) (tokens mid : List Token) (e : Ending) (behind : List Part) → IsOperatorOf l op sign → TakesAt at (Sign sign) tokens mid
    → stop_of (after (tighter l) d ++ MoreLinks l d ∷ behind) tokens e ≡ stop_of (ExprPart (tighter l) d ∷ MoreLinks l d ∷ behind) mid e
link_enters OrLevel d Or sign at tokens mid e behind o t = rw t (rw o refl)
link_enters AndLevel d And sign at tokens mid e behind o t = rw t (rw o refl)
link_enters ProdLevel d Times sign at tokens mid e behind o t = rw t (rw o refl)
link_enters ProdLevel d Under sign at tokens mid e behind o t = rw t (rw o refl)
link_enters ProdLevel d Over sign at tokens mid e behind o t = rw t (rw o refl)
link_enters _ d _ sign at tokens mid e behind o t = absurd o

no_call_at : (l : Level) (op : Op2) (sign : ℕ) (at : Place) (tokens mid : List Token) → IsOperatorOf l op sign → TakesAt at (Sign sign) tokens mid → begins 40 tokens ≡ false
no_call_at OrLevel Or sign at tokens mid o t = rw t (rw o refl)
no_call_at AndLevel And sign at tokens mid o t = rw t (rw o refl)
no_call_at ProdLevel Times sign at tokens mid o t = rw t (rw o refl)
no_call_at ProdLevel Under sign at tokens mid o t = rw t (rw o refl)
no_call_at ProdLevel Over sign at tokens mid o t = rw t (rw o refl)
no_call_at _ _ sign at tokens mid o t = absurd o

no_call_before : {l : Level} {d : ℕ} {xs : List Link} {tokens rest : List Token} → Linked l d xs tokens rest → begins 40 rest ≡ false → begins 40 tokens ≡ false
no_call_before (no_link l d tokens rest eq) h = subst (λ z. begins 40 z ≡ false) eq h
no_call_before (one_link l d x xs sign tokens mid after rest o t s ls) h = no_call_at l x.op sign x.at tokens mid o t

linked_chains : {l : Level} {d : ℕ} {xs : List Link} {tokens rest : List Token} → Linked l d xs tokens rest → 0 < length xs → IsChains l
linked_chains (no_link l d tokens rest eq) p = absurd (omega arith)
linked_chains (one_link l d x xs sign tokens mid after rest o t s ls) p = is_chains l x.op sign o

-- behind an argument stands a comma or the closing parenthesis
closed_before : {n d : ℕ} {es : List Expr} {tokens rest : List Token} (at : Place) (end : List Token) → Listed n d es tokens rest → TakesAt at (Sign 41) rest end → Closed tokens
closed_before at end (no_more n d tokens rest eq) t = subst Closed eq (closed_paren at rest end t)
closed_before at end (one_more n d x es tokens mid after rest comma s ls) t = closed_comma comma.0 tokens mid comma.1

-- an expression of the next tighter level
fits_alone : (l : Level) (d : ℕ) (tokens rest : List Token) (e : Ending) → (IsTight (tighter l) → begins 45 tokens ≡ false) → ((behind : List Part) → stop_of (ExprPart (tighter l) d ∷ behind) tokens e ≡ stop_of (after (tighter l) d ++ behind) rest e) → (behind : List Part) → stop_of (ExprPart l d ∷ behind) tokens e ≡ stop_of (after l d ++ behind) rest e
fits_alone OrLevel d tokens rest e h ih behind = or_enters d tokens e behind ∙ ih (MoreLinks OrLevel d ∷ behind)
fits_alone AndLevel d tokens rest e h ih behind = and_enters d tokens e behind ∙ ih (MoreLinks AndLevel d ∷ behind)
fits_alone ProdLevel d tokens rest e h ih behind = prod_enters d tokens e behind ∙ ih (MoreLinks ProdLevel d ∷ behind)
fits_alone UnaryLevel d tokens rest e h ih behind = unary_is_post d tokens e behind (h tt) ∙ ih behind
fits_alone PostLevel d tokens rest e h ih behind = post_enters d tokens e behind ∙ ih (MoreCarets ∷ behind)
fits_alone PrimLevel d tokens rest e h ih behind = ih behind

-- ---- the first token of a prim
begins_named : (d : ℕ) (text : List ℕ) (at : Place) (tokens rest : List Token) (e : Ending) (behind : List Part) → TakesAt at (Word text) tokens rest → stop_of (ExprPart PrimLevel d ∷ behind) tokens e ≡ stop_of (CallPart d ∷ behind) rest e
begins_named d text at tokens rest e behind t = rw t refl

begins_based : (d : ℕ) (base : _) (form : Form) (at : Place) (tokens rest : List Token) (e : Ending) (behind : List Part) → form_of base ≡ form → TakesAt at (BASE base) tokens rest → stop_of (ExprPart PrimLevel d ∷ behind) tokens e ≡ stop_of (form_parts form d ++ behind) rest e
begins_based d base form at tokens rest e behind f t = rw t (rw f refl)

begins_enclosed : (d : ℕ) (at : Place) (tokens rest : List Token) (e : Ending) (behind : List Part) → d < nesting_limit → TakesAt at (Sign 40) tokens rest → stop_of (ExprPart PrimLevel d ∷ behind) tokens e ≡ stop_of (ExprPart OrLevel (suc d) ∷ SignPart 41 ∷ behind) rest e
begins_enclosed d at tokens rest e behind l t = rw t (rw (lt-ltb d 40 l) refl)

begins_paired : (d : ℕ) (at : Place) (tokens rest : List Token) (e : Ending) (behind : List Part) → d < nesting_limit → TakesAt at (Sign 91) tokens rest → stop_of (ExprPart PrimLevel d ∷ behind) tokens e ≡ stop_of (ExprPart OrLevel (suc d) ∷ SignPart 44 ∷ ExprPart OrLevel (suc d) ∷ SignPart 93 ∷ behind) rest e
begins_paired d at tokens rest e behind l t = rw t (rw (lt-ltb d 40 l) refl)

mutual
  -- an expression with no '(' behind it fits, by induction on how it is spelled: its first token enters it, its parts
  -- fit in turn, and each ends at the sign behind it
  pub fits : {l : Level} {d : ℕ} {x : Expr} {tokens rest : List Token} → Spelled l d x tokens rest → begins 40 rest ≡ false → (e : Ending) (behind : List Part) → stop_of (ExprPart l d ∷ behind) tokens e ≡ stop_of (after l d ++ behind) rest e
  fits (named d at text tokens rest t) h e behind = begins_named d text at tokens rest e behind t ∙ drop_call d rest e behind h
  fits (called d at text args first more tokens t1 t2 t3 t4 rest l q t opened s ls close) h e behind =
      begins_named d text at tokens t1 e behind t ∙ enter_call d opened.0 t1 t2 e behind opened.1 l ∙ fits s (closed_before close.0 rest ls close.1).no_call e (MoreArgs 15 (suc d) ∷ SignPart 41 ∷ behind)
      ∙ (closed_before close.0 rest ls close.1).dropped e (suc d) (MoreArgs 15 (suc d) ∷ SignPart 41 ∷ behind) ∙ fits_listed ls close.0 rest close.1 e behind ∙ reads_sign 41 close.0 t4 rest e behind close.1
  fits (based d at base args x tokens t1 t2 t3 rest l f q t opened s close) h e behind =
      begins_based d base TakesOne at tokens t1 e behind f t ∙ opens d opened.0 t1 t2 e (ExprPart OrLevel (suc d) ∷ SignPart 41 ∷ behind) opened.1 l ∙ fits s (closed_paren close.0 t3 rest close.1).no_call e (SignPart 41 ∷ behind)
      ∙ (closed_paren close.0 t3 rest close.1).dropped e (suc d) (SignPart 41 ∷ behind) ∙ reads_sign 41 close.0 t3 rest e behind close.1
  fits (based_twice d at base args x y tokens t1 t2 t3 t4 t5 rest l f q t opened s comma r close) h e behind =
      begins_based d base TakesTwo at tokens t1 e behind f t ∙ opens d opened.0 t1 t2 e (ExprPart OrLevel (suc d) ∷ SignPart 44 ∷ ExprPart OrLevel (suc d) ∷ SignPart 41 ∷ behind) opened.1 l
      ∙ fits s (closed_comma comma.0 t3 t4 comma.1).no_call e (SignPart 44 ∷ ExprPart OrLevel (suc d) ∷ SignPart 41 ∷ behind) ∙ (closed_comma comma.0 t3 t4 comma.1).dropped e (suc d) (SignPart 44 ∷ ExprPart OrLevel (suc d) ∷ SignPart 41 ∷ behind)
      ∙ reads_sign 44 comma.0 t3 t4 e (ExprPart OrLevel (suc d) ∷ SignPart 41 ∷ behind) comma.1
      ∙ fits r (closed_paren close.0 t5 rest close.1).no_call e (SignPart 41 ∷ behind) ∙ (closed_paren close.0 t5 rest close.1).dropped e (suc d) (SignPart 41 ∷ behind) ∙ reads_sign 41 close.0 t5 rest e behind close.1
  fits (injected d at base domain tokens t1 t2 t3 rest l f t opened name close) h e behind =
      begins_based d base TakesDomain at tokens t1 e behind f t ∙ opens d opened.0 t1 t2 e (NamePart ∷ SignPart 41 ∷ behind) opened.1 l ∙ ap (λ z. stop_of (NamePart ∷ SignPart 41 ∷ behind) z e) name.1 ∙ reads_sign 41 close.0 t3 rest e behind close.1
  fits (paired d at left right tokens t1 t2 t3 t4 rest l t s comma r close) h e behind =
      begins_paired d at tokens t1 e behind l t
      ∙ fits s (closed_comma comma.0 t2 t3 comma.1).no_call e (SignPart 44 ∷ ExprPart OrLevel (suc d) ∷ SignPart 93 ∷ behind) ∙ (closed_comma comma.0 t2 t3 comma.1).dropped e (suc d) (SignPart 44 ∷ ExprPart OrLevel (suc d) ∷ SignPart 93 ∷ behind)
      ∙ reads_sign 44 comma.0 t2 t3 e (ExprPart OrLevel (suc d) ∷ SignPart 93 ∷ behind) comma.1
      ∙ fits r (closed_bracket close.0 t4 rest close.1).no_call e (SignPart 93 ∷ behind) ∙ (closed_bracket close.0 t4 rest close.1).dropped e (suc d) (SignPart 93 ∷ behind) ∙ reads_sign 93 close.0 t4 rest e behind close.1
  fits (enclosed d x tokens mid after' rest l paren s close) h e behind =
      begins_enclosed d paren.0 tokens mid e behind l paren.1 ∙ fits s (closed_paren close.0 after' rest close.1).no_call e (SignPart 41 ∷ behind)
      ∙ (closed_paren close.0 after' rest close.1).dropped e (suc d) (SignPart 41 ∷ behind) ∙ reads_sign 41 close.0 after' rest e behind close.1
  fits (turned d at of n tokens mid after' rest s t cs) h e behind =
      post_enters d tokens e behind ∙ fits s (ap (begins 40) t) e (MoreCarets ∷ behind) ∙ fits_carets (suc n) mid rest (after', (at, t), cs) e behind
  fits (negated d at of tokens mid rest l t s) h e behind = unary_negates d at tokens mid e behind t l ∙ fits s h e behind
  fits (chained l d first links tokens mid rest s p ls) h e behind =
      chains_enter l d tokens e behind (linked_chains ls p) ∙ fits s (no_call_before ls h) e (MoreLinks l d ∷ behind) ∙ fits_links ls (linked_chains ls p) h e behind
  fits (alone l d x tokens rest s) h e behind = fits_alone l d tokens rest e (no_minus s) (fits s h e) behind

  fits_listed : {n d : ℕ} {es : List Expr} {tokens rest : List Token} → Listed n d es tokens rest → (at : Place) (end : List Token) → TakesAt at (Sign 41) rest end → (e : Ending) (behind : List Part) → stop_of (MoreArgs n d ∷ SignPart 41 ∷ behind) tokens e ≡ stop_of (SignPart 41 ∷ behind) rest e
  fits_listed (no_more zero d tokens rest eq) at end t e behind = subst (λ z. stop_of (MoreArgs zero d ∷ SignPart 41 ∷ behind) z e ≡ stop_of (SignPart 41 ∷ behind) rest e) eq (rw t refl)
  fits_listed (no_more (suc n) d tokens rest eq) at end t e behind = subst (λ z. stop_of (MoreArgs (suc n) d ∷ SignPart 41 ∷ behind) z e ≡ stop_of (SignPart 41 ∷ behind) rest e) eq (rw t refl)
  fits_listed (one_more n d x es tokens mid after' rest comma s ls) at end t e behind =
      enter_args n d comma.0 tokens mid e (SignPart 41 ∷ behind) comma.1 ∙ fits s (closed_before at end ls t).no_call e (MoreArgs n d ∷ SignPart 41 ∷ behind)
      ∙ (closed_before at end ls t).dropped e d (MoreArgs n d ∷ SignPart 41 ∷ behind) ∙ fits_listed ls at end t e behind

  fits_links : {l : Level} {d : ℕ} {xs : List Link} {tokens rest : List Token} → Linked l d xs tokens rest → IsChains l → begins 40 rest ≡ false → (e : Ending) (behind : List Part) → stop_of (after (tighter l) d ++ MoreLinks l d ∷ behind) tokens e ≡ stop_of (after l d ++ behind) rest e
  fits_links (no_link l d tokens rest eq) c h e behind = ap (λ ps. stop_of ps tokens e) (chains_go_on l d behind c) ∙ ap (λ z. stop_of (after l d ++ behind) z e) (sym eq)
  fits_links (one_link l d x xs sign tokens mid after' rest o t s ls) c h e behind =
      link_enters l d x.op sign x.at tokens mid e behind o t ∙ fits s (no_call_before ls h) e (MoreLinks l d ∷ behind) ∙ fits_links ls c h e behind

-- a whole expression
pub fits_whole : {d : ℕ} {x : Expr} {tokens rest : List Token} → Spelled OrLevel d x tokens rest → Closed rest → (e : Ending) (behind : List Part) → stop_of (ExprPart OrLevel d ∷ behind) tokens e ≡ stop_of behind rest e
fits_whole {d} s c e behind = fits s c.no_call e behind ∙ c.dropped e d behind

-- ---- statements
-- the first token is the word that ends a list of statements
pub record Ends (rest : List Token) : Type 0 where
  pub closed : Closed rest
  pub no_stmts : (e : Ending) (d : ℕ) (behind : List Part) → stop_of (StmtsPart d ∷ behind) rest e ≡ stop_of behind rest e
  pub no_more_stmts : (e : Ending) (d : ℕ) (behind : List Part) → stop_of (MoreStmts d ∷ behind) rest e ≡ stop_of behind rest e

pub ends_return : (at : Place) (rest end : List Token) → TakesAt at (KEYWORD RETURN) rest end → Ends rest
ends_return at rest end t = record { closed = closed_word RETURN at rest end t; no_stmts = λ e d behind. rw t refl; no_more_stmts = λ e d behind. rw t refl }

ends_od : (at : Place) (rest end : List Token) → TakesAt at (KEYWORD OD) rest end → Ends rest
ends_od at rest end t = record { closed = closed_word OD at rest end t; no_stmts = λ e d behind. rw t refl; no_more_stmts = λ e d behind. rw t refl }

ends_else : (at : Place) (rest end : List Token) → TakesAt at (KEYWORD ELSE) rest end → Ends rest
ends_else at rest end t = record { closed = closed_word ELSE at rest end t; no_stmts = λ e d behind. rw t refl; no_more_stmts = λ e d behind. rw t refl }

ends_fi : (at : Place) (rest end : List Token) → TakesAt at (KEYWORD FI) rest end → Ends rest
ends_fi at rest end t = record { closed = closed_word FI at rest end t; no_stmts = λ e d behind. rw t refl; no_more_stmts = λ e d behind. rw t refl }

begins_set : (d : ℕ) (name : List ℕ) (at : Place) (tokens rest : List Token) (e : Ending) (behind : List Part) → TakesAt at (Word name) tokens rest → stop_of (StmtsPart d ∷ behind) tokens e ≡ stop_of (SignPart 61 ∷ ExprPart OrLevel d ∷ MoreStmts d ∷ behind) rest e
begins_set d name at tokens rest e behind t = rw t refl

begins_while : (d : ℕ) (at : Place) (tokens rest : List Token) (e : Ending) (behind : List Part) → d < nesting_limit → TakesAt at (KEYWORD WHILE) tokens rest → stop_of (StmtsPart d ∷ behind) tokens e ≡ stop_of (ExprPart OrLevel (suc d) ∷ WordPart DO ∷ StmtsPart (suc d) ∷ WordPart OD ∷ MoreStmts d ∷ behind) rest e
begins_while d at tokens rest e behind l t = rw t (rw (lt-ltb d 40 l) refl)

begins_if : (d : ℕ) (at : Place) (tokens rest : List Token) (e : Ending) (behind : List Part) → d < nesting_limit → TakesAt at (KEYWORD IF) tokens rest → stop_of (StmtsPart d ∷ behind) tokens e ≡ stop_of (ExprPart OrLevel (suc d) ∷ WordPart THEN ∷ StmtsPart (suc d) ∷ ElsePart (suc d) ∷ WordPart FI ∷ MoreStmts d ∷ behind) rest e
begins_if d at tokens rest e behind l t = rw t (rw (lt-ltb d 40 l) refl)

no_else : (d : ℕ) (at : Place) (tokens rest : List Token) (e : Ending) (behind : List Part) → TakesAt at (KEYWORD FI) tokens rest → stop_of (ElsePart d ∷ behind) tokens e ≡ stop_of behind tokens e
no_else d at tokens rest e behind t = rw t refl

mutual
  -- a statement fits, by induction on how it is spelled: its first token enters it, its parts fit in turn, and each
  -- ends at the keyword behind it
  fits_stmt : {d : ℕ} {s : Stmt} {tokens rest : List Token} → SpelledStmt d s tokens rest → Closed rest → (e : Ending) (behind : List Part) → stop_of (StmtsPart d ∷ behind) tokens e ≡ stop_of (MoreStmts d ∷ behind) rest e
  fits_stmt (assigned d at name value tokens t1 t2 rest t equals v) c e behind =
      begins_set d name at tokens t1 e behind t ∙ reads_sign 61 equals.0 t1 t2 e (ExprPart OrLevel d ∷ MoreStmts d ∷ behind) equals.1 ∙ fits_whole v c e (MoreStmts d ∷ behind)
  fits_stmt (looped d at test body tokens t1 t2 t3 t4 rest l t x does b od) c e behind =
      begins_while d at tokens t1 e behind l t ∙ fits_whole x (closed_word DO does.0 t2 t3 does.1) e (WordPart DO ∷ StmtsPart (suc d) ∷ WordPart OD ∷ MoreStmts d ∷ behind)
      ∙ reads_word DO does.0 t2 t3 e (StmtsPart (suc d) ∷ WordPart OD ∷ MoreStmts d ∷ behind) does.1 ∙ fits_stmts b (ends_od od.0 t4 rest od.1) e (WordPart OD ∷ MoreStmts d ∷ behind) ∙ reads_word OD od.0 t4 rest e (MoreStmts d ∷ behind) od.1
  fits_stmt (branched d at test one two tokens t1 t2 t3 t4 rest l t x then y none fi) c e behind =
      begins_if d at tokens t1 e behind l t ∙ fits_whole x (closed_word THEN then.0 t2 t3 then.1) e (WordPart THEN ∷ StmtsPart (suc d) ∷ ElsePart (suc d) ∷ WordPart FI ∷ MoreStmts d ∷ behind)
      ∙ reads_word THEN then.0 t2 t3 e (StmtsPart (suc d) ∷ ElsePart (suc d) ∷ WordPart FI ∷ MoreStmts d ∷ behind) then.1 ∙ fits_stmts y (ends_fi fi.0 t4 rest fi.1) e (ElsePart (suc d) ∷ WordPart FI ∷ MoreStmts d ∷ behind)
      ∙ no_else (suc d) fi.0 t4 rest e (WordPart FI ∷ MoreStmts d ∷ behind) fi.1 ∙ reads_word FI fi.0 t4 rest e (MoreStmts d ∷ behind) fi.1
  fits_stmt (branched_twice d at test one two tokens t1 t2 t3 t4 t5 t6 rest l t x then y other n fi) c e behind =
      begins_if d at tokens t1 e behind l t ∙ fits_whole x (closed_word THEN then.0 t2 t3 then.1) e (WordPart THEN ∷ StmtsPart (suc d) ∷ ElsePart (suc d) ∷ WordPart FI ∷ MoreStmts d ∷ behind)
      ∙ reads_word THEN then.0 t2 t3 e (StmtsPart (suc d) ∷ ElsePart (suc d) ∷ WordPart FI ∷ MoreStmts d ∷ behind) then.1 ∙ fits_stmts y (ends_else other.0 t4 t5 other.1) e (ElsePart (suc d) ∷ WordPart FI ∷ MoreStmts d ∷ behind)
      ∙ enter_else (suc d) other.0 t4 t5 e (WordPart FI ∷ MoreStmts d ∷ behind) other.1 ∙ fits_stmts n (ends_fi fi.0 t6 rest fi.1) e (WordPart FI ∷ MoreStmts d ∷ behind) ∙ reads_word FI fi.0 t6 rest e (MoreStmts d ∷ behind) fi.1

  pub fits_stmts : {d : ℕ} {ss : List Stmt} {tokens rest : List Token} → SpelledStmts d ss tokens rest → Ends rest → (e : Ending) (behind : List Part) → stop_of (StmtsPart d ∷ behind) tokens e ≡ stop_of behind rest e
  fits_stmts (no_stmt d tokens rest eq) n e behind = subst (λ z. stop_of (StmtsPart d ∷ behind) z e ≡ stop_of behind rest e) eq (n.no_stmts e d behind)
  fits_stmts (one_stmt d s tokens rest h) n e behind = fits_stmt h n.closed e behind ∙ n.no_more_stmts e d behind
  fits_stmts (more_stmts d s ss tokens mid after' rest h semicolon hs) n e behind =
      fits_stmt h (closed_semicolon semicolon.0 mid after' semicolon.1) e behind ∙ enter_stmts d semicolon.0 mid after' e behind semicolon.1 ∙ fits_stmts hs n e behind
