-- Optional and repeated parts: entered where their first sign comes, and else dropped.
use Rattle.std.proofs.Common.{◌≡◌, ◌<◌, ◌≤◌, ℕ, true, false, List, [], ◌∷◌, ◌++◌, Some, None, refl, ◌∙◌, suc, zero}
use Rattle.std.proofs.lemmas.Bool.{eq-eqb, lt-ltb, le-ltb}
use Rattle.lang_model.specs.declared.syntax.Place.{Place}
use Rattle.lang_model.specs.declared.faults.ParseFault.TheVariants.{TooDeep}
use Rattle.lang_model.specs.declared.token.Kind.{Kind}
use Rattle.lang_model.specs.declared.token.Kind.TheVariants.{Sign}
use Rattle.lang_model.specs.declared.token.Token.{Token}
use Rattle.lang_model.specs.Taken.{TakesAt}
use Rattle.lang_model.specs.Limits.{nesting_limit}
use Rattle.lang_model.specs.Lexed.{Ending, EndsAt, Broken}
use Rattle.lang_model.specs.Spelling.{Level, OrLevel, tighter}
use Rattle.lang_model.specs.Stop.{Part, NamePart, FromOne, SignPart, ExprPart, CallPart, MoreArgs, MoreCarets, MoreLinks, MoreRows, MoreColumns, StmtsPart, MoreStmts, MoreParams, MeaningPart, DomainPart, MoreDecls, NotBegun, where_it, row_parts, is_sign, is_operator, entered, word_of, stop_of}
use Rattle.rv_parse.specs.Readers.{begins, begins_operator}

-- a part that may be dropped, where nothing begins it
pub dropped_at : (part : Part) (t : Token) (ts : List Token) (e : Ending) (behind : List Part) → word_of part ≡ None → entered part t.kind ≡ NotBegun → stop_of (part ∷ behind) (t ∷ ts) e ≡ stop_of behind (t ∷ ts) e
dropped_at part t ts e behind w n = rw (w, n) refl

pub dropped_end : (part : Part) (e : Ending) (behind : List Part) → word_of part ≡ None → stop_of (part ∷ behind) [] e ≡ stop_of behind [] e
dropped_end part (EndsAt place) behind w = rw w refl
dropped_end part (Broken fault) behind w = refl

-- a part that one sign begins, and what stands behind the sign
pub record BegunBy (part : Part) (s : ℕ) (inner : List Part) : Type 0 where
  pub by_sign : (k : Kind) → entered part k ≡ where_it (is_sign s k) inner
  pub optional : word_of part ≡ None

pub drop_sign : (part : Part) (s : ℕ) (inner : List Part) → BegunBy part s inner → (tokens : List Token) (e : Ending) (behind : List Part) → begins s tokens ≡ false → stop_of (part ∷ behind) tokens e ≡ stop_of behind tokens e
drop_sign part s inner b [] e behind h = dropped_end part e behind b.optional
drop_sign part s inner b (t ∷ ts) e behind h = dropped_at part t ts e behind b.optional (b.by_sign t.kind ∙ rw h refl)

pub enter_sign : (part : Part) (s : ℕ) (inner : List Part) → BegunBy part s inner → (at : Place) (tokens rest : List Token) (e : Ending) (behind : List Part) → TakesAt at (Sign s) tokens rest → stop_of (part ∷ behind) tokens e ≡ stop_of (inner ++ behind) rest e
enter_sign part s inner b at tokens rest e behind t = rw t (rw (b.by_sign (Sign s), eq-eqb s s refl) refl)

-- ---- signs ^
pub begun_carets : BegunBy MoreCarets 94 (MoreCarets ∷ [])
begun_carets = record { by_sign = λ k. refl; optional = refl }

pub enter_carets : (at : Place) (tokens rest : List Token) (e : Ending) (behind : List Part) → TakesAt at (Sign 94) tokens rest → stop_of (MoreCarets ∷ behind) tokens e ≡ stop_of (MoreCarets ∷ behind) rest e
enter_carets = enter_sign MoreCarets 94 _ begun_carets

pub drop_carets : (tokens : List Token) (e : Ending) (behind : List Part) → begins 94 tokens ≡ false → stop_of (MoreCarets ∷ behind) tokens e ≡ stop_of behind tokens e
drop_carets = drop_sign MoreCarets 94 _ begun_carets

-- ---- arguments
pub begun_args : (n d : ℕ) → BegunBy (MoreArgs (suc n) d) 44 (ExprPart OrLevel d ∷ MoreArgs n d ∷ [])
begun_args n d = record { by_sign = λ k. refl; optional = refl }

pub enter_args : (n d : ℕ) (at : Place) (tokens rest : List Token) (e : Ending) (behind : List Part) → TakesAt at (Sign 44) tokens rest → stop_of (MoreArgs (suc n) d ∷ behind) tokens e ≡ stop_of (ExprPart OrLevel d ∷ MoreArgs n d ∷ behind) rest e
enter_args n d = enter_sign (MoreArgs (suc n) d) 44 _ (begun_args n d)

pub drop_args : (n d : ℕ) (tokens : List Token) (e : Ending) (behind : List Part) → begins 44 tokens ≡ false → stop_of (MoreArgs n d ∷ behind) tokens e ≡ stop_of behind tokens e
drop_args zero d [] e behind h = dropped_end (MoreArgs zero d) e behind refl
drop_args zero d (t ∷ ts) e behind h = refl
drop_args (suc n) d tokens e behind h = drop_sign (MoreArgs (suc n) d) 44 _ (begun_args n d) tokens e behind h

-- no further argument is taken behind the last
pub last_args : (d : ℕ) (tokens : List Token) (e : Ending) (behind : List Part) → stop_of (MoreArgs zero d ∷ behind) tokens e ≡ stop_of behind tokens e
last_args d [] e behind = dropped_end (MoreArgs zero d) e behind refl
last_args d (t ∷ ts) e behind = refl

-- ---- the parenthesis of a call
pub enter_call : (d : ℕ) (at : Place) (tokens rest : List Token) (e : Ending) (behind : List Part) → TakesAt at (Sign 40) tokens rest → d < nesting_limit → stop_of (CallPart d ∷ behind) tokens e ≡ stop_of (ExprPart OrLevel (suc d) ∷ MoreArgs 15 (suc d) ∷ SignPart 41 ∷ behind) rest e
enter_call d at tokens rest e behind t l = rw t (rw (lt-ltb d 40 l) refl)

pub call_too_deep : (d : ℕ) (at : Place) (tokens rest : List Token) (e : Ending) (behind : List Part) → TakesAt at (Sign 40) tokens rest → nesting_limit ≤ d → stop_of (CallPart d ∷ behind) tokens e ≡ Some (TooDeep at)
call_too_deep d at tokens rest e behind t l = rw t (rw (le-ltb d 40 l) refl)

pub drop_call : (d : ℕ) (tokens : List Token) (e : Ending) (behind : List Part) → begins 40 tokens ≡ false → stop_of (CallPart d ∷ behind) tokens e ≡ stop_of behind tokens e
drop_call d [] e behind h = dropped_end (CallPart d) e behind refl
drop_call d (t ∷ ts) e behind h = dropped_at (CallPart d) t ts e behind refl (rw h refl)

-- ---- links
pub drop_links : (l : Level) (d : ℕ) (tokens : List Token) (e : Ending) (behind : List Part) → begins_operator l tokens ≡ false → stop_of (MoreLinks l d ∷ behind) tokens e ≡ stop_of behind tokens e
drop_links l d [] e behind h = dropped_end (MoreLinks l d) e behind refl
drop_links l d (t ∷ ts) e behind h = dropped_at (MoreLinks l d) t ts e behind refl (rw h refl)

pub enter_links : (l : Level) (d s : ℕ) (at : Place) (tokens rest : List Token) (e : Ending) (behind : List Part) → TakesAt at (Sign s) tokens rest → is_operator l (Sign s) ≡ true → stop_of (MoreLinks l d ∷ behind) tokens e ≡ stop_of (ExprPart (tighter l) d ∷ MoreLinks l d ∷ behind) rest e
enter_links l d s at tokens rest e behind t o = rw t (rw o refl)

-- ---- rows
pub begun_columns : BegunBy MoreColumns 44 (FromOne ∷ MoreColumns ∷ [])
begun_columns = record { by_sign = λ k. refl; optional = refl }

pub begun_rows : BegunBy MoreRows 59 (row_parts ++ MoreRows ∷ [])
begun_rows = record { by_sign = λ k. refl; optional = refl }

-- ---- statements and definitions
pub begun_stmts : (d : ℕ) → BegunBy (MoreStmts d) 59 (StmtsPart d ∷ [])
begun_stmts d = record { by_sign = λ k. refl; optional = refl }

pub begun_params : (n : ℕ) → BegunBy (MoreParams (suc n)) 44 (NamePart ∷ MoreParams n ∷ [])
begun_params n = record { by_sign = λ k. refl; optional = refl }

pub begun_meaning : BegunBy MeaningPart 61 (DomainPart ∷ [])
begun_meaning = record { by_sign = λ k. refl; optional = refl }

pub begun_decls : BegunBy MoreDecls 44 (NamePart ∷ MeaningPart ∷ MoreDecls ∷ [])
begun_decls = record { by_sign = λ k. refl; optional = refl }
