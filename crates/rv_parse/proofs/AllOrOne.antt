-- LOAD and SAVE: ALL, or a name and an expression.
use Rattle.std.proofs.Common.{◌≡◌, ℕ, false, List, [], ◌∷◌, refl, sym, ap, ◌∙◌}
use Rattle.std.proofs.lemmas.Bool.{false≢true}
use Rattle.lang_model.specs.declared.syntax.Place.{Place}
use Rattle.lang_model.specs.declared.token.Keyword.TheVariants.{All as ALL}
use Rattle.lang_model.specs.declared.token.Kind.{Kind}
use Rattle.lang_model.specs.declared.token.Kind.TheVariants.{Keyword as KEYWORD, Word}
use Rattle.lang_model.specs.declared.token.Token.{Token}
use Rattle.lang_model.specs.Taken.{TakesAt, Takes}
use Rattle.lang_model.specs.Lexed.{Ending, EndsAt, Broken}
use Rattle.lang_model.specs.declared.syntax.Expr.{Expr}
use Rattle.lang_model.specs.Spelling.{Level, OrLevel, Spelled, named, called, based, based_twice, injected, paired, enclosed, turned, negated, chained, alone}
use Rattle.lang_model.specs.Stop.{Part, NamePart, ExprPart, NameOrAll, ExprOrAll, entered, is_word, stop_of}
use Rattle.rv_parse.specs.Readers.{begins_word, TakesAll, WantsOne}

pub takes_all : (at : Place) (tokens rest : List Token) → TakesAt at (KEYWORD ALL) tokens rest → TakesAll tokens rest
takes_all at tokens rest t = record { takes = (at, t); as_name = λ e behind. rw t refl; as_value = λ e behind. rw t refl }

-- ---- another token
name_entered : (kind : Kind) → is_word ALL kind ≡ false → entered NameOrAll kind ≡ entered NamePart kind
name_entered (KEYWORD ALL) h = absurd (false≢true (sym h))
name_entered (KEYWORD _) h = refl
name_entered (Word name) h = refl
name_entered _ h = refl

value_entered : (kind : Kind) → is_word ALL kind ≡ false → entered ExprOrAll kind ≡ entered (ExprPart OrLevel 0) kind
value_entered (KEYWORD ALL) h = absurd (false≢true (sym h))
value_entered (KEYWORD _) h = refl
value_entered _ h = refl

-- where the first token is not ALL, a name or an expression is wanted, just as where ALL may not stand
pub wants_one : (tokens : List Token) → begins_word ALL tokens ≡ false → WantsOne tokens
wants_one [] h = record { name = named; value = valued }
  where
    named : (e : Ending) (behind : List Part) → stop_of (NameOrAll ∷ behind) [] e ≡ stop_of (NamePart ∷ behind) [] e
    named (EndsAt place) behind = refl
    named (Broken fault) behind = refl

    valued : (e : Ending) (behind : List Part) → stop_of (ExprOrAll ∷ behind) [] e ≡ stop_of (ExprPart OrLevel 0 ∷ behind) [] e
    valued (EndsAt place) behind = refl
    valued (Broken fault) behind = refl
wants_one (t ∷ ts) h = record {
  name = λ e behind. rw (name_entered t.kind h) refl;
  value = λ e behind. rw (value_entered t.kind h) refl;
}

-- ---- names and expressions
pub one_name : (name : List ℕ) (at : Place) (tokens rest : List Token) → TakesAt at (Word name) tokens rest → WantsOne tokens
one_name name at tokens rest t = wants_one tokens (ap (begins_word ALL) t)

-- the tokens of an expression do not begin with ALL
pub no_all : {l : Level} {d : ℕ} {x : Expr} {tokens rest : List Token} → Spelled l d x tokens rest → begins_word ALL tokens ≡ false
no_all (named d at text tokens rest t) = ap (begins_word ALL) t
no_all (called d at text args first more tokens t1 t2 t3 t4 rest l a t o f m close) = ap (begins_word ALL) t
no_all (based d at base args e tokens t1 t2 t3 rest l f a t o x close) = ap (begins_word ALL) t
no_all (based_twice d at base args e f tokens t1 t2 t3 t4 t5 rest l g a t o x comma y close) = ap (begins_word ALL) t
no_all (injected d at base domain tokens t1 t2 t3 rest l f t o x close) = ap (begins_word ALL) t
no_all (paired d at left right tokens t1 t2 t3 t4 rest l t x comma y close) = ap (begins_word ALL) t
no_all (enclosed d e tokens mid after' rest l t x close) = ap (begins_word ALL) t.1
no_all (turned d at of n tokens mid after' rest x t c) = no_all x
no_all (negated d at of tokens mid rest l t x) = ap (begins_word ALL) t
no_all (chained l d first links tokens mid rest x n ls) = no_all x
no_all (alone l d e tokens rest x) = no_all x

pub one_value : (value : Expr) (tokens rest : List Token) → Spelled OrLevel 0 value tokens rest → WantsOne tokens
one_value value tokens rest s = wants_one tokens (no_all s)
