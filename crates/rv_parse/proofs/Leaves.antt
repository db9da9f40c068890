-- One token and one part: the part takes the token, or something is missing.
use Rattle.std.proofs.Common.{◌≡◌, ◌<◌, ◌≤◌, ℕ, false, List, [], ◌∷◌, Some, refl, sym, ap, ◌∙◌, get_or}
use Rattle.std.proofs.lemmas.Bool.{lt-ltb, le-ltb, eq-eqb}
use Rattle.lang_model.specs.declared.syntax.Place.{Place}
use Rattle.lang_model.specs.declared.faults.ParseFault.TheVariants.{Expected, TooDeep}
use Rattle.lang_model.specs.declared.faults.What.{What}
use Rattle.lang_model.specs.declared.faults.What.TheVariants.{Token as TOKEN}
use Rattle.lang_model.specs.declared.token.Keyword.{Keyword}
use Rattle.lang_model.specs.declared.token.Keyword.TheVariants.{Rel as REL, Let as LET, Print as PRINT, List as LIST, Count as COUNT, «Type» as TYPE, Drop as DROP, Snap as SNAP, At as AT, Load as LOAD, Save as SAVE, Decl as DECL, Prod as PROD, Sum as SUM, Beg as BEG, End as END, Return as RETURN, While as WHILE, Do as DO, Od as OD, If as IF, Then as THEN, Else as ELSE, Fi as FI, All as ALL, Atomic as ATOMIC, Commit as COMMIT, Explain as EXPLAIN}
use Rattle.lang_model.specs.declared.token.Kind.TheVariants.{Keyword as KEYWORD, Sign}
use Rattle.lang_model.specs.declared.token.Token.{Token}
use Rattle.lang_model.specs.Taken.{TakesAt}
use Rattle.lang_model.specs.Limits.{nesting_limit}
use Rattle.lang_model.specs.Lexed.{Ending, EndsAt, Broken}
use Rattle.lang_model.specs.Stop.{Part, SignPart, WordPart, OpenPart, NotBegun, entered, word_of, number_of, written, stop_of}
use Rattle.rv_parse.specs.Halts.{missing}
use Rattle.rv_parse.specs.Readers.{begins, begins_word}

-- a part that must come, and a first token that doesn't begin it
pub not_begun : (part : Part) (what : What) (t : Token) (ts : List Token) (e : Ending) (behind : List Part) → word_of part ≡ Some what → entered part t.kind ≡ NotBegun → stop_of (part ∷ behind) (t ∷ ts) e ≡ Some (Expected t.at what)
not_begun part what t ts e behind w n = rw (w, n) refl

-- a part that must come, and the end
pub at_end : (part : Part) (what : What) (e : Ending) (behind : List Part) → word_of part ≡ Some what → stop_of (part ∷ behind) [] e ≡ Some (missing what [] e)
at_end part what (EndsAt place) behind w = rw w refl
at_end part what (Broken fault) behind w = refl

pub no_sign : (s : ℕ) (tokens : List Token) (e : Ending) (behind : List Part) → begins s tokens ≡ false → stop_of (SignPart s ∷ behind) tokens e ≡ Some (missing (TOKEN (s ∷ [])) tokens e)
no_sign s [] e behind h = at_end (SignPart s) _ e behind refl
no_sign s (t ∷ ts) e behind h = rw h refl

pub reads_sign : (s : ℕ) (at : Place) (tokens rest : List Token) (e : Ending) (behind : List Part) → TakesAt at (Sign s) tokens rest → stop_of (SignPart s ∷ behind) tokens e ≡ stop_of behind rest e
reads_sign s at tokens rest e behind h = rw h (rw (eq-eqb s s refl) refl)

pub no_word : (w : Keyword) (tokens : List Token) (e : Ending) (behind : List Part) → begins_word w tokens ≡ false → stop_of (WordPart w ∷ behind) tokens e ≡ Some (missing (TOKEN (written w)) tokens e)
no_word w [] e behind h = at_end (WordPart w) _ e behind refl
no_word w (t ∷ ts) e behind h = rw h refl

pub reads_word : (w : Keyword) (at : Place) (tokens rest : List Token) (e : Ending) (behind : List Part) → TakesAt at (KEYWORD w) tokens rest → stop_of (WordPart w ∷ behind) tokens e ≡ stop_of behind rest e
reads_word w at tokens rest e behind h = rw h (rw (eq-eqb (number_of w) (number_of w) refl) refl)

-- the keyword with a number
abbrev keyword_at : ℕ → Keyword
keyword_at n = get_or (REL ∷ LET ∷ PRINT ∷ LIST ∷ COUNT ∷ TYPE ∷ DROP ∷ SNAP ∷ AT ∷ LOAD ∷ SAVE ∷ DECL ∷ PROD ∷ SUM ∷ BEG ∷ END ∷ RETURN ∷ WHILE ∷ DO ∷ OD ∷ IF ∷ THEN ∷ ELSE ∷ FI ∷ ALL ∷ ATOMIC ∷ COMMIT ∷ EXPLAIN ∷ []) n REL

-- a keyword's number leads back to it, keyword by keyword
keyword_back : (w : Keyword) → keyword_at (number_of w) ≡ w
keyword_back REL = refl
keyword_back LET = refl
keyword_back PRINT = refl
keyword_back LIST = refl
keyword_back COUNT = refl
keyword_back TYPE = refl
keyword_back DROP = refl
keyword_back SNAP = refl
keyword_back AT = refl
keyword_back LOAD = refl
keyword_back SAVE = refl
keyword_back DECL = refl
keyword_back PROD = refl
keyword_back SUM = refl
keyword_back BEG = refl
keyword_back END = refl
keyword_back RETURN = refl
keyword_back WHILE = refl
keyword_back DO = refl
keyword_back OD = refl
keyword_back IF = refl
keyword_back THEN = refl
keyword_back ELSE = refl
keyword_back FI = refl
keyword_back ALL = refl
keyword_back ATOMIC = refl
keyword_back COMMIT = refl
keyword_back EXPLAIN = refl

-- two keywords with one number are one
pub one_number : (v w : Keyword) → number_of v ≡ number_of w → v ≡ w
one_number v w e = sym (keyword_back v) ∙ ap keyword_at e ∙ keyword_back w

pub no_open : (d : ℕ) (tokens : List Token) (e : Ending) (behind : List Part) → begins 40 tokens ≡ false → stop_of (OpenPart d ∷ behind) tokens e ≡ Some (missing (TOKEN (40 ∷ [])) tokens e)
no_open d [] e behind h = at_end (OpenPart d) _ e behind refl
no_open d (t ∷ ts) e behind h = rw h refl

pub opens : (d : ℕ) (at : Place) (tokens rest : List Token) (e : Ending) (behind : List Part) → TakesAt at (Sign 40) tokens rest → d < nesting_limit → stop_of (OpenPart d ∷ behind) tokens e ≡ stop_of behind rest e
opens d at tokens rest e behind h l = rw h (rw (lt-ltb d 40 l) refl)

pub opens_too_deep : (d : ℕ) (at : Place) (tokens rest : List Token) (e : Ending) (behind : List Part) → TakesAt at (Sign 40) tokens rest → nesting_limit ≤ d → stop_of (OpenPart d ∷ behind) tokens e ≡ Some (TooDeep at)
opens_too_deep d at tokens rest e behind h l = rw h (rw (le-ltb d 40 l) refl)
