-- What readers answer: either a tree that the tokens spell, and the tokens that are left; or the fault of the tokens.
-- Both hold whatever has to come after.
use Rattle.std.specs.Prelude.{◌≡◌, ◌<◌, ◌≤◌, ◌++◌, ℕ, Bool, true, false, List, [], ◌∷◌, length, Option, Some, None}
use Rattle.lang_model.specs.Limits.{more_limit}
use Rattle.lang_model.specs.declared.syntax.Place.{Place}
use Rattle.lang_model.specs.declared.syntax.Expr.{Expr}
use Rattle.lang_model.specs.declared.syntax.Op2.{Op2}
use Rattle.lang_model.specs.declared.token.Keyword.{Keyword}
use Rattle.lang_model.specs.declared.token.Keyword.TheVariants.{All as ALL}
use Rattle.lang_model.specs.declared.token.Kind.{Kind}
use Rattle.lang_model.specs.declared.token.Kind.TheVariants.{Keyword as KEYWORD, Number, File, Sign}
use Rattle.lang_model.specs.declared.token.Token.{Token}
use Rattle.lang_model.specs.Taken.{TakesAt, Takes}
use Rattle.lang_model.specs.Lexed.{Ending}
use Rattle.lang_model.specs.BaseNames.{Form, TakesOne, TakesTwo, TakesDomain}
use Rattle.lang_model.specs.Spelling.{Level, OrLevel, AndLevel, ProdLevel, PrimLevel, tighter, IsOperatorOf, Spelled, Listed}
use Rattle.lang_model.specs.Stop.{Part, NamePart, NameOrAll, ExprOrAll, ExprPart, MoreLinks, MoreArgs, is_sign, is_word, is_operator, stop_of}
use Rattle.rv_parse.specs.Halts.{fault_of}
use Rattle.rv_parse.specs.declared.halt.Halt.{Halt}
use Rattle.rv_parse.specs.declared.halt.Halt.TheVariants.{NoMemory}
use Rattle.rv_parse.specs.declared.forms.Form.{Form as FORM}
use Rattle.rv_parse.specs.declared.forms.Form.TheVariants.{One, Two, Domain}
use Rattle.rv_parse.specs.declared.operators.Chains.{Chains}
use Rattle.rv_parse.specs.declared.operators.Chains.TheVariants.{Or, And, Prod}

-- whatever has to come after them, these parts take the tokens up to `rest`
abbrev pub Reads : Ending → List Part → List Token → List Token → Type 0
Reads e parts tokens rest = (behind : List Part) → stop_of (parts ++ behind) tokens e ≡ stop_of behind rest e

-- whatever has to come after these parts, the tokens have this fault, unless memory ran out
abbrev pub Refuses : Ending → List Part → List Token → Halt → Type 0
Refuses e parts tokens halt = (halt ≡ NoMemory → ⊥) → (behind : List Part)
    → stop_of (parts ++ behind) tokens e ≡ Some (fault_of halt)

-- whether the first token is this sign
abbrev pub begins : ℕ → List Token → Bool
begins s [] = false
begins s (token ∷ tokens) = is_sign s token.kind

-- whether a token is a number
abbrev pub is_number : Kind → Bool
is_number (Number n) = true
is_number _ = false

-- whether the first token is a number
abbrev pub begins_number : List Token → Bool
begins_number [] = false
begins_number (token ∷ tokens) = is_number token.kind

-- whether a token is a file text
abbrev pub is_file : Kind → Bool
is_file (File text) = true
is_file _ = false

-- whether the first token is a file text
abbrev pub begins_file : List Token → Bool
begins_file [] = false
begins_file (token ∷ tokens) = is_file token.kind

-- whether the first token is this keyword
abbrev pub begins_word : Keyword → List Token → Bool
begins_word word [] = false
begins_word word (token ∷ tokens) = is_word word token.kind

-- whether the first token is an operator of a level
abbrev pub begins_operator : Level → List Token → Bool
begins_operator l [] = false
begins_operator l (token ∷ tokens) = is_operator l token.kind

-- the level of the grammar
abbrev pub level_of : Chains → Level
level_of Or = OrLevel
level_of And = AndLevel
level_of Prod = ProdLevel

-- the operator that a sign is on a level, if it is one
abbrev pub OperatorIs : Level → ℕ → Option Op2 → Type 0
OperatorIs l sign (Some op) = IsOperatorOf l op sign × (is_operator l (Sign sign) ≡ true)
OperatorIs l sign None = is_operator l (Sign sign) ≡ false

-- the form of a base name or a domain operator
abbrev pub form_is : FORM → Form
form_is One = TakesOne
form_is Two = TakesTwo
form_is Domain = TakesDomain

-- the first token is an operator of a level
pub record IsLink (l : Level) (op : Op2) (at : Place) (tokens rest : List Token) : Type 0 where
  pub sign : ℕ
  pub operator : IsOperatorOf l op sign
  pub takes : TakesAt at (Sign sign) tokens rest
  pub entered : (e : Ending) (d : ℕ) (behind : List Part)
      → stop_of (MoreLinks l d ∷ behind) tokens e ≡ stop_of (ExprPart (tighter l) d ∷ MoreLinks l d ∷ behind) rest e

-- An expression of a level is read, given how many constructs are open: the tokens spell it, fewer tokens are left, and
-- the tokens read are what its part takes.
pub record IsRead (e : Ending) (l : Level) (d : ℕ) (x : Expr) (tokens rest : List Token) : Type 0 where
  pub spelled : Spelled l d x tokens rest
  pub shorter : length rest < length tokens
  pub read : Reads e (ExprPart l d ∷ []) tokens rest

-- The rest of an expression is read after its first token, by these parts.
pub record IsBehind (e : Ending) (at : Place) (kind : Kind) (parts : List Part) (d : ℕ) (x : Expr)
    (tokens rest : List Token) : Type 0 where
  pub spelled : (before : List Token) → TakesAt at kind before tokens → Spelled PrimLevel d x before rest
  pub shorter : length rest ≤ length tokens
  pub read : Reads e parts tokens rest

-- One or more arguments are read.
pub record AreArguments (e : Ending) (d : ℕ) (args : List Expr) (tokens rest : List Token) : Type 0 where
  pub first : Expr
  pub more : List Expr
  pub all : args ≡ first ∷ more
  pub mid : List Token
  pub head : Spelled OrLevel d first tokens mid
  pub tail : Listed more_limit d more mid rest
  pub shorter : length rest < length tokens
  pub read : Reads e (ExprPart OrLevel d ∷ MoreArgs more_limit d ∷ []) tokens rest

-- the first token is ALL, as either part takes it
pub record TakesAll (tokens rest : List Token) : Type 0 where
  pub takes : Takes (KEYWORD ALL) tokens rest
  pub as_name : (e : Ending) → Reads e (NameOrAll ∷ []) tokens rest
  pub as_value : (e : Ending) → Reads e (ExprOrAll ∷ []) tokens rest

-- the first token is not ALL: a name or an expression must come, as if there were no ALL
pub record WantsOne (tokens : List Token) : Type 0 where
  pub name : (e : Ending) (behind : List Part) →
      stop_of (NameOrAll ∷ behind) tokens e ≡ stop_of (NamePart ∷ behind) tokens e
  pub value : (e : Ending) (behind : List Part) →
      stop_of (ExprOrAll ∷ behind) tokens e ≡ stop_of (ExprPart OrLevel 0 ∷ behind) tokens e
