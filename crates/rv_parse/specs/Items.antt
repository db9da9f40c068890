-- What the readers of items answer.
use Rattle.std.specs.Prelude.{◌≡◌, ◌<◌, Bool, true, false, List, [], ◌∷◌, length}
use Rattle.lang_model.specs.declared.syntax.Item.{Item}
use Rattle.lang_model.specs.declared.token.Kind.TheVariants.{Keyword as KEYWORD, Word, Sign}
use Rattle.lang_model.specs.declared.token.Kind.{Kind}
use Rattle.lang_model.specs.declared.token.Token.{Token}
use Rattle.lang_model.specs.Taken.{Takes}
use Rattle.lang_model.specs.Lexed.{Ending}
use Rattle.lang_model.specs.Spelling.{SpellsItem}
use Rattle.lang_model.specs.Stop.{Step, NotBegun, SignPart, ItemsPart, command_step, stop_of}

-- an item is read up to its full stop
pub record ItemIs (e : Ending) (item : Item) (tokens rest : List Token) : Type 0 where
  pub spelled : SpellsItem item tokens rest
  pub shorter : length rest < length tokens
  pub read : stop_of (ItemsPart ∷ []) tokens e ≡ stop_of (SignPart 46 ∷ ItemsPart ∷ []) rest e

-- an item is read with its full stop
pub record ItemEnds (e : Ending) (item : Item) (tokens rest : List Token) : Type 0 where
  pub mid : List Token
  pub spelled : SpellsItem item tokens mid
  pub stop : Takes (Sign 46) mid rest
  pub shorter : length rest < length tokens
  pub read : stop_of (ItemsPart ∷ []) tokens e ≡ stop_of (ItemsPart ∷ []) rest e

-- whether a token is a name
abbrev pub is_name : Kind → Bool
is_name (Word name) = true
is_name _ = false

-- whether the first token is a name
abbrev pub begins_name : List Token → Bool
begins_name [] = false
begins_name (token ∷ tokens) = is_name token.kind

-- what a keyword begins
abbrev pub keyword_step : Kind → Step
keyword_step (KEYWORD keyword) = command_step keyword
keyword_step _ = NotBegun

-- no command begins with the first token
abbrev pub NoCommand : List Token → Type 0
NoCommand [] = Unit {0}
NoCommand (token ∷ tokens) = keyword_step token.kind ≡ NotBegun
