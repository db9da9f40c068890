-- A printed expression, read back.
use Rattle.std.specs.Prelude.{◌≡◌, ◌≤◌, ◌==◌, ◌||◌, ◌++◌, not, true, false, ℕ, Bool, List, [], ◌∷◌, Some, codes}
use Rattle.lang_model.specs.declared.syntax.Place.{Place}
use Rattle.lang_model.specs.declared.syntax.Expr.{Expr}
use Rattle.lang_model.specs.declared.syntax.Command.TheVariants.{Print}
use Rattle.lang_model.specs.declared.syntax.Item.TheVariants.{Command as COMMAND}
use Rattle.lang_model.specs.declared.syntax.Script.{Script}
use Rattle.lang_model.specs.declared.token.Token.{Token}
use Rattle.lang_model.specs.Tokens.{is_word_byte, tokens_from, tokens_of}
use Rattle.lang_model.specs.Spelling.{Level, OrLevel, AndLevel, ProdLevel, UnaryLevel, PostLevel, PrimLevel, Spelled, SpelledBy}
use Rattle.lang_model.specs.Trees.{SameUpToPlaces}
use Rattle.rv_parse.specs.Readers.{begins, begins_operator}

-- the expression occurs somewhere in a text that has tokens, with this many constructs open around it
pub record StandsIn (d : ℕ) (e : Expr) : Type 0 where
  pub bytes : List ℕ
  pub before : List Token
  pub tokens : List Token
  pub rest : List Token
  pub level : Level
  pub split : tokens_of bytes ≡ Some (before ++ tokens)
  pub spelled : Spelled level d e tokens rest

-- the first byte does not continue a name before it: it is not a byte of a word, and not a minus sign, which p-1
-- contains
abbrev pub ends_names : List ℕ → Bool
ends_names [] = true
ends_names (b ∷ bs) = not (is_word_byte b || (b == 45))

-- the first token does not continue an expression of a level: it is not an operator of that level or a tighter one, not
-- a ^, and not a parenthesis after a name
abbrev pub Ends : Level → List Token → Type 0
Ends PrimLevel rest = begins 40 rest ≡ false
Ends PostLevel rest = (begins 94 rest ≡ false) × (begins 40 rest ≡ false)
Ends UnaryLevel rest = (begins 94 rest ≡ false) × (begins 40 rest ≡ false)
Ends ProdLevel rest = (begins_operator ProdLevel rest ≡ false) × ((begins 94 rest ≡ false) × (begins 40 rest ≡ false))
Ends AndLevel rest = (begins_operator AndLevel rest ≡ false)
    × ((begins_operator ProdLevel rest ≡ false) × ((begins 94 rest ≡ false) × (begins 40 rest ≡ false)))
Ends OrLevel rest = (begins_operator OrLevel rest ≡ false)
    × ((begins_operator AndLevel rest ≡ false) × ((begins_operator ProdLevel rest ≡ false)
    × ((begins 94 rest ≡ false) × (begins 40 rest ≡ false))))

-- if these tokens spell an expression up to a token that does not continue it, that is the same expression up to
-- places, and it ends at the same token
abbrev pub SpellOnly : Expr → List Token → List Token → Type 0
SpellOnly e tokens rest = (d : ℕ) (other : Expr) (left : List Token) → Spelled OrLevel d other tokens left
    → Ends OrLevel rest → Ends OrLevel left → SameUpToPlaces e other × (rest ≡ left)

-- The text stands for the expression, with this many constructs open: from any place on, and before any bytes that do
-- not continue a name, its tokens spell an expression that is equal up to places and ends at the tokens of the bytes
-- after it; and they spell no other.
pub record StandsFor (d : ℕ) (e : Expr) (text : List ℕ) (at : Place) : Type 0 where
  pub found : Expr
  pub end : Place
  pub same : SameUpToPlaces e found
  pub again : (behind : List ℕ) (rest : List Token) → ends_names behind ≡ true → tokens_from 0 end behind ≡ Some rest
      → (tokens : List Token) × (tokens_from 0 at (text ++ behind) ≡ Some tokens)
      × Spelled OrLevel d found tokens rest × SpellOnly e tokens rest

-- the text stands for the expression wherever at most as many constructs are open as where the expression occurs
abbrev pub ReadAgain : Expr → List ℕ → Type 0
ReadAgain e text = (d k : ℕ) → StandsIn d e → k ≤ d → (at : Place) → StandsFor k e text at

-- the script has one command, which prints an expression that is equal up to places
abbrev pub PrintsSame : Expr → Script → Type 0
PrintsSame e script = (found : Expr) × (script.items.items ≡ COMMAND (Print found) ∷ []) × SameUpToPlaces e found

-- the script that prints the text
abbrev pub printing : List ℕ → List ℕ
printing text = codes "PRINT " ++ text ++ codes "."

-- The text after PRINT is a script, and each script that it spells prints the same expression up to places. So if it is
-- not too long, this is what `parse` gives.
pub record PrintsAgain (e : Expr) (text : List ℕ) : Type 0 where
  pub script : Script
  pub spelled : SpelledBy (printing text) script
  pub only : (other : Script) → SpelledBy (printing text) other → PrintsSame e other
