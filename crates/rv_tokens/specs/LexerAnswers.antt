-- What splitting a text into tokens answers, step by step.
use Rattle.std.specs.Prelude.{◌≡◌, ◌≤◌, ℕ, List, ◌++◌, length, drop}
use Rattle.lang_model.specs.declared.syntax.Place.{Place}
use Rattle.lang_model.specs.declared.token.Token.{Token}
use Rattle.lang_model.specs.Tokens.{behind_all}
use Rattle.lang_model.specs.Lexed.{Lexed, lexed_from, before, broken}
use Rattle.rv_tokens.specs.Endings.{flaw_fault}
use Rattle.rv_tokens.specs.declared.lexer.Lexeme.{Lexeme}
use Rattle.rv_tokens.specs.declared.lexer.Lexeme.TheVariants.{Blank, Token as TOKEN, Broken}

-- at least 1 byte, and no more than there are
abbrev pub Within : ℕ → List ℕ → Type 0
Within n bs = (1 ≤ n) × (n ≤ length bs)

-- the bytes begin with a blank or a comment, with a token, or with a flaw
abbrev pub Lexes : Place → List ℕ → Lexeme → Type 0
Lexes at bs (Blank n) = Within n bs × (lexed_from 0 at bs ≡ lexed_from 0 (behind_all n at bs) (drop n bs))
Lexes at bs (TOKEN kind n) = Within n bs × (lexed_from 0 at bs
    ≡ before at kind (lexed_from 0 (behind_all n at bs) (drop n bs)))
Lexes at bs (Broken flaw) = lexed_from 0 at bs ≡ broken (flaw_fault flaw)

-- these tokens in front of those
abbrev pub put_before : List Token → Lexed → Lexed
put_before front found = record { tokens = front ++ found.tokens; ending = found.ending }
