-- The tokens at the start of a text, up to its end or to the first byte, number, word or file text that is not a token.
use Rattle.std.specs.Prelude.{◌==◌, ◌&&◌, ◌-◌, not, nat_lt, ℕ, Bool, cond, List, [], ◌∷◌, drop, zero, suc}
use Rattle.std.specs.Option.{option_map_or}
use Rattle.lang_model.specs.Limits.{file_text_limit}
use Rattle.lang_model.specs.declared.syntax.Place.{Place}
use Rattle.lang_model.specs.declared.faults.ParseFault.{ParseFault}
use Rattle.lang_model.specs.declared.faults.ParseFault.TheVariants.{Byte, Expected, NumberTooLarge, NameTooLong}
use Rattle.lang_model.specs.declared.faults.What.TheVariants.{FileText, Token as TOKEN}
use Rattle.lang_model.specs.declared.token.Kind.{Kind}
use Rattle.lang_model.specs.declared.token.Token.{Token}
use Rattle.lang_model.specs.Tokens.{is_allowed, is_blank, is_digit, is_letter, is_file_byte, run_length, kind_at, behind, behind_all}

-- the end of the text, or the fault that ends the tokens earlier
pub data Ending : Type 0 where
  EndsAt : Place → Ending
  Broken : ParseFault → Ending

-- the tokens of a text up to its end or its first fault
pub record Lexed : Type 0 where
  pub tokens : List Token
  pub ending : Ending

-- a byte that may stand in a comment
abbrev pub is_comment_byte : ℕ → Bool
is_comment_byte b = is_allowed b && not (b == 10)

-- The fault of a file text within its limit, given the bytes that follow: its closing quote is missing, it is empty, or
-- it has a byte that is not allowed.
abbrev pub text_fault : Place → Place → List ℕ → ParseFault
text_fault quote there [] = Expected there (TOKEN (34 ∷ []))
text_fault quote there (b ∷ bs) = cond (b == 34) (Expected quote FileText)
    (cond (is_allowed b) (Expected there (TOKEN (34 ∷ []))) (Byte there b))

-- the fault of an invalid file text, given the place of its first quote and the bytes after it
unfoldable pub file_fault : Place → List ℕ → ParseFault
file_fault quote bs =
    let n = run_length is_file_byte bs in cond (nat_lt file_text_limit n) (NameTooLong quote)
    (text_fault quote (behind_all n (behind 34 quote) bs) (drop n bs))

-- the fault of a byte that begins no token, given the bytes after it
unfoldable pub token_fault : Place → ℕ → List ℕ → ParseFault
token_fault at b bs = cond (is_letter b) (NameTooLong at)
    (cond (is_digit b) (NumberTooLarge at) (cond (b == 34) (file_fault at bs) (Byte at b)))

-- a token in front of the others
abbrev pub before : Place → Kind → Lexed → Lexed
before at kind found = record { tokens = record { at = at; kind = kind } ∷ found.tokens; ending = found.ending }

-- a fault before any token
abbrev pub broken : ParseFault → Lexed
broken fault = record { tokens = []; ending = Broken fault }

-- the same from a place on, after skipping the bytes that the last token still has
abbrev pub lexed_from : ℕ → Place → List ℕ → Lexed
lexed_from k at [] = record { tokens = []; ending = EndsAt at }
lexed_from (suc k) at (b ∷ bs) = lexed_from k (behind b at) bs
lexed_from zero at (b ∷ bs) =
    cond (is_blank b) (lexed_from 0 (behind b at) bs)
    (cond (b == 35) (lexed_from (run_length is_comment_byte bs) (behind b at) bs)
    (option_map_or (λ t. before at t.0 (lexed_from (t.1 - 1) (behind b at) bs)) (kind_at (b ∷ bs))
    (broken (token_fault at b bs))))

-- the tokens of a text up to its end or its first fault
unfoldable pub lexed_of : List ℕ → Lexed
lexed_of bytes = lexed_from 0 (record { line = 1; column = 1 }) bytes
