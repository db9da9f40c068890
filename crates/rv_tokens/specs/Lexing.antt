-- Classes of bytes, and what reading one token answers.
use Rattle.std.specs.Prelude.{◌≡◌, ◌^◌, ℕ, Bool, List, cond, nat_le, nat_lt, take, Some, None, Option, IsSome, Result, Ok, Err}
use Rattle.lang_model.specs.Limits.{name_limit}
use Rattle.lang_model.specs.Tokens.{is_word_byte, is_digit, is_file_byte, run_length, value_from, word_kind}
use Rattle.lang_model.specs.Lexed.{is_comment_byte}
use Rattle.lang_model.specs.declared.token.Kind.{Kind}
use Rattle.lang_model.specs.declared.token.Kind.TheVariants.{Keyword as KEYWORD, Base as BASE, Number}
use Rattle.rv_tokens.specs.declared.bytes.Class.{Class}
use Rattle.rv_tokens.specs.declared.bytes.Class.TheVariants.{Word, Digit, Comment, File}
use Rattle.rv_tokens.specs.declared.words.Reserved.{Reserved}
use Rattle.rv_tokens.specs.declared.words.Reserved.TheVariants.{Keyword, Base}
use Rattle.rv_tokens.specs.declared.refusals.Refusal.{Refusal}
use Rattle.rv_tokens.specs.declared.refusals.Refusal.TheVariants.{Unfit, NoMemory}

-- whether a byte belongs to a class
abbrev pub passes : Class → ℕ → Bool
passes Word b = is_word_byte b
passes Digit b = is_digit b
passes File b = is_file_byte b
passes Comment b = is_comment_byte b

-- the token for a reserved word
abbrev pub kind_of : Reserved → Kind
kind_of (Keyword keyword) = KEYWORD keyword
kind_of (Base base) = BASE base

-- the word at the front of these bytes, if it is not too long, and how many bytes it has
abbrev pub word_at : List ℕ → Option (Kind × ℕ)
word_at bs = let n = run_length is_word_byte bs in cond (nat_le n name_limit) (Some (word_kind (take n bs), n)) None

-- the number at the front of these bytes, if it is not too large, and how many bytes it has
abbrev pub number_at : List ℕ → Option (Kind × ℕ)
number_at bs = let n = run_length is_digit bs in let value = value_from 0 (take n bs) in cond (nat_lt value (2 ^ 64))
    (Some (Number value, n)) None

-- whether there is a token: this one; or none; or there is one, but no memory for it
abbrev pub Finds : Option (Kind × ℕ) → Result (Kind × ℕ) Refusal → Type 0
Finds found (Ok x) = found ≡ Some (x.0, x.1)
Finds found (Err Unfit) = found ≡ None
Finds found (Err NoMemory) = IsSome found
