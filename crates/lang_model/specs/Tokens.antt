-- The tokens of a text.
use Rattle.std.specs.Prelude.{◌==◌, ◌&&◌, ◌||◌, ◌+◌, ◌-◌, ◌*◌, ◌^◌, not, nat_le, nat_lt, nat_eq, ℕ, Bool, false, cond, List, [], ◌∷◌, map, take, drop, Option, Some, None, option_map, unwrap_or, codes, zero, suc}
use Rattle.std.specs.List.{list_any, list_all}
use Rattle.std.specs.Option.{option_map_or}
use lib.Pointwise.{pointwise}
use Rattle.lang_model.specs.Limits.{name_limit, file_text_limit}
use Rattle.lang_model.specs.declared.syntax.Place.{Place}
use Rattle.lang_model.specs.declared.token.Keyword.TheVariants.{Rel as REL, Let as LET, Print as PRINT, List as LIST}
use Rattle.lang_model.specs.declared.token.Keyword.TheVariants.{Count as COUNT, «Type» as TYPE, Drop as DROP}
use Rattle.lang_model.specs.declared.token.Keyword.TheVariants.{Snap as SNAP, At as AT, Load as LOAD, Save as SAVE}
use Rattle.lang_model.specs.declared.token.Keyword.TheVariants.{Decl as DECL, Prod as PROD, Sum as SUM, Beg as BEG}
use Rattle.lang_model.specs.declared.token.Keyword.TheVariants.{End as END, Return as RETURN, While as WHILE, Do as DO}
use Rattle.lang_model.specs.declared.token.Keyword.TheVariants.{Od as OD, If as IF, Then as THEN, Else as ELSE}
use Rattle.lang_model.specs.declared.token.Keyword.TheVariants.{Fi as FI, All as ALL, Atomic as ATOMIC}
use Rattle.lang_model.specs.declared.token.Keyword.TheVariants.{Commit as COMMIT, Explain as EXPLAIN}
use Rattle.lang_model.specs.BaseNames.{base_text, base_names, domain_operator_names}
use Rattle.lang_model.specs.declared.token.Kind.{Kind}
use Rattle.lang_model.specs.declared.token.Kind.TheVariants.{Keyword, Base as BASE, Word, Number, File, Sign}
use Rattle.lang_model.specs.declared.token.Token.{Token}

-- whether two texts have the same bytes
abbrev pub same_text : List ℕ → List ℕ → Bool
same_text = pointwise nat_eq

-- whether a byte is allowed in a script: a blank or a printing one
abbrev pub is_allowed : ℕ → Bool
is_allowed b = (b == 9) || ((b == 10) || ((b == 13) || (nat_le 32 b && nat_le b 126)))

-- a tab, a line feed, a carriage return or a space
abbrev pub is_blank : ℕ → Bool
is_blank b = (b == 9) || ((b == 10) || ((b == 13) || (b == 32)))

-- 0 to 9
abbrev pub is_digit : ℕ → Bool
is_digit b = nat_le 48 b && nat_le b 57

-- A to Z and a to z
abbrev pub is_letter : ℕ → Bool
is_letter b = (nat_le 65 b && nat_le b 90) || (nat_le 97 b && nat_le b 122)

-- a letter, a digit or _
abbrev pub is_word_byte : ℕ → Bool
is_word_byte b = is_letter b || (is_digit b || (b == 95))

-- a byte that may stand in a file text: a printing one other than a quote
abbrev pub is_file_byte : ℕ → Bool
is_file_byte b = nat_le 32 b && (nat_le b 126 && not (b == 34))

-- the signs ( ) [ ] { } , ; : . = ^ - * \ / & |
abbrev pub signs : List ℕ
signs = 40 ∷ 41 ∷ 91 ∷ 93 ∷ 123 ∷ 125 ∷ 44 ∷ 59 ∷ 58 ∷ 46 ∷ 61 ∷ 94 ∷ 45 ∷ 42 ∷ 92 ∷ 47 ∷ 38 ∷ 124 ∷ []

-- whether a byte is one of the signs
abbrev pub is_sign_byte : ℕ → Bool
is_sign_byte b = list_any (λ s. s == b) signs

-- the place after a byte
unfoldable pub behind : ℕ → Place → Place
behind b at = cond (b == 10) (record { line = at.line + 1; column = 1 })
    (record { line = at.line; column = at.column + 1 })

-- how many bytes from the front pass
abbrev pub run_length : (ℕ → Bool) → List ℕ → ℕ
run_length p [] = 0
run_length p (b ∷ bs) = cond (p b) (run_length p bs + 1) 0

-- the value of digits, from the left
abbrev pub value_from : ℕ → List ℕ → ℕ
value_from v [] = v
value_from v (d ∷ ds) = value_from (10 * v + (d - 48)) ds

-- the words that are not names, with their kinds
unfoldable pub reserved_words : List (List ℕ × Kind)
reserved_words =
    (codes "REL", Keyword REL) ∷ (codes "LET", Keyword LET) ∷ (codes "PRINT", Keyword PRINT)
    ∷ (codes "LIST", Keyword LIST) ∷ (codes "COUNT", Keyword COUNT)
    ∷ (codes "TYPE", Keyword TYPE) ∷ (codes "DROP", Keyword DROP) ∷ (codes "SNAP", Keyword SNAP)
    ∷ (codes "AT", Keyword AT) ∷ (codes "LOAD", Keyword LOAD)
    ∷ (codes "SAVE", Keyword SAVE) ∷ (codes "DECL", Keyword DECL) ∷ (codes "PROD", Keyword PROD)
    ∷ (codes "SUM", Keyword SUM) ∷ (codes "BEG", Keyword BEG)
    ∷ (codes "END", Keyword END) ∷ (codes "RETURN", Keyword RETURN) ∷ (codes "WHILE", Keyword WHILE)
    ∷ (codes "DO", Keyword DO) ∷ (codes "OD", Keyword OD)
    ∷ (codes "IF", Keyword IF) ∷ (codes "THEN", Keyword THEN) ∷ (codes "ELSE", Keyword ELSE) ∷ (codes "FI", Keyword FI)
    ∷ (codes "ALL", Keyword ALL) ∷ (codes "ATOMIC", Keyword ATOMIC) ∷ (codes "COMMIT", Keyword COMMIT)
    ∷ (codes "EXPLAIN", Keyword EXPLAIN)
    ∷ map (λ base. (base_text base, BASE base)) base_names

-- the kind of the first entry with this text
abbrev pub found_in : List ℕ → List (List ℕ × Kind) → Option Kind
found_in text [] = None
found_in text (entry ∷ entries) = cond (same_text entry.0 text) (Some entry.1) (found_in text entries)

-- the kind of a word: a reserved word, or else a name
unfoldable pub word_kind : List ℕ → Kind
word_kind w = unwrap_or (found_in w reserved_words) (Word w)

-- the domain operators
unfoldable pub domain_operators : List (List ℕ × Kind)
domain_operators = map (λ base. (base_text base, BASE base)) domain_operator_names

-- the domain operator that begins these bytes, if no letter, digit or _ follows it
unfoldable pub domain_operator_at : List ℕ → Option Kind
domain_operator_at (a ∷ b ∷ c ∷ bs) = cond (nat_eq (run_length is_word_byte bs) 0)
    (found_in (a ∷ b ∷ c ∷ []) domain_operators) None
domain_operator_at _ = None

-- whether a quote comes first
abbrev pub begins_with_quote : List ℕ → Bool
begins_with_quote [] = false
begins_with_quote (b ∷ bs) = b == 34

-- the file text whose first quote these bytes follow, if it is one within its limit, and how many bytes it has with
-- both quotes
unfoldable pub file_at : List ℕ → Option (Kind × ℕ)
file_at bs =
    let n = run_length is_file_byte bs in
    cond ((nat_le 1 n && nat_le n file_text_limit) && begins_with_quote (drop n bs))
    (Some (File (take n bs), n + 2)) None

-- the token that begins these bytes, and how many bytes it has
unfoldable pub kind_at : List ℕ → Option (Kind × ℕ)
kind_at [] = None
kind_at (b ∷ bs) =
    let word = run_length is_word_byte (b ∷ bs) in
    let digits = run_length is_digit (b ∷ bs) in
    let value = value_from 0 (take digits (b ∷ bs)) in
    cond (is_letter b) (option_map_or (λ kind. Some (kind, 3)) (domain_operator_at (b ∷ bs))
    (cond (nat_le word name_limit) (Some (word_kind (take word (b ∷ bs)), word)) None))
    (cond (is_digit b) (cond (nat_lt value (2 ^ 64)) (Some (Number value, digits)) None)
    (cond (b == 34) (file_at bs) (cond (is_sign_byte b) (Some (Sign b, 1)) None)))

-- a token in front of the others, if there are any
abbrev pub with_token : Place → Kind → Option (List Token) → Option (List Token)
with_token at kind rest = option_map (λ ts. record { at = at; kind = kind } ∷ ts) rest

-- The tokens from a place on, after skipping the bytes that the last token still has. A comment ends before a line
-- feed.
abbrev pub tokens_from : ℕ → Place → List ℕ → Option (List Token)
tokens_from k at [] = Some []
tokens_from (suc k) at (b ∷ bs) = tokens_from k (behind b at) bs
tokens_from zero at (b ∷ bs) =
    cond (is_blank b) (tokens_from 0 (behind b at) bs)
    (cond (b == 35) (tokens_from (run_length (λ c. not (c == 10)) bs) (behind b at) bs)
    (option_map_or (λ t. with_token at t.0 (tokens_from (t.1 - 1) (behind b at) bs)) (kind_at (b ∷ bs)) None))

-- the tokens of a text, if all its bytes are allowed and all its tokens valid
unfoldable pub tokens_of : List ℕ → Option (List Token)
tokens_of bytes = cond (list_all is_allowed bytes) (tokens_from 0 (record { line = 1; column = 1 }) bytes) None

-- the place after k bytes
abbrev pub behind_all : ℕ → Place → List ℕ → Place
behind_all k at [] = at
behind_all zero at (b ∷ bs) = at
behind_all (suc k) at (b ∷ bs) = behind_all k (behind b at) bs
