-- Small texts, computed from the definitions: where they go wrong, and that they are no fault.
use Rattle.std.proofs.Common.{◌≡◌, ℕ, List, [], ◌∷◌, ◌++◌, codes, Option, Some, None, refl}
use Rattle.lang_model.specs.declared.faults.ParseFault.{ParseFault}
use Rattle.lang_model.specs.declared.faults.ParseFault.TheVariants.{Expected}
use Rattle.lang_model.specs.declared.faults.What.{What}
use Rattle.lang_model.specs.declared.faults.What.TheVariants.{Expression, Name, FileText, Token as TOKEN}
use Rattle.lang_model.specs.Tokens.{behind, reserved_words, word_kind, domain_operators, domain_operator_at, file_at, kind_at}
use Rattle.lang_model.specs.Lexed.{lexed_of}
use Rattle.lang_model.specs.Stop.{stop}

-- this is needed in a column of the first line
abbrev needs : ℕ → What → Option ParseFault
needs column what = Some (Expected (record { line = 1; column = column }) what)

-- an expression is needed behind EXPLAIN
behind_explain : stop (codes "EXPLAIN.") ≡ needs 8 Expression
unfolding lexed_of behind kind_at word_kind reserved_words domain_operator_at domain_operators file_at
behind_explain = refl

-- a file text
abbrev file : List ℕ
file = 34 ∷ codes "c.k2" ++ 34 ∷ []

-- a name is needed behind LOAD, where ALL may stand too
behind_load : stop (codes "LOAD .") ≡ needs 6 Name
unfolding lexed_of behind kind_at word_kind reserved_words domain_operator_at domain_operators file_at
behind_load = refl

-- and an expression behind SAVE
behind_save : stop (codes "SAVE .") ≡ needs 6 Expression
unfolding lexed_of behind kind_at word_kind reserved_words domain_operator_at domain_operators file_at
behind_save = refl

-- a file behind ALL
behind_all : stop (codes "LOAD ALL.") ≡ needs 9 FileText
unfolding lexed_of behind kind_at word_kind reserved_words domain_operator_at domain_operators file_at
behind_all = refl

behind_save_all : stop (codes "SAVE ALL A.") ≡ needs 10 FileText
unfolding lexed_of behind kind_at word_kind reserved_words domain_operator_at domain_operators file_at
behind_save_all = refl

-- and each way to name what is loaded or saved is no fault
all_files : stop
    (codes "LOAD ALL " ++ file ++ codes ". SAVE ALL " ++ file
    ++ codes ". LOAD A " ++ file ++ codes ". SAVE -A " ++ file ++ codes ".") ≡ None
unfolding lexed_of behind kind_at word_kind reserved_words domain_operator_at domain_operators file_at
all_files = refl

-- LET behind ATOMIC, and COMMIT behind an assignment and behind its sign
behind_atomic : stop (codes "ATOMIC COMMIT.") ≡ needs 8 (TOKEN (codes "LET"))
unfolding lexed_of behind kind_at word_kind reserved_words domain_operator_at domain_operators file_at
behind_atomic = refl

behind_let : stop (codes "ATOMIC LET A=B.") ≡ needs 15 (TOKEN (codes "COMMIT"))
unfolding lexed_of behind kind_at word_kind reserved_words domain_operator_at domain_operators file_at
behind_let = refl

behind_sign : stop (codes "ATOMIC LET A=B;.") ≡ needs 16 (TOKEN (codes "COMMIT"))
unfolding lexed_of behind kind_at word_kind reserved_words domain_operator_at domain_operators file_at
behind_sign = refl

a_block : stop (codes "ATOMIC LET A=B; LET B=A|B COMMIT. ATOMIC LET A=B; COMMIT.") ≡ None
unfolding lexed_of behind kind_at word_kind reserved_words domain_operator_at domain_operators file_at
a_block = refl

-- a keyword is no name
explain_is_no_name : stop (codes "LET EXPLAIN=A.") ≡ needs 5 Name
unfolding lexed_of behind kind_at word_kind reserved_words domain_operator_at domain_operators file_at
explain_is_no_name = refl

all_is_no_name : stop (codes "LET ALL=A.") ≡ needs 5 Name
unfolding lexed_of behind kind_at word_kind reserved_words domain_operator_at domain_operators file_at
all_is_no_name = refl

-- base names of two operands and of one
two_operands : stop (codes "PRINT ubd(A).") ≡ needs 12 (TOKEN (codes ","))
unfolding lexed_of behind kind_at word_kind reserved_words domain_operator_at domain_operators file_at
two_operands = refl

one_operand : stop (codes "PRINT quot(A)|hasse(A)&less(A).") ≡ None
unfolding lexed_of behind kind_at word_kind reserved_words domain_operator_at domain_operators file_at
one_operand = refl
