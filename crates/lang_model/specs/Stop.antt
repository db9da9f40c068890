-- Where a text goes wrong: a recogniser of the grammar over a list of parts still to come, from left to right, without
-- trees and without lookahead.
use Rattle.std.specs.Prelude.{◌==◌, ◌++◌, ℕ, Bool, true, false, cond, List, [], ◌∷◌, Option, Some, None, option_map, unwrap_or, nat_lt, codes, zero, suc}
use Rattle.lang_model.specs.declared.faults.ParseFault.{ParseFault}
use Rattle.lang_model.specs.declared.faults.ParseFault.TheVariants.{Expected, TooDeep}
use Rattle.lang_model.specs.declared.faults.What.{What}
use Rattle.lang_model.specs.declared.faults.What.TheVariants.{Item as AN_ITEM, Expression, Name, Number as A_NUMBER, NumberFromOne, FileText, Token as TOKEN}
use Rattle.lang_model.specs.declared.syntax.Place.{Place}
use Rattle.lang_model.specs.declared.token.Keyword.{Keyword}
use Rattle.lang_model.specs.declared.token.Keyword.TheVariants.{Rel as REL, Let as LET, Print as PRINT, List as LIST}
use Rattle.lang_model.specs.declared.token.Keyword.TheVariants.{Count as COUNT, «Type» as TYPE, Drop as DROP}
use Rattle.lang_model.specs.declared.token.Keyword.TheVariants.{Snap as SNAP, At as AT, Load as LOAD, Save as SAVE}
use Rattle.lang_model.specs.declared.token.Keyword.TheVariants.{Decl as DECL, Prod as PROD, Sum as SUM, Beg as BEG}
use Rattle.lang_model.specs.declared.token.Keyword.TheVariants.{End as END, Return as RETURN, While as WHILE, Do as DO}
use Rattle.lang_model.specs.declared.token.Keyword.TheVariants.{Od as OD, If as IF, Then as THEN, Else as ELSE}
use Rattle.lang_model.specs.declared.token.Keyword.TheVariants.{Fi as FI, All as ALL, Atomic as ATOMIC}
use Rattle.lang_model.specs.declared.token.Keyword.TheVariants.{Commit as COMMIT, Explain as EXPLAIN}
use Rattle.lang_model.specs.declared.token.Kind.{Kind}
use Rattle.lang_model.specs.declared.token.Kind.TheVariants.{Keyword as KEYWORD, Base as BASE, Word, Number, File, Sign}
use Rattle.lang_model.specs.declared.token.Token.{Token}
use Rattle.lang_model.specs.Limits.{nesting_limit, more_limit}
use Rattle.lang_model.specs.BaseNames.{Form, TakesOne, TakesTwo, TakesDomain, form_of}
use Rattle.lang_model.specs.Spelling.{Level, OrLevel, AndLevel, ProdLevel, UnaryLevel, PostLevel, PrimLevel, tighter}
use Rattle.lang_model.specs.Lexed.{Ending, EndsAt, Broken, lexed_of}

-- Parts of the grammar. The number after an expression, a statement or a sign that opens a construct is how many
-- constructs are open around it; the number after further names or arguments is how many may still come.
pub data Part : Type 0 where
  NamePart : Part
  NumberPart : Part
  FromOne : Part
  FilePart : Part
  SignPart : ℕ → Part
  WordPart : Keyword → Part
  OpenPart : ℕ → Part
  ExprPart : Level → ℕ → Part
  CallPart : ℕ → Part
  MoreArgs : ℕ → ℕ → Part
  MoreCarets : Part
  MoreLinks : Level → ℕ → Part
  RowsPart : Part
  MoreRows : Part
  MoreColumns : Part
  StmtsPart : ℕ → Part
  MoreStmts : ℕ → Part
  ElsePart : ℕ → Part
  MoreParams : ℕ → Part
  BodyPart : Part
  MeaningPart : Part
  DomainPart : Part
  MoreDecls : Part
  NameOrAll : Part
  ExprOrAll : Part
  LetsPart : Part
  MoreLets : Part
  ItemsPart : Part

-- what a part does with a token: the token does not begin the part; another word is expected in its place; the token
-- opens one construct too many; or these parts have to follow it
pub data Step : Type 0 where
  NotBegun : Step
  Instead : What → Step
  Deeper : Step
  Behind : List Part → Step

-- whether a token is this sign
abbrev pub is_sign : ℕ → Kind → Bool
is_sign s (Sign t) = t == s
is_sign s _ = false

-- whether a token is one of the operators of a level of chains
abbrev pub is_operator : Level → Kind → Bool
is_operator OrLevel kind = is_sign 124 kind
is_operator AndLevel kind = is_sign 38 kind
is_operator ProdLevel kind = cond (is_sign 42 kind) true (cond (is_sign 92 kind) true (is_sign 47 kind))
is_operator _ kind = false

-- these parts have to follow if the test passes
abbrev pub where_it : Bool → List Part → Step
where_it test parts = cond test (Behind parts) NotBegun

-- these parts have to follow a token that opens one more construct
abbrev pub opening : ℕ → List Part → Step
opening d parts = cond (nat_lt d nesting_limit) (Behind parts) Deeper

-- further parts after those that have to follow
abbrev pub followed : List Part → Step → Step
followed more NotBegun = NotBegun
followed more (Instead what) = Instead what
followed more Deeper = Deeper
followed more (Behind parts) = Behind (parts ++ more)

-- a number from 1
abbrev pub from_one : ℕ → List Part → Step
from_one zero parts = Instead NumberFromOne
from_one (suc n) parts = Behind parts

-- row = NUMBER ":" NUMBER { "," NUMBER }
abbrev pub row_parts : List Part
row_parts = FromOne ∷ SignPart 58 ∷ FromOne ∷ MoreColumns ∷ []

-- what follows a base name or a domain operator
abbrev pub form_parts : Form → ℕ → List Part
form_parts TakesOne d = OpenPart d ∷ ExprPart OrLevel (suc d) ∷ SignPart 41 ∷ []
form_parts TakesTwo d = OpenPart d ∷ ExprPart OrLevel (suc d) ∷ SignPart 44 ∷ ExprPart OrLevel (suc d) ∷ SignPart 41
    ∷ []
form_parts TakesDomain d = OpenPart d ∷ NamePart ∷ SignPart 41 ∷ []

-- a prim
abbrev pub prim_step : ℕ → Kind → Step
prim_step d (Word name) = Behind (CallPart d ∷ [])
prim_step d (BASE base) = Behind (form_parts (form_of base) d)
prim_step d (Sign s) =
    cond (s == 40) (opening d (ExprPart OrLevel (suc d) ∷ SignPart 41 ∷ []))
    (cond (s == 91) (opening d (ExprPart OrLevel (suc d) ∷ SignPart 44 ∷ ExprPart OrLevel (suc d) ∷ SignPart 93 ∷ []))
    NotBegun)
prim_step d _ = NotBegun

-- unary = "-" unary | post, and post = prim { "^" }
abbrev pub unary_step : ℕ → Kind → Step
unary_step d kind = cond (is_sign 45 kind) (opening d (ExprPart UnaryLevel (suc d) ∷ []))
    (followed (MoreCarets ∷ []) (prim_step d kind))

-- an expression of each level
abbrev pub expr_step : Level → ℕ → Kind → Step
expr_step OrLevel d kind = followed (MoreLinks OrLevel d ∷ [])
    (followed (MoreLinks AndLevel d ∷ []) (followed (MoreLinks ProdLevel d ∷ []) (unary_step d kind)))
expr_step AndLevel d kind = followed (MoreLinks AndLevel d ∷ [])
    (followed (MoreLinks ProdLevel d ∷ []) (unary_step d kind))
expr_step ProdLevel d kind = followed (MoreLinks ProdLevel d ∷ []) (unary_step d kind)
expr_step UnaryLevel d kind = unary_step d kind
expr_step PostLevel d kind = followed (MoreCarets ∷ []) (prim_step d kind)
expr_step PrimLevel d kind = prim_step d kind

-- stmts, by the token of its first statement
abbrev pub stmts_step : ℕ → Kind → Step
stmts_step d (Word name) = Behind (SignPart 61 ∷ ExprPart OrLevel d ∷ MoreStmts d ∷ [])
stmts_step d (KEYWORD WHILE) = opening d (ExprPart OrLevel (suc d) ∷ WordPart DO ∷ StmtsPart (suc d) ∷ WordPart OD
    ∷ MoreStmts d ∷ [])
stmts_step d (KEYWORD IF) = opening d (ExprPart OrLevel (suc d) ∷ WordPart THEN ∷ StmtsPart (suc d) ∷ ElsePart (suc d)
    ∷ WordPart FI ∷ MoreStmts d ∷ [])
stmts_step d _ = NotBegun

-- what a program has from BEG on
abbrev pub program_parts : List Part
program_parts = StmtsPart 0 ∷ WordPart RETURN ∷ ExprPart OrLevel 0 ∷ WordPart END ∷ []

-- "=" expr | program
abbrev pub body_step : Kind → Step
body_step (Sign s) = where_it (s == 61) (ExprPart OrLevel 0 ∷ [])
body_step (KEYWORD DECL) = Behind (NamePart ∷ MeaningPart ∷ MoreDecls ∷ WordPart BEG ∷ program_parts)
body_step (KEYWORD BEG) = Behind program_parts
body_step _ = NotBegun

-- PROD or SUM
abbrev pub domain_step : Kind → Step
domain_step (KEYWORD PROD) = Behind (SignPart 40 ∷ NamePart ∷ SignPart 44 ∷ NamePart ∷ SignPart 41 ∷ [])
domain_step (KEYWORD SUM) = Behind (SignPart 40 ∷ NamePart ∷ SignPart 44 ∷ NamePart ∷ SignPart 41 ∷ [])
domain_step _ = NotBegun

-- what follows LET in a block, up to the next LET or the end of the block
abbrev pub let_parts : List Part
let_parts = NamePart ∷ SignPart 61 ∷ ExprPart OrLevel 0 ∷ MoreLets ∷ []

-- NAME | ALL
abbrev pub name_or_all : Kind → Step
name_or_all (Word name) = Behind []
name_or_all (KEYWORD ALL) = Behind []
name_or_all _ = NotBegun

-- expr | ALL
abbrev pub expr_or_all : Kind → Step
expr_or_all (KEYWORD ALL) = Behind []
expr_or_all kind = expr_step OrLevel 0 kind

-- a further LET of a block
abbrev pub lets_step : Kind → Step
lets_step (KEYWORD LET) = Behind let_parts
lets_step _ = NotBegun

-- the rest of a command after its keyword
abbrev pub command_step : Keyword → Step
command_step REL = Behind (NamePart ∷ NumberPart ∷ NumberPart ∷ SignPart 123 ∷ RowsPart ∷ SignPart 125 ∷ [])
command_step LET = Behind (NamePart ∷ SignPart 61 ∷ ExprPart OrLevel 0 ∷ [])
command_step PRINT = Behind (ExprPart OrLevel 0 ∷ [])
command_step LIST = Behind (ExprPart OrLevel 0 ∷ [])
command_step COUNT = Behind (ExprPart OrLevel 0 ∷ [])
command_step TYPE = Behind (ExprPart OrLevel 0 ∷ [])
command_step DROP = Behind (NamePart ∷ [])
command_step SNAP = Behind (NamePart ∷ [])
command_step AT = Behind (NamePart ∷ WordPart PRINT ∷ ExprPart OrLevel 0 ∷ [])
command_step LOAD = Behind (NameOrAll ∷ FilePart ∷ [])
command_step SAVE = Behind (ExprOrAll ∷ FilePart ∷ [])
command_step ATOMIC = Behind (WordPart LET ∷ let_parts ++ WordPart COMMIT ∷ [])
command_step EXPLAIN = Behind (ExprPart OrLevel 0 ∷ [])
command_step _ = NotBegun

-- an item, by its first token
abbrev pub item_step : Kind → Step
item_step (Word name) = Behind (SignPart 40 ∷ NamePart ∷ MoreParams more_limit ∷ SignPart 41 ∷ BodyPart ∷ [])
item_step (KEYWORD keyword) = command_step keyword
item_step _ = NotBegun

-- the number of a keyword, in their order
abbrev pub number_of : Keyword → ℕ
number_of REL = 0
number_of LET = 1
number_of PRINT = 2
number_of LIST = 3
number_of COUNT = 4
number_of TYPE = 5
number_of DROP = 6
number_of SNAP = 7
number_of AT = 8
number_of LOAD = 9
number_of SAVE = 10
number_of DECL = 11
number_of PROD = 12
number_of SUM = 13
number_of BEG = 14
number_of END = 15
number_of RETURN = 16
number_of WHILE = 17
number_of DO = 18
number_of OD = 19
number_of IF = 20
number_of THEN = 21
number_of ELSE = 22
number_of FI = 23
number_of ALL = 24
number_of ATOMIC = 25
number_of COMMIT = 26
number_of EXPLAIN = 27

-- whether a token is this keyword
abbrev pub is_word : Keyword → Kind → Bool
is_word word (KEYWORD keyword) = number_of keyword == number_of word
is_word word _ = false

-- what a part does with a token
abbrev pub entered : Part → Kind → Step
entered NamePart (Word name) = Behind []
entered NamePart _ = NotBegun
entered NumberPart (Number n) = Behind []
entered NumberPart _ = NotBegun
entered FromOne (Number n) = from_one n []
entered FromOne _ = NotBegun
entered FilePart (File text) = Behind []
entered FilePart _ = NotBegun
entered (SignPart s) kind = where_it (is_sign s kind) []
entered (WordPart word) kind = where_it (is_word word kind) []
entered (OpenPart d) kind = cond (is_sign 40 kind) (opening d []) NotBegun
entered (ExprPart l d) kind = expr_step l d kind
entered (CallPart d) kind = cond (is_sign 40 kind) (opening d
    (ExprPart OrLevel (suc d) ∷ MoreArgs more_limit (suc d) ∷ SignPart 41 ∷ [])) NotBegun
entered (MoreArgs zero d) kind = NotBegun
entered (MoreArgs (suc n) d) kind = where_it (is_sign 44 kind) (ExprPart OrLevel d ∷ MoreArgs n d ∷ [])
entered MoreCarets kind = where_it (is_sign 94 kind) (MoreCarets ∷ [])
entered (MoreLinks l d) kind = where_it (is_operator l kind) (ExprPart (tighter l) d ∷ MoreLinks l d ∷ [])
entered RowsPart (Number n) = from_one n (SignPart 58 ∷ FromOne ∷ MoreColumns ∷ MoreRows ∷ [])
entered RowsPart _ = NotBegun
entered MoreRows kind = where_it (is_sign 59 kind) (row_parts ++ MoreRows ∷ [])
entered MoreColumns kind = where_it (is_sign 44 kind) (FromOne ∷ MoreColumns ∷ [])
entered (StmtsPart d) kind = stmts_step d kind
entered (MoreStmts d) kind = where_it (is_sign 59 kind) (StmtsPart d ∷ [])
entered (ElsePart d) kind = where_it (is_word ELSE kind) (StmtsPart d ∷ [])
entered (MoreParams zero) kind = NotBegun
entered (MoreParams (suc n)) kind = where_it (is_sign 44 kind) (NamePart ∷ MoreParams n ∷ [])
entered BodyPart kind = body_step kind
entered MeaningPart kind = where_it (is_sign 61 kind) (DomainPart ∷ [])
entered DomainPart kind = domain_step kind
entered MoreDecls kind = where_it (is_sign 44 kind) (NamePart ∷ MeaningPart ∷ MoreDecls ∷ [])
entered NameOrAll kind = name_or_all kind
entered ExprOrAll kind = expr_or_all kind
entered LetsPart kind = lets_step kind
entered MoreLets kind = where_it (is_sign 59 kind) (LetsPart ∷ [])
entered ItemsPart kind = followed (SignPart 46 ∷ ItemsPart ∷ []) (item_step kind)

-- how a keyword is written
abbrev pub written : Keyword → List ℕ
written REL = codes "REL"
written LET = codes "LET"
written PRINT = codes "PRINT"
written LIST = codes "LIST"
written COUNT = codes "COUNT"
written TYPE = codes "TYPE"
written DROP = codes "DROP"
written SNAP = codes "SNAP"
written AT = codes "AT"
written LOAD = codes "LOAD"
written SAVE = codes "SAVE"
written DECL = codes "DECL"
written PROD = codes "PROD"
written SUM = codes "SUM"
written BEG = codes "BEG"
written END = codes "END"
written RETURN = codes "RETURN"
written WHILE = codes "WHILE"
written DO = codes "DO"
written OD = codes "OD"
written IF = codes "IF"
written THEN = codes "THEN"
written ELSE = codes "ELSE"
written FI = codes "FI"
written ALL = codes "ALL"
written ATOMIC = codes "ATOMIC"
written COMMIT = codes "COMMIT"
written EXPLAIN = codes "EXPLAIN"

-- the word of a part that must come: what it begins with, or the first alternative of its choice; optional and repeated
-- parts have none
abbrev pub word_of : Part → Option What
word_of NamePart = Some Name
word_of NumberPart = Some A_NUMBER
word_of FromOne = Some A_NUMBER
word_of FilePart = Some FileText
word_of (SignPart s) = Some (TOKEN (s ∷ []))
word_of (WordPart word) = Some (TOKEN (written word))
word_of (OpenPart d) = Some (TOKEN (40 ∷ []))
word_of (ExprPart l d) = Some Expression
word_of NameOrAll = Some Name
word_of ExprOrAll = Some Expression
word_of BodyPart = Some (TOKEN (61 ∷ []))
word_of DomainPart = Some (TOKEN (written PROD))
word_of _ = None

-- one word, or else another
abbrev pub or_else : Option What → Option What → Option What
or_else (Some what) other = Some what
or_else None other = other

-- What the grammar needs if all optional and repeated parts are skipped: nothing if there are only those.
abbrev pub needed : List Part → Option What
needed [] = None
needed (part ∷ parts) = or_else (word_of part) (needed parts)

-- what is reported as needed; if nothing is, a further item may come
abbrev pub what_of : List Part → What
what_of parts = unwrap_or (needed parts) AN_ITEM

-- what parts do with a token: by what the first does, by the first's word, and by what the others do
abbrev pub first_of : Step → Option What → List Part → Step → Step
first_of (Behind inner) word parts others = Behind (inner ++ parts)
first_of Deeper word parts others = Deeper
first_of (Instead what) word parts others = Instead what
first_of NotBegun None parts others = others
first_of NotBegun (Some what) parts others = NotBegun

-- The parts after a token, or why it does not fit. Optional and repeated parts that the token does not begin are
-- dropped, and the first part that is not dropped decides.
abbrev pub step : Kind → List Part → Step
step kind [] = NotBegun
step kind (part ∷ parts) = first_of (entered part kind) (word_of part) parts (step kind parts)

-- the fault of a token where these parts have to come, or the fault of what comes after it
abbrev pub fault_at : Place → What → Step → (List Part → Option ParseFault) → Option ParseFault
fault_at at what NotBegun later = Some (Expected at what)
fault_at at what (Instead other) later = Some (Expected at other)
fault_at at what Deeper later = Some (TooDeep at)
fault_at at what (Behind next) later = later next

-- the fault of the end where these parts have to come, or the fault at which the tokens end
abbrev pub fault_of_end : List Part → Ending → Option ParseFault
fault_of_end parts (EndsAt place) = option_map (λ what. Expected place what) (needed parts)
fault_of_end parts (Broken fault) = Some fault

-- The fault of the tokens where these parts have to come, if there is one: the first token (or the end) that does not
-- fit or opens one construct too many, or the fault at which the tokens end.
abbrev pub stop_of : List Part → List Token → Ending → Option ParseFault
stop_of parts [] ending = fault_of_end parts ending
stop_of parts (token ∷ tokens) ending = fault_at token.at (what_of parts) (step token.kind parts)
    (λ next. stop_of next tokens ending)

-- the fault of a text, if it is not a script
abbrev pub stop : List ℕ → Option ParseFault
stop bytes = stop_of (ItemsPart ∷ []) (lexed_of bytes).tokens (lexed_of bytes).ending
