-- The texts of relations, faults and outcomes.
use Rattle.std.specs.Prelude.{ℕ, cond, List, [], ◌∷◌, ◌++◌, map, codes, Option, Some, None}
use Rattle.std.specs.List.{flat_map, range_with_len}
use Rattle.std.specs.Fmt.{decimal}
use Rattle.lang_model.specs.declared.syntax.Place.{Place}
use Rattle.lang_model.specs.declared.faults.What.{What}
use Rattle.lang_model.specs.declared.faults.What.TheVariants.{Item as ITEM, Expression, Name, Number, NumberFromOne, FileText, Token}
use Rattle.lang_model.specs.declared.faults.ParseFault.{ParseFault}
use Rattle.lang_model.specs.declared.faults.ParseFault.TheVariants.{Byte, Expected, TooDeep, NumberTooLarge, NameTooLong, NoMemory as PARSE_NO_MEMORY}
use Rattle.lang_model.specs.declared.faults.StaticShape.{StaticShape}
use Rattle.lang_model.specs.declared.faults.TypeFault.{TypeFault}
use Rattle.lang_model.specs.declared.faults.TypeFault.TheVariants.{Unknown, Arity, Unassigned, Rank, Mismatch, NotSquare, NotVector, NotTest, Twice, NoMemory as TYPE_NO_MEMORY}
use Rattle.run_model.specs.declared.outcome.BadFile.{BadFile}
use Rattle.run_model.specs.declared.outcome.BadFile.TheVariants.{Short, Magic, Sizes, Height, Lengths, ZeroGroup}
use Rattle.run_model.specs.declared.outcome.BadFile.TheVariants.{Outside, Padding, Rest, Full as FILE_FULL}
use Rattle.run_model.specs.declared.outcome.BadFile.TheVariants.{NoMemory as FILE_NO_MEMORY, Quad, Names as BAD_NAMES}
use Rattle.run_model.specs.declared.outcome.BadFile.TheVariants.{Root, Order, Missing}
use Rattle.run_model.specs.declared.outcome.Unit.{Unit as COUNTED}
use Rattle.run_model.specs.declared.outcome.Unit.TheVariants.{Cells, Pairs}
use Rattle.run_model.specs.declared.outcome.Outcome.{Outcome}
use Rattle.run_model.specs.declared.outcome.Outcome.TheVariants.{Done, Parse, Ill, Size, Turns, Nodes, TooLarge}
use Rattle.run_model.specs.declared.outcome.Outcome.TheVariants.{TooLong, NoFile, BadFile as BAD_FILE, NoMemory}
use Rattle.run_model.specs.declared.outcome.Outcome.TheVariants.{Changed}
use Rattle.rel_model.specs.Relation.{Relation, has}
use Rattle.lang_model.specs.Limits.{nesting_limit, rank_limit}
use Rattle.run_model.specs.Limits.{print_limit, list_limit, save_limit}

-- `S.C: `
abbrev pub prefix : ℕ → ℕ → List ℕ
prefix s c = decimal s ++ codes "." ++ decimal c ++ codes ": "

-- ---- relations
-- `1` for a pair and `.` otherwise
abbrev pub cell : Relation → ℕ → ℕ → ℕ
cell r i j = cond (has r i j) 49 46

-- the line of row i
unfoldable pub row_text : Relation → ℕ → List ℕ
row_text r i = map (cell r i) (range_with_len 0 r.cols) ++ 10 ∷ []

-- a line for each row
unfoldable pub rows_text : Relation → List ℕ
rows_text r = flat_map (row_text r) (range_with_len 0 r.rows)

-- `M x N`, and a line for each row
unfoldable pub matrix : Relation → List ℕ
matrix r = decimal r.rows ++ codes " x " ++ decimal r.cols ++ 10 ∷ [] ++ rows_text r

-- ---- refusals
-- `LINE:COLUMN: `
unfoldable pub place_text : Place → List ℕ
place_text at = decimal at.line ++ codes ":" ++ decimal at.column ++ codes ": "

-- a size, or `?` if it is unknown
abbrev pub size_text : Option ℕ → List ℕ
size_text None = codes "?"
size_text (Some n) = decimal n

-- `M x N`
unfoldable pub shape_text : StaticShape → List ℕ
shape_text shape = size_text shape.rows ++ codes " x " ++ size_text shape.cols

-- what the grammar expects
unfoldable pub what_text : What → List ℕ
what_text ITEM = codes "an item"
what_text Expression = codes "an expression"
what_text Name = codes "a name"
what_text Number = codes "a number"
what_text NumberFromOne = codes "a number from 1"
what_text FileText = codes "a file text"
what_text (Token text) = text

-- why bytes are not a script
unfoldable pub parse_fault_text : ParseFault → List ℕ
parse_fault_text (Byte at byte) = place_text at ++ codes "byte " ++ decimal byte ++ codes " is not allowed"
parse_fault_text (Expected at what) = place_text at ++ codes "expected " ++ what_text what
parse_fault_text (TooDeep at) = place_text at ++ codes "nested deeper than " ++ decimal nesting_limit
parse_fault_text (NumberTooLarge at) = place_text at ++ codes "number over 64 bits"
parse_fault_text (NameTooLong at) = place_text at ++ codes "name too long"
parse_fault_text PARSE_NO_MEMORY = codes "no memory"

-- a name that has no relation, with its place
unfoldable pub unknown_text : Place → List ℕ → List ℕ
unknown_text at name = place_text at ++ codes "unknown name " ++ name

-- operands that do not fit an operator, with its place
unfoldable pub mismatch_text : Place → List ℕ → StaticShape → StaticShape → List ℕ
mismatch_text at op left right = place_text at ++ op ++ codes " does not fit " ++ shape_text left ++ codes " and "
    ++ shape_text right

-- why an expression has no meaning
unfoldable pub type_fault_text : TypeFault → List ℕ
type_fault_text (Unknown at name) = unknown_text at name
type_fault_text (Arity at name takes given) = place_text at ++ name ++ codes " takes " ++ decimal takes
    ++ codes " arguments, not " ++ decimal given
type_fault_text (Unassigned at name) = place_text at ++ name ++ codes " may be read before it is assigned"
type_fault_text (Rank at name) = place_text at ++ name ++ codes " has a rank over " ++ decimal rank_limit
type_fault_text (Mismatch at op left right) = mismatch_text at op left right
type_fault_text (NotSquare at op shape) = place_text at ++ op
    ++ codes " needs a square relation, not " ++ shape_text shape
type_fault_text (NotVector at op shape) = place_text at ++ op ++ codes " needs one column, not " ++ shape_text shape
type_fault_text (NotTest at shape) = place_text at ++ codes "a test must be 1 x 1, not " ++ shape_text shape
type_fault_text (Twice at name) = place_text at ++ name ++ codes " is defined twice"
type_fault_text TYPE_NO_MEMORY = codes "no memory"

-- why bytes are not a relation file
unfoldable pub bad_file_text : BadFile → List ℕ
bad_file_text Short = codes "short"
bad_file_text Magic = codes "magic"
bad_file_text Sizes = codes "sizes"
bad_file_text Height = codes "height"
bad_file_text Lengths = codes "lengths"
bad_file_text (ZeroGroup at) = codes "zero group at " ++ decimal at
bad_file_text (Outside at) = codes "pair outside at " ++ decimal at
bad_file_text Padding = codes "padding"
bad_file_text Rest = codes "rest"
bad_file_text FILE_FULL = codes "no free node word"
bad_file_text FILE_NO_MEMORY = codes "no memory"
bad_file_text (Quad at) = codes "bad quadrant at " ++ decimal at
bad_file_text (BAD_NAMES at) = codes "bad name at " ++ decimal at
bad_file_text (Root at) = codes "bad root at " ++ decimal at
bad_file_text (Order at) = codes "order at " ++ decimal at
bad_file_text Missing = codes "no relation of this name"

-- what a limit counts
abbrev pub unit_text : COUNTED → List ℕ
unit_text Cells = codes " cells"
unit_text Pairs = codes " pairs"

-- the limit of what is counted
abbrev pub unit_limit : COUNTED → ℕ
unit_limit Cells = print_limit
unit_limit Pairs = list_limit

-- a text in quotes
abbrev pub quoted : List ℕ → List ℕ
quoted text = 34 ∷ [] ++ text ++ 34 ∷ []

-- why a command was refused
unfoldable pub outcome_text : Outcome → List ℕ
outcome_text Done = []
outcome_text (Parse fault) = parse_fault_text fault
outcome_text (Ill fault) = type_fault_text fault
outcome_text (Size at wanted limit) = place_text at ++ codes "size " ++ decimal wanted ++ codes " passes the limit "
    ++ decimal limit
outcome_text (Turns at limit) = place_text at ++ codes "more than " ++ decimal limit ++ codes " turns"
outcome_text Nodes = codes "no free node word"
outcome_text (TooLarge wanted counted) = decimal wanted ++ unit_text counted ++ codes " pass the limit "
    ++ decimal (unit_limit counted)
outcome_text (TooLong bits) = decimal bits ++ codes " bits pass the limit " ++ decimal save_limit
outcome_text (NoFile name) = codes "no file " ++ quoted name
outcome_text (BAD_FILE name kind) = codes "file " ++ quoted name ++ codes " is bad: " ++ bad_file_text kind
outcome_text NoMemory = codes "no memory"
outcome_text (Changed name seen found) = name ++ codes " changed: version " ++ decimal seen ++ codes " at the read, "
    ++ decimal found ++ codes " at the commit"

-- a refusal's line
unfoldable pub refusal_text : Outcome → List ℕ
refusal_text outcome = codes "refused: " ++ outcome_text outcome ++ 10 ∷ []
