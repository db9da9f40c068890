-- The keywords that begin commands, and what has to follow them.
use Rattle.std.specs.Prelude.{◌≡◌, List, [], ◌∷◌}
use Rattle.lang_model.specs.declared.token.Keyword.{Keyword}
use Rattle.lang_model.specs.declared.token.Keyword.TheVariants.{Rel as REL, Let as LET, Print as PRINT, List as LIST, Count as COUNT, «Type» as TYPE, Drop as DROP, Snap as SNAP, At as AT, Load as LOAD, Save as SAVE, Atomic as ATOMIC, Explain as EXPLAIN}
use Rattle.lang_model.specs.Spelling.{OrLevel}
use Rattle.lang_model.specs.Stop.{Part, NamePart, NameOrAll, ExprOrAll, FilePart, SignPart, WordPart, ExprPart, Behind, command_step}
use Rattle.rv_parse.specs.Got.{relation_parts, block_parts}
use Rattle.rv_parse.specs.declared.command.Asked.{Asked}
use Rattle.rv_parse.specs.declared.command.Asked.TheVariants.{Print as PrintIt, List as ListIt, Count as CountIt, «Type» as TypeIt, Explain as ExplainIt}
use Rattle.rv_parse.specs.declared.command.Opening.{Opening}
use Rattle.rv_parse.specs.declared.command.Opening.TheVariants.{Relation, Let, Print, List as ListOf, Count, «Type» as TypeOf, Drop, Snap, At, Load, Save, Atomic, Explain}

-- the keyword
abbrev pub opening_word : Opening → Keyword
opening_word Relation = REL
opening_word Let = LET
opening_word Print = PRINT
opening_word ListOf = LIST
opening_word Count = COUNT
opening_word TypeOf = TYPE
opening_word Drop = DROP
opening_word Snap = SNAP
opening_word At = AT
opening_word Load = LOAD
opening_word Save = SAVE
opening_word Atomic = ATOMIC
opening_word Explain = EXPLAIN

-- the parts after it
abbrev pub opening_parts : Opening → List Part
opening_parts Relation = relation_parts
opening_parts Let = NamePart ∷ SignPart 61 ∷ ExprPart OrLevel 0 ∷ []
opening_parts Print = ExprPart OrLevel 0 ∷ []
opening_parts ListOf = ExprPart OrLevel 0 ∷ []
opening_parts Count = ExprPart OrLevel 0 ∷ []
opening_parts TypeOf = ExprPart OrLevel 0 ∷ []
opening_parts Drop = NamePart ∷ []
opening_parts Snap = NamePart ∷ []
opening_parts At = NamePart ∷ WordPart PRINT ∷ ExprPart OrLevel 0 ∷ []
opening_parts Load = NameOrAll ∷ FilePart ∷ []
opening_parts Save = ExprOrAll ∷ FilePart ∷ []
opening_parts Atomic = block_parts
opening_parts Explain = ExprPart OrLevel 0 ∷ []

-- the keyword of a command that does this with a value
abbrev pub asked_word : Asked → Keyword
asked_word PrintIt = PRINT
asked_word ListIt = LIST
asked_word CountIt = COUNT
asked_word TypeIt = TYPE
asked_word ExplainIt = EXPLAIN

-- the keyword begins this command
abbrev pub Opens : Keyword → Opening → Type 0
Opens keyword opening = (keyword ≡ opening_word opening) × (command_step keyword ≡ Behind (opening_parts opening))
