-- The faults in the model that the parser's own words for them mean.
use Rattle.std.specs.Prelude.{List, [], ◌∷◌}
use Rattle.lang_model.specs.declared.faults.ParseFault.{ParseFault}
use Rattle.lang_model.specs.declared.faults.ParseFault.TheVariants.{Expected, TooDeep, NoMemory as NO_MEMORY}
use Rattle.lang_model.specs.declared.faults.What.{What}
use Rattle.lang_model.specs.declared.faults.What.TheVariants.{Item as AN_ITEM, Expression as AN_EXPRESSION, Name as A_NAME, Number as A_NUMBER, NumberFromOne, FileText, Token as TOKEN}
use Rattle.lang_model.specs.declared.token.Token.{Token}
use Rattle.lang_model.specs.Lexed.{Ending, EndsAt, Broken}
use Rattle.lang_model.specs.Stop.{written}
use Rattle.rv_tokens.specs.Endings.{flaw_fault}
use Rattle.rv_parse.specs.declared.halt.Wanted.{Wanted}
use Rattle.rv_parse.specs.declared.halt.Wanted.TheVariants.{Item, Expression, Name, Number, FromOne, File, Sign, Word}
use Rattle.rv_parse.specs.declared.halt.Halt.{Halt}
use Rattle.rv_parse.specs.declared.halt.Halt.TheVariants.{Expected as EXPECTED, TooDeep as TOO_DEEP, Broken as BROKEN_OFF, NoMemory}

-- what is expected, in terms of the model
abbrev pub what : Wanted → What
what Item = AN_ITEM
what Expression = AN_EXPRESSION
what Name = A_NAME
what Number = A_NUMBER
what FromOne = NumberFromOne
what File = FileText
what (Sign s) = TOKEN (s ∷ [])
what (Word keyword) = TOKEN (written keyword)

-- the fault that ends the parse
abbrev pub fault_of : Halt → ParseFault
fault_of (EXPECTED at wanted) = Expected at (what wanted)
fault_of (TOO_DEEP at) = TooDeep at
fault_of (BROKEN_OFF flaw) = flaw_fault flaw
fault_of NoMemory = NO_MEMORY

-- the fault if something is expected in place of the first token, or of the end
abbrev pub missing : What → List Token → Ending → ParseFault
missing what [] (EndsAt place) = Expected place what
missing what [] (Broken fault) = fault
missing what (token ∷ tokens) ending = Expected token.at what
