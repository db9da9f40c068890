-- The faults in the model that the lexer's own words for them mean.
use Rattle.std.specs.Prelude.{[], ◌∷◌}
use Rattle.lang_model.specs.declared.faults.ParseFault.{ParseFault}
use Rattle.lang_model.specs.declared.faults.ParseFault.TheVariants.{Byte, Expected, NumberTooLarge, NameTooLong}
use Rattle.lang_model.specs.declared.faults.What.TheVariants.{FileText, Token as TOKEN}
use Rattle.lang_model.specs.Lexed.{Ending, EndsAt, Broken}
use Rattle.rv_tokens.specs.declared.ending.Flaw.{Flaw}
use Rattle.rv_tokens.specs.declared.ending.Flaw.TheVariants.{Byte as BYTE, NumberTooLarge as NUMBER_TOO_LARGE, NameTooLong as NAME_TOO_LONG, Unclosed, EmptyText}
use Rattle.rv_tokens.specs.declared.ending.Ending.{Ending as HOW_IT_ENDS}
use Rattle.rv_tokens.specs.declared.ending.Ending.TheVariants.{At, Broken as BROKEN}

-- the fault for a flaw of a token
abbrev pub flaw_fault : Flaw → ParseFault
flaw_fault (BYTE at byte) = Byte at byte
flaw_fault (NUMBER_TOO_LARGE at) = NumberTooLarge at
flaw_fault (NAME_TOO_LONG at) = NameTooLong at
flaw_fault (Unclosed at) = Expected at (TOKEN (34 ∷ []))
flaw_fault (EmptyText at) = Expected at FileText

-- how a text ends
abbrev pub ending_of : HOW_IT_ENDS → Ending
ending_of (At place) = EndsAt place
ending_of (BROKEN flaw) = Broken (flaw_fault flaw)
