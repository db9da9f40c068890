-- What a reader of one part of the grammar answers, and the parts of statements, definitions and commands.
use Rattle.std.specs.Prelude.{◌≡◌, ◌≤◌, ◌++◌, ◌⊎◌, ℕ, List, [], ◌∷◌, length, suc, Some}
use Rattle.lang_model.specs.Limits.{more_limit}
use Rattle.lang_model.specs.declared.token.Keyword.TheVariants.{Beg as BEG, End as END, Return as RETURN, Do as DO, Od as OD, Then as THEN, Else as ELSE, Fi as FI, Let as LET, Commit as COMMIT}
use Rattle.lang_model.specs.declared.syntax.Expr.{Expr}
use Rattle.lang_model.specs.declared.syntax.Stmt.{Stmt}
use Rattle.lang_model.specs.declared.token.Kind.TheVariants.{Keyword as KEYWORD}
use Rattle.lang_model.specs.declared.token.Token.{Token}
use Rattle.lang_model.specs.Taken.{Takes}
use Rattle.lang_model.specs.Lexed.{Ending}
use Rattle.lang_model.specs.Spelling.{OrLevel, Spelled, SpelledStmts}
use Rattle.lang_model.specs.Stop.{Part, NamePart, NumberPart, SignPart, WordPart, ExprPart, StmtsPart, ElsePart, RowsPart, ItemsPart, MoreParams, BodyPart, MeaningPart, MoreDecls, program_parts, let_parts, stop_of}
use Rattle.rv_parse.specs.Halts.{fault_of}
use Rattle.rv_parse.specs.Readers.{Reads}
use Rattle.rv_parse.specs.declared.halt.Halt.{Halt}
use Rattle.rv_parse.specs.declared.halt.Halt.TheVariants.{NoMemory}

-- Something is read: the tokens spell it, at most as many tokens are left, and the tokens read are what these parts
-- take.
pub record Got (e : Ending) (parts : List Part) (spells : List Token → List Token → Type 0)
    (tokens rest : List Token) : Type 0 where
  pub spelled : spells tokens rest
  pub shorter : length rest ≤ length tokens
  pub read : Reads e parts tokens rest

-- whatever has to come after them, the tokens up to `rest` lead from the first parts to the others
abbrev pub ReadsTo : Ending → List Part → List Part → List Token → List Token → Type 0
ReadsTo e parts others tokens rest = (behind : List Part)
    → stop_of (parts ++ behind) tokens e ≡ stop_of (others ++ behind) rest e

-- the tokens are not items, unless memory ran out
abbrev pub RefusesItems : Ending → List Token → Halt → Type 0
RefusesItems e tokens halt = (halt ≡ NoMemory → ⊥) → stop_of (ItemsPart ∷ []) tokens e ≡ Some (fault_of halt)

-- two expressions with a comma between them, and a sign after them
abbrev pub pair_parts : ℕ → ℕ → List Part
pair_parts d sign = ExprPart OrLevel (suc d) ∷ SignPart 44 ∷ ExprPart OrLevel (suc d) ∷ SignPart sign ∷ []

-- an assignment, after its name
abbrev pub set_parts : ℕ → List Part
set_parts d = SignPart 61 ∷ ExprPart OrLevel d ∷ []

-- a loop, after WHILE
abbrev pub while_parts : ℕ → List Part
while_parts d = ExprPart OrLevel (suc d) ∷ WordPart DO ∷ StmtsPart (suc d) ∷ WordPart OD ∷ []

-- a choice, after IF
abbrev pub if_parts : ℕ → List Part
if_parts d = ExprPart OrLevel (suc d) ∷ WordPart THEN ∷ StmtsPart (suc d) ∷ ElsePart (suc d) ∷ WordPart FI ∷ []

-- the second branch of a choice, if it has one, up to FI
abbrev pub SpellsSecond : ℕ → List Stmt → List Token → List Token → Type 0
SpellsSecond d ss tokens rest = ((ss ≡ []) × Takes (KEYWORD FI) tokens rest)
    ⊎ ((t1 t2 : List Token) × Takes (KEYWORD ELSE) tokens t1 × SpelledStmts d ss t1 t2 × Takes (KEYWORD FI) t2 rest)

-- a listed relation, after REL
abbrev pub relation_parts : List Part
relation_parts = NamePart ∷ NumberPart ∷ NumberPart ∷ SignPart 123 ∷ RowsPart ∷ SignPart 125 ∷ []

-- a definition, after its name
abbrev pub definition_parts : List Part
definition_parts = SignPart 40 ∷ NamePart ∷ MoreParams more_limit ∷ SignPart 41 ∷ BodyPart ∷ []

-- the statements and the result of a program, after BEG
abbrev pub SpellsTail : List Stmt → Expr → List Token → List Token → Type 0
SpellsTail body result tokens rest = (t1 t2 t3 : List Token) × SpelledStmts 0 body tokens t1
    × Takes (KEYWORD RETURN) t1 t2 × Spelled OrLevel 0 result t2 t3 × Takes (KEYWORD END) t3 rest

-- a program with declarations, after DECL
abbrev pub declared_parts : List Part
declared_parts = NamePart ∷ MeaningPart ∷ MoreDecls ∷ WordPart BEG ∷ program_parts

-- a block, after ATOMIC
abbrev pub block_parts : List Part
block_parts = WordPart LET ∷ let_parts ++ WordPart COMMIT ∷ []
