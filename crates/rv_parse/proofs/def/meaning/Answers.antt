use Rattle.std.proofs.Common.{◌∷◌, [], refl}
use Rattle.lang_model.specs.declared.token.Keyword.TheVariants.{Beg as BEG, Decl as DECL}
use Rattle.lang_model.specs.declared.token.Kind.TheVariants.{Keyword as KEYWORD, Sign}
use Rattle.lang_model.specs.Spelling.{OrLevel}
use Rattle.lang_model.specs.Stop.{ExprPart, program_parts}
use Rattle.rv_parse.specs.Got.{declared_parts}
use Rattle.rv_parse.proofs.Defs.{body_by}
use Rattle.rv_parse.proofs.def.meaning.Goals as goal

pub returns-in-Some : goal.returns-in-Some
returns-in-Some c = body_by _ (Sign 61) (ExprPart OrLevel 0 ∷ []) c.args.at _ c.args.name c.args.params.items c.args.tokens.now c.in-Some.behind.now c.function_body.result refl c.in-Some.ensures c.function_body.ensures

pub returns-in-Some-behind_word : goal.returns-in-Some-behind_word
returns-in-Some-behind_word c = body_by _ (KEYWORD BEG) program_parts c.args.at _ c.args.name c.args.params.items c.args.tokens.now c.in-Some-behind_word.behind.now c.plain_program.result refl c.in-Some-behind_word.ensures c.plain_program.ensures

pub returns-in-Some-behind_word-2 : goal.returns-in-Some-behind_word-2
returns-in-Some-behind_word-2 c = body_by _ (KEYWORD DECL) declared_parts c.args.at _ c.args.name c.args.params.items c.args.tokens.now c.in-Some-behind_word-2.behind.now c.declared_program.result refl c.in-Some-behind_word-2.ensures c.declared_program.ensures
