use Rattle.std.proofs.Common.{◌∷◌, [], ◌∙◌, ap, arith, length, refl}
use Rattle.std.proofs.lemmas.Result.{err_from_is_err_and}
use Rattle.lang_model.specs.declared.token.Kind.TheVariants.{Word}
use Rattle.lang_model.specs.Stop.{SignPart, ItemsPart}
use Rattle.rv_parse.specs.Got.{definition_parts}
use Rattle.rv_parse.proofs.Scripting.{item_begins, command_begins}
use Rattle.rv_parse.proofs.script.next_item.Goals as goal

pub returns-in_err-item : goal.returns-in_err-item
returns-in_err-item c =
    let p = err_from_is_err_and c.from_residual.result c.from_residual.ensures.1 in
    rw (p.1, p.2) (λ n. item_begins (Word c.in-Some.name.now) definition_parts _ c.args.tokens.now c.in-Some.behind.now _ refl c.in-Some.ensures ∙ c.in_err-item.ensures n (SignPart 46 ∷ ItemsPart ∷ []))

pub returns-in-Some : goal.returns-in-Some
returns-in-Some c =
    let item = c.in_ok-item.ensures in
    record {
      spelled = item.spelled c.args.tokens.now c.in-Some.ensures;
      shorter = omega (arith, item.shorter, ap length c.in-Some.ensures);
      read = item_begins (Word c.in-Some.name.now) definition_parts _ c.args.tokens.now c.in-Some.behind.now _ refl c.in-Some.ensures ∙ item.read (SignPart 46 ∷ ItemsPart ∷ []);
    }

pub returns-in_err-command : goal.returns-in_err-command
returns-in_err-command c =
    let p = err_from_is_err_and c.from_residual-in_err-command.result c.from_residual-in_err-command.ensures.1 in
    let t = c.in-Some-first_opening.ensures in
    rw (p.1, p.2) (λ n. command_begins c.in-Some-first_opening.opening c.args.tokens.now c.in-Some-first_opening.behind.now _ t ∙ c.in_err-command.ensures n (SignPart 46 ∷ ItemsPart ∷ []))

pub returns-in-Some-first_opening : goal.returns-in-Some-first_opening
returns-in-Some-first_opening c =
    let command = c.in_ok-command.ensures in
    let t = c.in-Some-first_opening.ensures in
    record {
      spelled = command.spelled c.args.tokens.now t;
      shorter = omega (arith, command.shorter, ap length t.1);
      read = command_begins c.in-Some-first_opening.opening c.args.tokens.now c.in-Some-first_opening.behind.now _ t ∙ command.read (SignPart 46 ∷ ItemsPart ∷ []);
    }
