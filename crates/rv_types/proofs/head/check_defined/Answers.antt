use Rattle.std.proofs.Common.{◌∙◌, cond, [], ◌∷◌, ap, sym, option_map}
use Rattle.lang_model.specs.declared.faults.TypeFault.TheVariants.{Twice}
use Rattle.lang_model.specs.Checking.{definition_of}
use Rattle.rv_types.specs.Definitions.{summary_of}
use Rattle.rv_types.specs.Found.{told, noted}
use Rattle.rv_types.proofs.Heads.{named-none, named-some}
use Rattle.rv_types.proofs.head.check_defined.Goals as goal

pub returns-in-None : goal.returns-in-None
returns-in-None c =
    let E = c.args.earlier.now in
    let name = c.args.head.name.now in
    let lacks = named-none E name (c.in-None.ensures ∙ ap (λ n. option_map summary_of (definition_of E n)) c.bytes.ensures) in
    ap (λ b. noted (told c.args.so_far) (cond b (Twice c.args.head.at name ∷ []) [])) (sym lacks)

pub returns-in-Some : goal.returns-in-Some
returns-in-Some c =
    let E = c.args.earlier.now in
    let name = c.args.head.name.now in
    let has = named-some E name c.in-Some.field-0 (c.in-Some.ensures ∙ ap (λ n. option_map summary_of (definition_of E n)) c.bytes.ensures) in
    c.noted.ensures ∙ ap (λ b. noted (told c.args.so_far) (cond b (Twice c.args.head.at name ∷ []) [])) (sym has)
