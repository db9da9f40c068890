use Rattle.std.proofs.Common.{◌∙◌, ap}
use Rattle.lang_model.specs.Checking.{among}
use Rattle.rv_types.proofs.Sets.{among-texts}
use Rattle.rv_types.proofs.names.Names.has.Goals as goal

pub returns : goal.returns
returns c = c.contains.ensures ∙ among-texts c.self.inside.names.keys c.args.name.now ∙ ap (λ v. among v c.args.name.now) c.self.view_is
