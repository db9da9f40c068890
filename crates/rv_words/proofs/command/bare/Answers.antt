use Rattle.std.proofs.Common.{codes, ap, true, ◌≡◌, ◌∙◌}
use Rattle.clap.specs.Words.{Shape, app_of, new_app}
use Rattle.clap.specs.Simple.{app_of_fields, on_top}
use Rattle.clap.specs.declared.builder.command.Command.{Command}
use Rattle.clap.specs.declared.builder.command.Command.TheOpen.{Command-F}
use Rattle.clap.specs.declared.builder.command.Command.TheViews.{out-Command}
use Rattle.rv_words.specs.Simple as simple
use Rattle.rv_words.proofs.command.bare.Goals as goal

bare_of : (new unnamed bare : Command) → app_of new ≡ new_app (codes "relview") → out-Command unnamed ≡ record (out-Command new) { no_binary_name = true }
    → out-Command bare ≡ record (out-Command unnamed) { disable_help_flag = true } → app_of bare ≡ simple.bare
bare_of new unnamed bare is name help =
    ap app_of_fields (help ∙ ap (λ (f : Command-F Command). record f { disable_help_flag = true }) name)
    ∙ ap (on_top (λ (s : Shape). record s { no_binary_name = true; disable_help_flag = true })) is

pub returns : goal.returns
returns c = bare_of c.new.result c.no_binary_name.result c.disable_help_flag.result c.new.ensures.app c.no_binary_name.ensures c.disable_help_flag.ensures
