use Rattle.std.proofs.Common.{◌≡◌, ◌<◌, ◌^◌, drop}
use Rattle.lang_model.specs.Tokens.{value_from}
use Rattle.rv_tokens.proofs.tokens.number.Given as goal

abbrev pub invariant-each : goal.invariant-each
invariant-each l = record { same : value_from 0 l.digits ≡ value_from l.value (drop l.d-index l.digits); small : l.value < 2 ^ 64 }
