use Rattle.std.proofs.Common.{◌≡◌, drop, map}
use Rattle.lang_model.specs.BaseNames.{base_text}
use Rattle.lang_model.specs.Tokens.{found_in}
use Rattle.lang_model.specs.declared.token.Kind.TheVariants.{Base as BASE}
use Rattle.rv_tokens.proofs.words.base.Given as goal

abbrev pub invariant-each : goal.invariant-each
invariant-each l = found_in l.text (map (λ base. (base_text base, BASE base)) l.bases) ≡ found_in l.text (map (λ base. (base_text base, BASE base)) (drop l.base-index l.bases))
