use Rattle.std.proofs.Common.{◌≡◌, drop, map}
use Rattle.lang_model.specs.Tokens.{found_in}
use Rattle.lang_model.specs.declared.token.Kind.TheVariants.{Keyword as KEYWORD}
use Rattle.rv_tokens.proofs.words.keyword.Given as goal

abbrev pub invariant-each : goal.invariant-each
invariant-each l = found_in l.text (map (λ e. (e.0.now, KEYWORD e.1)) l.table) ≡ found_in l.text (map (λ e. (e.0.now, KEYWORD e.1)) (drop l.entry-index l.table))
