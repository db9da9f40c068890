use Rattle.std.proofs.Common.{◌∙◌, sym, map, take}
use Rattle.lang_model.specs.BaseNames.{base_text, base_names}
use Rattle.lang_model.specs.Tokens.{reserved_words}
use Rattle.lang_model.specs.declared.token.Kind.TheVariants.{Base as BASE}
use Rattle.rv_tokens.proofs.Tables.{found_in-front, found_in-behind}
use Rattle.rv_tokens.proofs.words.reserved_word.Goals as goal

pub returns-in-Some : goal.returns-in-Some
unfolding reserved_words
returns-in-Some c = sym (found_in-front c.args.word.now (take 28 reserved_words) (map (λ base. (base_text base, BASE base)) base_names) _ (sym c.in-Some.ensures))

pub returns-in-Some-base : goal.returns-in-Some-base
unfolding reserved_words
returns-in-Some-base c = c.in-Some-base.ensures ∙ found_in-behind c.args.word.now (take 28 reserved_words) (map (λ base. (base_text base, BASE base)) base_names) c.in-None.ensures

pub returns-in-None-base : goal.returns-in-None-base
unfolding reserved_words
returns-in-None-base c = c.in-None-base.ensures ∙ found_in-behind c.args.word.now (take 28 reserved_words) (map (λ base. (base_text base, BASE base)) base_names) c.in-None.ensures
