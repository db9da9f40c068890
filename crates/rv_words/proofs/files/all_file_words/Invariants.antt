use Rattle.std.proofs.Common.{◌≡◌, length, map}
use Rattle.std.specs.List.{list_all}
use Rattle.rv_words.specs.Said.{is_file_word}
use Rattle.rv_words.proofs.files.all_file_words.Given as goal

abbrev pub invariant-each : goal.invariant-each
invariant-each l = list_all is_file_word (map (λ file. file.now) l.fn.files) ≡ list_all is_file_word (map (λ file. file.now) l.rest)

abbrev pub decreases-each : goal.decreases-each
decreases-each l = length l.rest
