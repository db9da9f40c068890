use Rattle.std.proofs.Common.{◌∙◌, ◌++◌, ◌∷◌, [], ap, map}
use Rattle.std.specs.String.{string_bytes}
use Rattle.rv_words.proofs.Sorting.{sorted_more}
use Rattle.rv_words.proofs.files.add_word.Goals as goal

pub returns-clause-sorted : goal.returns-clause-sorted
returns-clause-sorted c = sorted_more c.args.list.now _ c.args.file.now
    (c.in_ok-add_name.ensures ∙ ap (λ xs. map string_bytes xs ++ c.args.file.now ∷ []) c.in_ok-sort_word.ensures.files)
    c.in_ok-sort_word.ensures.scripts c.in_ok-sort_word.ensures.relations
