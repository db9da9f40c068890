use Rattle.std.proofs.Common.{◌≡◌, ◌∙◌, ◌++◌, ◌∷◌, [], ap, sym, length, map, arith}
use Rattle.std.proofs.lemmas.Grind.{common_steps}
use Rattle.rv_words.specs.Said.{scripts_in}
use Rattle.rv_words.specs.Shown.{texts}
use Rattle.rv_words.proofs.Sorting.{taken, not_taken}
use Rattle.rv_words.proofs.files.add_part.Goals as goal

pub returns-then-not-is_part_taken-clause-usage : goal.returns-then-not-is_part_taken-clause-usage
returns-then-not-is_part_taken-clause-usage c = λ usage.
    let count : c.len-before.result ≡ length (scripts_in (texts c.args.list.now.files.items)) =
    grind (arith, common_steps, c.len-before.ensures, c.requires.scripts) in
    not_taken (texts c.args.list.now.files.items) (map (λ file. file.now) c.args.files.now) (texts c.add_words.new.list.files.items)
    c.args.list.now.ends.items c.add_words.new.list.ends.items c.len-before.result c.in-Ok.ensures.files c.in-Ok.ensures.ends count
    (sym c.is_part_taken.ensures ∙ c.if-not-is_part_taken.true)

pub returns-in-Ok-push-clause-taken : goal.returns-in-Ok-push-clause-taken
returns-in-Ok-push-clause-taken c =
    let count : c.len-before.result ≡ length (scripts_in (texts c.args.list.now.files.items)) =
    grind (arith, common_steps, c.len-before.ensures, c.requires.scripts) in
    let sorted = c.in-Ok.ensures.sorted c.requires in
    let scripts : c.len-scripts.result ≡ length (scripts_in (texts c.add_words.new.list.files.items)) =
    grind (arith, common_steps, c.len-scripts.ensures, sorted.scripts) in
    let pushed = c.in-Ok-push.ensures.items in
    taken (texts c.args.list.now.files.items) (map (λ file. file.now) c.args.files.now) (texts c.add_words.new.list.files.items)
    c.args.list.now.ends.items c.add_words.new.list.ends.items c.len-before.result c.in-Ok.ensures.files c.in-Ok.ensures.ends count
    c.push.new.self.items (sym c.is_part_taken.ensures ∙ c.if-not-is_part_taken.false)
    (pushed ∙ ap (λ n. c.add_words.new.list.ends.items ++ n ∷ []) scripts)
