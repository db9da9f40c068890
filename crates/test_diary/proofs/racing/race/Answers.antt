use Rattle.std.proofs.Common.{rules, ◌≡◌, ◌∙◌, ◌++◌, ap, List, [], map}
use Rattle.turn_book.specs.Entries.{Entry}
use Rattle.turn_book.specs.Joined.{all_lists}
use Rattle.test_diary.specs.Runs.{pass_of}
use Rattle.test_diary.proofs.Lines.{held, one_list_each, one_place_each}
use Rattle.test_diary.proofs.racing.race.Goals as goal

pub close-events-requires-clause-whole : goal.close-events-requires-clause-whole
close-events-requires-clause-whole g c = let j = c.join_all.ensures.joins.spare in let p = one_place_each _ _ c.run_all.ensures.run in search rules

pub returns-clause-holds : goal.returns-clause-holds
returns-clause-holds g c =
    let joins = c.join_all.ensures.joins in
    let none : c.split_all.new.pass.joined ≡ [] = search rules in
    held _ _ c.join_all.new.pass _ _ c.run_all.ensures.run c.run_all.ensures.numbers c.join_all.ensures.told (search rules) (joins.joined ∙ ap (λ (l : List (List Entry)). l ++ all_lists (map pass_of c.run_all.new.works.items)) none ∙ one_list_each _ _ c.run_all.ensures.run) c.close-events.ensures.shared
