-- Each piece of work adds its pass and its worker, and what its session told where it told something.
use Rattle.std.proofs.Common.{rules, arith, ◌≡◌, ◌∙◌, append_assoc, append-nil, ap, true, ◌∷◌, ◌++◌, [], List, map, refl, sym, subst, Some}
use Rattle.std.proofs.lemmas.Bool.{true≢false}
use Rattle.std.proofs.lemmas.Grind.{common_steps}
use Rattle.std.specs.Vec.Iter.{into_iter_items}
use Rattle.turn_book.specs.Joined.{JoinsAll}
use Rattle.turn_book.proofs.Joining.{joins_none}
use Rattle.rv_sessions.specs.declared.transcript.Transcript.{Transcript}
use Rattle.rv_runs.specs.declared.work.Work.{Work}
use Rattle.rv_runs.specs.Works.{TakesAll, pass_of, told_of}
use Rattle.rv_runs.proofs.Joining.{next_joins, next_house, length_more, takes_none, takes_more, joins_more, told_more}
use Rattle.rv_runs.proofs.together.join_all.Goals as goal

pub join_pass-requires-clause-of : goal.join_pass-requires-clause-of
join_pass-requires-clause-of g c = let joined = c.works.invariant.6 in joined.book ∙ c.requires.ready.of

pub join_pass-requires-clause-other_of : goal.join_pass-requires-clause-other_of
join_pass-requires-clause-other_of g c =
    let can = next_joins g.E.Core.worker c.args.book.now c.args.works.items c.works.yielded _ _ c.in-Some.work c.requires.joins c.works.invariant.2 c.in-Some.ensures.steps.0 in can.ready.of

pub join_pass-requires-clause-idle : goal.join_pass-requires-clause-idle
join_pass-requires-clause-idle g c = let joined = c.works.invariant.6 in joined.turn ∙ c.requires.ready.idle

pub join_pass-requires-clause-other_idle : goal.join_pass-requires-clause-other_idle
join_pass-requires-clause-other_idle g c =
    let can = next_joins g.E.Core.worker c.args.book.now c.args.works.items c.works.yielded _ _ c.in-Some.work c.requires.joins c.works.invariant.2 c.in-Some.ensures.steps.0 in can.ready.idle

pub join-requires : goal.join-requires
join-requires g c =
    let is = c.works.invariant.2 in
    let taken = c.works.invariant.7 in
    let can = next_joins g.E.Core.worker c.args.book.now c.args.works.items c.works.yielded _ _ c.in-Some.work c.requires.joins is c.in-Some.ensures.steps.0 in
    let house = next_house c.args.pass.now.house c.args.works.items c.works.yielded _ _ c.in-Some.work c.requires.houses is c.in-Some.ensures.steps.0 in
    record { kin = can.kin ∙ (house ∙ (sym c.requires.kin ∙ sym taken.house)) }

pub works-preserved-in-Some-answer : goal.works-preserved-in-Some-answer
works-preserved-in-Some-answer g c =
    let i = c.works.invariant in
    let w = c.in-Some.work in
    let e = c.join_pass.ensures in
    let items : c.args.works.items ≡ c.works.yielded ++ w ∷ into_iter_items c.next.new.self = i.2 ∙ ap (λ (l : List (Work g.row.E.Denot)). c.works.yielded ++ l) c.in-Some.ensures.steps.0 in
    let can = next_joins g.E.Core.worker c.args.book.now c.args.works.items c.works.yielded _ _ w c.requires.joins i.2 c.in-Some.ensures.steps.0 in (
      tt,
      tt,
      items ∙ sym (append_assoc c.works.yielded (w ∷ []) (into_iter_items c.next.new.self)),
      (let long = length_more c.works.yielded w in let few = i.3 in omega arith),
      c.push_reserved.ensures.capacity ∙ i.4,
      λ t. subst (λ (l : List Transcript). map (λ u. Some u) l ≡ map told_of (c.works.yielded ++ w ∷ [])) (sym c.push_reserved.ensures.items)
          (told_more c.works.told.items c.in-Some-answer.transcript c.works.yielded w c.in-Some-answer.is (i.5 t)),
      joins_more c.works.yielded w c.args.pass.now c.works.pass c.join_pass.new.pass i.6 e.joins e.begins e.other_begins,
      takes_more g.E.Core.worker c.works.yielded w (g.E.Core.worker c.args.engine.now) (g.E.Core.worker c.works.engine) (g.E.Core.worker c.join.new.self) i.7 c.join.ensures can.seats,
    )

pub works-preserved : goal.works-preserved
works-preserved g c =
    let i = c.works.invariant in
    let w = c.in-Some.work in
    let e = c.join_pass.ensures in
    let items : c.args.works.items ≡ c.works.yielded ++ w ∷ into_iter_items c.next.new.self = i.2 ∙ ap (λ (l : List (Work g.row.E.Denot)). c.works.yielded ++ l) c.in-Some.ensures.steps.0 in
    let can = next_joins g.E.Core.worker c.args.book.now c.args.works.items c.works.yielded _ _ w c.requires.joins i.2 c.in-Some.ensures.steps.0 in (
      tt,
      tt,
      items ∙ sym (append_assoc c.works.yielded (w ∷ []) (into_iter_items c.next.new.self)),
      (let long = length_more c.works.yielded w in let few = i.3 in omega arith),
      i.4,
      λ t. absurd (true≢false (sym t)),
      joins_more c.works.yielded w c.args.pass.now c.works.pass c.join_pass.new.pass i.6 e.joins e.begins e.other_begins,
      takes_more g.E.Core.worker c.works.yielded w (g.E.Core.worker c.args.engine.now) (g.E.Core.worker c.works.engine) (g.E.Core.worker c.join.new.self) i.7 c.join.ensures can.seats,
    )

pub works-init : goal.works-init
works-init g c = (tt, tt, search rules, search rules, refl, search rules, joins_none c.args.pass.now, takes_none g.E.Core.worker (g.E.Core.worker c.args.engine.now))

pub returns-clause-joins : goal.returns-clause-joins
returns-clause-joins g c =
    let short = c.in-None.ensures.steps.0 in
    let none : into_iter_items c.works.work-iterator ≡ [] = grind (arith, common_steps, short) in
    let items : c.args.works.items ≡ c.works.yielded = c.works.invariant.2 ∙ (ap (λ (l : List (Work g.row.E.Denot)). c.works.yielded ++ l) none ∙ append-nil c.works.yielded) in
    subst (λ (l : List (Work g.row.E.Denot)). JoinsAll (map pass_of l) c.args.pass.now c.works.pass) (sym items) c.works.invariant.6

pub returns-clause-takes : goal.returns-clause-takes
returns-clause-takes g c =
    let short = c.in-None.ensures.steps.0 in
    let none : into_iter_items c.works.work-iterator ≡ [] = grind (arith, common_steps, short) in
    let items : c.args.works.items ≡ c.works.yielded = c.works.invariant.2 ∙ (ap (λ (l : List (Work g.row.E.Denot)). c.works.yielded ++ l) none ∙ append-nil c.works.yielded) in
    subst (λ (l : List (Work g.row.E.Denot)). TakesAll g.E.Core.worker l (g.E.Core.worker c.args.engine.now) (g.E.Core.worker c.works.engine)) (sym items) c.works.invariant.7

pub returns-clause-told : goal.returns-clause-told
returns-clause-told g c =
    let short = c.in-None.ensures.steps.0 in
    let none : into_iter_items c.works.work-iterator ≡ [] = grind (arith, common_steps, short) in
    let items : c.args.works.items ≡ c.works.yielded = c.works.invariant.2 ∙ (ap (λ (l : List (Work g.row.E.Denot)). c.works.yielded ++ l) none ∙ append-nil c.works.yielded) in
    subst (λ (l : List (Work g.row.E.Denot)). c.works.whole ≡ true → map (λ t. Some t) c.works.told.items ≡ map told_of l) (sym items) c.works.invariant.5
