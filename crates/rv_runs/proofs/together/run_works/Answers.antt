-- Work may go to other threads; and each piece that ran can be joined.
use denote.Exit.{no}
use denote.Param.Send.{param_send, arg_send}
use Rattle.std.proofs.Common.{rules, arith, ◌≡◌, ◌<◌, ◌++◌, ◌∙◌, List, length, take, drop, get_or, ap, sym, subst}
use Rattle.std.proofs.Math.Seq.{take-append_seam}
use Rattle.rv_runs.specs.declared.work.Work.{Work}
use Rattle.rv_runs.specs.Works.{CanJoin}
use Rattle.rv_runs.proofs.Sending.{work_send}
use Rattle.rv_runs.proofs.together.run_works.Goals as goal

pub for_each_mut-requires-send-T : goal.for_each_mut-requires-send-T
for_each_mut-requires-send-T g c κs within =
    param_send 1 _ (arg_send _ no _ (work_send _ g.E.Seated g.E.Quads g.E.Core c.type_bounds.send-E))

pub returns-clause-joins : goal.returns-clause-joins
returns-clause-joins g c k d l =
    let old = c.args.works.now.items in
    let new = c.for_each_mut.new.s in
    let long : length new ≡ length c.as_mut_slice.result.now = c.for_each_mut.auto.s in
    let whole : length new ≡ c.args.works.now.len = long ∙ c.as_mut_slice.ensures.len in
    let items : take c.args.works.now.len (new ++ drop (length new) old) ≡ new =
    ap (λ n. take n (new ++ drop (length new) old)) (sym whole) ∙ take-append_seam new (drop (length new) old) in
    let short : k < length new = subst (λ (xs : List (Work g.row.E.Denot)). k < length xs) items l in
    let one = (c.for_each_mut.ensures k d (omega (arith, short, long))).1 in
    let can : CanJoin g.E.Core.worker c.args.book.now one.after_call.now = search (rules, one.call) in
    subst (λ (xs : List (Work g.row.E.Denot)). CanJoin g.E.Core.worker c.args.book.now (get_or xs k d)) (sym items)
    (subst (λ (w : Work g.row.E.Denot). CanJoin g.E.Core.worker c.args.book.now w) one.left can)
