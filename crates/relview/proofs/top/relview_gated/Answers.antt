use Rattle.rv_words.specs.Shown.{texts}
use Rattle.relview.proofs.Naming.{may_pick_files}
use Rattle.relview.proofs.top.relview_gated.Goals as goal

pub run_options-requires-clause-taken : goal.run_options-requires-clause-taken
run_options-requires-clause-taken g c κs within = (texts c.args.words.now, c.in-Ok.ensures.taken)

pub run_options-requires-clause-may_pick : goal.run_options-requires-clause-may_pick
run_options-requires-clause-may_pick g c κs within =
    may_pick_files ((g.S.Shelf.told c.args.shelf.now).may_pick) (texts c.args.words.now) c.in-Ok.options c.in-Ok.ensures.taken c.requires.may_pick
