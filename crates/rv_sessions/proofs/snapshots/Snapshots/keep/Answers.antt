use Rattle.std.proofs.Common.{◌∙◌, ap}
use Rattle.run_model.specs.Names.{set}
use Rattle.name_map.proofs.Entries.{insert_entry-set}
use Rattle.rv_sessions.specs.Keeping.{kept_of}
use Rattle.rv_sessions.proofs.Keeping.{kept-set}
use Rattle.rv_sessions.proofs.snapshots.Snapshots.keep.Goals as goal

pub returns-in-Ok-clause-value : goal.returns-in-Ok-clause-value
returns-in-Ok-clause-value c =
    let m = c.self.inside.map.entries in
    let v = c.args.view in
    ap kept_of (c.in-Ok.ensures.entries ∙ insert_entry-set m c.args.name v)
    ∙ kept-set c.args.name v m ∙ ap (set c.args.name v.names.items) c.self.view_is
