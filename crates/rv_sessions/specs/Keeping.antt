-- Snapshots as they are kept.
use Rattle.std.specs.Prelude.{map}
use Rattle.run_model.specs.Names.{Names}
use Rattle.rv_workspace.specs.declared.reading.View.{View}
use Rattle.rv_sessions.specs.Standing.{Kept}

-- the relations of each snapshot
unfoldable pub kept_of : Names View → Kept
kept_of = map (λ entry. (entry.0, entry.1.names.items))
