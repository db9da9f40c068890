use Rattle.std.proofs.Common.{◌≡◌, drop}
use Rattle.rv_blocks.specs.Reads.{put_new}
use Rattle.rv_blocks.proofs.reads.note_new.Given as goal

abbrev pub invariant-names : goal.invariant-names
invariant-names l = put_new l.fn.given l.names l.fn.found ≡ put_new l.given (drop l.name-index l.names) l.found
