use Rattle.std.proofs.Common.{◌≡◌, [], drop}
use Rattle.rv_blocks.specs.Reads.{read_on}
use Rattle.rv_blocks.proofs.reads.reads_of.Given as goal

abbrev pub invariant-lets : goal.invariant-lets
invariant-lets l = read_on l.lets [] [] ≡ read_on (drop l.one-index l.lets) l.given l.found
