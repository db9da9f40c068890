-- The blocks of a run are atomic: its history is lawful, and the words of each batch hold what its sessions assigned.
use Rattle.std.proofs.Common.{◌-◌, refl}
use Rattle.run_model.specs.Inputs.{batch_of}
use Rattle.relview.specs.Top.{outcomes_of}
use Rattle.relview.specs.Tables.{nodes_of_batch}
use Rattle.relview.specs.Blocks.{BlocksAreAtomic}
use Rattle.relview.proofs.Tabled.{stored_all}
use Rattle.relview.proofs.Blocks.{is_atomic}
use Rattle.relview.proofs.BlockGrammar.{block_has}

pub blocks_are_atomic : BlocksAreAtomic
blocks_are_atomic words a b o n report ran s c script lets outcome is =
    let input = ran.input in
    let history = report.history.items in
    let outcomes = outcomes_of report in
    let nodes = nodes_of_batch ran.said.nodes report in
    let stored = stored_all ran.said.nodes input history outcomes nodes 0 report.old.items report.words.items (λ k. refl) ran.holds in
    is_atomic input history outcomes (λ t. nodes (batch_of input.ends t)) ran.legal stored s c script lets outcome is
    (block_has ran.given.scripts input.readings (s - 1) c script is.item lets ran.given.read is.is_script is.is_item is.is_block)
