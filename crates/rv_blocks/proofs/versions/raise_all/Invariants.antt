use Rattle.std.proofs.Common.{◌≡◌, ◌≤◌, drop, length, vec_len, vec_capacity}
use Rattle.run_model.specs.Versions.{all_raised}
use Rattle.name_map.specs.Giving.{Led}
use Rattle.rv_blocks.proofs.versions.raise_all.Given as goal

abbrev pub invariant-names : goal.invariant-names
invariant-names l = record {
  value : all_raised l.names l.fn.map ≡ all_raised (drop l.name-index l.names) l.map;
  led : Led l.journal.items l.fn.map l.map;
  len : vec_len l.journal ≡ l.name-index;
  room : length l.names ≤ vec_capacity l.journal;
}
