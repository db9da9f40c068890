use Rattle.std.proofs.Common.{◌≡◌, ◌≤◌, take, length, vec_len, vec_capacity}
use Rattle.name_map.specs.Giving.{set_all, Led}
use Rattle.name_map.proofs.giving.put_all.Given as goal

abbrev pub invariant-gifts : goal.invariant-gifts
invariant-gifts g l = record {
  value : l.names ≡ set_all (take l.gift-index l.list) l.fn.names;
  led : Led l.journal.items l.fn.names l.names;
  len : vec_len l.journal ≡ l.gift-index;
  room : length l.list ≤ vec_capacity l.journal;
}
