use Rattle.std.proofs.Common.{rules, ◌≡◌, ◌+◌, ◌∙◌, ap, subst, sym, replicate, zero, List, ℕ}
use Rattle.rel_model.specs.Equations.{IsSoundTable, memo_slots}
use Rattle.pair_table.proofs.Memoing.{vacant_table}
use Rattle.pair_table.proofs.Wrapping.{fresh_where_opened}
use Rattle.pair_table.proofs.table.PairTable.make.Goals as goal

pub open_words-requires-clause-sound : goal.open_words-requires-clause-sound
open_words-requires-clause-sound c =
    let e : c.in-Ok.words.items ≡ replicate (c.size_of_bits.result + memo_slots) zero = search rules in
    subst (λ (ws : List ℕ). IsSoundTable c.args.bits ws) (sym (e ∙ ap (λ (n : ℕ). replicate (n + memo_slots) zero) c.size_of_bits.ensures.size)) (vacant_table c.args.bits)

pub returns : goal.returns
returns c =
    let e : c.in-Ok.words.items ≡ replicate (c.size_of_bits.result + memo_slots) zero = search rules in
    fresh_where_opened c.args.bits c.args.seats c.in-Ok.words.items c.open_words.result (e ∙ ap (λ (n : ℕ). replicate (n + memo_slots) zero) c.size_of_bits.ensures.size) c.open_words.ensures
