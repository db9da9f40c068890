use Rattle.std.proofs.Common.{rules, ◌<◌, ◌-◌, ◌^◌, ◌∙◌, ap, length, ℕ, []}
use Rattle.pair_table.specs.declared.rule.Start.{Start}
use Rattle.pair_table.proofs.Memoing.{opening_all}
use Rattle.pair_table.proofs.Wrapping.{table_from, opened_from}
use Rattle.pair_table.proofs.table.PairTable.open_words.Goals as goal

pub of_words-requires : goal.of_words-requires
of_words-requires c =
    let start : Start = record { bits = c.args.bits; seats = c.args.seats; words = c.args.words } in
    let f : c.args.seats < 2 ^ 32 = search rules in
    opening_all start c.deref.result.now [] f c.requires.some c.requires.sound c.deref.ensures.value

pub invariant_of-result : goal.invariant_of-result
invariant_of-result c =
    let t = c.in-Ok.ensures in
    table_from _ _ c.args.bits c.args.seats _ c.requires.low c.requires.high (ap (λ (n : ℕ). n - 2) c.size_of_bits-count.ensures.size) (t.0 ∙ ap length c.deref.ensures.value ∙ c.requires.sound.size) t.1
    (ap (λ (k : Start). k.bits) t.5) (ap (λ (k : Start). k.seats) t.5)

pub returns : goal.returns
returns c =
    let t = c.in-Ok.ensures in
    let start : Start = record { bits = c.args.bits; seats = c.args.seats; words = c.args.words } in
    opened_from c.in-Ok.table.shared.table_id c.in-Ok.inner.table_id c.in-Ok.inner.me start c.requires.low c.requires.high c.requires.some c.requires.sound t.2 t.4
