use Rattle.std.proofs.Common.{rules, ◌≡◌, ◌∙◌, ℕ, List, length, ◌++◌, replicate, subst, arith, length-append}
use Rattle.rv_compact.specs.Compacted.{node_count}
use Rattle.rv_compact.specs.Copies.{AreNamed}
use Rattle.rv_compact.proofs.Assembling.{table_size, compacted_from, tail_from, front_vacant, take-front, uses_fit, uses_pass, moved_stand}
use Rattle.rv_compact.proofs.compacting.compact.Goals as goal

pub overflow_sub-size-2 : goal.overflow_sub-size-2
overflow_sub-size-2 c = let l = (table_size c.args.words.now c.requires.table).large in omega arith

pub returns-then-len-size-clause-full : goal.returns-then-len-size-clause-full
returns-then-len-size-clause-full c =
    let a = c.len.ensures.len in
    let b = c.len-then-len-size.ensures.len in
    let l = c.if-len-size.true in
    uses_pass c.args.words.now c.args.rels.now c.in-Ok.uses.keys c.len-then-len-size.result c.requires.table c.in-Ok.ensures c.len.ensures.unique b (omega arith)

pub copy_uses-requires-clause-vacant : goal.copy_uses-requires-clause-vacant
copy_uses-requires-clause-vacant c =
    let e : c.in-Ok-vec.new.items ≡ replicate (length c.args.words.now) 0 = search rules in
    front_vacant c.args.words.now c.deref_mut.result.now c.split_at_mut-fresh.result.0.now _ c.requires.table (c.deref_mut.ensures.value ∙ e) c.split_at_mut-fresh.ensures.front c.bits_of.ensures.power

pub copy_uses-requires-clause-few : goal.copy_uses-requires-clause-few
copy_uses-requires-clause-few c =
    let l = (table_size c.args.words.now c.requires.table).large in
    let a = c.len.ensures.len in
    let b = c.if-len-size.false in
    let p = c.bits_of.ensures.power in
    omega arith

pub returns-clause-fits : goal.returns-clause-fits
returns-clause-fits c =
    uses_fit c.args.words.now c.args.rels.now c.in-Ok.uses.keys c.len.result c.requires.table c.in-Ok.ensures c.len.ensures.unique c.len.ensures.len c.if-len-size.false

pub returns-clause-compacted : goal.returns-clause-compacted
returns-clause-compacted c =
    let e : c.in-Ok-vec.new.items ≡ replicate (length c.args.words.now) 0 = search rules in
    let fresh : List ℕ = c.copy_uses.new.nodes in
    let rest : List ℕ = c.split_at_mut-fresh.result.1.now in
    let size : length fresh ≡ node_count c.args.words.now = c.copy_uses.auto.nodes ∙ c.split_at_mut-fresh.ensures.front_len in
    let back = c.split_at_mut-fresh.ensures.back_len in
    let all = c.deref_mut.ensures.len in
    let len : c.in-Ok-vec.new.len ≡ length (fresh ++ rest) = (let s = length-append fresh rest in omega arith) in
    compacted_from c.args.words.now c.args.rels.now _ c.in-Ok-move_rels.moved.items c.in-Ok.uses.keys c.in-Ok-copy_uses.names.items fresh rest c.requires.table c.requires.stand c.in-Ok.ensures
    c.len.ensures.unique c.in-Ok-copy_uses.ensures.copies c.in-Ok-copy_uses.ensures.all size
    (tail_from c.args.words.now c.deref_mut.result.now rest c.requires.table (c.deref_mut.ensures.value ∙ e) c.split_at_mut-fresh.ensures.back back)
    (take-front (fresh ++ rest) _ _ len) c.in-Ok-move_rels.ensures.as_many
    (subst (λ (ns : List ℕ). AreNamed c.in-Ok.uses.keys ns c.args.rels.now c.in-Ok-move_rels.moved.items (length c.args.rels.now)) c.deref.ensures.value c.in-Ok-move_rels.ensures.moved)

pub returns-clause-stand : goal.returns-clause-stand
returns-clause-stand c = moved_stand c.args.words.now c.args.rels.now _ c.in-Ok-move_rels.moved.items c.requires.stand (returns-clause-compacted c)
