-- The tests of a name, one by one.
use Rattle.std.proofs.Common.{◌≡◌, ◌≤◌, ◌+◌, ◌-◌, ℕ, length, take, drop, sym, ap, ◌∙◌, inl, inr, arith}
use Rattle.run_model.specs.SharedFiles.{name_length, entry_in, entry_length, is_word, is_behind}
use Rattle.k2_parts.specs.Roots.{last_name}
use Rattle.k2_parts.proofs.Naming.{none_there, some_there, name-none, name-empty, name-over, name-short, name-other, name-before, name-good}
use Rattle.k2_parts.proofs.roots.read_name.Goals as goal
use Rattle.k2_parts.proofs.roots.read_name.Goals.{then-not-is_word-via-then-not-is_word, then-not-is_word-via-else-not-is_word+then-not-is_behind}

pub returns-then-is_empty-clause-fault : goal.returns-then-is_empty-clause-fault
returns-then-is_empty-clause-fault c =
    sym (name-none (length c.args.roots.now) (last_name c.args.roots.now) c.args.bytes.now (none_there _ _ c.is_empty.ensures c.if-is_empty.true))

pub returns-then-length-eq0-clause-fault : goal.returns-then-length-eq0-clause-fault
returns-then-length-eq0-clause-fault c =
    let some = some_there (length c.args.bytes.now) _ c.is_empty.ensures c.if-is_empty.false in
    elim c.then-length-eq0.either [
      | inl h ↦ sym (name-empty (length c.args.roots.now) (last_name c.args.roots.now) c.args.bytes.now some (omega (arith, h)))
      | inr h ↦ sym (name-over (length c.args.roots.now) (last_name c.args.roots.now) c.args.bytes.now some h.1)
    ]

pub returns-then-bytes-length-clause-fault : goal.returns-then-bytes-length-clause-fault
returns-then-bytes-length-clause-fault c =
    let bytes = c.args.bytes.now in
    let some = some_there (length bytes) _ c.is_empty.ensures c.if-is_empty.false in
    let low : 1 ≤ name_length bytes = omega (arith, c.if-length-eq0.false) in
    sym (name-short (length c.args.roots.now) (last_name c.args.roots.now) bytes some low c.if-length-gt-NAME_LIMIT.false (omega (arith, c.if-bytes-length.true)))

pub returns-then-not-is_word-clause-fault : goal.returns-then-not-is_word-clause-fault
returns-then-not-is_word-clause-fault c =
    let bytes = c.args.bytes.now in
    let some = some_there (length bytes) _ c.is_empty.ensures c.if-is_empty.false in
    let low : 1 ≤ name_length bytes = omega (arith, c.if-length-eq0.false) in
    let long : entry_length bytes ≤ length bytes = omega (arith, c.if-bytes-length.false) in
    let n : (1 + name_length bytes) - 1 ≡ name_length bytes = omega arith in
    let name : take ((1 + name_length bytes) - 1) (drop 1 bytes) ≡ (entry_in bytes).name = ap (λ (k : ℕ). take k (drop 1 bytes)) n in
    elim c.then-not-is_word.branch [
      | then-not-is_word-via-then-not-is_word w ↦
          sym (name-other (length c.args.roots.now) (last_name c.args.roots.now) bytes some low c.if-length-gt-NAME_LIMIT.false long
          (ap is_word (sym name) ∙ sym w.if-not-is_word.ensures))
      | then-not-is_word-via-else-not-is_word+then-not-is_behind w ↦
          sym (name-before (length c.args.roots.now) (last_name c.args.roots.now) bytes some low c.if-length-gt-NAME_LIMIT.false long
          (ap (is_behind (last_name c.args.roots.now)) (sym name) ∙ sym w.if-not-is_behind.ensures))
    ]

pub returns-clause-fault : goal.returns-clause-fault
returns-clause-fault c =
    let bytes = c.args.bytes.now in
    let some = some_there (length bytes) _ c.is_empty.ensures c.if-is_empty.false in
    let low : 1 ≤ name_length bytes = omega (arith, c.if-length-eq0.false) in
    let long : entry_length bytes ≤ length bytes = omega (arith, c.if-bytes-length.false) in
    let n : (1 + name_length bytes) - 1 ≡ name_length bytes = omega arith in
    let name : take ((1 + name_length bytes) - 1) (drop 1 bytes) ≡ (entry_in bytes).name = ap (λ (k : ℕ). take k (drop 1 bytes)) n in
    sym (name-good (length c.args.roots.now) (last_name c.args.roots.now) bytes some low c.if-length-gt-NAME_LIMIT.false long
    (ap is_word (sym name) ∙ sym c.if-not-is_word.ensures) (ap (is_behind (last_name c.args.roots.now)) (sym name) ∙ sym c.if-not-is_behind.ensures))
