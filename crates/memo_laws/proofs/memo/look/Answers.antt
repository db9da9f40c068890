use Rattle.std.proofs.Common.{subst, ℕ, arith}
use Rattle.rel_model.specs.Views.{Loads}
use Rattle.memo_laws.specs.Looking.{operator_of}
use Rattle.memo_laws.proofs.Looking.{asked_has_room, looked_up}
use Rattle.memo_laws.proofs.memo.look.Goals as goal

pub word_of-asked-requires : goal.word_of-asked-requires
word_of-asked-requires c =
    let h = asked_has_room _ _ (operator_of c.args.op) c.args.height c.args.a c.args.b 0 c.requires.of c.requires.high c.requires.a_stands c.requires.b_stands (omega arith) in
    record { a_fits = h.a_fits; b_fits = h.b_fits; r_fits = h.r_fits; height_fits = h.height_fits }

pub returns-clause-looks : goal.returns-clause-looks
returns-clause-looks c =
    let h = asked_has_room _ _ (operator_of c.args.op) c.args.height c.args.a c.args.b 0 c.requires.of c.requires.high c.requires.a_stands c.requires.b_stands (omega arith) in
    looked_up _ _ _ (operator_of c.args.op) c.args.height c.args.a c.args.b c.memo_load-word.result c.word_of-asked.result c.result_in.result c.memo_load-word.ensures.of h
    (subst (λ (slot : ℕ). Loads slot c.memo_load-word.result c.args.seat.now c.memo_load-word.new.seat) c.slot_of.ensures.home c.memo_load-word.ensures.loads) c.word_of-asked.ensures c.result_in.ensures.found c.result_in.ensures.none
