use Rattle.std.proofs.Common.{◌≡◌, ◌≤◌, length, vec_len, vec_capacity}
use Rattle.rv_sessions.specs.Running.{RanSoFar}
use Rattle.run_model.specs.Filed.{saved_all}
use Rattle.rv_sessions.specs.Telling.{input_of, texts_of}
use Rattle.rv_sessions.proofs.session.run_items.Given as goal

abbrev pub invariant-items : goal.invariant-items
invariant-items g l = record {
  ran : RanSoFar g.E.Core.least (input_of l.setting.files.now l.setting.turns) l.checked l.number (g.E.Core.worker l.fn.seat.engine) (g.E.Core.worker l.seat.engine) l.fn.seat.pass l.seat.pass
      l.snaps l.lists.outcomes.items (texts_of l.lists.replies.items) (saved_all l.lists.saves.items);
  count : length l.lists.outcomes.items ≡ l.i;
  replies : vec_len l.lists.replies ≡ l.i;
  saves : vec_len l.lists.saves ≤ l.i;
  outcomes : vec_len l.lists.outcomes ≡ l.i;
  replies_room : vec_capacity l.lists.replies ≡ vec_capacity l.fn.lists.replies;
  saves_room : vec_capacity l.lists.saves ≡ vec_capacity l.fn.lists.saves;
  outcomes_room : vec_capacity l.lists.outcomes ≡ vec_capacity l.fn.lists.outcomes;
}
