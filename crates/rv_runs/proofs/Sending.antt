-- A piece of work may go to another thread where its engine may.
-- 1. What a book remembers for clauses alone owns nothing, so it may go anywhere.
-- 2. Each other field of a book may go where it is plain, or where the engine may.
-- 3. So may a pass of such a book, the seat that holds it, and the work that holds this.
use denote.RattleType.{RattleType}
use denote.Struct.Declared.{shape}
use denote.Param.Send.{IsSend, sendable, struct_send, recorded_send, view_send}
use Rattle.std.specs.contracts.snapshot.Snapshot as snapshot
use Rattle.std.proofs.Crossing.{Vec-send}
use Rattle.rel_model.specs.contracts.Rel as rel
use Rattle.rel_model.specs.declared.seated_trait.Seated as Seated
use Rattle.rel_model.specs.declared.quads_trait.Quads as Quads
use Rattle.rel_model.specs.declared.core_trait.Core as Core
use Rattle.run_model.proofs.event.Event.TheSendSync as event
use Rattle.name_map.specs.contracts.map.NameMap as map
use Rattle.name_map.proofs.map.NameMap.TheSendSync as map_crosses
use Rattle.rv_blocks.specs.contracts.versions.Versions as versions
use Rattle.rv_blocks.proofs.versions.Versions.TheSendSync as versions_cross
use Rattle.turn_book.proofs.pass.Pass.TheSendSync as pass
use Rattle.rv_workspace.specs.contracts.book.Book as book
use Rattle.rv_workspace.specs.contracts.book.Book.TheInside as inside
use Rattle.rv_sessions.proofs.transcript.Transcript.TheSendSync as transcript
use Rattle.rv_runs.specs.contracts.work.Work as work

remembered : (T : RattleType) → IsSend (snapshot.the_row T)
remembered T = record {
  owned = λ d vs. ((λ vss. (tt, ((λ uss. (tt, tt)), tt))), tt);
  leaving = λ k f vs. tt;
}

book_send : (T : RattleType) (core : Core.Ghosts T.Denot) → IsSend T → IsSend (book.the_row T core)
book_send T core s =
    let names = map_crosses.the_send rel.the_row (search sendable depth 20) in
    let history = Vec-send _ event.the_send in
    let first_names = remembered (map.the_row rel.the_row) in
    let first_versions = remembered versions.the_row in
    view_send _ _ _ _ _ (recorded_send _ _ _ (inside.the_type T core).to_one
    (struct_send (shape (inside.the_type T core)) (s, (names, (versions_cross.the_send, (history, (first_names, (first_versions, tt))))))))

pub work_send : (T : RattleType) (seated : Seated.Ghosts T.Denot) (quads : Quads.Ghosts T.Denot) (core : Core.Ghosts T.Denot) → IsSend T
    → IsSend (work.the_row T seated quads core)
work_send T seated quads core s =
    let one = book_send T core s in search (sendable, pass.the_send, transcript.the_send) depth 40
