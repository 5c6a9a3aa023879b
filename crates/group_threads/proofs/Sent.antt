-- A group that runs may be shared by threads.
use denote.Param.Send.{IsSend, IsSync, sendable, struct_send, struct_sync, recorded_send, recorded_sync, view_send, view_sync}
use denote.Struct.Declared.{shape}
use Rattle.std.proofs.sync.Mutex.TheSendSync as mutex_sent
use Rattle.std.proofs.alloc.Global.TheSendSync as global_sent
use Rattle.std.below.std_heap.proofs.GlobalAllocator.TheSendSync as frees
use Rattle.std.specs.contracts.alloc.Global as global
use Rattle.std.specs.contracts.impls.GlobalAllocator.TheImpl.{ghosts}
use Prim.Native.Nat.{ℕ}
use mathlib.Core.List.{List, [], ◌∷◌}
use denote.Param.{copied}
use denote.Struct.Field
use denote.Struct.Tuple.{TupleAt, type_at, field_at}
use Rattle.lossy_net.specs.contracts.fates.Fates as fates
use Rattle.group_threads.specs.contracts.bell.Bell as bell
use Rattle.std.specs.contracts.sync.Arc as arc
use Rattle.std.proofs.sync.Arc.TheSendSync as arc_sent
use denote.RattleType.{RattleType}
use Rattle.std.proofs.MapsCrossing.{crosses as maps}
use Rattle.std.proofs.Crossing.{crosses}
use Rattle.event_book.specs.declared.book.BookId as book_id
use Rattle.lossy_net.proofs.net.Net.TheSendSync as net_sent
use Rattle.lossy_net.proofs.fates.Fates.TheSendSync as fates_sent
use Rattle.cells.proofs.envelope.Envelope.TheSendSync as envelope_sent
use Rattle.cells.specs.contracts.envelope.Envelope as envelope
use Rattle.group_threads.specs.contracts.running.RunningGroup as running
use Rattle.group_threads.specs.contracts.running.RunningGroup.TheInside as running_inside
use Rattle.group_threads.specs.contracts.running.AtServer as at_server
use Rattle.workers.specs.contracts.server_workers.ServerWorkers as workers
use Rattle.cells.proofs.Sent.{Cells-send, Cells-sync}

Bell-send : IsSend (bell.the_field).row
Bell-send = search (crosses, sendable) depth 60 fits 200000

Bell-sync : IsSync (bell.the_field).row
Bell-sync = search (crosses, sendable) depth 60 fits 200000

Workers-send : IsSend workers.the_row
Workers-send = search (maps, crosses, sendable) depth 60 fits 200000

AtServer-send : IsSend (at_server.the_field).row
AtServer-send = struct_send (shape at_server.the_type) (
  mutex_sent.the_send workers.the_row Workers-send,
  (Bell-send, (Bell-send, tt)),
)

AtServer-sync : IsSync (at_server.the_field).row
AtServer-sync = struct_sync (shape at_server.the_type) (
  mutex_sent.the_sync workers.the_row Workers-send,
  (Bell-sync, (Bell-sync, tt)),
)

Group-send : (B G : RattleType) (g : book_id.Ghosts B.Denot) → IsSend B → IsSend G → IsSend (running.the_row B G g)
Group-send B G g b s = view_send (running_inside.the_row B G g) _ _ _ _ (recorded_send (running_inside.the_field B G g).row _ _ (running_inside.the_type B G g).to_one (struct_send (shape (running_inside.the_type B G g)) (
  Cells-send B g b,
  (
    net_sent.the_send (envelope.the_row B g) (envelope_sent.the_send B g),
    (
      mutex_sent.the_send fates.the_row fates_sent.the_send,
      (
        search sendable,
        (
          search sendable,
          (
            search (crosses, sendable),
            (
              Bell-send,
              (
                search (crosses, sendable),
                (
                  search (AtServer-send, sendable) depth 30,
                  (
                    search (Bell-send, crosses, sendable) depth 30,
                    (
                      s,
                      (search (crosses, sendable), tt),
                    ),
                  ),
                ),
              ),
            ),
          ),
        ),
      ),
    ),
  ),
)))

Group-sync : (B G : RattleType) (g : book_id.Ghosts B.Denot) → IsSend B → IsSync G → IsSync (running.the_row B G g)
Group-sync B G g b s = view_sync (running_inside.the_row B G g) _ _ _ _ (recorded_sync (running_inside.the_field B G g).row _ _ (running_inside.the_type B G g).to_one (struct_sync (shape (running_inside.the_type B G g)) (
  Cells-sync B g b,
  (
    net_sent.the_sync (envelope.the_row B g) (envelope_sent.the_send B g),
    (
      mutex_sent.the_sync fates.the_row fates_sent.the_send,
      (
        search sendable,
        (
          search sendable,
          (
            search (crosses, sendable),
            (
              Bell-sync,
              (
                search (crosses, sendable),
                (
                  search (AtServer-sync, sendable) depth 30,
                  (
                    search (Bell-sync, crosses, sendable) depth 30,
                    (
                      s,
                      (search (crosses, sendable), tt),
                    ),
                  ),
                ),
              ),
            ),
          ),
        ),
      ),
    ),
  ),
)))

pub Shared-send : (B G : RattleType) (g : book_id.Ghosts B.Denot) → IsSend B → IsSend G → IsSync G → IsSend (arc.the_row (running.the_row B G g) global.the_row ghosts)
Shared-send B G g b s y = arc_sent.the_send (running.the_row B G g) global.the_row ghosts (Group-send B G g b s) global_sent.the_send (Group-sync B G g b y) global_sent.the_sync frees.the_frees

-- a closure that holds these
pub closure_send : (ν : List ℕ) (A R : RattleType) → IsSend A → IsSend (copied 2 R) → IsSend (TupleAt ν (A ∷ copied 2 R ∷ (Field.u64-field).row ∷ (Field.u8-field).row ∷ []))
closure_send ν A R a r = let Ts = A ∷ copied 2 R ∷ (Field.u64-field).row ∷ (Field.u8-field).row ∷ [] in
    recorded_send (field_at ν Ts).row _ _ (type_at ν Ts).to_one (struct_send (shape (type_at ν Ts)) (a, (r, (search sendable, (search sendable, tt)))))
