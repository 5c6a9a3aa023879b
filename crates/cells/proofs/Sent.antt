-- The actors of a group, and their cells, may be sent to other threads.
use denote.Param.Send.{IsSend, IsSync, sendable, struct_send, struct_sync, recorded_send, recorded_sync, view_send, view_sync}
use denote.Struct.Declared.{shape}
use Rattle.std.proofs.sync.Mutex.TheSendSync as mutex_sent
use Rattle.std.proofs.vec.Vec.TheSendSync as vec_sent
use Rattle.std.proofs.alloc.Global.TheSendSync as global_sent
use Rattle.std.below.std_heap.proofs.GlobalAllocator.TheSendSync as frees
use Rattle.std.specs.contracts.vec.Vec as vec
use Rattle.std.specs.contracts.sync.Mutex as mutex
use Rattle.std.specs.contracts.alloc.Global as global
use Rattle.std.specs.contracts.impls.GlobalAllocator.TheImpl.{ghosts}
use denote.RattleType.{RattleType}
use Rattle.std.proofs.MapsCrossing.{crosses as maps}
use Rattle.std.proofs.Crossing.{crosses}
use Rattle.eval_broker.proofs.tree.Tree.TheLaws.TheKnot.{crosses as trees}
use Rattle.machine_model.specs.declared.machine.Machine as machine
use Rattle.rows.proofs.command.Command.TheSendSync as command_sent
use Rattle.fsm_state.specs.contracts.cluster.Cluster as cluster
use Rattle.fsm_state.proofs.cluster.Cluster.TheSendSync as cluster_sent
use Rattle.raft_core.specs.contracts.raft.Raft as raft
use Rattle.leader.specs.contracts.desk.Desk as desk
use Rattle.eval_broker.specs.contracts.broker.Broker as broker
use Rattle.client_agent.specs.contracts.agent.Agent as agent
use Rattle.server.specs.contracts.server_desk.ServerDesk as server_desk
use Rattle.server.specs.contracts.server.Server as server
use Rattle.event_book.specs.declared.book.BookId as book_id
use Rattle.event_book.proofs.seat.ActorSeat.TheSendSync as seat_sent
use Rattle.event_book.proofs.book.Book.TheSendSync as book_sent
use Rattle.cells.specs.contracts.cells.Cells as cells
use Rattle.cells.specs.contracts.cells.Cells.TheInside as cells_inside
use Rattle.cells.specs.contracts.own_input.OwnInput as own_input
use Rattle.cells.specs.contracts.cell.StampedEvent as stamped
use Rattle.cells.specs.contracts.cell.Cell as cell
use Rattle.cells.specs.contracts.cell.Cell.TheInside as inside

Broker-send : IsSend broker.the_row
Broker-send = search (maps, crosses, trees, sendable) depth 60 fits 20000

Desk-send : IsSend desk.the_row
Desk-send = search (Broker-send, maps, crosses, sendable) depth 60 fits 20000

ServerDesk-send : IsSend server_desk.the_row
ServerDesk-send = search (Desk-send, maps, crosses, sendable) depth 60 fits 20000

Raft-send : (T : RattleType) (g : machine.Ghosts (cluster.the_row).Denot T.Denot) → IsSend T → IsSend (raft.the_row cluster.the_row T g)
Raft-send T g t = search (cluster_sent.the_send, maps, crosses, sendable) depth 60 fits 200000

pub Server-send : IsSend server.the_row
Server-send = search (ServerDesk-send, Raft-send, command_sent.the_send, crosses, sendable) depth 60 fits 20000

pub Agent-send : IsSend agent.the_row
Agent-send = search (maps, sendable, crosses) depth 60 fits 200000

pub Own-send : IsSend own_input.the_row
Own-send = search (crosses, sendable) depth 60 fits 20000

pub Stamped-send : IsSend stamped.the_row
Stamped-send = search (Own-send, crosses, sendable) depth 60 fits 20000

pub Cell-send : (B : RattleType) (g : book_id.Ghosts B.Denot) → IsSend B → IsSend (cell.the_row B g)
Cell-send B g b = view_send (inside.the_row B g) _ _ _ _ (recorded_send (inside.the_field B g).row _ _ (inside.the_type B g).to_one (struct_send (shape (inside.the_type B g)) (
  search (crosses, sendable) depth 60 fits 200000,
  (
    search (Server-send, Agent-send, sendable) depth 60 fits 200000,
    (
      search (Stamped-send, crosses) depth 60 fits 200000,
      (seat_sent.the_send own_input.the_row B g, tt),
    ),
  ),
)))

Lock-send : (B : RattleType) (g : book_id.Ghosts B.Denot) → IsSend B → IsSend (mutex.the_row (cell.the_row B g))
Lock-send B g b = mutex_sent.the_send (cell.the_row B g) (Cell-send B g b)

Lock-sync : (B : RattleType) (g : book_id.Ghosts B.Denot) → IsSend B → IsSync (mutex.the_row (cell.the_row B g))
Lock-sync B g b = mutex_sent.the_sync (cell.the_row B g) (Cell-send B g b)

Locks-send : (B : RattleType) (g : book_id.Ghosts B.Denot) → IsSend B → IsSend (vec.the_row (mutex.the_row (cell.the_row B g)) global.the_row ghosts)
Locks-send B g b = vec_sent.the_send (mutex.the_row (cell.the_row B g)) global.the_row ghosts (Lock-send B g b) global_sent.the_send frees.the_frees

Locks-sync : (B : RattleType) (g : book_id.Ghosts B.Denot) → IsSend B → IsSync (vec.the_row (mutex.the_row (cell.the_row B g)) global.the_row ghosts)
Locks-sync B g b = vec_sent.the_sync (mutex.the_row (cell.the_row B g)) global.the_row ghosts (Lock-sync B g b) global_sent.the_sync

pub Cells-send : (B : RattleType) (g : book_id.Ghosts B.Denot) → IsSend B → IsSend (cells.the_row B g)
Cells-send B g b = view_send (cells_inside.the_row B g) _ _ _ _ (recorded_send (cells_inside.the_field B g).row _ _ (cells_inside.the_type B g).to_one (struct_send (shape (cells_inside.the_type B g)) (
  search (crosses, sendable),
  (
    search sendable,
    (
      search sendable,
      (
        book_sent.the_field_send own_input.the_row B g,
        (
          search (crosses, sendable) depth 30,
          (
            search (crosses, sendable) depth 30,
            (Locks-send B g b, tt),
          ),
        ),
      ),
    ),
  ),
)))

pub Cells-sync : (B : RattleType) (g : book_id.Ghosts B.Denot) → IsSend B → IsSync (cells.the_row B g)
Cells-sync B g b = view_sync (cells_inside.the_row B g) _ _ _ _ (recorded_sync (cells_inside.the_field B g).row _ _ (cells_inside.the_type B g).to_one (struct_sync (shape (cells_inside.the_type B g)) (
  search (crosses, sendable),
  (
    search sendable,
    (
      search sendable,
      (
        book_sent.the_field_sync own_input.the_row B g,
        (
          search (crosses, sendable) depth 30,
          (
            search (crosses, sendable) depth 30,
            (Locks-sync B g b, tt),
          ),
        ),
      ),
    ),
  ),
)))
