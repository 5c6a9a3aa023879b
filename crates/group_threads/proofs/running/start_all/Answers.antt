use denote.Exit.{no}
use denote.Param.{layout, param}
use denote.Param.Send.{param_send, arg_send}
use mir.Syntax.{ty_struct, tcons, tnil, ty_ptr, ty_int, w64, w8}
use mathlib.Core.List.{[]}
use Rattle.std.specs.contracts.sync.Arc as arc
use Rattle.std.specs.contracts.alloc.Global as global
use Rattle.std.specs.contracts.impls.GlobalAllocator.TheImpl.{ghosts}
use Rattle.group_threads.specs.contracts.running.RunningGroup as running
use Rattle.group_threads.proofs.Sent.{Shared-send, closure_send}
use Rattle.group_threads.proofs.running.start_all.Lts
use Rattle.group_threads.proofs.running.start_all.Goals as goal

pub spawn-requires-send-F : goal.spawn-requires-send-F
spawn-requires-send-F g c = λ κs h.
    param_send 1 (Lts.arg-11-1 g.row.B g.row.G g.row.R g.B.laws g.G.laws g.R.laws g.R.copy g.B.BookId g.B.BookId-dict g.G.Gate g.G.Gate-dict g.R.Threads g.R.Threads-dict g.R.Wait g.R.Wait-dict g.R.Clone g.R.Clone-dict g.G.Destruct-dict κs)
    (arg_send (ty_struct [] (tcons (ty_struct [] (tcons ty_ptr tnil)) (tcons (layout g.row.R) (tcons (ty_int w64) (tcons (ty_int w8) tnil))))) no
    (Lts.of-14 g.row.B g.row.G g.row.R g.B.laws g.G.laws g.R.laws g.R.copy g.B.BookId g.B.BookId-dict g.G.Gate g.G.Gate-dict g.R.Threads g.R.Threads-dict g.R.Wait g.R.Wait-dict g.R.Clone g.R.Clone-dict g.G.Destruct-dict)
    (closure_send _ (arc.the_row (running.the_row (param 0 g.row.B) (param 1 g.row.G) g.B.BookId) global.the_row ghosts) g.row.R
    (Shared-send (param 0 g.row.B) (param 1 g.row.G) g.B.BookId c.type_bounds.send-B c.type_bounds.send-G c.type_bounds.sync-G)
    (record { owned = c.type_bounds.send-R.owned; leaving = λ k x w. tt })))
