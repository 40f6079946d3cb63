use denote.Param.{param}
use denote.Param.Send.{IsSync, param_sync}
use Rattle.std.proofs.alloc.Global.TheSendSync as heap
use Rattle.std.proofs.Crossing.{frees}
use Rattle.std.specs.contracts.alloc.Global.{the_row as heap_row}
use Rattle.std.specs.contracts.impls.GlobalAllocator.TheImpl.{ghosts as heap_ghosts}
use Rattle.words_machine.specs.contracts.parts.board.Board as board
use Rattle.words_machine.proofs.parts.board.Board.TheSendSync as board_sent
use Rattle.service_lock.proofs.cited.Sent.{lock_sync}
use Rattle.tests_service.proofs.board_tests.all_posted.Lts as lts
use Rattle.tests_service.proofs.board_tests.all_posted.Goals as goal

board_sync : IsSync (board.the_row heap_row heap_ghosts)
board_sync = board_sent.the_sync heap_row heap_ghosts heap.the_send heap.the_sync frees

pub map_vec-requires-sync-F : goal.map_vec-requires-sync-F
map_vec-requires-sync-F g c κs within =
    let shared = lock_sync (param 0 g.row.L) g.L.LockName g.L.Naming g.L.Ledger in
    let closure : IsSync (lts.arg-0-4 g.row.L g.row.R g.L.laws g.R.laws g.L.LockName g.L.LockName-dict g.L.Ledger g.L.Ledger-dict g.L.Naming g.L.Naming-dict g.R.Threads g.R.Threads-dict g.R.Wait g.R.Wait-dict κs) =
    record { shared = λ x b o κ. ((((λ q. tt), c.type_bounds.sync-R.shared x.0.now x.0.ref_ptr.0 x.0.ref_ptr.1 _), (((λ q. tt), shared.shared x.1.now x.1.ref_ptr.0 x.1.ref_ptr.1 _), (((λ q. tt), board_sync.shared x.2.now x.2.ref_ptr.0 x.2.ref_ptr.1 _), tt))), λ q. tt) } in
    param_sync 4 _ closure
