-- a hall with its callers' book and ledger may go from thread to thread, so threads may share its lock
use denote.RattleType.{RattleType}
use denote.Param.Send.{IsSend, IsSync, sendable, recorded_send, recorded_sync, struct_send, struct_sync}
use denote.Struct.Declared.{shape}
use Rattle.std.proofs.alloc.Global.TheSendSync as heap
use Rattle.std.proofs.Crossing.{frees}
use Rattle.std.specs.contracts.alloc.Global.{the_row as heap_row}
use Rattle.std.specs.contracts.impls.GlobalAllocator.TheImpl.{ghosts as heap_ghosts}
use Rattle.std.proofs.vec.Vec.TheSendSync as vec_sent
use Rattle.std.proofs.sync.ledger.Book.TheSendSync as count_sent
use Rattle.service_lock.proofs.book.Book.TheSendSync as book_sent
use Rattle.service_lock.proofs.book.Front.TheSendSync as front_sent
use Rattle.model_asked.specs.contracts.exchange.Exchange as exchange
use Rattle.std.proofs.sync.ledger.Share.TheSendSync as share_sent
use Rattle.service_lock.specs.contracts.parts.Locked as locked
use Rattle.service_hall.proofs.hall.Hall.TheSendSync as hall_sent
use Rattle.std.proofs.sync.Mutex.TheSendSync as mutex_sent
use Rattle.service_lock.specs.contracts.lock.HallLock as lock

pub locked_send : (L : RattleType) (g n l : _) → IsSend (locked.the_row L g n l)
locked_send L g n l =
    recorded_send (locked.the_field L g n l).row _ _ (locked.the_type L g n l).to_one
    (struct_send (shape (locked.the_type L g n l)) (hall_sent.the_send, (vec_sent.the_send denote.Builtin.bool heap_row heap_ghosts (search sendable) heap.the_send frees, (count_sent.the_send L l, (share_sent.the_send L l, (search sendable, (book_sent.the_field_send L exchange.the_row n, (front_sent.the_send L exchange.the_row n, tt))))))))

pub lock_sync : (L : RattleType) (g n l : _) → IsSync (lock.the_row L g n l)
lock_sync L g n l = recorded_sync (lock.the_field L g n l).row _ _ (lock.the_type L g n l).to_one (struct_sync (shape (lock.the_type L g n l)) (mutex_sent.the_sync _ (locked_send L g n l), tt))
