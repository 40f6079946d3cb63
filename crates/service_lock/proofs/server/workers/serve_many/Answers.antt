use denote.Param.{param}
use denote.Param.Send.{IsSync, param_sync}
use Rattle.std.proofs.alloc.Global.TheSendSync as heap
use Rattle.std.proofs.net.tcp.TcpListener.TheSendSync as listener
use Rattle.std.proofs.sync.Mutex.TheSendSync as mutex
use Rattle.service_lock.proofs.cited.Sent.{lock_sync}
use Rattle.service_lock.proofs.server_lemmas.GoingOn.{all_go_on}
use Rattle.service_lock.proofs.server.connections.Connections.TheSendSync as connections
use Rattle.service_lock.proofs.server.workers.serve_many.Lts as lts
use Rattle.service_lock.proofs.server.workers.serve_many.Goals as goal

pub map_vec-back-requires-sync-F : goal.map_vec-back-requires-sync-F
map_vec-back-requires-sync-F g c κs within =
    let lock = lock_sync (param 0 g.row.L) g.L.LockName g.L.Naming g.L.Ledger in
    let closure : IsSync (lts.arg-2-4 g.row.L g.row.R g.row.G g.L.laws g.R.laws g.G.laws g.L.LockName g.L.LockName-dict g.L.Ledger g.L.Ledger-dict g.L.Naming g.L.Naming-dict g.R.Threads g.R.Threads-dict g.R.Wait g.R.Wait-dict g.G.Gate g.G.Gate-dict κs) =
    record {
      shared = λ x b o κ. (
        (
          ((λ q. tt), c.type_bounds.sync-R.shared x.0.now x.0.ref_ptr.0 x.0.ref_ptr.1 _),
          (
            ((λ q. tt), heap.the_sync.shared x.1.now x.1.ref_ptr.0 x.1.ref_ptr.1 κ),
            (
              ((λ q. tt), listener.the_sync.shared x.2.now x.2.ref_ptr.0 x.2.ref_ptr.1 κ),
              (
                ((λ q. tt), lock.shared x.3.now x.3.ref_ptr.0 x.3.ref_ptr.1 _),
                (
                  ((λ q. tt), c.type_bounds.sync-G.shared x.4.now x.4.ref_ptr.0 x.4.ref_ptr.1 _),
                  (
                    ((λ q. tt), (mutex.the_sync _ connections.the_send).shared x.5.now x.5.ref_ptr.0 x.5.ref_ptr.1 _),
                    tt,
                  ),
                ),
              ),
            ),
          ),
        ),
        λ q. tt,
      );
    } in
    param_sync 4 _ closure

-- each clerk that comes back is what its worker made of it
pub returns-in-Ok-clause-kept : goal.returns-in-Ok-clause-kept
returns-in-Ok-clause-kept g c unlost =
    all_go_on _ c.args.clerks.items c.in-Ok.clerks.items (λ i d lt. let one = (c.in-Ok.ensures.each i d lt).1 in (one.job, one.job_is, one.call.met))
