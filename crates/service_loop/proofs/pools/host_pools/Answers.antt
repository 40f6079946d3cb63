use Rattle.service_loop.specs.Pools.{PoolsWereAttended}
use Rattle.service_loop.proofs.PoolLemmas.{pools_attended_before, pools_attended_none, pools_attended_then, pools_same_attended}
use Rattle.service_loop.proofs.RoundLemmas.{always, iterates_within}
use contract.BorrowLft.{⊑_static}
use Rattle.service_loop.proofs.pools.host_pools.Goals.{in-None, in-Some+in_ok-go_on+in_ok-serve_all+then-are_over}
use Rattle.service_loop.proofs.pools.host_pools.Goals as goal

pub into_iter-iterator-requires : goal.into_iter-iterator-requires
into_iter-iterator-requires g c κs = λ within. ((within, (within, tt)), (iterates_within κs.0 g.row.R.lives within, ⊑_static κs.1.0))

pub loop-init : goal.loop-init
loop-init g c = record {
  room = c.in_ok-shared.ensures;
  attended = pools_attended_none g.D.Service.may g.K.Persist.prefetches g.K.Persist.persists g.K.Persist.waits g.K.Persist.shares g.K.Persist.holds c.args.pools.now;
}

pub loop-preserved : goal.loop-preserved
loop-preserved g c =
    let may = g.D.Service.may in
    let prefetches = g.K.Persist.prefetches in
    let persists = g.K.Persist.persists in
    let waits = g.K.Persist.waits in
    let shares = g.K.Persist.shares in
    let holds = g.K.Persist.holds in
    let before = c.args.pools.now in
    let served = pools_same_attended may prefetches persists waits shares holds c.loop.pools c.go_on.new.pools c.serve_all.new.pools c.in_ok-go_on.ensures c.in_ok-serve_all.ensures.attended in
    let all = pools_attended_then may prefetches persists waits shares holds before c.loop.pools c.serve_all.new.pools c.loop.invariant.attended served in
    record {
      room = c.serve_all.ensures.room;
      attended = pools_attended_before may prefetches persists waits shares holds before c.serve_all.new.pools c.are_over.new.pools all c.are_over.ensures;
    }

pub returns : goal.returns
returns g c =
    let may = g.D.Service.may in
    let prefetches = g.K.Persist.prefetches in
    let persists = g.K.Persist.persists in
    let waits = g.K.Persist.waits in
    let shares = g.K.Persist.shares in
    let holds = g.K.Persist.holds in
    let before = c.args.pools.now in
    record {
      attended = always c.tell_end.result _
          (elim c.match-next.branch as (λ _. PoolsWereAttended may prefetches persists waits shares holds before c.match-next.pools) [
            | in-None w ↦ rw w.pools-is c.loop.invariant.attended
            | in-Some+in_ok-go_on+in_ok-serve_all+then-are_over w ↦ rw w.pools-is (
                let served = pools_same_attended may prefetches persists waits shares holds c.loop.pools w.go_on.new.pools w.serve_all.new.pools w.in_ok-go_on.ensures w.in_ok-serve_all.ensures.attended in
                pools_attended_before may prefetches persists waits shares holds before w.serve_all.new.pools w.are_over.new.pools
                (pools_attended_then may prefetches persists waits shares holds before c.loop.pools w.serve_all.new.pools c.loop.invariant.attended served) w.are_over.ensures)
          ]);
    }
