use Rattle.service_loop.proofs.PoolLemmas.{pools_attended_none, pools_attended_then}
use Rattle.service_loop.proofs.pools.serve_all.Goals as goal

pub loop-at-init : goal.loop-at-init
loop-at-init g c = record {
  room = c.requires.room;
  attended = pools_attended_none g.D.Service.may g.K.Persist.prefetches g.K.Persist.persists g.K.Persist.waits g.K.Persist.shares g.K.Persist.holds c.args.pools.now;
}

pub loop-at-preserved : goal.loop-at-preserved
loop-at-preserved g c = record {
  room = c.serve_at.ensures.room;
  attended = pools_attended_then g.D.Service.may g.K.Persist.prefetches g.K.Persist.persists g.K.Persist.waits g.K.Persist.shares g.K.Persist.holds
      c.args.pools.now c.loop-at.pools c.serve_at.new.pools c.loop-at.invariant.attended c.in_ok-serve_at.ensures.attended;
}
