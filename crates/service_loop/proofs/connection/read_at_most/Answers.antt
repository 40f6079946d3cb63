use Rattle.std.proofs.Common.{◌≤◌, arith, length}
use Rattle.std.proofs.lemmas.List.{length-take-le}
use Rattle.service_loop.proofs.BuffersLemmas.{consumes_more, reads_more}
use Rattle.service_loop.proofs.connection.read_at_most.Goals as goal

pub returns-clause-bound : goal.returns-clause-bound
returns-clause-bound g c = reads_more c.read_some.result c.read_some.new.buf _ c.read_some.ensures.bound

pub returns-clause-bytes : goal.returns-clause-bytes
returns-clause-bytes g c =
    let some : 1 ≤ length c.read_some.new.buf = omega (arith, c.read_some.auto.buf, length-take-le c.args.most c.args.chunk.now c.requires.1, c.requires.0) in
    consumes_more _ _ c.read_some.result c.read_some.new.buf _ some c.read_some.ensures.bound c.read_some.ensures.bytes

pub returns-clause-same : goal.returns-clause-same
returns-clause-same g c = c.read_some.ensures.same

pub returns-clause-size : goal.returns-clause-size
returns-clause-size g c = omega (arith, c.read_some.auto.buf, c.requires.1)
