use Rattle.std.proofs.Common.{rules, ◌≤◌, [], length, take}
use Rattle.std.specs.Io.KnownBytes.{Consumes, IsAtEnd}
use Rattle.service_loop.proofs.BuffersLemmas.{takes_the_end, takes_no_end, takes_fault, consumes_kept}
use Rattle.service_loop.proofs.connection.Connection.take_end.Goals as goal

pub returns-in-Ok-eq0-clause-takes : goal.returns-in-Ok-eq0-clause-takes
returns-in-Ok-eq0-clause-takes g c =
    let left = g.S.Stream.left c.args.self.now.stream in
    let left' = g.S.Stream.left c.read_into.new.stream in
    let gave : Consumes left left' [] = search rules in
    let end : IsAtEnd left' = search rules in
    takes_the_end left left' c.args.self.now.buffers c.finish.new.self gave end c.requires.none c.finish.ensures

pub returns-in-Ok-clause-takes : goal.returns-in-Ok-clause-takes
returns-in-Ok-clause-takes g c =
    let came = take c.in-Ok.field-0 c.read_into.new.shared.chunk.items in
    let few : length came ≤ 65536 = search rules in
    takes_fault _ _ came c.args.self.now.buffers c.fail.new.self few c.in-Ok.ensures.bytes.0 c.fail.ensures

pub returns-in-Err-clause-takes : goal.returns-in-Err-clause-takes
returns-in-Err-clause-takes g c =
    let left = g.S.Stream.left c.args.self.now.stream in
    let left' = g.S.Stream.left c.read_into.new.stream in
    takes_no_end left left' c.args.self.now.buffers c.note_fault.new.buffers (consumes_kept left left' c.in-Err.ensures.bytes) c.note_fault.ensures.buffers c.note_fault.ensures.whole

pub returns-in-Ok-eq0-clause-room : goal.returns-in-Ok-eq0-clause-room
returns-in-Ok-eq0-clause-room g c = c.read_into.ensures.room

pub returns-in-Ok-clause-room : goal.returns-in-Ok-clause-room
returns-in-Ok-clause-room g c = c.read_into.ensures.room

pub returns-in-Err-clause-room : goal.returns-in-Err-clause-room
returns-in-Err-clause-room g c = c.read_into.ensures.room

pub returns-in-Ok-eq0-clause-unsent : goal.returns-in-Ok-eq0-clause-unsent
returns-in-Ok-eq0-clause-unsent g c = c.read_into.ensures.same

pub returns-in-Ok-clause-unsent : goal.returns-in-Ok-clause-unsent
returns-in-Ok-clause-unsent g c = c.read_into.ensures.same

pub returns-in-Err-clause-unsent : goal.returns-in-Err-clause-unsent
returns-in-Err-clause-unsent g c = c.read_into.ensures.same
