use Rattle.std.proofs.Common.{◌≡◌, ◌++◌, ◌∙◌, ap, arith, drop, length, take}
use Rattle.std.proofs.lemmas.List.{take_at}
use Rattle.service_loop.proofs.connection.read_into.Goals as goal

pub returns : goal.returns
returns g c =
    let read = c.read_at_most.new.chunk in
    let chunk = c.args.shared.now.chunk in
    let whole : length read ≡ length chunk.items = c.read_at_most.ensures.size ∙ ap length c.deref_mut.ensures.value in
    let same : take chunk.len (read ++ drop (length read) chunk.items) ≡ read = take_at read (drop (length read) chunk.items) chunk.len (omega (arith, whole, chunk.ok.0)) in
    record {
      bound = rw same c.read_at_most.ensures.bound;
      bytes = rw same c.read_at_most.ensures.bytes;
      same = c.read_at_most.ensures.same;
      few = c.read_at_most.ensures.few;
      room = rw same (omega (arith, whole, c.requires.room.0), c.requires.room.1);
    }
