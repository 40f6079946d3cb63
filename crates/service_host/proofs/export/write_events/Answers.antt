-- The lines of one event more.
use Rattle.std.proofs.Common.{rules, ◌≡◌, [], slice_get, Some, None}
use Rattle.std.specs.Io.KnownBytes.{Appends}
use Rattle.service_host.specs.Exports.{command_line}
use Rattle.service_host.proofs.ExportLemmas.{line_more, no_more}
use Rattle.service_host.proofs.export.write_events.Goals as goal
use Rattle.service_host.proofs.export.write_events.Goals.{in-Some+in_ok-write_line, in_default}

pub loop-place-preserved : goal.loop-place-preserved
loop-place-preserved g c =
    let history = c.args.hall.now.history in
    let place = c.loop-place.place in
    let before = g.W.Write.contents c.args.output.now in
    let so_far = g.W.Write.contents c.loop-place.output in
    let now = g.W.Write.contents c.match-get.output in
    elim c.match-get.branch [
      | in-Some+in_ok-write_line w ↦
          let has : slice_get history place ≡ Some w.in-Some.exchange = search rules in
          let gained : Appends so_far now (command_line w.in-Some.exchange) = search rules in
          let empty : c.match-get.line ≡ [] = search rules in
          record { empty = empty; written = line_more history place w.in-Some.exchange before so_far now has c.loop-place.invariant.written gained }
      | in_default w ↦
          let has : slice_get history place ≡ None = search rules in
          let empty : c.match-get.line ≡ [] = search rules in
          record { empty = empty; written = rw w.output-is (no_more history place before so_far has c.loop-place.invariant.written) }
    ]
