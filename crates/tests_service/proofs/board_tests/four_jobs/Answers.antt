use Rattle.std.proofs.Common.{rules, ap, ◌≡◌, ◌++◌, [], ◌∷◌}
use Rattle.std.proofs.lemmas.List.Elements.{All-push}
use Rattle.words_machine.specs.parts.Boards.{ReaderId}
use Rattle.tests_service.proofs.board_tests.four_jobs.Goals as goal

pub loop-id-preserved : goal.loop-id-preserved
loop-id-preserved g c =
    let longer : c.push.new.self.items ≡ c.loop-id.jobs.items ++ record { session = c.in_ok-session.session; seat = c.reader-seat.result } ∷ [] = c.in-Ok.ensures.items in
    record {
      own = search rules;
      seats = rw longer (All-push (λ j. j.seat.board ≡ c.args.board.now) c.loop-id.jobs.items (record { session = c.in_ok-session.session; seat = c.reader-seat.result }) c.loop-id.invariant.seats (ap (λ (r : ReaderId). r.board) c.reader-seat.ensures.new));
    }
