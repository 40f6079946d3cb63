use Rattle.std.proofs.Common.{◌≡◌, ◌∙◌, ◌≤◌, ◌+◌, ap, arith, subst, ℕ, List, take, length}
use Rattle.text_player.proofs.Common.{take_all, err_from_is_err_and, on_err_weaker, on_ok_weaker, PlayerState, after_bytes, Stands}
use Rattle.text_player.proofs.cited.ProgressLemmas.{after_bytes-pieces, grows_from}
use Rattle.text_player.proofs.StandsLemmas.{stands_sent, stands_part}
use Rattle.text_player.proofs.player.Player.feed.Goals as goal

pub returns-in_err-make_room-clause-part : goal.returns-in_err-make_room-clause-part
returns-in_err-make_room-clause-part g c =
    let fault = err_from_is_err_and c.from_residual.result c.from_residual.ensures.1 in
    rw fault.1 (λ start p before t.
    let kind = c.args.self.now.kind in
    let so_far = after_bytes kind p (take c.loop-at.at c.args.chunk.now) in
    let grows = grows_from kind p c.args.chunk.now c.loop-at.at in
    stands_part g.D.Service.may g.F.Form.text start c.loop-at.world c.loop-at.self so_far (after_bytes kind p c.args.chunk.now) before (g.W.Write.contents c.loop-at.writer) (g.W.Write.contents c.make_room.new.writer) grows.0 grows.1
    (c.loop-at.invariant.stands start p before t) c.in_err-make_room.ensures.part)

pub loop-at-preserved : goal.loop-at-preserved
loop-at-preserved g c =
    let sent = c.in_ok-make_room.ensures.ok in
    let kind : c.make_room.new.self.kind ≡ c.args.self.now.kind = ap (λ (s : PlayerState). s.kind) sent.kept ∙ c.loop-at.invariant.kind in
    record {
      inside = omega (arith, c.take-at.ensures.taken);
      stands = λ start p before t.
          let so_far = after_bytes c.args.self.now.kind p (take c.loop-at.at c.args.chunk.now) in
          let roomy = stands_sent g.D.Service.may g.F.Form.text start c.loop-at.world c.loop-at.self c.make_room.new.self so_far before (g.W.Write.contents c.loop-at.writer) (g.W.Write.contents c.make_room.new.writer) (c.loop-at.invariant.stands start p before t) sent in
          let taken = c.take-at.ensures.stands start so_far before (g.W.Write.contents c.make_room.new.writer) roomy in
          rw (after_bytes-pieces c.args.self.now.kind p c.args.chunk.now c.loop-at.at c.take-at.result) (rw kind at taken);
      kind = c.take-at.ensures.kept ∙ kind;
      counted =
          (let same : c.make_room.new.self.summary.lines ≡ c.loop-at.self.summary.lines = ap (λ (s : PlayerState). s.summary.lines) sent.kept in
          let more = c.take-at.ensures.counted in
          let before = c.loop-at.invariant.counted in
          omega arith);
      calls =
          (let longer = c.take-at.ensures.longer in
          let left : g.W.Sink.calls c.make_room.new.writer + length c.make_room.new.self.replies ≤ g.W.Sink.calls c.loop-at.writer + length c.loop-at.self.replies = c.in_ok-make_room.ensures.calls_left in
          let before = c.loop-at.invariant.calls in
          omega arith);
      unfailed = c.in_ok-make_room.ensures.unfailed ∙ c.loop-at.invariant.unfailed;
    }

pub returns-clause-ok : goal.returns-clause-ok
returns-clause-ok g c = on_ok_weaker c.send.result
    (λ sent start p before t.
    let kind = c.args.self.now.kind in
    let all : take c.loop-at.at c.args.chunk.now ≡ c.args.chunk.now = take_all c.loop-at.at c.args.chunk.now (omega (arith, c.loop-at-test.false)) in
    subst (λ (l : List ℕ). Stands g.D.Service.may g.F.Form.text start c.loop-at.world c.send.new.self (after_bytes kind p l) before (g.W.Write.contents c.send.new.writer)) all
    (stands_sent g.D.Service.may g.F.Form.text start c.loop-at.world c.loop-at.self c.send.new.self (after_bytes kind p (take c.loop-at.at c.args.chunk.now)) before (g.W.Write.contents c.loop-at.writer) (g.W.Write.contents c.send.new.writer) (c.loop-at.invariant.stands start p before t) sent))
    c.send.ensures.ok

pub returns-clause-part : goal.returns-clause-part
returns-clause-part g c = on_err_weaker c.send.result
    (λ part start p before t.
    let kind = c.args.self.now.kind in
    let so_far = after_bytes kind p (take c.loop-at.at c.args.chunk.now) in
    let grows = grows_from kind p c.args.chunk.now c.loop-at.at in
    stands_part g.D.Service.may g.F.Form.text start c.loop-at.world c.loop-at.self so_far (after_bytes kind p c.args.chunk.now) before (g.W.Write.contents c.loop-at.writer) (g.W.Write.contents c.send.new.writer) grows.0 grows.1
    (c.loop-at.invariant.stands start p before t) part)
    c.send.ensures.part
