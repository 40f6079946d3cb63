use Rattle.std.proofs.Common.{[], sym}
use Rattle.text_player.proofs.Common.{append-nil, on_err_weaker, on_ok_weaker, after_end}
use Rattle.text_player.proofs.StandsLemmas.{stands_sent, stands_part}
use Rattle.text_player.proofs.player.Player.finish.Goals as goal

pub returns-clause-ok : goal.returns-clause-ok
returns-clause-ok g c = on_ok_weaker c.send.result
    (λ sent start p before t. stands_sent g.D.Service.may g.F.Form.text start c.end_line.new.world c.end_line.new.self c.send.new.self (after_end c.args.self.now.kind p) before (g.W.Write.contents c.args.writer.now) (g.W.Write.contents c.send.new.writer) (c.end_line.ensures.stands start p before (g.W.Write.contents c.args.writer.now) t) sent)
    c.send.ensures.ok

pub returns-clause-part : goal.returns-clause-part
returns-clause-part g c = on_err_weaker c.send.result
    (λ part start p before t. stands_part g.D.Service.may g.F.Form.text start c.end_line.new.world c.end_line.new.self _ (after_end c.args.self.now.kind p) before (g.W.Write.contents c.args.writer.now) (g.W.Write.contents c.send.new.writer) [] (sym (append-nil _)) (c.end_line.ensures.stands start p before (g.W.Write.contents c.args.writer.now) t) part)
    c.send.ensures.part
