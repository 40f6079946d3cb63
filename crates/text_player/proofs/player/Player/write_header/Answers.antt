use Rattle.std.proofs.Common.{ap, subst, ◌≡◌, ℕ, List}
use Rattle.text_player.proofs.Common.{on_err_weaker, PlayerState, HasPartOf}
use Rattle.text_player.specs.Records.{header_line}
use Rattle.text_player.proofs.player.Player.write_header.Goals as goal

pub returns-clause-part : goal.returns-clause-part
returns-clause-part g c =
    let is : c.print_header.new.out ≡ header_line c.args.config = rw (ap (λ (s : PlayerState). s.replies) c.self.view_is, c.requires.none) at c.print_header.ensures.text in
    on_err_weaker c.send.result (subst (λ (l : List ℕ). HasPartOf (g.W.Write.contents c.args.writer.now) (g.W.Write.contents c.send.new.writer) l) is) c.send.ensures.part
