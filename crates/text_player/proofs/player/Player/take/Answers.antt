use Rattle.std.proofs.Common.{ap, sym, subst, take}
use Rattle.text_player.proofs.Common.{WorldKind, PlayerState, after_bytes, Says, Stands}
use Rattle.text_player.proofs.StandsLemmas.{stands_said}
use Rattle.text_player.proofs.player.Player.take.Goals as goal

pub returns-clause-stands : goal.returns-clause-stands
returns-clause-stands g c = λ start p before now t.
    let kind = ap (λ (q : PlayerState). q.kind) c.self.view_is in
    stands_said g.D.Service.may g.F.Form.text start c.args.world.now c.take.new.service c.self.inside.responder c.take.new.self c.self.inside.replies c.take.new.out
    (λ p. after_bytes c.args.self.now.kind p (take c.take.result c.args.bytes.now)) p before now (subst (λ (k : WorldKind). Says g.D.Service.may g.F.Form.text c.args.world.now c.self.inside.responder c.self.inside.replies c.take.new.service c.take.new.self c.take.new.out (λ p. after_bytes k p (take c.take.result c.args.bytes.now))) kind c.take.ensures.says)
    (subst (λ (q : PlayerState). Stands g.D.Service.may g.F.Form.text start c.args.world.now q p before now) (sym c.self.view_is) t)

pub take-requires-clause-knows : goal.take-requires-clause-knows
take-requires-clause-knows g c = λ line q is. (rw (sym (ap (λ (q : PlayerState). q.kind) c.self.view_is)) at c.requires.knows) line q is
