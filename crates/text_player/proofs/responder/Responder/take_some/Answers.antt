use Rattle.std.proofs.Common.{◌∙◌, ◌+◌, ◌-◌, refl, sym, arith, take, drop, length, subst}
use Rattle.text_player.proofs.Common.{WorldKind, after_bytes, Says, Anywhere}
use Rattle.text_player.proofs.cited.ProgressLemmas.{after_bytes-pieces}
use Rattle.text_player.proofs.SaysLemmas.{says_nothing, says_then}
use Rattle.text_player.proofs.responder.Responder.take_some.Goals as goal

pub loop-at-init : goal.loop-at-init
loop-at-init g c = record {
  inside = omega arith;
  says = says_nothing g.D.Service.may g.F.Form.text c.args.service.now c.args.self.now c.args.self.now c.args.out.now Anywhere (λ p. after_bytes c.args.self.now.kind p (take 0 c.args.bytes.now)) (λ turns p t was. t);
  kind = refl;
  within = λ h. h;
  counted = omega arith;
}

pub loop-at-preserved : goal.loop-at-preserved
loop-at-preserved g c =
    let bytes = c.args.bytes.now in
    let kind = c.args.self.now.kind in
    let at = c.loop-at.at in
    let n = c.take-at.result in
    let said = subst (λ (k : WorldKind). Says g.D.Service.may g.F.Form.text c.loop-at.service c.loop-at.self c.loop-at.out c.take-at.new.service c.take-at.new.self c.take-at.new.out (λ p. after_bytes k p (take n (take (length bytes - at) (drop at bytes))))) c.loop-at.invariant.kind c.take-at.ensures.says in
    record {
      inside = omega (arith, c.take-at.ensures.line.inside);
      says = says_then g.D.Service.may g.F.Form.text c.args.service.now c.loop-at.service c.take-at.new.service c.args.self.now c.loop-at.self c.take-at.new.self c.args.out.now c.loop-at.out c.take-at.new.out
          (λ p. after_bytes kind p (take at bytes)) (λ p. after_bytes kind p (take n (take (length bytes - at) (drop at bytes)))) (λ p. after_bytes kind p (take (at + n) bytes))
          c.loop-at.invariant.says said (λ p. sym (after_bytes-pieces kind p bytes at n));
      kind = c.take-at.ensures.line.kept ∙ c.loop-at.invariant.kind;
      within =
          (let longer = c.take-at.ensures.line.longer in
          let roomy = c.loop-at-test.true in
          λ h. omega arith);
      counted =
          (let more = c.take-at.ensures.line.counted in
          let before = c.loop-at.invariant.counted in
          let some = c.take-at.ensures.line.some in
          omega arith);
    }
