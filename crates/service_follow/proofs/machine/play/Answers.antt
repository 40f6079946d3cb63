-- One line after another is taken.
use Rattle.std.proofs.Common.{◌∙◌, ◌-◌, ℕ, List, refl, arith, take, drop, length, subst}
use Rattle.service_follow.proofs.Common.{take_all, TakesBytes}
use Rattle.text_player.specs.Texts.{turn_reply}
use Rattle.service_follow.proofs.Plays.{take_pieces, takes_none, takes_then}
use Rattle.service_follow.proofs.machine.play.Goals as goal

pub loop-at-init : goal.loop-at-init
loop-at-init g c = record {
  inside = omega arith;
  counted = (let none = c.requires.afresh in omega (arith, none));
  kind = refl;
  takes = takes_none g.D.Service.may c.args.service.now c.args.responder.now;
}

pub loop-at-preserved : goal.loop-at-preserved
loop-at-preserved g c =
    let bytes = c.args.lines.now in
    let at = c.loop-at.at in
    let n = c.take-at.result in
    record {
      inside = omega (arith, c.take-at.ensures.line.inside);
      counted =
          (let more = c.take-at.ensures.line.counted in
          let before = c.loop-at.invariant.counted in
          let some = c.take-at.ensures.line.some in
          omega arith);
      kind = c.take-at.ensures.line.kept ∙ c.loop-at.invariant.kind;
      takes = subst (λ (l : List ℕ). TakesBytes g.D.Service.may c.args.service.now c.args.responder.now l c.take-at.new.service c.take-at.new.self) (take_pieces bytes at n)
          (takes_then g.D.Service.may turn_reply c.args.service.now c.loop-at.service c.take-at.new.service c.args.responder.now c.loop-at.responder c.take-at.new.self c.clear.new.self c.take-at.new.out
          (take at bytes) (take n (take (length bytes - at) (drop at bytes))) c.loop-at.invariant.kind c.loop-at.invariant.takes c.take-at.ensures.says);
    }

pub returns : goal.returns
returns g c =
    let done = c.loop-at-test.false in
    subst (λ (l : List ℕ). TakesBytes g.D.Service.may c.args.service.now c.args.responder.now l c.loop-at.service c.loop-at.responder) (take_all c.loop-at.at c.args.lines.now done) c.loop-at.invariant.takes
