use Rattle.std.proofs.Common.{sym, ◌∙◌, arith}
use Rattle.words_machine.proofs.Running.{few, goes_on, still_on, none_left}
use Rattle.words_machine.proofs.words.Words.run_loads.Goals as goal

pub loop-register-init : goal.loop-register-init
loop-register-init g c = record { ours = c.requires.ours; stands = c.requires.before; counted = c.requires.made; few = c.requires.few; more = omega arith }

pub returns-then-is_some-clause-more : goal.returns-then-is_some-clause-more
returns-then-is_some-clause-more g c = let more = c.loop-register.invariant.more in omega arith

pub loop-register-preserved : goal.loop-register-preserved
loop-register-preserved g c =
    let none = sym c.outcome-ended.ensures ∙ none_left _ (sym c.is_some.ensures ∙ c.if-is_some.false) in
    let come = c.step_load-note.ensures.after in
    let bound = few g.P.WordProgram.steps g.P.WordProgram.law g.met.P.WordProgram.sound _ _ _ _ _ _ _ come in
    let before = c.loop-register.invariant.counted in
    let more = c.loop-register.invariant.more in
    let one = come.one_more in
    record {
      ours = c.step_load-note.ensures.ours;
      stands = goes_on g.P.WordProgram.steps g.P.WordProgram.law g.met.P.WordProgram.sound _ _ _ _ _ _ _ come (still_on _ none) none;
      counted = omega arith;
      few = omega arith;
      more = omega arith;
    }

pub returns : goal.returns
returns g c = record {
  ours = c.loop-register.invariant.ours;
  ended = tt;
  goes_on = c.loop-register.invariant.stands;
  counted = c.loop-register.invariant.counted;
  more = c.loop-register.invariant.more;
  few = c.loop-register.invariant.few;
}
