use Rattle.std.proofs.Common.{◌∙◌, List, ap, map, take, sym, subst}
use Rattle.std.proofs.lemmas.List.{take_more}
use Rattle.service_loop.specs.Attending.{Hears, act_of_ending}
use Rattle.service_loop.specs.declared.attended.Ending.{Ending}
use Rattle.service_loop.proofs.AttendedLemmas.{hears_ends}
use Rattle.service_loop.proofs.attended.Attended.end_all.Goals as goal

pub loop-ending-preserved : goal.loop-ending-preserved
loop-ending-preserved g c =
    let ends = c.args.endings.now in
    let at = c.loop-ending.ending-index in
    record {
      hears = subst (λ (l : List Ending). Hears (map (act_of_ending c.args.tick) l) c.args.self.now c.end.new.self) (sym (take_more ends at _ c.loop-ending-test.true))
          (hears_ends c.args.tick (take at ends) _ c.args.self.now c.loop-ending.self c.end.new.self c.loop-ending.invariant.hears c.end.ensures);
      same = ap (λ w. w.service) c.end.ensures ∙ c.loop-ending.invariant.same;
    }
