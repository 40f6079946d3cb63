-- No entry was applied to a hall that starts.
use Rattle.std.proofs.Common.{[], ap, sym, ◌∙◌, add-zero}
use Rattle.service_log.specs.ReplicaState.{ReplicaState}
use Rattle.service_follow.specs.StayState.{StayState}
use Rattle.service_follow.proofs.log_hall.LogHall.start_at.Goals as goal

pub invariant_of-self : goal.invariant_of-self
invariant_of-self g c = λ well. record {
  entries = [];
  led = sym c.in_ok-machine.ensures ∙ sym (ap (λ (r : ReplicaState StayState). r.machine) c.at.ensures);
  stood = tt;
  count = ap (λ (r : ReplicaState StayState). r.place) c.at.ensures ∙ sym (add-zero c.args.place);
}
