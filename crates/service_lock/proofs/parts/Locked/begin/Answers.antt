use Rattle.std.proofs.Common.{◌≡◌, Err, false, inr, subst, refl, ap, ◌∙◌}
use Rattle.model_steps.specs.declared.refusal.Refusal.TheVariants.{Full}
use Rattle.service_lock.proofs.Common.{Begin, Ok, Refused, ShownReply, is_refusal, with_view, CallerState, HallState, HallMay, IsTaken}
use Rattle.service_hall.proofs.cited.Histories.{begins_ok}
use Rattle.service_lock.proofs.Places.{opened}
use Rattle.service_lock.proofs.Standing.{taken_by}
use Rattle.service_lock.proofs.parts.Locked.begin.Goals as goal

pub returns : goal.returns
returns g c =
    let h = c.args.self.now.hall in
    let u = c.apply-reply.new.self.hall in
    let r = with_view c.apply-reply.result c.apply-reply.new.view in
    let mid = c.in_ok-clerk.clerk in
    let new = c.apply-reply.new.clerk in
    let accepted : is_refusal r ≡ false = taken_by c.apply-reply.result c.apply-reply.new.view c.in_default.not-Refused in
    let may : HallMay h (Begin c.args.id) r u = subst (λ k. HallMay k (Begin c.args.id) r u) c.open.ensures.hall c.apply-reply.ensures.hall in
    let is : r ≡ Ok = begins_ok h u c.args.id r may accepted in
    let taken : IsTaken g.L.LockName.config mid (Begin c.args.id) Ok new = subst (λ (q : ShownReply). IsTaken g.L.LockName.config mid (Begin c.args.id) q new) is c.apply-reply.ensures.taken in
    record {
      opened = (refl, opened g.L.LockName.config c.args.id mid new (ap (λ (s : CallerState). s.kept) c.in_ok-clerk.ensures.new.0) taken);
      hall = subst (λ (q : ShownReply). HallMay h (Begin c.args.id) q u) is may;
      same = tt;
      errors = tt;
      more = c.apply-reply.ensures.opened ∙ c.in_ok-clerk.ensures.more;
      full = λ all. let no : c.open.result ≡ Err Full = c.open.ensures.full.1 all in let was = c.in_ok-clerk.was in absurd cc;
      due = tt;
    }

pub returns-in-Refused-clause-due : goal.returns-in-Refused-clause-due
returns-in-Refused-clause-due g c = λ few.
    let h = c.args.self.now.hall in
    let u = c.apply-reply.new.self.hall in
    let r = with_view c.apply-reply.result c.apply-reply.new.view in
    let is : r ≡ Refused c.in-Refused.refusal = ap (λ q. with_view q c.apply-reply.new.view) c.in-Refused.is in
    let same : u ≡ h = c.apply-reply.ensures.refused (ap is_refusal is) ∙ c.open.ensures.hall in
    let may : HallMay h (Begin c.args.id) r u = subst (λ k. HallMay k (Begin c.args.id) r u) c.open.ensures.hall c.apply-reply.ensures.hall in
    inr (subst (λ (v : HallState). HallMay h (Begin c.args.id) (Refused c.in-Refused.refusal) v) same (subst (λ (q : ShownReply). HallMay h (Begin c.args.id) q u) is may))
