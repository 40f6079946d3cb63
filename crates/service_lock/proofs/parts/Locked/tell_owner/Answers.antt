use Rattle.std.proofs.Common.{◌≡◌, ap, refl, subst, sym, ◌∙◌}
use mathlib.Core.List.{IsPrefix}
use Rattle.service_lock.proofs.Common.{CallerState, Config, HallState, hall_of, desk_of, owner_reply}
use Rattle.service_lock.specs.CallerState.{caller_of}
use Rattle.service_lock.specs.Kepts.{IsReported}
use Rattle.service_lock.proofs.Standing.{stands_answered}
use Rattle.service_lock.proofs.parts.Locked.tell_owner.Goals as goal

pub invariant_of-clerk : goal.invariant_of-clerk
invariant_of-clerk g c =
    let k = c.clerk.inside in
    let inv = c.clerk.invariant in
    let old = c.args.self.now in
    let s = stands_answered g.L.LockName.config old.hall k.seen old.front c.show.new.seen k.kept.items k.next old.config c.len.ensures.lawful old.whole c.show.ensures.begins c.show.ensures.seen inv.4 inv.3 in
    (inv.0, inv.1, inv.2, s.within, s.fits, s.lawful)

pub returns : goal.returns
returns g c =
    let old = c.args.self.now in
    let k = c.clerk.inside in
    let inv = c.clerk.invariant in
    let d = g.L.LockName.config in
    let s = stands_answered d old.hall k.seen old.front c.show.new.seen k.kept.items k.next old.config c.len.ensures.lawful old.whole c.show.ensures.begins c.show.ensures.seen inv.4 inv.3 in
    let same : hall_of d c.show.new.seen ≡ old.hall = ap (hall_of d) (c.show.ensures.seen ∙ old.whole) ∙ ap (λ (e : Config). hall_of e old.hall.history) (sym old.config) in
    subst (λ (v : CallerState). IsReported d v c.args.number c.owner.result (caller_of k.kept.items c.show.new.seen)) c.clerk.view_is (record {
      lawful = s.lawful;
      longer = subst (IsPrefix k.seen) (sym c.show.ensures.seen) c.show.ensures.begins;
      answer = c.owner.ensures.value ∙ ap (λ (h : HallState). owner_reply (desk_of h) c.args.number) (sym same);
      same = refl;
      stands = s.fits;
    })
