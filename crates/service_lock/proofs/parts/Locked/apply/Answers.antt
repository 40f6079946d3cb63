use Rattle.std.proofs.Common.{rules, ◌≡◌, ◌≤◌, ◌+◌, ◌++◌, [], ◌∷◌, false, true, refl, ap, sym, subst, ◌∙◌, length, arith, length-append, List}
use Rattle.service_lock.proofs.Common.{Exchange, Refused, exchange, is_refusal, with_view, HallState, Fits, kept_of}
use mathlib.Core.List.{IsPrefix}
use Rattle.service_lock.specs.CallerState.{CallerState, caller_of}
use Rattle.service_lock.proofs.Fronts.{prefix_length}
use Rattle.service_hall.proofs.cited.Histories.{kept_refused, room_left}
use Rattle.service_hall.proofs.cited.HallLaws.{goes_by, goes_on, stays_by}
use Rattle.service_lock.proofs.Places.{rises_more}
use Rattle.service_lock.proofs.Standing.{one_more, one_clear, taken_refused, taken_accepted, taken_unchanged, clerk_answered, stands_kept}
use Rattle.service_lock.proofs.parts.Locked.apply.Goals as goal

pub invariant_of-self-then-is_refusal : goal.invariant_of-self-then-is_refusal
invariant_of-self-then-is_refusal g c =
    let old = c.args.self.now in
    let refused : is_refusal (with_view c.apply_short-reply.result c.apply_short-reply.new.view) ≡ true = sym (c.is_refusal.ensures c.apply_short-reply.new.view) ∙ c.if-is_refusal.true in
    let same : c.apply_short-reply.new.self ≡ old.hall = kept_refused old.hall c.apply_short-reply.new.self c.args.event (with_view c.apply_short-reply.result c.apply_short-reply.new.view) c.len-place.ensures.lawful c.apply_short-reply.ensures refused in
    record {
      counted = ap (λ (h : HallState). length h.history) same ∙ old.counted;
      clear = rw same (c.refusal_of.ensures.marks ∙ old.clear);
      parts = old.parts;
      few = old.few;
      none = old.none;
      config = ap (λ (h : HallState). h.config) same ∙ old.config;
      whole = old.whole ∙ sym (ap (λ (h : HallState). h.history) same);
    }

pub invariant_of-clerk-then-is_refusal : goal.invariant_of-clerk-then-is_refusal
invariant_of-clerk-then-is_refusal g c =
    let k = c.clerk.inside in
    clerk_answered g.L.LockName.config c.args.self.now.hall k.seen c.args.self.now.front c.show.new.seen k.share.parts k.share.amount k.kept.items c.refusal_of.new.kept.items k.next
    c.args.self.now.config c.len-place.ensures.lawful c.args.self.now.whole c.show.ensures.begins c.show.ensures.seen c.refusal_of.ensures.items c.clerk.invariant

pub returns-then-is_refusal-clause-taken : goal.returns-then-is_refusal-clause-taken
returns-then-is_refusal-clause-taken g c =
    let h = c.args.self.now.hall in
    let u = c.apply_short-reply.new.self in
    let r = with_view c.apply_short-reply.result c.apply_short-reply.new.view in
    let refused : is_refusal r ≡ true = sym (c.is_refusal.ensures c.apply_short-reply.new.view) ∙ c.if-is_refusal.true in
    let longer : IsPrefix c.args.clerk.now.seen h.history = subst (λ (v : CallerState). IsPrefix v.seen h.history) c.clerk.view_is (subst (λ (l : List Exchange). IsPrefix c.clerk.inside.seen l) c.args.self.now.whole c.show.ensures.begins) in
    let fits = subst (λ (v : CallerState). Fits v.seen v.kept) c.clerk.view_is c.clerk.invariant.4 in
    let stays = stays_by h c.args.event r u c.len-place.ensures.lawful c.apply_short-reply.ensures refused in
    taken_refused g.L.LockName.config h c.args.event r u c.args.clerk.now (caller_of c.refusal_of.new.kept.items c.show.new.seen) c.args.self.now.config c.len-place.ensures.lawful longer fits c.apply_short-reply.ensures refused
    (c.show.ensures.seen ∙ c.args.self.now.whole ∙ sym stays)
    (c.refusal_of.ensures.items ∙ ap (λ (v : CallerState). v.kept) c.clerk.view_is)

pub tell-requires : goal.tell-requires
tell-requires g c =
    let h = c.args.self.now.hall in
    omega (arith, room_left h c.args.event c.in_default.ensures.due, ap length c.args.self.now.whole)

pub invariant_of-clerk-2 : goal.invariant_of-clerk-2
invariant_of-clerk-2 g c =
    let k = c.clerk.inside in
    let h = c.args.self.now.hall in
    let inv = c.clerk.invariant in
    let place = c.len-place.result in
    let at : place ≡ length h.history = c.len-place.ensures.count in
    let r = with_view c.apply_short-reply.result c.apply_short-reply.new.view in
    let x = exchange c.args.event r in
    let one = kept_of place x in
    let accepted : is_refusal r ≡ false = sym (c.is_refusal.ensures c.apply_short-reply.new.view) ∙ c.if-is_refusal.false in
    let longer : IsPrefix k.seen h.history = subst (λ (l : List Exchange). IsPrefix k.seen l) c.args.self.now.whole c.show.ensures.begins in
    let s = stands_kept g.L.LockName.config h k.seen k.kept.items k.next c.args.self.now.config c.len-place.ensures.lawful longer inv.4 inv.3 c.args.event r c.apply_short-reply.new.self c.apply_short-reply.ensures accepted in
    let items : c.push_reserved.new.self.items ≡ k.kept.items ++ one ∷ [] = one_more k.kept.items c.refusal_of.new.kept.items c.push_reserved.new.self.items one c.refusal_of.ensures.items c.push_reserved.ensures in
    let seen : c.tell.new.seen ≡ h.history ++ x ∷ [] = c.tell.ensures.seen ∙ one_more h.history c.args.self.now.front c.tell.new.front x c.args.self.now.whole c.tell.ensures.reported in
    let below : k.next ≤ place = omega (arith, at, inv.3, prefix_length k.seen h.history longer) in
    rw (items, seen) (
      search rules,
      omega (arith, c.add.ensures.amount, inv.1, length-append k.kept.items (one ∷ [])),
      rises_more 0 k.kept.items k.next one inv.2 below,
      omega (arith, at, length-append h.history (x ∷ [])),
      rw at s.fits,
      s.lawful,
    )

pub returns-clause-taken : goal.returns-clause-taken
returns-clause-taken g c =
    let h = c.args.self.now.hall in
    let u = c.apply_short-reply.new.self in
    let r = with_view c.apply_short-reply.result c.apply_short-reply.new.view in
    let x = exchange c.args.event r in
    let accepted : is_refusal r ≡ false = sym (c.is_refusal.ensures c.apply_short-reply.new.view) ∙ c.if-is_refusal.false in
    let longer : IsPrefix c.args.clerk.now.seen h.history = subst (λ (v : CallerState). IsPrefix v.seen h.history) c.clerk.view_is (subst (λ (l : List Exchange). IsPrefix c.clerk.inside.seen l) c.args.self.now.whole c.show.ensures.begins) in
    let fits = subst (λ (v : CallerState). Fits v.seen v.kept) c.clerk.view_is c.clerk.invariant.4 in
    let seen : c.tell.new.seen ≡ h.history ++ x ∷ [] = c.tell.ensures.seen ∙ one_more h.history c.args.self.now.front c.tell.new.front x c.args.self.now.whole c.tell.ensures.reported in
    let kept : c.push_reserved.new.self.items ≡ c.args.clerk.now.kept ++ kept_of c.len-place.result x ∷ [] = one_more c.args.clerk.now.kept c.refusal_of.new.kept.items c.push_reserved.new.self.items (kept_of c.len-place.result x) (c.refusal_of.ensures.items ∙ ap (λ (v : CallerState). v.kept) c.clerk.view_is) c.push_reserved.ensures in
    taken_accepted g.L.LockName.config h c.args.event r u c.args.clerk.now (caller_of c.push_reserved.new.self.items c.tell.new.seen) c.args.self.now.config c.len-place.ensures.lawful longer fits c.apply_short-reply.ensures accepted
    (seen ∙ sym (goes_by h c.args.event r u c.len-place.ensures.lawful c.apply_short-reply.ensures accepted))
    (kept ∙ ap (λ n. c.args.clerk.now.kept ++ kept_of n x ∷ []) c.len-place.ensures.count)

pub returns-in-Some-clause-refused : goal.returns-in-Some-clause-refused
returns-in-Some-clause-refused g c = λ refused. refl

pub returns-then-is_refusal-clause-hall : goal.returns-then-is_refusal-clause-hall
returns-then-is_refusal-clause-hall g c = c.apply_short-reply.ensures

pub returns-then-is_refusal-clause-refused : goal.returns-then-is_refusal-clause-refused
returns-then-is_refusal-clause-refused g c = λ refused.
    kept_refused c.args.self.now.hall c.apply_short-reply.new.self c.args.event (with_view c.apply_short-reply.result c.apply_short-reply.new.view) c.len-place.ensures.lawful c.apply_short-reply.ensures refused

pub returns-clause-hall : goal.returns-clause-hall
returns-clause-hall g c = c.apply_short-reply.ensures

pub returns-clause-refused : goal.returns-clause-refused
returns-clause-refused g c = λ refused.
    kept_refused c.args.self.now.hall c.apply_short-reply.new.self c.args.event (with_view c.apply_short-reply.result c.apply_short-reply.new.view) c.len-place.ensures.lawful c.apply_short-reply.ensures refused

pub invariant_of-self : goal.invariant_of-self
invariant_of-self g c =
    let old = c.args.self.now in
    record {
      counted = old.counted;
      clear = c.refusal_of.ensures.marks ∙ old.clear;
      parts = old.parts;
      few = old.few;
      none = old.none;
      config = old.config;
      whole = old.whole;
    }

pub invariant_of-clerk : goal.invariant_of-clerk
invariant_of-clerk g c =
    let k = c.clerk.inside in
    clerk_answered g.L.LockName.config c.args.self.now.hall k.seen c.args.self.now.front c.show.new.seen k.share.parts k.share.amount k.kept.items c.refusal_of.new.kept.items k.next
    c.args.self.now.config c.len-place.ensures.lawful c.args.self.now.whole c.show.ensures.begins c.show.ensures.seen c.refusal_of.ensures.items c.clerk.invariant

pub returns-in-Some-clause-taken : goal.returns-in-Some-clause-taken
returns-in-Some-clause-taken g c =
    let old = c.args.self.now in
    taken_unchanged g.L.LockName.config old.hall c.args.event (Refused c.in-Some.refusal) c.args.clerk.now (caller_of c.refusal_of.new.kept.items c.show.new.seen) old.front old.config c.len-place.ensures.lawful old.whole
    (subst (λ (v : CallerState). IsPrefix v.seen old.front) c.clerk.view_is c.show.ensures.begins) (subst (λ (v : CallerState). Fits v.seen v.kept) c.clerk.view_is c.clerk.invariant.4)
    c.in-Some.ensures.refused refl c.show.ensures.seen (c.refusal_of.ensures.items ∙ ap (λ (v : CallerState). v.kept) c.clerk.view_is)

pub returns-in-Some-clause-hall : goal.returns-in-Some-clause-hall
returns-in-Some-clause-hall g c = c.in-Some.ensures.refused

pub invariant_of-self-2 : goal.invariant_of-self-2
invariant_of-self-2 g c =
    let old = c.args.self.now in
    let h = old.hall in
    let u = c.apply_short-reply.new.self in
    let r = with_view c.apply_short-reply.result c.apply_short-reply.new.view in
    let x = exchange c.args.event r in
    let accepted : is_refusal r ≡ false = sym (c.is_refusal.ensures c.apply_short-reply.new.view) ∙ c.if-is_refusal.false in
    let longer : u.history ≡ h.history ++ x ∷ [] = goes_by h c.args.event r u c.len-place.ensures.lawful c.apply_short-reply.ensures accepted in
    let many : length u.history ≡ length h.history + 1 = ap length longer ∙ length-append h.history (x ∷ []) in
    let stays = goes_on h u c.args.event r c.len-place.ensures.lawful c.apply_short-reply.ensures in
    record {
      counted = omega (arith, many, old.counted, c.add.ensures.total);
      clear = one_clear (length h.history) (length u.history) c.refusal_of.new.marks.items c.push_reserved-2.new.self.items (c.refusal_of.ensures.marks ∙ old.clear) many c.push_reserved-2.ensures.items;
      parts = old.parts;
      few = old.few;
      none = old.none;
      config = stays.config ∙ old.config;
      whole = one_more h.history old.front c.tell.new.front x old.whole c.tell.ensures.reported ∙ sym longer;
    }
