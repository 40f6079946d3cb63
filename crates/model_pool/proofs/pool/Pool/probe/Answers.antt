use Rattle.std.proofs.Common.{rules, ◌≡◌, Ok, Err, refl, sym, ap, ◌∙◌}
use Rattle.model_pool.proofs.Common.{Seeking, stay_of, after_access, probe_access, stay_probed, probe_reply, got_by, probe_answer, after_probe, Probed, PoolState}
use Rattle.model_steps.specs.Registers.{answer_of}
use Rattle.model_pool.specs.Stay.{IsWithin}
use Rattle.model_pool.specs.Invariant.{AreSetBelow}
use Rattle.model_pool.proofs.Seeking.{set_below_probe}
use Rattle.model_pool.proofs.RosterLemmas.{stays_put, within_next}
use Rattle.model_pool.proofs.CallLemmas.{refused, going_answer, going_after}
use Rattle.model_pool.proofs.LocalityLemmas.{refused_local, probe_local, probe_alike, probe_stands}
use Rattle.model_pool.specs.Locality.{probe_steps}
use Rattle.model_pool.proofs.cited.PoolKeeps.{pool_law, pool_proved}
use Rattle.model_pool.proofs.pool.Pool.probe.Goals as goal

pub returns-in_err-next : goal.returns-in_err-next
returns-in_err-next g c =
    let why = c.in_err-next.field-0.0 in
    let r = refused c.args.self.now c.args.id why c.in_err-next.ensures.refused in
    let is : c.from_residual.result ≡ Err why = search rules in
    rw is (record {
      answer = r.probe;
      state = r.probed;
      unchanged_on_error = refl;
      after = pool_proved.call c.args.self.now c.args.self.now (Probed c.args.id (Err why)) r.probed r.probe;
      law = pool_law _;
      local = refused_local probe_steps c.args.id c.args.self.now why;
      alike = λ other h. r.probe ∙ probe_alike c.args.id c.args.self.now other h;
      stands_alike = λ other h. ap (λ (w : PoolState). stay_of c.args.id w.competitors) r.probed ∙ probe_stands c.args.id c.args.self.now other h;
    })

pub invariant_of-self : goal.invariant_of-self
invariant_of-self g c =
    let stay = Seeking c.in_ok-next.next in
    let all = c.self.invariant.stays in
    let access : c.probe_access.result ≡ probe_access c.self.inside.size stay = c.probe_access.ensures in
    let got : c.unwrap-got.result ≡ answer_of c.self.inside.bits (probe_access c.self.inside.size stay) = rw (c.unwrap-got.ensures, access) at c.access.ensures.answer in
    let now : IsWithin c.self.inside.size c.probed-stay.result = rw (c.probed-stay.ensures, got) (within_next c.self.inside.size stay c.self.inside.bits c.self.invariant.first c.in_ok-next.ensures.range) in
    let after : c.access.new.self ≡ after_access c.self.inside.bits (probe_access c.self.inside.size stay) = rw (c.unwrap-got.ensures, access) at c.access.ensures.after in
    let below_then : AreSetBelow c.self.inside.low c.access.new.self = rw after (set_below_probe c.self.inside.bits c.self.inside.low c.self.inside.size stay c.self.invariant.below) in
    rw c.put.ensures (record {
      first = c.self.invariant.first;
      last = c.self.invariant.last;
      top = c.self.invariant.top;
      low_first = c.self.invariant.low_first;
      low_last = c.self.invariant.low_last;
      below = below_then;
      stays = stays_put c.self.inside.size c.args.id c.probed-stay.result c.self.inside.competitors.competitors now all;
    })

pub returns : goal.returns
returns g c =
    let f = c.in_ok-next.ensures.seeks in
    let next = c.in_ok-next.next in
    let stay = Seeking next in
    let m : c.self.inside.bits ≡ c.args.self.now.bits = ap (λ w. w.bits) c.self.view_is in
    let z : c.self.inside.size ≡ c.args.self.now.size = ap (λ w. w.size) c.self.view_is in
    let k : c.self.inside.competitors.most ≡ c.args.self.now.most = ap (λ w. w.most) c.self.view_is in
    let v : c.self.inside.competitors.competitors ≡ c.args.self.now.competitors = ap (λ w. w.competitors) c.self.view_is in
    let access : c.probe_access.result ≡ probe_access c.self.inside.size stay = c.probe_access.ensures in
    let got = rw (c.unwrap-got.ensures, access, m, z) at c.access.ensures.answer in
    let bits : c.access.new.self ≡ after_access c.args.self.now.bits (probe_access c.args.self.now.size stay) = rw (c.unwrap-got.ensures, access, m, z) at c.access.ensures.after in
    let probed : c.probed-stay.result ≡ stay_probed c.args.self.now.size stay (got_by c.args.self.now stay) = rw (got, z) at c.probed-stay.ensures in
    let answer : Ok c.probe_reply.result ≡ probe_answer c.args.self.now c.args.id = ap Ok (c.probe_reply.ensures ∙ ap probe_reply probed)
    ∙ sym (going_answer c.args.self.now c.args.id next f) in
    let new : PoolState = record { most = c.put.new.self.most; size = c.self.inside.size; bits = c.access.new.self; competitors = c.put.new.self.competitors } in
    let state : new ≡ after_probe c.args.self.now c.args.id = rw (going_after c.args.self.now c.args.id next f) (rw (c.put.ensures, bits, k, z, v, probed) refl) in
    record {
      answer = answer;
      state = state;
      unchanged_on_error = tt;
      after = pool_proved.call c.args.self.now new (Probed c.args.id (Ok c.probe_reply.result)) state answer;
      law = pool_law _;
      local = rw (state, answer) (probe_local c.args.id c.args.self.now);
      alike = λ other h. answer ∙ probe_alike c.args.id c.args.self.now other h;
      stands_alike = λ other h. ap (λ (w : PoolState). stay_of c.args.id w.competitors) state ∙ probe_stands c.args.id c.args.self.now other h;
    }
