use Rattle.std.proofs.Common.{rules, ◌≡◌, Ok, length, ap, arith}
use Rattle.model_pool.proofs.slots_lemmas.Common.{widen_answer, SlotsState, Extended, after_extend, call_leads_on, slots}
use Rattle.model_pool.proofs.slots_lemmas.SlotLemmas.{fills_new}
use Rattle.model_pool.proofs.cited.slots.SlotsKeep.{slots_law}
use Rattle.model_pool.proofs.slots.slots.Slots.widen.Goals as goal

pub returns-in_err-widen-clause-after : goal.returns-in_err-widen-clause-after
returns-in_err-widen-clause-after g c =
    let new : SlotsState g.row.T.Denot = record { pool = c.widen.new.self; values = c.self.inside.values.items } in
    let state : new ≡ after_extend c.args.self.now c.args.size c.args.value = search rules in
    let reply : c.from_residual.result ≡ widen_answer c.args.self.now.pool c.args.size = search rules in
    call_leads_on slots c.args.self.now new (Extended c.args.size c.args.value c.from_residual.result) state reply

pub returns-clause-answer : goal.returns-clause-answer
returns-clause-answer g c = search rules

pub returns-clause-state : goal.returns-clause-state
returns-clause-state g c = search rules

pub returns-clause-fills : goal.returns-clause-fills
returns-clause-fills g c =
    let p : c.self.inside.pool ≡ c.args.self.now.pool = ap (λ s. s.pool) c.self.view_is in
    let v : c.self.inside.values.items ≡ c.args.self.now.values = ap (λ s. s.values) c.self.view_is in
    let many : length c.args.self.now.values ≡ c.args.self.now.pool.size = omega (arith, c.self.invariant.0, c.self.inside.values.ok.0, ap length v, ap (λ w. w.size) p) in
    rw (returns-clause-state g c) (fills_new c.args.self.now c.args.size c.args.value many (returns-clause-answer g c))

pub returns-clause-after : goal.returns-clause-after
returns-clause-after g c =
    call_leads_on slots c.args.self.now _ (Extended c.args.size c.args.value (Ok tt)) (returns-clause-state g c) (returns-clause-answer g c)

pub returns-in_err-widen-clause-law : goal.returns-in_err-widen-clause-law
returns-in_err-widen-clause-law g c = slots_law _

pub returns-clause-law : goal.returns-clause-law
returns-clause-law g c = slots_law _
