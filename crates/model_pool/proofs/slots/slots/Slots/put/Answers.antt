use Rattle.std.proofs.Common.{rules, ◌≡◌, ℕ, ◌≤◌, Ok, length, ap, ◌∙◌, arith}
use Rattle.model_pool.proofs.slots_lemmas.Common.{number_answer, Stored, stored_reply, after_put, call_leads_on, slots}
use Rattle.model_pool.proofs.slots_lemmas.SlotLemmas.{changes_own}
use Rattle.model_pool.proofs.cited.slots.SlotsKeep.{slots_law}
use Rattle.model_pool.proofs.slots.slots.Slots.put.Goals as goal

pub returns-in_err-number-clause-after : goal.returns-in_err-number-clause-after
returns-in_err-number-clause-after g c =
    let reply : c.from_residual.result ≡ stored_reply (number_answer c.args.self.now.pool c.args.id) = search rules in
    let state : c.args.self.now ≡ after_put c.args.self.now c.args.id c.args.value = search rules in
    call_leads_on slots c.args.self.now c.args.self.now (Stored c.args.id c.args.value c.from_residual.result) state reply

pub returns-clause-answer : goal.returns-clause-answer
returns-clause-answer g c = search rules

pub returns-clause-state : goal.returns-clause-state
returns-clause-state g c = search rules

pub returns-clause-changes : goal.returns-clause-changes
returns-clause-changes g c =
    let p : c.self.inside.pool ≡ c.args.self.now.pool = ap (λ s. s.pool) c.self.view_is in
    let v : c.self.inside.values.items ≡ c.args.self.now.values = ap (λ s. s.values) c.self.view_is in
    let held : Ok c.in_ok-number.number ≡ number_answer c.args.self.now.pool c.args.id = rw p at c.in_ok-number.ensures.answer in
    let within : (n : ℕ) → number_answer c.args.self.now.pool c.args.id ≡ Ok n → (1 ≤ n) × (n ≤ length c.args.self.now.values) = λ n h.
    let e : c.in_ok-number.number ≡ n = (let k : Ok c.in_ok-number.number ≡ Ok n = held ∙ h in cc) in
    let low : 1 ≤ c.in_ok-number.number = c.in_ok-number.ensures.range.0 in
    let high : c.in_ok-number.number ≤ c.self.inside.pool.size = c.in_ok-number.ensures.range.1 in
    (omega (arith, e, low), omega (arith, e, high, c.self.invariant.0, c.self.inside.values.ok.0, ap length v))
    in
    rw (returns-clause-state g c) (changes_own c.args.self.now c.args.id c.args.value within)

pub returns-clause-after : goal.returns-clause-after
returns-clause-after g c =
    call_leads_on slots c.args.self.now _ (Stored c.args.id c.args.value (Ok tt)) (returns-clause-state g c) (returns-clause-answer g c)

pub returns-in_err-number-clause-law : goal.returns-in_err-number-clause-law
returns-in_err-number-clause-law g c = slots_law _

pub returns-clause-law : goal.returns-clause-law
returns-clause-law g c = slots_law _
