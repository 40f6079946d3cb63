use Rattle.std.proofs.Common.{rules, ◌≡◌, ◌-◌, ◌≤◌, ◌<◌, Ok, Some, Result, length, get_or, refl, ap, arith, slice_get}
use Rattle.model_pool.proofs.slots_lemmas.Common.{Refusal, number_answer, Fetched, IsFetched, call_leads_on, slots}
use Rattle.std.proofs.lemmas.Option.{slice_get_read}
use Rattle.std.specs.Result.{result_map_both}
use Rattle.model_pool.proofs.cited.slots.SlotsKeep.{slots_law}
use Rattle.model_pool.proofs.slots.slots.Slots.get.Goals as goal

pub returns-in_err-number-clause-after : goal.returns-in_err-number-clause-after
returns-in_err-number-clause-after g c =
    let reply : Result g.row.T.Denot Refusal = result_map_both (λ value. value.now) (λ refusal. refusal) c.from_residual.result in
    let is : IsFetched c.args.self.now.values (number_answer c.args.self.now.pool c.args.id) reply = search rules in
    call_leads_on slots c.args.self.now c.args.self.now (Fetched c.args.id reply) refl is

pub returns-clause-answer : goal.returns-clause-answer
returns-clause-answer g c =
    let p : c.self.inside.pool ≡ c.args.self.now.pool = ap (λ s. s.pool) c.self.view_is in
    let v : c.self.inside.values.items ≡ c.args.self.now.values = ap (λ s. s.values) c.self.view_is in
    let held : Ok c.in_ok-number.number ≡ number_answer c.args.self.now.pool c.args.id = rw p at c.in_ok-number.ensures.answer in
    let low : 1 ≤ c.in_ok-number.number = c.in_ok-number.ensures.range.0 in
    let high : c.in_ok-number.number ≤ c.self.inside.pool.size = c.in_ok-number.ensures.range.1 in
    let inside : c.in_ok-number.number - 1 < length c.args.self.now.values = omega (arith, low, high, c.self.invariant.0, c.self.inside.values.ok.0, ap length v) in
    let read : c.index.result.now ≡ get_or c.args.self.now.values (c.in_ok-number.number - 1) c.index.result.now = rw v at c.index.ensures in
    let at : slice_get c.args.self.now.values (c.in_ok-number.number - 1) ≡ Some c.index.result.now = slice_get_read c.args.self.now.values (length c.args.self.now.values) (c.in_ok-number.number - 1) c.index.result.now refl inside read in
    rw (← held) at

pub returns-clause-after : goal.returns-clause-after
returns-clause-after g c =
    call_leads_on slots c.args.self.now c.args.self.now (Fetched c.args.id (Ok c.index.result.now)) refl (returns-clause-answer g c)

pub returns-in_err-number-clause-law : goal.returns-in_err-number-clause-law
returns-in_err-number-clause-law g c = slots_law _

pub returns-clause-law : goal.returns-clause-law
returns-clause-law g c = slots_law _
