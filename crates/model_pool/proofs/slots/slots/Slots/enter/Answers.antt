use Rattle.std.proofs.Common.{rules, ◌≡◌}
use Rattle.model_pool.proofs.slots_lemmas.Common.{Entered, SlotsState, Pooled, call_leads_on, slots, slots_next}
use Rattle.model_pool.specs.Pool.{enter_answer}
use Rattle.model_pool.proofs.cited.slots.SlotsKeep.{slots_law}
use Rattle.model_pool.proofs.slots.slots.Slots.enter.Goals as goal

pub returns-clause-after : goal.returns-clause-after
returns-clause-after g c =
    let new : SlotsState g.row.T.Denot = record { pool = c.enter.new.self; values = c.self.inside.values.items } in
    let state : new ≡ slots_next c.args.self.now (Pooled (Entered c.args.id c.enter.result)) = search rules in
    let reply : c.enter.result ≡ enter_answer c.args.self.now.pool c.args.id = search rules in
    call_leads_on slots c.args.self.now new (Pooled (Entered c.args.id c.enter.result)) state reply

pub returns-clause-law : goal.returns-clause-law
returns-clause-law g c = slots_law _
