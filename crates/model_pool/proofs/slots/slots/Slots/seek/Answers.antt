use Rattle.std.proofs.Common.{rules, ◌≡◌}
use Rattle.model_pool.proofs.slots_lemmas.Common.{Sought, SlotsState, Pooled, call_leads_on, slots, slots_next}
use Rattle.model_pool.specs.Sought.{seek_answer}
use Rattle.model_pool.proofs.cited.slots.SlotsKeep.{slots_law}
use Rattle.model_pool.proofs.slots.slots.Slots.seek.Goals as goal

pub returns-clause-after : goal.returns-clause-after
returns-clause-after g c =
    let new : SlotsState g.row.T.Denot = record { pool = c.seek.new.self; values = c.self.inside.values.items } in
    let state : new ≡ slots_next c.args.self.now (Pooled (Sought c.args.id c.seek.result)) = search rules in
    let reply : c.seek.result ≡ seek_answer c.args.self.now.pool c.args.id = search rules in
    call_leads_on slots c.args.self.now new (Pooled (Sought c.args.id c.seek.result)) state reply

pub returns-clause-law : goal.returns-clause-law
returns-clause-law g c = slots_law _
