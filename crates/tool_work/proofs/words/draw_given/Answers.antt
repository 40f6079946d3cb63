use Rattle.std.proofs.Common.{arith, sym, ◌∙◌}
use Rattle.clap.specs.Words.{found_of, rows_of}
use Rattle.tool_work.proofs.ConfigLemmas.{config_made, drawn, most_fits, unless_some, value_is}
use Rattle.tool_work.proofs.words.draw_given.Goals as goal

pub returns-in_err-seed : goal.returns-in_err-seed
returns-in_err-seed c = unless_some c.from_residual.result _ _ c.from_residual.ensures (λ given h. c.in_err-seed.ensures given.seed (let fits = given.in_range in omega arith) h.seed)

pub returns-in_err-ids : goal.returns-in_err-ids
returns-in_err-ids c = unless_some c.from_residual-in_err-ids.result _ _ c.from_residual-in_err-ids.ensures (λ given h. c.in_err-ids.ensures given.ids (let fits = given.in_range in omega arith) h.ids)

pub returns-in_err-steps : goal.returns-in_err-steps
returns-in_err-steps c = unless_some c.from_residual-in_err-steps.result _ _ c.from_residual-in_err-steps.ensures (λ given h. c.in_err-steps.ensures given.steps (let fits = given.in_range in omega arith) h.steps)

pub returns-in_err-runs : goal.returns-in_err-runs
returns-in_err-runs c = unless_some c.from_residual-in_err-runs.result _ _ c.from_residual-in_err-runs.ensures (λ given h. c.in_err-runs.ensures given.runs (let fits = given.in_range in omega arith) h.runs)

pub returns-in_err-jobs : goal.returns-in_err-jobs
returns-in_err-jobs c = unless_some c.from_residual-in_err-jobs.result _ _ c.from_residual-in_err-jobs.ensures (λ given h. c.in_err-jobs.ensures given.jobs (let fits = given.in_range in omega arith) h.jobs)

pub returns-in_err-world : goal.returns-in_err-world
returns-in_err-world c = unless_some c.from_residual-in_err-world.result _ _ c.from_residual-in_err-world.ensures (λ given h. c.in_err-world.ensures given.config.world h.world)

pub returns-in_err-m : goal.returns-in_err-m
returns-in_err-m c = unless_some c.from_residual-in_err-m.result _ _ c.from_residual-in_err-m.ensures (λ given h. c.in_err-m.ensures given.config.m (most_fits given.config) h.m)

pub returns-in_err-limit : goal.returns-in_err-limit
returns-in_err-limit c = unless_some c.from_residual-in_err-limit.result _ _ c.from_residual-in_err-limit.ensures (λ given h. c.in_err-limit.ensures given.config.limit (let fits = given.config.in_range in omega arith) h.limit)

pub returns-in_err-config : goal.returns-in_err-config
returns-in_err-config c =
    unless_some c.from_residual-in_err-config.result _ _ c.from_residual-in_err-config.ensures
    (config_made (rows_of (found_of c.args.matches.now)) c.in_ok-world.world c.in_ok-m.m c.in_ok-limit.limit c.new.result c.in_ok-world.ensures c.in_ok-m.ensures c.in_ok-limit.ensures c.new.ensures.range (sym c.ok.ensures.value ∙ c.in_err-config.was))

pub returns : goal.returns
returns c =
    drawn (rows_of (found_of c.args.matches.now)) c.in_ok-seed.seed c.in_ok-ids.ids c.in_ok-steps.steps c.in_ok-runs.runs c.in_ok-jobs.jobs c.in_ok-m.m c.in_ok-limit.limit c.in_ok-world.world c.in_ok-config.config c.new-2.result
    c.in_ok-seed.ensures c.in_ok-ids.ensures c.in_ok-steps.ensures c.in_ok-runs.ensures c.in_ok-jobs.ensures c.in_ok-world.ensures c.in_ok-m.ensures c.in_ok-limit.ensures (value_is c.new.result c.in_ok-config.config _ (sym c.ok.ensures.value ∙ c.in_ok-config.was) c.new.ensures.ok) c.new-2.ensures.values c.new-2.ensures.range
