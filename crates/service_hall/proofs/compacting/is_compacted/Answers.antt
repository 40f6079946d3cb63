use Rattle.std.proofs.Common.{rules, sym, ◌∙◌}
use Rattle.service_hall.proofs.compacting.is_compacted.Goals as goal

pub compare-requires : goal.compare-requires
compare-requires c = sym c.config-one.ensures.config ∙ (c.is_same_config.ensures c.if-not-is_same_config.false ∙ c.config-other.ensures.config)

pub returns : goal.returns
returns c = λ yes. record {
  config = sym c.config-one.ensures.config ∙ (c.is_same_config.ensures c.if-not-is_same_config.false ∙ c.config-other.ensures.config);
  lawful = c.config-one.ensures.lawful;
  desk = c.in-Ok.ensures.desk;
  renaming = c.in-Ok.ensures.renaming;
  fewer = search rules;
}
