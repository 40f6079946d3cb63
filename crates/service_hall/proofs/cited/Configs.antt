-- configs of the same world and sizes are the same: that the sizes are in range has one proof at most
use Rattle.std.proofs.Common.{◌≡◌, ◌≤◌}
use mathlib.Core.HLevel.{is_prop→PathP}
use native.Mathlib.Bridge.{le_prop}
use Rattle.model_asked.specs.Config.{most_in, numbers_in}
use Rattle.model_asked.specs.declared.config.Config.{Config}

pub same_config : (a b : Config) → a.world ≡ b.world → a.m ≡ b.m → a.k ≡ b.k → a.limit ≡ b.limit → a ≡ b
same_config a b world m k limit = λ i. record {
  world = world i;
  m = m i;
  k = k i;
  limit = limit i;
  in_range = (
    is_prop→PathP (λ j. 1 ≤ m j) (λ j. le_prop) a.in_range.0 b.in_range.0 i,
    is_prop→PathP (λ j. m j ≤ most_in (world j)) (λ j. le_prop) a.in_range.1 b.in_range.1 i,
    is_prop→PathP (λ j. 1 ≤ k j) (λ j. le_prop) a.in_range.2 b.in_range.2 i,
    is_prop→PathP (λ j. k j ≤ numbers_in (world j)) (λ j. le_prop) a.in_range.3 b.in_range.3 i,
    is_prop→PathP (λ j. 1 ≤ limit j) (λ j. le_prop) a.in_range.4 b.in_range.4 i,
    is_prop→PathP (λ j. limit j ≤ 1000000) (λ j. le_prop) a.in_range.5 b.in_range.5 i,
  );
}
