-- how many may take part
use Rattle.std.proofs.Common.{◌≡◌, ◌≤◌, true, refl, arith}
use Rattle.model_asked.specs.Config.{facts_of, most_in, is_played_over, IsOverGrid}
use Rattle.model_asked.specs.declared.kind.WorldKind.{WorldKind}
use Rattle.model_asked.specs.declared.kind.WorldKind.TheVariants.{Splitter, Grid, Rename, Tree, Wide}
use Rattle.model_asked.specs.declared.config.Config.{Config}

-- under no config more than a view has room for
pub few_take_part : (c : Config) → c.m ≤ 64
few_take_part c = let fits = c.in_range in let few = (facts_of c.world).few in omega arith

-- and as many in the world of the places as in one that is played over them
pub most_played : (kind served : WorldKind) → is_played_over kind served ≡ true → most_in kind ≡ most_in served
most_played Splitter served h = absurd (cc)
most_played Grid served h = absurd (cc)
most_played Rename Tree h = absurd (cc)
most_played Rename served h = refl
most_played Wide Tree h = absurd (cc)
most_played Wide served h = refl
most_played Tree Tree h = refl
most_played Tree served h = absurd (cc)

-- under no config more numbers than any pool may get
pub few_numbers : (c : Config) → c.k ≤ 65536
few_numbers c = let fits = c.in_range in let few = (facts_of c.world).numbers in omega arith

-- as many take part in each world over a grid
pub grid_most : (kind : WorldKind) → IsOverGrid kind → most_in kind ≡ most_in Rename
grid_most Splitter over = absurd (let none = over.0 in cc)
grid_most Grid over = absurd (let none = over.0 in cc)
grid_most Rename over = refl
grid_most Tree over = absurd (let none = over.1 in cc)
grid_most Wide over = refl
