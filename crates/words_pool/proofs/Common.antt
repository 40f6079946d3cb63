-- The names that several proofs of this crate cite, passed on from one place. Declares nothing.
pub use Rattle.std.specs.Mem.Slots.{slots_items}
pub use Rattle.atomic_table.specs.Table.{Final, Seen, State, Step, step, Allows, Joins, Splits, keeps, Me}
pub use Rattle.atomic_table.proofs.Lists.{at_last, set_again}
pub use Rattle.atomic_table.specs.Seated.{TableId}
pub use Rattle.words_pool.specs.declared.pool_view.PoolView.{PoolView}
pub use Rattle.words_pool.specs.Tally.{own, holding, sum_of, tally, one_if, if_holding, sum_below}
pub use Rattle.words_pool.specs.declared.pool_view.Call.{Call}
pub use Rattle.words_pool.specs.PoolView.{read_at, at_rest, coming, sighting, passing, taking, going, lone, view_of, no_call, united, spent, looked, looked_aside, passing_aside, swapped, swapped_hint, resting, call_of, races, past_in, call_in}
pub use Rattle.words_pool.specs.PoolSteps.{IsWordFor, Comes, Looks, Frees, LooksOn, IsUnderRule}
pub use Rattle.words_pool.specs.Pools.{set_places, PoolId, CallId}
pub use Rattle.words_pool.specs.PoolRule.{KeepsPoolRule, word_of}
pub use Rattle.words_pool.specs.declared.pool_view.CallStage.{CallStage}
pub use Rattle.words_pool.specs.declared.pool_view.CallStage.TheVariants.{AtRest, Seeking, Holding, Ended}
pub use Rattle.words_pool.specs.LineRule.{undealt, by_stage, from, rests, KeepsLine, KeepsLineRule}
pub use Rattle.words_pool.specs.NumberSteps.{KeepsSteps}
