-- The names that several proofs of this crate cite, passed on from one place. Declares nothing.
pub use Rattle.std.proofs.lemmas.Bool.Decides.{eqb_tells, leb_tells}
pub use Rattle.std.proofs.lemmas.Bool.{false≢true, eq-eqb, cases_Bool, ne_eqb, ltb-true, ltb-false, lt-ltb}
pub use Rattle.std.specs.List.{list_any}
pub use Rattle.std.proofs.lemmas.List.{get_or-set_same, get_or-set_other, length-set}
pub use Rattle.std.specs.Option.{option_copied}
pub use Rattle.std.specs.Cmp.Lexicographic.{pointwise}
pub use Rattle.std.specs.HashMap.{get}
pub use Rattle.std.proofs.Math.Path.{fun_ext}
pub use Rattle.model_steps.specs.declared.participant.Participant.{Participant}
pub use Rattle.model_steps.specs.Participant.{participant_of, program_of, AreDistinct, beginner, with_participant}
pub use Rattle.model_steps.specs.View.{IsRising, value_of, inserted}
pub use Rattle.model_steps.proofs.cited.ViewLemmas.{IsRising-inserted, value_of-inserted}
pub use Rattle.model_steps.specs.Calls.Call.{Began}
pub use Rattle.model_steps.specs.SetAt.{set_at}
pub use Rattle.model_steps.proofs.cited.SetAtLemmas.{set_at-same, set_at-other, set_at-cases, set_at-is, set_at-map}
pub use Rattle.model_snapshot.specs.Snapshot.{IsMoment}
pub use Rattle.model_renaming.specs.RenameObject.{RenameTerms, RenameObject, IsRecent, IsConflict, IsSole, IsFreeName, ShowsConflict, ShowsSole}
pub use Rattle.model_pool.specs.Calls.Call.{Entered, Probed, Left}
pub use Rattle.model_pool.proofs.cited.PoolKeeps.{may_widen}
pub use Rattle.model_pool.specs.slots.SlotCalls.SlotCall.{Pooled}
pub use Rattle.text_checker.specs.declared.judges.names.Names.{Names}
pub use Rattle.text_checker.specs.declared.judges.standing.Standing.{Standing}
pub use Rattle.text_checker.specs.declared.judges.standing.Turn.{Turn}
pub use Rattle.text_checker.specs.judges.Moments.{crowded, SomeSince, turned_at, HoldsMoments, IsPast}
pub use Rattle.text_checker.specs.judges.Standing.{turn_of, count_of, since_of, reported_in, Stands, HoldsNames, turns_in, is_held, place_of, number_reported, HoldsTurns}
pub use Rattle.text_checker.specs.judges.Named.{MayBeNamed}
pub use Rattle.text_checker.specs.declared.judges.firsts.Firsts.{Firsts}
pub use Rattle.text_checker.specs.declared.judges.moments.Moments.{Moments}
pub use Rattle.text_checker.specs.judges.Rows.{HasPair, LacksPair, IsRowOf, TellsMoments, TellsSince}
