-- a desk that refuses an event, failed allocations aside, stays as it is
use Rattle.std.proofs.Common.{◌≡◌, ℕ, List, Bool, true, false, cond, Option, Some, None, Result, Ok, Err, refl, ap}
use Rattle.service_hall.proofs.Common.{Refusal, Event, desk_refusal, desk_after, DeskValue, OverGrid, OverTree}
use Rattle.model_steps.specs.Calls.{lacked_memory}
use Rattle.model_snapshot.specs.Places.{KnownPlaces}
use Rattle.model_renaming.specs.over.GridTies.{grid_places}
use Rattle.model_renaming.specs.over.TreeTies.{tree_places}
use Rattle.model_renaming.specs.declared.round.Round.{Round}
use Rattle.model_renaming.specs.RenameState.{RenameState}
use Rattle.model_renaming.specs.RenameWorld.{begun_unless, refusal_by, after_by, after_open, rename_answer, after_rename_step}
use Rattle.model_pool.specs.declared.stay.Stay.{Stay}
use Rattle.model_pool.specs.declared.stay.Stay.TheVariants.{Seeking, Settled}
use Rattle.model_pool.specs.Competitors.{stay_of}
use Rattle.model_pool.specs.Sought.{after_seek_by}
use Rattle.model_pool.specs.Pool.{entered_unless, probe_refusal_by, after_probe_by, number_by, after_leave_by, widened_unless}
use Rattle.model_pool.specs.PoolState.{PoolState}
use Rattle.model_pool.specs.slots.Slots.{stored_in, extended_in}
use Rattle.model_steps.specs.Participant.{program_of}
use Rattle.model_steps.specs.World.{done_unless}
use Rattle.model_asked.specs.declared.event.Event.TheVariants.{Begin, Step, Enter, Probe, Seek, Leave, Put, Get, Widen}
use Rattle.text_worlds.specs.desk.DeskRules.{refusal_of, refusal_over, after_over}
use Rattle.text_worlds.specs.desk.DeskState.{DeskState}

either : {T : Type 0} (b : Bool) (w u : T) → u ≡ w → cond b w u ≡ w
either true w u same = refl
either false w u same = same

probed : (w : PoolState) (p : ℕ) (stay : Option Stay) (why : Refusal) → probe_refusal_by stay ≡ Some why → after_probe_by w p stay ≡ w
probed w p None why is = refl
probed w p (Some (Seeking next)) why is = cc
probed w p (Some (Settled number)) why is = refl

sought : (w : PoolState) (p : ℕ) (stay : Option Stay) (why : Refusal) → probe_refusal_by stay ≡ Some why → after_seek_by w p stay ≡ w
sought w p None why is = refl
sought w p (Some (Seeking next)) why is = cc
sought w p (Some (Settled number)) why is = refl

left : (w : PoolState) (p : ℕ) (stay : Option Stay) (why : Refusal) → refusal_of (number_by stay) ≡ Some why → after_leave_by w p stay ≡ w
left w p None why is = refl
left w p (Some (Seeking next)) why is = refl
left w p (Some (Settled number)) why is = cc

stored : {T : Type 0} (number : Result ℕ Refusal) (value : T) (values : List T) (why : Refusal) → refusal_of number ≡ Some why → stored_in number value values ≡ values
stored (Ok number) value values why is = cc
stored (Err due) value values why is = refl

module _ {S R V U K : Type 0} (W : KnownPlaces S R V U K) where
  stepped : (w : RenameState S U K) (p : ℕ) (r : Option Round) (why : Refusal) → refusal_by r ≡ Some why → after_by W w p r ≡ w
  stepped w p None why is = refl
  stepped w p (Some r) why is = ap (λ o. after_open W w p r o) is

  with_pool : (w : DeskState S U K) {pool : PoolState} → pool ≡ w.slots.pool → (let d : DeskState S U K = record { names = w.names; slots = record { pool = pool; values = w.slots.values } } in d) ≡ w
  with_pool w is = ap (λ (q : PoolState). let d : DeskState S U K = record { names = w.names; slots = record { pool = q; values = w.slots.values } } in d) is

  with_values : (w : DeskState S U K) {values : List ℕ} → values ≡ w.slots.values → (let d : DeskState S U K = record { names = w.names; slots = record { pool = w.slots.pool; values = values } } in d) ≡ w
  with_values w is = ap (λ (vs : List ℕ). let d : DeskState S U K = record { names = w.names; slots = record { pool = w.slots.pool; values = vs } } in d) is

  stays_over : (w : DeskState S U K) (e : Event) (why : Refusal) → refusal_over w e ≡ Some why → after_over W w e ≡ w
  stays_over w (Begin p) why is = ap (λ (n : RenameState S U K). let d : DeskState S U K = record { names = n; slots = w.slots } in d) (ap (λ o. begun_unless W o w.names p) is)
  stays_over w (Step p) why is = ap (λ (n : RenameState S U K). let d : DeskState S U K = record { names = n; slots = w.slots } in d)
      (either (lacked_memory (rename_answer W w.names p)) w.names (after_rename_step W w.names p) (stepped w.names p (program_of p w.names.rounds) why is))
  stays_over w (Enter p) why is = with_pool w (ap (λ o. entered_unless o w.slots.pool p) is)
  stays_over w (Probe p) why is = with_pool w (probed w.slots.pool p (stay_of p w.slots.pool.competitors) why is)
  stays_over w (Seek p) why is = with_pool w (sought w.slots.pool p (stay_of p w.slots.pool.competitors) why is)
  stays_over w (Leave p) why is = with_pool w (left w.slots.pool p (stay_of p w.slots.pool.competitors) why is)
  stays_over w (Put p value) why is = with_values w (stored (number_by (stay_of p w.slots.pool.competitors)) value w.slots.values why is)
  stays_over w (Get p) why is = refl
  stays_over w (Widen more) why is =
      ap (λ (o : Option Refusal). let d : DeskState S U K = record { names = w.names; slots = record { pool = widened_unless o w.slots.pool more; values = extended_in (done_unless o) more 0 w.slots.values } } in d) is

pub stays : (w : DeskValue) (e : Event) (why : Refusal) → desk_refusal w e ≡ Some why → desk_after w e ≡ w
stays (OverGrid w) e why is = ap OverGrid (stays_over grid_places w e why is)
stays (OverTree w) e why is = ap OverTree (stays_over tree_places w e why is)
