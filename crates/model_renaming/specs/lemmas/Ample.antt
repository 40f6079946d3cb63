-- over segments in a row, and over a grid, no step needs memory
use Rattle.std.proofs.Common.{◌≡◌, ℕ, true, false, Some, None, refl, sym, ◌∙◌, List, Option}
use Rattle.model_steps.specs.declared.access.Access.{Access}
use Rattle.model_steps.specs.Participant.{participant_of}
use Rattle.model_steps.specs.World.{may_refuse_by}
use Rattle.model_snapshot.specs.FixedTies.{fixed_places}
use Rattle.model_snapshot.specs.Places.{KnownPlaces}
use Rattle.model_snapshot.specs.SnapWorld.{SnapState, clients_over, may_lack_memory}
use Rattle.model_snapshot.specs.declared.fixed.FixedWalk.{FixedWalk}
use Rattle.model_snapshot.specs.declared.fixed.FixedWalker.{FixedWalker}
use Rattle.model_renaming.specs.over.GridState.{GridState}
use Rattle.model_renaming.specs.over.GridTies.{grid_places}
use Rattle.model_renaming.specs.declared.over.grid_walk.GridWalk.{GridWalk}
use Rattle.model_renaming.specs.declared.over.grid_walker.GridWalker.{GridWalker}
use Rattle.model_steps.specs.declared.record.Record.{Record}

-- where no access is ever refused, no step is
pub ample : {S R V U K : Type 0} (t : KnownPlaces S R V U K) → ((s : S) (a : Access R V) → t.memory.may_refuse s a ≡ false) → (s : SnapState S U K) (p : ℕ) → may_lack_memory t s p ≡ false
ample t sure s p = elim (participant_of p s.participants) as (λ z. may_refuse_by (clients_over t) t.memory s.memory z ≡ false) [
  | None ↦ refl
  | Some v ↦ elim v.ended as (λ b. may_refuse_by (clients_over t) t.memory s.memory (Some (record { identity = v.identity; program = v.program; ended = b })) ≡ false) [ true ↦ refl | false ↦ sure s.memory ((clients_over t).next v.program) ]
]

pub fixed_ample : (s : SnapState (List (Option Record)) FixedWalker FixedWalk) (p : ℕ) → may_lack_memory fixed_places s p ≡ true → false ≡ true
fixed_ample s p h = sym (ample fixed_places (λ m a. refl) s p) ∙ h

pub grid_ample : (s : SnapState GridState GridWalker GridWalk) (p : ℕ) → may_lack_memory grid_places s p ≡ true → false ≡ true
grid_ample s p h = sym (ample grid_places (λ m a. refl) s p) ∙ h
