-- what a contract sees of a world
use Rattle.std.specs.Prelude.{ℕ, List}
use Rattle.model_steps.specs.declared.participant.Participant.{Participant}

-- the memory, the most participants, and the participants in the order in which they began
pub record WorldState (S P : Type 0) : Type 0 where
  pub memory : S
  pub most : ℕ
  pub participants : List (Participant P)
