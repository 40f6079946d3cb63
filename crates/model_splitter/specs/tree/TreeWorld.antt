-- the replies of a tree's world, and its state after each call
use Rattle.std.specs.Prelude.{◌≡◌, ◌≢◌, option_and_then, ℕ, Bool, if◌then◌else◌, List, Option, Some, None, Result, Err}
use Rattle.model_steps.specs.declared.refusal.Refusal.{Refusal}
use Rattle.model_steps.specs.declared.refusal.Refusal.TheVariants.{AlreadyBegun, NotBegun, Finished}
use Rattle.model_steps.specs.Participant.{participant_of, program_of}
use Rattle.model_steps.specs.Steps.{MemorySteps}
use Rattle.model_steps.specs.WorldState.{WorldState}
use Rattle.model_steps.specs.World.{after_begin, after_set, step_answer, after_step, may_refuse_step}
use Rattle.model_steps.specs.Calls.{reply_of}
use Rattle.model_splitter.specs.declared.tree.register.TreeRegister.{TreeRegister}
use Rattle.model_splitter.specs.declared.tree.register.TreeRegister.TheVariants.{Contents}
use Rattle.model_splitter.specs.declared.tree.register.TreeValue.{TreeValue}
use Rattle.model_splitter.specs.declared.tree.client.Client.{Client}
use Rattle.model_splitter.specs.declared.tree.client.Task.{Task}
use Rattle.model_splitter.specs.tree.Walk.{place_of}
use Rattle.model_splitter.specs.tree.Client.{client_of, client_steps, is_placing, is_idle, is_collecting, storing, collecting, place_reported, view_reported}

-- a memory of type S, the most participants, and the participants
abbrev pub TreeState : Type 0 → Type 0
TreeState S = WorldState S Client

-- why a call is refused that only a participant with such a task may make
abbrev pub refusal_unless : (Task → Bool) → Refusal → Option Client → Option Refusal
refusal_unless fits wrong None = Some NotBegun
refusal_unless fits wrong (Some c) = if fits c.task then None else Some wrong

module _ {S : Type 0} where
  -- why `store` and `collect_begin` are refused
  abbrev pub asking_refusal : TreeState S → ℕ → Option Refusal
  asking_refusal w id = refusal_unless is_idle AlreadyBegun (program_of id w.participants)

  abbrev pub after_tree_begin : TreeState S → ℕ → TreeState S
  after_tree_begin w id = after_begin w id (client_of id)

  abbrev pub after_collect_begin_by : TreeState S → ℕ → Option Client → TreeState S
  after_collect_begin_by w id None = w
  after_collect_begin_by w id (Some c) = if is_idle c.task then after_set w id (collecting c) else w

  -- the world after `collect_begin`, which makes no access
  abbrev pub after_collect_begin : TreeState S → ℕ → TreeState S
  after_collect_begin w id = after_collect_begin_by w id (program_of id w.participants)

module _ {S : Type 0} (memory : MemorySteps S TreeRegister TreeValue) where
  abbrev pub place_answer_by : TreeState S → ℕ → Option Client → Result (Option ℕ) Refusal
  place_answer_by w id None = Err NotBegun
  place_answer_by w id (Some c) = if is_placing c.task then reply_of place_reported (step_answer client_steps memory w id) else Err Finished

  abbrev pub after_placing_by : TreeState S → ℕ → Option Client → TreeState S
  after_placing_by w id None = w
  after_placing_by w id (Some c) = if is_placing c.task then after_step client_steps memory w id else w

  -- the reply of `step` if no allocation fails, and the world after it
  abbrev pub place_answer : TreeState S → ℕ → Result (Option ℕ) Refusal
  place_answer w id = place_answer_by w id (program_of id w.participants)

  abbrev pub after_placing : TreeState S → ℕ → TreeState S
  after_placing w id = after_placing_by w id (program_of id w.participants)

  -- whether a step of the placing may be refused because an allocation failed
  abbrev pub may_lack_memory : TreeState S → ℕ → Bool
  may_lack_memory w id = may_refuse_step client_steps memory w id

  abbrev pub after_store_by : TreeState S → ℕ → ℕ → Option Client → TreeState S
  after_store_by w id value None = w
  after_store_by w id value (Some c) = if is_idle c.task then after_step client_steps memory (after_set w id (storing c value)) id else w

  -- the world after `store`, which is one write
  abbrev pub after_store : TreeState S → ℕ → ℕ → TreeState S
  after_store w id value = after_store_by w id value (program_of id w.participants)

  abbrev pub view_answer_by : TreeState S → ℕ → Option Client → Result (Option (List (ℕ × ℕ))) Refusal
  view_answer_by w id None = Err NotBegun
  view_answer_by w id (Some c) = if is_collecting c.task then reply_of view_reported (step_answer client_steps memory w id) else Err Finished

  abbrev pub after_collecting_by : TreeState S → ℕ → Option Client → TreeState S
  after_collecting_by w id None = w
  after_collecting_by w id (Some c) = if is_collecting c.task then after_step client_steps memory w id else w

  -- what `collect_step` answers, and the world after it
  abbrev pub view_answer : TreeState S → ℕ → Result (Option (List (ℕ × ℕ))) Refusal
  view_answer w id = view_answer_by w id (program_of id w.participants)

  abbrev pub after_collecting : TreeState S → ℕ → TreeState S
  after_collecting w id = after_collecting_by w id (program_of id w.participants)

  -- nothing of the world changes but participant p and the segment at its place
  pub record ChangesOnlyStore (p : ℕ) (old new : TreeState S) : Type 0 where
    pub most : new.most ≡ old.most
    pub others : (q : ℕ) → q ≢ p → participant_of q new.participants ≡ participant_of q old.participants
    pub registers : (r : TreeRegister) → ((place : ℕ) → option_and_then (λ c. place_of c.walker) (program_of p old.participants) ≡ Some place → r ≢ Contents place) → memory.register new.memory r ≡ memory.register old.memory r
