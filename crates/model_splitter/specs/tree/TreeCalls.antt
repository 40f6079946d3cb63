-- the calls of a tree's world with their replies, and the machine that they run on
use Rattle.std.specs.Prelude.{◌≡◌, ℕ, true, ◌⊎◌, List, Option, Result, Err, if◌then◌else◌}
use Rattle.model_steps.specs.declared.refusal.Refusal.{Refusal}
use Rattle.model_steps.specs.declared.refusal.Refusal.TheVariants.{NoMemory}
use Rattle.model_steps.specs.Steps.{MemorySteps}
use Rattle.model_steps.specs.World.{begin_refusal, done_unless}
use Rattle.model_steps.specs.Calls.{lacked_memory}
use Rattle.model_splitter.specs.declared.tree.register.TreeRegister.{TreeRegister}
use Rattle.model_splitter.specs.declared.tree.register.TreeValue.{TreeValue}
use Rattle.model_splitter.specs.tree.TreeWorld.{TreeState, after_tree_begin, asking_refusal, place_answer, after_placing, may_lack_memory, after_store, after_collect_begin, view_answer, after_collecting}

-- a call with its reply
pub data TreeCall : Type 0 where
  Began : ℕ → Result (Unit {0}) Refusal → TreeCall
  Stepped : ℕ → Result (Option ℕ) Refusal → TreeCall
  Stored : ℕ → ℕ → Result (Unit {0}) Refusal → TreeCall
  CollectBegan : ℕ → Result (Unit {0}) Refusal → TreeCall
  CollectStepped : ℕ → Result (Option (List (ℕ × ℕ))) Refusal → TreeCall

module _ {S : Type 0} (memory : MemorySteps S TreeRegister TreeValue) where
  -- the world after a call. A step that fails with `NoMemory` changes nothing
  abbrev pub next : TreeState S → TreeCall → TreeState S
  next w (Began id reply) = after_tree_begin w id
  next w (Stepped id reply) = if lacked_memory reply then w else after_placing memory w id
  next w (Stored id value reply) = after_store memory w id value
  next w (CollectBegan id reply) = after_collect_begin w id
  next w (CollectStepped id reply) = after_collecting memory w id

  -- the reply is the due one, or `NoMemory` at a step that may lack memory
  abbrev pub IsReply : TreeState S → TreeCall → Type 0
  IsReply w (Began id reply) = reply ≡ done_unless (begin_refusal w id)
  IsReply w (Stepped id reply) = (reply ≡ place_answer memory w id) ⊎ ((reply ≡ Err NoMemory) × (may_lack_memory memory w id ≡ true))
  IsReply w (Stored id value reply) = reply ≡ done_unless (asking_refusal w id)
  IsReply w (CollectBegan id reply) = reply ≡ done_unless (asking_refusal w id)
  IsReply w (CollectStepped id reply) = reply ≡ view_answer memory w id
