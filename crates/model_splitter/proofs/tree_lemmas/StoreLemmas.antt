-- a store is never refused because an allocation failed, and changes nothing but its participant and the segment at its place
use Rattle.std.proofs.Common.{◌≡◌, ◌≢◌, ℕ, true, false, Option, Some, None, Result, Ok, Err, inl, inr, refl, sym, ap, ◌∙◌, is_some, option_map, option_and_then}
use Rattle.model_splitter.proofs.tree_lemmas.WorldCommon.{Note, Participant, Record, Refusal, NoMemory, participant_of, program_of, beginner, MemorySteps, set_at, participant_of-put, set_at-same, set_at-other, TreeRegister, TreeValue, Client, place_of, client_steps, storing, write_at, record_of, NodeMap, tree_steps, may_refuse}
use Rattle.model_steps.specs.declared.note.Note.TheVariants.{Said}
use Rattle.model_steps.specs.Locality.{ChangesOnly}
use Rattle.model_steps.specs.World.{after_set, step_answer, may_refuse_step}
use Rattle.model_steps.proofs.cited.StepLemmas.{lacks_or_not}
use Rattle.model_splitter.specs.declared.tree.client.TreeReply.{TreeReply}
use Rattle.model_splitter.specs.declared.tree.client.TreeReply.TheVariants.{Stored}
use Rattle.model_splitter.specs.tree.TreeWorld.{TreeState, ChangesOnlyStore}
use Rattle.model_splitter.proofs.tree_lemmas.PlacesTied.{write_spares}

there : (o : Option (Participant Client)) (c : Client) → Some c ≡ option_map (λ p. p.program) o → is_some o ≡ true
there None c h = absurd (cc)
there (Some p) c h = refl

-- who was asked to store
module _ {S : Type 0} (w : TreeState S) (id value : ℕ) (c : Client) (some : Some c ≡ program_of id w.participants) where
  asked_put : (q : ℕ) → participant_of q (after_set w id (storing c value)).participants ≡ set_at (λ u. participant_of u w.participants) id (Some (beginner id (storing c value))) q
  asked_put = participant_of-put w.participants (beginner id (storing c value)) (there (participant_of id w.participants) c some)

  asked_stands : participant_of id (after_set w id (storing c value)).participants ≡ Some (beginner id (storing c value))
  asked_stands = asked_put id ∙ set_at-same (λ v. participant_of v w.participants) id (Some (beginner id (storing c value)))

-- the write of a segment makes no node
write_fits : (m : NodeMap) (place : Option ℕ) (r : Record) → may_refuse m (write_at place r) ≡ false
write_fits m None r = refl
write_fits m (Some place) r = refl

-- so its step has no error
pub store_goes_well : (w v : TreeState NodeMap) (id value : ℕ) (c : Client) → Some c ≡ program_of id w.participants → v ≡ after_set w id (storing c value) →
    (result : Result (Note TreeReply) Refusal) (why : Refusal) → result ≡ Err why →
    (result ≢ Err NoMemory → result ≡ step_answer client_steps tree_steps v id) → (result ≡ Err NoMemory → may_refuse_step client_steps tree_steps v id ≡ true) → ⊥
store_goes_well w v id value c some e result why is answer lacks = elim (lacks_or_not result) [
  | inr goes ↦ let ok : result ≡ Ok (Said Stored) = answer goes ∙ rw (e, asked_stands w id value c some) refl in absurd (cc)
  | inl lack ↦ let never : true ≡ false = sym (lacks lack) ∙ rw (e, asked_stands w id value c some) (write_fits w.memory (place_of c.walker) (record_of c value)) in absurd (cc)
]

pub local_store : {S : Type 0} (memory : MemorySteps S TreeRegister TreeValue) (w v new : TreeState S) (id value : ℕ) (c : Client) →
    Some c ≡ program_of id w.participants → v ≡ after_set w id (storing c value) → ChangesOnly client_steps memory id v new → ChangesOnlyStore memory id w new
local_store memory w v new id value c some e local = record {
  most = local.most ∙ ap (λ u. u.most) e;
  others = λ q n. local.others q n ∙ ap (λ u. participant_of q u.participants) e ∙ asked_put w id value c some q ∙ set_at-other (λ k. participant_of k w.participants) id (Some (beginner id (storing c value))) q n;
  registers = λ r h.
      local.registers (beginner id (storing c value)) (ap (λ u. participant_of id u.participants) e ∙ asked_stands w id value c some) r
      (write_spares (place_of c.walker) (record_of c value) r (λ k is. h k (ap (option_and_then (λ d. place_of d.walker)) (sym some) ∙ is)))
      ∙ ap (λ u. memory.register u.memory r) e;
}

pub unchanged_store : {S : Type 0} (memory : MemorySteps S TreeRegister TreeValue) (w : TreeState S) (id : ℕ) → ChangesOnlyStore memory id w w
unchanged_store memory w id = record { most = refl; others = λ q n. refl; registers = λ r h. refl }
