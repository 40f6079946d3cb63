-- the frame of a step: a participant reads of the others one register alone, and changes of the world nothing but what
-- it writes (this project's profile)
use Rattle.std.specs.Prelude.{◌≡◌, ◌≢◌, ℕ, Option, Some, None, Result, IfOk, OnOk}
use Rattle.model_steps.specs.declared.access.Access.{Access}
use Rattle.model_steps.specs.declared.access.Answer.{Answer}
use Rattle.model_steps.specs.declared.refusal.Refusal.{Refusal}
use Rattle.model_steps.specs.Participant.{participant_of, program_of}
use Rattle.model_steps.specs.Steps.{Spares, answer_from}
use Rattle.model_snapshot.specs.declared.client.Client.{Client}
use Rattle.model_snapshot.specs.Client.{scanning, updating}
use Rattle.model_snapshot.specs.Places.{KnownPlaces}
use Rattle.model_snapshot.specs.SnapWorld.{clients_over, reported, scan_refusal_by, update_refusal_by}
use Rattle.model_renaming.specs.Reply.{StepReply}
use Rattle.model_renaming.specs.declared.round.Follow.{Follow}
use Rattle.model_renaming.specs.declared.round.Round.{Round}
use Rattle.model_renaming.specs.declared.round.Wish.{Wish}
use Rattle.model_renaming.specs.declared.round.Wish.TheVariants.{Nothing, Update, Scan}
use Rattle.model_renaming.specs.RenameState.{RenameState}
use Rattle.model_renaming.specs.Round.{followed}

-- the local state of an identity: what it does in the snapshot object, and its round
abbrev pub client_of : {S U K : Type 0} → ℕ → RenameState S U K → Option (Client U K)
client_of p w = program_of p w.snap.participants

abbrev pub round_of : {S U K : Type 0} → ℕ → RenameState S U K → Option Round
round_of p w = program_of p w.rounds

-- it is asked for something, unless that is refused
abbrev pub asked_unless : {U K : Type 0} → Option Refusal → Client U K → Client U K → Client U K
asked_unless None c asked = asked
asked_unless (Some why) c asked = c

abbrev pub wished : {U K : Type 0} → Wish → Client U K → Client U K
wished Nothing c = c
wished (Update value) c = asked_unless (update_refusal_by (Some c)) c (updating c value)
wished Scan c = asked_unless (scan_refusal_by (Some c)) c (scanning c)

module _ {S R V U K : Type 0} (W : KnownPlaces S R V U K) where
  -- the one access of its next step, and what the memory answers
  abbrev pub access_of : Client U K → Access R V
  access_of c = (clients_over W).next c

  abbrev pub got_in : S → Client U K → Answer V
  got_in s c = answer_from (W.memory.register s) (access_of c)

  -- what follows the answer: reply and round, and what the client becomes
  abbrev pub follow_by : ℕ → ℕ → Client U K → Round → Answer V → Follow
  follow_by p limit c r got = followed r p (reported ((clients_over W).note c got)) limit

  abbrev pub client_by : ℕ → ℕ → Client U K → Round → Answer V → Client U K
  client_by p limit c r got = wished (follow_by p limit c r got).wish ((clients_over W).resumed c got)

  -- an accepted step of p makes the one access that p's own client names. Its reply and p's new local state are
  -- functions of p's local state, the round limit and the answer. Nothing else changes
  pub record ChangesOnly (p : ℕ) (old new : RenameState S U K) (result : Result StepReply Refusal) : Type 0 where
    pub access : (c : Client U K) → client_of p old ≡ Some c → OnOk result (new.snap.memory ≡ W.memory.after old.snap.memory (access_of c))
    pub reply : (c : Client U K) (r : Round) → client_of p old ≡ Some c → round_of p old ≡ Some r → IfOk result (λ x. x ≡ (follow_by p old.limit c r (got_in old.snap.memory c)).reply)
    pub client : (c : Client U K) (r : Round) → client_of p old ≡ Some c → round_of p old ≡ Some r → OnOk result (client_of p new ≡ Some (client_by p old.limit c r (got_in old.snap.memory c)))
    pub round : (c : Client U K) (r : Round) → client_of p old ≡ Some c → round_of p old ≡ Some r → OnOk result (round_of p new ≡ Some (follow_by p old.limit c r (got_in old.snap.memory c)).round)
    pub others : (q : ℕ) → q ≢ p → (participant_of q new.snap.participants ≡ participant_of q old.snap.participants) × (participant_of q new.rounds ≡ participant_of q old.rounds)
    pub registers : (c : Client U K) → client_of p old ≡ Some c → (x : R) → Spares (access_of c) x → W.memory.register new.snap.memory x ≡ W.memory.register old.snap.memory x
    pub most : new.snap.most ≡ old.snap.most
    pub limit : new.limit ≡ old.limit
