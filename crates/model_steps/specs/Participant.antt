-- participants, by their identities
use Rattle.std.specs.Prelude.{◌≡◌, ℕ, false, List, [], ◌∷◌, ◌+◌, map, Option, Some, None, ◌==◌, if◌then◌else◌, option_map}
use Rattle.model_steps.specs.declared.access.Answer.{Answer}
use Rattle.model_steps.specs.declared.participant.Participant.{Participant}
use Rattle.model_steps.specs.Note.{ends}
use Rattle.model_steps.specs.Steps.{ProgramSteps}

-- a participant at the start of its program
abbrev pub beginner : {P : Type 0} → ℕ → P → Participant P
beginner id program = record { identity = id; program = program; ended = false }

-- the participant after this answer to its access
abbrev pub resumed : {P R V O : Type 0} → ProgramSteps P R V O → Participant P → Answer V → Participant P
resumed program p got = record { identity = p.identity; program = program.resumed p.program got; ended = ends (program.note p.program got) }

-- the index of an identity among the participants
abbrev pub index_of : {P : Type 0} → ℕ → List (Participant P) → Option ℕ
index_of id [] = None
index_of id (p ∷ ps) = if p.identity == id then Some 0 else option_map (λ k. k + 1) (index_of id ps)

-- the participant of an identity
abbrev pub participant_of : {P : Type 0} → ℕ → List (Participant P) → Option (Participant P)
participant_of id [] = None
participant_of id (p ∷ ps) = if p.identity == id then Some p else participant_of id ps

-- the program of an identity
abbrev pub program_of : {P : Type 0} → ℕ → List (Participant P) → Option P
program_of id ps = option_map (λ p. p.program) (participant_of id ps)

-- the participants, with this one in place of the one of its identity
abbrev pub with_participant : {P : Type 0} → Participant P → List (Participant P) → List (Participant P)
with_participant new [] = []
with_participant new (p ∷ ps) = if p.identity == new.identity then new ∷ ps else p ∷ with_participant new ps

-- the identities, in the order of the participants
abbrev pub identities : {P : Type 0} → List (Participant P) → List ℕ
identities ps = map (λ p. p.identity) ps

-- no identity occurs twice
abbrev pub AreDistinct : {P : Type 0} → List (Participant P) → Type 0
AreDistinct [] = Unit {0}
AreDistinct (v ∷ vs) = (participant_of v.identity vs ≡ None) × AreDistinct vs
