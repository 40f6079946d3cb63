-- how a world is stored as what it is made of, for a model whose memory is a map
use Rattle.std.specs.Prelude.{ℕ, Bool, List, refl}
use Rattle.std.specs.Coded.{Coded, code_by, coded×, coded_ℕ, coded_bool, coded_list}
use Rattle.model_steps.specs.declared.participant.Participant.{Participant}
use Rattle.model_steps.specs.WorldState.{WorldState}

abbrev pub participant_code : {P : Type 0} → Coded P → Coded (Participant P)
participant_code {P} program = code_by (ℕ × (P × Bool)) (coded× coded_ℕ (coded× program coded_bool)) (λ p. (p.identity, (p.program, p.ended))) (λ t. record { identity = t.0; program = t.1.0; ended = t.1.1 }) (λ _. refl)

abbrev pub world_code : {S P : Type 0} → Coded S → Coded P → Coded (WorldState S P)
world_code {S} {P} memory program = code_by (S × (ℕ × List (Participant P))) (coded× memory (coded× coded_ℕ (coded_list (participant_code program)))) (λ w. (w.memory, (w.most, w.participants))) (λ t. record { memory = t.0; most = t.1.0; participants = t.1.1 }) (λ _. refl)
