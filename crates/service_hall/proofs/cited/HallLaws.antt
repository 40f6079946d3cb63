-- over an event a hall goes on lawfully
use Rattle.std.proofs.Common.{◌≡◌, [], ◌∷◌, ◌++◌, Option, Some, None, inl, inr, true, false, cond, refl, sym, ap, ◌∙◌}
use Rattle.service_hall.proofs.Common.{append-nil, Refusal, Event, exchange, ShownReply, is_refusal, hall_of, SatisfiesSpec, hall_refusal, after_unless, HallMay, HallState}
use Rattle.service_hall.specs.GoesOn.{GoesOn}
use Rattle.service_hall.proofs.cited.Serves.{Moves, moves}

config_kept : (o : Option Refusal) (h : HallState) (e : Event) → hall_of h.config (after_unless o h e).history ≡ after_unless o h e
config_kept None h e = refl
config_kept (Some why) h e = refl

-- a hall stays of its config
of_config : (h : HallState) (e : Event) (u : HallState) (r : ShownReply) → HallMay h e r u → hall_of h.config u.history ≡ u
of_config h e u r (inl m) = rw m.1 (config_kept (hall_refusal h e) h e)
of_config h e u r (inr m) = rw m.1 refl

pub goes_on : (h u : HallState) (e : Event) (r : ShownReply) → SatisfiesSpec h → HallMay h e r u → GoesOn h e r u
goes_on h u e r lawful may =
    let m : Moves h e r u = moves h e lawful r u may in
    record { lawful = m.lawful; config = sym (ap (λ (k : HallState). k.config) (of_config h e u r may)); history = m.history }

-- the history goes on by the event where it was accepted
pub goes_by : (h : HallState) (e : Event) (r : ShownReply) (u : HallState) → SatisfiesSpec h → HallMay h e r u → is_refusal r ≡ false → u.history ≡ h.history ++ exchange e r ∷ []
goes_by h e r u lawful may taken =
    let m : GoesOn h e r u = goes_on h u e r lawful may in
    m.history ∙ ap (λ b. h.history ++ cond b [] (exchange e r ∷ [])) taken

pub stays_by : (h : HallState) (e : Event) (r : ShownReply) (u : HallState) → SatisfiesSpec h → HallMay h e r u → is_refusal r ≡ true → u.history ≡ h.history
stays_by h e r u lawful may refused =
    let m : GoesOn h e r u = goes_on h u e r lawful may in
    m.history ∙ ap (λ b. h.history ++ cond b [] (exchange e r ∷ [])) refused ∙ append-nil h.history
