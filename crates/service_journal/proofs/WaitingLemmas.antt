-- an event that is accepted waits behind the others
use Rattle.std.proofs.Common.{◌≡◌, ℕ, ◌≤◌, true, false, List, [], ◌∷◌, ◌++◌, length, drop, flat_map, Option, Some, None, inl, inr, refl, ap, sym, ◌∙◌, arith, length-append}
use Rattle.service_journal.proofs.Common.{flat_map-append, Event, Exchange, exchange_line, HallState, waiting_of, write_ahead_of}
use Rattle.std.proofs.lemmas.List.{append-nil, drop-append-le}
use Rattle.model_steps.specs.declared.refusal.Refusal.{Refusal}
use Rattle.model_asked.specs.Replies.{ShownReply, is_refusal}
use Rattle.service_hall.specs.Halls.{HallMay, hall_refusal, after_unless}
use Rattle.service_hall.specs.Serving.{accepted}

-- the line of an event that was accepted waits behind those that waited
pub more_waits : (h u : HallState) (reported : ℕ) (x : Exchange) (lines : List ℕ) → lines ≡ waiting_of (write_ahead_of h reported) → reported ≤ length h.history → u.history ≡ h.history ++ x ∷ [] →
    (lines ++ exchange_line x ≡ waiting_of (write_ahead_of u reported)) × (reported ≤ length u.history)
more_waits h u reported x lines wait few is =
    let left = drop reported h.history in
    let one : flat_map exchange_line (x ∷ []) ≡ exchange_line x = append-nil (exchange_line x) in
    let all : flat_map exchange_line (left ++ x ∷ []) ≡ flat_map exchange_line left ++ exchange_line x =
    flat_map-append exchange_line left (x ∷ []) ∙ ap (λ (l : List ℕ). flat_map exchange_line left ++ l) one in
    let same : drop reported u.history ≡ left ++ x ∷ [] = ap (λ xs. drop reported xs) is ∙ drop-append-le reported h.history (x ∷ []) few in
    let many = ap length is in
    let more = length-append h.history (x ∷ []) in
    (ap (λ (l : List ℕ). l ++ exchange_line x) wait ∙ sym all ∙ ap (flat_map exchange_line) (sym same), omega arith)

-- and where it was refused nothing more does
pub same_waits : (h u : HallState) (reported : ℕ) (lines : List ℕ) → lines ≡ waiting_of (write_ahead_of h reported) → reported ≤ length h.history → u.history ≡ h.history →
    (lines ≡ waiting_of (write_ahead_of u reported)) × (reported ≤ length u.history)
same_waits h u reported lines wait few is =
    let many = ap length is in
    (wait ∙ ap (λ xs. flat_map exchange_line (drop reported xs)) (sym is), omega arith)

-- the config of a hall stays
config_unless : (o : Option Refusal) (h : HallState) (e : Event) → (after_unless o h e).config ≡ h.config
config_unless None h e = refl
config_unless (Some why) h e = refl

pub config_stays : (h u : HallState) (e : Event) (r : ShownReply) → HallMay h e r u → u.config ≡ h.config
config_stays h u e r (inl m) = ap (λ (v : HallState). v.config) m.1 ∙ config_unless (hall_refusal h e) h e
config_stays h u e r (inr m) = ap (λ (v : HallState). v.config) m.1

-- what a history gains of one exchange
pub one_accepted : (x : Exchange) → is_refusal x.reply ≡ false → accepted (x ∷ []) ≡ x ∷ []
one_accepted x h = rw h refl

pub none_accepted : (x : Exchange) → is_refusal x.reply ≡ true → accepted (x ∷ []) ≡ []
none_accepted x h = rw h refl
