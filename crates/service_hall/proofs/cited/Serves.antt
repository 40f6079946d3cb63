-- what a hall answers in turn
use Rattle.std.proofs.Common.{◌≡◌, ℕ, ◌⊎◌, ◌++◌, nat_le, arith, Bool, true, false, cond, inl, inr, List, [], ◌∷◌, length, Option, Some, None, refl, sym, ap, subst, ◌∙◌, append_assoc}
use Rattle.service_hall.proofs.Common.{append-nil, Refusal, Config, Event, Exchange, exchange, DeskValue, ShownReply, is_refusal, Runs, Turn, exchanges, Answered, Reported, Ended, Misread, hall_of, desk_of, SatisfiesSpec, full_unless, hall_refusal, longer, reply_unless, after_unless, HallMay, HallState}
use Rattle.std.proofs.lemmas.Option.{same_Some}
use Rattle.model_steps.specs.declared.refusal.Refusal.TheVariants as refusal
use Rattle.model_asked.specs.declared.kind.WorldKind.{WorldKind}
use Rattle.model_asked.specs.declared.reply.Reply.TheVariants as reply
use Rattle.model_asked.specs.Config.{gives_names}
use Rattle.model_asked.specs.lemmas.KindProofs.{where_named}
use Rattle.text_worlds.specs.desk.Desk.{fresh_desk, desk_reply, desk_after, desk_refusal, IsFreshDesk}
use Rattle.text_worlds.specs.lemmas.desk.DeskLaws as desk
use Rattle.text_worlds.specs.DeskWorld.{DeskWorldMay, IsDeskTranscript}
use Rattle.text_worlds.specs.lemmas.DeskWorldProofs.{desk_lawful, desk_tells}
use Rattle.text_worlds.specs.IsTranscript.{IsTranscript, IsTranscriptByKind}
use Rattle.model_asked.specs.Requests.Request.{Take}
use Rattle.service_hall.specs.Serving.{HallServes, is_of_room, wants_room, with_room, accepted}
use Rattle.service_hall.proofs.cited.Histories.{grows, not_refused, refused_so, none_of_full, accepted_by}
use Rattle.service_hall.proofs.Staying.{stays}

not_wanting : (r : ShownReply) → is_refusal r ≡ false → wants_room r ≡ false
not_wanting (reply.Refused why) h = absurd (cc)
not_wanting r h = refl

-- over one event: the hall stays lawful; and room was wanting and the desk is the same, or the desk answered; the history
-- gains the event where it was accepted, and nothing else
pub record Moves (h : HallState) (e : Event) (r : ShownReply) (u : HallState) : Type 0 where
  pub lawful : SatisfiesSpec u
  pub desk : ((wants_room r ≡ true) × (desk_of u ≡ desk_of h)) ⊎ ((wants_room r ≡ false) × DeskWorldMay (desk_of h) (Take e) r (desk_of u))
  pub history : u.history ≡ h.history ++ accepted (exchange e r ∷ [])

-- where nothing else is due a hall refuses for want of room
full_is : (count : ℕ) (why : Refusal) → full_unless None count ≡ Some why → is_of_room why ≡ true
full_is count why is = by_test (nat_le 1000000 count) is where
  by_test : (b : Bool) → cond b (Some refusal.HistoryFull) None ≡ Some why → is_of_room why ≡ true
  by_test true p = ap is_of_room (sym (same_Some refusal.HistoryFull why p))
  by_test false p = absurd (cc)

module _ (h : HallState) (e : Event) (lawful : SatisfiesSpec h) where
  -- it was accepted
  moves_on : hall_refusal h e ≡ None → Moves h e (desk_reply (desk_of h) e) (longer h e)
  moves_on due =
      let free : desk_refusal (desk_of h) e ≡ None = none_of_full (desk_refusal (desk_of h) e) _ due in
      let taken : is_refusal (desk_reply (desk_of h) e) ≡ false = accepted_by (desk_reply (desk_of h) e) (λ why is. not_refused h lawful e why free is) in
      let k = grows h e (desk_reply (desk_of h) e) (desk_after (desk_of h) e) lawful due (inl (refl, refl)) taken in
      record {
        lawful = k.lawful;
        desk = inr (not_wanting (desk_reply (desk_of h) e) taken, inl (refl, sym k.desk));
        history = ap (λ b. h.history ++ cond b [] (exchange e (desk_reply (desk_of h) e) ∷ [])) (sym taken);
      }

  same_history : (r : ShownReply) → is_refusal r ≡ true → h.history ≡ h.history ++ accepted (exchange e r ∷ [])
  same_history r refused = sym (append-nil h.history) ∙ ap (λ b. h.history ++ cond b [] (exchange e r ∷ [])) (sym refused)

  -- the desk refused it
  moves_refused : (why : Refusal) → desk_refusal (desk_of h) e ≡ Some why → Moves h e (reply.Refused why) h
  moves_refused why due =
      let reported : desk_reply (desk_of h) e ≡ reply.Refused why = refused_so h lawful e why due in
      let same : desk_after (desk_of h) e ≡ desk_of h = stays (desk_of h) e why due in
      record {
        lawful = lawful;
        desk = elim (is_of_room why) as (λ b. is_of_room why ≡ b → ((b ≡ true) × (desk_of h ≡ desk_of h)) ⊎ ((b ≡ false) × DeskWorldMay (desk_of h) (Take e) (reply.Refused why) (desk_of h))) [
          | true ↦ λ is. inl (refl, refl)
          | false ↦ λ is. inr (refl, inl (sym reported, sym same))
        ] refl;
        history = same_history (reply.Refused why) refl;
      }

  -- there was no room
  moves_full : (why : Refusal) → is_of_room why ≡ true → Moves h e (reply.Refused why) h
  moves_full why is = record { lawful = lawful; desk = inl (is, refl); history = same_history (reply.Refused why) refl }

  moves_by : (o : Option Refusal) → full_unless o (length h.history) ≡ hall_refusal h e → desk_refusal (desk_of h) e ≡ o → Moves h e (reply_unless (full_unless o (length h.history)) h e) (after_unless (full_unless o (length h.history)) h e)
  moves_by (Some why) is due = moves_refused why due
  moves_by None is due = elim (full_unless None (length h.history)) as (λ p. full_unless None (length h.history) ≡ p → Moves h e (reply_unless p h e) (after_unless p h e)) [
    | None ↦ λ p. moves_on (sym is ∙ p)
    | Some why ↦ λ p. moves_full why (full_is (length h.history) why p)
  ] refl

  pub moves : (r : ShownReply) (u : HallState) → HallMay h e r u → Moves h e r u
  moves r u (inl m) = rw (m.0, m.1) (moves_by (desk_refusal (desk_of h) e) refl refl)
  moves r u (inr m) = rw (m.0, m.1) (moves_full refusal.NoMemory refl)

desk_runs : (h u : HallState) (ts : List Turn) → SatisfiesSpec h → Runs HallServes h ts u → Runs DeskWorldMay (desk_of h) (with_room ts) (desk_of u)
desk_runs h u [] lawful run = ap desk_of run
desk_runs h u (Answered x ∷ ts) lawful run =
    let one = moves h x.event lawful x.reply run.0 run.1 in
    let rest = desk_runs run.0 u ts one.lawful run.2 in
    elim one.desk [
      | inl m ↦ rw m.0 (subst (λ (w : DeskValue). Runs DeskWorldMay w (with_room ts) (desk_of u)) m.1 rest)
      | inr m ↦ rw m.0 (desk_of run.0, m.1, rest)
    ]
desk_runs h u (Reported n r ∷ ts) lawful run =
    let rest = desk_runs run.0 u ts (subst SatisfiesSpec (sym run.1.1) lawful) run.2 in
    (desk_of run.0, (run.1.0, ap desk_of run.1.1), rest)
desk_runs h u (Ended ∷ ts) lawful run = desk_runs h u ts lawful run
desk_runs h u (Misread bad ∷ ts) lawful run = desk_runs h u ts lawful run

transcript_by : (c : Config) (k : WorldKind) → gives_names k ≡ true → (w u : DeskValue) (ts : List Turn) → IsFreshDesk c w → Runs DeskWorldMay w ts u → IsTranscriptByKind k c ts
transcript_by c k named w u ts fresh run =
    let transcript : IsDeskTranscript c ts = record { run = desk_lawful c w u ts fresh run; owners = desk_tells c w u ts fresh run; could = record { start = w; last = u; is_fresh = fresh; run = run } } in
    where_named (λ (x : WorldKind). IsTranscriptByKind x c ts) k named transcript transcript transcript

-- turns of a fresh desk of a config are a transcript of it
pub transcript_of : (c : Config) → gives_names c.world ≡ true → (w : DeskValue) (ts : List Turn) → Runs DeskWorldMay (fresh_desk c) ts w → IsTranscript c ts
transcript_of c named w ts run = transcript_by c c.world named (fresh_desk c) w ts ((desk.fresh_is c (fresh_desk c)).1 (record { named = named; is = refl })) run

pub fresh_lawful : (c : Config) → gives_names c.world ≡ true → SatisfiesSpec (hall_of c [])
fresh_lawful c named = record { named = named; accepted = tt; few = (omega arith) }

pub transcript : (c : Config) → gives_names c.world ≡ true → (u : HallState) (ts : List Turn) → Runs HallServes (hall_of c []) ts u → IsTranscript c (with_room ts)
transcript c named u ts run = transcript_of c named (desk_of u) (with_room ts) (desk_runs (hall_of c []) u ts (fresh_lawful c named) run)

pub accepted-one : (x : Exchange) (xs : List Exchange) → accepted (x ∷ xs) ≡ accepted (x ∷ []) ++ accepted xs
accepted-one x xs = elim (is_refusal x.reply) as (λ b. cond b (accepted xs) (x ∷ accepted xs) ≡ cond b [] (x ∷ []) ++ accepted xs) [
  | true ↦ refl
  | false ↦ refl
]

-- the history gains the accepted events with their replies
pub history : (h u : HallState) (ts : List Turn) → SatisfiesSpec h → Runs HallServes h ts u → u.history ≡ h.history ++ accepted (exchanges ts)
history h u [] lawful run = ap (λ (v : HallState). v.history) (sym run) ∙ sym (append-nil h.history)
history h u (Answered x ∷ ts) lawful run =
    let one = moves h x.event lawful x.reply run.0 run.1 in
    let rest = history run.0 u ts one.lawful run.2 in
    rest ∙ ap (λ (l : List Exchange). l ++ accepted (exchanges ts)) one.history ∙ append_assoc h.history (accepted (x ∷ [])) (accepted (exchanges ts))
    ∙ ap (λ (l : List Exchange). h.history ++ l) (sym (accepted-one x (exchanges ts)))
history h u (Reported n r ∷ ts) lawful run =
    let rest = history run.0 u ts (subst SatisfiesSpec (sym run.1.1) lawful) run.2 in
    rest ∙ ap (λ (v : HallState). v.history ++ accepted (exchanges ts)) run.1.1
history h u (Ended ∷ ts) lawful run = history h u ts lawful run
history h u (Misread bad ∷ ts) lawful run = history h u ts lawful run
