-- plain reads change nothing: a run with them is a run of the desk, and without them it is one of a hall that stores reads
use Rattle.std.proofs.Common.{◌≡◌, ◌⊎◌, ◌++◌, ℕ, Bool, true, false, inl, inr, List, [], ◌∷◌, Option, Some, None, refl, sym, ap, subst, ◌∙◌}
use Rattle.service_hall.proofs.Common.{Config, Event, Exchange, exchange, DeskValue, OverGrid, OverTree, ShownReply, Runs, Turn, exchanges, Answered, Reported, Ended, Misread, desk_of, SatisfiesSpec, HallMay, HallState, hall_of}
use Rattle.model_asked.specs.Config.{gives_names}
use Rattle.model_asked.specs.Requests.Request.{Take}
use Rattle.model_asked.specs.declared.event.Event.TheVariants.{Begin, Step, Enter, Probe, Seek, Leave, Put, Get, Widen}
use Rattle.model_pool.specs.declared.stay.Stay.{Stay}
use Rattle.model_pool.specs.declared.stay.Stay.TheVariants.{Seeking, Settled}
use Rattle.model_pool.specs.Competitors.{stay_of}
use Rattle.model_pool.specs.Pool.{number_by}
use Rattle.model_asked.specs.Replies.{value_reply}
use Rattle.text_worlds.specs.desk.Desk.{desk_reply, desk_after}
use Rattle.text_worlds.specs.desk.DeskRules.{fetched}
use Rattle.text_worlds.specs.DeskWorld.{DeskWorldMay}
use Rattle.text_worlds.specs.IsTranscript.{IsTranscript}
use Rattle.service_hall.specs.Serving.{HallServes, accepted, wants_room, with_room}
use Rattle.service_hall.specs.Reading.{IsRead, Serves, TakesBy, admitted, admitted_by, applied_if, stored, stored_by, token_put, way_of, way_of_put, way_of_read}
use Rattle.service_hall.specs.declared.rules.Rules.{Rules}
use Rattle.service_hall.specs.declared.rules.Way.{Way}
use Rattle.service_hall.specs.declared.rules.Way.TheVariants.{Applied, Read, Raised, Barred}
use Rattle.model_steps.specs.declared.refusal.Refusal.TheVariants as refusal
use Rattle.model_asked.specs.declared.reply.Reply.TheVariants as reply
use Rattle.service_hall.specs.declared.reads.Reads.{Reads}
use Rattle.service_hall.specs.declared.reads.Reads.TheVariants.{Logged, Plain}
use Rattle.service_hall.proofs.cited.Serves.{fresh_lawful, history, moves, transcript_of}
use Rattle.service_hall.proofs.cited.RaisingLemmas.{by_put}

-- a read: it changes nothing of a desk
abbrev is_read : Event → Bool
is_read (Get p) = true
is_read e = false

-- a read leaves a desk as it is, and is answered whatever room there is
desk_stays : (w : DeskValue) (e : Event) → is_read e ≡ true → desk_after w e ≡ w
desk_stays (OverGrid w) (Get p) h = refl
desk_stays (OverTree w) (Get p) h = refl
desk_stays w (Begin p) h = absurd (cc)
desk_stays w (Step p) h = absurd (cc)
desk_stays w (Enter p) h = absurd (cc)
desk_stays w (Probe p) h = absurd (cc)
desk_stays w (Seek p) h = absurd (cc)
desk_stays w (Leave p) h = absurd (cc)
desk_stays w (Put p value) h = absurd (cc)
desk_stays w (Widen more) h = absurd (cc)

never_by : (values : List ℕ) (stay : Option Stay) → wants_room (value_reply (fetched values (number_by stay))) ≡ false
never_by values None = refl
never_by values (Some (Seeking next)) = refl
never_by values (Some (Settled number)) = refl

never_wanting : (w : DeskValue) (e : Event) → is_read e ≡ true → wants_room (desk_reply w e) ≡ false
never_wanting (OverGrid w) (Get p) h = never_by w.slots.values (stay_of p w.slots.pool.competitors)
never_wanting (OverTree w) (Get p) h = never_by w.slots.values (stay_of p w.slots.pool.competitors)
never_wanting w (Begin p) h = absurd (cc)
never_wanting w (Step p) h = absurd (cc)
never_wanting w (Enter p) h = absurd (cc)
never_wanting w (Probe p) h = absurd (cc)
never_wanting w (Seek p) h = absurd (cc)
never_wanting w (Leave p) h = absurd (cc)
never_wanting w (Put p value) h = absurd (cc)
never_wanting w (Widen more) h = absurd (cc)

-- what is applied or barred is no read
if_reads : (b : Bool) (p : ℕ) → applied_if b ≡ Read p → ⊥
if_reads true p h = cc
if_reads false p h = cc

put_reads : (tokens : Bool) (q p : ℕ) → way_of_put tokens q ≡ Read p → ⊥
put_reads true q p h = cc
put_reads false q p h = cc

get_reads : (reads : Reads) (q p : ℕ) → way_of_read reads q ≡ Read p → Get q ≡ Get p
get_reads Logged q p h = absurd (cc)
get_reads Plain q p h = cc

-- who is read is named by the event
read_is : (rules : Rules) (e : Event) (p : ℕ) → way_of rules e ≡ Read p → e ≡ Get p
read_is rules (Begin q) p h = absurd (if_reads rules.naming p h)
read_is rules (Step q) p h = absurd (if_reads rules.naming p h)
read_is rules (Enter q) p h = absurd (cc)
read_is rules (Probe q) p h = absurd (cc)
read_is rules (Seek q) p h = absurd (cc)
read_is rules (Leave q) p h = absurd (cc)
read_is rules (Put q value) p h = absurd (put_reads rules.tokens q p h)
read_is rules (Get q) p h = get_reads rules.reads q p h
read_is rules (Widen more) p h = absurd (if_reads rules.widening p h)

-- over one event: the hall stays lawful; and room was wanting and the desk is the same, or the desk answered
record Moved (h : HallState) (e : Event) (r : ShownReply) (u : HallState) : Type 0 where
  lawful : SatisfiesSpec u
  desk : ((wants_room r ≡ true) × (desk_of u ≡ desk_of h)) ⊎ ((wants_room r ≡ false) × DeskWorldMay (desk_of h) (Take e) r (desk_of u))

moved_read : (h : HallState) (e : Event) (r : ShownReply) (u : HallState) (p : ℕ) → SatisfiesSpec h → e ≡ Get p → r ≡ desk_reply (desk_of h) (Get p) → u ≡ h → Moved h e r u
moved_read h e r u p lawful is said same =
    let answered : r ≡ desk_reply (desk_of h) e = said ∙ ap (desk_reply (desk_of h)) (sym is) in
    let read : is_read e ≡ true = ap is_read is in
    record {
      lawful = subst SatisfiesSpec (sym same) lawful;
      desk = inr (ap wants_room answered ∙ never_wanting (desk_of h) e read, inl (answered, ap desk_of same ∙ sym (desk_stays (desk_of h) e read)));
    }

-- a run from a hall of which the first turn is not there, as its way has it
abbrev RunsBy : Rules → Way → HallState → Exchange → HallState → List Turn → DeskValue → Type 0
RunsBy rules way h x mid ts w = TakesBy way h x.event x.reply mid → (SatisfiesSpec mid → Runs DeskWorldMay (desk_of mid) (with_room (admitted rules ts)) w) →
    Runs DeskWorldMay (desk_of h) (with_room (admitted_by way x (admitted rules ts))) w

module _ (rules : Rules) where
  -- one turn more that moves the desk, or for which room was wanting
  one_moved : (h mid : HallState) (x : Exchange) (ts : List Turn) (w : DeskValue) → Moved h x.event x.reply mid → Runs DeskWorldMay (desk_of mid) (with_room ts) w →
      Runs DeskWorldMay (desk_of h) (with_room (Answered x ∷ ts)) w
  one_moved h mid x ts w one rest = elim one.desk [
    | inl m ↦ rw m.0 (subst (λ (v : DeskValue). Runs DeskWorldMay v (with_room ts) w) m.1 rest)
    | inr m ↦ rw m.0 (desk_of mid, m.1, rest)
  ]

  one_run : (way : Way) (h mid : HallState) (x : Exchange) (ts : List Turn) (w : DeskValue) → SatisfiesSpec h → way_of rules x.event ≡ way → RunsBy rules way h x mid ts w
  one_run Applied h mid x ts w lawful is may rest =
      let m = moves h x.event lawful x.reply mid may in
      let one : Moved h x.event x.reply mid = record { lawful = m.lawful; desk = m.desk } in
      one_moved h mid x (admitted rules ts) w one (rest m.lawful)
  one_run (Read p) h mid x ts w lawful is may rest =
      let one = moved_read h x.event x.reply mid p lawful (read_is rules x.event p is) may.0 may.1 in
      one_moved h mid x (admitted rules ts) w one (rest one.lawful)
  one_run (Raised p) h mid x ts w lawful is may rest = elim (by_put h p x.reply mid may) [
    | inl put ↦
        let m = moves h (Put p put.token) lawful reply.Ok mid put.may in
        let one : Moved h (Put p put.token) reply.Ok mid = record { lawful = m.lawful; desk = m.desk } in
        subst (λ (r : ShownReply). Runs DeskWorldMay (desk_of h) (with_room (token_put p r (admitted rules ts))) w) (sym put.told)
        (one_moved h mid (exchange (Put p put.token) reply.Ok) (admitted rules ts) w one (rest m.lawful))
    | inr refused ↦
        subst (λ (r : ShownReply). Runs DeskWorldMay (desk_of h) (with_room (token_put p r (admitted rules ts))) w) (sym refused.told)
        (subst (λ (v : HallState). Runs DeskWorldMay (desk_of v) (with_room (admitted rules ts)) w) refused.same (rest (subst SatisfiesSpec (sym refused.same) lawful)))
  ]
  one_run Barred h mid x ts w lawful is may rest =
      subst (λ (v : HallState). Runs DeskWorldMay (desk_of v) (with_room (admitted rules ts)) w) may.1 (rest (subst SatisfiesSpec (sym may.1) lawful))

  -- a run with plain reads is one of the desk, without what is barred
  desk_runs : (h u : HallState) (ts : List Turn) → SatisfiesSpec h → Runs (Serves rules) h ts u → Runs DeskWorldMay (desk_of h) (with_room (admitted rules ts)) (desk_of u)
  desk_runs h u [] lawful run = ap desk_of run
  desk_runs h u (Answered x ∷ ts) lawful run =
      one_run (way_of rules x.event) h run.0 x ts (desk_of u) lawful refl run.1 (λ on. desk_runs run.0 u ts on run.2)
  desk_runs h u (Reported n r ∷ ts) lawful run =
      let rest = desk_runs run.0 u ts (subst SatisfiesSpec (sym run.1.1) lawful) run.2 in
      (desk_of run.0, (run.1.0, ap desk_of run.1.1), rest)
  desk_runs h u (Ended ∷ ts) lawful run = desk_runs h u ts lawful run
  desk_runs h u (Misread bad ∷ ts) lawful run = desk_runs h u ts lawful run

  pub read_transcript : (c : Config) → gives_names c.world ≡ true → (u : HallState) (ts : List Turn) → Runs (Serves rules) (hall_of c []) ts u → IsTranscript c (with_room (admitted rules ts))
  read_transcript c named u ts run = transcript_of c named (desk_of u) (with_room (admitted rules ts)) (desk_runs (hall_of c []) u ts (fresh_lawful c named) run)

  -- one turn more before those of a hall that stores reads
  one_stored : (way : Way) (h mid u : HallState) (x : Exchange) (ts : List Turn) → TakesBy way h x.event x.reply mid → Runs HallServes mid ts u → Runs HallServes h (stored_by way x ts) u
  one_stored Applied h mid u x ts may rest = (mid, may, rest)
  one_stored (Read p) h mid u x ts may rest = subst (λ (w : HallState). Runs HallServes w ts u) may.1 rest
  one_stored (Raised p) h mid u x ts may rest = elim (by_put h p x.reply mid may) [
    | inl put ↦ subst (λ (r : ShownReply). Runs HallServes h (token_put p r ts) u) (sym put.told) (mid, put.may, rest)
    | inr refused ↦
        subst (λ (r : ShownReply). Runs HallServes h (token_put p r ts) u) (sym refused.told) (subst (λ (w : HallState). Runs HallServes w ts u) refused.same rest)
  ]
  one_stored Barred h mid u x ts may rest = subst (λ (w : HallState). Runs HallServes w ts u) may.1 rest

  -- a run without its plain reads and what is barred is one of a hall that stores reads
  pub stored_run : (h u : HallState) (ts : List Turn) → Runs (Serves rules) h ts u → Runs HallServes h (stored rules ts) u
  stored_run h u [] run = run
  stored_run h u (Answered x ∷ ts) run = one_stored (way_of rules x.event) h run.0 u x (stored rules ts) run.1 (stored_run run.0 u ts run.2)
  stored_run h u (Reported n r ∷ ts) run = (run.0, run.1, stored_run run.0 u ts run.2)
  stored_run h u (Ended ∷ ts) run = stored_run h u ts run
  stored_run h u (Misread bad ∷ ts) run = stored_run h u ts run

  pub read_history : (h u : HallState) (ts : List Turn) → SatisfiesSpec h → Runs (Serves rules) h ts u → u.history ≡ h.history ++ accepted (exchanges (stored rules ts))
  read_history h u ts lawful run = history h u (stored rules ts) lawful (stored_run h u ts run)

  -- each plain read has the reply of the desk at its place
  pub read_reply : (h u : HallState) (before : List Turn) (x : Exchange) (behind : List Turn) (p : ℕ) → way_of rules x.event ≡ Read p → Runs (Serves rules) h (before ++ Answered x ∷ behind) u → IsRead rules h before p x.reply
  read_reply h u [] x behind p is run =
      let may = subst (λ (way : Way). TakesBy way h x.event x.reply run.0) is run.1 in
      record { at = h; led = refl; reply = may.0 }
  read_reply h u (Answered y ∷ before) x behind p is run =
      let rest = read_reply run.0 u before x behind p is run.2 in
      record { at = rest.at; led = one_stored (way_of rules y.event) h run.0 rest.at y (stored rules before) run.1 rest.led; reply = rest.reply }
  read_reply h u (Reported n r ∷ before) x behind p is run =
      let rest = read_reply run.0 u before x behind p is run.2 in
      record { at = rest.at; led = (run.0, run.1, rest.led); reply = rest.reply }
  read_reply h u (Ended ∷ before) x behind p is run =
      let rest = read_reply h u before x behind p is run in record { at = rest.at; led = rest.led; reply = rest.reply }
  read_reply h u (Misread bad ∷ before) x behind p is run =
      let rest = read_reply h u before x behind p is run in record { at = rest.at; led = rest.led; reply = rest.reply }

  -- what is barred is refused 14, and the turns without it lead to the same hall
  pub barred_reply : (h u : HallState) (before : List Turn) (x : Exchange) (behind : List Turn) → way_of rules x.event ≡ Barred → Runs (Serves rules) h (before ++ Answered x ∷ behind) u →
      (x.reply ≡ reply.Refused refusal.OutOfRange) × Runs (Serves rules) h (before ++ behind) u
  barred_reply h u [] x behind is run =
      let may = subst (λ (way : Way). TakesBy way h x.event x.reply run.0) is run.1 in
      (may.0, subst (λ (w : HallState). Runs (Serves rules) w behind u) may.1 run.2)
  barred_reply h u (Answered y ∷ before) x behind is run =
      let rest = barred_reply run.0 u before x behind is run.2 in (rest.0, (run.0, run.1, rest.1))
  barred_reply h u (Reported n r ∷ before) x behind is run =
      let rest = barred_reply run.0 u before x behind is run.2 in (rest.0, (run.0, run.1, rest.1))
  barred_reply h u (Ended ∷ before) x behind is run = barred_reply h u before x behind is run
  barred_reply h u (Misread bad ∷ before) x behind is run = barred_reply h u before x behind is run

-- a hall that stores an event has the desk's reply to it, unless room is wanting
pub like_stored : (h u : HallState) (e : Event) (r : ShownReply) → SatisfiesSpec h → HallMay h e r u → wants_room r ≡ false → r ≡ desk_reply (desk_of h) e
like_stored h u e r lawful may room =
    let m = moves h e lawful r u may in
    elim m.desk [
      | inl wanting ↦ absurd (let no : true ≡ false = sym wanting.0 ∙ room in cc)
      | inr answered ↦ elim answered.1 [
        | inl is ↦ is.0
        | inr lacked ↦ absurd (let no : true ≡ false = ap wants_room (sym lacked.0) ∙ room in cc)
      ]
    ]
