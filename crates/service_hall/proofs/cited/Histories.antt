-- a history is a list of calls of its desk, and goes on by one accepted event
use Rattle.std.proofs.Common.{◌≡◌, ◌<◌, length, arith, ℕ, inl, inr, List, [], ◌∷◌, ◌++◌, map, Option, Some, None, refl, sym, ap, subst, ◌∙◌, append_assoc, true, false}
use Rattle.service_hall.proofs.Common.{Refusal, Config, Event, Begin, Exchange, Ok, Refused, DeskValue, OverGrid, OverTree, IsOwnerReply, may_by, HallState}
use Rattle.std.proofs.lemmas.List.{append-nil, length-append}
use Rattle.std.proofs.lemmas.Bool.Decides.{leb_tells}
use Rattle.std.proofs.lemmas.Bool.{false_from_ne_true}
use Rattle.model_steps.specs.declared.refusal.Refusal.TheVariants as refusal
use Rattle.model_steps.specs.World.{begin_refusal, done_unless}
use Rattle.model_asked.specs.declared.reply.Reply.TheVariants as reply
use Rattle.model_asked.specs.Replies.{ShownReply, is_refusal, done_reply}
use Rattle.text_worlds.specs.desk.Desk.{fresh_desk, desk_rules, desk_reply, desk_after, desk_refusal, IsAfterDesk, owner_reply}
use Rattle.text_worlds.specs.desk.DeskCalls.{DeskCall, exchange, exchange_of}
use Rattle.text_worlds.specs.desk.DeskRun.{IsDeskRunOf}
use Rattle.text_worlds.specs.lemmas.desk.DeskLaws as desk
use Rattle.service_hall.specs.Halls.{desk_of, SatisfiesSpec, full_unless, hall_refusal, longer, reply_unless, after_unless, hall_reply, hall_after, HallMay}
use Rattle.service_hall.specs.Replay.{replay, AreAccepted}

-- accepted exchanges are calls
pub record AreCalls (c : Config) (w : DeskValue) (before : List DeskCall) (xs : List Exchange) : Type 0 where
  pub calls : List DeskCall
  pub spelled : map exchange_of calls ≡ xs
  pub after : IsAfterDesk c (replay w xs) (before ++ calls)

calls_of : (c : Config) (w : DeskValue) (before : List DeskCall) (xs : List Exchange) → IsAfterDesk c w before → AreAccepted w xs → AreCalls c w before xs
calls_of c w before [] a run = record { calls = []; spelled = refl; after = subst (λ (l : List DeskCall). IsAfterDesk c w l) (sym (append-nil before)) a }
calls_of c w before (x ∷ xs) a run =
    let one = desk.goes_on c w before a x.event x.reply (desk_after w x.event) (inl (run.1, refl)) in
    let rest = calls_of c (desk_after w x.event) (before ++ one.call ∷ []) xs one.after run.2 in
    record {
      calls = one.call ∷ rest.calls;
      spelled = ap (λ (y : Exchange). y ∷ map exchange_of rest.calls) one.spelled ∙ ap (λ (l : List Exchange). x ∷ l) rest.spelled;
      after = subst (λ (l : List DeskCall). IsAfterDesk c (replay (desk_after w x.event) xs) l) (append_assoc before (one.call ∷ []) rest.calls) rest.after;
    }

module _ (h : HallState) (lawful : SatisfiesSpec h) where
  pub all_calls : AreCalls h.config (fresh_desk h.config) [] h.history
  all_calls =
      let first = desk.fresh h.config (fresh_desk h.config) ((desk.fresh_is h.config (fresh_desk h.config)).1 (record { named = lawful.named; is = refl })) in
      calls_of h.config (fresh_desk h.config) [] h.history first lawful.accepted

  -- the history is a run
  pub history_run : IsDeskRunOf h.config h.history
  history_run = let k = all_calls in subst (λ (r : List Exchange). IsDeskRunOf h.config r) k.spelled (desk.law h.config (desk_of h) k.calls k.after)

  -- whoever is reported to have a name was given it there
  pub history_owner : (n : ℕ) → IsOwnerReply h.config.m h.history n (owner_reply (desk_of h) n)
  history_owner n = let k = all_calls in subst (λ (r : List Exchange). IsOwnerReply h.config.m r n (owner_reply (desk_of h) n)) k.spelled (desk.owner (desk_of h) n h.config k.calls k.after)

  -- an event of which nothing is due is not refused
  pub not_refused : (e : Event) (why : Refusal) → desk_refusal (desk_of h) e ≡ None → desk_reply (desk_of h) e ≡ reply.Refused why → ⊥
  not_refused e why due refused =
      let k = all_calls in
      let said : desk_refusal (desk_of h) e ≡ Some why = (desk.refusal (desk_of h) e h.config k.calls k.after why).0 refused in
      let no : None ≡ Some why = sym due ∙ said in
      cc

  -- and one of which something is due is refused so
  pub refused_so : (e : Event) (why : Refusal) → desk_refusal (desk_of h) e ≡ Some why → desk_reply (desk_of h) e ≡ reply.Refused why
  refused_so e why due = let k = all_calls in (desk.refusal (desk_of h) e h.config k.calls k.after why).1 due

pub replay_push : (w : DeskValue) (xs : List Exchange) (x : Exchange) → replay w (xs ++ x ∷ []) ≡ desk_after (replay w xs) x.event
replay_push w [] x = refl
replay_push w (y ∷ xs) x = replay_push (desk_after w y.event) xs x

accepted_push : (w : DeskValue) (xs : List Exchange) (e : Event) → AreAccepted w xs → desk_refusal (replay w xs) e ≡ None → AreAccepted w (xs ++ exchange e (desk_reply (replay w xs) e) ∷ [])
accepted_push w [] e run due = (due, refl, tt)
accepted_push w (y ∷ xs) e run due = (run.0, run.1, accepted_push (desk_after w y.event) xs e run.2 due)

pub none_of : {T : Type 0} (o : Option T) → ((x : T) → o ≡ Some x → ⊥) → o ≡ None
none_of (Some x) h = absurd (h x refl)
none_of None h = refl

-- where a hall refuses nothing, nothing is due at its desk
pub none_of_full : (o : Option Refusal) (count : ℕ) → full_unless o count ≡ None → o ≡ None
none_of_full (Some why) count h = cc
none_of_full None count h = refl

-- a hall that refuses nothing has room for a place
room_by : (o : Option Refusal) (count : ℕ) → full_unless o count ≡ None → count < 1000000
room_by (Some why) count h = absurd (cc)
room_by None count h = elim (leb_tells 1000000 count) [
  | inl full ↦ absurd (let no : Some refusal.HistoryFull ≡ None = rw full.0 at h in cc)
  | inr room ↦ (let below = room.1 in omega arith)
]

pub room_left : (h : HallState) (e : Event) → hall_refusal h e ≡ None → length h.history < 1000000
room_left h e due = room_by (desk_refusal (desk_of h) e) (length h.history) due

-- a refusal has its reason
refused_by : (r : ShownReply) → is_refusal r ≡ true → (why : Refusal) × (r ≡ reply.Refused why)
refused_by (Refused why) h = (why, refl)
refused_by r h = absurd (cc)

-- a hall that refuses nothing lets its desk answer, and this is the hall then
pub record Grows (h : HallState) (e : Event) (r : ShownReply) (w : DeskValue) : Type 0 where
  pub reply : r ≡ desk_reply (desk_of h) e
  pub desk : w ≡ desk_of (longer h e)
  pub lawful : SatisfiesSpec (longer h e)
  pub may : HallMay h e r (longer h e)

module _ (h : HallState) (e : Event) (r : ShownReply) (w : DeskValue) (lawful : SatisfiesSpec h) (due : hall_refusal h e ≡ None) (may : may_by desk_rules (desk_of h) e r w) where
  free : desk_refusal (desk_of h) e ≡ None
  free = none_of_full (desk_refusal (desk_of h) e) _ due

  -- the desk refused a growth
  pub lacked : is_refusal r ≡ true → (r ≡ reply.Refused refusal.NoMemory) × (w ≡ desk_of h)
  lacked refused = elim may [
    | inl m ↦ let why = refused_by r refused in absurd (not_refused h lawful e why.0 free (sym m.0 ∙ why.1))
    | inr m ↦ (m.0, m.1)
  ]

  pub grows : is_refusal r ≡ false → Grows h e r w
  grows accepted = elim may [
    | inl m ↦
        let push : desk_of (longer h e) ≡ desk_after (desk_of h) e = replay_push (fresh_desk h.config) h.history (exchange e (desk_reply (desk_of h) e)) in
        let run = accepted_push (fresh_desk h.config) h.history e lawful.accepted free in
        let one_more = length-append h.history (exchange e (desk_reply (desk_of h) e) ∷ []) in
        let room = room_left h e due in
        let after : hall_after h e ≡ longer h e = ap (λ o. after_unless o h e) due in
        let reported : hall_reply h e ≡ desk_reply (desk_of h) e = ap (λ o. reply_unless o h e) due in
        record {
          reply = m.0;
          desk = m.1 ∙ sym push;
          lawful = record { named = lawful.named; accepted = run; few = (rw one_more (omega arith)) };
          may = inl (m.0 ∙ sym reported, sym after);
        }
    | inr m ↦ absurd (let no : true ≡ false = ap is_refusal (sym m.0) ∙ accepted in cc)
  ]

-- what a hall answers by its refusal
pub refuses_so : (h : HallState) (e : Event) (why : Refusal) → hall_refusal h e ≡ Some why → HallMay h e (reply.Refused why) h
refuses_so h e why due = inl (ap (λ o. reply_unless o h e) (sym due), ap (λ o. after_unless o h e) (sym due))

pub lacks_so : (h : HallState) (e : Event) → hall_refusal h e ≡ None → HallMay h e (reply.Refused refusal.NoMemory) h
lacks_so h e due = inr (refl, refl, due)

-- a refused event leaves a hall as it was
refused_stays : (h u : HallState) (e : Event) (r : ShownReply) (o : Option Refusal) → SatisfiesSpec h → hall_refusal h e ≡ o → r ≡ reply_unless o h e → u ≡ after_unless o h e → is_refusal r ≡ true → u ≡ h
refused_stays h u e r (Some why) lawful due reported after refused = after
refused_stays h u e r None lawful due reported after refused =
    let free : desk_refusal (desk_of h) e ≡ None = none_of_full (desk_refusal (desk_of h) e) _ due in
    let why = refused_by r refused in
    absurd (not_refused h lawful e why.0 free (sym reported ∙ why.1))

pub kept_refused : (h u : HallState) (e : Event) (r : ShownReply) → SatisfiesSpec h → HallMay h e r u → is_refusal r ≡ true → u ≡ h
kept_refused h u e r lawful (inl m) refused = refused_stays h u e r (hall_refusal h e) lawful refl m.0 m.1 refused
kept_refused h u e r lawful (inr m) refused = m.1

-- a reply that is none of the refusals is accepted
pub accepted_by : (r : ShownReply) → ((why : Refusal) → r ≡ reply.Refused why → ⊥) → is_refusal r ≡ false
accepted_by r h = false_from_ne_true (is_refusal r) (λ refused. let why = refused_by r refused in h why.0 why.1)

-- and `begin` is accepted by `ok` alone
done_ok : (o : Option Refusal) → is_refusal (done_reply (done_unless o)) ≡ false → done_reply (done_unless o) ≡ Ok
done_ok None accepted = refl
done_ok (Some why) accepted = absurd (cc)

begin_ok : (w : DeskValue) (id : ℕ) → is_refusal (desk_reply w (Begin id)) ≡ false → desk_reply w (Begin id) ≡ Ok
begin_ok (OverGrid w) id accepted = done_ok (begin_refusal w.names.snap id) accepted
begin_ok (OverTree w) id accepted = done_ok (begin_refusal w.names.snap id) accepted

begun_ok : (h : HallState) (id : ℕ) (o : Option Refusal) → is_refusal (reply_unless o h (Begin id)) ≡ false → reply_unless o h (Begin id) ≡ Ok
begun_ok h id None accepted = begin_ok (desk_of h) id accepted
begun_ok h id (Some why) accepted = absurd (cc)

pub begins_ok : (h u : HallState) (id : ℕ) (r : ShownReply) → HallMay h (Begin id) r u → is_refusal r ≡ false → r ≡ Ok
begins_ok h u id r (inl m) accepted = m.0 ∙ begun_ok h id (hall_refusal h (Begin id)) (sym (ap is_refusal m.0) ∙ accepted)
begins_ok h u id r (inr m) accepted = absurd (let no : true ≡ false = ap is_refusal (sym m.0) ∙ accepted in cc)
