-- a hall that takes compactions answers as one that passes over them
use Rattle.std.proofs.Common.{◌≡◌, ◌≢◌, ◌≤◌, ◌<◌, ◌+◌, ◌++◌, ◌∷◌, ℕ, false, cond, Option, Some, None, List, [], length, map, inl, inr, refl, sym, ap, subst, ◌∙◌, arith, length-append}
use Rattle.std.proofs.lemmas.Bool.Decides.{leb_tells}
use Rattle.std.proofs.lemmas.List.Elements.{filter-append}
use Rattle.service_follow.proofs.Common.{Config, HallState, HallApplies, NoneRefusedGrowth, Runs, Turn, Answered, Reported, Ended, Misread, ReplyQueueState, reply_queue_of, said, ShownReply}
use Rattle.model_steps.specs.declared.refusal.Refusal.{Refusal}
use Rattle.model_steps.specs.declared.refusal.Refusal.TheVariants as refusal
use Rattle.model_asked.specs.declared.event.Event.{Event}
use Rattle.model_asked.specs.declared.event.Event.TheVariants.{Get, Put}
use Rattle.model_asked.specs.declared.exchange.Exchange.{Exchange}
use Rattle.model_asked.specs.declared.reply.Reply.TheVariants as reply
use Rattle.text_worlds.specs.desk.Desk.{desk_after, desk_refusal, desk_reply, fresh_desk, owner_reply}
use Rattle.std.specs.Result.{result_unwrap_or}
use Rattle.model_pool.specs.Pool.{number_answer}
use Rattle.text_worlds.specs.desk.DeskCalls.{exchange}
use Rattle.text_worlds.specs.desk.DeskRules.{fetched}
use Rattle.text_worlds.specs.desk.Held.{slots_of}
use Rattle.text_worlds.specs.desk.DeskValue.{DeskValue}
use Rattle.text_player.specs.Turns.{asked}
use Rattle.service_hall.specs.Compactions.{renaming_of}
use Rattle.service_hall.specs.DeskParts.{is_renaming}
use Rattle.service_hall.specs.Halls.{HallMay, after_unless, desk_of, full_unless, hall_refusal, longer, reply_unless}
use Rattle.service_hall.specs.Raising.{PutsToken, held_value, token_above, token_reply}
use Rattle.service_hall.specs.Reading.{Serves, TakesBy, way_of}
use Rattle.service_hall.specs.declared.rules.Rules.{Rules}
use Rattle.service_hall.specs.declared.rules.Way.{Way}
use Rattle.service_hall.specs.declared.rules.Way.TheVariants.{Applied, Read, Raised, Barred}
use Rattle.service_hall.proofs.cited.Histories.{replay_push}
use Rattle.service_log.specs.Replicas.{Leads}
use Rattle.service_follow.specs.Batches.{next_count}
use Rattle.service_follow.specs.Desks.{HasItsDesk, ByDesk, is_lines, lines_in}
use Rattle.service_follow.specs.Entries.{asked_in, rules_of}
use Rattle.service_follow.specs.Kept.{kept_behind, token_of}
use Rattle.service_follow.specs.Marks.{mark_of}
use Rattle.service_follow.specs.Stays.{StayApplies, TakesLines, stays_of}
use Rattle.service_follow.specs.StayState.{StayState}
use Rattle.service_follow.specs.declared.front_end_stay.FrontEndStay.{FrontEndStay}
use Rattle.service_follow.specs.declared.marks.Mark.{Mark}
use Rattle.service_follow.specs.declared.marks.Mark.TheVariants.{Ordinary, Begins, GoesOn, Ends}
use Rattle.service_follow.proofs.Keepers.{by_desk}
use Rattle.service_follow.proofs.Starts.{led_known}

-- ---- a history never gets shorter by lines

longer_by : (h : HallState) (e : Event) → length (longer h e).history ≡ length h.history + 1
longer_by h e = length-append h.history (exchange e (desk_reply (desk_of h) e) ∷ [])

unless_grows : (o : Option Refusal) (h : HallState) (e : Event) → length h.history ≤ length (after_unless o h e).history
unless_grows None h e = let more = longer_by h e in omega (arith, more)
unless_grows (Some why) h e = omega arith

applied_grows : (h : HallState) (e : Event) (r : ShownReply) (u : HallState) → HallMay h e r u → length h.history ≤ length u.history
applied_grows h e r u (inl m) = let same = ap (λ (s : HallState). length s.history) m.1 in let more = unless_grows (hall_refusal h e) h e in omega (arith, same, more)
applied_grows h e r u (inr m) = let same = ap (λ (s : HallState). length s.history) m.1 in omega (arith, same)

token_grows : (next : Option ℕ) (h : HallState) (p : ℕ) (r : ShownReply) (u : HallState) → PutsToken next h p r u → length h.history ≤ length u.history
token_grows None h p r u refused = let same = ap (λ (s : HallState). length s.history) refused.1 in omega (arith, same)
token_grows (Some token) h p r u puts = applied_grows h (Put p token) puts.0 u puts.1

grows : (way : Way) (h : HallState) (e : Event) (r : ShownReply) (u : HallState) → TakesBy way h e r u → length h.history ≤ length u.history
grows (Read p) h e r u may = let same = ap (λ (s : HallState). length s.history) may.1 in omega (arith, same)
grows Barred h e r u may = let same = ap (λ (s : HallState). length s.history) may.1 in omega (arith, same)
grows (Raised p) h e r u may = token_grows (token_above (held_value h p)) h p r u may
grows Applied h e r u may = applied_grows h e r u may

runs_grow : (rules : Rules) (h u : HallState) (ts : List Turn) → Runs (Serves rules) h ts u → length h.history ≤ length u.history
runs_grow rules h u [] run = let same = ap (λ (s : HallState). length s.history) run in omega (arith, same)
runs_grow rules h u (Answered x ∷ ts) run =
    let one = grows (way_of rules x.event) h x.event x.reply run.0 run.1 in
    let rest = runs_grow rules run.0 u ts run.2 in
    omega (arith, one, rest)
runs_grow rules h u (Reported n r ∷ ts) run =
    let same = ap (λ (s : HallState). length s.history) run.1.1 in
    let rest = runs_grow rules run.0 u ts run.2 in
    omega (arith, same, rest)
runs_grow rules h u (Ended ∷ ts) run = runs_grow rules h u ts run
runs_grow rules h u (Misread bad ∷ ts) run = runs_grow rules h u ts run

-- ---- halls with one desk, of which the second has no less room

record IsRoomier (v h : HallState) : Type 0 where
  config : h.config ≡ v.config
  desk : desk_of h ≡ desk_of v
  renaming : renaming_of h.history ≡ renaming_of v.history
  room : length h.history ≤ length v.history

desk_longer : (h : HallState) (e : Event) → desk_of (longer h e) ≡ desk_after (desk_of h) e
desk_longer h e = replay_push (fresh_desk h.config) h.history (exchange e (desk_reply (desk_of h) e))

both_longer : (v h : HallState) (e : Event) → IsRoomier v h → IsRoomier (longer v e) (longer h e)
both_longer v h e so =
    let is_of = λ (x : Exchange). is_renaming x.event in
    let more : HallState → List Exchange = λ s. exchange e (desk_reply (desk_of s) e) ∷ [] in
    let same : more h ≡ more v = ap (λ (d : DeskValue). exchange e (desk_reply d e) ∷ []) so.desk in
    record {
      config = so.config;
      desk = desk_longer h e ∙ (ap (λ (d : DeskValue). desk_after d e) so.desk ∙ sym (desk_longer v e));
      renaming = filter-append is_of h.history (more h)
          ∙ (ap (λ (xs : List Exchange). xs ++ renaming_of (more h)) so.renaming
          ∙ (ap (λ (xs : List Exchange). renaming_of v.history ++ renaming_of xs) same ∙ sym (filter-append is_of v.history (more v))));
      room = (let a = longer_by h e in let b = longer_by v e in let r = so.room in omega (arith, a, b, r));
    }

roomy : (count : ℕ) → count < 1000000 → full_unless None count ≡ None
roomy count less = elim (leb_tells 1000000 count) [ inl t ↦ absurd (let a = t.1 in omega (arith, a, less)) | inr t ↦ rw t.0 refl ]

full : (count : ℕ) → 1000000 ≤ count → full_unless None count ≡ Some refusal.HistoryFull
full count most = elim (leb_tells 1000000 count) [ inl t ↦ rw t.0 refl | inr t ↦ absurd (let a = t.1 in omega (arith, a, most)) ]

-- where the roomier hall is not full afterwards, an event has one reply, and leaves one desk
module _ (v h : HallState) (e : Event) (s r : ShownReply) (v' h' : HallState) (so : IsRoomier v h) (free : length v'.history < 1000000) where
  by_room : s ≡ reply_unless (full_unless None (length v.history)) v e → v' ≡ after_unless (full_unless None (length v.history)) v e →
      r ≡ reply_unless (full_unless None (length h.history)) h e → h' ≡ after_unless (full_unless None (length h.history)) h e → (r ≡ s) × IsRoomier v' h'
  by_room sv av sh ah = elim (leb_tells 1000000 (length v.history)) [
    | inl t ↦
        let there : v' ≡ v = subst (λ (o : Option Refusal). v' ≡ after_unless o v e) (full (length v.history) t.1) av in
        absurd (let same = ap (λ (w : HallState). length w.history) there in let most = t.1 in omega (arith, same, most, free))
    | inr t ↦
        let less : length v.history < 1000000 = (let a = t.1 in omega (arith, a)) in
        let room : length h.history < 1000000 = (let a = so.room in omega (arith, a, less)) in
        let sv : s ≡ desk_reply (desk_of v) e = subst (λ (o : Option Refusal). s ≡ reply_unless o v e) (roomy (length v.history) less) sv in
        let av : v' ≡ longer v e = subst (λ (o : Option Refusal). v' ≡ after_unless o v e) (roomy (length v.history) less) av in
        let sh : r ≡ desk_reply (desk_of h) e = subst (λ (o : Option Refusal). r ≡ reply_unless o h e) (roomy (length h.history) room) sh in
        let ah : h' ≡ longer h e = subst (λ (o : Option Refusal). h' ≡ after_unless o h e) (roomy (length h.history) room) ah in
        let both : IsRoomier (longer v e) (longer h e) = both_longer v h e so in
        (sh ∙ (ap (λ (d : DeskValue). desk_reply d e) so.desk ∙ sym sv), subst (λ (w : HallState). IsRoomier w h') (sym av) (subst (λ (w : HallState). IsRoomier (longer v e) w) (sym ah) both))
  ]

  by_refusal : (o : Option Refusal) → s ≡ reply_unless (full_unless o (length v.history)) v e → v' ≡ after_unless (full_unless o (length v.history)) v e →
      r ≡ reply_unless (full_unless o (length h.history)) h e → h' ≡ after_unless (full_unless o (length h.history)) h e → (r ≡ s) × IsRoomier v' h'
  by_refusal (Some why) sv av sh ah = (sh ∙ sym sv, subst (λ (w : HallState). IsRoomier w h') (sym av) (subst (λ (w : HallState). IsRoomier v w) (sym ah) so))
  by_refusal None sv av sh ah = by_room sv av sh ah

  applied_so : HallMay v e s v' → HallMay h e r h' → s ≢ reply.Refused refusal.NoMemory → r ≢ reply.Refused refusal.NoMemory → (r ≡ s) × IsRoomier v' h'
  applied_so (inl a) (inl b) g g' =
      let same : desk_refusal (desk_of h) e ≡ desk_refusal (desk_of v) e = ap (λ (d : DeskValue). desk_refusal d e) so.desk in
      by_refusal (desk_refusal (desk_of v) e) a.0 a.1
      (subst (λ (o : Option Refusal). r ≡ reply_unless (full_unless o (length h.history)) h e) same b.0) (subst (λ (o : Option Refusal). h' ≡ after_unless (full_unless o (length h.history)) h e) same b.1)
  applied_so (inl a) (inr b) g g' = absurd (g' b.0)
  applied_so (inr a) b g g' = absurd (g a.0)

-- halls that stay as they are
stay_so : (v h v' h' : HallState) → IsRoomier v h → v' ≡ v → h' ≡ h → IsRoomier v' h'
stay_so v h v' h' so one two = subst (λ (w : HallState). IsRoomier w h') (sym one) (subst (λ (w : HallState). IsRoomier v w) (sym two) so)

token_so : (next : Option ℕ) (v h : HallState) (p : ℕ) (s r : ShownReply) (v' h' : HallState) → IsRoomier v h → length v'.history < 1000000 → PutsToken next v p s v' → PutsToken next h p r h' →
    s ≢ reply.Refused refusal.NoMemory → r ≢ reply.Refused refusal.NoMemory → (r ≡ s) × IsRoomier v' h'
token_so None v h p s r v' h' so free a b g g' = (b.0 ∙ sym a.0, stay_so v h v' h' so a.1 b.1)
token_so (Some token) v h p s r v' h' so free a b g g' =
    let one = applied_so v h (Put p token) a.0 b.0 v' h' so free a.1 b.1 (λ is. g (a.2 ∙ ap (token_reply token) is)) (λ is. g' (b.2 ∙ ap (token_reply token) is)) in
    (b.2 ∙ (ap (token_reply token) one.0 ∙ sym a.2), one.1)

taken_so : (v h : HallState) (e : Event) (s r : ShownReply) (v' h' : HallState) → IsRoomier v h → length v'.history < 1000000 → (way : Way) → TakesBy way v e s v' → TakesBy way h e r h' →
    s ≢ reply.Refused refusal.NoMemory → r ≢ reply.Refused refusal.NoMemory → (r ≡ s) × IsRoomier v' h'
taken_so v h e s r v' h' so free Barred a b g g' = (b.0 ∙ sym a.0, stay_so v h v' h' so a.1 b.1)
taken_so v h e s r v' h' so free (Read p) a b g g' = (b.0 ∙ (ap (λ (d : DeskValue). desk_reply d (Get p)) so.desk ∙ sym a.0), stay_so v h v' h' so a.1 b.1)
taken_so v h e s r v' h' so free (Raised p) a b g g' =
    let held : DeskValue → Option ℕ = λ d. token_above (result_unwrap_or (fetched (slots_of d).values (number_answer (slots_of d).pool p)) 0) in
    token_so (held (desk_of v)) v h p s r v' h' so free a (subst (λ (next : Option ℕ). PutsToken next h p r h') (ap held so.desk) b) g g'
taken_so v h e s r v' h' so free Applied a b g g' = applied_so v h e s r v' h' so free a b g g'

-- the same of runs by the same requests
record AnswerAlike (us ts : List Turn) (v h : HallState) : Type 0 where
  said_is : said ts ≡ said us
  roomier : IsRoomier v h

answer_so : (rules : Rules) (v h v' h' : HallState) (us ts : List Turn) → map asked ts ≡ map asked us → IsRoomier v h → Runs (Serves rules) v us v' → Runs (Serves rules) h ts h' →
    NoneRefusedGrowth us → NoneRefusedGrowth ts → length v'.history < 1000000 → AnswerAlike us ts v' h'
answer_so rules v h v' h' [] [] same so a b g g' free = record { said_is = refl; roomier = subst (λ (w : HallState). IsRoomier w h') a (subst (λ (w : HallState). IsRoomier v w) b so) }
answer_so rules v h v' h' [] (x ∷ ts) same so a b g g' free = absurd (cc same)
answer_so rules v h v' h' (y ∷ us) [] same so a b g g' free = absurd (cc same)
answer_so rules v h v' h' (Answered y ∷ us) (Answered x ∷ ts) same so a b g g' free =
    let event : x.event ≡ y.event = cc same in
    let may = subst (λ (e : Event). TakesBy (way_of rules e) h e x.reply b.0) event b.1 in
    let there : length a.0.history < 1000000 = (let more = runs_grow rules a.0 v' us a.2 in omega (arith, more, free)) in
    let one = taken_so v h y.event y.reply x.reply a.0 b.0 so there (way_of rules y.event) a.1 may g.0 g'.0 in
    let rest = answer_so rules a.0 b.0 v' h' us ts (cc same) one.1 a.2 b.2 g.1 g'.1 free in
    record { said_is = (let e = one.0 in let s = rest.said_is in cc (event, e, s)); roomier = rest.roomier }
answer_so rules v h v' h' (Reported q s ∷ us) (Reported p r ∷ ts) same so a b g g' free =
    let name : p ≡ q = cc same in
    let one : r ≡ s = b.1.0 ∙ (ap (λ (d : DeskValue). owner_reply d p) so.desk ∙ (ap (owner_reply (desk_of v)) name ∙ sym a.1.0)) in
    let mid : IsRoomier a.0 b.0 = subst (λ (w : HallState). IsRoomier w b.0) (sym a.1.1) (subst (λ (w : HallState). IsRoomier v w) (sym b.1.1) so) in
    let rest = answer_so rules a.0 b.0 v' h' us ts (cc same) mid a.2 b.2 g.1 g'.1 free in
    record { said_is = (let w = rest.said_is in cc (name, one, w)); roomier = rest.roomier }
answer_so rules v h v' h' (Ended ∷ us) (Ended ∷ ts) same so a b g g' free =
    let rest = answer_so rules v h v' h' us ts (cc same) so a b g g' free in record { said_is = rest.said_is; roomier = rest.roomier }
answer_so rules v h v' h' (Misread worse ∷ us) (Misread bad ∷ ts) same so a b g g' free =
    let rest = answer_so rules v h v' h' us ts (cc same) so a b g g' free in record { said_is = rest.said_is; roomier = rest.roomier }
answer_so rules v h v' h' (Answered y ∷ us) (Reported p r ∷ ts) same so a b g g' free = absurd (cc same)
answer_so rules v h v' h' (Answered y ∷ us) (Ended ∷ ts) same so a b g g' free = absurd (cc same)
answer_so rules v h v' h' (Answered y ∷ us) (Misread bad ∷ ts) same so a b g g' free = absurd (cc same)
answer_so rules v h v' h' (Reported q s ∷ us) (Answered x ∷ ts) same so a b g g' free = absurd (cc same)
answer_so rules v h v' h' (Reported q s ∷ us) (Ended ∷ ts) same so a b g g' free = absurd (cc same)
answer_so rules v h v' h' (Reported q s ∷ us) (Misread bad ∷ ts) same so a b g g' free = absurd (cc same)
answer_so rules v h v' h' (Ended ∷ us) (Answered x ∷ ts) same so a b g g' free = absurd (cc same)
answer_so rules v h v' h' (Ended ∷ us) (Reported p r ∷ ts) same so a b g g' free = absurd (cc same)
answer_so rules v h v' h' (Ended ∷ us) (Misread bad ∷ ts) same so a b g g' free = absurd (cc same)
answer_so rules v h v' h' (Misread worse ∷ us) (Answered x ∷ ts) same so a b g g' free = absurd (cc same)
answer_so rules v h v' h' (Misread worse ∷ us) (Reported p r ∷ ts) same so a b g g' free = absurd (cc same)
answer_so rules v h v' h' (Misread worse ∷ us) (Ended ∷ ts) same so a b g g' free = absurd (cc same)

entry_so : (v h v' h' : HallState) (entry : List ℕ) (other reported : ReplyQueueState) → IsRoomier v h → HallApplies v entry other v' → HallApplies h entry reported h' →
    length v'.history < 1000000 → (reported ≡ other) × IsRoomier v' h'
entry_so v h v' h' entry other reported so a b free =
    let asks = ap (λ (c : Config). asked_in c.world entry) so.config in
    let one = answer_so (rules_of entry) v h v' h' a.turns b.turns (b.asked_is ∙ (asks ∙ sym a.asked_is)) so a.run b.run a.granted b.granted free in
    (b.reply_queue_is ∙ (ap reply_queue_of one.said_is ∙ sym a.reply_queue_is), one.roomier)

-- ---- and of what keeps its stays

lines_so : (v h v' h' : StayState) (entry : List ℕ) (other reported : ReplyQueueState) → HasItsDesk v h → TakesLines v entry other v' → TakesLines h entry reported h' →
    length v'.hall.history < 1000000 → (reported ≡ other) × HasItsDesk v' h'
lines_so v h v' h' entry other reported so a b free =
    let from : IsRoomier v.hall h.hall = record { config = so.config; desk = so.desk; renaming = so.renaming; room = so.room } in
    let one = entry_so v.hall h.hall v'.hall h'.hall entry other reported from a.hall b.hall free in
    let token = token_of entry in
    let kept_by = λ (entries : ℕ) (kept : List FrontEndStay) (q : ReplyQueueState). kept_behind token entries kept q.left in
    let kept : kept_by h.entries h.kept reported ≡ kept_by v.entries v.kept other =
    ap (λ (n : ℕ). kept_by n h.kept reported) so.entries ∙ (ap (λ (l : List FrontEndStay). kept_by v.entries l reported) so.kept ∙ ap (kept_by v.entries v.kept) one.0) in (
      one.0,
      record {
        config = one.1.config;
        desk = one.1.desk;
        renaming = one.1.renaming;
        room = one.1.room;
        kept = b.kept ∙ (kept ∙ sym a.kept);
        entries = b.entries ∙ (ap next_count so.entries ∙ sym a.entries);
        blind = b.blind ∙ sym a.blind;
      },
    )

its_own : (w : StayState) → HasItsDesk w w
its_own w = record { config = refl; desk = refl; renaming = refl; room = omega arith; kept = refl; entries = refl; blind = refl }

still_its : (v h k : StayState) → HasItsDesk v h → HasItsDesk h k → HasItsDesk v k
still_its v h k a b = record {
  config = b.config ∙ a.config;
  desk = b.desk ∙ a.desk;
  renaming = b.renaming ∙ a.renaming;
  room = (let p = a.room in let q = b.room in omega (arith, p, q));
  kept = b.kept ∙ a.kept;
  entries = b.entries ∙ a.entries;
  blind = b.blind ∙ a.blind;
}

-- lines alone make a history no shorter
takes_grow : (v v' : StayState) (entry : List ℕ) (other : ReplyQueueState) → TakesLines v entry other v' → length v.hall.history ≤ length v'.hall.history
takes_grow v v' entry other a = runs_grow (rules_of entry) v.hall v'.hall a.hall.turns a.hall.run

led_grows : (v v' : StayState) (es : List (List ℕ)) → v.blind ≡ false → Leads StayApplies v (lines_in es) v' → length v.hall.history ≤ length v'.hall.history
led_grows v v' [] known led = let same = ap (λ (s : StayState). length s.hall.history) led in omega (arith, same)
led_grows v v' (e ∷ es) known led =
    let on : (w : StayState) → w.blind ≡ false → Leads StayApplies w (lines_in es) v' → length w.hall.history ≤ length v'.hall.history = λ w sees more. led_grows w v' es sees more in
    elim (mark_of e) as (λ (m : Mark). mark_of e ≡ m → Leads StayApplies v (cond (is_lines m) (e ∷ lines_in es) (lines_in es)) v' → length v.hall.history ≤ length v'.hall.history) [
      | Ordinary ↦ λ is all.
          let takes : TakesLines v e all.0 all.1 = subst (λ (m : Mark). ByDesk m v e all.0 all.1) is (by_desk v all.1 e all.0 known all.2) in
          let one = takes_grow v all.1 e all.0 takes in
          let rest = on all.1 takes.blind all.3 in
          omega (arith, one, rest)
      | Begins ↦ λ is all. on v known all
      | GoesOn ↦ λ is all. on v known all
      | Ends ↦ λ is all. on v known all
    ] refl led

led_so : (v h v' h' : StayState) (es : List (List ℕ)) → v.blind ≡ false → HasItsDesk v h → Leads StayApplies v (lines_in es) v' → Leads StayApplies h es h' →
    length v'.hall.history < 1000000 → HasItsDesk v' h'
led_so v h v' h' [] known so a b free = subst (λ (w : StayState). HasItsDesk w h') a (subst (λ (w : StayState). HasItsDesk v w) b so)
led_so v h v' h' (e ∷ es) known so a b free =
    let on : (w k : StayState) → w.blind ≡ false → HasItsDesk w k → Leads StayApplies w (lines_in es) v' → Leads StayApplies k es h' → HasItsDesk v' h' = λ w k sees same more all. led_so w k v' h' es sees same more all free in
    elim (mark_of e) as (λ (m : Mark). mark_of e ≡ m → ByDesk m h e b.0 b.1 → Leads StayApplies v (cond (is_lines m) (e ∷ lines_in es) (lines_in es)) v' → HasItsDesk v' h') [
      | Ordinary ↦ λ is takes all.
          let beside : TakesLines v e all.0 all.1 = subst (λ (m : Mark). ByDesk m v e all.0 all.1) is (by_desk v all.1 e all.0 known all.2) in
          let there : length all.1.hall.history < 1000000 = (let more = led_grows all.1 v' es beside.blind all.3 in omega (arith, more, free)) in
          let one = lines_so v h all.1 b.1 e all.0 b.0 so beside takes there in
          on all.1 b.1 beside.blind one.1 all.3 b.3
      | Begins ↦ λ is leaves all. on v b.1 known (still_its v h b.1 so leaves.same) all b.3
      | GoesOn ↦ λ is leaves all. on v b.1 known (still_its v h b.1 so leaves.same) all b.3
      | Ends ↦ λ is leaves all. on v b.1 known (still_its v h b.1 so leaves.same) all b.3
    ] refl (by_desk h b.1 e b.0 (so.blind ∙ known) b.2) a

pub same_desk : (config : Config) (log : List (List ℕ)) (u v : StayState) → Leads StayApplies (stays_of config) log u → Leads StayApplies (stays_of config) (lines_in log) v →
    length v.hall.history < 1000000 → HasItsDesk v u
same_desk config log u v a b free = led_so (stays_of config) (stays_of config) v u log refl (its_own (stays_of config)) b a free

pub same_replies : (config : Config) (log : List (List ℕ)) (u v u' v' : StayState) (entry : List ℕ) (reported other : ReplyQueueState) →
    Leads StayApplies (stays_of config) log u → Leads StayApplies (stays_of config) (lines_in log) v → mark_of entry ≡ Ordinary →
    StayApplies u entry reported u' → StayApplies v entry other v' → length v'.hall.history < 1000000 → reported ≡ other
same_replies config log u v u' v' entry reported other a b is after beside free =
    let one = led_known (stays_of config) u log refl a in
    let two = led_known (stays_of config) v (lines_in log) refl b in
    let takes : TakesLines u entry reported u' = subst (λ (m : Mark). ByDesk m u entry reported u') is (by_desk u u' entry reported one.blind after) in
    let passes : TakesLines v entry other v' = subst (λ (m : Mark). ByDesk m v entry other v') is (by_desk v v' entry other two.blind beside) in
    let there : length v.hall.history < 1000000 = (let more = takes_grow v v' entry other passes in omega (arith, more, free)) in
    (lines_so v u v' u' entry other reported (same_desk config log u v a b there) passes takes free).0
