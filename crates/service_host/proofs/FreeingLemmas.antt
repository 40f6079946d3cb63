-- how a hall answers `leave`, `probe` and `seek`, and that whoever was released competes no more, but for want of room
use Rattle.std.proofs.Common.{◌≡◌, ◌⊎◌, ◌≤◌, ◌<◌, ◌+◌, ℕ, zero, suc, Bool, true, false, cond, nat_le, List, [], ◌∷◌, ◌++◌, Option, Some, None, length, replicate, is_some, inl, inr, refl, sym, ap, subst, ◌∙◌, arith}
use Rattle.std.proofs.lemmas.Bool.Decides.{eqb_tells, leb_tells}
use Rattle.model_steps.specs.declared.access.Answer.{Answer}
use Rattle.model_steps.specs.declared.access.Answer.TheVariants.{Value, WasSet, Done}
use Rattle.model_steps.specs.declared.refusal.Refusal.{Refusal}
use Rattle.model_steps.specs.declared.refusal.Refusal.TheVariants as refusal
use Rattle.model_steps.specs.SetAt.{set_at}
use Rattle.model_steps.proofs.cited.Roster.{seen-put}
use Rattle.model_pool.specs.declared.competitor.Competitor.{Competitor}
use Rattle.model_pool.specs.declared.stay.Stay.{Stay}
use Rattle.model_pool.specs.declared.stay.Stay.TheVariants.{Seeking, Settled}
use Rattle.model_pool.specs.Competitors.{stay_of, with_stay, without}
use Rattle.model_pool.specs.Pool.{after_leave_by, after_probe_by, got_by, number_by, probe_answer_by, probe_refusal_by}
use Rattle.model_pool.specs.PoolState.{PoolState}
use Rattle.model_pool.specs.Sought.{after_seek_by, seek_answer_by, sought_on}
use Rattle.model_pool.specs.Stay.{probe_reply as answer_in, stay_found}
use Rattle.model_asked.specs.declared.event.Event.{Event}
use Rattle.model_asked.specs.declared.event.Event.TheVariants.{Probe, Seek, Leave}
use Rattle.model_asked.specs.declared.reply.Reply.TheVariants as reply
use Rattle.model_asked.specs.Replies.{ShownReply, left_reply}
use Rattle.model_asked.specs.Requests.{Request}
use Rattle.model_asked.specs.Requests.Request.{Take}
use Rattle.text_player.specs.Runs.{Runs}
use Rattle.text_player.specs.lemmas.RunProofs.{runs-cut}
use Rattle.text_player.specs.Turns.{Turn}
use Rattle.text_worlds.specs.desk.Desk.{desk_after, desk_refusal, desk_reply, fresh_desk}
use Rattle.text_worlds.specs.desk.DeskCalls.{exchange}
use Rattle.text_worlds.specs.desk.DeskRules.{refusal_of}
use Rattle.text_worlds.specs.desk.DeskValue.{DeskValue}
use Rattle.text_worlds.specs.desk.DeskValue.DeskValue.{OverGrid, OverTree}
use Rattle.text_worlds.specs.desk.Held.{slots_of}
use Rattle.text_worlds.specs.desk.Replies.{probe_reply, seek_reply, shown_probe}
use Rattle.service_hall.specs.HallState.{HallState}
use Rattle.service_hall.specs.Halls.{HallMay, after_unless, desk_of, full_unless, reply_unless}
use Rattle.service_hall.specs.Reading.{Serves}
use Rattle.service_hall.specs.Serving.{wants_room}
use Rattle.service_hall.specs.declared.rules.Rules.{Rules}
use Rattle.service_hall.proofs.cited.Histories.{replay_push}
use Rattle.service_loop.specs.Releasing.{AreProbes, IsReleaseBy, ReleasesFree, TellsOfStays, is_freed, is_missed, lacks_number, leave_of}
use Rattle.service_loop.specs.Searching.{most_said, searched, searching}
use Rattle.service_loop.proofs.cited.ReleaseLemmas.{AreSaid, said_releases}
use Rattle.service_host.specs.Freeing.{FreesAll, IsRefusedRoom, ReleasesAsHall, WasRefusedRoom, competes_in, is_of_release}

-- the competitors of a hall, and how many numbers its pool has
abbrev crowd : HallState → List Competitor
crowd h = (slots_of (desk_of h)).pool.competitors

abbrev size_in : HallState → ℕ
size_in h = (slots_of (desk_of h)).pool.size

-- where an identity was taken out nobody of it stands, nor who stood nowhere before
gone_without : (cs : List Competitor) (id : ℕ) → stay_of id (without id cs) ≡ None
gone_without [] id = refl
gone_without (c ∷ cs) id = elim (eqb_tells c.identity id) [ inl w ↦ rw w.0 (gone_without cs id) | inr w ↦ rw (w.0, w.0) (gone_without cs id) ]

absent_without : (cs : List Competitor) (i id : ℕ) → stay_of id cs ≡ None → stay_of id (without i cs) ≡ None
absent_without [] i id h = refl
absent_without (c ∷ cs) i id h = elim (eqb_tells c.identity id) [
  | inl w ↦ absurd (let no : Some c.stay ≡ None = rw w.0 at h in cc)
  | inr w ↦
      let rest : stay_of id cs ≡ None = rw w.0 at h in
      elim (eqb_tells c.identity i) [ inl v ↦ rw v.0 (absent_without cs i id rest) | inr v ↦ rw (v.0, w.0) (absent_without cs i id rest) ]
]

none_of_false : {X : Type 0} (o : Option X) → is_some o ≡ false → o ≡ None
none_of_false None h = refl
none_of_false (Some x) h = absurd (cc)

-- the desk's answers to `leave` and `probe`, by the stay of the identity
-- what a desk says to an event: its refusal, its reply, and its pool then
abbrev Tells : DeskValue → Event → Option Refusal → ShownReply → PoolState → Type 0
Tells w e refusal r pool = (desk_refusal w e ≡ refusal) × (desk_reply w e ≡ r) × ((slots_of (desk_after w e)).pool ≡ pool)

abbrev stay_in : DeskValue → ℕ → Option Stay
stay_in w id = stay_of id (slots_of w).pool.competitors

leave_told : (w : DeskValue) (id : ℕ) →
    Tells w (Leave id) (refusal_of (number_by (stay_in w id))) (left_reply (number_by (stay_in w id))) (after_leave_by (slots_of w).pool id (stay_in w id))
leave_told (OverGrid w) id = (refl, refl, refl)
leave_told (OverTree w) id = (refl, refl, refl)

probe_told : (w : DeskValue) (id : ℕ) →
    Tells w (Probe id) (probe_refusal_by (stay_in w id)) (probe_reply (probe_answer_by (slots_of w).pool (stay_in w id))) (after_probe_by (slots_of w).pool id (stay_in w id))
probe_told (OverGrid w) id = (refl, refl, refl)
probe_told (OverTree w) id = (refl, refl, refl)

seek_told : (w : DeskValue) (id : ℕ) →
    Tells w (Seek id) (probe_refusal_by (stay_in w id)) (seek_reply (seek_answer_by (slots_of w).pool (stay_in w id))) (after_seek_by (slots_of w).pool id (stay_in w id))
seek_told (OverGrid w) id = (refl, refl, refl)
seek_told (OverTree w) id = (refl, refl, refl)

-- a hall wanted room, or its desk refused, or it answered
abbrev Seen : HallState → Event → ShownReply → HallState → Type 0
Seen h e r u =
    ((wants_room r ≡ true) × (u ≡ h)) ⊎
    ((why : Refusal) × (desk_refusal (desk_of h) e ≡ Some why) × (r ≡ reply.Refused why) × (u ≡ h)) ⊎
    ((desk_refusal (desk_of h) e ≡ None) × (r ≡ desk_reply (desk_of h) e) × (desk_of u ≡ desk_after (desk_of h) e))

module _ (h : HallState) (e : Event) (r : ShownReply) (u : HallState) where
  seen_by_room : (full : Bool) → desk_refusal (desk_of h) e ≡ None → r ≡ reply_unless (cond full (Some refusal.HistoryFull) None) h e →
      u ≡ after_unless (cond full (Some refusal.HistoryFull) None) h e → Seen h e r u
  seen_by_room true due said after = inl (ap wants_room said, after)
  seen_by_room false due said after = inr (inr (due, said, ap desk_of after ∙ replay_push (fresh_desk h.config) h.history (exchange e (desk_reply (desk_of h) e))))

  seen_by_desk : (o : Option Refusal) → desk_refusal (desk_of h) e ≡ o → r ≡ reply_unless (full_unless o (length h.history)) h e →
      u ≡ after_unless (full_unless o (length h.history)) h e → Seen h e r u
  seen_by_desk (Some why) due said after = inr (inl (why, due, said, after))
  seen_by_desk None due said after = seen_by_room (nat_le 1000000 (length h.history)) due said after

  seen : HallMay h e r u → Seen h e r u
  seen may = elim may [
    | inl m ↦ seen_by_desk (desk_refusal (desk_of h) e) refl m.0 m.1
    | inr m ↦ inl (ap wants_room m.0, m.1)
  ]

-- who left competes no more; who did not, did not since it was refused
abbrev LeaveSeen : HallState → ℕ → ShownReply → HallState → Type 0
LeaveSeen h id r u =
    ((wants_room r ≡ true) × (u ≡ h)) ⊎
    ((stay_of id (crowd h) ≡ None) × (is_freed r ≡ true) × (u ≡ h)) ⊎
    ((n : ℕ) × (stay_of id (crowd h) ≡ Some (Seeking n)) × (is_freed r ≡ false) × (lacks_number r ≡ true) × (u ≡ h)) ⊎
    ((is_freed r ≡ true) × (crowd u ≡ without id (crowd h)))

leave_refused : (h : HallState) (id : ℕ) (r : ShownReply) (u : HallState) (o : Option Stay) (why : Refusal) → stay_of id (crowd h) ≡ o → refusal_of (number_by o) ≡ Some why →
    r ≡ reply.Refused why → u ≡ h → LeaveSeen h id r u
leave_refused h id r u None why is due said same =
    let same_why : Some refusal.NotCompeting ≡ Some why = due in
    inr (inl (is, ap is_freed said ∙ ap (λ (o : Option Refusal). elim o [ None ↦ false | Some y ↦ is_freed {V = List (ℕ × ℕ)} (reply.Refused y) ]) (sym same_why), same))
leave_refused h id r u (Some (Seeking n)) why is due said same =
    let same_why : Some refusal.NotHolding ≡ Some why = due in
    inr (inr (inl (
      n,
      is,
      ap is_freed said ∙ ap (λ (o : Option Refusal). elim o [ None ↦ false | Some y ↦ is_freed {V = List (ℕ × ℕ)} (reply.Refused y) ]) (sym same_why),
      ap lacks_number said ∙ ap (λ (o : Option Refusal). elim o [ None ↦ false | Some y ↦ lacks_number {V = List (ℕ × ℕ)} (reply.Refused y) ]) (sym same_why),
      same,
    )))
leave_refused h id r u (Some (Settled n)) why is due said same = absurd (cc)

leave_taken : (h : HallState) (id : ℕ) (r : ShownReply) (u : HallState) (o : Option Stay) → stay_of id (crowd h) ≡ o → refusal_of (number_by o) ≡ None →
    r ≡ left_reply (number_by o) → (slots_of (desk_of u)).pool ≡ after_leave_by (slots_of (desk_of h)).pool id o → LeaveSeen h id r u
leave_taken h id r u None is due said after = absurd (cc)
leave_taken h id r u (Some (Seeking n)) is due said after = absurd (cc)
leave_taken h id r u (Some (Settled n)) is due said after = inr (inr (inr (ap is_freed said, ap (λ p. p.competitors) after)))

leave_seen : (h : HallState) (id : ℕ) (r : ShownReply) (u : HallState) → HallMay h (Leave id) r u → LeaveSeen h id r u
leave_seen h id r u may = elim (seen h (Leave id) r u may) [
  | inl m ↦ inl m
  | inr (inl m) ↦ leave_refused h id r u (stay_of id (crowd h)) m.0 refl (sym ((leave_told (desk_of h) id).0) ∙ m.1) m.2 m.3
  | inr (inr m) ↦ leave_taken h id r u (stay_of id (crowd h)) refl (sym ((leave_told (desk_of h) id).0) ∙ m.0) (m.1 ∙ (leave_told (desk_of h) id).1)
      (ap (λ w. (slots_of w).pool) m.2 ∙ (leave_told (desk_of h) id).2)
]

-- a search was refused, or this is so of it
abbrev Searched : HallState → ℕ → ShownReply → HallState → Type 0 → Type 0
Searched h id r u Found =
    ((wants_room r ≡ true) × (u ≡ h)) ⊎
    ((stay_of id (crowd h) ≡ None) × (is_missed r ≡ false) × (u ≡ h)) ⊎
    ((n : ℕ) × (stay_of id (crowd h) ≡ Some (Settled n)) × (is_missed r ≡ false) × (u ≡ h)) ⊎ Found

search_refused : (Found : Type 0) (h : HallState) (id : ℕ) (r : ShownReply) (u : HallState) (o : Option Stay) (why : Refusal) → stay_of id (crowd h) ≡ o →
    probe_refusal_by o ≡ Some why → r ≡ reply.Refused why → u ≡ h → Searched h id r u Found
search_refused Found h id r u None why is due said same = inr (inl (is, ap is_missed said, same))
search_refused Found h id r u (Some (Seeking n)) why is due said same = absurd (cc)
search_refused Found h id r u (Some (Settled n)) why is due said same = inr (inr (inl (n, is, ap is_missed said, same)))

-- a probe was refused, or it goes on to another stay
abbrev Probed : HallState → ℕ → ShownReply → HallState → Type 0
Probed h id r u = (n : ℕ) × (got : Answer (Unit {0})) × (stay_of id (crowd h) ≡ Some (Seeking n)) × (r ≡ shown_probe (answer_in (stay_found (size_in h) n got))) ×
    (crowd u ≡ with_stay id (stay_found (size_in h) n got) (crowd h)) × (size_in u ≡ size_in h)

abbrev ProbeSeen : HallState → ℕ → ShownReply → HallState → Type 0
ProbeSeen h id r u = Searched h id r u (Probed h id r u)

probe_taken : (h : HallState) (id : ℕ) (r : ShownReply) (u : HallState) (o : Option Stay) → stay_of id (crowd h) ≡ o → probe_refusal_by o ≡ None →
    r ≡ probe_reply (probe_answer_by (slots_of (desk_of h)).pool o) → (slots_of (desk_of u)).pool ≡ after_probe_by (slots_of (desk_of h)).pool id o → ProbeSeen h id r u
probe_taken h id r u None is due said after = absurd (cc)
probe_taken h id r u (Some (Settled n)) is due said after = absurd (cc)
probe_taken h id r u (Some (Seeking n)) is due said after =
    inr (inr (inr (n, got_by (slots_of (desk_of h)).pool (Seeking n), is, said, ap (λ p. p.competitors) after, ap (λ p. p.size) after)))

probe_seen : (h : HallState) (id : ℕ) (r : ShownReply) (u : HallState) → HallMay h (Probe id) r u → ProbeSeen h id r u
probe_seen h id r u may = elim (seen h (Probe id) r u may) [
  | inl m ↦ inl m
  | inr (inl m) ↦ search_refused (Probed h id r u) h id r u (stay_of id (crowd h)) m.0 refl (sym ((probe_told (desk_of h) id).0) ∙ m.1) m.2 m.3
  | inr (inr m) ↦ probe_taken h id r u (stay_of id (crowd h)) refl (sym ((probe_told (desk_of h) id).0) ∙ m.0) (m.1 ∙ (probe_told (desk_of h) id).1)
      (ap (λ w. (slots_of w).pool) m.2 ∙ (probe_told (desk_of h) id).2)
]

-- probes until a number is had were refused, or they gave one
abbrev Sought : HallState → ℕ → ShownReply → HallState → Type 0
Sought h id r u = (n m : ℕ) × (stay_of id (crowd h) ≡ Some (Seeking n)) × (is_missed r ≡ false) × (crowd u ≡ with_stay id (Settled m) (crowd h)) × (size_in u ≡ size_in h)

abbrev SeekSeen : HallState → ℕ → ShownReply → HallState → Type 0
SeekSeen h id r u = Searched h id r u (Sought h id r u)

seek_taken : (h : HallState) (id : ℕ) (r : ShownReply) (u : HallState) (o : Option Stay) → stay_of id (crowd h) ≡ o → probe_refusal_by o ≡ None →
    r ≡ seek_reply (seek_answer_by (slots_of (desk_of h)).pool o) → (slots_of (desk_of u)).pool ≡ after_seek_by (slots_of (desk_of h)).pool id o → SeekSeen h id r u
seek_taken h id r u None is due said after = absurd (cc)
seek_taken h id r u (Some (Settled n)) is due said after = absurd (cc)
seek_taken h id r u (Some (Seeking n)) is due said after =
    let pool = (slots_of (desk_of h)).pool in
    inr (inr (inr (n, (sought_on pool.size pool.size (Seeking n) pool.bits).0, is, ap is_missed said, ap (λ p. p.competitors) after, ap (λ p. p.size) after)))

seek_seen : (h : HallState) (id : ℕ) (r : ShownReply) (u : HallState) → HallMay h (Seek id) r u → SeekSeen h id r u
seek_seen h id r u may = elim (seen h (Seek id) r u may) [
  | inl m ↦ inl m
  | inr (inl m) ↦ search_refused (Sought h id r u) h id r u (stay_of id (crowd h)) m.0 refl (sym ((seek_told (desk_of h) id).0) ∙ m.1) m.2 m.3
  | inr (inr m) ↦ seek_taken h id r u (stay_of id (crowd h)) refl (sym ((seek_told (desk_of h) id).0) ∙ m.0) (m.1 ∙ (seek_told (desk_of h) id).1)
      (ap (λ w. (slots_of w).pool) m.2 ∙ (seek_told (desk_of h) id).2)
]

-- no reply is both
not_both : (r : ShownReply) → wants_room r ≡ true → is_freed r ≡ true → ⊥
not_both (reply.Refused refusal.NoMemory) a b = absurd (cc)
not_both (reply.Refused refusal.HistoryFull) a b = absurd (cc)
not_both r a b = absurd (cc)

not_wanting : (r : ShownReply) → wants_room r ≡ true → lacks_number r ≡ true → ⊥
not_wanting (reply.Refused refusal.NoMemory) a b = absurd (cc)
not_wanting (reply.Refused refusal.HistoryFull) a b = absurd (cc)
not_wanting r a b = absurd (cc)

not_lacking : (r : ShownReply) → lacks_number r ≡ true → is_freed r ≡ true → ⊥
not_lacking (reply.Refused refusal.NotHolding) a b = absurd (cc)
not_lacking r a b = absurd (cc)

contrary : {X : Type 0} (b : Bool) → b ≡ true → b ≡ false → X
contrary b is other = absurd (let never : true ≡ false = sym is ∙ other in cc)

-- who is freed competes no more, and nobody enters by `leave` or `probe`
freed_after : (h u : HallState) (id : ℕ) (r : ShownReply) → HallMay h (Leave id) r u → is_freed r ≡ true → stay_of id (crowd u) ≡ None
freed_after h u id r may is = elim (leave_seen h id r u may) [
  | inl m ↦ absurd (not_both r m.0 is)
  | inr (inl m) ↦ ap (λ (v : HallState). stay_of id (crowd v)) m.2 ∙ m.0
  | inr (inr (inl m)) ↦ contrary (is_freed r) is m.2
  | inr (inr (inr m)) ↦ ap (stay_of id) m.1 ∙ gone_without (crowd h) id
]

absent_after_leave : (h u : HallState) (i id : ℕ) (r : ShownReply) → HallMay h (Leave i) r u → stay_of id (crowd h) ≡ None → stay_of id (crowd u) ≡ None
absent_after_leave h u i id r may none = elim (leave_seen h i r u may) [
  | inl m ↦ ap (λ (v : HallState). stay_of id (crowd v)) m.1 ∙ none
  | inr (inl m) ↦ ap (λ (v : HallState). stay_of id (crowd v)) m.2 ∙ none
  | inr (inr (inl m)) ↦ ap (λ (v : HallState). stay_of id (crowd v)) m.4 ∙ none
  | inr (inr (inr m)) ↦ ap (stay_of id) m.1 ∙ absent_without (crowd h) i id none
]

-- where another stay is put, it is seen of its identity alone
put_seen : (cs : List Competitor) (i : ℕ) (s : Stay) → is_some (stay_of i cs) ≡ true → (q : ℕ) → stay_of q (with_stay i s cs) ≡ set_at (λ v. stay_of v cs) i (Some s) q
put_seen cs i s there = seen-put (λ c. c.identity) (λ c. c.stay) cs (record { identity = i; stay = s }) there

put_own : (cs : List Competitor) (i : ℕ) (s : Stay) → is_some (stay_of i cs) ≡ true → stay_of i (with_stay i s cs) ≡ Some s
put_own cs i s there = put_seen cs i s there i ∙ elim (eqb_tells i i) [ inl w ↦ rw w.0 refl | inr w ↦ absurd (w.1 refl) ]

put_other : (cs : List Competitor) (i id : ℕ) (s : Stay) → is_some (stay_of i cs) ≡ true → stay_of id cs ≡ None → stay_of id (with_stay i s cs) ≡ None
put_other cs i id s there none = put_seen cs i s there id ∙ elim (eqb_tells id i) [
  | inl w ↦ contrary (is_some (stay_of i cs)) there (ap (λ (q : ℕ). is_some (stay_of q cs)) (sym w.1) ∙ ap is_some none)
  | inr w ↦ rw w.0 none
]

absent_after_probe : (h u : HallState) (i id : ℕ) (r : ShownReply) → HallMay h (Probe i) r u → stay_of id (crowd h) ≡ None → stay_of id (crowd u) ≡ None
absent_after_probe h u i id r may none = elim (probe_seen h i r u may) [
  | inl m ↦ ap (λ (v : HallState). stay_of id (crowd v)) m.1 ∙ none
  | inr (inl m) ↦ ap (λ (v : HallState). stay_of id (crowd v)) m.2 ∙ none
  | inr (inr (inl m)) ↦ ap (λ (v : HallState). stay_of id (crowd v)) m.3 ∙ none
  | inr (inr (inr m)) ↦ ap (stay_of id) m.4 ∙ put_other (crowd h) i id (stay_found (size_in h) m.0 m.1) (ap is_some m.2) none
]

absent_after_seek : (h u : HallState) (i id : ℕ) (r : ShownReply) → HallMay h (Seek i) r u → stay_of id (crowd h) ≡ None → stay_of id (crowd u) ≡ None
absent_after_seek h u i id r may none = elim (seek_seen h i r u may) [
  | inl m ↦ ap (λ (v : HallState). stay_of id (crowd v)) m.1 ∙ none
  | inr (inl m) ↦ ap (λ (v : HallState). stay_of id (crowd v)) m.2 ∙ none
  | inr (inr (inl m)) ↦ ap (λ (v : HallState). stay_of id (crowd v)) m.3 ∙ none
  | inr (inr (inr m)) ↦ ap (stay_of id) m.4 ∙ put_other (crowd h) i id (Settled m.1) (ap is_some m.2) none
]

-- a probe that misses goes on to the next number, and there is a later one
missed_on : (size next : ℕ) (got : Answer (Unit {0})) → is_missed (shown_probe (answer_in (stay_found size next got))) ≡ true →
    (stay_found size next got ≡ Seeking (next + 1)) × (next + 1 < size)
missed_on size next (Value v) missed = absurd (cc)
missed_on size next Done missed = absurd (cc)
missed_on size next (WasSet false) missed = absurd (cc)
missed_on size next (WasSet true) missed = elim (leb_tells (suc (next + 1)) size) [
  | inl w ↦ (rw w.0 refl, (let below = w.1 in omega arith))
  | inr w ↦ absurd (let no : false ≡ true = rw w.0 at missed in cc)
]

-- the last `probe` before a `leave` that finds no number held was refused room, if it did not miss
last_probe : (h u : HallState) (id k : ℕ) (r : ShownReply) → HallMay h (Probe id) r u → is_missed r ≡ false → stay_of id (crowd u) ≡ Some (Seeking k) → wants_room r ≡ true
last_probe h u id k r may missed is = elim (probe_seen h id r u may) [
  | inl m ↦ m.0
  | inr (inl m) ↦ absurd (let no : None ≡ Some (Seeking k) = sym (ap (λ (v : HallState). stay_of id (crowd v)) m.2 ∙ m.0) ∙ is in cc)
  | inr (inr (inl m)) ↦ absurd (let no : Some (Settled m.0) ≡ Some (Seeking k) = sym (ap (λ (v : HallState). stay_of id (crowd v)) m.3 ∙ m.1) ∙ is in cc)
  | inr (inr (inr m)) ↦
      let new = stay_found (size_in h) m.0 m.1 in
      let now : Some new ≡ Some (Seeking k) = sym (ap (stay_of id) m.4 ∙ put_own (crowd h) id new (ap is_some m.2)) ∙ is in
      let seeks : new ≡ Seeking k = cc in
      contrary (is_missed r) (ap is_missed m.3 ∙ ap (λ (s : Stay). is_missed (shown_probe (answer_in s))) seeks) missed
]

-- and so was `seek`, which never misses
last_seek : (h u : HallState) (id k : ℕ) (r : ShownReply) → HallMay h (Seek id) r u → stay_of id (crowd u) ≡ Some (Seeking k) → wants_room r ≡ true
last_seek h u id k r may is = elim (seek_seen h id r u may) [
  | inl m ↦ m.0
  | inr (inl m) ↦ absurd (let no : None ≡ Some (Seeking k) = sym (ap (λ (v : HallState). stay_of id (crowd v)) m.2 ∙ m.0) ∙ is in cc)
  | inr (inr (inl m)) ↦ absurd (let no : Some (Settled m.0) ≡ Some (Seeking k) = sym (ap (λ (v : HallState). stay_of id (crowd v)) m.3 ∙ m.1) ∙ is in cc)
  | inr (inr (inr m)) ↦ absurd (let no : Some (Settled m.1) ≡ Some (Seeking k) = sym (ap (stay_of id) m.4 ∙ put_own (crowd h) id (Settled m.1) (ap is_some m.2)) ∙ is in cc)
]

never_missed : (h u : HallState) (id : ℕ) → HallMay h (Seek id) reply.Missed u → ⊥
never_missed h u id may = elim (seek_seen h id reply.Missed u may) [
  | inl m ↦ absurd (let no : false ≡ true = m.0 in cc)
  | inr (inl m) ↦ absurd (let no : true ≡ false = m.1 in cc)
  | inr (inr (inl m)) ↦ absurd (let no : true ≡ false = m.2 in cc)
  | inr (inr (inr m)) ↦ absurd (let no : true ≡ false = m.3 in cc)
]

last_search : (wide : Bool) (h u : HallState) (id k : ℕ) (r : ShownReply) → HallMay h (searching wide id) r u → is_missed r ≡ false → stay_of id (crowd u) ≡ Some (Seeking k) → wants_room r ≡ true
last_search true h u id k r may missed is = last_seek h u id k r may is
last_search false h u id k r may missed is = last_probe h u id k r may missed is

-- either is an event of a release
of_release : (wide : Bool) (id : ℕ) → is_of_release (searching wide id) ≡ true
of_release true id = refl
of_release false id = refl

refused_so : (wide : Bool) (id : ℕ) (r : ShownReply) → wants_room r ≡ true → IsRefusedRoom id (searched wide id r)
refused_so true id r wants = (inr (inr refl), wants)
refused_so false id r wants = (inr (inl refl), wants)

-- `leave`, `probe` and `seek` leave the size
size_left : (pool : _) (id : ℕ) (o : Option Stay) → (after_leave_by pool id o).size ≡ pool.size
size_left pool id None = refl
size_left pool id (Some (Seeking n)) = refl
size_left pool id (Some (Settled n)) = refl

size_probed : (pool : _) (id : ℕ) (o : Option Stay) → (after_probe_by pool id o).size ≡ pool.size
size_probed pool id None = refl
size_probed pool id (Some (Seeking n)) = refl
size_probed pool id (Some (Settled n)) = refl

size_after_leave : (h u : HallState) (id : ℕ) (r : ShownReply) → HallMay h (Leave id) r u → size_in u ≡ size_in h
size_after_leave h u id r may = elim (seen h (Leave id) r u may) [
  | inl m ↦ ap size_in m.1
  | inr (inl m) ↦ ap size_in m.3
  | inr (inr m) ↦ ap (λ w. (slots_of w).pool.size) m.2 ∙ ap (λ p. p.size) ((leave_told (desk_of h) id).2) ∙ size_left (slots_of (desk_of h)).pool id (stay_of id (crowd h))
]

size_after_probe : (h u : HallState) (id : ℕ) (r : ShownReply) → HallMay h (Probe id) r u → size_in u ≡ size_in h
size_after_probe h u id r may = elim (seen h (Probe id) r u may) [
  | inl m ↦ ap size_in m.1
  | inr (inl m) ↦ ap size_in m.3
  | inr (inr m) ↦ ap (λ w. (slots_of w).pool.size) m.2 ∙ ap (λ p. p.size) ((probe_told (desk_of h) id).2) ∙ size_probed (slots_of (desk_of h)).pool id (stay_of id (crowd h))
]

size_after_seek : (h u : HallState) (id : ℕ) (r : ShownReply) → HallMay h (Seek id) r u → size_in u ≡ size_in h
size_after_seek h u id r may = elim (seek_seen h id r u may) [
  | inl m ↦ ap size_in m.1
  | inr (inl m) ↦ ap size_in m.2
  | inr (inr (inl m)) ↦ ap size_in m.3
  | inr (inr (inr m)) ↦ m.5
]

size_after_search : (wide : Bool) (h u : HallState) (id : ℕ) (r : ShownReply) → HallMay h (searching wide id) r u → size_in u ≡ size_in h
size_after_search true = size_after_seek
size_after_search false = size_after_probe

-- who was refused room among these turns was so among more of them
was_before : (id : ℕ) (ts us : List Turn) → WasRefusedRoom id ts → WasRefusedRoom id (ts ++ us)
was_before id [] us was = absurd was
was_before id (t ∷ ts) us was = elim was [ inl a ↦ inl a | inr b ↦ inr (was_before id ts us b) ]

was_behind : (id : ℕ) (ts us : List Turn) → WasRefusedRoom id us → WasRefusedRoom id (ts ++ us)
was_behind id [] us was = was
was_behind id (t ∷ ts) us was = inr (was_behind id ts us was)

said_before : (wide : Bool) (ts us : List Turn) → AreSaid wide (ts ++ us) → AreSaid wide ts
said_before wide [] us said = tt
said_before wide (t ∷ ts) us said = (said.0, said_before wide ts us said.1)

module _ {D : Type 0} (wide : Bool) (hall : D → HallState) (may : D → Request → ShownReply → D → Type 0) (so : ReleasesAsHall hall may) where
  tells_so : TellsOfStays may (λ d. competes_in (hall d))
  tells_so = record {
    freed = λ w u id r said is. ap is_some (freed_after (hall w) (hall u) id r (so w u (Leave id) r refl said) is);
    leave = λ w u id i r said none. ap is_some (absent_after_leave (hall w) (hall u) i id r (so w u (Leave i) r refl said) (none_of_false _ none));
    probe = λ w u id i r said none. ap is_some (absent_after_probe (hall w) (hall u) i id r (so w u (Probe i) r refl said) (none_of_false _ none));
    seek = λ w u id i r said none. ap is_some (absent_after_seek (hall w) (hall u) i id r (so w u (Seek i) r refl said) (none_of_false _ none));
  }

  size_kept : (turns : List Turn) (w u : D) → AreSaid wide turns → Runs may w turns u → size_in (hall u) ≡ size_in (hall w)
  size_kept [] w u said run = ap (λ d. size_in (hall d)) (sym run)
  size_kept (t ∷ ts) w u ((i, r, inl same), said) run =
      let on = subst (λ (x : Turn). Runs may w (x ∷ ts) u) same run in
      size_kept ts on.0 u said on.2 ∙ size_after_leave (hall w) (hall on.0) i r (so w on.0 (Leave i) r refl on.1)
  size_kept (t ∷ ts) w u ((i, r, inr same), said) run =
      let on = subst (λ (x : Turn). Runs may w (x ∷ ts) u) same run in
      size_kept ts on.0 u said on.2 ∙ size_after_search wide (hall w) (hall on.0) i r (so w on.0 (searching wide i) r (of_release wide i) on.1)

  -- who misses so often has as many numbers behind the next
  misses : (k : ℕ) (w u : D) (id n : ℕ) → Runs may w (replicate k (searched false id reply.Missed)) u → stay_of id (crowd (hall w)) ≡ Some (Seeking n) →
      (k ≡ 0) ⊎ (n + k < size_in (hall w))
  misses zero w u id n run is = inl refl
  misses (suc k) w u id n run is =
      let missed = so w run.0 (Probe id) reply.Missed refl run.1 in
      elim (probe_seen (hall w) id reply.Missed (hall run.0) missed) [
        | inl m ↦ absurd (let no : false ≡ true = m.0 in cc)
        | inr (inl m) ↦ absurd (let no : true ≡ false = m.1 in cc)
        | inr (inr (inl m)) ↦ absurd (let no : true ≡ false = m.2 in cc)
        | inr (inr (inr m)) ↦
            let found : Some (Seeking m.0) ≡ Some (Seeking n) = sym m.2 ∙ is in
            let same : m.0 ≡ n = cc in
            let on = missed_on (size_in (hall w)) m.0 m.1 (ap is_missed (sym m.3)) in
            let next : stay_of id (crowd (hall run.0)) ≡ Some (Seeking (m.0 + 1)) =
            ap (stay_of id) m.4 ∙ put_own (crowd (hall w)) id (stay_found (size_in (hall w)) m.0 m.1) (ap is_some m.2) ∙ ap Some on.0 in
            let here = on.1 in
            let sized = m.5 in
            elim (misses k run.0 u id (m.0 + 1) run.2 next) [ inl none ↦ inr (omega (arith, none, here, same)) | inr more ↦ inr (omega (arith, more, sized, same)) ]
      ]

  -- a stay that a `leave` found without a number
  seeks_after : (h u : HallState) (id : ℕ) (r : ShownReply) → HallMay h (Leave id) r u → lacks_number r ≡ true → (n : ℕ) × (stay_of id (crowd u) ≡ Some (Seeking n))
  seeks_after h u id r said lacks = elim (leave_seen h id r u said) [
    | inl m ↦ absurd (not_wanting r m.0 lacks)
    | inr (inl m) ↦ absurd (not_lacking r lacks m.1)
    | inr (inr (inl m)) ↦ (m.0, ap (λ (v : HallState). stay_of id (crowd v)) m.4 ∙ m.1)
    | inr (inr (inr m)) ↦ absurd (not_lacking r lacks m.0)
  ]

  -- among the probes of an identity that holds no number behind them one was refused room
  all_missed : (b : Bool) (id : ℕ) (w u : D) (n : ℕ) → Runs may w (replicate (most_said b) (searched b id reply.Missed)) u → (b ≡ false → size_in (hall w) ≤ 64) →
      stay_of id (crowd (hall w)) ≡ Some (Seeking n) → ⊥
  all_missed true id w u n run small before = never_missed (hall w) (hall run.0) id (so w run.0 (Seek id) reply.Missed refl run.1)
  all_missed false id w u n run small before =
      let few = small refl in
      elim (misses 64 w u id n run before) [ inl none ↦ absurd (omega (arith, none)) | inr more ↦ absurd (omega (arith, more, few)) ]

  probes_refused : (id : ℕ) (probes : List Turn) (w u : D) (n k : ℕ) → AreProbes wide id probes → Runs may w probes u → (wide ≡ false → size_in (hall w) ≤ 64) →
      stay_of id (crowd (hall w)) ≡ Some (Seeking n) → stay_of id (crowd (hall u)) ≡ Some (Seeking k) → WasRefusedRoom id probes
  probes_refused id probes w u n k (inl all) run small before behind =
      absurd (all_missed wide id w u n (subst (λ (ts : List Turn). Runs may w ts u) all run) small before)
  probes_refused id probes w u n k (inr (j, r, lt, other, parts)) run small before behind =
      let cut = runs-cut may w u (replicate j (searched wide id reply.Missed)) (searched wide id r ∷ []) (subst (λ (ts : List Turn). Runs may w ts u) parts run) in
      let last = so cut.0 cut.2.0 (searching wide id) r (of_release wide id) cut.2.1 in
      let there : stay_of id (crowd (hall cut.2.0)) ≡ Some (Seeking k) = ap (λ (d : D). stay_of id (crowd (hall d))) cut.2.2 ∙ behind in
      subst (WasRefusedRoom id) (sym parts)
      (was_behind id (replicate j (searched wide id reply.Missed)) (searched wide id r ∷ []) (inl (refused_so wide id r (last_search wide (hall cut.0) (hall cut.2.0) id k r last other there))))

  -- by a release that did not free it an identity was refused room
  release_refused : (id : ℕ) (r : ShownReply) (one : List Turn) (w u : D) → IsReleaseBy wide id r one → is_freed r ≡ false → Runs may w one u → (wide ≡ false → size_in (hall w) ≤ 64) → WasRefusedRoom id one
  release_refused id r one w u (inl (parts, held)) freed run small =
      let on = subst (λ (ts : List Turn). Runs may w ts u) parts run in
      subst (WasRefusedRoom id) (sym parts) (elim (leave_seen (hall w) id r (hall on.0) (so w on.0 (Leave id) r refl on.1)) [
        | inl m ↦ inl (inl refl, m.0)
        | inr (inl m) ↦ contrary (is_freed r) m.1 freed
        | inr (inr (inl m)) ↦ contrary (lacks_number r) m.3 held
        | inr (inr (inr m)) ↦ contrary (is_freed r) m.0 freed
      ])
  release_refused id r one w u (inr (first, probes, lacks, are, parts)) freed run small =
      let on = subst (λ (ts : List Turn). Runs may w ts u) parts run in
      let begun = so w on.0 (Leave id) first refl on.1 in
      let cut = runs-cut may on.0 u probes (leave_of id r ∷ []) on.2 in
      let last = so cut.0 cut.2.0 (Leave id) r refl cut.2.1 in
      let sized = size_after_leave (hall w) (hall on.0) id first begun in
      let smaller : wide ≡ false → size_in (hall on.0) ≤ 64 = λ narrow. let few = small narrow in omega (arith, sized, few) in
      let start = seeks_after (hall w) (hall on.0) id first begun lacks in
      subst (WasRefusedRoom id) (sym parts) (elim (leave_seen (hall cut.0) id r (hall cut.2.0) last) [
        | inl m ↦ inr (was_behind id probes (leave_of id r ∷ []) (inl (inl refl, m.0)))
        | inr (inl m) ↦ contrary (is_freed r) m.1 freed
        | inr (inr (inl m)) ↦ inr (was_before id probes (leave_of id r ∷ []) (probes_refused id probes on.0 cut.0 start.0 m.0 are cut.1 smaller start.1 m.1))
        | inr (inr (inr m)) ↦ contrary (is_freed r) m.0 freed
      ])

  pub frees_all : ReleasesFree wide may → FreesAll wide hall may
  frees_all free due w u released id small among = elim (free (λ d. competes_in (hall d)) due w u released id tells_so among) [
    | inl away ↦ inl away
    | inr kept ↦
        let cut = runs-cut may w.service u.service kept.before (kept.one ++ kept.after) (subst (λ (ts : List Turn). Runs may w.service ts u.service) kept.parts released.run) in
        let more = runs-cut may cut.0 u.service kept.one kept.after cut.2 in
        let said = said_before wide kept.before (kept.one ++ kept.after) (subst (AreSaid wide) kept.parts (said_releases wide due released.turns released.each)) in
        let sized = size_kept kept.before w.service cut.0 said cut.1 in
        let smaller : wide ≡ false → size_in (hall cut.0) ≤ 64 = λ narrow. let few = small narrow in omega (arith, sized, few) in
        let was = release_refused id kept.reply kept.one cut.0 more.0 kept.by kept.not more.1 smaller in
        inr (subst (WasRefusedRoom id) (sym kept.parts) (was_behind id kept.before (kept.one ++ kept.after) (was_before id kept.one kept.after was)))
  ]

-- both are applied, whatever the rules are
pub as_hall : (rules : Rules) (h : HallState) (e : Event) (r : ShownReply) (u : HallState) → is_of_release e ≡ true → Serves rules h (Take e) r u → HallMay h e r u
as_hall rules h (Leave p) r u is may = may
as_hall rules h (Probe p) r u is may = may
as_hall rules h (Seek p) r u is may = may
as_hall rules h e r u is may = absurd (cc)
