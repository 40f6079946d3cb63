-- what a server does to an attended service, one thing after another
use Rattle.std.proofs.Common.{◌≡◌, ◌⊎◌, ◌∙◌, inl, inr, ℕ, Bool, true, false, if◌then◌else◌, not, List, [], ◌∷◌, ◌++◌, filter, map, Option, Some, None, refl, sym, ap, subst}
use Rattle.std.proofs.lemmas.List.{append_assoc}
use Rattle.model_asked.specs.declared.event.Event.{Event}
use Rattle.model_asked.specs.declared.event.Event.TheVariants as event
use Rattle.service_loop.proofs.Common.{Request, ShownReply, Turn, WorldKind, Peek}
use Rattle.text_player.specs.Turns.Turn.{Answered, Reported, Ended, Misread}
use Rattle.text_lines.specs.Meaning.{meaning}
use Rattle.model_pool.specs.slots.SlotsState.{SlotsState}
use Rattle.model_pool.specs.declared.stays.kept_stay.KeptStay.{KeptStay}
use Rattle.model_pool.specs.stays.Stays.{Act, Has, IsDue, IsGraced, after_acts, is_kept}
use Rattle.model_pool.specs.stays.Stays.Act.{Entered, Left, Ended as KeeperEnded, Quit}
use Rattle.text_lines.specs.Lines.{whole_lines}
use Rattle.text_player.specs.Shared.{all_turns}
use Rattle.service_loop.specs.declared.attended.Attended.{Attended}
use Rattle.service_loop.specs.declared.attended.Ending.{Ending}
use Rattle.service_loop.specs.declared.attended.TheConstants.{NOBODY}
use Rattle.service_loop.specs.Attendance.{AllAttended, AreHeard, AreLeft, AreLost, AttendedBy, AttendedDeed, EndsStays, KeepsGrace, WasAttended}
use Rattle.service_loop.specs.Attendance.AttendedDeed.{Waits, Prefetches, Serves, Takes, Loses, Ends}
use Rattle.service_loop.specs.Attending.{Hears, acts_in, acts_of_endings, number_at}
use Rattle.service_loop.specs.Gathering.{PrefetchedIteration}
use Rattle.service_loop.specs.Keepers.{HearsAndEnds}
use Rattle.service_loop.specs.Losing.{entered_by, lost_act, lost_acts}
use Rattle.service_loop.specs.Releasing.{EndsDue, competes_for, freed_by, freed_in, freed_of, is_freed}
use Rattle.service_loop.specs.Rounds.{Deed, WasServed}
use Rattle.service_loop.specs.Seats.{LoopIteration, Seating}
use Rattle.service_loop.specs.Table.{AreNumbered}
use Rattle.service_loop.specs.Taking.{TakingsKept, TakingsPrefetched}
use Rattle.service_loop.specs.declared.connection.Connection.{Connection}
use Rattle.service_loop.specs.declared.manner.Manner.{Manner}
use Rattle.service_loop.proofs.AttendedLemmas.{hears_none, hears_then}
use Rattle.service_loop.proofs.RoundLemmas.{served_none, served_then, served_waits}
use Rattle.service_loop.proofs.cited.ReleaseLemmas.{served_due}

-- a service that was put into an attended one, and nothing else
inside : {D : Type 0} (w : Attended D) (d : D) → Hears [] w (record w { service = d })
inside w d =
    let h = hears_none w in
    record { keeps_is = h.keeps_is; stays_are = h.stays_are }

-- what is heard goes out from the table alone
outside : {D : Type 0} {acts : List Act} (w : Attended D) (d : D) (u : Attended D) → Hears acts w u → Hears acts (record w { service = d }) u
outside w d u h = record { keeps_is = h.keeps_is; stays_are = h.stays_are }

left_append : (xs ys : List Act) → AreLeft xs → AreLeft ys → AreLeft (xs ++ ys)
left_append [] ys one two = two
left_append (Left id ∷ xs) ys one two = left_append xs ys one two
left_append (Entered id c ∷ xs) ys one two = absurd one
left_append (KeeperEnded c tick ∷ xs) ys one two = absurd one
left_append (Quit c ∷ xs) ys one two = absurd one

left_map : (ids : List ℕ) → AreLeft (map Left ids)
left_map [] = tt
left_map (id ∷ ids) = left_map ids

left_if : (yes : Bool) (id : ℕ) → AreLeft (if yes then Left id ∷ [] else [])
left_if true id = tt
left_if false id = tt

left_by : (e : Event) (r : ShownReply) → AreLeft (freed_by e r)
left_by (event.Begin id) r = tt
left_by (event.Step id) r = tt
left_by (event.Enter id) r = tt
left_by (event.Probe id) r = tt
left_by (event.Seek id) r = tt
left_by (event.Leave id) r = left_if (is_freed r) id
left_by (event.Put id value) r = tt
left_by (event.Get id) r = tt
left_by (event.Widen size) r = tt

left_of : (t : Turn) → AreLeft (freed_of t)
left_of (Answered x) = left_by x.event x.reply
left_of (Reported n r) = tt
left_of Ended = tt
left_of (Misread bad) = tt

left_in : (turns : List Turn) → AreLeft (freed_in turns)
left_in [] = tt
left_in (t ∷ ts) = left_append (freed_of t) (freed_in ts) (left_of t) (left_in ts)

lost_if : (yes : Bool) (id : ℕ) → AreLost (if yes then [] else Entered id NOBODY ∷ [])
lost_if true id = tt
lost_if false id = (refl, tt)

lost_one : (stays : List KeptStay) (id : Option ℕ) → AreLost (lost_act stays id)
lost_one stays None = tt
lost_one stays (Some id) = lost_if (is_kept id stays) id

lost_append : (xs ys : List Act) → AreLost xs → AreLost ys → AreLost (xs ++ ys)
lost_append [] ys one two = two
lost_append (Left id ∷ xs) ys one two = absurd one
lost_append (Entered id c ∷ xs) ys one two = (one.0, lost_append xs ys one.1 two)
lost_append (KeeperEnded c tick ∷ xs) ys one two = absurd one
lost_append (Quit c ∷ xs) ys one two = absurd one

lost_all : (kind : WorldKind) (stays : List KeptStay) (lines : List (List ℕ)) → AreLost (lost_acts kind stays lines)
lost_all kind stays [] = tt
lost_all kind stays (line ∷ lines) =
    let one = lost_act stays (entered_by (meaning kind line)) in
    lost_append one (lost_acts kind (after_acts stays one) lines) (lost_one stays (entered_by (meaning kind line))) (lost_all kind (after_acts stays one) lines)

module _ {C D K : Type 0} (on : Seating C) (manner : Manner) (may : D → Request → ShownReply → D → Type 0) (prefetches : K → D → List ℕ → K → D → Type 0) (persists waits : K → D → K → D → Type 0) (shares : K → Bool) (holds : K → D → SlotsState ℕ) (grace : Option ℕ) where
  abbrev Was : K → Attended D → K → Attended D → Type 0
  Was k w l u = WasAttended on manner may prefetches persists waits shares holds grace k w l u

  abbrev All : K → Attended D → List AttendedDeed → K → Attended D → Type 0
  All k w deeds l u = AllAttended on manner may prefetches persists waits shares holds grace k w deeds l u

  -- nothing was done
  pub attended_none : (k : K) (w : Attended D) → Was k w k w
  attended_none k w = ([], (refl, refl))

  -- one thing was done after another
  all_then : (xs ys : List AttendedDeed) (k mid l : K) (w v u : Attended D) → All k w xs mid v → All mid v ys l u → All k w (xs ++ ys) l u
  all_then [] ys k mid l w v u one two = subst (λ (m : K). All m w ys l u) one.0 (subst (λ (x : Attended D). All mid x ys l u) one.1 two)
  all_then (x ∷ xs) ys k mid l w v u one two = (one.0, one.1, one.2, all_then xs ys one.0 mid l one.1 v u one.3 two)

  pub attended_then : (k mid l : K) (w v u : Attended D) → Was k w mid v → Was mid v l u → Was k w l u
  attended_then k mid l w v u one two = (one.0 ++ two.0, all_then one.0 two.0 k mid l w v u one.1 two.1)

  -- by a Boolean that says the same of the world
  pub attended_more : (told : Manner) → told ≡ manner → (k mid l : K) (w v u : Attended D) → Was k w mid v → WasAttended on told may prefetches persists waits shares holds grace mid v l u → Was k w l u
  attended_more told is k mid l w v u one two =
      attended_then k mid l w v u one (subst (λ (b : Manner). WasAttended on b may prefetches persists waits shares holds grace mid v l u) is two)

  -- the persister went on by itself, or nothing was done
  pub attended_maybe : (k l : K) (w : Attended D) (d : D) → ((l ≡ k) × (d ≡ w.service)) ⊎ waits k w.service l d → Was k w l (record w { service = d })
  attended_maybe k l w d (inl same) = ([], (same.0, ap (λ (s : D). record w { service = s }) same.1))
  attended_maybe k l w d (inr done) = (Waits ∷ [], (l, record w { service = d }, (done, inside w d), (refl, refl)))

  -- the answers to these lines were lost
  pub attended_lost : (kind : WorldKind) (lines : List ℕ) (k l : K) (w u : Attended D) → waits k w.service l u.service × Hears (lost_acts kind w.stays (whole_lines lines)) w u → Was k w l u
  attended_lost kind lines k l w u lost = (Loses kind lines ∷ [], (l, u, lost, (refl, refl)))

  -- it was heard which connections ended, and the stays that are due were ended
  pub attended_ends : {may_answer : K → Type 0} {S A : Type 0} (passed : Bool) (tick : ℕ) (lost : Bool) (endings : List Ending) (numbers : List ℕ) (seats : List (Option (Connection S A))) (k l : K) (w u : Attended D) →
      HearsAndEnds may_answer (EndsDue manner.wide may persists waits shares holds) grace passed tick (acts_of_endings tick lost endings) numbers seats k w l u → Was k w l u
  attended_ends passed tick lost endings numbers seats k l w u h =
      (Ends passed tick lost endings ∷ [], (l, u, record { heard = h.heard; hears = h.hears; same = h.same; ended = h.ended }, (refl, refl)))

  -- connections took turns
  pub attended_turn : (numbers : List ℕ) (next : ℕ) → AreNumbered numbers next → (k l : K) (w u : Attended D) (seats seats' : List (Option C)) → (t : LoopIteration on may persists k w.service seats l u.service seats') → Hears (acts_in (number_at numbers) t.log) w u → Was k w l u
  attended_turn numbers next numbered k l w u seats seats' t hears =
      (Serves numbers t.log ∷ [], (l, u, record { seats = seats; seats' = seats'; turn = t; log_is = refl; next = next; numbered = numbered; hears = hears }, (refl, refl)))

  -- or numbers
  pub attended_takings : (ahead patient : Bool) (numbers : List ℕ) (next : ℕ) → AreNumbered numbers next → (k l : K) (w u : Attended D) (seats seats' : List (Option C)) → (t : TakingsKept on manner ahead patient may persists k w.service seats l u.service seats') → Hears (acts_in (number_at numbers) t.log) w u → Was k w l u
  attended_takings ahead patient numbers next numbered k l w u seats seats' t hears =
      (Takes numbers t.log ∷ [], (l, u, record { ahead = ahead; patient = patient; seats = seats; seats' = seats'; taking = t; log_is = refl; next = next; numbered = numbered; hears = hears }, (refl, refl)))

  -- before them their answers were prefetched, where there were any
  prefetched_then : (lines : List ℕ) (k mid l : K) (w u : Attended D) (ready : D) → ((lines ≡ []) × (mid ≡ k) × (ready ≡ w.service)) ⊎ prefetches k w.service lines mid ready → Was mid (record w { service = ready }) l u → Was k w l u
  prefetched_then lines k mid l w u ready (inl none) later =
      subst (λ (m : K). Was m w l u) none.1 (subst (λ (d : D). Was mid (record w { service = d }) l u) none.2 later)
  prefetched_then lines k mid l w u ready (inr done) later =
      let after = record w { service = ready } in
      attended_then k mid l w after u (Prefetches lines ∷ [], (mid, after, (done, inside w ready), (refl, refl))) later

  pub attended_prefetched : (peek : C → Option Peek) (Due : C → Type 0) (kind : WorldKind) (keys numbers : List ℕ) (next : ℕ) → AreNumbered numbers next → (k l : K) (w u : Attended D) (lines : List ℕ) (seats seats' : List (Option C)) →
      (t : PrefetchedIteration on peek Due may prefetches persists kind keys k w.service seats lines l u.service seats') → Hears (acts_in (number_at numbers) t.turn.log) w u → Was k w l u
  attended_prefetched peek Due kind keys numbers next numbered k l w u lines seats seats' t hears =
      prefetched_then lines k t.prefetched_by l w u t.ready t.prefetched
      (attended_turn numbers next numbered t.prefetched_by l (record w { service = t.ready }) u t.gathered_seats seats' t.turn (outside w t.ready u hears))

  pub attended_takings_prefetched : (ahead patient : Bool) (numbers : List ℕ) (next : ℕ) → AreNumbered numbers next → (k l : K) (w u : Attended D) (lines : List ℕ) (seats seats' : List (Option C)) →
      (t : TakingsPrefetched on manner ahead patient may prefetches persists k w.service seats lines l u.service seats') → Hears (acts_in (number_at numbers) t.turn.log) w u → Was k w l u
  attended_takings_prefetched ahead patient numbers next numbered k l w u lines seats seats' t hears =
      prefetched_then lines k t.prefetched_by l w u t.ready t.prefetched
      (attended_takings ahead patient numbers next numbered t.prefetched_by l (record w { service = t.ready }) u seats seats' t.turn (outside w t.ready u hears))

  -- so it is what a server does to its service and its persister
  served_ends : (passed : Bool) (tick : ℕ) (acts : List Act) (k l : K) (w u : Attended D) → EndsStays on manner may prefetches persists waits shares holds grace passed tick acts k w l u → WasServed may prefetches persists waits k w.service l u.service
  served_ends passed tick acts k l w u e = subst (λ (d : D). WasServed may prefetches persists waits k d l u.service) e.same
      (elim e.ended.only as (λ _. WasServed may prefetches persists waits k e.heard.service l u.service) [
        | inl none ↦ rw (none.0, none.1) (served_none may prefetches persists waits k e.heard.service)
        | inr some ↦ served_due manner.wide may prefetches persists waits shares holds _ k l e.heard u some.2
      ])

  served_by : (deed : AttendedDeed) (k l : K) (w u : Attended D) → AttendedBy on manner may prefetches persists waits shares holds grace k w deed l u → WasServed may prefetches persists waits k w.service l u.service
  served_by Waits k l w u by = served_waits may prefetches persists waits k l w.service u.service by.0
  served_by (Prefetches lines) k l w u by = (Deed.Prefetches lines ∷ [], (l, u.service, by.0, (refl, refl)))
  served_by (Serves numbers log) k l w u by =
      let t = by.turn in
      (Deed.Serves (all_turns t.log) ∷ [], (l, u.service, (t.reported, t.taken.run, t.kept), (refl, refl)))
  served_by (Takes numbers log) k l w u by =
      let t = by.taking in
      (Deed.Serves (all_turns t.log) ∷ [], (l, u.service, (t.reported, t.taken.run, t.kept), (refl, refl)))
  served_by (Loses kind lines) k l w u by = served_waits may prefetches persists waits k l w.service u.service by.0
  served_by (Ends passed tick lost endings) k l w u by = served_ends passed tick (acts_of_endings tick lost endings) k l w u by

  served_all : (deeds : List AttendedDeed) (k l : K) (w u : Attended D) → All k w deeds l u → WasServed may prefetches persists waits k w.service l u.service
  served_all [] k l w u same = rw (same.0, same.1) (served_none may prefetches persists waits k w.service)
  served_all (deed ∷ deeds) k l w u all = served_then may prefetches persists waits k all.0 l w.service all.1.service u.service (served_by deed k all.0 w all.1 all.2) (served_all deeds all.0 l all.1 u all.3)

  pub was_served : (k l : K) (w u : Attended D) → Was k w l u → WasServed may prefetches persists waits k w.service l u.service
  was_served k l w u was = served_all was.0 k l w u was.1

  -- what is heard by one thing, before whatever is heard by what is done later
  abbrev HeardFirst : AttendedDeed → Attended D → Attended D → Type 0
  HeardFirst deed w u = (acts : List Act) × Hears acts w u × ((deeds : List AttendedDeed) (rest : List Act) → AreHeard deeds rest → AreHeard (deed ∷ deeds) (acts ++ rest))

  -- the stays that are due were left
  abbrev LeftBy : Attended D → Attended D → Type 0
  LeftBy w u = (left : List Act) × Hears left w u × AreLeft left

  left_same : (w u : Attended D) → u ≡ w → LeftBy w u
  left_same w u same = ([], subst (λ (v : Attended D). Hears [] w v) (sym same) (hears_none w), tt)

  left_due : (due : List ℕ) (k l : K) (w u : Attended D) → EndsDue manner.wide may persists waits shares holds due k w l u → LeftBy w u
  left_due due k l w u (inl on) =
      let f = on.1.forgot in
      let ids = filter (λ id. not (competes_for (holds l on.1.reached.service) id)) due in
      (map Left ids, hears_then [] (map Left ids) w on.1.reached u on.1.same f.heard, left_map ids)
  left_due due k l w u (inr (_, inl none)) = left_same w u none.2
  left_due due k l w u (inr (_, inr r)) =
      let turns = r.released.turns in
      (freed_in turns ++ [], hears_then (freed_in turns) [] w r.reported u r.released.heard r.same, left_append (freed_in turns) [] (left_in turns) tt)

  heard_ends : (passed : Bool) (tick : ℕ) (lost : Bool) (endings : List Ending) (k l : K) (w u : Attended D) → EndsStays on manner may prefetches persists waits shares holds grace passed tick (acts_of_endings tick lost endings) k w l u → HeardFirst (Ends passed tick lost endings) w u
  heard_ends passed tick lost endings k l w u e =
      let first = acts_of_endings tick lost endings in
      let left : LeftBy e.heard u = elim e.ended.only as (λ _. LeftBy e.heard u) [
        | inl none ↦ left_same e.heard u none.1
        | inr some ↦ left_due _ k l e.heard u some.2
      ] in
      (first ++ left.0, hears_then first left.0 w e.heard u e.hears left.1, λ deeds rest later. (left.0, rest, append_assoc first left.0 rest, left.2, later))

  heard_by : (deed : AttendedDeed) (k l : K) (w u : Attended D) → AttendedBy on manner may prefetches persists waits shares holds grace k w deed l u → HeardFirst deed w u
  heard_by Waits k l w u by = ([], by.1, λ deeds rest later. later)
  heard_by (Prefetches lines) k l w u by = ([], by.1, λ deeds rest later. later)
  heard_by (Serves numbers log) k l w u by = (acts_in (number_at numbers) log, by.hears, λ deeds rest later. (rest, refl, later))
  heard_by (Takes numbers log) k l w u by = (acts_in (number_at numbers) log, by.hears, λ deeds rest later. (rest, refl, later))
  heard_by (Loses kind lines) k l w u by =
      let lost = lost_acts kind w.stays (whole_lines lines) in
      (lost, by.1, λ deeds rest later. (lost, rest, refl, lost_all kind w.stays (whole_lines lines), later))
  heard_by (Ends passed tick lost endings) k l w u by = heard_ends passed tick lost endings k l w u by

  heard_all : (deeds : List AttendedDeed) (k l : K) (w u : Attended D) → All k w deeds l u → (acts : List Act) × AreHeard deeds acts × Hears acts w u
  heard_all [] k l w u same = ([], refl, subst (λ (v : Attended D). Hears [] w v) (sym same.1) (hears_none w))
  heard_all (deed ∷ deeds) k l w u all =
      let first = heard_by deed k all.0 w all.1 all.2 in
      let later = heard_all deeds all.0 l all.1 u all.3 in
      (first.0 ++ later.0, first.2 deeds later.0 later.1, hears_then first.0 later.0 w all.1 u first.1 later.2)

  -- the table of stays is where these acts led it
  table_after : (acts : List Act) (w u : Attended D) → Hears acts w u → u.keeps ≡ true → u.lacks ≡ false → u.stays ≡ after_acts w.stays acts
  table_after acts w u h keeps well =
      let kept : w.keeps ≡ true = sym h.keeps_is ∙ keeps in
      (h.stays_are well).1 ∙ rw kept refl

  pub keeps_grace : ((g tick : ℕ) (first : List KeptStay) (acts : List Act) (stay : KeptStay) → Has stay (after_acts first acts) → IsDue g tick stay.keeper → IsGraced g tick first acts stay) →
      KeepsGrace on manner may prefetches persists waits shares holds grace
  keeps_grace law = λ k mid l w v u deeds passed tick lost endings all e keeps well g stay has due.
      let heard = heard_all deeds k mid w v all in
      let ends = acts_of_endings tick lost endings in
      let acts = heard.0 ++ ends in
      let is = table_after acts w e.heard (hears_then heard.0 ends w v e.heard heard.2 e.hears) keeps well in
      (heard.0, heard.1, law g tick w.stays acts stay (subst (Has stay) is has) due)
