-- a write-ahead hall that is served for a while, and its journal
use Rattle.std.proofs.Common.{◌≡◌, ◌≤◌, List, [], ◌∷◌, ◌++◌, length, Option, inl, inr, refl, ap, subst, sym, ◌∙◌, arith}
use Rattle.model_asked.specs.declared.event.Event.{Event}
use Rattle.model_asked.specs.Replies.{ShownReply}
use Rattle.service_journal.specs.DiskState.{DiskState}
use Rattle.text_player.specs.Runs.{Runs}
use Rattle.text_player.specs.Turns.{Turn, exchanges}
use Rattle.text_player.specs.Turns.Turn.{Answered, Reported, Ended, Misread}
use Rattle.service_hall.specs.GoesOn.{GoesOn}
use Rattle.service_hall.specs.Halls.{HallMay, SatisfiesSpec}
use Rattle.service_hall.specs.HallState.{HallState}
use Rattle.service_hall.specs.Reading.{Serves as ServesBy, stored}
use Rattle.service_hall.specs.Serving.{HallServes, accepted}
use Rattle.service_hall.specs.declared.rules.Rules.{Rules}
use Rattle.service_journal.specs.WriteAheadState.{WriteAheadState}
use Rattle.service_journal.specs.Journals.{Stands}
use Rattle.service_loop.specs.Rounds.{AllDone, Deed, WasServed}
use Rattle.service_loop.specs.Rounds.Deed.{Waits, Prefetches, Serves}
use Rattle.service_host.specs.declared.persisters.Recorded.{Recorded}
use Rattle.service_host.specs.Hosting.{WasHosted}
use Rattle.service_host.specs.Readings.{ReadingServes}
use Rattle.service_host.specs.declared.reading.Reading.{Reading}
use Rattle.service_host.specs.Kept.{IsKept, KeptBy, MayCompactHall, Rests}
use Rattle.service_host.proofs.HostingLemmas.{after_compacting, follows, same_reported, still_stands}

-- whether compacted or not
compacted_lawful : (h u : HallState) → MayCompactHall h u → SatisfiesSpec h → SatisfiesSpec u × (u.config ≡ h.config)
compacted_lawful h u (inl same) lawful = (subst SatisfiesSpec (sym same) lawful, ap (λ (x : HallState). x.config) same)
compacted_lawful h u (inr done) lawful = (done.lawful, done.config)

module _ {D : Type 0} (state : D → Option DiskState)
    (goes_on : (h u : HallState) (e : Event) (r : ShownReply) → SatisfiesSpec h → HallMay h e r u → GoesOn h e r u)
    (without : (rules : Rules) (h u : HallState) (ts : List Turn) → Runs (ServesBy rules) h ts u → Runs HallServes h (stored rules ts) u)
    (history : (rules : Rules) (h u : HallState) (ts : List Turn) → SatisfiesSpec h → Runs (ServesBy rules) h ts u → u.history ≡ h.history ++ accepted (exchanges (stored rules ts))) where
  -- what is done to a write-ahead hall and its persister
  abbrev LongServed : Recorded D → Reading WriteAheadState → List Deed → Recorded D → Reading WriteAheadState → Type 0
  LongServed k c deeds l u = AllDone ReadingServes (λ j w lines i v. Rests j w i v) (KeptBy state) (λ j w i v. Rests j w i v) k c deeds l u

  -- a lawful hall answers turns as a lawful one
  lawful_run : (h u : HallState) (ts : List Turn) → SatisfiesSpec h → Runs HallServes h ts u → SatisfiesSpec u
  lawful_run h u [] lawful run = subst SatisfiesSpec run lawful
  lawful_run h u (Answered x ∷ ts) lawful run = lawful_run run.0 u ts ((goes_on h run.0 x.event x.reply lawful run.1).lawful) run.2
  lawful_run h u (Reported n r ∷ ts) lawful run = lawful_run run.0 u ts (subst SatisfiesSpec (sym run.1.1) lawful) run.2
  lawful_run h u (Ended ∷ ts) lawful run = lawful_run h u ts lawful run
  lawful_run h u (Misread bad ∷ ts) lawful run = lawful_run h u ts lawful run

  -- after a turn of the loop
  served_once : (k l : Recorded D) (c reported u : Reading WriteAheadState) (ts : List Turn) → SatisfiesSpec c.service.hall → c.service.reported ≤ length c.service.hall.history →
      Stands state k.journal c.service → Runs ReadingServes c ts reported → KeptBy state k reported l u → WasHosted state c l.journal u
  served_once k l c reported u ts lawful few stands run both =
      let kept : IsKept state k.journal reported.service l.journal u.service = both.0 in
      let way = follows c reported ts run in
      let gained = history c.rules c.service.hall reported.service.hall ts lawful way.run in
      let same = same_reported c.service reported.service (accepted (exchanges (stored c.rules ts))) few way.config way.reported gained in
      let stood = still_stands state k.journal c.service reported.service same stands in
      let ended = after_compacting reported.service u.service kept.compacted in
      let lawful_then = lawful_run c.service.hall reported.service.hall (stored c.rules ts) lawful (without c.rules c.service.hall reported.service.hall ts way.run) in
      let whole = compacted_lawful reported.service.hall u.service.hall ended.0 lawful_then in
      record {
        lawful = whole.0;
        config = whole.1 ∙ way.config;
        rules = both.1 ∙ way.rules;
        few = (let all = ended.1 in omega (arith, all));
        stands = kept.stands_then (kept.stands stood);
      }

  -- the same was done where nothing happened first
  rested : (deeds : List Deed) (k mid l : Recorded D) (c then u : Reading WriteAheadState) → Rests k c mid then → LongServed mid then deeds l u → LongServed k c deeds l u
  rested deeds k mid l c then u rests done =
      subst (λ (j : Recorded D). LongServed j c deeds l u) rests.0 (subst (λ (v : Reading WriteAheadState). LongServed mid v deeds l u) rests.1 done)

  -- and after any number of them
  served_long : (deeds : List Deed) (k l : Recorded D) (c u : Reading WriteAheadState) → SatisfiesSpec c.service.hall → c.service.reported ≤ length c.service.hall.history →
      Stands state k.journal c.service → LongServed k c deeds l u → WasHosted state c l.journal u
  served_long [] k l c u lawful few stands done =
      subst (λ (j : Recorded D). WasHosted state c j.journal u) (sym done.0)
      (subst (λ (v : Reading WriteAheadState). WasHosted state c k.journal v) (sym done.1) (record { lawful = lawful; config = refl; rules = refl; few = few; stands = stands }))
  served_long (Waits ∷ deeds) k l c u lawful few stands done = served_long deeds k l c u lawful few stands (rested deeds k done.0 l c done.1 u done.2 done.3)
  served_long (Prefetches lines ∷ deeds) k l c u lawful few stands done = served_long deeds k l c u lawful few stands (rested deeds k done.0 l c done.1 u done.2 done.3)
  served_long (Serves ts ∷ deeds) k l c u lawful few stands done =
      let once = served_once k done.0 c done.2.0 done.1 ts lawful few stands done.2.1 done.2.2 in
      let rest = served_long deeds done.0 l done.1 u once.lawful once.few once.stands done.3 in
      record { lawful = rest.lawful; config = rest.config ∙ once.config; rules = rest.rules ∙ once.rules; few = rest.few; stands = rest.stands }

  pub was_hosted : (k l : Recorded D) (c u : Reading WriteAheadState) → SatisfiesSpec c.service.hall → c.service.reported ≤ length c.service.hall.history → Stands state k.journal c.service →
      WasServed ReadingServes (λ j w lines i v. Rests j w i v) (KeptBy state) (λ j w i v. Rests j w i v) k c l u → WasHosted state c l.journal u
  was_hosted k l c u lawful few stands served = served_long served.0 k l c u lawful few stands served.1
