-- what a turn of the loop is for the history, for the journal and for each connection
use Rattle.std.proofs.Common.{◌≡◌, ℕ, ◌≤◌, Bool, true, false, List, [], ◌∷◌, ◌++◌, length, take, get_or, Option, Some, None, inl, inr, refl, sym, ap, subst, ◌∙◌, arith}
use Rattle.std.proofs.lemmas.List.{take-append-le}
use Rattle.std.specs.Io.KnownBytes.{Appends, Consumes}
use Rattle.model_steps.specs.declared.refusal.Refusal.{Refusal}
use Rattle.model_asked.specs.declared.config.Config.{Config}
use Rattle.model_asked.specs.declared.event.Event.{Event}
use Rattle.model_asked.specs.declared.event.Event.TheVariants.{Put}
use Rattle.model_asked.specs.declared.exchange.Exchange.{Exchange}
use Rattle.model_asked.specs.Replies.{ShownReply}
use Rattle.text_checker.specs.Migrated.{record_text}
use Rattle.service_journal.specs.DiskState.{DiskState}
use Rattle.text_player.specs.Runs.{Runs}
use Rattle.text_player.specs.Says.{Spoke}
use Rattle.text_player.specs.Shared.{all_turns, turns_of}
use Rattle.text_player.specs.ResponderState.{ResponderState}
use Rattle.text_player.specs.Turns.{Turn, exchanges}
use Rattle.text_player.specs.Turns.Turn.{Answered, Reported, Ended, Misread}
use Rattle.service_hall.specs.Halls.{HallMay, SatisfiesSpec, after_unless, hall_refusal}
use Rattle.service_hall.specs.HallState.{HallState}
use Rattle.service_hall.specs.Raising.{PutsToken, held_value, token_above}
use Rattle.service_hall.specs.Reading.{Serves, TakesBy, stored, way_of}
use Rattle.service_hall.specs.Serving.{HallServes, accepted}
use Rattle.service_hall.specs.declared.rules.Rules.{Rules}
use Rattle.service_hall.specs.declared.rules.Way.{Way}
use Rattle.service_hall.specs.declared.rules.Way.TheVariants.{Applied, Read, Raised, Barred}
use Rattle.service_journal.specs.declared.journal.Journal.{Journal}
use Rattle.service_journal.specs.WriteAheadState.{WriteAheadState}
use Rattle.service_journal.specs.WriteAheads.{write_ahead_of, reported_record}
use Rattle.service_journal.specs.Compactings.{MayCompact}
use Rattle.service_journal.specs.Journals.{HasSynced, KeepsAtAnyMoment, KeepsHandedOn, Stands}
use Rattle.service_loop.specs.Seats.{Seating, SeatSends, SeatTakes, LoopIteration}
use Rattle.text_player.specs.Progress.{after_bytes}
use Rattle.service_host.specs.declared.persisters.Recorded.{Recorded}
use Rattle.service_host.specs.Kept.{IsKept, KeptBy, MayCompactHall, all_reported}
use Rattle.service_host.specs.Hosting.{IsHosted, IsReported}
use Rattle.service_host.specs.Readings.{ReadingServes}
use Rattle.service_host.specs.declared.reading.Reading.{Reading}

-- an event leaves a hall its config
config_after : (o : Option Refusal) (h : HallState) (e : Event) → (after_unless o h e).config ≡ h.config
config_after None h e = refl
config_after (Some why) h e = refl

config_may : (h u : HallState) (e : Event) (r : ShownReply) → HallMay h e r u → u.config ≡ h.config
config_may h u e r (inl done) = ap (λ (x : HallState). x.config) done.1 ∙ config_after (hall_refusal h e) h e
config_may h u e r (inr refused) = ap (λ (x : HallState). x.config) refused.1

config_token : (next : Option ℕ) (h u : HallState) (p : ℕ) (r : ShownReply) → PutsToken next h p r u → u.config ≡ h.config
config_token None h u p r refused = ap (λ (x : HallState). x.config) refused.1
config_token (Some token) h u p r puts = config_may h u (Put p token) puts.0 puts.1

config_takes : (way : Way) (h u : HallState) (e : Event) (r : ShownReply) → TakesBy way h e r u → u.config ≡ h.config
config_takes (Read p) h u e r may = ap (λ (x : HallState). x.config) may.1
config_takes (Raised p) h u e r may = config_token (token_above (held_value h p)) h u p r may
config_takes Barred h u e r may = ap (λ (x : HallState). x.config) may.1
config_takes Applied h u e r may = config_may h u e r may

-- a write-ahead hall answers as its hall does, with its config, and hands nothing on; by the same rules
pub record Follows (c u : Reading WriteAheadState) (ts : List Turn) : Type 0 where
  pub run : Runs (Serves c.rules) c.service.hall ts u.service.hall
  pub config : u.service.hall.config ≡ c.service.hall.config
  pub reported : u.service.reported ≡ c.service.reported
  pub rules : u.rules ≡ c.rules

-- the first of more turns
one_follows : (c mid u : Reading WriteAheadState) (ts : List Turn) → mid.service.hall.config ≡ c.service.hall.config → mid.service.reported ≡ c.service.reported → mid.rules ≡ c.rules → Follows mid u ts →
    Runs (Serves c.rules) mid.service.hall ts u.service.hall × (u.service.hall.config ≡ c.service.hall.config) × (u.service.reported ≡ c.service.reported) × (u.rules ≡ c.rules)
one_follows c mid u ts config reported same later =
    (subst (λ (k : Rules). Runs (Serves k) mid.service.hall ts u.service.hall) same later.run, later.config ∙ config, later.reported ∙ reported, later.rules ∙ same)

pub follows : (c u : Reading WriteAheadState) (ts : List Turn) → Runs ReadingServes c ts u → Follows c u ts
follows c u [] run = record {
  run = ap (λ (x : Reading WriteAheadState). x.service.hall) run;
  config = ap (λ (x : Reading WriteAheadState). x.service.hall.config) (sym run);
  reported = ap (λ (x : Reading WriteAheadState). x.service.reported) (sym run);
  rules = ap (λ (x : Reading WriteAheadState). x.rules) (sym run);
}
follows c u (Answered x ∷ ts) run =
    let mid = run.0 in
    let config = config_takes (way_of c.rules x.event) c.service.hall mid.service.hall x.event x.reply run.1.0 in
    let all = one_follows c mid u ts config run.1.1 run.1.2 (follows mid u ts run.2) in
    record { run = (mid.service.hall, run.1.0, all.0); config = all.1; reported = all.2; rules = all.3 }
follows c u (Reported n r ∷ ts) run =
    let mid = run.0 in
    let config = ap (λ (x : HallState). x.config) run.1.0.1 in
    let all = one_follows c mid u ts config run.1.1 run.1.2 (follows mid u ts run.2) in
    record { run = (mid.service.hall, run.1.0, all.0); config = all.1; reported = all.2; rules = all.3 }
follows c u (Ended ∷ ts) run = let later = follows c u ts run in record { run = later.run; config = later.config; reported = later.reported; rules = later.rules }
follows c u (Misread bad ∷ ts) run = let later = follows c u ts run in record { run = later.run; config = later.config; reported = later.reported; rules = later.rules }

-- what was committed stays the same record where the history goes on
pub same_reported : (c u : WriteAheadState) (more : List Exchange) → c.reported ≤ length c.hall.history → u.hall.config ≡ c.hall.config → u.reported ≡ c.reported → u.hall.history ≡ c.hall.history ++ more → reported_record u ≡ reported_record c
same_reported c u more few config reported history =
    ap (λ (g : Config). record_text g (take u.reported u.hall.history)) config ∙ ap (λ (n : ℕ). record_text c.hall.config (take n u.hall.history)) reported
    ∙ ap (λ (l : List Exchange). record_text c.hall.config (take c.reported l)) history ∙ ap (record_text c.hall.config) (take-append-le c.reported c.hall.history more few)

-- so a journal that stands for a write-ahead hall stands for it later, before anything is committed
pub still_stands : {D : Type 0} (state : D → Option DiskState) (j : Journal D) (c u : WriteAheadState) → reported_record u ≡ reported_record c → Stands state j c → Stands state j u
still_stands state j c u same stands = record {
  well = stands.well;
  known = λ s is. let synced = stands.known s is in record { contents = synced.contents ∙ sym same; synced = synced.synced };
}

-- all of a write-ahead hall that may be compacted is committed
pub after_compacting : (c u : WriteAheadState) → MayCompact (all_reported c) u → MayCompactHall c.hall u.hall × (u.reported ≡ length u.hall.history)
after_compacting c u (inl same) = (inl (ap (λ (x : WriteAheadState). x.hall) same), ap (λ (x : WriteAheadState). x.reported) same ∙ ap (λ (x : WriteAheadState). length x.hall.history) (sym same))
after_compacting c u (inr done) = (inr done.compacted, done.reported)

module _ {C : Type 0} (on : Seating C) where
  -- one connection takes its turns, and some of what waits is sent
  reported_its_own : (turns : List Turn) (a b d : C) → SeatTakes on turns (Some a) (Some b) → SeatSends on (Some b) (Some d) → IsReported on turns a d
  reported_its_own turns a b d took sends =
      let takes = took.0.takes in
      let sent = sends.0 in
      record {
        came = took.0.came;
        taken = takes.taken;
        rest = takes.rest;
        sent = sent.sent;
        gave = subst (λ (l : Option (List ℕ)). Consumes (on.left a) l took.0.came) (sym sends.1) took.0.gave;
        parts = takes.parts;
        goes_on = λ before p spoke. subst (λ (s : ResponderState). Spoke (before ++ turns) s (after_bytes (on.buffers a).responder.kind p takes.taken)) (sym sent.responder_is) (takes.goes_on before p spoke);
        gained = subst (λ (l : Option (List ℕ)). Appends l (on.gone d) sent.sent) took.1 sent.gained;
        text = λ whole. sym sent.parts ∙ (takes.kept (sent.whole whole)).1;
      }

  -- where a connection was before and is after, it was there in between
  reported_at : (turns : List Turn) (x y z : Option C) (a d : C) → SeatTakes on turns x y → SeatSends on y z → x ≡ Some a → z ≡ Some d → IsReported on turns a d
  reported_at turns (Some x) (Some y) (Some z) a d took sends was is =
      subst (λ (o : Option C). SeatSends on (Some y) o → IsReported on turns a d) (sym is) (subst (λ (o : Option C). SeatTakes on turns o (Some y) → SeatSends on (Some y) (Some d) → IsReported on turns a d) (sym was) (reported_its_own turns a y d) took) sends
  reported_at turns None y z a d took sends was is = absurd (let bad : None ≡ Some a = was in cc)
  reported_at turns (Some x) y None a d took sends was is = absurd (let bad : None ≡ Some d = is in cc)
  reported_at turns (Some x) None (Some z) a d took sends was is = elim took [ ]

  module _ {D : Type 0} (state : D → Option DiskState)
      (history : (rules : Rules) (h u : HallState) (ts : List Turn) → SatisfiesSpec h → Runs (Serves rules) h ts u → u.history ≡ h.history ++ accepted (exchanges (stored rules ts)))
      (between : (c : WriteAheadState) (s : DiskState) → HasSynced c s → c.reported ≤ length c.hall.history → KeepsHandedOn c s s) where
    pub hosted : (k l : Recorded D) (c u : Reading WriteAheadState) (seats seats' : List (Option C)) → SatisfiesSpec c.service.hall → c.service.reported ≤ length c.service.hall.history →
        Stands state k.journal c.service → (t : LoopIteration on ReadingServes (KeptBy state) k c seats l u seats') →
        IsHosted on state t.log k.journal c seats l.journal u seats'
    hosted k l c u seats seats' lawful few stands t =
        let reported = t.reported.service in
        let kept : IsKept state k.journal t.reported.service l.journal u.service = t.kept.0 in
        let way = follows c t.reported (all_turns t.log) t.taken.run in
        let gained = history c.rules c.service.hall reported.hall (all_turns t.log) lawful way.run in
        let more = accepted (exchanges (stored c.rules (all_turns t.log))) in
        let stood = still_stands state k.journal c.service reported (same_reported c.service reported more few way.config way.reported gained) stands in
        let stood_then = kept.stands stood in
        let stands_after = kept.stands_then stood_then in
        let ended = after_compacting reported u.service kept.compacted in
        let was_reported : reported ≡ write_ahead_of reported.hall c.service.reported = ap (write_ahead_of reported.hall) way.reported in
        record {
          full = reported.hall;
          committed = kept.committed;
          config = way.config;
          run = way.run;
          history = gained;
          before = subst (KeepsAtAnyMoment state k.journal kept.committed) was_reported (kept.any_moment stood);
          between = kept.any_moment_then stood_then;
          compacted = ended.0;
          reported = ended.1;
          rules = t.kept.1 ∙ way.rules;
          stands = stands_after;
          after = λ s is. between u.service s (stands_after.known s is) (omega (arith, ended.1));
          each = λ i a d was is. reported_at (turns_of i t.log) (get_or seats i None) (get_or t.between i None) (get_or seats' i None) a d (t.taken.each i) (t.sent.each i) was is;
        }

-- plain reads, and what the rules bar, leave a write-ahead hall as it was
pub idle : (without : (rules : Rules) (h u : HallState) (ts : List Turn) → Runs (Serves rules) h ts u → Runs HallServes h (stored rules ts) u) →
    (c u : Reading WriteAheadState) (ts : List Turn) → Runs ReadingServes c ts u → stored c.rules ts ≡ [] → u ≡ c
idle without c u ts run none =
    let way = follows c u ts run in
    let same : c.service.hall ≡ u.service.hall = subst (λ (xs : List Turn). Runs HallServes c.service.hall xs u.service.hall) none (without c.rules c.service.hall u.service.hall ts way.run) in
    ap (λ (h : HallState). let w : Reading WriteAheadState = record { service = write_ahead_of h u.service.reported; rules = u.rules } in w) (sym same)
    ∙ (ap (λ (n : ℕ). let w : Reading WriteAheadState = record { service = write_ahead_of c.service.hall n; rules = u.rules } in w) way.reported
    ∙ ap (λ (k : Rules). let w : Reading WriteAheadState = record { service = c.service; rules = k } in w) way.rules)
