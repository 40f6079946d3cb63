-- what is heard of stays, turn after turn
use Rattle.std.proofs.Common.{◌≡◌, ◌∙◌, ℕ, Bool, true, false, if◌then◌else◌, List, [], ◌∷◌, ◌++◌, map, refl, sym, ap, subst}
use Rattle.std.proofs.lemmas.List.{append_assoc, map-append}
use Rattle.model_asked.specs.declared.event.Event.{Event}
use Rattle.model_asked.specs.declared.event.Event.TheVariants as event
use Rattle.model_asked.specs.declared.reply.Reply.{Reply}
use Rattle.model_asked.specs.declared.reply.Reply.TheVariants as reply
use Rattle.model_asked.specs.Replies.{with_view}
use Rattle.service_loop.proofs.Common.{ShownReply, Request, Runs, Turn, TurnLog, tagged}
use Rattle.text_player.specs.Turns.Turn.{Answered, Reported, Ended, Misread}
use Rattle.model_pool.specs.declared.stays.kept_stay.KeptStay.{KeptStay}
use Rattle.model_pool.specs.stays.Stays.{Act, after_act, after_acts}
use Rattle.service_loop.specs.declared.attended.Attended.{Attended}
use Rattle.service_loop.specs.declared.attended.Ending.{Ending}
use Rattle.service_loop.specs.Attending.{AttendedMay, Hears, act_of_ending, after_ending, acts_in, acts_of, acts_of_turn, gives_back, heard, keeps_by}
use Rattle.service_loop.specs.Releasing.{is_freed, is_missed, lacks_number}
use Rattle.service_loop.specs.Taking.{wants_search}
use Rattle.service_loop.specs.Tokens.{is_got}

-- what a reply tells of stays, and of `probe` and `seek`
abbrev pub Tells : Type 0
Tells = record { keeps : Bool; gives : Bool; freed : Bool; lacks : Bool; missed : Bool; wants : Bool; got : Bool }

abbrev pub tells : {V : Type 0} → Reply V → Tells
tells r = record { keeps = keeps_by r; gives = gives_back r; freed = is_freed r; lacks = lacks_number r; missed = is_missed r; wants = wants_search r; got = is_got r }

-- it tells the same whatever view it shows
pub shown : {V W : Type 0} (r : Reply V) (v : W) → tells (with_view r v) ≡ tells r
shown reply.Ok v = refl
shown reply.Quiet v = refl
shown reply.Stop v = refl
shown reply.Right v = refl
shown reply.Down v = refl
shown (reply.Place place) v = refl
shown (reply.Proposed number) v = refl
shown (reply.Saw old) v = refl
shown (reply.Named name old) v = refl
shown reply.Spent v = refl
shown reply.Missed v = refl
shown (reply.Got number) v = refl
shown (reply.Left number) v = refl
shown (reply.Value value) v = refl
shown (reply.Owner owner) v = refl
shown (reply.Refused why) v = refl

keeps_shown : {V W : Type 0} (r : Reply V) (v : W) → keeps_by (with_view r v) ≡ keeps_by r
keeps_shown r v = ap (λ (t : Tells). t.keeps) (shown r v)

gives_shown : {V W : Type 0} (r : Reply V) (v : W) → gives_back (with_view r v) ≡ gives_back r
gives_shown r v = ap (λ (t : Tells). t.gives) (shown r v)

pub heard_shown : {V W : Type 0} (c : ℕ) (e : Event) (r : Reply V) (v : W) → heard c e (with_view r v) ≡ heard c e r
heard_shown c (event.Begin id) r v = refl
heard_shown c (event.Step id) r v = refl
heard_shown c (event.Enter id) r v = rw (keeps_shown r v) refl
heard_shown c (event.Probe id) r v = refl
heard_shown c (event.Seek id) r v = refl
heard_shown c (event.Leave id) r v = rw (gives_shown r v) refl
heard_shown c (event.Put id value) r v = refl
heard_shown c (event.Get id) r v = refl
heard_shown c (event.Widen size) r v = refl

pub acts_append : (stays : List KeptStay) (xs ys : List Act) → after_acts (after_acts stays xs) ys ≡ after_acts stays (xs ++ ys)
acts_append stays [] ys = refl
acts_append stays (x ∷ xs) ys = acts_append (after_act stays x) xs ys

joined : (k : Bool) (stays : List KeptStay) (xs ys : List Act) →
    (if k then after_acts (if k then after_acts stays xs else stays) ys else (if k then after_acts stays xs else stays)) ≡ (if k then after_acts stays (xs ++ ys) else stays)
joined true stays xs ys = acts_append stays xs ys
joined false stays xs ys = refl

same_stays : (k : Bool) (stays : List KeptStay) → stays ≡ (if k then stays else stays)
same_stays true stays = refl
same_stays false stays = refl

in_append : (number : ℕ → ℕ) (xs ys : TurnLog) → acts_in number (xs ++ ys) ≡ acts_in number xs ++ acts_in number ys
in_append number [] ys = refl
in_append number (x ∷ xs) ys = ap (λ (l : List Act). acts_of_turn (number x.0) x.1 ++ l) (in_append number xs ys) ∙ sym (append_assoc (acts_of_turn (number x.0) x.1) (acts_in number xs) (acts_in number ys))

in_tagged : (number : ℕ → ℕ) (key : ℕ) (turns : List Turn) → acts_in number (tagged key turns) ≡ acts_of (number key) turns
in_tagged number key [] = refl
in_tagged number key (t ∷ ts) = ap (λ (l : List Act). acts_of_turn (number key) t ++ l) (in_tagged number key ts)

module _ {D : Type 0} where
  pub hears_none : (w : Attended D) → Hears [] w w
  hears_none w = record { keeps_is = refl; stays_are = λ no. (no, same_stays w.keeps w.stays) }

  pub hears_then : (xs ys : List Act) (w v u : Attended D) → Hears xs w v → Hears ys v u → Hears (xs ++ ys) w u
  hears_then xs ys w v u one two = record {
    keeps_is = two.keeps_is ∙ one.keeps_is;
    stays_are = λ no.
        let b = two.stays_are no in
        let a = one.stays_are b.0 in
        (a.0, b.1 ∙ (rw (one.keeps_is, a.1) refl) ∙ joined w.keeps w.stays xs ys);
  }

  -- a connection ended
  pub hears_end : (tick : ℕ) (e : Ending) (w u : Attended D) → u ≡ record w { stays = after_ending w.keeps tick e w.stays } → Hears (act_of_ending tick e ∷ []) w u
  hears_end tick e w u is = record {
    keeps_is = ap (λ (x : Attended D). x.keeps) is;
    stays_are = λ no. (sym (ap (λ (x : Attended D). x.lacks) is) ∙ no, ap (λ (x : Attended D). x.stays) is);
  }

  -- and one more of many
  pub hears_ends : (tick : ℕ) (ends : List Ending) (e : Ending) (w v u : Attended D) → Hears (map (act_of_ending tick) ends) w v → u ≡ record v { stays = after_ending v.keeps tick e v.stays } →
      Hears (map (act_of_ending tick) (ends ++ e ∷ [])) w u
  hears_ends tick ends e w v u one is = subst (λ (acts : List Act). Hears acts w u) (sym (map-append (act_of_ending tick) ends (e ∷ [])))
      (hears_then (map (act_of_ending tick) ends) (act_of_ending tick e ∷ []) w v u one (hears_end tick e v u is))

  -- whatever becomes of the service itself
  pub hears_inside : {acts : List Act} (w u : Attended D) (d : D) → Hears acts w u → Hears acts w (record u { service = d })
  hears_inside w u d h = record { keeps_is = h.keeps_is; stays_are = h.stays_are }

  pub hears_about : {acts : List Act} (w : Attended D) (d : D) (u : Attended D) (e : D) → Hears acts (record w { service = d }) u → Hears acts w (record u { service = e })
  hears_about w d u e h = record { keeps_is = h.keeps_is; stays_are = h.stays_are }

  -- after the turns of a log, and those of one seat more
  pub hears_on : (number : ℕ → ℕ) (log : TurnLog) (key : ℕ) (turns : List Turn) (w v u : Attended D) → Hears (acts_in number log) w v → Hears (acts_of (number key) turns) v u → Hears (acts_in number (log ++ tagged key turns)) w u
  hears_on number log key turns w v u one two =
      subst (λ (acts : List Act). Hears acts w u) (ap (λ (l : List Act). acts_in number log ++ l) (sym (in_tagged number key turns)) ∙ sym (in_append number log (tagged key turns)))
      (hears_then (acts_in number log) (acts_of (number key) turns) w v u one two)

  module _ (may : D → Request → ShownReply → D → Type 0) where
    -- the turns of an attended service are those of the service, and what they say of stays is noted
    pub runs_attended : (turns : List Turn) (w u : Attended D) → Runs (AttendedMay may) w turns u → Runs may w.service turns u.service × Hears (acts_of w.speaker turns) w u × (u.speaker ≡ w.speaker)
    runs_attended [] w u same = subst (λ (v : Attended D). (w.service ≡ v.service) × Hears [] w v × (v.speaker ≡ w.speaker)) same (refl, hears_none w, refl)
    runs_attended (Answered x ∷ ts) w u run =
        let m = run.1 in
        let r = runs_attended ts run.0 u run.2 in (
          (run.0.service, m.0, r.0),
          hears_then (heard w.speaker x.event x.reply) (acts_of w.speaker ts) w run.0 u m.1 (subst (λ (s : ℕ). Hears (acts_of s ts) run.0 u) m.2 r.1),
          r.2 ∙ m.2,
        )
    runs_attended (Reported n a ∷ ts) w u run =
        let m = run.1 in
        let r = runs_attended ts run.0 u run.2 in (
          (run.0.service, m.0, r.0),
          hears_then [] (acts_of w.speaker ts) w run.0 u m.1 (subst (λ (s : ℕ). Hears (acts_of s ts) run.0 u) m.2 r.1),
          r.2 ∙ m.2,
        )
    runs_attended (Ended ∷ ts) w u run = runs_attended ts w u run
    runs_attended (Misread bad ∷ ts) w u run = runs_attended ts w u run

    -- the same, where it was listened to a connection before
    pub runs_listened : (number : ℕ) (turns : List Turn) (w v u : Attended D) → v ≡ record w { speaker = number } → Runs (AttendedMay may) v turns u → Runs may w.service turns u.service × Hears (acts_of number turns) w u
    runs_listened number turns w v u is run =
        let r = runs_attended turns (record w { speaker = number }) u (subst (λ (x : Attended D). Runs (AttendedMay may) x turns u) is run) in
        (r.0, record { keeps_is = r.1.keeps_is; stays_are = r.1.stays_are })
