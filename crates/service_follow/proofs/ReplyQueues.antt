-- a turn over a queue of replies is one over the hall whose answers it says
use Rattle.std.proofs.Common.{◌≡◌, ℕ, Bool, true, false, refl, List, [], ◌∷◌, ◌++◌, Option, inl, inr, sym, ap, subst, ◌∙◌, arith}
use Rattle.service_follow.proofs.Common.{append-nil, Config, ShownReply, Request, Take, OwnerOf, Runs, Turn, Answered, Reported, Ended, Misread, HallApplies, ReplyQueueReplies, said, ReplyQueueState}
use Rattle.service_log.specs.ReplicaState.{ReplicaState}
use Rattle.text_player.specs.Shared.{all_turns}
use Rattle.service_loop.specs.Seats.{LoopIteration, Seating}
use Rattle.service_hall.specs.Reading.{Serves}
use Rattle.service_follow.specs.Entries.{rules_of}
use Rattle.service_follow.specs.Hosted.{IsHostedOverLog, IsPrefetched, IsUsedUp}
use Rattle.service_follow.specs.Stays.{AppliesBy, TakesIfKnown, TakesLines}
use Rattle.service_follow.specs.StayState.{StayState}
use Rattle.service_follow.specs.declared.marks.Mark.{Mark}

-- what was said again, by a queue of replies that is not poisoned
reply_queue_said : (w u : ReplyQueueState) (q : Request) (r : ShownReply) → ReplyQueueReplies w q r u → u.poisoned ≡ false → (w.poisoned ≡ false) × (w.left ≡ (q, r) ∷ u.left)
reply_queue_said w u q r (inl h) well = (h.0, h.2)
reply_queue_said w u q r (inr bad) well = absurd (let no_way : true ≡ false = sym bad.0 ∙ well in cc)

pub reply_queue_ran : (w u : ReplyQueueState) (ts : List Turn) → Runs ReplyQueueReplies w ts u → u.poisoned ≡ false → (w.poisoned ≡ false) × (w.left ≡ said ts ++ u.left)
reply_queue_ran w u [] run well = (ap (λ (t : ReplyQueueState). t.poisoned) run ∙ well, ap (λ (t : ReplyQueueState). t.left) run)
reply_queue_ran w u (Answered x ∷ ts) run well =
    let rest = reply_queue_ran run.0 u ts run.2 well in
    let one = reply_queue_said w run.0 (Take x.event) x.reply run.1 rest.0 in
    (one.0, one.1 ∙ ap (λ l. (Take x.event, x.reply) ∷ l) rest.1)
reply_queue_ran w u (Reported n r ∷ ts) run well =
    let rest = reply_queue_ran run.0 u ts run.2 well in
    let one = reply_queue_said w run.0 (OwnerOf n) r run.1 rest.0 in
    (one.0, one.1 ∙ ap (λ l. (OwnerOf n, r) ∷ l) rest.1)
reply_queue_ran w u (Ended ∷ ts) run well = reply_queue_ran w u ts run well
reply_queue_ran w u (Misread bad ∷ ts) run well = reply_queue_ran w u ts run well

-- a run is one of the requests and replies alone
abbrev RunsSaid : {T : Type 0} → (T → Request → ShownReply → T → Type 0) → T → List (Request × ShownReply) → T → Type 0
RunsSaid may w [] u = w ≡ u
RunsSaid {T = T} may w (x ∷ xs) u = (mid : T) × may w x.0 x.1 mid × RunsSaid may mid xs u

module _ {T : Type 0} (may : T → Request → ShownReply → T → Type 0) where
  to_said : (w u : T) (ts : List Turn) → Runs may w ts u → RunsSaid may w (said ts) u
  to_said w u [] run = run
  to_said w u (Answered x ∷ ts) run = (run.0, run.1, to_said run.0 u ts run.2)
  to_said w u (Reported n r ∷ ts) run = (run.0, run.1, to_said run.0 u ts run.2)
  to_said w u (Ended ∷ ts) run = to_said w u ts run
  to_said w u (Misread bad ∷ ts) run = to_said w u ts run

  from_said : (w u : T) (ts : List Turn) → RunsSaid may w (said ts) u → Runs may w ts u
  from_said w u [] run = run
  from_said w u (Answered x ∷ ts) run = (run.0, run.1, from_said run.0 u ts run.2)
  from_said w u (Reported n r ∷ ts) run = (run.0, run.1, from_said run.0 u ts run.2)
  from_said w u (Ended ∷ ts) run = from_said w u ts run
  from_said w u (Misread bad ∷ ts) run = from_said w u ts run

  -- of turns in which the same was said to the same requests both are a run, or neither
  pub same_said : (w u : T) (ts us : List Turn) → said ts ≡ said us → Runs may w ts u → Runs may w us u
  same_said w u ts us same run = from_said w u us (subst (λ (xs : List (Request × ShownReply)). RunsSaid may w xs u) same (to_said w u ts run))

-- lines were answered where all is known, if it is still
known_before : (blind : Bool) (w : StayState) (entry : List ℕ) (reply_queue : ReplyQueueState) (u : StayState) → w.blind ≡ blind → TakesIfKnown blind w entry reply_queue u → u.blind ≡ false → (w.blind ≡ false) × TakesLines w entry reply_queue u
known_before false w entry reply_queue u is takes known = (is, takes)
known_before true w entry reply_queue u is gone known = absurd (let no_way : true ≡ false = sym is ∙ (sym (ap (λ (s : StayState). s.blind) gone.state) ∙ known) in cc)

pub hosted : {C K : Type 0} (on : Seating C) (stands : ℕ → List ℕ → Type 0) (config : Config) (from place : ℕ) (lines : List ℕ) (reply_queue u : ReplyQueueState) (r : ReplicaState StayState)
    (k l : K) (seats after : List (Option C)) → IsPrefetched stands config from place lines reply_queue r → (t : LoopIteration on ReplyQueueReplies IsUsedUp k reply_queue seats l u after) →
    IsHostedOverLog on stands config t.log from place lines r seats after
hosted on stands config from place lines reply_queue u r k l seats after prefetched t =
    let due = prefetched.due in
    let by_mark : TakesIfKnown due.was.blind due.was prefetched.batch reply_queue r.machine =
    subst (λ (m : Mark). AppliesBy m due.was prefetched.batch reply_queue r.machine) prefetched.ordinary due.due in
    let known = known_before due.was.blind due.was prefetched.batch reply_queue r.machine refl by_mark prefetched.known in
    let entry : HallApplies due.was.hall prefetched.batch reply_queue r.machine.hall = known.1.hall in
    let again = reply_queue_ran reply_queue t.reported (all_turns t.log) t.taken.run t.kept.well in
    let all : reply_queue.left ≡ said (all_turns t.log) = again.1 ∙ (ap (λ l. said (all_turns t.log) ++ l) t.kept.all ∙ append-nil (said (all_turns t.log))) in
    let same : said entry.turns ≡ said (all_turns t.log) = ap (λ (w : ReplyQueueState). w.left) (sym entry.reply_queue_is) ∙ all in
    record {
      batch = prefetched.batch;
      lines_are = prefetched.lines_are;
      before = due.before;
      stood = due.stood;
      was = due.was;
      led = due.led;
      known = known.0;
      later = (let n = due.count in let p = prefetched.later in omega (arith, n, p));
      between = t.between;
      taken = record { run = same_said (Serves (rules_of prefetched.batch)) due.was.hall r.machine.hall entry.turns (all_turns t.log) same entry.run; each = t.taken.each; many = t.taken.many };
      sent = t.sent;
    }
