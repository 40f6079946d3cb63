-- reads that are no entry: what is noted of lines, and a turn in which what a hall says to them is said again
use Rattle.std.proofs.Common.{◌≡◌, ◌&&◌, Bool, true, false, List, [], ◌∷◌, ◌++◌, ℕ, map, refl, sym, ap, subst, ◌∙◌, append_assoc, Option, Some, None, Result, Ok, Err, OnOk, IfOk, IfSome, arith}
use Rattle.std.specs.List.{list_all}
use Rattle.service_follow.proofs.Common.{append-nil, Config, ShownReply, Request, Take, OwnerOf, Runs, Turn, Answered, Reported, Ended, Misread, HallState, WorldKind, TakesBytes, ReplyQueueReplies, said, ReplyQueueState}
use Rattle.model_asked.specs.declared.event.Event.{Event}
use Rattle.model_asked.specs.declared.event.Event.TheVariants.{Begin, Step, Enter, Probe, Seek, Leave, Put, Get, Widen}
use Rattle.text_player.specs.Progress.{after_bytes, at_start}
use Rattle.text_player.specs.ResponderState.{ResponderState}
use Rattle.text_player.specs.Says.{IsSilent}
use Rattle.text_player.specs.Shared.{all_turns}
use Rattle.text_player.specs.Turns.{asked}
use Rattle.text_worlds.specs.desk.Desk.{desk_reply}
use Rattle.service_hall.specs.Halls.{desk_of}
use Rattle.service_hall.specs.Reading.{Serves, all_admitted}
use Rattle.service_hall.specs.declared.reads.Reads.TheVariants.{Plain}
use Rattle.service_log.specs.ReplicaState.{ReplicaState}
use Rattle.service_loop.specs.Seats.{LoopIteration, Seating}
use Rattle.service_follow.specs.AskingState.{AskingState}
use Rattle.service_follow.specs.Hosted.{IsAtEnd, IsHostedAtEnd, IsReadAtEnd, IsUsedUp}
use Rattle.service_follow.specs.declared.reading.Read.{Read}
use Rattle.service_follow.specs.declared.reading.Read.TheVariants as kinds
use Rattle.service_follow.specs.Readings.{AskingSays, IsAsked, are_reads, is_read, is_reading, read_by, read_reply, requested, requests_in, requests_of}
use Rattle.service_follow.specs.StayState.{StayState}
use Rattle.service_follow.proofs.ReplyQueues.{reply_queue_ran}

and_one : (a : Bool) → a ≡ (a && true)
and_one true = refl
and_one false = refl

and_three : (a b c : Bool) → ((a && b) && c) ≡ (a && (b && c))
and_three true b c = refl
and_three false b c = refl

and_first : (a b : Bool) → (a && b) ≡ true → a ≡ true
and_first true b h = refl
and_first false b h = h

and_last : (a b : Bool) → (a && b) ≡ true → b ≡ true
and_last true b h = h
and_last false b h = absurd (let no_way : false ≡ true = h in cc)

-- a read that was noted, and something else that was asked for
reading_requested : (r : Read) → is_reading (requested r) ≡ true
reading_requested (kinds.Get id) = refl
reading_requested (kinds.Owner n) = refl

pub asked_more : (w u : AskingState) (r : Read) → w.lost ≡ false → u.only ≡ w.only → (u.only ≡ true → u.asked ≡ w.asked ++ requested r ∷ []) → IsAsked w (requested r) u
asked_more w u r well only noted_so = record {
  was_well = well;
  only = only ∙ (and_one w.only ∙ ap (λ (b : Bool). w.only && b) (sym (reading_requested r)));
  asked = noted_so;
}

pub asked_as : (w u : AskingState) (p q : Request) → p ≡ q → IsAsked w p u → IsAsked w q u
asked_as w u p q is = subst (λ (x : Request). IsAsked w x u) is

and_none : (a : Bool) → false ≡ (a && false)
and_none true = refl
and_none false = refl

pub asked_other : (w u : AskingState) (e : Event) → is_read e ≡ false → w.lost ≡ false → u.only ≡ false → IsAsked w (Take e) u
asked_other w u e other well none = record {
  was_well = well;
  only = none ∙ (and_none w.only ∙ ap (λ (b : Bool). w.only && b) (sym other));
  asked = λ yes. absurd (let no_way : false ≡ true = sym none ∙ yes in cc);
}

-- what a result of an option holds
pub if_some : {A : Type 0} (P : A → Type 0) (o : Option A) (a : A) → o ≡ Some a → IfSome o P → P a
if_some {A = A} P o a is = subst (λ (x : Option A). IfSome x P) is

pub on_ok_is : {A E : Type 0} (r : Result A E) (W : Type 0) (a : A) → OnOk r W → r ≡ Ok a → W
on_ok_is {A = A} {E = E} r W a well is = subst (λ (x : Result A E). OnOk x W) is well

-- what is noted of a run
pub record Noted (w : AskingState) (qs : List Request) (u : AskingState) : Type 0 where
  pub was_well : w.lost ≡ false
  pub only : u.only ≡ (w.only && list_all is_reading qs)
  pub asked_is : u.only ≡ true → u.asked ≡ w.asked ++ qs

noted_then : (w v u : AskingState) (r : ShownReply) (q : Request) (qs : List Request) → AskingSays w q r v → Noted v qs u → Noted w (q ∷ qs) u
noted_then w v u r q qs says rest =
    let one = says rest.was_well in
    record {
      was_well = one.was_well;
      only = rest.only ∙ (ap (λ b. b && list_all is_reading qs) one.only ∙ and_three w.only (is_reading q) (list_all is_reading qs));
      asked_is = λ only.
          let still : v.only ≡ true = and_first v.only (list_all is_reading qs) (sym rest.only ∙ only) in
          rest.asked_is only ∙ (ap (λ l. l ++ qs) (one.asked still) ∙ append_assoc w.asked (q ∷ []) qs);
    }

noted : (w u : AskingState) (ts : List Turn) → Runs AskingSays w ts u → u.lost ≡ false → Noted w (requests_of (map asked ts)) u
noted w u [] run well = record {
  was_well = ap (λ (s : AskingState). s.lost) run ∙ well;
  only = ap (λ (s : AskingState). s.only) (sym run) ∙ and_one w.only;
  asked_is = λ only. ap (λ (s : AskingState). s.asked) (sym run) ∙ sym (append-nil w.asked);
}
noted w u (Answered x ∷ ts) run well = noted_then w run.0 u x.reply (Take x.event) (requests_of (map asked ts)) run.1 (noted run.0 u ts run.2 well)
noted w u (Reported n r ∷ ts) run well = noted_then w run.0 u r (OwnerOf n) (requests_of (map asked ts)) run.1 (noted run.0 u ts run.2 well)
noted w u (Ended ∷ ts) run well = noted w u ts run well
noted w u (Misread bad ∷ ts) run well = noted w u ts run well

-- so of lines, from the start
pub noted_lines : (kind : WorldKind) (lines : List ℕ) (s s' : ResponderState) (w u : AskingState) → w ≡ record { asked = []; only = true; lost = false } → IsSilent kind s →
    TakesBytes AskingSays w s lines u s' → u.lost ≡ false → (u.only ≡ are_reads kind lines) × (u.only ≡ true → u.asked ≡ requests_in kind lines)
noted_lines kind lines s s' w u begun silent takes well =
    let spoke = takes.goes_on [] at_start silent.1 in
    let asks = spoke.asked_is ∙ ap (λ (k : WorldKind). (after_bytes k at_start lines).asked) silent.0 in
    let all = noted w u takes.more takes.run well in
    let requests = ap requests_of asks in (
      all.only ∙ (ap (λ (a : AskingState). a.only && list_all is_reading (requests_of (map asked takes.more))) begun ∙ ap (list_all is_reading) requests),
      λ only. all.asked_is only ∙ (ap (λ (a : AskingState). a.asked ++ requests_of (map asked takes.more)) begun ∙ requests),
    )

-- and of what was found so
pub found_reads : {A E : Type 0} (requests : A → List Request) (r : Result (Option A) E) (u : AskingState) (kind : WorldKind) (lines : List ℕ) → OnOk r (u.lost ≡ false) →
    IfOk r (λ found. IfSome found (λ a. (u.only ≡ true) × (requests a ≡ u.asked))) →
    (u.lost ≡ false → (u.only ≡ are_reads kind lines) × (u.only ≡ true → u.asked ≡ requests_in kind lines)) →
    IfOk r (λ found. IfSome found (λ a. (are_reads kind lines ≡ true) × (requests a ≡ requests_in kind lines)))
found_reads requests (Ok (Some a)) u kind lines well held noted = let n = noted well in (sym n.0 ∙ held.0, held.1 ∙ n.1 held.0)
found_reads requests (Ok None) u kind lines well held noted = tt
found_reads requests (Err e) u kind lines well held noted = tt

-- a read is served, and stored nowhere
serves_get : (h : HallState) (e : Event) (r : ShownReply) → is_read e ≡ true → r ≡ desk_reply (desk_of h) e → Serves (all_admitted Plain) h (Take e) r h
serves_get h (Get p) r read reply = (reply, refl)
serves_get h (Begin p) r read reply = absurd (let no_way : false ≡ true = read in cc)
serves_get h (Step p) r read reply = absurd (let no_way : false ≡ true = read in cc)
serves_get h (Enter p) r read reply = absurd (let no_way : false ≡ true = read in cc)
serves_get h (Probe p) r read reply = absurd (let no_way : false ≡ true = read in cc)
serves_get h (Seek p) r read reply = absurd (let no_way : false ≡ true = read in cc)
serves_get h (Leave p) r read reply = absurd (let no_way : false ≡ true = read in cc)
serves_get h (Put p value) r read reply = absurd (let no_way : false ≡ true = read in cc)
serves_get h (Widen size) r read reply = absurd (let no_way : false ≡ true = read in cc)

serves_read : (h : HallState) (q : Request) (r : ShownReply) → is_reading q ≡ true → r ≡ read_reply h q → Serves (all_admitted Plain) h q r h
serves_read h (Take e) r read reply = serves_get h e r read reply
serves_read h (OwnerOf n) r read reply = (reply, refl)

-- turns in which a hall's replies to reads are said are a run of it
serves_one : (h : HallState) (q p : Request) (r : ShownReply) (xs : List (Request × ShownReply)) (qs : List Request) → (q, r) ∷ xs ≡ read_by h (p ∷ qs) → is_reading p ≡ true →
    Serves (all_admitted Plain) h q r h × (xs ≡ read_by h qs)
serves_one h q p r xs qs same read =
    let first : (q, r) ≡ (p, read_reply h p) = cc same in
    let asks : q ≡ p = ap (λ (x : Request × ShownReply). x.0) first in
    let reply : r ≡ read_reply h p = ap (λ (x : Request × ShownReply). x.1) first in
    let rest : xs ≡ read_by h qs = cc same in
    (subst (λ (x : Request). Serves (all_admitted Plain) h x r h) (sym asks) (serves_read h p r read reply), rest)

pub serves_all : (h : HallState) (ts : List Turn) (qs : List Request) → said ts ≡ read_by h qs → list_all is_reading qs ≡ true → Runs (Serves (all_admitted Plain)) h ts h
serves_all h [] qs same reads = refl
serves_all h (Answered x ∷ ts) [] same reads = absurd (cc same)
serves_all h (Answered x ∷ ts) (q ∷ qs) same reads =
    let one = serves_one h (Take x.event) q x.reply (said ts) qs same (and_first (is_reading q) (list_all is_reading qs) reads) in
    (h, one.0, serves_all h ts qs one.1 (and_last (is_reading q) (list_all is_reading qs) reads))
serves_all h (Reported n r ∷ ts) [] same reads = absurd (cc same)
serves_all h (Reported n r ∷ ts) (q ∷ qs) same reads =
    let one = serves_one h (OwnerOf n) q r (said ts) qs same (and_first (is_reading q) (list_all is_reading qs) reads) in
    (h, one.0, serves_all h ts qs one.1 (and_last (is_reading q) (list_all is_reading qs) reads))
serves_all h (Ended ∷ ts) qs same reads = serves_all h ts qs same reads
serves_all h (Misread bad ∷ ts) qs same reads = serves_all h ts qs same reads

pub hosted_at_end : {C K : Type 0} (on : Seating C) (stands : ℕ → List ℕ → Type 0) (lacks : ℕ → Type 0) (config : Config) (from place : ℕ) (lines : List ℕ) (reply_queue u : ReplyQueueState)
    (r : ReplicaState StayState) (k l : K) (seats after : List (Option C)) → IsReadAtEnd stands lacks config from place lines reply_queue r →
    (t : LoopIteration on ReplyQueueReplies IsUsedUp k reply_queue seats l u after) → IsHostedAtEnd on stands lacks config t.log from place r seats after
hosted_at_end on stands lacks config from place lines reply_queue u r k l seats after told t =
    let again = reply_queue_ran reply_queue t.reported (all_turns t.log) t.taken.run t.kept.well in
    let all : reply_queue.left ≡ said (all_turns t.log) = again.1 ∙ (ap (λ l. said (all_turns t.log) ++ l) t.kept.all ∙ append-nil (said (all_turns t.log))) in
    let same : said (all_turns t.log) ≡ read_by r.machine.hall (requests_in config.world lines) = sym all ∙ ap (λ (w : ReplyQueueState). w.left) told.replies in
    record {
      before = told.applied.entries;
      stood = told.applied.stood;
      led = told.applied.led;
      known = told.known;
      at_end = subst (IsAtEnd lacks) told.applied.count told.at_end;
      later = (let n = told.applied.count in let p = told.later in omega (arith, n, p));
      between = t.between;
      taken = record { run = serves_all r.machine.hall (all_turns t.log) (requests_in config.world lines) same told.reads; each = t.taken.each; many = t.taken.many };
      sent = t.sent;
    }
