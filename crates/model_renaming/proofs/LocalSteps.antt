-- a step is local
use Rattle.std.proofs.Common.{◌≡◌, ◌≢◌, ℕ, true, false, cond, List, Option, Some, None, Result, Ok, Err, inl, inr, refl, sym, ap, subst, ◌∙◌, option_map}
use Rattle.model_renaming.proofs.Common.{set_at-same, set_at-other, Participant, Refusal, NotBegun, Finished, NoMemory, participant_of, program_of, with_participant, beginner, resumed, Client, SnapReply, is_idle, scanning, updating, KnownPlaces, StepReply, Follow, Round, Wish, Nothing, Update, Scan, RenameState, after_wish, snap_step, snap_reported, after_follow, answer_reported, answer_open, answer_by, after_reported, after_open, after_by, rename_answer, after_rename_step, stage_refusal, followed}
use Rattle.model_steps.specs.declared.access.Access.{Access}
use Rattle.model_steps.specs.declared.access.Answer.{Answer}
use Rattle.model_steps.specs.Steps.{Spares}
use Rattle.model_steps.specs.World.{step_answer_by}
use Rattle.model_steps.specs.Calls.{reply_of}
use Rattle.model_steps.proofs.cited.ParticipantLemmas.{participant_of-put, identity_of}
use Rattle.model_steps.proofs.cited.StepLemmas.{going_after, lacks_or_not}
use Rattle.model_snapshot.specs.SnapWorld.{SnapState, asked, clients_over, reported, scan_refusal_by, update_refusal_by, snap_answer_by, after_snap_step}
use Rattle.model_renaming.specs.Locality.{client_of, round_of, wished, asked_unless, access_of, got_in, follow_by, ChangesOnly}

-- who is put in is found there, and no other has changed
put_own : {P : Type 0} (ps : List (Participant P)) (new v : Participant P) → participant_of new.identity ps ≡ Some v → participant_of new.identity (with_participant new ps) ≡ Some new
put_own ps new v h = participant_of-put ps new (rw h refl) new.identity ∙ set_at-same (λ u. participant_of u ps) new.identity (Some new)

put_other : {P : Type 0} (ps : List (Participant P)) (new v : Participant P) → participant_of new.identity ps ≡ Some v → (q : ℕ) → q ≢ new.identity → participant_of q (with_participant new ps) ≡ participant_of q ps
put_other ps new v h q n = participant_of-put ps new (rw h refl) q ∙ set_at-other (λ u. participant_of u ps) new.identity (Some new) q n

-- p has become this, and nothing else of the snapshot object is another
pub record Becomes {S U K : Type 0} (s new : SnapState S U K) (p : ℕ) (c : Client U K) : Type 0 where
  pub own : program_of p new.participants ≡ Some c
  pub others : (q : ℕ) → q ≢ p → participant_of q new.participants ≡ participant_of q s.participants
  pub memory : new.memory ≡ s.memory
  pub most : new.most ≡ s.most

module _ {S U K : Type 0} (s : SnapState S U K) (p : ℕ) (v : Participant (Client U K)) (here : participant_of p s.participants ≡ Some v) where
  there : program_of p s.participants ≡ Some v.program
  there = ap (option_map (λ u. u.program)) here

  asks : (asking : Client U K → Client U K) (why : Option Refusal) → Becomes s (asked s p asking (Some v.program) why) p (asked_unless why v.program (asking v.program))
  asks asking None = record {
    own = ap (option_map (λ u. u.program)) (put_own s.participants (beginner p (asking v.program)) v here);
    others = put_other s.participants (beginner p (asking v.program)) v here;
    memory = refl;
    most = refl;
  }
  asks asking (Some why) = record { own = there; others = λ q n. refl; memory = refl; most = refl }

  pub wish_becomes : (wish : Wish) → Becomes s (after_wish s p wish) p (wished wish v.program)
  wish_becomes Nothing = record { own = there; others = λ q n. refl; memory = refl; most = refl }
  wish_becomes (Update value) = rw there (asks (λ c. updating c value) (update_refusal_by (Some v.program)))
  wish_becomes Scan = rw there (asks scanning (scan_refusal_by (Some v.program)))

module _ {S R V U K : Type 0} (W : KnownPlaces S R V U K) where
  -- a step that the snapshot object has answered
  pub record IsAccepted (s : SnapState S U K) (p : ℕ) (reply : SnapReply) : Type 0 where
    pub who : Participant (Client U K)
    pub here : participant_of p s.participants ≡ Some who
    pub answer : reply ≡ reported ((clients_over W).note who.program (got_in W s.memory who.program))
    pub after : after_snap_step W s p ≡ record { memory = W.memory.after s.memory (access_of W who.program); most = s.most; participants = with_participant (resumed (clients_over W) who (got_in W s.memory who.program)) s.participants }

  module _ (s : SnapState S U K) (p : ℕ) (reply : SnapReply) where
    awake : (v : Participant (Client U K)) → participant_of p s.participants ≡ Some v → is_idle v.program.pending ≡ false → v.ended ≡ false → reported ((clients_over W).note v.program (got_in W s.memory v.program)) ≡ reply → IsAccepted s p reply
    awake v h busy goes e = record {
      who = v;
      here = h;
      answer = sym e;
      after = (let is : program_of p s.participants ≡ Some v.program = ap (option_map (λ u. u.program)) h in rw (is, busy) (going_after (clients_over W) W.memory s p v h goes));
    }

    going : (v : Participant (Client U K)) → participant_of p s.participants ≡ Some v → is_idle v.program.pending ≡ false → reply_of reported (step_answer_by (clients_over W) W.memory s.memory (Some v)) ≡ Ok reply → IsAccepted s p reply
    going v h busy e = elim v.ended as (λ b. v.ended ≡ b → reply_of reported (cond b (Err Finished) (Ok ((clients_over W).note v.program (got_in W s.memory v.program)))) ≡ Ok reply → IsAccepted s p reply) [
      | true ↦ λ g k. absurd (let no : Err Finished ≡ Ok reply = k in cc)
      | false ↦ λ g k. awake v h busy g (let same : reported ((clients_over W).note v.program (got_in W s.memory v.program)) ≡ reply = cc in same)
    ] refl e

    found_going : (v : Participant (Client U K)) → participant_of p s.participants ≡ Some v → snap_answer_by W s p (Some v.program) ≡ Ok reply → IsAccepted s p reply
    found_going v h e = elim (is_idle v.program.pending) as (λ b. is_idle v.program.pending ≡ b → cond b (Err Finished) (reply_of reported (step_answer_by (clients_over W) W.memory s.memory (participant_of p s.participants))) ≡ Ok reply → IsAccepted s p reply) [
      | true ↦ λ idle k. absurd (let no : Err Finished ≡ Ok reply = k in cc)
      | false ↦ λ busy k. going v h busy (rw h at k)
    ] refl e

    pub accepted : snap_answer_by W s p (program_of p s.participants) ≡ Ok reply → IsAccepted s p reply
    accepted e = elim (participant_of p s.participants) as (λ z. participant_of p s.participants ≡ z → snap_answer_by W s p (option_map (λ u. u.program) z) ≡ Ok reply → IsAccepted s p reply) [
      | None ↦ λ h k. absurd (let no : Err NotBegun ≡ Ok reply = k in cc)
      | Some v ↦ λ h k. found_going v h k
    ] refl e

  module _ (spared : (m : S) (a : Access R V) (x : R) → Spares a x → W.memory.register (W.memory.after m a) x ≡ W.memory.register m x) (w : RenameState S U K) (p : ℕ) where
    -- what is refused changes nothing
    pub refused_local : (why : Refusal) → ChangesOnly W p w w (Err why)
    refused_local why = record {
      access = λ c h. tt;
      reply = λ c r h k. tt;
      client = λ c r h k. tt;
      round = λ c r h k. tt;
      others = λ q n. (refl, refl);
      registers = λ c h x a. refl;
      most = refl;
      limit = refl;
    }

    module _ (v : Participant Round) (here : participant_of p w.rounds ≡ Some v) (reply : SnapReply) (a : IsAccepted w.snap p reply) where
      abbrev c : Client U K
      c = a.who.program

      abbrev got : Answer V
      got = got_in W w.snap.memory c

      abbrev follow : Follow
      follow = followed v.program p reply w.limit

      abbrev next_who : Participant (Client U K)
      next_who = resumed (clients_over W) a.who got

      own_identity : a.who.identity ≡ p
      own_identity = identity_of p w.snap.participants a.who a.here

      own_there : participant_of next_who.identity w.snap.participants ≡ Some a.who
      own_there = ap (λ (q : ℕ). participant_of q w.snap.participants) own_identity ∙ a.here

      stepped_own : participant_of p (snap_step W w p).participants ≡ Some next_who
      stepped_own = rw a.after (ap (λ (q : ℕ). participant_of q (with_participant next_who w.snap.participants)) (sym own_identity) ∙ put_own w.snap.participants next_who a.who own_there)

      stepped_other : (q : ℕ) → q ≢ p → participant_of q (snap_step W w p).participants ≡ participant_of q w.snap.participants
      stepped_other q n = rw a.after (put_other w.snap.participants next_who a.who own_there q (λ e. n (e ∙ own_identity)))

      becomes : Becomes (snap_step W w p) (after_wish (snap_step W w p) p follow.wish) p (wished follow.wish next_who.program)
      becomes = wish_becomes (snap_step W w p) p next_who stepped_own follow.wish

      memory_is : (after_wish (snap_step W w p) p follow.wish).memory ≡ W.memory.after w.snap.memory (access_of W c)
      memory_is = becomes.memory ∙ ap (λ (z : SnapState S U K). z.memory) a.after

      client_is : (d : Client U K) → client_of p w ≡ Some d → c ≡ d
      client_is d h = let e : Some c ≡ Some d = sym (ap (option_map (λ u. u.program)) a.here) ∙ h in cc

      round_is : (r : Round) → round_of p w ≡ Some r → v.program ≡ r
      round_is r h = let e : Some v.program ≡ Some r = sym (ap (option_map (λ u. u.program)) here) ∙ h in cc

      follow_is : (d : Client U K) (r : Round) → c ≡ d → v.program ≡ r → follow ≡ follow_by W p w.limit d r (got_in W w.snap.memory d)
      follow_is d r e f = ap (λ (x : SnapReply). followed v.program p x w.limit) a.answer ∙ ap (λ (x : Client U K). follow_by W p w.limit x v.program (got_in W w.snap.memory x)) e ∙ ap (λ (x : Round). follow_by W p w.limit d x (got_in W w.snap.memory d)) f

      pub accepted_local : ChangesOnly W p w (after_follow W w p follow) (Ok follow.reply)
      accepted_local = record {
        access = λ d h. memory_is ∙ ap (λ (x : Client U K). W.memory.after w.snap.memory (access_of W x)) (client_is d h);
        reply = λ d r h k. ap (λ (x : Follow). x.reply) (follow_is d r (client_is d h) (round_is r k));
        client = λ d r h k. becomes.own ∙ ap (λ (x : Follow). Some (wished x.wish next_who.program)) (follow_is d r (client_is d h) (round_is r k)) ∙ ap (λ (x : Client U K). Some (wished (follow_by W p w.limit d r (got_in W w.snap.memory d)).wish ((clients_over W).resumed x (got_in W w.snap.memory x)))) (client_is d h);
        round = λ d r h k. ap (option_map (λ u. u.program)) (put_own w.rounds (beginner p follow.round) v here) ∙ ap (λ (x : Follow). Some x.round) (follow_is d r (client_is d h) (round_is r k));
        others = λ q n. (becomes.others q n ∙ stepped_other q n, put_other w.rounds (beginner p follow.round) v here q n);
        registers = λ d h x s. ap (λ (m : S). W.memory.register m x) memory_is ∙ spared w.snap.memory (access_of W c) x (subst (λ (z : Client U K). Spares (access_of W z) x) (sym (client_is d h)) s);
        most = becomes.most ∙ ap (λ (z : SnapState S U K). z.most) a.after;
        limit = refl;
      }

    module _ (v : Participant Round) (here : participant_of p w.rounds ≡ Some v) where
      reported_local : (answer : Result SnapReply Refusal) → snap_reported W w p ≡ answer → ChangesOnly W p w (after_reported W w p v.program answer) (answer_reported W w p v.program answer)
      reported_local (Ok reply) e = accepted_local v here reply (accepted w.snap p reply e)
      reported_local (Err why) e = refused_local why

      open_local : (why : Option Refusal) → ChangesOnly W p w (after_open W w p v.program why) (answer_open W w p v.program why)
      open_local None = reported_local (snap_reported W w p) refl
      open_local (Some why) = refused_local why

    -- every step is local
    pub step_local : ChangesOnly W p w (after_rename_step W w p) (rename_answer W w p)
    step_local = elim (participant_of p w.rounds) as (λ z. participant_of p w.rounds ≡ z → ChangesOnly W p w (after_by W w p (option_map (λ u. u.program) z)) (answer_by W w p (option_map (λ u. u.program) z))) [
      | None ↦ λ h. refused_local NotBegun
      | Some v ↦ λ h. open_local v h (stage_refusal v.program.stage)
    ] refl

  -- and so is every call of it
  pub local_call : ((m : S) (a : Access R V) (x : R) → Spares a x → W.memory.register (W.memory.after m a) x ≡ W.memory.register m x) → (w new : RenameState S U K) (p : ℕ) (reply : Result StepReply Refusal) →
      (reply ≢ Err NoMemory → new ≡ after_rename_step W w p) → (reply ≢ Err NoMemory → reply ≡ rename_answer W w p) → (reply ≡ Err NoMemory → new ≡ w) → ChangesOnly W p w new reply
  local_call spared w new p reply state answer kept = elim (lacks_or_not reply) [
    | inl e ↦ rw (kept e, e) (refused_local spared w p NoMemory)
    | inr n ↦ rw (state n, answer n) (step_local spared w p)
  ]
