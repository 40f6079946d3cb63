-- a world of programs over registers in a row is a local machine
use Rattle.std.proofs.Common.{◌≡◌, ◌≢◌, ℕ, ◌+◌, ◌<◌, ◌≤◌, true, false, List, [], ◌∷◌, ◌++◌, length, Option, Some, None, Ok, Err, inl, inr, sym, refl, ap, ◌∙◌, arith, is_some, ne_eqb, length-append, slice_index_or}
use Rattle.std.proofs.lemmas.Bool.Decides.{eqb_tells, leb_tells, Decides-eqb}
use Rattle.model_steps.specs.Calls.{Call, outcome_of, outcome_by, outcome_in, steps_of, steps_by, begun_in, reply_of, first_of}
use Rattle.model_steps.specs.Calls.Call.{Began, Stepped}
use Rattle.model_steps.specs.Machine.{Reaches, IsProved}
use Rattle.model_steps.specs.Note.{ends}
use Rattle.model_steps.specs.Participant.{participant_of, with_participant, beginner, resumed}
use Rattle.model_steps.specs.RegisterState.{Registers}
use Rattle.model_steps.specs.Registers.{memory_steps, answer_of, after_access}
use Rattle.model_steps.specs.SetAt.{set_at}
use Rattle.model_steps.specs.Steps.{ProgramSteps}
use Rattle.model_steps.specs.World.{begin_refusal, begun_unless, done_unless}
use Rattle.model_steps.specs.WorldMachine.{fresh_world, world_machine}
use Rattle.model_steps.specs.WorldState.{WorldState}
use Rattle.model_steps.specs.declared.access.Access.{Access}
use Rattle.model_steps.specs.declared.access.Access.TheVariants.{Read, Write, TestAndSet, Clear, Nothing}
use Rattle.model_steps.specs.declared.access.Answer.{Answer}
use Rattle.model_steps.specs.declared.access.Answer.TheVariants.{Value}
use Rattle.model_steps.specs.declared.participant.Participant.{Participant}
use Rattle.model_steps.proofs.cited.ParticipantLemmas.{participant_of-push, participant_of-put, length-with_participant, identity_of}
use Rattle.model_steps.proofs.cited.SetAtLemmas.{set_at-same, set_at-other}
use Rattle.model_steps.proofs.cited.StepLemmas.{going_answer, going_after}
use Rattle.model_steps.proofs.cited.WorldKeeps.{steps_of-push, begun_in-push, outcome_of-push, first_of-none, run_most, world_keeps}
use Rattle.model_steps.proofs.cited.WorldMachineLemmas.{begin_leads_on, step_leads_on}
use Rattle.model_steps.specs.LocalMachine.{GoesOn, one_more, program_at, values_after, answer_in, IsOnce, IsFresh}
use Rattle.model_steps.specs.LocalWorlds.{LocalParts, parts_of_world, local_world, any_parts, TakesLocally}

free_to_begin : {S P : Type 0} (w : WorldState S P) (p : ℕ) → p ≢ 0 → participant_of p w.participants ≡ None → length w.participants < w.most → begin_refusal w p ≡ None
free_to_begin w p some absent room = elim (eqb_tells p 0) [
  | inl z ↦ absurd (some z.1)
  | inr z ↦ elim (leb_tells w.most (length w.participants)) [
    | inl l ↦ absurd (let full = l.1 in omega arith)
    | inr l ↦ rw (z.0, absent, l.0) refl
  ]
]

own_step : {X : Type 0} (p : ℕ) (x : X) → steps_by p (Stepped p (Ok x)) ≡ 1
own_step p x = rw ((Decides-eqb p p).1 refl) refl

other_step : {X : Type 0} (p q : ℕ) (x : X) → q ≢ p → steps_by q (Stepped p (Ok x)) ≡ 0
other_step p q x ne = rw (ne_eqb p q (λ e. ne (sym e))) refl

own_outcome : {O : Type 0} (p : ℕ) (o : Option O) → outcome_by p (Stepped p (Ok o)) ≡ o
own_outcome p o = rw ((Decides-eqb p p).1 refl) refl

other_outcome : {O : Type 0} (p q : ℕ) (o : Option O) → q ≢ p → outcome_by q (Stepped p (Ok o)) ≡ None
other_outcome p q o ne = rw (ne_eqb p q (λ e. ne (sym e))) refl

-- an access keeps what nobody wrote, and is one to words
same_first : {V : Type 0} (m : Registers V) (a : Access ℕ V) → (after_access m a).first ≡ m.first
same_first m (Read r) = refl
same_first m (Write r v) = refl
same_first m (TestAndSet r) = refl
same_first m (Clear r) = refl
same_first m Nothing = refl

values_left : {V : Type 0} (m : Registers V) (a : Access ℕ V) → (after_access m a).values ≡ values_after m.values a
values_left m (Read r) = refl
values_left m (Write r v) = refl
values_left m (TestAndSet r) = refl
values_left m (Clear r) = refl
values_left m Nothing = refl

module _ {P V O : Type 0} (program : ProgramSteps P ℕ V O) (parts : LocalParts P V O) where
  abbrev World : Type 0
  World = WorldState (Registers V) P

  abbrev Calls : Type 0
  Calls = List (Call (Option O))

  -- what every list of calls leaves so
  record IsPlain (w : World) (r : Calls) : Type 0 where
    first_is : w.memory.first ≡ parts.first
    begun_is : begun_in r ≡ length w.participants

  plain : (most : ℕ) (w : World) (r : Calls) → Reaches (world_machine (parts_of_world program parts)) most w r → IsPlain w r
  plain most w r a = world_keeps program memory_steps outcome_in parts.start IsPlain
      (record {
        refused_begin = λ v t id why h. record { first_is = h.first_is; begun_is = (let pushed = begun_in-push t (Began id (Err why)) in let before = h.begun_is in omega arith) };
        refused_step = λ v t id why h. record { first_is = h.first_is; begun_is = (let pushed = begun_in-push t (Stepped id (Err why)) in let before = h.begun_is in omega arith) };
        begun = λ v t id let_in h. record {
          first_is = h.first_is;
          begun_is = (let pushed = begun_in-push t (Began id (Ok tt)) in let before = h.begun_is in let longer = length-append v.participants (beginner id (parts.start id) ∷ []) in omega arith);
        };
        gone_on = λ v t id u here goes h. record {
          first_is = same_first v.memory (program.next u.program) ∙ h.first_is;
          begun_is = (let pushed = begun_in-push t (Stepped id (Ok (outcome_in (program.note u.program (answer_of v.memory (program.next u.program)))))) in let before = h.begun_is in let many = length-with_participant v.participants (resumed program u (answer_of v.memory (program.next u.program))) in omega arith);
        };
      })
      (fresh_world (parts_of_world program parts) most) (record { first_is = refl; begun_is = refl }) w r a.run

  -- what is read there is what the words answer
  answers : (m : Registers V) → m.first ≡ parts.first → (a : Access ℕ V) → ((r : ℕ) → a ≢ TestAndSet r) → answer_of m a ≡ answer_in parts.first m.values a
  answers m first_is (Read r) none = ap (λ (d : V). Value (slice_index_or m.values r d)) first_is
  answers m first_is (Write r v) none = refl
  answers m first_is (TestAndSet r) none = absurd (none r refl)
  answers m first_is (Clear r) none = refl
  answers m first_is Nothing none = refl

  -- a step of one who has begun
  module _ (tests_none : (u : P) (r : ℕ) → program.next u ≢ TestAndSet r) where
    world_steps : (most : ℕ) (w : World) (r : Calls) → Reaches (world_machine (parts_of_world program parts)) most w r → (p : ℕ) (v : Participant P) → participant_of p w.participants ≡ Some v → v.ended ≡ false
        → IsOnce program parts.first (local_world program parts) most w r p (Some v) v.program
    world_steps most w r a p v there goes =
        let own : v.identity ≡ p = identity_of p w.participants v there in
        let g : Answer V = answer_of w.memory (program.next v.program) in
        let heard : g ≡ answer_in parts.first w.memory.values (program.next v.program) = answers w.memory (plain most w r a).first_is (program.next v.program) (λ k. tests_none v.program k) in
        let new : Participant P = resumed program v g in
        let said : Option O = outcome_in (program.note v.program g) in
        let h : Call (Option O) = Stepped p (Ok said) in
        let x : World = record { memory = after_access w.memory (program.next v.program); most = w.most; participants = with_participant new w.participants } in
        let leaves = going_after program memory_steps w p v there goes in
        let reported = going_answer program memory_steps w p v there goes in
        let here : is_some (participant_of v.identity w.participants) ≡ true = ap (λ i. is_some (participant_of i w.participants)) own ∙ ap is_some there in
        let put : (q : ℕ) → participant_of q x.participants ≡ set_at (λ u. participant_of u w.participants) p (Some new) q =
        (λ q. participant_of-put w.participants new here q ∙ ap (λ i. set_at (λ u. participant_of u w.participants) i (Some new) q) own) in
        record {
          w = x;
          r = r ++ h ∷ [];
          after = step_leads_on (parts_of_world program parts) w x p (Ok said) (sym leaves) (sym (ap (reply_of outcome_in) reported)) most r a;
          memory_is = values_left w.memory (program.next v.program);
          mine = put p ∙ set_at-same (λ u. participant_of u w.participants) p (Some new) ∙ ap (λ (i : ℕ). Some (record { identity = i; program = new.program; ended = new.ended })) own
              ∙ ap (λ (z : Answer V). Some (record { identity = p; program = program.resumed v.program z; ended = ends (program.note v.program z) })) heard;
          others = λ q ne. put q ∙ set_at-other (λ u. participant_of u w.participants) p (Some new) q ne;
          own_steps = (let pushed = steps_of-push p r h in let one = own_step p said in omega arith);
          steps = λ q ne. (let pushed = steps_of-push q r h in let none = other_step p q said ne in omega arith);
          own_outcome_is = λ none. outcome_of-push p r h ∙ ap (λ o. first_of o (outcome_by p h)) none ∙ own_outcome p said ∙ ap (λ (z : Answer V). outcome_in (program.note v.program z)) heard;
          outcomes = λ q ne. outcome_of-push q r h ∙ ap (first_of (outcome_of q r)) (other_outcome p q said ne) ∙ first_of-none (outcome_of q r);
          begun = (let pushed = begun_in-push r h in omega arith);
        }

    -- and of one who begins with it
    world_begins : (most : ℕ) (w : World) (r : Calls) → Reaches (world_machine (parts_of_world program parts)) most w r → (p : ℕ) → p ≢ 0 → participant_of p w.participants ≡ None → begun_in r + 1 ≤ most
        → IsOnce program parts.first (local_world program parts) most w r p None (parts.start p)
    world_begins most w r a p some absent room =
        let b : Participant P = beginner p (parts.start p) in
        let x : World = record { memory = w.memory; most = w.most; participants = w.participants ++ b ∷ [] } in
        let h : Call (Option O) = Began p (Ok tt) in
        let many : w.most ≡ most = run_most program memory_steps outcome_in parts.start (fresh_world (parts_of_world program parts) most) r w a.run in
        let begun = (plain most w r a).begun_is in
        let free = free_to_begin w p some absent (omega arith) in
        let push = participant_of-push w.participants b absent in
        let begins = begin_leads_on (parts_of_world program parts) w x p (Ok tt) (ap (λ o. begun_unless o w p (parts.start p)) (sym free)) (ap done_unless (sym free)) most r a in
        let once = world_steps most x (r ++ h ∷ []) begins p b (push p ∙ set_at-same (λ v. participant_of v w.participants) p (Some b)) refl in
        let same : (q : ℕ) → steps_of q (r ++ h ∷ []) ≡ steps_of q r = (λ q. steps_of-push q r h ∙ omega arith) in
        let unreported : (q : ℕ) → outcome_of q (r ++ h ∷ []) ≡ outcome_of q r = (λ q. outcome_of-push q r h ∙ first_of-none (outcome_of q r)) in
        record {
          w = once.w;
          r = once.r;
          after = once.after;
          memory_is = once.memory_is;
          mine = once.mine;
          others = λ q ne. once.others q ne ∙ push q ∙ set_at-other (λ v. participant_of v w.participants) p (Some b) q ne;
          own_steps = (let one = once.own_steps in let before = same p in omega arith);
          steps = λ q ne. once.steps q ne ∙ same q;
          own_outcome_is = λ none. once.own_outcome_is (unreported p ∙ none);
          outcomes = λ q ne. once.outcomes q ne ∙ unreported q;
          begun = (let pushed = begun_in-push r h in let one = once.begun in omega arith);
        }

    -- so whoever stands somewhere makes its access
    pub world_takes : (most : ℕ) (w : World) (r : Calls) → Reaches (world_machine (parts_of_world program parts)) most w r → (p : ℕ) (o : Option (Participant P)) → p ≢ 0 → participant_of p w.participants ≡ o → GoesOn o → begun_in r + one_more o ≤ most
        → IsOnce program parts.first (local_world program parts) most w r p o (program_at program parts.first (local_world program parts) p o)
    world_takes most w r a p None some absent goes room = world_begins most w r a p some absent room
    world_takes most w r a p (Some v) some there goes room = world_steps most w r a p v there goes

  -- and a world that is proved starts as a local machine does
  pub world_fresh : IsProved (world_machine (parts_of_world program parts)) → (most : ℕ) → parts.MayStart most → IsFresh program parts.first (local_world program parts) most
  world_fresh proved most may = record { after = proved.fresh most may; blank = refl; nobody = λ q. refl; unreported = λ q. refl }

pub takes_locally : (P V O : Type 0) → TakesLocally P V O
takes_locally P V O program registers first start = world_takes program (any_parts registers first start)
