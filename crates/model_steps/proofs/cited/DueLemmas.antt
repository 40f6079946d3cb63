-- each call of a world is refused exactly where the calls before it make it due
use Rattle.std.proofs.Common.{◌≤◌, append_assoc, ◌≡◌, ◌≢◌, ◌==◌, ◌&&◌, ◌||◌, ℕ, Bool, true, false, cond, List, [], ◌∷◌, ◌++◌, length, Option, Some, None, Ok, Err, ◌⊎◌, inl, inr, refl, sym, ap, subst, ◌∙◌, arith, add-zero, is_some, nat_le}
use Rattle.model_steps.proofs.Common.{eqb_tells, leb_tells, Decides-eqb, Note, Refusal, NotBegun, Finished, NoMemory, Access, Participant, ProgramSteps, MemorySteps, WorldState, set_at, participant_of, with_participant, beginner, Began, Stepped, Run}
use Rattle.std.proofs.Math.Bool.{or_assoc, or-false, or-true}
use Rattle.std.proofs.lemmas.List.{length-append}
use Rattle.model_steps.specs.declared.note.Note.TheVariants.{Quiet, Said, Ended}
use Rattle.model_steps.specs.Note.{ends}
use Rattle.model_steps.specs.Registers.{memory_steps}
use Rattle.model_steps.specs.World.{begin_refusal, begun_unless, done_unless, after_step, after_step_by, step_answer, step_answer_by, may_refuse_by, may_refuse_step, got_by}
use Rattle.model_steps.specs.Calls.{Call, next, IsReply, begun_in, begun_by, outcome_of, outcome_by, first_of, outcome_in, reply_of, lacked_memory}
use Rattle.model_steps.specs.Due.{begins, has_begun, ends_by, has_ended, begin_due, step_due, IsRefusedAsDue, RefusesAsDue, EndsOnce, TellsTheEnd, GrowsOnly}
use Rattle.model_steps.proofs.cited.SetAtLemmas.{set_at-cases}
use Rattle.model_steps.proofs.cited.ParticipantLemmas.{participant_of-push, participant_of-put, length-with_participant, identity_of}
use Rattle.model_steps.proofs.cited.RunLemmas.{run_keeps}
use Rattle.model_steps.proofs.cited.WorldKeeps.{IsLetIn, IsKept, let_in, begun_in-push, moved, stepped, world_keeps}

-- lists of calls, one more at the end
pub has_begun-push : {X : Type 0} (p : ℕ) (r : List (Call X)) (h : Call X) → has_begun p (r ++ h ∷ []) ≡ (has_begun p r || begins p h)
has_begun-push p [] h = or-false (begins p h)
has_begun-push p (k ∷ r) h = ap (λ b. begins p k || b) (has_begun-push p r h) ∙ sym (or_assoc (begins p k) (has_begun p r) (begins p h))

pub has_begun-append : {X : Type 0} (p : ℕ) (r t : List (Call X)) → has_begun p (r ++ t) ≡ (has_begun p r || has_begun p t)
has_begun-append p [] t = refl
has_begun-append p (k ∷ r) t = ap (λ b. begins p k || b) (has_begun-append p r t) ∙ sym (or_assoc (begins p k) (has_begun p r) (has_begun p t))

pub has_ended-push : {X : Type 0} (last : X → Bool) (p : ℕ) (r : List (Call X)) (h : Call X) → has_ended last p (r ++ h ∷ []) ≡ (has_ended last p r || ends_by last p h)
has_ended-push last p [] h = or-false (ends_by last p h)
has_ended-push last p (k ∷ r) h = ap (λ b. ends_by last p k || b) (has_ended-push last p r h) ∙ sym (or_assoc (ends_by last p k) (has_ended last p r) (ends_by last p h))

-- whose program ends with its outcome has ended once it is reported
some_first : {O : Type 0} (a b : Option O) → is_some (first_of a b) ≡ (is_some a || is_some b)
some_first None b = refl
some_first (Some a) b = refl

some_by : {O : Type 0} (p : ℕ) (h : Call (Option O)) → is_some (outcome_by p h) ≡ ends_by is_some p h
some_by p (Began q reply) = refl
some_by p (Stepped q (Err why)) = refl
some_by p (Stepped q (Ok outcome)) = elim (q == p) as (λ b. is_some (cond b outcome None) ≡ (b && is_some outcome)) [ true ↦ refl | false ↦ refl ]

pub ended_with_outcome : {O : Type 0} (p : ℕ) (r : List (Call (Option O))) → is_some (outcome_of p r) ≡ has_ended is_some p r
ended_with_outcome p [] = refl
ended_with_outcome p (h ∷ r) = some_first (outcome_by p h) (outcome_of p r) ∙ ap (λ b. b || is_some (outcome_of p r)) (some_by p h) ∙ ap (λ b. ends_by is_some p h || b) (ended_with_outcome p r)

-- where a list with one more call at the end is cut: within the list, or before that call
pub record CutInside {H : Type 0} (r before : List H) (k : H) (rest : List H) : Type 0 where
  pub shorter : List H
  pub is : r ≡ before ++ k ∷ shorter

pub record CutAtEnd {H : Type 0} (r before : List H) (h k : H) : Type 0 where
  pub all : before ≡ r
  pub same : k ≡ h

cut_more : {H : Type 0} (x : H) (r before : List H) (h k : H) (rest : List H) → CutInside r before k rest ⊎ CutAtEnd r before h k → CutInside (x ∷ r) (x ∷ before) k rest ⊎ CutAtEnd (x ∷ r) (x ∷ before) h k
cut_more x r before h k rest (inl c) = inl (record { shorter = c.shorter; is = ap (λ xs. x ∷ xs) c.is })
cut_more x r before h k rest (inr c) = inr (record { all = ap (λ xs. x ∷ xs) c.all; same = c.same })

pub cut : {H : Type 0} (r : List H) (h : H) (before : List H) (k : H) (rest : List H) → r ++ h ∷ [] ≡ before ++ k ∷ rest → CutInside r before k rest ⊎ CutAtEnd r before h k
cut [] h [] k rest e = inr (record { all = refl; same = (let s : h ≡ k = cc in sym s) })
cut [] h (b ∷ []) k rest e = absurd (cc)
cut [] h (b ∷ c ∷ before) k rest e = absurd (cc)
cut (x ∷ r) h [] k rest e = inl (record { shorter = r; is = (let s : x ≡ k = cc in ap (λ z. z ∷ r) s) })
cut (x ∷ r) h (b ∷ before) k rest e =
    let s : x ≡ b = cc in
    let t : r ++ h ∷ [] ≡ before ++ k ∷ rest = cc in
    subst (λ z. CutInside (x ∷ r) (z ∷ before) k rest ⊎ CutAtEnd (x ∷ r) (z ∷ before) h k) s (cut_more x r before h k rest (cut r h before k rest t))

pub nothing_cut : {H : Type 0} (before : List H) (k : H) (rest : List H) → [] ≡ before ++ k ∷ rest → ⊥
nothing_cut [] k rest e = cc
nothing_cut (b ∷ before) k rest e = cc

-- one more call at the end that is refused as is due
pub due_more : {X : Type 0} (last : X → Bool) (most : ℕ) (grows : Bool) (r : List (Call X)) (h : Call X) → RefusesAsDue last most grows r → IsRefusedAsDue last most grows r h → RefusesAsDue last most grows (r ++ h ∷ [])
due_more last most grows r h all one = λ before k rest e. elim (cut r h before k rest e) [
  | inl c ↦ all before k c.shorter c.is
  | inr c ↦ rw (c.all, c.same) one
]

-- who has ended makes no accepted step
none_ended : (b e : Bool) → cond b (cond e (Some Finished) None) (Some NotBegun) ≡ None → e ≡ false
none_ended true true h = absurd (cc)
none_ended true false h = refl
none_ended false e h = absurd (cc)

pub ends_once : {X : Type 0} (last : X → Bool) (most : ℕ) (grows : Bool) (r : List (Call X)) → RefusesAsDue last most grows r → EndsOnce last r
ends_once last most grows r due = λ before p said rest e. none_ended (has_begun p before) (has_ended last p before) (due before (Stepped p (Ok said)) rest e)

abbrev pub ended_in : {P : Type 0} → Option (Participant P) → Bool
ended_in None = false
ended_in (Some v) = v.ended

module _ {P S R V O X : Type 0} (program : ProgramSteps P R V O) (memory : MemorySteps S R V) (shown : Note O → X) (start : ℕ → P) (last : X → Bool) (grows : Bool) (most : ℕ)
    (tells : (note : Note O) → last (shown note) ≡ ends note) (may : (m : S) (a : Access R V) → memory.may_refuse m a ≡ true → grows ≡ true) where
  -- the participants of a world are those that have begun and ended in these calls, which are refused as is due
  pub record IsCounted (w : WorldState S P) (r : List (Call X)) : Type 0 where
    pub most_is : w.most ≡ most
    pub begun : (p : ℕ) → is_some (participant_of p w.participants) ≡ has_begun p r
    pub ended : (p : ℕ) → ended_in (participant_of p w.participants) ≡ has_ended last p r
    pub many : length w.participants ≡ begun_in r
    pub due : RefusesAsDue last most grows r

  refused_call : (w : WorldState S P) (r : List (Call X)) (h : Call X) → ((p : ℕ) → begins p h ≡ false) → ((p : ℕ) → ends_by last p h ≡ false) → begun_by h ≡ 0 → IsRefusedAsDue last most grows r h → IsCounted w r → IsCounted w (r ++ h ∷ [])
  refused_call w r h no_begin no_end none is t = record {
    most_is = t.most_is;
    begun = λ p. t.begun p ∙ sym (has_begun-push p r h ∙ rw (no_begin p) (or-false (has_begun p r)));
    ended = λ p. t.ended p ∙ sym (has_ended-push last p r h ∙ rw (no_end p) (or-false (has_ended last p r)));
    many = omega (arith, t.many, begun_in-push r h, none);
    due = due_more last most grows r h t.due is;
  }

  due_is : (w : WorldState S P) (r : List (Call X)) (id : ℕ) → IsCounted w r → begin_refusal w id ≡ begin_due last most r id
  due_is w r id t = rw (t.begun id, t.many, t.most_is) refl

  begun_kept : (w : WorldState S P) (r : List (Call X)) (id : ℕ) → IsLetIn w id → IsRefusedAsDue last most grows r (Began id (Ok tt)) → IsCounted w r →
      IsCounted (record { memory = w.memory; most = w.most; participants = w.participants ++ beginner id (start id) ∷ [] }) (r ++ Began id (Ok tt) ∷ [])
  begun_kept w r id in_ is t =
      let push = participant_of-push w.participants (beginner id (start id)) in_.absent in
      record {
        most_is = t.most_is;
        begun = λ p. ap is_some (push p)
            ∙ set_at-cases (λ v. participant_of v w.participants) id (Some (beginner id (start id))) (λ o. is_some o ≡ (has_begun p r || (id == p))) p
            (λ e. let own : (id == p) ≡ true = (Decides-eqb id p).1 (sym e) in rw own (sym (or-true (has_begun p r))))
            (λ n. let other : (id == p) ≡ false = (elim (eqb_tells id p) [ inl e ↦ absurd (n (sym e.1)) | inr e ↦ e.0 ]) in rw other (t.begun p ∙ sym (or-false (has_begun p r))))
            ∙ sym (has_begun-push p r (Began id (Ok tt)));
        ended = λ p. ap ended_in (push p)
            ∙ set_at-cases (λ v. participant_of v w.participants) id (Some (beginner id (start id))) (λ o. ended_in o ≡ has_ended last p r) p
            (λ e. sym (ap ended_in in_.absent) ∙ rw (← e) (t.ended p))
            (λ n. t.ended p)
            ∙ sym (has_ended-push last p r (Began id (Ok tt)) ∙ or-false (has_ended last p r));
        many = omega (arith, t.many, begun_in-push r (Began id (Ok tt)), length-append w.participants (beginner id (start id) ∷ []));
        due = due_more last most grows r (Began id (Ok tt)) t.due is;
      }

  -- an accepted step
  gone_on_kept : (w : WorldState S P) (r : List (Call X)) (id : ℕ) (v : Participant P) → participant_of id w.participants ≡ Some v → v.ended ≡ false → IsCounted w r →
      IsCounted (stepped program memory shown start w v) (r ++ Stepped id (Ok (shown (program.note v.program (got_by program memory w.memory v)))) ∷ [])
  gone_on_kept w r id v here goes t =
      let new : Participant P = moved program memory shown start w.memory v in
      let call : Call X = Stepped id (Ok (shown (program.note v.program (got_by program memory w.memory v)))) in
      let own : v.identity ≡ id = identity_of id w.participants v here in
      let there : is_some (participant_of v.identity w.participants) ≡ true = rw (own, here) refl in
      let put : (q : ℕ) → participant_of q (with_participant new w.participants) ≡ set_at (λ u. participant_of u w.participants) id (Some new) q = (λ q. participant_of-put w.participants new there q ∙ rw own refl) in
      let begun_here : has_begun id r ≡ true = sym (t.begun id) ∙ ap is_some here in
      let not_ended : has_ended last id r ≡ false = sym (t.ended id) ∙ ap ended_in here ∙ goes in
      record {
        most_is = t.most_is;
        begun = λ p. ap is_some (put p)
            ∙ set_at-cases (λ u. participant_of u w.participants) id (Some new) (λ o. is_some o ≡ has_begun p r) p
            (λ e. sym (rw e begun_here))
            (λ n. t.begun p)
            ∙ sym (has_begun-push p r call ∙ or-false (has_begun p r));
        ended = λ p. ap ended_in (put p)
            ∙ set_at-cases (λ u. participant_of u w.participants) id (Some new) (λ o. ended_in o ≡ (has_ended last p r || ends_by last p call)) p
            (λ e. let itself : (id == p) ≡ true = (Decides-eqb id p).1 (sym e) in
            let so_far : has_ended last p r ≡ false = rw e not_ended in
            sym (rw (so_far, itself) (tells (program.note v.program (got_by program memory w.memory v)))))
            (λ n. let other : (id == p) ≡ false = (elim (eqb_tells id p) [ inl e ↦ absurd (n (sym e.1)) | inr e ↦ e.0 ]) in
            rw other (t.ended p ∙ sym (or-false (has_ended last p r))))
            ∙ sym (has_ended-push last p r call);
        many = length-with_participant w.participants new ∙ omega (arith, t.many, begun_in-push r call);
        due = due_more last most grows r call t.due (rw (begun_here, not_ended) refl);
      }

  -- a step that the world answers
  answered_kept : (w : WorldState S P) (r : List (Call X)) (id : ℕ) → IsCounted w r →
      IsCounted (cond (lacked_memory (reply_of shown (step_answer program memory w id))) w (after_step program memory w id)) (r ++ Stepped id (reply_of shown (step_answer program memory w id)) ∷ [])
  answered_kept w r id t =
      elim (participant_of id w.participants) as (λ o. participant_of id w.participants ≡ o → IsCounted (cond (lacked_memory (reply_of shown (step_answer_by program memory w.memory o))) w (after_step_by program memory w o)) (r ++ Stepped id (reply_of shown (step_answer_by program memory w.memory o)) ∷ [])) [
        | None ↦ λ e. refused_call w r (Stepped id (Err NotBegun)) (λ p. refl) (λ p. refl) refl (inl (let absent : has_begun id r ≡ false = sym (t.begun id) ∙ ap is_some e in rw absent refl)) t
        | Some v ↦ λ e.
            elim v.ended as (λ b. v.ended ≡ b → IsCounted (cond (lacked_memory (reply_of shown (cond b (Err Finished) (Ok (program.note v.program (got_by program memory w.memory v)))))) w (cond b w (stepped program memory shown start w v))) (r ++ Stepped id (reply_of shown (cond b (Err Finished) (Ok (program.note v.program (got_by program memory w.memory v))))) ∷ [])) [
              | true ↦ λ done. refused_call w r (Stepped id (Err Finished)) (λ p. refl) (λ p. refl) refl
                  (inl (let there : has_begun id r ≡ true = sym (t.begun id) ∙ ap is_some e in
                  let over : has_ended last id r ≡ true = sym (t.ended id) ∙ ap ended_in e ∙ done in rw (there, over) refl)) t
              | false ↦ λ goes. gone_on_kept w r id v e goes t
            ] refl
      ] refl

  -- a step for which a growth was refused
  lacking_due : (w : WorldState S P) (r : List (Call X)) (id : ℕ) → IsCounted w r → may_refuse_step program memory w id ≡ true → (step_due last r id ≡ None) × (grows ≡ true)
  lacking_due w r id t h =
      elim (participant_of id w.participants) as (λ o. participant_of id w.participants ≡ o → may_refuse_by program memory w.memory o ≡ true → (step_due last r id ≡ None) × (grows ≡ true)) [
        | None ↦ λ e k. absurd (cc)
        | Some v ↦ λ e. elim v.ended as (λ b. v.ended ≡ b → cond b false (memory.may_refuse w.memory (program.next v.program)) ≡ true → (step_due last r id ≡ None) × (grows ≡ true)) [
          | true ↦ λ done k. absurd (cc)
          | false ↦ λ goes k.
              let there : has_begun id r ≡ true = sym (t.begun id) ∙ ap is_some e in
              let on : has_ended last id r ≡ false = sym (t.ended id) ∙ ap ended_in e ∙ goes in
              (rw (there, on) refl, may w.memory (program.next v.program) k)
        ] refl
      ] refl h

  next_counted : (w : WorldState S P) (r : List (Call X)) (h : Call X) → IsCounted w r → IsReply program memory shown start w h → IsCounted (next program memory shown start w h) (r ++ h ∷ [])
  next_counted w r (Began id reply) t is = rw is (
      elim (begin_refusal w id) as (λ o. begin_refusal w id ≡ o → IsCounted (begun_unless o w id (start id)) (r ++ Began id (done_unless o) ∷ [])) [
        | Some why ↦ λ e. refused_call w r (Began id (Err why)) (λ p. refl) (λ p. refl) refl (ap done_unless (sym e ∙ due_is w r id t)) t
        | None ↦ λ e. begun_kept w r id (let_in w id e) (ap done_unless (sym e ∙ due_is w r id t)) t
      ] refl)
  next_counted w r (Stepped id reply) t (inl is) = rw is (answered_kept w r id t)
  next_counted w r (Stepped id reply) t (inr is) = rw is.0 (
      let due = lacking_due w r id t is.1 in
      refused_call w r (Stepped id (Err NoMemory)) (λ p. refl) (λ p. refl) refl (inr (due.0, refl, due.1)) t)

  counted_new : (first : S) → IsCounted (record { memory = first; most = most; participants = [] }) []
  counted_new first = record {
    most_is = refl;
    begun = λ p. refl;
    ended = λ p. refl;
    many = refl;
    due = λ before h rest e. absurd (nothing_cut before h rest e);
  }

  pub world_counted : (first : S) (w : WorldState S P) (r : List (Call X)) → Run (next program memory shown start) (IsReply program memory shown start) (record { memory = first; most = most; participants = [] }) r w → IsCounted w r
  world_counted first w r a =
      run_keeps (next program memory shown start) (IsReply program memory shown start) IsCounted next_counted (record { memory = first; most = most; participants = [] }) [] r w (counted_new first) a

-- as many have begun as there are participants
module _ {P S R V O X : Type 0} (program : ProgramSteps P R V O) (memory : MemorySteps S R V) (shown : Note O → X) (start : ℕ → P) where
  abbrev HasAsMany : WorldState S P → List (Call X) → Type 0
  HasAsMany w r = begun_in r ≡ length w.participants

  many_kept : IsKept program memory shown start HasAsMany
  many_kept = record {
    refused_begin = λ w r id why t. begun_in-push r (Began id (Err why)) ∙ add-zero (begun_in r) ∙ t;
    refused_step = λ w r id why t. begun_in-push r (Stepped id (Err why)) ∙ add-zero (begun_in r) ∙ t;
    begun = λ w r id in_ t. omega (arith, t, begun_in-push r (Began id (Ok tt)), length-append w.participants (beginner id (start id) ∷ []));
    gone_on = λ w r id v here goes t.
        begun_in-push r (Stepped id (Ok (shown (program.note v.program (got_by program memory w.memory v))))) ∙ add-zero (begun_in r) ∙ t
        ∙ sym (length-with_participant w.participants (moved program memory shown start w.memory v));
  }

  pub many_begun : (first : S) (most : ℕ) (w : WorldState S P) (r : List (Call X)) → Run (next program memory shown start) (IsReply program memory shown start) (record { memory = first; most = most; participants = [] }) r w → begun_in r ≡ length w.participants
  many_begun first most w r a = world_keeps program memory shown start HasAsMany many_kept (record { memory = first; most = most; participants = [] }) refl w r a

-- what is answered where a program ends with its outcome tells the end
pub outcomes_tell : {O : Type 0} → TellsTheEnd {O = O} outcome_in is_some
outcomes_tell Quiet = refl
outcomes_tell (Said said) = refl
outcomes_tell (Ended outcome) = refl

-- registers that are all made at once refuse no growth
pub never_grows : {V : Type 0} → GrowsOnly (memory_steps {V = V}) false
never_grows m a h = h

-- lists that keep no law: one that tells the end of a program twice, and one that refuses whoever comes first
has_ended-append : {X : Type 0} (last : X → Bool) (p : ℕ) (r t : List (Call X)) → has_ended last p (r ++ t) ≡ (has_ended last p r || has_ended last p t)
has_ended-append last p [] t = refl
has_ended-append last p (k ∷ r) t = ap (λ b. ends_by last p k || b) (has_ended-append last p r t) ∙ sym (or_assoc (ends_by last p k) (has_ended last p r) (has_ended last p t))

pub no_second_end : {X : Type 0} (last : X → Bool) (p : ℕ) (a b : X) (before between rest : List (Call X)) → last a ≡ true → EndsOnce last (before ++ Stepped p (Ok a) ∷ (between ++ Stepped p (Ok b) ∷ rest)) → ⊥
no_second_end last p a b before between rest h once =
    let itself : (p == p) ≡ true = (Decides-eqb p p).1 refl in
    let first : Call _ = Stepped p (Ok a) in
    let ended : has_ended last p (before ++ first ∷ between) ≡ true = has_ended-append last p before (first ∷ between) ∙ rw (itself, h) (or-true (has_ended last p before)) in
    let not_ended : has_ended last p (before ++ first ∷ between) ≡ false = once (before ++ first ∷ between) p b rest (sym (append_assoc before (first ∷ between) (Stepped p (Ok b) ∷ rest))) in
    let never : true ≡ false = sym ended ∙ not_ended in
    cc

pub not_first_refused : {X : Type 0} (last : X → Bool) (most : ℕ) (grows : Bool) (p : ℕ) (why : Refusal) (rest : List (Call X)) → 1 ≤ most → p ≢ 0 → RefusesAsDue last most grows (Began p (Err why) ∷ rest) → ⊥
not_first_refused last most grows p why rest room some due =
    let is = due [] (Began p (Err why)) rest refl in
    let nonzero : (p == 0) ≡ false = (elim (eqb_tells p 0) [ inl e ↦ absurd (some e.1) | inr e ↦ e.0 ]) in
    let free : nat_le most 0 ≡ false = (elim (leb_tells most 0) [ inl l ↦ absurd (let k = l.1 in omega arith) | inr l ↦ l.0 ]) in
    let never : Err why ≡ Ok tt = rw (nonzero, free) at is in
    cc
