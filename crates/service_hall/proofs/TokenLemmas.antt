-- a hall that gives tokens: no slot ever has less than before, and each token is above all that its slot had
use Rattle.std.proofs.Common.{◌≡◌, ◌≤◌, ◌++◌, ◌-◌, ◌==◌, ℕ, zero, suc, nat_lt, Bool, true, false, cond, inl, inr, List, [], ◌∷◌, length, replicate, set, Option, Some, None, Result, Ok, Err, get_or, refl, sym, ap, subst, ◌∙◌, arith}
use Rattle.std.proofs.lemmas.Bool.{eqb-true, eqb-false}
use Rattle.std.proofs.lemmas.List.{get_or-set_same, get_or-set_other}
use Rattle.service_hall.proofs.Common.{Refusal, Config, Event, Exchange, exchange, DeskValue, OverGrid, OverTree, ShownReply, Runs, Turn, Answered, Reported, Ended, Misread, desk_of, desk_reply, desk_after, desk_refusal, SatisfiesSpec, hall_refusal, longer, reply_unless, after_unless, HallMay, HallState}
use Rattle.std.specs.Result.{result_unwrap_or}
use Rattle.model_steps.specs.declared.refusal.Refusal.TheVariants as refusal
use Rattle.model_asked.specs.declared.event.Event.TheVariants.{Begin, Step, Enter, Probe, Seek, Leave, Put, Get, Widen}
use Rattle.model_asked.specs.declared.reply.Reply.TheVariants as reply
use Rattle.model_pool.specs.Pool.{number_answer, widen_answer}
use Rattle.model_pool.specs.slots.Slots.{stored_in, extended_in}
use Rattle.model_pool.proofs.cited.slots.SlotsKeep.{held_within}
use Rattle.model_snapshot.specs.Places.{KnownPlaces}
use Rattle.model_renaming.specs.over.GridTies.{grid_places}
use Rattle.model_renaming.specs.over.TreeTies.{tree_places}
use Rattle.text_worlds.specs.desk.Desk.{fresh_desk, IsAfterDesk}
use Rattle.text_worlds.specs.desk.DeskCalls.{DeskCall}
use Rattle.text_worlds.specs.desk.DeskRules.{after_over, fetched, refusal_of}
use Rattle.text_worlds.specs.desk.DeskState.{DeskState}
use Rattle.text_worlds.specs.desk.Held.{slots_of}
use Rattle.service_hall.specs.Raising.{IsNextToken, held_value, number_in, token_above, value_at}
use Rattle.service_hall.specs.Reading.{GaveToken, Serves, TakesBy, way_of, way_of_put}
use Rattle.service_hall.specs.declared.rules.Rules.{Rules}
use Rattle.service_hall.specs.declared.rules.Way.{Way}
use Rattle.service_hall.specs.declared.rules.Way.TheVariants.{Applied, Read, Raised, Barred}
use Rattle.service_hall.proofs.cited.Histories.{all_calls, none_of_full, replay_push}
use Rattle.service_hall.proofs.cited.RaisingLemmas.{IsPut, by_put}
use Rattle.service_hall.proofs.cited.Serves.{moves}

-- slots that were added hold 0
not_less : (xs ys : List ℕ) (i : ℕ) → get_or xs i 0 ≤ get_or (xs ++ ys) i 0
not_less [] ys i = omega arith
not_less (x ∷ xs) ys zero = omega arith
not_less (x ∷ xs) ys (suc i) = not_less xs ys i

extends : (answer : Result (Unit {0}) Refusal) (more : ℕ) (xs : List ℕ) (i : ℕ) → get_or xs i 0 ≤ get_or (extended_in answer more 0 xs) i 0
extends (Ok done) more xs i = not_less xs (replicate (more - length xs) 0) i
extends (Err refusal) more xs i = omega arith

-- no event makes a slot hold less but `put`
abbrev is_put : Event → Bool
is_put (Put p value) = true
is_put e = false

module _ {S R V U K : Type 0} (W : KnownPlaces S R V U K) where
  desk_rises : (w : DeskState S U K) (e : Event) (i : ℕ) → is_put e ≡ false → get_or w.slots.values i 0 ≤ get_or (after_over W w e).slots.values i 0
  desk_rises w (Begin p) i other = omega arith
  desk_rises w (Step p) i other = omega arith
  desk_rises w (Enter p) i other = omega arith
  desk_rises w (Probe p) i other = omega arith
  desk_rises w (Seek p) i other = omega arith
  desk_rises w (Leave p) i other = omega arith
  desk_rises w (Put p value) i other = absurd (cc)
  desk_rises w (Get p) i other = omega arith
  desk_rises w (Widen more) i other = extends (widen_answer w.slots.pool more) more w.slots.values i

rises_over : (w : DeskValue) (e : Event) (i : ℕ) → is_put e ≡ false → get_or (slots_of w).values i 0 ≤ get_or (slots_of (desk_after w e)).values i 0
rises_over (OverGrid w) e i other = desk_rises grid_places w e i other
rises_over (OverTree w) e i other = desk_rises tree_places w e i other

-- the desk behind one event more
pushed : (h : HallState) (e : Event) → desk_of (longer h e) ≡ desk_after (desk_of h) e
pushed h e = replay_push (fresh_desk h.config) h.history (exchange e (desk_reply (desk_of h) e))

rises_unless : (h : HallState) (e : Event) (o : Option Refusal) (n : ℕ) → is_put e ≡ false → value_at h n ≤ value_at (after_unless o h e) n
rises_unless h e None n other = subst (λ (w : DeskValue). value_at h n ≤ get_or (slots_of w).values (n - 1) 0) (sym (pushed h e)) (rises_over (desk_of h) e (n - 1) other)
rises_unless h e (Some why) n other = omega arith

rises_may : (h u : HallState) (e : Event) (r : ShownReply) (n : ℕ) → is_put e ≡ false → HallMay h e r u → value_at h n ≤ value_at u n
rises_may h u e r n other (inl m) = subst (λ (v : HallState). value_at h n ≤ value_at v n) (sym m.1) (rises_unless h e (hall_refusal h e) n other)
rises_may h u e r n other (inr m) = subst (λ (v : HallState). value_at h n ≤ value_at v n) (sym m.1) (omega arith)

-- who holds a number has a slot
over_slots : (c : Config) (w : DeskValue) (calls : List DeskCall) (p n : ℕ) → IsAfterDesk c w calls → number_answer (slots_of w).pool p ≡ Ok n → (1 ≤ n) × (n ≤ length (slots_of w).values)
over_slots c (OverGrid w) calls p n after holds = held_within w.slots p n holds _ _ after.1.slots
over_slots c (OverTree w) calls p n after holds = held_within w.slots p n holds _ _ after.1.slots

has_slot : (h : HallState) (p n : ℕ) → SatisfiesSpec h → number_in h p ≡ Ok n → (1 ≤ n) × (n ≤ length (slots_of (desk_of h)).values)
has_slot h p n lawful holds = let k = all_calls h lawful in over_slots h.config (desk_of h) k.calls p n k.after holds

-- the slot of the number that an identity holds, behind a `put` by it
next_stored : (values : List ℕ) (number : Result ℕ Refusal) (token n : ℕ) → number ≡ Ok n → (1 ≤ n) × (n ≤ length values) → get_or (stored_in number token values) (n - 1) 0 ≡ token
next_stored values (Ok m) token n is within =
    let same : m ≡ n = cc is in
    subst (λ (k : ℕ). get_or (set values (k - 1) token) (n - 1) 0 ≡ token) (sym same) (get_or-set_same values (n - 1) token 0 (omega (arith, within.0, within.1)))
next_stored values (Err why) token n is within = absurd (cc is)

next_over : (w : DeskValue) (p token n : ℕ) → number_answer (slots_of w).pool p ≡ Ok n → (1 ≤ n) × (n ≤ length (slots_of w).values) → get_or (slots_of (desk_after w (Put p token))).values (n - 1) 0 ≡ token
next_over (OverGrid w) p token n is within = next_stored w.slots.values (number_answer w.slots.pool p) token n is within
next_over (OverTree w) p token n is within = next_stored w.slots.values (number_answer w.slots.pool p) token n is within

-- and the slots of the others
others_stored : (values : List ℕ) (number : Result ℕ Refusal) (token n m : ℕ) → number ≡ Ok n → 1 ≤ n → 1 ≤ m → (m == n) ≡ false → get_or (stored_in number token values) (m - 1) 0 ≡ get_or values (m - 1) 0
others_stored values (Ok k) token n m is low lowest other =
    let same : k ≡ n = cc is in
    subst (λ (j : ℕ). get_or (set values (j - 1) token) (m - 1) 0 ≡ get_or values (m - 1) 0) (sym same)
    (get_or-set_other values (n - 1) (m - 1) token 0 (λ e. eqb-false m n other (omega (arith, low, lowest, e))))
others_stored values (Err why) token n m is low lowest other = absurd (cc is)

others_over : (w : DeskValue) (p token n m : ℕ) → number_answer (slots_of w).pool p ≡ Ok n → 1 ≤ n → 1 ≤ m → (m == n) ≡ false → get_or (slots_of (desk_after w (Put p token))).values (m - 1) 0 ≡ get_or (slots_of w).values (m - 1) 0
others_over (OverGrid w) p token n m is low lowest other = others_stored w.slots.values (number_answer w.slots.pool p) token n m is low lowest other
others_over (OverTree w) p token n m is low lowest other = others_stored w.slots.values (number_answer w.slots.pool p) token n m is low lowest other

-- who may put holds a number
free_holds : (number : Result ℕ Refusal) (why : Refusal) → number ≡ Err why → refusal_of number ≡ None → ⊥
free_holds (Ok n) why is free = cc is
free_holds (Err other) why is free = cc free

holds_none : (w : DeskValue) (p token : ℕ) (why : Refusal) → number_answer (slots_of w).pool p ≡ Err why → desk_refusal w (Put p token) ≡ None → ⊥
holds_none (OverGrid w) p token why is free = free_holds (number_answer w.slots.pool p) why is free
holds_none (OverTree w) p token why is free = free_holds (number_answer w.slots.pool p) why is free

-- a token that is put is the next one
is_above : (value token : ℕ) → token_above value ≡ Some token → token ≡ suc value
is_above value token is = elim (nat_lt value 18446744073709551615) as (λ (b : Bool). cond b (Some (suc value)) None ≡ Some token → token ≡ suc value) [
  | true ↦ λ e. (let same : suc value ≡ token = cc in sym same)
  | false ↦ λ e. absurd (cc)
] is

record IsStored (h : HallState) (p token : ℕ) (u : HallState) : Type 0 where
  next : IsNextToken h p token u
  others : (m : ℕ) → 1 ≤ m → (m == next.number) ≡ false → value_at u m ≡ value_at h m

stored_by_number : (h : HallState) (p token : ℕ) (number : Result ℕ Refusal) → SatisfiesSpec h → number_in h p ≡ number → desk_refusal (desk_of h) (Put p token) ≡ None →
    token_above (held_value h p) ≡ Some token → IsStored h p token (longer h (Put p token))
stored_by_number h p token (Ok n) lawful holds free above =
    let within = has_slot h p n lawful holds in
    let held : held_value h p ≡ value_at h n = ap (λ (r : Result ℕ Refusal). result_unwrap_or (fetched (slots_of (desk_of h)).values r) 0) holds in
    let after = pushed h (Put p token) in
    record {
      next = record {
        number = n;
        holds = holds;
        next = is_above (held_value h p) token above ∙ ap suc held;
        stored = ap (λ (w : DeskValue). get_or (slots_of w).values (n - 1) 0) after ∙ next_over (desk_of h) p token n holds within;
      };
      others = λ m lowest other. ap (λ (w : DeskValue). get_or (slots_of w).values (m - 1) 0) after ∙ others_over (desk_of h) p token n m holds within.0 lowest other;
    }
stored_by_number h p token (Err why) lawful holds free above = absurd (holds_none (desk_of h) p token why holds free)

stored_when : (h u : HallState) (p token : ℕ) (o : Option Refusal) → SatisfiesSpec h → token_above (held_value h p) ≡ Some token → hall_refusal h (Put p token) ≡ o →
    reply.Ok ≡ reply_unless o h (Put p token) → u ≡ after_unless o h (Put p token) → IsStored h p token u
stored_when h u p token None lawful above due says after =
    subst (λ (v : HallState). IsStored h p token v) (sym after)
    (stored_by_number h p token (number_in h p) lawful refl (none_of_full (desk_refusal (desk_of h) (Put p token)) (length h.history) due) above)
stored_when h u p token (Some why) lawful above due says after = absurd (cc says)

stored_so : (h u : HallState) (p : ℕ) (r : ShownReply) → SatisfiesSpec h → (put : IsPut h p r u) → IsStored h p put.token u
stored_so h u p r lawful put = elim put.may [
  | inl m ↦ stored_when h u p put.token (hall_refusal h (Put p put.token)) lawful put.is_next refl m.0 m.1
  | inr lacked ↦ absurd (let bad : reply.Ok ≡ reply.Refused refusal.NoMemory = lacked.0 in cc)
]

-- no slot has less where a token was put
put_rises : (h u : HallState) (p token n : ℕ) → 1 ≤ n → IsStored h p token u → value_at h n ≤ value_at u n
put_rises h u p token n lowest stored =
    let next = stored.next in
    elim (n == next.number) as (λ (b : Bool). (n == next.number) ≡ b → value_at h n ≤ value_at u n) [
      | true ↦ λ e.
          let same : n ≡ next.number = eqb-true n next.number e in
          subst (λ (k : ℕ). value_at h k ≤ value_at u k) (sym same) (let is = next.next in let now = next.stored in omega (arith, is, now))
      | false ↦ λ e. let same = stored.others n lowest e in omega (arith, same)
    ] refl

-- what is applied where tokens are given is no `put`
applied_is : (rules : Rules) (e : Event) → rules.tokens ≡ true → way_of rules e ≡ Applied → is_put e ≡ false
applied_is rules (Put p value) gives is = absurd (let no : way_of_put true p ≡ Applied = ap (λ (b : Bool). way_of_put b p) (sym gives) ∙ is in cc)
applied_is rules (Begin p) gives is = refl
applied_is rules (Step p) gives is = refl
applied_is rules (Enter p) gives is = refl
applied_is rules (Probe p) gives is = refl
applied_is rules (Seek p) gives is = refl
applied_is rules (Leave p) gives is = refl
applied_is rules (Get p) gives is = refl
applied_is rules (Widen more) gives is = refl

-- one event by rules: the hall stays lawful, and no slot has less
record Rises (h u : HallState) (n : ℕ) : Type 0 where
  lawful : SatisfiesSpec u
  no_less : value_at h n ≤ value_at u n

stays_so : (h u : HallState) (n : ℕ) → SatisfiesSpec h → u ≡ h → Rises h u n
stays_so h u n lawful same = record { lawful = subst SatisfiesSpec (sym same) lawful; no_less = subst (λ (v : HallState). value_at h n ≤ value_at v n) (sym same) (omega arith) }

one_rises : (way : Way) (h u : HallState) (e : Event) (r : ShownReply) (n : ℕ) → 1 ≤ n → SatisfiesSpec h → (way ≡ Applied → is_put e ≡ false) → TakesBy way h e r u → Rises h u n
one_rises Applied h u e r n lowest lawful other may = record { lawful = (moves h e lawful r u may).lawful; no_less = rises_may h u e r n (other refl) may }
one_rises (Read p) h u e r n lowest lawful other may = stays_so h u n lawful may.1
one_rises (Raised p) h u e r n lowest lawful other may = elim (by_put h p r u may) [
  | inl put ↦ record {
    lawful = (moves h (Put p put.token) lawful reply.Ok u put.may).lawful;
    no_less = put_rises h u p put.token n lowest (stored_so h u p r lawful put);
  }
  | inr refused ↦ stays_so h u n lawful refused.same
]
one_rises Barred h u e r n lowest lawful other may = stays_so h u n lawful may.1

module _ (rules : Rules) (gives : rules.tokens ≡ true) where
  run_rises : (h u : HallState) (ts : List Turn) (n : ℕ) → 1 ≤ n → SatisfiesSpec h → Runs (Serves rules) h ts u → Rises h u n
  run_rises h u [] n lowest lawful run = stays_so h u n lawful (sym run)
  run_rises h u (Answered x ∷ ts) n lowest lawful run =
      let one = one_rises (way_of rules x.event) h run.0 x.event x.reply n lowest lawful (applied_is rules x.event gives) run.1 in
      let rest = run_rises run.0 u ts n lowest one.lawful run.2 in
      record { lawful = rest.lawful; no_less = (let a = one.no_less in let b = rest.no_less in omega (arith, a, b)) }
  run_rises h u (Reported q r ∷ ts) n lowest lawful run =
      let one = stays_so h run.0 n lawful run.1.1 in
      let rest = run_rises run.0 u ts n lowest one.lawful run.2 in
      record { lawful = rest.lawful; no_less = (let a = one.no_less in let b = rest.no_less in omega (arith, a, b)) }
  run_rises h u (Ended ∷ ts) n lowest lawful run = run_rises h u ts n lowest lawful run
  run_rises h u (Misread bad ∷ ts) n lowest lawful run = run_rises h u ts n lowest lawful run

  -- no slot has less behind a run
  pub never_less : (h u : HallState) (ts : List Turn) (n : ℕ) → 1 ≤ n → SatisfiesSpec h → Runs (Serves rules) h ts u → value_at h n ≤ value_at u n
  never_less h u ts n lowest lawful run = (run_rises h u ts n lowest lawful run).no_less

  -- what was served before a turn, and behind it
  record Parts (h u : HallState) (before : List Turn) (x : Exchange) (behind : List Turn) : Type 0 where
    at : HallState
    led : Runs (Serves rules) h before at
    after : HallState
    takes : TakesBy (way_of rules x.event) at x.event x.reply after
    rest : Runs (Serves rules) after behind u

  parts : (h u : HallState) (before : List Turn) (x : Exchange) (behind : List Turn) → Runs (Serves rules) h (before ++ Answered x ∷ behind) u → Parts h u before x behind
  parts h u [] x behind run = record { at = h; led = refl; after = run.0; takes = run.1; rest = run.2 }
  parts h u (Answered y ∷ before) x behind run =
      let p = parts run.0 u before x behind run.2 in record { at = p.at; led = (run.0, run.1, p.led); after = p.after; takes = p.takes; rest = p.rest }
  parts h u (Reported n r ∷ before) x behind run =
      let p = parts run.0 u before x behind run.2 in record { at = p.at; led = (run.0, run.1, p.led); after = p.after; takes = p.takes; rest = p.rest }
  parts h u (Ended ∷ before) x behind run =
      let p = parts h u before x behind run in record { at = p.at; led = p.led; after = p.after; takes = p.takes; rest = p.rest }
  parts h u (Misread bad ∷ before) x behind run =
      let p = parts h u before x behind run in record { at = p.at; led = p.led; after = p.after; takes = p.takes; rest = p.rest }

  given_by : (h u at after : HallState) (before behind : List Turn) (x : Exchange) (p token : ℕ) → SatisfiesSpec h → x.reply ≡ reply.Value token → Runs (Serves rules) h before at →
      TakesBy (Raised p) at x.event x.reply after → Runs (Serves rules) after behind u → GaveToken rules h before p token behind u
  given_by h u at after before behind x p token lawful told led takes rest =
      let there = (run_rises h at before 1 (omega arith) lawful led).lawful in
      elim (by_put at p x.reply after takes) [
        | inl put ↦
            let same : put.token ≡ token = (let e : reply.Value put.token ≡ reply.Value token = sym put.told ∙ told in cc) in
            let stored : IsStored at p token after = subst (λ (t : ℕ). IsStored at p t after) same (stored_so at after p x.reply there put) in
            let next = stored.next in
            let lowest = (has_slot at p next.number there next.holds).0 in
            let before_it = (run_rises h at before next.number lowest lawful led).no_less in
            let on = (one_rises (Raised p) at after x.event x.reply 1 (omega arith) there (λ no. absurd (cc no)) takes).lawful in
            let behind_it = (run_rises after u behind next.number lowest on rest).no_less in
            record {
              at = at;
              led = led;
              after = after;
              gave = next;
              rest = rest;
              above = (let is = next.next in omega (arith, before_it, is));
              kept = (let now = next.stored in omega (arith, now, behind_it));
            }
        | inr refused ↦ absurd (let no : reply.Value token ≡ reply.Refused refused.why = sym told ∙ refused.told in cc)
      ]

  -- a token that is given is above all that the slot had
  pub gave : (h u : HallState) (before behind : List Turn) (x : Exchange) (p token : ℕ) → SatisfiesSpec h → way_of rules x.event ≡ Raised p → x.reply ≡ reply.Value token →
      Runs (Serves rules) h (before ++ Answered x ∷ behind) u → GaveToken rules h before p token behind u
  gave h u before behind x p token lawful is told run =
      let k = parts h u before x behind run in
      given_by h u k.at k.after before behind x p token lawful told k.led (subst (λ (way : Way). TakesBy way k.at x.event x.reply k.after) is k.takes) k.rest
