-- runs of drawn schedules, event by event
use Rattle.std.proofs.Common.{◌≡◌, ◌≢◌, ℕ, ◌+◌, ◌-◌, ◌%◌, ◌<◌, suc, ◌⊎◌, Bool, true, false, inl, inr, List, [], ◌∷◌, ◌++◌, map, length, take, ◌^◌, Option, length-append, get_or, set, refl, sym, ap, subst, ◌∙◌, append_assoc, arith, Result, Ok, Err, IfOk}
use Rattle.tool_work.proofs.drawn_lemmas.Common.{Lcg, pcg32, Config, Event, Tally, begins_from, opened, schedule, steps_drawn, IsUnderWay}
use Rattle.std.specs.Result.{result_ok}
use Rattle.std.proofs.lemmas.Bool.Decides.{eqb_tells}
use Rattle.std.proofs.lemmas.Grind.{get_or-set_at}
use Rattle.std.proofs.lemmas.List.{append-nil, map-append, get_or-set_other, take-append-le, take_all}
use Rattle.model_steps.specs.declared.refusal.Refusal.TheVariants as refusal
use Rattle.model_asked.specs.declared.event.Event.TheVariants as event
use Rattle.model_asked.specs.declared.exchange.Exchange.{Exchange}
use Rattle.model_asked.specs.Replies.{ShownReply}
use Rattle.model_asked.specs.declared.reply.Reply.TheVariants as reply
use Rattle.text_worlds.specs.desk.Desk.{desk_rules, IsFreshDesk}
use Rattle.text_worlds.specs.desk.DeskCalls.{exchange, exchange_of}
use Rattle.text_worlds.specs.desk.DeskValue.{DeskValue}
use Rattle.text_worlds.specs.desk.Names.{begun_in, begun_more}
use Rattle.text_worlds.specs.desk.Rules.{may_by}
use Rattle.text_worlds.specs.lemmas.desk.DeskLaws.{fresh, goes_on, law}
use Rattle.tool_work.specs.drawn.Runs.{IsAmple, HasPlayed, PlaysFrom, IsDrawnRun, AreDrawnRuns, HasDrawn, IsReportedOf, numbers_line, run_line, run_lines}
use Rattle.tool_work.proofs.drawn_lemmas.UnderWayLemmas.{at_first}
use Rattle.tool_work.specs.drawn.Tally.{IsTallyOf, how_many, is_named, is_spent, one_more_if}

-- it counts one more, or not
begun_by : (e : Event) (r : ShownReply) → ((b : ℕ) → begun_more e r b ≡ b + 1) ⊎ ((b : ℕ) → begun_more e r b ≡ b)
begun_by (event.Begin id) reply.Ok = inl (λ b. refl)
begun_by (event.Begin id) reply.Quiet = inr (λ b. refl)
begun_by (event.Begin id) reply.Stop = inr (λ b. refl)
begun_by (event.Begin id) reply.Right = inr (λ b. refl)
begun_by (event.Begin id) reply.Down = inr (λ b. refl)
begun_by (event.Begin id) reply.Spent = inr (λ b. refl)
begun_by (event.Begin id) reply.Missed = inr (λ b. refl)
begun_by (event.Begin id) (reply.Place x) = inr (λ b. refl)
begun_by (event.Begin id) (reply.Proposed x) = inr (λ b. refl)
begun_by (event.Begin id) (reply.Saw x) = inr (λ b. refl)
begun_by (event.Begin id) (reply.Named x y) = inr (λ b. refl)
begun_by (event.Begin id) (reply.Got x) = inr (λ b. refl)
begun_by (event.Begin id) (reply.Left x) = inr (λ b. refl)
begun_by (event.Begin id) (reply.Value x) = inr (λ b. refl)
begun_by (event.Begin id) (reply.Owner x) = inr (λ b. refl)
begun_by (event.Begin id) (reply.Refused x) = inr (λ b. refl)
begun_by (event.Step id) r = inr (λ b. refl)
begun_by (event.Enter id) r = inr (λ b. refl)
begun_by (event.Probe id) r = inr (λ b. refl)
begun_by (event.Seek id) r = inr (λ b. refl)
begun_by (event.Leave id) r = inr (λ b. refl)
begun_by (event.Put id value) r = inr (λ b. refl)
begun_by (event.Get id) r = inr (λ b. refl)
begun_by (event.Widen more) r = inr (λ b. refl)

begun_swap : (x y : Exchange) (b : ℕ) → begun_more x.event x.reply (begun_more y.event y.reply b) ≡ begun_more y.event y.reply (begun_more x.event x.reply b)
begun_swap x y b = elim (begun_by x.event x.reply) [
  | inl one ↦ elim (begun_by y.event y.reply) [
    | inl other ↦ rw (other b, one (b + 1), one b, other (b + 1)) refl
    | inr none ↦ rw (none b, one b, none (b + 1)) refl
  ]
  | inr none ↦ rw (none b, none (begun_more y.event y.reply b)) refl
]

begun_push : (r : List Exchange) (x : Exchange) → begun_in (r ++ x ∷ []) ≡ begun_more x.event x.reply (begun_in r)
begun_push [] x = refl
begun_push (y ∷ r) x = ap (begun_more y.event y.reply) (begun_push r x) ∙ begun_swap y x (begun_in r)

one_more_swap : (s t : Bool) (n : ℕ) → one_more_if s (one_more_if t n) ≡ one_more_if t (one_more_if s n)
one_more_swap true true n = refl
one_more_swap true false n = refl
one_more_swap false t n = refl

how_many_push : (such : ShownReply → Bool) (r : List Exchange) (x : Exchange) → how_many such (r ++ x ∷ []) ≡ one_more_if (such x.reply) (how_many such r)
how_many_push such [] x = refl
how_many_push such (y ∷ r) x = ap (one_more_if (such y.reply)) (how_many_push such r x) ∙ one_more_swap (such y.reply) (such x.reply) (how_many such r)

ample_push : (r : List Exchange) (x : Exchange) → IsAmple r → x.reply ≢ reply.Refused refusal.NoMemory → IsAmple (r ++ x ∷ [])
ample_push [] x ample some = (some, tt)
ample_push (y ∷ r) x ample some = (ample.0, ample_push r x ample.1 some)

-- nothing was played
pub played_nothing : (config : Config) (w : DeskValue) (t : Tally) → IsFreshDesk config w → IsTallyOf [] t → HasPlayed config [] w t
played_nothing config w t new none = record { calls = []; after = fresh config w new; asked = refl; ample = tt; tally = none }

-- one event more
pub played_one : (config : Config) (done : List Event) (w u : DeskValue) (t t' : Tally) (e : Event) (r : ShownReply) → HasPlayed config done w t → may_by desk_rules w e r u → r ≢ reply.Refused refusal.NoMemory →
    t'.begun ≡ begun_more e r t.begun → t'.named ≡ one_more_if (is_named r) t.named → t'.spent ≡ one_more_if (is_spent r) t.spent → HasPlayed config (done ++ e ∷ []) u t'
played_one config done w u t t' e r played may some begun named spent =
    let lead = goes_on config w played.calls played.after e r u may in
    let old = map exchange_of played.calls in
    let all : map exchange_of (played.calls ++ lead.call ∷ []) ≡ old ++ exchange e r ∷ [] =
    map-append exchange_of played.calls (lead.call ∷ []) ∙ ap (λ x. old ++ x ∷ []) lead.spelled in
    record {
      calls = played.calls ++ lead.call ∷ [];
      after = lead.after;
      asked = ap (map (λ x. x.event)) all ∙ map-append (λ x. x.event) old (exchange e r ∷ []) ∙ ap (λ l. l ++ e ∷ []) played.asked;
      ample = subst IsAmple (sym all) (ample_push old (exchange e r) played.ample some);
      tally = record {
        begun = begun ∙ ap (begun_more e r) played.tally.begun ∙ sym (begun_push old (exchange e r)) ∙ ap begun_in (sym all);
        named = named ∙ ap (one_more_if (is_named r)) played.tally.named ∙ sym (how_many_push is_named old (exchange e r)) ∙ ap (how_many is_named) (sym all);
        spent = spent ∙ ap (one_more_if (is_spent r)) played.tally.spent ∙ sym (how_many_push is_spent old (exchange e r)) ∙ ap (how_many is_spent) (sym all);
      };
    }

pub plays_one : (w u : DeskValue) (t t' : Tally) (e : Event) (r : ShownReply) → may_by desk_rules w e r u → r ≢ reply.Refused refusal.NoMemory →
    t'.begun ≡ begun_more e r t.begun → t'.named ≡ one_more_if (is_named r) t.named → t'.spent ≡ one_more_if (is_spent r) t.spent → PlaysFrom (e ∷ []) w t [] u t'
plays_one w u t t' e r may some begun named spent = λ config done all rest played is.
    (done ++ e ∷ [], played_one config done w u t t' e r played may some begun named spent, append_assoc done (e ∷ []) rest ∙ is)

-- some events and then one more of those to come
pub plays_on : (this one that : List Event) (w mid u : DeskValue) (t s t' : Tally) → PlaysFrom this w t (one ++ that) mid s → PlaysFrom one mid s [] u t' → PlaysFrom this w t that u t'
plays_on this one that w mid u t s t' a b = λ config done all rest played is.
    (let first = a config done all rest played is in b config first.0 all (that ++ rest) first.1 (ap (λ l. first.0 ++ l) (sym (append_assoc one that rest)) ∙ first.2))

-- the next who begins
pub begins_next : (ids b : ℕ) → b < ids → begins_from (b + 1) (ids - b) ≡ event.Begin (b + 1) ∷ begins_from (b + 1 + 1) (ids - (b + 1))
begins_next ids b lt = let left : ids - b ≡ suc (ids - (b + 1)) = omega arith in rw left refl

-- the next step
pub steps_next : (ids n k : ℕ) (g : Lcg) → k < n → steps_drawn ids (n - k) g ≡ event.Step (1 + (pcg32 g).0 % ids) ∷ steps_drawn ids (n - (k + 1)) (pcg32 g).1
steps_next ids n k g lt = let left : n - k ≡ suc (n - (k + 1)) = omega arith in rw left refl

pub begins_none : (ids b : ℕ) → ids - b ≡ 0 → begins_from (b + 1) (ids - b) ≡ []
begins_none ids b none = rw none refl

pub steps_none : (ids n k : ℕ) (g : Lcg) → n - k ≡ 0 → steps_drawn ids (n - k) g ≡ []
steps_none ids n k g none = rw none refl

-- a whole run
pub whole_run : (config : Config) (seed ids n : ℕ) (w mid u : DeskValue) (t s t' : Tally) → IsFreshDesk config w → IsTallyOf [] t →
    PlaysFrom (begins_from 1 ids) w t [] mid s → PlaysFrom (steps_drawn ids n (opened seed)) mid s [] u t' → (r : List Exchange) × IsDrawnRun config seed ids n r × IsTallyOf r t'
whole_run config seed ids n w mid u t s t' new none begins steps =
    let first = begins config [] (schedule seed ids n) (steps_drawn ids n (opened seed)) (played_nothing config w t new none) refl in
    let last = steps config first.0 (schedule seed ids n) [] first.1 (ap (λ l. first.0 ++ l) (append-nil (steps_drawn ids n (opened seed))) ∙ first.2) in
    let played = last.1 in
    let done : last.0 ≡ schedule seed ids n = sym (append-nil last.0) ∙ last.2 in (
      map exchange_of played.calls,
      record { run = law config u played.calls played.after; asked = played.asked ∙ done; ample = played.ample; last = u; calls = played.calls; spelled = refl; after = played.after },
      played.tally,
    )

module _ (config : Config) (seed ids n : ℕ) where
  drawn_push : (j : ℕ) (rs : List (List Exchange)) (r : List Exchange) → AreDrawnRuns config seed ids n j rs → IsDrawnRun config ((seed + (j + length rs)) % 2 ^ 64) ids n r → AreDrawnRuns config seed ids n j (rs ++ r ∷ [])
  drawn_push j [] r drawn last =
      let here : j + 0 ≡ j = omega arith in
      (subst (λ (i : ℕ). IsDrawnRun config ((seed + i) % 2 ^ 64) ids n r) here last, tt)
  drawn_push j (q ∷ rs) r drawn last =
      let later : j + length (q ∷ rs) ≡ j + 1 + length rs = omega arith in
      (drawn.0, drawn_push (j + 1) rs r drawn.1 (subst (λ (i : ℕ). IsDrawnRun config ((seed + i) % 2 ^ 64) ids n r) later last))

  lines_push : (j : ℕ) (rs : List (List Exchange)) (r : List Exchange) → run_lines j (rs ++ r ∷ []) ≡ run_lines j rs ++ run_line (j + length rs) r
  lines_push j [] r =
      let here : j + 0 ≡ j = omega arith in
      append-nil (run_line j r) ∙ ap (λ i. run_line i r) (sym here)
  lines_push j (q ∷ rs) r =
      let later : j + length (q ∷ rs) ≡ j + 1 + length rs = omega arith in
      ap (λ l. run_line j q ++ l) (lines_push (j + 1) rs r) ∙ sym (append_assoc (run_line j q) (run_lines (j + 1) rs) (run_line (j + 1 + length rs) r))
      ∙ ap (λ i. (run_line j q ++ run_lines (j + 1) rs) ++ run_line i r) (sym later)

  -- the line of one run more is held
  pub one_run_more : (count : ℕ) (before now : Option (List ℕ)) (held held' : List ℕ) (r : List Exchange) (t : Tally) → HasDrawn config seed ids n count (λ text. IsUnderWay text before now held []) →
      IsDrawnRun config ((seed + count) % 2 ^ 64) ids n r → IsTallyOf r t → held' ≡ held ++ numbers_line count t.begun t.named t.spent → HasDrawn config seed ids n (count + 1) (λ text. IsUnderWay text before now held' [])
  one_run_more count before now held held' r t has run tally is =
      let number : length has.runs ≡ count = has.count_is in
      let line : numbers_line count t.begun t.named t.spent ≡ run_line (length has.runs) r = rw (tally.begun, tally.named, tally.spent, number) refl in
      let zero_and : 0 + length has.runs ≡ length has.runs = omega arith in
      record {
        runs = has.runs ++ r ∷ [];
        drawn = drawn_push 0 has.runs r has.drawn (subst (λ (i : ℕ). IsDrawnRun config ((seed + i) % 2 ^ 64) ids n r) (sym number ∙ sym zero_and) run);
        count_is = length-append has.runs (r ∷ []) ∙ ap (λ i. i + 1) number;
        reported =
            let way = has.reported in
            let whole : run_lines 0 has.runs ++ run_line (length has.runs) r ≡ way.written ++ (held' ++ []) =
            ap (λ l. l ++ run_line (length has.runs) r) (way.whole ∙ ap (λ l. way.written ++ l) (append-nil held))
            ∙ append_assoc way.written held (run_line (length has.runs) r)
            ∙ ap (λ l. way.written ++ l) (ap (λ l. held ++ l) (sym line) ∙ sym is ∙ sym (append-nil held')) in
            record {
              written = way.written;
              gained = way.gained;
              whole = lines_push 0 has.runs r ∙ ap (λ i. run_lines 0 has.runs ++ run_line i r) zero_and ∙ whole;
            };
      }

  -- what is reported of the lines is reported otherwise
  pub reported_otherwise : (count : ℕ) (P Q : List ℕ → Type 0) → HasDrawn config seed ids n count P → ((text : List ℕ) → P text → Q text) → HasDrawn config seed ids n count Q
  reported_otherwise count P Q has weaker = record { runs = has.runs; drawn = has.drawn; count_is = has.count_is; reported = weaker (run_lines 0 has.runs) has.reported }

  -- before the first run
  pub no_run_yet : (before : Option (List ℕ)) (held : List ℕ) → held ≡ [] → HasDrawn config seed ids n 0 (λ text. IsUnderWay text before before held [])
  no_run_yet before held none = record { runs = []; drawn = tt; count_is = refl; reported = rw none (at_first [] before) }

-- the numbers of one run more are reported
pub reported_one_more : (config : Config) (seed ids n first i : ℕ) (tallies : List (Option Tally)) (reported : Option Tally) → i < length tallies → IsReportedOf config seed ids n (first + i) reported →
    ((k : ℕ) (d : Option Tally) → k < i → IsReportedOf config seed ids n (first + k) (get_or tallies k d)) → (k : ℕ) (d : Option Tally) → k < i + 1 → IsReportedOf config seed ids n (first + k) (get_or (set tallies i reported) k d)
reported_one_more config seed ids n first i tallies reported inside here before k d low = elim (eqb_tells k i) [
  | inl e ↦ subst (IsReportedOf config seed ids n (first + k)) (sym (get_or-set_at tallies i k reported d e.1 inside)) (subst (λ (j : ℕ). IsReportedOf config seed ids n (first + j) reported) (sym e.1) here)
  | inr e ↦ subst (IsReportedOf config seed ids n (first + k)) (sym (get_or-set_other tallies i k reported d e.1)) (before k d (let other = e.1 in le_and_other k i low other))
]
  where
    le_and_other : (a b : ℕ) → a < b + 1 → a ≢ b → a < b
    le_and_other a b l n = grind (arith, l, n)

-- the numbers of a run that was made are reported
pub reported_if_made : {E : Type 0} (config : Config) (seed ids n j : ℕ) (made : Result Tally E) → IfOk made (λ t. (r : List Exchange) × IsDrawnRun config ((seed + j) % 2 ^ 64) ids n r × IsTallyOf r t) → IsReportedOf config seed ids n j (result_ok made)
reported_if_made config seed ids n j (Ok t) h = h
reported_if_made config seed ids n j (Err e) h = tt

-- what a vector holds once all its places are written
pub written_all : {X : Type 0} (n : ℕ) (xs ys : List X) → length xs ≡ n → take n (xs ++ ys) ≡ xs
written_all n xs ys many = take-append-le n xs ys (omega (arith, many)) ∙ take_all n xs (omega (arith, many))
