-- a desk's transcript without the turns that were refused memory
use Rattle.std.proofs.Common.{◌≡◌, ◌≢◌, ◌==◌, ◌||◌, ◌*◌, nat_le, nat_lt, is_some, ℕ, Bool, true, false, cond, inl, inr, List, [], ◌∷◌, ◌++◌, length, Option, Some, None, refl, sym, ap, subst, ◌∙◌}
use Rattle.model_steps.specs.declared.refusal.Refusal.{Refusal}
use Rattle.model_steps.specs.declared.refusal.Refusal.TheVariants as refusal
use Rattle.model_steps.specs.Participant.{participant_of, program_of}
use Rattle.model_steps.specs.World.{begin_refusal}
use Rattle.model_steps.specs.WorldState.{WorldState}
use Rattle.model_asked.specs.declared.config.Config.{Config}
use Rattle.model_asked.specs.declared.kind.WorldKind.{WorldKind}
use Rattle.model_asked.specs.declared.kind.WorldKind.TheVariants.{Rename, Tree}
use Rattle.model_renaming.specs.declared.round.Round.{Round}
use Rattle.model_renaming.specs.declared.round.RoundStage.{RoundStage}
use Rattle.model_renaming.specs.declared.round.RoundStage.TheVariants.{Settled as IsSettled, Over}
use Rattle.model_renaming.specs.RenameWorld.{owner_by, refusal_by}
use Rattle.model_renaming.specs.Round.{stage_refusal}
use Rattle.model_pool.specs.declared.stay.Stay.{Stay}
use Rattle.model_pool.specs.declared.stay.Stay.TheVariants.{Seeking, Settled}
use Rattle.model_pool.specs.Competitors.{stay_of}
use Rattle.model_pool.specs.Pool.{enter_refusal, probe_refusal_by, number_by}
use Rattle.model_pool.specs.PoolState.{PoolState}
use Rattle.model_pool.specs.Widening.{widen_refusal}
use Rattle.model_asked.specs.declared.event.Event.{Event}
use Rattle.model_asked.specs.declared.event.Event.TheVariants.{Begin, Step, Enter, Probe, Seek, Leave, Put, Get, Widen}
use Rattle.model_asked.specs.Replies.{ShownReply}
use Rattle.model_asked.specs.declared.reply.Reply.TheVariants as reply
use Rattle.model_asked.specs.Config.{gives_names}
use Rattle.text_worlds.specs.desk.Desk.{desk_rules, desk_refusal, owner_reply, IsAfterDesk}
use Rattle.text_worlds.specs.desk.DeskCalls.{DeskCall}
use Rattle.text_worlds.specs.desk.DeskRules.{refusal_of, refusal_over}
use Rattle.text_worlds.specs.desk.DeskState.{DeskState}
use Rattle.text_worlds.specs.desk.DeskValue.{DeskValue}
use Rattle.text_worlds.specs.desk.DeskValue.DeskValue.{OverGrid, OverTree}
use Rattle.text_worlds.specs.desk.Rules.{may_by}
use Rattle.text_worlds.specs.lemmas.desk.DeskLaws as desk
use Rattle.text_worlds.specs.DeskWorld.{DeskWorldMay, IsDeskTranscript}
use Rattle.text_worlds.proofs.TranscriptLemmas.{desk_transcript}
use Rattle.text_worlds.specs.lemmas.IsTranscriptProofs.{is_desk_transcript}
use Rattle.text_worlds.specs.Granted.{is_of_memory, is_lack, granted}
use Rattle.text_worlds.specs.IsTranscript.{IsTranscriptByKind}
use Rattle.text_player.specs.Runs.{Runs, NoneRefusedGrowth}
use Rattle.text_player.specs.Turns.{Turn}
use Rattle.text_player.specs.Turns.Turn.{Answered, Reported, Ended, Misread}

-- a reason other than an allocation failure, where there is one
abbrev IsOther : Option Refusal → Type 0
IsOther None = Unit {0}
IsOther (Some why) = is_of_memory why ≡ false

other_if : (b : Bool) (why : Refusal) (rest : Option Refusal) → is_of_memory why ≡ false → IsOther rest → IsOther (cond b (Some why) rest)
other_if true why rest here there = here
other_if false why rest here there = there

other_stage : (s : RoundStage) → IsOther (stage_refusal s)
other_stage IsSettled = refl
other_stage Over = refl
other_stage s = tt

other_step : (r : Option Round) → IsOther (refusal_by r)
other_step None = refl
other_step (Some r) = other_stage r.stage

other_probe : (s : Option Stay) → IsOther (probe_refusal_by s)
other_probe None = refl
other_probe (Some (Seeking next)) = tt
other_probe (Some (Settled number)) = refl

other_number : (s : Option Stay) → IsOther (refusal_of (number_by s))
other_number None = refl
other_number (Some (Seeking next)) = refl
other_number (Some (Settled number)) = tt

other_begin : {S P : Type 0} (w : WorldState S P) (p : ℕ) → IsOther (begin_refusal w p)
other_begin w p =
    let full : Option Refusal = cond (nat_le w.most (length w.participants)) (Some refusal.Full) None in
    other_if (p == 0) refusal.ZeroIdentity (cond (is_some (participant_of p w.participants)) (Some refusal.AlreadyBegun) full) refl
    (other_if (is_some (participant_of p w.participants)) refusal.AlreadyBegun full refl (other_if (nat_le w.most (length w.participants)) refusal.Full None refl tt))

other_enter : (w : PoolState) (p : ℕ) → IsOther (enter_refusal w p)
other_enter w p =
    let crowded : Option Refusal = cond (nat_le w.size (length w.competitors)) (Some refusal.Crowded) None in
    other_if (p == 0) refusal.ZeroIdentity (cond (is_some (stay_of p w.competitors)) (Some refusal.AlreadyCompeting) crowded) refl
    (other_if (is_some (stay_of p w.competitors)) refusal.AlreadyCompeting crowded refl (other_if (nat_le w.size (length w.competitors)) refusal.Crowded None refl tt))

other_widen : (most size more : ℕ) → IsOther (widen_refusal most size more)
other_widen most size more =
    let above : Option Refusal = cond (nat_lt most more) (Some refusal.OutOfRange) None in
    other_if (nat_le more size) refusal.OutOfRange above refl (other_if (nat_lt most more) refusal.OutOfRange None refl tt)

other_over : {S U K : Type 0} (w : DeskState S U K) (e : Event) → IsOther (refusal_over w e)
other_over w (Begin p) = other_begin w.names.snap p
other_over w (Step p) = other_step (program_of p w.names.rounds)
other_over w (Enter p) = other_enter w.slots.pool p
other_over w (Probe p) = other_probe (stay_of p w.slots.pool.competitors)
other_over w (Seek p) = other_probe (stay_of p w.slots.pool.competitors)
other_over w (Leave p) = other_number (stay_of p w.slots.pool.competitors)
other_over w (Put p value) = other_number (stay_of p w.slots.pool.competitors)
other_over w (Get p) = other_number (stay_of p w.slots.pool.competitors)
other_over w (Widen more) = other_widen w.slots.pool.most w.slots.pool.size more

other_due : (w : DeskValue) (e : Event) → IsOther (desk_refusal w e)
other_due (OverGrid w) e = other_over w e
other_due (OverTree w) e = other_over w e

not_memory : (o : Option Refusal) → IsOther o → o ≡ Some refusal.NoMemory → ⊥
not_memory o other is = let bad : true ≡ false = subst IsOther is other in cc

is_memory : (why : Refusal) → is_of_memory why ≡ true → why ≡ refusal.NoMemory
is_memory refusal.NoMemory is = refl
is_memory _ is = absurd cc

lack_is : (r : ShownReply) → is_lack r ≡ true → r ≡ reply.Refused refusal.NoMemory
lack_is (reply.Refused why) is = ap (λ (w : Refusal). let q : ShownReply = reply.Refused w in q) (is_memory why is)
lack_is _ is = absurd cc

-- a refusal because an allocation failed left the desk as it was, and may have come only over a tree
lacked : (c : Config) (w : DeskValue) (calls : List DeskCall) (e : Event) (r : ShownReply) (u : DeskValue) → IsAfterDesk c w calls → may_by desk_rules w e r u → r ≡ reply.Refused refusal.NoMemory → (u ≡ w) × (desk_rules.grows w e ≡ true)
lacked c w calls e r u after (inl is) lack = absurd (not_memory (desk_refusal w e) (other_due w e) ((desk.refusal w e c calls after refusal.NoMemory).0 (sym is.0 ∙ lack)))
lacked c w calls e r u after (inr is) lack = (is.1, is.2)

runs_granted : (c : Config) (w u : DeskValue) (calls : List DeskCall) (ts : List Turn) → IsAfterDesk c w calls → Runs DeskWorldMay w ts u → Runs DeskWorldMay w (granted ts) u
runs_granted c w u calls [] after run = run
runs_granted c w u calls (Answered x ∷ ts) after run =
    let one = desk.goes_on c w calls after x.event x.reply run.0 run.1 in
    let rest = runs_granted c run.0 u (calls ++ one.call ∷ []) ts one.after run.2 in
    elim (is_lack x.reply) as (λ b. is_lack x.reply ≡ b → Runs DeskWorldMay w (cond b (granted ts) (Answered x ∷ granted ts)) u) [
      | true ↦ λ lack. subst (λ (t : DeskValue). Runs DeskWorldMay t (granted ts) u) (lacked c w calls x.event x.reply run.0 after run.1 (lack_is x.reply lack)).0 rest
      | false ↦ λ none. (run.0, run.1, rest)
    ] refl
runs_granted c w u calls (Reported n r ∷ ts) after run =
    (run.0, run.1, runs_granted c run.0 u calls ts (subst (λ (t : DeskValue). IsAfterDesk c t calls) (sym run.1.1) after) run.2)
runs_granted c w u calls (Ended ∷ ts) after run = runs_granted c w u calls ts after run
runs_granted c w u calls (Misread bad ∷ ts) after run = runs_granted c w u calls ts after run

-- over a grid none is refused
grid_grants : (c : Config) (w : DeskValue) (calls : List DeskCall) (e : Event) → c.world ≡ Rename → IsAfterDesk c w calls → desk_rules.grows w e ≡ false
grid_grants c (OverGrid w) calls e is after = refl
grid_grants c (OverTree w) calls e is after = let bad : Rename ≡ Tree = sym is ∙ after.0 in cc

reported_by_test : (b : Bool) (o : Option ℕ) → let reported : ShownReply = cond b (reply.Refused refusal.OutOfRange) (reply.Owner o) in reported ≢ reply.Refused refusal.NoMemory
reported_by_test true o is = cc
reported_by_test false o is = cc

-- who has a name is reported, or the number is out of range
owner_grants : (w : DeskValue) (n : ℕ) → owner_reply w n ≢ reply.Refused refusal.NoMemory
owner_grants (OverGrid w) n is = reported_by_test ((n == 0) || nat_le (2 * w.names.snap.most) n) (owner_by n w.names.rounds) is
owner_grants (OverTree w) n is = reported_by_test ((n == 0) || nat_le (2 * w.names.snap.most) n) (owner_by n w.names.rounds) is

none_refused : (c : Config) (w u : DeskValue) (calls : List DeskCall) (ts : List Turn) → c.world ≡ Rename → IsAfterDesk c w calls → Runs DeskWorldMay w ts u → NoneRefusedGrowth ts
none_refused c w u calls [] is after run = tt
none_refused c w u calls (Answered x ∷ ts) is after run =
    let one = desk.goes_on c w calls after x.event x.reply run.0 run.1 in (
      (λ lack. let bad : true ≡ false = sym (lacked c w calls x.event x.reply run.0 after run.1 lack).1 ∙ grid_grants c w calls x.event is after in cc),
      none_refused c run.0 u (calls ++ one.call ∷ []) ts is one.after run.2,
    )
none_refused c w u calls (Reported n r ∷ ts) is after run = (
  (λ lack. owner_grants w n (sym run.1.0 ∙ lack)),
  none_refused c run.0 u calls ts is (subst (λ (t : DeskValue). IsAfterDesk c t calls) (sym run.1.1) after) run.2,
)
none_refused c w u calls (Ended ∷ ts) is after run = none_refused c w u calls ts is after run
none_refused c w u calls (Misread bad ∷ ts) is after run = none_refused c w u calls ts is after run

-- whoever could run so runs so too where the turns that were refused memory are left out
granted_transcript : (c : Config) (k : WorldKind) → gives_names k ≡ true → (ts : List Turn) → IsDeskTranscript c ts → IsTranscriptByKind k c (granted ts)
granted_transcript c k named ts t =
    desk_transcript c k named t.could.start t.could.last (granted ts) t.could.is_fresh (runs_granted c t.could.start t.could.last [] ts (desk.fresh c t.could.start t.could.is_fresh) t.could.run)

pub left_out : (c : Config) → gives_names c.world ≡ true → (ts : List Turn) → IsTranscriptByKind c.world c ts → IsTranscriptByKind c.world c (granted ts)
left_out c named ts t = granted_transcript c c.world named ts (is_desk_transcript c c.world named ts t)

pub only_tree : (c : Config) → c.world ≡ Rename → (ts : List Turn) → IsTranscriptByKind c.world c ts → NoneRefusedGrowth ts
only_tree c is ts t =
    let transcript = subst (λ (k : WorldKind). IsTranscriptByKind k c ts) is t in
    none_refused c transcript.could.start transcript.could.last [] ts is (desk.fresh c transcript.could.start transcript.could.is_fresh) transcript.could.run
