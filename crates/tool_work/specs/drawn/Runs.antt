-- runs of drawn schedules, and what is reported of them
use Rattle.std.specs.Prelude.{◌≡◌, ◌≢◌, ℕ, ◌+◌, ◌%◌, ◌^◌, ◌<◌, ◌≤◌, List, [], ◌∷◌, ◌++◌, map, length, codes, decimal, slice_index_or, ◌⊎◌, Option, IfSome, Result, true, Err, IfErr, OnOk, OnErr}
use Rattle.std.specs.Io.KnownBytes.{Appends}
use Rattle.model_steps.specs.declared.refusal.Refusal.TheVariants as refusal
use Rattle.model_asked.specs.Config.{gives_names}
use Rattle.model_asked.specs.declared.config.Config.{Config}
use Rattle.model_asked.specs.declared.event.Event.{Event}
use Rattle.model_asked.specs.declared.exchange.Exchange.{Exchange}
use Rattle.model_asked.specs.declared.reply.Reply.TheVariants as reply
use Rattle.text_player.specs.Played.{Writing}
use Rattle.text_worlds.specs.desk.Desk.{IsAfterDesk}
use Rattle.text_worlds.specs.desk.DeskCalls.{DeskCall, exchange_of}
use Rattle.text_worlds.specs.desk.DeskRun.{IsDeskRunOf}
use Rattle.text_worlds.specs.desk.DeskValue.{DeskValue}
use Rattle.text_worlds.specs.desk.Names.{begun_in}
use Rattle.tool_work.specs.declared.drawn.tally.Tally.{Tally}
use Rattle.tool_work.specs.drawn.Schedule.{schedule}
use Rattle.tool_work.specs.drawn.Tally.{IsTallyOf, how_many, is_named, is_spent}
use Rattle.text_lines.specs.Written.{HasPartOf}
use Rattle.text_lines.specs.declared.fault.Fault.{Fault}
use Rattle.text_lines.specs.declared.fault.Fault.TheVariants.{Write, Memory}

-- no growth was refused
abbrev pub IsAmple : List Exchange → Type 0
IsAmple [] = Unit {0}
IsAmple (x ∷ r) = (x.reply ≢ reply.Refused refusal.NoMemory) × IsAmple r

-- a desk of this config has answered these events so far, by these exchanges, whose numbers these are
pub record HasPlayed (config : Config) (events : List Event) (w : DeskValue) (t : Tally) : Type 0 where
  pub calls : List DeskCall
  pub after : IsAfterDesk config w calls
  pub asked : map (λ x. x.event) (map exchange_of calls) ≡ events
  pub ample : IsAmple (map exchange_of calls)
  pub tally : IsTallyOf (map exchange_of calls) t

-- wherever some of these events were to come, others are to come now
abbrev pub PlaysFrom : List Event → DeskValue → Tally → List Event → DeskValue → Tally → Type 0
PlaysFrom this w t that w' t' = (config : Config) (done all rest : List Event) → HasPlayed config done w t → done ++ (this ++ rest) ≡ all →
    (done' : List Event) × HasPlayed config done' w' t' × (done' ++ (that ++ rest) ≡ all)

-- a run of the schedule of a seed, as the desk of this config makes it where no growth is refused
pub record IsDrawnRun (config : Config) (seed ids n : ℕ) (r : List Exchange) : Type 0 where
  pub run : IsDeskRunOf config r
  pub asked : map (λ x. x.event) r ≡ schedule seed ids n
  pub ample : IsAmple r
  pub last : DeskValue
  pub calls : List DeskCall
  pub spelled : map exchange_of calls ≡ r
  pub after : IsAfterDesk config last calls

-- these are the numbers of the run of this number; none says nothing of it
abbrev pub IsReportedOf : Config → ℕ → ℕ → ℕ → ℕ → Option Tally → Type 0
IsReportedOf config seed ids n j reported = IfSome reported (λ t. (r : List Exchange) × IsDrawnRun config ((seed + j) % 2 ^ 64) ids n r × IsTallyOf r t)

-- and these, of the runs from number 0 on
abbrev pub AreReported : Config → ℕ → ℕ → ℕ → List (Option Tally) → Type 0
AreReported config seed ids n tallies = (i : ℕ) (d : Option Tally) → i < length tallies → IsReportedOf config seed ids n i (slice_index_or tallies i d)

-- the line of a run: its number, and how many have begun, were named and were spent
abbrev pub numbers_line : ℕ → ℕ → ℕ → ℕ → List ℕ
numbers_line j begun named spent =
    ((codes "run " ++ decimal j) ++ (codes " begun " ++ decimal begun)) ++ ((codes " named " ++ decimal named) ++ (codes " spent " ++ decimal spent)) ++ 10 ∷ []

abbrev pub run_line : ℕ → List Exchange → List ℕ
run_line j r = numbers_line j (begun_in r) (how_many is_named r) (how_many is_spent r)

-- the runs from number j on are those of the seeds from `seed + j` on
abbrev pub AreDrawnRuns : Config → ℕ → ℕ → ℕ → ℕ → List (List Exchange) → Type 0
AreDrawnRuns config seed ids n j [] = Unit {0}
AreDrawnRuns config seed ids n j (r ∷ rs) = IsDrawnRun config ((seed + j) % 2 ^ 64) ids n r × AreDrawnRuns config seed ids n (j + 1) rs

-- their lines
abbrev pub run_lines : ℕ → List (List Exchange) → List ℕ
run_lines j [] = []
run_lines j (r ∷ rs) = run_line j r ++ run_lines (j + 1) rs

-- so many runs were made, and this is so of the text of their lines
pub record HasDrawn (config : Config) (seed ids n count : ℕ) (Reported : List ℕ → Type 0) : Type 0 where
  pub runs : List (List Exchange)
  pub drawn : AreDrawnRuns config seed ids n 0 runs
  pub count_is : length runs ≡ count
  pub reported : Reported (run_lines 0 runs)

-- at most so many runs were made, of whose lines the writer has gained a prefix
abbrev pub HasDrawnPart : Config → ℕ → ℕ → ℕ → ℕ → Option (List ℕ) → Option (List ℕ) → Type 0
HasDrawnPart config seed ids n most before now = (count : ℕ) × (count ≤ most) × HasDrawn config seed ids n count (HasPartOf before now)

-- so a result tells of the writes, of which so many had failed before and so many have now: one failed, or an allocation and none, or all went
-- well
pub record TellsWrites (before now : ℕ) (result : Result (Unit {0}) Fault) : Type 0 where
  pub only : IfErr result (λ fault. (fault ≡ Write) ⊎ (fault ≡ Memory))
  pub failed : result ≡ Err Write → before < now
  pub memory : result ≡ Err Memory → now ≡ before
  pub unfailed : OnOk result (now ≡ before)

-- schedules of so many steps may be played over this config: it gives names, no count of calls overflows, and the writer's count of calls is one of 64 bits
pub record MayBeDrawn (config : Config) (n calls : ℕ) : Type 0 where
  pub names : gives_names config.world ≡ true
  pub steps : n + 64 < 2 ^ 64
  pub writes : calls < 2 ^ 64

-- Lines of so many runs were written: of all of them, where all went well. At a fault the writer has gained a prefix of the lines of the first of them. The
-- result tells of the writes
pub record HasDrawnInto {W : Type 0} (config : Config) (seed ids n count : ℕ) (writing : Writing W) (result : Result (Unit {0}) Fault) : Type 0 where
  pub ok : OnOk result (HasDrawn config seed ids n count (Appends (writing.contents writing.old) (writing.contents writing.new)))
  pub part : OnErr result (HasDrawnPart config seed ids n count (writing.contents writing.old) (writing.contents writing.new))
  pub told : TellsWrites (writing.failed writing.old) (writing.failed writing.new) result
