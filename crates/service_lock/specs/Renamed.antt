-- what `rename` adds to a session's list
use Rattle.std.specs.Prelude.{◌≡◌, ℕ, ◌+◌, ◌<◌, ◌≤◌, ◌⊎◌, ⊤, List, [], ◌∷◌, ◌++◌, length, true, All, Option, Some, None, Result, Ok, Err}
use mathlib.Core.List.{IsPrefix}
use Rattle.model_steps.specs.declared.refusal.Refusal.{Refusal}
use Rattle.model_steps.specs.declared.refusal.Refusal.TheVariants as refusal
use Rattle.model_asked.specs.Config.{is_tree}
use Rattle.model_asked.specs.declared.config.Config.{Config}
use Rattle.model_asked.specs.declared.event.Event.TheVariants.{Step}
use Rattle.model_asked.specs.Replies.{ShownReply}
use Rattle.model_asked.specs.declared.reply.Reply.TheVariants as reply
use Rattle.model_renaming.specs.Ends.{steps_among}
use Rattle.text_worlds.specs.desk.DeskRun.{desk_bounds}
use Rattle.text_worlds.specs.desk.NamedAmong.{goes_on}
use Rattle.service_lock.specs.declared.kept.Kept.{Kept}
use Rattle.service_lock.specs.CallerState.{CallerState}
use Rattle.service_lock.specs.Kepts.{IsTaken, IsSound}

-- in so many turns a session is named, spent or refused, where at most b have begun
abbrev pub turns_among : Config → ℕ → ℕ
turns_among c b = steps_among (desk_bounds (is_tree c.world) c.m) b

-- a step of this identity after which it went on
pub record IsPlainStep (id : ℕ) (k : Kept) : Type 0 where
  pub event : k.exchange.event ≡ Step id
  pub plain : goes_on k.exchange.reply ≡ true

-- the places of these rise, each above those of all before it
abbrev pub AreAbove : List Kept → List Kept → Type 0
AreAbove before [] = ⊤
AreAbove before (k ∷ ks) = All (λ j. j.place < k.place) before × AreAbove (before ++ k ∷ []) ks

-- So many such steps were added, at places that rise. What was seen is a prefix of what is seen now, and is a lawful history, in which all that was kept stands
-- at its place, where it was one before: so each reply is the one that was due there
pub record IsStepped (c : Config) (id count : ℕ) (s t : CallerState) : Type 0 where
  pub added : List Kept
  pub longer : t.kept ≡ s.kept ++ added
  pub counted : length added ≡ count
  pub plain : All (IsPlainStep id) added
  pub rising : AreAbove s.kept added
  pub seen : IsPrefix s.seen t.seen
  pub sound : IsSound c s → IsSound c t

-- fewer than so many were added, and then a step that was answered so
pub record EndsWith (c : Config) (id turns : ℕ) (s : CallerState) (r : ShownReply) (t : CallerState) : Type 0 where
  pub count : ℕ
  pub mid : CallerState
  pub fewer : count + 1 ≤ turns
  pub stepped : IsStepped c id count s mid
  pub last : IsTaken c mid (Step id) r t

-- the last step named the participant so
pub record EndsNamed (c : Config) (id turns : ℕ) (s : CallerState) (name : ℕ) (t : CallerState) : Type 0 where
  pub view : List (ℕ × ℕ)
  pub ends : EndsWith c id turns s (reply.Named name view) t

-- the last step left the participant spent
pub record EndsSpent (c : Config) (id turns : ℕ) (s : CallerState) (why : Refusal) (t : CallerState) : Type 0 where
  pub why_is : why ≡ refusal.Spent
  pub ends : EndsWith c id turns s reply.Spent t

-- what a call adds, by its outcome: all its turns; or some and then the step that named, spent or was refused
abbrev pub IsRenamed : Config → ℕ → ℕ → CallerState → Result (Option ℕ) Refusal → CallerState → Type 0
IsRenamed c id turns s (Ok None) t = IsStepped c id turns s t
IsRenamed c id turns s (Ok (Some name)) t = EndsNamed c id turns s name t
IsRenamed c id turns s (Err why) t = EndsWith c id turns s (reply.Refused why) t ⊎ EndsSpent c id turns s why t
