-- a step of a participant whose round goes on, by the reply of the snapshot object
use Rattle.std.specs.Prelude.{◌≡◌, ◌≢◌, ℕ, true, ◌⊎◌, List, Result, Ok, Err}
use Rattle.model_steps.specs.declared.participant.Participant.{Participant}
use Rattle.model_steps.specs.declared.refusal.Refusal.{Refusal}
use Rattle.model_steps.specs.declared.refusal.Refusal.TheVariants.{NoMemory}
use Rattle.model_steps.specs.Participant.{beginner}
use Rattle.model_snapshot.specs.declared.client.SnapReply.{SnapReply}
use Rattle.model_snapshot.specs.Places.{KnownPlaces}
use Rattle.model_snapshot.specs.SnapWorld.{SnapState, snap_answer, after_snap_step, may_lack_memory}
use Rattle.model_renaming.specs.declared.reply.Reply.{Reply}
use Rattle.model_renaming.specs.declared.round.Round.{Round}
use Rattle.model_renaming.specs.RenameWorld.{after_wish}
use Rattle.model_renaming.specs.Reply.{with_view}
use Rattle.model_renaming.specs.Round.{followed}

abbrev pub snap_err : Refusal → Result SnapReply Refusal
snap_err why = Err why

module _ {S R V U K : Type 0} (W : KnownPlaces S R V U K) (snap new : SnapState S U K) (v u : Participant Round) (limit : ℕ) (result : Result (Reply (Unit {0})) Refusal) (view : List (ℕ × ℕ)) where
  -- the object gave this reply, and the step's reply, its next request and the new round follow from it
  pub record HasFollowed (reported : SnapReply) : Type 0 where
    pub is_reported : Ok reported ≡ snap_answer W snap v.identity
    pub reply : Reply (Unit {0})
    pub result_is : result ≡ Ok reply
    pub reply_is : with_view reply view ≡ (followed v.program v.identity reported limit).reply
    pub asked : new ≡ after_wish (after_snap_step W snap v.identity) v.identity (followed v.program v.identity reported limit).wish
    pub round : u ≡ beginner v.identity (followed v.program v.identity reported limit).round

  -- the object refused the step, and nothing has changed
  pub record WasRefused (why : Refusal) : Type 0 where
    pub result_is : result ≡ Err why
    pub kept : new ≡ snap
    pub same : u ≡ v
    pub is_reported : snap_err why ≢ snap_err NoMemory → snap_err why ≡ snap_answer W snap v.identity
    pub lacks : snap_err why ≡ snap_err NoMemory → may_lack_memory W snap v.identity ≡ true

  abbrev pub IsTaken : Type 0
  IsTaken = ((reported : SnapReply) × HasFollowed reported) ⊎ ((why : Refusal) × WasRefused why)
