-- no call changes the most participants, nor the round limit
use Rattle.std.proofs.Common.{◌≡◌, ℕ, true, false, cond, List, [], ◌∷◌, Option, Some, None, Result, Ok, Err, refl, ap, ◌∙◌}
use Rattle.model_renaming.proofs.Common.{Refusal, Call, lacked_memory, Began, Stepped, program_of, Run, begin_refusal, SnapReply, StepReply, Round, KnownPlaces, RenameState, begun_unless, has_place, after_reported, after_open, after_by, after_rename_step, snap_reported, stage_refusal, followed, first_wish}
use Rattle.model_renaming.specs.Machine.{next, IsReply, KeepsSizes}
use Rattle.model_renaming.proofs.rounds.StepCases.{begun_large, step_large}

module _ {S R V U K : Type 0} (W : KnownPlaces S R V U K) (w : RenameState S U K) (p : ℕ) where
  -- there is room for as many, each with as many proposals
  abbrev IsSized : RenameState S U K → Type 0
  IsSized new = (new.snap.most ≡ w.snap.most) × (new.limit ≡ w.limit)

  reported_sized : (r : Round) (reported : Result SnapReply Refusal) → IsSized (after_reported W w p r reported)
  reported_sized r (Ok reply) = ((step_large W w p (followed r p reply w.limit).wish).most, refl)
  reported_sized r (Err why) = (refl, refl)

  open_sized : (r : Round) (why : Option Refusal) → IsSized (after_open W w p r why)
  open_sized r None = reported_sized r (snap_reported W w p)
  open_sized r (Some why) = (refl, refl)

  by_sized : (o : Option Round) → IsSized (after_by W w p o)
  by_sized None = (refl, refl)
  by_sized (Some r) = open_sized r (stage_refusal r.stage)

  begun_sized : (why : Option Refusal) → begin_refusal w.snap p ≡ why → IsSized (begun_unless W why w p)
  begun_sized None e = ((begun_large W w p (first_wish (has_place W w p)) e).most, refl)
  begun_sized (Some why) e = (refl, refl)

module _ {S R V U K : Type 0} (W : KnownPlaces S R V U K) where
  pub next_sized : (w : RenameState S U K) (h : Call StepReply) → KeepsSizes W w h
  next_sized w (Began p reply) = begun_sized W w p (begin_refusal w.snap p) refl
  next_sized w (Stepped p reply) = elim (lacked_memory reply) as (λ b. IsSized W w p (cond b w (after_rename_step W w p))) [ true ↦ (refl, refl) | false ↦ by_sized W w p (program_of p w.rounds) ]

  pub most_after : (w : RenameState S U K) (r : List (Call StepReply)) (new : RenameState S U K) → Run (next W) (IsReply W) w r new → new.snap.most ≡ w.snap.most
  most_after w [] new a = ap (λ (x : RenameState S U K). x.snap.most) a
  most_after w (h ∷ r) new a = most_after (next W w h) r new a.1 ∙ (next_sized w h).0
