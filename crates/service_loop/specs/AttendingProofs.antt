-- what an attended service may answer
use Rattle.std.specs.Prelude.{true, ◌+◌, ◌++◌, ◌∷◌, [], Option, Some, None}
use Rattle.std.proofs.Common.{refl, inl, arith}
use Rattle.model_asked.specs.Replies.{ShownReply}
use Rattle.model_asked.specs.Requests.{Request}
use Rattle.service_loop.specs.declared.attended.Attended.{Attended}
use Rattle.service_loop.specs.Attending.{AttendedMay}
use Rattle.service_loop.specs.Changes.{change_by, GoesOnBy}
use Rattle.service_loop.specs.FeedState.{FeedState}
use Rattle.service_loop.specs.declared.change.Change.{Change}

-- a change comes behind the others
comes : (f : FeedState) (c : Option Change) → (g : FeedState) × GoesOnBy c f g
comes f None = (f, refl)
comes f (Some c) = (record { first = f.first + 0; changes = f.changes ++ c ∷ [] }, inl (record { count = 0; inside = omega arith; left = refl; first_is = refl }))

module _ {D : Type 0} (may : D → Request → ShownReply → D → Type 0) where
  -- as the service does, where an allocation failed
  pub attended_answers : (w : Attended D) (q : Request) → (r : ShownReply) × (u : D) × may w.service q r u → (r : ShownReply) × (u : Attended D) × AttendedMay may w q r u
  attended_answers w q a =
      let on = comes w.changes (change_by q a.0) in
      (a.0, record w { service = a.1; lacks = true; changes = on.0 }, (a.2, record { keeps_is = refl; stays_are = λ no. absurd (cc no) }, refl, on.1))
