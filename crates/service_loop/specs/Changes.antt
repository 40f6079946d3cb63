-- changes of who holds numbers, each at a point: how many there were before it
use Rattle.std.specs.Prelude.{◌≡◌, ◌⊎◌, ◌≤◌, ◌+◌, ◌-◌, ◌||◌, ◌++◌, ◌∷◌, ℕ, suc, ltb, if◌then◌else◌, List, [], length, drop, Option, Some, None}
use Rattle.model_asked.specs.declared.event.Event.{Event}
use Rattle.model_asked.specs.declared.event.Event.TheVariants as event
use Rattle.model_asked.specs.declared.reply.Reply.{Reply}
use Rattle.model_asked.specs.declared.reply.Reply.TheVariants as reply
use Rattle.model_asked.specs.Replies.{ShownReply}
use Rattle.model_asked.specs.Requests.{Request}
use Rattle.model_asked.specs.Requests.Request.{Take, OwnerOf}
use Rattle.service_loop.specs.FeedState.{FeedState}
use Rattle.service_loop.specs.declared.change.Change.{Change}
use Rattle.service_loop.specs.declared.change.Change.TheVariants as change
use Rattle.service_loop.specs.declared.feed.TheConstants.{MOST_POINTS}

-- whose event it is; of `widen` the size
abbrev pub identity_of : Event → ℕ
identity_of (event.Begin id) = id
identity_of (event.Step id) = id
identity_of (event.Enter id) = id
identity_of (event.Probe id) = id
identity_of (event.Seek id) = id
identity_of (event.Leave id) = id
identity_of (event.Put id value) = id
identity_of (event.Get id) = id
identity_of (event.Widen size) = size

-- what an event that was answered so changes of who holds numbers
abbrev pub change_of : {V : Type 0} → Event → Reply V → Option Change
change_of e (reply.Got number) = Some (change.Got number (identity_of e))
change_of e (reply.Left number) = Some (change.Left number (identity_of e))
change_of e _ = None

abbrev pub change_by : Request → ShownReply → Option Change
change_by (Take e) r = change_of e r
change_by (OwnerOf n) r = None

-- the point at which the changes end
abbrev pub end_of : FeedState → ℕ
end_of f = f.first + length f.changes

-- the changes from a point on; none where some of them are forgotten, or it is behind their end
abbrev pub changes_from : FeedState → ℕ → Option (List Change)
changes_from f point = if ltb point f.first || ltb (end_of f) point then None else Some (drop (point - f.first) f.changes)

-- a change comes behind the others. Some of the first may be forgotten, and it too: each that is left stands at its point
pub record ComesBehind (f : FeedState) (c : Change) (g : FeedState) : Type 0 where
  pub count : ℕ
  pub inside : count ≤ suc (length f.changes)
  pub left : g.changes ≡ drop count (f.changes ++ c ∷ [])
  pub first_is : g.first ≡ f.first + count

-- that holds until there is no number for one point more
abbrev pub IsNoted : Change → FeedState → FeedState → Type 0
IsNoted c f g = ComesBehind f c g ⊎ ((end_of f ≡ MOST_POINTS) × (g ≡ f))

-- a change is noted, if there is one
abbrev pub GoesOnBy : Option Change → FeedState → FeedState → Type 0
GoesOnBy None f g = g ≡ f
GoesOnBy (Some c) f g = IsNoted c f g
