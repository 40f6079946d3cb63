-- how a hall gets more numbers before it is served
use Rattle.std.specs.Prelude.{◌≡◌, ◌<◌, ℕ, List, [], ◌∷◌, ◌++◌}
use Rattle.model_asked.specs.declared.event.Event.TheVariants.{Widen}
use Rattle.model_asked.specs.declared.reply.Reply.{Reply}
use Rattle.model_asked.specs.declared.reply.Reply.TheVariants as reply
use Rattle.model_asked.specs.Replies.{ShownReply, with_view}
use Rattle.model_asked.specs.Requests.{Request}
use Rattle.model_asked.specs.Requests.Request.{Take}
use Rattle.text_lines.specs.Events.{event_words}
use Rattle.text_worlds.specs.desk.DeskCalls.{exchange}
use Rattle.text_worlds.specs.desk.Held.{slots_of}
use Rattle.service_hall.specs.HallState.{HallState}
use Rattle.service_hall.specs.Halls.{desk_of}
use Rattle.service_host.specs.Sizes.{size_of}

-- the line that asks for so many numbers
abbrev pub widen_line : ℕ → List ℕ
widen_line size = event_words (Widen size) ++ 10 ∷ []

-- A service was asked for so many numbers, as a client asks: the persister prefetched the answer to this line, the service answered, and the persister kept what
-- it told
pub record IsAskedFor {K D : Type 0} (prefetches : K → D → List ℕ → K → D → Type 0) (may : D → Request → ShownReply → D → Type 0) (persists : K → D → K → D → Type 0)
    (size : ℕ) (line : List ℕ) (k : K) (w : D) (answer : Reply (Unit {0})) (l : K) (u : D) : Type 0 where
  pub mid : K
  pub known : D
  pub told : D
  pub view : List (ℕ × ℕ)
  pub prefetched : prefetches k w line mid known
  pub answered : may known (Take (Widen size)) (with_view answer view) told
  pub kept : persists mid told l u

-- A hall has just so many numbers, which are more than before. Its history has gained `widen`, and who competes is as before, with the numbers that are held
pub record IsWider (h : HallState) (size : ℕ) (u : HallState) : Type 0 where
  pub now : size_of u ≡ size
  pub more : size_of h < size
  pub config : u.config ≡ h.config
  pub history : u.history ≡ h.history ++ exchange (Widen size) reply.Ok ∷ []
  pub competitors : (slots_of (desk_of u)).pool.competitors ≡ (slots_of (desk_of h)).pool.competitors
