-- how much there is of a hall, as whoever looks on is told
use Rattle.std.specs.Prelude.{◌≡◌, ◌-◌, ◌*◌, ℕ, Bool, false, Option, Some, IfSome, is_some, length, count_by}
use Rattle.std.specs.List.{range_with_len}
use Rattle.model_asked.specs.Replies.{ShownReply}
use Rattle.model_asked.specs.declared.reply.Reply.TheVariants.{Owner}
use Rattle.model_pool.specs.Stay.{held_at}
use Rattle.model_pool.specs.declared.competitor.Competitor.{Competitor}
use Rattle.text_worlds.specs.desk.Desk.{owner_reply}
use Rattle.text_worlds.specs.desk.Held.{slots_of}
use Rattle.service_hall.specs.HallState.{HallState}
use Rattle.service_hall.specs.Halls.{desk_of}

-- a competitor holds a number
abbrev pub holds_one : Competitor → Bool
holds_one c = is_some (held_at c.stay)

-- how many numbers of the pool nobody holds
abbrev pub numbers_free : HallState → ℕ
numbers_free h = (slots_of (desk_of h)).pool.size - count_by holds_one (slots_of (desk_of h)).pool.competitors

-- a reply tells of an owner
abbrev pub is_owned : ShownReply → Bool
is_owned (Owner owner) = is_some owner
is_owned other = false

-- how many names somebody has, of those from 1 to 2m - 1
abbrev pub names_given : HallState → ℕ
names_given h = count_by (λ n. is_owned (owner_reply (desk_of h) n)) (range_with_len 1 (2 * h.config.m - 1))

-- What is told of a hall is so: how many events it has, and how many more it takes of 1,000,000; how many compete; how many numbers nobody holds, where
-- no allocation failed; and how many names are given
pub record IsTallyOf (h : HallState) (events : ℕ) (events_left competitors free names : Option ℕ) : Type 0 where
  pub events_are : events ≡ length h.history
  pub left_are : events_left ≡ Some (1000000 - length h.history)
  pub competitors_are : competitors ≡ Some (length (slots_of (desk_of h)).pool.competitors)
  pub free_are : IfSome free (λ n. n ≡ numbers_free h)
  pub names_are : names ≡ Some (names_given h)
