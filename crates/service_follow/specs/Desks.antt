-- what the entries of a log do to the desk of a hall of which all is known
use Rattle.std.specs.Prelude.{◌≡◌, ◌≤◌, ℕ, Bool, true, false, List, [], filter, length}
use Rattle.service_hall.specs.Compactions.{renaming_of}
use Rattle.service_hall.specs.Halls.{desk_of}
use Rattle.service_follow.specs.ReplyQueueState.{ReplyQueueState}
use Rattle.service_follow.specs.Marks.{mark_of}
use Rattle.service_follow.specs.Said.{reply_queue_of}
use Rattle.service_follow.specs.Stays.{TakesLines}
use Rattle.service_follow.specs.StayState.{StayState}
use Rattle.service_follow.specs.declared.marks.Mark.{Mark}
use Rattle.service_follow.specs.declared.marks.Mark.TheVariants.{Ordinary, Begins, GoesOn, Ends}

-- The desk of one hall is that of the other, and so who keeps its stays. The exchanges of renaming are the same, and there is no less room. All is
-- known of both, or of none
pub record HasItsDesk (w u : StayState) : Type 0 where
  pub config : u.hall.config ≡ w.hall.config
  pub desk : desk_of u.hall ≡ desk_of w.hall
  pub renaming : renaming_of u.hall.history ≡ renaming_of w.hall.history
  pub room : length u.hall.history ≤ length w.hall.history
  pub kept : u.kept ≡ w.kept
  pub entries : u.entries ≡ w.entries
  pub blind : u.blind ≡ w.blind

-- nothing was said, and the desk is as it was
pub record LeavesDesk (w : StayState) (reply_queue : ReplyQueueState) (u : StayState) : Type 0 where
  pub silent : reply_queue ≡ reply_queue_of []
  pub same : HasItsDesk w u

-- lines of commands are answered by the hall, and an entry of a compaction leaves the desk as it was
abbrev pub ByDesk : Mark → StayState → List ℕ → ReplyQueueState → StayState → Type 0
ByDesk Ordinary w entry reply_queue u = TakesLines w entry reply_queue u
ByDesk Begins w entry reply_queue u = LeavesDesk w reply_queue u
ByDesk GoesOn w entry reply_queue u = LeavesDesk w reply_queue u
ByDesk Ends w entry reply_queue u = LeavesDesk w reply_queue u

-- the entries of a log without those of compactions
abbrev pub is_lines : Mark → Bool
is_lines Ordinary = true
is_lines Begins = false
is_lines GoesOn = false
is_lines Ends = false

abbrev pub lines_in : List (List ℕ) → List (List ℕ)
lines_in entries = filter (λ entry. is_lines (mark_of entry)) entries
