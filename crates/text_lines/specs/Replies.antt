-- the texts of replies (this project's profile)
use Rattle.std.specs.Prelude.{ℕ, List, [], ◌∷◌, ◌++◌, Option, Some, None, Result, Ok, Err, codes, decimal}
use Rattle.model_steps.specs.Refusal.{refusal_number}
use Rattle.model_asked.specs.declared.bad.Bad.{Bad}
use Rattle.model_asked.specs.Replies.{ShownReply}
use Rattle.model_asked.specs.declared.reply.Reply.TheVariants as reply
use Rattle.model_asked.specs.Bad.{bad_number}

-- a pair of a view: its identity and its number
abbrev pub pair_word : ℕ × ℕ → List ℕ
pair_word pair = decimal pair.0 ++ codes ":" ++ decimal pair.1

-- the same, after a space
abbrev pub pair_text : ℕ × ℕ → List ℕ
pair_text pair = codes " " ++ pair_word pair

abbrev pub pair_words : List (ℕ × ℕ) → List ℕ
pair_words [] = []
pair_words (pair ∷ more) = pair_text pair ++ pair_words more

-- the pairs of a view, with a space between them
abbrev pub view_words : List (ℕ × ℕ) → List ℕ
view_words [] = []
view_words (pair ∷ more) = pair_word pair ++ pair_words more

-- who has a name
abbrev pub owner_words : Option ℕ → List ℕ
owner_words None = codes "owner none"
owner_words (Some id) = codes "owner " ++ decimal id

-- the words of a reply; numbers are plain decimal
abbrev pub reply_words : ShownReply → List ℕ
reply_words reply.Ok = codes "ok"
reply_words reply.Quiet = codes "quiet"
reply_words reply.Stop = codes "stop"
reply_words reply.Right = codes "right"
reply_words reply.Down = codes "down"
reply_words (reply.Place place) = codes "place " ++ decimal place
reply_words (reply.Proposed number) = codes "proposed " ++ decimal number
reply_words (reply.Saw view) = codes "saw" ++ pair_words view
reply_words (reply.Named name view) = codes "named " ++ decimal name
reply_words reply.Spent = codes "spent"
reply_words reply.Missed = codes "missed"
reply_words (reply.Got number) = codes "got " ++ decimal number
reply_words (reply.Left number) = codes "left " ++ decimal number
reply_words (reply.Value value) = codes "value " ++ decimal value
reply_words (reply.Owner owner) = owner_words owner
reply_words (reply.Refused refusal) = codes "refused " ++ decimal (refusal_number refusal)

-- each reply is one line
abbrev pub reply_text : ShownReply → List ℕ
reply_text r = reply_words r ++ 10 ∷ []

-- and so is the answer to a bad line
abbrev pub bad_text : Bad → List ℕ
bad_text bad = codes "bad " ++ decimal (bad_number bad) ++ 10 ∷ []

-- the text of the answer to a line: the reply to its command, or why it is bad
abbrev pub answer_text : Result ShownReply Bad → List ℕ
answer_text (Ok r) = reply_text r
answer_text (Err bad) = bad_text bad
