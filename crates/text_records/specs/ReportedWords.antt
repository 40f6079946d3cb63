-- the words of what is reported of a reply
use Rattle.std.specs.Prelude.{ℕ, List, ◌++◌, codes, decimal}
use Rattle.text_lines.specs.Replies.{owner_words, pair_words}
use Rattle.text_records.specs.declared.reported.Reported.{Reported}
use Rattle.text_records.specs.declared.reported.Reported.TheVariants.{Ok as Accepted, Quiet, Stop, Right, Down, Place, Proposed, Saw, Named, Spent, Missed, Got, Left, Value, Owner, Refused}

-- those of each reply of which this is reported; the view by which a name was given is none of them
abbrev pub reported_words : Reported → List ℕ
reported_words Accepted = codes "ok"
reported_words Quiet = codes "quiet"
reported_words Stop = codes "stop"
reported_words Right = codes "right"
reported_words Down = codes "down"
reported_words (Place place) = codes "place " ++ decimal place
reported_words (Proposed number) = codes "proposed " ++ decimal number
reported_words (Saw view) = codes "saw" ++ pair_words view
reported_words (Named name shown) = codes "named " ++ decimal name
reported_words Spent = codes "spent"
reported_words Missed = codes "missed"
reported_words (Got number) = codes "got " ++ decimal number
reported_words (Left number) = codes "left " ++ decimal number
reported_words (Value value) = codes "value " ++ decimal value
reported_words (Owner owner) = owner_words owner
reported_words (Refused number) = codes "refused " ++ decimal number
