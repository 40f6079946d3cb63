-- the text of turns as replies: the reply to each
use Rattle.std.specs.Prelude.{ℕ, List, flat_map}
use Rattle.text_lines.specs.Replies.{answer_text}
use Rattle.text_player.specs.Turns.{Turn, answer_of}

-- the text of the answer to a turn
abbrev pub turn_reply : Turn → List ℕ
turn_reply turn = answer_text (answer_of turn)

-- the joined texts
abbrev pub replies_of : List Turn → List ℕ
replies_of turns = flat_map turn_reply turns
