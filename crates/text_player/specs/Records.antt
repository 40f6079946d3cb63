-- records (this project's profile), version 2: a line of JSON for the config, and one for each event with its reply
use Rattle.std.specs.Prelude.{ℕ, List, [], ◌++◌, flat_map, codes, decimal}
use Rattle.model_asked.specs.Config.{world_name}
use Rattle.model_asked.specs.declared.exchange.Exchange.{Exchange}
use Rattle.model_asked.specs.Replies.{ShownReply}
use Rattle.model_asked.specs.declared.reply.Reply.TheVariants as reply
use Rattle.model_asked.specs.declared.config.Config.{Config}
use Rattle.text_lines.specs.Events.{event_words}
use Rattle.text_lines.specs.Replies.{reply_words, view_words}
use Rattle.text_player.specs.Turns.{Turn}
use Rattle.text_player.specs.Turns.Turn.{Answered}

-- the first line: the config, its keys in rising order
abbrev pub header_line : Config → List ℕ
header_line c =
    codes "{\"format\":\"slot-record\",\"k\":" ++ decimal c.k ++ codes ",\"limit\":" ++ decimal c.limit ++ codes ",\"m\":" ++ decimal c.m
    ++ codes ",\"version\":2,\"world\":\"" ++ world_name c.world ++ codes "\"}\n"

-- after a name, and after no other reply, the view by which it was given
abbrev pub name_view : ShownReply → List ℕ
name_view (reply.Named name view) = codes ",\"view\":\"" ++ view_words view ++ codes "\""
name_view r = []

-- what follows the words of an event in its line
abbrev pub replied : ShownReply → List ℕ
replied r = codes "\",\"reply\":\"" ++ reply_words r ++ codes "\"" ++ name_view r ++ codes "}\n"

-- the line of an event and its reply; no word of either needs an escape
abbrev pub exchange_line : Exchange → List ℕ
exchange_line x =
    codes "{\"command\":\"" ++ event_words x.event ++ codes "\",\"reply\":\"" ++ reply_words x.reply ++ codes "\"" ++ name_view x.reply ++ codes "}\n"

-- the record of a turn: an event with its reply, which may be a refusal, and nothing for another turn
abbrev pub turn_record : Turn → List ℕ
turn_record (Answered x) = exchange_line x
turn_record t = []

-- the record of turns
abbrev pub record_of : Config → List Turn → List ℕ
record_of config turns = header_line config ++ flat_map turn_record turns
