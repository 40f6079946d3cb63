-- all that a desk holds, as a page tells it (this project's profile)
use Rattle.std.specs.Prelude.{ℕ, zero, suc, List, [], ◌++◌, flat_map, get_or, if◌then◌else◌, is_some, length, Option, Some, None, codes, decimal}
use Rattle.model_pool.specs.declared.competitor.Competitor.{Competitor}
use Rattle.model_asked.specs.Replies.{ShownReply}
use Rattle.model_asked.specs.declared.reply.Reply.TheVariants as reply
use Rattle.text_worlds.specs.desk.Coming.{coming_of}
use Rattle.text_worlds.specs.desk.Desk.{owner_reply}
use Rattle.text_worlds.specs.desk.DeskValue.{DeskValue}
use Rattle.text_worlds.specs.desk.Held.{held_in, slots_of}
use Rattle.text_worlds.specs.declared.desk.coming.Register.{Register}
use Rattle.text_worlds.specs.declared.desk.coming.Register.TheVariants.{X, Y, Mark, Segment}
use Rattle.tool_work.specs.declared.page.form.Form.{Form}
use Rattle.tool_work.specs.declared.page.state.TheConstants.{MOST_NAMES}
use Rattle.tool_work.specs.page.Access.{register_words}
use Rattle.tool_work.specs.page.Form.{begin_of, colon_of, end_of, fact}
use Rattle.tool_work.specs.page.Standing.{standing_on, standing_words}

-- ---- the participants, and who competes for the pool without having begun

abbrev pub person : Form → DeskValue → ℕ → List ℕ
person f w p = begin_of f ++ decimal p ++ colon_of f ++ standing_words f (standing_on w p) ++ end_of f

abbrev pub stranger : Form → DeskValue → Competitor → List ℕ
stranger f w c = if is_some (coming_of w c.identity) then [] else person f w c.identity

-- ---- the registers of splitters and the segments

abbrev pub fact_unless_none : Form → Register → Option ℕ → List ℕ
fact_unless_none f r None = []
fact_unless_none f r (Some word) = fact f (register_words r) (decimal word)

abbrev pub held_fact : Form → DeskValue → Register → List ℕ
held_fact f w r = fact_unless_none f r (held_in w r)

abbrev pub place_facts : Form → DeskValue → ℕ → List ℕ
place_facts f w place = held_fact f w (X place) ++ held_fact f w (Y place) ++ held_fact f w (Mark place) ++ held_fact f w (Segment place)

-- ---- the names that are given

abbrev pub name_fact : Form → ℕ → ShownReply → List ℕ
name_fact f number (reply.Owner (Some p)) = fact f (codes "name " ++ decimal number) (decimal p)
name_fact f number r = []

-- up to a number
unfoldable pub name_facts : Form → DeskValue → ℕ → List ℕ
name_facts f w zero = []
name_facts f w (suc before) = name_facts f w before ++ name_fact f (suc before) (owner_reply w (suc before))

-- ---- the slots, and how many numbers there are

-- of so many slots
abbrev pub slot_facts : Form → List ℕ → ℕ → List ℕ
slot_facts f values zero = []
slot_facts f values (suc before) = slot_facts f values before ++ fact f (codes "slot " ++ decimal (suc before)) (decimal (get_or values before 0))

abbrev pub size_fact : Form → ℕ → List ℕ
size_fact f size = fact f (codes "size") (decimal size)

-- all of it, where these have begun and an access has come to these places
abbrev pub state : Form → DeskValue → List ℕ → List ℕ → List ℕ
state f w ids places =
    flat_map (person f w) ids ++ flat_map (stranger f w) (slots_of w).pool.competitors ++ flat_map (place_facts f w) places ++ name_facts f w MOST_NAMES
    ++ slot_facts f (slots_of w).values (length (slots_of w).values) ++ size_fact f (slots_of w).pool.size
