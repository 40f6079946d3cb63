-- the numbers of a run
use Rattle.std.specs.Prelude.{◌≡◌, ℕ, ◌+◌, if◌then◌else◌, Bool, true, false, List, [], ◌∷◌}
use Rattle.model_asked.specs.declared.exchange.Exchange.{Exchange}
use Rattle.model_asked.specs.Replies.{ShownReply}
use Rattle.model_asked.specs.declared.reply.Reply.TheVariants as reply
use Rattle.text_worlds.specs.desk.Names.{begun_in}
use Rattle.tool_work.specs.declared.drawn.tally.Tally.{Tally}

-- whether a name is given, and whether someone has used up the rounds
abbrev pub is_named : ShownReply → Bool
is_named (reply.Named name view) = true
is_named r = false

abbrev pub is_spent : ShownReply → Bool
is_spent reply.Spent = true
is_spent r = false

-- one more, where this is so
abbrev pub one_more_if : Bool → ℕ → ℕ
one_more_if so n = if so then n + 1 else n

-- how many replies are such
abbrev pub how_many : (ShownReply → Bool) → List Exchange → ℕ
how_many such [] = 0
how_many such (x ∷ r) = one_more_if (such x.reply) (how_many such r)

-- how many have begun, were named and were spent, among these exchanges
pub record IsTallyOf (r : List Exchange) (t : Tally) : Type 0 where
  pub begun : t.begun ≡ begun_in r
  pub named : t.named ≡ how_many is_named r
  pub spent : t.spent ≡ how_many is_spent r
