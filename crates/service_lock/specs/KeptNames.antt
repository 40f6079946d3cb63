-- the name that a caller was given
use Rattle.std.specs.Prelude.{ℕ, List, [], ◌∷◌, Option, Some, None}
use Rattle.std.specs.Option.{option_or}
use Rattle.model_asked.specs.Replies.{ShownReply}
use Rattle.model_asked.specs.declared.reply.Reply.TheVariants as reply
use Rattle.service_lock.specs.declared.kept.Kept.{Kept}

-- the name that a reply gives
abbrev pub name_given : ShownReply → Option ℕ
name_given (reply.Named name view) = Some name
name_given s = None

-- the first name among what was kept
abbrev pub name_kept : List Kept → Option ℕ
name_kept [] = None
name_kept (k ∷ ks) = option_or (name_given k.exchange.reply) (name_kept ks)
