-- replies of a few bytes, with a view beside them
use Rattle.std.proofs.Common.{◌≡◌, ◌≢◌, ℕ, List}
use Rattle.model_steps.specs.declared.refusal.Refusal.{Refusal}
use Rattle.model_asked.specs.declared.reply.Reply.TheVariants as reply
use Rattle.model_asked.specs.declared.reply.Reply.{Reply}
use Rattle.model_asked.specs.Replies.{with_view}

-- a view beside it makes no refusal
refused_short : (said : Reply (Unit {0})) (view : List (ℕ × ℕ)) (why : Refusal) → with_view said view ≡ reply.Refused why → said ≡ reply.Refused why
refused_short (reply.Refused other) view why e = cc
refused_short said view why e = absurd (cc)

pub not_refused : (said : Reply (Unit {0})) (view : List (ℕ × ℕ)) (why : Refusal) → said ≢ reply.Refused why → with_view said view ≢ reply.Refused why
not_refused said view why goes = λ e. goes (refused_short said view why e)
