-- a token is given by a `put` of the history
use Rattle.std.proofs.Common.{◌≡◌, ◌⊎◌, ℕ, inl, inr, length, Option, Some, None, Result, Ok, Err, refl, ap, subst, ◌∙◌}
use Rattle.service_hall.proofs.Common.{Refusal, DeskValue, OverGrid, OverTree, ShownReply, desk_of, desk_reply, desk_refusal, hall_refusal, reply_unless, after_unless, HallMay, HallState}
use Rattle.model_steps.specs.declared.refusal.Refusal.TheVariants as refusal
use Rattle.model_asked.specs.declared.event.Event.TheVariants.{Put}
use Rattle.model_asked.specs.declared.reply.Reply.TheVariants as reply
use Rattle.model_asked.specs.Replies.{done_reply}
use Rattle.model_pool.specs.Pool.{number_answer}
use Rattle.model_pool.specs.slots.Slots.{stored_reply}
use Rattle.text_worlds.specs.desk.DeskRules.{refusal_of}
use Rattle.service_hall.specs.Raising.{PutsToken, Raises, held_value, token_above, token_reply}
use Rattle.service_hall.proofs.cited.Histories.{none_of_full}

-- the token was put
pub record IsPut (h : HallState) (p : ℕ) (r : ShownReply) (u : HallState) : Type 0 where
  pub token : ℕ
  pub is_next : token_above (held_value h p) ≡ Some token
  pub told : r ≡ reply.Value token
  pub may : HallMay h (Put p token) reply.Ok u

-- it was refused
pub record IsUnput (h : HallState) (r : ShownReply) (u : HallState) : Type 0 where
  pub why : Refusal
  pub told : r ≡ reply.Refused why
  pub same : u ≡ h

stored_ok : (number : Result ℕ Refusal) → refusal_of number ≡ None → done_reply (stored_reply number) ≡ reply.Ok
stored_ok (Ok number) free = refl
stored_ok (Err why) free = absurd (cc)

-- who holds a number may put
puts_ok : (w : DeskValue) (p value : ℕ) → desk_refusal w (Put p value) ≡ None → desk_reply w (Put p value) ≡ reply.Ok
puts_ok (OverGrid w) p value free = stored_ok (number_answer w.slots.pool p) free
puts_ok (OverTree w) p value free = stored_ok (number_answer w.slots.pool p) free

by_refusal : (h u : HallState) (p token : ℕ) (said r : ShownReply) (o : Option Refusal) → token_above (held_value h p) ≡ Some token → hall_refusal h (Put p token) ≡ o →
    HallMay h (Put p token) said u → said ≡ reply_unless o h (Put p token) → u ≡ after_unless o h (Put p token) → r ≡ token_reply token said → IsPut h p r u ⊎ IsUnput h r u
by_refusal h u p token said r None next due may says after told =
    let is : said ≡ reply.Ok = says ∙ puts_ok (desk_of h) p token (none_of_full (desk_refusal (desk_of h) (Put p token)) (length h.history) due) in
    inl (record {
      token = token;
      is_next = next;
      told = told ∙ ap (token_reply token) is;
      may = subst (λ (s : ShownReply). HallMay h (Put p token) s u) is may;
    })
by_refusal h u p token said r (Some why) next due may says after told = inr (record { why = why; told = told ∙ ap (token_reply token) says; same = after })

by_token : (h u : HallState) (p : ℕ) (r : ShownReply) (next : Option ℕ) → token_above (held_value h p) ≡ next → PutsToken next h p r u → IsPut h p r u ⊎ IsUnput h r u
by_token h u p r None none refused = inr (record { why = refusal.OutOfRange; told = refused.0; same = refused.1 })
by_token h u p r (Some token) next puts = elim puts.1 as (λ (m : HallMay h (Put p token) puts.0 u). IsPut h p r u ⊎ IsUnput h r u) [
  | inl m ↦ by_refusal h u p token puts.0 r (hall_refusal h (Put p token)) next refl (inl m) m.0 m.1 puts.2
  | inr lacked ↦ inr (record { why = refusal.NoMemory; told = puts.2 ∙ ap (token_reply token) lacked.0; same = lacked.1 })
]

-- a token is put, or refused with nothing changed
pub by_put : (h : HallState) (p : ℕ) (r : ShownReply) (u : HallState) → Raises h p r u → IsPut h p r u ⊎ IsUnput h r u
by_put h p r u raises = by_token h u p r (token_above (held_value h p)) refl raises
