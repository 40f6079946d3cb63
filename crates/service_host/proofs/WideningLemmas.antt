-- a hall that accepts `widen` has the numbers that were asked for
use Rattle.std.proofs.Common.{◌≡◌, ◌<◌, ◌++◌, ◌∷◌, ℕ, [], true, false, Option, Some, None, inl, inr, refl, sym, ap, ◌∙◌}
use Rattle.std.proofs.lemmas.Bool.Decides.{leb_tells}
use Rattle.model_steps.specs.declared.refusal.Refusal.{Refusal}
use Rattle.model_steps.specs.declared.refusal.Refusal.TheVariants as refusal
use Rattle.model_steps.specs.World.{done_unless}
use Rattle.model_pool.specs.Pool.{widened_unless}
use Rattle.model_pool.specs.Widening.{widen_refusal}
use Rattle.model_asked.specs.declared.event.Event.TheVariants.{Widen}
use Rattle.model_asked.specs.declared.reply.Reply.TheVariants as reply
use Rattle.model_asked.specs.Replies.{ShownReply, done_reply, is_refusal}
use Rattle.text_worlds.specs.desk.Desk.{desk_after, desk_refusal, desk_reply, fresh_desk}
use Rattle.text_worlds.specs.desk.DeskCalls.{exchange}
use Rattle.text_worlds.specs.desk.DeskValue.{DeskValue}
use Rattle.text_worlds.specs.desk.DeskValue.DeskValue.{OverGrid, OverTree}
use Rattle.text_worlds.specs.desk.Held.{slots_of}
use Rattle.service_hall.specs.HallState.{HallState}
use Rattle.service_hall.specs.Halls.{HallMay, after_unless, desk_of, hall_refusal, longer, reply_unless}
use Rattle.service_hall.proofs.cited.Histories.{none_of_full, replay_push}
use Rattle.service_host.specs.Sizes.{size_of}
use Rattle.service_host.specs.Widened.{IsWider}

-- the desk's answer to `widen`, and its pool then
refusal_is : (w : DeskValue) (size : ℕ) → desk_refusal w (Widen size) ≡ widen_refusal (slots_of w).pool.most (slots_of w).pool.size size
refusal_is (OverGrid w) size = refl
refusal_is (OverTree w) size = refl

reply_is : (w : DeskValue) (size : ℕ) → desk_reply w (Widen size) ≡ done_reply (done_unless (widen_refusal (slots_of w).pool.most (slots_of w).pool.size size))
reply_is (OverGrid w) size = refl
reply_is (OverTree w) size = refl

pool_is : (w : DeskValue) (size : ℕ) → (slots_of (desk_after w (Widen size))).pool ≡ widened_unless (widen_refusal (slots_of w).pool.most (slots_of w).pool.size size) (slots_of w).pool size
pool_is (OverGrid w) size = refl
pool_is (OverTree w) size = refl

-- where it is not refused it is for more numbers
more_than : (most size more : ℕ) → widen_refusal most size more ≡ None → size < more
more_than most size more is = elim (leb_tells more size) [
  | inl w ↦ absurd (let no : Some refusal.OutOfRange ≡ None = rw w.0 at is in cc)
  | inr w ↦ w.1
]

module _ (h u : HallState) (size : ℕ) (r : ShownReply) where
  accepted_so : u ≡ longer h (Widen size) → desk_refusal (desk_of h) (Widen size) ≡ None → IsWider h size u
  accepted_so after free =
      let w = desk_of h in
      let due : widen_refusal (slots_of w).pool.most (size_of h) size ≡ None = sym (refusal_is w size) ∙ free in
      let answer : desk_reply w (Widen size) ≡ reply.Ok = reply_is w size ∙ ap (λ (o : Option Refusal). done_reply (done_unless o)) due in
      let desk : desk_of u ≡ desk_after w (Widen size) = ap desk_of after ∙ replay_push (fresh_desk h.config) h.history (exchange (Widen size) (desk_reply w (Widen size))) in
      let pool : (slots_of (desk_of u)).pool ≡ widened_unless None (slots_of w).pool size =
      ap (λ (d : DeskValue). (slots_of d).pool) desk ∙ (pool_is w size ∙ ap (λ (o : Option Refusal). widened_unless o (slots_of w).pool size) due) in
      record {
        now = ap (λ p. p.size) pool;
        more = more_than (slots_of w).pool.most (size_of h) size due;
        config = ap (λ (x : HallState). x.config) after;
        history = ap (λ (x : HallState). x.history) after ∙ ap (λ (a : ShownReply). h.history ++ exchange (Widen size) a ∷ []) answer;
        competitors = ap (λ p. p.competitors) pool;
      }

  by_room : (o : Option Refusal) → hall_refusal h (Widen size) ≡ o → r ≡ reply_unless o h (Widen size) → u ≡ after_unless o h (Widen size) → is_refusal r ≡ false → IsWider h size u
  by_room (Some why) due said after taken = absurd (let no : true ≡ false = sym (ap is_refusal said) ∙ taken in cc)
  by_room None due said after taken = accepted_so after (none_of_full (desk_refusal (desk_of h) (Widen size)) _ due)

  pub widened : HallMay h (Widen size) r u → is_refusal r ≡ false → IsWider h size u
  widened may taken = elim may [
    | inl m ↦ by_room (hall_refusal h (Widen size)) refl m.0 m.1 taken
    | inr m ↦ absurd (let no : true ≡ false = sym (ap is_refusal m.0) ∙ taken in cc)
  ]
