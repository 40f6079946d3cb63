use Rattle.std.proofs.Common.{◌≡◌, ℕ, ◌-◌, List, Result, Ok, Err, refl, sym, ap, ◌∙◌}
use Rattle.std.proofs.lemmas.Option.{get_or_from_slice_get}
use Rattle.model_pool.specs.Pool.{number_answer}
use Rattle.model_pool.specs.slots.Slots.{IsFetched}
use Rattle.model_pool.specs.slots.SlotsState.{SlotsState}
use Rattle.model_asked.specs.declared.event.Event.TheVariants.{Get}
use Rattle.model_asked.specs.Replies.{value_reply}
use Rattle.text_worlds.specs.desk.DeskRules.{fetched}
use Rattle.text_worlds.specs.desk.Held.{slots_of}
use Rattle.service_hall.proofs.Common.{Refusal, DeskValue, OverGrid, OverTree, desk_reply, desk_of}
use Rattle.service_hall.proofs.hall.Hall.read.Goals as goal

-- what the slots answer to `get` is what the desk does
fetched_so : (values : List ℕ) (number reply : Result ℕ Refusal) → IsFetched values number reply → reply ≡ fetched values number
fetched_so values (Ok number) (Ok value) is = ap Ok (sym (get_or_from_slice_get values (number - 1) value 0 is))
fetched_so values (Ok number) (Err why) is = absurd is
fetched_so values (Err why) reply is = is

abbrev got : SlotsState ℕ → ℕ → Result ℕ Refusal
got s id = fetched s.values (number_answer s.pool id)

reply_is : (w : DeskValue) (id : ℕ) → value_reply (got (slots_of w) id) ≡ desk_reply w (Get id)
reply_is (OverGrid w) id = refl
reply_is (OverTree w) id = refl

pub returns-clause-reply : goal.returns-clause-reply
returns-clause-reply c = λ view.
    let id = c.args.id in
    let s = c.slots.result.now in
    let desk : c.self.inside.held.desk ≡ desk_of c.args.self.now = c.self.invariant.0 ∙ ap desk_of c.self.view_is in
    let answer : c.copied.result ≡ got s id = c.copied.ensures ∙ fetched_so s.values (number_answer s.pool id) _ c.get.ensures.answer in
    c.of_value.ensures view
    ∙ ap value_reply answer
    ∙ ap (λ (t : SlotsState ℕ). value_reply (got t id)) c.slots.ensures
    ∙ reply_is c.self.inside.held.desk id
    ∙ ap (λ (w : DeskValue). desk_reply w (Get id)) desk
