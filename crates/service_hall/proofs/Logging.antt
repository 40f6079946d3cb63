-- exchanges of which long replies stand apart stay as they are when one more is put behind them
use Rattle.std.proofs.Common.{◌≡◌, ℕ, ◌+◌, ◌<◌, List, [], ◌∷◌, ◌++◌, length, refl, ap, ◌∙◌, arith, true, length-append}
use Rattle.service_hall.proofs.Common.{nat_tests, Event, ShownReply, exchange}
use Rattle.std.proofs.lemmas.List.{map-append, get_or_append_left}
use Rattle.std.proofs.lemmas.Bool.{and_parts, and_from}
use Rattle.model_asked.specs.declared.reply.Reply.TheVariants as reply
use Rattle.service_hall.specs.declared.entry.Entry.{Entry}
use Rattle.service_hall.specs.declared.entry.Short.{Short}
use Rattle.service_hall.specs.declared.entry.Short.TheVariants.{Apart}
use Rattle.service_hall.specs.Logs.{reply_shown, is_inside, all_inside, exchange_shown, entry_of, put_together}

reply_kept : (apart more : List ShownReply) (r : Short) → is_inside (length apart) r ≡ true → reply_shown (apart ++ more) r ≡ reply_shown apart r
reply_kept apart more (Apart at) h = let l : at < length apart = grind (arith, nat_tests) in get_or_append_left apart more reply.Quiet at l
reply_kept apart more r h = refl

inside_kept : (count more : ℕ) (r : Short) → is_inside count r ≡ true → is_inside (count + more) r ≡ true
inside_kept count more (Apart at) h = grind (arith, nat_tests)
inside_kept count more r h = refl

all_kept : (count more : ℕ) (es : List Entry) → all_inside count es ≡ true → all_inside (count + more) es ≡ true
all_kept count more [] h = refl
all_kept count more (e ∷ es) h =
    let a = and_parts (is_inside count e.reply) (all_inside count es) h in
    and_from _ _ (inside_kept count more e.reply a.0) (all_kept count more es a.1)

put_kept : (apart more : List ShownReply) (es : List Entry) → all_inside (length apart) es ≡ true → put_together (apart ++ more) es ≡ put_together apart es
put_kept apart more [] h = refl
put_kept apart more (e ∷ es) h =
    let a = and_parts (is_inside (length apart) e.reply) (all_inside (length apart) es) h in
    ap (λ r. exchange e.event r ∷ put_together (apart ++ more) es) (reply_kept apart more e.reply a.0) ∙ ap (λ xs. exchange_shown apart e ∷ xs) (put_kept apart more es a.1)

all_push : (count : ℕ) (es : List Entry) (e : Entry) → all_inside count es ≡ true → is_inside count e.reply ≡ true → all_inside count (es ++ e ∷ []) ≡ true
all_push count [] e h one = and_from _ _ one refl
all_push count (x ∷ es) e h one =
    let a = and_parts (is_inside count x.reply) (all_inside count es) h in
    and_from _ _ a.0 (all_push count es e a.1 one)

-- so an exchange is put behind the others
module _ (apart apart' : List ShownReply) (es es' : List Entry) (e : Event) (short : Short) (longer : (more : List ShownReply) × (apart' ≡ apart ++ more)) (inside : all_inside (length apart) es ≡ true) (same : es' ≡ es ++ entry_of e short ∷ []) where
  pub put_push : (r : ShownReply) → reply_shown apart' short ≡ r → put_together apart' es' ≡ put_together apart es ++ exchange e r ∷ []
  put_push r shown =
      let old : put_together apart' es ≡ put_together apart es = ap (λ w. put_together w es) longer.1 ∙ put_kept apart longer.0 es inside in
      ap (put_together apart') same ∙ map-append (exchange_shown apart') es (entry_of e short ∷ []) ∙ ap (λ w. w ++ exchange_shown apart' (entry_of e short) ∷ []) old ∙ ap (λ k. put_together apart es ++ exchange e k ∷ []) shown

  pub inside_push : is_inside (length apart') short ≡ true → all_inside (length apart') es' ≡ true
  inside_push one =
      let count : length apart' ≡ length apart + length longer.0 = ap length longer.1 ∙ length-append apart longer.0 in
      let old : all_inside (length apart') es ≡ true = ap (λ n. all_inside n es) count ∙ all_kept (length apart) (length longer.0) es inside in
      ap (all_inside (length apart')) same ∙ all_push (length apart') es (entry_of e short) old one
