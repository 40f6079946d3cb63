-- what a hall says to an entry is determined
use Rattle.std.proofs.Common.{◌≡◌, ◌≢◌, ℕ, Option, Some, None, List, [], ◌∷◌, map, inl, inr, refl, sym, ap, subst, ◌∙◌}
use Rattle.service_follow.proofs.Common.{ShownReply, NoneRefusedGrowth, Runs, Answered, Reported, Ended, Misread, HallState, HallApplies, said, reply_queue_of}
use Rattle.model_steps.specs.declared.refusal.Refusal.TheVariants as refusal
use Rattle.model_asked.specs.declared.event.Event.{Event}
use Rattle.model_asked.specs.declared.event.Event.TheVariants.{Put}
use Rattle.model_asked.specs.declared.reply.Reply.TheVariants as reply
use Rattle.service_log.specs.Groups.{IsDetermined}
use Rattle.text_player.specs.Turns.{Turn, asked}
use Rattle.service_hall.specs.Halls.{HallMay}
use Rattle.service_hall.specs.Raising.{PutsToken, held_value, token_above, token_reply}
use Rattle.service_hall.specs.Reading.{Serves, TakesBy, way_of}
use Rattle.service_hall.specs.declared.rules.Rules.{Rules}
use Rattle.service_hall.specs.declared.rules.Way.{Way}
use Rattle.service_hall.specs.declared.rules.Way.TheVariants.{Applied, Read, Raised, Barred}
use Rattle.service_follow.specs.Entries.{rules_of}

-- where memory is not refused an event has one reply, and leaves one hall
one_answer : (h : HallState) (e : Event) (r r' : ShownReply) (u u' : HallState) → HallMay h e r u → HallMay h e r' u' → r ≢ reply.Refused refusal.NoMemory → r' ≢ reply.Refused refusal.NoMemory → (r ≡ r') × (u ≡ u')
one_answer h e r r' u u' (inl a) (inl b) g g' = (a.0 ∙ sym b.0, a.1 ∙ sym b.1)
one_answer h e r r' u u' (inl a) (inr b) g g' = absurd (g' b.0)
one_answer h e r r' u u' (inr a) b g g' = absurd (g a.0)

one_token : (next : Option ℕ) (h : HallState) (p : ℕ) (r r' : ShownReply) (u u' : HallState) → PutsToken next h p r u → PutsToken next h p r' u' → r ≢ reply.Refused refusal.NoMemory → r' ≢ reply.Refused refusal.NoMemory → (r ≡ r') × (u ≡ u')
one_token None h p r r' u u' a b g g' = (a.0 ∙ sym b.0, a.1 ∙ sym b.1)
one_token (Some token) h p r r' u u' a b g g' =
    let one = one_answer h (Put p token) a.0 b.0 u u' a.1 b.1 (λ is. g (a.2 ∙ ap (token_reply token) is)) (λ is. g' (b.2 ∙ ap (token_reply token) is)) in
    (a.2 ∙ (ap (token_reply token) one.0 ∙ sym b.2), one.1)

one_taken : (way : Way) (h : HallState) (e : Event) (r r' : ShownReply) (u u' : HallState) → TakesBy way h e r u → TakesBy way h e r' u' → r ≢ reply.Refused refusal.NoMemory → r' ≢ reply.Refused refusal.NoMemory → (r ≡ r') × (u ≡ u')
one_taken Applied h e r r' u u' a b g g' = one_answer h e r r' u u' a b g g'
one_taken (Read p) h e r r' u u' a b g g' = (a.0 ∙ sym b.0, a.1 ∙ sym b.1)
one_taken (Raised p) h e r r' u u' a b g g' = one_token (token_above (held_value h p)) h p r r' u u' a b g g'
one_taken Barred h e r r' u u' a b g g' = (a.0 ∙ sym b.0, a.1 ∙ sym b.1)

-- runs of the same requests, in which memory is not refused, say the same and come to the same
pub record Agree (ts us : List Turn) (n k : HallState) : Type 0 where
  pub said_is : said ts ≡ said us
  pub last_is : n ≡ k

pub agree : (rules : Rules) (h n k : HallState) (ts us : List Turn) → map asked ts ≡ map asked us → Runs (Serves rules) h ts n → Runs (Serves rules) h us k → NoneRefusedGrowth ts → NoneRefusedGrowth us → Agree ts us n k
agree rules h n k [] [] same a b g g' = record { said_is = refl; last_is = sym a ∙ b }
agree rules h n k [] (x ∷ us) same a b g g' = absurd (cc same)
agree rules h n k (x ∷ ts) [] same a b g g' = absurd (cc same)
agree rules h n k (Answered x ∷ ts) (Answered y ∷ us) same a b g g' =
    let event : x.event ≡ y.event = cc same in
    let may = subst (λ (e : Event). TakesBy (way_of rules e) h e x.reply a.0) event a.1 in
    let one = one_taken (way_of rules y.event) h y.event x.reply y.reply a.0 b.0 may b.1 g.0 g'.0 in
    let rest = agree rules b.0 n k ts us (cc same) (subst (λ (m : HallState). Runs (Serves rules) m ts n) one.1 a.2) b.2 g.1 g'.1 in
    record { said_is = (let e = one.0 in let s = rest.said_is in cc (event, e, s)); last_is = rest.last_is }
agree rules h n k (Reported p r ∷ ts) (Reported q s ∷ us) same a b g g' =
    let name : p ≡ q = cc same in
    let one : r ≡ s = (let x = a.1.0 in let y = b.1.0 in cc (x, y, name)) in
    let mid : a.0 ≡ b.0 = a.1.1 ∙ sym b.1.1 in
    let rest = agree rules b.0 n k ts us (cc same) (subst (λ (m : HallState). Runs (Serves rules) m ts n) mid a.2) b.2 g.1 g'.1 in
    record { said_is = (let w = rest.said_is in cc (name, one, w)); last_is = rest.last_is }
agree rules h n k (Ended ∷ ts) (Ended ∷ us) same a b g g' =
    let rest = agree rules h n k ts us (cc same) a b g g' in record { said_is = rest.said_is; last_is = rest.last_is }
agree rules h n k (Misread bad ∷ ts) (Misread worse ∷ us) same a b g g' =
    let rest = agree rules h n k ts us (cc same) a b g g' in record { said_is = rest.said_is; last_is = rest.last_is }
agree rules h n k (Answered x ∷ ts) (Reported q s ∷ us) same a b g g' = absurd (cc same)
agree rules h n k (Answered x ∷ ts) (Ended ∷ us) same a b g g' = absurd (cc same)
agree rules h n k (Answered x ∷ ts) (Misread bad ∷ us) same a b g g' = absurd (cc same)
agree rules h n k (Reported p r ∷ ts) (Answered y ∷ us) same a b g g' = absurd (cc same)
agree rules h n k (Reported p r ∷ ts) (Ended ∷ us) same a b g g' = absurd (cc same)
agree rules h n k (Reported p r ∷ ts) (Misread bad ∷ us) same a b g g' = absurd (cc same)
agree rules h n k (Ended ∷ ts) (Answered y ∷ us) same a b g g' = absurd (cc same)
agree rules h n k (Ended ∷ ts) (Reported q s ∷ us) same a b g g' = absurd (cc same)
agree rules h n k (Ended ∷ ts) (Misread bad ∷ us) same a b g g' = absurd (cc same)
agree rules h n k (Misread bad ∷ ts) (Answered y ∷ us) same a b g g' = absurd (cc same)
agree rules h n k (Misread bad ∷ ts) (Reported q s ∷ us) same a b g g' = absurd (cc same)
agree rules h n k (Misread bad ∷ ts) (Ended ∷ us) same a b g g' = absurd (cc same)

pub determined : IsDetermined HallApplies
determined m entry reply_queue other n k a b =
    let one = agree (rules_of entry) m n k a.turns b.turns (a.asked_is ∙ sym b.asked_is) a.run b.run a.granted b.granted in
    (a.reply_queue_is ∙ (ap reply_queue_of one.said_is ∙ sym b.reply_queue_is), one.last_is)
