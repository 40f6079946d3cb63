-- turns to the same lines are the same
use Rattle.std.proofs.Common.{◌≡◌, ◌≢◌, ℕ, List, [], ◌∷◌, map, refl, sym, ap, subst, ◌∙◌}
use Rattle.model_steps.specs.declared.refusal.Refusal.TheVariants as refusal
use Rattle.model_asked.specs.declared.event.Event.{Event}
use Rattle.model_asked.specs.declared.exchange.Exchange.{Exchange}
use Rattle.model_asked.specs.Replies.{ShownReply}
use Rattle.model_asked.specs.declared.reply.Reply.TheVariants as reply
use Rattle.model_asked.specs.declared.bad.Bad.{Bad}
use Rattle.text_worlds.specs.OneTranscript.{IsOneTranscript}
use Rattle.model_asked.specs.Requests.{Request}
use Rattle.model_asked.specs.Requests.Request.{Take, OwnerOf}
use Rattle.text_player.specs.Runs.{Runs, CouldRun, NoneRefusedGrowth}
use Rattle.text_player.specs.Turns.{Turn, asked}
use Rattle.text_player.specs.Turns.Turn.{Answered, Reported, Ended, Misread}

first_asked : (t s : Turn) (ts ss : List Turn) → map asked (t ∷ ts) ≡ map asked (s ∷ ss) → asked t ≡ asked s
first_asked t s ts ss h = cc

others_asked : (t s : Turn) (ts ss : List Turn) → map asked (t ∷ ts) ≡ map asked (s ∷ ss) → map asked ts ≡ map asked ss
others_asked t s ts ss h = cc

same_exchange : (x y : Exchange) → x.event ≡ y.event → x.reply ≡ y.reply → x ≡ y
same_exchange x y e r =
    ap (λ (q : Event). let z : Exchange = record { event = q; reply = x.reply } in z) e ∙ ap (λ (q : ShownReply). let z : Exchange = record { event = y.event; reply = q } in z) r

same_event : (x y : Exchange) → asked (Answered x) ≡ asked (Answered y) → x.event ≡ y.event
same_event x y h = cc

same_number : (n m : ℕ) (r q : ShownReply) → asked (Reported n r) ≡ asked (Reported m q) → n ≡ m
same_number n m r q h = cc

same_bad : (bad other : Bad) → asked (Misread bad) ≡ asked (Misread other) → bad ≡ other
same_bad bad other h = cc

cons_same : (t s : Turn) (ts ss : List Turn) → t ≡ s → ts ≡ ss → t ∷ ts ≡ s ∷ ss
cons_same t s ts ss a b = ap (λ (q : Turn). q ∷ ts) a ∙ ap (λ (l : List Turn). s ∷ l) b

module _ {T : Type 0} (may : T → Request → ShownReply → T → Type 0)
    (one : (w u v : T) (q : Request) (a b : ShownReply) → may w q a u → may w q b v → a ≢ reply.Refused refusal.NoMemory → b ≢ reply.Refused refusal.NoMemory → (a ≡ b) × (u ≡ v)) where
  one_run : (w u v : T) (ts ss : List Turn) → map asked ts ≡ map asked ss → Runs may w ts u → Runs may w ss v → NoneRefusedGrowth ts → NoneRefusedGrowth ss → ts ≡ ss
  one_run w u v [] [] e a b na nb = refl
  one_run w u v [] (s ∷ ss) e a b na nb = absurd cc
  one_run w u v (t ∷ ts) [] e a b na nb = absurd cc
  one_run w u v (Answered x ∷ ts) (Answered y ∷ ss) e a b na nb =
      let same = same_event x y (first_asked (Answered x) (Answered y) ts ss e) in
      let both = one w a.0 b.0 (Take x.event) x.reply y.reply a.1 (subst (λ (q : Event). may w (Take q) y.reply b.0) (sym same) b.1) na.0 nb.0 in
      let rest = one_run a.0 u v ts ss (others_asked (Answered x) (Answered y) ts ss e) a.2 (subst (λ (t : T). Runs may t ss v) (sym both.1) b.2) na.1 nb.1 in
      cons_same (Answered x) (Answered y) ts ss (ap Answered (same_exchange x y same both.0)) rest
  one_run w u v (Reported n r ∷ ts) (Reported m q ∷ ss) e a b na nb =
      let same = same_number n m r q (first_asked (Reported n r) (Reported m q) ts ss e) in
      let both = one w a.0 b.0 (OwnerOf n) r q a.1 (subst (λ (k : ℕ). may w (OwnerOf k) q b.0) (sym same) b.1) na.0 nb.0 in
      let rest = one_run a.0 u v ts ss (others_asked (Reported n r) (Reported m q) ts ss e) a.2 (subst (λ (t : T). Runs may t ss v) (sym both.1) b.2) na.1 nb.1 in
      cons_same (Reported n r) (Reported m q) ts ss (ap (λ (k : ℕ). Reported k r) same ∙ ap (Reported m) both.0) rest
  one_run w u v (Ended ∷ ts) (Ended ∷ ss) e a b na nb =
      cons_same Ended Ended ts ss refl (one_run w u v ts ss (others_asked Ended Ended ts ss e) a b na nb)
  one_run w u v (Misread bad ∷ ts) (Misread other ∷ ss) e a b na nb =
      cons_same (Misread bad) (Misread other) ts ss (ap Misread (same_bad bad other (first_asked (Misread bad) (Misread other) ts ss e)))
      (one_run w u v ts ss (others_asked (Misread bad) (Misread other) ts ss e) a b na nb)
  one_run w u v (t ∷ ts) (s ∷ ss) e a b na nb = absurd cc

  pub determined : (fresh : T → Type 0) → ((w v : T) → fresh w → fresh v → w ≡ v) → IsOneTranscript (CouldRun fresh may)
  determined fresh one_fresh ts us same a b na nb =
      one_run a.start a.last b.last ts us same a.run (subst (λ (t : T). Runs may t us b.last) (one_fresh b.start a.start b.is_fresh a.is_fresh) b.run) na nb
