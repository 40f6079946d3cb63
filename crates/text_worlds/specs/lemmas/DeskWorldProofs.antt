-- a desk's world keeps its law
use Rattle.std.proofs.Common.{◌≡◌, ◌≢◌, inl, List, [], ◌∷◌, ◌++◌, map, refl, sym, ap, subst, ◌∙◌, append_assoc}
use Rattle.std.proofs.lemmas.List.{append-nil}
use Rattle.model_steps.specs.declared.refusal.Refusal.TheVariants as refusal
use Rattle.model_asked.specs.declared.config.Config.{Config}
use Rattle.model_asked.specs.declared.exchange.Exchange.{Exchange}
use Rattle.model_asked.specs.Replies.{ShownReply}
use Rattle.model_asked.specs.declared.reply.Reply.TheVariants as reply
use Rattle.text_worlds.specs.desk.Desk.{desk_reply, desk_after, owner_reply, IsFreshDesk, IsAfterDesk}
use Rattle.text_worlds.specs.desk.DeskCalls.{DeskCall, exchange_of}
use Rattle.text_worlds.specs.desk.DeskRun.{IsDeskRunOf}
use Rattle.text_worlds.specs.desk.DeskValue.{DeskValue}
use Rattle.text_worlds.specs.desk.Names.{IsOwnerReply}
use Rattle.text_worlds.specs.lemmas.desk.DeskLaws as desk
use Rattle.text_worlds.specs.DeskWorld.{DeskWorldMay}
use Rattle.text_worlds.specs.Transcripts.{AreOwnersReported}
use Rattle.model_asked.specs.Requests.{Request}
use Rattle.model_asked.specs.Requests.Request.{Take, OwnerOf}
use Rattle.text_player.specs.Runs.{Runs}
use Rattle.text_player.specs.lemmas.RunProofs.{runs-cut}
use Rattle.text_player.specs.Turns.{Turn, exchanges}
use Rattle.text_player.specs.Turns.Turn.{Answered, Reported, Ended, Misread}

-- there is an answer to each request
pub desk_answers : (w : DeskValue) (q : Request) → (r : ShownReply) × (u : DeskValue) × DeskWorldMay w q r u
desk_answers w (Take e) = (desk_reply w e, desk_after w e, inl (refl, refl))
desk_answers w (OwnerOf n) = (owner_reply w n, w, (refl, refl))

-- where no growth is refused there is one reply, and one desk is left
pub one_desk_reply : (w u v : DeskValue) (q : Request) (a b : ShownReply) → DeskWorldMay w q a u → DeskWorldMay w q b v →
    a ≢ reply.Refused refusal.NoMemory → b ≢ reply.Refused refusal.NoMemory → (a ≡ b) × (u ≡ v)
one_desk_reply w u v (Take e) a b x y na nb = desk.determined w u v e a b x y na nb
one_desk_reply w u v (OwnerOf n) a b x y na nb = (x.0 ∙ sym y.0, x.1 ∙ sym y.1)

-- the exchanges of a run are calls
calls_of_run : (c : Config) (w u : DeskValue) (before : List DeskCall) (ts : List Turn) → IsAfterDesk c w before → Runs DeskWorldMay w ts u →
    (calls : List DeskCall) × (map exchange_of calls ≡ exchanges ts) × IsAfterDesk c u (before ++ calls)
calls_of_run c w u before [] after run =
    ([], refl, subst (λ (l : List DeskCall). IsAfterDesk c u l) (sym (append-nil before)) (subst (λ (t : DeskValue). IsAfterDesk c t before) run after))
calls_of_run c w u before (Answered x ∷ ts) after run =
    let one = desk.goes_on c w before after x.event x.reply run.0 run.1 in
    let rest = calls_of_run c run.0 u (before ++ one.call ∷ []) ts one.after run.2 in (
      one.call ∷ rest.0,
      ap (λ (y : Exchange). y ∷ map exchange_of rest.0) one.spelled ∙ ap (λ (l : List Exchange). x ∷ l) rest.1,
      subst (λ (l : List DeskCall). IsAfterDesk c u l) (append_assoc before (one.call ∷ []) rest.0) rest.2,
    )
calls_of_run c w u before (Reported n r ∷ ts) after run =
    calls_of_run c w u before ts after (subst (λ (t : DeskValue). Runs DeskWorldMay t ts u) run.1.1 run.2)
calls_of_run c w u before (Ended ∷ ts) after run = calls_of_run c w u before ts after run
calls_of_run c w u before (Misread bad ∷ ts) after run = calls_of_run c w u before ts after run

pub desk_lawful : (c : Config) (w u : DeskValue) (ts : List Turn) → IsFreshDesk c w → Runs DeskWorldMay w ts u → IsDeskRunOf c (exchanges ts)
desk_lawful c w u ts fresh run =
    let calls = calls_of_run c w u [] ts (desk.fresh c w fresh) run in
    subst (λ (r : List Exchange). IsDeskRunOf c r) calls.1 (desk.law c u calls.0 calls.2)

pub desk_tells : (c : Config) (w u : DeskValue) (ts : List Turn) → IsFreshDesk c w → Runs DeskWorldMay w ts u → AreOwnersReported c.m ts
desk_tells c w u ts fresh run = λ front back n r is.
    let cut = runs-cut DeskWorldMay w u front (Reported n r ∷ back) (subst (λ (l : List Turn). Runs DeskWorldMay w l u) is run) in
    let calls = calls_of_run c w cut.0 [] front (desk.fresh c w fresh) cut.1 in
    let reported = desk.owner cut.0 n c calls.0 calls.2 in
    subst (λ (x : ShownReply). IsOwnerReply c.m (exchanges front) n x) (sym cut.2.1.0)
    (subst (λ (l : List Exchange). IsOwnerReply c.m l n (owner_reply cut.0 n)) calls.1 reported)

pub one_desk_fresh : (c : Config) (w u : DeskValue) → IsFreshDesk c w → IsFreshDesk c u → w ≡ u
one_desk_fresh = desk.one_fresh
