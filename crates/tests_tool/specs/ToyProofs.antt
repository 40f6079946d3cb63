-- the tests' world keeps its rules
use Rattle.std.proofs.Common.{◌≡◌, ◌≢◌, ℕ, ◌+◌, true, ◌⊎◌, inl, inr, List, [], ◌∷◌, refl, sym, ◌∙◌, subst}
use Rattle.model_steps.specs.declared.refusal.Refusal.TheVariants as refusal
use Rattle.model_asked.specs.declared.event.Event.{Event}
use Rattle.model_asked.specs.Replies.{ShownReply}
use Rattle.model_asked.specs.declared.reply.Reply.TheVariants as reply
use Rattle.text_worlds.specs.Transcripts.{AreOwnersReported}
use Rattle.model_asked.specs.Requests.{Request}
use Rattle.model_asked.specs.Requests.Request.{Take, OwnerOf}
use Rattle.text_player.specs.Runs.{Runs}
use Rattle.text_player.specs.lemmas.RunProofs.{runs-cut}
use Rattle.tests_tool.specs.Toys.{ShelfMay, IsShelfRun}
use Rattle.text_player.specs.Turns.{Turn, exchanges}
use Rattle.text_player.specs.Turns.Turn.{Answered, Reported, Ended, Misread}
use Rattle.text_worlds.specs.Visits.{knows_visits}
use Rattle.text_worlds.specs.lemmas.VisitProofs.{no_name, no_name_right, one_no_name}

pub shelf_answers : (w : ℕ) (q : Request) → knows_visits q ≡ true → (r : ShownReply) × (u : ℕ) × ShelfMay w q r u
shelf_answers w (Take e) known = (reply.Ok, w + 1, inl (refl, refl))
shelf_answers w (OwnerOf n) known = (reply.Refused refusal.OutOfRange, w, no_name w n known)

either : (w u : ℕ) (e : Event) (r : ShownReply) → ShelfMay w (Take e) r u → (r ≡ reply.Ok) ⊎ (r ≡ reply.Refused refusal.NoMemory)
either w u e r (inl took) = inl took.0
either w u e r (inr lacked) = inr lacked.0

pub shelf_lawful : (w u : ℕ) (ts : List Turn) → Runs ShelfMay w ts u → IsShelfRun (exchanges ts)
shelf_lawful w u [] run = tt
shelf_lawful w u (Answered x ∷ ts) run = (either w run.0 x.event x.reply run.1, shelf_lawful run.0 u ts run.2)
shelf_lawful w u (Reported n r ∷ ts) run = shelf_lawful run.0 u ts run.2
shelf_lawful w u (Ended ∷ ts) run = shelf_lawful w u ts run
shelf_lawful w u (Misread bad ∷ ts) run = shelf_lawful w u ts run

pub shelf_tells : (most : ℕ) (w u : ℕ) (ts : List Turn) → Runs ShelfMay w ts u → AreOwnersReported most ts
shelf_tells most w u ts run = λ front back n r is.
    let cut = runs-cut ShelfMay w u front (Reported n r ∷ back) (subst (λ (l : List Turn). Runs ShelfMay w l u) is run) in
    no_name_right most (exchanges front) cut.0 cut.2.0 n r cut.2.1

pub one_shelf_fresh : (w v : ℕ) → w ≡ 0 → v ≡ 0 → w ≡ v
one_shelf_fresh w v a b = a ∙ sym b

pub one_shelf_reply : (w u v : ℕ) (q : Request) (a b : ShownReply) → ShelfMay w q a u → ShelfMay w q b v → a ≢ reply.Refused refusal.NoMemory → b ≢ reply.Refused refusal.NoMemory → (a ≡ b) × (u ≡ v)
one_shelf_reply w u v (Take e) a b (inl x) (inl y) na nb = (x.0 ∙ sym y.0, x.1 ∙ sym y.1)
one_shelf_reply w u v (Take e) a b (inl x) (inr y) na nb = absurd (nb y.0)
one_shelf_reply w u v (Take e) a b (inr x) y na nb = absurd (na x.0)
one_shelf_reply w u v (OwnerOf n) a b x y na nb = one_no_name w u v n a b x y
