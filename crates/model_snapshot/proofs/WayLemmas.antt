-- a step of a way, taken where the participant stands
use Rattle.std.proofs.Common.{◌≡◌, ℕ, Option, true, false, refl, sym, ap, ◌∙◌}
use Rattle.model_snapshot.proofs.Common.{Note, Quiet, Said, Ended, ends, Client, SnapReply, placed_note}
use Rattle.model_snapshot.specs.declared.client.Pending.TheVariants.{Nothing, Placing}
use Rattle.model_snapshot.specs.Client.{client_steps, is_placed}
use Rattle.model_steps.specs.Steps.{ProgramSteps, MemorySteps, answer_from, answer_got}
use Rattle.model_snapshot.specs.Walks.{WalkSteps}

is_placed-ends : (note : Note ℕ) → is_placed note ≡ ends note
is_placed-ends Quiet = refl
is_placed-ends (Said place) = refl
is_placed-ends (Ended place) = refl

module _ {S R V U K : Type 0} (walker : ProgramSteps U R V ℕ) (place_of : U → Option ℕ) (walks : WalkSteps K R V) (memory : MemorySteps S R V) (m m' : S) (c : Client U K) (w : U) (note : Note ℕ) where
  abbrev client : ProgramSteps (Client U K) R V SnapReply
  client = client_steps walker place_of walks

  -- the way's own step
  pub record Walked : Type 0 where
    pub placing : c.pending ≡ Placing
    pub says : note ≡ walker.note c.walker (answer_from (memory.register m) (walker.next c.walker))
    pub resumed : w ≡ walker.resumed c.walker (answer_from (memory.register m) (walker.next c.walker))
    pub leaves : m' ≡ memory.after m (walker.next c.walker)

  -- is that of the participant, which then has nothing to do if the way has come to its place
  pub record Taken (new : Client U K) : Type 0 where
    pub after : new ≡ client.resumed c (answer_got client memory c m)
    pub says : client.note c (answer_got client memory c m) ≡ placed_note note
    pub leaves : m' ≡ memory.after m (client.next c)

  pub comes : Walked → ends note ≡ true → Taken (record c { walker = w; pending = Nothing })
  comes h end =
      let placed : is_placed (walker.note c.walker (answer_from (memory.register m) (walker.next c.walker))) ≡ true = ap is_placed (sym h.says) ∙ is_placed-ends note ∙ end in
      record { after = rw (h.placing, h.resumed, placed) refl; says = rw (h.placing, ← h.says) refl; leaves = rw h.placing h.leaves }

  pub goes : Walked → ends note ≡ false → Taken (record c { walker = w })
  goes h on =
      let placed : is_placed (walker.note c.walker (answer_from (memory.register m) (walker.next c.walker))) ≡ false = ap is_placed (sym h.says) ∙ is_placed-ends note ∙ on in
      record { after = rw (h.placing, h.resumed, placed) refl; says = rw (h.placing, ← h.says) refl; leaves = rw h.placing h.leaves }

-- what is said of it ends nothing
pub placed_goes_on : (note : Note ℕ) → ends (placed_note note) ≡ false
placed_goes_on Quiet = refl
placed_goes_on (Said place) = refl
placed_goes_on (Ended place) = refl
