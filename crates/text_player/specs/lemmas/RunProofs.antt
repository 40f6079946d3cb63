-- runs, one after another
use Rattle.std.proofs.Common.{List, [], ◌∷◌, ◌++◌, refl, sym, subst}
use Rattle.model_asked.specs.Replies.{ShownReply}
use Rattle.model_asked.specs.Requests.{Request}
use Rattle.text_player.specs.Runs.{Runs}
use Rattle.text_player.specs.Turns.{Turn}
use Rattle.text_player.specs.Turns.Turn.{Answered, Reported, Ended, Misread}

module _ {T : Type 0} (may : T → Request → ShownReply → T → Type 0) where
  pub runs-append : (w m u : T) (ts us : List Turn) → Runs may w ts m → Runs may m us u → Runs may w (ts ++ us) u
  runs-append w m u [] us a b = subst (λ (t : T). Runs may t us u) (sym a) b
  runs-append w m u (Answered x ∷ ts) us a b = (a.0, a.1, runs-append a.0 m u ts us a.2 b)
  runs-append w m u (Reported n r ∷ ts) us a b = (a.0, a.1, runs-append a.0 m u ts us a.2 b)
  runs-append w m u (Ended ∷ ts) us a b = runs-append w m u ts us a b
  runs-append w m u (Misread bad ∷ ts) us a b = runs-append w m u ts us a b

  -- a run of two parts stops between them
  pub runs-cut : (w u : T) (ts us : List Turn) → Runs may w (ts ++ us) u → (m : T) × Runs may w ts m × Runs may m us u
  runs-cut w u [] us run = (w, refl, run)
  runs-cut w u (Answered x ∷ ts) us run = let cut = runs-cut run.0 u ts us run.2 in (cut.0, (run.0, run.1, cut.1), cut.2)
  runs-cut w u (Reported n r ∷ ts) us run = let cut = runs-cut run.0 u ts us run.2 in (cut.0, (run.0, run.1, cut.1), cut.2)
  runs-cut w u (Ended ∷ ts) us run = runs-cut w u ts us run
  runs-cut w u (Misread bad ∷ ts) us run = runs-cut w u ts us run
