-- a snapshot object and the object of its law after the same calls
use Rattle.std.proofs.Common.{◌≡◌, ℕ, List, [], ◌∷◌, ◌++◌, refl, subst}
use Rattle.model_renaming.proofs.Common.{Run, run_more, run_one, Reaches, call_leads_on, KnownPlaces, PlacesLaws, BoundsScans, SnapState, snapshot}
use Rattle.model_snapshot.specs.SnapCalls.{SnapCall, fresh_over, next, IsReply}
use Rattle.model_snapshot.specs.Snapshot.{SnapObject, SnapBounds, bounds_over, new_object, observed, Allows, SnapshotSpec}
use Rattle.model_snapshot.proofs.cited.Following.{law_holds}

module _ {S H : Type 0} (next : S → H → S) (Right : S → H → Type 0) where
  -- the last call of a run
  pub record LastCall (s : S) (r : List H) (h : H) (end : S) : Type 0 where
    pub mid : S
    pub run : Run next Right s r mid
    pub right : Right mid h
    pub goes : end ≡ next mid h

  pub run_last : (s : S) (r : List H) (h : H) (end : S) → Run next Right s (r ++ h ∷ []) end → LastCall s r h end
  run_last s [] h end k = record { mid = s; run = refl; right = k.0; goes = k.1 }
  run_last s (x ∷ r) h end k = let i = run_last (next s x) r h end k.1 in record { mid = i.mid; run = (k.0, i.run); right = i.right; goes = i.goes }

module _ {S R V U K : Type 0} (W : KnownPlaces S R V U K) (laws : PlacesLaws W) where
  -- both are after the same calls
  pub record AreAfter (bounds : SnapBounds) (first : S) (w : SnapState S U K) (o : SnapObject) : Type 0 where
    pub calls : List SnapCall
    pub world : Reaches (snapshot W) first w calls
    pub object : Run observed (Allows bounds) new_object calls o

  pub after_none : (bounds : SnapBounds) (first : S) → AreAfter bounds first (fresh_over W first) new_object
  after_none bounds first = record { calls = []; world = record { started = tt; run = refl }; object = refl }

  -- one more call: the object allows it
  pub after_more : (first : S) (scanning : ℕ → ℕ) → W.ties.IsNew first → BoundsScans W (W.most_of first) scanning → (w : SnapState S U K) (o : SnapObject) (h : SnapCall) →
      AreAfter (bounds_over W first scanning) first w o → IsReply W w h →
      AreAfter (bounds_over W first scanning) first (next W w h) (observed o h) × Allows (bounds_over W first scanning) o h
  after_more first scanning new fits w o h k is =
      let bounds : SnapBounds = bounds_over W first scanning in
      let more : Reaches (snapshot W) first (next W w h) (k.calls ++ h ∷ []) = call_leads_on (snapshot W) w (next W w h) h refl is first k.calls k.world in
      let law : SnapshotSpec bounds (k.calls ++ h ∷ []) = law_holds W laws (next W w h) first (k.calls ++ h ∷ []) more new scanning fits in
      let l : LastCall observed (Allows bounds) new_object k.calls h law.0 = run_last observed (Allows bounds) new_object k.calls h law.0 law.1 in
      let same : l.mid ≡ o = run_one observed (Allows bounds) new_object k.calls l.mid o l.run k.object in
      let right : Allows bounds o h = subst (λ (x : SnapObject). Allows bounds x h) same l.right in
      (record { calls = k.calls ++ h ∷ []; world = more; object = run_more observed (Allows bounds) new_object k.calls o h k.object right }, right)
