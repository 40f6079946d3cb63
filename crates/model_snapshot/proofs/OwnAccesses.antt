-- a participant's access is one for what it has to do
use Rattle.std.proofs.Common.{◌≡◌, ℕ, length, Some, None, refl, ap, subst, option_map}
use Rattle.model_snapshot.proofs.Common.{participant_of, Client, Pending, access_for, Task, SnapObject}
use Rattle.model_snapshot.specs.declared.client.Pending.TheVariants.{Nothing, Placing, Scan, Update, Write as Writing}
use Rattle.model_snapshot.specs.SnapWorld.{SnapState, clients_over, SparesSegments, IsAccessFor, way_now, ways_of}
use Rattle.model_snapshot.proofs.LawfulPlaces.{LawfulPlaces}
use Rattle.model_snapshot.proofs.Tied.{Era, IsAtTask, IsTied, era_now}

module _ {S R V U K : Type 0} (t : LawfulPlaces S R V U K) (s : S) where
  access_at_task : (e : Era S) (task : Task) (steps since : ℕ) (c : Client U K) → (t.known.place_of c.walker ≡ None → SparesSegments t.known s (t.known.walker.next c.walker)) →
      (z : Pending) → IsAtTask t e task steps since c z → IsAccessFor t.known s c z (access_for t.known.walker t.known.place_of t.known.walks c z)
  access_at_task e task steps since c spares Nothing k = refl
  access_at_task e task steps since c spares Placing k = (t.laws.plain c.walker, spares k.0)
  access_at_task e task steps since c spares Scan k = (t.known.walks.next c.scan.walk, refl)
  access_at_task e task steps since c spares (Update value) k = (t.known.walks.next c.scan.walk, refl)
  access_at_task e task steps since c spares (Writing value view) k = (k.0, k.1, rw k.1 refl)

module _ {S R V U K : Type 0} (t : LawfulPlaces S R V U K) where
  pub access_tied : (w : SnapState S U K) (o : SnapObject) (i : IsTied t w o) (p : ℕ) (c : Client U K) → option_map (λ v. v.program) (participant_of p w.participants) ≡ Some c → IsAccessFor t.known w.memory c c.pending ((clients_over t.known).next c)
  access_tied w o i p c is = elim (participant_of p w.participants) as (λ z. participant_of p w.participants ≡ z → option_map (λ v. v.program) z ≡ Some c → IsAccessFor t.known w.memory c c.pending ((clients_over t.known).next c)) [
    | None ↦ λ e h. absurd (cc)
    | Some v ↦ λ e h.
        let same : v.program ≡ c = cc in
        let way : ways_of w.participants p ≡ Some v.program.walker = ap way_now e in
        let spares : t.known.place_of v.program.walker ≡ None → SparesSegments t.known w.memory (t.known.walker.next v.program.walker) =
        λ none. (t.laws.gone_on w.memory (length w.participants) (ways_of w.participants) i.consistent p v.program.walker way none).segments in
        let own : IsAccessFor t.known w.memory v.program v.program.pending ((clients_over t.known).next v.program) =
        access_at_task t w.memory (era_now t w o i) (o.task p) (o.steps p) (o.since p) v.program spares v.program.pending (i.clients p v e).at in
        subst (λ (z : Client U K). IsAccessFor t.known w.memory z z.pending ((clients_over t.known).next z)) same own
  ] refl is
