-- an allocation failure refuses no step but those on a way to a place
use Rattle.std.proofs.Common.{◌≡◌, ◌⊎◌, inl, inr, ℕ, true, false, cond, Option, Some, None, refl, sym, ap, ◌∙◌, option_map}
use Rattle.model_snapshot.proofs.Common.{Record, participant_of, may_refuse_by, Client, Pending, KnownPlaces, PlacesLaws}
use Rattle.model_snapshot.specs.declared.client.Pending.TheVariants.{Nothing, Placing, Scan, Update, Write as Writing}
use Rattle.model_snapshot.specs.Client.{write_at, access_for, record_of}
use Rattle.model_snapshot.specs.SnapWorld.{SnapState, clients_over, IsOnWay, LacksOnWay}

module _ {S R V U K : Type 0} (t : KnownPlaces S R V U K) (laws : PlacesLaws t) where
  sure_write_at : (s : S) (place : Option ℕ) (r : Record) → t.memory.may_refuse s (write_at t.walker t.place_of t.walks place r) ≡ false
  sure_write_at s None r = laws.sure_nothing s
  sure_write_at s (Some x) r = laws.sure_writes s x (Some r)

  -- an access is one on the way to a place, or is not refused
  pub on_way_or_sure : (s : S) (c : Client U K) (z : Pending) → (z ≡ Placing) ⊎ (t.memory.may_refuse s (access_for t.walker t.place_of t.walks c z) ≡ false)
  on_way_or_sure s c Nothing = inr (laws.sure_nothing s)
  on_way_or_sure s c Placing = inl refl
  on_way_or_sure s c Scan = inr (laws.sure_reads s (t.walks.next c.scan.walk))
  on_way_or_sure s c (Update value) = inr (laws.sure_reads s (t.walks.next c.scan.walk))
  on_way_or_sure s c (Writing value view) = inr (sure_write_at s (t.place_of c.walker) (record_of c value view))

  pub lacks_on_way : (w : SnapState S U K) (p : ℕ) → LacksOnWay t w p
  lacks_on_way w p = elim (participant_of p w.participants) as (λ o. participant_of p w.participants ≡ o → may_refuse_by (clients_over t) t.memory w.memory o ≡ true → IsOnWay t w p) [
    | None ↦ λ e h. absurd (cc)
    | Some v ↦ λ e. elim v.ended as (λ b. cond b false (t.memory.may_refuse w.memory ((clients_over t).next v.program)) ≡ true → IsOnWay t w p) [
      | true ↦ λ h. absurd (cc)
      | false ↦ λ h. elim (on_way_or_sure w.memory v.program v.program.pending) [
        | inl pending ↦ (v.program, ap (option_map (λ u. u.program)) e, pending)
        | inr sure ↦ absurd (let two : true ≡ false = sym h ∙ sure in cc)
      ]
    ]
  ] refl
