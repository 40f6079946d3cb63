-- over places that do not go by the order of beginning, all who begin under one identity are alike
use Rattle.std.proofs.Common.{◌≡◌, ℕ, Bool, List, [], ◌∷◌, ◌++◌, Some, None, sym, ap, ◌∙◌, is_some, option_map}
use Rattle.model_renaming.proofs.Common.{Call, set_at-same, participant_of, beginner, begin_refusal, participant_of-push, Client, beginner_at, is_tree, WorldKind, StepReply, Round, client_of, round_of, wished, renaming, BeginsTheSame, Reaches, RenameState, first_round, first_wish}
use Rattle.model_snapshot.specs.Places.{KnownPlaces, PlacesLaws, BeginsAlike}
use Rattle.model_snapshot.proofs.cited.Following.{begins_the_same}
use Rattle.model_renaming.specs.RenameWorld.{begun_snap, has_place, after_rename_begin}
use Rattle.model_renaming.proofs.LocalSteps.{wish_becomes}
use Rattle.model_renaming.proofs.rounds.StepCases.{begun_own, begun_placed, no_round}
use Rattle.model_renaming.proofs.Names.{MayBeNamed, most_is, snap_after, joined_law}

module _ {S R V U K : Type 0} (W : KnownPlaces S R V U K) (w : RenameState S U K) (p : ℕ) (goes : begin_refusal w.snap p ≡ None) (new : participant_of p w.rounds ≡ None) where
  abbrev c : Client U K
  c = beginner_at W w.snap p

  -- the client and the round of one who begins
  pub begun_client : client_of p (after_rename_begin W w p) ≡ Some (wished (first_wish (is_some (W.place_of c.walker))) c)
  begun_client = rw goes ((wish_becomes (begun_snap W w p) p (beginner p c) (begun_own W w p goes) (first_wish (has_place W w p))).own ∙ ap (λ (b : Bool). Some (wished (first_wish b) c)) (begun_placed W w p goes))

  pub begun_round : round_of p (after_rename_begin W w p) ≡ Some (first_round (is_some (W.place_of c.walker)))
  begun_round =
      let r : Round = first_round (has_place W w p) in
      let there : participant_of p (w.rounds ++ beginner p r ∷ []) ≡ Some (beginner p r) = participant_of-push w.rounds (beginner p r) new p ∙ set_at-same (λ u. participant_of u w.rounds) p (Some (beginner p r)) in
      rw goes (ap (option_map (λ u. u.program)) there ∙ ap (λ (b : Bool). Some (first_round b)) (begun_placed W w p goes))

module _ {S R V U K : Type 0} (W : KnownPlaces S R V U K) (laws : PlacesLaws W) (kind : WorldKind) (scanning : ℕ → ℕ → ℕ) (named : (most : ℕ) → MayBeNamed W (is_tree kind) most (scanning most)) where
  absent_round : (w : RenameState S U K) (first : S × ℕ) (r : List (Call StepReply)) → Reaches (renaming W kind) first w r → (p : ℕ) → begin_refusal w.snap p ≡ None → participant_of p w.rounds ≡ None
  absent_round w first r a p goes = no_round W w p goes (joined_law W kind (scanning (W.most_of first.0)) first (named (W.most_of first.0)) w r a p)

  pub begins_alike : BeginsAlike W → (p : ℕ) → BeginsTheSame W kind p
  begins_alike alike p w x first second r s a b size goes too =
      let one = snap_after W kind (scanning (W.most_of first.0)) first (named (W.most_of first.0)) w r a in
      let other = snap_after W kind (scanning (W.most_of second.0)) second (named (W.most_of second.0)) x s b in
      let sizes : W.most_of first.0 ≡ W.most_of second.0 = most_is W kind (scanning (W.most_of first.0)) first (named (W.most_of first.0)) w r a ∙ size ∙ sym (most_is W kind (scanning (W.most_of second.0)) second (named (W.most_of second.0)) x s b) in
      let same : beginner_at W w.snap p ≡ beginner_at W x.snap p = begins_the_same W laws alike p first.0 second.0 w.snap x.snap one.0 other.0 a.started.new b.started.new sizes one.1 other.1 in (
        begun_client W w p goes (absent_round w first r a p goes) ∙ ap (λ (d : Client U K). Some (wished (first_wish (is_some (W.place_of d.walker))) d)) same ∙ sym (begun_client W x p too (absent_round x second s b p too)),
        begun_round W w p goes (absent_round w first r a p goes) ∙ ap (λ (d : Client U K). Some (first_round (is_some (W.place_of d.walker)))) same ∙ sym (begun_round W x p too (absent_round x second s b p too)),
      )
