-- places that names are given over, by their trait
use Rattle.std.proofs.Common.{◌≡◌, ℕ, ◌+◌, ◌*◌, ◌==◌, true, [], arith, is_some}
use Rattle.std.proofs.lemmas.Nat.{mul-le}
use Rattle.model_renaming.proofs.Common.{PlacesLaws, KnownPlaces, is_tree, WorldKind, Allows, after, new_object, RenameState, name_in, owner_by, shown_by}
use Rattle.model_snapshot.specs.SnapWorld.{SnapState, may_lack_memory}
use Rattle.model_steps.specs.Machine.{SatisfiesSpec, RefusesWhereDue, IsProved}
use Rattle.model_steps.proofs.cited.MachineLemmas.{machine_proved}
use Rattle.model_steps.proofs.cited.RunLemmas.{run_answers}
use Rattle.model_renaming.specs.Machine.{renaming, IsName, IsOwnerOf, IsLastMoment, AnswersUnrefused, MakesOwnAccess, terms_of}
use Rattle.model_renaming.proofs.Names.{MayBeNamed, rename_law, name_law, owner_law, shown_law, answered_law, own_law}

module _ {S R V U K : Type 0} (W : KnownPlaces S R V U K) (laws : PlacesLaws W) (kind : WorldKind)
    (may_grow : (s : SnapState S U K) (p : ℕ) → may_lack_memory W s p ≡ true → is_tree kind ≡ true)
    (at_once : (b q : ℕ) → is_some (W.place_of (W.walker_from b q)) ≡ (W.ties.placing 1 == 0)) where
  abbrev all_reads : ℕ → ℕ → ℕ
  all_reads most b = (b + 1) * W.ties.reads most b

  -- as many collects as have begun and one more, of as many reads as there may be
  by_collects : (most : ℕ) → MayBeNamed W (is_tree kind) most (all_reads most)
  by_collects most = record { laws = laws; fits = λ b some l. omega arith; may_grow = λ s p h. may_grow s.snap p h; at_once = at_once; longer = λ b. mul-le (b + 1) (W.ties.reads most b) (b + 1 + 1) (W.ties.reads most (b + 1)) (omega arith) (laws.rising most b) }

  pub law_always : (w : RenameState S U K) → SatisfiesSpec (renaming W kind) w
  law_always w first r a = rename_law W kind (all_reads (W.most_of first.0)) first (by_collects (W.most_of first.0)) w r a

  due_always : (w : RenameState S U K) → RefusesWhereDue (renaming W kind) w
  due_always w first r a =
      let law = law_always w first r a in
      run_answers after (Allows (terms_of W kind first)) new_object r law.object law.run

  -- so renaming is proved
  pub renaming_proved : IsProved (renaming W kind)
  renaming_proved = machine_proved (renaming W kind) law_always due_always

  pub name_is : (w : RenameState S U K) (p : ℕ) → IsName W kind w p (name_in w p)
  name_is w p first r a o run = name_law W kind (all_reads (W.most_of first.0)) first (by_collects (W.most_of first.0)) w r a o run p

  pub owner_is : (w : RenameState S U K) (n : ℕ) → IsOwnerOf W kind w n (owner_by n w.rounds)
  owner_is w n first r a o run = owner_law W kind (all_reads (W.most_of first.0)) first (by_collects (W.most_of first.0)) w r a o run n

  pub last_moment : (w : RenameState S U K) → IsLastMoment W kind w (shown_by [] w.rounds)
  last_moment w first r a = shown_law W kind (all_reads (W.most_of first.0)) first (by_collects (W.most_of first.0)) w r a

  pub answers_unrefused : (w : RenameState S U K) (p : ℕ) → AnswersUnrefused W kind w p
  answers_unrefused w p first r a = answered_law W kind (all_reads (W.most_of first.0)) first (by_collects (W.most_of first.0)) w r a p

  pub own_access : (w : RenameState S U K) (p : ℕ) → MakesOwnAccess W kind w p
  own_access w p first r a = own_law W kind (all_reads (W.most_of first.0)) first (by_collects (W.most_of first.0)) w r a p
