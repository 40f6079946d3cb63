-- a renaming world in which nobody has begun
use Rattle.std.proofs.Common.{◌≡◌, ◌≤◌, ◌⊎◌, inl, ℕ, Bool, true, false, [], IfOk, IfErr, Result, Ok, Err, sym, ◌∙◌}
use Rattle.model_renaming.proofs.Common.{Refusal, NoMemory, KnownPlaces, WorldKind, RenameState, renaming}
use Rattle.model_renaming.specs.Machine.{IsFresh}
use Rattle.model_renaming.specs.RenameWorld.{fresh_world}
use Rattle.model_steps.specs.Machine.{Reaches, SatisfiesSpec}
use Rattle.model_steps.specs.declared.refusal.Refusal.TheVariants.{OutOfRange}

module _ {S R V U K : Type 0} (W : KnownPlaces S R V U K) (kind : WorldKind) (first : S) (most limit : ℕ) (new : W.ties.IsNew first) (room : W.most_of first ≡ most) where
  -- of each that was made over these places
  pub are_fresh : (r : Result (RenameState S U K) Refusal) → IfOk r (λ w. w ≡ fresh_world first most limit) → IfOk r (λ w. IsFresh W most limit w)
  are_fresh (Ok w) is = record { first = first; new = new; room = room; is = is }
  are_fresh (Err why) is = tt

  pub are_started : 1 ≤ limit → limit ≤ 1000000 → (r : Result (RenameState S U K) Refusal) → IfOk r (λ w. w ≡ fresh_world first most limit) → IfOk r (λ w. Reaches (renaming W kind) (first, limit) w [])
  are_started low high (Ok w) is = record { started = record { new = new; low = low; high = high }; run = rw room is }
  are_started low high (Err why) is = tt

  pub are_lawful : ((w : RenameState S U K) → SatisfiesSpec (renaming W kind) w) → (r : Result (RenameState S U K) Refusal) → IfOk r (λ w. SatisfiesSpec (renaming W kind) w)
  are_lawful law (Ok w) = law w
  are_lawful law (Err why) = tt

-- why none was made
pub only_for_memory : {X : Type 0} (r : Result X Refusal) → IfErr r (λ why. why ≡ NoMemory) → IfErr r (λ why. (why ≡ NoMemory) ⊎ (why ≡ OutOfRange))
only_for_memory (Ok x) p = tt
only_for_memory (Err why) p = inl p

-- no refusal because an allocation failed is one of a range
pub refused_for : {X : Type 0} (r : Result X Refusal) → IfErr r (λ why. why ≡ NoMemory) → r ≡ Err OutOfRange → ⊥
refused_for (Ok x) p e = cc
refused_for (Err why) p e = let is : why ≡ OutOfRange = cc in let never : NoMemory ≡ OutOfRange = sym p ∙ is in cc

pub never_both : (b : Bool) → b ≡ true → b ≡ false → ⊥
never_both true h k = cc
never_both false h k = cc
