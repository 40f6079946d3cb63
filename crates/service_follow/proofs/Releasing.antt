-- what was added to a log, in the steps of a call
use Rattle.std.proofs.Common.{◌≡◌, ◌⊎◌, ℕ, List, map, inl, inr, sym, subst}
use Rattle.model_asked.specs.declared.config.Config.{Config}
use Rattle.service_log.specs.Places.{Adds, Same}
use Rattle.service_log.specs.ReplicaState.{ReplicaState}
use Rattle.service_follow.specs.Batches.{batch_of}
use Rattle.service_follow.specs.Decided.{HasLooked, HasRead, IsDecided, next_read, release_lines}
use Rattle.service_follow.specs.StayState.{StayState}
use Rattle.service_follow.specs.Watched.{watched}
use Rattle.service_follow.specs.declared.watches.Watch.{Watch}

pub same_then : (before mid after : ℕ → List ℕ → Type 0) → Same before mid → Same mid after → Same before after
same_then before mid after one two = record {
  keeps = λ place entry stood. two.keeps place entry (one.keeps place entry stood);
  only = λ place entry stood. one.only place entry (two.only place entry stood);
}

pub adds_then : (before mid after : ℕ → List ℕ → Type 0) (at : ℕ) (written : List ℕ) → Same before mid → Adds mid at written after → Adds before at written after
adds_then before mid after at written one two = record {
  keeps = λ place entry stood. two.keeps place entry (one.keeps place entry stood);
  only = λ place entry stood. elim (two.only place entry stood) [
    | inl stood_before ↦ inl (one.only place entry stood_before)
    | inr is_written ↦ inr is_written
  ];
}

-- a release that was offered behind all that was read was decided by it
pub decided_after : {S : Type 0} (lacks : S → ℕ → Type 0) (stood mid stands : ℕ → List ℕ → Type 0) (config config' : Config) (r : ReplicaState StayState) (token : List ℕ) (count : ℕ) (left : List ℕ)
    (grace tick : ℕ) (watches : List Watch) → HasRead lacks stood config r → Same stood mid → config' ≡ config →
    (Same mid stands ⊎ Adds mid r.place (batch_of token count (release_lines token left grace tick watches r.machine)) stands) →
    Same stood stands ⊎ IsDecided lacks stood stands config' token count left grace tick watches
decided_after lacks stood mid stands config config' r token count left grace tick watches read same config_is (inl nothing) = inl (same_then stood mid stands same nothing)
decided_after lacks stood mid stands config config' r token count left grace tick watches read same config_is (inr adds) = inr (record {
  at = r;
  read = subst (λ (c : Config). HasRead lacks stood c r) (sym config_is) read;
  adds = adds_then stood mid stands r.place (batch_of token count (release_lines token left grace tick watches r.machine)) same adds;
})

pub looked_after : {S : Type 0} (lacks : S → ℕ → Type 0) (stood : ℕ → List ℕ → Type 0) (config config' : Config) (r : ReplicaState StayState) (tick tick' : ℕ) (watches watches' : List Watch) →
    HasRead lacks stood config r → config' ≡ config → (tick' ≡ next_read tick) × (watches' ≡ map (watched tick' watches) r.machine.kept) → HasLooked lacks stood config' tick tick' watches watches'
looked_after lacks stood config config' r tick tick' watches watches' read config_is looked = record {
  at = r;
  read = subst (λ (c : Config). HasRead lacks stood c r) (sym config_is) read;
  counted = looked.0;
  looked = looked.1;
}

-- nothing was added
pub same_self : (stands : ℕ → List ℕ → Type 0) → Same stands stands
same_self stands = record { keeps = λ place entry stood. stood; only = λ place entry stood. stood }
