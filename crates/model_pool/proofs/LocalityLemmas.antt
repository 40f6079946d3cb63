-- the calls of a competitor are local
use Rattle.std.proofs.Common.{◌≡◌, ℕ, true, false, cond, List, Option, Some, None, Ok, Err, refl, sym, ap, subst, ◌∙◌, is_some, nat_lt}
use Rattle.model_pool.proofs.Common.{Refusal, NotCompeting, Holding, NotHolding, set_at, Competitor, Stay, Seeking, Settled, stay_of, with_stay, without, holder_in, PoolState, probe_answer, probe_answer_by, after_probe, after_probe_by, got_by, number_answer, number_by, after_leave, after_leave_by, set_at-same, set_at-other}
use Rattle.model_steps.specs.declared.access.Access.TheVariants.{TestAndSet, Clear, Nothing}
use Rattle.model_steps.specs.lemmas.RegisterProofs.{others_kept}
use Rattle.model_steps.specs.Registers.{register_of, answer_of, after_access}
use Rattle.model_steps.specs.Steps.{Spares, SetsOrClears}
use Rattle.model_pool.specs.Stay.{probe_access, stay_probed, stay_found, probe_reply, leave_access}
use Rattle.model_pool.specs.Widening.{widen_access}
use Rattle.model_pool.specs.Locality.{ChangesOnly, OwnSteps, got_in, Indistinguishable, StandAlike, probe_steps, leave_steps}
use Rattle.model_steps.proofs.cited.LocalityLemmas.{answer_alike}
use Rattle.model_pool.proofs.StayOfLemmas.{stay_of-with_stay, stay_of-without}

module _ {O : Type 0} (steps : OwnSteps O) (id : ℕ) (w : PoolState) where
  -- a call that is refused changes nothing
  pub refused_local : (why : Refusal) → ChangesOnly steps id w w (Err why)
  refused_local why = record { access = λ stay h. tt; reply = λ stay h. tt; own = λ stay h. tt; others = λ q n. refl; registers = λ stay h r spared. refl; absent = λ h. refl; size = refl }

  -- an accepted call of one who stands so
  accepted_local : (stay : Stay) (cs : List Competitor) → stay_of id w.competitors ≡ Some stay →
      ((q : ℕ) → stay_of q cs ≡ set_at (λ v. stay_of v w.competitors) id (steps.stay w.size stay (got_in steps w stay)) q) →
      ChangesOnly steps id w (record { most = w.most; size = w.size; bits = after_access w.bits (steps.access w.size stay); competitors = cs }) (Ok (steps.reply w.size stay (got_in steps w stay)))
  accepted_local stay cs here stands =
      let own : (x : Stay) → stay_of id w.competitors ≡ Some x → stay ≡ x = λ x h. (let e : Some stay ≡ Some x = sym here ∙ h in cc) in
      let left : Option Stay = steps.stay w.size stay (got_in steps w stay) in
      record {
        access = λ x h. ap (λ (y : Stay). after_access w.bits (steps.access w.size y)) (own x h);
        reply = λ x h. ap (λ (y : Stay). steps.reply w.size y (got_in steps w y)) (own x h);
        own = λ x h. stands id ∙ set_at-same (λ v. stay_of v w.competitors) id left ∙ ap (λ (y : Stay). steps.stay w.size y (got_in steps w y)) (own x h);
        others = λ q n. stands q ∙ set_at-other (λ v. stay_of v w.competitors) id left q n;
        registers = λ x h r spared. others_kept w.bits (steps.access w.size stay) r (subst (λ (y : Stay). Spares (steps.access w.size y) r) (sym (own x h)) spared);
        absent = λ h. absurd (let k = sym here ∙ h in cc);
        size = refl;
      }

module _ (id : ℕ) (w : PoolState) where
  probe_local_by : (o : Option Stay) → stay_of id w.competitors ≡ o → ChangesOnly probe_steps id w (after_probe_by w id o) (probe_answer_by w o)
  probe_local_by None e = refused_local probe_steps id w NotCompeting
  probe_local_by (Some (Settled number)) e = refused_local probe_steps id w Holding
  probe_local_by (Some (Seeking next)) e =
      let new : Stay = stay_probed w.size (Seeking next) (got_by w (Seeking next)) in
      accepted_local probe_steps id w (Seeking next) (with_stay id new w.competitors) e (stay_of-with_stay w.competitors id new (ap is_some e))

  pub probe_local : ChangesOnly probe_steps id w (after_probe w id) (probe_answer w id)
  probe_local = probe_local_by (stay_of id w.competitors) refl

  leave_local_by : (o : Option Stay) → stay_of id w.competitors ≡ o → ChangesOnly leave_steps id w (after_leave_by w id o) (number_by o)
  leave_local_by None e = refused_local leave_steps id w NotCompeting
  leave_local_by (Some (Seeking next)) e = refused_local leave_steps id w NotHolding
  leave_local_by (Some (Settled number)) e = accepted_local leave_steps id w (Settled number) (without id w.competitors) e (stay_of-without w.competitors id)

  pub leave_local : ChangesOnly leave_steps id w (after_leave w id) (number_answer w id)
  leave_local = leave_local_by (stay_of id w.competitors) refl

-- where a competitor stands after its probe, and after it has left
abbrev stay_probed_by : PoolState → Option Stay → Option Stay
stay_probed_by w (Some (Seeking next)) = Some (stay_probed w.size (Seeking next) (got_by w (Seeking next)))
stay_probed_by w o = o

abbrev stay_left_by : Option Stay → Option Stay
stay_left_by (Some (Seeking next)) = Some (Seeking next)
stay_left_by o = None

module _ (id : ℕ) (w : PoolState) where
  stay_after_probe : (o : Option Stay) → stay_of id w.competitors ≡ o → stay_of id (after_probe_by w id o).competitors ≡ stay_probed_by w o
  stay_after_probe (Some (Seeking next)) here =
      let new : Stay = stay_probed w.size (Seeking next) (got_by w (Seeking next)) in
      stay_of-with_stay w.competitors id new (ap is_some here) id ∙ set_at-same (λ v. stay_of v w.competitors) id (Some new)
  stay_after_probe o here = here

  stay_after_leave : (o : Option Stay) → stay_of id w.competitors ≡ o → stay_of id (after_leave_by w id o).competitors ≡ stay_left_by o
  stay_after_leave (Some (Settled number)) here = stay_of-without w.competitors id id ∙ set_at-same (λ v. stay_of v w.competitors) id None
  stay_after_leave o here = here

module _ (id : ℕ) (one other : PoolState) where
  -- pools that look alike to a competitor answer it alike, and it stands alike in them afterwards
  module _ (alike : Indistinguishable probe_steps id one other) where
    probed_alike : (next : ℕ) → stay_of id one.competitors ≡ Some (Seeking next) →
        stay_probed one.size (Seeking next) (got_by one (Seeking next)) ≡ stay_probed other.size (Seeking next) (got_by other (Seeking next))
    probed_alike next here =
        ap (λ x. stay_found one.size next x) (answer_alike (register_of one.bits) (register_of other.bits) (probe_access one.size (Seeking next)) (alike.bit (Seeking next) here))
        ∙ ap (λ (n : ℕ). stay_found n next (answer_of other.bits (probe_access n (Seeking next)))) alike.size

    answers_alike : (o : Option Stay) → stay_of id one.competitors ≡ o → probe_answer_by one o ≡ probe_answer_by other o
    answers_alike (Some (Seeking next)) here = ap (λ s. Ok (probe_reply s)) (probed_alike next here)
    answers_alike o here = refl

    pub probe_alike : probe_answer one id ≡ probe_answer other id
    probe_alike = answers_alike (stay_of id one.competitors) refl ∙ ap (probe_answer_by other) alike.stay

    stands_alike : (o : Option Stay) → stay_of id one.competitors ≡ o → stay_probed_by one o ≡ stay_probed_by other o
    stands_alike (Some (Seeking next)) here = ap (λ (s : Stay). Some s) (probed_alike next here)
    stands_alike o here = refl

    pub probe_stands : StandAlike id (after_probe one id) (after_probe other id)
    probe_stands =
        stay_after_probe id one (stay_of id one.competitors) refl ∙ stands_alike (stay_of id one.competitors) refl
        ∙ ap (stay_probed_by other) alike.stay ∙ sym (stay_after_probe id other (stay_of id other.competitors) refl)

  pub leave_stands : Indistinguishable leave_steps id one other → StandAlike id (after_leave one id) (after_leave other id)
  leave_stands alike = stay_after_leave id one (stay_of id one.competitors) refl ∙ ap stay_left_by alike.stay ∙ sym (stay_after_leave id other (stay_of id other.competitors) refl)

-- the accesses of a competitor set a bit, clear one, or reach none
pub own_probe : (size : ℕ) (stay : Stay) → SetsOrClears (probe_access size stay)
own_probe size (Seeking next) = elim (nat_lt next size) as (λ b. SetsOrClears {V = Unit {0}} (cond b (TestAndSet next) Nothing)) [ true ↦ tt | false ↦ tt ]
own_probe size (Settled number) = tt

pub own_leave : (size : ℕ) (stay : Stay) → SetsOrClears (leave_access size stay)
own_leave size (Seeking next) = tt
own_leave size (Settled number) = elim (nat_lt number size) as (λ b. SetsOrClears {V = Unit {0}} (cond b (Clear number) Nothing)) [ true ↦ tt | false ↦ tt ]

-- and so does that of widening
pub widening : (w : PoolState) → SetsOrClears (widen_access w)
widening w = elim (holder_in w.size w.competitors) as (λ o. SetsOrClears {V = Unit {0}} (cond (is_some o) (TestAndSet w.size) Nothing)) [ None ↦ tt | Some p ↦ tt ]
