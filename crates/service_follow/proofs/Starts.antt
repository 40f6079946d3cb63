-- a machine that is blind at a later place of a log, beside one that read all of it
use Rattle.std.proofs.Common.{◌≡◌, ◌⊎◌, ℕ, Bool, true, false, if◌then◌else◌, Option, Some, None, List, [], ◌∷◌, inl, inr, refl, sym, ap, subst, ◌∙◌}
use Rattle.std.proofs.lemmas.Bool.Decides.{eqb_tells}
use Rattle.service_follow.proofs.Common.{Config, HallState, HallApplies, HallServes, ReplyQueueState, Runs, Turn, Answered, Reported, Ended, Misread, ShownReply}
use Rattle.model_steps.specs.declared.refusal.Refusal.{Refusal}
use Rattle.model_asked.specs.declared.event.Event.{Event}
use Rattle.service_hall.specs.Halls.{HallMay, after_unless, hall_of, hall_refusal}
use Rattle.service_hall.specs.Reading.{stored}
use Rattle.service_hall.proofs.cited.ReadingLemmas.{stored_run}
use Rattle.service_log.specs.Groups.{StaysAlike}
use Rattle.service_log.specs.Places.{stands_in}
use Rattle.service_log.specs.Replicas.{IsReplica, IsReplicaFrom, Leads}
use Rattle.service_log.specs.ReplicaState.{ReplicaState}
use Rattle.service_log.proofs.cited.Late.{late_alike}
use Rattle.service_follow.specs.Entries.{rules_of}
use Rattle.service_follow.specs.Marks.{mark_of, next_in}
use Rattle.service_follow.specs.Stays.{AppliesBy, EndsFrom, GoesOnFrom, LetsGo, ReadsPart, StayApplies, TakesIfKnown, TakesLines, blind_of, start_of, stays_of, told_by}
use Rattle.service_follow.specs.StayState.{StayState}
use Rattle.service_follow.specs.declared.gathering.Gathering.{Gathering}
use Rattle.service_follow.specs.declared.marks.Mark.{Mark}
use Rattle.service_follow.specs.declared.marks.Mark.TheVariants.{Ordinary, Begins, GoesOn, Ends}
use Rattle.service_follow.proofs.Keepers.{retold_config, same_part, stays_determined}

-- a hall answers, and is of the config that it was
after_config : (o : Option Refusal) (h : HallState) (e : Event) → (after_unless o h e).config ≡ h.config
after_config None h e = refl
after_config (Some why) h e = refl

may_config : (h : HallState) (e : Event) (r : ShownReply) (u : HallState) → HallMay h e r u → u.config ≡ h.config
may_config h e r u (inl m) = ap (λ (s : HallState). s.config) m.1 ∙ after_config (hall_refusal h e) h e
may_config h e r u (inr m) = ap (λ (s : HallState). s.config) m.1

runs_config : (h u : HallState) (ts : List Turn) → Runs HallServes h ts u → u.config ≡ h.config
runs_config h u [] run = ap (λ (s : HallState). s.config) (sym run)
runs_config h u (Answered x ∷ ts) run = runs_config run.0 u ts run.2 ∙ may_config h x.event x.reply run.0 run.1
runs_config h u (Reported n r ∷ ts) run = runs_config run.0 u ts run.2 ∙ ap (λ (s : HallState). s.config) run.1.1
runs_config h u (Ended ∷ ts) run = runs_config h u ts run
runs_config h u (Misread bad ∷ ts) run = runs_config h u ts run

hall_config : (h : HallState) (entry : List ℕ) (said : ReplyQueueState) (u : HallState) → HallApplies h entry said u → u.config ≡ h.config
hall_config h entry said u a = runs_config h u (stored (rules_of entry) a.turns) (stored_run (rules_of entry) h u a.turns a.run)

-- all is known still, of a hall of the same config
pub record IsKnown (w u : StayState) : Type 0 where
  pub blind : u.blind ≡ false
  pub config : u.hall.config ≡ w.hall.config

gathered_known : (w u : StayState) (o : Option Gathering) → w.blind ≡ false → u ≡ record w { gathered = o } → IsKnown w u
gathered_known w u o known is = record {
  blind = ap (λ (s : StayState). s.blind) is ∙ known;
  config = ap (λ (s : StayState). s.hall.config) is;
}

on_known : (o : Option Gathering) (w : StayState) (entry : List ℕ) (said : ReplyQueueState) (u : StayState) → w.blind ≡ false → GoesOnFrom o w entry said u → IsKnown w u
on_known None w entry said u known a = gathered_known w u None known a.state
on_known (Some part) w entry said u known a = gathered_known w u (Some a.part) known a.state

end_known : (o : Option Gathering) (w : StayState) (entry : List ℕ) (said : ReplyQueueState) (u : StayState) → w.blind ≡ false → EndsFrom o w entry said u → IsKnown w u
end_known None w entry said u known a = gathered_known w u None known a.state
end_known (Some part) w entry said u known a = record { blind = ap (λ (s : StayState). s.blind) a.state; config = retold_config w.hall u.hall (a.same known).hall }

mark_known : (mark : Mark) (w : StayState) (entry : List ℕ) (said : ReplyQueueState) (u : StayState) → w.blind ≡ false → AppliesBy mark w entry said u → IsKnown w u
mark_known Ordinary w entry said u known a =
    let lines : TakesLines w entry said u = subst (λ (b : Bool). TakesIfKnown b w entry said u) known a in
    record { blind = lines.blind; config = hall_config w.hall entry said u.hall lines.hall }
mark_known Begins w entry said u known a = gathered_known w u (Some a.part) known a.state
mark_known GoesOn w entry said u known a = on_known (next_in w.gathered entry) w entry said u known a
mark_known Ends w entry said u known a = end_known (next_in w.gathered entry) w entry said u known a

-- one is blind, and read of a compaction what the other one did, or nothing
record IsBlindTo (a b : StayState) : Type 0 where
  blind : b.blind ≡ true
  config : b.hall.config ≡ a.hall.config
  gathered : (b.gathered ≡ None) ⊎ (b.gathered ≡ a.gathered)

abbrev IsAlike : StayState → StayState → Type 0
IsAlike a b = (a.blind ≡ false) × ((b ≡ a) ⊎ IsBlindTo a b)

module _ (a b a' b' : StayState) (entry : List ℕ) (said other : ReplyQueueState) (so : IsBlindTo a b) (config : a'.hall.config ≡ a.hall.config) where
  blind_by : (o : Option Gathering) → b' ≡ record b { gathered = o } → (o ≡ None) ⊎ (o ≡ a'.gathered) → IsBlindTo a' b'
  blind_by o is there = record {
    blind = ap (λ (s : StayState). s.blind) is ∙ so.blind;
    config = ap (λ (s : StayState). s.hall.config) is ∙ (so.config ∙ sym config);
    gathered = subst (λ (p : Option Gathering). (p ≡ None) ⊎ (p ≡ a'.gathered)) (sym (ap (λ (s : StayState). s.gathered) is)) there;
  }

  gone_blind : LetsGo b other b' → IsBlindTo a' b'
  gone_blind h = blind_by None h.state (inl refl)

  part_blind : (from : HallState) → ReadsPart from a entry said a' → ReadsPart from b entry other b' → IsBlindTo a' b'
  part_blind from h k =
      let one = same_part from entry k.part h.part k.gathers h.gathers in
      blind_by (Some k.part) k.state (inr (ap (λ (g : Gathering). Some g) one ∙ sym (ap (λ (s : StayState). s.gathered) h.state)))

  on_blind : (o : Option Gathering) → GoesOnFrom o a entry said a' → GoesOnFrom o b entry other b' → IsBlindTo a' b'
  on_blind None h k = gone_blind k
  on_blind (Some part) h k = part_blind part.halls h k

  end_blind : (o : Option Gathering) → EndsFrom o a entry said a' → EndsFrom o b entry other b' → (b' ≡ a') ⊎ IsBlindTo a' b'
  end_blind None h k = inr (gone_blind k)
  end_blind (Some part) h k =
      let one = same_part part.halls entry k.part h.part k.gathers h.gathers in
      inl (k.state ∙ (ap (λ (g : Gathering). told_by g entry) one ∙ sym h.state))

  mark_blind : (mark : Mark) → AppliesBy mark a entry said a' → AppliesBy mark b entry other b' → (b' ≡ a') ⊎ IsBlindTo a' b'
  mark_blind Ordinary h k = inr (gone_blind (subst (λ (t : Bool). TakesIfKnown t b entry other b') so.blind k))
  mark_blind Begins h k = inr (part_blind (hall_of a.hall.config []) h (subst (λ (c : Config). ReadsPart (hall_of c []) b entry other b') so.config k))
  mark_blind GoesOn h k = elim so.gathered [
    | inl none ↦ inr (gone_blind (subst (λ (o : Option Gathering). GoesOnFrom (next_in o entry) b entry other b') none k))
    | inr same ↦ inr (on_blind (next_in a.gathered entry) h (subst (λ (o : Option Gathering). GoesOnFrom (next_in o entry) b entry other b') same k))
  ]
  mark_blind Ends h k = elim so.gathered [
    | inl none ↦ inr (gone_blind (subst (λ (o : Option Gathering). EndsFrom (next_in o entry) b entry other b') none k))
    | inr same ↦ end_blind (next_in a.gathered entry) h (subst (λ (o : Option Gathering). EndsFrom (next_in o entry) b entry other b') same k)
  ]

stays_alike : StaysAlike StayApplies IsAlike
stays_alike a b entry said other a' b' alike h k =
    let known = mark_known (mark_of entry) a entry said a' alike.0 h in (
      known.blind,
      elim alike.1 [
        | inl same ↦ inl (stays_determined a entry other said b' a' (subst (λ (s : StayState). StayApplies s entry other b') same k) h).1
        | inr so ↦ mark_blind a b a' b' entry said other so known.config (mark_of entry) h k
      ],
    )

-- of a hall that the log led from its first entry on all is known
pub led_known : (w m : StayState) (es : List (List ℕ)) → w.blind ≡ false → Leads StayApplies w es m → IsKnown w m
led_known w m [] known led = subst (IsKnown w) led (record { blind = known; config = refl })
led_known w m (e ∷ es) known led =
    let one = mark_known (mark_of e) w e led.0 led.1 known led.2 in
    let rest = led_known led.1 m es one.blind led.3 in
    record { blind = rest.blind; config = rest.config ∙ one.config }

blind_there : (config : Config) (before : List (List ℕ)) (m : StayState) → Leads StayApplies (stays_of config) before m → IsAlike m (blind_of config)
blind_there config before m led =
    let known = led_known (stays_of config) m before refl led in
    (known.blind, inr (record { blind = refl; config = sym known.config; gathered = inl refl }))

known_alike : (a b : StayState) → IsAlike a b → b.blind ≡ false → a ≡ b
known_alike a b (known, inl same) sees = sym same
known_alike a b (known, inr so) sees = absurd (let bad : true ≡ false = sym so.blind ∙ sees in cc)

pub later_start : ((log : List (List ℕ)) (config : Config) (a b : ReplicaState StayState) → IsReplica StayApplies (stands_in log) (stays_of config) a → IsReplica StayApplies (stands_in log) (stays_of config) b →
    a.poisoned ≡ false → b.poisoned ≡ false → a.place ≡ b.place → a.machine ≡ b.machine) →
    (config : Config) (log : List (List ℕ)) (from : ℕ) (a b : ReplicaState StayState) → IsReplica StayApplies (stands_in log) (stays_of config) a →
    IsReplicaFrom StayApplies (stands_in log) from (start_of config from) b → a.poisoned ≡ false → b.poisoned ≡ false → a.place ≡ b.place → b.machine.blind ≡ false → a.machine ≡ b.machine
later_start agree config log from a b ha hb wa wb place sees =
    let P : Bool → Type 0 = λ t. IsReplicaFrom StayApplies (stands_in log) from (if t then stays_of config else blind_of config) b in
    elim (eqb_tells from 0) [
      | inl e ↦ agree log config a b ha (subst (λ (n : ℕ). IsReplicaFrom StayApplies (stands_in log) n (stays_of config) b) e.1 (subst P e.0 hb)) wa wb place
      | inr e ↦ known_alike a.machine b.machine (late_alike StayApplies IsAlike stays_alike (stays_of config) (blind_of config) (blind_there config) log from a b ha (subst P e.0 hb) wa wb place) sees
    ]
