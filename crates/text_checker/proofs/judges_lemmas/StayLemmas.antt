-- what is kept of the pool after each reply
use Rattle.std.proofs.Common.{◌≡◌, ◌≢◌, ℕ, ◌+◌, ◌-◌, ◌<◌, ◌≤◌, ◌==◌, inl, inr, false, not, cond, List, [], ◌∷◌, ◌++◌, length, take, replicate, refl, sym, ap, ◌∙◌, subst, arith, Some, None, Option, is_some, Ok, filter, length-append, MatchOption, option_map}
use Rattle.text_checker.proofs.judges_lemmas.Common.{list_any, cases_Bool, ne_eqb, eqb_tells, Participant, set_at, set_at-same, set_at-other, set_at-cases, set_at-is, set_at-map, Entered, Probed, Left, may_widen, Pooled}
use Rattle.std.proofs.lemmas.List.{length-map, length-replicate, take_all}
use Rattle.model_steps.specs.Participant.{AreDistinct, beginner, identities, participant_of, program_of, with_participant}
use Rattle.model_steps.proofs.cited.DistinctParticipants.{distinct_put, distinct_push, identities-put, identities-push}
use Rattle.model_pool.specs.PoolObject.{competes, no_entry, no_probe, IsFree}
use Rattle.model_pool.specs.Widening.{widen_refusal}
use Rattle.model_pool.specs.declared.probe.Probe.TheVariants as probe
use Rattle.model_pool.specs.slots.SlotsObject.{SlotsObject, slots_after}
use Rattle.text_checker.specs.declared.judges.stays.Stay.{Stay}
use Rattle.text_checker.specs.declared.judges.stays.Stays.{Stays}
use Rattle.text_checker.specs.judges.Stays.{held_by, last_probe, HoldsSlots, widened_to}
use Rattle.text_checker.proofs.judges_lemmas.seats.People.{absent, none_kept, program_of-push, program_of-put, seen_kept, seen_set}

-- who is in the list of identities is found
competes_is : (cs : List (Participant Stay)) (q : ℕ) → list_any (λ x. x == q) (identities cs) ≡ is_some (program_of q cs)
competes_is [] q = refl
competes_is (v ∷ vs) q = elim (eqb_tells v.identity q) [
  | inl y ↦ rw y.0 refl
  | inr y ↦ rw y.0 (competes_is vs q)
]

-- ---- one who leaves

abbrev pub without : {P : Type 0} → ℕ → List (Participant P) → List (Participant P)
without p cs = filter (λ v. not (v.identity == p)) cs

identities-without : (cs : List (Participant Stay)) (p : ℕ) → identities (without p cs) ≡ filter (λ q. not (q == p)) (identities cs)
identities-without [] p = refl
identities-without (v ∷ vs) p = elim (eqb_tells v.identity p) [
  | inl y ↦ rw y.0 (identities-without vs p)
  | inr y ↦ rw y.0 (ap (λ xs. v.identity ∷ xs) (identities-without vs p))
]

found_without : {P : Type 0} (cs : List (Participant P)) (p q : ℕ) → q ≢ p → participant_of q (without p cs) ≡ participant_of q cs
found_without [] p q d = refl
found_without (v ∷ vs) p q d = elim (eqb_tells v.identity p) [
  | inl y ↦ let ne : (v.identity == q) ≡ false = ne_eqb v.identity q (λ e. d (sym e ∙ y.1)) in rw (y.0, ne) (found_without vs p q d)
  | inr y ↦ rw y.0 (ap (λ z. cond (v.identity == q) (Some v) z) (found_without vs p q d))
]

gone_without : (cs : List (Participant Stay)) (p : ℕ) → participant_of p (without p cs) ≡ None
gone_without [] p = refl
gone_without (v ∷ vs) p = elim (eqb_tells v.identity p) [
  | inl y ↦ rw y.0 (gone_without vs p)
  | inr y ↦ rw (y.0, y.0) (gone_without vs p)
]

participant_of-without : (cs : List (Participant Stay)) (p q : ℕ) → participant_of q (without p cs) ≡ set_at (λ v. participant_of v cs) p None q
participant_of-without cs p q =
    set_at-cases (λ v. participant_of v cs) p None (λ x. participant_of q (without p cs) ≡ x) q (λ e. ap (λ x. participant_of x (without p cs)) e ∙ gone_without cs p) (found_without cs p q)

pub distinct_without : {P : Type 0} (cs : List (Participant P)) (p : ℕ) → AreDistinct cs → AreDistinct (without p cs)
distinct_without [] p a = tt
distinct_without (v ∷ vs) p a = elim (eqb_tells v.identity p) [
  | inl y ↦ rw y.0 (distinct_without vs p a.1)
  | inr y ↦ rw y.0 (found_without vs p v.identity y.1 ∙ a.0, distinct_without vs p a.1)
]

-- ---- one for whom something else is kept, or nothing any more

-- a stay of which so many probes are counted in a pool of this size
record IsStay (size probes : ℕ) (stay : Stay) : Type 0 where
  counted : probes ≡ stay.probes
  few : stay.held ≡ None → stay.probes < last_probe size
  in_range : (n : ℕ) → stay.held ≡ Some n → (1 ≤ n) × (n ≤ size)

module _ (s s' : Stays) (o : SlotsObject ℕ) (p : ℕ) (new : Option Stay) (competing : List ℕ) (held : ℕ → Option ℕ) (probes : ℕ → ℕ) (h : HoldsSlots s o) where
  abbrev seen : ℕ → Option Stay
  seen = set_at (λ v. program_of v s.competitors) p new

  holds_so : ((q : ℕ) → program_of q s'.competitors ≡ seen q) → s'.most ≡ s.most → s'.size ≡ s.size → s'.values ≡ s.values → competing ≡ identities s'.competitors → AreDistinct s'.competitors →
      ((q : ℕ) → held q ≡ held_by (seen q)) → MatchOption new (Unit {0}) (λ stay. IsStay o.pool.size (probes p) stay) → ((q : ℕ) → q ≢ p → probes q ≡ o.pool.probes q) →
      HoldsSlots s' (record { pool = record { most = o.pool.most; size = o.pool.size; competing = competing; held = held; probes = probes }; values = o.values })
  holds_so who most size values competing_is distinct held_is own other = record {
    most_is = most ∙ h.most_is;
    size_is = size ∙ h.size_is;
    low = h.low;
    high = h.high;
    bound = h.bound;
    competing = competing_is;
    competes = λ q. ap (list_any (λ x. x == q)) competing_is ∙ competes_is s'.competitors q;
    crowd = ap length competing_is ∙ length-map s'.competitors (λ v. v.identity);
    held = λ q. held_is q ∙ sym (ap held_by (who q));
    probes = λ q stay is. (each q stay is).counted;
    few = λ q stay is. (each q stay is).few;
    in_range = λ q stay n is. (each q stay is).in_range n;
    apart = distinct;
    values = h.values ∙ sym (ap (λ v. v.items) values);
    many = h.many;
  }
    where
      each : (q : ℕ) (stay : Stay) → program_of q s'.competitors ≡ Some stay → IsStay o.pool.size (probes q) stay
      each q stay is = elim (set_at-is (λ v. program_of v s.competitors) p new q (Some stay) (sym (who q) ∙ is)) [
        | inl w ↦ subst (λ (x : ℕ). IsStay o.pool.size (probes x) stay) (sym w.0) (subst (λ (x : Option Stay). MatchOption x (Unit {0}) (λ t. IsStay o.pool.size (probes p) t)) w.1 own)
        | inr w ↦ record { counted = other q w.0 ∙ h.probes q stay w.1; few = h.few q stay w.1; in_range = λ n. h.in_range q stay n w.1 }
      ]

-- who may enter does not compete, and there is room
pub may_enter : (s : Stays) (o : SlotsObject ℕ) (p : ℕ) → HoldsSlots s o → no_entry o.pool p ≡ None → program_of p s.competitors ≡ None
may_enter s o p h none = elim (cases_Bool (p == 0)) [
  | inl z ↦ absurd (let k = rw z at none in cc)
  | inr z ↦ elim (cases_Bool (competes o.pool p)) [
    | inl b ↦ absurd (let k = rw (z, b) at none in cc)
    | inr b ↦ absent (program_of p s.competitors) (sym (h.competes p) ∙ b)
  ]
]

pub entered : (s s' : Stays) (o : SlotsObject ℕ) (p : ℕ) → HoldsSlots s o → no_entry o.pool p ≡ None → s'.competitors ≡ s.competitors ++ beginner p (record { probes = 0; held = None }) ∷ [] →
    s'.most ≡ s.most → s'.size ≡ s.size → s'.values ≡ s.values → HoldsSlots s' (slots_after o (Pooled (Entered p (Ok tt))))
entered s s' o p h none items most size values =
    let cs : List (Participant Stay) = s.competitors in
    let new : Stay = record { probes = 0; held = None } in
    let free = may_enter s o p h none in
    let stay : IsStay o.pool.size (set_at o.pool.probes p 0 p) new = record { counted = set_at-same o.pool.probes p 0; few = λ _. omega arith; in_range = λ n e. absurd (cc) } in
    holds_so s s' o p (Some new) (o.pool.competing ++ p ∷ []) o.pool.held (set_at o.pool.probes p 0) h (λ q. ap (program_of q) items ∙ program_of-push cs p new free q) most size values
    (ap (λ ids. ids ++ p ∷ []) h.competing ∙ sym (identities-push cs (beginner p new)) ∙ sym (ap identities items)) (rw items (distinct_push cs (beginner p new) (none_kept (participant_of p cs) free) h.apart))
    (seen_kept held_by o.pool.held (λ v. program_of v cs) p (Some new) h.held (ap held_by free)) stay (set_at-other o.pool.probes p 0)

pub left : (s s' : Stays) (o : SlotsObject ℕ) (p n : ℕ) → HoldsSlots s o → s'.competitors ≡ without p s.competitors → s'.most ≡ s.most → s'.size ≡ s.size → s'.values ≡ s.values →
    HoldsSlots s' (slots_after o (Pooled (Left p (Ok n))))
left s s' o p n h items most size values =
    let cs : List (Participant Stay) = s.competitors in
    let who : (q : ℕ) → program_of q s'.competitors ≡ set_at (λ v. program_of v cs) p None q =
    (λ q. ap (program_of q) items ∙ ap (option_map (λ v. v.program)) (participant_of-without cs p q) ∙ set_at-map (option_map (λ v. v.program)) (λ v. participant_of v cs) p None q) in
    holds_so s s' o p None (filter (λ q. not (q == p)) o.pool.competing) (set_at o.pool.held p None) o.pool.probes h who most size values
    (ap (filter (λ q. not (q == p))) h.competing ∙ sym (identities-without cs p) ∙ sym (ap identities items)) (rw items (distinct_without cs p h.apart))
    (seen_set held_by o.pool.held (λ v. program_of v cs) p None None h.held refl) tt (λ q d. refl)

-- one who may probe, and of whom one probe more is counted
module _ (s s' : Stays) (o : SlotsObject ℕ) (p : ℕ) (old : Stay) (probes : ℕ) (h : HoldsSlots s o) (is : program_of p s.competitors ≡ Some old) (none : no_probe o.pool p ≡ None)
    (counts : old.probes < 65536 → probes ≡ old.probes + 1) (most : s'.most ≡ s.most) (size : s'.size ≡ s.size) (values : s'.values ≡ s.values) where
  unheld : old.held ≡ None
  unheld = elim (cases_Bool (competes o.pool p)) [
    | inl b ↦ elim (cases_Bool (is_some (o.pool.held p))) [
      | inl k ↦ absurd (let w = rw (b, k) at none in cc)
      | inr k ↦ absent old.held (sym (ap is_some (h.held p ∙ ap held_by is)) ∙ k)
    ]
    | inr b ↦ absurd (let w = rw b at none in cc)
  ]

  -- it has not made so many probes that one more would not fit
  one_more : probes ≡ old.probes + 1
  one_more = let few = h.few p old is unheld in let high = h.high in let bound = h.bound in counts (omega arith)

  probed : (holds : Option ℕ) (held : ℕ → Option ℕ) → s'.competitors ≡ with_participant (beginner p (record { probes = probes; held = holds })) s.competitors →
      ((q : ℕ) → held q ≡ held_by (set_at (λ v. program_of v s.competitors) p (Some (record { probes = probes; held = holds })) q)) →
      (holds ≡ None → old.probes + 1 < last_probe o.pool.size) → ((n : ℕ) → holds ≡ Some n → (1 ≤ n) × (n ≤ o.pool.size)) →
      HoldsSlots s' (record { pool = record o.pool { held = held; probes = set_at o.pool.probes p (o.pool.probes p + 1) }; values = o.values })
  probed holds held items held_is few in_range =
      let cs : List (Participant Stay) = s.competitors in
      let new : Stay = record { probes = probes; held = holds } in
      let more = set_at o.pool.probes p (o.pool.probes p + 1) in
      let stay : IsStay o.pool.size (more p) new = record {
        counted = set_at-same o.pool.probes p (o.pool.probes p + 1) ∙ ap (λ x. x + 1) (h.probes p old is) ∙ sym one_more;
        few = λ e. rw one_more (few e);
        in_range = in_range;
      } in
      holds_so s s' o p (Some new) o.pool.competing held more h (λ q. ap (program_of q) items ∙ program_of-put cs p old new is q) most size values
      (h.competing ∙ sym (identities-put cs (beginner p new)) ∙ sym (ap identities items)) (rw items (distinct_put cs (beginner p new) h.apart)) held_is stay (set_at-other o.pool.probes p (o.pool.probes p + 1))

  pub missed : o.pool.probes p + 1 ≢ last_probe o.pool.size → s'.competitors ≡ with_participant (beginner p (record { probes = probes; held = None })) s.competitors →
      HoldsSlots s' (slots_after o (Pooled (Probed p (Ok probe.Missed))))
  missed more items =
      let few = h.few p old is unheld in
      let counted = h.probes p old is in
      probed None o.pool.held items (seen_kept held_by o.pool.held (λ v. program_of v s.competitors) p (Some _) h.held (ap held_by is ∙ unheld)) (λ _. omega arith) (λ n e. absurd (cc))

  pub got : (n : ℕ) → IsFree o.pool n → s'.competitors ≡ with_participant (beginner p (record { probes = probes; held = Some n })) s.competitors →
      HoldsSlots s' (slots_after o (Pooled (Probed p (Ok (probe.Got n)))))
  got n free items =
      probed (Some n) (set_at o.pool.held p (Some n)) items (seen_set held_by o.pool.held (λ v. program_of v s.competitors) p (Some _) (Some n) h.held refl) (λ e. absurd (cc))
      (λ m e. let same : n ≡ m = cc in subst (λ (x : ℕ). (1 ≤ x) × (x ≤ o.pool.size)) same (free.first, free.last))

-- ---- a pool that gets more numbers, each with a slot that holds 0

pub widened : (s s' : Stays) (o : SlotsObject ℕ) (more : ℕ) → HoldsSlots s o → widen_refusal o.pool.most o.pool.size more ≡ None → s'.competitors ≡ s.competitors →
    s'.most ≡ s.most → s'.size ≡ more → s'.values.items ≡ take more s.values.items ++ replicate (more - length s.values.items) 0 → HoldsSlots s' (widened_to more o)
widened s s' o more h none items most size values =
    let may = may_widen o.pool.most o.pool.size more none in
    let wider : o.pool.size < more = may.0 in
    let low = h.low in
    let many : length o.values ≡ o.pool.size = h.many in
    let old : s.values.items ≡ o.values = sym h.values in
    let who : (q : ℕ) → program_of q s'.competitors ≡ program_of q s.competitors = (λ q. ap (program_of q) items) in
    record {
      most_is = most ∙ h.most_is;
      size_is = size;
      low = omega arith;
      high = may.1;
      bound = h.bound;
      competing = h.competing ∙ sym (ap identities items);
      competes = (λ q. h.competes q ∙ sym (ap is_some (who q)));
      crowd = h.crowd ∙ sym (ap length items);
      held = (λ q. h.held q ∙ sym (ap held_by (who q)));
      probes = (λ q stay is. h.probes q stay (sym (who q) ∙ is));
      few = (λ q stay is unheld. let few = h.few q stay (sym (who q) ∙ is) unheld in omega arith);
      in_range = (λ q stay n is has. let r = h.in_range q stay n (sym (who q) ∙ is) has in let last = r.1 in (r.0, omega arith));
      apart = rw items h.apart;
      values = sym (values ∙ ap (λ xs. take more xs ++ replicate (more - length xs) 0) old ∙ ap (λ xs. xs ++ replicate (more - length o.values) 0) (take_all more o.values (omega arith)));
      many = omega (arith, length-append o.values (replicate (more - length o.values) 0), length-replicate {A = ℕ} (more - length o.values) 0, many, wider);
    }
