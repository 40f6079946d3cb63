-- Replicas that share one log, of which one takes a step.
use Rattle.std.proofs.Common.{◌≡◌, Bool, true, false, cond, ℕ, zero, suc, ◌+◌, ◌-◌, ◌<◌, ◌≤◌, ◌≢◌, List, [], ◌∷◌, ◌++◌, length, Some, None, slice_get, slice_set, get_or, ◌⊎◌, inl, inr, refl, ap, sym, subst, ◌∙◌, arith, append-nil, add-zero, add-one, append_assoc, length-append}
use mathlib.Core.List.{IsPrefix}
use Rattle.std.specs.List.{All}
use Rattle.std.proofs.lemmas.List.Elements.{All-append, All-cons, All-nil}
use Rattle.service_log.specs.GroupState.{GroupState}
use Rattle.service_log.specs.Groups.{IsDetermined, IsDueIn, IsOneHistory, Reported, StaysOneHistory, TellsOneMore}
use Rattle.service_log.specs.Places.{Adds, stands_in}
use Rattle.service_log.specs.Replicas.{HasApplied, IsAnswered, IsReplica, Leads, StandsFrom}
use Rattle.service_log.specs.ReplicaState.{ReplicaState}
use Rattle.service_log.proofs.Chains.{due_at, still}

pub prefix_trans : (xs ys zs : List (List ℕ)) → IsPrefix xs ys → IsPrefix ys zs → IsPrefix xs zs
prefix_trans xs ys zs p q = (p.0 ++ q.0, sym (append_assoc xs p.0 q.0) ∙ (ap (λ w. w ++ q.0) p.1 ∙ q.1))

-- what stands behind the first entry of a log
stands_after : (first : List ℕ) (log : List (List ℕ)) (place : ℕ) (es : List (List ℕ)) → StandsFrom (stands_in (first ∷ log)) (place + 1) es → StandsFrom (stands_in log) place es
stands_after first log place [] h = tt
stands_after first log place (e ∷ es) h =
    let at : place + 1 ≡ suc place = add-one place in
    (subst (λ (k : ℕ). stands_in (first ∷ log) k e) at h.0, stands_after first log (place + 1) es h.1)

-- entries that stand from the first place on are a prefix of the log
pub stands_prefix : (es log : List (List ℕ)) → StandsFrom (stands_in log) 0 es → IsPrefix es log
stands_prefix [] log h = (log, refl)
stands_prefix (e ∷ es) [] h = let bad : None ≡ Some e = h.0 in absurd cc
stands_prefix (e ∷ es) (x ∷ log) h =
    let first : Some x ≡ Some e = h.0 in
    let rest = stands_prefix es log (stands_after x log 0 es h.1) in
    (rest.0, cc (rest.1, first))

-- a log that keeps all that stood has gone on
stands_all : (log more : List (List ℕ)) (keeps : (place : ℕ) (entry : List ℕ) → stands_in log place entry → stands_in more place entry) → IsPrefix log more
stands_all [] more keeps = (more, refl)
stands_all (x ∷ log) [] keeps = let bad : None ≡ Some x = keeps zero x refl in absurd cc
stands_all (x ∷ log) (y ∷ more) keeps =
    let first : Some y ≡ Some x = keeps zero x refl in
    let rest = stands_all log more (λ place entry h. keeps (suc place) entry h) in
    (rest.0, cc (rest.1, first))

-- another replica is as it was
pub others_stay : {A : Type 0} (applied : List A) (at : ℕ) (one : A) (other : ℕ) → (other ≡ at → ⊥) → slice_get (slice_set applied at one) other ≡ slice_get applied other
others_stay [] at one other differ = refl
others_stay (first ∷ applied) zero one zero differ = absurd (differ refl)
others_stay (first ∷ applied) zero one (suc other) differ = refl
others_stay (first ∷ applied) (suc at) one zero differ = refl
others_stay (first ∷ applied) (suc at) one (suc other) differ = others_stay applied at one other (λ e. differ (ap suc e))

-- nothing stands behind the end
pub stands_within : (log : List (List ℕ)) (more : ℕ) (entry : List ℕ) → stands_in log (length log + more) entry → ⊥
stands_within [] more entry h = cc h
stands_within (first ∷ log) more entry h =
    let e : length (first ∷ log) + more ≡ suc (length log + more) = omega arith in
    stands_within log more entry (subst (λ (k : ℕ). stands_in (first ∷ log) k entry) e h)

pub never_both : (log : List (List ℕ)) (place : ℕ) (entry : List ℕ) → length log ≤ place → stands_in log place entry → ⊥
never_both log place entry behind h =
    let at : place ≡ length log + (place - length log) = omega (arith, behind) in
    stands_within log (place - length log) entry (subst (λ (k : ℕ). stands_in log k entry) at h)

-- what stands first behind a prefix
pub stands_behind : (log : List (List ℕ)) (entry : List ℕ) (more : List (List ℕ)) → stands_in (log ++ entry ∷ more) (length log) entry
stands_behind [] entry more = refl
stands_behind (first ∷ log) entry more = stands_behind log entry more

pub stands_next : (log : List (List ℕ)) (one two : List ℕ) (more : List (List ℕ)) → stands_in (log ++ one ∷ two ∷ more) (suc (length log)) two
stands_next [] one two more = refl
stands_next (first ∷ log) one two more = stands_next log one two more

-- a log to which at most this entry was added, at one place, is the old one or has it behind
pub added_last : (old more : List (List ℕ)) (at : ℕ) (batch : List ℕ) → Adds (stands_in old) at batch (stands_in (old ++ more)) → (old ++ more ≡ old) ⊎ (old ++ more ≡ old ++ batch ∷ [])
added_last old [] at batch adds = inl (append-nil old)
added_last old (x ∷ []) at batch adds =
    elim (adds.only (length old) x (stands_behind old x [])) [
      | inl h ↦ absurd (stands_within old 0 x (subst (λ (k : ℕ). stands_in old k x) (sym (add-zero (length old))) h))
      | inr h ↦ inr (ap (λ e. old ++ e ∷ []) h.1)
    ]
added_last old (x ∷ y ∷ more) at batch adds =
    elim (adds.only (length old) x (stands_behind old x (y ∷ more))) [
      | inl h ↦ absurd (stands_within old 0 x (subst (λ (k : ℕ). stands_in old k x) (sym (add-zero (length old))) h))
      | inr h ↦ elim (adds.only (suc (length old)) y (stands_next old x y more)) [
        | inl g ↦ absurd (stands_within old 1 y (subst (λ (k : ℕ). stands_in old k y) (sym (add-one (length old))) g))
        | inr g ↦ absurd (omega (arith, h.0, g.0))
      ]
    ]

pub added_log : (old new : List (List ℕ)) (at : ℕ) (batch : List ℕ) → Adds (stands_in old) at batch (stands_in new) → (new ≡ old) ⊎ (new ≡ old ++ batch ∷ [])
added_log old new at batch adds =
    let longer = stands_all old new adds.keeps in
    let P : List (List ℕ) → Type 0 = λ log. (log ≡ old) ⊎ (log ≡ old ++ batch ∷ []) in
    subst P longer.1 (added_last old longer.0 at batch (subst (λ (log : List (List ℕ)). Adds (stands_in old) at batch (stands_in log)) (sym longer.1) adds))

module _ {M R : Type 0} (applies : M → List ℕ → R → M → Type 0) (start : M) where
  -- one replica took a step on a log that was kept
  module _ (old new : List (List ℕ)) (keeps : (place : ℕ) (entry : List ℕ) → stands_in old place entry → stands_in new place entry) where
    due_still : (reported : Reported R) → IsDueIn applies start old reported → IsDueIn applies start new reported
    due_still reported h = record {
      before = h.before;
      stands = prefix_trans (h.before ++ reported.batch ∷ []) old new h.stands (stands_all old new keeps);
      was = h.was;
      is = h.is;
      led = h.led;
      due = h.due;
    }

    -- the replicas of a list of which one is another now
    all_still : (replicas : List (ReplicaState M)) (at : ℕ) (one : ReplicaState M) → All (IsReplica applies (stands_in old) start) replicas → IsReplica applies (stands_in new) start one → All (IsReplica applies (stands_in new) start) (slice_set replicas at one)
    all_still [] at one all h = All-nil (IsReplica applies (stands_in new) start)
    all_still (first ∷ rest) zero one all h =
        All-cons (IsReplica applies (stands_in new) start) one rest h (λ k d within. still applies (stands_in old) (stands_in new) keeps 0 start (get_or rest k d) (all (suc k) d (omega (arith, within))))
    all_still (first ∷ rest) (suc at) one all h =
        All-cons (IsReplica applies (stands_in new) start) first (slice_set rest at one) (still applies (stands_in old) (stands_in new) keeps 0 start first (all zero first (omega arith)))
        (all_still rest at one (λ k d within. all (suc k) d (omega (arith, within))) h)

    pub history_after : (replicas : List (ReplicaState M)) (at : ℕ) (one : ReplicaState M) → IsReplica applies (stands_in new) start one → (reported : List (Reported R)) → IsOneHistory applies start old replicas reported → IsOneHistory applies start new (slice_set replicas at one) reported
    history_after replicas at one follows reported h = record {
      prefixes = all_still replicas at one h.prefixes follows;
      answers = λ k d within. due_still (get_or reported k d) (h.answers k d within);
    }

  -- the replies to a batch that was served are due at its place
  pub due_there : (log : List (List ℕ)) (old new : ReplicaState M) (batch : List ℕ) (replies : R) → HasApplied applies (stands_in log) start old → IsAnswered applies (stands_in log) old batch new replies → IsDueIn applies start log (record { batch = batch; replies = replies })
  due_there log old new batch replies had so =
      let due = due_at applies (stands_in log) (stands_in log) (λ place entry h. h) 0 start old new batch replies (λ well. had) so in
      record {
        before = due.before;
        stands = stands_prefix (due.before ++ batch ∷ []) log due.stood;
        was = due.was;
        is = new.machine;
        led = due.led;
        due = due.due;
      }

  -- what is reported behind all others
  pub history_reported : (log : List (List ℕ)) (replicas : List (ReplicaState M)) (reported : List (Reported R)) (last : Reported R) → IsOneHistory applies start log replicas reported → IsDueIn applies start log last → IsOneHistory applies start log replicas (reported ++ last ∷ [])
  history_reported log replicas reported last h due = record {
    prefixes = h.prefixes;
    answers = All-append (IsDueIn applies start log) reported (last ∷ []) h.answers (All-cons (IsDueIn applies start log) last [] due (All-nil (IsDueIn applies start log)));
  }

  -- who joins has applied nothing
  pub joined : (log : List (List ℕ)) (replicas : List (ReplicaState M)) (reported : List (Reported R)) → IsOneHistory applies start log replicas reported → IsOneHistory applies start log (replicas ++ record { machine = start; place = 0; poisoned = false; behind = false } ∷ []) reported
  joined log replicas reported h =
      let P : ReplicaState M → Type 0 = IsReplica applies (stands_in log) start in
      let new : ReplicaState M = record { machine = start; place = 0; poisoned = false; behind = false } in
      record {
        prefixes = All-append P replicas (new ∷ []) h.prefixes (All-cons P new [] (λ well. record { entries = []; led = refl; stood = tt; count = refl }) (All-nil P));
        answers = h.answers;
      }

  pub pushed : (done : Bool) (log : List (List ℕ)) (replicas now : List (ReplicaState M)) (added : ReplicaState M) → added ≡ record { machine = start; place = 0; poisoned = false; behind = false } → now ≡ cond done (replicas ++ added ∷ []) replicas →
      (reported : List (Reported R)) → IsOneHistory applies start log replicas reported → IsOneHistory applies start log now reported
  pushed true log replicas now added new is reported h =
      subst (λ (rs : List (ReplicaState M)). IsOneHistory applies start log rs reported) (sym (is ∙ ap (λ r. replicas ++ r ∷ []) new)) (joined log replicas reported h)
  pushed false log replicas now added new is reported h = subst (λ (rs : List (ReplicaState M)). IsOneHistory applies start log rs reported) (sym is) h

-- a group that another group is, seen in another way, of which one replica took a step
module _ {M : Type 0} {inside seen : GroupState M} (is : inside ≡ seen) where
  pub grown : (new : List (List ℕ)) (at : ℕ) (batch : List ℕ) → Adds (stands_in inside.log) at batch (stands_in new) → (new ≡ seen.log) ⊎ (new ≡ seen.log ++ batch ∷ [])
  grown new at batch adds = subst (λ (s : GroupState M). (new ≡ s.log) ⊎ (new ≡ s.log ++ batch ∷ [])) is (added_log inside.log new at batch adds)

  pub beside : (at : ℕ) (one : ReplicaState M) (other : ℕ) → other ≢ at → slice_get (slice_set inside.replicas at one) other ≡ slice_get seen.replicas other
  beside at one other differ = subst (λ (s : GroupState M). slice_get (slice_set inside.replicas at one) other ≡ slice_get s.replicas other) is (others_stay inside.replicas at one other differ)

  module _ {R : Type 0} (applies : M → List ℕ → R → M → Type 0) (start : M) (new : List (List ℕ)) (keeps : (place : ℕ) (entry : List ℕ) → stands_in inside.log place entry → stands_in new place entry)
      (at : ℕ) (within : at < length seen.replicas) (was now : ReplicaState M) (there : was ≡ get_or inside.replicas at was)
      (follows : IsReplica applies (stands_in inside.log) start was → IsReplica applies (stands_in new) start now) where
    -- it was led from the start, as all were
    was_led : All (IsReplica applies (stands_in inside.log) start) inside.replicas → IsReplica applies (stands_in inside.log) start was
    was_led all =
        let P : ReplicaState M → Type 0 = IsReplica applies (stands_in inside.log) start in
        subst P (sym there) (all at was (subst (λ (s : GroupState M). at < length s.replicas) (sym is) within))

    goes_on : (reported : List (Reported R)) → IsOneHistory applies start inside.log inside.replicas reported → IsOneHistory applies start new (slice_set inside.replicas at now) reported
    goes_on reported h = history_after applies start inside.log new keeps inside.replicas at now (follows (was_led h.prefixes)) reported h

    -- so the group stays one history
    pub stays : StaysOneHistory applies start seen (record { log = new; replicas = slice_set inside.replicas at now })
    stays = subst (λ (s : GroupState M). StaysOneHistory applies start s (record { log = new; replicas = slice_set inside.replicas at now })) is goes_on

    -- and is one with the replies to a batch that was answered
    pub tells : (batch : List ℕ) (replies : R) → IsAnswered applies (stands_in new) was batch now replies → TellsOneMore applies start seen (record { log = new; replicas = slice_set inside.replicas at now }) batch replies
    tells batch replies so =
        subst (λ (s : GroupState M). TellsOneMore applies start s (record { log = new; replicas = slice_set inside.replicas at now }) batch replies) is (λ reported h.
        history_reported applies start new (slice_set inside.replicas at now) reported (record { batch = batch; replies = replies }) (goes_on reported h)
        (due_there applies start new was now batch replies (still applies (stands_in inside.log) (stands_in new) keeps 0 start was (was_led h.prefixes) so.was_well) so))

-- prefixes of one list, of one length, are the same
same_prefix : (es fs log : List (List ℕ)) → IsPrefix es log → IsPrefix fs log → length es ≡ length fs → es ≡ fs
same_prefix [] [] log p q n = refl
same_prefix [] (f ∷ fs) log p q n = absurd (omega (arith, n))
same_prefix (e ∷ es) [] log p q n = absurd (omega (arith, n))
same_prefix (e ∷ es) (f ∷ fs) [] p q n = let bad : (e ∷ es) ++ p.0 ≡ [] = p.1 in absurd cc
same_prefix (e ∷ es) (f ∷ fs) (x ∷ log) p q n =
    let pe : e ∷ (es ++ p.0) ≡ x ∷ log = p.1 in
    let qe : f ∷ (fs ++ q.0) ≡ x ∷ log = q.1 in
    let pt : es ++ p.0 ≡ log = cc pe in
    let qt : fs ++ q.0 ≡ log = cc qe in
    let rest = same_prefix es fs log (p.0, pt) (q.0, qt) (omega (arith, n)) in
    cc (pe, qe, rest)

same_last : (es fs : List (List ℕ)) (e f : List ℕ) → length es ≡ length fs → es ++ e ∷ [] ≡ fs ++ f ∷ [] → (es ≡ fs) × (e ≡ f)
same_last [] [] e f n h = (refl, cc h)
same_last [] (y ∷ fs) e f n h = absurd (omega (arith, n))
same_last (x ∷ es) [] e f n h = absurd (omega (arith, n))
same_last (x ∷ es) (y ∷ fs) e f n h =
    let t : es ++ e ∷ [] ≡ fs ++ f ∷ [] = cc h in
    let rest = same_last es fs e f (omega (arith, n)) t in
    (cc (h, rest.0), rest.1)

module _ {M R : Type 0} (applies : M → List ℕ → R → M → Type 0) (determined : IsDetermined applies) where
  same_leads : (m n k : M) (es : List (List ℕ)) → Leads applies m es n → Leads applies m es k → n ≡ k
  same_leads m n k [] h g = sym h ∙ g
  same_leads m n k (e ∷ es) h g =
      let mid = (determined m e h.0 g.0 h.1 g.1 h.2 g.2).1 in
      same_leads g.1 n k es (subst (λ (w : M). Leads applies w es n) mid h.3) g.3

  pub same_states : (start : M) (log : List (List ℕ)) (a b : ReplicaState M) → IsReplica applies (stands_in log) start a → IsReplica applies (stands_in log) start b → a.poisoned ≡ false → b.poisoned ≡ false → a.place ≡ b.place → a.machine ≡ b.machine
  same_states start log a b ha hb wa wb place =
      let ga = ha wa in
      let gb = hb wb in
      let same = same_prefix ga.entries gb.entries log (stands_prefix ga.entries log ga.stood) (stands_prefix gb.entries log gb.stood) (let p = ga.count in let q = gb.count in omega (arith, p, q, place)) in
      same_leads start a.machine b.machine gb.entries (subst (λ (es : List (List ℕ)). Leads applies start es a.machine) same ga.led) gb.led

  pub same_reported : (start : M) (log : List (List ℕ)) (one other : Reported R) (h : IsDueIn applies start log one) (k : IsDueIn applies start log other) → length h.before ≡ length k.before → one ≡ other
  same_reported start log one other h k place =
      let n = (let p = length-append h.before (one.batch ∷ []) in let q = length-append k.before (other.batch ∷ []) in
      let r : length (h.before ++ one.batch ∷ []) ≡ length (k.before ++ other.batch ∷ []) = omega (arith, p, q, place) in r) in
      let whole = same_prefix (h.before ++ one.batch ∷ []) (k.before ++ other.batch ∷ []) log h.stands k.stands n in
      let parts = same_last h.before k.before one.batch other.batch place whole in
      let was = same_leads start h.was k.was k.before (subst (λ (es : List (List ℕ)). Leads applies start es h.was) parts.0 h.led) k.led in
      let due : applies k.was other.batch one.replies h.is = subst (λ (e : List ℕ). applies k.was e one.replies h.is) parts.1 (subst (λ (m : M). applies m one.batch one.replies h.is) was h.due) in
      let said = (determined k.was other.batch one.replies other.replies h.is k.is due k.due).0 in
      ap (λ (b : List ℕ). let t : Reported R = record { batch = b; replies = one.replies } in t) parts.1 ∙ ap (λ (r : R). let t : Reported R = record { batch = other.batch; replies = r } in t) said
