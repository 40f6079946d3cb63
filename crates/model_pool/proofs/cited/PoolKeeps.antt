-- each call of a pool keeps the law
use Rattle.std.proofs.Common.{◌≡◌, ◌≢◌, ℕ, suc, ◌+◌, ◌≤◌, ◌<◌, Bool, true, false, cond, List, [], ◌∷◌, ◌++◌, Option, Some, None, Ok, Err, length, get_or, set, inl, inr, refl, sym, ap, subst, ◌∙◌, arith, MatchOption, is_some}
use Rattle.model_pool.proofs.Common.{eqb_tells, leb_tells, Decides-eqb, nat_tests, NotCompeting, Holding, NotHolding, TestAndSet, Nothing, after_access, Competitor, Missed, Got, Stay, Seeking, Settled, held_at, stay_of, with_stay, without, held_in, holder_in, holds_at, PoolState, Call, Entered, Probed, Sought, Left, Widened, next, IsReply, pool, set_at-other}
use Rattle.std.proofs.lemmas.Bool.{cases_Bool}
use Rattle.std.proofs.lemmas.List.{get_or-set_same, get_or-set_other, length-set, length-replicate}
use Rattle.model_steps.specs.World.{done_unless}
use Rattle.model_steps.proofs.cited.RunLemmas.{run_more, run_one, run_answers}
use Rattle.model_pool.specs.PoolState.{PoolStart}
use Rattle.model_pool.specs.Pool.{fresh_pool, enter_refusal, enter_answer, entered_unless, after_enter, probe_answer_by, after_probe_by, number_answer, number_by, probe_refusal_by, after_leave_by, widened_unless, after_widen, widen_answer}
use Rattle.model_pool.specs.Sought.{sought_on, seek_answer_by, after_seek_by}
use Rattle.model_pool.specs.Widening.{widen_refusal, widen_access}
use Rattle.model_pool.specs.PoolObject.{PoolObject, fresh_object, no_entry, number_in, Answers, after, IsRun}
use Rattle.model_steps.specs.Machine.{Reaches, OnEveryHistory, SatisfiesSpec, RefusesWhereDue, IsProved}
use Rattle.model_steps.proofs.cited.MachineLemmas.{always_by, machine_proved}
use Rattle.model_pool.proofs.StayOfLemmas.{stay_of-without, length-identities}
use Rattle.model_pool.proofs.Counts.{one, count, is_of, holds, count-some, count-without}
use Rattle.model_pool.proofs.Balanced.{IsPlaced, IsBalanced, IsProbed, IsWidenedBits, NobodyHolds, held_once, balanced_widened, balanced_fresh, balanced_entered, balanced_probed, balanced_left, free_clear, probed_clear, probed_missed, free_last, probed_last, free_only, probed_only}
use Rattle.model_pool.proofs.SoughtLemmas.{got_by_probes, sought_gets}
use Rattle.model_pool.proofs.Tied.{IsTied, no_entry-is, number_in-is, no_probe-is, holder_competes, settled_at, unheld, tied_fresh, tied_entered, tied_missed, tied_got, tied_left}

-- the pool after these calls, and the object that may have given the same replies
pub record Stands (first : PoolStart) (w : PoolState) (r : List Call) : Type 0 where
  pub room : length w.bits.bits ≡ w.most + 1
  pub object : PoolObject
  pub run : IsRun first r object
  pub tied : IsTied w.most w.size w.competitors object
  pub balanced : IsBalanced w.size w.bits.bits w.competitors

-- who is let in does not compete, and there is room
pub record IsLetIn (w : PoolState) (id : ℕ) : Type 0 where
  pub absent : stay_of id w.competitors ≡ None
  pub room : length w.competitors < w.size

pub let_in : (w : PoolState) (id : ℕ) → enter_refusal w id ≡ None → IsLetIn w id
let_in w id h = record { absent = grind (arith, nat_tests); room = grind (arith, nat_tests) }

-- a pool that is let get more numbers has fewer, and gets no more than it may
pub may_widen : (most size more : ℕ) → widen_refusal most size more ≡ None → (size < more) × (more ≤ most)
may_widen most size more h = (grind (arith, nat_tests), grind (arith, nat_tests))

-- the same refusal of the same numbers
widen_refused_as : (m n i j more : ℕ) → m ≡ n → i ≡ j → widen_refusal m i more ≡ widen_refusal n j more
widen_refused_as m n i j more e k = rw (e, k) refl

-- where none is found to hold a number nobody does; and who is found is counted
holder_counts : (n : ℕ) (cs : List Competitor) → holder_in n cs ≡ None → NobodyHolds n cs
holder_counts n [] h = refl
holder_counts n (c ∷ cs) h = let rest : holder_in n cs ≡ None → NobodyHolds n cs = holder_counts n cs in grind (arith, nat_tests)

holder_counted : (n : ℕ) (cs : List Competitor) (p : ℕ) → holder_in n cs ≡ Some p → 1 ≤ count (holds n) cs
holder_counted n [] p h = absurd (cc)
holder_counted n (c ∷ cs) p h = let rest : holder_in n cs ≡ Some p → 1 ≤ count (holds n) cs = holder_counted n cs p in grind (arith, nat_tests)

module _ (first : PoolStart) (w : PoolState) (r : List Call) (s : Stands first w r) where
  -- the object goes on by a call
  gone_on : (h : Call) → Answers s.object h → IsRun first (r ++ h ∷ []) (after s.object h)
  gone_on h is = run_more after Answers (fresh_object first) r s.object h s.run is

  -- a call that is refused changes nothing
  refused_keeps : (h : Call) → Answers s.object h → after s.object h ≡ s.object → Stands first w (r ++ h ∷ [])
  refused_keeps h is same = record { room = s.room; object = s.object; run = subst (λ (o : PoolObject). IsRun first (r ++ h ∷ []) o) same (gone_on h is); tied = s.tied; balanced = s.balanced }

  enter_keeps : (id : ℕ) → Stands first (after_enter w id) (r ++ Entered id (enter_answer w id) ∷ [])
  enter_keeps id = elim (enter_refusal w id) as (λ e. enter_refusal w id ≡ e → Stands first (entered_unless e w id) (r ++ Entered id (done_unless e) ∷ [])) [
    | Some why ↦ λ e.
        let n : no_entry s.object id ≡ Some why = no_entry-is w.most w.size w.competitors s.object s.tied w refl refl id ∙ e in
        refused_keeps (Entered id (Err why)) (rw n refl) refl
    | None ↦ λ e.
        let n : no_entry s.object id ≡ None = no_entry-is w.most w.size w.competitors s.object s.tied w refl refl id ∙ e in
        let l = let_in w id e in
        record {
          room = s.room;
          object = after s.object (Entered id (Ok tt));
          run = gone_on (Entered id (Ok tt)) (rw n refl);
          tied = tied_entered w.most w.size w.competitors s.object id s.tied l.absent;
          balanced = balanced_entered w.size w.bits.bits w.competitors id s.balanced l.absent l.room;
        }
  ] refl

  -- an accepted probe gets this number
  got_keeps : (id bit n : ℕ) (bits : List Bool) → stay_of id w.competitors ≡ Some (Seeking bit) → 1 ≤ n → n ≤ w.size → NobodyHolds n w.competitors →
      IsProbed w.size w.bits.bits bits w.competitors bit (Settled n) →
      Stands first (record { most = w.most; size = w.size; bits = record w.bits { bits = bits }; competitors = with_stay id (Settled n) w.competitors }) (r ++ Probed id (Ok (Got n)) ∷ [])
  got_keeps id bit n bits here low high none probed = record {
    room = probed.room ∙ s.room;
    object = after s.object (Probed id (Ok (Got n)));
    run = gone_on (Probed id (Ok (Got n))) (
      no_probe-is w.most w.size w.competitors s.object s.tied id ∙ ap probe_refusal_by here,
      record { first = low; last = rw s.tied.size_is high; unheld = unheld w.most w.size w.competitors s.object s.tied n none },
    );
    tied = tied_got w.most w.size w.competitors s.object id bit s.tied here n;
    balanced = balanced_probed w.size w.bits.bits bits w.competitors id bit (Settled n) s.balanced here probed;
  }

  seeking_keeps : (id bit : ℕ) → stay_of id w.competitors ≡ Some (Seeking bit) → Stands first (after_probe_by w id (Some (Seeking bit))) (r ++ Probed id (probe_answer_by w (Some (Seeking bit))) ∷ [])
  seeking_keeps id bit here =
      let p : IsPlaced w.size (Seeking bit) = s.balanced.placed id (Seeking bit) here in
      let set_bit : List Bool = set w.bits.bits bit true in
      elim (leb_tells (suc bit) w.size) [
        | inr end ↦
            let past : w.size ≤ bit = omega (arith, end.1) in
            rw end.0 (got_keeps id bit w.size w.bits.bits here s.balanced.first (omega arith) (free_only w.size w.bits.bits w.competitors id bit s.balanced here past)
            (probed_only w.size w.bits.bits w.competitors id bit s.balanced here past))
        | inl below ↦
            let lt : bit < w.size = omega (arith, below.1) in
            elim (cases_Bool (get_or w.bits.bits bit false)) [
              | inr clear ↦ rw (below.0, clear) (got_keeps id bit bit set_bit here p.0 (omega arith) (free_clear w.size w.bits.bits w.competitors id bit s.balanced here lt clear)
                  (probed_clear w.size w.bits.bits w.competitors id bit s.balanced here lt clear))
              | inl was ↦ elim (leb_tells (suc (bit + 1)) w.size) [
                | inl more ↦ rw (below.0, was, more.0) (record {
                  room = length-set w.bits.bits bit true ∙ s.room;
                  object = after s.object (Probed id (Ok Missed));
                  run = gone_on (Probed id (Ok Missed)) (no_probe-is w.most w.size w.competitors s.object s.tied id ∙ ap probe_refusal_by here, λ e. omega (arith, more.1, e, s.tied.probes id bit here, s.tied.size_is));
                  tied = tied_missed w.most w.size w.competitors s.object id bit s.tied here;
                  balanced = balanced_probed w.size w.bits.bits set_bit w.competitors id bit (Seeking (bit + 1)) s.balanced here
                      (probed_missed w.size w.bits.bits w.competitors id bit s.balanced here (omega (arith, more.1)) was);
                })
                | inr end ↦
                    let past : w.size ≤ bit + 1 = omega (arith, end.1) in
                    rw (below.0, was, end.0) (got_keeps id bit w.size set_bit here s.balanced.first (omega arith) (free_last w.size w.bits.bits w.competitors id bit s.balanced here lt past was)
                    (probed_last w.size w.bits.bits w.competitors id bit s.balanced here lt past was))
              ]
            ]
      ]

  probe_keeps : (id : ℕ) (o : Option Stay) → stay_of id w.competitors ≡ o → Stands first (after_probe_by w id o) (r ++ Probed id (probe_answer_by w o) ∷ [])
  probe_keeps id None e = refused_keeps (Probed id (Err NotCompeting)) (no_probe-is w.most w.size w.competitors s.object s.tied id ∙ ap probe_refusal_by e) refl
  probe_keeps id (Some (Settled number)) e = refused_keeps (Probed id (Err Holding)) (no_probe-is w.most w.size w.competitors s.object s.tied id ∙ ap probe_refusal_by e) refl
  probe_keeps id (Some (Seeking bit)) e = seeking_keeps id bit e

  -- probes that give a number are one call
  sought_keeps : (id bit : ℕ) → stay_of id w.competitors ≡ Some (Seeking bit) → Stands first (after_seek_by w id (Some (Seeking bit))) (r ++ Sought id (seek_answer_by w (Some (Seeking bit))) ∷ [])
  sought_keeps id bit here =
      let n : ℕ = (sought_on w.size w.size (Seeking bit) w.bits).0 in
      let new = (sought_on w.size w.size (Seeking bit) w.bits).1 in
      let gets = sought_gets w.size w.size bit w.bits s.balanced.first (omega arith) in
      let got = got_by_probes gets.misses w.size bit n w.bits new w.competitors id s.balanced here gets.after in
      record {
        room = got.room ∙ s.room;
        object = after s.object (Sought id (Ok n));
        run = gone_on (Sought id (Ok n)) (
          no_probe-is w.most w.size w.competitors s.object s.tied id ∙ ap probe_refusal_by here,
          record { first = got.low; last = rw s.tied.size_is got.high; unheld = unheld w.most w.size w.competitors s.object s.tied n got.free },
        );
        tied = tied_got w.most w.size w.competitors s.object id bit s.tied here n;
        balanced = got.balanced;
      }

  seek_keeps : (id : ℕ) (o : Option Stay) → stay_of id w.competitors ≡ o → Stands first (after_seek_by w id o) (r ++ Sought id (seek_answer_by w o) ∷ [])
  seek_keeps id None e = refused_keeps (Sought id (Err NotCompeting)) (no_probe-is w.most w.size w.competitors s.object s.tied id ∙ ap probe_refusal_by e) refl
  seek_keeps id (Some (Settled number)) e = refused_keeps (Sought id (Err Holding)) (no_probe-is w.most w.size w.competitors s.object s.tied id ∙ ap probe_refusal_by e) refl
  seek_keeps id (Some (Seeking bit)) e = sought_keeps id bit e

  -- a number is given back, and so are these bits then
  left_keeps : (id number : ℕ) (bits : List Bool) → stay_of id w.competitors ≡ Some (Settled number) → length bits ≡ length w.bits.bits → (number < w.size → get_or bits number false ≡ false) →
      ((i : ℕ) → i < w.size → i ≢ number → get_or bits i false ≡ get_or w.bits.bits i false) → ((i : ℕ) → w.size ≤ i → get_or bits i false ≡ get_or w.bits.bits i false) →
      Stands first (record { most = w.most; size = w.size; bits = record w.bits { bits = bits }; competitors = without id w.competitors }) (r ++ Left id (Ok number) ∷ [])
  left_keeps id number bits here room clears spares beyond = record {
    room = room ∙ s.room;
    object = after s.object (Left id (Ok number));
    run = gone_on (Left id (Ok number)) (sym (number_in-is w.most w.size w.competitors s.object s.tied id ∙ ap number_by here));
    tied = tied_left w.most w.size w.competitors s.object id s.tied;
    balanced = balanced_left w.size w.bits.bits bits w.competitors id number s.balanced here room clears spares beyond;
  }

  settled_keeps : (id number : ℕ) → stay_of id w.competitors ≡ Some (Settled number) → Stands first (after_leave_by w id (Some (Settled number))) (r ++ Left id (Ok number) ∷ [])
  settled_keeps id number here = elim (leb_tells (suc number) w.size) [
    | inr end ↦ rw end.0 (left_keeps id number w.bits.bits here refl (λ h. absurd (omega (arith, h, end.1))) (λ i h n. refl) (λ i h. refl))
    | inl below ↦
        let in_bits : number < length w.bits.bits = omega (arith, below.1, s.balanced.last) in
        rw below.0 (left_keeps id number (set w.bits.bits number false) here (length-set w.bits.bits number false) (λ _. get_or-set_same w.bits.bits number false false in_bits)
        (λ i h n. get_or-set_other w.bits.bits number i false false n) (λ i h. get_or-set_other w.bits.bits number i false false (λ e. omega (arith, below.1, h, e))))
  ]

  leave_keeps : (id : ℕ) (o : Option Stay) → stay_of id w.competitors ≡ o → Stands first (after_leave_by w id o) (r ++ Left id (number_by o) ∷ [])
  leave_keeps id None e = refused_keeps (Left id (Err NotCompeting)) (sym (number_in-is w.most w.size w.competitors s.object s.tied id ∙ ap number_by e)) refl
  leave_keeps id (Some (Seeking next)) e = refused_keeps (Left id (Err NotHolding)) (sym (number_in-is w.most w.size w.competitors s.object s.tied id ∙ ap number_by e)) refl
  leave_keeps id (Some (Settled number)) e = settled_keeps id number e

  -- the bit of what was the last number becomes set exactly where that is held, and no other bit changes
  widened_bits : (o : Option ℕ) → holder_in w.size w.competitors ≡ o → IsWidenedBits w.size w.bits.bits (after_access w.bits (cond (is_some o) (TestAndSet w.size) Nothing)).bits w.competitors
  widened_bits None e = record { last = rw (s.balanced.spare w.size (omega arith)) (sym (holder_counts w.size w.competitors e)); others = λ i n. refl; room = refl }
  widened_bits (Some p) e =
      let once = held_once w.size w.bits.bits w.competitors s.balanced w.size (omega arith) s.balanced.first in
      let in_bits : w.size < length w.bits.bits = omega (arith, s.balanced.last) in
      record {
        last = rw (get_or-set_same w.bits.bits w.size true false in_bits) (omega (arith, once, holder_counted w.size w.competitors p e));
        others = λ i n. get_or-set_other w.bits.bits w.size i true false n;
        room = length-set w.bits.bits w.size true;
      }

  widen_keeps : (more : ℕ) → Stands first (after_widen w more) (r ++ Widened more (widen_answer w more) ∷ [])
  widen_keeps more = elim (widen_refusal w.most w.size more) as (λ e. widen_refusal w.most w.size more ≡ e → Stands first (widened_unless e w more) (r ++ Widened more (done_unless e) ∷ [])) [
    | Some why ↦ λ e.
        let n : widen_refusal s.object.most s.object.size more ≡ Some why = widen_refused_as s.object.most w.most s.object.size w.size more s.tied.most_is s.tied.size_is ∙ e in
        refused_keeps (Widened more (Err why)) (rw n refl) refl
    | None ↦ λ e.
        let n : widen_refusal s.object.most s.object.size more ≡ None = widen_refused_as s.object.most w.most s.object.size w.size more s.tied.most_is s.tied.size_is ∙ e in
        let room = may_widen w.most w.size more e in
        let bits = widened_bits (holder_in w.size w.competitors) refl in
        record {
          room = bits.room ∙ s.room;
          object = after s.object (Widened more (Ok tt));
          run = gone_on (Widened more (Ok tt)) (rw n refl);
          tied = record { most_is = s.tied.most_is; size_is = refl; competing = s.tied.competing; held = s.tied.held; probes = s.tied.probes };
          balanced = balanced_widened w.size more w.bits.bits (after_access w.bits (widen_access w)).bits w.competitors s.balanced room.0 (omega (arith, room.1, s.room)) bits;
        }
  ] refl

next_keeps : (first : PoolStart) (w : PoolState) (r : List Call) (h : Call) → Stands first w r → IsReply w h → Stands first (next w h) (r ++ h ∷ [])
next_keeps first w r (Entered id reply) s is = rw is (enter_keeps first w r s id)
next_keeps first w r (Probed id reply) s is = rw is (probe_keeps first w r s id (stay_of id w.competitors) refl)
next_keeps first w r (Sought id reply) s is = rw is (seek_keeps first w r s id (stay_of id w.competitors) refl)
next_keeps first w r (Left id reply) s is = rw is (leave_keeps first w r s id (stay_of id w.competitors) refl)
next_keeps first w r (Widened more reply) s is = rw is (widen_keeps first w r s more)

-- so it is after any calls
pub stands : (w : PoolState) → OnEveryHistory pool (λ first r. Stands first w r) w
stands w first r a =
    let fresh : Stands first (fresh_pool first) [] = record { room = length-replicate (first.most + 1) false; object = fresh_object first; run = refl; tied = tied_fresh first; balanced = balanced_fresh first.most first.size a.started.0 a.started.1 } in
    always_by pool (Stands first) (next_keeps first) first fresh w r a

-- the law
pub pool_law : (w : PoolState) → SatisfiesSpec pool w
pool_law w first r a =
    let s = stands w first r a in
    let placed : (p n : ℕ) → s.object.held p ≡ Some n → (stay_of p w.competitors ≡ Some (Settled n)) × (1 ≤ n) × (n ≤ w.size) =
    λ p n h.
    let k = settled_at w.competitors p n (sym (s.tied.held p) ∙ h) in
    let l : IsPlaced w.size (Settled n) = s.balanced.placed p (Settled n) k in
    (k, l.0, l.1)
    in
    record {
      object = s.object;
      run = s.run;
      crowd = omega (arith, ap length s.tied.competing, length-identities w.competitors, s.tied.size_is, s.balanced.crowd);
      by_competitors = holder_competes w.most w.size w.competitors s.object s.tied;
      in_range = λ p n h. let l = placed p n h in (l.1, rw s.tied.size_is l.2);
      one_to_one = λ p q n h k. elim (eqb_tells p q) [
        | inl v ↦ v.1
        | inr v ↦ absurd (
            let l = placed p n h in
            let m = placed q n k in
            let others : List Competitor = without p w.competitors in
            let there : stay_of q others ≡ Some (Settled n) = stay_of-without w.competitors p q ∙ set_at-other (λ u. stay_of u w.competitors) p None q (λ e. v.1 (sym e)) ∙ m.0 in
            let itself = (Decides-eqb n n).1 refl in
            let second = count-some (holds n) others q (Settled n) there itself in
            let both = count-without (holds n) w.competitors p (Settled n) l.0 (s.balanced.apart p) in
            omega (arith, ap one itself, second, both, held_once w.size w.bits.bits w.competitors s.balanced n l.2 l.1))
      ];
    }

-- each call is answered as the object that those before it make may answer it
due_always : (w : PoolState) → RefusesWhereDue pool w
due_always w size r a =
    let law = pool_law w size r a in
    run_answers after Answers (fresh_object size) r law.object law.run

-- so the pool is proved
pub pool_proved : IsProved pool
pool_proved = machine_proved pool pool_law due_always

-- what is seen of the object
pub tied_after : (first : PoolStart) (w : PoolState) (r : List Call) (o : PoolObject) → Reaches pool first w r → IsRun first r o → IsTied w.most w.size w.competitors o
tied_after first w r o a is =
    let s = stands w first r a in
    let e : s.object ≡ o = run_one after Answers (fresh_object first) r s.object o s.run is in
    subst (λ (x : PoolObject). IsTied w.most w.size w.competitors x) e s.tied

holds_is : (n : ℕ) (s : Stay) → holds_at n (held_at s) ≡ true → held_at s ≡ Some n
holds_is n (Seeking next) h = absurd (cc)
holds_is n (Settled number) h = ap Some ((Decides-eqb number n).0 h)

-- who is found to hold a number holds it
holder_holds : (cs : List Competitor) (n p : ℕ) → ((q : ℕ) → count (is_of q) cs ≤ 1) → holder_in n cs ≡ Some p → held_in p cs ≡ Some n
holder_holds [] n p apart h = absurd (cc)
holder_holds (c ∷ cs) n p apart h =
    let rest : holder_in n cs ≡ Some p → held_in p cs ≡ Some n = holder_holds cs n p (λ q. omega (arith, apart q)) in
    let counted : held_in p cs ≡ Some n → 1 ≤ count (is_of p) cs = λ i. count-some (is_of p) cs p (Settled n) (settled_at cs p n i) ((Decides-eqb p p).1 refl) in
    let own = holds_is n c.stay in
    let alone = apart p in
    grind (arith, nat_tests)

pub holder_after : (first : PoolStart) (w : PoolState) (r : List Call) (o : PoolObject) → Reaches pool first w r → IsRun first r o → (n : ℕ) →
    MatchOption (holder_in n w.competitors) ((p : ℕ) → o.held p ≢ Some n) (λ p. o.held p ≡ Some n)
holder_after first w r o a is n =
    let t = tied_after first w r o a is in
    let b = (stands w first r a).balanced in
    elim (holder_in n w.competitors) as (λ h. holder_in n w.competitors ≡ h → MatchOption h ((p : ℕ) → o.held p ≢ Some n) (λ p. o.held p ≡ Some n)) [
      | None ↦ λ h. unheld w.most w.size w.competitors o t n (holder_counts n w.competitors h)
      | Some p ↦ λ h. t.held p ∙ holder_holds w.competitors n p b.apart h
    ] refl

-- what is answered of a number that is held is what the object says
pub number_after : (first : PoolStart) (w : PoolState) (r : List Call) (o : PoolObject) → Reaches pool first w r → IsRun first r o → (p : ℕ) → number_answer w p ≡ number_in o p
number_after first w r o a is p = sym (number_in-is w.most w.size w.competitors o (tied_after first w r o a is) p)
