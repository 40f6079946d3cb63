-- each step keeps the law of a crowd
use Rattle.std.proofs.Common.{◌≡◌, ◌≢◌, ℕ, zero, suc, ◌+◌, ◌-◌, ◌≤◌, ◌<◌, ⊎_elim, subst, sym, refl, ap, ◌∙◌, eqb, eq-eqb, ne_eqb, arith, List, [], ◌∷◌, ◌++◌, set}
use Rattle.words_pool.proofs.Common.{CallStage, AtRest, Seeking, Holding, Ended, Call, PoolView, at_rest, coming, sighting, passing, taking, going, lone, view_of, no_call, united, sum_of, tally, one_if, if_holding, holding, undealt}
use mathlib.Core.Option.{some, some-ne-none, some-injective}
use mathlib.Core.Logic.{dite}
use native.Mathlib.Decide.{ℕ_discrete}
use lib.ListN.{get_elem?}
use Rattle.atomic_table.proofs.Lists.{at_set, at_snoc, set_else}
use Rattle.words_pool.specs.Crowd.{by_each, competes, beyond, moves, now, competed, moved_by, log_of, log_of_call, greatest, IsSmall, WasCrowded, crowded_at, Each, KeepsCrowd}
use Rattle.words_pool.proofs.Tallies.{tally_set, tally_has, tally_sum}

-- what was, stays so, and what is claimed of seekers goes on
module _ (views next : List PoolView) (same : (t : ℕ) → t ≤ now views → tally (competed t) next ≡ tally (competed t) views) where
  log_stays : (first n : ℕ) → first + n ≤ suc (now views) → log_of views first n ≡ log_of next first n
  log_stays first zero le = refl
  log_stays first (suc n) le = let a = same (first + n) (omega arith) in let b = log_stays first n (omega arith) in cc

module _ (views next : List PoolView) (up : now views ≤ now next) (same : (t : ℕ) → t ≤ now views → tally (competed t) next ≡ tally (competed t) views)
    (goes_on : (came m : ℕ) → came ≤ now views → ((j : ℕ) → j ≤ m → WasCrowded views came j) → (j : ℕ) → j ≤ m → WasCrowded next came j) where
  lift_at : (stage : CallStage) (c : Call) → crowded_at stage views c → crowded_at stage next c
  lift_at AtRest c h = tt
  lift_at Seeking c h = (omega (arith, h.0), goes_on c.came c.place h.0 h.1)
  lift_at Holding c h = (omega (arith, h.0), omega (arith, h.1), h.2 ∙ log_stays views next same c.came (suc c.took - c.came) (omega (arith, h.0, h.1)), h.3)
  lift_at Ended c h = tt

  pub lift_each : (cs : List Call) → Each (λ c. crowded_at c.stage views c) cs → Each (λ c. crowded_at c.stage next c) cs
  lift_each [] h = tt
  lift_each (c ∷ cs) h = (lift_at c.stage c h.0, lift_each cs h.1)

-- each number of a log is at most the greatest
in_log : (views : List PoolView) (first n t : ℕ) → first ≤ t → t < first + n → tally (competed t) views ≤ greatest (log_of views first n)
in_log views first zero t from lt = absurd (omega arith)
in_log views first (suc n) t from lt = dite (ℕ_discrete t (first + n))
    (λ e. let same : tally (competed t) views ≡ tally (competed (first + n)) views = ap (λ (k : ℕ). tally (competed k) views) e in omega arith)
    (λ ne. let a = in_log views first n t from (omega arith) in omega arith)

-- what is claimed of a seeker stays so where no more stand anywhere
module _ (views next : List PoolView) (up : now views ≤ now next) (same : (t : ℕ) → t ≤ now views → tally (competed t) next ≡ tally (competed t) views) where
  keeps_at : (came j k : ℕ) → WasCrowded views came j → tally (beyond k) next + k ≤ tally (beyond j) views + j → WasCrowded next came k
  keeps_at came j k w less = record {
    moment = w.moment;
    after = w.after;
    before = let b = w.before in omega arith;
    many = let e = same w.moment w.before in let m = w.many in omega arith;
  }

module _ (views : List PoolView) (kept : KeepsCrowd views) (seat : ℕ) (u v : PoolView) (there : get_elem? views seat ≡ some u) where
  abbrev after : List PoolView
  after = set views seat v

  -- a step of one seat
  step_crowd : (up : now views ≤ now after) (same : (t : ℕ) → t ≤ now views → tally (competed t) after ≡ tally (competed t) views)
      (goes_on : (came m : ℕ) → came ≤ now views → ((j : ℕ) → j ≤ m → WasCrowded views came j) → (j : ℕ) → j ≤ m → WasCrowded after came j)
      → ((t : ℕ) → tally (moved_by t) after ≡ t - (t - now after))
      → ((t : ℕ) → now after ≤ t → tally (competed t) after ≡ tally competes after)
      → Each (λ c. crowded_at c.stage after c) v.calls
      → KeepsCrowd after
  step_crowd up same goes_on clock present mine = record {
    clock = clock;
    present = present;
    crowd = λ k w e. ⊎_elim
        (λ t. subst (λ (x : PoolView). Each (λ c. crowded_at c.stage after c) x.calls) t.1 mine)
        (λ t. lift_each views after up same goes_on w.calls (kept.crowd k w t.1))
        (at_set views seat k v w e);
  }

tally_same : (f g : Call → ℕ) → ((c : Call) → f c ≡ g c) → (vs : List PoolView) → tally f vs ≡ tally g vs
tally_same f g h [] = refl
tally_same f g h (v ∷ vs) = let a = tally_same f g h vs in let b = sums v.calls in let d = sums v.past in omega arith where
  sums : (cs : List Call) → sum_of f cs ≡ sum_of g cs
  sums [] = refl
  sums (c ∷ cs) = let a = sums cs in let b = h c in omega arith

from_first : (stage : CallStage) (place : ℕ) → by_each stage 0 (1 - (0 - place)) (1 - (0 - place)) 0 ≡ by_each stage 0 1 1 0
from_first AtRest place = omega arith
from_first stage place = omega arith

-- all that compete stand at the first place or further on
all_compete : (vs : List PoolView) → tally (beyond 0) vs ≡ tally competes vs
all_compete vs = tally_same (beyond 0) competes (λ c. from_first c.stage c.place) vs

-- a call that rests comes to the first place
module _ (views : List PoolView) (kept : KeepsCrowd views) (seat : ℕ) (c : Call) (past : List Call) (there : get_elem? views seat ≡ some (lone c past)) (is : c.stage ≡ AtRest) where
  abbrev came : List PoolView
  came = set views seat (lone (coming (suc (now views)) c) past)

  moved : (f : Call → ℕ) → f c ≡ 0 → tally f came ≡ tally f views + f (coming (suc (now views)) c)
  moved f e = let a = tally_set f views seat (lone c past) (lone (coming (suc (now views)) c) past) there in omega arith

  pub comes_crowd : KeepsCrowd came
  comes_crowd =
      let clock = moved moves (rw is refl) in
      let new = moved competes (rw is refl) in
      let up : now views ≤ now came = omega arith in
      let same : (t : ℕ) → t ≤ now views → tally (competed t) came ≡ tally (competed t) views = (λ t le. let a = moved (competed t) (rw is refl) in omega arith) in
      let present : (t : ℕ) → now came ≤ t → tally (competed t) came ≡ tally competes came = (λ t le. let a = moved (competed t) (rw is refl) in let b = kept.present t (omega arith) in omega arith) in
      let all : tally (beyond 0) came ≡ tally competes came = all_compete came in
      let first : (since : ℕ) → since ≤ now came → WasCrowded came since 0 = (λ since le. record { moment = now came; after = le; before = omega arith; many = let p = present (now came) (omega arith) in omega arith }) in
      step_crowd views kept seat (lone c past) (lone (coming (suc (now views)) c) past) there up same
      (λ since m le h j lt. dite (ℕ_discrete j 0)
      (λ z. subst (λ (k : ℕ). WasCrowded came since k) (sym z) (first since (omega arith)))
      (λ ne. let a = moved (beyond j) (rw is refl) in keeps_at views came up same since j j (h j lt) (omega arith)))
      (λ t. let a = moved (moved_by t) (rw is refl) in let k = kept.clock t in omega arith)
      present
      ((omega arith, λ place le. subst (λ (k : ℕ). WasCrowded came (suc (now views)) k) (let z : 0 ≡ place = omega arith in z) (first (suc (now views)) (omega arith))), tt)

module _ (views : List PoolView) (kept : KeepsCrowd views) (seat : ℕ) (c : Call) (past : List Call) (there : get_elem? views seat ≡ some (lone c past)) where
  module _ (d : Call) (past' : List Call) where
    abbrev next : List PoolView
    next = set views seat (lone d past')

    changed : (f : Call → ℕ) → tally f next + (f c + sum_of f past) ≡ tally f views + (f d + sum_of f past')
    changed f = let a = tally_set f views seat (lone c past) (lone d past') there in omega arith

  module _ (is : c.stage ≡ Seeking) where
    own_claim : (c.came ≤ now views) × ((place : ℕ) → place ≤ c.place → WasCrowded views c.came place)
    own_claim = subst (λ (s : CallStage). crowded_at s views c) is (kept.crowd seat (lone c past) there).0

    -- it looks at a free place
    pub sighting_crowd : KeepsCrowd (next (sighting c) past)
    sighting_crowd =
        let n : List PoolView = next (sighting c) past in
        let all : (f : Call → ℕ) → f (sighting c) ≡ f c → tally f n ≡ tally f views = (λ f e. let a = changed (sighting c) past f in omega arith) in
        let clock = all moves refl in
        let up : now views ≤ now n = omega arith in
        let same : (t : ℕ) → t ≤ now views → tally (competed t) n ≡ tally (competed t) views = (λ t le. all (competed t) refl) in
        let claims : (since m : ℕ) → since ≤ now views → ((j : ℕ) → j ≤ m → WasCrowded views since j) → (j : ℕ) → j ≤ m → WasCrowded n since j =
        (λ since m le h j lt. let a = all (beyond j) refl in keeps_at views n up same since j j (h j lt) (omega arith)) in
        step_crowd views kept seat (lone c past) (lone (sighting c) past) there up same claims
        (λ t. let a = all (moved_by t) refl in let k = kept.clock t in omega arith)
        (λ t le. let a = all (competed t) refl in let b = all competes refl in let k = kept.present t (omega arith) in omega arith)
        (subst (λ (s : CallStage). crowded_at s n (sighting c)) (sym is) (let o = own_claim.0 in omega arith, claims c.came c.place own_claim.0 own_claim.1), tt)

    -- it leaves its place to another, which stands there too
    pub passing_crowd : (lost : ℕ) → tally (beyond (suc c.place)) views + 2 ≤ tally (beyond c.place) views → KeepsCrowd (next (passing lost c) past)
    passing_crowd lost two =
        let n : List PoolView = next (passing lost c) past in
        let all : (f : Call → ℕ) → f (passing lost c) ≡ f c → tally f n ≡ tally f views = (λ f e. let a = changed (passing lost c) past f in omega arith) in
        let clock = all moves (rw is refl) in
        let up : now views ≤ now n = omega arith in
        let same : (t : ℕ) → t ≤ now views → tally (competed t) n ≡ tally (competed t) views = (λ t le. all (competed t) (rw is refl)) in
        let before : (j : ℕ) → beyond j c ≡ 1 - (j - c.place) = (λ j. rw is refl) in
        let one : (since j : ℕ) → ((i : ℕ) → i ≤ j → i ≤ c.place → WasCrowded views since i) → (j ≢ suc c.place → WasCrowded views since j) → WasCrowded n since j =
        (λ since j low here. dite (ℕ_discrete j (suc c.place))
        (λ e. let a = changed (passing lost c) past (beyond j) in let b = before j in
        let x : tally (beyond j) views ≡ tally (beyond (suc c.place)) views = ap (λ (k : ℕ). tally (beyond k) views) e in
        keeps_at views n up same since c.place j (low c.place (omega arith) (omega arith)) (omega arith))
        (λ ne. let a = changed (passing lost c) past (beyond j) in let b = before j in keeps_at views n up same since j j (here ne) (omega arith))) in
        step_crowd views kept seat (lone c past) (lone (passing lost c) past) there up same
        (λ since m le h j lt. one since j (λ i le' _. h i (omega arith)) (λ ne. h j lt))
        (λ t. let a = all (moved_by t) (rw is refl) in let k = kept.clock t in omega arith)
        (λ t le. let a = all (competed t) (rw is refl) in let b = all competes (rw is refl) in let k = kept.present t (omega arith) in omega arith)
        ((let o = own_claim.0 in omega arith, λ place le. one c.came place (λ i le' low. own_claim.1 i low) (λ ne. own_claim.1 place (omega arith))), tt)

    -- how many competed at each of its moments so far
    abbrev pub log_so_far : List ℕ
    log_so_far = log_of views c.came (suc (now views) - c.came)

    -- at one of them as many as the number of its place says
    pub small_so_far : suc c.place ≤ greatest log_so_far
    small_so_far =
        let w = own_claim.1 c.place (omega arith) in
        let x : beyond c.place c ≡ 1 = rw is (omega arith) in
        let here = tally_has (beyond c.place) views seat (lone c past) there in
        let many = w.many in
        let most = in_log views c.came (suc (now views) - c.came) w.moment w.after (omega (arith, w.before)) in
        omega arith

    -- it takes its place
    pub taking_crowd : KeepsCrowd (next (taking (now views) log_so_far c) past)
    taking_crowd =
        let d : Call = taking (now views) log_so_far c in
        let n : List PoolView = next d past in
        let all : (f : Call → ℕ) → f d ≡ f c → tally f n ≡ tally f views = (λ f e. let a = changed d past f in omega arith) in
        let clock = all moves (rw is refl) in
        let up : now views ≤ now n = omega arith in
        let same : (t : ℕ) → t ≤ now views → tally (competed t) n ≡ tally (competed t) views = (λ t le. all (competed t) (rw is refl)) in
        let o = own_claim.0 in
        step_crowd views kept seat (lone c past) (lone d past) there up same
        (λ since m le h j lt. let a = all (beyond j) (rw is refl) in keeps_at views n up same since j j (h j lt) (omega arith))
        (λ t. let a = all (moved_by t) (rw is refl) in let k = kept.clock t in omega arith)
        (λ t le. let a = all (competed t) (rw is refl) in let b = all competes (rw is refl) in let k = kept.present t (omega arith) in omega arith)
        ((omega arith, omega arith, log_stays views n same c.came (suc (now views) - c.came) (omega arith), small_so_far), tt)

  -- it gives its place back
  pub going_crowd : c.stage ≡ Holding → KeepsCrowd (next at_rest (going (suc (now views)) c ∷ past))
  going_crowd is =
      let d : Call = going (suc (now views)) c in
      let n : List PoolView = next at_rest (d ∷ past) in
      let o = subst (λ (s : CallStage). crowded_at s views c) is (kept.crowd seat (lone c past) there).0 in
      let all : (f : Call → ℕ) → tally f n + f c ≡ tally f views + (f at_rest + f d) = (λ f. let a = changed at_rest (d ∷ past) f in omega arith) in
      let mine : moves c ≡ 1 = rw is refl in
      let clock = all moves in
      let up : now views ≤ now n = omega arith in
      let was : (t : ℕ) → competed t c ≡ 1 - (c.came - t) = (λ t. rw is refl) in
      let same : (t : ℕ) → t ≤ now views → tally (competed t) n ≡ tally (competed t) views = (λ t le. let a = all (competed t) in let b = was t in omega arith) in
      let one : competes c ≡ 1 = rw is refl in
      let came = o.0 in
      step_crowd views kept seat (lone c past) (lone at_rest (d ∷ past)) there up same
      (λ since m le h j lt. let a = all (beyond j) in keeps_at views n up same since j j (h j lt) (omega arith))
      (λ t. let a = all (moved_by t) in let w : moved_by t c ≡ 1 - (c.came - t) = rw is refl in let k = kept.clock t in omega arith)
      (λ t le. let a = all (competed t) in let w = was t in let b = all competes in let k = kept.present t (omega arith) in omega arith)
      (tt, tt)

-- a view that is put in place
pub there_set : (l : List PoolView) (i : ℕ) (a x : PoolView) → get_elem? l i ≡ some x → get_elem? (set l i a) i ≡ some a
there_set [] i a x e = absurd (some-ne-none x (sym e))
there_set (y ∷ ys) zero a x e = refl
there_set (y ∷ ys) (suc i) a x e = there_set ys i a x e

pub set_twice : (l : List PoolView) (i : ℕ) (a b : PoolView) → set (set l i a) i b ≡ set l i b
set_twice [] i a b = refl
set_twice (y ∷ ys) zero a b = refl
set_twice (y ∷ ys) (suc i) a b = λ k. y ∷ set_twice ys i a b k

module _ (views : List PoolView) (kept : KeepsCrowd views) (seat : ℕ) (c : Call) (past : List Call) (there : get_elem? views seat ≡ some (lone c past)) (is : c.stage ≡ AtRest) where
  abbrev pub came_views : List PoolView
  came_views = set views seat (lone (coming (suc (now views)) c) past)

  abbrev pub came_kept : KeepsCrowd came_views
  came_kept = comes_crowd views kept seat c past there is

  pub come_there : get_elem? (set views seat (lone (coming (suc (now views)) c) past)) seat ≡ some (lone (coming (suc (now views)) c) past)
  come_there = there_set views seat (lone (coming (suc (now views)) c) past) (lone c past) there

  -- it comes, and finds the first place free
  pub comes_and_looks : KeepsCrowd (set views seat (lone (sighting (coming (suc (now views)) c)) past))
  comes_and_looks = subst KeepsCrowd (set_twice views seat _ _) (sighting_crowd (set views seat (lone (coming (suc (now views)) c) past)) (comes_crowd views kept seat c past there is) seat (coming (suc (now views)) c) past come_there refl)

  -- it comes, and finds it held
  pub comes_and_passes : tally (beyond 1) (set views seat (lone (coming (suc (now views)) c) past)) + 2 ≤ tally (beyond 0) (set views seat (lone (coming (suc (now views)) c) past))
      → KeepsCrowd (set views seat (lone (passing 0 (coming (suc (now views)) c)) past))
  comes_and_passes two = subst KeepsCrowd (set_twice views seat _ _) (passing_crowd (set views seat (lone (coming (suc (now views)) c) past)) (comes_crowd views kept seat c past there is) seat (coming (suc (now views)) c) past come_there refl 0 two)

  -- how many competed at each of its moments so far: at that of its coming alone
  abbrev pub log_at_coming : List ℕ
  log_at_coming = log_so_far came_views came_kept seat (coming (suc (now views)) c) past come_there refl

  -- it comes, and takes the first place
  pub comes_and_takes : KeepsCrowd (set views seat (lone (taking (now came_views) log_at_coming (coming (suc (now views)) c)) past))
  comes_and_takes = subst KeepsCrowd (set_twice views seat _ _) (taking_crowd came_views came_kept seat (coming (suc (now views)) c) past come_there refl)

  pub small_at_coming : IsSmall (taking (now came_views) log_at_coming (coming (suc (now views)) c))
  small_at_coming = small_so_far came_views came_kept seat (coming (suc (now views)) c) past come_there refl

-- calls change seats
module _ (views next : List PoolView) (kept : KeepsCrowd views) (all : (f : Call → ℕ) → tally f next ≡ tally f views) where
  pub stays_clock : (t : ℕ) → tally (moved_by t) next ≡ t - (t - now next)
  stays_clock t = let a = all moves in let b = all (moved_by t) in let k = kept.clock t in omega arith

  pub stays_present : (t : ℕ) → now next ≤ t → tally (competed t) next ≡ tally competes next
  stays_present t le = let a = all moves in let b = all (competed t) in let d = all competes in let k = kept.present t (omega arith) in omega arith

  pub stays : (cs : List Call) → Each (λ c. crowded_at c.stage views c) cs → Each (λ c. crowded_at c.stage next c) cs
  stays = let a = all moves in
      let up : now views ≤ now next = omega arith in
      let same : (t : ℕ) → t ≤ now views → tally (competed t) next ≡ tally (competed t) views = (λ t le. all (competed t)) in
      lift_each views next up same (λ since m le h j lt. let b = all (beyond j) in keeps_at views next up same since j j (h j lt) (omega arith))

each_both : (P : Call → Type 0) (xs ys : List Call) → Each P xs → Each P ys → Each P (xs ++ ys)
each_both P [] ys h k = k
each_both P (x ∷ xs) ys h k = (h.0, each_both P xs ys h.1 k)

pub unites_crowd : (views : List PoolView) → KeepsCrowd views → (seat other : ℕ) (u w : PoolView) → get_elem? views seat ≡ some u → ¬ (other ≡ seat) → get_elem? (set views seat (united u w)) other ≡ some w
    → ((f : Call → ℕ) → tally f (set (set views seat (united u w)) other no_call) ≡ tally f views)
    → KeepsCrowd (set (set views seat (united u w)) other no_call)
unites_crowd views kept seat other u w there apart there' all =
    let next : List PoolView = set (set views seat (united u w)) other no_call in
    let keep = stays views next kept all in
    let theirs : get_elem? views other ≡ some w = sym (set_else views seat other (united u w) apart) ∙ there' in
    record {
      clock = stays_clock views next kept all;
      present = stays_present views next kept all;
      crowd = λ k v e. ⊎_elim
          (λ t. subst (λ (x : PoolView). Each (λ c. crowded_at c.stage next c) x.calls) t.1 tt)
          (λ t. ⊎_elim
          (λ r. subst (λ (x : PoolView). Each (λ c. crowded_at c.stage next c) x.calls) r.1 (each_both (λ c. crowded_at c.stage next c) u.calls w.calls (keep u.calls (kept.crowd seat u there)) (keep w.calls (kept.crowd other w theirs))))
          (λ r. keep v.calls (kept.crowd k v r.1))
          (at_set views seat k (united u w) v t.1))
          (at_set (set views seat (united u w)) other k no_call v e);
    }

pub parts_crowd : (views : List PoolView) → KeepsCrowd views → (seat : ℕ) (left right : PoolView)
    → ((f : Call → ℕ) → tally f (set views seat left ++ right ∷ []) ≡ tally f views)
    → Each (λ c. crowded_at c.stage views c) left.calls → Each (λ c. crowded_at c.stage views c) right.calls
    → KeepsCrowd (set views seat left ++ right ∷ [])
parts_crowd views kept seat left right all l r =
    let next : List PoolView = set views seat left ++ right ∷ [] in
    let keep = stays views next kept all in
    record {
      clock = stays_clock views next kept all;
      present = stays_present views next kept all;
      crowd = λ k v e. ⊎_elim
          (λ t. ⊎_elim
          (λ x. subst (λ (y : PoolView). Each (λ c. crowded_at c.stage next c) y.calls) x.1 (keep left.calls l))
          (λ x. keep v.calls (kept.crowd k v x.1))
          (at_set views seat k left v t))
          (λ t. subst (λ (y : PoolView). Each (λ c. crowded_at c.stage next c) y.calls) t (keep right.calls r))
          (at_snoc (set views seat left) right v k e);
    }

pub each_undealt : (views : List PoolView) (n : ℕ) → Each (λ c. crowded_at c.stage views c) (undealt n)
each_undealt views zero = tt
each_undealt views (suc n) = (tt, each_undealt views n)

sum_undealt : (f : Call → ℕ) → f at_rest ≡ 0 → (n : ℕ) → sum_of f (undealt n) ≡ 0
sum_undealt f z zero = refl
sum_undealt f z (suc n) = let a = sum_undealt f z n in omega arith

pub crowd_opens : (n : ℕ) → KeepsCrowd (view_of (undealt n) [] ∷ [])
crowd_opens n = record {
  clock = λ t. let a = sum_undealt (moved_by t) refl n in let b = sum_undealt moves refl n in omega arith;
  present = λ t le. let a = sum_undealt (competed t) refl n in let b = sum_undealt competes refl n in omega arith;
  crowd = λ k v e. lone_seat k v e;
} where
  lone_seat : (k : ℕ) (v : PoolView) → get_elem? (view_of (undealt n) [] ∷ []) k ≡ some v → Each (λ c. crowded_at c.stage (view_of (undealt n) [] ∷ []) c) v.calls
  lone_seat zero v e = subst (λ (x : PoolView). Each (λ c. crowded_at c.stage (view_of (undealt n) [] ∷ []) c) x.calls) (some-injective (view_of (undealt n) []) v e) (each_undealt (view_of (undealt n) [] ∷ []) n)
  lone_seat (suc k) v e = absurd (some-ne-none v (sym e))

-- who holds a place stands there, and not further on
holder_beyond : (stage : CallStage) (place p : ℕ) → by_each stage 0 (1 - (suc p - place)) (1 - (suc p - place)) 0 + if_holding stage (one_if (eqb place p)) ≤ by_each stage 0 (1 - (p - place)) (1 - (p - place)) 0
holder_beyond Holding place p = dite (ℕ_discrete place p) (λ e. let a = eq-eqb place p e in rw a (omega arith)) (λ ne. let a = ne_eqb place p ne in rw a (omega arith))
holder_beyond stage place p = omega arith

-- 1 where this call seeks at the place
abbrev seeking : ℕ → Call → ℕ
seeking p x = beyond p x - (beyond (suc p) x + holding p x)

beyond_splits : (p : ℕ) (x : Call) → beyond p x ≡ (beyond (suc p) x + holding p x) + seeking p x
beyond_splits p x = let a = holder_beyond x.stage x.place p in omega arith

-- who finds its place held stands there with another
pub two_beyond : (views : List PoolView) (p seat : ℕ) (c : Call) (past : List Call) → get_elem? views seat ≡ some (lone c past) → c.stage ≡ Seeking → c.place ≡ p → 1 ≤ tally (holding p) views
    → tally (beyond (suc p)) views + 2 ≤ tally (beyond p) views
two_beyond views p seat c past there is here held =
    let b = tally_has (seeking p) views seat (lone c past) there in
    let w : seeking p c ≡ 1 = rw (is, here) (omega arith) in
    let d = tally_sum (beyond p) (λ x. beyond (suc p) x + holding p x) (seeking p) (beyond_splits p) views in
    let e = tally_sum (λ x. beyond (suc p) x + holding p x) (beyond (suc p)) (holding p) (λ x. refl) views in
    omega arith

-- a law of all views: what a call that holds a number has kept is so, and its number is small
pub adaptive : (views : List PoolView) → KeepsCrowd views → (seat : ℕ) (c : Call) (past : List Call) → get_elem? views seat ≡ some (lone c past) → c.stage ≡ Holding → (c.crowds ≡ log_of_call views c) × IsSmall c
adaptive views kept seat c past there is = let h = subst (λ (s : CallStage). crowded_at s views c) is (kept.crowd seat (lone c past) there).0 in (h.2, h.3)

-- a call that competes has moved once, and that is its coming
moved_once : (stage : CallStage) (came went t : ℕ) → by_each stage 0 1 1 0 ≡ 1 → (by_each stage 0 1 1 2 ≡ 1) × (by_each stage 0 (1 - (came - t)) (1 - (came - t)) ((1 - (came - t)) + (1 - (went - t))) ≡ 1 - (came - t))
moved_once AtRest came went t e = absurd (omega arith)
moved_once Seeking came went t e = (refl, refl)
moved_once Holding came went t e = (refl, refl)
moved_once Ended came went t e = absurd (omega arith)

-- so it has come at the moment after the last
pub comes_next : (views : List PoolView) → KeepsCrowd views → (seat : ℕ) (c d : Call) (past : List Call) → get_elem? views seat ≡ some (lone c past) → c.stage ≡ AtRest → competes d ≡ 1 → KeepsCrowd (set views seat (lone d past)) → d.came ≡ suc (now views)
comes_next views kept seat c d past there rests comes after =
    let changed : (f : Call → ℕ) → tally f (set views seat (lone d past)) + f c ≡ tally f views + f d = (λ f. let a = tally_set f views seat (lone c past) (lone d past) there in omega arith) in
    let still : (t : ℕ) → (moves c ≡ 0) × (moved_by t c ≡ 0) = (λ t. (rw rests refl, rw rests refl)) in
    let once : (t : ℕ) → (moves d ≡ 1) × (moved_by t d ≡ 1 - (d.came - t)) = (λ t. moved_once d.stage d.came d.went t comes) in
    let last : ℕ = now views in
    let count = changed moves in
    let a = changed (moved_by last) in
    let b = changed (moved_by (suc last)) in
    let before = kept.clock last in
    let before' = kept.clock (suc last) in
    let after' = after.clock last in
    let after'' = after.clock (suc last) in
    let x = still last in
    let x' = still (suc last) in
    let y = once last in
    let y' = once (suc last) in
    omega (arith, x.0, x.1, x'.1, y.0, y.1, y'.1)
