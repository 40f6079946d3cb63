-- each step of a line keeps its rule
use Rattle.std.proofs.Common.{◌≡◌, ◌≢◌, ℕ, zero, suc, ◌+◌, ◌-◌, ◌*◌, ◌<◌, ◌≤◌, eqb, eq-eqb, ne_eqb, sym, refl, ap, ◌∙◌, arith, List, [], ◌∷◌, ◌++◌, length, set, slice_index, replicate}
use mathlib.Core.Option.{some}
use mathlib.Core.Logic.{dite}
use native.Mathlib.Decide.{ℕ_discrete}
use lib.ListN.{get_elem?}
use Rattle.words_pool.specs.LineRule.{by_stage, from, rests, undealt, KeepsLine, KeepsLineRule, ComesBySwapInLine, TakesInLine, NeverComes}
use Rattle.words_pool.proofs.Keeping.{both, may_unite, may_sever, united_own, apart_own}
use Rattle.std.proofs.Common.{slice_set}
use Rattle.words_pool.proofs.Common.{State, Step, Allows, Splits, CallStage, Seeking, Holding, Call, PoolView, at_rest, coming, sighting, passing, races, taking, going, lone, resting, view_of, sum_of, own, tally, one_if, if_holding, holding, set_again, Comes, Looks, Frees, LooksOn, Joins, no_call, united, looked, swapped, keeps, KeepsSteps}
use Rattle.words_pool.specs.Crowd.{now, IsSmall, KeepsCrowd}
use Rattle.words_pool.proofs.Crowding.{two_beyond, come_there, comes_and_looks, comes_and_passes, came_views, log_at_coming, comes_and_takes, small_at_coming, sighting_crowd, passing_crowd, log_so_far, small_so_far, taking_crowd, there_set, going_crowd, unites_crowd, parts_crowd, each_undealt, crowd_opens}
use Rattle.words_pool.proofs.Tallies.{tally_set, tally_snoc, tally_has, tally_sum}
use Rattle.words_pool.proofs.Keeping.{come_kept, come_by_swap_kept, look_kept, take_kept, free_kept, reread, seeks_none, opens}

-- who holds a place stands there, and not further on
holder_here : (stage : CallStage) (place p : ℕ) → by_stage stage (1 - suc p) (1 - (suc p - place)) + if_holding stage (one_if (eqb place p)) ≤ by_stage stage (1 - p) (1 - (p - place))
holder_here Holding place p = dite (ℕ_discrete place p) (λ e. let a = eq-eqb place p e in rw a (omega arith)) (λ ne. let a = ne_eqb place p ne in rw a (omega arith))
holder_here stage place p = omega arith

-- 1 where this call stands at the place and does not hold it
abbrev waiting : ℕ → Call → ℕ
waiting p x = from p x - (from (suc p) x + holding p x)

from_splits : (p : ℕ) (x : Call) → from p x ≡ (from (suc p) x + holding p x) + waiting p x
from_splits p x = let a = holder_here x.stage x.place p in omega arith

module _ (count : ℕ) (words : List ℕ) (views : List PoolView) (kept : KeepsLine count words views) where
  -- who finds its place held stands there with another
  two_here : (p seat : ℕ) (u : PoolView) → p < count → get_elem? views seat ≡ some u → 1 ≤ own (waiting p) u → slice_index words (p * 8) ≢ 0 → tally (from (suc p)) views + 2 ≤ tally (from p) views
  two_here p seat u lt there waits set =
      let a = kept.pool.held p lt in
      let b = tally_has (waiting p) views seat u there in
      let c = tally_sum (from p) (λ x. from (suc p) x + holding p x) (waiting p) (from_splits p) views in
      let d = tally_sum (λ x. from (suc p) x + holding p x) (from (suc p)) (holding p) (λ x. refl) views in
      omega arith

  -- a call stands in the line
  pub stands : (place seat : ℕ) (v : PoolView) → get_elem? views seat ≡ some v → 1 ≤ own (from place) v → place < count
  stands place seat v there h = let a = tally_has (from place) views seat v there in let b = kept.line place in omega arith

  module _ (seat : ℕ) (c d : Call) (past past' : List Call) (there : get_elem? views seat ≡ some (lone c past)) where
    -- it comes no further
    no_further : ((q : ℕ) → own (from q) (lone d past') ≤ own (from q) (lone c past)) → (q : ℕ) → tally (from q) (set views seat (lone d past')) ≤ count - q
    no_further less q = let a = tally_set (from q) views seat (lone c past) (lone d past') there in let b = less q in let k = kept.line q in omega arith

  module _ (seat : ℕ) (c d : Call) (past : List Call) (there : get_elem? views seat ≡ some (lone c past)) where
    -- it comes one place further, where its place is held by another
    one_further : (p : ℕ) → p < count → holding p c ≡ 0 → ((q : ℕ) → from q c ≡ 1 - (q - p)) → ((q : ℕ) → from q d ≡ 1 - (q - suc p)) → slice_index words (p * 8) ≢ 0
        → (q : ℕ) → tally (from q) (set views seat (lone d past)) ≤ count - q
    one_further p lt free here further set q =
        let a = tally_set (from q) views seat (lone c past) (lone d past) there in
        let k = kept.line q in
        let x = here q in
        let y = further q in
        dite (ℕ_discrete q (suc p))
        (λ e. let h = here p in let h' = here (suc p) in
        let t = two_here p seat (lone c past) lt there (omega arith) set in
        let l = kept.line p in
        let s : tally (from q) views ≡ tally (from (suc p)) views = ap (λ (k : ℕ). tally (from k) views) e in
        omega arith)
        (λ ne. omega arith)

-- what a line knows of its views beside its pool
abbrev Stands : ℕ → List PoolView → Type 0
Stands count views = ((q : ℕ) → tally (from q) views ≤ count - q) × KeepsCrowd views

module _ {S : Type 0} (count slots seat : ℕ) where
  module _ (past : List Call) where
    pub may_come_in_line : (st : Step S) → 0 < count → Allows {S = S} {V = PoolView} (KeepsLineRule count) slots seat (resting past, []) 0 (λ n. n) (Comes st (resting past, []))
    may_come_in_line st some_number s h _ e _ =
        let arrival : ℕ = suc (now s.views) in
        let found : ℕ = slice_index s.words 0 in
        let come : Call = coming arrival at_rest in
        let new : PoolView = lone (looked found come) past in
        let come_views : List PoolView = set s.views seat (lone come past) in
        let stands : Stands count (set s.views seat new) = dite (ℕ_discrete found 0)
        (λ z. let a = eq-eqb found 0 z in rw a (no_further count s.words s.views h seat at_rest (sighting come) past past e (λ q. omega arith), comes_and_looks s.views h.crowd seat at_rest past e refl))
        (λ z. let a = ne_eqb found 0 z in
        let held = h.pool.held 0 some_number in
        let t = tally_set (holding 0) s.views seat (resting past) (lone come past) e in
        let two = two_beyond come_views 0 seat come past (come_there s.views h.crowd seat at_rest past e refl) refl refl (omega arith) in
        rw a (one_further count s.words s.views h seat at_rest (passing 0 come) past e 0 some_number refl (λ q. omega arith) (λ q. refl) z, comes_and_passes s.views h.crowd seat at_rest past e refl two)) in
        (new, keeps, tt, record { pool = come_kept count slots seat at_rest past arrival s refl h.pool e; line = stands.0; crowd = stands.1 }, (arrival, refl))

    pub may_come_by_swap_in_line : (st : Step S) → 0 < count → Allows {S = S} {V = PoolView} (KeepsLineRule count) slots seat (resting past, []) 0 (λ _. 1) (ComesBySwapInLine st (resting past, []))
    may_come_by_swap_in_line st some_number s h _ e _ =
        let came : ℕ = suc (now s.views) in
        let found : ℕ = slice_index s.words 0 in
        let come : Call = coming came at_rest in
        let come_views : List PoolView = came_views s.views h.crowd seat at_rest past e refl in
        let moment : ℕ = now come_views in
        let log : List ℕ = log_at_coming s.views h.crowd seat at_rest past e refl in
        let new : PoolView = lone (swapped moment log found come) past in
        let stands : Stands count (set s.views seat new) = dite (ℕ_discrete found 0)
        (λ z. let a = eq-eqb found 0 z in rw a (no_further count s.words s.views h seat at_rest (taking moment log come) past past e (λ q. omega arith), comes_and_takes s.views h.crowd seat at_rest past e refl))
        (λ z. let a = ne_eqb found 0 z in
        let held = h.pool.held 0 some_number in
        let t = tally_set (holding 0) s.views seat (resting past) (lone come past) e in
        let two = two_beyond come_views 0 seat come past (come_there s.views h.crowd seat at_rest past e refl) refl refl (omega arith) in
        rw a (one_further count s.words s.views h seat at_rest (passing 0 come) past e 0 some_number refl (λ q. omega arith) (λ q. refl) z, comes_and_passes s.views h.crowd seat at_rest past e refl two)) in
        let small : found ≡ 0 → IsSmall (swapped moment log found come) = (λ z. let a = eq-eqb found 0 z in rw a (small_at_coming s.views h.crowd seat at_rest past e refl)) in
        let next : List PoolView = set s.views seat new in
        let kept : KeepsLine count (slice_set s.words 0 1) next = record { pool = come_by_swap_kept count slots seat at_rest past came moment log s some_number refl h.pool e; line = stands.0; crowd = stands.1 } in
        let there : get_elem? next seat ≡ some new = there_set s.views seat new (resting past) e in
        (new, keeps, tt, kept, ((came, moment, log, refl), small, record { count = count; words = slice_set s.words 0 1; views = next; kept = kept; seat = seat; there = there }))

    -- no seat has met all numbers held
    pub never : (c : Call) (st : Step S) → c.stage ≡ Seeking → c.place ≡ count → Allows {S = S} {V = PoolView} (KeepsLineRule count) slots seat (lone c past, []) 0 (λ f. f) (NeverComes st (lone c past, []))
    never c st is here s h _ e _ =
        let x : from count c ≡ 1 = rw (is, here) (omega arith) in
        let a = stands count s.words s.views h count seat (lone c past) e (omega arith) in
        absurd (omega arith)

    module _ (c : Call) (p : ℕ) (within : p < count) (here : c.place ≡ p) where
      -- it finds its place held, and goes on
      passes : (lost : ℕ) (s : State S PoolView) → KeepsLineRule count s → get_elem? s.views seat ≡ some (lone c past) → c.stage ≡ Seeking → slice_index s.words (p * 8) ≢ 0 → Stands count (set s.views seat (lone (passing lost c) past))
      passes lost s h e is z =
          let held = h.pool.held p within in
          let two = two_beyond s.views p seat c past e is here (omega arith) in (
            one_further count s.words s.views h seat c (passing lost c) past e p within (seeks_none p c is) (λ q. rw (is, here) refl) (λ q. rw here refl) z,
            passing_crowd s.views h.crowd seat c past e is lost (rw here two),
          )

      pub may_look_in_line : (st : Step S) → c.stage ≡ Seeking → Allows {S = S} {V = PoolView} (KeepsLineRule count) slots seat (lone c past, []) (p * 8) (λ n. n) (Looks st (lone c past, []))
      may_look_in_line st is s h _ e _ =
          let found : ℕ = slice_index s.words (p * 8) in
          let new : PoolView = lone (looked found c) past in
          let stands : Stands count (set s.views seat new) = dite (ℕ_discrete found 0)
          (λ z. let a = eq-eqb found 0 z in rw a (no_further count s.words s.views h seat c (sighting c) past past e (λ q. omega arith), sighting_crowd s.views h.crowd seat c past e is))
          (λ z. let a = ne_eqb found 0 z in rw a (passes c.lost s h e is z)) in
          (new, keeps, tt, record { pool = look_kept count slots seat c past (p * 8) s is h.pool e; line = stands.0; crowd = stands.1 }, refl)

      pub may_take_in_line : (st : Step S) → c.stage ≡ Seeking → Allows {S = S} {V = PoolView} (KeepsLineRule count) slots seat (lone c past, []) (p * 8) (λ _. 1) (TakesInLine st (lone c past, []))
      may_take_in_line st is s h _ e _ =
          let moment : ℕ = now s.views in
          let log : List ℕ = log_so_far s.views h.crowd seat c past e is in
          let found : ℕ = slice_index s.words (p * 8) in
          let new : PoolView = lone (swapped moment log found c) past in
          let stands : Stands count (set s.views seat new) = dite (ℕ_discrete found 0)
          (λ z. let a = eq-eqb found 0 z in rw a (no_further count s.words s.views h seat c (taking moment log c) past past e (λ q. let x : from q c ≡ 1 - (q - c.place) = rw is refl in omega arith), taking_crowd s.views h.crowd seat c past e is))
          (λ z. let a = ne_eqb found 0 z in rw a (passes (races c) s h e is z)) in
          let small : found ≡ 0 → IsSmall (swapped moment log found c) = (λ z. let a = eq-eqb found 0 z in rw a (small_so_far s.views h.crowd seat c past e is)) in
          let next : List PoolView = set s.views seat new in
          let kept : KeepsLine count (slice_set s.words (p * 8) 1) next = record { pool = take_kept count slots seat c past moment log p s within is here h.pool e; line = stands.0; crowd = stands.1 } in
          let there : get_elem? next seat ≡ some new = there_set s.views seat new (lone c past) e in
          (new, keeps, tt, kept, ((moment, log, refl), small, record { count = count; words = slice_set s.words (p * 8) 1; views = next; kept = kept; seat = seat; there = there }))

      pub may_free_in_line : (st : Step S) → c.stage ≡ Holding → Allows {S = S} {V = PoolView} (KeepsLineRule count) slots seat (lone c past, []) (p * 8) (λ _. 0) (λ _. Frees st (lone c past, []) 0)
      may_free_in_line st is s h _ e _ =
          let moment : ℕ = suc (now s.views) in (
            lone at_rest (going moment c ∷ past),
            keeps,
            tt,
            record {
              pool = free_kept count slots seat c past moment p s within is here h.pool e;
              line = no_further count s.words s.views h seat c at_rest past (going moment c ∷ past) e (λ q. let x : from q c ≡ 1 - (q - c.place) = rw is refl in omega arith);
              crowd = going_crowd s.views h.crowd seat c past e is;
            },
            (moment, refl),
          )

none_undealt : (q n : ℕ) → sum_of (holding q) (undealt n) ≡ 0
none_undealt q zero = refl
none_undealt q (suc n) = let a = none_undealt q n in omega arith

all_undealt : (n q : ℕ) → sum_of (from q) (undealt n) ≤ n - q
all_undealt n zero = at_first n where
  at_first : (n : ℕ) → sum_of (from 0) (undealt n) ≤ n - 0
  at_first zero = omega arith
  at_first (suc n) = let a = at_first n in omega arith
all_undealt n (suc q) = let a = nothing n q in omega arith where
  nothing : (n q : ℕ) → sum_of (from (suc q)) (undealt n) ≡ 0
  nothing zero q = refl
  nothing (suc n) q = let a = nothing n q in omega arith

-- the line at the start
pub line_opens : (count : ℕ) → KeepsLine count (replicate (count * 8) 0) (view_of (undealt count) [] ∷ [])
line_opens count = record {
  pool = opens count (view_of (undealt count) []) (λ q. let a = none_undealt q count in omega arith);
  line = λ q. let a = all_undealt count q in omega arith;
  crowd = crowd_opens count;
}

module _ {S : Type 0} (count seat : ℕ) where
  pub may_deal : (n : ℕ) → Splits {S = S} {V = PoolView} (KeepsLineRule count) seat (view_of (undealt (suc n)) []) (view_of (undealt n) []) (resting [])
  may_deal n s h e =
      let sums : (f : Call → ℕ) → tally f (set s.views seat (view_of (undealt n) []) ++ resting [] ∷ []) ≡ tally f s.views =
      (λ f. let a = tally_set f s.views seat (view_of (undealt (suc n)) []) (view_of (undealt n) []) e in let b = tally_snoc f (set s.views seat (view_of (undealt n) [])) (resting []) in omega arith) in
      record {
        pool = record {
          as_many = h.pool.as_many;
          held = λ q lt. h.pool.held q lt ∙ sym (sums (holding q));
          lone = λ q. let a = sums (holding q) in let b = h.pool.lone q in omega arith;
        };
        line = λ q. let a = sums (from q) in let b = h.line q in omega arith;
        crowd = parts_crowd s.views h.crowd seat (view_of (undealt n) []) (resting []) sums (each_undealt s.views n) (tt, tt);
      }

  pub may_unite_in_line : (other : ℕ) (u w : PoolView) → Joins {S = S} {V = PoolView} (KeepsLineRule count) seat u other w (united u w) no_call
  may_unite_in_line other u w s h e apart e' = record {
    pool = may_unite count 0 seat other u w s h.pool e apart e';
    line = λ q. let a = tally_set (from q) s.views seat u (united u w) e in let b = tally_set (from q) (set s.views seat (united u w)) other w no_call e' in let x = united_own u w (from q) in let k = h.line q in omega arith;
    crowd = unites_crowd s.views h.crowd seat other u w e apart e' (λ f. let a = tally_set f s.views seat u (united u w) e in let b = tally_set f (set s.views seat (united u w)) other w no_call e' in let x = united_own u w f in omega arith);
  }

  pub may_sever_in_line : (c d : Call) (past others : List Call) → Splits {S = S} {V = PoolView} (KeepsLineRule count) seat (both c d past others) (lone c (past ++ others)) (lone d [])
  may_sever_in_line c d past others s h e = record {
    pool = may_sever count 0 seat c d past others s h.pool e;
    line = λ q. let a = tally_set (from q) s.views seat (both c d past others) (lone c (past ++ others)) e in let b = tally_snoc (from q) (set s.views seat (lone c (past ++ others))) (lone d []) in let x = apart_own c d past others (from q) in let k = h.line q in omega arith;
    crowd = parts_crowd s.views h.crowd seat (lone c (past ++ others)) (lone d []) (λ f. let a = tally_set f s.views seat (both c d past others) (lone c (past ++ others)) e in let b = tally_snoc f (set s.views seat (lone c (past ++ others))) (lone d []) in let x = apart_own c d past others f in omega arith)
        (let k = h.crowd.crowd seat (both c d past others) e in (k.0, tt)) (let k = h.crowd.crowd seat (both c d past others) e in k.1);
  }

  pub may_look_on_in_line : (slots : ℕ) (u : PoolView) (st : Step S) → length u.calls ≡ 2 → Allows {S = S} {V = PoolView} (KeepsLineRule count) slots seat (u, []) 0 (λ f. f) (LooksOn st (u, []))
  may_look_on_in_line slots u st two s h len e b =
      let kept : KeepsLine count (slice_set s.words 0 (slice_index s.words 0)) (set s.views seat u) = rw (reread s.words 0, set_again s.views seat u e) h in
      (u, keeps, tt, kept, (refl, record { count = count; words = s.words; views = s.views; kept = h.pool; seat = seat; there = e }, two))

pub rests_undealt : (n : ℕ) → sum_of rests (undealt n) ≡ n
rests_undealt zero = refl
rests_undealt (suc n) = let a = rests_undealt n in omega arith

-- so the rule lets every pool do what it does
pub line_steps : KeepsSteps KeepsLineRule (λ count. view_of (undealt count) [])
line_steps = record {
  opens = line_opens;
  looks = λ count slots seat place c past s lt is here. may_look_in_line count slots seat past c place lt here s is;
  frees = λ count slots seat place c past s lt is here. may_free_in_line count slots seat past c place lt here s is;
  unites = may_unite_in_line;
  looks_on = λ count slots seat v s two. may_look_on_in_line count seat slots v s two;
  severs = may_sever_in_line;
}
