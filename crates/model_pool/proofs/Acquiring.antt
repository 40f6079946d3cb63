-- one who enters and gets a number by the probes of its bits makes the calls of a stay
use Rattle.std.proofs.Common.{◌≡◌, ℕ, zero, suc, ◌+◌, List, [], ◌∷◌, ◌++◌, Some, None, Ok, refl, sym, ap, ◌∙◌, arith, is_some}
use Rattle.model_pool.proofs.Common.{nat_tests, Registers, after_access, set_at-same, Competitor, Stay, Seeking, Settled, probe_access, probe_reply, stay_of, with_stay, PoolState, fresh_pool, enter_refusal, Call, next, IsReply, pool}
use Rattle.model_pool.specs.PoolState.{PoolStart}
use Rattle.model_steps.specs.Runs.{Run}
use Rattle.model_steps.proofs.cited.RunLemmas.{run_more, run_keeps}
use Rattle.model_steps.specs.Machine.{Reaches}
use Rattle.model_pool.specs.Acquired.{probe_calls, stay_calls, IsAcquired, IsSought, GetsAfter, Gets}
use Rattle.model_pool.proofs.Counts.{competitor}
use Rattle.model_pool.proofs.StayOfLemmas.{stay_of-push, stay_of-with_stay, with_stay-twice}
use Rattle.model_pool.proofs.cited.PoolKeeps.{let_in}

-- a run goes on by a run
run_on : {S H : Type 0} (step : S → H → S) (Right : S → H → Type 0) (s mid end : S) (r t : List H) → Run step Right s r mid → Run step Right mid t end → Run step Right s (r ++ t) end
run_on step Right s mid end r t run on = run_keeps step Right (λ m past. Run step Right s past m) (λ m past h i right. run_more step Right s past m h i right) mid r t end run on

-- another state of the last
with_stay-push : (cs : List Competitor) (id : ℕ) (a b : Stay) → stay_of id cs ≡ None → with_stay id b (cs ++ competitor id a ∷ []) ≡ cs ++ competitor id b ∷ []
with_stay-push [] id a b absent = grind (arith, nat_tests)
with_stay-push (c ∷ cs) id a b absent =
    let rest : stay_of id cs ≡ None → with_stay id b (cs ++ competitor id a ∷ []) ≡ cs ++ competitor id b ∷ [] = with_stay-push cs id a b in
    grind (arith, nat_tests)

-- the pool with these bits, where one identity stands so
abbrev stood : PoolState → Registers (Unit {0}) → ℕ → Stay → PoolState
stood w bits id stay = record { most = w.most; size = w.size; bits = bits; competitors = with_stay id stay w.competitors }

-- probes that get a number, as calls
probes_run : (misses : ℕ) (w : PoolState) (id bit n : ℕ) (bits : Registers (Unit {0})) → stay_of id w.competitors ≡ Some (Seeking bit) → GetsAfter misses w.size bit w.bits n bits →
    Run next IsReply w (probe_calls id misses n) (stood w bits id (Settled n))
probes_run zero w id bit n bits here gets =
    (rw here (ap (λ s. Ok (probe_reply s)) (sym gets.0)), rw (here, gets.0, gets.1) refl)
probes_run (suc misses) w id bit n bits here gets =
    let mid : PoolState = stood w (after_access w.bits (probe_access w.size (Seeking bit))) id (Seeking (bit + 1)) in
    let stands : stay_of id mid.competitors ≡ Some (Seeking (bit + 1)) =
    stay_of-with_stay w.competitors id (Seeking (bit + 1)) (ap is_some here) id ∙ set_at-same (λ v. stay_of v w.competitors) id (Some (Seeking (bit + 1))) in
    let rest = probes_run misses mid id (bit + 1) n bits stands gets.1 in
    (rw here (ap (λ s. Ok (probe_reply s)) (sym gets.0)), rw (here, gets.0, ← with_stay-twice id (Seeking (bit + 1)) (Settled n) w.competitors) rest)

-- one who is let in and gets a number by probes has made the calls of a stay
pub acquired : (w : PoolState) (id n : ℕ) (bits : Registers (Unit {0})) → None ≡ enter_refusal w id → Gets w.size 1 w.bits n bits →
    IsAcquired w id n (record { most = w.most; size = w.size; bits = bits; competitors = w.competitors ++ competitor id (Settled n) ∷ [] })
acquired w id n bits may gets =
    let none : enter_refusal w id ≡ None = sym may in
    let absent = (let_in w id none).absent in
    let entered : PoolState = record { most = w.most; size = w.size; bits = w.bits; competitors = w.competitors ++ competitor id (Seeking 1) ∷ [] } in
    let stands : stay_of id entered.competitors ≡ Some (Seeking 1) = stay_of-push w.competitors (competitor id (Seeking 1)) absent id ∙ set_at-same (λ v. stay_of v w.competitors) id (Some (Seeking 1)) in
    let run = probes_run gets.misses entered id 1 n bits stands gets.after in
    let end = with_stay-push w.competitors id (Seeking 1) (Settled n) absent in
    record {
      misses = gets.misses;
      run = rw none (refl, rw (← end) run);
    }

-- so a pool after some calls is after these and a stay
pub acquired_after : (start : PoolStart) (w new : PoolState) (r : List Call) (id n : ℕ) (a : IsAcquired w id n new) → Reaches pool start w r → Reaches pool start new (r ++ stay_calls id a.misses n)
acquired_after start w new r id n a after = record { started = after.started; run = run_on next IsReply (fresh_pool start) w new r (stay_calls id a.misses n) after.run a.run }

-- one who gets a number by probes has made the calls of these probes
pub sought : (w : PoolState) (id bit n : ℕ) (bits : Registers (Unit {0})) → stay_of id w.competitors ≡ Some (Seeking bit) → Gets w.size bit w.bits n bits →
    IsSought w id n (record { most = w.most; size = w.size; bits = bits; competitors = with_stay id (Settled n) w.competitors })
sought w id bit n bits here gets = record { misses = gets.misses; run = probes_run gets.misses w id bit n bits here gets.after }

-- so a pool after some calls is after these and the probes
pub sought_after : (start : PoolStart) (w new : PoolState) (r : List Call) (id n : ℕ) (a : IsSought w id n new) → Reaches pool start w r → Reaches pool start new (r ++ probe_calls id a.misses n)
sought_after start w new r id n a after = record { started = after.started; run = run_on next IsReply (fresh_pool start) w new r (probe_calls id a.misses n) after.run a.run }
