-- calls by cases on who makes them
use Rattle.std.proofs.Common.{◌≡◌, ℕ, Option, Some, None, Ok, Err, refl, subst}
use Rattle.std.proofs.lemmas.Option.{same_Some}
use Rattle.model_pool.specs.Pool.{probe_refusal, probe_refusal_by}
use Rattle.model_pool.specs.Sought.{seek_answer, after_seek}
use Rattle.model_pool.proofs.Common.{Refusal, NotCompeting, Holding, after_access, Stay, Seeking, Settled, probe_access, stay_probed, probe_reply, stay_of, with_stay, PoolState, probe_answer, after_probe, got_by, number_answer, number_by, after_leave, after_leave_by}

-- the probe of one who holds no number
pub going_answer : (w : PoolState) (id next : ℕ) → stay_of id w.competitors ≡ Some (Seeking next) → probe_answer w id ≡ Ok (probe_reply (stay_probed w.size (Seeking next) (got_by w (Seeking next))))
going_answer w id next here = rw here refl

pub going_after : (w : PoolState) (id next : ℕ) → stay_of id w.competitors ≡ Some (Seeking next) →
    after_probe w id ≡ record { most = w.most; size = w.size; bits = after_access w.bits (probe_access w.size (Seeking next)); competitors = with_stay id (stay_probed w.size (Seeking next) (got_by w (Seeking next))) w.competitors }
going_after w id next here = rw here refl

-- who is refused a probe is refused to seek, and nothing changes
pub record IsRefused (w : PoolState) (id : ℕ) (why : Refusal) : Type 0 where
  pub probe : Err why ≡ probe_answer w id
  pub probed : w ≡ after_probe w id
  pub seek : Err why ≡ seek_answer w id
  pub sought : w ≡ after_seek w id

refused_by : (w : PoolState) (id : ℕ) (why : Refusal) (o : Option Stay) → stay_of id w.competitors ≡ o → probe_refusal_by o ≡ Some why → IsRefused w id why
refused_by w id why None e h = subst (IsRefused w id) (same_Some NotCompeting why h) (record { probe = rw e refl; probed = rw e refl; seek = rw e refl; sought = rw e refl })
refused_by w id why (Some (Seeking next)) e h = absurd (cc)
refused_by w id why (Some (Settled number)) e h = subst (IsRefused w id) (same_Some Holding why h) (record { probe = rw e refl; probed = rw e refl; seek = rw e refl; sought = rw e refl })

pub refused : (w : PoolState) (id : ℕ) (why : Refusal) → probe_refusal w id ≡ Some why → IsRefused w id why
refused w id why = refused_by w id why (stay_of id w.competitors) refl

-- who holds a number stands so
pub settled_by : (o : Option Stay) (n : ℕ) → number_by o ≡ Ok n → o ≡ Some (Settled n)
settled_by (Some (Settled number)) n h = let e : number ≡ n = cc in rw e refl
settled_by o n h = absurd (cc)

-- who holds none changes nothing by leaving
unsettled_by : (w : PoolState) (id : ℕ) (why : Refusal) (o : Option Stay) → Err why ≡ number_by o → w ≡ after_leave_by w id o
unsettled_by w id why (Some (Settled number)) h = absurd (cc)
unsettled_by w id why (Some (Seeking next)) h = refl
unsettled_by w id why None h = refl

pub unsettled_after : (w : PoolState) (id : ℕ) (why : Refusal) → Err why ≡ number_answer w id → w ≡ after_leave w id
unsettled_after w id why = unsettled_by w id why (stay_of id w.competitors)
