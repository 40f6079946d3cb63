use Rattle.std.proofs.Common.{rules, ◌≡◌, ◌≤◌, ℕ, suc, inl, inr, Ok, Err, refl, ap, arith}
use Rattle.model_pool.proofs.Common.{leb_tells, Registers, Gets, Seeking, Settled, Probed, Sought, PoolState}
use Rattle.model_pool.specs.Acquired.{IsSought}
use Rattle.model_pool.specs.Invariant.{AreSetBelow}
use Rattle.model_pool.specs.Sought.{sought_on, seek_answer, after_seek}
use Rattle.model_pool.proofs.Acquiring.{sought, sought_after}
use Rattle.model_pool.proofs.RosterLemmas.{stays_put}
use Rattle.model_pool.proofs.SoughtLemmas.{gets_sought}
use Rattle.model_pool.proofs.CallLemmas.{refused}
use Rattle.model_pool.proofs.cited.PoolKeeps.{pool_law, pool_proved}
use Rattle.model_pool.proofs.pool.Pool.seek.Goals as goal

-- all bits below this one are set, and it is one of the pool
record IsLowAfter (bits : Registers (Unit {0})) (size new : ℕ) : Type 0 where
  first : 1 ≤ new
  last : new ≤ size
  below : AreSetBelow new bits

pub returns-in_err-first : goal.returns-in_err-first
returns-in_err-first g c =
    let why = c.in_err-first.field-0.0 in
    let r = refused c.args.self.now c.args.id why c.in_err-first.ensures.refused in
    let is : c.from_residual.result ≡ Err why = search rules in
    rw is (record {
      answer = r.seek;
      state = r.sought;
      unchanged_on_error = refl;
      after = pool_proved.call c.args.self.now c.args.self.now (Sought c.args.id (Err why)) r.sought r.seek;
      law = pool_law _;
      sought = tt;
      shorthand = pool_proved.call c.args.self.now c.args.self.now (Probed c.args.id (Err why)) r.probed r.probe;
    })

pub seek-number-requires : goal.seek-number-requires
seek-number-requires g c =
    let i = c.self.invariant in
    let low : 1 ≤ c.in_ok-first.first = c.in_ok-first.ensures.range in
    record {
      some = (low, i.first);
      from = (omega (arith, c.max.ensures), omega (arith, c.max.ensures, i.low_last));
      set = λ k from less. i.below k (omega (arith, low, from)) (omega (arith, c.max.ensures, from, less));
    }

pub invariant_of-self : goal.invariant_of-self
invariant_of-self g c =
    let i = c.self.invariant in
    let number = c.seek-number.result in
    let range = c.seek-number.ensures.range in
    let low = c.low_after-self-inside.result in
    let is : IsLowAfter c.seek-number.new.bits c.self.inside.size low = elim c.low_after-self-inside.ensures [
      | inl w ↦ record {
        first = omega (arith, w.1, range.0);
        last = omega (arith, w.1, range.1);
        below = λ k from less. elim (leb_tells (suc k) c.in_ok-first.first) [
          | inl before ↦ c.seek-number.ensures.kept c.self.inside.low i.below k from (omega (arith, before.1, w.0))
          | inr behind ↦ c.seek-number.ensures.set k (omega (arith, behind.1)) (omega (arith, w.1, less))
        ];
      }
      | inr w ↦ record {
        first = omega (arith, w, i.low_first);
        last = omega (arith, w, i.low_last);
        below = rw w (c.seek-number.ensures.kept c.self.inside.low i.below);
      }
    ] in
    rw c.put.ensures (record {
      first = i.first;
      last = i.last;
      top = i.top;
      low_first = is.first;
      low_last = is.last;
      below = is.below;
      stays = stays_put c.self.inside.size c.args.id (Settled number) c.self.inside.competitors.competitors range i.stays;
    })

pub returns : goal.returns
returns g c =
    let f = c.in_ok-first.ensures.seeks in
    let m : c.self.inside.bits ≡ c.args.self.now.bits = ap (λ w. w.bits) c.self.view_is in
    let z : c.self.inside.size ≡ c.args.self.now.size = ap (λ w. w.size) c.self.view_is in
    let k : c.self.inside.competitors.most ≡ c.args.self.now.most = ap (λ w. w.most) c.self.view_is in
    let v : c.self.inside.competitors.competitors ≡ c.args.self.now.competitors = ap (λ w. w.competitors) c.self.view_is in
    let n = c.seek-number.result in
    let bits = c.seek-number.new.bits in
    let gets : Gets c.args.self.now.size c.in_ok-first.first c.args.self.now.bits n bits = rw (z, m) at c.seek-number.ensures.probes in
    let some : 1 ≤ c.args.self.now.size = rw z at c.self.invariant.first in
    let is : sought_on c.args.self.now.size c.args.self.now.size (Seeking c.in_ok-first.first) c.args.self.now.bits ≡ (n, bits) = gets_sought c.args.self.now.size c.in_ok-first.first n c.args.self.now.bits bits some gets in
    let answer : Ok n ≡ seek_answer c.args.self.now c.args.id = rw (f, is) refl in
    let new : PoolState = record { most = c.put.new.self.most; size = c.self.inside.size; bits = bits; competitors = c.put.new.self.competitors } in
    let state : new ≡ after_seek c.args.self.now c.args.id = rw (f, is) (rw (c.put.ensures, k, z, v) refl) in
    let is_sought : IsSought c.args.self.now c.args.id n new = rw (c.put.ensures, k, z, v) (sought c.args.self.now c.args.id c.in_ok-first.first n bits f gets) in
    record {
      answer = answer;
      state = state;
      unchanged_on_error = tt;
      after = pool_proved.call c.args.self.now new (Sought c.args.id (Ok n)) state answer;
      law = pool_law _;
      sought = is_sought;
      shorthand = λ start r a. (is_sought.misses, sought_after start c.args.self.now new r c.args.id n is_sought a);
    }
