use Rattle.std.proofs.Common.{◌≡◌, ◌<◌, ◌-◌, replicate, take, length, refl, sym, ap, ◌∙◌, arith, add-zero}
use Rattle.std.proofs.lemmas.List.{length-take-le, take_all, drop_all}
use Rattle.model_steps.specs.View.{IsRising, inserted}
use Rattle.model_steps.proofs.cited.ViewLemmas.{IsRising-inserted, zeros_next}
use Rattle.model_steps.proofs.view.View.insert.Goals as goal

-- a full view is its whole array, before and after
pub invariant_of-self : goal.invariant_of-self
invariant_of-self c =
    let k = c.self.invariant in
    let full : c.self.inside.len ≡ 64 = c.if-self-eq-ROOM.true in
    let long : length c.replace_in.new.pairs ≡ 64 = c.replace_in.auto.pairs ∙ k.all in
    let before : take c.self.inside.len c.self.inside.pairs ≡ c.self.inside.pairs = take_all c.self.inside.len c.self.inside.pairs (omega (arith, full, k.all)) in
    let after : take c.self.inside.len c.replace_in.new.pairs ≡ c.replace_in.new.pairs = take_all c.self.inside.len c.replace_in.new.pairs (omega (arith, full, long)) in
    let rises : IsRising c.self.inside.pairs = rw before at k.rising in
    record {
      room = k.room;
      all = long;
      rising = rw after (rw c.replace_in.ensures (IsRising-inserted c.self.inside.pairs (c.args.identity, c.args.value) rises));
      zeros = drop_all c.self.inside.len c.replace_in.new.pairs (omega (arith, full, long)) ∙ ap (λ n. replicate (64 - n) (0, 0)) (sym full);
    }

pub invariant_of-self-then-put_in : goal.invariant_of-self-then-put_in
invariant_of-self-then-put_in c =
    let k = c.self.invariant in
    let l : length (take c.self.inside.len c.self.inside.pairs) ≡ c.self.inside.len = length-take-le c.self.inside.len c.self.inside.pairs (omega arith) in
    let few : c.self.inside.len < 64 = (let n = c.if-self-eq-ROOM.false in let room = k.room in omega arith) in
    record {
      room = omega arith;
      all = c.put_in.auto.pairs ∙ k.all;
      rising = rw c.if-put_in.ensures.pairs (IsRising-inserted (take c.self.inside.len c.self.inside.pairs) (c.args.identity, c.args.value) k.rising);
      zeros = c.if-put_in.ensures.rest ∙ zeros_next c.self.inside.pairs c.self.inside.len (omega arith) k.zeros;
    }

pub invariant_of-self-else-put_in : goal.invariant_of-self-else-put_in
invariant_of-self-else-put_in c =
    let k = c.self.invariant in
    let pairs : take c.self.inside.len c.put_in.new.pairs ≡ inserted (take c.self.inside.len c.self.inside.pairs) (c.args.identity, c.args.value) = rw add-zero at c.if-put_in.ensures.pairs in
    record {
      room = omega arith;
      all = c.put_in.auto.pairs ∙ k.all;
      rising = rw pairs (IsRising-inserted (take c.self.inside.len c.self.inside.pairs) (c.args.identity, c.args.value) k.rising);
      zeros = c.if-put_in.ensures.same refl ∙ k.zeros;
    }
