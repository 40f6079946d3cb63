use Rattle.std.proofs.Common.{◌≡◌, [], replicate, subst}
use Rattle.model_asked.specs.declared.config.Config.{Config}
use Rattle.model_pool.specs.Pool.{fresh_pool}
use Rattle.text_worlds.specs.desk.Start.{pool_start}
use Rattle.service_hall.specs.Halls.{hall_of}
use Rattle.service_hall.specs.Copies.{slots_in}
use Rattle.service_hall.proofs.RebuiltLemmas.{none_sorted}
use Rattle.service_hall.proofs.compacting.sort_all.Goals as goal

pub loop-place-init : goal.loop-place-init
loop-place-init c =
    let config = c.config-config.ensures.config in
    let hall : c.in_ok-new.new.hall ≡ hall_of c.args.hall.now.config [] = subst (λ (k : Config). c.in_ok-new.new.hall ≡ hall_of k []) config c.in_ok-new.ensures.hall in
    let old : slots_in c.in_ok-old.old ≡ record { pool = fresh_pool (pool_start c.args.hall.now.config); values = replicate c.args.hall.now.config.k 0 } =
    subst (λ (k : Config). slots_in c.in_ok-old.old ≡ record { pool = fresh_pool (pool_start k); values = replicate k.k 0 }) config (rw c.most_numbers.ensures at c.in_ok-old.ensures) in
    none_sorted c.args.hall.now c.in_ok-new.new c.in_ok-old.old hall c.in_ok-new.ensures.copied old

pub loop-place-preserved : goal.loop-place-preserved
loop-place-preserved c = c.in_ok-sort.ensures c.loop-place.invariant
