use Rattle.std.proofs.Common.{refl, arith}
use Rattle.text_checker.proofs.Common.{few_take_part, pool_start, terms_of, fresh_desk_object}
use Rattle.model_asked.specs.Config.{facts_of}
use Rattle.text_checker.proofs.checker.Checker.new.Goals as goal

pub returns : goal.returns
returns c =
    let config = c.args.config in
    let r = config.in_range in
    record {
      object = fresh_desk_object (pool_start config);
      run = refl;
      held = record {
        names = c.in_ok-new-2.ensures (terms_of config) refl refl (few_take_part config) r.4 r.5;
        slots = (rw c.most_numbers.ensures at c.in_ok-new.ensures) r.2 r.3 (facts_of config.world).numbers.1;
        grows_is = c.is_tree.ensures;
      };
      few = omega arith;
    }
