-- One key more, of this place.
use Rattle.std.proofs.Common.{rules, ◌≡◌, ◌∷◌, ◌++◌, [], string_bytes}
use Rattle.service_log.proofs.etcd_lemmas.Trims.{keys_more, many_more}
use Rattle.service_log.proofs.etcd.request.keys64.Goals as goal

pub loop-place-preserved : goal.loop-place-preserved
loop-place-preserved c =
    let before = c.loop-place.keys.items in
    let key = c.in_ok-key64.field-0 in
    let pushed : c.push.new.self.items ≡ before ++ key ∷ [] = search rules in
    record {
      keys = keys_more string_bytes c.args.prefix.now c.args.from c.loop-place.place before c.push.new.self.items key pushed c.loop-place.invariant.keys c.loop-place.invariant.many c.in_ok-key64.ensures.reads;
      many = many_more string_bytes c.args.from c.loop-place.place before c.push.new.self.items key pushed c.loop-place.invariant.many;
    }
