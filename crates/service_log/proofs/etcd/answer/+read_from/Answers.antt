-- What was read so far, and behind it what the rest of the answer says.
use Rattle.std.proofs.Common.{rules, arith, ◌≡◌, ◌≢◌, ◌≤◌, ℕ, ◌+◌, ◌-◌, Err, [], ◌∷◌, ◌++◌, Some, None, sym, append-nil}
use Rattle.std.specs.declared.vec.Vec.{Vec}
use Rattle.std.specs.declared.alloc.Global.{Global}
use Rattle.json.specs.Value.{value_view}
use Rattle.service_log.specs.declared.store_fault.StoreFault.{StoreFault}
use Rattle.service_log.specs.etcd.Found.{SaysFound}
use Rattle.service_log.proofs.etcd_lemmas.Ranges.{says_none, read_more, unread_first, unread_rest}
use Rattle.service_log.proofs.etcd.answer.+read_from.Goals as goal

pub returns-in_default-clause-said : goal.returns-in_default-clause-said
returns-in_default-clause-said t c =
    let some : c.args.most ≢ 0 = search rules in
    let said : SaysFound (value_view c.args.answer.now) c.args.index c.args.prefix.now c.args.place None = search rules in
    ([], sym (append-nil c.args.found.now.items), says_none c.args.most (value_view c.args.answer.now) c.args.index c.args.prefix.now c.args.place some said)

pub returns-clause-said : goal.returns-clause-said
returns-clause-said t c =
    let some : c.args.most ≢ 0 = search rules in
    let entry : Vec ℕ Global = c.in-Some.entry in
    let said : SaysFound (value_view c.args.answer.now) c.args.index c.args.prefix.now c.args.place (Some entry) = search rules in
    let pushed : c.push.new.self.items ≡ c.args.found.now.items ++ entry ∷ [] = search rules in
    let one : c.in-Some-checked_add.next ≡ c.args.place + 1 = search rules in
    read_more c.read_from.result c.args.most (value_view c.args.answer.now) c.args.index c.args.prefix.now c.args.place c.in-Some-checked_add.next entry c.args.found.now.items c.push.new.self.items c.read_from.new.found.items
    some one said pushed c.read_from.ensures.said

-- where it can't be read, or one behind it can't
pub returns-in_err-entry-clause-wrong : goal.returns-in_err-entry-clause-wrong
returns-in_err-entry-clause-wrong t c = λ wrong bound.
    let some : c.args.most ≢ 0 = search rules in
    let was : c.found_at.result ≡ Err StoreFault.Wrong = search rules in
    unread_first c.args.most (value_view c.args.answer.now) c.args.index c.args.prefix.now c.args.place some (c.found_at.ensures.wrong was)

pub returns-clause-wrong : goal.returns-clause-wrong
returns-clause-wrong t c = λ wrong bound.
    let some : c.args.most ≢ 0 = search rules in
    let next = c.in-Some-checked_add.next in
    let one : next ≡ c.args.place + 1 = search rules in
    let inside : next + (c.args.most - 1) ≤ 18446744073709551616 = omega (arith, one, some, bound) in
    unread_rest c.args.most (value_view c.args.answer.now) c.args.index c.args.prefix.now c.args.place next some one (c.read_from.ensures.wrong wrong inside)
