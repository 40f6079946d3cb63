use Rattle.std.proofs.Common.{◌≤◌, ap, subst, sym, arith, length, List}
use Rattle.std.proofs.lemmas.Bool.Decides.{nat_tests}
use mathlib.Core.List.{IsPrefix}
use Rattle.service_lock.proofs.Fronts.{prefix_shorter}
use Rattle.service_lock.proofs.book.Front.begins_with.Goals as goal

pub returns-clause-is : goal.returns-clause-is
returns-clause-is g c = λ less.
    let both = c.learn.new.self.log in
    let this : IsPrefix c.self.inside.seen.log both = subst (λ (l : List g.row.E.Denot). IsPrefix l both) (ap (λ s. s.log) c.again-both.ensures) c.learn.ensures.2 in
    let few : c.other.inside.count ≤ c.self.inside.count = grind (arith, nat_tests) in
    let shorter : length c.other.inside.seen.log ≤ length c.self.inside.seen.log = omega (arith, few, c.self.invariant.0, c.other.invariant.0) in
    rw (← c.self.view_is, ← c.other.view_is) (prefix_shorter c.other.inside.seen.log c.self.inside.seen.log both c.learn.ensures.3 this shorter)
