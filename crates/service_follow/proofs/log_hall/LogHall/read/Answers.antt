-- All entries that the store has were applied.
use Rattle.std.proofs.Common.{rules, ◌<◌, refl, subst}
use Rattle.service_follow.specs.Decided.{HasRead}
use Rattle.service_follow.specs.FollowState.{FollowState}
use Rattle.service_follow.specs.Stays.{start_of}
use Rattle.service_follow.proofs.log_hall.LogHall.read.Goals as goal

pub returns-then-passed-most-clause-read : goal.returns-then-passed-most-clause-read
returns-then-passed-most-clause-read g c = λ all.
    let from = c.self.inside.from in
    let start = start_of c.self.inside.config from in
    let less : c.in_ok-passed.passed < c.args.most = search rules in
    let later = c.catch_up.ensures.follows from start c.self.invariant in
    subst (λ (s : FollowState g.row.S.Denot). HasRead g.S.Store.lacks (g.S.Store.stands s.store) c.self.inside.config c.catch_up.new.self) c.self.view_is (record {
      from = from;
      applied = c.law_of_following.ensures.still from start c.catch_up.new.self c.catch_up.new.store c.self.inside.store c.catch_up.ensures.same.only later c.in_ok-passed.ensures.well;
      end = c.catch_up.new.store;
      at_end = c.in_ok-passed.ensures.stopped less;
    })

pub returns-then-passed-most-clause-all : goal.returns-then-passed-most-clause-all
returns-then-passed-most-clause-all g c = λ all.
    let from = c.self.inside.from in
    let start = start_of c.self.inside.config from in
    let less : c.in_ok-passed.passed < c.args.most = search rules in
    record {
      applied = c.catch_up.ensures.follows from start c.self.invariant c.in_ok-passed.ensures.well;
      at_end = c.in_ok-passed.ensures.stopped less;
      well = c.in_ok-passed.ensures.well;
      place = refl;
    }
