-- A step is one of the two, and neither is taken where it is poisoned or full.
use Rattle.std.proofs.Common.{◌≡◌, ap, sym, refl, ◌∙◌, false, true}
use mathlib.Core.Bool.{false≢true}
use Rattle.service_log.specs.Places.{Same}
use Rattle.service_log.proofs.Chains.{adds_none, offered_unwritten, read_unwritten, same_self, turned, well_not}
use Rattle.service_log.proofs.replica.Replica.advance.Goals as goal

pub returns-then-self-clause-fault : goal.returns-then-self-clause-fault
returns-then-self-clause-fault g c = (ap (λ r. r.poisoned) (sym c.self.view_is) ∙ c.if-self.true, refl)

pub returns-then-self-clause-reads : goal.returns-then-self-clause-reads
returns-then-self-clause-reads g c = λ behind. same_self (g.S.Store.stands c.args.store.now)

pub returns-then-self-ge-MOST_PLACES-clause-reads : goal.returns-then-self-ge-MOST_PLACES-clause-reads
returns-then-self-ge-MOST_PLACES-clause-reads g c = λ behind. same_self (g.S.Store.stands c.args.store.now)

pub returns-then-self-clause-adds : goal.returns-then-self-clause-adds
returns-then-self-clause-adds g c =
    let stands = g.S.Store.stands c.args.store.now in
    adds_none stands stands c.args.self.now.place c.args.batch.now (same_self stands)

pub returns-then-self-ge-MOST_PLACES-clause-adds : goal.returns-then-self-ge-MOST_PLACES-clause-adds
returns-then-self-ge-MOST_PLACES-clause-adds g c =
    let stands = g.S.Store.stands c.args.store.now in
    adds_none stands stands c.args.self.now.place c.args.batch.now (same_self stands)

pub returns-then-self-ge-MOST_PLACES-clause-poisoned : goal.returns-then-self-ge-MOST_PLACES-clause-poisoned
returns-then-self-ge-MOST_PLACES-clause-poisoned g c = λ was. well_not _ c.args.self.now c.self.view_is c.if-self.false was

pub returns-then-self-2-clause-answered : goal.returns-then-self-2-clause-answered
returns-then-self-2-clause-answered g c = c.follow.ensures.answered

pub returns-then-self-2-clause-passed : goal.returns-then-self-2-clause-passed
returns-then-self-2-clause-passed g c = c.follow.ensures.passed

pub returns-then-self-2-clause-nothing : goal.returns-then-self-2-clause-nothing
returns-then-self-2-clause-nothing g c =
    let was : c.args.self.now.behind ≡ true = ap (λ r. r.behind) (sym c.self.view_is) ∙ c.if-self-2.true in
    λ none. (turned c.args.self.now c.follow.new.self true was (c.follow.ensures.nothing none), ap (λ r. r.poisoned) (sym c.self.view_is) ∙ c.if-self.false)

pub returns-then-self-2-clause-missed : goal.returns-then-self-2-clause-missed
returns-then-self-2-clause-missed g c = λ none behind. c.follow.ensures.missed none

pub returns-then-self-2-clause-stood : goal.returns-then-self-2-clause-stood
returns-then-self-2-clause-stood g c =
    let was : c.args.self.now.behind ≡ true = ap (λ r. r.behind) (sym c.self.view_is) ∙ c.if-self-2.true in
    λ none not_behind. absurd (false≢true (sym not_behind ∙ was))

pub returns-then-self-2-clause-lost : goal.returns-then-self-2-clause-lost
returns-then-self-2-clause-lost g c =
    let was : c.args.self.now.behind ≡ true = ap (λ r. r.behind) (sym c.self.view_is) ∙ c.if-self-2.true in
    λ fault is. ap (λ r. r.behind) (c.follow.ensures.lost fault is) ∙ was

pub returns-then-self-2-clause-reads : goal.returns-then-self-2-clause-reads
returns-then-self-2-clause-reads g c = λ behind. c.follow.ensures.same

pub returns-then-self-2-clause-unwritten : goal.returns-then-self-2-clause-unwritten
returns-then-self-2-clause-unwritten g c =
    let stands = g.S.Store.stands in
    read_unwritten (Same (stands c.args.store.now) (stands c.follow.new.store)) c.follow.result c.follow.ensures.same

pub returns-then-self-2-clause-fault : goal.returns-then-self-2-clause-fault
returns-then-self-2-clause-fault g c = c.follow.ensures.fault

pub returns-then-self-2-clause-cause : goal.returns-then-self-2-clause-cause
returns-then-self-2-clause-cause g c = c.follow.ensures.cause

pub returns-then-self-2-clause-poisoned : goal.returns-then-self-2-clause-poisoned
returns-then-self-2-clause-poisoned g c = λ was. well_not _ c.args.self.now c.self.view_is c.if-self.false was

pub returns-then-self-2-clause-adds : goal.returns-then-self-2-clause-adds
returns-then-self-2-clause-adds g c =
    let stands = g.S.Store.stands in
    adds_none (stands c.args.store.now) (stands c.follow.new.store) c.args.self.now.place c.args.batch.now c.follow.ensures.same

pub returns-else-self-2-clause-answered : goal.returns-else-self-2-clause-answered
returns-else-self-2-clause-answered g c = c.offer.ensures.answered

pub returns-else-self-2-clause-passed : goal.returns-else-self-2-clause-passed
returns-else-self-2-clause-passed g c = λ passed. absurd (c.offer.ensures.passed passed)

pub returns-else-self-2-clause-nothing : goal.returns-else-self-2-clause-nothing
returns-else-self-2-clause-nothing g c =
    let was : c.args.self.now.behind ≡ false = ap (λ r. r.behind) (sym c.self.view_is) ∙ c.if-self-2.false in
    λ none. (turned c.args.self.now c.offer.new.self false was (c.offer.ensures.nothing none).0, ap (λ r. r.poisoned) (sym c.self.view_is) ∙ c.if-self.false)

pub returns-else-self-2-clause-stood : goal.returns-else-self-2-clause-stood
returns-else-self-2-clause-stood g c = λ none not_behind. c.offer.ensures.stood none

pub returns-else-self-2-clause-missed : goal.returns-else-self-2-clause-missed
returns-else-self-2-clause-missed g c =
    let was : c.args.self.now.behind ≡ false = ap (λ r. r.behind) (sym c.self.view_is) ∙ c.if-self-2.false in
    λ none behind. absurd (false≢true (sym was ∙ behind))

pub returns-else-self-2-clause-lost : goal.returns-else-self-2-clause-lost
returns-else-self-2-clause-lost g c = c.offer.ensures.lost

pub returns-else-self-2-clause-reads : goal.returns-else-self-2-clause-reads
returns-else-self-2-clause-reads g c =
    let was : c.args.self.now.behind ≡ false = ap (λ r. r.behind) (sym c.self.view_is) ∙ c.if-self-2.false in
    λ behind. absurd (false≢true (sym was ∙ behind))

pub returns-else-self-2-clause-unwritten : goal.returns-else-self-2-clause-unwritten
returns-else-self-2-clause-unwritten g c =
    let stands = g.S.Store.stands in
    offered_unwritten (Same (stands c.args.store.now) (stands c.offer.new.store)) c.offer.result c.offer.ensures.passed (λ none. (c.offer.ensures.nothing none).1)

pub returns-else-self-2-clause-fault : goal.returns-else-self-2-clause-fault
returns-else-self-2-clause-fault g c = c.offer.ensures.fault

pub returns-else-self-2-clause-cause : goal.returns-else-self-2-clause-cause
returns-else-self-2-clause-cause g c = c.offer.ensures.cause

pub returns-else-self-2-clause-poisoned : goal.returns-else-self-2-clause-poisoned
returns-else-self-2-clause-poisoned g c = λ was. well_not _ c.args.self.now c.self.view_is c.if-self.false was

pub returns-else-self-2-clause-adds : goal.returns-else-self-2-clause-adds
returns-else-self-2-clause-adds g c = c.offer.ensures.adds
