use Rattle.std.proofs.Common.{◌≡◌, Some, None, refl, sym, ap, ◌∙◌, arith}
use Rattle.model_pool.specs.Competitors.{stay_of, with_stay}
use Rattle.model_pool.specs.Roster.{RosterState, IsEntry, live}
use Rattle.model_pool.proofs.RosterLemmas.{distinct_put, put_absent, live_put, long_put, noted_set}
use Rattle.model_pool.proofs.roster.Roster.put.Goals as goal

pub invariant_of-self : goal.invariant_of-self
invariant_of-self g c =
    let f : IsEntry c.self.inside.entries.items c.args.id c.in-Some.at = rw c.deref.ensures.value at c.in-Some.ensures.found in
    let es = c.self.inside.entries.items in
    let i = c.self.invariant in (
      rw (live_put es c.args.id c.in-Some.at f.stay c.args.stay i.0 f.inside f.is) (distinct_put _ c.args.id c.args.stay i.0),
      rw (noted_set es c.args.id c.in-Some.at (Some f.stay) (Some c.args.stay) f.is) i.1,
      omega (arith, i.2, long_put es c.args.id c.in-Some.at f.stay c.args.stay f.inside f.is),
      i.3,
      i.4,
      i.5,
      i.6,
      i.7,
    )

pub returns-in-Some : goal.returns-in-Some
returns-in-Some g c =
    let f : IsEntry c.self.inside.entries.items c.args.id c.in-Some.at = rw c.deref.ensures.value at c.in-Some.ensures.found in
    let put = live_put c.self.inside.entries.items c.args.id c.in-Some.at f.stay c.args.stay c.self.invariant.0 f.inside f.is in
    ap (λ cs. let r : RosterState = record { most = c.self.inside.most; competitors = cs } in r) put ∙ ap (λ (r : RosterState). let n : RosterState = record { most = r.most; competitors = with_stay c.args.id c.args.stay r.competitors } in n) c.self.view_is

pub returns-in_default : goal.returns-in_default
returns-in_default g c =
    let none : stay_of c.args.id (live c.self.inside.entries.items) ≡ None = rw c.deref.ensures.value at c.in_default.ensures.absent in
    let absent : stay_of c.args.id c.args.self.now.competitors ≡ None = sym (ap (λ (r : RosterState). stay_of c.args.id r.competitors) c.self.view_is) ∙ none in
    rw (put_absent c.args.id c.args.stay c.args.self.now.competitors absent) refl
