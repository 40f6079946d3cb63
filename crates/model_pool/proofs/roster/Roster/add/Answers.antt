use Rattle.std.proofs.Common.{◌≡◌, ◌++◌, ◌∷◌, [], List, Some, None, length, ap, ◌∙◌, arith}
use Rattle.std.proofs.lemmas.List.{length-append}
use Rattle.model_pool.specs.Competitors.{stay_of}
use Rattle.model_pool.specs.declared.competitor.Competitor.{Competitor}
use Rattle.model_pool.specs.Roster.{RosterState, live, noted}
use Rattle.model_pool.proofs.Counts.{competitor}
use Rattle.model_pool.proofs.RosterLemmas.{entry, distinct_push, live_more, noted_more}
use Rattle.model_pool.proofs.roster.Roster.add.Goals as goal
use Rattle.model_pool.proofs.roster.Roster.add.Goals.{After-push_reserved}

-- those who compete then
live_then : (g : _) (c : After-push_reserved g) → live c.push_reserved.new.self.items ≡ live c.self.inside.entries.items ++ competitor c.args.id c.args.stay ∷ []
live_then g c =
    ap live c.push_reserved.ensures.items ∙ live_more c.make_room.new.entries.items c.args.id c.args.stay ∙ ap (λ (cs : List Competitor). cs ++ competitor c.args.id c.args.stay ∷ []) c.make_room.ensures.same

pub invariant_of-self : goal.invariant_of-self
invariant_of-self g c =
    let es = c.make_room.new.entries.items in
    let before = live c.self.inside.entries.items in
    let i = c.self.invariant in
    let new : Competitor = competitor c.args.id c.args.stay in
    let is = live_then g (goal.at.invariant_of-self g c).After-push_reserved in
    let absent : stay_of c.args.id before ≡ None = ap (λ (r : RosterState). stay_of c.args.id r.competitors) c.self.view_is ∙ c.requires.new in (
      rw is (distinct_push before new absent i.0),
      rw (c.push_reserved.ensures.items, noted_more es (entry c.args.id (Some c.args.stay))) (c.note.ensures.indexed (noted es) c.make_room.ensures.indexed),
      omega (arith, i.2, ap length is, length-append before (new ∷ [])),
      i.3,
      i.4,
      omega (arith, i.5, c.make_room.ensures.width, c.note.ensures.width),
      omega (arith, i.6, c.make_room.ensures.entries, c.push_reserved.ensures.capacity),
      omega (arith, i.7, c.make_room.ensures.links, c.note.ensures.room),
    )

pub returns : goal.returns
returns g c =
    ap (λ cs. let r : RosterState = record { most = c.self.inside.most; competitors = cs } in r) (live_then g (goal.at.returns g c).After-push_reserved)
    ∙ ap (λ (r : RosterState). let n : RosterState = record { most = r.most; competitors = r.competitors ++ competitor c.args.id c.args.stay ∷ [] } in n) c.self.view_is
