use Rattle.std.proofs.Common.{arith, rules, ◌≡◌, ◌∷◌, ◌++◌, [], None, length, sym, ap, ◌∙◌, vec_capacity, is_some}
use Rattle.model_renaming.proofs.Common.{RenameState, has_place, beginner, begin_refusal, after_wish, let_in, KnownPlaces, places_by}
use Rattle.std.proofs.lemmas.List.{length-append, length-map}
use Rattle.model_snapshot.specs.SnapWorld.{after_snap_begin, place_in}
use Rattle.model_steps.proofs.cited.DistinctParticipants.{absent_alike, distinct_push, identities-push}
use Rattle.model_renaming.proofs.rounds.StepCases.{was_begun, begun_large, begun_state, begun_fits}
use Rattle.model_renaming.proofs.world.RenameWorld.take_begin.Given.{Over}
use Rattle.model_renaming.proofs.world.RenameWorld.take_begin.Goals as goal
use Rattle.model_renaming.proofs.world.RenameWorld.take_begin.Goals.{After-push_reserved}

abbrev pub known : (g : Over) → KnownPlaces g.row.W.Denot g.row.W-Reg.Denot g.row.W-Value.Denot g.row.W-Walker.Denot g.row.W-Walk.Denot
known g = places_by g.W.Walker.StepProgram.steps g.W.Walker.PlaceWalker.place_of g.W.Walk.SegmentWalk.walks g.W.StepMemory.steps g.W.Places.most_of g.W.Places.walker_from g.W.Places.walk_from g.W.Places.ties

pub invariant_of-self-2 : goal.invariant_of-self-2
invariant_of-self-2 g c =
    let goes : begin_refusal c.self.inside.snap c.args.id ≡ None = was_begun (begin_refusal c.self.inside.snap c.args.id) c.in_ok-begin.field-0 c.in_ok-begin.ensures.answer in
    let state : c.begin.new.self ≡ after_snap_begin (known g) c.self.inside.snap c.args.id = c.in_ok-begin.ensures.state in
    let asked : c.ask.new.snap ≡ after_wish (after_snap_begin (known g) c.self.inside.snap c.args.id) c.args.id c.first.result = rw (← state) c.ask.ensures.state in
    let l = begun_large (known g) (record { snap = c.self.inside.snap; rounds = c.self.inside.rounds.items; limit = c.self.inside.limit }) c.args.id c.first.result goes in
    let most = l.most in
    let old = c.self.invariant in
    let new = beginner c.args.id c.first-2.result in
    let items : c.push_reserved.new.self.items ≡ c.self.inside.rounds.items ++ new ∷ [] = c.push_reserved.ensures.items in
    let room : vec_capacity c.push_reserved.new.self ≡ vec_capacity c.self.inside.rounds = c.push_reserved.ensures.capacity in
    let inside = let_in c.self.inside.snap c.args.id goes in
    let free = inside.room in
    let known_in : length c.self.inside.rounds.items ≡ length c.self.inside.snap.participants = sym (length-map c.self.inside.rounds.items (λ p. p.identity)) ∙ ap length old.2 ∙ length-map c.self.inside.snap.participants (λ p. p.identity) in
    let size = length-append c.self.inside.rounds.items (new ∷ []) in
    let same = identities-push c.self.inside.rounds.items new ∙ ap (λ ids. ids ++ c.args.id ∷ []) old.2 ∙ sym l.known in
    let absent = absent_alike c.args.id c.self.inside.snap.participants c.self.inside.rounds.items old.2 inside.absent in
    let distinct = distinct_push c.self.inside.rounds.items new absent old.4 in
    rw (asked, items) (rw (most, room) old.0, rw most old.1, same, rw (most, size) (omega (arith, free, known_in)), distinct)

-- the world before, as it is kept
abbrev before : (g : _) (c : After-push_reserved g) → RenameState g.row.W.Denot g.row.W-Walker.Denot g.row.W-Walk.Denot
before g c = record { snap = c.self.inside.snap; rounds = c.self.inside.rounds.items; limit = c.self.inside.limit }

pub returns-clause-answer : goal.returns-clause-answer
returns-clause-answer g c = rw (← c.self.view_is) c.in_ok-begin.ensures.answer

pub returns-clause-state : goal.returns-clause-state
returns-clause-state g c =
    let w = before g (goal.at.returns-clause-state g c).After-push_reserved in
    let goes : begin_refusal c.self.inside.snap c.args.id ≡ None = was_begun (begin_refusal c.self.inside.snap c.args.id) c.in_ok-begin.field-0 c.in_ok-begin.ensures.answer in
    let state : c.begin.new.self ≡ after_snap_begin (known g) c.self.inside.snap c.args.id = c.in_ok-begin.ensures.state in
    let there : c.is_some-placed.result ≡ is_some (place_in (known g) c.begin.new.self c.args.id) = rw (← c.place_of.ensures.value) c.is_some-placed.ensures in
    let placed : c.is_some-placed.result ≡ has_place (known g) w c.args.id = rw (← state) there in
    rw (← c.self.view_is)
    (begun_state (known g) w c.args.id goes c.is_some-placed.result placed c.ask.new.snap (rw (← state, ← c.first.ensures) c.ask.ensures.state) c.push_reserved.new.self.items (search rules))

pub returns-clause-no_access : goal.returns-clause-no_access
returns-clause-no_access g c = c.ask.ensures.no_access ∙ c.in_ok-begin.ensures.no_access ∙ ap (λ w. w.snap.memory) c.self.view_is

pub push_reserved-requires : goal.push_reserved-requires
push_reserved-requires g c =
    let goes : begin_refusal c.self.inside.snap c.args.id ≡ None = was_begun (begin_refusal c.self.inside.snap c.args.id) c.in_ok-begin.field-0 c.in_ok-begin.ensures.answer in
    rw c.self.inside.rounds.ok.0 (begun_fits c.self.inside.snap c.args.id goes (vec_capacity c.self.inside.rounds) c.self.inside.rounds.items c.self.invariant)
