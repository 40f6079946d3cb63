-- what a run of a walk's program says of its door and its place
use Rattle.std.proofs.Common.{◌≡◌, ◌≢◌, ℕ, ◌+◌, ◌*◌, ◌/◌, ◌<◌, ◌≤◌, Some, subst, sym, refl, ap, ◌∙◌, arith, option_map}
use Rattle.model_splitter.specs.declared.stage.VisitStage.TheVariants.{Gone}
use Rattle.model_splitter.specs.declared.way.Way.TheVariants.{Stop}
use Rattle.model_splitter.proofs.cited.WalkLemmas.{place_is}
use Rattle.model_splitter.specs.declared.grid.door.Door.{Door}
use Rattle.model_splitter.specs.declared.grid.walker.Walker.{Walker}
use Rattle.model_splitter.specs.grid.Door.{number_of, IsDoorWithin}
use Rattle.model_splitter.specs.grid.Walk.{place_of, place_by}
use Rattle.model_splitter.proofs.cited.grid.GridTied.{grid_proved, tied_always, place_always}
use Rattle.model_splitter.proofs.cited.grid.Numbers.{number_low}
use Rattle.words_machine.specs.SeatViews.{own}
use Rattle.words_machine.specs.Ids.{EndedRun, ClaimId, HasRun, HaveRun, HaveReported}
use Rattle.words_machine.specs.lemmas.Walks.{walk_law as walks}
use Rattle.words_machine.specs.grid.Seats as seats
use Rattle.words_machine.specs.grid.Seats.{EndedWalk, walk_of_run}
use Rattle.words_machine.specs.grid.Law.{WalkSpec}
use Rattle.words_machine.proofs.grid_lemmas.Accesses.{steps_made, accesses_made}

module _ (e : EndedRun Walker ℕ) (h : HasRun walks e) where
  abbrev door : Door
  door = e.program.door

  -- the walk has a place: the one that its run ended with
  placed : place_of e.program ≡ Some e.outcome
  placed = ap (λ o. place_by (option_map (λ v. v.program) o)) (sym h.stands) ∙ place_always h.w (own e.number) e.words.most h.r h.after ∙ h.outcome_is

  -- so it has stopped at its door
  stopped : e.program.visitor.stage ≡ Gone Stop
  stopped = (place_is (number_of door) e.program.visitor.stage e.outcome placed).0

  -- of which its outcome is the number
  pub outcome_is_place : e.outcome ≡ number_of door
  outcome_is_place = (place_is (number_of door) e.program.visitor.stage e.outcome placed).1

  -- and it keeps its law
  pub walk_law : WalkSpec (walk_of_run e)
  walk_law =
      let t = tied_always h.w e.words.most h.r h.after in
      let walk = t.consistent.agree.walks (own e.number) e.program (ap (option_map (λ v. v.program)) h.stands) in
      let inside = walk.inside in
      let low = t.consistent.agree.within door.depth door.column walk.arrived in
      let begun = t.begun_is in
      let as_many = h.entered_are in
      let made : e.accesses ≡ accesses_made (Some e.program) =
      h.accesses_are ∙ steps_made e.words.most h.w h.r h.after (own e.number) ∙ ap (λ o. accesses_made (option_map (λ v. v.program) o)) h.stands in
      let all : accesses_made (Some e.program) ≡ 2 * (door.depth + door.column) + 4 = rw stopped refl in
      let within : IsDoorWithin e.entered (number_of door) = record { depth = door.depth; column = door.column; inside = inside; within = omega arith; is = refl } in
      record { counted = h.counted; within = within; low = number_low e.entered (number_of door) within; accesses = omega arith; at_most = (let shallow = within.within in omega arith) }

-- who entered alone is at the corner, by four accesses
pub alone_at_corner : (e : EndedWalk) → WalkSpec e → e.entered ≡ 1 → (seats.place_of e ≡ 0) × (e.accesses ≡ 4)
alone_at_corner e law one =
    let low : seats.place_of e < 1 * (1 + 1) / 2 = subst (λ (n : ℕ). seats.place_of e < n * (n + 1) / 2) one law.low in
    let made = law.accesses in
    let few = law.at_most in
    (omega arith, omega arith)

-- a place among the first of fewer rows is among the first of more
pub within_more : (e : EndedWalk) (dealt : ℕ) → WalkSpec e → e.entered ≤ dealt → IsDoorWithin dealt (seats.place_of e)
within_more e dealt law few = let d = law.within in record { depth = d.depth; column = d.column; inside = d.inside; within = (let l = d.within in omega arith); is = d.is }

-- two that met have two places
pub distinct_places : (a b : EndedRun Walker ℕ) → HasRun walks a → HasRun walks b → HaveRun walks a b → seats.place_of (walk_of_run a) ≢ seats.place_of (walk_of_run b)
distinct_places a b one other both same =
    let law = grid_proved.law both.w a.words.most both.r both.after in
    let equal : b.outcome ≡ a.outcome = outcome_is_place b other ∙ sym same ∙ sym (outcome_is_place a one) in
    let identity = law.distinct (own a.number) (own b.number) a.outcome both.one (both.other ∙ ap Some equal) in
    both.apart (omega arith)

-- two claims of one place are of one seat
pub one_seat : (a b : ClaimId ℕ) → HaveReported walks a b → a.outcome ≡ b.outcome → a.number ≡ b.number
one_seat a b reported same =
    let law = grid_proved.law reported.w a.words.most reported.r reported.after in
    let identity = law.distinct (own a.number) (own b.number) a.outcome reported.one (reported.other ∙ ap Some (sym same)) in
    omega arith
