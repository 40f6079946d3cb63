-- a program, access by access
use Rattle.std.proofs.Common.{◌≡◌, ℕ, ◌-◌, ◌<◌, ◌≤◌, false, Option, Some, None, [], subst, sym, refl, ap, ◌∙◌, arith, is_some}
use Rattle.words_machine.proofs.Common.{Me, outcome_in, ends, ProgramSteps, Participant, Note, Stand, SeatView, own, stand_at, lone_view, unbegun, WordLaw, IsOwnAccess, IsSound, IsStand, IsUnder, Stands, HasStepped, HasEnded, accesses_in}
use Rattle.model_steps.specs.declared.note.Note.TheVariants.{Quiet, Said, Ended}

-- what is not there is nothing
pub none_left : {O : Type 0} (o : Option O) → is_some o ≡ false → o ≡ None
none_left None is = refl
none_left (Some said) is = absurd (cc)

-- a note with no outcome goes on, and one with an outcome ends with it
pub still_on : {O : Type 0} (n : Note O) → outcome_in n ≡ None → ends n ≡ false
still_on Quiet is = refl
still_on (Said said) is = refl
still_on (Ended said) is = absurd (cc)

pub ended_with : {O : Type 0} (n : Note O) (outcome : O) → outcome_in n ≡ Some outcome → n ≡ Ended outcome
ended_with Quiet outcome is = absurd (cc)
ended_with (Said said) outcome is = absurd (cc)
ended_with (Ended said) outcome is = (let same : said ≡ outcome = cc in ap Ended same)

module _ {P R O : Type 0} (program : ProgramSteps P R ℕ O) (law : WordLaw P R O) (sound : IsSound program law) where
  -- one that has not begun
  pub begins : (most number identity : ℕ) (u : P) (me : Me ℕ (SeatView P O)) → law.MayStart most → number < most → law.MayBegin (own number) identity → u ≡ law.start most (own number) identity → me ≡ (lone_view most (unbegun number), []) → Stands program law {S = ℕ} most number identity u me
  begins most number identity u me may in_range named is fresh = record {
    participant = None;
    accesses = 0;
    entered = 0;
    stands = sym is;
    goes_on = named;
    within = subst (λ (x : P). IsOwnAccess program law most (program.next x)) (sym is) (sound.begins most (own number) identity (omega arith) (omega arith) may named);
    me_is = fresh;
  }

  module _ (most number identity : ℕ) (u : P) (note : Note O) (before after : Me ℕ (SeatView P O)) (s : HasStepped law {S = ℕ} most number identity u note before after) where
    abbrev now : Stand P O
    now = stand_at number (Some (record { identity = identity; program = u; ended = ends note })) (outcome_in note) s.accesses s.entered

    pub under : IsUnder law (lone_view most now) s.entered
    under = subst (λ (x : Me ℕ (SeatView P O)). IsUnder law x.0 s.entered) s.me_is s.under

    stands_so : IsStand law most under.0.kept.w under.0.kept.r under.0.kept.seat_of under.0.seat most now
    stands_so = (under.0.kept.shown under.0.seat (lone_view most now) under.0.there).stands.0

    -- it has made no more accesses than the bound
    pub few : accesses_in after ≤ law.bound most
    few = let made = stands_so.accesses_are in let bound = sound.few most under.0.kept.w under.0.kept.r under.0.kept.holds (own number) in let is = ap accesses_in s.me_is in omega arith

    pub smaller : law.bound most - accesses_in after < law.bound most - accesses_in before
    smaller = let bound = few in let more = s.one_more in omega arith

    -- one that has said nothing, or something, goes on
    pub goes_on : ends note ≡ false → outcome_in note ≡ None → Stands program law {S = ℕ} most number identity u after
    goes_on still none =
        let h = under.0.kept in
        let v : Participant P = record { identity = identity; program = u; ended = ends note } in
        record {
          participant = Some v;
          accesses = s.accesses;
          entered = s.entered;
          stands = refl;
          goes_on = (still, refl);
          within = sound.own most h.w h.r h.holds (own number) v stands_so.participant_is still;
          me_is = s.me_is ∙ ap (λ o. (lone_view most (stand_at number (Some v) o s.accesses s.entered), [])) none;
        }

    -- one that has ended
    pub has_ended : (outcome : O) → note ≡ Ended outcome → HasEnded law {S = ℕ} most number identity u outcome after
    has_ended outcome is = record {
      accesses = s.accesses;
      entered = s.entered;
      me_is = s.me_is ∙ ap (λ (n : Note O). (lone_view most (stand_at number (Some (record { identity = identity; program = u; ended = ends n })) (outcome_in n) s.accesses s.entered), [])) is;
      under = s.under;
    }
