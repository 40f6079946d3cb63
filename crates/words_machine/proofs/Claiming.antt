-- what a seat can tell of the end of a participant, and what two that tell so show
use Rattle.std.proofs.Common.{◌≡◌, ℕ, ⊎_elim, Some, None, subst, sym, refl, ap, ◌∙◌, List, [], ◌∷◌, ◌++◌, length, set}
use Rattle.words_machine.proofs.Common.{Splits, Joins, Each, each_set, each_pushed, Stand, SeatView, view_of, lone_view, WordLaw, Reaches, IsEnding, Shows, KeepsRun, IsUnderRule, WordsId}
use mathlib.Core.Option.{some}
use lib.ListN.{get_elem?}
use Rattle.atomic_table.proofs.Lists.{at_set}
use Rattle.atomic_table.specs.Seated.{TableId}
use Rattle.words_machine.specs.declared.seat_view.Ending.{Ending}
use Rattle.words_machine.specs.SeatViews.{ending_at, endings_at, endings_of}
use Rattle.words_machine.specs.Ids.{ClaimId, claim_at, most_in, HaveReported}
use Rattle.words_machine.proofs.Dealing.{with_views}

module _ {P R O : Type 0} (law : WordLaw P R O) where
  -- a view that tells of ends alone is so at any seat
  tells : (n : ℕ) (seat : ℕ) (m : ℕ) (w : law.State) (r : List law.Call) (seat_of : ℕ → ℕ) (ends : List (Ending O)) → Each (IsEnding law n r m) ends → Shows law n w r seat_of seat (view_of m [] ends)
  tells n seat m w r seat_of ends so = record { stands = tt; once = tt; endings = so }

  module _ {S : Type 0} (n : ℕ) (seat : ℕ) (m : ℕ) where
    -- a new seat can tell of the end of a participant
    pub may_tell : (a : Stand P O) → Splits {S = S} {V = SeatView P O} (KeepsRun law n) seat (lone_view m a) (lone_view m a) (view_of m [] (endings_of (a ∷ [])))
    may_tell a s h e =
        let shown = h.shown seat (lone_view m a) e in
        let mine = shown.stands.0 in
        let so : Each (IsEnding law n h.r m) (endings_of (a ∷ [])) = elim a.outcome as (λ o. a.outcome ≡ o → Each (IsEnding law n h.r m) (endings_at a.number o)) [
          | None ↦ λ _. tt
          | Some outcome ↦ λ is. (record { seats_are = mine.seats_are; ended = mine.outcome_is ∙ is }, tt)
        ] refl in
        with_views law n s.words s.views (set s.views seat (lone_view m a) ++ view_of m [] (endings_of (a ∷ [])) ∷ []) h h.seat_of
        (each_pushed (Shows law n h.w h.r h.seat_of) (set s.views seat (lone_view m a)) (view_of m [] (endings_of (a ∷ [])))
        (each_set (Shows law n h.w h.r h.seat_of) s.views seat (lone_view m a) shown (λ j u _ at. h.shown j u at))
        (tells n (length (set s.views seat (lone_view m a))) m h.w h.r h.seat_of (endings_of (a ∷ [])) so))

    module _ (a b : Ending O) where
      -- what another seat tells of becomes this seat's too, before its own
      pub may_learn : (other : ℕ) → Joins {S = S} {V = SeatView P O} (KeepsRun law n) seat (view_of m [] (b ∷ [])) other (view_of m [] (a ∷ [])) (view_of m [] (a ∷ b ∷ [])) (view_of 0 [] [])
      may_learn other s h e apart e' =
          let was : get_elem? s.views other ≡ some (view_of m [] (a ∷ [])) = ⊎_elim (λ t. absurd (apart t.0)) (λ t. t.1) (at_set s.views seat other (view_of m [] (a ∷ b ∷ [])) (view_of m [] (a ∷ [])) e') in
          let own = (h.shown seat (view_of m [] (b ∷ [])) e).endings in
          let theirs = (h.shown other (view_of m [] (a ∷ [])) was).endings in
          with_views law n s.words s.views (set (set s.views seat (view_of m [] (a ∷ b ∷ []))) other (view_of 0 [] [])) h h.seat_of
          (each_set (Shows law n h.w h.r h.seat_of) (set s.views seat (view_of m [] (a ∷ b ∷ []))) other (view_of 0 [] []) (tells n other 0 h.w h.r h.seat_of [] tt)
          (λ j u _ at. each_set (Shows law n h.w h.r h.seat_of) s.views seat (view_of m [] (a ∷ b ∷ [])) (tells n seat m h.w h.r h.seat_of (a ∷ b ∷ []) (theirs.0, own)) (λ i v _ there. h.shown i v there) j u at))

      -- and goes to a new seat again
      pub may_forget : Splits {S = S} {V = SeatView P O} (KeepsRun law n) seat (view_of m [] (a ∷ b ∷ [])) (view_of m [] (b ∷ [])) (view_of m [] (a ∷ []))
      may_forget s h e =
          let own = (h.shown seat (view_of m [] (a ∷ b ∷ [])) e).endings in
          with_views law n s.words s.views (set s.views seat (view_of m [] (b ∷ [])) ++ view_of m [] (a ∷ []) ∷ []) h h.seat_of
          (each_pushed (Shows law n h.w h.r h.seat_of) (set s.views seat (view_of m [] (b ∷ []))) (view_of m [] (a ∷ []))
          (each_set (Shows law n h.w h.r h.seat_of) s.views seat (view_of m [] (b ∷ [])) (tells n seat m h.w h.r h.seat_of (b ∷ []) own.1) (λ j u _ at. h.shown j u at))
          (tells n (length (set s.views seat (view_of m [] (b ∷ [])))) m h.w h.r h.seat_of (a ∷ []) (own.0, tt)))

  -- after one list of calls both learnt what the claims say
  pub have_reported : ((most : ℕ) (w : law.State) (r : List law.Call) → law.Holds most w r → Reaches law.machine (law.start_of most) w r) → (m : ℕ) (a b : ClaimId O) → a.words.most ≡ m → IsUnderRule law (view_of m [] (ending_at a.number a.outcome ∷ ending_at b.number b.outcome ∷ [])) → HaveReported law a b
  have_reported known m a b same u =
      let all = (u.kept.shown u.seat _ u.there).endings in
      let holds = subst (λ (n : ℕ). law.Holds n u.kept.w u.kept.r) (sym same) u.kept.holds in
      record {
        w = u.kept.w;
        r = u.kept.r;
        holds = holds;
        after = known a.words.most u.kept.w u.kept.r holds;
        one = all.0.ended;
        other = all.1.0.ended;
      }

-- the view of the badge of a claim
pub claim_view : {P O : Type 0} (views : List (SeatView P O)) (table : TableId) (number : ℕ) (outcome : O) (c : ClaimId O) (s : WordsId) (v : SeatView P O)
    → views ≡ view_of (most_in views) [] (ending_at number outcome ∷ []) ∷ []
    → claim_at table number outcome views ≡ c
    → c.words ≡ s
    → views ≡ v ∷ []
    → v ≡ view_of s.most [] (ending_at c.number c.outcome ∷ [])
claim_view {O = O} views table number outcome c s v one is of single =
    let first : v ≡ view_of (most_in views) [] (ending_at number outcome ∷ []) = cc in
    first ∙ ap (λ (x : ClaimId O). view_of x.words.most [] (ending_at x.number x.outcome ∷ [])) is ∙ ap (λ (x : WordsId). view_of x.most [] (ending_at c.number c.outcome ∷ [])) of
