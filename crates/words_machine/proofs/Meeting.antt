-- what the rule says of participants that have ended
use Rattle.std.proofs.Common.{◌≡◌, ◌-◌, ◌≤◌, ℕ, false, inl, inr, List, [], ◌∷◌, None, subst, sym, refl, ap, ◌∙◌, arith, is_some}
use Rattle.words_machine.proofs.Common.{Me, SeatView, own, view_of, lone_view, unbegun, unbegun_from, undealt_from, WordLaw, Reaches, IsStand, IsUnder, IsUnderRule, HasEnded, WordsId, ended_at}
use Rattle.std.proofs.lemmas.Bool.Decides.{leb_tells}
use Rattle.atomic_table.specs.Seated.{TableId}
use Rattle.words_machine.proofs.parts_lemmas.Numbered.{of_numbered}
use Rattle.model_steps.proofs.cited.CountLemmas.{count_to-le}
use Rattle.words_machine.specs.Ids.{DealerId, dealer_of, words_of, EndedRun, ended_run, program_in, IsOfEnded, HasRun, HaveRun, most_in, entered_in, accesses_in}
use Rattle.words_machine.specs.RunSteps as RunSteps
use Rattle.words_machine.proofs.Counting.{count_low}

module _ {P O : Type 0} where
  -- the view of the badge of a seat whose participant has ended
  pub badge_view : (views : List (SeatView P O)) (table : TableId) (number identity : ℕ) (u : P) (outcome : O) (e : EndedRun P O) (s : WordsId) (v : SeatView P O)
      → IsOfEnded number identity u outcome views
      → ended_run table number identity u outcome views ≡ e
      → e.words ≡ s
      → views ≡ v ∷ []
      → v ≡ lone_view s.most (ended_at e.number e.identity e.program e.outcome e.accesses e.entered)
  badge_view views table number identity u outcome e s v one is of single =
      let first : v ≡ lone_view (most_in views) (ended_at number identity u outcome (accesses_in views) (entered_in views)) = cc in
      first ∙ ap (λ (x : EndedRun P O). lone_view x.words.most (ended_at x.number x.identity x.program x.outcome x.accesses x.entered)) is ∙ ap (λ (x : WordsId). lone_view x.most (ended_at e.number e.identity e.program e.outcome e.accesses e.entered)) of

  -- the view of the badge of a dealer
  pub dealer_view : (views : List (SeatView P O)) (table : TableId) (dealt : ℕ) (d : DealerId) (s : WordsId) (v : SeatView P O)
      → views ≡ undealt_from dealt (most_in views) ∷ []
      → dealer_of (words_of table (most_in views)) dealt ≡ d
      → d.words ≡ s
      → views ≡ v ∷ []
      → v ≡ undealt_from d.dealt s.most
  dealer_view views table dealt d s v one is of single =
      let first : v ≡ undealt_from dealt (most_in views) = cc in
      first ∙ ap (λ (x : DealerId). undealt_from x.dealt x.words.most) is ∙ ap (λ (x : WordsId). undealt_from d.dealt x.most) of

module _ {P R O : Type 0} (law : WordLaw P R O) (known : (most : ℕ) (w : law.State) (r : List law.Call) → law.Holds most w r → Reaches law.machine (law.start_of most) w r) where
  -- one list of calls led to both ends
  pub have_run : (m : ℕ) (a b : EndedRun P O) → a.words.most ≡ m
      → IsUnderRule law (view_of m (ended_at a.number a.identity a.program a.outcome a.accesses a.entered ∷ ended_at b.number b.identity b.program b.outcome b.accesses b.entered ∷ []) []) → HaveRun law a b
  have_run m a b same u =
      let shown = u.kept.shown u.seat _ u.there in
      let holds = subst (λ (n : ℕ). law.Holds n u.kept.w u.kept.r) (sym same) u.kept.holds in
      record {
        w = u.kept.w;
        r = u.kept.r;
        holds = holds;
        after = known a.words.most u.kept.w u.kept.r holds;
        one_stands = shown.stands.0.participant_is;
        other_stands = shown.stands.1.0.participant_is;
        apart = λ e. shown.once.0.0 (sym e);
        one = shown.stands.0.outcome_is;
        other = shown.stands.1.0.outcome_is;
      }

  -- one that has ended, under one rule with all that are not yet dealt: no more had begun than seats were dealt
  pub counted : (m : ℕ) (dealt : ℕ) (e : EndedRun P O) → IsUnderRule law (view_of m (ended_at e.number e.identity e.program e.outcome e.accesses e.entered ∷ unbegun_from dealt (m - dealt)) []) → e.entered ≤ dealt
  counted m dealt e u =
      let h = u.kept in
      let all = (h.shown u.seat _ u.there).stands in
      let before = all.0.entered_are in
      let count = h.counted in
      let low = count_low (λ n. is_some (law.self h.w (own n))) dealt m (λ k l some. elim (leb_tells dealt k) [
        | inl le ↦ absurd (let none : law.self h.w (own k) ≡ None = (of_numbered (IsStand law m h.w h.r h.seat_of u.seat m) unbegun (m - dealt) dealt k all.1 le.1 (let d = le.1 in omega arith)).participant_is in let never : is_some (law.self h.w (own k)) ≡ false = ap is_some none in cc)
        | inr less ↦ let d = less.1 in omega arith
      ]) in
      omega arith

  -- a badge of one that has ended tells of it, and there is a list of calls after which it has ended so
  pub has_run : (table : TableId) (views : List (SeatView P O)) (m : ℕ) (number identity : ℕ) (program : P) (outcome : O) (me : Me ℕ (SeatView P O)) → HasEnded law {S = ℕ} m number identity program outcome me → views ≡ me.0 ∷ []
      → IsOfEnded number identity program outcome views × HasRun law (ended_run table number identity program outcome views)
  has_run table views m number identity program outcome me h single =
      let is : views ≡ lone_view m (ended_at number identity program outcome h.accesses h.entered) ∷ [] = single ∙ ap (λ (x : Me ℕ (SeatView P O)). x.0 ∷ []) h.me_is in
      let under = subst (λ (x : Me ℕ (SeatView P O)). IsUnder law x.0 h.entered) h.me_is h.under in
      let kept = under.0.kept in
      let stand = (kept.shown under.0.seat _ under.0.there).stands.0 in
      let begun = under.1 in
      let same = kept.counted in
      let few = count_to-le (λ n. is_some (law.self kept.w (own n))) m in
      subst (λ (vs : List (SeatView P O)). IsOfEnded number identity program outcome vs × HasRun law (ended_run table number identity program outcome vs)) (sym is) (
        refl,
        record {
          w = kept.w;
          r = kept.r;
          holds = kept.holds;
          after = known m kept.w kept.r kept.holds;
          stands = stand.participant_is;
          outcome_is = stand.outcome_is;
          accesses_are = stand.accesses_are;
          entered_are = begun;
          counted = omega arith;
        },
      )

  -- and it made no more accesses than the bound
  pub few_made : ((most : ℕ) (w : law.State) (r : List law.Call) → law.Holds most w r → (p : ℕ) → law.steps_of p r ≤ law.bound most) → (views : List (SeatView P O)) (m : ℕ) (number identity : ℕ) (program : P) (outcome : O) (me : Me ℕ (SeatView P O)) → HasEnded law {S = ℕ} m number identity program outcome me → views ≡ me.0 ∷ []
      → accesses_in views ≤ law.bound m
  few_made few views m number identity program outcome me h single =
      let is : views ≡ lone_view m (ended_at number identity program outcome h.accesses h.entered) ∷ [] = single ∙ ap (λ (x : Me ℕ (SeatView P O)). x.0 ∷ []) h.me_is in
      let under = subst (λ (x : Me ℕ (SeatView P O)). IsUnder law x.0 h.entered) h.me_is h.under in
      let kept = under.0.kept in
      let made = (kept.shown under.0.seat _ under.0.there).stands.0.accesses_are in
      let bound = few m kept.w kept.r kept.holds (own number) in
      let same = ap accesses_in is in
      omega arith

  -- and its view counts them
  pub count_made : (views : List (SeatView P O)) (m : ℕ) (number identity : ℕ) (program : P) (outcome : O) (me : Me ℕ (SeatView P O)) → HasEnded law {S = ℕ} m number identity program outcome me → views ≡ me.0 ∷ []
      → RunSteps.accesses_in me ≡ accesses_in views
  count_made views m number identity program outcome me h single = ap RunSteps.accesses_in h.me_is ∙ sym (ap accesses_in (single ∙ ap (λ (x : Me ℕ (SeatView P O)). x.0 ∷ []) h.me_is))

  -- the same, at the program that its views tell
  pub told_run : (table : TableId) (views : List (SeatView P O)) (m : ℕ) (number identity : ℕ) (program : P) (outcome : O) (me : Me ℕ (SeatView P O)) → HasEnded law {S = ℕ} m number identity program outcome me → views ≡ me.0 ∷ []
      → (program_in law number identity views ≡ program) × IsOfEnded number identity (program_in law number identity views) outcome views × HasRun law (ended_run table number identity (program_in law number identity views) outcome views)
  told_run table views m number identity program outcome me h single =
      let made = has_run table views m number identity program outcome me h single in
      let same : program_in law number identity views ≡ program = ap (program_in law number identity) made.0 in
      let both = subst (λ (u : P). IsOfEnded number identity u outcome views × HasRun law (ended_run table number identity u outcome views)) (sym same) made in
      (same, both.0, both.1)

  -- what is reported of one that has ended stays so where the badge has come back
  pub still_run : (table now : TableId) (views back : List (SeatView P O)) (number identity : ℕ) (outcome : O) → IsOfEnded number identity (program_in law number identity views) outcome views × HasRun law (ended_run table number identity (program_in law number identity views) outcome views) → back ≡ views
      → IsOfEnded number identity (program_in law number identity back) outcome back × HasRun law (ended_run now number identity (program_in law number identity back) outcome back)
  still_run table now views back number identity outcome h same =
      subst (λ (vs : List (SeatView P O)). IsOfEnded number identity (program_in law number identity vs) outcome vs × HasRun law (ended_run now number identity (program_in law number identity vs) outcome vs)) (sym same) (
        h.0,
        record {
          w = h.1.w;
          r = h.1.r;
          holds = h.1.holds;
          after = h.1.after;
          stands = h.1.stands;
          outcome_is = h.1.outcome_is;
          accesses_are = h.1.accesses_are;
          entered_are = h.1.entered_are;
          counted = h.1.counted;
        },
      )
