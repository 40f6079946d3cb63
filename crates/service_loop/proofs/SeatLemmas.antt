-- one connection's turn after another
use Rattle.std.proofs.Common.{◌≡◌, inl, inr, ℕ, ◌<◌, set, List, [], ◌++◌, length, get_or, Option, Some, None, refl, sym, ap, subst, ◌∙◌}
use Rattle.service_loop.proofs.Common.{append-nil, get_or-set_same, get_or-set_other, length-set, cases_eq, eq-eqb, ne_eqb, ShownReply, Request, Runs, runs-append, all-append, all-tagged, of-append, of-same, of-other, Turn}
use Rattle.std.proofs.KnownBytes.{Consumes-nil, Appends-nil}
use Rattle.text_player.specs.Shared.{TurnLog, turns_of, all_turns, tagged}
use Rattle.service_loop.specs.Seats.{Seating, SeatIs, SeatTakes, SeatSends, SeatTurn, SeatSent, TurnsTaken, RepliesSent}
use Rattle.service_loop.specs.ConnectionBuffers.{TakesOf, SendsTo}
use Rattle.service_loop.proofs.BuffersLemmas.{takes_idle}

some_same : {C : Type 0} (c d : C) → Some c ≡ Some d → c ≡ d
some_same c d e = cc

-- where nothing is done whoever sits there is as before, and so is each other
pub seat_waits : {C : Type 0} (seats : List (Option C)) (key : ℕ) (P : C → Type 0) (now : List (Option C)) (there : Option C) → now ≡ seats → get_or seats key None ≡ there → SeatIs P there →
    SeatIs P (get_or now key None) × ((i : ℕ) → (i ≡ key → ⊥) → get_or now i None ≡ get_or seats i None)
seat_waits {C = C} seats key P now there same sits is = (
  subst (SeatIs P) (sym (ap (λ (s : List (Option C)). get_or s key None) same ∙ sits)) is,
  λ i other. ap (λ (s : List (Option C)). get_or s i None) same,
)

module _ {C : Type 0} (on : Seating C) where
  pub seat_rests : (x : Option C) → SeatTakes on [] x x
  seat_rests None = refl
  seat_rests (Some c) = (takes_idle (on.left c) (on.left c) (on.buffers c) (Consumes-nil (on.left c)), refl)

  -- one connection has its turn where it sits
  abbrev pub seat_took : {T : Type 0} (may : T → Request → ShownReply → T → Type 0) (Due : C → Type 0) (key : ℕ) (w : T) (seats : List (Option C)) (u : T) (was is : C) → key < length seats → get_or seats key None ≡ Some was → Due was → (Due is → ⊥) →
      (turns : List Turn) × Runs may w turns u × TakesOf turns (on.left was) (on.buffers was) (on.left is) (on.buffers is) → on.gone is ≡ on.gone was → SeatTurn on may Due key w seats u (set seats key (Some is))
  seat_took may Due key w seats u was is below there due done took unsent = record {
    turns = took.0;
    run = took.1;
    was = was;
    is = is;
    was_there = there;
    is_there = get_or-set_same seats key (Some is) None below;
    due = due;
    done = done;
    takes = (took.2, unsent);
    others = λ i other. get_or-set_other seats key i (Some is) None other;
    many = length-set seats key (Some is);
  }

  pub seat_sent : (Due : C → Type 0) (key : ℕ) (seats : List (Option C)) (was is : C) → key < length seats → get_or seats key None ≡ Some was → Due was → (Due is → ⊥) →
      SendsTo (on.gone was) (on.buffers was) (on.gone is) (on.buffers is) → on.left is ≡ on.left was → SeatSent on Due key seats (set seats key (Some is))
  seat_sent Due key seats was is below there due done sends unread = record {
    was = was;
    is = is;
    was_there = there;
    is_there = get_or-set_same seats key (Some is) None below;
    due = due;
    done = done;
    sends = (sends, unread);
    others = λ i other. get_or-set_other seats key i (Some is) None other;
    many = length-set seats key (Some is);
  }

  module _ {T : Type 0} (may : T → Request → ShownReply → T → Type 0) (Due : C → Type 0) (w : T) (seats : List (Option C)) where
    -- so far, where whoever is still due has not had its turn
    pub record Going (log : TurnLog) (u : T) (seats' : List (Option C)) : Type 0 where
      pub taken : TurnsTaken on may w seats log u seats'
      pub waiting : (i : ℕ) (c : C) → get_or seats' i None ≡ Some c → Due c → (get_or seats i None ≡ Some c) × (turns_of i log ≡ [])

    pub going_none : Going [] w seats
    going_none = record {
      taken = record { run = refl; each = λ i. seat_rests (get_or seats i None); many = refl };
      waiting = λ i c is due. (is, refl);
    }

    pub going_on : (log : TurnLog) (u v : T) (seats' seats'' : List (Option C)) (key : ℕ) → Going log u seats' → (turn : SeatTurn on may Due key u seats' v seats'') → Going (log ++ tagged key turn.turns) v seats''
    going_on log u v seats' seats'' key so turn =
        let turns = turn.turns in
        let was = so.waiting key turn.was turn.was_there turn.due in
        record {
          taken = record {
            run = rw (all-append log (tagged key turns), all-tagged key turns) (runs-append may w u v (all_turns log) turns so.taken.run turn.run);
            each = λ i. rw (of-append i log (tagged key turns)) (elim (cases_eq i key) as (λ _. SeatTakes on (turns_of i log ++ turns_of i (tagged key turns)) (get_or seats i None) (get_or seats'' i None)) [
              | inl same ↦ subst (λ (k : ℕ). SeatTakes on (turns_of k log ++ turns_of k (tagged key turns)) (get_or seats k None) (get_or seats'' k None)) (sym same)
                  (rw (was.1, of-same key key turns (eq-eqb key key refl), was.0, turn.is_there) turn.takes)
              | inr other ↦ rw (of-other key i turns (ne_eqb key i (λ e. other (sym e))), append-nil (turns_of i log), turn.others i other) (so.taken.each i)
            ]);
            many = turn.many ∙ so.taken.many;
          };
          waiting = λ i c is due. elim (cases_eq i key) as (λ _. (get_or seats i None ≡ Some c) × (turns_of i (log ++ tagged key turns) ≡ [])) [
            | inl same ↦ absurd (turn.done (subst Due (some_same c turn.is (sym is ∙ ap (λ (k : ℕ). get_or seats'' k None) same ∙ turn.is_there)) due))
            | inr other ↦ (let before = so.waiting i c (sym (turn.others i other) ∙ is) due in
                (before.0, of-append i log (tagged key turns) ∙ rw (of-other key i turns (ne_eqb key i (λ e. other (sym e))), append-nil (turns_of i log)) before.1))
          ];
        }

  pub seat_keeps : (x : Option C) → SeatSends on x x
  seat_keeps None = tt
  seat_keeps (Some c) = (record { sent = []; gained = Appends-nil (on.gone c); parts = refl; responder_is = refl; inbox_is = refl; ended_is = refl; in_line_is = refl; whole = λ h. h; quiet = λ is. refl }, refl)

  module _ (Due : C → Type 0) (seats : List (Option C)) where
    -- so far, where whoever has still to send has sent nothing
    pub record Sending (seats' : List (Option C)) : Type 0 where
      pub sent : RepliesSent on seats seats'
      pub waiting : (i : ℕ) (c : C) → get_or seats' i None ≡ Some c → Due c → get_or seats i None ≡ Some c

    pub sending_none : Sending seats
    sending_none = record {
      sent = record { each = λ i. seat_keeps (get_or seats i None); many = refl };
      waiting = λ i c is due. is;
    }

    pub sending_on : (seats' seats'' : List (Option C)) (key : ℕ) → Sending seats' → SeatSent on Due key seats' seats'' → Sending seats''
    sending_on seats' seats'' key so turn =
        let was = so.waiting key turn.was turn.was_there turn.due in
        record {
          sent = record {
            each = λ i. elim (cases_eq i key) as (λ _. SeatSends on (get_or seats i None) (get_or seats'' i None)) [
              | inl same ↦ subst (λ (k : ℕ). SeatSends on (get_or seats k None) (get_or seats'' k None)) (sym same) (rw (was, turn.is_there) turn.sends)
              | inr other ↦ rw (turn.others i other) (so.sent.each i)
            ];
            many = turn.many ∙ so.sent.many;
          };
          waiting = λ i c is due. elim (cases_eq i key) as (λ _. get_or seats i None ≡ Some c) [
            | inl same ↦ absurd (turn.done (subst Due (some_same c turn.is (sym is ∙ ap (λ (k : ℕ). get_or seats'' k None) same ∙ turn.is_there)) due))
            | inr other ↦ so.waiting i c (sym (turn.others i other) ∙ is) due
          ];
        }
