-- what is reported of seats, one after another, and taken of them
use Rattle.std.proofs.Common.{◌≡◌, ◌⊎◌, inl, inr, ℕ, zero, suc, ◌+◌, ◌<◌, ◌≤◌, Bool, true, false, set, List, [], ◌∷◌, ◌++◌, length, take, get_or, Option, Some, None, refl, sym, ap, subst, ◌∙◌, arith}
use Rattle.service_loop.proofs.Common.{WorldKind, ShownReply, Request, with_ends, Runs, TurnLog, turns_of, tagged, all-append, all-tagged, of-append, of-same, of-other, Turn, Seating, SeatIdle, TakesPeeked, Peek}
use Rattle.std.proofs.lemmas.List.{append-nil, get_or-set_same, get_or-set_other, get_or-take, length-take-le}
use Rattle.std.proofs.lemmas.Bool.{cases_eq, eq-eqb, ne_eqb, cases_Bool}
use Rattle.service_loop.specs.Gathering.{SeatGathers, SeatAsks, SeatBroken, SeatPeeked, Reported, SeatTakesPeeked, SeatTurnPeeked, TakenPeeked, SeatReportedAndTakes}
use Rattle.service_loop.specs.Reported.{SeatLines, EndsWith, IsAmong, all_lines, asks_of, lines_of, requests_seen}
use Rattle.service_loop.proofs.PeekLemmas.{ends_append}
use Rattle.service_loop.proofs.SeatLemmas.{Going, seat_took}

-- the lines that are reported of one seat more
pub reported_behind : (batch batch' : List ℕ) (reported : SeatLines) (key : ℕ) (more : List (List ℕ)) → batch ≡ with_ends (all_lines reported) → batch' ≡ batch ++ with_ends more → batch' ≡ with_ends (all_lines (reported ++ tagged key more))
reported_behind batch batch' reported key more is is' =
    is' ∙ ap (λ l. l ++ with_ends more) is ∙ sym (ends_append (all_lines reported) more)
    ∙ ap (λ l. with_ends l) (ap (λ l. all_lines reported ++ l) (sym (all-tagged key more)) ∙ sym (all-append reported (tagged key more)))

more_of : (i key : ℕ) (reported : SeatLines) (more : List (List ℕ)) → i ≡ key → lines_of i (reported ++ tagged key more) ≡ lines_of i reported ++ more
more_of i key reported more same = of-append i reported (tagged key more) ∙ ap (λ l. lines_of i reported ++ l) (of-same key i more (eq-eqb key i (sym same)))

same_of : (i key : ℕ) (reported : SeatLines) (more : List (List ℕ)) → (i ≡ key → ⊥) → lines_of i (reported ++ tagged key more) ≡ lines_of i reported
same_of i key reported more other = of-append i reported (tagged key more) ∙ ap (λ l. lines_of i reported ++ l) (of-other key i more (ne_eqb key i (λ e. other (sym e)))) ∙ append-nil (lines_of i reported)

some_is : {C : Type 0} (c d : C) → Some c ≡ Some d → c ≡ d
some_is c d e = cc

-- a key is one of the first so many
abbrev pub IsFirst : ℕ → List ℕ → ℕ → Type 0
IsFirst n keys i = (j : ℕ) × (j < n) × (get_or keys j 0 ≡ i)

later : (n i : ℕ) (keys : List ℕ) → IsFirst n keys i → IsFirst (n + 1) keys i
later n i keys f = (f.0, (let lt = f.1 in omega (arith, lt)), f.2)

-- it is the last of them, or one before
pub last : (n i j : ℕ) (keys : List ℕ) → j < n + 1 → get_or keys j 0 ≡ i → (i ≡ get_or keys n 0 → ⊥) → IsFirst n keys i
last n i j keys lt at other =
    elim (cases_eq j n) as (λ _. IsFirst n keys i) [
      | inl same ↦ absurd (other (sym at ∙ ap (λ (k : ℕ). get_or keys k 0) same))
      | inr not ↦ (j, omega (arith, lt, not), at)
    ]

module _ {C : Type 0} (Became : Option C → Option C → Type 0) (keys : List ℕ) (seats : List (Option C)) where
  -- so far, where each seat that was called became so, and nothing changed at the others
  pub record CalledSo (n : ℕ) (seats' : List (Option C)) : Type 0 where
    pub each : (i : ℕ) → IsFirst n keys i → Became (get_or seats i None) (get_or seats' i None)
    pub same : (i : ℕ) → IsFirst n keys i ⊎ (get_or seats' i None ≡ get_or seats i None)

  pub called_none : CalledSo 0 seats
  called_none = record {
    each = λ i first. absurd (let lt = first.1 in omega (arith, lt));
    same = λ i. inr refl;
  }

  -- one more became so, and one that was called before is still so
  pub called_on : (n : ℕ) (seats' seats'' : List (Option C)) → CalledSo n seats' →
      ((x : Option C) → Became x (get_or seats' (get_or keys n 0) None) → Became x (get_or seats'' (get_or keys n 0) None)) →
      Became (get_or seats' (get_or keys n 0) None) (get_or seats'' (get_or keys n 0) None) →
      ((i : ℕ) → (i ≡ get_or keys n 0 → ⊥) → get_or seats'' i None ≡ get_or seats' i None) → CalledSo (n + 1) seats''
  called_on n seats' seats'' so still one others =
      let key = get_or keys n 0 in
      record {
        each = λ i first. elim (cases_eq i key) as (λ _. Became (get_or seats i None) (get_or seats'' i None)) [
          | inl same ↦ subst (λ (k : ℕ). Became (get_or seats k None) (get_or seats'' k None)) (sym same)
              (elim (so.same key) as (λ _. Became (get_or seats key None) (get_or seats'' key None)) [
                | inl before ↦ still (get_or seats key None) (so.each key before)
                | inr is ↦ subst (λ (x : Option C). Became x (get_or seats'' key None)) is one
              ])
          | inr other ↦ subst (λ (x : Option C). Became (get_or seats i None) x) (sym (others i other)) (so.each i (last n i first.0 keys first.1 first.2 other))
        ];
        same = λ i. elim (cases_eq i key) as (λ _. IsFirst (n + 1) keys i ⊎ (get_or seats'' i None ≡ get_or seats i None)) [
          | inl same ↦ inl (n, omega arith, sym same)
          | inr other ↦ elim (so.same i) as (λ _. IsFirst (n + 1) keys i ⊎ (get_or seats'' i None ≡ get_or seats i None)) [
            | inl before ↦ inl (later n i keys before)
            | inr is ↦ inr (others i other ∙ is)
          ]
        ];
      }

  pub called_all : (n : ℕ) (seats' : List (Option C)) → length keys ≤ n → CalledSo n seats' → (i : ℕ) → IsAmong i keys → Became (get_or seats i None) (get_or seats' i None)
  called_all n seats' le so i among = so.each i (among.0, (let lt = among.1 in omega (arith, lt, le)), among.2)

  pub called_others : (n : ℕ) (seats' : List (Option C)) → n ≤ length keys → CalledSo n seats' → (i : ℕ) → (IsAmong i keys → ⊥) → get_or seats' i None ≡ get_or seats i None
  called_others n seats' le so i none = elim (so.same i) as (λ _. get_or seats' i None ≡ get_or seats i None) [
    | inl first ↦ absurd (none (first.0, (let lt = first.1 in omega (arith, lt, le)), first.2))
    | inr is ↦ is
  ]

module _ {C : Type 0} (on : Seating C) (peek : C → Option Peek) (Due : C → Type 0) where
  module _ (kind : WorldKind) (keys : List ℕ) where
    -- so far
    pub record Telling (n : ℕ) (reported : SeatLines) (seats : List (Option C)) : Type 0 where
      pub each : (i : ℕ) (c : C) → IsFirst n keys i → get_or seats i None ≡ Some c → Due c → EndsWith (lines_of i reported) (requests_seen kind (on.buffers c) (peek c))
      pub known : (i : ℕ) → (lines_of i reported ≡ []) ⊎ (IsFirst n keys i × SeatAsks peek (get_or seats i None))

    pub telling_none : (seats : List (Option C)) → Telling 0 [] seats
    telling_none seats = record {
      each = λ i c first there due. absurd (let lt = first.1 in omega (arith, lt));
      known = λ i. inl refl;
    }

    -- nobody is due
    pub telling_idle : (n : ℕ) (reported : SeatLines) (seats : List (Option C)) → SeatIdle Due (get_or seats (get_or keys n 0) None) → Telling n reported seats → Telling (n + 1) reported seats
    telling_idle n reported seats idle so = record {
      each = λ i c first there due. so.each i c (last n i first.0 keys first.1 first.2 (λ same.
          let none : SeatIdle Due (Some c) = subst (λ (x : Option C). SeatIdle Due x) there (subst (λ (k : ℕ). SeatIdle Due (get_or seats k None)) (sym same) idle) in
          none due)) there due;
      known = λ i. elim (so.known i) as (λ _. (lines_of i reported ≡ []) ⊎ (IsFirst (n + 1) keys i × SeatAsks peek (get_or seats i None))) [
        | inl none ↦ inl none
        | inr k ↦ inr (later n i keys k.0, k.1)
      ];
    }

    -- one that is due was looked at
    pub telling_more : (n : ℕ) (reported : SeatLines) (seats seats' : List (Option C)) (more : List (List ℕ)) → SeatPeeked on peek Due kind (get_or keys n 0) seats seats' more → Telling n reported seats →
        Telling (n + 1) (reported ++ tagged (get_or keys n 0) more) seats'
    telling_more n reported seats seats' more one so =
        let key = get_or keys n 0 in
        record {
          each = λ i c first there due. elim (cases_eq i key) as (λ _. EndsWith (lines_of i (reported ++ tagged key more)) (requests_seen kind (on.buffers c) (peek c))) [
            | inl same ↦ (let is : c ≡ one.is = some_is c one.is (sym there ∙ ap (λ (k : ℕ). get_or seats' k None) same ∙ one.is_there) in
                (lines_of i reported, more_of i key reported more same ∙ ap (λ l. lines_of i reported ++ l) (one.more_is ∙ ap (λ (x : C). requests_seen kind (on.buffers x) (peek x)) (sym is))))
            | inr other ↦ (let before = so.each i c (last n i first.0 keys first.1 first.2 other) (sym (one.others i other) ∙ there) due in
                (before.0, same_of i key reported more other ∙ before.1))
          ];
          known = λ i. elim (cases_eq i key) as (λ _. (lines_of i (reported ++ tagged key more) ≡ []) ⊎ (IsFirst (n + 1) keys i × SeatAsks peek (get_or seats' i None))) [
            | inl same ↦ elim (cases_Bool (asks_of (peek one.is))) as (λ _. (lines_of i (reported ++ tagged key more) ≡ []) ⊎ (IsFirst (n + 1) keys i × SeatAsks peek (get_or seats' i None))) [
              | inl asks ↦ inr ((n, omega arith, sym same), subst (λ (x : Option C). SeatAsks peek x) (sym (ap (λ (k : ℕ). get_or seats' k None) same ∙ one.is_there)) asks)
              | inr not ↦ (let none = one.asks not in
                  elim (so.known i) as (λ _. (lines_of i (reported ++ tagged key more) ≡ []) ⊎ (IsFirst (n + 1) keys i × SeatAsks peek (get_or seats' i None))) [
                    | inl empty ↦ inl (more_of i key reported more same ∙ rw (empty, none.1) refl)
                    | inr k ↦ absurd (let asked : asks_of (peek one.was) ≡ true = subst (λ (x : Option C). SeatAsks peek x) (ap (λ (j : ℕ). get_or seats j None) same ∙ one.was_there) k.1 in
                        let t : true ≡ false = sym asked ∙ none.0 in absurd cc)
                  ])
            ]
            | inr other ↦ elim (so.known i) as (λ _. (lines_of i (reported ++ tagged key more) ≡ []) ⊎ (IsFirst (n + 1) keys i × SeatAsks peek (get_or seats' i None))) [
              | inl none ↦ inl (same_of i key reported more other ∙ none)
              | inr k ↦ inr (later n i keys k.0, subst (λ (x : Option C). SeatAsks peek x) (sym (one.others i other)) k.1)
            ]
          ];
        }

    -- of all that were called
    pub telling_all : (n : ℕ) (reported : SeatLines) (seats : List (Option C)) → n ≤ length keys → Telling n reported seats → Reported on peek Due kind (take n keys) reported seats
    telling_all n reported seats le so = record {
      each = λ i c among. so.each i c (let lt = among.1 in let len = length-take-le n keys le in
          let below : among.0 < n = omega (arith, lt, len) in (among.0, below, sym (get_or-take n keys among.0 0 below) ∙ among.2));
      known = λ i. elim (so.known i) as (λ _. (lines_of i reported ≡ []) ⊎ (IsAmong i (take n keys) × SeatAsks peek (get_or seats i None))) [
        | inl none ↦ inl none
        | inr k ↦ inr (
          (let lt = k.0.1 in let len = length-take-le n keys le in
              (k.0.0, omega (arith, lt, len), get_or-take n keys k.0.0 0 lt ∙ k.0.2)),
          k.1,
        )
      ];
    }

  still_broken : (x y : Option C) → SeatGathers on x y → SeatBroken on x → SeatBroken on y
  still_broken None y g b = absurd b
  still_broken (Some c) None g b = absurd g
  still_broken (Some c) (Some d) g b = broken_or (on.buffers d).broken refl
    where
      broken_or : (t : Bool) → (on.buffers d).broken ≡ t → (on.buffers d).broken ≡ true
      broken_or true is = is
      broken_or false is = (let whole = (g.0.kept is).1 in let e : true ≡ false = sym b ∙ whole in absurd cc)

  -- whose lines are in the batch is at fault
  abbrev pub SeatGivesUp : Option C → Option C → Type 0
  SeatGivesUp x y = SeatAsks peek x → SeatBroken on y

  pub gives_up_still : (x y z : Option C) → SeatGathers on y z → SeatGivesUp x y → SeatGivesUp x z
  gives_up_still x y z gathers up asks = still_broken y z gathers (up asks)

  module _ (keys : List ℕ) (seats : List (Option C)) where
    -- so far, of those that take their turns
    abbrev pub Taking : ℕ → TurnLog → List (Option C) → Type 0
    Taking n log seats' = (i : ℕ) → (turns_of i log ≡ []) ⊎ (IsFirst n keys i × SeatTakesPeeked on peek Due (turns_of i log) (get_or seats i None) (get_or seats' i None))

    pub taking_idle : (n : ℕ) (log : TurnLog) (seats' : List (Option C)) → Taking n log seats' → Taking (n + 1) log seats'
    taking_idle n log seats' so i = elim (so i) as (λ _. (turns_of i log ≡ []) ⊎ (IsFirst (n + 1) keys i × SeatTakesPeeked on peek Due (turns_of i log) (get_or seats i None) (get_or seats' i None))) [
      | inl none ↦ inl none
      | inr k ↦ inr (later n i keys k.0, k.1)
    ]

    module _ {T : Type 0} (may : T → Request → ShownReply → T → Type 0) (w : T) where
      pub taking_on : (n : ℕ) (log : TurnLog) (u v : T) (seats' seats'' : List (Option C)) → Going on may Due w seats log u seats' → Taking n log seats' →
          (one : SeatTurnPeeked on peek Due may (get_or keys n 0) u seats' v seats'') → Taking (n + 1) (log ++ tagged (get_or keys n 0) one.turn.turns) seats''
      taking_on n log u v seats' seats'' going so one i =
          let key = get_or keys n 0 in
          let turn = one.turn in
          let was = going.waiting key turn.was turn.was_there turn.due in
          elim (cases_eq i key) as (λ _. (turns_of i (log ++ tagged key turn.turns) ≡ []) ⊎ (IsFirst (n + 1) keys i × SeatTakesPeeked on peek Due (turns_of i (log ++ tagged key turn.turns)) (get_or seats i None) (get_or seats'' i None))) [
            | inl same ↦ inr (
              (n, omega arith, sym same),
              subst (λ (k : ℕ). SeatTakesPeeked on peek Due (turns_of k (log ++ tagged key turn.turns)) (get_or seats k None) (get_or seats'' k None)) (sym same)
                  (rw (of-append key log (tagged key turn.turns), was.1, of-same key key turn.turns (eq-eqb key key refl), was.0, turn.is_there) (turn.due, one.peeked)),
            )
            | inr other ↦ (let turns : turns_of i (log ++ tagged key turn.turns) ≡ turns_of i log = of-append i log (tagged key turn.turns) ∙ rw (of-other key i turn.turns (ne_eqb key i (λ e. other (sym e)))) (append-nil (turns_of i log)) in
                elim (so i) as (λ _. (turns_of i (log ++ tagged key turn.turns) ≡ []) ⊎ (IsFirst (n + 1) keys i × SeatTakesPeeked on peek Due (turns_of i (log ++ tagged key turn.turns)) (get_or seats i None) (get_or seats'' i None))) [
                  | inl none ↦ inl (turns ∙ none)
                  | inr k ↦ inr (later n i keys k.0, rw (turns, turn.others i other) k.1)
                ])
          ]

    pub taking_all : (log : TurnLog) (seats' : List (Option C)) → Taking (length keys) log seats' → TakenPeeked on peek Due keys log seats seats'
    taking_all log seats' so = record { each = so }

  reported_takes : (kind : WorldKind) (ls : List (List ℕ)) (turns : List Turn) (x y : Option C) → ((c : C) → x ≡ Some c → Due c → EndsWith ls (requests_seen kind (on.buffers c) (peek c))) → SeatTakesPeeked on peek Due turns x y → SeatReportedAndTakes on peek Due kind ls turns x y
  reported_takes kind ls turns None y reported takes = absurd takes
  reported_takes kind ls turns (Some c) None reported takes = absurd takes
  reported_takes kind ls turns (Some c) (Some d) reported takes = (reported c refl takes.0, takes.1)

  -- what is taken was reported
  pub taken_reported : (kind : WorldKind) (keys : List ℕ) (reported : SeatLines) (log : TurnLog) (seats seats' : List (Option C)) → Reported on peek Due kind keys reported seats → TakenPeeked on peek Due keys log seats seats' →
      (i : ℕ) → (turns_of i log ≡ []) ⊎ SeatReportedAndTakes on peek Due kind (lines_of i reported) (turns_of i log) (get_or seats i None) (get_or seats' i None)
  taken_reported kind keys reported log seats seats' t taken i = elim (taken.each i) as (λ _. (turns_of i log ≡ []) ⊎ SeatReportedAndTakes on peek Due kind (lines_of i reported) (turns_of i log) (get_or seats i None) (get_or seats' i None)) [
    | inl none ↦ inl none
    | inr k ↦ inr (reported_takes kind (lines_of i reported) (turns_of i log) (get_or seats i None) (get_or seats' i None) (λ c there due. t.each i c k.0 there due) k.1)
  ]

  -- whose lines are in the batch is at fault
  pub reported_broken : (kind : WorldKind) (keys : List ℕ) (reported : SeatLines) (seats seats' : List (Option C)) → Reported on peek Due kind keys reported seats →
      ((i : ℕ) → IsAmong i keys → SeatAsks peek (get_or seats i None) → SeatBroken on (get_or seats' i None)) → (i : ℕ) → (lines_of i reported ≡ []) ⊎ SeatBroken on (get_or seats' i None)
  reported_broken kind keys reported seats seats' t given i = elim (t.known i) as (λ _. (lines_of i reported ≡ []) ⊎ SeatBroken on (get_or seats' i None)) [
    | inl none ↦ inl none
    | inr k ↦ inr (given i k.0 k.1)
  ]

  -- one connection is looked at where it sits
  pub seat_peeked : (kind : WorldKind) (key : ℕ) (seats : List (Option C)) (was is : C) (more : List (List ℕ)) → key < length seats → get_or seats key None ≡ Some was → Due is → more ≡ requests_seen kind (on.buffers is) (peek is) →
      (asks_of (peek is) ≡ false → (asks_of (peek was) ≡ false) × (more ≡ [])) → SeatPeeked on peek Due kind key seats (set seats key (Some is)) more
  seat_peeked kind key seats was is more below there due more_is asks = record {
    was = was;
    is = is;
    was_there = there;
    is_there = get_or-set_same seats key (Some is) None below;
    due = due;
    more_is = more_is;
    asks = asks;
    others = λ i other. get_or-set_other seats key i (Some is) None other;
  }

  -- one connection has its turn where it sits, over what was looked at
  abbrev pub seat_turn_peeked : {T : Type 0} (may : T → Request → ShownReply → T → Type 0) (key : ℕ) (w : T) (seats : List (Option C)) (u : T) (was is : C) → key < length seats → get_or seats key None ≡ Some was → Due was → (Due is → ⊥) →
      (turns : List Turn) × Runs may w turns u × TakesPeeked turns (peek was) (on.left was) (on.buffers was) (on.left is) (on.buffers is) → on.gone is ≡ on.gone was → SeatTurnPeeked on peek Due may key w seats u (set seats key (Some is))
  seat_turn_peeked may key w seats u was is below there due done took unsent =
      record { turn = seat_took on may Due key w seats u was is below there due done (took.0, took.1, took.2.takes) unsent; peeked = took.2 }

-- what stands there is put there again
pub set_same : {C : Type 0} (seats : List (Option C)) (key : ℕ) (was : C) → key < length seats → get_or seats key None ≡ Some was → set seats key (Some was) ≡ seats
set_same {C = C} [] key was below there = absurd (omega (arith, below))
set_same {C = C} (x ∷ seats) zero was below there = ap (λ (y : Option C). y ∷ seats) (sym there)
set_same {C = C} (x ∷ seats) (suc key) was below there = ap (λ l. x ∷ l) (set_same seats key was (omega (arith, below)) there)
