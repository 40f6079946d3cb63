-- a step of a renaming world by cases on who takes it
use Rattle.std.proofs.Common.{◌≡◌, ◌≢◌, ◌<◌, Bool, List, arith, Result, true, false, ℕ, ◌+◌, [], ◌∷◌, ◌++◌, length, get_or, set, Option, Some, None, Ok, Err, OnErr, inl, inr, refl, sym, ap, subst, ◌∙◌, option_map, option_and_then, is_some}
use Rattle.model_renaming.proofs.Common.{Participant, Refusal, NotBegun, NoMemory, index_of, participant_of, program_of, identities, beginner, begin_refusal, done_unless, participant_of-push, set_at-same, let_in, Client, SnapReply, SnapState, beginner_at, Round, stage_refusal, followed, KnownPlaces, Wish, Nothing, Update, Scan, outcome_with}
use Rattle.model_renaming.specs.declared.reply.Reply.{Reply}
use Rattle.model_renaming.specs.Taken.{snap_err, IsTaken}
use Rattle.model_steps.proofs.cited.DistinctParticipants.{distinct_set, identities-push, identities-set}
use Rattle.model_steps.proofs.cited.Found.{Found, found, none-index_of, index_of-below}
use Rattle.std.proofs.lemmas.List.{length-map, length-append, length-set, get_or_default, set-get_or}
use Rattle.model_renaming.specs.Round.{first_wish, first_round}
use Rattle.model_renaming.specs.RenameState.{RenameState, HasRoom}
use Rattle.model_renaming.specs.RenameWorld.{after_wish, snap_step, snap_reported, after_follow, begun_snap, has_place, after_rename_begin, refusal_by, step_refusal, answer_reported, answer_open, answer_by, after_reported, after_open, after_by, rename_answer, after_rename_step, may_lack, LacksMemory}
use Rattle.model_renaming.proofs.Large.{IsAsLarge, both_large, scan_large, update_large, snap_large}

pub wish_large : {S U K : Type 0} (w : SnapState S U K) (p : ℕ) (wish : Wish) → IsAsLarge w (after_wish w p wish)
wish_large w p Nothing = record { most = refl; many = refl; same = refl }
wish_large w p (Update value) = update_large w p value
wish_large w p Scan = scan_large w p

pub was_begun : (why : Option Refusal) (done : Unit {0}) → Ok done ≡ done_unless why → why ≡ None
was_begun None done h = refl
was_begun (Some why) done h = absurd (cc)

-- one more takes part after an accepted `begin`
pub record IsOneMore {S U K : Type 0} (p : ℕ) (w new : SnapState S U K) : Type 0 where
  pub most : new.most ≡ w.most
  pub many : length new.participants ≡ length w.participants + 1
  pub known : identities new.participants ≡ identities w.participants ++ p ∷ []

pub begun_large : {S R V U K : Type 0} (W : KnownPlaces S R V U K) (w : RenameState S U K) (p : ℕ) (wish : Wish) → begin_refusal w.snap p ≡ None → IsOneMore p w.snap (after_wish (begun_snap W w p) p wish)
begun_large W w p wish goes =
    let b = wish_large (begun_snap W w p) p wish in
    let most : (begun_snap W w p).most ≡ w.snap.most = rw goes refl in
    let new = beginner p (beginner_at W w.snap p) in
    let all : (begun_snap W w p).participants ≡ w.snap.participants ++ new ∷ [] = rw goes refl in
    record { most = b.most ∙ most; many = b.many ∙ ap length all ∙ length-append w.snap.participants (new ∷ []); known = b.same ∙ ap identities all ∙ identities-push w.snap.participants new }

-- who begins is the last of those who take part
module _ {S R V U K : Type 0} (W : KnownPlaces S R V U K) (w : RenameState S U K) (p : ℕ) (goes : begin_refusal w.snap p ≡ None) where
  abbrev new : Participant (Client U K)
  new = beginner p (beginner_at W w.snap p)

  pub begun_own : participant_of p (begun_snap W w p).participants ≡ Some new
  begun_own = rw goes (participant_of-push w.snap.participants new (let_in w.snap p goes).absent p ∙ set_at-same (λ u. participant_of u w.snap.participants) p (Some new))

  pub begun_placed : has_place W w p ≡ is_some (W.place_of new.program.walker)
  begun_placed = ap (λ (z : Option (Participant (Client U K))). is_some (option_and_then (λ c. W.place_of c.walker) (option_map (λ u. u.program) z))) begun_own

  -- it has no round yet, where those who take part are those who have one
  pub no_round : is_some (participant_of p w.snap.participants) ≡ is_some (participant_of p w.rounds) → participant_of p w.rounds ≡ None
  no_round joined = elim (participant_of p w.rounds) as (λ z. participant_of p w.rounds ≡ z → z ≡ None) [
    | None ↦ λ _. refl
    | Some v ↦ λ e. absurd (let no : false ≡ true = sym (ap is_some (let_in w.snap p goes).absent) ∙ joined ∙ ap is_some e in cc)
  ] refl

  -- it asks for what it can do, and its round is the last
  pub begun_state : (placed : Bool) → placed ≡ has_place W w p → (snap : SnapState S U K) → snap ≡ after_wish (begun_snap W w p) p (first_wish placed) →
      (rounds : List (Participant Round)) → rounds ≡ w.rounds ++ beginner p (first_round placed) ∷ [] → record { snap = snap; rounds = rounds; limit = w.limit } ≡ after_rename_begin W w p
  begun_state placed is snap asked rounds pushed = rw (goes, asked, pushed, is) refl

-- there is room for its round
pub begun_fits : {S U K : Type 0} (snap : SnapState S U K) (p : ℕ) → begin_refusal snap p ≡ None → (capacity : ℕ) (rounds : List (Participant Round)) → HasRoom capacity snap rounds → length rounds < capacity
begun_fits snap p goes capacity rounds old =
    let free = (let_in snap p goes).room in
    let known_in : length rounds ≡ length snap.participants = sym (length-map rounds (λ v. v.identity)) ∙ ap length old.2 ∙ length-map snap.participants (λ v. v.identity) in
    let fits = old.0 in
    omega (arith, free, known_in, fits)

-- why a step is refused, by where the round stands among the rounds
-- the round of who is found, and of who is not
pub round_at : (p : ℕ) (vs : List (Participant Round)) (i : ℕ) (other : Participant Round) → Some i ≡ index_of p vs → program_of p vs ≡ Some (get_or vs i other).program
round_at p vs i other at = ap (option_map (λ v. v.program)) (found p vs i _ at (get_or_default vs i other _ (index_of-below p vs i at))).is

pub absent_round : (p : ℕ) (vs : List (Participant Round)) → None ≡ index_of p vs → program_of p vs ≡ None
absent_round p vs none = ap (option_map (λ v. v.program)) (none-index_of p vs (sym none))

pub refusal_here : {S U K : Type 0} (w : RenameState S U K) (p : ℕ) (v : Participant Round) → participant_of p w.rounds ≡ Some v → step_refusal w p ≡ stage_refusal v.program.stage
refusal_here w p v here = rw here refl

pub same_err : {X : Type 0} (why other : Refusal) → ◌≡◌ {A = Result X Refusal} (Err why) (Err other) → why ≡ other
same_err why other e = cc

pub no_err : {X : Type 0} (x : X) (why : Refusal) → ◌≡◌ {A = Result X Refusal} (Ok x) (Err why) → ⊥
no_err x why e = cc

-- a step that is refused changes nothing
module _ {S R V U K : Type 0} (W : KnownPlaces S R V U K) (w : RenameState S U K) (p : ℕ) (why : Refusal) where
  reported_refused : (r : Round) (reported : _) → answer_reported W w p r reported ≡ Err why → after_reported W w p r reported ≡ w
  reported_refused r (Ok reply) e = absurd (cc)
  reported_refused r (Err other) e = refl

  open_refused : (r : Round) (z : Option Refusal) → answer_open W w p r z ≡ Err why → after_open W w p r z ≡ w
  open_refused r None e = reported_refused r (snap_reported W w p) e
  open_refused r (Some other) e = refl

  by_refused : (z : Option Round) → answer_by W w p z ≡ Err why → after_by W w p z ≡ w
  by_refused None e = refl
  by_refused (Some r) e = open_refused r (stage_refusal r.stage) e

  pub step_refused : rename_answer W w p ≡ Err why → after_rename_step W w p ≡ w
  step_refused e = by_refused (program_of p w.rounds) e

module _ {S R V U K : Type 0} (W : KnownPlaces S R V U K) (w : RenameState S U K) (p : ℕ) where
  closed_answer_by : (r : Option Round) (why : Refusal) → refusal_by r ≡ Some why → Err why ≡ answer_by W w p r
  closed_answer_by None why e = let same : NotBegun ≡ why = cc in ap Err (sym same)
  closed_answer_by (Some r) why e = rw e refl

  pub closed_answer : (why : Refusal) → step_refusal w p ≡ Some why → Err why ≡ rename_answer W w p
  closed_answer = closed_answer_by (program_of p w.rounds)

  refused_answer_by : (r : Option Round) (why : Refusal) → refusal_by r ≡ None → Err why ≡ snap_reported W w p → Err why ≡ answer_by W w p r
  refused_answer_by None why e k = absurd (cc)
  refused_answer_by (Some r) why e k = let a = sym k in rw (e, a) refl

  -- the snapshot object refuses the step
  pub refused_answer : (why : Refusal) → step_refusal w p ≡ None → Err why ≡ snap_reported W w p → Err why ≡ rename_answer W w p
  refused_answer = refused_answer_by (program_of p w.rounds)

  -- all of such a step
  pub record RefusedStep (why : Refusal) : Type 0 where
    pub answer : why ≢ NoMemory → Err why ≡ rename_answer W w p
    pub state : why ≢ NoMemory → w ≡ after_rename_step W w p
    pub no_memory : why ≡ NoMemory → LacksMemory W w p

  pub snap_refuses : (why : Refusal) → step_refusal w p ≡ None → (snap_err why ≢ snap_err NoMemory → snap_err why ≡ snap_reported W w p) → (snap_err why ≡ snap_err NoMemory → may_lack W w p ≡ true) → RefusedStep why
  snap_refuses why ready reported lacks =
      let answer : why ≢ NoMemory → Err why ≡ rename_answer W w p = λ goes. refused_answer why ready (reported (λ e. goes (same_err why NoMemory e))) in
      record { answer = answer; state = λ goes. sym (step_refused W w p why (sym (answer goes))); no_memory = λ e. (ready, lacks (ap snap_err e)) }

  -- as many take part after the step and what is asked for after it
  pub step_large : (wish : Wish) → IsAsLarge w.snap (after_wish (snap_step W w p) p wish)
  step_large wish = both_large w.snap (snap_step W w p) (after_wish (snap_step W w p) p wish) (snap_large W w.snap p) (wish_large (snap_step W w p) p wish)

  module _ (v : Participant Round) (here : participant_of p w.rounds ≡ Some v) where
    there : program_of p w.rounds ≡ Some v.program
    there = ap (option_map (λ u. u.program)) here

    pub reported_answer : (reply : SnapReply) → stage_refusal v.program.stage ≡ None → Ok reply ≡ snap_reported W w p → Ok (followed v.program p reply w.limit).reply ≡ rename_answer W w p
    reported_answer reply e k = let a = sym k in rw (there, e, a) refl

    pub reported_state : (reply : SnapReply) → stage_refusal v.program.stage ≡ None → Ok reply ≡ snap_reported W w p → after_follow W w p (followed v.program p reply w.limit) ≡ after_rename_step W w p
    reported_state reply e k = let a = sym k in rw (there, e, a) refl

  -- a round that may go on, by its place among the rounds
  module _ (i : ℕ) (v other : Participant Round) (at : Some i ≡ index_of p w.rounds) (is : v ≡ get_or w.rounds i other) where
    stands : Found p w.rounds i v
    stands = found p w.rounds i v at (is ∙ get_or_default w.rounds i other v (index_of-below p w.rounds i at))

    pub followed_answer : (reply : SnapReply) → step_refusal w p ≡ None → Ok reply ≡ snap_reported W w p → Ok (followed v.program v.identity reply w.limit).reply ≡ rename_answer W w p
    followed_answer reply ready k =
        let own = stands.identity in
        rw own (reported_answer v stands.is reply (sym (refusal_here w p v stands.is) ∙ ready) k)

    -- what follows what the snapshot object told is asked for, and the round that follows is put in its place
    pub followed_state : (reply : SnapReply) (snap : SnapState S U K) (new : Participant Round) → step_refusal w p ≡ None → Ok reply ≡ snap_reported W w p →
        snap ≡ after_wish (snap_step W w p) v.identity (followed v.program v.identity reply w.limit).wish → new ≡ beginner v.identity (followed v.program v.identity reply w.limit).round →
        record { snap = snap; rounds = set w.rounds i new; limit = w.limit } ≡ after_rename_step W w p
    followed_state reply snap new ready k asked round =
        let own = stands.identity in
        let put = stands.put (beginner p (followed v.program p reply w.limit).round) refl in
        rw (asked, round, own) (rw (← put) (reported_state v stands.is reply (sym (refusal_here w p v stands.is) ∙ ready) k))

    pub followed_room : (capacity : ℕ) (wish : Wish) (snap : SnapState S U K) (new : Participant Round) → snap ≡ after_wish (snap_step W w p) v.identity wish → new.identity ≡ v.identity →
        HasRoom capacity w.snap w.rounds → HasRoom capacity snap (set w.rounds i new)
    followed_room capacity wish snap new asked name old =
        let own = name ∙ stands.identity in
        let l = step_large wish in
        let most = l.most in
        let size = length-set w.rounds i new in
        let same = identities-set p w.rounds i v new stands own in
        let distinct = distinct_set p w.rounds i v new stands own old.4 in
        let is = asked ∙ ap (λ id. after_wish (snap_step W w p) id wish) stands.identity in
        rw is (rw most old.0, rw most old.1, same ∙ old.2 ∙ sym l.same, rw (most, size) old.3, distinct)

    -- the same of a step on the snapshot object and on the round at its place
    module _ (result : Result (Reply (Unit {0})) Refusal) (view : List (ℕ × ℕ)) (snap : SnapState S U K) (u : Participant Round) (taken : IsTaken W w.snap snap v u w.limit result view) where
      abbrev left : RenameState S U K
      left = record { snap = snap; rounds = set w.rounds i u; limit = w.limit }

      -- nothing has changed where it was refused
      untouched : snap ≡ w.snap → u ≡ v → left ≡ w
      untouched kept same =
          let back : set w.rounds i u ≡ w.rounds = ap (λ (x : Participant Round). set w.rounds i x) (same ∙ is) ∙ set-get_or w.rounds i other in
          rw (kept, back) refl

      pub taken_room : (capacity : ℕ) → HasRoom capacity w.snap w.rounds → HasRoom capacity snap (set w.rounds i u)
      taken_room capacity old = elim taken [
        | inl f ↦ followed_room capacity (followed v.program v.identity f.0 w.limit).wish snap u (f.1.asked ∙ ap (λ x. after_wish (snap_step W w x) v.identity (followed v.program v.identity f.0 w.limit).wish) stands.identity) (ap (λ (x : Participant Round). x.identity) f.1.round) old
        | inr f ↦ let same = untouched f.1.kept f.1.same in subst (λ (x : RenameState S U K). HasRoom capacity x.snap x.rounds) (sym same) old
      ]

      pub record TakenStep : Type 0 where
        pub answer : result ≢ Err NoMemory → outcome_with result view ≡ rename_answer W w p
        pub state : result ≢ Err NoMemory → left ≡ after_rename_step W w p
        pub refused : OnErr result (left ≡ w)
        pub no_memory : result ≡ Err NoMemory → LacksMemory W w p

      pub taken_step : step_refusal w p ≡ None → TakenStep
      taken_step ready = elim taken [
        | inl f ↦
            let k : Ok f.0 ≡ snap_reported W w p = subst (λ (x : ℕ). Ok f.0 ≡ snap_reported W w x) stands.identity f.1.is_reported in
            let asked = f.1.asked ∙ ap (λ (x : ℕ). after_wish (snap_step W w x) v.identity (followed v.program v.identity f.0 w.limit).wish) stands.identity in
            record {
              answer = λ _. rw f.1.result_is (ap Ok f.1.reply_is ∙ followed_answer f.0 ready k);
              state = λ _. followed_state f.0 snap u ready k asked f.1.round;
              refused = rw f.1.result_is tt;
              no_memory = λ e. absurd (no_err f.1.reply NoMemory (sym f.1.result_is ∙ e));
            }
        | inr f ↦
            let same = untouched f.1.kept f.1.same in
            let h = snap_refuses f.0 ready (subst (λ (x : ℕ). snap_err f.0 ≢ snap_err NoMemory → snap_err f.0 ≡ snap_reported W w x) stands.identity f.1.is_reported) (subst (λ (x : ℕ). snap_err f.0 ≡ snap_err NoMemory → may_lack W w x ≡ true) stands.identity f.1.lacks) in
            record {
              answer = λ goes. rw f.1.result_is (h.answer (λ e. goes (f.1.result_is ∙ ap Err e)));
              state = λ goes. same ∙ h.state (λ e. goes (f.1.result_is ∙ ap Err e));
              refused = rw f.1.result_is same;
              no_memory = λ e. h.no_memory (same_err f.0 NoMemory (sym f.1.result_is ∙ e));
            }
      ]
