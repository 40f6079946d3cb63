-- what is kept of the renaming object after each reply
use Rattle.std.proofs.Common.{◌≡◌, ℕ, ◌+◌, ◌*◌, ◌<◌, ◌≤◌, ◌==◌, inl, inr, true, false, List, [], ◌∷◌, ◌++◌, length, refl, sym, ap, ◌∙◌, subst, arith, Some, None, Option, Bool, is_some, length-append, Ok, slice_set, replicate}
use Rattle.text_checker.proofs.judges_lemmas.Common.{fun_ext, list_any, cases_Bool, leb_tells, Began, Participant, beginner, participant_of, program_of, with_participant, set_at, set_at-map, Names, Standing, HoldsMoments}
use Rattle.model_steps.proofs.cited.ParticipantLemmas.{length-with_participant}
use Rattle.model_steps.proofs.cited.DistinctParticipants.{distinct_put, distinct_push}
use Rattle.model_renaming.specs.declared.reply.Reply.TheVariants as step
use Rattle.model_renaming.specs.RenameObject.{RenameTerms, RenameObject, new_object, no_begin, after, after_step, IsFreeName}
use Rattle.text_checker.specs.judges.Standing.{place_of, name_of, spent_of, turn_of, is_held, HoldsPeople, HoldsTurns, turns_in, HoldsNames}
use Rattle.text_checker.proofs.judges_lemmas.seats.People.{absent, none_kept, nobody_has, program_of-push, program_of-put, seen_kept, seen_set}
use Rattle.text_checker.proofs.judges_lemmas.seats.Turned.{zero_at}
use Rattle.text_checker.proofs.judges_lemmas.seats.Turns.{first_turn, turns_begun, next_turn, turns_proposed}

-- who may begin has not begun, and there is room
pub may_begin : (terms : RenameTerms) (s : Names) (o : RenameObject) (p : ℕ) → HoldsNames terms s o → no_begin terms o p ≡ None →
    (program_of p s.participants ≡ None) × (length s.participants < terms.most)
may_begin terms s o p h none = elim (cases_Bool (p == 0)) [
  | inl z ↦ absurd (let k = rw z at none in cc)
  | inr z ↦ elim (cases_Bool (o.begun p)) [
    | inl b ↦ absurd (let k = rw (z, b) at none in cc)
    | inr b ↦ elim (leb_tells terms.most o.many) [
      | inl l ↦ absurd (let k = rw (z, b, l.0) at none in cc)
      | inr l ↦ (absent (program_of p s.participants) (sym (h.people.begun p) ∙ b), (let m = h.people.many in let k = l.1 in omega arith))
    ]
  ]
]

-- one who begins
abbrev pub first_standing : ℕ → Standing
first_standing seat = record { place = None; name = None; spent = false; turn = first_turn seat }

pub begun : (terms : RenameTerms) (s s' : Names) (o : RenameObject) (p : ℕ) → HoldsNames terms s o → no_begin terms o p ≡ None →
    s'.participants ≡ s.participants ++ beginner p (first_standing (length s.participants)) ∷ [] → s'.moments ≡ s.moments → s'.most ≡ s.most → s'.limit ≡ s.limit →
    HoldsNames terms s' (after o (Began p (Ok tt)))
begun terms s s' o p h none items moments most limit =
    let m = may_begin terms s o p h none in
    let ps : List (Participant Standing) = s.participants in
    let new : Standing = first_standing (length ps) in
    let who : (q : ℕ) → program_of q s'.participants ≡ set_at (λ v. program_of v ps) p (Some new) q = (λ q. ap (program_of q) items ∙ program_of-push ps p new m.0 q) in
    let many : length s'.participants ≡ length ps + 1 = ap length items ∙ length-append ps (beginner p new ∷ []) in
    record {
      people = record {
        many = ap (λ k. k + 1) h.people.many ∙ sym many;
        begun = (λ q. seen_set is_some o.begun (λ v. program_of v ps) p (Some new) true h.people.begun refl q ∙ sym (ap is_some (who q)));
        place = (λ q. seen_kept place_of o.place (λ v. program_of v ps) p (Some new) h.people.place (ap place_of m.0) q ∙ sym (ap place_of (who q)));
        name = (λ q. seen_kept name_of o.name (λ v. program_of v ps) p (Some new) h.people.name (ap name_of m.0) q ∙ sym (ap name_of (who q)));
        spent = (λ q. seen_kept spent_of o.spent (λ v. program_of v ps) p (Some new) h.people.spent (ap spent_of m.0) q ∙ sym (ap spent_of (who q)));
        apart = rw items (distinct_push ps (beginner p new) (none_kept (participant_of p ps) m.0) h.people.apart);
      };
      turns =
          let turns : turns_in s'.participants ≡ set_at (turns_in ps) p (Some (first_turn (length ps))) =
          fun_ext (λ q. ap turn_of (who q) ∙ set_at-map turn_of (λ v. program_of v ps) p (Some new) q) in
          rw (turns, moments, many) (turns_begun (turns_in ps) (length ps) terms.limit s.moments o.last o.moment o.count o.since p h.turns (ap turn_of m.0));
      most_is = most ∙ h.most_is;
      limit_is = limit ∙ h.limit_is;
      fits = h.fits;
      low = h.low;
      few = h.few;
      room = (let l = m.1 in omega arith);
    }

-- one for whom something else is kept
module _ (terms : RenameTerms) (s s' : Names) (o : RenameObject) (p : ℕ) (old new : Standing) (h : HoldsNames terms s o) (is : program_of p s.participants ≡ Some old)
    (items : s'.participants ≡ with_participant (beginner p new) s.participants) (most : s'.most ≡ s.most) (limit : s'.limit ≡ s.limit) where
  abbrev ps : List (Participant Standing)
  ps = s.participants

  who : (q : ℕ) → program_of q s'.participants ≡ set_at (λ v. program_of v ps) p (Some new) q
  who q = ap (program_of q) items ∙ program_of-put ps p old new is q

  many : length s'.participants ≡ length ps
  many = ap length items ∙ length-with_participant ps (beginner p new)

  -- what is seen of all is as before, where it is of this one
  kept : {Y : Type 0} (g : Option Standing → Y) (f : ℕ → Y) → ((q : ℕ) → f q ≡ g (program_of q ps)) → g (Some old) ≡ g (Some new) → (q : ℕ) → f q ≡ g (program_of q s'.participants)
  kept g f as_is same q = seen_kept g f (λ v. program_of v ps) p (Some new) as_is (ap g is ∙ same) q ∙ sym (ap g (who q))

  changed : {Y : Type 0} (g : Option Standing → Y) (f : ℕ → Y) (y : Y) → ((q : ℕ) → f q ≡ g (program_of q ps)) → y ≡ g (Some new) → (q : ℕ) → set_at f p y q ≡ g (program_of q s'.participants)
  changed g f y as_is same q = seen_set g f (λ v. program_of v ps) p (Some new) y as_is same q ∙ sym (ap g (who q))

  -- turns are as before, where that of this one is
  same_turns : s'.moments ≡ s.moments → old.turn ≡ new.turn → HoldsTurns (turns_in s'.participants) (length s'.participants) terms.limit s'.moments o.last o.moment o.count o.since
  same_turns moments turn =
      let turns : turns_in s'.participants ≡ turns_in ps = fun_ext (λ q. sym (kept turn_of (turns_in ps) (λ v. refl) (ap Some turn) q)) in
      rw (turns, moments, many) h.turns

  -- so what is kept is of an object in which as many have begun
  holds_so : (o' : RenameObject) → o'.many ≡ o.many → o'.begun ≡ o.begun →
      ((q : ℕ) → o'.place q ≡ place_of (program_of q s'.participants)) → ((q : ℕ) → o'.name q ≡ name_of (program_of q s'.participants)) →
      ((q : ℕ) → o'.spent q ≡ spent_of (program_of q s'.participants)) →
      HoldsTurns (turns_in s'.participants) (length s'.participants) terms.limit s'.moments o'.last o'.moment o'.count o'.since → HoldsNames terms s' o'
  holds_so o' as_many as_begun place name spent turns = record {
    people = record {
      many = as_many ∙ h.people.many ∙ sym many;
      begun = λ q. ap (λ (f : ℕ → Bool). f q) as_begun ∙ kept is_some o.begun h.people.begun refl q;
      place = place;
      name = name;
      spent = spent;
      apart = rw items (distinct_put ps (beginner p new) h.people.apart);
    };
    turns = turns;
    most_is = most ∙ h.most_is;
    limit_is = limit ∙ h.limit_is;
    fits = h.fits;
    low = h.low;
    few = h.few;
    room = rw many h.room;
  }

  pub placed : (place : ℕ) → s'.moments ≡ s.moments → new ≡ record old { place = Some place } → HoldsNames terms s' (after_step o p (step.Placed place))
  placed place moments e =
      holds_so _ refl refl (changed place_of o.place (Some place) h.people.place (sym (ap (λ x. x.place) e))) (kept name_of o.name h.people.name (sym (ap (λ x. x.name) e)))
      (kept spent_of o.spent h.people.spent (sym (ap (λ x. x.spent) e))) (same_turns moments (sym (ap (λ x. x.turn) e)))

  pub named : (name : ℕ) (view : List (ℕ × ℕ)) → s'.moments ≡ s.moments → new ≡ record old { name = Some name } → HoldsNames terms s' (after_step o p (step.Named name view))
  named name view moments e =
      holds_so _ refl refl (kept place_of o.place h.people.place (sym (ap (λ x. x.place) e))) (changed name_of o.name (Some name) h.people.name (sym (ap (λ x. x.name) e)))
      (kept spent_of o.spent h.people.spent (sym (ap (λ x. x.spent) e))) (same_turns moments (sym (ap (λ x. x.turn) e)))

  pub has_spent : s'.moments ≡ s.moments → new ≡ record old { spent = true } → HoldsNames terms s' (after_step o p step.Spent)
  has_spent moments e =
      holds_so _ refl refl (kept place_of o.place h.people.place (sym (ap (λ x. x.place) e))) (kept name_of o.name h.people.name (sym (ap (λ x. x.name) e)))
      (changed spent_of o.spent true h.people.spent (sym (ap (λ x. x.spent) e))) (same_turns moments (sym (ap (λ x. x.turn) e)))

  pub has_proposed : (number : ℕ) → 1 ≤ number → number < 128 → o.count p < terms.limit → new ≡ record old { turn = next_turn old.turn (o.last + 1) number } →
      HoldsMoments s'.moments (o.last + 1) (set_at h.turns.rows (o.last + 1) (slice_set (h.turns.rows o.last) old.turn.seat number)) → HoldsNames terms s' (after_step o p (step.Proposed number))
  has_proposed number positive small left e held =
      let turns : turns_in s'.participants ≡ set_at (turns_in ps) p (Some (next_turn old.turn (o.last + 1) number)) =
      fun_ext (λ q. ap turn_of (who q) ∙ set_at-map turn_of (λ v. program_of v ps) p (Some new) q ∙ ap (λ t. set_at (turns_in ps) p (Some t) q) (ap (λ x. x.turn) e)) in
      let room = h.room in
      let fits = h.fits in
      holds_so _ refl refl (kept place_of o.place h.people.place (sym (ap (λ x. x.place) e))) (kept name_of o.name h.people.name (sym (ap (λ x. x.name) e)))
      (kept spent_of o.spent h.people.spent (sym (ap (λ x. x.spent) e)))
      (rw (turns, many) (turns_proposed (turns_in ps) (length ps) terms.limit s.moments s'.moments o.last o.moment o.count o.since p number old.turn h.turns (ap turn_of is) positive small left (omega arith) held))

-- what is no one's name, and less than twice as many as have begun, may be one
pub free_name : (ps : List (Participant Standing)) (o : RenameObject) (n many : ℕ) → HoldsPeople ps o → many ≡ length ps → n < 2 * many → list_any (λ v. is_held n v.program.name) ps ≡ false → IsFreeName o n
free_name ps o n many h len small none = (let as_many = h.many in record { small = omega arith; free = nobody_has (λ s. s.name) o.name ps n h.name none })

-- nobody has begun
pub none_begun : (terms : RenameTerms) (s : Names) → s.participants ≡ [] → HoldsMoments s.moments 0 (λ i. replicate 64 0) → s.most ≡ terms.most → s.limit ≡ terms.limit → terms.most ≤ 64 →
    1 ≤ terms.limit → terms.limit ≤ 1000000 → HoldsNames terms s new_object
none_begun terms s none held most limit fits low few = record {
  people = subst (λ (ps : List (Participant Standing)). HoldsPeople ps new_object) (sym none)
      (record { many = refl; begun = (λ q. refl); place = (λ q. refl); name = (λ q. refl); spent = (λ q. refl); apart = tt });
  turns = subst (λ (ps : List (Participant Standing)). HoldsTurns (turns_in ps) (length ps) terms.limit s.moments 0 new_object.moment new_object.count new_object.since) (sym none) (record {
    rows = λ i. replicate 64 0;
    held = held;
    count = (λ q. refl);
    since = (λ q. refl);
    few = (λ q. omega arith);
    apart = (λ p q t u is is' same. absurd (cc));
    seated = (λ q t is. absurd (cc));
    taken = (λ seat l. absurd (omega arith));
    shown = (λ i l q. refl);
    unused = (λ i l seat far. zero_at 64 seat);
    small = (λ i l seat. let e = zero_at 64 seat in omega arith);
    stands = (λ q t is some. absurd (cc));
  });
  most_is = most;
  limit_is = limit;
  fits = fits;
  low = low;
  few = few;
  room = (let e : length s.participants ≡ 0 = ap length none in omega arith);
}
