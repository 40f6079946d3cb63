-- what is gathered of connections before their lines are taken
use Rattle.std.proofs.Common.{◌≡◌, ◌⊎◌, inl, inr, ℕ, ◌<◌, if◌then◌else◌, Bool, true, false, set, take, List, [], ◌++◌, length, get_or, Option, Some, None, refl, sym, ap, subst, ◌∙◌, append_assoc}
use Rattle.service_loop.proofs.Common.{append-nil, get_or-set_same, get_or-set_other, length-set, cases_eq, Consumes, Peek, Turn, TurnLog, BuffersState, WorldKind, requests_seen, turns_of}
use Rattle.text_lines.specs.Lines.{whole_lines}
use Rattle.service_loop.specs.Asking.{none_own}
use Rattle.service_loop.specs.Reported.{behind, bytes_of, lines_seen, long_of, requests, requests_in}
use Rattle.std.proofs.KnownBytes.{Consumes-nil, Consumes-trans}
use Rattle.service_loop.specs.Seats.{NoneSent, Seating, SeatTakes}
use Rattle.service_loop.specs.Gathering.{GathersOf, SeatGathers, Gathered}

-- nothing came, and it may be at fault now
pub gathers_kept : (left left' : Option (List ℕ)) (s s' : BuffersState) → Consumes left left' [] → s' ≡ record s { broken = s'.broken } → (s'.broken ≡ false → s.broken ≡ false) → GathersOf left s left' s'
gathers_kept left left' s s' gave is whole = record {
  came = [];
  gave = gave;
  responder_is = ap (λ (q : BuffersState). q.responder) is;
  outbox_is = ap (λ (q : BuffersState). q.outbox) is;
  ended_is = ap (λ (q : BuffersState). q.ended) is;
  in_line_is = ap (λ (q : BuffersState). q.in_line) is;
  kept = λ h. (ap (λ (q : BuffersState). q.inbox) is ∙ sym (append-nil s.inbox), whole h);
}

pub gathers_none : (left left' : Option (List ℕ)) (s : BuffersState) → Consumes left left' [] → GathersOf left s left' s
gathers_none left left' s gave = gathers_kept left left' s s gave refl (λ h. h)

-- these bytes came, and wait
pub gathers_some : (left left' : Option (List ℕ)) (came : List ℕ) (s s' : BuffersState) → Consumes left left' came → s' ≡ record s { inbox = s.inbox ++ came } → GathersOf left s left' s'
gathers_some left left' came s s' gave is = record {
  came = came;
  gave = gave;
  responder_is = ap (λ (q : BuffersState). q.responder) is;
  outbox_is = ap (λ (q : BuffersState). q.outbox) is;
  ended_is = ap (λ (q : BuffersState). q.ended) is;
  in_line_is = ap (λ (q : BuffersState). q.in_line) is;
  kept = λ h. (ap (λ (q : BuffersState). q.inbox) is, sym (ap (λ (q : BuffersState). q.broken) is) ∙ h);
}

-- or cannot wait, so that it is at fault
pub gathers_refused : (left left' : Option (List ℕ)) (came : List ℕ) (s s' : BuffersState) → Consumes left left' came → s' ≡ record s { broken = true } → GathersOf left s left' s'
gathers_refused left left' came s s' gave is = record {
  came = came;
  gave = gave;
  responder_is = ap (λ (q : BuffersState). q.responder) is;
  outbox_is = ap (λ (q : BuffersState). q.outbox) is;
  ended_is = ap (λ (q : BuffersState). q.ended) is;
  in_line_is = ap (λ (q : BuffersState). q.in_line) is;
  kept = λ h. absurd (let bad : true ≡ false = sym (ap (λ (q : BuffersState). q.broken) is) ∙ h in cc);
}

pub gathers_more : (left mid left' : Option (List ℕ)) (s m s' : BuffersState) → GathersOf left s mid m → GathersOf mid m left' s' → GathersOf left s left' s'
gathers_more left mid left' s m s' a b = record {
  came = a.came ++ b.came;
  gave = Consumes-trans left mid left' a.came b.came a.gave b.gave;
  responder_is = b.responder_is ∙ a.responder_is;
  outbox_is = b.outbox_is ∙ a.outbox_is;
  ended_is = b.ended_is ∙ a.ended_is;
  in_line_is = b.in_line_is ∙ a.in_line_is;
  kept = λ h.
      let k = b.kept h in
      let l = a.kept k.1 in
      (k.0 ∙ ap (λ x. x ++ b.came) l.0 ∙ append_assoc s.inbox a.came b.came, l.1);
}

module _ {C : Type 0} (on : Seating C) where
  seat_gathers_none : (x : Option C) → SeatGathers on x x
  seat_gathers_none None = tt
  seat_gathers_none (Some c) = (gathers_none (on.left c) (on.left c) (on.buffers c) (Consumes-nil (on.left c)), refl)

  seat_gathers_more : (x y z : Option C) → SeatGathers on x y → SeatGathers on y z → SeatGathers on x z
  seat_gathers_more None None None a b = tt
  seat_gathers_more None None (Some d) a b = b
  seat_gathers_more None (Some c) z a b = absurd a
  seat_gathers_more (Some c) None z a b = absurd a
  seat_gathers_more (Some c) (Some d) None a b = b
  seat_gathers_more (Some c) (Some d) (Some e) a b = (gathers_more (on.left c) (on.left d) (on.left e) (on.buffers c) (on.buffers d) (on.buffers e) a.0 b.0, b.1 ∙ a.1)

  pub gathered_none : (seats : List (Option C)) → Gathered on seats seats
  gathered_none seats = record { each = λ i. seat_gathers_none (get_or seats i None); many = refl }

  pub gathered_more : (xs ys zs : List (Option C)) → Gathered on xs ys → Gathered on ys zs → Gathered on xs zs
  gathered_more xs ys zs a b = record { each = λ i. seat_gathers_more (get_or xs i None) (get_or ys i None) (get_or zs i None) (a.each i) (b.each i); many = b.many ∙ a.many }

  sent_none : (turns : List Turn) (c d : C) (x : Option C) → SeatGathers on (Some c) x → SeatTakes on turns x (Some d) → on.gone d ≡ on.gone c
  sent_none turns c d None gathers takes = absurd gathers
  sent_none turns c d (Some m) gathers takes = takes.1 ∙ gathers.1

  -- what is gathered and then taken sends nothing
  pub none_sent_peeked : (log : TurnLog) (seats mid seats' : List (Option C)) → Gathered on seats mid → ((i : ℕ) → SeatTakes on (turns_of i log) (get_or mid i None) (get_or seats' i None)) →
      NoneSent on seats seats'
  none_sent_peeked log seats mid seats' gathered takes i c d was is = sent_none (turns_of i log) c d (get_or mid i None)
      (subst (λ (x : Option C). SeatGathers on x (get_or mid i None)) was (gathered.each i)) (subst (λ (x : Option C). SeatTakes on (turns_of i log) (get_or mid i None) x) is (takes i))

  -- one connection is gathered of where it sits
  pub gathered_at : (key : ℕ) (seats : List (Option C)) (was is : C) → key < length seats → get_or seats key None ≡ Some was →
      GathersOf (on.left was) (on.buffers was) (on.left is) (on.buffers is) → on.gone is ≡ on.gone was → Gathered on seats (set seats key (Some is))
  gathered_at key seats was is below there gathers unsent = record {
    each = λ i. elim (cases_eq i key) as (λ _. SeatGathers on (get_or seats i None) (get_or (set seats key (Some is)) i None)) [
      | inl same ↦ subst (λ (k : ℕ). SeatGathers on (get_or seats k None) (get_or (set seats key (Some is)) k None)) (sym same)
          (rw (there, get_or-set_same seats key (Some is) None below) (gathers, unsent))
      | inr other ↦ rw (get_or-set_other seats key i (Some is) None other) (seat_gathers_none (get_or seats i None))
    ];
    many = length-set seats key (Some is);
  }

  -- one connection may be at fault where it sits, and nothing else changes
  pub kept_at : (key : ℕ) (seats : List (Option C)) (was is : C) → key < length seats → get_or seats key None ≡ Some was → on.left is ≡ on.left was → on.gone is ≡ on.gone was →
      on.buffers is ≡ record (on.buffers was) { broken = (on.buffers is).broken } → ((on.buffers is).broken ≡ false → (on.buffers was).broken ≡ false) → Gathered on seats (set seats key (Some is))
  kept_at key seats was is below there left gone buffers whole =
      gathered_at key seats was is below there (gathers_kept (on.left was) (on.left is) (on.buffers was) (on.buffers is) (rw left (Consumes-nil (on.left was))) buffers whole) gone

no_line : (kind : WorldKind) (long : Bool) → requests kind (behind long []) ≡ []
no_line kind true = refl
no_line kind false = refl

-- where no byte was looked at nothing was seen
pub none_seen : (kind : WorldKind) (s : BuffersState) (peek : Option Peek) → bytes_of peek ≡ 0 → requests_seen kind s peek ≡ []
none_seen kind s peek bytes = elim s.responder.over as (λ over. (if over then [] else requests_in kind (long_of peek) (take (bytes_of peek) s.inbox)) ≡ [])
    [ true ↦ refl | false ↦ rw bytes (no_line kind (long_of peek)) ]

-- where nothing was looked at, no line was
pub none_own_seen : (s : BuffersState) (peek : Option Peek) → bytes_of peek ≡ 0 → none_own (lines_seen s peek) ≡ true
none_own_seen s peek none = by s.responder.over (long_of peek)
  where
    by : (over long : Bool) → none_own (if over then [] else behind long (whole_lines (take (bytes_of peek) s.inbox))) ≡ true
    by true long = refl
    by false true = rw none refl
    by false false = rw none refl

-- and where none that was is one that the server answers by itself, or `quit` was answered
pub own_seen : (s : BuffersState) (peek : Option Peek) → (s.responder.over ≡ false → none_own (behind (long_of peek) (whole_lines (take (bytes_of peek) s.inbox))) ≡ true) → none_own (lines_seen s peek) ≡ true
own_seen s peek own = by s.responder.over own
  where
    by : (over : Bool) → (over ≡ false → none_own (behind (long_of peek) (whole_lines (take (bytes_of peek) s.inbox))) ≡ true) → none_own (if over then [] else behind (long_of peek) (whole_lines (take (bytes_of peek) s.inbox))) ≡ true
    by true h = refl
    by false h = h refl

-- what is known of a batch, whether or not it was asked who holds numbers
pub unheld : {A B C P : Type 0} {holds : Bool} → (A × (holds ≡ false) × B × C) ⊎ P → (A × B × C) ⊎ P
unheld (inl none) = inl (none.0, none.2, none.3)
unheld (inr done) = inr done

-- where that was asked, the answers were prefetched
pub was_prefetched : {A B C P : Type 0} {holds : Bool} → holds ≡ true → (A × (holds ≡ false) × B × C) ⊎ P → P
was_prefetched asks (inl none) = absurd (let bad : true ≡ false = sym asks ∙ none.1 in cc)
was_prefetched asks (inr done) = done
