-- the accesses of a seat whose participant stands here
use Rattle.std.proofs.Common.{◌≡◌, ℕ, ◌+◌, List, [], ◌∷◌, Option, Some, None, subst, sym, refl, ap, ◌∙◌}
use Rattle.words_machine.proofs.Common.{Me, Step, Allows, ProgramSteps, Read, Write, Access, TestAndSet, Clear, Nothing, Value, Done, Answer, Note, Participant, Stand, SeatView, own, stand_at, lone_view, WordLaw, IsAlike, IsOwnAccess, IsSound, GoesOn, KeepsRun, standing, Reads, Writes, Stands, HasGot, HasStepped, accesses_in}
use Rattle.words_machine.proofs.Stepping.{reads, writes}
use Rattle.words_machine.specs.Ids.{participant_by}

abbrev number_by : {P O : Type 0} → List (Stand P O) → ℕ
number_by [] = 0
number_by (s ∷ ss) = s.number

-- what is alike to a read is one, and what is alike to a write writes as much
alike_read : {R : Type 0} (x : R) (k : ℕ) (a : Access R ℕ) → IsAlike a (Read k) → IsAlike (Read x) a
alike_read x k (Read y) h = tt
alike_read x k (Write y v) h = absurd h
alike_read x k (TestAndSet y) h = absurd h
alike_read x k (Clear y) h = absurd h
alike_read x k Nothing h = absurd h

alike_write : {R : Type 0} (x : R) (k stored : ℕ) (a : Access R ℕ) → IsAlike a (Write k stored) → IsAlike (Write x stored) a
alike_write x k stored (Read y) h = absurd h
alike_write x k stored (Write y v) h = sym h
alike_write x k stored (TestAndSet y) h = absurd h
alike_write x k stored (Clear y) h = absurd h
alike_write x k stored Nothing h = absurd h

module _ {P R O : Type 0} (program : ProgramSteps P R ℕ O) (law : WordLaw P R O) where
  module _ {S : Type 0} (sound : IsSound program law) (key m : ℕ) (same : m ≡ key) (number identity : ℕ) (u : P) (me : Me S (SeatView P O)) (at : Stands program law {S = S} m number identity u me) where
    abbrev here : Stand P O
    here = stand_at number at.participant None at.accesses at.entered

    -- an access to a word of a table of the seat's own size
    abbrev Makes : ℕ → ℕ → ℕ → Me S (SeatView P O) → ℕ → (ℕ → ℕ) → (ℕ → Me S (SeatView P O) → Type 0) → Type 0
    Makes k slots seat x word f then = Allows {S = S} {V = SeatView P O} (KeepsRun law k) slots seat x word f then

    next_is : (a : Access R ℕ) → program.next u ≡ a → program.next (standing program law m number identity at.participant) ≡ a
    next_is a is = ap program.next at.stands ∙ is

    stands_so : Stands program law {S = S} m number identity (standing program law m number identity at.participant) (lone_view m here, [])
    stands_so = record { participant = at.participant; accesses = at.accesses; entered = at.entered; stands = refl; goes_on = at.goes_on; within = subst (λ (x : P). IsOwnAccess program law m (program.next x)) (sym at.stands) at.within; me_is = refl }

    -- a read
    pub may_read : (seat slots : ℕ) (st : Step S) (x : R) (word : ℕ) → word ≡ law.place m x → law.IsRegister m x → program.next u ≡ Read x → Makes key slots seat me word (λ n. n) (Reads program law st me)
    may_read seat slots st x word at_word low is = subst (λ (k : ℕ). Makes k slots seat me word (λ n. n) (Reads program law st me)) same
        (subst (λ (y : Me S (SeatView P O)). Makes m slots seat y word (λ n. n) (Reads program law st y)) (sym at.me_is)
        (reads program law sound m seat number identity at.accesses at.entered at.participant at.goes_on slots st stands_so x word at_word low (next_is (Read x) is)))

    -- a write
    pub may_write : (seat slots : ℕ) (st : Step S) (x : R) (word stored : ℕ) → word ≡ law.place m x → law.IsRegister m x → program.next u ≡ Write x stored
        → Makes key slots seat me word (λ _. stored) (λ _. Writes program law st me stored)
    may_write seat slots st x word stored at_word low is = subst (λ (k : ℕ). Makes k slots seat me word (λ _. stored) (λ _. Writes program law st me stored)) same
        (subst (λ (y : Me S (SeatView P O)). Makes m slots seat y word (λ _. stored) (λ _. Writes program law st y stored)) (sym at.me_is)
        (writes program law sound m seat number identity at.accesses at.entered at.participant at.goes_on slots st stands_so x word stored at_word low (next_is (Write x stored) is)))

    -- with whichever identity a participant goes on whose next access is alike, it goes on with this one
    one_identity : (o : Option (Participant P)) (j : ℕ) → GoesOn program law (own number) identity o → GoesOn program law (own number) j o → IsAlike (program.next (standing program law m number identity o)) (program.next (standing program law m number j o)) → j ≡ identity
    one_identity None j a b alike = sym (sound.tells m (own number) identity j a b alike)
    one_identity (Some w) j a b alike = sym b.1 ∙ a.1

    -- a participant that stands in this view, and whose next access is alike, is this one
    module _ (n other j : ℕ) (v : P) (is : Stands program law {S = S} n other j v me) (alike : IsAlike (program.next u) (program.next v)) where
      most_is : n ≡ m
      most_is = sym (ap (λ (x : Me S (SeatView P O)). x.0.most) is.me_is) ∙ ap (λ (x : Me S (SeatView P O)). x.0.most) at.me_is

      number_is : other ≡ number
      number_is = sym (ap (λ (x : Me S (SeatView P O)). number_by x.0.stands) is.me_is) ∙ ap (λ (x : Me S (SeatView P O)). number_by x.0.stands) at.me_is

      participant_is : is.participant ≡ at.participant
      participant_is = sym (ap (λ (x : Me S (SeatView P O)). participant_by x.0.stands) is.me_is) ∙ ap (λ (x : Me S (SeatView P O)). participant_by x.0.stands) at.me_is

      program_is : v ≡ standing program law m number j at.participant
      program_is = sym is.stands ∙ (λ i. standing program law (most_is i) (number_is i) j (participant_is i))

      goes_there : GoesOn program law (own number) j at.participant
      goes_there = subst (λ (k : ℕ). GoesOn program law (own k) j at.participant) number_is (subst (λ (o : Option (Participant P)). GoesOn program law (own other) j o) participant_is is.goes_on)

      identity_is : j ≡ identity
      identity_is = one_identity at.participant j at.goes_on goes_there
          (subst (λ (x : P). IsAlike (program.next x) (program.next (standing program law m number j at.participant))) (sym at.stands) (subst (λ (x : P). IsAlike (program.next u) (program.next x)) program_is alike))

      same_program : v ≡ u
      same_program = program_is ∙ ap (λ (k : ℕ). standing program law m number k at.participant) identity_is ∙ at.stands

      settled : (a : Answer ℕ) (after : Me S (SeatView P O)) → HasGot program law {S = S} n other j v a me after → HasGot program law {S = S} m number identity u a me after
      settled a after h =
          subst (λ (x : P). HasGot program law {S = S} m number identity x a me after) same_program
          (subst (λ (k : ℕ). HasGot program law {S = S} m number k v a me after) identity_is
          (subst (λ (k : ℕ). HasGot program law {S = S} m k j v a me after) number_is
          (subst (λ (k : ℕ). HasGot program law {S = S} k other j v a me after) most_is h)))

    -- it has read
    pub has_read : (st : Step S) (x : R) (found : ℕ) (after : Me S (SeatView P O)) → program.next u ≡ Read x → Reads program law st me found after → HasGot program law {S = S} m number identity u (Value found) me after
    has_read st x found after is told = settled told.most told.number told.identity told.u told.stands (subst (λ (a : Access R ℕ). IsAlike a (program.next told.u)) (sym is) (alike_read x st.word (program.next told.u) told.alike)) (Value found) after told.got

    -- it has written
    pub has_written : (st : Step S) (x : R) (stored : ℕ) (after : Me S (SeatView P O)) → program.next u ≡ Write x stored → Writes program law st me stored after → HasGot program law {S = S} m number identity u Done me after
    has_written st x stored after is told = settled told.most told.number told.identity told.u told.stands (subst (λ (a : Access R ℕ). IsAlike a (program.next told.u)) (sym is) (alike_write x st.word stored (program.next told.u) told.alike)) Done after told.got

    -- a step: what it got, and what its program makes of it
    pub has_stepped : (got : Answer ℕ) (new : P) (note : Note O) (after : Me S (SeatView P O)) → HasGot program law {S = S} m number identity u got me after → new ≡ program.resumed u got → note ≡ program.note u got → HasStepped law {S = S} m number identity new note me after
    has_stepped got new note after h new_is note_is = rw (new_is, note_is) (record { accesses = accesses_in me + 1; entered = h.begun; one_more = ap accesses_in h.is; me_is = h.is; under = h.under })

-- an access that is the program's own is none of these
module _ {P R O : Type 0} (program : ProgramSteps P R ℕ O) (law : WordLaw P R O) where
  pub no_test : (most : ℕ) (r : R) (a : Access R ℕ) → IsOwnAccess program law most a → a ≡ TestAndSet r → ⊥
  no_test most r a within is = subst (IsOwnAccess program law most) is within

  pub no_clear : (most : ℕ) (r : R) (a : Access R ℕ) → IsOwnAccess program law most a → a ≡ Clear r → ⊥
  no_clear most r a within is = subst (IsOwnAccess program law most) is within

  pub no_idle : (most : ℕ) (a : Access R ℕ) → IsOwnAccess program law most a → a ≡ Nothing → ⊥
  no_idle most a within is = subst (IsOwnAccess program law most) is within

  pub read_within : (most : ℕ) (r : R) (a : Access R ℕ) → IsOwnAccess program law most a → a ≡ Read r → law.IsRegister most r
  read_within most r a within is = subst (IsOwnAccess program law most) is within

  pub write_within : (most : ℕ) (r : R) (v : ℕ) (a : Access R ℕ) → IsOwnAccess program law most a → a ≡ Write r v → law.IsRegister most r
  write_within most r v a within is = subst (IsOwnAccess program law most) is within
