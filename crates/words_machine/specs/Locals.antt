-- a local machine as one of programs over words: each seat's participant has the seat's own number as its identity
use Rattle.std.specs.Prelude.{◌≡◌, ◌≢◌, ℕ, ◌+◌, ◌^◌, ◌<◌, ◌≤◌, List, length, slice_index_or, Option, Some, None}
use Rattle.std.proofs.Common.{refl, sym, ap, subst, ◌∙◌, arith}
use Rattle.std.proofs.lemmas.List.{length-set, get_or-set_same, get_or-set_other, length-replicate, get_or-replicate}
use Rattle.model_steps.specs.declared.access.Access.{Access}
use Rattle.model_steps.specs.declared.access.Access.TheVariants.{Read, Write, TestAndSet, Clear, Nothing}
use Rattle.model_steps.specs.declared.access.Answer.{Answer}
use Rattle.model_steps.specs.declared.participant.Participant.{Participant}
use Rattle.model_steps.specs.Calls.{Call, begun_in, steps_of}
use Rattle.model_steps.specs.LocalMachine as own
use Rattle.model_steps.specs.LocalMachine.{LocalMachine, ChangesOnly, IsWithin, values_after}
use Rattle.model_steps.specs.Machine.{Reaches}
use Rattle.model_steps.specs.Steps.{ProgramSteps, Spares}
use Rattle.words_machine.specs.WordLaw.{WordLaw, IsSound, IsOnce, IsFresh, IsOwnAccess, GoesOn, answer_in, one_more, program_at, moved}

module _ {P O : Type 0} (local : LocalMachine P ℕ O) where
  -- these calls lead to this state, and there are as many registers as at first
  pub record IsReached (most : ℕ) (w : local.State) (r : List (Call local.X)) : Type 0 where
    pub may : local.MayStart most
    pub after : Reaches local.machine (local.start_of most) w r
    pub many : length (local.memory w) ≡ local.registers most

  abbrev pub words_law : WordLaw P ℕ O
  words_law = record {
    State = local.State;
    Start = local.Start;
    Call = Call local.X;
    machine = local.machine;
    start_of = local.start_of;
    memory = λ w x. slice_index_or (local.memory w) x 0;
    self = local.self;
    outcome_of = local.outcome_of;
    steps_of = steps_of;
    begun_in = begun_in;
    Holds = IsReached;
    MayStart = local.MayStart;
    MayBegin = λ p identity. identity ≡ p;
    start = λ most p identity. local.start p;
    bound = local.bound;
    IsRegister = λ most x. x < local.registers most;
    registers = local.registers;
    place = λ most x. x;
  }

-- both say the same of an access
same_answer : (values : List ℕ) (a : Access ℕ ℕ) → own.answer_in 0 values a ≡ answer_in (λ x. slice_index_or values x 0) a
same_answer values (Read x) = refl
same_answer values (Write x v) = refl
same_answer values (TestAndSet x) = refl
same_answer values (Clear x) = refl
same_answer values Nothing = refl

as_many : (values : List ℕ) (a : Access ℕ ℕ) → length (values_after values a) ≡ length values
as_many values (Read x) = refl
as_many values (Write x v) = length-set values x v
as_many values (TestAndSet x) = refl
as_many values (Clear x) = refl
as_many values Nothing = refl

spared_there : (values : List ℕ) (a : Access ℕ ℕ) (x : ℕ) → Spares a x → slice_index_or (values_after values a) x 0 ≡ slice_index_or values x 0
spared_there values (Read y) x spares = refl
spared_there values (Write y v) x spares = get_or-set_other values y x v 0 spares
spared_there values (TestAndSet y) x spares = refl
spared_there values (Clear y) x spares = refl
spared_there values Nothing x spares = refl

wrote_there : (n : ℕ) (values : List ℕ) (a : Access ℕ ℕ) → length values ≡ n → IsWithin n a → (x v : ℕ) → a ≡ Write x v → slice_index_or (values_after values a) x 0 ≡ v
wrote_there n values a many within x v is =
    let low : x < n = subst (IsWithin n) is within in
    ap (λ (b : Access ℕ ℕ). slice_index_or (values_after values b) x 0) is ∙ get_or-set_same values x v 0 (omega arith)

module _ {P O : Type 0} (program : ProgramSteps P ℕ ℕ O) (local : LocalMachine P ℕ O) where
  abbrev law : WordLaw P ℕ O
  law = words_law local

  own_access : (most : ℕ) (a : Access ℕ ℕ) → IsWithin (local.registers most) a → IsOwnAccess program law most a
  own_access most (Read x) within = within
  own_access most (Write x v) within = within
  own_access most (TestAndSet x) within = absurd within
  own_access most (Clear x) within = absurd within
  own_access most Nothing within = absurd within

  module _ (sound : ChangesOnly program 0 local) where
    -- one access more in the local machine is one here
    once_here : (most : ℕ) (w : local.State) (r : List (Call local.X)) → IsReached local most w r → (p identity : ℕ) (o : Option (Participant P)) (u : P) → identity ≡ p → IsWithin (local.registers most) (program.next u)
        → own.one_more o ≡ one_more o → own.IsOnce program 0 local most w r p o u → IsOnce program law most w r p identity o u
    once_here most w r h p identity o u same within more once =
        let answer = same_answer (local.memory w) (program.next u) in
        record {
          w = once.w;
          r = once.r;
          holds = record { may = h.may; after = once.after; many = ap length once.memory_is ∙ as_many (local.memory w) (program.next u) ∙ h.many };
          wrote = λ x v is. ap (λ (values : List ℕ). slice_index_or values x 0) once.memory_is ∙ wrote_there (local.registers most) (local.memory w) (program.next u) h.many within x v is;
          spared = λ x spares. ap (λ (values : List ℕ). slice_index_or values x 0) once.memory_is ∙ spared_there (local.memory w) (program.next u) x spares;
          mine = once.mine ∙ ap (λ (a : Answer ℕ). Some (moved program law p u a)) answer ∙ ap (λ (i : ℕ). Some (moved program law i u (answer_in (law.memory w) (program.next u)))) (sym same);
          others = once.others;
          own_steps = once.own_steps;
          steps = once.steps;
          own_outcome_is = λ none. once.own_outcome_is none ∙ ap (λ (a : Answer ℕ). Rattle.model_steps.specs.Calls.outcome_in (program.note u a)) answer;
          outcomes = once.outcomes;
          begun = once.begun ∙ ap (λ (n : ℕ). begun_in r + n) more;
        }

    takes_here : ((w : local.State) (p : ℕ) (v : Participant P) → local.self w p ≡ Some v → v.identity ≡ p)
        → (most : ℕ) (w : local.State) (r : List (Call local.X)) → IsReached local most w r → (p identity : ℕ) (o : Option (Participant P)) → p ≢ 0 → p ≤ most → local.self w p ≡ o → GoesOn program law p identity o →
        begun_in r + one_more o ≤ most → IsOnce program law most w r p identity o (program_at program law most p identity o)
    takes_here named most w r h p identity None some low is goes room =
        once_here most w r h p identity None (local.start p) goes (sound.begins most p (omega arith) h.may) refl (sound.takes most w r h.after p None some is tt room)
    takes_here named most w r h p identity (Some v) some low is goes room =
        once_here most w r h p identity (Some v) v.program (sym goes.1 ∙ named w p v is) (sound.own most w r h.after p v is goes.0) refl (sound.takes most w r h.after p (Some v) some is goes.0 room)

    fresh_here : (most : ℕ) → local.MayStart most → IsFresh program law most
    fresh_here most may =
        let new = sound.fresh most may in
        record {
          holds = record { may = may; after = new.after; many = ap length new.blank ∙ length-replicate (local.registers most) 0 };
          blank = λ x low. ap (λ (values : List ℕ). slice_index_or values x 0) new.blank ∙ get_or-replicate (local.registers most) x 0 0 low;
          nobody = new.nobody;
          unreported = new.unreported;
          unmoved = λ q. refl;
          unbegun = refl;
        }

    -- what is proved of it, where its words and its accesses are few
    pub words_sound : ((w : local.State) (p : ℕ) (v : Participant P) → local.self w p ≡ Some v → v.identity ≡ p)
        → ((most : ℕ) → local.MayStart most → local.registers most < 2 ^ 32) → ((most : ℕ) → local.MayStart most → local.bound most < 2 ^ 64) → IsSound program law
    words_sound named few_words few_accesses = record {
      after = λ most w r h. h.after;
      fresh = fresh_here;
      takes = takes_here named;
      few = λ most w r h. sound.few most w r h.after;
      tells = λ most p i j one other alike. one ∙ sym other;
      begins = λ most p identity some low may begins. own_access most (program.next (local.start p)) (sound.begins most p (omega arith) may);
      own = λ most w r h p v is goes. own_access most (program.next v.program) (sound.own most w r h.after p v is goes);
      within = λ most x low. low;
      apart = λ most x y low also same. same;
      some = sound.some;
      small = few_words;
      bounded = few_accesses;
    }
