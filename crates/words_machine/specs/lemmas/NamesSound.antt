-- recursive renaming over words is sound
use Rattle.std.proofs.Common.{◌≡◌, ◌≢◌, ℕ, ◌+◌, ◌≤◌, ◌==◌, nat_lt, false, is_some, List, [], ◌∷◌, ◌++◌, Option, Some, None, Ok, option_map, refl, sym, ap, subst, ◌∙◌, arith, ne_eqb}
use Rattle.std.proofs.lemmas.Bool.Decides.{Decides-eqb, nat_tests}
use Rattle.std.proofs.lemmas.Nat.{mul-le}
use Rattle.model_steps.specs.SetAt.{set_at}
use Rattle.model_steps.specs.declared.access.Access.{Access}
use Rattle.model_steps.specs.declared.access.Access.TheVariants.{Read, Write, TestAndSet, Clear, Nothing}
use Rattle.model_steps.specs.declared.access.Answer.{Answer}
use Rattle.model_steps.specs.declared.participant.Participant.{Participant}
use Rattle.model_steps.specs.Calls.{outcome_of, outcome_by, outcome_in, steps_of, steps_by, begun_in, first_of}
use Rattle.model_recursion.specs.Calls.{SeatCall, calls_of, call_of}
use Rattle.model_recursion.specs.Calls.SeatCall.{Begin, Step}
use Rattle.model_steps.specs.Machine.{Reaches}
use Rattle.model_steps.specs.Participant.{beginner}
use Rattle.model_steps.specs.Steps.{Spares}
use Rattle.model_steps.specs.World.{done_unless}
use Rattle.model_steps.proofs.cited.MachineLemmas.{after_none, call_leads_on}
use Rattle.model_steps.proofs.cited.SetAtLemmas.{set_at-same, set_at-other, set_at-cases}
use Rattle.model_steps.proofs.cited.WorldKeeps.{first_of-none}
use Rattle.model_recursion.specs.Invariant.{members_of}
use Rattle.model_recursion.specs.Machine.{Naming, naming, Words, word_at, with_word, words_after, answer_to, after_begin, after_step, got_by, begin_refusal}
use Rattle.model_recursion.specs.Program.{namer_of, namer_steps, next_access, access_at, namer_note, name_at, Phase, phase_of}
use Rattle.words_machine.specs.WordLaw.{IsSound, IsOnce, IsOwnAccess, GoesOn, one_more, answer_in, program_at, moved}
use Rattle.words_machine.specs.Names.{IsKnown, names_law}
use Rattle.model_recursion.specs.declared.namer.Cell.{Cell}
use Rattle.model_recursion.specs.declared.namer.Survey.{Survey}
use Rattle.model_recursion.specs.Program.Phase.{Entering, Collecting, Over}
use Rattle.model_recursion.specs.declared.namer.Namer.{Namer}
use Rattle.model_recursion.proofs.cited.Facts.{instance_of}
use Rattle.model_recursion.specs.Ranges.{IsInstance}
use Rattle.model_recursion.proofs.cited.Tied.{tied_always, at_most, collect_low, collect_from, ids_of, own_ids, steps_more, begun_more, outcome_more}
use Rattle.words_machine.specs.lemmas.NamesPlaces.{apart, within, some_cells, few_cells}

-- both say the same of an access
same_answer : (word : Words) (a : Access Cell ℕ) → answer_to word a ≡ answer_in (λ c. word_at word c) a
same_answer word (Read c) = refl
same_answer word (Write c v) = refl
same_answer word (TestAndSet c) = refl
same_answer word (Clear c) = refl
same_answer word Nothing = refl

wrote_word : (word : Words) (c : Cell) (v : ℕ) → word_at (with_word word c v) c ≡ v
wrote_word word c v =
    ap (λ (w : ℕ → ℕ → ℕ). w c.first c.seat) (set_at-same word c.level (set_at (word c.level) c.first (set_at (word c.level c.first) c.seat v)))
    ∙ ap (λ (w : ℕ → ℕ). w c.seat) (set_at-same (word c.level) c.first (set_at (word c.level c.first) c.seat v)) ∙ set_at-same (word c.level c.first) c.seat v

cell_is : (c d : Cell) → c.level ≡ d.level → c.first ≡ d.first → c.seat ≡ d.seat → c ≡ d
cell_is c d a b e = λ i. record { level = a i; first = b i; seat = e i }

other_word : (word : Words) (c : Cell) (v : ℕ) (d : Cell) → d ≢ c → word_at (with_word word c v) d ≡ word_at word d
other_word word c v d n =
    set_at-cases word c.level (set_at (word c.level) c.first (set_at (word c.level c.first) c.seat v)) (λ w. w d.first d.seat ≡ word d.level d.first d.seat) d.level
    (λ x. set_at-cases (word c.level) c.first (set_at (word c.level c.first) c.seat v) (λ w. w d.seat ≡ word d.level d.first d.seat) d.first
    (λ f. set_at-other (word c.level c.first) c.seat v d.seat (λ s. n (cell_is d c x f s)) ∙ ap (λ (i : ℕ). word c.level i d.seat) (sym f) ∙ ap (λ (i : ℕ). word i d.first d.seat) (sym x))
    (λ _. ap (λ (i : ℕ). word i d.first d.seat) (sym x)))
    (λ _. refl)

spared_word : (word : Words) (a : Access Cell ℕ) (d : Cell) → Spares a d → word_at (words_after word a) d ≡ word_at word d
spared_word word (Read c) d s = refl
spared_word word (Write c v) d s = other_word word c v d s
spared_word word (TestAndSet c) d s = refl
spared_word word (Clear c) d s = refl
spared_word word Nothing d s = refl

-- one that has begun makes one access
module _ (most : ℕ) (w : Naming) (r : List SeatCall) (h : IsKnown most w r) (p identity : ℕ) (v : Participant Namer) (here : w.self p ≡ Some v) (goes : v.ended ≡ false) (named : v.identity ≡ identity) where
  abbrev u : Namer
  u = v.program

  abbrev said : Option ℕ
  said = outcome_in (namer_note u (got_by w u))

  abbrev call : SeatCall
  call = Step p (Ok said)

  abbrev now : Naming
  now = after_step w p (Some v)

  abbrev new : Participant Namer
  new = moved namer_steps names_law v.identity u (got_by w u)

  reached : Reaches naming most now (r ++ call ∷ [])
  reached = call_leads_on naming w now call (ap (after_step w p) (sym here)) (rw here (rw goes (refl, refl))) most r h.after

  answer : got_by w u ≡ answer_in (λ c. word_at w.word c) (next_access u)
  answer = same_answer w.word (next_access u)

  once : IsOnce namer_steps names_law most w r p identity (Some v) u
  once = record {
    w = now;
    r = r ++ call ∷ [];
    holds = record { may = h.may; after = reached };
    wrote = λ x a is. ap (λ (b : Access Cell ℕ). word_at (words_after w.word b) x) is ∙ wrote_word w.word x a;
    spared = λ x s. spared_word w.word (next_access u) x s;
    mine = set_at-same w.self p (Some new) ∙ ap (λ (a : Answer ℕ). Some (moved namer_steps names_law v.identity u a)) answer ∙ ap (λ (i : ℕ). Some (moved namer_steps names_law i u (answer_in (λ c. word_at w.word c) (next_access u)))) named;
    others = λ q n. set_at-other w.self p (Some new) q n;
    own_steps = (let pushed = steps_more r call p in let one : steps_by p (call_of call) ≡ 1 = (let b = (Decides-eqb p p).1 refl in rw b refl) in omega arith);
    steps = λ q n. (let pushed = steps_more r call q in let none : steps_by q (call_of call) ≡ 0 = (let b = ne_eqb p q (λ e. n (sym e)) in rw b refl) in omega arith);
    own_outcome_is = λ none.
        outcome_more r call p ∙ ap (λ (o : Option ℕ). first_of o (outcome_by p (call_of call))) none ∙ (let b = (Decides-eqb p p).1 refl in rw b (ap (λ (a : Answer ℕ). outcome_in (namer_note u a)) answer));
    outcomes = λ q n.
        outcome_more r call q ∙ ap (first_of (outcome_of q (calls_of r))) (let b = ne_eqb p q (λ e. n (sym e)) in let none : outcome_by q (call_of call) ≡ None = rw b refl in none) ∙ first_of-none (outcome_of q (calls_of r));
    begun = (let pushed = begun_more r call in omega arith);
  }

-- one that has not begun begins, and makes one
module _ (most : ℕ) (w : Naming) (r : List SeatCall) (h : IsKnown most w r) (p identity : ℕ) (none : w.self p ≡ None) (some : p ≢ 0) (low : p ≤ most) (some_id : 1 ≤ identity) where
  abbrev b : Participant Namer
  b = beginner identity (namer_of w.most p identity)

  abbrev began : SeatCall
  began = Begin p identity (Ok tt)

  abbrev w1 : Naming
  w1 = after_begin w p identity

  most_is : w.most ≡ most
  most_is = (tied_always most w r h.after).most_is

  allowed : begin_refusal w p identity ≡ None
  allowed =
      let m = most_is in
      let zero_not : (p == 0) ≡ false = ne_eqb p 0 some in
      let high_not : nat_lt w.most p ≡ false = (grind (arith, nat_tests)) in
      let id_not : (identity == 0) ≡ false = ne_eqb identity 0 (λ e. omega arith) in
      rw (zero_not, high_not, id_not, none) refl

  reached1 : Reaches naming most w1 (r ++ began ∷ [])
  reached1 = call_leads_on naming w w1 began refl (ap done_unless (sym allowed)) most r h.after

  known1 : IsKnown most w1 (r ++ began ∷ [])
  known1 = record { may = h.may; after = reached1 }

  step1 : IsOnce namer_steps names_law most w1 (r ++ began ∷ []) p identity (Some b) (namer_of w.most p identity)
  step1 = once most w1 (r ++ began ∷ []) known1 p identity b (set_at-same w.self p (Some b)) refl refl

  steps1 : (q : ℕ) → steps_of q (calls_of (r ++ began ∷ [])) ≡ steps_of q (calls_of r)
  steps1 q = let pushed = steps_more r began q in omega arith

  outcomes1 : (q : ℕ) → outcome_of q (calls_of (r ++ began ∷ [])) ≡ outcome_of q (calls_of r)
  outcomes1 q = outcome_more r began q ∙ first_of-none (outcome_of q (calls_of r))

  begun_first : IsOnce namer_steps names_law most w r p identity None (namer_of w.most p identity)
  begun_first = record {
    w = step1.w;
    r = step1.r;
    holds = step1.holds;
    wrote = step1.wrote;
    spared = step1.spared;
    mine = step1.mine;
    others = λ q n. step1.others q n ∙ set_at-other w.self p (Some b) q n;
    own_steps = step1.own_steps ∙ ap (λ (n : ℕ). n + 1) (steps1 p);
    steps = λ q n. step1.steps q n ∙ steps1 q;
    own_outcome_is = λ e. step1.own_outcome_is (outcomes1 p ∙ e);
    outcomes = λ q n. step1.outcomes q n ∙ outcomes1 q;
    begun = (let one = step1.begun in let pushed = begun_more r began in omega arith);
  }

  begins_here : IsOnce namer_steps names_law most w r p identity None (namer_of most p identity)
  begins_here = subst (IsOnce namer_steps names_law most w r p identity None) (ap (λ (n : ℕ). namer_of n p identity) most_is) begun_first

takes : (most : ℕ) (w : Naming) (r : List SeatCall) → IsKnown most w r → (p identity : ℕ) (o : Option (Participant Namer)) → p ≢ 0 → p ≤ most → w.self p ≡ o → GoesOn namer_steps names_law p identity o →
    begun_in (calls_of r) + one_more o ≤ most → IsOnce namer_steps names_law most w r p identity o (program_at namer_steps names_law most p identity o)
takes most w r h p identity None some low is goes room = begins_here most w r h p identity is some low goes
takes most w r h p identity (Some v) some low is goes room = once most w r h p identity v is goes.0 goes.1

-- its next access is to one of the words
own_at : (most : ℕ) (u : Namer) (phase : Phase) → 1 ≤ u.level → u.level ≤ most → IsInstance most u.level u.first → 1 ≤ u.seat → u.seat ≤ most → ((c : Survey) → phase ≡ Collecting c → (1 ≤ c.at) × (c.at ≤ most)) → name_at phase ≡ None → IsOwnAccess namer_steps names_law most (access_at u phase)
own_at most u Entering from to instance some few at goes = record { from = from; to = to; instance = instance; some = some; few = few }
own_at most u (Collecting c) from to instance some few at goes = record { from = from; to = to; instance = instance; some = (at c refl).0; few = (at c refl).1 }
own_at most u (Over name) from to instance some few at goes = absurd (cc)

no_name : (o : Option ℕ) → is_some o ≡ false → o ≡ None
no_name None h = refl
no_name (Some n) h = absurd (cc)

own : (most : ℕ) (w : Naming) (r : List SeatCall) → IsKnown most w r → (p : ℕ) (v : Participant Namer) → w.self p ≡ Some v → v.ended ≡ false → IsOwnAccess namer_steps names_law most (next_access v.program)
own most w r h p v here goes =
    let t = tied_always most w r h.after in
    let g = t.agrees (ids_of w) (own_ids w) in
    let is = ap (option_map (λ (x : Participant Namer). x.program)) here in
    let st = g.stands p v.program is in
    let instance = instance_of most (ids_of w) w.word (λ q. option_map (λ (x : Participant Namer). x.program) (w.self q)) g p v.program is in
    let seat = st.own in
    let some = st.some in
    let few = st.few in
    own_at most v.program (phase_of v.program) st.from st.to instance (omega arith) (omega arith)
    (λ c e. (
      collect_from most (ids_of w) (members_of g.rows v.program.level v.program.first) (g.rows v.program.level p) v.program (phase_of v.program) st.at c e,
      collect_low most (ids_of w) (members_of g.rows v.program.level v.program.first) (g.rows v.program.level p) v.program (phase_of v.program) st.at c e,
    ))
    (no_name (name_at (phase_of v.program)) (sym (t.ended p v here) ∙ goes))

pub names_sound : IsSound namer_steps names_law
names_sound = record {
  after = λ most w r h. h.after;
  fresh = λ most may. record {
    holds = record { may = may; after = after_none naming most may };
    blank = λ x i. refl;
    nobody = λ q. refl;
    unreported = λ q. refl;
    unmoved = λ q. refl;
    unbegun = refl;
  };
  takes = takes;
  few = λ most w r h p. at_most most w r h.after p;
  tells = λ most p i j one other alike. alike;
  begins = λ most p identity some low may begins. record { from = may.some; to = omega arith; instance = record { up = λ _. omega arith; down_from = λ z. absurd (omega arith); down_to = λ z. absurd (omega arith) }; some = some; few = low };
  own = own;
  within = within;
  apart = apart;
  some = some_cells;
  small = λ most may. (let few = few_cells most may.few in omega arith);
  bounded = λ most may. (let few = may.few in let l = mul-le most (most + 1) 64 65 (omega arith) (omega arith) in omega arith);
}
