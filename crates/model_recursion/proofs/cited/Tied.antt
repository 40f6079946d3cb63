-- seats and words are tied to the calls that led to them, and the law follows
use Rattle.std.proofs.Common.{◌≡◌, ℕ, suc, ◌+◌, ◌-◌, ◌*◌, ◌<◌, ◌≤◌, inl, inr, Bool, true, false, ◌==◌, ◌||◌, nat_lt, is_some, IsSome, List, [], ◌∷◌, ◌++◌, Option, Some, None, Result, Ok, Err, option_map, refl, sym, ap, subst, ◌∙◌, arith, if◌then◌else◌, ne_eqb}
use Rattle.std.proofs.Math.Path.{fun_ext}
use Rattle.std.proofs.lemmas.Bool.{cases_Bool}
use Rattle.std.proofs.lemmas.Bool.Decides.{eqb_tells, Decides-eqb, nat_tests}
use Rattle.std.proofs.lemmas.List.{map-append}
use Rattle.std.proofs.lemmas.Nat.{mul-le}
use Rattle.model_steps.specs.SetAt.{set_at}
use Rattle.model_steps.specs.Count.{count_to}
use Rattle.model_steps.specs.Distinct.{AreDistinct}
use Rattle.model_steps.specs.Due as due
use Rattle.model_steps.specs.Due.{EndsOnce, begins, has_ended, step_due}
use Rattle.model_steps.specs.Machine.{Reaches, IsProved}
use Rattle.model_steps.specs.Calls.{Call, outcome_of, outcome_by, outcome_in, steps_of, steps_by, begun_in, begun_by, first_of}
use Rattle.model_steps.specs.Calls.Call.{Stepped}
use Rattle.model_steps.specs.Note.{ends}
use Rattle.model_steps.specs.Participant.{beginner}
use Rattle.model_steps.specs.World.{done_unless}
use Rattle.model_steps.specs.declared.participant.Participant.{Participant}
use Rattle.model_steps.specs.declared.refusal.Refusal.{Refusal}
use Rattle.model_steps.specs.declared.refusal.Refusal.TheVariants.{ZeroIdentity, AlreadyBegun, Finished, OutOfRange}
use Rattle.model_steps.proofs.cited.CountLemmas.{count_more, count_none, count_to-mono}
use Rattle.model_steps.proofs.cited.DueLemmas.{ended_with_outcome, has_begun-push}
use Rattle.model_steps.proofs.cited.MachineLemmas.{always_by, after_splits, machine_proved}
use Rattle.model_steps.proofs.cited.SetAtLemmas.{set_at-cases, set_at-same, set_at-other, set_at-map}
use Rattle.model_steps.proofs.cited.WorldKeeps.{steps_of-push, begun_in-push, outcome_of-push, first_of-none}
use Rattle.model_recursion.specs.Spot.{Spot, has_written, is_in}
use Rattle.model_recursion.specs.Spot.Fate.{Named}
use Rattle.model_recursion.specs.Ranges.{IsLast}
use Rattle.model_recursion.specs.Levels.{HasName, size}
use Rattle.model_recursion.specs.Invariant.{Stands, StandsAt, IsConsistent, members_of}
use Rattle.model_recursion.specs.Calls.{SeatCall, call_of, calls_of, begin_due, IsRefusedAsDue, RefusesAsDue}
use Rattle.model_recursion.specs.Calls.SeatCall.{Begin, Step}
use Rattle.model_recursion.specs.Law.{NamingSpec}
use Rattle.model_recursion.specs.Program.{namer_of, next_access, namer_after, namer_note, note_at, name_at, accesses_at, accesses_of, after_phase, value_in, decided, surveyed, is_open, Phase, phase_of}
use Rattle.model_recursion.specs.Machine.{Naming, fresh, naming, next, IsReply, MayStart, Says, begin_refusal, step_refusal, moved, after_begin, after_step, got_by, words_after, program_in, name_by}
use Rattle.model_recursion.specs.declared.namer.Survey.{Survey}
use Rattle.model_recursion.specs.Program.Phase.{Entering, Collecting, Over}
use Rattle.model_recursion.specs.declared.namer.Namer.{Namer}
use Rattle.model_recursion.proofs.Levelling.{in_tells}
use Rattle.model_recursion.proofs.Descent.{one_name, name_within}
use Rattle.model_recursion.proofs.cited.Facts.{is_run}
use Rattle.model_recursion.proofs.Kept.{consistent_new, access_kept}
use Rattle.model_recursion.proofs.Entered.{begun}

abbrev pub accesses_by : Option (Participant Namer) → ℕ
accesses_by None = 0
accesses_by (Some v) = accesses_of v.program

abbrev pub has_begun : Naming → ℕ → Bool
has_begun w p = is_some (w.self p)

-- each seat that has begun has the identity that is its own here
abbrev pub AreIds : Naming → (ℕ → ℕ) → Type 0
AreIds w ids = (p : ℕ) (v : Participant Namer) → w.self p ≡ Some v → ids p ≡ v.identity

abbrev identity_by : Option (Participant Namer) → ℕ
identity_by None = 0
identity_by (Some v) = v.identity

-- the identities of the seats
abbrev pub ids_of : Naming → ℕ → ℕ
ids_of w p = identity_by (w.self p)

pub own_ids : (w : Naming) → AreIds w (ids_of w)
own_ids w p v h = ap identity_by h

-- The words and the seats agree, whatever identities the seats have that have not begun. The calls show who has begun, what each
-- seat was told, and how many steps it made
pub record IsTied (most : ℕ) (w : Naming) (r : List SeatCall) : Type 0 where
  pub may : MayStart most
  pub most_is : w.most ≡ most
  pub agrees : (ids : ℕ → ℕ) → AreIds w ids → IsConsistent most ids w.word (program_in w)
  pub begun_is : begun_in (calls_of r) ≡ count_to (has_begun w) (suc most)
  pub known : (p : ℕ) → due.has_begun p (calls_of r) ≡ has_begun w p
  pub ended : (p : ℕ) (v : Participant Namer) → w.self p ≡ Some v → v.ended ≡ is_some (name_at (phase_of v.program))
  pub outcomes : (p : ℕ) → outcome_of p (calls_of r) ≡ name_by (w.self p)
  pub steps : (p : ℕ) → steps_of p (calls_of r) ≤ accesses_by (w.self p)

tied_new : (most : ℕ) → MayStart most → IsTied most (fresh most) []
tied_new most may = record {
  may = may;
  most_is = refl;
  agrees = λ ids are. consistent_new most ids may.few;
  begun_is = sym (count_none (suc most));
  known = λ p. refl;
  ended = λ p v h. absurd (cc);
  outcomes = λ p. refl;
  steps = λ p. omega arith;
}

-- one call more
module _ (r : List SeatCall) (h : SeatCall) where
  push : calls_of (r ++ h ∷ []) ≡ calls_of r ++ call_of h ∷ []
  push = map-append call_of r (h ∷ [])

  pub steps_more : (p : ℕ) → steps_of p (calls_of (r ++ h ∷ [])) ≡ steps_of p (calls_of r) + steps_by p (call_of h)
  steps_more p = ap (steps_of p) push ∙ steps_of-push p (calls_of r) (call_of h)

  pub begun_more : begun_in (calls_of (r ++ h ∷ [])) ≡ begun_in (calls_of r) + begun_by (call_of h)
  begun_more = ap begun_in push ∙ begun_in-push (calls_of r) (call_of h)

  pub outcome_more : (p : ℕ) → outcome_of p (calls_of (r ++ h ∷ [])) ≡ first_of (outcome_of p (calls_of r)) (outcome_by p (call_of h))
  outcome_more p = ap (outcome_of p) push ∙ outcome_of-push p (calls_of r) (call_of h)

  known_more : (p : ℕ) → due.has_begun p (calls_of (r ++ h ∷ [])) ≡ (due.has_begun p (calls_of r) || begins p (call_of h))
  known_more p = ap (due.has_begun p) push ∙ has_begun-push p (calls_of r) (call_of h)

or_false : (b : Bool) → (b || false) ≡ b
or_false true = refl
or_false false = refl

-- a refused call changes nothing
tied_refused : (most : ℕ) (w : Naming) (r : List SeatCall) (h : SeatCall) → ((p : ℕ) → steps_by p (call_of h) ≡ 0) → ((p : ℕ) → outcome_by p (call_of h) ≡ None) → begun_by (call_of h) ≡ 0 → ((p : ℕ) → begins p (call_of h) ≡ false) → IsTied most w r → IsTied most w (r ++ h ∷ [])
tied_refused most w r h steps outcomes begun begins_none t = record {
  may = t.may;
  most_is = t.most_is;
  agrees = t.agrees;
  begun_is = let pushed = begun_more r h in let before = t.begun_is in omega arith;
  known = λ p. known_more r h p ∙ ap (λ (b : Bool). due.has_begun p (calls_of r) || b) (begins_none p) ∙ or_false (due.has_begun p (calls_of r)) ∙ t.known p;
  ended = t.ended;
  outcomes = λ p. outcome_more r h p ∙ ap (first_of (outcome_of p (calls_of r))) (outcomes p) ∙ first_of-none (outcome_of p (calls_of r)) ∙ t.outcomes p;
  steps = λ p. (let pushed = steps_more r h p in let none = steps p in let before = t.steps p in omega arith);
}

-- a seat may begin for this identity
record IsLetIn (w : Naming) (p identity : ℕ) : Type 0 where
  some : 1 ≤ p
  few : p ≤ w.most
  some_id : 1 ≤ identity
  absent : w.self p ≡ None

let_in : (w : Naming) (p identity : ℕ) → begin_refusal w p identity ≡ None → IsLetIn w p identity
let_in w p identity h = elim (cases_Bool ((p == 0) || nat_lt w.most p)) [
  | inl e ↦ absurd (let out : Some OutOfRange ≡ None = rw e at h in cc)
  | inr e ↦
      let h1 : (if identity == 0 then Some ZeroIdentity else if is_some (w.self p) then Some AlreadyBegun else None) ≡ None = rw e at h in
      elim (cases_Bool (identity == 0)) [
        | inl f ↦ absurd (let out : Some ZeroIdentity ≡ None = rw f at h1 in cc)
        | inr f ↦
            let h2 : (if is_some (w.self p) then Some AlreadyBegun else None) ≡ None = rw f at h1 in
            record { some = grind (arith, nat_tests); few = grind (arith, nat_tests); some_id = grind (arith, nat_tests); absent = absent_at (w.self p) h2 }
      ]
]
  where
    absent_at : (o : Option (Participant Namer)) → (if is_some o then Some AlreadyBegun else None) ≡ None → o ≡ None
    absent_at None e = refl
    absent_at (Some v) e = absurd (cc)

-- a seat begins
tied_begun : (most : ℕ) (w : Naming) (r : List SeatCall) (p identity : ℕ) → IsLetIn w p identity → IsTied most w r → IsTied most (after_begin w p identity) (r ++ Begin p identity (Ok tt) ∷ [])
tied_begun most w r p identity in_ t =
    let call : SeatCall = Begin p identity (Ok tt) in
    let none = in_.absent in
    let few = in_.few in
    let b : Participant Namer = beginner identity (namer_of w.most p identity) in
    let programs : program_in (after_begin w p identity) ≡ set_at (program_in w) p (Some (namer_of w.most p identity)) = fun_ext (λ q. set_at-map (option_map (λ v. v.program)) w.self p (Some b) q) in
    let begins_is : has_begun (after_begin w p identity) ≡ set_at (has_begun w) p true = fun_ext (λ q. set_at-map is_some w.self p (Some b) q) in
    let most_is = t.most_is in
    record {
      may = t.may;
      most_is = t.most_is;
      agrees = λ ids are.
          let own : ids p ≡ identity = are p b (set_at-same w.self p (Some b)) in
          let before : AreIds w ids = (λ q v h. are q v (set_at-other w.self p (Some b) q (λ e. (let gone : w.self q ≡ None = ap w.self e ∙ none in cc)) ∙ h)) in
          let some_id = in_.some_id in
          subst (IsConsistent most ids w.word) (sym programs)
          (subst (λ (i : ℕ). IsConsistent most ids w.word (set_at (program_in w) p (Some (namer_of w.most p i)))) own
          (subst (λ (n : ℕ). IsConsistent most ids w.word (set_at (program_in w) p (Some (namer_of n p (ids p))))) (sym most_is)
          (begun most ids w.word (program_in w) (t.agrees ids before) p (ap (option_map (λ v. v.program)) none) in_.some (omega arith) (omega arith))));
      begun_is =
          let pushed = begun_more r call in
          let before = t.begun_is in
          let one = count_more (has_begun w) p (suc most) (ap is_some none) (omega arith) in
          let all : count_to (has_begun (after_begin w p identity)) (suc most) ≡ count_to (set_at (has_begun w) p true) (suc most) = ap (λ (f : ℕ → Bool). count_to f (suc most)) begins_is in
          omega arith;
      known = λ q. known_more r call q ∙ set_at-cases w.self p (Some b) (λ o. (due.has_begun q (calls_of r) || (p == q)) ≡ is_some o) q
          (λ e. (let own : (p == q) ≡ true = (Decides-eqb p q).1 (sym e) in let was = t.known q in let out : has_begun w q ≡ false = ap (λ (i : ℕ). is_some (w.self i)) e ∙ ap is_some none in rw (was, out, own) refl))
          (λ n. (let other : (p == q) ≡ false = ne_eqb p q (λ e. n (sym e)) in rw other (or_false (due.has_begun q (calls_of r)) ∙ t.known q)));
      ended = λ q v. set_at-cases w.self p (Some b) (λ o. o ≡ Some v → v.ended ≡ is_some (name_at (phase_of v.program))) q
          (λ e h. let own : b ≡ v = cc in subst (λ (x : Participant Namer). x.ended ≡ is_some (name_at (phase_of x.program))) own refl)
          (λ _ h. t.ended q v h);
      outcomes = λ q. outcome_more r call q ∙ first_of-none (outcome_of q (calls_of r)) ∙ t.outcomes q ∙ set_at-cases w.self p (Some b) (λ o. name_by (w.self q) ≡ name_by o) q (λ e. ap (λ (i : ℕ). name_by (w.self i)) e ∙ ap name_by none) (λ _. refl);
      steps = λ q.
          let pushed = steps_more r call q in
          let before = t.steps q in
          let same : accesses_by (w.self q) ≤ accesses_by (set_at w.self p (Some b) q) =
          set_at-cases w.self p (Some b) (λ o. accesses_by (w.self q) ≤ accesses_by o) q (λ e. let zero_is : accesses_by (w.self q) ≡ 0 = ap (λ (i : ℕ). accesses_by (w.self i)) e ∙ ap accesses_by none in omega arith) (λ _. omega arith) in
          omega arith;
    }

-- one access more
next_level : (most level : ℕ) → 1 ≤ level → level ≤ most → (most - (level - 1)) * (most + 1) ≡ (most - level) * (most + 1) + (most + 1)
next_level most level from to = let e : most - (level - 1) ≡ (most - level) + 1 = omega arith in rw e (omega arith)

one_decided : (u : Namer) (c : Survey) → 1 ≤ u.level → u.level ≤ u.most → accesses_of (decided u c) ≡ (u.most - u.level) * (u.most + 1) + (u.most + 1)
one_decided u c from to = elim (cases_Bool (nat_lt c.seen u.level)) [
  | inl e ↦ rw e (next_level u.most u.level from to)
  | inr e ↦ elim (cases_Bool c.greater) [ inl g ↦ rw (e, g) (next_level u.most u.level from to) | inr g ↦ rw (e, g) refl ]
]

one_more : (u : Namer) (phase : Phase) (v : ℕ) → phase_of u ≡ phase → 1 ≤ u.level → u.level ≤ u.most → u.most ≤ 64 → name_at phase ≡ None → ((c : Survey) → phase ≡ Collecting c → c.at ≤ u.most) → accesses_at u phase + 1 ≤ accesses_of (after_phase u phase v)
one_more u Entering v e from to few goes within = omega arith
one_more u (Collecting c) v e from to few goes within =
    let to_c = within c refl in
    elim (cases_Bool (is_open u (surveyed u c v))) [
      | inl open_ ↦ rw open_ (omega arith)
      | inr closed ↦ let all = one_decided u (surveyed u c v) from to in rw closed (omega arith)
    ]
one_more u (Over name) v e from to few goes within = absurd (cc)

ends_as_named : (s : Phase) → ends (note_at s) ≡ is_some (name_at s)
ends_as_named Entering = refl
ends_as_named (Collecting c) = refl
ends_as_named (Over name) = refl

outcome_as_named : (s : Phase) → outcome_in (note_at s) ≡ name_at s
outcome_as_named Entering = refl
outcome_as_named (Collecting c) = refl
outcome_as_named (Over name) = refl

no_name : (o : Option ℕ) → is_some o ≡ false → o ≡ None
no_name None h = refl
no_name (Some n) h = absurd (cc)

pub collect_low : (m : ℕ) (ids : ℕ → ℕ) (there : ℕ → Bool) (s : Spot) (u : Namer) (phase : Phase) → StandsAt m ids there s u phase → (c : Survey) → phase ≡ Collecting c → c.at ≤ m
collect_low m ids there s u Entering h c e = absurd (cc)
collect_low m ids there s u (Collecting d) h c e = let same : d ≡ c = cc in subst (λ (i : Survey). i.at ≤ m) same h.2.to
collect_low m ids there s u (Over name) h c e = absurd (cc)

pub collect_from : (m : ℕ) (ids : ℕ → ℕ) (there : ℕ → Bool) (s : Spot) (u : Namer) (phase : Phase) → StandsAt m ids there s u phase → (c : Survey) → phase ≡ Collecting c → 1 ≤ c.at
collect_from m ids there s u Entering h c e = absurd (cc)
collect_from m ids there s u (Collecting d) h c e = let same : d ≡ c = cc in subst (λ (i : Survey). 1 ≤ i.at) same h.2.from
collect_from m ids there s u (Over name) h c e = absurd (cc)

pub goes_on : (v : Participant Namer) → step_refusal (Some v) ≡ None → v.ended ≡ false
goes_on v h = elim (cases_Bool v.ended) [ inl e ↦ absurd (let out : Some Finished ≡ None = rw e at h in cc) | inr e ↦ e ]

tied_step : (most : ℕ) (w : Naming) (r : List SeatCall) (p : ℕ) (v : Participant Namer) (here : w.self p ≡ Some v) → v.ended ≡ false → IsTied most w r → IsTied most (after_step w p (Some v)) (r ++ Step p (Ok (outcome_in (namer_note v.program (got_by w v.program)))) ∷ [])
tied_step most w r p v here goes t =
    let u : Namer = v.program in
    let got = got_by w u in
    let call : SeatCall = Step p (Ok (outcome_in (namer_note u got))) in
    let new : Participant Namer = moved v got in
    let is : program_in w p ≡ Some u = ap (option_map (λ x. x.program)) here in
    let g = t.agrees (ids_of w) (own_ids w) in
    let st : Stands most (ids_of w) g.rows p u = g.stands p u is in
    let most_is = st.most in
    let from = st.from in
    let to = st.to in
    let few = t.may.few in
    let on : name_at (phase_of u) ≡ None = no_name (name_at (phase_of u)) (sym (t.ended p v here) ∙ goes) in
    let programs : program_in (after_step w p (Some v)) ≡ set_at (program_in w) p (Some (namer_after u got)) = fun_ext (λ q. set_at-map (option_map (λ x. x.program)) w.self p (Some new) q) in
    let begins_is : (q : ℕ) → is_some (set_at w.self p (Some new) q) ≡ has_begun w q = (λ q. set_at-cases w.self p (Some new) (λ o. is_some o ≡ is_some (w.self q)) q (λ e. sym (ap (λ (i : ℕ). is_some (w.self i)) e ∙ ap is_some here)) (λ _. refl)) in
    record {
      may = t.may;
      most_is = t.most_is;
      agrees = λ ids are.
          let before : AreIds w ids = (λ q x h. elim (eqb_tells q p) [
            | inl e ↦ (let own : v ≡ x = (let k : Some v ≡ Some x = sym here ∙ ap w.self (sym e.1) ∙ h in cc) in ap ids e.1 ∙ are p new (set_at-same w.self p (Some new)) ∙ ap (λ (y : Participant Namer). y.identity) own)
            | inr n ↦ are q x (set_at-other w.self p (Some new) q n.1 ∙ h)
          ]) in
          subst (IsConsistent most ids (words_after w.word (next_access u))) (sym programs) (access_kept most ids w.word (program_in w) (t.agrees ids before) p u is on);
      begun_is = (let pushed = begun_more r call in let before = t.begun_is in let all : count_to (has_begun (after_step w p (Some v))) (suc most) ≡ count_to (has_begun w) (suc most) = ap (λ (f : ℕ → Bool). count_to f (suc most)) (fun_ext begins_is) in omega arith);
      known = λ q. known_more r call q ∙ or_false (due.has_begun q (calls_of r)) ∙ t.known q ∙ sym (begins_is q);
      ended = λ q x. set_at-cases w.self p (Some new) (λ o. o ≡ Some x → x.ended ≡ is_some (name_at (phase_of x.program))) q
          (λ e h. let own : new ≡ x = cc in subst (λ (y : Participant Namer). y.ended ≡ is_some (name_at (phase_of y.program))) own (ends_as_named (phase_of (namer_after u got))))
          (λ _ h. t.ended q x h);
      outcomes = λ q. outcome_more r call q ∙ set_at-cases w.self p (Some new) (λ o. first_of (outcome_of q (calls_of r)) (outcome_by q (call_of call)) ≡ name_by o) q
          (λ e.
          let none : outcome_of q (calls_of r) ≡ None = t.outcomes q ∙ ap (λ (i : ℕ). name_by (w.self i)) e ∙ ap name_by here ∙ on in
          let own : outcome_by q (call_of call) ≡ outcome_in (namer_note u got) = ap (λ (i : ℕ). outcome_by i (call_of call)) e ∙ (let b = (Decides-eqb p p).1 refl in rw b refl) in
          rw (none, own) (outcome_as_named (phase_of (namer_after u got))))
          (λ n.
          let other : outcome_by q (call_of call) ≡ None = (let b = ne_eqb p q (λ e. n (sym e)) in rw b refl) in
          rw other (first_of-none (outcome_of q (calls_of r)) ∙ t.outcomes q));
      steps = λ q. (let pushed = steps_more r call q in let before = t.steps q in set_at-cases w.self p (Some new) (λ o. steps_of q (calls_of (r ++ call ∷ [])) ≤ accesses_by o) q
          (λ e.
          let one : steps_by q (call_of call) ≡ 1 = ap (λ (i : ℕ). steps_by i (call_of call)) e ∙ (let b = (Decides-eqb p p).1 refl in rw b refl) in
          let made : accesses_by (w.self q) ≡ accesses_of u = ap (λ (i : ℕ). accesses_by (w.self i)) e ∙ ap accesses_by here in
          let more : accesses_of u + 1 ≤ accesses_of (namer_after u got) = one_more u (phase_of u) (value_in got) refl from (omega arith) (omega arith) on (λ c h. (let low = collect_low most (ids_of w) (members_of g.rows u.level u.first) (g.rows u.level p) u (phase_of u) st.at c h in omega arith)) in
          omega arith)
          (λ n.
          let none : steps_by q (call_of call) ≡ 0 = (let b = ne_eqb p q (λ e. n (sym e)) in rw b refl) in
          omega arith));
    }

tied_next : (most : ℕ) (w : Naming) (r : List SeatCall) (h : SeatCall) → IsTied most w r → IsReply w h → IsTied most (next w h) (r ++ h ∷ [])
tied_next most w r (Begin p identity reply) t is = subst (λ (x : Result (Unit {0}) Refusal). IsTied most (next w (Begin p identity x)) (r ++ Begin p identity x ∷ [])) (sym is)
    (elim (begin_refusal w p identity) as (λ o. begin_refusal w p identity ≡ o → IsTied most (next w (Begin p identity (done_unless o))) (r ++ Begin p identity (done_unless o) ∷ [])) [
      | None ↦ λ e. tied_begun most w r p identity (let_in w p identity e) t
      | Some why ↦ λ e. tied_refused most w r (Begin p identity (Err why)) (λ _. refl) (λ _. refl) refl (λ _. refl) t
    ] refl)
tied_next most w r (Step p (Ok said)) t is =
    elim (w.self p) as (λ o. w.self p ≡ o → (step_refusal o ≡ None) × Says w o said → IsTied most (after_step w p o) (r ++ Step p (Ok said) ∷ [])) [
      | None ↦ λ e k. absurd k.1
      | Some v ↦ λ e k. subst (λ (o : Option ℕ). IsTied most (after_step w p (Some v)) (r ++ Step p (Ok o) ∷ [])) (sym k.1) (tied_step most w r p v e (goes_on v k.0) t)
    ] refl is
tied_next most w r (Step p (Err why)) t is = tied_refused most w r (Step p (Err why)) (λ _. refl) (λ _. refl) refl (λ _. refl) t

pub tied_always : (most : ℕ) (w : Naming) (r : List SeatCall) → Reaches naming most w r → IsTied most w r
tied_always most w r a = always_by naming (IsTied most) (tied_next most) most (tied_new most a.started) w r a

module _ (most : ℕ) (w : Naming) (r : List SeatCall) (a : Reaches naming most w r) where
  t : IsTied most w r
  t = tied_always most w r a

  abbrev ids : ℕ → ℕ
  ids = ids_of w

  g : IsConsistent most ids w.word (program_in w)
  g = t.agrees ids (own_ids w)

  -- a seat whose program has ended has a name
  found : (p name : ℕ) → outcome_of p (calls_of r) ≡ Some name → (v : Participant Namer) × (w.self p ≡ Some v) × (phase_of v.program ≡ Over name)
  found p name h = elim (w.self p) as (λ o. w.self p ≡ o → name_by o ≡ Some name → (v : Participant Namer) × (w.self p ≡ Some v) × (phase_of v.program ≡ Over name)) [
    | None ↦ λ _ k. absurd (cc)
    | Some v ↦ λ e k. (v, e, over (phase_of v.program) k)
  ] refl (sym (t.outcomes p) ∙ h)
    where
      over : (s : Phase) → name_at s ≡ Some name → s ≡ Over name
      over Entering k = absurd (cc)
      over (Collecting c) k = absurd (cc)
      over (Over n) k = ap Over (let same : Some n ≡ Some name = k in cc)

  has_name : (p name : ℕ) → outcome_of p (calls_of r) ≡ Some name → (k : ℕ) × (k < most) × HasName k g.rows p name
  has_name p name h =
      let f = found p name h in
      let st = g.stands p f.0.program (ap (option_map (λ v. v.program)) f.1) in
      let from = st.from in
      let to = st.to in
      let at : StandsAt most ids (members_of g.rows f.0.program.level f.0.program.first) (g.rows f.0.program.level p) f.0.program (Over name) =
      subst (λ (s : Phase). StandsAt most ids (members_of g.rows f.0.program.level f.0.program.first) (g.rows f.0.program.level p) f.0.program s) f.2 st.at in
      let up : f.0.program.level ≡ suc (f.0.program.level - 1) = omega arith in (
        f.0.program.level - 1,
        (omega arith),
        record {
          named = subst (λ (y : ℕ). (g.rows y p).fate ≡ Named) up at.0;
          last = subst (λ (y : ℕ). IsLast (f.0.program.level - 1) (g.rows y p).first name) up (subst (λ (i : ℕ). IsLast (f.0.program.level - 1) i name) (sym at.1) (at.2 (f.0.program.level - 1) up));
        },
      )

  -- those at the top have begun
  top_few : size (suc most) (g.rows most) 1 ≤ begun_in (calls_of r)
  unfolding size
  top_few =
      let begun = t.begun_is in
      let fewer = count_to-mono (λ q. is_in 1 (g.rows most q)) (has_begun w) (suc most) (λ q _ h. elim (w.self q) as (λ o. w.self q ≡ o → is_some o ≡ true) [
        | None ↦ λ e. absurd (let gone : has_written (g.rows most q).fate ≡ false = ap has_written (g.absent q (ap (option_map (λ v. v.program)) e) most) in let some = (in_tells 1 (g.rows most q) h).0 in cc)
        | Some v ↦ λ _. refl
      ] refl) in
      omega arith

  pub distinct : AreDistinct (λ p. outcome_of p (calls_of r))
  distinct p q name h k =
      let a1 = has_name p name h in
      let b1 = has_name q name k in
      one_name (suc most) most g.rows (is_run most ids w.word (program_in w) g 0) a1.0 b1.0 p q name a1.1 b1.1 a1.2 b1.2

  pub within : (p name : ℕ) → outcome_of p (calls_of r) ≡ Some name → (1 ≤ name) × (name + 1 ≤ 2 * begun_in (calls_of r))
  within p name h =
      let n = has_name p name h in
      let b = name_within (suc most) most g.rows (is_run most ids w.word (program_in w) g 0) n.0 p name n.1 n.2 in
      let few = top_few in
      let high = b.1 in
      (b.0, omega arith)

  -- so many accesses, and fewer where it goes on
  bound_at : (u : Namer) (phase : Phase) → u.most ≡ most → 1 ≤ u.level → u.level ≤ most → ((c : Survey) → phase ≡ Collecting c → c.at ≤ most) → (accesses_at u phase ≤ most * (most + 1)) × ((name_at phase ≡ None) → accesses_at u phase < most * (most + 1))
  bound_at u phase most_is from to low =
      let full : (u.most - u.level) * (u.most + 1) + (u.most + 1) ≤ most * (most + 1) =
      (let e : (u.most - u.level) * (u.most + 1) + (u.most + 1) ≡ (u.most - u.level + 1) * (u.most + 1) = omega arith in let l = mul-le (u.most - u.level + 1) (u.most + 1) most (most + 1) (omega arith) (omega arith) in omega arith) in
      elim phase as (λ s. ((c : Survey) → s ≡ Collecting c → c.at ≤ most) → (accesses_at u s ≤ most * (most + 1)) × ((name_at s ≡ None) → accesses_at u s < most * (most + 1))) [
        | Entering ↦ λ _. ((omega arith), λ _. omega arith)
        | Collecting c ↦ λ l. (let at = l c refl in ((omega arith), λ _. omega arith))
        | Over name ↦ λ _. ((omega arith), λ k. absurd (cc))
      ] low

  bounds : (p : ℕ) (v : Participant Namer) → w.self p ≡ Some v → (accesses_of v.program ≤ most * (most + 1)) × ((name_at (phase_of v.program) ≡ None) → accesses_of v.program < most * (most + 1))
  bounds p v e =
      let st = g.stands p v.program (ap (option_map (λ x. x.program)) e) in
      bound_at v.program (phase_of v.program) st.most st.from st.to (λ c h. collect_low most ids (members_of g.rows v.program.level v.program.first) (g.rows v.program.level p) v.program (phase_of v.program) st.at c h)

  pub at_most : (p : ℕ) → steps_of p (calls_of r) ≤ most * (most + 1)
  at_most p =
      let made = t.steps p in
      let all : accesses_by (w.self p) ≤ most * (most + 1) = elim (w.self p) as (λ o. w.self p ≡ o → accesses_by o ≤ most * (most + 1)) [ None ↦ λ _. omega arith | Some v ↦ λ e. (bounds p v e).0 ] refl in
      omega arith

  last_names : (p : ℕ) → 0 < steps_of p (calls_of r) → steps_of p (calls_of r) ≡ most * (most + 1) → IsSome (outcome_of p (calls_of r))
  last_names p some all = rw (t.outcomes p) (elim (w.self p) as (λ o. w.self p ≡ o → steps_of p (calls_of r) ≤ accesses_by o → IsSome (name_by o)) [
    | None ↦ λ _ made. absurd (omega arith)
    | Some v ↦ λ e made. elim (name_at (phase_of v.program)) as (λ o. name_at (phase_of v.program) ≡ o → IsSome o) [
      | None ↦ λ on. absurd (let less = (bounds p v e).1 on in omega arith)
      | Some n ↦ λ _. refl
    ] refl
  ] refl (t.steps p))

  -- a program has ended that has returned its name
  has_ended_is : (p : ℕ) (v : Participant Namer) → w.self p ≡ Some v → has_ended is_some p (calls_of r) ≡ v.ended
  has_ended_is p v e = sym (ended_with_outcome p (calls_of r)) ∙ ap is_some (t.outcomes p ∙ ap name_by e) ∙ sym (t.ended p v e)

  -- a step is refused if and only if that is due
  pub step_refused : (p : ℕ) → step_refusal (w.self p) ≡ step_due is_some (calls_of r) p
  step_refused p = elim (w.self p) as (λ o. w.self p ≡ o → step_refusal o ≡ step_due is_some (calls_of r) p) [
    | None ↦ λ e. (let out : due.has_begun p (calls_of r) ≡ false = t.known p ∙ ap is_some e in rw out refl)
    | Some v ↦ λ e. (let there : due.has_begun p (calls_of r) ≡ true = t.known p ∙ ap is_some e in let over = has_ended_is p v e in rw (there, over) refl)
  ] refl

  pub begin_refused : (p identity : ℕ) → begin_refusal w p identity ≡ begin_due most r p identity
  begin_refused p identity = rw (t.most_is, sym (t.known p)) refl

  -- a call is refused if and only if that is due
  pub refused : (h : SeatCall) → IsReply w h → IsRefusedAsDue most r h
  refused (Begin p identity reply) is = is ∙ ap done_unless (begin_refused p identity)
  refused (Step p (Ok said)) is = sym (step_refused p) ∙ is.0
  refused (Step p (Err why)) is = sym (step_refused p) ∙ is

-- the call of a list of calls with no identities is one of the list
record IsCut (r : List SeatCall) (before : List (Call (Option ℕ))) (k : Call (Option ℕ)) : Type 0 where
  past : List SeatCall
  call : SeatCall
  rest : List SeatCall
  is : r ≡ past ++ call ∷ rest
  past_is : calls_of past ≡ before
  call_is : call_of call ≡ k

cut_at : (r : List SeatCall) (before : List (Call (Option ℕ))) (k : Call (Option ℕ)) (rest : List (Call (Option ℕ))) → calls_of r ≡ before ++ k ∷ rest → IsCut r before k
cut_at [] [] k rest e = absurd (cc)
cut_at [] (x ∷ before) k rest e = absurd (cc)
cut_at (h ∷ r) [] k rest e = record { past = []; call = h; rest = r; is = refl; past_is = refl; call_is = cc }
cut_at (h ∷ r) (x ∷ before) k rest e =
    let c = cut_at r before k rest (cc) in
    let first : call_of h ≡ x = cc in
    record { past = h ∷ c.past; call = c.call; rest = c.rest; is = ap (λ (l : List SeatCall). h ∷ l) c.is; past_is = (λ i. first i ∷ c.past_is i); call_is = c.call_is }

module _ (most : ℕ) (w : Naming) (r : List SeatCall) (a : Reaches naming most w r) where
  mid_of : (before : List SeatCall) (h : SeatCall) (rest : List SeatCall) → r ≡ before ++ h ∷ rest → (mid : Naming) × Reaches naming most mid before × IsReply mid h
  mid_of before h rest e = let cut = after_splits naming most w before (h ∷ rest) (subst (λ (l : List SeatCall). Reaches naming most w l) e a) in (cut.0, cut.1, cut.2.0)

  pub as_due : RefusesAsDue most r
  as_due before h rest e = let mid = mid_of before h rest e in refused most mid.0 before mid.1 h mid.2

  ends_once : EndsOnce is_some (calls_of r)
  ends_once before p said rest e =
      let cut = cut_at r before (Stepped p (Ok said)) rest e in
      let mid = mid_of cut.past cut.call cut.rest cut.is in
      not_ended mid.0 cut.past before mid.1 p said cut.call mid.2 cut.past_is cut.call_is
    where
      not_ended : (mid : Naming) (past : List SeatCall) (before : List (Call (Option ℕ))) → Reaches naming most mid past → (p : ℕ) (said : Option ℕ) (h : SeatCall) → IsReply mid h → calls_of past ≡ before → call_of h ≡ Stepped p (Ok said) → has_ended is_some p before ≡ false
      not_ended mid past before reached p said (Begin q identity reply) is past_is same = absurd (cc)
      not_ended mid past before reached p said (Step q (Err why)) is past_is same = absurd (cc)
      not_ended mid past before reached p said (Step q (Ok reply)) is past_is same =
          let one : q ≡ p = cc in
          subst (λ (i : ℕ). has_ended is_some i before ≡ false) one (subst (λ (l : List (Call (Option ℕ))). has_ended is_some q l ≡ false) past_is (elim (mid.self q) as (λ o. mid.self q ≡ o → step_refusal o ≡ None → has_ended is_some q (calls_of past) ≡ false) [
            | None ↦ λ e k. absurd (cc)
            | Some v ↦ λ e k. has_ended_is most mid past reached q v e ∙ goes_on v k
          ] refl is.0))

  pub law : NamingSpec most (calls_of r)
  law = record { distinct = distinct most w r a; within = within most w r a; at_most = at_most most w r a; last_names = last_names most w r a; ends_once = ends_once }

pub naming_proved : IsProved naming
naming_proved = machine_proved naming (λ w most r a. law most w r a) (λ w most r a. as_due most w r a)
