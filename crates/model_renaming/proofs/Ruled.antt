-- the proposals of a run of the object, in their order, are made by the rule
use Rattle.std.proofs.Common.{◌≡◌, ◌≢◌, ℕ, zero, suc, ◌+◌, ◌≤◌, ◌==◌, Bool, true, false, cond, List, [], ◌∷◌, length, ◌⊎◌, Option, Some, None, Ok, Err, is_some, nat_le, not, inl, inr, refl, sym, ap, subst, ◌∙◌, arith}
use Rattle.std.specs.List.{list_any}
use Rattle.model_renaming.proofs.Common.{eqb_tells, set_at, set_at-same, set_at-other, Call, Began, Stepped, Refusal, StepReply, Quiet, Placed, Proposed, Saw, Named, Spent, SnapBounds, Pace, InTime, paced, ToGo, ToPropose, ToLook, RenameTerms, RenameObject, Allows, after, new_object, next_proposal}
use Rattle.model_steps.specs.declared.refusal.Refusal.TheVariants.{ZeroIdentity, AlreadyBegun, Full, NotBegun, Finished, Spent as IsSpent}
use Rattle.model_renaming.specs.Pace.{Phase, new_pace, first_phase}
use Rattle.model_renaming.specs.Pace.Phase.{AtEnd}
use Rattle.model_renaming.specs.RenameObject.{no_begin, no_step, after_step, AllowsStep, ShowsConflict}
use Rattle.model_renaming.proofs.rounds.StepCases.{was_begun}
use Rattle.model_asked.specs.rounds.Rounds.{Proposals, IsSilent, IsSeen, IsFirst, IsChosen, AreByRule, made_by}

-- the proposals of an object, of which these are whose each is
abbrev pub proposals_by : (ℕ → ℕ) → RenameObject → Proposals
proposals_by whose o = record { whose = whose; moment = o.moment }

-- p may propose this next: 1 at first, and what the rule says by what it has seen since its last proposal
abbrev IsDue : Proposals → ℕ → ℕ → ℕ → Type 0
IsDue h last p n = ((h.moment last p ≡ None) × (n ≡ 1)) ⊎ ((k : IsSeen h last p) × (n ≡ next_proposal p k.view))

pub record IsRuled (o : RenameObject) (t : Pace) : Type 0 where
  pub whose : ℕ → ℕ
  pub rule : AreByRule (proposals_by whose o) o.last
  pub ids : List ℕ
  pub many : length ids ≡ o.many
  pub begun : (q : ℕ) → o.begun q ≡ true → list_any (λ u. q == u) ids ≡ true
  pub of : (i : ℕ) → 1 ≤ i → i ≤ o.last → o.begun (whose i) ≡ true
  pub counts : (q : ℕ) → o.count q ≡ made_by (proposals_by whose o) q o.last
  pub recent : (q : ℕ) → IsSilent (proposals_by whose o) q (o.since q) o.last
  pub unborn : (q : ℕ) → o.begun q ≡ false → o.moment o.last q ≡ None
  pub coming : (q : ℕ) → t.phase q ≡ ToGo → o.moment o.last q ≡ None
  pub due : (q n : ℕ) → t.phase q ≡ ToPropose n → IsDue (proposals_by whose o) o.last q n

pub ruled_fresh : IsRuled new_object new_pace
ruled_fresh = record {
  whose = λ i. 0;
  rule = record { nothing = λ q. refl; others = λ i q l. absurd (omega arith); rule = λ i l. absurd (omega arith) };
  ids = [];
  many = refl;
  begun = λ q e. absurd (cc);
  of = λ i a b. absurd (omega arith);
  counts = λ q. refl;
  recent = λ q i a b. absurd (omega arith);
  unborn = λ q e. refl;
  coming = λ q e. absurd (cc);
  due = λ q n e. absurd (cc);
}

-- a refusal that is not due
not_due : (b : Bool) (why : Refusal) (rest : Option Refusal) → cond b (Some why) rest ≡ None → (b ≡ false) × (rest ≡ None)
not_due true why rest e = absurd (cc)
not_due false why rest e = (refl, e)

-- who may begin has not begun
pub not_begun : (terms : RenameTerms) (o : RenameObject) (p : ℕ) → no_begin terms o p ≡ None → o.begun p ≡ false
not_begun terms o p e =
    let full : Option Refusal = cond (nat_le terms.most o.many) (Some Full) None in
    let a = not_due (p == 0) ZeroIdentity (cond (o.begun p) (Some AlreadyBegun) full) e in
    (not_due (o.begun p) AlreadyBegun full a.1).0

-- who may step has begun, and has neither a name nor used up its rounds
pub record MayStep (o : RenameObject) (p : ℕ) : Type 0 where
  pub begun : o.begun p ≡ true
  pub unnamed : is_some (o.name p) ≡ false
  pub unspent : o.spent p ≡ false

is_so : (b : Bool) → not b ≡ false → b ≡ true
is_so true e = refl
is_so false e = absurd (cc)

pub may_step : (o : RenameObject) (p : ℕ) → no_step o p ≡ None → MayStep o p
may_step o p e =
    let spent : Option Refusal = cond (o.spent p) (Some IsSpent) None in
    let named : Option Refusal = cond (is_some (o.name p)) (Some Finished) spent in
    let a = not_due (not (o.begun p)) NotBegun named e in
    let b = not_due (is_some (o.name p)) Finished spent a.1 in
    let c = not_due (o.spent p) IsSpent None b.1 in
    record { begun = is_so (o.begun p) a.0; unnamed = b.0; unspent = c.0 }

-- one more proposal
module _ (o : RenameObject) (t : Pace) (k : IsRuled o t) (p n : ℕ) (is_begun : o.begun p ≡ true) (phase : t.phase p ≡ ToPropose n) (bounds : SnapBounds) where
  abbrev o' : RenameObject
  o' = after_step o p (Proposed n)

  abbrev whose' : ℕ → ℕ
  whose' = set_at k.whose (o.last + 1) p

  abbrev h : Proposals
  h = proposals_by k.whose o

  abbrev h' : Proposals
  h' = proposals_by whose' o'

  old_moment : (i : ℕ) → i ≤ o.last → o'.moment i ≡ o.moment i
  old_moment i l = set_at-other o.moment (o.last + 1) (set_at (o.moment o.last) p (Some n)) i (omega arith)

  old_value : (i q : ℕ) → i ≤ o.last → o'.moment i q ≡ o.moment i q
  old_value i q l = ap (λ (f : ℕ → Option ℕ). f q) (old_moment i l)

  new_moment : (i : ℕ) → i ≡ o.last + 1 → o'.moment i ≡ set_at (o.moment o.last) p (Some n)
  new_moment i e = ap o'.moment e ∙ set_at-same o.moment (o.last + 1) (set_at (o.moment o.last) p (Some n))

  new_other : (i q : ℕ) → i ≡ o.last + 1 → q ≢ p → o'.moment i q ≡ o.moment o.last q
  new_other i q e other = ap (λ (f : ℕ → Option ℕ). f q) (new_moment i e) ∙ set_at-other (o.moment o.last) p (Some n) q other

  new_own : (i q : ℕ) → i ≡ o.last + 1 → q ≡ p → o'.moment i q ≡ Some n
  new_own i q e own = ap (λ (f : ℕ → Option ℕ). f q) (new_moment i e) ∙ ap (set_at (o.moment o.last) p (Some n)) own ∙ set_at-same (o.moment o.last) p (Some n)

  old_whose : (i : ℕ) → i ≤ o.last → whose' i ≡ k.whose i
  old_whose i l = set_at-other k.whose (o.last + 1) p i (omega arith)

  new_whose : (i : ℕ) → i ≡ o.last + 1 → whose' i ≡ p
  new_whose i e = ap whose' e ∙ set_at-same k.whose (o.last + 1) p

  silent_on : (q from to : ℕ) → to ≤ o.last → IsSilent h q from to → IsSilent h' q from to
  silent_on q from to l s i a b e = s i a b (sym (old_whose i (omega arith)) ∙ e)

  silent_more : (q from : ℕ) → q ≢ p → IsSilent h q from o.last → IsSilent h' q from (o.last + 1)
  silent_more q from other s i a b e = elim (eqb_tells i (o.last + 1)) [
    | inl f ↦ other (sym (sym (new_whose i f.1) ∙ e))
    | inr f ↦ let g = f.1 in s i a (omega arith) (sym (old_whose i (omega arith)) ∙ e)
  ]

  abbrev seen_by : (q i j : ℕ) (s : IsSeen h i q) → i ≤ o.last → i ≤ j → IsSilent h' q s.index j → IsSeen h' j q
  seen_by q i j s l m silent = record {
    view = s.view;
    index = s.index;
    earlier = (let a = s.earlier in omega arith);
    recent = silent;
    rising = s.rising;
    values = λ u. s.values u ∙ sym (old_value s.index u (let a = s.earlier in omega arith));
    number = s.number;
    own = old_value s.index q (let a = s.earlier in omega arith) ∙ s.own;
    other = s.other;
    not_own = s.not_own;
    contested = old_value s.index s.other (let a = s.earlier in omega arith) ∙ s.contested;
  }

  first_on : (i q : ℕ) → suc i ≤ o.last → IsFirst h i q → IsFirst h' i q
  first_on i q l f = record { none = old_value i q (omega arith) ∙ f.none; proposes = old_value (suc i) q l ∙ f.proposes }

  chosen_on : (i q : ℕ) → suc i ≤ o.last → IsChosen h i q → IsChosen h' i q
  chosen_on i q l c = record {
    seen = seen_by q i i c.seen (omega arith) (omega arith) (silent_on q c.seen.index i (omega arith) c.seen.recent);
    proposes = old_value (suc i) q l ∙ c.proposes;
  }

  -- the last one is
  last_is : (i : ℕ) → i ≡ o.last → IsFirst h' i p ⊎ IsChosen h' i p
  last_is i e = elim (k.due p n phase) [
    | inl d ↦ inl (record { none = old_value i p (omega arith) ∙ ap (λ j. o.moment j p) e ∙ d.0; proposes = new_own (suc i) p (omega arith) refl ∙ ap Some d.1 })
    | inr d ↦ inr (record {
      seen = seen_by p o.last i d.0 (omega arith) (omega arith) (silent_on p d.0.index i (omega arith) (λ j a b. d.0.recent j a (omega arith)));
      proposes = new_own (suc i) p (omega arith) refl ∙ ap Some d.1;
    })
  ]

  rule' : AreByRule h' (o.last + 1)
  rule' = record {
    nothing = λ q. old_value 0 q (omega arith) ∙ k.rule.nothing q;
    others = λ i q l other. elim (eqb_tells i o.last) [
      | inl e ↦ let f = e.1 in new_other (suc i) q (omega arith) (λ w. other (w ∙ sym (new_whose (suc i) (omega arith)))) ∙ ap (λ j. o.moment j q) (sym f) ∙ sym (old_value i q (omega arith))
      | inr e ↦ let f = e.1 in old_value (suc i) q (omega arith) ∙ k.rule.others i q (omega arith) (λ w. other (w ∙ sym (old_whose (suc i) (omega arith)))) ∙ sym (old_value i q (omega arith))
    ];
    rule = λ i l. elim (eqb_tells i o.last) [
      | inl e ↦ let f = e.1 in subst (λ u. IsFirst h' i u ⊎ IsChosen h' i u) (sym (new_whose (suc i) (omega arith))) (last_is i f)
      | inr e ↦ let f = e.1 in subst (λ u. IsFirst h' i u ⊎ IsChosen h' i u) (sym (old_whose (suc i) (omega arith))) (elim (k.rule.rule i (omega arith)) [
        | inl a ↦ inl (first_on i (k.whose (suc i)) (omega arith) a)
        | inr a ↦ inr (chosen_on i (k.whose (suc i)) (omega arith) a)
      ])
    ];
  }

  made_on : (q i : ℕ) → i ≤ o.last → made_by h' q i ≡ made_by h q i
  made_on q zero l = refl
  made_on q (suc i) l =
      let whom : (whose' (suc i) == q) ≡ (k.whose (suc i) == q) = ap (λ (u : ℕ). u == q) (old_whose (suc i) l) in
      ap (λ (b : Bool). cond b 1 0 + made_by h' q i) whom ∙ ap (λ (n : ℕ). cond (k.whose (suc i) == q) 1 0 + n) (made_on q i (omega arith))

  made_more : (q j : ℕ) → j ≡ suc o.last → made_by h' q j ≡ cond (p == q) 1 0 + made_by h q o.last
  made_more q j e =
      let whom : (whose' (suc o.last) == q) ≡ (p == q) = ap (λ (u : ℕ). u == q) (new_whose (suc o.last) (omega arith)) in
      ap (λ (n : ℕ). made_by h' q n) e ∙ (ap (λ (b : Bool). cond b 1 0 + made_by h' q o.last) whom ∙ ap (λ (n : ℕ). cond (p == q) 1 0 + n) (made_on q o.last (omega arith)))

  others_phase : (q : ℕ) → q ≢ p → set_at t.phase p ToLook q ≡ t.phase q
  others_phase q other = set_at-other t.phase p ToLook q other

  own_phase : (q : ℕ) → q ≡ p → set_at t.phase p ToLook q ≡ ToLook
  own_phase q own = ap (set_at t.phase p ToLook) own ∙ set_at-same t.phase p ToLook

  pub ruled_proposed : IsRuled o' (paced bounds t (Stepped p (Ok (Proposed n))))
  ruled_proposed = record {
    whose = whose';
    rule = rule';
    ids = k.ids;
    many = k.many;
    begun = k.begun;
    of = λ i a b. elim (eqb_tells i (o.last + 1)) [
      | inl e ↦ ap o.begun (new_whose i e.1) ∙ is_begun
      | inr e ↦ let f = e.1 in ap o.begun (old_whose i (omega arith)) ∙ k.of i a (omega arith)
    ];
    counts = λ q. elim (eqb_tells p q) [
      | inl e ↦ (let more : made_by h' q (o.last + 1) ≡ 1 + made_by h q o.last = made_more q (o.last + 1) (omega arith) ∙ ap (λ (b : Bool). cond b 1 0 + made_by h q o.last) e.0 in let own : o'.count q ≡ o.count p + 1 = ap o'.count (sym e.1) ∙ set_at-same o.count p (o.count p + 1) in let before : o.count p ≡ made_by h q o.last = ap o.count e.1 ∙ k.counts q in omega arith)
      | inr e ↦ (let more : made_by h' q (o.last + 1) ≡ 0 + made_by h q o.last = made_more q (o.last + 1) (omega arith) ∙ ap (λ (b : Bool). cond b 1 0 + made_by h q o.last) e.0 in let other : o'.count q ≡ o.count q = set_at-other o.count p (o.count p + 1) q (λ w. e.1 (sym w)) in let before = k.counts q in omega arith)
    ];
    recent = λ q. elim (eqb_tells q p) [
      | inl e ↦ λ i a b. absurd (let since : o'.since q ≡ o.last + 1 = ap o'.since e.1 ∙ set_at-same o.since p (o.last + 1) in omega arith)
      | inr e ↦ let since : o'.since q ≡ o.since q = set_at-other o.since p (o.last + 1) q e.1 in subst (λ j. IsSilent h' q j (o.last + 1)) (sym since) (silent_more q (o.since q) e.1 (k.recent q))
    ];
    unborn = λ q e. new_other (o.last + 1) q refl (λ w. (let no : true ≡ false = sym is_begun ∙ ap o.begun (sym w) ∙ e in cc)) ∙ k.unborn q e;
    coming = λ q e. elim (eqb_tells q p) [
      | inl w ↦ absurd (let no : ToLook ≡ ToGo = sym (own_phase q w.1) ∙ e in cc)
      | inr w ↦ new_other (o.last + 1) q refl w.1 ∙ k.coming q (sym (others_phase q w.1) ∙ e)
    ];
    due = λ q m e. elim (eqb_tells q p) [
      | inl w ↦ absurd (let no : ToLook ≡ ToPropose m = sym (own_phase q w.1) ∙ e in cc)
      | inr w ↦ elim (k.due q m (sym (others_phase q w.1) ∙ e)) [
        | inl d ↦ inl (new_other (o.last + 1) q refl w.1 ∙ d.0, d.1)
        | inr d ↦ inr (seen_by q o.last (o.last + 1) d.0 (omega arith) (omega arith) (silent_more q d.0.index w.1 d.0.recent), d.1)
      ]
    ];
  }

-- any call
module _ (terms : RenameTerms) (bounds : SnapBounds) where
  ruled_begun : (o : RenameObject) (t : Pace) (p : ℕ) → IsRuled o t → o.begun p ≡ false → IsRuled (after o (Began p (Ok tt))) (paced bounds t (Began p (Ok tt)))
  ruled_begun o t p k not = record {
    whose = k.whose;
    rule = k.rule;
    ids = p ∷ k.ids;
    many = (let m = k.many in omega arith);
    begun = λ q e. elim (eqb_tells q p) [
      | inl w ↦ rw w.0 refl
      | inr w ↦ rw w.0 (k.begun q (sym (set_at-other o.begun p true q w.1) ∙ e))
    ];
    of = λ i a b. elim (eqb_tells (k.whose i) p) [
      | inl w ↦ ap (set_at o.begun p true) w.1 ∙ set_at-same o.begun p true
      | inr w ↦ set_at-other o.begun p true (k.whose i) w.1 ∙ k.of i a b
    ];
    counts = k.counts;
    recent = k.recent;
    unborn = λ q e. elim (eqb_tells q p) [
      | inl w ↦ absurd (let no : true ≡ false = sym (ap (set_at o.begun p true) w.1 ∙ set_at-same o.begun p true) ∙ e in cc)
      | inr w ↦ k.unborn q (sym (set_at-other o.begun p true q w.1) ∙ e)
    ];
    coming = λ q e. elim (eqb_tells q p) [
      | inl w ↦ ap (o.moment o.last) w.1 ∙ k.unborn p not
      | inr w ↦ k.coming q (sym (set_at-other t.phase p (first_phase bounds) q w.1) ∙ e)
    ];
    due = λ q n e. elim (eqb_tells q p) [
      | inl w ↦ inl (ap (o.moment o.last) w.1 ∙ k.unborn p not, first_is n (sym (ap (set_at t.phase p (first_phase bounds)) w.1 ∙ set_at-same t.phase p (first_phase bounds)) ∙ e))
      | inr w ↦ k.due q n (sym (set_at-other t.phase p (first_phase bounds) q w.1) ∙ e)
    ];
  } where
    first_is : (n : ℕ) → first_phase bounds ≡ ToPropose n → n ≡ 1
    first_is n = elim (bounds.placing 1 == 0) as (λ b. cond b (ToPropose 1) ToGo ≡ ToPropose n → n ≡ 1) [ true ↦ λ e. cc | false ↦ λ e. absurd (cc) ]

  -- p turns to what it does next, with no proposal
  turns : (o : RenameObject) (t : Pace) (p : ℕ) → IsRuled o t → (phase : Phase) → (phase ≢ ToGo) → ((whose : ℕ → ℕ) → IsSilent (proposals_by whose o) p (o.since p) o.last → (n : ℕ) → phase ≡ ToPropose n → IsDue (proposals_by whose o) o.last p n) →
      (place name : ℕ → Option ℕ) (spent : ℕ → Bool) (steps : ℕ → ℕ) → IsRuled (record o { place = place; name = name; spent = spent }) (record t { phase = set_at t.phase p phase; steps = steps })
  turns o t p k phase not_first next place name spent steps = record {
    whose = k.whose;
    rule = k.rule;
    ids = k.ids;
    many = k.many;
    begun = k.begun;
    of = k.of;
    counts = k.counts;
    recent = k.recent;
    unborn = k.unborn;
    coming = λ q e. elim (eqb_tells q p) [
      | inl w ↦ absurd (not_first (sym (ap (set_at t.phase p phase) w.1 ∙ set_at-same t.phase p phase) ∙ e))
      | inr w ↦ k.coming q (sym (set_at-other t.phase p phase q w.1) ∙ e)
    ];
    due = λ q n e. elim (eqb_tells q p) [
      | inl w ↦ subst (λ (u : ℕ). IsDue (proposals_by k.whose o) o.last u n) (sym w.1) (next k.whose (k.recent p) n (sym (ap (set_at t.phase p phase) w.1 ∙ set_at-same t.phase p phase) ∙ e))
      | inr w ↦ k.due q n (sym (set_at-other t.phase p phase q w.1) ∙ e)
    ];
  }

  -- what is due after a view
  due_seen : (o : RenameObject) (p : ℕ) (view : List (ℕ × ℕ)) → ShowsConflict o p view → (whose : ℕ → ℕ) → IsSilent (proposals_by whose o) p (o.since p) o.last → (n : ℕ) → ToPropose (next_proposal p view) ≡ ToPropose n → IsDue (proposals_by whose o) o.last p n
  due_seen o p view s whose silent n e = inr (
    record {
      view = view;
      index = s.index;
      earlier = s.recent.no_later;
      recent = λ i a b. silent i (let c = s.recent.no_earlier in omega arith) b;
      rising = s.is.rising;
      values = s.is.values;
      number = s.conflict.number;
      own = s.conflict.own;
      other = s.conflict.contested.other;
      not_own = s.conflict.contested.not_own;
      contested = s.conflict.contested.proposes;
    },
    let same : next_proposal p view ≡ n = cc in sym same,
  )

  ruled_stepped : (o : RenameObject) (t : Pace) (p : ℕ) → IsRuled o t → o.begun p ≡ true → (reply : StepReply) → AllowsStep terms o p reply → InTime bounds t (Stepped p (Ok reply)) → IsRuled (after o (Stepped p (Ok reply))) (paced bounds t (Stepped p (Ok reply)))
  ruled_stepped o t p k begun Quiet allowed timed = record { whose = k.whose; rule = k.rule; ids = k.ids; many = k.many; begun = k.begun; of = k.of; counts = k.counts; recent = k.recent; unborn = k.unborn; coming = k.coming; due = k.due }
  ruled_stepped o t p k begun (Placed x) allowed timed = turns o t p k (ToPropose 1) (λ e. cc) (λ whose silent n e. inl (k.coming p timed.is, let same : 1 ≡ n = cc in sym same)) (set_at o.place p (Some x)) o.name o.spent (set_at t.steps p 0)
  ruled_stepped o t p k begun (Proposed n) allowed timed = ruled_proposed o t k p n begun timed.is bounds
  ruled_stepped o t p k begun (Saw view) allowed timed = turns o t p k (ToPropose (next_proposal p view)) (λ e. cc) (due_seen o p view allowed.2) o.place o.name o.spent (set_at t.steps p 0)
  ruled_stepped o t p k begun (Named n view) allowed timed = turns o t p k AtEnd (λ e. cc) (λ whose silent m e. absurd (cc)) o.place (set_at o.name p (Some n)) o.spent (set_at t.steps p 0)
  ruled_stepped o t p k begun Spent allowed timed = turns o t p k AtEnd (λ e. cc) (λ whose silent m e. absurd (cc)) o.place o.name (set_at o.spent p true) (set_at t.steps p 0)

  pub ruled_more : (o : RenameObject) (t : Pace) → IsRuled o t → (h : Call StepReply) → Allows terms o h → InTime bounds t h → IsRuled (after o h) (paced bounds t h)
  ruled_more o t k (Began p (Ok done)) allowed timed = ruled_begun o t p k (not_begun terms o p (was_begun (no_begin terms o p) done allowed))
  ruled_more o t k (Began p (Err why)) allowed timed = k
  ruled_more o t k (Stepped p (Ok reply)) allowed timed = ruled_stepped o t p k (may_step o p allowed.0).begun reply allowed.1 timed
  ruled_more o t k (Stepped p (Err why)) allowed timed = k
