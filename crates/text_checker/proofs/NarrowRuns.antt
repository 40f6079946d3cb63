-- what the objects answer has numbers that a record can write, where the events have
use Rattle.std.proofs.Common.{◌≡◌, ℕ, ◌+◌, ◌-◌, ◌*◌, ◌^◌, ◌<◌, ◌≤◌, true, false, List, [], ◌∷◌, length, map, replicate, Option, Some, None, Bool, Result, Ok, Err, inl, inr, refl, sym, ap, ◌∙◌, subst, arith, slice_get, IsSome}
use Rattle.text_checker.proofs.Common.{WorldKind, eqb_tells, leb_tells, Began, Stepped, Run, set_at, done_unless, Refusal, StepReply, IsMoment, PoolStart, Entered, Probed, Sought, Left, Widened, competes, number_in, may_widen, Pooled, Stored, Fetched, Extended, stored_in, IsFetched, Exchange, DeskCall, exchange_of, Renamed, Slotted, ShownReply, done_reply, value_reply, DeskObject, fresh_desk_object, AllowsCall, after_call, IsObjectRun}
use Rattle.std.specs.List.{All, Contains}
use Rattle.std.proofs.lemmas.Option.{get_or_from_slice_get, slice_get_within}
use Rattle.std.proofs.lemmas.List.Elements.{All-append, All-get_or, All-replicate, All-set, Contains-append_right}
use Rattle.model_steps.specs.View.{IsAbove, IsRising, value_of}
use Rattle.model_steps.specs.declared.refusal.Refusal.TheVariants.{ZeroIdentity, AlreadyBegun, Full, NotBegun}
use Rattle.model_renaming.specs.declared.reply.Reply.TheVariants as step
use Rattle.model_renaming.specs.RenameObject.{RenameTerms, RenameObject, no_begin, no_step, AllowsStep}
use Rattle.model_pool.specs.declared.probe.Probe.TheVariants as probe
use Rattle.model_asked.specs.declared.reply.Reply.TheVariants as reply
use Rattle.model_steps.proofs.cited.ViewLemmas.{among_identities}
use Rattle.text_checker.proofs.judges_lemmas.Views.{here, said_further}
use Rattle.text_records.specs.Narrow.{IsNarrowEvent, AreNarrow, IsShort, IsNarrowReply, AreNarrowExchanges}

-- a call that is done was refused nothing
none_by : (due : Option Refusal) → Ok tt ≡ done_unless due → due ≡ None
none_by None h = refl
none_by (Some w) h = absurd (cc)

-- a place has at most 128 bits
abbrev pub FitsPlace : ShownReply → Type 0
FitsPlace (reply.Place place) = place < 2 ^ 128
FitsPlace r = Unit {0}

-- what is asked, and the places that are reported, fit a record
abbrev pub AreWritable : WorldKind → List Exchange → Type 0
AreWritable kind [] = Unit {0}
AreWritable kind (x ∷ xs) = IsNarrowEvent kind x.event × FitsPlace x.reply × AreWritable kind xs

-- ---- views

-- a rising view is narrow where what is said in it is
narrow_pairs : (view : List (ℕ × ℕ)) → IsRising view → ((q n : ℕ) → value_of q view ≡ Some n → (q < 2 ^ 64) × (n < 2 ^ 64)) → AreNarrow view
narrow_pairs [] r h = tt
narrow_pairs (pair ∷ more) r h =
    let first = h pair.0 pair.1 (here pair more) in
    (first.0, first.1, narrow_pairs more r.1 (λ q n e. h q n (said_further pair more q n r e)))

above_none : (view : List (ℕ × ℕ)) → ((q n : ℕ) → value_of q view ≡ Some n → 0 < q) → IsAbove 0 view
above_none [] h = tt
above_none (pair ∷ more) h = h pair.0 pair.1 (here pair more)

-- ---- values

abbrev IsSmall : ℕ → Type 0
IsSmall v = v < 2 ^ 64

abbrev AreSmall : List ℕ → Type 0
AreSmall vs = All IsSmall vs

small_at : (vs : List ℕ) (i v : ℕ) → AreSmall vs → slice_get vs i ≡ Some v → v < 2 ^ 64
small_at vs i v h e = subst IsSmall (get_or_from_slice_get vs i v 0 e) (All-get_or IsSmall vs i 0 (slice_get_within vs i v e) h)

stored_small : (held : Result ℕ Refusal) (v : ℕ) (vs : List ℕ) → AreSmall vs → v < 2 ^ 64 → AreSmall (stored_in held v vs)
stored_small (Ok number) v vs h k = All-set IsSmall vs (number - 1) v k h
stored_small (Err why) v vs h k = h

fetched_narrow : (vs : List ℕ) (held answer : Result ℕ Refusal) → AreSmall vs → IsFetched vs held answer → IsNarrowReply (value_reply answer)
fetched_narrow vs (Ok number) (Ok v) h f = small_at vs (number - 1) v h f
fetched_narrow vs (Ok number) (Err why) h f = absurd f
fetched_narrow vs (Err why) (Ok v) h f = absurd (cc)
fetched_narrow vs (Err why) (Err other) h f = tt

done_narrow : (answer : Result (Unit {0}) Refusal) → IsNarrowReply (done_reply answer)
done_narrow (Ok done) = tt
done_narrow (Err why) = tt

-- ---- the objects

-- who has begun, at most so many with identities from 1 on, and only they have proposed
record AreNarrowNames (most many : ℕ) (begun : ℕ → Bool) (moment : ℕ → ℕ → Option ℕ) : Type 0 where
  who : List ℕ
  as_many : many ≡ length who
  room : length who ≤ most
  listed : (q : ℕ) → begun q ≡ true → Contains who q
  narrow : (q : ℕ) → begun q ≡ true → (0 < q) × (q < 2 ^ 64)
  shown : (i q n : ℕ) → moment i q ≡ Some n → (begun q ≡ true) × (n < 2 ^ 64)

-- the pool may get at most 65,536 numbers, those are held, and values kept that fit
record AreNarrowSlots (most size : ℕ) (holds : ℕ → Option ℕ) (values : List ℕ) : Type 0 where
  bound : most ≤ 65536
  sized : size ≤ most
  held : (q n : ℕ) → holds q ≡ Some n → n ≤ 65536
  small : AreSmall values

abbrev IsNarrowObject : ℕ → DeskObject → Type 0
IsNarrowObject most o = AreNarrowNames most o.names.many o.names.begun o.names.moment × AreNarrowSlots o.slots.pool.most o.slots.pool.size o.slots.pool.held o.slots.values

narrow_fresh : (most : ℕ) (start : PoolStart) → start.size ≤ start.most → start.most ≤ 65536 → IsNarrowObject most (fresh_desk_object start)
narrow_fresh most start sized few = (
  record { who = []; as_many = refl; room = omega arith; listed = λ q e. absurd (cc); narrow = λ q e. absurd (cc); shown = λ i q n e. absurd (cc) },
  record { bound = few; sized = sized; held = λ q n e. absurd (cc); small = All-replicate IsSmall start.size 0 (omega arith) },
)

-- who is let in is not 0, and there is room
may_begin : (terms : RenameTerms) (o : RenameObject) (p : ℕ) → Ok tt ≡ done_unless (no_begin terms o p) → (0 < p) × (o.many < terms.most)
may_begin terms o p e = elim (eqb_tells p 0) [
  | inl zero_is ↦ absurd (let no : Ok tt ≡ Err ZeroIdentity = rw zero_is.0 at e in cc)
  | inr some ↦ elim (o.begun p) as (λ b. o.begun p ≡ b → (0 < p) × (o.many < terms.most)) [
    | true ↦ λ is. absurd (let no : Ok tt ≡ Err AlreadyBegun = rw (some.0, is) at e in cc)
    | false ↦ λ is. elim (leb_tells terms.most o.many) [
      | inl full ↦ absurd (let no : Ok tt ≡ Err Full = rw (some.0, is, full.0) at e in cc)
      | inr room ↦ (let not_zero = some.1 in omega arith, room.1)
    ]
  ] refl
]

-- who steps has begun
may_step : (o : RenameObject) (p : ℕ) → no_step o p ≡ None → o.begun p ≡ true
may_step o p e = elim (o.begun p) as (λ b. o.begun p ≡ b → o.begun p ≡ true) [
  | true ↦ λ is. is
  | false ↦ λ is. absurd (let no : Some NotBegun ≡ None = rw is at e in cc)
] refl

module _ (terms : RenameTerms) (fits : terms.most ≤ 64) (kind : WorldKind) where
  -- ---- one call

  module _ (o : DeskObject) (h : IsNarrowObject terms.most o) where
    -- the view of a moment in which somebody proposes
    moment_short : (i p number : ℕ) (view : List (ℕ × ℕ)) → IsMoment view (o.names.moment i) → o.names.moment i p ≡ Some number → IsShort view
    moment_short i p number view is own =
        let at = λ (q n : ℕ) (e : value_of q view ≡ Some n). h.0.shown i q n (sym (is.values q) ∙ e) in
        let in_who : (q : ℕ) → IsSome (value_of q view) → Contains h.0.who q =
        (λ q. elim (value_of q view) as (λ v. value_of q view ≡ v → IsSome v → Contains h.0.who q) [ None ↦ λ e some. absurd (cc) | Some n ↦ λ e some. h.0.listed q (at q n e).0 ] refl) in
        let room = h.0.room in
        record {
          some = λ none. absurd (let no : None ≡ Some number = (ap (λ (v : List (ℕ × ℕ)). value_of p v) (sym none)) ∙ is.values p ∙ own in cc);
          few = omega (arith, among_identities view h.0.who is.rising in_who);
          above = above_none view (λ q n e. (h.0.narrow q (at q n e).0).0);
          rising = is.rising;
          narrow = narrow_pairs view is.rising (λ q n e. ((h.0.narrow q (at q n e).0).1, (at q n e).1));
        }

    few_names : (n : ℕ) → n ≤ 2 * o.names.many - 1 → n < 2 ^ 64
    few_names n small = (let many = h.0.as_many in let room = h.0.room in omega arith)

    set_true : (p q : ℕ) → o.names.begun q ≡ true → set_at o.names.begun p true q ≡ true
    set_true p q is = elim (eqb_tells q p) [ inl e ↦ rw e.0 refl | inr e ↦ rw e.0 is ]

    begun_keeps : (p : ℕ) → p < 2 ^ 64 → Ok tt ≡ done_unless (no_begin terms o.names p) → IsNarrowObject terms.most (after_call o (Renamed (Began p (Ok tt))))
    begun_keeps p fits_p e =
        let may = may_begin terms o.names p e in
        let many = h.0.as_many in
        let open_room = may.1 in (
          record {
            who = p ∷ h.0.who;
            as_many = omega arith;
            room = omega arith;
            listed = λ q is. elim (eqb_tells q p) [ inl same ↦ (0, omega arith, sym same.1) | inr other ↦ Contains-append_right (p ∷ []) h.0.who q (h.0.listed q (rw other.0 at is)) ];
            narrow = λ q is. elim (eqb_tells q p) [ inl same ↦ (let low = may.0 in let same_is = same.1 in (omega arith, omega arith)) | inr other ↦ h.0.narrow q (rw other.0 at is) ];
            shown = λ i q n e. (set_true p q (h.0.shown i q n e).0, (h.0.shown i q n e).1);
          },
          h.1,
        )

    proposed_shown : (p n : ℕ) → o.names.begun p ≡ true → n < 2 ^ 64 → (i q m : ℕ) → set_at o.names.moment (o.names.last + 1) (set_at (o.names.moment o.names.last) p (Some n)) i q ≡ Some m → (o.names.begun q ≡ true) × (m < 2 ^ 64)
    proposed_shown p n begun small i q m e = elim (eqb_tells i (o.names.last + 1)) [
      | inl now ↦ elim (eqb_tells q p) [
        | inl own ↦
            let is : Some n ≡ Some m = rw (now.0, own.0) at e in
            let same : n ≡ m = cc in
            (subst (λ (x : ℕ). o.names.begun x ≡ true) (sym own.1) begun, omega arith)
        | inr other ↦ h.0.shown o.names.last q m (rw (now.0, other.0) at e)
      ]
      | inr past ↦ h.0.shown i q m (rw past.0 at e)
    ]

    got_held : (p n : ℕ) → n ≤ o.slots.pool.size → (q m : ℕ) → set_at o.slots.pool.held p (Some n) q ≡ Some m → m ≤ 65536
    got_held p n most q m e = elim (eqb_tells q p) [
      | inl own ↦
          let is : Some n ≡ Some m = rw own.0 at e in
          let same : n ≡ m = cc in
          let bound = h.1.bound in
          let sized = h.1.sized in
          omega arith
      | inr other ↦ h.1.held q m (rw other.0 at e)
    ]

    left_held : (p q m : ℕ) → set_at o.slots.pool.held p None q ≡ Some m → m ≤ 65536
    left_held p q m e = elim (eqb_tells q p) [
      | inl own ↦ absurd (let no : None ≡ Some m = rw own.0 at e in cc)
      | inr other ↦ h.1.held q m (rw other.0 at e)
    ]

    keeps : (call : DeskCall) → IsNarrowEvent kind (exchange_of call).event → AllowsCall terms o call → IsNarrowObject terms.most (after_call o call)
    keeps (Renamed (Began p (Ok done))) e a = begun_keeps p e a
    keeps (Renamed (Stepped p (Ok (step.Proposed n)))) e a =
        let shown = proposed_shown p n (may_step o.names p a.0) (few_names n a.1.small) in
        (record { who = h.0.who; as_many = h.0.as_many; room = h.0.room; listed = h.0.listed; narrow = h.0.narrow; shown = shown }, h.1)
    keeps (Slotted (Pooled (Probed p (Ok (probe.Got n))))) e a = (h.0, record { bound = h.1.bound; sized = h.1.sized; held = got_held p n a.0.1.last; small = h.1.small })
    keeps (Slotted (Pooled (Sought p (Ok n)))) e a = (h.0, record { bound = h.1.bound; sized = h.1.sized; held = got_held p n a.0.1.last; small = h.1.small })
    keeps (Slotted (Pooled (Left p (Ok n)))) e a = (h.0, record { bound = h.1.bound; sized = h.1.sized; held = left_held p; small = h.1.small })
    keeps (Slotted (Pooled (Entered p (Ok done)))) e a = h
    keeps (Slotted (Pooled (Widened more answer))) e a = absurd a.0
    keeps (Slotted (Stored p value answer)) e a =
        (h.0, record { bound = h.1.bound; sized = h.1.sized; held = h.1.held; small = stored_small (number_in o.slots.pool p) value o.slots.values h.1.small e.1 })
    keeps (Slotted (Extended more v (Ok done))) e a =
        let zero_is : v ≡ 0 = a.1 in
        let small = All-append IsSmall o.slots.values (replicate (more - length o.slots.values) v) h.1.small (All-replicate IsSmall (more - length o.slots.values) v (omega arith)) in
        (h.0, record { bound = h.1.bound; sized = (may_widen o.slots.pool.most o.slots.pool.size more (none_by _ a.0)).1; held = h.1.held; small = small })
    keeps call e a = h

    -- the number that is given back is one of the pool's
    left_number : (p n : ℕ) → Ok n ≡ number_in o.slots.pool p → n < 2 ^ 64
    left_number p n e = elim (competes o.slots.pool p) as (λ b. competes o.slots.pool p ≡ b → n < 2 ^ 64) [
      | true ↦ λ is. elim (o.slots.pool.held p) as (λ z. o.slots.pool.held p ≡ z → n < 2 ^ 64) [
        | Some m ↦ λ holds.
            let same : Ok n ≡ Ok m = rw (is, holds) at e in
            let number : n ≡ m = cc in
            let within = h.1.held p m holds in
            omega arith
        | None ↦ λ holds. absurd (let no = rw (is, holds) at e in cc)
      ] refl
      | false ↦ λ is. absurd (let no = rw is at e in cc)
    ] refl

    said_narrow : (p : ℕ) (said : StepReply) → AllowsStep terms o.names p said → FitsPlace (exchange_of (Renamed (Stepped p (Ok said)))).reply → IsNarrowReply (exchange_of (Renamed (Stepped p (Ok said)))).reply
    said_narrow p (step.Placed place) a f = f
    said_narrow p (step.Proposed n) a f = few_names n a.small
    said_narrow p (step.Saw view) a f = let s = a.2 in moment_short s.index p s.conflict.number view s.is s.conflict.own
    said_narrow p (step.Named n view) a f = let s = a.1 in (few_names n a.2.small, moment_short s.index p n view s.is s.sole.own)
    said_narrow p said a f = tt

    reply_narrow : (call : DeskCall) → AllowsCall terms o call → FitsPlace (exchange_of call).reply → IsNarrowReply (exchange_of call).reply
    reply_narrow (Renamed (Began p answer)) a f = done_narrow answer
    reply_narrow (Renamed (Stepped p (Ok said))) a f = said_narrow p said a.1 f
    reply_narrow (Slotted (Pooled (Entered p answer))) a f = done_narrow answer
    reply_narrow (Slotted (Pooled (Probed p (Ok (probe.Got n))))) a f = (let last = a.0.1.last in let sized = h.1.sized in let bound = h.1.bound in omega arith)
    reply_narrow (Slotted (Pooled (Sought p (Ok n)))) a f = (let last = a.0.1.last in let sized = h.1.sized in let bound = h.1.bound in omega arith)
    reply_narrow (Slotted (Pooled (Left p (Ok n)))) a f = left_number p n a.0
    reply_narrow (Slotted (Pooled (Widened more answer))) a f = done_narrow answer
    reply_narrow (Slotted (Stored p value answer)) a f = done_narrow answer
    reply_narrow (Slotted (Extended more v answer)) a f = done_narrow answer
    reply_narrow (Slotted (Fetched p answer)) a f = fetched_narrow o.slots.values (number_in o.slots.pool p) answer h.1.small a.0
    reply_narrow call a f = tt

  -- ---- and any calls
  calls_narrow : (o end : DeskObject) (calls : List DeskCall) → IsNarrowObject terms.most o → Run after_call (AllowsCall terms) o calls end → AreWritable kind (map exchange_of calls) → AreNarrowExchanges kind (map exchange_of calls)
  calls_narrow o end [] h r w = tt
  calls_narrow o end (call ∷ calls) h r w = (w.0, reply_narrow o h call r.0 w.1, calls_narrow (after_call o call) end calls (keeps o h call w.0 r.0) r.1 w.2)

  pub run_narrow : (start : PoolStart) → start.size ≤ start.most → start.most ≤ 65536 → (r : List Exchange) → IsObjectRun terms start r → AreWritable kind r → AreNarrowExchanges kind r
  run_narrow start sized few r run w =
      subst (λ (x : List Exchange). AreNarrowExchanges kind x) run.spelled
      (calls_narrow (fresh_desk_object start) run.object run.calls (narrow_fresh terms.most start sized few) run.run (subst (λ (x : List Exchange). AreWritable kind x) (sym run.spelled) w))
