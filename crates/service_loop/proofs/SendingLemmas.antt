-- replies that are sent, one thing after another, and none to whoever is at fault
use Rattle.std.proofs.Common.{◌≡◌, ◌⊎◌, inl, inr, ℕ, zero, suc, Bool, true, false, List, get_or, Option, Some, None, OnOk, Result, Ok, Err, refl, sym, ap, subst, ◌∙◌, ◌++◌, ◌<◌, length, set, take, drop}
use Rattle.std.proofs.Math.Seq.{take-append_seam}
use Rattle.model_pool.specs.declared.stays.kept_stay.KeptStay.{KeptStay}
use Rattle.model_pool.specs.stays.Stays.{keeps_any}
use Rattle.service_loop.proofs.Common.{ShownReply, Request, Turn, turns_of, Peek, WorldKind, cases_eq, get_or-set_same, get_or-set_other}
use Rattle.service_loop.specs.Answering.{AnsweredAndSent, SeatAnswers}
use Rattle.service_loop.specs.Attending.{number_at}
use Rattle.service_loop.specs.Gathering.{Gathered, PrefetchedIteration, SeatGathers}
use Rattle.service_loop.specs.Seats.{LoopIteration, RepliesSent, Seating, SeatIs, SeatSends, SeatTakes}
use Rattle.service_loop.specs.Sendings.{Fails, HasSent, IsSilent, SeatUnsent, SendsBut, SendsToKeepers, Unsent}
use Rattle.service_loop.specs.Taking.{SeatTakesNumber, TakingsKept}
use Rattle.service_loop.specs.declared.gathering.Called.{Called}
use Rattle.service_loop.specs.declared.gathering.Called.TheVariants as called
use Rattle.service_loop.specs.declared.terms.Query.{Query}
use Rattle.service_loop.specs.declared.manner.Manner.{Manner}

stays_true : (b b' : Bool) → (b' ≡ false → b ≡ false) → b ≡ true → b' ≡ true
stays_true b true whole is = refl
stays_true b false whole is = absurd (let bad : true ≡ false = sym is ∙ whole refl in cc)

-- where a turn called seats, or gave them up
pub sent_called : {E : Type 0} (result : Result Called E) (P : Type 0) → ((n : ℕ) → result ≡ Ok (called.Served n) → P) → ((n : ℕ) → result ≡ Ok (called.Unserved n) → P) → OnOk result P
sent_called (Ok (called.Served n)) P served lost = served n refl
sent_called (Ok (called.Unserved n)) P served lost = lost n refl
sent_called (Err fault) P served lost = tt

module _ {C : Type 0} (on : Seating C) where
  unsent_takes : (turns : List Turn) (x y : Option C) → SeatTakes on turns x y → SeatUnsent on x y
  unsent_takes turns None None t = tt
  unsent_takes turns None (Some d) t = t
  unsent_takes turns (Some c) None t = t
  unsent_takes turns (Some c) (Some d) t = (t.1, stays_true _ _ (λ h. (t.0.takes.kept h).2))

  unsent_gathers : (x y : Option C) → SeatGathers on x y → SeatUnsent on x y
  unsent_gathers None None t = tt
  unsent_gathers None (Some d) t = t
  unsent_gathers (Some c) None t = t
  unsent_gathers (Some c) (Some d) t = (t.1, stays_true _ _ (λ h. (t.0.kept h).1))

  unsent_answers : (answer : Query → List ℕ) (x y : Option C) → SeatAnswers on answer x y → SeatUnsent on x y
  unsent_answers answer None None t = tt
  unsent_answers answer None (Some d) t = t
  unsent_answers answer (Some c) None t = t
  unsent_answers answer (Some c) (Some d) t = (
    t.2,
    elim t.0 as (λ _. (on.buffers c).broken ≡ true → (on.buffers d).broken ≡ true) [
      | inl same ↦ λ is. ap (λ q. q.broken) same ∙ is
      | inr asks ↦ stays_true _ _ (λ h. (asks.kept h).1)
    ],
  )

  unsent_number : (manner : Manner) (ahead patient : Bool) (turns : List Turn) (x y : Option C) → SeatTakesNumber on manner ahead patient turns x y → SeatUnsent on x y
  unsent_number manner ahead patient turns None None t = tt
  unsent_number manner ahead patient turns None (Some d) t = t
  unsent_number manner ahead patient turns (Some c) None t = t
  unsent_number manner ahead patient turns (Some c) (Some d) t = (
    t.2,
    elim t.0 as (λ _. (on.buffers c).broken ≡ true → (on.buffers d).broken ≡ true) [
      | inl same ↦ λ is. ap (λ q. q.broken) same.1 ∙ is
      | inr (inl takes) ↦ stays_true _ _ (λ h. (takes.kept h).1)
      | inr (inr waits) ↦ λ is. ap (λ q. q.broken) waits.same ∙ is
    ],
  )

  seat_unsent_none : (x : Option C) → SeatUnsent on x x
  seat_unsent_none None = tt
  seat_unsent_none (Some c) = (refl, λ is. is)

  seat_unsent_then : (x y z : Option C) → SeatUnsent on x y → SeatUnsent on y z → SeatUnsent on x z
  seat_unsent_then None None None a b = tt
  seat_unsent_then None None (Some d) a b = b
  seat_unsent_then None (Some c) z a b = absurd a
  seat_unsent_then (Some c) None z a b = absurd a
  seat_unsent_then (Some c) (Some d) None a b = b
  seat_unsent_then (Some c) (Some d) (Some e) a b = (b.0 ∙ a.0, λ is. b.1 (a.1 is))

  abbrev FailsAt : Option C → Type 0
  FailsAt x = SeatIs (λ c. (on.buffers c).broken ≡ true) x

  fails_unsent : (x y : Option C) → SeatUnsent on x y → FailsAt x → FailsAt y
  fails_unsent None None a f = tt
  fails_unsent None (Some d) a f = absurd a
  fails_unsent (Some c) None a f = tt
  fails_unsent (Some c) (Some d) a f = a.1 f

  fails_sent : (x y : Option C) → SeatSends on x y → FailsAt x → FailsAt y
  fails_sent None None a f = tt
  fails_sent None (Some d) a f = absurd a
  fails_sent (Some c) None a f = tt
  fails_sent (Some c) (Some d) a f = stays_true _ _ a.0.whole f

  silent : (x y : Option C) (s : SeatSends on x y) → FailsAt x → IsSilent on x y s
  silent None y s f = tt
  silent (Some c) None s f = tt
  silent (Some c) (Some d) s f = s.0.quiet f

  unsent_then : (xs ys zs : List (Option C)) → Unsent on xs ys → Unsent on ys zs → Unsent on xs zs
  unsent_then xs ys zs a b i = seat_unsent_then (get_or xs i None) (get_or ys i None) (get_or zs i None) (a i) (b i)

  unsent_first : (Mute : ℕ → Type 0) (n : ℕ) (xs ys zs : List (Option C)) → Unsent on xs ys → SendsBut on Mute n ys zs → SendsBut on Mute n xs zs
  unsent_first Mute zero xs ys zs a b = unsent_then xs ys zs a b
  unsent_first Mute (suc n) xs ys zs a b = (b.0, b.1, unsent_then xs ys b.0 a b.2, b.3, b.4, b.5)

  sends_fewer : (Mute Mute' : ℕ → Type 0) → ((i : ℕ) → Mute' i → Mute i) → (n : ℕ) (xs ys : List (Option C)) → SendsBut on Mute n xs ys → SendsBut on Mute' n xs ys
  sends_fewer Mute Mute' then zero xs ys a = a
  sends_fewer Mute Mute' then (suc n) xs ys a = (a.0, a.1, a.2, a.3, (λ i m. a.4 i (then i m)), sends_fewer Mute Mute' then n a.1 ys a.5)

  sends_then : (Mute : ℕ → Type 0) (n m : ℕ) (xs ys zs : List (Option C)) → SendsBut on Mute n xs ys → SendsBut on Mute m ys zs → (k : ℕ) × SendsBut on Mute k xs zs
  sends_then Mute zero m xs ys zs a b = (m, unsent_first Mute m xs ys zs a b)
  sends_then Mute (suc n) m xs ys zs a b = (let more = sends_then Mute n m a.1 ys zs a.5 b in (suc more.0, (a.0, a.1, a.2, a.3, a.4, more.1)))

  fails_sends : (Mute : ℕ → Type 0) (n : ℕ) (xs ys : List (Option C)) → SendsBut on Mute n xs ys → (i : ℕ) → Fails on xs i → Fails on ys i
  fails_sends Mute zero xs ys a i f = fails_unsent (get_or xs i None) (get_or ys i None) (a i) f
  fails_sends Mute (suc n) xs ys a i f =
      fails_sends Mute n a.1 ys a.5 i (fails_sent (get_or a.0 i None) (get_or a.1 i None) (a.3.each i) (fails_unsent (get_or xs i None) (get_or a.0 i None) (a.2 i) f))

  pub unsent_none : (xs : List (Option C)) → Unsent on xs xs
  unsent_none xs i = seat_unsent_none (get_or xs i None)

  pub unsent_more : (xs ys zs : List (Option C)) → Unsent on xs ys → Unsent on ys zs → Unsent on xs zs
  unsent_more xs ys zs a b = unsent_then xs ys zs a b

  -- one connection is at fault where it sits
  pub unsent_at : (key : ℕ) (seats : List (Option C)) (was is : C) → key < length seats → get_or seats key None ≡ Some was → on.gone is ≡ on.gone was → (on.buffers is).broken ≡ true → Unsent on seats (set seats key (Some is))
  unsent_at key seats was is below there gone broken i = elim (cases_eq i key) as (λ _. SeatUnsent on (get_or seats i None) (get_or (set seats key (Some is)) i None)) [
    | inl same ↦ subst (λ (k : ℕ). SeatUnsent on (get_or seats k None) (get_or (set seats key (Some is)) k None)) (sym same)
        (rw (there, get_or-set_same seats key (Some is) None below) (gone, λ _. broken))
    | inr other ↦ rw (get_or-set_other seats key i (Some is) None other) (seat_unsent_none (get_or seats i None))
  ]

  pub has_sent_none : (xs ys : List (Option C)) → Unsent on xs ys → HasSent on xs ys
  has_sent_none xs ys a = (zero, a)

  pub has_sent_then : (xs ys zs : List (Option C)) → HasSent on xs ys → HasSent on ys zs → HasSent on xs zs
  has_sent_then xs ys zs a b = sends_then (Fails on xs) a.0 b.0 xs ys zs a.1 (sends_fewer (Fails on ys) (Fails on xs) (fails_sends (Fails on xs) a.0 xs ys a.1) b.0 ys zs b.1)

  pub has_sent_same : (xs : List (Option C)) → HasSent on xs xs
  has_sent_same xs = has_sent_none xs xs (λ i. seat_unsent_none (get_or xs i None))

  -- and then replies are sent
  pub has_sent : (xs ys zs : List (Option C)) → Unsent on xs ys → RepliesSent on ys zs → HasSent on xs zs
  has_sent xs ys zs a sent = (
    suc zero,
    (
      ys,
      zs,
      a,
      sent,
      (λ i f. silent (get_or ys i None) (get_or zs i None) (sent.each i) (fails_unsent (get_or xs i None) (get_or ys i None) (a i) f)),
      (λ i. seat_unsent_none (get_or zs i None)),
    ),
  )

  pub unsent_gathered : (xs ys : List (Option C)) → Gathered on xs ys → Unsent on xs ys
  unsent_gathered xs ys a i = unsent_gathers (get_or xs i None) (get_or ys i None) (a.each i)

  pub has_sent_gathered : (xs ys : List (Option C)) → Gathered on xs ys → HasSent on xs ys
  has_sent_gathered xs ys a = has_sent_none xs ys (unsent_gathered xs ys a)

  module _ {T K : Type 0} (may : T → Request → ShownReply → T → Type 0) (persists : K → T → K → T → Type 0) where
    -- in a turn of the loop
    pub has_sent_turn : (k l : K) (w u : T) (xs zs : List (Option C)) → LoopIteration on may persists k w xs l u zs → HasSent on xs zs
    has_sent_turn k l w u xs zs t = has_sent xs t.between zs (λ i. unsent_takes (turns_of i t.log) (get_or xs i None) (get_or t.between i None) (t.taken.each i)) t.sent

    pub has_sent_takings : (manner : Manner) (ahead patient : Bool) (k l : K) (w u : T) (xs zs : List (Option C)) → TakingsKept on manner ahead patient may persists k w xs l u zs → HasSent on xs zs
    has_sent_takings manner ahead patient k l w u xs zs t =
        has_sent xs t.between zs (λ i. unsent_number manner ahead patient (turns_of i t.log) (get_or xs i None) (get_or t.between i None) (t.taken.each i)) t.sent

    pub has_sent_prefetched : (prefetches : K → T → List ℕ → K → T → Type 0) (peek : C → Option Peek) (Due : C → Type 0) (kind : WorldKind) (keys : List ℕ) (k l : K) (w u : T) (xs zs : List (Option C)) (lines : List ℕ) →
        PrefetchedIteration on peek Due may prefetches persists kind keys k w xs lines l u zs → HasSent on xs zs
    has_sent_prefetched prefetches peek Due kind keys k l w u xs zs lines t =
        has_sent_then xs t.gathered_seats zs (has_sent_gathered xs t.gathered_seats t.gathered) (has_sent_turn t.prefetched_by l t.ready u t.gathered_seats zs t.turn)

  -- the seats are written back
  pub has_sent_back : (n : ℕ) (items xs zs : List (Option C)) → xs ≡ items → n ≡ length xs → length zs ≡ length xs → HasSent on xs zs → HasSent on items (take n (zs ++ drop (length zs) items))
  has_sent_back n items xs zs same all many a = subst (λ (l : List (Option C)). HasSent on items l)
      (sym (ap (λ (m : ℕ). take m (zs ++ drop (length zs) items)) (all ∙ sym many) ∙ take-append_seam zs (drop (length zs) items)))
      (subst (λ (l : List (Option C)). HasSent on l zs) same a)

  pub has_sent_answers : (answer : Query → List ℕ) (xs zs : List (Option C)) → AnsweredAndSent on answer xs zs → HasSent on xs zs
  has_sent_answers answer xs zs a = has_sent xs a.0 zs (λ i. unsent_answers answer (get_or xs i None) (get_or a.0 i None) (a.1.each i)) a.2

  -- whoever keeps a stay is at fault
  pub sends_keepers : (may : Type 0) (stays : List KeptStay) (numbers : List ℕ) (xs ys : List (Option C)) → may ⊎ ((i : ℕ) → keeps_any (number_at numbers i) stays ≡ true → Fails on xs i) → HasSent on xs ys →
      SendsToKeepers on may stays numbers xs ys
  sends_keepers may stays numbers xs ys (inl is) a = inl is
  sends_keepers may stays numbers xs ys (inr fail) a = inr (a.0, sends_fewer (Fails on xs) (λ i. keeps_any (number_at numbers i) stays ≡ true) fail a.0 xs ys a.1)

  -- the same, where connections were put at fault before
  pub sends_keepers_of : (may : Type 0) (stays : List KeptStay) (numbers : List ℕ) (ws xs ys : List (Option C)) → Unsent on ws xs → SendsToKeepers on may stays numbers xs ys → SendsToKeepers on may stays numbers ws ys
  sends_keepers_of may stays numbers ws xs ys a (inl is) = inl is
  sends_keepers_of may stays numbers ws xs ys a (inr b) = inr (b.0, unsent_first (λ i. keeps_any (number_at numbers i) stays ≡ true) b.0 ws xs ys a b.1)
