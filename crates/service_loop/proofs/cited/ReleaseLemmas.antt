-- stays that are ended, one after another
use Rattle.std.proofs.Common.{◌≡◌, ◌⊎◌, ◌<◌, ◌+◌, inl, inr, ℕ, zero, suc, Bool, true, false, not, if◌then◌else◌, List, [], ◌∷◌, ◌++◌, filter, map, replicate, refl, subst, sym, ap, ◌∙◌, append_assoc, arith}
use Rattle.std.specs.List.{Contains}
use Rattle.std.proofs.lemmas.List.Concat.{flat_map-append}
use Rattle.std.proofs.lemmas.List.{map-append}
use Rattle.std.proofs.lemmas.List.Elements.{filter-append}
use Rattle.std.proofs.lemmas.Grind.{replicate_next}
use Rattle.model_pool.specs.slots.SlotsState.{SlotsState}
use Rattle.model_asked.specs.Replies.{with_view}
use Rattle.model_asked.specs.Requests.Request.{Take}
use Rattle.model_asked.specs.declared.event.Event.{Event}
use Rattle.model_asked.specs.declared.event.Event.TheVariants as event
use Rattle.model_asked.specs.declared.reply.Reply.{Reply}
use Rattle.model_asked.specs.declared.reply.Reply.TheVariants as reply
use Rattle.service_loop.proofs.Common.{ShownReply, Request, Runs, Turn, append-nil, runs-append}
use Rattle.text_player.specs.lemmas.RunProofs.{runs-cut}
use Rattle.model_pool.specs.stays.Stays.{Act}
use Rattle.model_pool.specs.stays.Stays.Act.{Left}
use Rattle.service_loop.specs.declared.attended.Attended.{Attended}
use Rattle.service_loop.specs.Attending.{Hears, heard}
use Rattle.service_loop.specs.Releasing.{AreProbes, AreReleases, EndsDue, Forgot, IsNotFreed, IsReleaseBy, Released, TellsOfStays, competes_for, freed_by, freed_in, freed_of, is_freed, is_missed, lacks_number, leave_of}
use Rattle.service_loop.specs.Searching.{most_said, searched, searching}
use Rattle.service_loop.specs.Rounds.{WasServed}
use Rattle.service_loop.specs.Rounds.Deed.{Serves}
use Rattle.service_loop.proofs.AttendedLemmas.{Tells, hears_none, hears_then, shown}
use Rattle.service_loop.proofs.RoundLemmas.{served_none, served_waits}

-- a reply tells the same of a release whatever view it shows
pub freed_shown : {V W : Type 0} (r : Reply V) (v : W) → is_freed (with_view r v) ≡ is_freed r
freed_shown r v = ap (λ (t : Tells). t.freed) (shown r v)

pub lacks_shown : {V W : Type 0} (r : Reply V) (v : W) → lacks_number (with_view r v) ≡ lacks_number r
lacks_shown r v = ap (λ (t : Tells). t.lacks) (shown r v)

pub missed_shown : {V W : Type 0} (r : Reply V) (v : W) → is_missed (with_view r v) ≡ is_missed r
missed_shown r v = ap (λ (t : Tells). t.missed) (shown r v)

-- what is missed is that reply
pub missed_is : {V : Type 0} (r : Reply V) → is_missed r ≡ true → r ≡ reply.Missed
missed_is reply.Ok is = absurd (cc is)
missed_is reply.Quiet is = absurd (cc is)
missed_is reply.Stop is = absurd (cc is)
missed_is reply.Right is = absurd (cc is)
missed_is reply.Down is = absurd (cc is)
missed_is (reply.Place place) is = absurd (cc is)
missed_is (reply.Proposed number) is = absurd (cc is)
missed_is (reply.Saw old) is = absurd (cc is)
missed_is (reply.Named name old) is = absurd (cc is)
missed_is reply.Spent is = absurd (cc is)
missed_is reply.Missed is = refl
missed_is (reply.Got number) is = absurd (cc is)
missed_is (reply.Left number) is = absurd (cc is)
missed_is (reply.Value value) is = absurd (cc is)
missed_is (reply.Owner owner) is = absurd (cc is)
missed_is (reply.Refused why) is = absurd (cc is)

-- a turn by which a number is searched for says nothing of stays, nor do many
not_freed : (wide : Bool) (id : ℕ) (r : ShownReply) → freed_of (searched wide id r) ≡ []
not_freed true id r = refl
not_freed false id r = refl

pub hears_search : {D : Type 0} (wide : Bool) (c id : ℕ) (e : Event) (r : ShownReply) (w u : Attended D) → e ≡ searching wide id → Hears (heard c e r) w u → Hears [] w u
hears_search true c id e r w u asks hears = subst (λ (x : Event). Hears (heard c x r) w u) asks hears
hears_search false c id e r w u asks hears = subst (λ (x : Event). Hears (heard c x r) w u) asks hears

no_misses : (wide : Bool) (id n : ℕ) → freed_in (replicate n (searched wide id reply.Missed)) ≡ []
no_misses wide id zero = refl
no_misses wide id (suc n) = rw (not_freed wide id reply.Missed) (no_misses wide id n)

no_probes : (wide : Bool) (id : ℕ) (turns : List Turn) → AreProbes wide id turns → freed_in turns ≡ []
no_probes wide id turns (inl all) = ap freed_in all ∙ no_misses wide id (most_said wide)
no_probes wide id turns (inr some) =
    let misses = replicate some.0 (searched wide id reply.Missed) in
    let last : freed_in (searched wide id some.1 ∷ []) ≡ [] = rw (not_freed wide id some.1) refl in
    ap freed_in some.4 ∙ flat_map-append freed_of misses (searched wide id some.1 ∷ []) ∙ ap (λ (l : List Act). l ++ freed_in (searched wide id some.1 ∷ [])) (no_misses wide id some.0) ∙ last

freed_append : (xs ys : List Turn) → freed_in (xs ++ ys) ≡ freed_in xs ++ freed_in ys
freed_append xs ys = flat_map-append freed_of xs ys

-- releases, and those of identities more
releases_append : (wide : Bool) (xs ys : List ℕ) (ts us : List Turn) → AreReleases wide xs ts → AreReleases wide ys us → AreReleases wide (xs ++ ys) (ts ++ us)
releases_append wide [] ys ts us one two = rw one two
releases_append wide (x ∷ xs) ys ts us one two = (
  one.0,
  one.1 ++ us,
  one.2,
  ap (λ (l : List Turn). l ++ us) one.3 ∙ append_assoc one.0 one.1 us,
  one.4,
  releases_append wide xs ys one.1 us one.5 two,
)

module _ {D : Type 0} (wide : Bool) (may : D → Request → ShownReply → D → Type 0) where
  pub released_none : (w : Attended D) → Released wide may [] w w
  released_none w = record { turns = []; run = refl; each = refl; heard = hears_none w }

  pub released_then : (xs ys : List ℕ) (w v u : Attended D) → Released wide may xs w v → Released wide may ys v u → Released wide may (xs ++ ys) w u
  released_then xs ys w v u one two = record {
    turns = one.turns ++ two.turns;
    run = runs-append may w.service v.service u.service one.turns two.turns one.run two.run;
    each = releases_append wide xs ys one.turns two.turns one.each two.each;
    heard = rw (freed_append one.turns two.turns) (hears_then (freed_in one.turns) (freed_in two.turns) w v u one.heard two.heard);
  }

  -- `seek` or `probe` once more, missed or not
  pub searched_more : {V : Type 0} (id n : ℕ) (e : Event) (r : Reply V) (v : List (ℕ × ℕ)) (w m u : D) → e ≡ searching wide id → Runs may w (replicate n (searched wide id reply.Missed)) m → may m (Take e) (with_view r v) u → is_missed r ≡ true →
      Runs may w (replicate (n + 1) (searched wide id reply.Missed)) u
  searched_more id n e r v w m u asks run said is =
      let miss = searched wide id reply.Missed in
      let told = subst (λ (x : Event). may m (Take x) (with_view r v) u) asks said in
      let same = missed_is (with_view r v) (missed_shown r v ∙ is) in
      subst (λ (l : List Turn). Runs may w l u) (sym (replicate_next n miss))
      (runs-append may w m u (replicate n miss) (miss ∷ []) run (u, subst (λ (s : ShownReply). may m (Take (searching wide id)) s u) same told, refl))

  pub searched_last : {V : Type 0} (id n : ℕ) (e : Event) (r : Reply V) (v : List (ℕ × ℕ)) (w m u : D) → e ≡ searching wide id → n < most_said wide → Runs may w (replicate n (searched wide id reply.Missed)) m → may m (Take e) (with_view r v) u → is_missed r ≡ false →
      (turns : List Turn) × AreProbes wide id turns × Runs may w turns u
  searched_last id n e r v w m u asks lt run said not =
      let miss = searched wide id reply.Missed in
      let last = searched wide id (with_view r v) in (
        replicate n miss ++ last ∷ [],
        inr (n, with_view r v, lt, missed_shown r v ∙ not, refl),
        runs-append may w m u (replicate n miss) (last ∷ []) run (u, subst (λ (x : Event). may m (Take x) (with_view r v) u) asks said, refl),
      )

  -- by `leave` alone
  said_freed : {V : Type 0} (id : ℕ) (r : Reply V) (v : List (ℕ × ℕ)) → freed_by (event.Leave id) r ≡ freed_in (leave_of id (with_view r v) ∷ [])
  said_freed id r v = sym (append-nil (freed_by (event.Leave id) (with_view r v)) ∙ ap (λ (b : Bool). if b then Left id ∷ [] else []) (freed_shown r v))

  pub released_leave : {V : Type 0} (id : ℕ) (r : Reply V) (v : List (ℕ × ℕ)) (w u : Attended D) → may w.service (Take (event.Leave id)) (with_view r v) u.service → Hears (freed_by (event.Leave id) r) w u →
      lacks_number r ≡ false → Released wide may (id ∷ []) w u
  released_leave id r v w u said hears holds =
      let s = with_view r v in
      record {
        turns = leave_of id s ∷ [];
        run = (u.service, said, refl);
        each = (leave_of id s ∷ [], [], s, refl, inl (refl, lacks_shown r v ∙ holds), refl);
        heard = subst (λ (l : List Act). Hears l w u) (said_freed id r v) hears;
      }

  -- by `leave`, `seek` or `probe`, and `leave`
  pub released_probed : {V : Type 0} (id : ℕ) (r s : Reply V) (v y : List (ℕ × ℕ)) (probes : List Turn) (w a b u : Attended D) → may w.service (Take (event.Leave id)) (with_view r v) a.service → Hears (freed_by (event.Leave id) r) w a →
      lacks_number r ≡ true → AreProbes wide id probes → Runs may a.service probes b.service → Hears [] a b → may b.service (Take (event.Leave id)) (with_view s y) u.service → Hears (freed_by (event.Leave id) s) b u → Released wide may (id ∷ []) w u
  released_probed id r s v y probes w a b u said hears lacks are run none again heard =
      let first = leave_of id (with_view r v) in
      let last = leave_of id (with_view s y) in
      let turns = first ∷ probes ++ last ∷ [] in
      let mid : Hears (freed_in probes) a b = subst (λ (l : List Act). Hears l a b) (sym (no_probes wide id probes are)) none in
      let one : Hears (freed_in (first ∷ [])) w a = subst (λ (l : List Act). Hears l w a) (said_freed id r v) hears in
      let two : Hears (freed_in (last ∷ [])) b u = subst (λ (l : List Act). Hears l b u) (said_freed id s y) heard in
      let whole = hears_then (freed_in (first ∷ [])) (freed_in probes ++ freed_in (last ∷ [])) w a u one (hears_then (freed_in probes) (freed_in (last ∷ [])) a b u mid two) in
      let parts : freed_in (first ∷ []) ++ (freed_in probes ++ freed_in (last ∷ [])) ≡ freed_in turns =
      sym (freed_append (first ∷ []) (probes ++ last ∷ []) ∙ ap (λ (l : List Act). freed_in (first ∷ []) ++ l) (freed_append probes (last ∷ []))) in
      record {
        turns = turns;
        run = (a.service, said, runs-append may a.service b.service u.service probes (last ∷ []) run (u.service, again, refl));
        each = (turns, [], with_view s y, sym (append-nil turns), inr (with_view r v, probes, lacks_shown r v ∙ lacks, are, refl), refl);
        heard = subst (λ (l : List Act). Hears l w u) parts whole;
      }

-- a stay more is forgotten where it has ended
pub forgot_then : {D : Type 0} (slots : SlotsState ℕ) (xs ys : List ℕ) (w v u : Attended D) → Forgot slots xs w v → Forgot slots ys v u → Forgot slots (xs ++ ys) w u
forgot_then slots xs ys w v u one two =
    let gone : ℕ → Bool = λ id. not (competes_for slots id) in
    let parts : map Left (filter gone (xs ++ ys)) ≡ map Left (filter gone xs) ++ map Left (filter gone ys) = ap (map Left) (filter-append gone xs ys) ∙ map-append Left (filter gone xs) (filter gone ys) in
    record {
      same = two.same ∙ one.same;
      heard = subst (λ (l : List Act). Hears l w u) (sym parts) (hears_then (map Left (filter gone xs)) (map Left (filter gone ys)) w v u one.heard two.heard);
    }

module _ {D K : Type 0} (wide : Bool) (may : D → Request → ShownReply → D → Type 0) (prefetches : K → D → List ℕ → K → D → Type 0) (persists waits : K → D → K → D → Type 0) (shares : K → Bool) (holds : K → D → SlotsState ℕ) where
  -- to end stays is what a server does to its service and its persister
  pub served_due : (due : List ℕ) (k l : K) (w u : Attended D) → EndsDue wide may persists waits shares holds due k w l u → WasServed may prefetches persists waits k w.service l u.service
  served_due due k l w u (inl on) = subst (λ (d : D). WasServed may prefetches persists waits k w.service l d) (sym on.1.forgot.same) (served_waits may prefetches persists waits k l w.service on.1.reached.service on.1.waited)
  served_due due k l w u (inr (_, inl none)) = rw (none.1, none.2) (served_none may prefetches persists waits k w.service)
  served_due due k l w u (inr (_, inr r)) = (Serves r.released.turns ∷ [], (l, u.service, (r.reported.service, r.released.run, r.kept), (refl, refl)))

module _ (wide : Bool) where
  -- turns that are `leave`, or `seek` or `probe`
  abbrev IsSaid : Turn → Type 0
  IsSaid t = (id : ℕ) × (r : ShownReply) × ((t ≡ leave_of id r) ⊎ (t ≡ searched wide id r))

  abbrev pub AreSaid : List Turn → Type 0
  AreSaid [] = Unit {0}
  AreSaid (t ∷ ts) = IsSaid t × AreSaid ts

  said_append : (xs ys : List Turn) → AreSaid xs → AreSaid ys → AreSaid (xs ++ ys)
  said_append [] ys one two = two
  said_append (x ∷ xs) ys one two = (one.0, said_append xs ys one.1 two)

  said_misses : (id n : ℕ) → AreSaid (replicate n (searched wide id reply.Missed))
  said_misses id zero = tt
  said_misses id (suc n) = ((id, reply.Missed, inr refl), said_misses id n)

  said_probes : (id : ℕ) (turns : List Turn) → AreProbes wide id turns → AreSaid turns
  said_probes id turns (inl all) = subst AreSaid (sym all) (said_misses id (most_said wide))
  said_probes id turns (inr some) =
      let misses = replicate some.0 (searched wide id reply.Missed) in
      subst AreSaid (sym some.4) (said_append misses (searched wide id some.1 ∷ []) (said_misses id some.0) ((id, some.1, inr refl), tt))

  said_release : (id : ℕ) (r : ShownReply) (turns : List Turn) → IsReleaseBy wide id r turns → AreSaid turns
  said_release id r turns (inl alone) = subst AreSaid (sym alone.0) ((id, r, inl refl), tt)
  said_release id r turns (inr more) =
      let last : AreSaid (leave_of id r ∷ []) = ((id, r, inl refl), tt) in
      subst AreSaid (sym more.4) ((id, more.0, inl refl), said_append more.1 (leave_of id r ∷ []) (said_probes id more.1 more.3) last)

  pub said_releases : (due : List ℕ) (turns : List Turn) → AreReleases wide due turns → AreSaid turns
  said_releases [] turns none = subst AreSaid (sym none) tt
  said_releases (id ∷ ids) turns some = subst AreSaid (sym some.3) (said_append some.0 some.1 (said_release id some.2 some.0 some.4) (said_releases ids some.1 some.5))

module _ {D : Type 0} (wide : Bool) (may : D → Request → ShownReply → D → Type 0) (competes : D → ℕ → Bool) (tells_so : TellsOfStays may competes) where
  -- nobody enters by `seek` or `probe`
  away_searched : (b : Bool) (w u : D) (id i : ℕ) (r : ShownReply) → may w (Take (searching b i)) r u → competes w id ≡ false → competes u id ≡ false
  away_searched true w u id i r said away = tells_so.seek w u id i r said away
  away_searched false w u id i r said away = tells_so.probe w u id i r said away

  -- who does not compete does not by these turns
  stays_away : (id : ℕ) (turns : List Turn) (w u : D) → AreSaid wide turns → Runs may w turns u → competes w id ≡ false → competes u id ≡ false
  stays_away id [] w u said run away = subst (λ (d : D). competes d id ≡ false) run away
  stays_away id (t ∷ ts) w u ((i, r, inl same), said) run away =
      let on = subst (λ (x : Turn). Runs may w (x ∷ ts) u) same run in
      stays_away id ts on.0 u said on.2 (tells_so.leave w on.0 id i r on.1 away)
  stays_away id (t ∷ ts) w u ((i, r, inr same), said) run away =
      let on = subst (λ (x : Turn). Runs may w (x ∷ ts) u) same run in
      stays_away id ts on.0 u said on.2 (away_searched wide w on.0 id i r on.1 away)

  -- who was freed does not compete
  leave_frees : (id : ℕ) (r : ShownReply) (w u : D) → is_freed r ≡ true → Runs may w (leave_of id r ∷ []) u → competes u id ≡ false
  leave_frees id r w u is run = subst (λ (d : D). competes d id ≡ false) run.2 (tells_so.freed w run.0 id r run.1 is)

  release_frees : (id : ℕ) (r : ShownReply) (turns : List Turn) (w u : D) → IsReleaseBy wide id r turns → is_freed r ≡ true → Runs may w turns u → competes u id ≡ false
  release_frees id r turns w u (inl alone) is run = leave_frees id r w u is (subst (λ (l : List Turn). Runs may w l u) alone.0 run)
  release_frees id r turns w u (inr more) is run =
      let cut = runs-cut may w u (leave_of id more.0 ∷ more.1) (leave_of id r ∷ []) (subst (λ (l : List Turn). Runs may w l u) more.4 run) in
      leave_frees id r cut.0 u is cut.2

  -- so each of these
  pub releases_free : (due : List ℕ) (turns : List Turn) (w u : D) → AreReleases wide due turns → Runs may w turns u → (id : ℕ) → Contains due id → (competes u id ≡ false) ⊎ IsNotFreed wide id turns
  releases_free [] turns w u none run id (k, lt, at) = absurd (omega (arith, lt))
  releases_free (x ∷ xs) turns w u (one, rest, r, parts, by, more) run id (zero, lt, at) =
      let cut = runs-cut may w u one rest (subst (λ (l : List Turn). Runs may w l u) parts run) in
      elim (is_freed r) as (λ (b : Bool). is_freed r ≡ b → (competes u id ≡ false) ⊎ IsNotFreed wide id turns) [
        | true ↦ λ is. inl (stays_away id rest cut.0 u (said_releases wide xs rest more) cut.2 (subst (λ (i : ℕ). competes cut.0 i ≡ false) at (release_frees x r one w cut.0 by is cut.1)))
        | false ↦ λ not. inr (record { before = []; one = one; after = rest; parts = parts; reply = r; by = subst (λ (i : ℕ). IsReleaseBy wide i r one) at by; not = not })
      ] refl
  releases_free (x ∷ xs) turns w u (one, rest, r, parts, by, more) run id (suc k, lt, at) =
      let cut = runs-cut may w u one rest (subst (λ (l : List Turn). Runs may w l u) parts run) in
      elim (releases_free xs rest cut.0 u more cut.2 id (k, omega (arith, lt), at)) as (λ _. (competes u id ≡ false) ⊎ IsNotFreed wide id turns) [
        | inl away ↦ inl away
        | inr kept ↦ inr (record {
          before = one ++ kept.before;
          one = kept.one;
          after = kept.after;
          parts = parts ∙ ap (λ (l : List Turn). one ++ l) kept.parts ∙ sym (append_assoc one kept.before (kept.one ++ kept.after));
          reply = kept.reply;
          by = kept.by;
          not = kept.not;
        })
      ]
