-- competitors whose identities are distinct, and the entries that they are
use Rattle.std.proofs.Common.{◌≡◌, ◌≤◌, ◌<◌, ◌+◌, ℕ, zero, suc, true, false, cond, filter, ◌≢◌, ◌==◌, List, [], ◌∷◌, ◌++◌, Option, Some, None, length, get_or, set, take, inl, inr, refl, sym, ap, subst, ◌∙◌, arith, is_some, All, IfSome}
use Rattle.model_steps.specs.Registers.{answer_of}
use Rattle.std.proofs.lemmas.Bool.{cases_Bool}
use Rattle.model_pool.proofs.Common.{eqb_tells, leb_tells, Registers, Seeking, Settled, probe_access, stay_probed, Decides-eqb, nat_tests, Competitor, Stay, IsWithin, stay_of, with_stay, without, set_at-other}
use Rattle.model_pool.specs.declared.entry.Entry.{Entry}
use Rattle.model_pool.specs.Roster.{AreDistinct, IsEntry, live, live_one, noted}
use Rattle.std.proofs.lemmas.List.{get_or_default, take_more, append_assoc, map-append}
use Rattle.std.proofs.Math.Seq.{map-set_same}
use Rattle.model_pool.proofs.Counts.{without-absent, count-absent}
use Rattle.model_pool.proofs.StayOfLemmas.{stay_of-push, stay_of-without}

-- an entry of this identity
abbrev pub entry : ℕ → Option Stay → Entry
entry id stay = record { identity = id; stay = stay }

-- another's state is put
stay_elsewhere : (q : ℕ) (cs : List Competitor) (id : ℕ) (stay : Stay) → q ≢ id → stay_of q (with_stay id stay cs) ≡ stay_of q cs
stay_elsewhere q [] id stay n = refl
stay_elsewhere q (c ∷ cs) id stay n = let rest = stay_elsewhere q cs id stay n in grind (arith, nat_tests)

pub distinct_put : (cs : List Competitor) (id : ℕ) (stay : Stay) → AreDistinct cs → AreDistinct (with_stay id stay cs)
distinct_put [] id stay h = tt
distinct_put (c ∷ cs) id stay h = elim (eqb_tells c.identity id) [
  | inl e ↦ rw e.0 (ap (λ (q : ℕ). stay_of q cs) (sym e.1) ∙ h.0, h.1)
  | inr e ↦ rw e.0 (stay_elsewhere c.identity cs id stay e.1 ∙ h.0, distinct_put cs id stay h.1)
]

pub distinct_push : (cs : List Competitor) (new : Competitor) → stay_of new.identity cs ≡ None → AreDistinct cs → AreDistinct (cs ++ new ∷ [])
distinct_push [] new h d = (refl, tt)
distinct_push (c ∷ cs) new h d = elim (eqb_tells c.identity new.identity) [
  | inl e ↦ absurd (let no : Some c.stay ≡ None = rw e.0 at h in cc)
  | inr e ↦
      let absent = rw e.0 at h in
      (stay_of-push cs new absent c.identity ∙ set_at-other (λ v. stay_of v cs) new.identity (Some new.stay) c.identity e.1 ∙ d.0, distinct_push cs new absent d.1)
]

absent_without : (q id : ℕ) (cs : List Competitor) → stay_of q cs ≡ None → stay_of q (without id cs) ≡ None
absent_without q id cs h = stay_of-without cs id q ∙ grind (arith, nat_tests)

pub distinct_without : (id : ℕ) (cs : List Competitor) → AreDistinct cs → AreDistinct (without id cs)
distinct_without id [] d = tt
distinct_without id (c ∷ cs) d = elim (eqb_tells c.identity id) [
  | inl e ↦ rw e.0 (distinct_without id cs d.1)
  | inr e ↦ rw e.0 (absent_without c.identity id cs d.0, distinct_without id cs d.1)
]

-- where an identity does not compete, nothing of it is put or removed
pub put_absent : (id : ℕ) (stay : Stay) (cs : List Competitor) → stay_of id cs ≡ None → with_stay id stay cs ≡ cs
put_absent id stay [] h = refl
put_absent id stay (c ∷ cs) h = let rest : stay_of id cs ≡ None → with_stay id stay cs ≡ cs = put_absent id stay cs in grind (arith, nat_tests)

pub left_absent : (id : ℕ) (cs : List Competitor) → stay_of id cs ≡ None → without id cs ≡ cs
left_absent id cs h = without-absent cs id (count-absent cs id h)

-- entries after others
live_one-append : (id : ℕ) (s : Option Stay) (cs ds : List Competitor) → live_one id s (cs ++ ds) ≡ live_one id s cs ++ ds
live_one-append id None cs ds = refl
live_one-append id (Some stay) cs ds = refl

pub live-append : (es fs : List Entry) → live (es ++ fs) ≡ live es ++ live fs
live-append [] fs = refl
live-append (e ∷ es) fs = ap (live_one e.identity e.stay) (live-append es fs) ∙ live_one-append e.identity e.stay (live es) (live fs)

-- no entry from this index on is a competitor of the identity
abbrev pub AreOthers : List Entry → ℕ → ℕ → Type 0
AreOthers es id first = (j : ℕ) → first ≤ j → j < length es → (d : Entry) → (get_or es j d).identity ≡ id → (get_or es j d).stay ≡ None

other_past : (id i : ℕ) (s : Option Stay) (cs : List Competitor) → (i ≡ id → s ≡ None) → stay_of id cs ≡ None → stay_of id (live_one i s cs) ≡ None
other_past id i None cs other h = h
other_past id i (Some stay) cs other h = elim (eqb_tells i id) [
  | inl e ↦ absurd (let no : Some stay ≡ None = other e.1 in cc)
  | inr e ↦ rw e.0 h
]

pub all_others : (es : List Entry) (id : ℕ) → AreOthers es id 0 → stay_of id (live es) ≡ None
all_others [] id h = refl
all_others (e ∷ es) id h =
    other_past id e.identity e.stay (live es) (h 0 (omega arith) (omega arith) e) (all_others es id (λ j from inside d. h (suc j) (omega arith) (omega (arith, inside)) d))

-- what is after one entry
distinct_past : (id : ℕ) (s : Option Stay) (cs : List Competitor) → AreDistinct (live_one id s cs) → AreDistinct cs
distinct_past id None cs d = d
distinct_past id (Some stay) cs d = d.1

apart_past : (id i : ℕ) (t stay : Stay) (cs : List Competitor) → stay_of i cs ≡ None → stay_of id cs ≡ Some stay → (i == id) ≡ false
apart_past id i t stay cs none h = elim (eqb_tells i id) [
  | inl e ↦ absurd (let no : stay_of id cs ≡ None = subst (λ (k : ℕ). stay_of k cs ≡ None) e.1 none in let both : Some stay ≡ None = sym h ∙ no in cc)
  | inr e ↦ e.0
]

stay_past : (id i : ℕ) (s : Option Stay) (stay : Stay) (cs : List Competitor) → AreDistinct (live_one i s cs) → stay_of id cs ≡ Some stay → stay_of id (live_one i s cs) ≡ Some stay
stay_past id i None stay cs d h = h
stay_past id i (Some t) stay cs d h = rw (apart_past id i t stay cs d.0 h) h

put_past : (id i : ℕ) (s : Option Stay) (stay new : Stay) (cs : List Competitor) → AreDistinct (live_one i s cs) → stay_of id cs ≡ Some stay →
    with_stay id new (live_one i s cs) ≡ live_one i s (with_stay id new cs)
put_past id i None stay new cs d h = refl
put_past id i (Some t) stay new cs d h = rw (apart_past id i t stay cs d.0 h) refl

left_past : (id i : ℕ) (s : Option Stay) (stay : Stay) (cs : List Competitor) → AreDistinct (live_one i s cs) → stay_of id cs ≡ Some stay →
    without id (live_one i s cs) ≡ live_one i s (without id cs)
left_past id i None stay cs d h = refl
left_past id i (Some t) stay cs d h = rw (apart_past id i t stay cs d.0 h) refl

own_test : (id : ℕ) → (id == id) ≡ true
own_test id = (Decides-eqb id id).1 refl

-- an entry that is a competitor is the one of its identity
pub stay_here : (es : List Entry) (id at : ℕ) (stay : Stay) → AreDistinct (live es) → at < length es → ((d : Entry) → get_or es at d ≡ entry id (Some stay)) → stay_of id (live es) ≡ Some stay
stay_here [] id at stay d inside is = absurd (omega (arith, inside))
stay_here (e ∷ es) id zero stay d inside is = rw (is e, own_test id) refl
stay_here (e ∷ es) id (suc k) stay d inside is =
    stay_past id e.identity e.stay stay (live es) d (stay_here es id k stay (distinct_past e.identity e.stay (live es) d) (omega (arith, inside)) is)

-- another state of it is put there
pub live_put : (es : List Entry) (id at : ℕ) (stay new : Stay) → AreDistinct (live es) → at < length es → ((d : Entry) → get_or es at d ≡ entry id (Some stay)) →
    live (set es at (entry id (Some new))) ≡ with_stay id new (live es)
live_put [] id at stay new d inside is = absurd (omega (arith, inside))
live_put (e ∷ es) id zero stay new d inside is = rw (is e, own_test id) refl
live_put (e ∷ es) id (suc k) stay new d inside is =
    let past = distinct_past e.identity e.stay (live es) d in
    let below : k < length es = omega (arith, inside) in
    ap (live_one e.identity e.stay) (live_put es id k stay new past below is) ∙ sym (put_past id e.identity e.stay stay new (live es) d (stay_here es id k stay past below is))

-- it has left
pub live_left : (es : List Entry) (id at : ℕ) (stay : Stay) → AreDistinct (live es) → at < length es → ((d : Entry) → get_or es at d ≡ entry id (Some stay)) →
    live (set es at (entry id None)) ≡ without id (live es)
live_left [] id at stay d inside is = absurd (omega (arith, inside))
live_left (e ∷ es) id zero stay d inside is =
    let here : AreDistinct (live_one id (Some stay) (live es)) = rw (is e) at d in
    rw (is e, own_test id) (sym (left_absent id (live es) here.0))
live_left (e ∷ es) id (suc k) stay d inside is =
    let past = distinct_past e.identity e.stay (live es) d in
    let below : k < length es = omega (arith, inside) in
    ap (live_one e.identity e.stay) (live_left es id k stay past below is) ∙ sym (left_past id e.identity e.stay stay (live es) d (stay_here es id k stay past below is))

-- how many compete then
long_past : (id m : ℕ) (s : Option Stay) (cs ds : List Competitor) → length cs + m ≡ length ds → length (live_one id s cs) + m ≡ length (live_one id s ds)
long_past id m None cs ds h = h
long_past id m (Some stay) cs ds h = omega (arith, h)

pub long_put : (es : List Entry) (id at : ℕ) (stay new : Stay) → at < length es → ((d : Entry) → get_or es at d ≡ entry id (Some stay)) → length (live (set es at (entry id (Some new)))) + 0 ≡ length (live es)
long_put [] id at stay new inside is = absurd (omega (arith, inside))
long_put (e ∷ es) id zero stay new inside is = rw (is e) (omega arith)
long_put (e ∷ es) id (suc k) stay new inside is = long_past e.identity 0 e.stay (live (set es k (entry id (Some new)))) (live es) (long_put es id k stay new (omega (arith, inside)) is)

pub long_left : (es : List Entry) (id at : ℕ) (stay : Stay) → at < length es → ((d : Entry) → get_or es at d ≡ entry id (Some stay)) → length (live (set es at (entry id None))) + 1 ≡ length (live es)
long_left [] id at stay inside is = absurd (omega (arith, inside))
long_left (e ∷ es) id zero stay inside is = rw (is e) (omega arith)
long_left (e ∷ es) id (suc k) stay inside is = long_past e.identity 1 e.stay (live (set es k (entry id None))) (live es) (long_left es id k stay (omega (arith, inside)) is)

-- those that have not left

kept_one : (id : ℕ) (s : Option Stay) (es fs : List Entry) → live fs ≡ live es → live (cond (is_some s) (entry id s ∷ fs) fs) ≡ live_one id s (live es)
kept_one id None es fs h = h
kept_one id (Some stay) es fs h = ap (live_one id (Some stay)) h

pub live_kept : (es : List Entry) → live (filter (λ e. is_some e.stay) es) ≡ live es
live_kept [] = refl
live_kept (e ∷ es) = kept_one e.identity e.stay es (filter (λ e. is_some e.stay) es) (live_kept es)

few_one : (id : ℕ) (s : Option Stay) (fs : List Entry) → length fs ≡ length (live fs) → length (cond (is_some s) (entry id s ∷ fs) fs) ≡ length (live (cond (is_some s) (entry id s ∷ fs) fs))
few_one id None fs h = h
few_one id (Some stay) fs h = omega (arith, h)

pub few_kept : (es : List Entry) → length (filter (λ e. is_some e.stay) es) ≡ length (live (filter (λ e. is_some e.stay) es))
few_kept [] = refl
few_kept (e ∷ es) = few_one e.identity e.stay (filter (λ e. is_some e.stay) es) (few_kept es)

-- no more compete than have entries
less_past : (id : ℕ) (s : Option Stay) (cs : List Competitor) (n : ℕ) → length cs ≤ n → length (live_one id s cs) ≤ suc n
less_past id None cs n h = omega (arith, h)
less_past id (Some stay) cs n h = omega (arith, h)

pub few_live : (es : List Entry) → length (live es) ≤ length es
few_live [] = omega arith
few_live (e ∷ es) = less_past e.identity e.stay (live es) (length es) (few_live es)

-- an entry that was met is the one of its identity
met_by : (es : List Entry) (id at : ℕ) (d : Entry) (s : Option Stay) → at < length es → (get_or es at d).identity ≡ id → (get_or es at d).stay ≡ s → is_some s ≡ true → IsEntry es id at
met_by es id at d None inside own here h = absurd (cc)
met_by es id at d (Some stay) inside own here h = record {
  inside = inside;
  stay = stay;
  is = λ e. get_or_default es at e d inside ∙ ap (λ (i : ℕ). entry i (get_or es at d).stay) own ∙ ap (entry id) here;
}

pub met : (es : List Entry) (id at : ℕ) (d : Entry) → at < length es → (get_or es at d).identity ≡ id → is_some (get_or es at d).stay ≡ true → IsEntry es id at
met es id at d inside own h = met_by es id at d (get_or es at d).stay inside own refl h

-- the identities that are noted stay where one's state changes
pub noted_set : (es : List Entry) (id at : ℕ) (s new : Option Stay) → ((d : Entry) → get_or es at d ≡ entry id s) → noted (set es at (entry id new)) ≡ noted es
noted_set es id at s new is = map-set_same (λ e. e.identity) es at (entry id new) (entry id new) (sym (ap (λ e. e.identity) (is (entry id new))))

-- one more entry is copied
pub copied_one : (es : List Entry) (i : ℕ) (x : Entry) (first : List Competitor) → i < length es → first ++ live (take (i + 1) es) ≡ (first ++ live (take i es)) ++ live_one (get_or es i x).identity (get_or es i x).stay []
copied_one es i x first inside =
    ap (λ fs. first ++ live fs) (take_more es i x inside) ∙ ap (λ cs. first ++ cs) (live-append (take i es) (get_or es i x ∷ [])) ∙ sym (append_assoc first (live (take i es)) (live_one (get_or es i x).identity (get_or es i x).stay []))

-- one more entry, which is a competitor
pub live_more : (es : List Entry) (id : ℕ) (stay : Stay) → live (es ++ entry id (Some stay) ∷ []) ≡ live es ++ record { identity = id; stay = stay } ∷ []
live_more es id stay = live-append es (entry id (Some stay) ∷ [])

pub noted_more : (es : List Entry) (e : Entry) → noted (es ++ e ∷ []) ≡ noted es ++ e.identity ∷ []
noted_more es e = map-append (λ e. e.identity) es (e ∷ [])

-- the state of one who competes is within the pool, as all are
pub stay_within : (size id : ℕ) (cs : List Competitor) (s : Option Stay) → All (λ c. IsWithin size c.stay) cs → s ≡ stay_of id cs → IfSome s (λ stay. IsWithin size stay)
stay_within size id [] s all h = rw h tt
stay_within size id (c ∷ cs) s all h = elim (eqb_tells c.identity id) [
  | inl e ↦ let is : s ≡ Some c.stay = rw e.0 at h in rw is (all 0 c (omega arith))
  | inr e ↦ stay_within size id cs s (λ i d inside. all (suc i) d (omega (arith, inside))) (rw e.0 at h)
]

-- all are within the pool still where one gets another state that is
all_more : (size : ℕ) (c : Competitor) (cs : List Competitor) → IsWithin size c.stay → All (λ c. IsWithin size c.stay) cs → All (λ c. IsWithin size c.stay) (c ∷ cs)
all_more size c cs h all zero d inside = h
all_more size c cs h all (suc k) d inside = all k d (omega (arith, inside))

all_rest : (size : ℕ) (c : Competitor) (cs : List Competitor) → All (λ c. IsWithin size c.stay) (c ∷ cs) → All (λ c. IsWithin size c.stay) cs
all_rest size c cs all k d inside = all (suc k) d (omega (arith, inside))

pub stays_put : (size id : ℕ) (new : Stay) (cs : List Competitor) → IsWithin size new → All (λ c. IsWithin size c.stay) cs → All (λ c. IsWithin size c.stay) (with_stay id new cs)
stays_put size id new [] h all = all
stays_put size id new (c ∷ cs) h all = elim (eqb_tells c.identity id) [
  | inl e ↦ rw e.0 (all_more size (record { identity = id; stay = new }) cs h (all_rest size c cs all))
  | inr e ↦ rw e.0 (all_more size c (with_stay id new cs) (all 0 c (omega arith)) (stays_put size id new cs h (all_rest size c cs all)))
]

-- a probe leaves a state within the pool
pub within_next : (size : ℕ) (stay : Stay) (bits : Registers (Unit {0})) → 1 ≤ size → IsWithin size stay → IsWithin size (stay_probed size stay (answer_of bits (probe_access size stay)))
within_next size (Settled number) bits first h = h
within_next size (Seeking next) bits first h = elim (leb_tells (suc next) size) [
  | inr end ↦ rw end.0 (first, omega arith)
  | inl below ↦
      let inside = below.1 in
      let low : 1 ≤ next = h in
      elim (cases_Bool (get_or bits.bits next false)) [
        | inr clear ↦ rw (below.0, clear) (low, omega (arith, inside))
        | inl was ↦ elim (leb_tells (suc (next + 1)) size) [
          | inl more ↦ rw (below.0, was, more.0) (omega arith)
          | inr end ↦ rw (below.0, was, end.0) (first, omega arith)
        ]
      ]
]
