-- the index of identities: each bucket has its last one, and each the one before it in its bucket
use Rattle.std.proofs.Common.{◌≡◌, ◌≢◌, ◌≤◌, ◌<◌, ℕ, zero, suc, cond, ◌==◌, List, [], ◌∷◌, ◌++◌, None, length, get_or, set, inl, inr, refl, sym, ap, subst, ◌∙◌, arith}
use Rattle.model_pool.proofs.Common.{eqb_tells, leb_tells}
use Rattle.std.proofs.lemmas.List.{get_or-map, length-map, get_or_default, get_or_append_left, get_or-set_other, length-set, length-append}
use Rattle.std.proofs.Math.Seq.{get_or-append_seam}
use Rattle.std.proofs.lemmas.Grind.{get_or-set_at}
use Rattle.model_pool.specs.declared.entry.Entry.{Entry}
use Rattle.model_pool.specs.Roster.{AreIndexed, latest, bucket, noted}
use Rattle.model_pool.proofs.RosterLemmas.{AreOthers}

-- a is where the last of the first n stands that is in this bucket, counted from 1, or 0 if there is none
record IsLatest (ids : List ℕ) (width b n a : ℕ) : Type 0 where
  within : a ≤ n
  own : (j : ℕ) → suc j ≡ a → bucket width (get_or ids j 0) ≡ b
  passed : (j : ℕ) → a ≤ j → j < n → bucket width (get_or ids j 0) ≢ b

latest_is : (ids : List ℕ) (width b n : ℕ) → IsLatest ids width b n (latest ids width b n)
latest_is ids width b zero = record { within = omega arith; own = λ j e. absurd (omega (arith, e)); passed = λ j from inside. absurd (omega (arith, inside)) }
latest_is ids width b (suc n) = elim (eqb_tells (bucket width (get_or ids n 0)) b) [
  | inl e ↦ rw e.0 (record {
    within = omega arith;
    own = λ j same. let at : n ≡ j = omega (arith, same) in subst (λ (k : ℕ). bucket width (get_or ids k 0) ≡ b) at e.1;
    passed = λ j from inside. absurd (omega (arith, from, inside));
  })
  | inr e ↦
      let l = latest_is ids width b n in
      rw e.0 (record {
        within = omega (arith, l.within);
        own = l.own;
        passed = λ j from inside. elim (eqb_tells j n) [
          | inl v ↦ subst (λ (k : ℕ). bucket width (get_or ids k 0) ≢ b) (sym v.1) e.1
          | inr v ↦ l.passed j from (let apart = v.1 in omega (arith, inside, apart))
        ];
      })
]

-- what is told of the first ones does not hang on those after them
latest-prefix : (ids more : List ℕ) (width b n : ℕ) → n ≤ length ids → latest (ids ++ more) width b n ≡ latest ids width b n
latest-prefix ids more width b zero h = refl
latest-prefix ids more width b (suc n) h =
    rw (get_or_append_left ids more 0 n (omega (arith, h)), latest-prefix ids more width b n (omega (arith, h))) refl

latest_more : (ids : List ℕ) (id width b : ℕ) → latest (ids ++ id ∷ []) width b (suc (length ids)) ≡ cond (bucket width id == b) (suc (length ids)) (latest ids width b (length ids))
latest_more ids id width b = rw (get_or-append_seam ids id [] 0, latest-prefix ids (id ∷ []) width b (length ids) (omega arith)) refl

one_longer : (ids : List ℕ) (id : ℕ) → length (ids ++ id ∷ []) ≡ suc (length ids)
one_longer ids id = omega (arith, length-append ids (id ∷ []))

module _ (heads links ids : List ℕ) (id b : ℕ) (i : AreIndexed heads links ids) (own : b ≡ bucket (length heads) id) (inside : b < length heads) where
  last_then : (c : ℕ) → c < length heads → get_or (set heads b (suc (length ids))) c 0 ≡ cond (bucket (length heads) id == c) (suc (length ids)) (latest ids (length heads) c (length ids))
  last_then c below = elim (eqb_tells (bucket (length heads) id) c) [
    | inl e ↦ rw e.0 (get_or-set_at heads b c (suc (length ids)) 0 (sym e.1 ∙ sym own) inside)
    | inr e ↦ rw e.0 (get_or-set_other heads b c (suc (length ids)) 0 (λ same. e.1 (sym own ∙ sym same)) ∙ i.heads_are c below)
  ]

  heads_then : (c : ℕ) → c < length heads → get_or (set heads b (suc (length ids))) c 0 ≡ latest (ids ++ id ∷ []) (length heads) c (length (ids ++ id ∷ []))
  heads_then c below = last_then c below ∙ sym (latest_more ids id (length heads) c) ∙ ap (latest (ids ++ id ∷ []) (length heads) c) (sym (one_longer ids id))

  links_then : (k : ℕ) → k < length (ids ++ id ∷ []) →
      get_or (links ++ get_or heads b 0 ∷ []) k 0 ≡ latest (ids ++ id ∷ []) (length heads) (bucket (length heads) (get_or (ids ++ id ∷ []) k 0)) k
  links_then k below = elim (eqb_tells k (length ids)) [
    | inl e ↦ rw (e.1, get_or-append_seam ids id [] 0, latest-prefix ids (id ∷ []) (length heads) (bucket (length heads) id) (length ids) (omega arith), ← i.many, get_or-append_seam links (get_or heads b 0) [] 0)
        (i.heads_are b inside ∙ rw (own, i.many) refl)
    | inr e ↦
        let short : k < length ids = (let apart = e.1 in omega (arith, below, one_longer ids id, apart)) in
        rw (
          get_or_append_left links (get_or heads b 0 ∷ []) 0 k (omega (arith, short, i.many)),
          get_or_append_left ids (id ∷ []) 0 k short,
          latest-prefix ids (id ∷ []) (length heads) (bucket (length heads) (get_or ids k 0)) k (omega (arith, short)),
        )
        (i.links_are k short)
  ]

  -- one more identity is noted
  pub noted_one : AreIndexed (set heads b (suc (length ids))) (links ++ get_or heads b 0 ∷ []) (ids ++ id ∷ [])
  noted_one =
      let wide : length (set heads b (suc (length ids))) ≡ length heads = length-set heads b (suc (length ids)) in
      record {
        many = omega (arith, i.many, one_longer ids id, length-append links (get_or heads b 0 ∷ []));
        heads_are = λ c below. rw wide (heads_then c (omega (arith, below, wide)));
        links_are = λ k below. rw wide (links_then k below);
      }

-- nothing is noted where all buckets are clear
pub none_noted : (heads : List ℕ) → ((b : ℕ) → b < length heads → get_or heads b 0 ≡ 0) → AreIndexed heads [] []
none_noted heads clear = record { many = refl; heads_are = clear; links_are = λ i inside. absurd (omega (arith, inside)) }

-- a walk through the identities of the bucket of one has come to this entry, counted from 1: no entry from there on is it
pub record IsReached (es : List Entry) (width id at : ℕ) : Type 0 where
  pub within : at ≤ length es
  pub own : (j : ℕ) → suc j ≡ at → bucket width (get_or (noted es) j 0) ≡ bucket width id
  pub others : AreOthers es id at

noted_at : (es : List Entry) (j : ℕ) (d : Entry) → j < length es → get_or (noted es) j 0 ≡ (get_or es j d).identity
noted_at es j d inside = get_or-map (λ e. e.identity) es j d 0 inside

module _ (heads links : List ℕ) (es : List Entry) (id : ℕ) (i : AreIndexed heads links (noted es)) where
  long : length (noted es) ≡ length es
  long = length-map es (λ e. e.identity)

  pub reached_first : bucket (length heads) id < length heads → IsReached es (length heads) id (get_or heads (bucket (length heads) id) 0)
  reached_first inside =
      let b = bucket (length heads) id in
      let l = latest_is (noted es) (length heads) b (length (noted es)) in
      rw (i.heads_are b inside) (record {
        within = omega (arith, l.within, long);
        own = l.own;
        others = λ j from below d same. absurd (l.passed j from (omega (arith, below, long)) (ap (bucket (length heads)) (noted_at es j d below ∙ same)));
      })

  pub reached_less : (k : ℕ) → k < length es → get_or links k 0 ≤ k
  reached_less k inside =
      let l = latest_is (noted es) (length heads) (bucket (length heads) (get_or (noted es) k 0)) k in
      rw (i.links_are k (omega (arith, inside, long))) l.within

  pub reached_next : (at k : ℕ) → (d : Entry) → IsReached es (length heads) id at → suc k ≡ at → ((get_or es k d).identity ≡ id → (get_or es k d).stay ≡ None) → IsReached es (length heads) id (get_or links k 0)
  reached_next at k x r here other =
      let inside : k < length es = omega (arith, here, r.within) in
      let own = r.own k here in
      let l = latest_is (noted es) (length heads) (bucket (length heads) (get_or (noted es) k 0)) k in
      rw (i.links_are k (omega (arith, inside, long))) (record {
        within = omega (arith, l.within, inside);
        own = λ j same. l.own j same ∙ own;
        others = λ j from below d same. elim (eqb_tells j k) [
          | inl e ↦
              let is : get_or es j d ≡ get_or es k x = ap (λ (n : ℕ). get_or es n d) e.1 ∙ get_or_default es k d x inside in
              ap (λ v. v.stay) is ∙ other (sym (ap (λ v. v.identity) is) ∙ same)
          | inr e ↦ elim (leb_tells j k) [
            | inl v ↦ absurd (l.passed j from (let apart = e.1 in let less = v.1 in omega (arith, less, apart)) (ap (bucket (length heads)) (noted_at es j d below ∙ same) ∙ sym own))
            | inr v ↦ r.others j (let more = v.1 in omega (arith, more, here)) below d same
          ]
        ];
      })
