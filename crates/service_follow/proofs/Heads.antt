-- first lines of batches
use Rattle.std.proofs.Common.{◌≡◌, ◌≢◌, ◌&&◌, ◌≤◌, ◌<◌, ◌+◌, ◌-◌, ◌*◌, ◌/◌, ◌%◌, ◌^◌, ℕ, zero, suc, cond, Bool, true, false, ◌==◌, if◌then◌else◌, inl, inr, subst, length, List, [], ◌∷◌, ◌++◌, refl, ap, sym, ◌∙◌, arith, append_assoc, length-append, add-one}
use Rattle.std.specs.List.{All}
use Rattle.std.proofs.lemmas.Bool.Decides.{eqb_tells, leb_tells}
use Rattle.std.proofs.lemmas.List.Elements.{All-append, All-cons, All-nil}
use Rattle.std.specs.Prelude.{not, slice_get}
use Rattle.service_hall.specs.declared.reads.Reads.{Reads}
use Rattle.service_hall.specs.declared.reads.Reads.TheVariants.{Logged, Plain}
use Rattle.service_hall.specs.declared.rules.Rules.{Rules}
use Rattle.service_follow.specs.Batches.{batch_by, head_of, hex_digit, hex_digits, told_by, told_of}
use Rattle.service_follow.specs.Entries.{behind_first_line, is_there, rules_of}
use Rattle.service_follow.specs.Marks.{digit_value, number_of}
use Rattle.service_follow.specs.Pauses.{HasWaited}

-- no digit ends a line
digit_plain : (d : ℕ) → hex_digit d ≢ 10
digit_plain d = elim (leb_tells (suc d) 10) [ inl t ↦ rw t.0 (λ e. omega (arith, e)) | inr t ↦ rw t.0 (λ e. omega (arith, e)) ]

pub digits_plain : (k n : ℕ) → All (λ b. b ≢ 10) (hex_digits k n)
digits_plain zero n = let P : ℕ → Type 0 = λ b. b ≢ 10 in All-nil P
digits_plain (suc k) n = let P : ℕ → Type 0 = λ b. b ≢ 10 in All-cons P (hex_digit (n % 16)) (hex_digits k (n / 16)) (digit_plain (n % 16)) (digits_plain k (n / 16))

pub head_plain : (token : List ℕ) (count : ℕ) → All (λ b. b ≢ 10) token → All (λ b. b ≢ 10) (head_of token count)
head_plain token count plain =
    let P : ℕ → Type 0 = λ b. b ≢ 10 in
    let space : 32 ≢ 10 = λ e. omega (arith, e) in
    All-append P token (32 ∷ hex_digits 16 count) plain (All-cons P 32 (hex_digits 16 count) space (digits_plain 16 count))

-- behind bytes of which none ends a line
pub behind_head : (head lines : List ℕ) → All (λ b. b ≢ 10) head → behind_first_line (head ++ 10 ∷ lines) ≡ lines
behind_head [] lines h = refl
behind_head (b ∷ head) lines h =
    let differ : b ≢ 10 = h 0 b (omega arith) in
    let rest : behind_first_line (head ++ 10 ∷ lines) ≡ lines = behind_head head lines (λ k d within. h (suc k) d (omega (arith, within))) in
    let P : Bool → Type 0 = λ t. cond t (head ++ 10 ∷ lines) (behind_first_line (head ++ 10 ∷ lines)) ≡ lines in
    elim (eqb_tells b 10) [ inl e ↦ absurd (differ e.1) | inr e ↦ subst P (sym e.0) rest ]

-- bytes of which a test tells that none ends a line
abbrev ends_none : List ℕ → Bool
ends_none [] = true
ends_none (b ∷ bs) = if b == 10 then false else ends_none bs

none_ends : (bs : List ℕ) → ends_none bs ≡ true → All (λ b. b ≢ 10) bs
none_ends [] h = let P : ℕ → Type 0 = λ b. b ≢ 10 in All-nil P
none_ends (b ∷ bs) h =
    let P : ℕ → Type 0 = λ b. b ≢ 10 in
    elim (eqb_tells b 10) [
      | inl e ↦ absurd (let no : false ≡ true = rw e.0 at h in cc)
      | inr e ↦ let rest : ends_none bs ≡ true = rw e.0 at h in All-cons P b bs e.1 (none_ends bs rest)
    ]

-- the rules that bytes tell which stand behind a token and a count
abbrev bars_in : ℕ → List ℕ → Bool
bars_in place behind = is_there (slice_get behind 0) 32 && (is_there (slice_get behind 6) 32 && is_there (slice_get behind place) 45)

abbrev rules_in : List ℕ → Rules
rules_in behind = record {
  reads = if is_there (slice_get behind 0) 32 && is_there (slice_get behind 1) 112 then Plain else Logged;
  widening = not (bars_in 7 behind);
  naming = not (bars_in 8 behind);
  tokens = is_there (slice_get behind 0) 32 && (is_there (slice_get behind 6) 32 && is_there (slice_get behind 9) 116);
}

-- what tells of the rules ends no line, and is read back
told_so : (lines : List ℕ) (reads : Reads) (widening naming tokens : Bool) → (ends_none (told_by reads widening naming tokens) ≡ true) ×
    (rules_in (told_by reads widening naming tokens ++ 10 ∷ lines) ≡ record { reads = reads; widening = widening; naming = naming; tokens = tokens })
told_so lines Logged true true true = (refl, refl)
told_so lines Logged true true false = (refl, refl)
told_so lines Logged true false true = (refl, refl)
told_so lines Logged true false false = (refl, refl)
told_so lines Logged false true true = (refl, refl)
told_so lines Logged false true false = (refl, refl)
told_so lines Logged false false true = (refl, refl)
told_so lines Logged false false false = (refl, refl)
told_so lines Plain true true true = (refl, refl)
told_so lines Plain true true false = (refl, refl)
told_so lines Plain true false true = (refl, refl)
told_so lines Plain true false false = (refl, refl)
told_so lines Plain false true true = (refl, refl)
told_so lines Plain false true false = (refl, refl)
told_so lines Plain false false true = (refl, refl)
told_so lines Plain false false false = (refl, refl)

rules_back : (rules : Rules) (lines : List ℕ) → rules_in (told_of rules ++ 10 ∷ lines) ≡ rules
rules_back rules lines = (told_so lines rules.reads rules.widening rules.naming rules.tokens).1

told_plain : (rules : Rules) → All (λ b. b ≢ 10) (told_of rules)
told_plain rules = none_ends (told_of rules) (told_so [] rules.reads rules.widening rules.naming rules.tokens).0

pub behind_batch : (rules : Rules) (token : List ℕ) (count : ℕ) (lines : List ℕ) → All (λ b. b ≢ 10) token → behind_first_line (batch_by rules token count lines) ≡ lines
behind_batch rules token count lines plain =
    let P : ℕ → Type 0 = λ b. b ≢ 10 in
    ap behind_first_line (sym (append_assoc (head_of token count) (told_of rules) (10 ∷ lines)))
    ∙ behind_head (head_of token count ++ told_of rules) lines (All-append P (head_of token count) (told_of rules) (head_plain token count plain) (told_plain rules))

-- ---- batches of two counts differ

-- how many numbers so many digits say
abbrev pub sixteens : ℕ → ℕ
sixteens zero = 1
sixteens (suc k) = 16 * sixteens k

value_back : (d : ℕ) → d < 16 → digit_value (hex_digit d) ≡ d
value_back d less = elim (leb_tells (suc d) 10) [
  | inl t ↦
      let digit : hex_digit d ≡ 48 + d = rw t.0 refl in
      elim (leb_tells (suc (48 + d)) 58) [ inl s ↦ ap digit_value digit ∙ rw s.0 (omega arith) | inr s ↦ absurd (let a = t.1 in let b = s.1 in omega (arith, a, b)) ]
  | inr t ↦
      let digit : hex_digit d ≡ 87 + d = rw t.0 refl in
      elim (leb_tells (suc (87 + d)) 58) [ inl s ↦ absurd (let a = t.1 in let b = s.1 in omega (arith, a, b)) | inr s ↦ ap digit_value digit ∙ rw s.0 (omega arith) ]
]

-- digits are read back
pub digits_read : (k n : ℕ) → n < sixteens k → n < 2 ^ 64 → number_of (hex_digits k n) ≡ n
digits_read zero n less fits = omega (arith, less)
digits_read (suc k) n less fits =
    let part : n / 16 < sixteens k = omega (arith, less) in
    let small : n / 16 < 2 ^ 64 = omega (arith, fits) in
    let low = value_back (n % 16) (omega arith) in
    let rest = digits_read k (n / 16) part small in
    rw (low, rest) (omega (arith, fits))

pub digits_many : (k n : ℕ) → length (hex_digits k n) ≡ k
digits_many zero n = refl
digits_many (suc k) n = ap suc (digits_many k (n / 16))

-- two lists of which the fronts are as long
fronts : (xs us ys vs : List ℕ) → length xs ≡ length us → xs ++ ys ≡ us ++ vs → (xs ≡ us) × (ys ≡ vs)
fronts [] [] ys vs long e = (refl, e)
fronts [] (u ∷ us) ys vs long e = absurd (omega (arith, long))
fronts (x ∷ xs) [] ys vs long e = absurd (omega (arith, long))
fronts (x ∷ xs) (u ∷ us) ys vs long e =
    let first : x ≡ u = cc e in
    let rest = fronts xs us ys vs (omega (arith, long)) (cc e) in
    (ap (λ (z : ℕ). z ∷ xs) first ∙ ap (λ (zs : List ℕ). u ∷ zs) rest.0, rest.1)

pub head_long : (token : List ℕ) (count : ℕ) → length (head_of token count) ≡ length token + 17
head_long token count = let a = length-append token (32 ∷ hex_digits 16 count) in let b = digits_many 16 count in omega (arith, a, b)

-- what stands behind the count tells of the rules, and ends there
same_told : (rules others : Rules) (lines more : List ℕ) → told_of rules ++ 10 ∷ lines ≡ told_of others ++ 10 ∷ more → (rules ≡ others) × (lines ≡ more)
same_told rules others lines more e =
    let same : rules ≡ others = sym (rules_back rules lines) ∙ (ap rules_in e ∙ rules_back others more) in
    let one : told_of rules ++ 10 ∷ lines ≡ told_of rules ++ 10 ∷ more = e ∙ ap (λ (r : Rules). told_of r ++ 10 ∷ more) (sym same) in
    let ends = (fronts (told_of rules) (told_of rules) (10 ∷ lines) (10 ∷ more) refl one).1 in
    (same, cc ends)

pub same_batch : (rules others : Rules) (token other : List ℕ) (c d : ℕ) (lines more : List ℕ) → length token ≡ length other → c < 2 ^ 64 → d < 2 ^ 64 →
    batch_by rules token c lines ≡ batch_by others other d more → (rules ≡ others) × (token ≡ other) × (c ≡ d) × (lines ≡ more)
same_batch rules others token other c d lines more long first second e =
    let a = head_long token c in
    let b = head_long other d in
    let parts = fronts (head_of token c) (head_of other d) (told_of rules ++ 10 ∷ lines) (told_of others ++ 10 ∷ more) (omega (arith, a, b, long)) e in
    let heads = fronts token other (32 ∷ hex_digits 16 c) (32 ∷ hex_digits 16 d) long parts.0 in
    let digits : hex_digits 16 c ≡ hex_digits 16 d = cc (heads.1) in
    let told = same_told rules others lines more parts.1 in
    (told.0, heads.0, sym (digits_read 16 c first first) ∙ (ap number_of digits ∙ digits_read 16 d second second), told.1)

-- the byte at a place behind the first bytes of a list
pub byte_behind : (xs ys : List ℕ) (n : ℕ) → slice_get (xs ++ ys) (length xs + n) ≡ slice_get ys n
byte_behind [] ys n = ap (slice_get ys) (omega arith)
byte_behind (x ∷ xs) ys n =
    let same : length (x ∷ xs) + n ≡ suc (length xs + n) = omega arith in
    ap (slice_get (x ∷ (xs ++ ys))) same ∙ byte_behind xs ys n

-- an entry tells its rules
pub told_rules : (rules : Rules) (token : List ℕ) (count : ℕ) (lines : List ℕ) → length token ≡ 32 → rules_of (batch_by rules token count lines) ≡ rules
told_rules rules token count lines long =
    let head = head_of token count in
    let behind = told_of rules ++ 10 ∷ lines in
    let many : length head ≡ 49 = (let a = head_long token count in omega (arith, a, long)) in
    let at : (n : ℕ) → slice_get (head ++ behind) (49 + n) ≡ slice_get behind n = subst (λ (k : ℕ). (n : ℕ) → slice_get (head ++ behind) (k + n) ≡ slice_get behind n) many (byte_behind head behind) in
    rw (at 0, at 1, at 6, at 7, at 8, at 9) (rules_back rules lines)

-- one digit more
pub digits_more : (k n : ℕ) → 1 ≤ k → hex_digits k n ≡ hex_digit (n % 16) ∷ hex_digits (k - 1) (n / 16)
digits_more zero n some = absurd (omega (arith, some))
digits_more (suc k) n some = let e : suc k - 1 ≡ k = omega arith in ap (λ (j : ℕ). hex_digit (n % 16) ∷ hex_digits j (n / 16)) (sym e)

-- ---- one wait more

pub waited_more : {T : Type 0} (waited : T → T → Type 0) (times : ℕ) (before now : T) → HasWaited waited times before → waited before now → HasWaited waited (times + 1) now
waited_more waited times before now so more = subst (λ (n : ℕ). HasWaited waited n now) (sym (add-one times)) (before, so, more)
