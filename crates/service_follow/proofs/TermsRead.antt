-- terms, written and read back
use Rattle.std.proofs.Common.{◌≡◌, ◌≢◌, ◌<◌, ◌≤◌, ◌+◌, ◌-◌, ◌^◌, ◌∷◌, ◌++◌, ℕ, suc, Bool, true, false, Option, Some, None, List, [], length, take, drop, inl, inr, refl, sym, ap, subst, ◌∙◌, arith, append_assoc, length-append}
use Rattle.std.specs.List.{All}
use Rattle.std.specs.Cmp.Lexicographic.{pointwise}
use Rattle.std.specs.Prelude.{codes, min, nat_eq, slice_get}
use Rattle.std.proofs.lemmas.Bool.Decides.{eqb_tells, leb_tells}
use Rattle.service_hall.specs.declared.reads.Reads.{Reads}
use Rattle.service_hall.specs.declared.rules.Rules.{Rules}
use Rattle.service_hall.specs.declared.reads.Reads.TheVariants.{Logged, Plain}
use Rattle.service_follow.specs.Batches.{batch_by, head_of, hex_digits, told_by, told_of}
use Rattle.service_follow.specs.Entries.{behind_first_line, is_there}
use Rattle.service_follow.specs.Marks.{number_of}
use Rattle.service_follow.specs.Tellings.{first_entry}
use Rattle.service_follow.specs.Terms.{IsTerms, change_entry, first_long, terms_by, terms_number, terms_of, terms_text, text_tells}
use Rattle.service_follow.specs.TermsChanges.{AreTerms, IsTermsRead}
use Rattle.service_follow.specs.declared.hall_terms.HallTerms.{HallTerms}
use Rattle.service_follow.specs.declared.hall_terms.HallTerms.TheVariants.{Forever, Grace}
use Rattle.service_follow.specs.declared.hall_terms.ToldTerms.{ToldTerms}
use Rattle.service_follow.proofs.Heads.{behind_batch, behind_head, byte_behind, digits_many, digits_plain, head_long, head_plain}
use Rattle.service_follow.proofs.Told.{back, front, further, kind_read, number_read}

-- ---- numbers of terms

number_fits : (terms : HallTerms) → IsTerms terms → terms_number terms < 2 ^ 64
number_fits Forever small = omega arith
number_fits (Grace seconds) small = omega (arith, small)

terms_back : (terms : HallTerms) → IsTerms terms → terms_by (terms_number terms) ≡ terms
terms_back Forever small = refl
terms_back (Grace seconds) small =
    let low : seconds + 1 - 1 ≡ seconds = omega arith in
    let within : min (seconds + 1 - 1) 4294967295 ≡ seconds = omega (arith, small) in
    elim (eqb_tells (seconds + 1) 0) [ inl e ↦ absurd (let z = e.1 in omega (arith, z)) | inr e ↦ rw e.0 (ap Grace within) ]

number_back : (terms : HallTerms) (rest : List ℕ) → IsTerms terms → terms_by (number_of (take 16 (hex_digits 16 (terms_number terms) ++ rest))) ≡ terms
number_back terms rest small = ap terms_by (number_read (terms_number terms) rest (number_fits terms small)) ∙ terms_back terms small

-- ---- the text

text_long : (t : ToldTerms) → length (terms_text t) ≡ 44
text_long t =
    let a = length-append (hex_digits 16 (terms_number t.terms)) (codes " was " ++ hex_digits 16 (terms_number t.was)) in
    let b = digits_many 16 (terms_number t.terms) in
    let c = digits_many 16 (terms_number t.was) in
    omega (arith, a, b, c)

-- a text before other bytes
text_before : (t : ToldTerms) (rest : List ℕ) →
    terms_text t ++ rest ≡ codes " terms " ++ (hex_digits 16 (terms_number t.terms) ++ (codes " was " ++ (hex_digits 16 (terms_number t.was) ++ rest)))
text_before t rest =
    let new = hex_digits 16 (terms_number t.terms) in
    let old = hex_digits 16 (terms_number t.was) in
    ap (λ (l : List ℕ). codes " terms " ++ l) (append_assoc new (codes " was " ++ old) rest)

tells_if : (text : List ℕ) → pointwise nat_eq (take 7 text) (codes " terms ") ≡ true → pointwise nat_eq (take 5 (drop 23 text)) (codes " was ") ≡ true →
    is_there (slice_get text 44) 10 ≡ true →
    text_tells text ≡ Some (record { terms = terms_by (number_of (take 16 (drop 7 text))); was = terms_by (number_of (take 16 (drop 28 text))) })
tells_if text one two three = rw (one, two, three) refl

byte_past : (xs ys : List ℕ) (n k : ℕ) → length xs ≡ n → slice_get (xs ++ ys) (n + k) ≡ slice_get ys k
byte_past xs ys n k long = subst (λ (m : ℕ). slice_get (xs ++ ys) (m + k) ≡ slice_get ys k) long (byte_behind xs ys k)

same_told : (a b c d : HallTerms) → a ≡ c → b ≡ d → ◌≡◌ {A = ToldTerms} (record { terms = a; was = b }) (record { terms = c; was = d })
same_told a b c d one two =
    ap (λ (x : HallTerms). let t : ToldTerms = record { terms = x; was = b } in t) one ∙ ap (λ (x : HallTerms). let t : ToldTerms = record { terms = c; was = x } in t) two

text_told : (t : ToldTerms) → AreTerms (Some t) → text_tells (terms_text t ++ 10 ∷ []) ≡ Some t
text_told t fits =
    let new = hex_digits 16 (terms_number t.terms) in
    let old = hex_digits 16 (terms_number t.was) in
    let end : List ℕ = 10 ∷ [] in
    let behind : List ℕ = codes " was " ++ (old ++ end) in
    let text : List ℕ = codes " terms " ++ (new ++ behind) in
    let new_long = digits_many 16 (terms_number t.terms) in
    let old_long = digits_many 16 (terms_number t.was) in
    let there : drop 23 text ≡ behind = back new behind 16 new_long in
    let further_on : drop 28 text ≡ old ++ end = further new behind 16 5 new_long in
    let word : pointwise nat_eq (take 5 (drop 23 text)) (codes " was ") ≡ true = ap (λ (l : List ℕ). pointwise nat_eq (take 5 l) (codes " was ")) there in
    let byte : slice_get text 44 ≡ Some 10 = byte_past new behind 16 21 new_long ∙ byte_past old end 16 0 old_long in
    let ended : is_there (slice_get text 44) 10 ≡ true = ap (λ (o : Option ℕ). is_there o 10) byte in
    let first : terms_by (number_of (take 16 (drop 7 text))) ≡ t.terms = number_back t.terms behind fits.0 in
    let second : terms_by (number_of (take 16 (drop 28 text))) ≡ t.was = ap (λ (l : List ℕ). terms_by (number_of (take 16 l))) further_on ∙ number_back t.was end fits.1 in
    ap text_tells (text_before t end) ∙ (tells_if text refl word ended ∙ ap Some (same_told _ _ t.terms t.was first second))

-- the text is written in four parts
pub text_pushed : (t : ToldTerms) (line one two three four : List ℕ) → one ≡ line ++ codes " terms " → two ≡ one ++ hex_digits 16 (terms_number t.terms) →
    three ≡ two ++ codes " was " → four ≡ three ++ hex_digits 16 (terms_number t.was) → four ≡ line ++ terms_text t
text_pushed t line one two three four a b c d =
    let new = hex_digits 16 (terms_number t.terms) in
    let old = hex_digits 16 (terms_number t.was) in
    d ∙ (ap (λ (l : List ℕ). l ++ old) c
    ∙ (append_assoc two (codes " was ") old
    ∙ (ap (λ (l : List ℕ). l ++ (codes " was " ++ old)) b
    ∙ (append_assoc one new (codes " was " ++ old)
    ∙ (ap (λ (l : List ℕ). l ++ (new ++ (codes " was " ++ old))) a ∙ append_assoc line (codes " terms ") (new ++ (codes " was " ++ old)))))))

-- ---- first lines

pub behind_short : (entry : List ℕ) → length (behind_first_line entry) ≤ length entry
behind_short [] = omega arith
behind_short (b ∷ bs) =
    let more = behind_short bs in
    elim (eqb_tells b 10) [ inl e ↦ rw e.0 (omega arith) | inr e ↦ rw e.0 (omega (arith, more)) ]

-- bytes of which none ends a line are passed over
through : (head rest : List ℕ) → All (λ b. b ≢ 10) head → behind_first_line (head ++ rest) ≡ behind_first_line rest
through [] rest h = refl
through (b ∷ head) rest h =
    let differ : b ≢ 10 = h 0 b (omega arith) in
    let more : behind_first_line (head ++ rest) ≡ behind_first_line rest = through head rest (λ k d within. h (suc k) d (omega (arith, within))) in
    elim (eqb_tells b 10) [ inl e ↦ absurd (differ e.1) | inr e ↦ rw e.0 more ]

module _ (head lines : List ℕ) (told : ToldTerms) (passed : (rest : List ℕ) → behind_first_line (head ++ rest) ≡ behind_first_line rest) (long : 33 ≤ length head) (fits : AreTerms (Some told)) where
  abbrev entry : List ℕ
  entry = head ++ (terms_text told ++ 10 ∷ lines)

  behind_is : behind_first_line entry ≡ lines
  behind_is =
      let new = hex_digits 16 (terms_number told.terms) in
      let old = hex_digits 16 (terms_number told.was) in
      passed (terms_text told ++ 10 ∷ lines)
      ∙ (ap behind_first_line (text_before told (10 ∷ lines))
      ∙ (through new (codes " was " ++ (old ++ 10 ∷ lines)) (digits_plain 16 (terms_number told.terms)) ∙ behind_head old lines (digits_plain 16 (terms_number told.was))))

  first_is : first_long entry ≡ length head + 45
  first_is =
      let a = length-append head (terms_text told ++ 10 ∷ lines) in
      let b = length-append (terms_text told) (10 ∷ lines) in
      let c = text_long told in
      let d = ap length behind_is in
      omega (arith, a, b, c, d)

  text_is : take 45 (drop (first_long entry - 45) entry) ≡ terms_text told ++ 10 ∷ []
  text_is =
      let a = first_is in
      let at : first_long entry - 45 ≡ length head = omega (arith, a) in
      let whole : length (terms_text told ++ 10 ∷ []) ≡ 45 = (let b = length-append (terms_text told) (10 ∷ []) in let c = text_long told in omega (arith, b, c)) in
      ap (λ (k : ℕ). take 45 (drop k entry)) at
      ∙ (ap (take 45) (back head (terms_text told ++ 10 ∷ lines) (length head) refl)
      ∙ (ap (take 45) (sym (append_assoc (terms_text told) (10 ∷ []) lines)) ∙ front (terms_text told ++ 10 ∷ []) lines 45 whole))

  read_behind : terms_of entry ≡ Some told
  read_behind =
      let a = first_is in
      elim (leb_tells 78 (first_long entry)) [
        | inl t ↦ rw t.0 (ap text_tells text_is ∙ text_told told fits)
        | inr t ↦ absurd (let b = t.1 in omega (arith, a, b, long))
      ]

-- a shorter first line tells none
untold : (entry : List ℕ) → first_long entry < 78 → terms_of entry ≡ None
untold entry short = elim (leb_tells 78 (first_long entry)) [ inl t ↦ absurd (let a = t.1 in omega (arith, a, short)) | inr t ↦ rw t.0 refl ]

module _ (token : List ℕ) (count : ℕ) (told : ToldTerms) (plain : All (λ b. b ≢ 10) token) (long : length token ≡ 32) (fits : AreTerms (Some told)) where
  abbrev head : List ℕ
  head = head_of token count

  abbrev begun : List ℕ
  begun = head ++ codes " compaction"

  head_is : length head ≡ 49
  head_is = let a = head_long token count in omega (arith, a, long)

  pass_head : (rest : List ℕ) → behind_first_line (head ++ rest) ≡ behind_first_line rest
  pass_head rest = through head rest (head_plain token count plain)

  pass_begun : (rest : List ℕ) → behind_first_line (begun ++ rest) ≡ behind_first_line rest
  pass_begun rest = ap behind_first_line (append_assoc head (codes " compaction") rest) ∙ pass_head (codes " compaction" ++ rest)

  change_read : terms_of (change_entry token count told) ≡ Some told
  change_read = let a = head_is in read_behind head [] told pass_head (omega (arith, a)) fits

  compaction_read : terms_of (first_entry token count (Some told)) ≡ Some told
  compaction_read =
      let a = head_is in
      let b = length-append head (codes " compaction") in
      ap terms_of (sym (append_assoc head (codes " compaction") (terms_text told ++ 10 ∷ []))) ∙ read_behind begun [] told pass_begun (omega (arith, a, b)) fits

  compaction_untold : terms_of (first_entry token count None) ≡ None
  compaction_untold =
      let entry = first_entry token count None in
      let a = head_is in
      let b = length-append head (codes " compaction" ++ 10 ∷ []) in
      untold entry (omega (arith, a, b))

  batch_untold : (rules : Rules) (lines : List ℕ) → terms_of (batch_by rules token count lines) ≡ None
  batch_untold rules lines =
      let a = head_is in
      let b = length-append head (told_of rules ++ 10 ∷ lines) in
      let c = length-append (told_of rules) (10 ∷ lines) in
      let d = ap length (behind_batch rules token count lines plain) in
      let e = few rules.reads rules.widening rules.naming rules.tokens in
      untold (batch_by rules token count lines) (omega (arith, a, b, c, d, e)) where
        few : (reads : Reads) (widening naming tokens : Bool) → length (told_by reads widening naming tokens) < 11
        few Logged true true true = omega arith
        few Logged true true false = omega arith
        few Logged true false true = omega arith
        few Logged true false false = omega arith
        few Logged false true true = omega arith
        few Logged false true false = omega arith
        few Logged false false true = omega arith
        few Logged false false false = omega arith
        few Plain true true true = omega arith
        few Plain true true false = omega arith
        few Plain true false true = omega arith
        few Plain true false false = omega arith
        few Plain false true true = omega arith
        few Plain false true false = omega arith
        few Plain false false true = omega arith
        few Plain false false false = omega arith

  pub terms_read : IsTermsRead token count told
  terms_read = record {
    anywhere = λ bytes lines none many. read_behind bytes lines told (λ rest. through bytes rest none) many fits;
    change = change_read;
    ordinary = kind_read token count long (terms_text told ++ 10 ∷ []);
    silent = behind_is head [] told pass_head (let a = head_is in omega (arith, a)) fits;
    compaction = compaction_read;
    untold = compaction_untold;
    batch = batch_untold;
  }
