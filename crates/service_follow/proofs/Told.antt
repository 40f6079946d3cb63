-- the entries of a compaction, written and read back
use Rattle.std.proofs.Common.{◌≡◌, ◌<◌, ◌+◌, ◌^◌, ◌∷◌, ◌++◌, ℕ, suc, Bool, true, false, if◌then◌else◌, Option, Some, None, List, [], length, take, drop, inl, inr, refl, sym, ap, subst, ◌∙◌, arith, append_assoc, length-append, add-one, drop-cons, get_or}
use Rattle.std.proofs.Math.Seq.{drop-append_seam, drop-append-add, take-append_seam, take-length}
use Rattle.std.proofs.lemmas.Bool.Decides.{leb_tells}
use Rattle.std.specs.Cmp.Lexicographic.{other_text}
use Rattle.std.specs.Prelude.{codes, slice_get}
use Rattle.service_follow.specs.Batches.{head_of, hex_digits}
use Rattle.service_follow.specs.Desks.{is_lines}
use Rattle.service_follow.specs.Entries.{is_there}
use Rattle.service_follow.specs.Kept.{token_of}
use Rattle.service_follow.specs.Marks.{entries_in, head_at, is_head, kept_in, kind_by, mark_of, next_in, number_of, stay_in, stays_in}
use Rattle.service_follow.specs.Tellings.{AreStays, IsReadBack, IsStay, IsTelling, IsTold, first_entry, last_entry, more_entry, number_then, stay_text, stay_texts}
use Rattle.service_follow.specs.Terms.{told_text}
use Rattle.service_follow.specs.Stays.{under_way}
use Rattle.service_follow.specs.StayState.{StayState}
use Rattle.service_follow.specs.declared.compaction.Due.{Due}
use Rattle.service_follow.specs.declared.gathering.Gathering.{Gathering}
use Rattle.service_follow.specs.declared.hall_terms.ToldTerms.{ToldTerms}
use Rattle.service_follow.specs.declared.front_end_stay.FrontEndStay.{FrontEndStay}
use Rattle.service_follow.specs.declared.marks.Mark.TheVariants.{Ordinary}
use Rattle.service_follow.proofs.Heads.{byte_behind, digits_many, digits_read, head_long}

-- ---- a list of which the length of the front is known

pub front : {A : Type 0} (xs ys : List A) (n : ℕ) → length xs ≡ n → take n (xs ++ ys) ≡ xs
front xs ys n long = subst (λ (k : ℕ). take k (xs ++ ys) ≡ xs) long (take-append_seam xs ys)

pub back : {A : Type 0} (xs ys : List A) (n : ℕ) → length xs ≡ n → drop n (xs ++ ys) ≡ ys
back xs ys n long = subst (λ (k : ℕ). drop k (xs ++ ys) ≡ ys) long (drop-append_seam xs ys)

pub further : {A : Type 0} (xs ys : List A) (n k : ℕ) → length xs ≡ n → drop (n + k) (xs ++ ys) ≡ drop k ys
further xs ys n k long = subst (λ (m : ℕ). drop (m + k) (xs ++ ys) ≡ drop k ys) long (drop-append-add xs ys k)

-- ---- numbers

pub number_read : (n : ℕ) (rest : List ℕ) → n < 2 ^ 64 → number_of (take 16 (hex_digits 16 n ++ rest)) ≡ n
number_read n rest fits = ap number_of (front (hex_digits 16 n) rest 16 (digits_many 16 n)) ∙ digits_read 16 n fits fits

-- ---- stays

stay_long : (s : FrontEndStay) → IsStay s → length (stay_text s) ≡ 64
stay_long s is =
    let a = length-append (hex_digits 16 s.identity) (hex_digits 16 s.last ++ s.token) in
    let b = length-append (hex_digits 16 s.last) s.token in
    let c = digits_many 16 s.identity in
    let d = digits_many 16 s.last in
    let e = is.long in
    omega (arith, a, b, c, d, e)

same_stay : (s t : FrontEndStay) → s.identity ≡ t.identity → s.token ≡ t.token → s.last ≡ t.last → s ≡ t
same_stay s t identity token last =
    ap (λ (n : ℕ). let k : FrontEndStay = record { identity = n; token = s.token; last = s.last } in k) identity ∙
    (ap (λ (l : List ℕ). let k : FrontEndStay = record { identity = t.identity; token = l; last = s.last } in k) token ∙
    ap (λ (n : ℕ). let k : FrontEndStay = record { identity = t.identity; token = t.token; last = n } in k) last)

stay_read : (s : FrontEndStay) → IsStay s → stay_in (stay_text s) ≡ s
stay_read s is =
    let first = hex_digits 16 s.identity in
    let second = hex_digits 16 s.last in
    let behind : drop 16 (stay_text s) ≡ second ++ s.token = back first (second ++ s.token) 16 (digits_many 16 s.identity) in
    let token : take 32 (drop 32 (stay_text s)) ≡ s.token =
    ap (take 32) (further first (second ++ s.token) 16 16 (digits_many 16 s.identity) ∙ back second s.token 16 (digits_many 16 s.last))
    ∙ subst (λ (k : ℕ). take k s.token ≡ s.token) is.long (take-length s.token) in
    same_stay (stay_in (stay_text s)) s (number_read s.identity (second ++ s.token) is.identity) token
    (ap (λ (l : List ℕ). number_of (take 16 l)) behind ∙ number_read s.last s.token is.last)

stays_read : (kept : List FrontEndStay) (rest : List ℕ) → AreStays kept → stays_in (length kept) (stay_texts kept ++ rest) ≡ kept
stays_read [] rest are = refl
stays_read (s ∷ kept) rest are =
    let behind = stay_texts kept ++ rest in
    let text : stay_texts (s ∷ kept) ++ rest ≡ stay_text s ++ behind = append_assoc (stay_text s) (stay_texts kept) rest in
    let long = stay_long s are.0 in
    let one : stay_in (take 64 (stay_texts (s ∷ kept) ++ rest)) ≡ s = ap (λ (l : List ℕ). stay_in (take 64 l)) text ∙ (ap stay_in (front (stay_text s) behind 64 long) ∙ stay_read s are.0) in
    let others : stays_in (length kept) (drop 64 (stay_texts (s ∷ kept) ++ rest)) ≡ kept =
    ap (λ (l : List ℕ). stays_in (length kept) (drop 64 l)) text ∙ (ap (stays_in (length kept)) (back (stay_text s) behind 64 long) ∙ stays_read kept rest are.1) in
    ap (λ (x : FrontEndStay). x ∷ stays_in (length kept) (drop 64 (stay_texts (s ∷ kept) ++ rest))) one ∙ ap (λ (l : List FrontEndStay). s ∷ l) others

-- ---- what an entry is

module _ (token : List ℕ) (count : ℕ) (long : length token ≡ 32) where
  head_is : length (head_of token count) ≡ 49
  head_is = let a = head_long token count in omega (arith, a, long)

  byte_at : (behind : List ℕ) (n : ℕ) → slice_get (head_of token count ++ behind) (49 + n) ≡ slice_get behind n
  byte_at behind n = subst (λ (k : ℕ). slice_get (head_of token count ++ behind) (k + n) ≡ slice_get behind n) head_is (byte_behind (head_of token count) behind n)

  pub kind_read : (behind : List ℕ) → mark_of (head_of token count ++ behind) ≡ (if is_there (slice_get behind 0) 32 then kind_by (slice_get behind 1) else Ordinary)
  kind_read behind = rw (byte_at behind 0, byte_at behind 1) refl

  token_read : (behind : List ℕ) → token_of (head_of token count ++ behind) ≡ token
  token_read behind =
      let text : head_of token count ++ behind ≡ token ++ (32 ∷ hex_digits 16 count ++ behind) = append_assoc token (32 ∷ hex_digits 16 count) behind in
      let many = length-append (head_of token count) behind in
      let head = head_is in
      elim (leb_tells 32 (length (head_of token count ++ behind))) [
        | inl t ↦ rw t.0 (ap (take 32) text ∙ front token (32 ∷ hex_digits 16 count ++ behind) 32 long)
        | inr t ↦ absurd (let a = t.1 in omega (arith, a, many, head))
      ]

  pub first_told : (told : Option ToldTerms) → IsTelling token (first_entry token count told)
  first_told told =
      let behind = codes " compaction" ++ (told_text told ++ 10 ∷ []) in
      record { marked = ap is_lines (kind_read behind); own = token_read behind }

  pub more_told : (before lines : List ℕ) → IsTelling token (more_entry token count before lines)
  more_told before lines =
      let behind = codes " more behind " ++ (before ++ 10 ∷ lines) in
      record { marked = ap is_lines (kind_read behind); own = token_read behind }

  pub last_told : (before : List ℕ) (entries : ℕ) (kept : List FrontEndStay) → IsTelling token (last_entry token count before entries kept)
  last_told before entries kept =
      let behind = codes " ends behind " ++ (before ++ 32 ∷ number_then entries (number_then (length kept) (stay_texts kept ++ 10 ∷ []))) in
      record { marked = ap is_lines (kind_read behind); own = token_read behind }

  -- behind a word of 13 bytes the head of the entry before it stands
  module _ (word behind : List ℕ) (before : List ℕ) (thirteen : length word ≡ 13) (fits : length before ≡ 49) where
    before_read : head_at 62 (head_of token count ++ (word ++ (before ++ behind))) ≡ before
    before_read =
        let entry = head_of token count ++ (word ++ (before ++ behind)) in
        let a = length-append (head_of token count) (word ++ (before ++ behind)) in
        let b = length-append word (before ++ behind) in
        let c = length-append before behind in
        let d = head_is in
        let there : drop 62 entry ≡ before ++ behind = further (head_of token count) (word ++ (before ++ behind)) 49 13 head_is ∙ back word (before ++ behind) 13 thirteen in
        elim (leb_tells 111 (length entry)) [
          | inl t ↦ rw t.0 (ap (take 49) there ∙ front before behind 49 fits)
          | inr t ↦ absurd (let e = t.1 in omega (arith, a, b, c, d, e, thirteen, fits))
        ]

    pub next_read : (part : Gathering) → part.head ≡ before → next_in (Some part) (head_of token count ++ (word ++ (before ++ behind))) ≡ Some part
    next_read part is =
        let entry = head_of token count ++ (word ++ (before ++ behind)) in
        let same : part.head ≡ head_at 62 entry = is ∙ sym before_read in
        elim (is_head part.head (head_at 62 entry)) as (λ (b : Bool). is_head part.head (head_at 62 entry) ≡ b → (if b then Some part else None) ≡ Some part) [
          | true ↦ λ e. refl
          | false ↦ λ e. absurd (other_text part.head (head_at 62 entry) (sym e) same)
        ] refl

    -- and behind it and a space more stands
    past : (rest : List ℕ) (n : ℕ) → behind ≡ 32 ∷ rest → drop (112 + n) (head_of token count ++ (word ++ (before ++ behind))) ≡ drop n rest
    past rest n is =
        let head = head_of token count in
        let one : 112 + n ≡ 49 + (63 + n) = omega arith in
        let two : 63 + n ≡ 13 + (50 + n) = omega arith in
        let three : 50 + n ≡ 49 + suc n = omega arith in
        ap (λ (j : ℕ). drop j (head ++ (word ++ (before ++ behind)))) one
        ∙ (further head (word ++ (before ++ behind)) 49 (63 + n) head_is
        ∙ (ap (λ (j : ℕ). drop j (word ++ (before ++ behind))) two
        ∙ (further word (before ++ behind) 13 (50 + n) thirteen
        ∙ (ap (λ (j : ℕ). drop j (before ++ behind)) three
        ∙ (further before behind 49 (suc n) fits ∙ ap (drop (suc n)) is)))))

-- whichever is told
pub is_telling : (due : Due) (token : List ℕ) (w : StayState) (entry : List ℕ) → length token ≡ 32 → IsTold due token w entry → IsTelling token entry
is_telling due token w entry long (inl b) = subst (IsTelling token) (sym b.is) (first_told token b.count long b.terms)
is_telling due token w entry long (inr (inl m)) = subst (IsTelling token) (sym m.is) (more_told token m.count long m.before m.lines)
is_telling due token w entry long (inr (inr l)) = subst (IsTelling token) (sym l.is) (last_told token l.count long l.before w.entries w.kept)

-- an entry that ends, and tells what is there
pub ends_so : (due : Due) (token : List ℕ) (w : StayState) (count : ℕ) (before : List ℕ) (entries : ℕ) (kept : List FrontEndStay) (entry : List ℕ) →
    entry ≡ last_entry token count before entries kept → entries ≡ w.entries → kept ≡ w.kept → under_way w.gathered ≡ Some before → IsTold due token w entry
ends_so due token w count before entries kept entry is many keeps behind = inr (inr (record {
  count = count;
  before = before;
  is = is ∙ (ap (λ (n : ℕ). last_entry token count before n kept) many ∙ ap (λ (l : List FrontEndStay). last_entry token count before w.entries l) keeps);
  behind = behind;
}))

number_past : (n k : ℕ) (rest : List ℕ) → drop (16 + suc k) (number_then n rest) ≡ drop k rest
number_past n k rest = further (hex_digits 16 n) (32 ∷ rest) 16 (suc k) (digits_many 16 n)

-- ---- what is told is read back

module _ (token : List ℕ) (count : ℕ) (part : Gathering) (lines : List ℕ) (entries : ℕ) (kept : List FrontEndStay) (long : length token ≡ 32) (fits : length part.head ≡ 49) where
  abbrev texts : List ℕ
  texts = stay_texts kept ++ 10 ∷ []

  abbrev stays : List ℕ
  stays = number_then (length kept) texts

  abbrev numbers : List ℕ
  numbers = number_then entries stays

  abbrev entry : List ℕ
  entry = last_entry token count part.head entries kept

  behind_numbers : (n : ℕ) → drop (112 + n) entry ≡ drop n numbers
  behind_numbers n = past token count long (codes " ends behind ") (32 ∷ numbers) part.head refl fits numbers n refl

  entries_read : entries < 2 ^ 64 → entries_in entry ≡ entries
  entries_read small = ap (λ (l : List ℕ). number_of (take 16 l)) (behind_numbers 0) ∙ number_read entries (32 ∷ stays) small

  kept_read : length kept < 2 ^ 64 → AreStays kept → kept_in entry ≡ kept
  kept_read small are =
      let counted : drop 129 entry ≡ stays = behind_numbers 17 ∙ number_past entries 0 stays in
      let behind : drop 146 entry ≡ texts = behind_numbers 34 ∙ (number_past entries 17 stays ∙ number_past (length kept) 0 texts) in
      let many : number_of (take 16 (drop 129 entry)) ≡ length kept = ap (λ (l : List ℕ). number_of (take 16 l)) counted ∙ number_read (length kept) (32 ∷ texts) small in
      ap (λ (n : ℕ). stays_in n (drop 146 entry)) many ∙ (ap (stays_in (length kept)) behind ∙ stays_read kept (10 ∷ []) are)

  pub read_back : entries < 2 ^ 64 → length kept < 2 ^ 64 → AreStays kept → IsReadBack token count part lines entries kept
  read_back small few are = record {
    first = λ told. kind_read token count long (codes " compaction" ++ (told_text told ++ 10 ∷ []));
    more = kind_read token count long (codes " more behind " ++ (part.head ++ 10 ∷ lines));
    last = kind_read token count long (codes " ends behind " ++ (part.head ++ 32 ∷ numbers));
    goes_on = next_read token count long (codes " more behind ") (10 ∷ lines) part.head refl fits part refl;
    ends = next_read token count long (codes " ends behind ") (32 ∷ numbers) part.head refl fits part refl;
    many = entries_read small;
    stays = kept_read few are;
  }

-- ---- and how it is written

pub stays_on : (kept : List FrontEndStay) (at : ℕ) (d : FrontEndStay) (before all new : List ℕ) → at < length kept → before ++ stay_texts (drop at kept) ≡ all → new ≡ before ++ stay_text (get_or kept at d) →
    new ++ stay_texts (drop (at + 1) kept) ≡ all
stays_on kept at d before all new inside so is =
    let text = stay_text (get_or kept at d) in
    let rest = stay_texts (drop (suc at) kept) in
    ap (λ (k : ℕ). new ++ stay_texts (drop k kept)) (add-one at)
    ∙ (ap (λ (l : List ℕ). l ++ rest) is
    ∙ (append_assoc before text rest ∙ (ap (λ (l : List FrontEndStay). before ++ stay_texts l) (sym (drop-cons kept at d inside)) ∙ so)))
