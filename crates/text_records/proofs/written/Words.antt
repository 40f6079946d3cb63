-- the words of events and replies, as they are written, mean the event and tell the reply
use Rattle.std.proofs.Common.{◌≡◌, ℕ, ◌^◌, ◌<◌, ◌≤◌, ◌==◌, Bool, true, false, not, List, [], ◌∷◌, ◌++◌, length, Result, Ok, codes, decimal, refl, ap, ◌∙◌, arith, append_assoc, length-append, nat_lt}
use Rattle.text_records.proofs.Common.{list_all, and_parts, nat_tests, length-decimal-le_wide, list_all-append, WorldKind, Event, Begin, Step, Enter, Probe, Seek, Leave, Put, Get, Widen, gives_names, event_words, pieces_from, has_no_lf, is_digit, is_printable, words, command_in, meaning, lacks, pieces-last, pieces-cut, is_plain}
use Rattle.model_asked.specs.declared.bad.Bad.{Bad}
use Rattle.model_asked.specs.declared.command.Command.{Command}
use Rattle.model_asked.specs.declared.command.Command.TheVariants as command
use Rattle.text_records.proofs.written.Numbers.{decimal_digits, number_in-decimal}
use Rattle.text_records.specs.Narrow.{IsNarrowEvent}

-- a test that follows from another
pub all_by : (p q : ℕ → Bool) → ((b : ℕ) → p b ≡ true → q b ≡ true) → (xs : List ℕ) → list_all p xs ≡ true → list_all q xs ≡ true
all_by p q by [] h = refl
all_by p q by (x ∷ xs) h = let parts = and_parts (p x) (list_all p xs) h in rw (by x parts.0) (all_by p q by xs parts.1)

both_all : (p : ℕ → Bool) (xs ys : List ℕ) → list_all p xs ≡ true → list_all p ys ≡ true → list_all p (xs ++ ys) ≡ true
both_all p xs ys a b = list_all-append p xs ys ∙ rw (a, b) refl

pub digit_plain : (b : ℕ) → is_digit b ≡ true → is_plain b ≡ true
digit_plain b h = grind (arith, nat_tests)

pub digit_no_space : (b : ℕ) → is_digit b ≡ true → not (b == 32) ≡ true
digit_no_space b h = grind (arith, nat_tests)

digit_no_colon : (b : ℕ) → is_digit b ≡ true → not (b == 58) ≡ true
digit_no_colon b h = grind (arith, nat_tests)

plain_printable : (b : ℕ) → is_plain b ≡ true → is_printable b ≡ true
plain_printable b h = grind (arith, nat_tests)

plain_no_lf : (b : ℕ) → is_plain b ≡ true → not (b == 10) ≡ true
plain_no_lf b h = grind (arith, nat_tests)

pub plain_has_no_lf : (xs : List ℕ) → list_all is_plain xs ≡ true → has_no_lf xs ≡ true
plain_has_no_lf xs h = all_by is_plain (λ b. not (b == 10)) plain_no_lf xs h

pub no_lf_both : (xs ys : List ℕ) → has_no_lf xs ≡ true → has_no_lf ys ≡ true → has_no_lf (xs ++ ys) ≡ true
no_lf_both xs ys a b = both_all (λ b. not (b == 10)) xs ys a b

pub plain_both : (xs ys : List ℕ) → list_all is_plain xs ≡ true → list_all is_plain ys ≡ true → list_all is_plain (xs ++ ys) ≡ true
plain_both xs ys a b = both_all is_plain xs ys a b

pub plain_decimal : (n : ℕ) → n < 10 ^ 64 → list_all is_plain (decimal n) ≡ true
plain_decimal n h = all_by is_digit is_plain digit_plain (decimal n) (decimal_digits n h).digits

pub lacks_both : (separator : ℕ) (xs ys : List ℕ) → lacks separator xs ≡ true → lacks separator ys ≡ true → lacks separator (xs ++ ys) ≡ true
lacks_both separator xs ys a b = both_all (λ b. not (b == separator)) xs ys a b

pub no_space : (n : ℕ) → n < 10 ^ 64 → lacks 32 (decimal n) ≡ true
no_space n h = all_by is_digit (λ b. not (b == 32)) digit_no_space (decimal n) (decimal_digits n h).digits

pub no_colon : (n : ℕ) → n < 10 ^ 64 → lacks 58 (decimal n) ≡ true
no_colon n h = all_by is_digit (λ b. not (b == 58)) digit_no_colon (decimal n) (decimal_digits n h).digits

pub short_decimal : (n : ℕ) → n < 2 ^ 64 → length (decimal n) ≤ 20
short_decimal n h = length-decimal-le_wide 20 n (omega arith) (omega arith) (omega arith)

-- the words of a number with words before it
pub number_word : (piece : List ℕ) (n : ℕ) → n < 10 ^ 64 → pieces_from 32 piece (decimal n) ≡ (piece ++ decimal n) ∷ []
number_word piece n h = pieces-last 32 piece (decimal n) (no_space n h)

not_more : (n : ℕ) → n ≤ 100 → nat_lt 100 n ≡ false
not_more n h = grind (arith, nat_tests)

means_by : (kind : WorldKind) (line : List ℕ) (ws : List (List ℕ)) (r : Result Command Bad) → length line ≤ 100 → list_all is_plain line ≡ true → words line ≡ ws → command_in kind ws ≡ r → meaning kind line ≡ r
means_by kind line ws r short plain cut is = rw (not_more (length line) short, all_by is_plain is_printable plain_printable line plain, cut) is

-- a word and a number
module _ (kind : WorldKind) (p : ℕ) (narrow : p < 2 ^ 64) where
  small : p < 10 ^ 64
  small = omega arith

  means_one : (word : List ℕ) (r : Result Command Bad) → list_all is_plain word ≡ true → lacks 32 word ≡ true → length word ≤ 5 → command_in kind (word ∷ decimal p ∷ []) ≡ r → meaning kind (word ++ 32 ∷ decimal p) ≡ r
  means_one word r plain whole short is =
      means_by kind (word ++ 32 ∷ decimal p) (word ∷ decimal p ∷ []) r (omega (arith, length-append word (32 ∷ decimal p), short_decimal p narrow))
      (plain_both word (32 ∷ decimal p) plain (plain_both (32 ∷ []) (decimal p) refl (plain_decimal p small)))
      (pieces-cut 32 [] word (decimal p) whole ∙ ap (λ (k : List (List ℕ)). word ∷ k) (number_word [] p small)) is

two_words : (p value : ℕ) → p < 10 ^ 64 → value < 10 ^ 64 → pieces_from 32 [] ((decimal p ++ codes " ") ++ decimal value) ≡ decimal p ∷ decimal value ∷ []
two_words p value hp hv = ap (pieces_from 32 []) (append_assoc (decimal p) (codes " ") (decimal value)) ∙ pieces-cut 32 [] (decimal p) (decimal value) (no_space p hp) ∙ ap (λ (k : List (List ℕ)). decimal p ∷ k) (number_word [] value hv)

put_plain : (p value : ℕ) → p < 10 ^ 64 → value < 10 ^ 64 → list_all is_plain (event_words (Put p value)) ≡ true
put_plain p value hp hv = plain_both ((codes "put " ++ decimal p) ++ codes " ") (decimal value) (plain_both (codes "put " ++ decimal p) (codes " ") (plain_both (codes "put ") (decimal p) refl (plain_decimal p hp)) refl) (plain_decimal value hv)

put_short : (p value : ℕ) → p < 2 ^ 64 → value < 2 ^ 64 → length (event_words (Put p value)) ≤ 45
put_short p value hp hv = omega (arith, short_decimal p hp, short_decimal value hv, length-append (decimal p ++ codes " ") (decimal value), length-append (decimal p) (codes " "))

is_put : (kind : WorldKind) (desk : gives_names kind ≡ true) (p value : ℕ) → p < 2 ^ 64 → value < 2 ^ 64 → meaning kind (event_words (Put p value)) ≡ Ok (command.Event (Put p value))
is_put kind desk p value hp hv =
    means_by kind (event_words (Put p value)) (codes "put" ∷ decimal p ∷ decimal value ∷ []) _ (omega (arith, put_short p value hp hv)) (put_plain p value (omega arith) (omega arith))
    (ap (λ (k : List (List ℕ)). codes "put" ∷ k) (two_words p value (omega arith) (omega arith))) (rw (desk, number_in-decimal p hp, number_in-decimal value hv) refl)

-- the words of an event mean it
pub event_means : (kind : WorldKind) → gives_names kind ≡ true → (e : Event) → IsNarrowEvent kind e → meaning kind (event_words e) ≡ Ok (command.Event e)
event_means kind desk (Begin p) h = means_one kind p h (codes "begin") (Ok (command.Event (Begin p))) refl refl (omega arith) (rw (number_in-decimal p h) refl)
event_means kind desk (Step p) h = means_one kind p h (codes "step") (Ok (command.Event (Step p))) refl refl (omega arith) (rw (number_in-decimal p h) refl)
event_means kind desk (Enter p) h = means_one kind p h (codes "enter") (Ok (command.Event (Enter p))) refl refl (omega arith) (rw (desk, number_in-decimal p h) refl)
event_means kind desk (Probe p) h = means_one kind p h (codes "probe") (Ok (command.Event (Probe p))) refl refl (omega arith) (rw (desk, number_in-decimal p h) refl)
event_means kind desk (Seek p) h = means_one kind p h.1 (codes "seek") (Ok (command.Event (Seek p))) refl refl (omega arith) (rw (desk, h.0, number_in-decimal p h.1) refl)
event_means kind desk (Leave p) h = means_one kind p h (codes "leave") (Ok (command.Event (Leave p))) refl refl (omega arith) (rw (desk, number_in-decimal p h) refl)
event_means kind desk (Put p value) h = is_put kind desk p value h.0 h.1
event_means kind desk (Get p) h = means_one kind p h (codes "get") (Ok (command.Event (Get p))) refl refl (omega arith) (rw (desk, number_in-decimal p h) refl)
event_means kind desk (Widen more) h = means_one kind more h (codes "widen") (Ok (command.Event (Widen more))) refl refl (omega arith) (rw (desk, number_in-decimal more h) refl)

-- a word with a number after it
pub word_plain : (word : List ℕ) (n : ℕ) → list_all is_plain word ≡ true → n < 10 ^ 64 → list_all is_plain (word ++ decimal n) ≡ true
word_plain word n h small = plain_both word (decimal n) h (plain_decimal n small)

pub event_plain : (kind : WorldKind) (e : Event) → IsNarrowEvent kind e → list_all is_plain (event_words e) ≡ true
event_plain kind (Begin p) h = word_plain (codes "begin ") p refl (omega arith)
event_plain kind (Step p) h = word_plain (codes "step ") p refl (omega arith)
event_plain kind (Enter p) h = word_plain (codes "enter ") p refl (omega arith)
event_plain kind (Probe p) h = word_plain (codes "probe ") p refl (omega arith)
event_plain kind (Seek p) h = word_plain (codes "seek ") p refl (let l = h.1 in omega arith)
event_plain kind (Leave p) h = word_plain (codes "leave ") p refl (omega arith)
event_plain kind (Put p value) h = put_plain p value (let l = h.0 in omega arith) (let l = h.1 in omega arith)
event_plain kind (Get p) h = word_plain (codes "get ") p refl (omega arith)
event_plain kind (Widen more) h = word_plain (codes "widen ") more refl (omega arith)

pub event_short : (kind : WorldKind) (e : Event) → IsNarrowEvent kind e → length (event_words e) ≤ 45
event_short kind (Begin p) h = omega (arith, short_decimal p h)
event_short kind (Step p) h = omega (arith, short_decimal p h)
event_short kind (Enter p) h = omega (arith, short_decimal p h)
event_short kind (Probe p) h = omega (arith, short_decimal p h)
event_short kind (Seek p) h = omega (arith, short_decimal p h.1)
event_short kind (Leave p) h = omega (arith, short_decimal p h)
event_short kind (Put p value) h = put_short p value h.0 h.1
event_short kind (Get p) h = omega (arith, short_decimal p h)
event_short kind (Widen more) h = omega (arith, short_decimal more h)
