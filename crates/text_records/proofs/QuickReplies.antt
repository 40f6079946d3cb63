-- lines that are read in one pass over their bytes
use Rattle.std.proofs.Common.{◌≡◌, ℕ, ◌-◌, ◌≤◌, ◌==◌, true, false, not, List, [], ◌∷◌, ◌++◌, length, take, drop, option_map, Some, None, refl, ap, ◌∙◌, arith, codes, decimal, append_assoc}
use Rattle.text_records.proofs.Common.{list_all, nat_tests, words, is_digit, number_in, same_bytes, Version, One, Two, Reported, is_plain, reported_by, reported_with, reported_in, reported_of_words, word_with, lacks, pieces-last, pieces-cut}
use Rattle.std.proofs.lemmas.List.{take_all, length-drop}
use Rattle.text_lines.specs.Quick.{is_of_words}
use Rattle.text_records.specs.PlainLine.{SpellsReply, SpellsNumberAfter}
use Rattle.text_records.specs.Reported.{is_name}
use Rattle.text_records.specs.ReportedWords.{reported_words}
use Rattle.text_records.proofs.written.Canonical.{number_is}
use Rattle.text_records.proofs.written.PlainLines.{close}
use Rattle.text_records.proofs.written.Words.{all_by, plain_both, digit_plain, digit_no_space}

of_words_plain : (b : ℕ) → is_of_words b ≡ true → is_plain b ≡ true
of_words_plain b h = grind (arith, nat_tests)

pub words_plain : (xs : List ℕ) → list_all is_of_words xs ≡ true → list_all is_plain xs ≡ true
words_plain xs h = all_by is_of_words is_plain of_words_plain xs h

-- the bytes past a prefix, as a slice gives them
pub rest_of-slice : (bytes : List ℕ) (n : ℕ) → n ≤ length bytes → take (length bytes - n) (drop n bytes) ≡ drop n bytes
rest_of-slice bytes n le = take_all (length bytes - n) (drop n bytes) (omega (arith, length-drop n bytes))

-- what is reported in each version
in_both : (t : Reported) → reported_with One t None ≡ Some t → reported_with Two t None ≡ Some t → (version : Version) → reported_with version t None ≡ Some t
in_both t one two One = one
in_both t one two Two = two

reported_in_both : (replied : List ℕ) (t : Reported) → reported_in replied ≡ Some t → reported_with One t None ≡ Some t → reported_with Two t None ≡ Some t → (version : Version) → reported_by version replied None ≡ Some t
reported_in_both replied t is one two version = rw is (in_both t one two version)

-- a reply of one word
pub word_spelled : (text replied : List ℕ) (t : Reported) → text ≡ replied ++ close → list_all is_plain replied ≡ true → reported_in replied ≡ Some t → reported_with One t None ≡ Some t → reported_with Two t None ≡ Some t →
    replied ≡ reported_words t → is_name t ≡ false → SpellsReply text t
word_spelled text replied t written plain is one two spelled unnamed = record { replied = replied; words = spelled; unnamed = unnamed; end = record { written = written; plain = plain; plain_view = tt }; tells = reported_in_both replied t is one two }

-- a reply of a word and a number
pub number_spelled : (text word : List ℕ) (make : ℕ → Reported) (n : ℕ) → SpellsNumberAfter text (word ++ 32 ∷ []) n → list_all is_plain word ≡ true → lacks 32 word ≡ true → same_bytes word (codes "saw") ≡ false →
    ((digits : List ℕ) → word_with word digits ≡ option_map make (number_in digits)) → reported_with Two (make n) None ≡ Some (make n) → word ++ 32 ∷ decimal n ≡ reported_words (make n) → is_name (make n) ≡ false → SpellsReply text (make n)
number_spelled text word make n after plain whole other tells two spelled unnamed =
    let s = after.number in
    let replied : List ℕ = word ++ 32 ∷ s.digits in
    let cut : words replied ≡ word ∷ s.digits ∷ [] =
    pieces-cut 32 [] word s.digits whole ∙ ap (λ (l : List (List ℕ)). word ∷ l) (pieces-last 32 [] s.digits (all_by is_digit (λ b. not (b == 32)) digit_no_space s.digits s.are_digits)) in
    let means : reported_of_words (word ∷ s.digits ∷ []) ≡ Some (make n) = rw other (tells s.digits ∙ ap (option_map make) s.number) in
    let written : text ≡ replied ++ close = after.split ∙ ap (λ (l : List ℕ). (word ++ 32 ∷ []) ++ l) s.written ∙ simp append_assoc in
    word_spelled text replied (make n) written (plain_both word (32 ∷ s.digits) plain (plain_both (32 ∷ []) s.digits refl (all_by is_digit is_plain digit_plain s.digits s.are_digits))) (ap reported_of_words cut ∙ means) refl two
    (ap (λ (l : List ℕ). word ++ 32 ∷ l) (number_is s.digits n s.number) ∙ spelled) unnamed
