-- numbers and lines that are read in one pass
use Rattle.std.proofs.Common.{◌≡◌, ℕ, zero, suc, ◌+◌, ◌-◌, ◌*◌, ◌^◌, ◌<◌, ◌≤◌, ◌&&◌, Bool, true, false, cond, eqb, List, [], ◌∷◌, ◌++◌, length, take, drop, get_or, Some, None, Ok, refl, sym, ap, ◌∙◌, arith, append_assoc, length-append, add-one, nat_le, nat_lt}
use Rattle.text_lines.proofs.Common.{list_all, and_parts, and_from, nat_tests, take-add, take-append-add, WorldKind, Command, meaning, words, command_of, number_in, is_digit, is_printable, decimal_from, if_below}
use Rattle.std.proofs.lemmas.List.{take_all, length-take-le, length-drop, take-append-drop, drop_more, take_more, get_or-drop, get_or-append-add}
use Rattle.std.proofs.lemmas.List.Folds.{list_all-append, list_all_more}
use Rattle.std.proofs.Math.Nat.{pow-suc, pow-le-pow_right}
use Rattle.text_lines.specs.Digits.{DigitsSoFar}
use Rattle.text_lines.specs.Quick.{IsNumberBefore, IsCommandBefore, is_of_words, word_of_four}
use Rattle.text_lines.specs.lemmas.PieceProofs.{passes_too, lacks, pieces-cut, pieces-last}

-- the bytes past a prefix, as a slice gives them
pub rest_of-slice : (bytes : List ℕ) (n : ℕ) → take (length bytes - n) (drop n bytes) ≡ drop n bytes
rest_of-slice bytes n = take_all (length bytes - n) (drop n bytes) (omega (arith, length-drop n bytes))

digit_range : (b : ℕ) → is_digit b ≡ true → (48 ≤ b) × (b ≤ 57)
digit_range b d = (grind (arith, nat_tests), grind (arith, nat_tests))

pub digit_in_range : (b : ℕ) → 48 ≤ b → b ≤ 57 → is_digit b ≡ true
digit_in_range b low high = grind (arith, nat_tests)

-- ---- the number of the digits so far

decimal_from-append : (n : ℕ) (xs ys : List ℕ) → decimal_from n (xs ++ ys) ≡ decimal_from (decimal_from n xs) ys
decimal_from-append n [] ys = refl
decimal_from-append n (x ∷ xs) ys = decimal_from-append (n * 10 + (x - 48)) xs ys

pub one_digit_more : (text : List ℕ) (value count new : ℕ) → DigitsSoFar text value count → count < length text → is_digit (get_or text count 0) ≡ true → new ≡ value * 10 + (get_or text count 0 - 48) → DigitsSoFar text new (count + 1)
one_digit_more text value count new d lt digit is =
    let range = digit_range (get_or text count 0) digit in
    let power : 10 ^ (count + 1) ≡ 10 ^ count * 10 = ap (λ k. 10 ^ k) (add-one count) ∙ pow-suc 10 count in
    record {
      inside = omega arith;
      digits = list_all_more is_digit text count 0 lt ∙ and_from _ _ d.digits digit;
      value_is = is ∙ ap (λ v. v * 10 + (get_or text count 0 - 48)) d.value_is
          ∙ sym (ap (decimal_from 0) (take_more text count 0 lt) ∙ decimal_from-append 0 (take count text) (get_or text count 0 ∷ []));
      small = (let small = d.small in omega arith);
    }

decimal_from-eight : (n last : ℕ) (rest : List ℕ) → 8 ≤ length rest → last ≡ decimal_from 0 (take 8 rest) → decimal_from n (take 8 rest) ≡ n * 100000000 + last
decimal_from-eight n last (a ∷ b ∷ c ∷ d ∷ e ∷ f ∷ g ∷ h ∷ rest) le is = omega (arith, is)
decimal_from-eight n last _ le is = absurd (omega arith)

-- after so many digits eight more
pub eight_digits_more : (text : List ℕ) (value last count : ℕ) → 10 ^ (count + 8) ≡ 10 ^ count * 100000000 → DigitsSoFar text value count → DigitsSoFar (drop count text) last 8 →
    DigitsSoFar text (value * 100000000 + last) (count + 8)
eight_digits_more text value last count power d more =
    let rest : List ℕ = drop count text in
    let split : take (count + 8) text ≡ take count text ++ take 8 rest = take-add count 8 text in
    record {
      inside = (let inside = more.inside in omega (arith, length-drop count text));
      digits = rw split (list_all-append is_digit (take count text) (take 8 rest) ∙ and_from _ _ d.digits more.digits);
      value_is = sym (ap (decimal_from 0) split ∙ decimal_from-append 0 (take count text) (take 8 rest) ∙ ap (λ n. decimal_from n (take 8 rest)) (sym d.value_is) ∙ decimal_from-eight value last rest more.inside more.value_is);
      small = (let small = d.small in let few = more.small in omega arith);
    }

-- the number of 18 digits and one more digit fit
pub few_digits-fit : (text : List ℕ) (value count b : ℕ) → DigitsSoFar text value count → count < 19 → is_digit b ≡ true → value * 10 + (b - 48) < 2 ^ 64
few_digits-fit text value count b d lt digit =
    let range = digit_range b digit in
    let power : 10 ^ count ≤ 10 ^ 18 = pow-le-pow_right {n = 10} (omega arith) {i = count} {j = 18} (omega arith) in
    let small = d.small in
    omega arith

-- ---- the words of a line

-- what digits pass, a number passes
number-passes : (p : ℕ → Bool) → ((b : ℕ) → 48 ≤ b → b ≤ 57 → p b ≡ true) → (word : List ℕ) (n : ℕ) → number_in word ≡ Some n → list_all p word ≡ true
number-passes p each [] n = λ is. refl
number-passes p each (b ∷ bs) n =
    elim (list_all is_digit (b ∷ bs)) as (λ t. list_all is_digit (b ∷ bs) ≡ t → cond t (cond (eqb b 48) (cond (eqb (length bs) 0) (Some 0) None) (if_below (2 ^ 64) (decimal_from 0 (b ∷ bs)))) None ≡ Some n → list_all p (b ∷ bs) ≡ true) [
      | true ↦ λ all is. passes_too is_digit p (λ d h. let r = digit_range d h in each d r.0 r.1) (b ∷ bs) all
      | false ↦ λ all is. absurd cc
    ] refl

-- what follows a word and its space in a line, and which words it is
record AreOthers (others : List ℕ) (ws : List (List ℕ)) : Type 0 where
  short : length others ≤ 41
  printable : list_all is_printable others ≡ true
  of_words : list_all is_of_words others ≡ true
  words_are : words others ≡ ws

-- with a space between, both pass what a space passes
both-pass : (p : ℕ → Bool) (xs ys : List ℕ) → p 32 ≡ true → list_all p xs ≡ true → list_all p ys ≡ true → list_all p (xs ++ 32 ∷ ys) ≡ true
both-pass p xs ys space h k = list_all-append p xs (32 ∷ ys) ∙ and_from _ _ h (and_from _ _ space k)

number-lacks : (word : List ℕ) (n : ℕ) → number_in word ≡ Some n → lacks 32 word ≡ true
number-lacks = number-passes _ (λ b low high. grind (arith, nat_tests))

one_other : (word : List ℕ) (n : ℕ) → number_in word ≡ Some n → length word ≤ 20 → AreOthers word (word ∷ [])
one_other word n is few = record {
  short = omega arith;
  printable = number-passes is_printable (λ b low high. grind (arith, nat_tests)) word n is;
  of_words = number-passes is_of_words (λ b low high. grind (arith, nat_tests)) word n is;
  words_are = pieces-last 32 [] word (number-lacks word n is);
}

two_others : (one other : List ℕ) (m n : ℕ) → number_in one ≡ Some m → length one ≤ 20 → number_in other ≡ Some n → length other ≤ 20 → AreOthers (one ++ 32 ∷ other) (one ∷ other ∷ [])
two_others one other m n is few is2 few2 =
    let a = one_other one m is few in
    let b = one_other other n is2 few2 in
    record {
      short = omega (arith, length-append one (32 ∷ other));
      printable = both-pass is_printable one other refl a.printable b.printable;
      of_words = both-pass is_of_words one other refl a.of_words b.of_words;
      words_are = pieces-cut 32 [] one other (number-lacks one m is) ∙ ap (λ ws. one ∷ ws) b.words_are;
    }

-- the words of commands are of letters
abbrev pub is_letter : ℕ → Bool
is_letter b = nat_le 97 b && nat_le b 122

short-line : (n : ℕ) → n ≤ 100 → nat_lt 100 n ≡ false
short-line n le = grind (arith, nat_tests)

-- the command at a prefix, which a word with its space and others are
first_command : (by : ℕ) (world : WorldKind) (word bytes rest : List ℕ) (ws : List (List ℕ)) (command : Command) (count end : ℕ) → bytes ≡ word ++ 32 ∷ rest → end ≡ length word + suc count →
    length word ≤ 5 → list_all is_letter word ≡ true → count < length rest → get_or rest count 0 ≡ by → AreOthers (take count rest) ws → command_of world word ws ≡ Ok command →
    IsCommandBefore by world bytes command end
first_command by world word bytes rest ws command count end split end_is short letters lt stands o means =
    let others : List ℕ = take count rest in
    let few = o.short in
    let begins : take (length word + suc count) (word ++ 32 ∷ rest) ≡ word ++ 32 ∷ others = take-append-add word (32 ∷ rest) (suc count) in
    let printable = both-pass is_printable word others refl (passes_too is_letter is_printable (λ b l. grind (arith, nat_tests, l)) word letters) o.printable in
    let parted = pieces-cut 32 [] word others (passes_too is_letter _ (λ b l. grind (arith, nat_tests, l)) word letters) in
    let said : meaning world (word ++ 32 ∷ others) ≡ command_of world word (words others) =
    rw (short-line (length (word ++ 32 ∷ others)) (omega (arith, length-append word (32 ∷ others))), printable, parted) refl in
    rw (split, end_is) (record {
      inside = omega (arith, length-append word (32 ∷ rest));
      ends = get_or-append-add word (32 ∷ rest) (suc count) 0 ∙ stands;
      of_words = ap (list_all is_of_words) begins ∙ both-pass is_of_words word others refl (passes_too is_letter is_of_words (λ b l. grind (arith, nat_tests, l)) word letters) o.of_words;
      means = ap (meaning world) begins ∙ said ∙ ap (command_of world word) o.words_are ∙ means;
    })

-- of a word and a number
pub first_of_one : (by : ℕ) (world : WorldKind) (word bytes rest : List ℕ) (command : ℕ → Command) (value count end : ℕ) → bytes ≡ word ++ 32 ∷ rest → end ≡ length word + suc count →
    length word ≤ 5 → list_all is_letter word ≡ true → ((digits : List ℕ) → number_in digits ≡ Some value → command_of world word (digits ∷ []) ≡ Ok (command value)) →
    IsNumberBefore by rest value count → IsCommandBefore by world bytes (command value) end
first_of_one by world word bytes rest command value count end split end_is short letters means n =
    first_command by world word bytes rest (take count rest ∷ []) (command value) count end split end_is short letters n.inside n.ends
    (one_other (take count rest) value n.number (omega (arith, n.few, length-take-le count rest))) (means (take count rest) n.number)

-- and of a word and two numbers
pub first_of_two : (by : ℕ) (world : WorldKind) (word bytes rest : List ℕ) (command : Command) (one other first second end : ℕ) → bytes ≡ word ++ 32 ∷ rest → end ≡ length word + suc (first + 1 + second) →
    length word ≤ 5 → list_all is_letter word ≡ true → ((m n : List ℕ) → number_in m ≡ Some one → number_in n ≡ Some other → command_of world word (m ∷ n ∷ []) ≡ Ok command) →
    IsNumberBefore 32 rest one first → IsNumberBefore by (drop (first + 1) rest) other second → IsCommandBefore by world bytes command end
first_of_two by world word bytes rest command one other first second end split end_is short letters means a b =
    let m : List ℕ = take first rest in
    let past : List ℕ = drop (first + 1) rest in
    let n : List ℕ = take second past in
    let both = two_others m n one other a.number (omega (arith, a.few, length-take-le first rest)) b.number (omega (arith, b.few, length-take-le second past)) in
    let parts : take (first + 1 + second) rest ≡ m ++ 32 ∷ n =
    take-add (first + 1) second rest ∙ ap (λ l. l ++ n) (take_more rest first 0 a.inside ∙ ap (λ x. m ++ x ∷ []) a.ends) ∙ append_assoc m (32 ∷ []) n in
    let inside = b.inside in
    first_command by world word bytes rest (m ∷ n ∷ []) command (first + 1 + second) end split end_is short letters (omega (arith, length-drop (first + 1) rest))
    (sym (get_or-drop (first + 1) rest second 0) ∙ b.ends) (rw parts both) (means m n a.number b.number)

-- ---- the first bytes

words_small : (word : List ℕ) → list_all is_of_words word ≡ true → (i : ℕ) → get_or word i 0 < 256
words_small [] h i = omega arith
words_small (b ∷ bs) h zero = let here = and_parts (is_of_words b) (list_all is_of_words bs) h in grind (arith, nat_tests, here.0)
words_small (b ∷ bs) h (suc i) = words_small bs (and_parts (is_of_words b) (list_all is_of_words bs) h).1 i

-- bytes whose first four make one number begin with the same four
pub same_four : (xs ys : List ℕ) → 4 ≤ length xs → 4 ≤ length ys → ((i : ℕ) → get_or xs i 0 < 256) → ((i : ℕ) → get_or ys i 0 < 256) → word_of_four xs ≡ word_of_four ys → take 4 xs ≡ take 4 ys
same_four (a ∷ b ∷ c ∷ d ∷ xs) (e ∷ f ∷ g ∷ h ∷ ys) long also small few same =
    let s0 = small 0 in let s1 = small 1 in let s2 = small 2 in let s3 = small 3 in
    let f0 = few 0 in let f1 = few 1 in let f2 = few 2 in let f3 = few 3 in
    let first : a ≡ e = omega arith in
    let second : b ≡ f = omega arith in
    let third : c ≡ g = omega arith in
    let fourth : d ≡ h = omega arith in
    rw (first, second, third, fourth) refl
same_four _ _ long also small few same = absurd (omega arith)

-- so bytes begin with a word of four
pub begins_with : (bytes word : List ℕ) → 4 ≤ length bytes → length word ≡ 4 → ((i : ℕ) → get_or bytes i 0 < 256) → list_all is_of_words word ≡ true → word_of_four bytes ≡ word_of_four word → bytes ≡ word ++ drop 4 bytes
begins_with bytes word long four small letters same =
    sym (take-append-drop 4 bytes) ∙ ap (λ l. l ++ drop 4 bytes) (same_four bytes word long (omega arith) small (words_small word letters) same ∙ take_all 4 word (omega arith))

-- and then with this byte
pub then_with : (bytes word : List ℕ) (i x : ℕ) → bytes ≡ word ++ drop i bytes → i < length bytes → get_or bytes i 0 ≡ x → bytes ≡ word ++ x ∷ drop (i + 1) bytes
then_with bytes word i x begins lt is = begins ∙ ap (λ l. word ++ l) (drop_more bytes i 0 lt ∙ ap (λ y. y ∷ drop (i + 1) bytes) is)
