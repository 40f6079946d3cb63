-- a line that asks for an event is spelled as the words of that event
use Rattle.std.proofs.Common.{◌≡◌, ℕ, ◌+◌, ◌-◌, ◌*◌, ◌/◌, ◌%◌, ◌^◌, ◌<◌, ◌≤◌, ◌==◌, suc, Bool, true, false, not, List, [], ◌∷◌, ◌++◌, length, Option, Some, None, Result, Ok, Err, inl, inr, refl, sym, ap, subst, ◌∙◌, append_assoc, codes, decimal, arith, length-append, nat_lt, if◌then◌else◌}
use Rattle.std.specs.List.{list_all}
use Rattle.std.proofs.lemmas.List.{append-nil}
use Rattle.std.proofs.lemmas.Bool.Decides.{nat_tests, leb_tells, eqb_tells}
use Rattle.std.proofs.lemmas.Fmt.{decimal_digit, decimal_step, length-decimal-le}
use Rattle.std.proofs.lemmas.Bool.{false≢true, and_parts}
use Rattle.model_asked.specs.declared.bad.Bad.{Bad}
use Rattle.model_asked.specs.declared.command.Command.{Command}
use Rattle.model_asked.specs.declared.event.Event.{Event}
use Rattle.model_asked.specs.declared.kind.WorldKind.{WorldKind}
use Rattle.model_asked.specs.declared.event.Event.TheVariants.{Begin, Step, Enter, Probe, Seek, Leave, Put, Get, Widen}
use Rattle.model_asked.specs.Config.{gives_names, is_wide}
use Rattle.model_asked.specs.declared.bad.Bad.TheVariants.{TooLong, NotPrintable, UnknownWord}
use Rattle.model_asked.specs.declared.command.Command.TheVariants as command
use Rattle.text_lines.specs.Events.{event_words}
use Rattle.text_lines.specs.Lines.{pieces_from}
use Rattle.text_lines.specs.Meaning.{is_digit, is_printable, decimal_from, if_below, number_in, same_bytes, command_if, command_of_one, event_of_one, event_if_both, event_of_two, quit_of, seek_of, desk_command_of, command_in, words, meaning}
use Rattle.text_lines.specs.lemmas.NumberProofs.{decimal_from-grows}

-- texts that compare equal are
same_is : (xs ys : List ℕ) → same_bytes xs ys ≡ true → xs ≡ ys
same_is [] [] h = refl
same_is [] (y ∷ ys) h = absurd (false≢true h)
same_is (x ∷ xs) [] h = absurd (false≢true h)
same_is (x ∷ xs) (y ∷ ys) h = elim (eqb_tells x y) [
  | inl k ↦ let t : same_bytes xs ys ≡ true = rw k.0 at h in λ i. k.1 i ∷ same_is xs ys t i
  | inr k ↦ absurd (false≢true (rw k.0 at h))
]

-- words, each after a space
abbrev after_spaces : List (List ℕ) → List ℕ
after_spaces [] = []
after_spaces (w ∷ ws) = 32 ∷ w ++ after_spaces ws

-- a line is its words again
spaces-pieces : (piece line : List ℕ) → after_spaces (pieces_from 32 piece line) ≡ 32 ∷ piece ++ line
spaces-pieces piece [] = refl
spaces-pieces piece (b ∷ bs) = elim (eqb_tells b 32) [
  | inl e ↦ rw e.0 (ap (λ t. 32 ∷ piece ++ t) (spaces-pieces [] bs) ∙ ap (λ x. 32 ∷ piece ++ x ∷ bs) (sym e.1))
  | inr e ↦ rw e.0 (spaces-pieces (piece ++ b ∷ []) bs ∙ ap (λ t. 32 ∷ t) (append_assoc piece (b ∷ []) bs))
]

-- a digit more at the end of a number that is not 0
decimal-push : (n b : ℕ) → 0 < n → is_digit b ≡ true → n * 10 + (b - 48) < 2 ^ 64 → decimal (n * 10 + (b - 48)) ≡ decimal n ++ b ∷ []
decimal-push n b some digit small =
    let low : 48 ≤ b = grind (arith, nat_tests, digit) in
    let high : b ≤ 57 = grind (arith, nat_tests, digit) in
    let front : (n * 10 + (b - 48)) / 10 ≡ n = omega arith in
    let last : 48 + (n * 10 + (b - 48)) % 10 ≡ b = omega arith in
    decimal_step (n * 10 + (b - 48)) (omega arith) small ∙ rw (front, last) refl

-- digits after a number that is not 0
decimal-digits : (n : ℕ) (digits : List ℕ) → 0 < n → list_all is_digit digits ≡ true → decimal_from n digits < 2 ^ 64 → decimal (decimal_from n digits) ≡ decimal n ++ digits
decimal-digits n [] some digits small = sym (append-nil (decimal n))
decimal-digits n (b ∷ bs) some digits small =
    let parts = and_parts (is_digit b) (list_all is_digit bs) digits in
    let grows = decimal_from-grows (n * 10 + (b - 48)) bs in
    decimal-digits (n * 10 + (b - 48)) bs (omega arith) parts.1 small
    ∙ ap (λ t. t ++ bs) (decimal-push n b some parts.0 (omega arith)) ∙ append_assoc (decimal n) (b ∷ []) bs

-- what is read of a word is written as that word, in 20 digits at most
abbrev IsWrittenAs : List ℕ → Option ℕ → Type 0
IsWrittenAs word None = Unit {0}
IsWrittenAs word (Some n) = (decimal n ≡ word) × (length word ≤ 20)

written-below : (word : List ℕ) (n : ℕ) → (n < 2 ^ 64 → decimal n ≡ word) → IsWrittenAs word (if_below (2 ^ 64) n)
written-below word n written = elim (leb_tells (suc n) (2 ^ 64)) [
  | inl e ↦ rw e.0 (
      let few : length (decimal n) ≤ 20 = length-decimal-le 20 n (omega arith) (let small = e.1 in omega arith) e.1 in
      (written e.1, subst (λ (t : List ℕ). length t ≤ 20) (written e.1) few))
  | inr e ↦ rw e.0 tt
]

-- a digit by itself, other than 0, and more digits
written-digits : (b : ℕ) (bs : List ℕ) → is_digit b ≡ true → list_all is_digit bs ≡ true → (b == 48) ≡ false → decimal_from 0 (b ∷ bs) < 2 ^ 64 → decimal (decimal_from 0 (b ∷ bs)) ≡ b ∷ bs
written-digits b bs digit digits other small =
    let low : 48 ≤ b = grind (arith, nat_tests, digit) in
    let high : b ≤ 57 = grind (arith, nat_tests, digit) in
    let above : 48 < b = grind (arith, nat_tests, digit, other) in
    let one : decimal (0 * 10 + (b - 48)) ≡ (48 + (0 * 10 + (b - 48))) ∷ [] = decimal_digit (0 * 10 + (b - 48)) (omega arith) in
    let same : 48 + (0 * 10 + (b - 48)) ≡ b = omega arith in
    decimal-digits (0 * 10 + (b - 48)) bs (omega arith) digits small ∙ ap (λ t. t ++ bs) (one ∙ ap (λ x. x ∷ []) same)

number-written : (word : List ℕ) → IsWrittenAs word (number_in word)
number-written [] = tt
number-written (b ∷ bs) =
    elim (list_all is_digit (b ∷ bs)) as (λ d. list_all is_digit (b ∷ bs) ≡ d → IsWrittenAs (b ∷ bs) (if d then (if b == 48 then (if length bs == 0 then Some 0 else None) else if_below (2 ^ 64) (decimal_from 0 (b ∷ bs))) else None)) [
      | true ↦ λ all.
          let digits = and_parts (is_digit b) (list_all is_digit bs) all in
          elim (eqb_tells b 48) [
            | inl e ↦ rw e.0 (zero bs e.1)
            | inr e ↦ rw e.0 (written-below (b ∷ bs) (decimal_from 0 (b ∷ bs)) (written-digits b bs digits.0 digits.1 e.0))
          ]
      | false ↦ λ all. tt
    ] refl
  where
    zero : (bs : List ℕ) → b ≡ 48 → IsWrittenAs (b ∷ bs) (if length bs == 0 then Some 0 else None)
    zero [] is = (decimal_digit 0 (omega arith) ∙ ap (λ x. x ∷ []) (sym is), omega arith)
    zero (c ∷ cs) is = elim (eqb_tells (length (c ∷ cs)) 0) [
      | inl e ↦ let none : suc (length cs) ≡ 0 = e.1 in absurd (omega arith)
      | inr e ↦ rw e.0 tt
    ]

-- where these words, each after a space, ask for an event, they are spelled as its words, and short
abbrev IsSpelled : List ℕ → Result Command Bad → Type 0
IsSpelled text (Ok (command.Event e)) = (text ≡ 32 ∷ event_words e) × (length text ≤ 46)
IsSpelled text r = Unit {0}

either_spelled : (text : List ℕ) (b : Bool) (x y : Result Command Bad) → (b ≡ true → IsSpelled text x) → IsSpelled text y → IsSpelled text (if b then x else y)
either_spelled text true x y h k = h refl
either_spelled text false x y h k = k

-- where the first word is this one
word_spelled : (first word : List ℕ) (others : List (List ℕ)) (x y : Result Command Bad) → IsSpelled (after_spaces (first ∷ others)) x → IsSpelled (after_spaces (word ∷ others)) y →
    IsSpelled (after_spaces (word ∷ others)) (if same_bytes word first then x else y)
word_spelled first word others x y h = either_spelled (after_spaces (word ∷ others)) (same_bytes word first) x y (λ same. subst (λ t. IsSpelled (32 ∷ t ++ after_spaces others) x) (sym (same_is word first same)) h)

-- an event of one number
one_by : (event : ℕ → Event) (first : List ℕ) (word : List ℕ) (o : Option ℕ) → length first ≤ 5 → ((n : ℕ) → event_words (event n) ≡ first ++ 32 ∷ decimal n) → IsWrittenAs word o → IsSpelled (32 ∷ first ++ 32 ∷ word) (command_if (λ n. command.Event (event n)) o)
one_by event first word None few spelled h = tt
one_by event first word (Some n) few spelled h =
    (ap (λ t. 32 ∷ first ++ 32 ∷ t) (sym h.0) ∙ ap (λ t. 32 ∷ t) (sym (spelled n)), omega (arith, length-append first (32 ∷ word), h.1, few))

one_spelled : (event : ℕ → Event) (first : List ℕ) (others : List (List ℕ)) → length first ≤ 5 → ((n : ℕ) → event_words (event n) ≡ first ++ 32 ∷ decimal n) → IsSpelled (after_spaces (first ∷ others)) (event_of_one event others)
one_spelled event first [] few spelled = tt
one_spelled event first (word ∷ []) few spelled = rw (append-nil word) (one_by event first word (number_in word) few spelled (number-written word))
one_spelled event first (word ∷ other ∷ more) few spelled = tt

both_by : (word other : List ℕ) (p value : Option ℕ) → IsWrittenAs word p → IsWrittenAs other value → IsSpelled (32 ∷ codes "put" ++ 32 ∷ word ++ 32 ∷ other) (event_if_both Put p value)
both_by word other None value h k = tt
both_by word other (Some p) None h k = tt
both_by word other (Some p) (Some value) h k = (
  ap (λ t. 32 ∷ codes "put" ++ 32 ∷ t ++ 32 ∷ other) (sym h.0) ∙ ap (λ t. 32 ∷ codes "put" ++ 32 ∷ decimal p ++ 32 ∷ t) (sym k.0) ∙ sym (append_assoc (32 ∷ codes "put" ++ 32 ∷ decimal p) (codes " ") (decimal value)),
  omega (arith, length-append word (32 ∷ other), h.1, k.1),
)

two_spelled : (others : List (List ℕ)) → IsSpelled (after_spaces (codes "put" ∷ others)) (event_of_two Put others)
two_spelled [] = tt
two_spelled (word ∷ []) = tt
two_spelled (word ∷ other ∷ []) = rw (append-nil other) (both_by word other (number_in word) (number_in other) (number-written word) (number-written other))
two_spelled (word ∷ other ∷ third ∷ more) = tt

owner_by : (text : List ℕ) (o : Option ℕ) → IsSpelled text (command_if command.Owner o)
owner_by text None = tt
owner_by text (Some n) = tt

owner_spelled : (text : List ℕ) (others : List (List ℕ)) → IsSpelled text (command_of_one command.Owner others)
owner_spelled text [] = tt
owner_spelled text (word ∷ []) = owner_by text (number_in word)
owner_spelled text (word ∷ other ∷ more) = tt

quit_spelled : (text : List ℕ) (others : List (List ℕ)) → IsSpelled text (quit_of others)
quit_spelled text [] = tt
quit_spelled text (word ∷ more) = tt

seek_spelled : (wide : Bool) (others : List (List ℕ)) → IsSpelled (after_spaces (codes "seek" ∷ others)) (seek_of wide others)
seek_spelled true others = one_spelled Seek (codes "seek") others (omega arith) (λ n. refl)
seek_spelled false others = tt

desk_spelled : (kind : WorldKind) (word : List ℕ) (others : List (List ℕ)) → IsSpelled (after_spaces (word ∷ others)) (desk_command_of kind word others)
desk_spelled kind word others =
    word_spelled (codes "enter") word others _ _ (one_spelled Enter (codes "enter") others (omega arith) (λ n. refl))
    (word_spelled (codes "probe") word others _ _ (one_spelled Probe (codes "probe") others (omega arith) (λ n. refl))
    (word_spelled (codes "leave") word others _ _ (one_spelled Leave (codes "leave") others (omega arith) (λ n. refl))
    (word_spelled (codes "put") word others _ _ (two_spelled others)
    (word_spelled (codes "get") word others _ _ (one_spelled Get (codes "get") others (omega arith) (λ n. refl))
    (word_spelled (codes "widen") word others _ _ (one_spelled Widen (codes "widen") others (omega arith) (λ n. refl))
    (word_spelled (codes "owner") word others _ _ (owner_spelled _ others)
    (word_spelled (codes "seek") word others _ (Err UnknownWord) (seek_spelled (is_wide kind) others) tt)))))))

words_spelled : (kind : WorldKind) (ws : List (List ℕ)) → IsSpelled (after_spaces ws) (command_in kind ws)
words_spelled kind [] = tt
words_spelled kind (word ∷ others) =
    word_spelled (codes "begin") word others _ _ (one_spelled Begin (codes "begin") others (omega arith) (λ n. refl))
    (word_spelled (codes "step") word others _ _ (one_spelled Step (codes "step") others (omega arith) (λ n. refl))
    (word_spelled (codes "quit") word others _ _ (quit_spelled _ others)
    (either_spelled _ (gives_names kind) (desk_command_of kind word others) (Err UnknownWord) (λ is. desk_spelled kind word others) tt)))

-- a line that asks for an event has its words, and is short
pub event-spelled : (kind : WorldKind) (line : List ℕ) (e : Event) → meaning kind line ≡ Ok (command.Event e) → (line ≡ event_words e) × (length line ≤ 45)
event-spelled kind line e is =
    let by_words : IsSpelled (32 ∷ line) (command_in kind (words line)) = subst (λ t. IsSpelled t (command_in kind (words line))) (spaces-pieces [] line) (words_spelled kind (words line)) in
    let line_spelled : IsSpelled (32 ∷ line) (meaning kind line) = either_spelled _ (nat_lt 100 (length line)) (Err TooLong) _ (λ is. tt) (either_spelled _ (not (list_all is_printable line)) (Err NotPrintable) _ (λ is. tt) by_words) in
    let spelled : (32 ∷ line ≡ 32 ∷ event_words e) × (length (32 ∷ line) ≤ 46) = rw is at line_spelled in (let same = spelled.0 in cc, let few = spelled.1 in omega arith)
