-- what is read of texts without a reader of JSON is spelled as it is written
use Rattle.std.proofs.Common.{◌≡◌, ℕ, suc, ◌+◌, ◌-◌, ◌*◌, ◌/◌, ◌%◌, ◌^◌, ◌<◌, ◌≤◌, ◌==◌, Bool, true, false, not, List, [], ◌∷◌, ◌++◌, length, Option, Some, None, Result, Ok, Err, inl, inr, if◌then◌else◌, decimal, codes, refl, sym, ap, ◌∙◌, subst, arith, append_assoc, nat_lt}
use Rattle.text_records.proofs.Common.{false≢true, eqb_tells, leb_tells, and_parts, nat_tests, list_all, decimal_digit, WorldKind, Event, Begin, Step, Enter, Probe, Seek, Leave, Put, Get, Widen, gives_names, is_wide, event_words, pieces_from, same_bytes, is_digit, is_printable, decimal_from, number_in, command_in, words, meaning, ShownReply, reply_words, Reported, reported_of}
use Rattle.std.proofs.lemmas.Fmt.{decimal_step}
use Rattle.std.proofs.lemmas.List.{append-nil}
use Rattle.model_asked.specs.declared.bad.Bad.{Bad}
use Rattle.model_asked.specs.declared.bad.Bad.TheVariants.{TooLong, NotPrintable, UnknownWord}
use Rattle.model_asked.specs.declared.command.Command.{Command}
use Rattle.model_asked.specs.declared.command.Command.TheVariants as command
use Rattle.model_asked.specs.declared.exchange.Exchange.{Exchange}
use Rattle.model_asked.specs.declared.reply.Reply.TheVariants as reply
use Rattle.text_lines.specs.Meaning.{if_below, command_if, command_of_one, event_of_one, event_if_both, event_of_two, quit_of, seek_of, desk_command_of, slot_command_of}
use Rattle.text_lines.specs.lemmas.NumberProofs.{decimal_from-grows}
use Rattle.text_player.specs.Records.{name_view, exchange_line}
use Rattle.text_records.specs.Lines.{line, IsCanonical}
use Rattle.text_records.specs.PlainLine.{SpellsEvent, SpellsReply}
use Rattle.text_records.specs.Reported.{is_name}
use Rattle.text_records.specs.ReportedWords.{reported_words}
use Rattle.text_records.proofs.CommandCases.{owner_of_one, quit_alone}
use Rattle.text_records.proofs.JsonLemmas.{same_is}
use Rattle.text_records.proofs.ReportedWords.{same_words}
use Rattle.text_records.proofs.written.PlainLines.{front, to_reply, close}

-- what holds of each holds of either
either : {X : Type 0} (P : X → Type 0) (b : Bool) (x y : X) → (b ≡ true → P x) → (b ≡ false → P y) → P (if b then x else y)
either P true x y h k = h refl
either P false x y h k = k refl

-- ---- numbers

-- the word is how the number is written
abbrev IsNumberWord : List ℕ → Option ℕ → Type 0
IsNumberWord word None = Unit {0}
IsNumberWord word (Some n) = word ≡ decimal n

digit_low : (b : ℕ) → is_digit b ≡ true → 48 ≤ b
digit_low b h = grind (arith, nat_tests)

digit_high : (b : ℕ) → is_digit b ≡ true → b ≤ 57
digit_high b h = grind (arith, nat_tests)

more_digits : (n : ℕ) (ds : List ℕ) → 0 < n → list_all is_digit ds ≡ true → decimal_from n ds < 2 ^ 64 → decimal (decimal_from n ds) ≡ decimal n ++ ds
more_digits n [] some h small = sym (append-nil (decimal n))
more_digits n (d ∷ ds) some h small =
    let parts = and_parts (is_digit d) (list_all is_digit ds) h in
    let low = digit_low d parts.0 in
    let high = digit_high d parts.0 in
    let m = n * 10 + (d - 48) in
    let grows : m ≤ decimal_from m ds = decimal_from-grows m ds in
    let above : 10 ≤ m = omega arith in
    let below : m < 2 ^ 64 = omega arith in
    let front : m / 10 ≡ n = omega arith in
    let last : 48 + m % 10 ≡ d = omega arith in
    let step : decimal m ≡ decimal n ++ d ∷ [] = decimal_step m above below ∙ (λ i. decimal (front i) ++ last i ∷ []) in
    more_digits m ds (omega arith) parts.1 small ∙ ap (λ (l : List ℕ). l ++ ds) step ∙ append_assoc (decimal n) (d ∷ []) ds

all_digits : (b : ℕ) (bs : List ℕ) → list_all is_digit (b ∷ bs) ≡ true → (b == 48) ≡ false → decimal_from 0 (b ∷ bs) < 2 ^ 64 → b ∷ bs ≡ decimal (decimal_from 0 (b ∷ bs))
all_digits b bs h other small =
    let parts = and_parts (is_digit b) (list_all is_digit bs) h in
    let low = digit_low b parts.0 in
    let high = digit_high b parts.0 in
    let some : 48 < b = grind (arith, nat_tests, low, other) in
    let n = 0 * 10 + (b - 48) in
    let digit : 48 + n ≡ b = omega arith in
    let one : decimal n ≡ b ∷ [] = decimal_digit n (omega arith) ∙ ap (λ x. x ∷ []) digit in
    sym (more_digits n bs (omega arith) parts.1 small ∙ ap (λ (l : List ℕ). l ++ bs) one)

zero_word : (b : ℕ) (bs : List ℕ) → (b == 48) ≡ true → (length bs == 0) ≡ true → b ∷ bs ≡ decimal 0
zero_word b [] e f = elim (eqb_tells b 48) [
  | inl k ↦ ap (λ x. x ∷ []) k.1 ∙ sym (decimal_digit 0 (omega arith))
  | inr k ↦ absurd (false≢true (sym k.0 ∙ e))
]
zero_word b (c ∷ cs) e f = elim (eqb_tells (length (c ∷ cs)) 0) [
  | inl k ↦ absurd (let none = k.1 in omega arith)
  | inr k ↦ absurd (false≢true (sym k.0 ∙ f))
]

below_word : (word : List ℕ) (n : ℕ) → (n < 2 ^ 64 → word ≡ decimal n) → IsNumberWord word (if_below (2 ^ 64) n)
below_word word n h = elim (leb_tells (suc n) (2 ^ 64)) [
  | inl e ↦ rw e.0 (h (let small = e.1 in omega arith))
  | inr e ↦ rw e.0 tt
]

number_word : (word : List ℕ) → IsNumberWord word (number_in word)
number_word [] = tt
number_word (b ∷ bs) =
    either (IsNumberWord (b ∷ bs)) (list_all is_digit (b ∷ bs)) _ None
    (λ digits. either (IsNumberWord (b ∷ bs)) (b == 48) (if length bs == 0 then Some 0 else None) (if_below (2 ^ 64) (decimal_from 0 (b ∷ bs)))
    (λ zero. either (IsNumberWord (b ∷ bs)) (length bs == 0) (Some 0) None (λ alone. zero_word b bs zero alone) (λ more. tt))
    (λ other. below_word (b ∷ bs) (decimal_from 0 (b ∷ bs)) (all_digits b bs digits other))) (λ no. tt)

-- digits that are read as a number are how it is written
pub number_is : (word : List ℕ) (n : ℕ) → number_in word ≡ Some n → word ≡ decimal n
number_is word n e = subst (IsNumberWord word) e (number_word word)

-- ---- words

-- each word, after a space
abbrev spaced : List (List ℕ) → List ℕ
spaced [] = []
spaced (w ∷ ws) = 32 ∷ (w ++ spaced ws)

spaced_pieces : (piece bytes : List ℕ) → spaced (pieces_from 32 piece bytes) ≡ 32 ∷ (piece ++ bytes)
spaced_pieces piece [] = refl
spaced_pieces piece (b ∷ bs) = elim (eqb_tells b 32) [
  | inl e ↦ rw e.0 (ap (λ (l : List ℕ). 32 ∷ (piece ++ l)) (spaced_pieces [] bs ∙ ap (λ x. x ∷ bs) (sym e.1)))
  | inr e ↦ rw e.0 (spaced_pieces (piece ++ b ∷ []) bs ∙ ap (λ (l : List ℕ). 32 ∷ l) (append_assoc piece (b ∷ []) bs))
]

tails : (x : ℕ) (a b : List ℕ) → x ∷ a ≡ x ∷ b → a ≡ b
tails x a b e = cc

-- a line that asks for an event has its words
abbrev IsWordsOf : List ℕ → Result Command Bad → Type 0
IsWordsOf line (Ok (command.Event e)) = line ≡ event_words e
IsWordsOf line (Ok (command.Owner n)) = Unit {0}
IsWordsOf line (Ok command.Quit) = Unit {0}
IsWordsOf line (Err bad) = Unit {0}

module _ (line : List ℕ) where
  one_by : (event : ℕ → Event) (name word : List ℕ) → ((n : ℕ) → event_words (event n) ≡ name ++ 32 ∷ decimal n) → (o : Option ℕ) → IsNumberWord word o → 32 ∷ line ≡ 32 ∷ (name ++ spaced (word ∷ [])) → IsWordsOf line (command_if (λ n. command.Event (event n)) o)
  one_by event name word spells None k h = tt
  one_by event name word spells (Some n) k h = tails 32 _ _ h ∙ ap (λ (l : List ℕ). name ++ 32 ∷ l) (append-nil word ∙ k) ∙ sym (spells n)

  one : (event : ℕ → Event) (name : List ℕ) (others : List (List ℕ)) → ((n : ℕ) → event_words (event n) ≡ name ++ 32 ∷ decimal n) → 32 ∷ line ≡ 32 ∷ (name ++ spaced others) → IsWordsOf line (event_of_one event others)
  one event name [] spells h = tt
  one event name (word ∷ []) spells h = one_by event name word spells (number_in word) (number_word word) h
  one event name (word ∷ other ∷ more) spells h = tt

  both_by : (word other : List ℕ) (p value : Option ℕ) → IsNumberWord word p → IsNumberWord other value → 32 ∷ line ≡ 32 ∷ (codes "put" ++ spaced (word ∷ other ∷ [])) → IsWordsOf line (event_if_both Put p value)
  both_by word other None value j k h = tt
  both_by word other (Some p) None j k h = tt
  both_by word other (Some p) (Some value) j k h =
      let number : other ++ [] ≡ decimal value = append-nil other ∙ k in
      tails 32 _ _ h ∙ (λ i. codes "put " ++ (j i ++ 32 ∷ number i)) ∙ ap (λ (l : List ℕ). codes "put " ++ l) (sym (append_assoc (decimal p) (codes " ") (decimal value)))

  two : (others : List (List ℕ)) → 32 ∷ line ≡ 32 ∷ (codes "put" ++ spaced others) → IsWordsOf line (event_of_two Put others)
  two [] h = tt
  two (word ∷ []) h = tt
  two (word ∷ other ∷ []) h = both_by word other (number_in word) (number_in other) (number_word word) (number_word other) h
  two (word ∷ other ∷ third ∷ more) h = tt

  module _ (kind : WorldKind) (word : List ℕ) (others : List (List ℕ)) (h : 32 ∷ line ≡ 32 ∷ (word ++ spaced others)) where
    named : (name : List ℕ) → same_bytes word name ≡ true → 32 ∷ line ≡ 32 ∷ (name ++ spaced others)
    named name is = h ∙ ap (λ (w : List ℕ). 32 ∷ (w ++ spaced others)) (same_is word name is)

    event_named : (event : ℕ → Event) (name : List ℕ) → ((n : ℕ) → event_words (event n) ≡ name ++ 32 ∷ decimal n) → same_bytes word name ≡ true → IsWordsOf line (event_of_one event others)
    event_named event name spells is = one event name others spells (named name is)

    of_seek : (wide : Bool) → same_bytes word (codes "seek") ≡ true → IsWordsOf line (seek_of wide others)
    of_seek true is = event_named Seek (codes "seek") (λ n. refl) is
    of_seek false is = tt

    of_slots : IsWordsOf line (slot_command_of kind word others)
    of_slots =
        either (IsWordsOf line) (same_bytes word (codes "put")) (event_of_two Put others) _ (λ is. two others (named (codes "put") is))
        (λ n. either (IsWordsOf line) (same_bytes word (codes "get")) (event_of_one Get others) _ (event_named Get (codes "get") (λ n. refl))
        (λ n. either (IsWordsOf line) (same_bytes word (codes "widen")) (event_of_one Widen others) _ (event_named Widen (codes "widen") (λ n. refl))
        (λ n. either (IsWordsOf line) (same_bytes word (codes "owner")) (command_of_one command.Owner others) _ (λ is. owner_of_one (IsWordsOf line) (λ bad. tt) (λ n. tt) others)
        (λ n. either (IsWordsOf line) (same_bytes word (codes "seek")) (seek_of (is_wide kind) others) (Err UnknownWord) (of_seek (is_wide kind)) (λ n. tt)))))

    of_desk : IsWordsOf line (desk_command_of kind word others)
    of_desk =
        either (IsWordsOf line) (same_bytes word (codes "enter")) (event_of_one Enter others) _ (event_named Enter (codes "enter") (λ n. refl))
        (λ n. either (IsWordsOf line) (same_bytes word (codes "probe")) (event_of_one Probe others) _ (event_named Probe (codes "probe") (λ n. refl))
        (λ n. either (IsWordsOf line) (same_bytes word (codes "leave")) (event_of_one Leave others) _ (event_named Leave (codes "leave") (λ n. refl)) (λ n. of_slots)))

    of_command : IsWordsOf line (command_in kind (word ∷ others))
    of_command =
        either (IsWordsOf line) (same_bytes word (codes "begin")) (event_of_one Begin others) _ (event_named Begin (codes "begin") (λ n. refl))
        (λ n. either (IsWordsOf line) (same_bytes word (codes "step")) (event_of_one Step others) _ (event_named Step (codes "step") (λ n. refl))
        (λ n. either (IsWordsOf line) (same_bytes word (codes "quit")) (quit_of others) _ (λ is. quit_alone (IsWordsOf line) (λ bad. tt) tt others)
        (λ n. either (IsWordsOf line) (gives_names kind) (desk_command_of kind word others) (Err UnknownWord) (λ is. of_desk) (λ n. tt))))

  of_words : (kind : WorldKind) (ws : List (List ℕ)) → 32 ∷ line ≡ spaced ws → IsWordsOf line (command_in kind ws)
  of_words kind [] h = tt
  of_words kind (word ∷ others) h = of_command kind word others h

  line_words : (kind : WorldKind) → IsWordsOf line (meaning kind line)
  line_words kind =
      either (IsWordsOf line) (nat_lt 100 (length line)) (Err TooLong) _ (λ is. tt)
      (λ n. either (IsWordsOf line) (not (list_all is_printable line)) (Err NotPrintable) (command_in kind (words line)) (λ is. tt) (λ n. of_words kind (words line) (sym (spaced_pieces [] line))))

-- ---- lines

-- what is no name has no view beside it
no_view : (shows : Bool) (r : ShownReply) → is_name (reported_of shows r) ≡ false → name_view r ≡ []
no_view shows (reply.Named name view) h = absurd (false≢true (sym h))
no_view shows r h = refl

lined : (a e b r q z n : List ℕ) → (((((a ++ e) ++ b) ++ r) ++ q) ++ []) ++ (z ++ n) ≡ (a ++ (e ++ (b ++ (r ++ (q ++ z))))) ++ n
lined a e b r q z n = simp append_assoc

-- the bytes of such a line are written of it
pub line_canonical : (kind : WorldKind) (bytes : List ℕ) (e : Event) (text : List ℕ) (t : Reported) → SpellsEvent kind bytes e text → SpellsReply text t → IsCanonical bytes (line e t)
line_canonical kind bytes e text t a b x w =
    let event : x.event ≡ e = ap (λ l. l.event) w.spelled in
    let told : reported_of w.shows x.reply ≡ t = ap (λ l. l.reported) w.spelled in
    let asked : a.asked ≡ event_words e = subst (IsWordsOf a.asked) a.means (line_words a.asked kind) in
    let replied : reply_words x.reply ≡ b.replied = same_words w.shows x.reply ∙ ap reported_words told ∙ sym b.words in
    let bare : name_view x.reply ≡ [] = no_view w.shows x.reply (ap is_name told ∙ b.unnamed) in
    let words : event_words x.event ≡ a.asked = ap event_words event ∙ sym asked in
    let whole : bytes ≡ front ++ (a.asked ++ (to_reply ++ (b.replied ++ close))) = a.written ∙ ap (λ (l : List ℕ). front ++ (a.asked ++ (to_reply ++ l))) b.end.written in
    (λ i. ((((((front ++ words i) ++ to_reply) ++ replied i) ++ codes "\"") ++ bare i) ++ codes "}\n"))
    ∙ lined front a.asked to_reply b.replied (codes "\"") (codes "}") (10 ∷ [])
    ∙ ap (λ (l : List ℕ). l ++ 10 ∷ []) (sym whole)
