-- what lines ask and tell fits a record
use Rattle.std.proofs.Common.{◌≡◌, refl, ℕ, suc, ◌^◌, ◌<◌, ◌==◌, Bool, true, false, List, [], ◌∷◌, length, Option, Some, None, Err, inl, inr, subst, arith, codes, nat_lt, if◌then◌else◌, not, option_map, option_and_then}
use Rattle.text_records.proofs.Common.{list_all, leb_tells, WorldKind, Event, Begin, Step, Enter, Probe, Seek, Leave, Put, Get, Widen, gives_names, is_wide, Version, One, Two, Line, Reported, IsEventLine}
use Rattle.model_asked.specs.declared.bad.Bad.TheVariants.{TooLong, NotPrintable, UnknownWord}
use Rattle.model_asked.specs.declared.command.Command.TheVariants as command
use Rattle.text_lines.specs.Meaning.{is_digit, is_printable, decimal_from, if_below, number_in, same_bytes, command_if, command_of_one, event_of_one, event_if_both, event_of_two, quit_of, seek_of, desk_command_of, command_in, words, meaning, number_below}
use Rattle.text_records.proofs.CommandCases.{owner_of_one, quit_alone}
use Rattle.text_records.specs.Narrow.{IsNarrowEvent, IsNarrow, FitsReported}
use Rattle.text_records.specs.declared.reported.Reported.TheVariants as reported
use Rattle.text_records.specs.ReplyText.{reported_in, reported_of_words, plain_of, word_alone, word_with, owner_of, saw_of, pairs_in, reported_with, reported_by}

-- ---- what lines ask

-- what holds of both holds of either
either : {X : Type 0} (P : X → Type 0) (b : Bool) (x y : X) → P x → P y → P (if b then x else y)
either P true x y h k = h
either P false x y h k = k

-- a number below a bound, or none
abbrev IsBelow : ℕ → Option ℕ → Type 0
IsBelow bound None = Unit {0}
IsBelow bound (Some n) = n < bound

fits_below : (bound n : ℕ) → IsBelow bound (if_below bound n)
fits_below bound n = elim (leb_tells (suc n) bound) [
  | inl e ↦ rw e.0 (let small = e.1 in omega arith)
  | inr e ↦ rw e.0 tt
]

word_below : (bound : ℕ) (word : List ℕ) → 0 < bound → IsBelow bound (number_below bound word)
word_below bound [] some = tt
word_below bound (b ∷ bs) some =
    either (IsBelow bound) (list_all is_digit (b ∷ bs)) _ None
    (either (IsBelow bound) (b == 48) (if length bs == 0 then Some 0 else None) (if_below bound (decimal_from 0 (b ∷ bs))) (either (IsBelow bound) (length bs == 0) (Some 0) None some tt)
    (fits_below bound (decimal_from 0 (b ∷ bs)))) tt

module _ (kind : WorldKind) where
  one_by : (event : ℕ → Event) → ((n : ℕ) → n < 2 ^ 64 → IsNarrowEvent kind (event n)) → (o : Option ℕ) → IsBelow (2 ^ 64) o → IsNarrow kind (command_if (λ n. command.Event (event n)) o)
  one_by event narrow None h = tt
  one_by event narrow (Some n) h = narrow n h

  one_narrow : (event : ℕ → Event) → ((n : ℕ) → n < 2 ^ 64 → IsNarrowEvent kind (event n)) → (others : List (List ℕ)) → IsNarrow kind (event_of_one event others)
  one_narrow event narrow [] = tt
  one_narrow event narrow (word ∷ []) = one_by event narrow (number_in word) (word_below (2 ^ 64) word (omega arith))
  one_narrow event narrow (word ∷ other ∷ more) = tt

  both_by : (p value : Option ℕ) → IsBelow (2 ^ 64) p → IsBelow (2 ^ 64) value → IsNarrow kind (event_if_both Put p value)
  both_by None value h k = tt
  both_by (Some p) None h k = tt
  both_by (Some p) (Some value) h k = (h, k)

  two_narrow : (others : List (List ℕ)) → IsNarrow kind (event_of_two Put others)
  two_narrow [] = tt
  two_narrow (word ∷ []) = tt
  two_narrow (word ∷ other ∷ []) = both_by (number_in word) (number_in other) (word_below (2 ^ 64) word (omega arith)) (word_below (2 ^ 64) other (omega arith))
  two_narrow (word ∷ other ∷ third ∷ more) = tt

  seek_narrow : (wide : Bool) → is_wide kind ≡ wide → (others : List (List ℕ)) → IsNarrow kind (seek_of wide others)
  seek_narrow true is others = one_narrow Seek (λ n h. (is, h)) others
  seek_narrow false is others = tt

  desk_narrow : (word : List ℕ) (others : List (List ℕ)) → IsNarrow kind (desk_command_of kind word others)
  desk_narrow word others =
      either (IsNarrow kind) (same_bytes word (codes "enter")) (event_of_one Enter others) _ (one_narrow Enter (λ n h. h) others)
      (either (IsNarrow kind) (same_bytes word (codes "probe")) (event_of_one Probe others) _ (one_narrow Probe (λ n h. h) others)
      (either (IsNarrow kind) (same_bytes word (codes "leave")) (event_of_one Leave others) _ (one_narrow Leave (λ n h. h) others)
      (either (IsNarrow kind) (same_bytes word (codes "put")) (event_of_two Put others) _ (two_narrow others)
      (either (IsNarrow kind) (same_bytes word (codes "get")) (event_of_one Get others) _ (one_narrow Get (λ n h. h) others)
      (either (IsNarrow kind) (same_bytes word (codes "widen")) (event_of_one Widen others) _ (one_narrow Widen (λ n h. h) others)
      (either (IsNarrow kind) (same_bytes word (codes "owner")) (command_of_one command.Owner others) _ (owner_of_one (IsNarrow kind) (λ bad. tt) (λ n. tt) others)
      (either (IsNarrow kind) (same_bytes word (codes "seek")) (seek_of (is_wide kind) others) (Err UnknownWord) (seek_narrow (is_wide kind) refl others) tt)))))))

  words_narrow : (ws : List (List ℕ)) → IsNarrow kind (command_in kind ws)
  words_narrow [] = tt
  words_narrow (word ∷ others) =
      either (IsNarrow kind) (same_bytes word (codes "begin")) (event_of_one Begin others) _ (one_narrow Begin (λ n h. h) others)
      (either (IsNarrow kind) (same_bytes word (codes "step")) (event_of_one Step others) _ (one_narrow Step (λ n h. h) others)
      (either (IsNarrow kind) (same_bytes word (codes "quit")) (quit_of others) _ (quit_alone (IsNarrow kind) (λ bad. tt) tt others)
      (either (IsNarrow kind) (gives_names kind) (desk_command_of kind word others) (Err UnknownWord) (desk_narrow word others) tt)))

  pub line_narrow : (line : List ℕ) → IsNarrow kind (meaning kind line)
  line_narrow line =
      either (IsNarrow kind) (nat_lt 100 (length line)) (Err TooLong) _ tt
      (either (IsNarrow kind) (not (list_all is_printable line)) (Err NotPrintable) (command_in kind (words line)) tt (words_narrow (words line)))

-- ---- what lines tell

abbrev IfFits : Option Reported → Type 0
IfFits None = Unit {0}
IfFits (Some t) = FitsReported t

-- a reply of another kind, of what was read
other_fits : {X : Type 0} (make : X → Reported) → ((x : X) → FitsReported (make x)) → (o : Option X) → IfFits (option_map make o)
other_fits make fits None = tt
other_fits make fits (Some x) = fits x

place_by : (o : Option ℕ) → IsBelow (2 ^ 128) o → IfFits (option_map reported.Place o)
place_by None h = tt
place_by (Some n) h = h

owner_fits : (other : List ℕ) → IfFits (owner_of other)
owner_fits other = either IfFits (same_bytes other (codes "none")) _ _ tt (other_fits (λ id. reported.Owner (Some id)) (λ id. tt) (number_in other))

with_fits : (word other : List ℕ) → IfFits (word_with word other)
with_fits word other =
    either IfFits (same_bytes word (codes "place")) _ _ (place_by (number_below (2 ^ 128) other) (word_below (2 ^ 128) other (omega arith)))
    (either IfFits (same_bytes word (codes "proposed")) _ _ (other_fits reported.Proposed (λ n. tt) (number_in other))
    (either IfFits (same_bytes word (codes "named")) _ _ (other_fits (λ n. reported.Named n None) (λ n. tt) (number_in other))
    (either IfFits (same_bytes word (codes "got")) _ _ (other_fits reported.Got (λ n. tt) (number_in other))
    (either IfFits (same_bytes word (codes "left")) _ _ (other_fits reported.Left (λ n. tt) (number_in other))
    (either IfFits (same_bytes word (codes "value")) _ _ (other_fits reported.Value (λ n. tt) (number_in other))
    (either IfFits (same_bytes word (codes "refused")) _ _ (other_fits reported.Refused (λ n. tt) (number_in other))
    (either IfFits (same_bytes word (codes "owner")) (owner_of other) None (owner_fits other) tt)))))))

alone_fits : (word : List ℕ) → IfFits (word_alone word)
alone_fits word =
    either IfFits (same_bytes word (codes "ok")) _ _ tt
    (either IfFits (same_bytes word (codes "quiet")) _ _ tt
    (either IfFits (same_bytes word (codes "stop")) _ _ tt
    (either IfFits (same_bytes word (codes "right")) _ _ tt
    (either IfFits (same_bytes word (codes "down")) _ _ tt
    (either IfFits (same_bytes word (codes "spent")) _ _ tt
    (either IfFits (same_bytes word (codes "missed")) (Some reported.Missed) None tt tt))))))

plain_fits : (word : List ℕ) (others : List (List ℕ)) → IfFits (plain_of word others)
plain_fits word [] = alone_fits word
plain_fits word (other ∷ []) = with_fits word other
plain_fits word (other ∷ third ∷ more) = tt

saw_fits : (others : List (List ℕ)) → IfFits (saw_of others)
saw_fits [] = tt
saw_fits (word ∷ more) = other_fits reported.Saw (λ view. tt) _

words_fit : (ws : List (List ℕ)) → IfFits (reported_of_words ws)
words_fit [] = tt
words_fit (word ∷ others) = either IfFits (same_bytes word (codes "saw")) _ _ (saw_fits others) (plain_fits word others)

beside_fits : (v : Version) (t : Reported) (shown : Option (List ℕ)) → FitsReported t → IfFits (reported_with v t shown)
beside_fits One t None h = h
beside_fits One t (Some text) h = tt
beside_fits Two (reported.Named name seen) None h = tt
beside_fits Two (reported.Named name seen) (Some text) h = other_fits (λ view. reported.Named name (Some view)) (λ view. tt) (pairs_in text)
beside_fits Two t None h = h
beside_fits Two t (Some text) h = tt

reported_fits : (v : Version) (text : List ℕ) (shown : Option (List ℕ)) → IfFits (reported_by v text shown)
reported_fits v text shown = by (reported_in text) (words_fit (words text))
  where
    by : (o : Option Reported) → IfFits o → IfFits (option_and_then (λ t. reported_with v t shown) o)
    by None h = tt
    by (Some t) h = beside_fits v t shown h

-- the numbers of an event's line
pub line_fits : (kind : WorldKind) (v : Version) (row : List ℕ) (l : Line) → IsEventLine kind v row l → IsNarrowEvent kind l.event × FitsReported l.reported
line_fits kind v row l h = (subst (IsNarrow kind) h.says.event_is (line_narrow kind h.says.asked), subst IfFits h.says.reported_is (reported_fits v h.says.replied h.says.shown))
