-- lines of those who own their identities
use Rattle.std.proofs.Common.{◌≡◌, ℕ, ◌==◌, List, true, false, not, map, nat_lt, ◌+◌, [], ◌∷◌, ◌++◌, Option, Some, ◌≤◌, length, take, drop, inl, inr, arith, length-append, refl, sym, ap, subst, ◌∙◌}
use Rattle.std.proofs.lemmas.Bool.{and_parts, cases_Bool, eqb-true, leb-true, lt-ltb, not-true}
use Rattle.std.proofs.lemmas.List.{append-nil, append_assoc, length-take-le, take-append-drop}
use Rattle.std.proofs.Math.Seq.{take-append_seam}
use Rattle.std.proofs.KnownBytes.{Consumes-trans}
use Rattle.std.specs.Io.KnownBytes.{Consumes}
use Rattle.std.specs.List.{list_all}
use Rattle.text_lines.specs.Lines.{has_no_lf, pieces_from, pieces_left, with_ends}
use Rattle.service_loop.specs.OwnerLines.{behind, is_short, owned_line, with_byte, with_bytes, GoAsOwned}
use Rattle.service_loop.specs.declared.owner_lines.TheConstants.{MOST_LINE}
use Rattle.service_loop.specs.OwnerReads.{Fills}
use Rattle.service_loop.specs.OwnerState.{OwnerState}

-- what stands behind a space, and the piece that goes on there, is cut and joined again
pub behind_pieces : (piece bytes : List ℕ) → behind (pieces_from 32 piece bytes) ≡ 32 ∷ (piece ++ bytes)
behind_pieces piece [] = refl
behind_pieces piece (b ∷ bs) = elim (cases_Bool (b == 32)) as (λ _. behind (pieces_from 32 piece (b ∷ bs)) ≡ 32 ∷ (piece ++ b ∷ bs)) [
  | inl is ↦ rw is (ap (λ l. 32 ∷ (piece ++ l)) (behind_pieces [] bs ∙ ap (λ c. c ∷ bs) (sym (eqb-true b 32 is))))
  | inr not ↦ rw not (behind_pieces (piece ++ b ∷ []) bs ∙ ap (λ l. 32 ∷ l) (append_assoc piece (b ∷ []) bs))
]

pub behind_rest : (rest : List ℕ) → behind (pieces_left 32 (Some rest)) ≡ 32 ∷ rest
behind_rest rest = behind_pieces [] rest

word_then : (command word rest : List ℕ) → command ++ 32 ∷ [] ++ word ++ 32 ∷ [] ++ rest ≡ command ++ 32 ∷ word ++ 32 ∷ rest
word_then [] word rest = ap (λ l. 32 ∷ l) (append_assoc word (32 ∷ []) rest)
word_then (b ∷ bs) word rest = ap (λ l. b ∷ l) (word_then bs word rest)

-- words that are appended one after another
pub appended : (out command word rest : List ℕ) → out ++ command ++ 32 ∷ [] ++ word ++ 32 ∷ [] ++ rest ≡ out ++ (command ++ 32 ∷ word ++ 32 ∷ rest)
appended [] command word rest = word_then command word rest
appended (b ∷ bs) command word rest = ap (λ l. b ∷ l) (appended bs command word rest)

with_more : (s : OwnerState) (bytes more : List ℕ) → with_bytes s (bytes ++ more) ≡ with_bytes (with_bytes s bytes) more
with_more s [] more = refl
with_more s (b ∷ bs) more = with_more (with_byte s b) bs more

-- one read more is on its way
pub fills_then : (left left' left'' : Option (List ℕ)) (s s' s'' : OwnerState) (came : List ℕ) → Fills left left' s s' → Consumes left' left'' came → s'' ≡ with_bytes s' came → Fills left left'' s s''
fills_then left left' left'' s s' s'' came so read is =
    (so.0 ++ came, Consumes-trans left left' left'' so.0 came so.1 read, is ∙ ap (λ t. with_bytes t came) so.2 ∙ sym (with_more s so.0 came))

-- what is given is the first of what was ready
pub given_first : (count : ℕ) (ready buf buf' : List ℕ) → count ≤ length ready → buf' ≡ take count ready ++ drop count buf → ready ≡ take count buf' ++ drop count ready
given_first count ready buf buf' few is =
    let front = take count ready in
    let long : length front ≡ count = length-take-le count ready few in
    let first : take count buf' ≡ front = ap (λ l. take count l) is ∙ subst (λ n. take n (front ++ drop count buf) ≡ front) long (take-append_seam front (drop count buf)) in
    sym (ap (λ l. l ++ drop count ready) first ∙ take-append-drop count ready)

byte_kept : (s : OwnerState) (b : ℕ) → (b == 10) ≡ false → nat_lt (length s.begun) MOST_LINE ≡ true → with_byte s b ≡ record s { begun = s.begun ++ b ∷ [] }
byte_kept s b other room = rw (other, room) refl

-- a line that goes on ends, and what comes behind it comes
line_goes : (begun line rest ready : List ℕ) → has_no_lf line ≡ true → length begun + length line ≤ MOST_LINE →
    with_bytes (record { begun = begun; ready = ready }) (line ++ 10 ∷ rest) ≡ with_bytes (record { begun = []; ready = ready ++ (owned_line (begun ++ line) ++ 10 ∷ []) }) rest
line_goes begun [] rest ready none short = ap (λ l. with_bytes (record { begun = []; ready = ready ++ (owned_line l ++ 10 ∷ []) }) rest) (sym (append-nil begun))
line_goes begun (b ∷ bs) rest ready none short =
    let parts = and_parts (not (b == 10)) (has_no_lf bs) none in
    let other : (b == 10) ≡ false = not-true (b == 10) parts.0 in
    let room : nat_lt (length begun) MOST_LINE ≡ true = lt-ltb (length begun) MOST_LINE (omega (arith, short)) in
    let longer : length (begun ++ b ∷ []) + length bs ≤ MOST_LINE = omega (arith, short, length-append begun (b ∷ [])) in
    ap (λ t. with_bytes t (bs ++ 10 ∷ rest)) (byte_kept (record { begun = begun; ready = ready }) b other room)
    ∙ line_goes (begun ++ b ∷ []) bs rest ready parts.1 longer
    ∙ ap (λ l. with_bytes (record { begun = []; ready = ready ++ (owned_line l ++ 10 ∷ []) }) rest) (append_assoc begun (b ∷ []) bs)

goes_from : (ls : List (List ℕ)) (ready : List ℕ) → list_all has_no_lf ls ≡ true → list_all is_short ls ≡ true →
    with_bytes (record { begun = []; ready = ready }) (with_ends ls) ≡ record { begun = []; ready = ready ++ with_ends (map owned_line ls) }
goes_from [] ready none short = ap (λ (r : List ℕ). let s : OwnerState = record { begun = []; ready = r } in s) (sym (append-nil ready))
goes_from (line ∷ ls) ready none short =
    let nones = and_parts (has_no_lf line) (list_all has_no_lf ls) none in
    let shorts = and_parts (is_short line) (list_all is_short ls) short in
    let few : length line ≤ MOST_LINE = leb-true (length line) MOST_LINE shorts.0 in
    let ended = owned_line line ++ 10 ∷ [] in
    line_goes [] line (with_ends ls) ready nones.0 (omega (arith, few)) ∙ goes_from ls (ready ++ ended) nones.1 shorts.1
    ∙ ap (λ (r : List ℕ). let s : OwnerState = record { begun = []; ready = r } in s)
    (append_assoc ready ended (with_ends (map owned_line ls)) ∙ ap (λ l. ready ++ l) (append_assoc (owned_line line) (10 ∷ []) (with_ends (map owned_line ls))))

pub go_as_owned : GoAsOwned
go_as_owned = goes_from
