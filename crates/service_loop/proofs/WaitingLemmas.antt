-- what waits first of a connection
use Rattle.std.proofs.Common.{◌≡◌, ◌∙◌, ◌+◌, ◌||◌, ℕ, Bool, true, false, not, List, [], ◌∷◌, ◌++◌, length, take, drop, Option, Some, None, is_some, refl, sym, ap, arith}
use Rattle.std.proofs.lemmas.List.{length-take-le}
use Rattle.std.proofs.lemmas.Bool.{eqb-true}
use Rattle.memchr.specs.Find.{IsFirstByte, is_byte}
use Rattle.text_lines.specs.Lines.{has_no_lf, whole_lines}
use Rattle.text_lines.specs.lemmas.PieceProofs.{nowhere-lacks, parted_at}
use Rattle.service_loop.proofs.Common.{BuffersState}
use Rattle.service_loop.proofs.PeekLemmas.{no_lf_in, rest_none, whole_append, whole_none}
use Rattle.service_loop.specs.Seats.{Seating}
use Rattle.service_loop.specs.Taking.{SeatGivenUp}
use Rattle.service_loop.specs.Waiting.{first_of, given_up, taken_for, with_count}

-- the first whole line is what stands before the first LF
pub first_whole : (bytes : List ℕ) (end : ℕ) → IsFirstByte (is_byte 10) bytes (Some end) → whole_lines bytes ≡ take end bytes ∷ whole_lines (drop (end + 1) bytes)
first_whole bytes end first =
    let line = take end bytes in
    let rest = drop (end + 1) bytes in
    let none = nowhere-lacks 10 bytes end first.0.before in
    let parts : line ++ 10 ∷ rest ≡ bytes = parted_at bytes end 10 first.0.high (eqb-true _ _ first.1) in
    ap whole_lines (sym parts) ∙ whole_append [] line (10 ∷ rest) ∙ rw (whole_none [] line none, rest_none [] line none) refl

pub none_whole : (bytes : List ℕ) → IsFirstByte (is_byte 10) bytes None → whole_lines bytes ≡ []
none_whole bytes nowhere = whole_none [] bytes (no_lf_in bytes bytes refl nowhere)

pub some_lf : (bytes : List ℕ) (end : ℕ) → IsFirstByte (is_byte 10) bytes (Some end) → has_no_lf bytes ≡ false
some_lf bytes end first = is_false (has_no_lf bytes) (λ none. let e = sym (whole_none [] bytes none) ∙ first_whole bytes end first in absurd cc)
  where
    is_false : (b : Bool) → (b ≡ true → ⊥) → b ≡ false
    is_false true not = absurd (not refl)
    is_false false not = refl

module _ {A : Type 0} (read : List ℕ → Option A) (bytes : List ℕ) where
  -- no line, one that says nothing, and one that says this
  pub first_none : (o : Option (A × ℕ)) → o ≡ None → IsFirstByte (is_byte 10) bytes None → o ≡ first_of read (whole_lines bytes)
  first_none o is nowhere = is ∙ sym (ap (first_of read) (none_whole bytes nowhere))

  pub first_other : (o : Option (A × ℕ)) → o ≡ None → (end : ℕ) → IsFirstByte (is_byte 10) bytes (Some end) → None ≡ read (take end bytes) → o ≡ first_of read (whole_lines bytes)
  first_other o is end first other = is ∙ ap (with_count (take end bytes)) other ∙ sym (ap (first_of read) (first_whole bytes end first))

  pub first_some : (end : ℕ) (what : A) → IsFirstByte (is_byte 10) bytes (Some end) → Some what ≡ read (take end bytes) → Some (what, end + 1) ≡ first_of read (whole_lines bytes)
  first_some end what first says =
      let long : length (take end bytes) ≡ end = length-take-le end bytes (let lt = first.0.high in omega (arith, lt)) in
      ap (λ (n : ℕ). Some (what, n + 1)) (sym long) ∙ ap (with_count (take end bytes)) says ∙ sym (ap (first_of read) (first_whole bytes end first))

-- who gives up twice has given up
twice : (f : Bool → Bool) (b : Bool) → ((b || f b) || f (b || f b)) ≡ (b || f b)
twice f true = refl
twice f false = by (f false) refl
  where
    by : (t : Bool) → f false ≡ t → (t || f t) ≡ t
    by true is = refl
    by false is = is

pub given_twice : (s : BuffersState) → given_up (given_up s) ≡ given_up s
given_twice s = ap (λ (b : Bool). (let r : BuffersState = record s { broken = b } in r)) (twice (λ b. is_some (taken_for (record s { broken = b }))) s.broken)

pub given_whole : (s : BuffersState) → (given_up s).broken ≡ false → s.broken ≡ false
given_whole s = by s.broken (is_some (taken_for s))
  where
    by : (b t : Bool) → (b || t) ≡ false → b ≡ false
    by true t e = e
    by false t e = refl

pub given_then : {C : Type 0} (on : Seating C) (x y z : Option C) → SeatGivenUp on x y → SeatGivenUp on y z → SeatGivenUp on x z
given_then on None None None one two = tt
given_then on None None (Some d) one two = two
given_then on None (Some d) z one two = absurd one
given_then on (Some c) None z one two = absurd one
given_then on (Some c) (Some d) None one two = two
given_then on (Some c) (Some d) (Some e) one two = (two.0 ∙ ap (λ (s : BuffersState). given_up s) one.0 ∙ given_twice (on.buffers c), two.1 ∙ one.1, two.2 ∙ one.2)
