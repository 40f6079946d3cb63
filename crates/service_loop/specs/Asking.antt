-- lines that a server answers by itself, among what waits of a connection: those that ask who holds numbers, what changes of that, or the terms, and
-- those that take a number
use Rattle.std.specs.Prelude.{◌≡◌, ◌⊎◌, ◌≤◌, ◌<◌, ℕ, ◌++◌, ◌||◌, not, Bool, List, [], length, take, drop, get_or, suc, true, false, Option, Some, is_some}
use Rattle.std.specs.List.{list_all}
use Rattle.text_lines.specs.Lines.{has_no_lf, rest_of, whole_lines}
use Rattle.text_lines.specs.declared.held.query.TheConstants.{QUERY_MAX}
use Rattle.service_loop.specs.BuffersState.{BuffersState}
use Rattle.service_loop.specs.Queries.{query_of}
use Rattle.service_loop.specs.TakeLines.{identity_in, take_line}
use Rattle.service_loop.specs.declared.terms.Query.{Query}

-- the first so many of these bytes are a line that asks this, and its LF
pub record IsQueryOf (bytes : List ℕ) (query : Query) (count : ℕ) : Type 0 where
  pub end : ℕ
  pub count_is : count ≡ suc end
  pub inside : end < length bytes
  pub ends : get_or bytes end 0 ≡ 10
  pub asks : query_of (take end bytes) ≡ Some query

-- the identity for which a line takes a number: `take ID`, or `take ID SECONDS`
abbrev pub taking_of : List ℕ → Option ℕ
taking_of line = identity_in (take_line line)

-- whether a line is one that the server answers by itself
abbrev pub is_own : List ℕ → Bool
is_own line = is_some (query_of line) || is_some (taking_of line)

-- none of these lines is
abbrev pub none_own : List (List ℕ) → Bool
none_own lines = list_all (λ line. not (is_own line)) lines

-- a line begins behind so many of these bytes, and a line began before it, unless the first of them begins one
pub record IsLineStart (begins : Bool) (bytes : List ℕ) (at : ℕ) : Type 0 where
  pub whole : rest_of (take at bytes) ≡ []
  pub behind_one : (begins ≡ true) ⊎ (0 < length (whole_lines (take at bytes)))

-- the first so many of these bytes are a line that takes a number for this identity, and its LF
pub record IsTakingOf (bytes : List ℕ) (identity count : ℕ) : Type 0 where
  pub end : ℕ
  pub count_is : count ≡ suc end
  pub inside : end < length bytes
  pub ends : get_or bytes end 0 ≡ 10
  pub asks : taking_of (take end bytes) ≡ Some identity

-- so few bytes, none of them an LF, begin with the letter of one of the words
abbrev pub IsPrefixOf : List ℕ → Type 0
IsPrefixOf bytes = ((get_or bytes 0 0 ≡ 104) ⊎ (get_or bytes 0 0 ≡ 116) ⊎ (get_or bytes 0 0 ≡ 119)) × (length bytes ≤ QUERY_MAX) × (has_no_lf bytes ≡ true)

-- they begin with a line that asks or takes a number so, or may come to be such a line
abbrev pub MayAsk : List ℕ → Type 0
MayAsk bytes = ((query : Query) × (count : ℕ) × IsQueryOf bytes query count) ⊎ ((identity : ℕ) × (count : ℕ) × IsTakingOf bytes identity count) ⊎ IsPrefixOf bytes

-- The line that waits first asks who holds numbers, or the terms: it is taken, and the answer to it waits behind what waited to be sent. The transcript, and whatever else
-- waits, is as it was, but where it is at fault
pub record AnswersQuery (answer : Query → List ℕ) (s s' : BuffersState) : Type 0 where
  pub query : Query
  pub count : ℕ
  pub asks : IsQueryOf s.inbox query count
  pub responder_is : s'.responder ≡ s.responder
  pub ended_is : s'.ended ≡ s.ended
  pub in_line_is : s'.in_line ≡ s.in_line
  pub inbox_is : s'.inbox ≡ drop count s.inbox
  pub kept : s'.broken ≡ false → (s'.outbox ≡ s.outbox ++ answer query) × (s.broken ≡ false)

-- it is answered, or nothing changes
abbrev pub MayAnswer : (Query → List ℕ) → BuffersState → BuffersState → Type 0
MayAnswer answer s s' = (s' ≡ s) ⊎ AnswersQuery answer s s'
