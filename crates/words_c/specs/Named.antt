-- how seats are dealt to identities, and what the name says that crosses to C
use Rattle.std.specs.Prelude.{◌≡◌, ℕ, ◌+◌, ◌++◌, ◌∷◌, [], ◌⊎◌, Option, None, IsSome, IsSomeAnd}
use Rattle.words_names.specs.NameLaw.{NameSpec}
use Rattle.words_names.specs.Seats.{DealerId, NamesId, RenamedId, SeatId, dealer_of, no_deal, seat_of}

-- a dealer of these names that has dealt one more seat, to this identity
abbrev pub dealt_to : NamesId → ℕ → DealerId → DealerId
dealt_to names identity d = dealer_of names (d.dealt + 1) (d.known ++ identity ∷ [])

-- this seat is the next of a dealer, which has dealt one more then; one was due to this identity
abbrev pub IsNextTo : NamesId → ℕ → DealerId → DealerId → SeatId → Type 0
IsNextTo names identity before after s = (s ≡ seat_of names before.dealt identity) × (after ≡ dealt_to names identity before) × (no_deal before identity ≡ None)

-- who deals the seats has dealt one more, the next, to this identity: this one
abbrev pub DealsNext : NamesId → ℕ → Option DealerId → Option DealerId → SeatId → Type 0
DealsNext names identity before after s = IsSomeAnd before (λ d. IsSomeAnd after (λ e. IsNextTo names identity d e s))

-- no seat was due to this identity, or one was dealt, and is lost
abbrev pub IsDueOrLost : NamesId → ℕ → DealerId → DealerId → Type 0
IsDueOrLost names identity before after = IsSome (no_deal before identity) ⊎ (after ≡ dealt_to names identity before)

-- a seat of these names was renamed, and this is its name, as its law says
abbrev pub IsReportedName : ℕ → NamesId → RenamedId → Type 0
IsReportedName name names e = (e.name ≡ name) × (e.names ≡ names) × NameSpec e
