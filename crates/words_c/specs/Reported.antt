-- what the numbers say that cross to C
use Rattle.std.specs.Prelude.{◌≡◌, ◌≤◌, ◌+◌, ℕ, IsSome, IsSomeAnd, IfSome, None}
use Rattle.std.specs.Arc.{arc_value}
use Rattle.words_c.specs.Refused.{IsReceiptOf, MetAllInTime, WasSought}
use Rattle.words_pool.specs.Pools.{CallId}
use Rattle.words_c.specs.Lines.{IsHeldInLine, IsTicketOf}
use Rattle.words_c.specs.Grids.{IsNextOf}
use Rattle.words_c.specs.Named.{IsNextTo, IsDueOrLost}
use Rattle.words_c.specs.declared.member.Member.{Member}
use Rattle.words_c.specs.declared.grid_member.GridMember.{GridMember}
use Rattle.words_c.specs.declared.line_member.LineMember.{LineMember}
use Rattle.words_c.specs.declared.names_member.NamesMember.{NamesMember}

-- a member holds this number of its pool, as it was sought
abbrev pub HoldsNumber : ℕ → ℕ → Member → Type 0
HoldsNumber hint number m =
    IsSomeAnd m.held (λ h. (h.number ≡ number) × WasSought hint (arc_value m.pool) h) × (number ≤ (arc_value m.pool).numbers)

-- a member's last walk met each number of its pool held, one after another, by at most so many accesses
abbrev pub WasRefused : ℕ → Member → Type 0
WasRefused hint m = IsSomeAnd m.refused (MetAllInTime hint (arc_value m.pool))

-- a member holds this number of its line
abbrev pub HoldsInLine : ℕ → LineMember → Type 0
HoldsInLine number m = IsSomeAnd m.held (IsHeldInLine number (arc_value m.line))

-- a member has the receipt of this call, whose number it gave back
abbrev pub HasReceiptOf : CallId → Member → Type 0
HasReceiptOf h m = IsSomeAnd m.released (IsReceiptOf h)

-- a member has the ticket with which this call came, whose number it gave back
abbrev pub HasTicketOf : CallId → LineMember → Type 0
HasTicketOf h m = IsSomeAnd m.ticket (IsTicketOf h)

-- a member of a grid that deals its seats has dealt one more, the next, to this other
abbrev pub DealtNext : GridMember → GridMember → GridMember → Type 0
DealtNext before after other = IsSomeAnd before.dealer (λ d. IsSomeAnd after.dealer (λ e. IsSomeAnd other.seat (IsNextOf d e)))

-- a member deals the seats of names for so many, and has no seat itself
abbrev pub DealsSeats : ℕ → NamesMember → Type 0
DealsSeats most m = ((arc_value m.names).most ≡ most) × IsSome m.dealer × (m.seat ≡ None) × (m.renamed ≡ None)

-- a member has the same names, and the same seat or name in them, and deals seats if it did before
abbrev pub KeepsSeat : NamesMember → NamesMember → Type 0
KeepsSeat before after =
    (arc_value after.names ≡ arc_value before.names) × (after.seat ≡ before.seat) × (after.renamed ≡ before.renamed)
    × (IsSome before.dealer → IsSome after.dealer)

-- a member has a seat of this identity, in the names of the one that deals them
abbrev pub HasSeatOf : ℕ → NamesMember → NamesMember → Type 0
HasSeatOf identity dealing m = (arc_value m.names ≡ arc_value dealing.names) × IsSomeAnd m.seat (λ s. s.identity ≡ identity)

-- a member of names that deals their seats has dealt one more, the next, to this identity and this other
abbrev pub DealtTo : ℕ → NamesMember → NamesMember → NamesMember → Type 0
DealtTo identity before after other =
    IsSomeAnd before.dealer (λ d. IsSomeAnd after.dealer (λ e. IsSomeAnd other.seat (IsNextTo (arc_value before.names) identity d e)))

-- where a member deals the seats, none was due to this identity, or one was dealt, and is lost
abbrev pub DealtNone : ℕ → NamesMember → NamesMember → Type 0
DealtNone identity before after = IfSome before.dealer (λ d. IsSomeAnd after.dealer (λ e. IsDueOrLost (arc_value before.names) identity d e))
