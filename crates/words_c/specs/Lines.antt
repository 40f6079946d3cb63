-- what a member of a line holds
use Rattle.std.specs.Prelude.{◌≡◌, ◌≤◌, ◌+◌, ℕ, ◌∷◌}
use Rattle.words_pool.specs.Crowd.{greatest}
use Rattle.words_pool.specs.LineRule.{IsInLine}
use Rattle.words_pool.specs.PoolView.{going, lone}
use Rattle.words_pool.specs.Pools.{CallId, PoolId, TicketId}

-- this number of a line is held, got by at most so many accesses, and is at most the most that held or sought one at one moment of
-- the call, which its seat has seen in a table that keeps the rule of a line
abbrev pub IsHeldInLine : ℕ → PoolId → CallId → Type 0
IsHeldInLine number line h =
    (h.number ≡ number) × (number ≤ line.numbers) × (h.call.accesses ≤ number + 1) × (number ≤ greatest h.call.crowds) × IsInLine (lone h.call h.past)

-- the ticket of a call whose number was given back, by one access more: the same seat's, which has now ended that call
abbrev pub IsTicketOf : CallId → TicketId → Type 0
IsTicketOf h t = (t.pool ≡ h.pool) × (t.seat ≡ h.seat) × (moment : ℕ) × (t.past ≡ going moment h.call ∷ h.past)
