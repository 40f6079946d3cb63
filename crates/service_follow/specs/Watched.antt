-- since when nothing was heard of the front ends that keep stays, and which stays are to end
use Rattle.std.specs.Prelude.{ℕ, Bool, ◌==◌, ◌&&◌, ◌-◌, nat_eq, ltb, if◌then◌else◌, List, [], ◌∷◌, filter, map}
use Rattle.std.specs.List.{list_any}
use Rattle.service_follow.specs.Kept.{is_token}
use Rattle.service_follow.specs.declared.front_end_stay.FrontEndStay.{FrontEndStay}
use Rattle.service_follow.specs.declared.watches.Watch.{Watch}

-- one stay, kept by one front end, of which no entry was applied between
abbrev pub is_same_stay : FrontEndStay → FrontEndStay → Bool
is_same_stay stay other = (stay.identity == other.identity) && ((stay.last == other.last) && is_token stay.token other.token)

-- the first tick in a row at which a stay was so
abbrev pub since_of : List Watch → FrontEndStay → ℕ → ℕ
since_of [] stay tick = tick
since_of (w ∷ ws) stay tick = if is_same_stay w.stay stay then w.since else since_of ws stay tick

abbrev pub watched : ℕ → List Watch → FrontEndStay → Watch
watched tick watches stay = record { stay = stay; since = since_of watches stay tick }

-- A stay is to end: one that the front end of this token keeps if it is among those that nobody keeps there any more, and else once nothing
-- was heard of its front end for more than so many ticks
abbrev pub is_due : List ℕ → List ℕ → ℕ → ℕ → Watch → Bool
is_due token left patience tick w =
    if is_token w.stay.token token then list_any (λ id. nat_eq id w.stay.identity) left else ltb patience (tick - w.since)

-- the identities of those that are to end
abbrev pub due_of : List ℕ → List ℕ → ℕ → ℕ → List Watch → List ℕ
due_of token left patience tick watches = map (λ w. w.stay.identity) (filter (is_due token left patience tick) watches)

-- the front end of this token keeps a stay
abbrev pub keeps_one : List ℕ → List Watch → Bool
keeps_one token watches = list_any (λ w. is_token w.stay.token token) watches
