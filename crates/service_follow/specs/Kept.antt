-- who keeps a stay, as what was said to the entries of a log tells
use Rattle.std.specs.Prelude.{ℕ, Bool, true, false, not, ◌==◌, nat_eq, nat_le, if◌then◌else◌, List, [], ◌∷◌, ◌++◌, filter, length, map, take, replicate}
use Rattle.std.specs.Cmp.Lexicographic.{pointwise}
use Rattle.model_steps.specs.declared.refusal.Refusal.TheVariants as refusal
use Rattle.model_asked.specs.declared.event.Event.TheVariants.{Begin, Step, Enter, Probe, Seek, Leave, Put, Get, Widen}
use Rattle.model_asked.specs.declared.reply.Reply.TheVariants as reply
use Rattle.model_asked.specs.Replies.{ShownReply}
use Rattle.model_asked.specs.Requests.{Request}
use Rattle.model_asked.specs.Requests.Request.{Take, OwnerOf}
use Rattle.service_follow.specs.declared.front_end_stay.FrontEndStay.{FrontEndStay}

-- the first bytes of an entry are the token of its front end; one that is shorter has none
abbrev pub token_of : List ℕ → List ℕ
token_of entry = if nat_le 32 (length entry) then take 32 entry else replicate 32 0

abbrev pub is_token : List ℕ → List ℕ → Bool
is_token token other = pointwise nat_eq token other

-- an entry of a front end is applied behind so many others
abbrev pub heard : List ℕ → ℕ → FrontEndStay → FrontEndStay
heard token place stay = if is_token stay.token token then record stay { last = place } else stay

-- the stays but that of an identity
abbrev pub without : ℕ → List FrontEndStay → List FrontEndStay
without id kept = filter (λ stay. not (stay.identity == id)) kept

-- the front end of this token keeps the stay of an identity from then on
abbrev pub with_keeper : List ℕ → ℕ → ℕ → List FrontEndStay → List FrontEndStay
with_keeper token place id kept = without id kept ++ record { identity = id; token = token; last = place } ∷ []

-- `enter` was answered `ok` or `refused 9`
abbrev pub enters : ShownReply → Bool
enters reply.Ok = true
enters (reply.Refused refusal.AlreadyCompeting) = true
enters r = false

-- `leave` was answered `left`
abbrev pub leaves : ShownReply → Bool
leaves (reply.Left number) = true
leaves r = false

-- who keeps stays once this was said to a request of an entry of this front end
abbrev pub kept_after : List ℕ → ℕ → List FrontEndStay → Request × ShownReply → List FrontEndStay
kept_after token place kept (Take (Enter p), r) = if enters r then with_keeper token place p kept else kept
kept_after token place kept (Take (Leave p), r) = if leaves r then without p kept else kept
kept_after token place kept (Take (Begin p), r) = kept
kept_after token place kept (Take (Step p), r) = kept
kept_after token place kept (Take (Probe p), r) = kept
kept_after token place kept (Take (Seek p), r) = kept
kept_after token place kept (Take (Put p v), r) = kept
kept_after token place kept (Take (Get p), r) = kept
kept_after token place kept (Take (Widen p), r) = kept
kept_after token place kept (OwnerOf n, r) = kept

-- the same of all its requests, in order
abbrev pub kept_after_all : List ℕ → ℕ → List FrontEndStay → List (Request × ShownReply) → List FrontEndStay
kept_after_all token place kept [] = kept
kept_after_all token place kept (x ∷ xs) = kept_after_all token place (kept_after token place kept x) xs

-- and of an entry, by which its front end is heard of
abbrev pub kept_behind : List ℕ → ℕ → List FrontEndStay → List (Request × ShownReply) → List FrontEndStay
kept_behind token place kept said = kept_after_all token place (map (heard token place) kept) said
