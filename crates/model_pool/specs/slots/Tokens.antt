-- fencing tokens in the slot of a number, which outlives the holders of the number (fencing tokens: Kleppmann 2016; that a slot gives them: ours)
use Rattle.std.specs.Prelude.{◌≡◌, ℕ, suc, ◌-◌, ◌==◌, ◌≤◌, ◌<◌, Bool, false, if◌then◌else◌, List, [], ◌∷◌, Option, Some, None, IfSome, Result, Ok, Err, get_or}
use Rattle.model_steps.specs.declared.refusal.Refusal.{Refusal}
use Rattle.model_steps.specs.Machine.{OnEveryHistory}
use Rattle.model_pool.specs.Pool.{number_answer}
use Rattle.model_pool.specs.slots.Machine.{slots, slots_next}
use Rattle.model_pool.specs.slots.SlotCalls.{SlotCall}
use Rattle.model_pool.specs.slots.SlotCalls.SlotCall.{Stored}
use Rattle.model_pool.specs.slots.SlotsState.{SlotsState}

-- the value in the slot of a number, or 0 if there is none
abbrev pub value_of : ℕ → SlotsState ℕ → ℕ
value_of n s = get_or s.values (n - 1) 0

-- the number is this one
abbrev pub is_number : ℕ → Result ℕ Refusal → Bool
is_number n (Ok m) = m == n
is_number n (Err refusal) = false

-- the token that a call puts into the slot of a number: what the holder of the number puts there
abbrev pub token_of : ℕ → SlotsState ℕ → SlotCall ℕ → Option ℕ
token_of n s (Stored id value reply) = if is_number n (number_answer s.pool id) then Some value else None
token_of n s h = None

abbrev pub with_token : Option ℕ → List ℕ → List ℕ
with_token (Some token) tokens = token ∷ tokens
with_token None tokens = tokens

-- the tokens that these calls put there, in order
abbrev pub tokens_of : ℕ → SlotsState ℕ → List (SlotCall ℕ) → List ℕ
tokens_of n s [] = []
tokens_of n s (h ∷ r) = with_token (token_of n s h) (tokens_of n (slots_next s h) r)

-- each holder puts one more than the slot has
abbrev pub RaisesByOne : ℕ → SlotsState ℕ → List (SlotCall ℕ) → Type 0
RaisesByOne n s [] = Unit {0}
RaisesByOne n s (h ∷ r) = IfSome (token_of n s h) (λ token. token ≡ suc (value_of n s)) × RaisesByOne n (slots_next s h) r

-- the tokens rise from one value to another: each is above the one before it
abbrev pub Rise : ℕ → List ℕ → ℕ → Type 0
Rise low [] high = low ≤ high
Rise low (token ∷ tokens) high = (low < token) × Rise token tokens high

-- after every list of calls in which each holder of a number has put one more than its slot had, the tokens rise, and the slot has
-- at least the last
abbrev pub TokensRise : Type 0
TokensRise = (s : SlotsState ℕ) (n : ℕ) → 1 ≤ n → OnEveryHistory slots (λ first r. RaisesByOne n (slots.first first) r →
    Rise (value_of n (slots.first first)) (tokens_of n (slots.first first) r) (value_of n s)) s
