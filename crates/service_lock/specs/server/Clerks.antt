-- what clerks come to keep while they serve (this project's profile)
use Rattle.std.specs.Prelude.{◌≡◌, ℕ, List, Some, slice_get}
use Rattle.model_asked.specs.declared.config.Config.{Config}
use Rattle.service_lock.specs.CallerState.{CallerState}
use Rattle.service_lock.specs.Serving.{ClerkGoesOn}

-- each of them, in order, holds what it had and what it answered since
abbrev pub ClerksGoOn : Config → List CallerState → List CallerState → Type 0
ClerksGoOn c olds news = (i : ℕ) (old new : CallerState) → slice_get olds i ≡ Some old → slice_get news i ≡ Some new → ClerkGoesOn c old new
