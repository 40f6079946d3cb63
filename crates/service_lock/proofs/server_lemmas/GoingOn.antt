-- what clerks come to keep, one turn after another and one clerk beside another
use Rattle.std.proofs.Common.{◌≡◌, ℕ, ◌<◌, List, ◌++◌, length, get_or, sym, subst, ◌∙◌}
use Rattle.std.proofs.lemmas.Option.{slice_get_within, get_or_from_slice_get}
use Rattle.model_asked.specs.declared.config.Config.{Config}
use Rattle.text_player.specs.lemmas.RunProofs.{runs-append}
use Rattle.service_lock.specs.CallerState.{CallerState}
use Rattle.service_lock.specs.Serving.{ClerkServes, ClerkGoesOn}
use Rattle.service_lock.specs.server.Clerks.{ClerksGoOn}

pub goes_further : (c : Config) (s mid t : CallerState) → ClerkGoesOn c s mid → ClerkGoesOn c mid t → ClerkGoesOn c s t
goes_further c s mid t a b = (a.0 ++ b.0, runs-append (ClerkServes c) s mid t a.0 b.0 a.1 b.1)

-- where each of these was made of the one at its place
pub all_go_on : (c : Config) (js rs : List CallerState) → ((i : ℕ) (d : CallerState) → i < length js → (j : CallerState) × ((x : CallerState) → get_or js i x ≡ j) × ClerkGoesOn c j (get_or rs i d)) → ClerksGoOn c js rs
all_go_on c js rs each i old new a b =
    let e = each i new (slice_get_within js i old a) in
    let from : e.0 ≡ old = sym (e.1 old) ∙ get_or_from_slice_get js i old old a in
    let to : get_or rs i new ≡ new = get_or_from_slice_get rs i new new b in
    subst (λ (s : CallerState). ClerkGoesOn c s new) from (subst (λ (t : CallerState). ClerkGoesOn c e.0 t) to e.2)
