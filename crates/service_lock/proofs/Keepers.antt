-- what a clerk comes to keep while it serves
use Rattle.std.proofs.Common.{◌≡◌, ◌++◌, List, [], ◌∷◌, map, true, false, cond, sym, ap, ◌∙◌, append_assoc}
use Rattle.service_lock.proofs.Common.{append-nil, map-append, is_refusal, kept_of, Config, Exchange, Runs, Turn, exchanges, Answered, Reported, Ended, Misread, Kept, CallerState}
use Rattle.service_lock.specs.Kepts.{IsTaken, IsReported, IsSound, Keeps, KeepsUnless}
use Rattle.service_lock.specs.Serving.{ClerkServes, exchange_kept}
use Rattle.service_hall.specs.Serving.{accepted}
use Rattle.service_hall.proofs.cited.Serves.{accepted-one}
use Rattle.service_lock.proofs.Standing.{sound_after}

-- over one event
pub kept_one : (ks new : List Kept) (x : Exchange) → Keeps ks x.event x.reply new → map exchange_kept new ≡ map exchange_kept ks ++ accepted (x ∷ [])
kept_one ks new x keeps =
    elim (is_refusal x.reply) as (λ b. KeepsUnless b ks x.event x.reply new → map exchange_kept new ≡ map exchange_kept ks ++ cond b [] (x ∷ [])) [
      | true ↦ λ same. ap (map exchange_kept) same ∙ sym (append-nil (map exchange_kept ks))
      | false ↦ λ kept. ap (map exchange_kept) kept.is ∙ map-append exchange_kept ks (kept_of kept.place x ∷ [])
    ] keeps

-- a clerk keeps the accepted events of its turns
pub kept : (c : Config) (s t : CallerState) (ts : List Turn) → IsSound c s → Runs (ClerkServes c) s ts t → map exchange_kept t.kept ≡ map exchange_kept s.kept ++ accepted (exchanges ts)
kept c s t [] sound run = ap (λ (u : CallerState). map exchange_kept u.kept) (sym run) ∙ sym (append-nil (map exchange_kept s.kept))
kept c s t (Answered x ∷ ts) sound run =
    let one : IsTaken c s x.event x.reply run.0 = run.1 sound in
    kept c run.0 t ts (sound_after c s run.0 x.event x.reply one) run.2 ∙ ap (λ (l : List Exchange). l ++ accepted (exchanges ts)) (kept_one s.kept run.0.kept x one.kept)
    ∙ append_assoc (map exchange_kept s.kept) (accepted (x ∷ [])) (accepted (exchanges ts)) ∙ ap (λ (l : List Exchange). map exchange_kept s.kept ++ l) (sym (accepted-one x (exchanges ts)))
kept c s t (Reported n r ∷ ts) sound run =
    let one : IsReported c s n r run.0 = run.1 sound in
    kept c run.0 t ts (record { lawful = one.lawful; stands = one.stands }) run.2 ∙ ap (λ (l : List Kept). map exchange_kept l ++ accepted (exchanges ts)) one.same
kept c s t (Ended ∷ ts) sound run = kept c s t ts sound run
kept c s t (Misread bad ∷ ts) sound run = kept c s t ts sound run
