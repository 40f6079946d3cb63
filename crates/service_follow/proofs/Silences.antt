-- for how long the log told the same of a stay
use Rattle.std.proofs.Common.{◌≡◌, ◌==◌, ◌&&◌, ℕ, Bool, true, false, if◌then◌else◌, List, [], ◌∷◌, All, map, inl, inr, refl, sym, ap, subst, ◌∙◌, ◌⊎◌, nat_eq, arith}
use Rattle.std.proofs.lemmas.List.Elements.{All-cons}
use Rattle.std.proofs.lemmas.Bool.{eqb-true}
use Rattle.service_follow.specs.Kept.{is_token}
use Rattle.service_follow.specs.Watched.{is_same_stay, since_of, watched}
use Rattle.service_follow.specs.Silence.{IsAmong, Look, WasSo, after_looks, watches_after}
use Rattle.service_follow.specs.declared.front_end_stay.FrontEndStay.{FrontEndStay}
use Rattle.service_follow.specs.declared.watches.Watch.{Watch}

both : (a b : Bool) → (a && b) ≡ true → (a ≡ true) × (b ≡ true)
both true b h = (refl, h)
both false b h = absurd (let bad : false ≡ true = h in cc)

same_token : (xs ys : List ℕ) → is_token xs ys ≡ true → xs ≡ ys
same_token [] [] h = refl
same_token [] (y ∷ ys) h = absurd (let bad : false ≡ true = h in cc)
same_token (x ∷ xs) [] h = absurd (let bad : false ≡ true = h in cc)
same_token (x ∷ xs) (y ∷ ys) h = let parts = both (nat_eq x y) (is_token xs ys) h in let head = eqb-true x y parts.0 in let rest = same_token xs ys parts.1 in cc (head, rest)

-- stays that are the same are one
same_stay : (a b : FrontEndStay) → is_same_stay a b ≡ true → a ≡ b
same_stay a b h =
    let one = both (a.identity == b.identity) ((a.last == b.last) && is_token a.token b.token) h in
    let two = both (a.last == b.last) (is_token a.token b.token) one.1 in
    let id = eqb-true a.identity b.identity one.0 in
    let last = eqb-true a.last b.last two.0 in
    let token = same_token a.token b.token two.1 in
    ap (λ (i : ℕ). let s : FrontEndStay = record { identity = i; token = a.token; last = a.last } in s) id ∙
    (ap (λ (t : List ℕ). let s : FrontEndStay = record { identity = b.identity; token = t; last = a.last } in s) token ∙
    ap (λ (n : ℕ). let s : FrontEndStay = record { identity = b.identity; token = b.token; last = n } in s) last)

-- some watch of these is of this stay, since this tick
record IsFrom (stay : FrontEndStay) (since : ℕ) (watches : List Watch) : Type 0 where
  watch : Watch
  among : IsAmong watch watches
  stay_is : watch.stay ≡ stay
  since_is : watch.since ≡ since

from_later : (v : Watch) (ws : List Watch) (stay : FrontEndStay) (since : ℕ) → IsFrom stay since ws → IsFrom stay since (v ∷ ws)
from_later v ws stay since h = record { watch = h.watch; among = inr h.among; stay_is = h.stay_is; since_is = h.since_is }

-- a stay is so since this tick, or since that of a watch of it
IsSince : List Watch → FrontEndStay → ℕ → Type 0
IsSince ws stay tick = (since_of ws stay tick ≡ tick) ⊎ IsFrom stay (since_of ws stay tick) ws

since_by : (v : Watch) (ws : List Watch) (stay : FrontEndStay) (tick : ℕ) (b : Bool) → is_same_stay v.stay stay ≡ b → IsSince ws stay tick →
    ((if b then v.since else since_of ws stay tick) ≡ tick) ⊎ IsFrom stay (if b then v.since else since_of ws stay tick) (v ∷ ws)
unfolding IsSince
since_by v ws stay tick true is rest = inr (record { watch = v; among = inl refl; stay_is = same_stay v.stay stay is; since_is = refl })
since_by v ws stay tick false is (inl now) = inl now
since_by v ws stay tick false is (inr before) = inr (from_later v ws stay (since_of ws stay tick) before)

since_cases : (ws : List Watch) (stay : FrontEndStay) (tick : ℕ) → IsSince ws stay tick
unfolding IsSince
since_cases [] stay tick = inl refl
since_cases (v ∷ ws) stay tick = since_by v ws stay tick (is_same_stay v.stay stay) refl (since_cases ws stay tick)

-- what is among what a look came to
record IsSeen (w : Watch) (tick : ℕ) (watches : List Watch) (kept : List FrontEndStay) : Type 0 where
  told : IsAmong w.stay kept
  since_is : w.since ≡ since_of watches w.stay tick

seen : (w : Watch) (tick : ℕ) (ws : List Watch) (kept : List FrontEndStay) → IsAmong w (map (watched tick ws) kept) → IsSeen w tick ws kept
seen w tick ws [] h = absurd h
seen w tick ws (k ∷ kept) (inl is) =
    let stay : k ≡ w.stay = ap (λ (v : Watch). v.stay) is in
    record { told = inl stay; since_is = ap (λ (v : Watch). v.since) (sym is) ∙ ap (λ (s : FrontEndStay). since_of ws s tick) stay }
seen w tick ws (k ∷ kept) (inr later) = let rest = seen w tick ws kept later in record { told = inr rest.told; since_is = rest.since_is }

-- a look before all others
so_later : (w : Watch) (look : Look) (looks : List Look) → WasSo w looks → WasSo w (look ∷ looks)
so_later w look looks h = record { before = look ∷ h.before; first = h.first; later = h.later; parts = ap (λ (l : List Look). look ∷ l) h.parts; tick = h.tick; told = h.told }

since_split : (ws : List Watch) (stay : FrontEndStay) (tick : ℕ) → (since_of ws stay tick ≡ tick) ⊎ IsFrom stay (since_of ws stay tick) ws
unfolding IsSince
since_split ws stay tick = since_cases ws stay tick

-- it was so since one of these looks, or before all of them
IsOld : Watch → List Watch → List Look → Type 0
IsOld w ws looks = IsFrom w.stay w.since ws × All (λ (look : Look). IsAmong w.stay look.kept) looks

none_told : (w : Watch) → All (λ (look : Look). IsAmong w.stay look.kept) []
none_told w = λ k d inside. absurd (omega (arith, inside))

was_so : (ws : List Watch) (looks : List Look) (w : Watch) → IsAmong w (watches_after ws looks) → WasSo w looks ⊎ IsOld w ws looks
unfolding IsOld
was_so ws [] w among = inr (record { watch = w; among = among; stay_is = refl; since_is = refl }, none_told w)
was_so ws (look ∷ looks) w among = elim (was_so (map (watched look.tick ws) look.kept) looks w among) [
  | inl so ↦ inl (so_later w look looks so)
  | inr old ↦
      let one = seen old.0.watch look.tick ws look.kept old.0.among in
      let told = subst (λ (s : FrontEndStay). IsAmong s look.kept) old.0.stay_is one.told in
      let since : w.since ≡ since_of ws w.stay look.tick = sym old.0.since_is ∙ (one.since_is ∙ ap (λ (s : FrontEndStay). since_of ws s look.tick) old.0.stay_is) in
      elim (since_split ws w.stay look.tick) [
        | inl now ↦ inl (record { before = []; first = look; later = looks; parts = refl; tick = sym (since ∙ now); told = All-cons (λ (l : Look). IsAmong w.stay l.kept) look looks told old.1 })
        | inr before ↦ inr (record { watch = before.watch; among = before.among; stay_is = before.stay_is; since_is = before.since_is ∙ sym since }, All-cons (λ (l : Look). IsAmong w.stay l.kept) look looks told old.1)
      ]
]

pub silent : (looks : List Look) (w : Watch) → IsAmong w (after_looks looks) → WasSo w looks
unfolding IsOld
silent looks w among = elim (was_so [] looks w among) [
  | inl so ↦ so
  | inr old ↦ absurd (old.0.among)
]
