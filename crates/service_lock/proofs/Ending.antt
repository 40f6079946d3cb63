-- a session ends within so many turns
use Rattle.std.proofs.Common.{◌/◌, ◌≡◌, ℕ, ◌+◌, ◌*◌, ◌≤◌, ◌⊎◌, ◌==◌, ◌&&◌, not, cond, true, false, inl, inr, List, [], ◌∷◌, ◌++◌, refl, sym, ap, subst, arith}
use Rattle.std.proofs.lemmas.Bool.Decides.{Decides-eqb}
use Rattle.service_lock.proofs.Common.{Config, Step, Exchange, exchange, ShownReply, is_refusal, CallerState, IsTaken}
use Rattle.std.proofs.lemmas.Nat.{mul-le}
use mathlib.Core.List.{IsPrefix}
use Rattle.model_snapshot.specs.Snapshot.{SnapBounds}
use Rattle.model_asked.specs.rounds.Rounds.{most_proposals}
use Rattle.model_renaming.specs.Ends.{steps_among}
use Rattle.model_asked.specs.Config.{is_tree}
use Rattle.model_asked.specs.declared.event.Event.{Event}
use Rattle.model_asked.specs.declared.event.Event.TheVariants as event
use Rattle.text_worlds.specs.desk.DeskRun.{IsDeskRunOf, desk_bounds, desk_terms}
use Rattle.text_worlds.specs.desk.NamedAlone.{stepped_more, steps_of}
use Rattle.text_worlds.specs.desk.NamedAmong.{goes_on, EndsSoon}
use Rattle.text_worlds.specs.desk.Names.{begun_in}
use Rattle.text_worlds.specs.desk.Start.{pool_start}
use Rattle.text_worlds.proofs.cited.desk.NamedAmong.{names_soon_among}
use Rattle.service_hall.specs.Halls.{hall_of, SatisfiesSpec}
use Rattle.service_hall.specs.GoesOn.{GoesOn}
use Rattle.service_hall.proofs.cited.HallLaws.{goes_on as hall_goes_on, goes_by}
use Rattle.service_hall.proofs.cited.Histories.{history_run}
use Rattle.service_lock.specs.Renamed.{turns_among}

more_by : (p : ℕ) (e : Event) (r : ShownReply) (a b : ℕ) → stepped_more p e r (a + b) ≡ stepped_more p e r a + b
more_by p (event.Step q) r a b = elim (q == p && not (is_refusal r)) as (λ z. cond z (a + b + 1) (a + b) ≡ cond z (a + 1) a + b) [ true ↦ omega arith | false ↦ omega arith ]
more_by p e r a b = refl

-- steps add up
steps_add : (p : ℕ) (xs ys : List Exchange) → steps_of p (xs ++ ys) ≡ steps_of p xs + steps_of p ys
steps_add p [] ys = omega arith
steps_add p (x ∷ xs) ys = rw (steps_add p xs ys) (more_by p x.event x.reply (steps_of p xs) (steps_of p ys))

steps_longer : (p : ℕ) (xs ys : List Exchange) → IsPrefix xs ys → steps_of p xs ≤ steps_of p ys
steps_longer p xs ys longer =
    let e = steps_add p xs longer.0 in
    subst (λ (l : List Exchange). steps_of p xs ≤ steps_of p l) longer.1 (omega arith)

one_step : (p : ℕ) (r : ShownReply) → is_refusal r ≡ false → steps_of p (exchange (Step p) r ∷ []) ≡ 1
one_step p r accepted = let own : (p == p) ≡ true = (Decides-eqb p p).1 refl in rw (own, accepted) refl

-- so many steps of a session are in the history that it has seen, by the last of which it went on
pub record HasGoneOn (c : Config) (id count : ℕ) (t : CallerState) : Type 0 where
  lawful : SatisfiesSpec (hall_of c t.seen)
  before : List Exchange
  said : ShownReply
  last : before ++ exchange (Step id) said ∷ [] ≡ t.seen
  on : goes_on said ≡ true
  made : count ≤ steps_of id t.seen

abbrev pub GoesOnSo : Config → ℕ → ℕ → CallerState → Type 0
GoesOnSo c id count t = (count ≡ 0) ⊎ HasGoneOn c id count t

made_before : (c : Config) (id count : ℕ) (t : CallerState) → GoesOnSo c id count t → count ≤ steps_of id t.seen
made_before c id count t (inl none) = omega arith
made_before c id count t (inr k) = k.made

pub gone_on : (c : Config) (id count : ℕ) (s t : CallerState) (r : ShownReply) → GoesOnSo c id count s → IsTaken c s (Step id) r t → goes_on r ≡ true → is_refusal r ≡ false → GoesOnSo c id (count + 1) t
gone_on c id count s t r k one on accepted =
    let m : GoesOn (hall_of c one.answer.history) (Step id) r (hall_of c t.seen) = hall_goes_on (hall_of c one.answer.history) (hall_of c t.seen) (Step id) r one.answer.lawful one.answer.answer in
    let is : t.seen ≡ one.answer.history ++ exchange (Step id) r ∷ [] = goes_by (hall_of c one.answer.history) (Step id) r (hall_of c t.seen) one.answer.lawful one.answer.answer accepted in
    let earlier = made_before c id count s k in
    let longer = steps_longer id s.seen one.answer.history one.answer.longer in
    let sum = steps_add id one.answer.history (exchange (Step id) r ∷ []) in
    let step = one_step id r accepted in
    let whole : steps_of id (one.answer.history ++ exchange (Step id) r ∷ []) ≡ steps_of id t.seen = ap (steps_of id) (sym is) in
    inr (record { lawful = m.lawful; before = one.answer.history; said = r; last = sym is; on = on; made = omega arith })

some_steps : (bounds : SnapBounds) (b : ℕ) → 1 ≤ steps_among bounds b
some_steps bounds b = let k = mul-le 1 1 (most_proposals b / 2 + 2) (2 * bounds.scanning b + 1) (omega arith) (omega arith) in omega arith

module _ (c : Config) (id turns : ℕ) (t : CallerState) where
  ends_soon : SatisfiesSpec (hall_of c t.seen) → EndsSoon (desk_terms c.m c.limit (is_tree c.world)) (desk_bounds (is_tree c.world) c.m) t.seen
  ends_soon lawful =
      let run : IsDeskRunOf c t.seen = history_run (hall_of c t.seen) lawful in
      names_soon_among (desk_terms c.m c.limit (is_tree c.world)) (desk_bounds (is_tree c.world) c.m) (pool_start c) t.seen run

  pub fewer : (b : ℕ) → GoesOnSo c id turns t → begun_in t.seen ≤ b → turns_among c b ≤ turns → ⊥
  fewer b (inl none) few enough = absurd (let some = some_steps (desk_bounds (is_tree c.world) c.m) b in omega arith)
  fewer b (inr k) few enough = absurd (let under = (ends_soon k.lawful).early b id k.before k.said few k.last k.on in let made = k.made in omega arith)

  pub fewer_at_most : GoesOnSo c id turns t → turns_among c c.m ≤ turns → ⊥
  fewer_at_most (inl none) enough = absurd (let some = some_steps (desk_bounds (is_tree c.world) c.m) c.m in omega arith)
  fewer_at_most (inr k) enough = fewer c.m (inr k) (ends_soon k.lawful).roomy enough
