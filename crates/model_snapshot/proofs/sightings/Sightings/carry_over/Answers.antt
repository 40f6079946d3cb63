use Rattle.std.proofs.Common.{◌≡◌, ℕ, ◌≤◌, List, ◌++◌, length, take, drop, map, ◌∙◌, arith, length-append, length-drop}
use Rattle.model_snapshot.proofs.Common.{Sighting, carried_over}
use Rattle.std.proofs.lemmas.List.{length-map, length-take-le, take_at}
use Rattle.model_snapshot.proofs.SightingLemmas.{distinct-carried}
use Rattle.model_snapshot.proofs.sightings.Sightings.carry_over.Goals as goal

-- the entries in use were carried over, those behind them were left
record IsCarried (ss after : List Sighting) (len : ℕ) : Type 0 where
  first : take len after ≡ map carried_over (take len ss)
  length_is : length after ≡ length ss

carried : (ss : List Sighting) (len : ℕ) → len ≤ length ss → IsCarried ss (map carried_over (take len ss) ++ drop len ss) len
carried ss len l =
    let e : length (map carried_over (take len ss)) ≡ len = length-map (take len ss) carried_over ∙ length-take-le len ss l in
    record {
      first = take_at (map carried_over (take len ss)) (drop len ss) len e;
      length_is = omega (arith, l, e, length-append (map carried_over (take len ss)) (drop len ss), length-drop len ss);
    }

pub invariant_of-self : goal.invariant_of-self
invariant_of-self c =
    let now = carried c.self.inside.entries c.self.inside.len (omega arith) in
    rw c.carry_over_all.ensures (omega arith, now.length_is ∙ c.self.invariant.1, rw now.first (distinct-carried _ c.self.invariant.2))

pub returns : goal.returns
returns c = rw (c.carry_over_all.ensures, ← c.self.view_is) (carried c.self.inside.entries c.self.inside.len (omega arith)).first
