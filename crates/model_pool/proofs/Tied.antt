-- a pool and the object after the same calls
use Rattle.std.proofs.Common.{◌≡◌, ◌≢◌, ℕ, ◌+◌, true, not, ◌==◌, List, [], ◌∷◌, ◌++◌, Option, Some, None, length, filter, inl, inr, refl, sym, ap, ◌∙◌, arith, is_some}
use Rattle.model_pool.proofs.Common.{Decides-eqb, set_at, Competitor, Stay, Seeking, Settled, PoolState, enter_refusal, number_by, probe_refusal_by}
use Rattle.std.proofs.Math.Path.{fun_ext}
use Rattle.model_pool.specs.Competitors.{identities, stay_of, with_stay, without, held_in, held_by_stay}
use Rattle.model_pool.specs.PoolState.{PoolStart}
use Rattle.model_pool.specs.PoolObject.{PoolObject, competes, no_entry, no_probe, number_in}
use Rattle.model_pool.proofs.StayOfLemmas.{stay_of-push, stay_of-with_stay, stay_of-without, identities-push, identities-with_stay, identities-without, length-identities, competes-identities}
use Rattle.model_pool.proofs.Counts.{competitor, holds, count-some}
use Rattle.model_steps.proofs.cited.SetAtLemmas.{set_at-same, set_at-other, set_at-as_is, set_at-is, set_at-map}
use Rattle.model_pool.proofs.Balanced.{NobodyHolds}

-- the object has the pool's size and competitors and what these hold; who seeks has made the probes of all numbers below
pub record IsTied (most size : ℕ) (cs : List Competitor) (o : PoolObject) : Type 0 where
  pub most_is : o.most ≡ most
  pub size_is : o.size ≡ size
  pub competing : o.competing ≡ identities cs
  pub held : (p : ℕ) → o.held p ≡ held_in p cs
  pub probes : (p next : ℕ) → stay_of p cs ≡ Some (Seeking next) → o.probes p + 1 ≡ next

-- both refuse alike
module _ (most size : ℕ) (cs : List Competitor) (o : PoolObject) (t : IsTied most size cs o) where
  competes_is : (p : ℕ) → competes o p ≡ is_some (stay_of p cs)
  competes_is p = rw t.competing (competes-identities cs p)

  pub no_entry-is : (w : PoolState) → w.size ≡ size → w.competitors ≡ cs → (p : ℕ) → no_entry o p ≡ enter_refusal w p
  no_entry-is w e k p =
      let many : length o.competing ≡ length cs = rw t.competing (length-identities cs) in
      rw (competes_is p, many, t.size_is, e, k) refl

  number_in_by : (p : ℕ) (s : Option Stay) → competes o p ≡ is_some s → o.held p ≡ held_by_stay s → number_in o p ≡ number_by s
  number_in_by p None c h = rw c refl
  number_in_by p (Some (Seeking next)) c h = rw (c, h) refl
  number_in_by p (Some (Settled number)) c h = rw (c, h) refl

  pub number_in-is : (p : ℕ) → number_in o p ≡ number_by (stay_of p cs)
  number_in-is p = number_in_by p (stay_of p cs) (competes_is p) (t.held p)

  no_probe_by : (p : ℕ) (s : Option Stay) → competes o p ≡ is_some s → o.held p ≡ held_by_stay s → no_probe o p ≡ probe_refusal_by s
  no_probe_by p None c h = rw c refl
  no_probe_by p (Some (Seeking next)) c h = rw (c, h) refl
  no_probe_by p (Some (Settled number)) c h = rw (c, h) refl

  pub no_probe-is : (p : ℕ) → no_probe o p ≡ probe_refusal_by (stay_of p cs)
  no_probe-is p = no_probe_by p (stay_of p cs) (competes_is p) (t.held p)

  -- who holds a number competes
  pub holder_competes : (p n : ℕ) → o.held p ≡ Some n → competes o p ≡ true
  holder_competes p n h =
      competes_is p ∙ elim (stay_of p cs) as (λ s. held_by_stay s ≡ Some n → is_some s ≡ true) [ None ↦ λ k. absurd (cc) | Some s ↦ λ k. refl ] (sym (t.held p) ∙ h)

-- who holds a number stands so
settled_by_held : (s : Option Stay) (n : ℕ) → held_by_stay s ≡ Some n → s ≡ Some (Settled n)
settled_by_held (Some (Settled number)) n h = let e : number ≡ n = cc in rw e refl
settled_by_held s n h = absurd (cc)

pub settled_at : (cs : List Competitor) (p n : ℕ) → held_in p cs ≡ Some n → stay_of p cs ≡ Some (Settled n)
settled_at cs p n = settled_by_held (stay_of p cs) n

pub unheld : (most size : ℕ) (cs : List Competitor) (o : PoolObject) → IsTied most size cs o → (n : ℕ) → NobodyHolds n cs → (q : ℕ) → o.held q ≢ Some n
unheld most size cs o t n none q h =
    let some = count-some (holds n) cs q (Settled n) (settled_at cs q n (sym (t.held q) ∙ h)) ((Decides-eqb n n).1 refl) in
    omega arith

pub tied_fresh : (start : PoolStart) → IsTied start.most start.size [] (record { most = start.most; size = start.size; competing = []; held = λ p. None; probes = λ p. 0 })
tied_fresh start = record { most_is = refl; size_is = refl; competing = refl; held = λ p. refl; probes = λ p next h. absurd (cc) }

-- an identity stands otherwise: it holds what its state says, and has made as many probes
module _ (most size : ℕ) (cs after : List Competitor) (o : PoolObject) (id : ℕ) (s : Option Stay) (t : IsTied most size cs o) (stands : (q : ℕ) → stay_of q after ≡ set_at (λ v. stay_of v cs) id s q) where
  held_then : (p : ℕ) → set_at o.held id (held_by_stay s) p ≡ held_in p after
  held_then p = ap (λ (f : ℕ → Option ℕ). set_at f id (held_by_stay s) p) (fun_ext t.held) ∙ sym (ap held_by_stay (stands p) ∙ set_at-map held_by_stay (λ v. stay_of v cs) id s p)

  -- one that held nothing, and holds nothing now
  held_still : held_in id cs ≡ None → held_by_stay s ≡ None → (p : ℕ) → o.held p ≡ held_in p after
  held_still was is p = sym (ap (λ (f : ℕ → Option ℕ). f p) (set_at-as_is o.held id (held_by_stay s) (is ∙ sym (t.held id ∙ was)))) ∙ held_then p

  probes_then : (m : ℕ) → ((next : ℕ) → s ≡ Some (Seeking next) → m + 1 ≡ next) → (p next : ℕ) → stay_of p after ≡ Some (Seeking next) → set_at o.probes id m p + 1 ≡ next
  probes_then m own p next h = elim (set_at-is (λ v. stay_of v cs) id s p (Some (Seeking next)) (sym (stands p) ∙ h)) [
    | inl w ↦ rw (w.0, set_at-same o.probes id m) (own next w.1)
    | inr w ↦ rw (set_at-other o.probes id m p w.0) (t.probes p next w.1)
  ]

pub tied_entered : (most size : ℕ) (cs : List Competitor) (o : PoolObject) (id : ℕ) → IsTied most size cs o → stay_of id cs ≡ None →
    IsTied most size (cs ++ competitor id (Seeking 1) ∷ []) (record o { competing = o.competing ++ id ∷ []; probes = set_at o.probes id 0 })
tied_entered most size cs o id t absent =
    let after : List Competitor = cs ++ competitor id (Seeking 1) ∷ [] in
    let stands = stay_of-push cs (competitor id (Seeking 1)) absent in
    record {
      most_is = t.most_is;
      size_is = t.size_is;
      competing = ap (λ xs. xs ++ id ∷ []) t.competing ∙ sym (identities-push cs (competitor id (Seeking 1)));
      held = held_still most size cs after o id (Some (Seeking 1)) t stands (ap held_by_stay absent) refl;
      probes = probes_then most size cs after o id (Some (Seeking 1)) t stands 0 (λ next h. cc);
    }

module _ (most size : ℕ) (cs : List Competitor) (o : PoolObject) (id next : ℕ) (t : IsTied most size cs o) (here : stay_of id cs ≡ Some (Seeking next)) where
  pub tied_missed : IsTied most size (with_stay id (Seeking (next + 1)) cs) (record o { probes = set_at o.probes id (o.probes id + 1) })
  tied_missed =
      let stands = stay_of-with_stay cs id (Seeking (next + 1)) (ap is_some here) in
      record {
        most_is = t.most_is;
        size_is = t.size_is;
        competing = t.competing ∙ sym (identities-with_stay cs id (Seeking (next + 1)));
        held = held_still most size cs (with_stay id (Seeking (next + 1)) cs) o id (Some (Seeking (next + 1))) t stands (ap held_by_stay here) refl;
        probes = probes_then most size cs (with_stay id (Seeking (next + 1)) cs) o id (Some (Seeking (next + 1))) t stands (o.probes id + 1)
            (λ m h. let e : next + 1 ≡ m = cc in omega (arith, t.probes id next here, e));
      }

  pub tied_got : (n : ℕ) → IsTied most size (with_stay id (Settled n) cs) (record o { held = set_at o.held id (Some n); probes = set_at o.probes id (o.probes id + 1) })
  tied_got n =
      let stands = stay_of-with_stay cs id (Settled n) (ap is_some here) in
      record {
        most_is = t.most_is;
        size_is = t.size_is;
        competing = t.competing ∙ sym (identities-with_stay cs id (Settled n));
        held = held_then most size cs (with_stay id (Settled n) cs) o id (Some (Settled n)) t stands;
        probes = probes_then most size cs (with_stay id (Settled n) cs) o id (Some (Settled n)) t stands (o.probes id + 1) (λ m h. absurd (cc));
      }

pub tied_left : (most size : ℕ) (cs : List Competitor) (o : PoolObject) (id : ℕ) → IsTied most size cs o →
    IsTied most size (without id cs) (record o { competing = filter (λ q. not (q == id)) o.competing; held = set_at o.held id None })
tied_left most size cs o id t = record {
  most_is = t.most_is;
  size_is = t.size_is;
  competing = ap (λ xs. filter (λ q. not (q == id)) xs) t.competing ∙ sym (identities-without cs id);
  held = held_then most size cs (without id cs) o id None t (stay_of-without cs id);
  probes = λ p m h. elim (set_at-is (λ v. stay_of v cs) id None p (Some (Seeking m)) (sym (stay_of-without cs id p) ∙ h)) [
    | inl w ↦ absurd (let e = w.1 in cc)
    | inr w ↦ t.probes p m w.1
  ];
}
