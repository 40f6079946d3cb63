-- what is promised of segments in a row
use Rattle.std.proofs.Common.{◌≡◌, ◌≢◌, ℕ, ◌+◌, ◌<◌, ◌≤◌, true, false, List, length, set, get_or-set_same, Option, Some, None, inl, inr, refl, sym, ap, ◌∙◌, arith}
use Rattle.std.specs.Prelude.{nat_lt}
use Rattle.std.proofs.lemmas.List.{get_or-set_other, length-set}
use Rattle.std.proofs.lemmas.Bool.Decides.{eqb_tells, leb_tells, nat_tests}
use Rattle.model_steps.specs.SetAt.{set_at}
use Rattle.model_steps.specs.declared.access.Access.{Access}
use Rattle.model_steps.specs.declared.access.Access.TheVariants.{Write}
use Rattle.model_steps.specs.Steps.{Spares}
use Rattle.model_steps.specs.declared.record.Record.{Record}
use Rattle.model_snapshot.specs.declared.fixed.FixedWalker.{FixedWalker}
use Rattle.model_snapshot.specs.declared.fixed.FixedWalk.{FixedWalk}
use Rattle.model_snapshot.specs.Fixed.{register_of, after_access, next_place, fixed_place, fixed_walker}
use Rattle.model_snapshot.specs.FixedTies.{IsRowFor, IsWalkAt, fixed_places}
use Rattle.model_snapshot.specs.Places.{KeepsWalks, HasWritten, ReadsOn, PlacesLaws}

-- an access changes no segment but the one that it names
pub others_kept : (m : List (Option Record)) (a : Access ℕ (Option Record)) (r : ℕ) → Spares a r → register_of (after_access m a) r ≡ register_of m r
others_kept m (Write q new) r h = ap (λ x. (x, false)) (get_or-set_other m q r new None h)
others_kept m a r h = refl

-- one more has the next place
row_joined : (s : List (Option Record)) (b : ℕ) (ways : ℕ → Option FixedWalker) (p : ℕ) → IsRowFor s b ways → ways p ≡ None → b < length s → IsRowFor s (b + 1) (set_at ways p (Some (fixed_walker b p)))
row_joined s b ways p c absent more = record {
  few = c.few;
  room = omega arith;
  inside = λ q u h. elim (eqb_tells q p) [
    | inl e ↦ let own : Some (fixed_walker b p) ≡ Some u = rw e.0 at h in let same : fixed_walker b p ≡ u = cc in let place : b ≡ u.place = ap (λ (z : FixedWalker). z.place) same in omega arith
    | inr e ↦ let old = c.inside q u (rw e.0 at h) in omega arith
  ];
  distinct = λ q o u v h k same. elim (eqb_tells q p) [
    | inl e ↦ elim (eqb_tells o p) [
      | inl f ↦ e.1 ∙ sym f.1
      | inr f ↦
          let own : Some (fixed_walker b p) ≡ Some u = rw e.0 at h in
          let mine : fixed_walker b p ≡ u = cc in
          let place : b ≡ u.place = ap (λ (z : FixedWalker). z.place) mine in
          let old = c.inside o v (rw f.0 at k) in
          absurd (omega arith)
    ]
    | inr e ↦ elim (eqb_tells o p) [
      | inl f ↦
          let own : Some (fixed_walker b p) ≡ Some v = rw f.0 at k in
          let mine : fixed_walker b p ≡ v = cc in
          let place : b ≡ v.place = ap (λ (z : FixedWalker). z.place) mine in
          let old = c.inside q u (rw e.0 at h) in
          absurd (omega arith)
      | inr f ↦ c.distinct q o u v (rw e.0 at h) (rw f.0 at k) same
    ]
  ];
}

-- a row of the same length
keeps_walks : (s new : List (Option Record)) → length new ≡ length s → KeepsWalks fixed_places s new
keeps_walks s new e = record {
  most = e;
  beginning = ap (λ (n : ℕ). record { at = 0; most = n }) e;
  ahead = λ k x h. (h.0 ∙ sym e, h.1, h.2);
  read = λ k j h. record { most = h.most ∙ sym e; at = h.at; inside = (let i = h.inside in omega arith) };
}

row_written : (s : List (Option Record)) (b : ℕ) (ways : ℕ → Option FixedWalker) → IsRowFor s b ways → (p x : ℕ) (u : FixedWalker) → ways p ≡ Some u → fixed_place u ≡ Some x → (r : Record) →
    HasWritten fixed_places s (set s x (Some r)) b ways x r
row_written s b ways c p x u here at r =
    let place : u.place ≡ x = cc in
    let inside = c.inside p u here in
    let room = c.room in
    let many = length-set s x (Some r) in
    record {
      consistent = record { few = rw many c.few; room = rw many c.room; inside = c.inside; distinct = c.distinct };
      own = get_or-set_same s x (Some r) None (omega arith);
      others = λ y n. get_or-set_other s x y (Some r) None n;
      kept = keeps_walks s (set s x (Some r)) many;
    }

row_reads : (s : List (Option Record)) (k : FixedWalk) (j : ℕ) → IsWalkAt s k j → ReadsOn fixed_places s k
row_reads s k j h =
    let at = h.at in
    let most = h.most in
    let inside = h.inside in
    let further : nat_lt k.at k.most ≡ true = (let l : k.at < k.most = omega arith in grind (arith, nat_tests)) in
    let next : next_place k ≡ k.at + 1 = rw further refl in
    record {
      here = λ x e. let place : k.at ≡ x = cc in (place, omega arith);
      once = λ x e l. let place : k.at ≡ x = cc in omega arith;
      upcoming = λ x l. omega arith;
      ahead = λ x l n.
          let a = l.0 in
          let b = l.1 in
          let c = l.2 in
          let other : k.at ≢ x = λ e. n (ap Some e) in
          let more : next_place k ≤ x = omega arith in
          ((a, more, c), elim (leb_tells k.most (next_place k)) [ inl e ↦ absurd (let z = e.1 in omega arith) | inr e ↦ e.0 ]);
      counted = λ i e more. record {
        most = most;
        at = (let b = e.at in omega arith);
        inside = elim (leb_tells k.most (next_place k)) [ inl f ↦ absurd (let z : true ≡ false = sym f.0 ∙ more in cc) | inr f ↦ let l = f.1 in let b = e.at in omega arith ];
      };
    }

pub fixed_laws : PlacesLaws fixed_places
fixed_laws = record {
  few = λ s b ways c. (c.room, let few = c.few in omega arith);
  fresh = λ s new. record { few = new.few; room = omega arith; inside = λ p u h. absurd (cc); distinct = λ p q u v h. absurd (cc) };
  empty = λ s new x. new.empty x;
  begun = λ s b ways p c zero absent more. row_joined s b ways p c absent more;
  distinct = λ s b ways c p q x u v here there at too. c.distinct p q u v here there (let a : u.place ≡ x = cc in let b : v.place ≡ x = cc in a ∙ sym b);
  unplaced = λ s b ways c p u here none. absurd (cc);
  gone_on = λ s b ways c p u here none. absurd (cc);
  written = row_written;
  looked = λ s r. refl;
  starts = λ s b ways c p u here.
      let inside = c.inside p u here in
      let room = c.room in (
        record { most = refl; at = refl; inside = omega arith },
        λ x e. let place : u.place ≡ x = cc in (refl, omega arith, omega arith),
      );
  goes = λ s b ways c k j h. (let i = h.inside in omega arith, row_reads s k j h);
  rising = λ most b. omega arith;
  farther = λ b. omega arith;
  waits = λ b p. inr (λ c. refl);
  plain = λ u. tt;
  sure_nothing = λ s. refl;
  sure_reads = λ s r. refl;
  sure_writes = λ s x segment. refl;
}
