-- what is promised of a grid with segments
use Rattle.std.proofs.Common.{◌≡◌, ◌≢◌, ℕ, ◌+◌, ◌<◌, ◌≤◌, true, false, length, set, get_or-set_same, Option, Some, None, inl, inr, refl, sym, ap, ◌∙◌, arith, add-one}
use Rattle.std.specs.Prelude.{nat_lt, option_map}
use Rattle.std.proofs.Math.Path.{fun_ext}
use Rattle.std.proofs.lemmas.List.{get_or-set_other, length-set}
use Rattle.std.proofs.lemmas.Bool.Decides.{leb_tells, nat_tests}
use Rattle.model_steps.specs.SetAt.{set_at}
use Rattle.model_steps.proofs.cited.SetAtLemmas.{set_at-map}
use Rattle.model_steps.specs.declared.access.Access.{Access}
use Rattle.model_steps.specs.declared.access.Access.TheVariants.{Read, Write, TestAndSet, Clear, Nothing}
use Rattle.model_steps.specs.Steps.{Spares, ReadsOrWrites, answer_from}
use Rattle.model_steps.specs.Registers as registers
use Rattle.model_steps.specs.declared.record.Record.{Record}
use Rattle.model_splitter.specs.declared.stage.VisitStage.{VisitStage}
use Rattle.model_splitter.specs.declared.stage.VisitStage.TheVariants.{Outside}
use Rattle.model_splitter.specs.Visitor.{access_at}
use Rattle.model_splitter.specs.grid.Door.{IsDoorWithin}
use Rattle.model_splitter.specs.grid.Walk as walk
use Rattle.model_splitter.proofs.cited.grid.ConsistentKept as kept
use Rattle.model_splitter.proofs.cited.grid.GridLaw as law
use Rattle.model_splitter.proofs.cited.grid.Numbers.{number_low}
use Rattle.model_renaming.specs.declared.over.grid_register.GridRegister.{GridRegister}
use Rattle.model_renaming.specs.declared.over.grid_register.GridRegister.TheVariants.{Door, Segment}
use Rattle.model_renaming.specs.declared.over.grid_register.GridValue.{GridValue}
use Rattle.model_renaming.specs.declared.over.grid_register.GridValue.TheVariants.{Word, Contents}
use Rattle.model_renaming.specs.declared.over.grid_walker.GridWalker.{GridWalker}
use Rattle.model_renaming.specs.declared.over.grid_walk.GridWalk.{GridWalk}
use Rattle.model_renaming.specs.over.GridState.{GridState}
use Rattle.model_renaming.specs.over.Grid.{segments_for, register_of, with_doors, with_segments, after_access, door_access, word_answer, grid_walker_steps, next_place, grid_place, grid_walker}
use Rattle.model_renaming.specs.over.GridTies.{IsGridFor, IsWalkAt, walks_of, grid_places}
use Rattle.model_snapshot.specs.Places.{KeepsWalks, HasGoneOn, HasWritten, ReadsOn, PlacesLaws}

-- an access changes no register but the one that it names
pub others_kept : (g : GridState) (a : Access GridRegister GridValue) (r : GridRegister) → Spares a r → register_of (after_access g a) r ≡ register_of g r
others_kept g (Read q) r h = refl
others_kept g (Write (Door q) (Word word)) (Door r) h = ap (λ x. (Word x, false)) (get_or-set_other g.doors.values q r word g.doors.first (λ e. h (ap Door e)))
others_kept g (Write (Door q) (Word word)) (Segment r) h = refl
others_kept g (Write (Door q) (Contents segment)) r h = refl
others_kept g (Write (Segment q) (Word word)) r h = refl
others_kept g (Write (Segment q) (Contents segment)) (Door r) h = refl
others_kept g (Write (Segment q) (Contents segment)) (Segment r) h = ap (λ x. (Contents x, false)) (get_or-set_other g.segments q r segment None (λ e. h (ap Segment e)))
others_kept g (TestAndSet q) r h = refl
others_kept g (Clear q) r h = refl
others_kept g Nothing r h = refl

-- an access that is sent to the doors is one of the doors
sent : (g : GridState) (id x y : ℕ) (s : VisitStage) → after_access g (door_access (access_at id x y s)) ≡ with_doors g (registers.after_access g.doors (access_at id x y s))
sent g id x y Outside = refl
sent g id x y s = refl

reported : (g : GridState) (id x y : ℕ) (s : VisitStage) → word_answer (answer_from (register_of g) (door_access (access_at id x y s))) ≡ registers.answer_of g.doors (access_at id x y s)
reported g id x y Outside = refl
reported g id x y s = refl

sent_plain : (id x y : ℕ) (s : VisitStage) → ReadsOrWrites (door_access (access_at id x y s))
sent_plain id x y Outside = tt
sent_plain id x y s = tt

-- the walks, with another in the place of p's
walks_with : (ways : ℕ → Option GridWalker) (p : ℕ) (u : GridWalker) → walks_of (set_at ways p (Some u)) ≡ set_at (walks_of ways) p (Some u.walker)
walks_with ways p u = fun_ext (set_at-map (option_map (λ (v : GridWalker). v.walker)) ways p (Some u))

on_way : (ways : ℕ → Option GridWalker) (p : ℕ) (u : GridWalker) → ways p ≡ Some u → walks_of ways p ≡ Some u.walker
on_way ways p u e = ap (option_map (λ (v : GridWalker). v.walker)) e

-- there is a segment at each place on the first diagonals
place_inside : (most b x : ℕ) → b ≤ most → IsDoorWithin b x → x < segments_for most
place_inside most b x l d = number_low most x (record { depth = d.depth; column = d.column; inside = d.inside; within = (let w = d.within in omega arith); is = d.is })

-- a grid with as many segments
keeps_walks : (g new : GridState) → new.most ≡ g.most → length new.segments ≡ length g.segments → KeepsWalks grid_places g new
keeps_walks g new same e = record {
  most = same;
  beginning = ap (λ (n : ℕ). record { at = 0; most = n }) e;
  ahead = λ k x h. (h.0 ∙ sym e, h.1, h.2);
  read = λ k j h. record { room = e ∙ h.room ∙ ap segments_for (sym same); most = h.most ∙ sym e; at = h.at; inside = (let i = h.inside in omega arith) };
}

grid_begun : (g : GridState) (b : ℕ) (ways : ℕ → Option GridWalker) (p : ℕ) → IsGridFor g b ways → p ≢ 0 → ways p ≡ None → b < g.most → IsGridFor g (b + 1) (set_at ways p (Some (grid_walker b p)))
grid_begun g b ways p c some absent room = record {
  doors = rw (walks_with ways p (grid_walker b p)) (let k = kept.begun g.most b g.doors (walks_of ways) c.doors p some (ap (option_map (λ (v : GridWalker). v.walker)) absent) room in rw (add-one b) k);
  segments = c.segments;
}

grid_gone_on : (g : GridState) (b : ℕ) (ways : ℕ → Option GridWalker) → IsGridFor g b ways → (p : ℕ) (u : GridWalker) → ways p ≡ Some u → grid_place u ≡ None →
    HasGoneOn grid_places g (after_access g (door_access (walk.next_access u.walker))) b ways p u (answer_from (register_of g) (door_access (walk.next_access u.walker)))
grid_gone_on g b ways c p u here none =
    let is = on_way ways p u here in
    let v = u.walker.visitor in
    rw (sent g v.identity v.x v.y v.stage) (record {
      consistent = record {
        doors = rw (walks_with ways p (grid_walker_steps.resumed u (answer_from (register_of g) (door_access (walk.next_access u.walker)))), reported g v.identity v.x v.y v.stage) (kept.gone_on g.most b g.doors (walks_of ways) c.doors p u.walker is);
        segments = c.segments;
      };
      segments = λ x. refl;
      nearer = law.nearer g.most b g.doors (walks_of ways) c.doors p u.walker is none (word_answer (answer_from (register_of g) (door_access (walk.next_access u.walker))));
      ended = law.ended_at_place u.walker (word_answer (answer_from (register_of g) (door_access (walk.next_access u.walker))));
      kept = keeps_walks g (with_doors g (registers.after_access g.doors (walk.next_access u.walker))) refl refl;
    })

grid_written : (g : GridState) (b : ℕ) (ways : ℕ → Option GridWalker) → IsGridFor g b ways → (p x : ℕ) (u : GridWalker) → ways p ≡ Some u → grid_place u ≡ Some x → (r : Record) →
    HasWritten grid_places g (with_segments g (set g.segments x (Some r))) b ways x r
grid_written g b ways c p x u here at r =
    let many = length-set g.segments x (Some r) in
    let l = law.grid_law g.most b g.doors (walks_of ways) c.doors in
    let within = l.within p x (rw (on_way ways p u here) at) in
    let inside = place_inside g.most b x c.doors.room within in
    let rows = c.segments in
    record {
      consistent = record { doors = c.doors; segments = rw many c.segments };
      own = get_or-set_same g.segments x (Some r) None (omega arith);
      others = λ y n. get_or-set_other g.segments x y (Some r) None n;
      kept = keeps_walks g (with_segments g (set g.segments x (Some r))) refl many;
    }

grid_reads : (g : GridState) (k : GridWalk) (j : ℕ) → IsWalkAt g k j → ReadsOn grid_places g k
grid_reads g k j h =
    let at = h.at in
    let most = h.most in
    let inside = h.inside in
    let further : nat_lt k.at k.most ≡ true = (let l : k.at < k.most = omega arith in grind (arith, nat_tests)) in
    let next : next_place k ≡ k.at + 1 = rw further refl in
    record {
      here = λ x e. let place : k.at ≡ x = cc in (ap Segment place, omega arith);
      once = λ x e l. let place : k.at ≡ x = cc in omega arith;
      upcoming = λ x l. omega arith;
      ahead = λ x l n.
          let a = l.0 in
          let b = l.1 in
          let c = l.2 in
          let other : k.at ≢ x = λ e. n (ap Some e) in
          let more : next_place k ≤ x = omega arith in
          ((a, more, c), elim (leb_tells k.most (next_place k)) [ inl e ↦ absurd (let z = e.1 in omega arith) | inr e ↦ e.0 ]);
      counted = λ i e more. record {
        room = h.room;
        most = most;
        at = (let b = e.at in omega arith);
        inside = elim (leb_tells k.most (next_place k)) [ inl f ↦ absurd (let z : true ≡ false = sym f.0 ∙ more in cc) | inr f ↦ let l = f.1 in let b = e.at in omega arith ];
      };
    }

pub grid_laws : PlacesLaws grid_places
grid_laws = record {
  few = λ g b ways c. (c.doors.room, let few = c.doors.few in omega arith);
  fresh = λ g new. record { doors = rw new.doors (kept.consistent_new g.most (let few = new.few in omega arith)); segments = new.segments };
  empty = λ g new x. new.empty x;
  begun = grid_begun;
  distinct = λ g b ways c p q x u v here there at too.
      (law.grid_law g.most b g.doors (walks_of ways) c.doors).distinct p q x (rw (on_way ways p u here) at) (rw (on_way ways q v there) too);
  unplaced = λ g b ways c p u here none. law.unplaced g.most b g.doors (walks_of ways) c.doors p u.walker (on_way ways p u here) none;
  gone_on = grid_gone_on;
  written = grid_written;
  looked = λ g r. refl;
  starts = λ g b ways c p u here.
      let some = law.some_walk g.most b g.doors (walks_of ways) c.doors p u.walker (on_way ways p u here) in
      let room = c.doors.room in
      let rows = c.segments in (
        record { room = c.segments; most = refl; at = refl; inside = (let corner = place_inside g.most b 0 room (record { depth = 0; column = 0; inside = omega arith; within = omega arith; is = refl }) in omega arith) },
        λ x e. (refl, omega arith, (let within = (law.grid_law g.most b g.doors (walks_of ways) c.doors).within p x (rw (on_way ways p u here) e) in let inside = place_inside g.most b x room within in omega arith)),
      );
  goes = λ g b ways c k j h. (let i = h.inside in let room = h.room in omega arith, grid_reads g k j h);
  rising = λ most b. omega arith;
  farther = λ b. omega arith;
  waits = λ b p. inl refl;
  plain = λ u. sent_plain u.walker.visitor.identity u.walker.visitor.x u.walker.visitor.y u.walker.visitor.stage;
  sure_nothing = λ g. refl;
  sure_reads = λ g r. refl;
  sure_writes = λ g x segment. refl;
}
