-- what places promise of the ways to them, and of walks over their segments
use Rattle.std.specs.Prelude.{◌≡◌, ◌≢◌, ◌↔◌, ◌⊎◌, ℕ, ◌+◌, ◌*◌, ◌<◌, ◌≤◌, false, Option, Some, None}
use Rattle.model_steps.specs.SetAt.{set_at}
use Rattle.model_steps.specs.declared.access.Access.TheVariants.{Read, Write, Nothing}
use Rattle.model_steps.specs.declared.access.Answer.{Answer}
use Rattle.model_steps.specs.declared.note.Note.{Note}
use Rattle.model_steps.specs.declared.note.Note.TheVariants.{Ended}
use Rattle.model_steps.specs.Steps.{ProgramSteps, MemorySteps, ReadsOrWrites, answer_from, answer_got}
use Rattle.model_steps.specs.declared.record.Record.{Record}
use Rattle.model_snapshot.specs.Walks.{WalkSteps}

-- the note of the next step of a way on a memory, and the way after that step
module _ {S R V U : Type 0} (way : ProgramSteps U R V ℕ) (memory : MemorySteps S R V) where
  abbrev pub way_note : U → S → Note ℕ
  way_note u s = way.note u (answer_got way memory u s)

  abbrev pub way_after : U → S → U
  way_after u s = way.resumed u (answer_got way memory u s)

-- the relations of a memory of type S to the ways U of the participants that have begun, and to walks K over its
-- segments
pub record PlaceTies (S U K : Type 0) : Type 1 where
  -- a memory in which nothing was written
  pub IsNew : S → Type 0
  -- this many participants have begun, each on its way, and the memory agrees with them
  pub IsConsistent : S → ℕ → (ℕ → Option U) → Type 0
  -- the most accesses of a way to a place, if this many have begun
  pub placing : ℕ → ℕ
  -- the most reads of a walk, by the most participants and by how many of them have begun
  pub reads : ℕ → ℕ → ℕ
  -- a count of the accesses of a way, which may run ahead of them
  pub accesses_of : U → ℕ
  -- a walk may still read the segment at this place
  pub IsUpcoming : K → ℕ → Type 0
  -- over this memory a walk will read it
  pub IsAhead : S → K → ℕ → Type 0
  -- over this memory a walk has made this many reads, and is not over
  pub HasRead : S → K → ℕ → Type 0

-- places: the ways, the walks and the memory of one implementor, step by step, in one record
pub record KnownPlaces (S R V U K : Type 0) : Type 1 where
  -- a way to a place, and the place that it has reached
  pub walker : ProgramSteps U R V ℕ
  pub place_of : U → Option ℕ
  -- a walk over the segments that may be in use
  pub walks : WalkSteps K R V
  pub memory : MemorySteps S R V
  -- the most participants
  pub most_of : S → ℕ
  -- the way of an identity that begins after this many others
  pub walker_from : ℕ → ℕ → U
  -- a walk that has read nothing
  pub walk_from : S → K
  pub ties : PlaceTies S U K

-- the record of these parts
abbrev pub places_by : {S R V U K : Type 0} → ProgramSteps U R V ℕ → (U → Option ℕ) → WalkSteps K R V → MemorySteps S R V → (S → ℕ) → (ℕ → ℕ → U) → (S → K) → PlaceTies S U K → KnownPlaces S R V U K
places_by walker place_of walks memory most_of walker_from walk_from ties = record { walker = walker; place_of = place_of; walks = walks; memory = memory; most_of = most_of; walker_from = walker_from; walk_from = walk_from; ties = ties }

module _ {S R V U K : Type 0} (t : KnownPlaces S R V U K) where
  -- the segment at a place
  abbrev pub segment_in : S → ℕ → Option Record
  segment_in s x = t.walks.content (t.memory.register s (t.walks.segment x)).0

  -- the value that a walk reads next
  abbrev pub value_for : S → K → V
  value_for s k = (t.memory.register s (t.walks.next k)).0

  -- a memory has become another one, over which walks go on as they would have
  pub record KeepsWalks (s new : S) : Type 0 where
    pub most : t.most_of new ≡ t.most_of s
    pub beginning : t.walk_from new ≡ t.walk_from s
    pub ahead : (k : K) (x : ℕ) → t.ties.IsAhead s k x → t.ties.IsAhead new k x
    pub read : (k : K) (j : ℕ) → t.ties.HasRead s k j → t.ties.HasRead new k j

module _ {S R V U K : Type 0} (t : KnownPlaces S R V U K) where
  -- a participant without a place has made its next access, and this is the memory after it. No segment has changed,
  -- and the way has ended if it has reached a place
  pub record HasGoneOn (s new : S) (b : ℕ) (ways : ℕ → Option U) (p : ℕ) (u : U) (got : Answer V) : Type 0 where
    pub consistent : t.ties.IsConsistent new b (set_at ways p (Some (t.walker.resumed u got)))
    pub segments : (x : ℕ) → segment_in t new x ≡ segment_in t s x
    pub nearer : t.ties.accesses_of u + 1 ≤ t.ties.accesses_of (t.walker.resumed u got)
    pub ended : (x : ℕ) → (t.walker.note u got ≡ Ended x) ↔ (t.place_of (t.walker.resumed u got) ≡ Some x)
    pub kept : KeepsWalks t s new

  -- the segment at this place was written, and no other segment has changed
  pub record HasWritten (s new : S) (b : ℕ) (ways : ℕ → Option U) (x : ℕ) (r : Record) : Type 0 where
    pub consistent : t.ties.IsConsistent new b ways
    pub own : segment_in t new x ≡ Some r
    pub others : (y : ℕ) → y ≢ x → segment_in t new y ≡ segment_in t s y
    pub kept : KeepsWalks t s new

  -- the next read of a walk. A walk at a place reads the segment there, and not again. A segment that is ahead of it
  -- stays ahead until it is read, and a walk is not over while any is ahead
  pub record ReadsOn (s : S) (k : K) : Type 0 where
    pub here : (x : ℕ) → t.walks.place k ≡ Some x → (t.walks.next k ≡ t.walks.segment x) × t.ties.IsUpcoming k x
    pub once : (x : ℕ) → t.walks.place k ≡ Some x → t.ties.IsUpcoming (t.walks.resumed k (value_for t s k)) x → ⊥
    pub upcoming : (x : ℕ) → t.ties.IsUpcoming (t.walks.resumed k (value_for t s k)) x → t.ties.IsUpcoming k x
    pub ahead : (x : ℕ) → t.ties.IsAhead s k x → t.walks.place k ≢ Some x →
        t.ties.IsAhead s (t.walks.resumed k (value_for t s k)) x × (t.walks.is_over k (value_for t s k) ≡ false)
    pub counted : (j : ℕ) → t.ties.HasRead s k j → t.walks.is_over k (value_for t s k) ≡ false → t.ties.HasRead s (t.walks.resumed k (value_for t s k)) (j + 1)

module _ {S R V U K : Type 0} (t : KnownPlaces S R V U K) where
  -- the laws of places
  pub record PlacesLaws : Type 0 where
    pub few : (s : S) (b : ℕ) (ways : ℕ → Option U) → t.ties.IsConsistent s b ways → (b ≤ t.most_of s) × (t.most_of s ≤ 64)
    pub fresh : (s : S) → t.ties.IsNew s → t.ties.IsConsistent s 0 (λ p. None)
    pub empty : (s : S) → t.ties.IsNew s → (x : ℕ) → segment_in t s x ≡ None
    pub begun : (s : S) (b : ℕ) (ways : ℕ → Option U) (p : ℕ) → t.ties.IsConsistent s b ways → p ≢ 0 → ways p ≡ None → b < t.most_of s →
        t.ties.IsConsistent s (b + 1) (set_at ways p (Some (t.walker_from b p)))
    -- no two participants have one place
    pub distinct : (s : S) (b : ℕ) (ways : ℕ → Option U) → t.ties.IsConsistent s b ways →
        (p q x : ℕ) (u v : U) → ways p ≡ Some u → ways q ≡ Some v → t.place_of u ≡ Some x → t.place_of v ≡ Some x → p ≡ q
    -- a participant without a place has accesses left
    pub unplaced : (s : S) (b : ℕ) (ways : ℕ → Option U) → t.ties.IsConsistent s b ways →
        (p : ℕ) (u : U) → ways p ≡ Some u → t.place_of u ≡ None → t.ties.accesses_of u + 1 ≤ t.ties.placing b
    pub gone_on : (s : S) (b : ℕ) (ways : ℕ → Option U) → t.ties.IsConsistent s b ways →
        (p : ℕ) (u : U) → ways p ≡ Some u → t.place_of u ≡ None →
        HasGoneOn t s (t.memory.after s (t.walker.next u)) b ways p u (answer_from (t.memory.register s) (t.walker.next u))
    pub written : (s : S) (b : ℕ) (ways : ℕ → Option U) → t.ties.IsConsistent s b ways →
        (p x : ℕ) (u : U) → ways p ≡ Some u → t.place_of u ≡ Some x → (r : Record) →
        HasWritten t s (t.memory.after s (Write (t.walks.segment x) (t.walks.stored (Some r)))) b ways x r
    -- a read changes nothing
    pub looked : (s : S) (r : R) → t.memory.after s (Read r) ≡ s
    -- a walk starts with no read, and with the segment of each participant with a place ahead
    pub starts : (s : S) (b : ℕ) (ways : ℕ → Option U) → t.ties.IsConsistent s b ways →
        (p : ℕ) (u : U) → ways p ≡ Some u →
        t.ties.HasRead s (t.walk_from s) 0 × ((x : ℕ) → t.place_of u ≡ Some x → t.ties.IsAhead s (t.walk_from s) x)
    pub goes : (s : S) (b : ℕ) (ways : ℕ → Option U) → t.ties.IsConsistent s b ways →
        (k : K) (j : ℕ) → t.ties.HasRead s k j → (j + 1 ≤ t.ties.reads (t.most_of s) b) × ReadsOn t s k
    pub rising : (most b : ℕ) → t.ties.reads most b ≤ t.ties.reads most (b + 1)
    pub farther : (b : ℕ) → t.ties.placing b ≤ t.ties.placing (b + 1)
    -- a participant begins without a place, or no participant makes a step to its place
    pub waits : (b p : ℕ) → (t.place_of (t.walker_from b p) ≡ None) ⊎ ((c : ℕ) → t.ties.placing c ≡ 0)
    -- an access on the way to a place is a read, a write or none
    pub plain : (u : U) → ReadsOrWrites (t.walker.next u)
    -- no other access may need memory: not a read, nor the write of a segment, nor an access that is none
    pub sure_nothing : (s : S) → t.memory.may_refuse s Nothing ≡ false
    pub sure_reads : (s : S) (r : R) → t.memory.may_refuse s (Read r) ≡ false
    pub sure_writes : (s : S) (x : ℕ) (segment : Option Record) → t.memory.may_refuse s (Write (t.walks.segment x) (t.walks.stored segment)) ≡ false

-- places that do not depend on the order of beginning: a way is a function of the identity alone, and a fresh walk one
-- of the size
pub record BeginsAlike {S R V U K : Type 0} (t : KnownPlaces S R V U K) : Type 0 where
  pub way : (b c p : ℕ) → t.walker_from b p ≡ t.walker_from c p
  pub walk : (s other : S) (b c : ℕ) (ways others : ℕ → Option U) → t.ties.IsConsistent s b ways → t.ties.IsConsistent other c others →
      t.most_of s ≡ t.most_of other → t.walk_from s ≡ t.walk_from other

-- scanning b bounds the steps of a scan, for each b from 1 to the most participants. It leaves room for b + 1 collects,
-- each of as many reads as a walk may make
abbrev pub BoundsScans : {S R V U K : Type 0} → KnownPlaces S R V U K → ℕ → (ℕ → ℕ) → Type 0
BoundsScans t most scanning = (b : ℕ) → 1 ≤ b → b ≤ most → (b + 1) * t.ties.reads most b ≤ scanning b
