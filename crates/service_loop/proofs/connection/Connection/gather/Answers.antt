use Rattle.std.proofs.Common.{◌≡◌, ◌∙◌, ◌++◌, ap, arith, drop, false, true, length, refl, sym, take, Some, ℕ, List}
use Rattle.std.proofs.lemmas.List.{take_at}
use Rattle.service_loop.proofs.Common.{append-nil, Consumes-nil, Peek}
use Rattle.service_loop.specs.Reported.{asks_of, at_end_of}
use Rattle.service_loop.proofs.GatherLemmas.{gathers_kept, gathers_more, gathers_none, none_own_seen, none_seen}
use Rattle.service_loop.proofs.connection.Connection.gather.Goals as goal
use Rattle.service_loop.proofs.connection.Connection.gather.Goals.{in-Some, in-None, After-self-1}

-- the look with which it begins: of nothing, and with what was reported before
record Begins (g : _) (c : After-self-1 g) : Type 0 where
  end : c.match-self.peek.at_end ≡ at_end_of c.args.self.now.peek
  bytes : c.match-self.peek.bytes ≡ 0
  asks : c.match-self.peek.asks ≡ asks_of c.args.self.now.peek

begins : (g : _) (c : After-self-1 g) → Begins g c
begins g c = elim c.match-self.branch [
  | in-Some w ↦
      let is = w.peek-is ∙ w.nothing-peek.ensures in
      record { end = rw w.in-Some.is (ap (λ (l : Peek). l.at_end) is); bytes = ap (λ (l : Peek). l.bytes) is; asks = rw w.in-Some.is (ap (λ (l : Peek). l.asks) is) }
  | in-None w ↦
      let is = w.peek-is in
      let new = w.new-peek.ensures in
      record { end = rw w.in-None.is (ap (λ (l : Peek). l.at_end) is ∙ new.3); bytes = ap (λ (l : Peek). l.bytes) is ∙ new.0; asks = rw w.in-None.is (ap (λ (l : Peek). l.asks) is ∙ new.2) }
]

-- the chunk is as long as it was
room_kept : (read items : List ℕ) (len : ℕ) → length read ≡ length items → len ≡ length items → length items ≡ 65536 → length (take len (read ++ drop (length read) items)) ≡ 65536
room_kept read items len whole is long = rw (take_at read (drop (length read) items) len (whole ∙ sym is)) (whole ∙ long)

pub returns-then-not-may_take : goal.returns-then-not-may_take
returns-then-not-may_take g c =
    let left = g.S.Stream.left c.args.self.now.stream in
    let buffers = c.args.self.now.buffers in
    let b = begins g (goal.at.returns-then-not-may_take g c).After-self-1 in
    let none = none_seen c.args.kind buffers (Some c.match-self.peek) b.bytes in
    record {
      gathers = gathers_none left left buffers (Consumes-nil left);
      unsent = refl;
      stage = refl;
      reported = rw none (sym (append-nil c.args.batch.now.items));
      asks = λ h. (sym b.asks ∙ h, none);
      own = none_own_seen buffers (Some c.match-self.peek) b.bytes;
      rest = λ peek takes. absurd (let t : true ≡ false = sym takes ∙ sym (c.if-not-may_take.ensures.exact) in cc);
      end = λ h. b.end ∙ h;
      room = c.requires;
    }

pub returns-else-not-is_broken : goal.returns-else-not-is_broken
returns-else-not-is_broken g c =
    let b = begins g (goal.at.returns-else-not-is_broken g c).After-self-1 in
    let same = c.gather_bytes.ensures.peek in
    let none = none_seen c.args.kind c.gather_bytes.new.self.buffers c.gather_bytes.new.self.peek (same.0 ∙ b.bytes) in
    record {
      gathers = c.gather_bytes.ensures.gathers;
      unsent = c.gather_bytes.ensures.unsent;
      stage = c.gather_bytes.ensures.stage;
      reported = rw none (sym (append-nil c.args.batch.now.items));
      asks = λ h. (sym b.asks ∙ sym same.3 ∙ h, none);
      own = none_own_seen c.gather_bytes.new.self.buffers c.gather_bytes.new.self.peek (same.0 ∙ b.bytes);
      rest = λ peek takes whole. absurd (let t : true ≡ false = c.if-not-is_broken.ensures ∙ whole in cc);
      end = λ h. same.4 (b.end ∙ h);
      room = (
        room_kept c.gather_bytes.new.chunk c.args.shared.now.chunk.items c.args.shared.now.chunk.len (omega (arith, c.gather_bytes.auto.chunk, ap length c.deref_mut.ensures.value))
            (omega (arith, c.args.shared.now.chunk.ok.0)) c.requires.0,
        c.requires.1,
      );
    }

pub returns-then-not-is_broken : goal.returns-then-not-is_broken
returns-then-not-is_broken g c =
    let b = begins g (goal.at.returns-then-not-is_broken g c).After-self-1 in
    let same = c.gather_bytes.ensures.peek in
    let left = g.S.Stream.left c.args.self.now.stream in
    let mid = g.S.Stream.left c.gather_bytes.new.self.stream in
    let m = c.gather_bytes.new.self.buffers in
    let s' = c.peek_over.new.self.buffers in
    let peeked = gathers_kept mid mid m s' (Consumes-nil mid) c.peek_over.ensures.buffers c.peek_over.ensures.whole in
    record {
      gathers = rw c.peek_over.ensures.stream (gathers_more left mid mid c.args.self.now.buffers m s' c.gather_bytes.ensures.gathers peeked);
      unsent = ap (λ s. g.S.Stream.gone s) c.peek_over.ensures.stream ∙ c.gather_bytes.ensures.unsent;
      stage = c.peek_over.ensures.stage ∙ c.gather_bytes.ensures.stage;
      reported = c.peek_over.ensures.reported;
      asks = λ h. (let a = c.peek_over.ensures.asks h in (sym b.asks ∙ sym same.3 ∙ a.0, a.1));
      own = c.peek_over.ensures.own;
      rest = λ peek takes whole is no. c.peek_over.ensures.rest peek whole is no;
      end = λ h. c.peek_over.ensures.end ∙ same.4 (b.end ∙ h);
      room = (
        room_kept c.gather_bytes.new.chunk c.args.shared.now.chunk.items c.args.shared.now.chunk.len (omega (arith, c.gather_bytes.auto.chunk, ap length c.deref_mut.ensures.value))
            (omega (arith, c.args.shared.now.chunk.ok.0)) c.requires.0,
        c.requires.1,
      );
    }
