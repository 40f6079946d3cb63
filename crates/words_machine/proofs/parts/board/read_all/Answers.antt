use Rattle.std.proofs.Common.{◌≡◌, ◌+◌, ◌++◌, ℕ, suc, List, ◌∷◌, reverse, length, ap, sym, subst, ◌∙◌, arith, []}
use Rattle.words_machine.proofs.parts_lemmas.Common.{Me, BoardClaim, BoardView}
use Rattle.std.proofs.lemmas.List.{length-reverse, reverse-append}
use Rattle.words_machine.specs.parts.BoardSteps.{AgreeWith}
use Rattle.words_machine.proofs.parts_lemmas.Claims.{may_read, read_more}
use Rattle.words_machine.proofs.parts.board.read_all.Goals as goal

pub load-found-requires : goal.load-found-requires
load-found-requires g c =
    let l = c.loop-word.invariant in
    let below = c.loop-word-test.true in
    let words = c.requires.count in
    let long : length c.loop-word.words.items ≡ c.loop-word.word = omega (arith, c.loop-word.words.ok.0, l.length_is) in
    let next : c.loop-word.word ≡ length c.loop-word.seat.me.0.read = sym (ap (λ (r : List ℕ). length r) l.read ∙ length-reverse c.loop-word.words.items ∙ long) in
    let me : c.loop-word.seat.me ≡ (c.loop-word.seat.me.0, []) = (λ i. (c.loop-word.seat.me.0, l.ours.1 i)) in (
      l.ours.0,
      omega arith,
      rw me (may_read c.args.table.now.key _ _ c.loop-word.seat.me.0 c.loop-word.word next),
    )

pub loop-word-preserved : goal.loop-word-preserved
loop-word-preserved g c =
    let l = c.loop-word.invariant in
    let i = c.loop-word.word in
    let x = c.load-found.result in
    let u = c.loop-word.seat.me.0 in
    let read = c.load-found.ensures.2 in
    let long : length c.loop-word.words.items ≡ i = omega (arith, c.loop-word.words.ok.0, l.length_is) in
    let items : c.push_reserved.new.self.items ≡ c.loop-word.words.items ++ x ∷ [] = c.push_reserved.ensures.items in
    let below = c.loop-word-test.true in
    let next : suc i ≡ i + 1 = omega arith in
    let agrees : AgreeWith i x c.args.seat.now.me.0.claims = subst (λ (cs : List BoardClaim). AgreeWith i x cs) l.same read.1 in
    record {
      ours = (c.load-found.ensures.0 ∙ l.ours.0, ap (λ (m : Me ℕ BoardView). m.1) read.2 ∙ l.ours.1);
      upto = omega arith;
      length_is = omega (arith, c.push_reserved.ensures.len, l.length_is);
      room = c.push_reserved.ensures.capacity ∙ l.room;
      same = ap (λ (m : Me ℕ BoardView). m.0.claims) read.2 ∙ l.same;
      said = λ d has lt. rw items (read_more c.loop-word.words.items i x c.args.seat.now.me.0.claims long l.said agrees d has (omega arith));
      read = ap (λ (m : Me ℕ BoardView). m.0.read) read.2 ∙ ap (λ (r : List ℕ). x ∷ r) l.read ∙ sym (reverse-append c.loop-word.words.items (x ∷ [])) ∙ ap (λ (r : List ℕ). reverse r) (sym items);
      accesses = ap (λ (m : Me ℕ BoardView). m.0.accesses) read.2 ∙ ap suc l.accesses ∙ omega arith;
    }
