use Rattle.std.proofs.Common.{◌≡◌, ◌*◌, ◌+◌, ◌++◌, ℕ, suc, List, ◌∷◌, drop, length, ap, sym, subst, ◌∙◌, refl, arith, [], vec_len}
use Rattle.words_pool.proofs.Common.{Me, step, PoolView, call_of, view_of, read_at, own, holding, IsWordFor, set_places}
use mathlib.Core.Option.{none}
use Rattle.words_pool.proofs.Keeping.{may_read_first, may_read_on, read_own, read_accesses}
use Rattle.words_pool.proofs.Closing.{met_more, words_more, as_word}
use Rattle.words_pool.proofs.word_pool.look_at_all.Goals as goal

pub load-first-requires : goal.load-first-requires
load-first-requires g c =
    let words = c.requires.table.0 in
    let key = c.requires.table.1 in
    let some = c.requires.table.2 in
    let me : c.args.seat.now.me ≡ (c.args.seat.now.me.0, []) = (λ i. (c.args.seat.now.me.0, c.requires.ours.1 i)) in (
      c.requires.ours.0,
      omega arith,
      rw me (may_read_first c.args.table.now.key _ _ 0 0 _ (step 0 0 0 0 none) refl refl (omega arith)),
    )

pub load-found-requires : goal.load-found-requires
load-found-requires g c =
    let words = c.requires.table.0 in
    let key = c.requires.table.1 in
    let below = c.loop-place-test.true in
    let me : c.loop-place.seat.me ≡ (c.loop-place.seat.me.0, []) = (λ i. (c.loop-place.seat.me.0, c.loop-place.invariant.ours.1 i)) in (
      c.loop-place.invariant.ours.0,
      omega arith,
      rw me (may_read_on c.args.table.now.key _ _ c.loop-place.place _ _ (step 0 (c.loop-place.place * 8) 0 0 none) refl refl (omega arith)),
    )

pub loop-place-preserved : goal.loop-place-preserved
loop-place-preserved g c =
    let l = c.loop-place.invariant in
    let i = c.loop-place.place in
    let x = c.load-found.result in
    let u = c.loop-place.seat.me.0 in
    let read = c.load-found.ensures.2 in
    let here : read.0 ≡ i = omega (arith, read.1) in
    let view : c.load-found.new.seat.me.0 ≡ view_of (read_at i x (call_of u) ∷ drop 1 u.calls) u.past =
    subst (λ (p : ℕ). c.load-found.new.seat.me.0 ≡ view_of (read_at p x (call_of u) ∷ drop 1 u.calls) u.past) here (ap (λ (m : Me ℕ PoolView). m.0) read.3) in
    let word : IsWordFor i u x = subst (λ (p : ℕ). IsWordFor p u x) here read.2 in
    let len : vec_len c.loop-place.words ≡ i = l.count in
    let long : length c.loop-place.words.items ≡ i = omega (arith, c.loop-place.words.ok.0, len) in
    let items : c.push_reserved-in-loop-place.new.self.items ≡ c.loop-place.words.items ++ x ∷ [] = c.push_reserved-in-loop-place.ensures.items in
    let below = c.loop-place-test.true in
    let next : suc i ≡ i + 1 = omega arith in
    record {
      ours = (c.load-found.ensures.0 ∙ l.ours.0, ap (λ (m : Me ℕ PoolView). m.1) read.3 ∙ l.ours.1);
      upto = (omega arith, omega arith);
      count = omega (arith, c.push_reserved-in-loop-place.ensures.len, len);
      room = c.push_reserved-in-loop-place.ensures.capacity ∙ l.room;
      same = λ p. ap (λ (v : PoolView). own (holding p) v) view ∙ read_own p i x u.calls u.past ∙ l.same p;
      words = λ p lt. rw items (words_more c.loop-place.words.items i x c.args.seat.now.me.0 long l.words (as_word i x u c.args.seat.now.me.0 (sym (l.same i)) word) p (omega arith));
      met = ap (λ (v : PoolView). (call_of v).met) view ∙ met_more c.loop-place.words.items i x (call_of u) long l.met ∙ ap (λ (ws : List ℕ). set_places ws (suc i)) (sym items) ∙ ap (λ (n : ℕ). set_places c.push_reserved-in-loop-place.new.self.items n) next;
      accesses = ap (λ (v : PoolView). (call_of v).accesses) view ∙ read_accesses i x (call_of u) ∙ ap suc l.accesses ∙ next;
    }
