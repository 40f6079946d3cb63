use Rattle.std.proofs.Common.{◌≡◌, ℕ, ◌-◌, ◌<◌, ◌∷◌, length, drop, get_or, suc, List, replicate, ap, sym, ◌∙◌, subst, arith, drop-cons}
use Rattle.text_checker.proofs.judges_lemmas.Common.{HasPair, LacksPair, IsRowOf, turns_in}
use Rattle.std.proofs.Math.Seq.{drop-length}
use Rattle.text_checker.proofs.judges_lemmas.seats.Rows.{no_moment, no_pair, one_pair, row_tells}
use Rattle.text_checker.proofs.judges.names.Names.row_of.Goals as goal

pub loop-i-init : goal.loop-i-init
loop-i-init c = record {
  inside = omega arith;
  said = λ terms o h. subst (λ (v : List (ℕ × ℕ)). IsRowOf (turns_in c.args.self.now.participants) (length c.args.self.now.participants) v (replicate 64 0)) (sym (drop-length c.args.view.now)) (no_pair _ _);
}

pub returns-in_default : goal.returns-in_default
returns-in_default c = λ terms o h i l rises is.
    let inside : c.loop-i.i - 1 < length c.args.view.now = (let w = c.loop-i.invariant.inside in let t = c.loop-i-test.true in omega arith) in
    let lacks : LacksPair (turns_in c.args.self.now.participants) (get_or c.args.view.now (c.loop-i.i - 1) (0, 0)).0 (get_or c.args.view.now (c.loop-i.i - 1) (0, 0)).1 = c.in_default.ensures in
    no_moment terms c.args.self.now o c.args.view.now (c.loop-i.i - 1) (0, 0) i h l rises inside lacks is

pub loop-i-preserved : goal.loop-i-preserved
loop-i-preserved c =
    let inside : c.loop-i.i - 1 < length c.args.view.now = (let w = c.loop-i.invariant.inside in let t = c.loop-i-test.true in omega arith) in
    let x : ℕ × ℕ = get_or c.args.view.now (c.loop-i.i - 1) (0, 0) in
    let next : suc (c.loop-i.i - 1) ≡ c.loop-i.i = (let t = c.loop-i-test.true in omega arith) in
    let cons : drop (c.loop-i.i - 1) c.args.view.now ≡ x ∷ drop c.loop-i.i c.args.view.now = drop-cons c.args.view.now (c.loop-i.i - 1) (0, 0) inside ∙ ap (λ (j : ℕ). x ∷ drop j c.args.view.now) next in
    let has : HasPair (turns_in c.args.self.now.participants) x.0 x.1 c.in-Some.seat = c.in-Some.ensures in
    let small = has.small in
    let number : c.min.result ≡ x.1 = grind (arith, c.min.ensures, small) in
    record {
      inside = omega arith;
      said = λ terms o h. rw (cons, c.with_number-row.ensures, number) (one_pair terms c.args.self.now o h (drop c.loop-i.i c.args.view.now) x c.loop-i.row c.in-Some.seat (c.loop-i.invariant.said terms o h) has);
    }

pub returns : goal.returns
returns c = λ terms o h i l rises.
    let zero : c.loop-i.i ≡ 0 = (let t = c.loop-i-test.false in omega arith) in
    let all : IsRowOf (turns_in c.args.self.now.participants) (length c.args.self.now.participants) c.args.view.now c.loop-i.row =
    subst (λ (j : ℕ). IsRowOf (turns_in c.args.self.now.participants) (length c.args.self.now.participants) (drop j c.args.view.now) c.loop-i.row) zero (c.loop-i.invariant.said terms o h) in
    row_tells terms c.args.self.now o h c.args.view.now c.loop-i.row all i l rises
