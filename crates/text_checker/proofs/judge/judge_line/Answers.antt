use Rattle.std.proofs.Common.{◌≡◌, ◌++◌, ◌∷◌, [], ℕ, List, Option, subst, sym}
use Rattle.text_checker.proofs.Common.{on_ok_weaker, Verdict, JudgesRow, StandsAfter}
use Rattle.text_checker.proofs.records.Stages.{judged_on, judged_over, still_over}
use Rattle.text_checker.proofs.judge.judge_line.Goals as goal

pub returns-in-Opening : goal.returns-in-Opening
returns-in-Opening c = on_ok_weaker c.take_first.result
    (λ first lines h.
    (let none : lines ≡ [] = subst (StandsAfter lines) c.in-Opening.is h in
    subst (λ (l : List (List ℕ)). StandsAfter (l ++ c.args.line.now ∷ []) c.take_first.new.stage) (sym none) first)) c.take_first.ensures

pub returns-in-Some : goal.returns-in-Some
returns-in-Some c = λ lines h.
    (let j = c.in-Judging.judge in
    let said = subst (λ (o : Option Verdict). JudgesRow j c.args.line.now o c.take.new.self) c.in-Some.is c.in_ok-verdict-in-Judging.ensures in
    subst (StandsAfter (lines ++ c.args.line.now ∷ [])) (sym c.conclude.ensures)
    (judged_over lines c.args.line.now j c.take.new.self c.in-Some.verdict (subst (StandsAfter lines) c.in-Judging.is h) said))

pub returns-in-None : goal.returns-in-None
returns-in-None c = λ lines h.
    (let j = c.in-Judging.judge in
    let said = subst (λ (o : Option Verdict). JudgesRow j c.args.line.now o c.take.new.self) c.in-None.is c.in_ok-verdict-in-Judging.ensures in
    judged_on lines c.args.line.now j c.take.new.self (subst (StandsAfter lines) c.in-Judging.is h) said)

pub returns-in-Over : goal.returns-in-Over
returns-in-Over c = λ lines h. rw c.in-Over.is (still_over lines c.args.line.now _ (subst (StandsAfter lines) c.in-Over.is h))
