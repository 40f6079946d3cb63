use Rattle.std.proofs.Common.{◌≡◌, ℕ, ◌+◌, ◌<◌, ◌^◌, ◌++◌, ◌∷◌, [], List, take, length, refl, sym, ap, ◌∙◌, subst, arith, Option}
use Rattle.text_checker.proofs.Common.{pool_start, Line, Reason, terms_of, HasTaken, IsFaultAfter, TakesOn}
use Rattle.std.proofs.lemmas.List.{take_more, take_all, length-take-le}
use Rattle.text_checker.proofs.Runs.{follows_run, first_at, not_run}
use Rattle.text_checker.proofs.lines.first_fault.Goals as goal

pub loop-i-init : goal.loop-i-init
loop-i-init c = c.in_ok-checker.ensures

few_taken : (lines : List Line) (i : ℕ) → i < length lines → length lines < 1000001 → length (take i lines) < 2 ^ 62
few_taken lines i l few = let e = length-take-le i lines (omega arith) in omega arith

pub returns-in-Some : goal.returns-in-Some
returns-in-Some c =
    let few = c.requires in
    let terms = terms_of c.args.config in
    let start = pool_start c.args.config in
    let lines = c.args.lines.now in
    let on = c.in_ok-reason.ensures terms start (take c.loop-i.i lines) c.loop-i.invariant (few_taken lines c.loop-i.i c.loop-i-test.true (omega arith)) in
    let fault : IsFaultAfter terms start (take c.loop-i.i lines) c.index-lines-i.result c.in-Some.reason =
    subst (λ (o : Option Reason). TakesOn terms start (take c.loop-i.i lines) c.index-lines-i.result o c.judge.new.self) c.in-Some.is on in
    record {
      fault = first_at terms start lines c.loop-i.i c.index-lines-i.result c.in-Some.reason c.loop-i-test.true c.index-lines-i.is fault;
      none = ((λ e. absurd (cc)), (λ r. absurd (not_run terms start lines c.loop-i.i c.index-lines-i.result c.in-Some.reason c.loop-i-test.true c.index-lines-i.is fault r)));
    }

pub loop-i-preserved : goal.loop-i-preserved
loop-i-preserved c =
    let few = c.requires in
    let on = c.in_ok-reason.ensures (terms_of c.args.config) (pool_start c.args.config) (take c.loop-i.i c.args.lines.now) c.loop-i.invariant (few_taken c.args.lines.now c.loop-i.i c.loop-i-test.true (omega arith)) in
    let taken : HasTaken (terms_of c.args.config) (pool_start c.args.config) (take c.loop-i.i c.args.lines.now ++ c.index-lines-i.result ∷ []) c.judge.new.self =
    subst (λ (o : Option Reason). TakesOn (terms_of c.args.config) (pool_start c.args.config) (take c.loop-i.i c.args.lines.now) c.index-lines-i.result o c.judge.new.self) c.in_default.is on in
    let more : take (c.loop-i.i + 1) c.args.lines.now ≡ take c.loop-i.i c.args.lines.now ++ c.index-lines-i.result ∷ [] =
    take_more c.args.lines.now c.loop-i.i c.index-lines-i.result c.loop-i-test.true ∙ ap (λ (x : Line). take c.loop-i.i c.args.lines.now ++ x ∷ []) (sym c.index-lines-i.is) in
    rw more taken

pub returns : goal.returns
returns c =
    let all : take c.loop-i.i c.args.lines.now ≡ c.args.lines.now = take_all c.loop-i.i c.args.lines.now (let e = c.loop-i-test.false in omega arith) in
    let run = follows_run (terms_of c.args.config) (pool_start c.args.config) c.args.lines.now c.loop-i.invariant.object (rw all at c.loop-i.invariant.run) in
    record { fault = run; none = ((λ e. run), (λ r. refl)) }
