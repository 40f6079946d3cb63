-- Each line adds the pool that it lists, or says nothing.
use Rattle.std.proofs.Common.{rules, ◌≡◌, ◌<◌, ◌++◌, ◌∷◌, [], ℕ, List, Bor, length, map, Ok, ap, sym, ◌∙◌, subst, lit<}
use Rattle.std.proofs.lemmas.Iterator.Consumers.{YieldsList-end}
use Rattle.std.proofs.lemmas.Iterator.Splits.{YieldsList-from_str_split}
use Rattle.std.proofs.lemmas.List.{map-append}
use Rattle.std.specs.Str.Iter.{split_has_more, split_pattern, split_text}
use Rattle.service_host.specs.PoolFile.{ListInOrder, saying}
use Rattle.service_host.proofs.PoolFileLemmas.{AreListedSoFar, listed_more, listed_silent, none_listed}
use Rattle.service_host.proofs.pool_file.pools_of.Goals as goal
use Rattle.service_host.proofs.pool_file.pools_of.Goals.{else-not-is_silent-via-then-not-is_silent+in_ok-add_line+else-not-branch, else-not-is_silent-via-else-not-is_silent}

pub loop-line-preserved : goal.loop-line-preserved
loop-line-preserved c =
    let now : Bor (List ℕ) → List ℕ = λ x. x.now in
    let lines = map now c.loop-line.yielded in
    let line = c.in-Some.line.now in
    let pools = c.else-not-is_silent.pools.items in
    let more : map now (c.loop-line.yielded ++ c.in-Some.line ∷ []) ≡ lines ++ line ∷ [] = map-append now c.loop-line.yielded (c.in-Some.line ∷ []) in
    let so_far : AreListedSoFar c.args.grace (lines ++ line ∷ []) pools = elim c.else-not-is_silent.branch [
      | else-not-is_silent-via-then-not-is_silent+in_ok-add_line+else-not-branch w ↦ (
          let added = w.add_line.ensures.added (w.in_ok-add_line.was ∙ ap Ok w.if-not-branch.false) in
          listed_more c.args.grace lines line c.loop-line.pools.items pools added.0 (sym c.is_silent.ensures ∙ w.if-not-is_silent.true) (ap (λ v. v.items) w.pools-is ∙ added.1) added.2 added.3 c.loop-line.invariant)
      | else-not-is_silent-via-else-not-is_silent w ↦
          listed_silent c.args.grace lines line c.loop-line.pools.items pools (sym c.is_silent.ensures ∙ w.if-not-is_silent.false) (ap (λ v. v.items) w.pools-is) c.loop-line.invariant
    ] in
    subst (λ (ls : List (List ℕ)). AreListedSoFar c.args.grace ls pools) (sym more) so_far

pub returns-then-is_empty-clause-none : goal.returns-then-is_empty-clause-none
returns-then-is_empty-clause-none c = λ failed.
    let gives = c.into_iter-line-iterator.ensures.into_iter_gives in
    let end = YieldsList-end (YieldsList-from_str_split {s = c.into_iter-line-iterator.result} 10 c.args.text.now (lit< tt) (ap split_text gives ∙ c.split-line-items.ensures.text) (ap split_has_more gives ∙ c.split-line-items.ensures.has_more)
    (ap split_pattern gives ∙ c.split-line-items.ensures.pattern)) c.loop-line.yielded _ c.loop-line.yielded_by _ _ c.in-None.is c.next.ensures.steps in
    let none : length c.loop-line.pools.items ≡ 0 = search rules in
    let lines = none_listed c.args.grace _ c.loop-line.pools.items c.loop-line.invariant.0 none in
    ap saying (sym end.0) ∙ lines

pub returns-clause-listed : goal.returns-clause-listed
returns-clause-listed c =
    let gives = c.into_iter-line-iterator.ensures.into_iter_gives in
    let end = YieldsList-end (YieldsList-from_str_split {s = c.into_iter-line-iterator.result} 10 c.args.text.now (lit< tt) (ap split_text gives ∙ c.split-line-items.ensures.text) (ap split_has_more gives ∙ c.split-line-items.ensures.has_more)
    (ap split_pattern gives ∙ c.split-line-items.ensures.pattern)) c.loop-line.yielded _ c.loop-line.yielded_by _ _ c.in-None.is c.next.ensures.steps in
    record {
      each = subst (λ (ls : List (List ℕ)). ListInOrder c.args.grace (saying ls) c.loop-line.pools.items) end.0 c.loop-line.invariant.0;
      none_twice = c.loop-line.invariant.1;
      some = let some : 0 < length c.loop-line.pools.items = search rules in some;
    }
