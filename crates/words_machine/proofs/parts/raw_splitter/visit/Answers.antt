use Rattle.std.proofs.Common.{arith, ap, ◌+◌, ◌∙◌, []}
use Rattle.words_machine.proofs.parts_lemmas.Common.{step, WroteX, SawClear, WroteY, fresh_visit, lone_view, visit_at, after_access}
use mathlib.Core.Option.{none}
use Rattle.words_machine.proofs.parts_lemmas.Accesses.{may_write_x, may_read_y, may_write_y, may_read_x, stands_after}
use Rattle.words_machine.proofs.parts_lemmas.Visiting.{goes_down, goes_right}
use Rattle.words_machine.proofs.parts.raw_splitter.visit.Goals as goal

pub store-requires : goal.store-requires
store-requires c =
    (c.requires.ours, omega (arith, c.requires.two), rw c.requires.fresh (may_write_x _ _ _ _ _ _ _ _ (step 0 0 0 0 none)))

pub load-requires : goal.load-requires
load-requires c =
    let wrote_x = stands_after _ c.store.ensures.2.0 c.store.ensures.2.1 (c.args.number + 1) (fresh_visit c.args.number) _ _ c.requires.fresh c.store.ensures.2.2 in
    (c.store.ensures.0 ∙ c.requires.ours, omega (arith, c.requires.two), rw wrote_x (may_read_y _ _ _ _ _ _ _ _ (step 0 0 0 0 none)))

pub store-requires-2 : goal.store-requires-2
store-requires-2 c =
    let wrote_x = stands_after _ c.store.ensures.2.0 c.store.ensures.2.1 (c.args.number + 1) (fresh_visit c.args.number) _ _ c.requires.fresh c.store.ensures.2.2 in
    let read_y = stands_after _ c.load.ensures.2.0 c.load.ensures.2.1 c.load.result (visit_at c.args.number WroteX 1 c.store.ensures.2.0 0) _ _ wrote_x c.load.ensures.2.2 in
    let saw_clear = read_y ∙ ap (λ found. (lone_view c.args.words.now.key (after_access c.load.ensures.2.0 c.load.ensures.2.1 found (visit_at c.args.number WroteX 1 c.store.ensures.2.0 0)), [])) c.if-load-ne0.false in
    (c.load.ensures.0 ∙ c.store.ensures.0 ∙ c.requires.ours, omega (arith, c.requires.two), rw saw_clear (may_write_y _ _ _ _ _ _ _ _ (step 0 0 0 0 none)))

pub load-requires-2 : goal.load-requires-2
load-requires-2 c =
    let wrote_x = stands_after _ c.store.ensures.2.0 c.store.ensures.2.1 (c.args.number + 1) (fresh_visit c.args.number) _ _ c.requires.fresh c.store.ensures.2.2 in
    let read_y = stands_after _ c.load.ensures.2.0 c.load.ensures.2.1 c.load.result (visit_at c.args.number WroteX 1 c.store.ensures.2.0 0) _ _ wrote_x c.load.ensures.2.2 in
    let saw_clear = read_y ∙ ap (λ found. (lone_view c.args.words.now.key (after_access c.load.ensures.2.0 c.load.ensures.2.1 found (visit_at c.args.number WroteX 1 c.store.ensures.2.0 0)), [])) c.if-load-ne0.false in
    let wrote_y = stands_after _ c.store-2.ensures.2.0 c.store-2.ensures.2.1 1 (visit_at c.args.number SawClear 2 c.store.ensures.2.0 0) _ _ saw_clear c.store-2.ensures.2.2 in
    (c.store-2.ensures.0 ∙ c.load.ensures.0 ∙ c.store.ensures.0 ∙ c.requires.ours, omega (arith, c.requires.two), rw wrote_y (may_read_x _ _ _ _ _ _ _ _ (step 0 0 0 0 none)))

pub returns-then-load-ne0-clause-ended : goal.returns-then-load-ne0-clause-ended
returns-then-load-ne0-clause-ended c =
    let wrote_x = stands_after _ c.store.ensures.2.0 c.store.ensures.2.1 (c.args.number + 1) (fresh_visit c.args.number) _ _ c.requires.fresh c.store.ensures.2.2 in
    let read_y = stands_after _ c.load.ensures.2.0 c.load.ensures.2.1 c.load.result (visit_at c.args.number WroteX 1 c.store.ensures.2.0 0) _ _ wrote_x c.load.ensures.2.2 in
    goes_right _ _ _ 0 _ _ _ c.if-load-ne0.true read_y c.load.ensures.2.3

pub returns-else-load-own-clause-ended : goal.returns-else-load-own-clause-ended
returns-else-load-own-clause-ended c =
    let wrote_x = stands_after _ c.store.ensures.2.0 c.store.ensures.2.1 (c.args.number + 1) (fresh_visit c.args.number) _ _ c.requires.fresh c.store.ensures.2.2 in
    let read_y = stands_after _ c.load.ensures.2.0 c.load.ensures.2.1 c.load.result (visit_at c.args.number WroteX 1 c.store.ensures.2.0 0) _ _ wrote_x c.load.ensures.2.2 in
    let saw_clear = read_y ∙ ap (λ found. (lone_view c.args.words.now.key (after_access c.load.ensures.2.0 c.load.ensures.2.1 found (visit_at c.args.number WroteX 1 c.store.ensures.2.0 0)), [])) c.if-load-ne0.false in
    let wrote_y = stands_after _ c.store-2.ensures.2.0 c.store-2.ensures.2.1 1 (visit_at c.args.number SawClear 2 c.store.ensures.2.0 0) _ _ saw_clear c.store-2.ensures.2.2 in
    let read_x = stands_after _ c.load-2.ensures.2.0 c.load-2.ensures.2.1 c.load-2.result (visit_at c.args.number WroteY 3 c.store.ensures.2.0 0) _ _ wrote_y c.load-2.ensures.2.2 in
    goes_down _ _ _ 0 0 _ _ c.if-load-own.false read_x c.load-2.ensures.2.3
