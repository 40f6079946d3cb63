use Rattle.std.proofs.Common.{inl, arith}
use Rattle.std.proofs.lemmas.Result.{IfOk-weaker, IfErr-weaker}
use Rattle.model_steps.proofs.cited.WorldMachineLemmas.{within}
use Rattle.model_splitter.proofs.cited.grid.GridTied.{grid_law_of, grid_opens}
use Rattle.model_splitter.proofs.grid.world.GridWorld.new.Goals as goal

pub returns-clause-fresh : goal.returns-clause-fresh
returns-clause-fresh g c = c.open.ensures.fresh

pub returns-clause-after : goal.returns-clause-after
returns-clause-after g c = grid_opens c.args.most c.open.result (let few = c.if-most-gt16.false in omega arith) c.open.ensures.fresh

pub returns-clause-law : goal.returns-clause-law
returns-clause-law g c = IfOk-weaker c.open.result _ _ (λ w is. grid_law_of w) c.open.ensures.fresh

pub returns-clause-range : goal.returns-clause-range
returns-clause-range g c = λ ok. (c.if-most-lt1.false, c.if-most-gt16.false)

pub returns-clause-out_of_range : goal.returns-clause-out_of_range
returns-clause-out_of_range g c = within 1 16 c.args.most c.open.result c.if-most-lt1.false c.if-most-gt16.false c.open.ensures.only

pub returns-clause-only : goal.returns-clause-only
returns-clause-only g c = IfErr-weaker c.open.result _ _ (λ why is. inl is) c.open.ensures.only
