use Rattle.std.proofs.Common.{rules}
use Rattle.service_loop.specs.Queries.{query_of}
use Rattle.service_loop.proofs.WaitingLemmas.{first_none, first_other, first_some}
use Rattle.service_loop.proofs.asking.first_query.Goals as goal

pub returns-in_err-end-clause-exact : goal.returns-in_err-end-clause-exact
returns-in_err-end-clause-exact c = first_none query_of c.args.bytes.now c.from_residual.result (search rules) c.in_err-end.ensures

pub returns-in_err-query-clause-exact : goal.returns-in_err-query-clause-exact
returns-in_err-query-clause-exact c =
    first_other query_of c.args.bytes.now c.from_residual-in_err-query.result (search rules) c.in_ok-end.end c.in_ok-end.ensures c.in_err-query.ensures

pub returns-clause-exact : goal.returns-clause-exact
returns-clause-exact c = first_some query_of c.args.bytes.now c.in_ok-end.end c.in_ok-query.query c.in_ok-end.ensures c.in_ok-query.ensures
