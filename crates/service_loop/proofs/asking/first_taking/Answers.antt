use Rattle.std.proofs.Common.{rules}
use Rattle.service_loop.specs.Asking.{taking_of}
use Rattle.service_loop.proofs.WaitingLemmas.{first_none, first_other, first_some}
use Rattle.service_loop.proofs.asking.first_taking.Goals as goal

pub returns-in_err-end-clause-exact : goal.returns-in_err-end-clause-exact
returns-in_err-end-clause-exact c = first_none taking_of c.args.bytes.now c.from_residual.result (search rules) c.in_err-end.ensures

pub returns-in_err-identity-clause-exact : goal.returns-in_err-identity-clause-exact
returns-in_err-identity-clause-exact c =
    first_other taking_of c.args.bytes.now c.from_residual-in_err-identity.result (search rules) c.in_ok-end.end c.in_ok-end.ensures c.in_err-identity.ensures

pub returns-clause-exact : goal.returns-clause-exact
returns-clause-exact c = first_some taking_of c.args.bytes.now c.in_ok-end.end c.in_ok-identity.identity c.in_ok-end.ensures c.in_ok-identity.ensures
