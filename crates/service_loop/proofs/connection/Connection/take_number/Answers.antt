use Rattle.std.proofs.Common.{inl, [], refl}
use Rattle.service_loop.proofs.connection.Connection.take_number.Goals as goal

pub returns-then-not-may_take-clause-takes : goal.returns-then-not-may_take-clause-takes
returns-then-not-may_take-clause-takes g c = ([], refl, inl (refl, refl))

pub returns-in_default-clause-takes : goal.returns-in_default-clause-takes
returns-in_default-clause-takes g c = ([], refl, inl (refl, refl))
