use Rattle.std.proofs.Common.{◌≡◌, Some, slice_get, sym, ap, ◌∙◌, arith}
use Rattle.service_lock.proofs.Common.{slice_get_within, KeptState}
use Rattle.service_lock.proofs.Keeping.{kept_none, kept_there}
use Rattle.service_lock.proofs.kept_log.KeptLog.get.Goals as goal

pub returns-in_err-exchange : goal.returns-in_err-exchange
returns-in_err-exchange c =
    let i = c.self.inside in
    c.from_residual.ensures ∙ sym (kept_none i.places.items i.log.items c.args.at (sym c.in_err-exchange.ensures)) ∙ ap (λ (k : KeptState). slice_get k.items c.args.at) c.self.view_is

pub index-requires : goal.index-requires
index-requires c =
    let i = c.self.inside in
    let at : slice_get i.log.items c.args.at ≡ Some c.in_ok-exchange.exchange = sym c.in_ok-exchange.ensures in
    omega (arith, slice_get_within i.log.items c.args.at c.in_ok-exchange.exchange at, c.self.invariant, i.places.ok.0)

pub returns : goal.returns
returns c =
    let i = c.self.inside in
    let at : slice_get i.log.items c.args.at ≡ Some c.in_ok-exchange.exchange = sym c.in_ok-exchange.ensures in
    sym (kept_there i.places.items i.log.items c.args.at c.index.result.now c.in_ok-exchange.exchange c.self.invariant.0 c.index.ensures at) ∙ ap (λ (k : KeptState). slice_get k.items c.args.at) c.self.view_is
