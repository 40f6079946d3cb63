use Rattle.std.proofs.Common.{◌∙◌, inl, inr, sym}
use Rattle.service_loop.proofs.AttendedLemmas.{hears_inside, hears_none}
use Rattle.service_loop.proofs.RoundLemmas.{ok_then}
use Rattle.service_loop.proofs.releasing.end_these.Goals as goal

pub returns : goal.returns
returns g c =
    let freed = c.release_all.new.service in
    ok_then c.persist.result _ _ (λ kept. inr (sym c.shares_stays.ensures ∙ c.if-shares_stays.false, inr (record { reported = freed; released = c.release_all.ensures; kept = kept; same = hears_inside freed freed c.persist.new.service (hears_none freed) }))) c.persist.ensures

pub returns-then-shares_stays : goal.returns-then-shares_stays
returns-then-shares_stays g c =
    let kept = c.args.service.now in
    inl (
      sym c.shares_stays.ensures ∙ c.if-shares_stays.true,
      record {
        reached = record kept { service = c.end_stays.new.service };
        waited = c.in_ok-end_stays.ensures;
        same = hears_inside kept kept c.end_stays.new.service (hears_none kept);
        forgot = c.forget_ended.ensures;
      },
    )
