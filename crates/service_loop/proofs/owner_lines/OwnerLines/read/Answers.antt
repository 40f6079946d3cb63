use Rattle.std.proofs.Common.{◌≤◌, ◌++◌, length, take, ◌∙◌, ap, arith, sym}
use Rattle.service_loop.proofs.OwnerLemmas.{given_first}
use Rattle.service_loop.proofs.owner_lines.OwnerLines.read.Goals as goal

pub returns-in_default-came-clause-owned : goal.returns-in_default-came-clause-owned
returns-in_default-came-clause-owned g c =
    let ready = c.fill.new.self.ready in
    let few : c.give.result ≤ length ready = omega (arith, c.give.ensures.count) in (
      c.fill.new.self,
      c.in-Ok.ensures.lines,
      given_first c.give.result ready c.args.buf.now c.give.new.buf few c.give.ensures.bytes
          ∙ ap (λ s. take c.give.result c.give.new.buf ++ s.ready) (sym c.give.ensures.rest),
      ap (λ s. s.begun) c.give.ensures.rest,
    )
