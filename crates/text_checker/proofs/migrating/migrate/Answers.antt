use Rattle.std.proofs.Common.{ℕ, List, Result, subst, MatchResult}
use Rattle.text_checker.proofs.Common.{Appends, Verdict, record_lines, IsSaid}
use Rattle.text_checker.specs.Migrated.{IsMigratedTo, IsOther}
use Rattle.text_checker.proofs.migrating.migrate.Goals as goal

pub returns-in_ok-put_all-in-Ok-Ok : goal.returns-in_ok-put_all-in-Ok-Ok
returns-in_ok-put_all-in-Ok-Ok g c =
    let bytes = c.args.bytes.now in (
      c.in_ok-put_all-in-Ok-Ok.ensures.unfailed,
      (
        c.in-Ok-Ok.text,
        subst (λ (r : Result (List ℕ) Verdict). MatchResult r (IsMigratedTo bytes) (IsOther (IsSaid (record_lines bytes)))) c.in-Ok-Ok.field-0-is c.in-Ok-Ok.ensures,
        subst (λ (text : List ℕ). Appends (g.W.Write.contents c.args.writer.now) (g.W.Write.contents c.put_all.new.writer) text) c.as_slice.ensures c.in_ok-put_all-in-Ok-Ok.ensures.ok,
      ),
    )
