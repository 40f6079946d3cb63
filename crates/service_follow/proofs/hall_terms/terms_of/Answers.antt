-- What stands behind the first line is a part of the entry.
use Rattle.std.proofs.Common.{◌≤◌, length, subst, sym}
use Rattle.service_follow.proofs.TermsRead.{behind_short}
use Rattle.service_follow.proofs.hall_terms.terms_of.Goals as goal

pub overflow_sub-long : goal.overflow_sub-long
overflow_sub-long c = subst (λ l. length l ≤ length c.args.entry.now) (sym c.behind_first_line.ensures) (behind_short c.args.entry.now)
