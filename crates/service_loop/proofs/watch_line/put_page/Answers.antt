use Rattle.std.proofs.Common.{append_assoc, sym, arith}
use Rattle.service_loop.proofs.watch_line.put_page.Goals as goal

pub overflow_add-point : goal.overflow_add-point
overflow_add-point g c = grind (arith, c.min-count.ensures, c.in-Some.ensures.within)

pub overflow_add-get : goal.overflow_add-get
overflow_add-get g c = grind (arith, c.min-count.ensures, c.in-Some.ensures.within, c.get.ensures.most)

pub returns-clause-text : goal.returns-clause-text
returns-clause-text g c =
    rw (c.put_point.ensures.text, c.put_lines.ensures.text, c.get.ensures.point, c.min-count.ensures, sym c.in-Some.ensures.changes) (simp append_assoc)
