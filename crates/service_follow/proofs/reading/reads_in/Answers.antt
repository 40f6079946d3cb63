-- The reads are those that were noted, one line after another.
use Rattle.std.proofs.Common.{◌∙◌, map, sym}
use Rattle.service_follow.specs.Readings.{requested}
use Rattle.service_follow.proofs.Readings.{found_reads, noted_lines, on_ok_is}
use Rattle.service_follow.proofs.reading.reads_in.Goals as goal

pub returns-clause-reads : goal.returns-clause-reads
returns-clause-reads c = found_reads (λ a. map requested a.items) c.reads.result c.play.new.service c.args.kind c.args.lines.now c.reads.ensures.well c.reads.ensures.reads
    (noted_lines c.args.kind c.args.lines.now c.in-Ok.responder c.play.new.responder c.new-asking.result c.play.new.service c.new-asking.ensures c.in-Ok.ensures c.play.ensures)

pub returns-clause-none : goal.returns-clause-none
returns-clause-none c = λ is.
    let well = on_ok_is c.reads.result _ _ c.reads.ensures.well is in
    let n = noted_lines c.args.kind c.args.lines.now c.in-Ok.responder c.play.new.responder c.new-asking.result c.play.new.service c.new-asking.ensures c.in-Ok.ensures c.play.ensures well in
    sym n.0 ∙ c.reads.ensures.none is
