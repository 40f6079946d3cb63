use Rattle.std.proofs.Common.{Some, sym, ap, ◌∙◌}
use Rattle.tests_tool.proofs.recording_tests.checked_record.Goals as goal

pub returns : goal.returns
returns c = λ few.
    let is = c.deref.ensures.value ∙ ap (λ v. v.items) c.into_inner-bytes.ensures in
    c.law_of_recording.ensures.yes c.args.config c.new-reader.result c.record.new.reader c.new-writer.result c.record.new.writer c.args.input.now c.deref.result.now (record {
      names = c.requires;
      ended = c.in_ok-record.ensures;
      has = ap (λ s. Some s.now) c.new-reader.ensures.0;
      few = few;
      none = ap (λ v. Some v.items) c.new-writer.ensures.0 ∙ ap Some c.new.ensures.items;
      now = ap Some (sym is);
    }) c.check.result c.check.ensures
