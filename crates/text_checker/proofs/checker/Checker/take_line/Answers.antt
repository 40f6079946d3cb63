use Rattle.std.proofs.Common.{◌≡◌, ◌∙◌, Bool, true, ◌&&◌, sym, ap}
use Rattle.text_records.specs.Reported.{is_step}
use Rattle.text_checker.specs.Reasons.{refusal_due, is_refused_as_due}
use Rattle.text_checker.proofs.checker.Checker.take_line.Goals as goal

pub returns : goal.returns
returns c = λ terms o h few.
    let lacks : c.may_lack.result ≡ (terms.grows && is_step c.args.line.now.event) = c.may_lack.ensures ∙ ap (λ (b : Bool). b && is_step c.args.line.now.event) h.grows_is in
    let due : c.refusal_due-due.result ≡ refusal_due terms o c.args.line.now.event = c.refusal_due-due.ensures terms o h in
    let reported : is_refused_as_due c.refusal_due-due.result c.may_lack.result c.args.line.now.reported ≡ true = sym c.is_refused_as_due.ensures ∙ c.if-not-is_refused_as_due.false in
    c.follow.ensures terms o h (record {
      reply = sym c.is_reply_of.ensures ∙ c.if-not-is_reply_of.false;
      refusal = sym (λ i. is_refused_as_due (due i) (lacks i) c.args.line.now.reported) ∙ reported;
    }) few
