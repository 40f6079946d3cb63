use Rattle.std.proofs.Common.{◌≡◌, ◌++◌, ℕ, List, codes, ap, ◌∙◌, append_assoc}
use Rattle.std.proofs.lemmas.Result.{on_ok_weaker}
use Rattle.text_records.proofs.Common.{event_words, reply_words, Line, reported_of}
use Rattle.text_player.specs.Records.{name_view}
use Rattle.text_records.proofs.compact.put_line.Goals as goal

grouped : (out a e b r q v z : List ℕ) → ((((((out ++ a) ++ e) ++ b) ++ r) ++ q) ++ v) ++ z ≡ out ++ ((((((a ++ e) ++ b) ++ r) ++ q) ++ v) ++ z)
grouped out a e b r q v z = simp append_assoc

pub returns : goal.returns
returns c = on_ok_weaker c.put-4.result (λ last x w s.
    let event = ap (λ (l : Line). l.event) w.spelled in
    let reported : reported_of w.shows x.reply ≡ c.args.line.now.reported = ap (λ (l : Line). l.reported) w.spelled in
    last
    ∙ rw (c.in_ok-put_named_by.ensures w.shows x.reply reported s, c.in_ok-put-3.ensures, c.in_ok-put_reported.ensures.spelled w.shows x.reply reported, c.in_ok-put-2.ensures, c.in_ok-put_event.ensures, c.in_ok-put.ensures, event)
    (grouped c.args.out.now (codes "{\"command\":\"") (event_words c.args.line.now.event) (codes "\",\"reply\":\"") (reply_words x.reply) (codes "\"") (name_view x.reply) (codes "}\n"))) c.put-4.ensures
