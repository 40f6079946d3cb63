-- what is reported of replies is written as they are
use Rattle.std.proofs.Common.{◌≡◌, ℕ, Bool, List, ◌++◌, Result, Ok, Err, OnOk, refl, sym, ap, ◌∙◌}
use Rattle.text_records.proofs.Common.{ShownReply, reply_words, Reported, reported_of}
use Rattle.model_asked.specs.declared.reply.Reply.TheVariants as reply
use Rattle.text_records.specs.ReportedWords.{reported_words}

pub same_words : (shows : Bool) (r : ShownReply) → reply_words r ≡ reported_words (reported_of shows r)
same_words shows reply.Ok = refl
same_words shows r = refl

pub spelled : {E : Type 0} (x : Result (Unit {0}) E) (t : Reported) (old new : List ℕ) → OnOk x (new ≡ old ++ reported_words t) → OnOk x ((shows : Bool) (r : ShownReply) → reported_of shows r ≡ t → new ≡ old ++ reply_words r)
spelled (Ok done) t old new h = λ shows r is. h ∙ ap (λ (l : List ℕ). old ++ l) (sym (same_words shows r ∙ ap reported_words is))
spelled (Err e) t old new h = tt
