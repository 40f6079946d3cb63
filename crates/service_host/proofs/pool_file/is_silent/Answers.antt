-- Its first word is looked at.
use Rattle.std.proofs.Common.{◌==◌, ℕ, List, None, Some, get_or, ap, sym, ◌∙◌}
use Rattle.std.specs.Str.Iter.{split_ascii_whitespace_text}
use Rattle.service_host.specs.PoolFile.{says_nothing, words_in}
use Rattle.service_host.proofs.PoolFileLemmas.{word_cut}
use Rattle.service_host.proofs.pool_file.is_silent.Goals as goal

pub returns-in-None : goal.returns-in-None
returns-in-None c =
    let cut = word_cut (split_ascii_whitespace_text c.split_ascii_whitespace.result) None (split_ascii_whitespace_text c.next.new.self) c.in-None.ensures.steps in
    ap says_nothing (sym (ap words_in (sym c.split_ascii_whitespace.ensures.text) ∙ cut.0))

pub returns-in-Some : goal.returns-in-Some
returns-in-Some c =
    let cut = word_cut (split_ascii_whitespace_text c.split_ascii_whitespace.result) (Some c.in-Some.word) (split_ascii_whitespace_text c.next.new.self) c.in-Some.ensures.steps in
    ap (λ (w : List ℕ). get_or w 0 0 == 35) c.as_bytes.ensures.value ∙ ap says_nothing (sym (ap words_in (sym c.split_ascii_whitespace.ensures.text) ∙ cut.0))
