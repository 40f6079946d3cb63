-- Its words are cut off one after another.
use Rattle.std.proofs.Common.{Some, refl, sym, ◌∙◌, subst, List, ℕ}
use Rattle.std.specs.Str.Iter.{split_ascii_whitespace_text}
use Rattle.service_host.proofs.PoolFileLemmas.{IsCut, lists_by_words, word_cut}
use Rattle.service_host.proofs.pool_file.pool_of_line.Goals as goal

pub returns : goal.returns
returns c =
    let t1 = split_ascii_whitespace_text c.next.new.self in
    let t2 = split_ascii_whitespace_text c.next-2.new.self in
    let t3 = split_ascii_whitespace_text c.next-3.new.self in
    let t4 = split_ascii_whitespace_text c.next-4.new.self in
    let first = subst (λ (line : List ℕ). IsCut line (Some c.in_ok-name.name) t1) c.split_ascii_whitespace-words.ensures.text
    (word_cut (split_ascii_whitespace_text c.split_ascii_whitespace-words.result) (Some c.in_ok-name.name) t1 c.in_ok-name.ensures.steps) in
    lists_by_words c.args.grace c.args.line.now t1 t2 t3 t4 c.in_ok-name.name c.in_ok-next.field-0 c.next-3.result c.next-4.result _
    first (word_cut t1 (Some c.in_ok-next.field-0) t2 c.in_ok-next.ensures.steps) (word_cut t2 c.next-3.result t3 c.next-3.ensures.steps) (word_cut t3 c.next-4.result t4 c.next-4.ensures.steps)
    (sym c.is_some.ensures ∙ c.if-is_some.false) refl c.in_ok-size.ensures.some c.in_ok-grace.ensures
