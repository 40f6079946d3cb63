use Rattle.std.proofs.Common.{[], sym}
use Rattle.text_lines.proofs.WordLemmas.{no_word-pieces}
use Rattle.text_lines.proofs.parse.no_more.Goals as goal

pub returns-in-Some : goal.returns-in-Some
returns-in-Some c = rw c.in-Some.is (sym (no_word-pieces [] c.in-Some.field-0.now))
