-- texts on their way to a writer
use Rattle.std.proofs.Common.{◌≡◌, ℕ, ◌++◌, List, [], length, take, Option, refl, sym, ap, subst, ◌∙◌, append_assoc, length-append, arith, ◌+◌}
use Rattle.text_lines.proofs.Common.{take-append-le, take-append-add, Appends, HasPartOf}
use Rattle.text_lines.specs.UnderWay.{IsUnderWay}
use Rattle.text_lines.specs.lemmas.WrittenProofs.{appends_more}

module _ (text : List ℕ) (before : Option (List ℕ)) where
  -- what was held is written
  pub sent_all : (old now : Option (List ℕ)) (held rest held' : List ℕ) → IsUnderWay text before old held rest → Appends old now held → held' ≡ [] → IsUnderWay text before now held' rest
  sent_all old now held rest held' way sent is = record {
    written = way.written ++ held;
    gained = appends_more before old now way.written held (way.written ++ held) way.gained sent refl;
    whole = way.whole ∙ sym (append_assoc way.written held rest) ∙ ap (λ l. (way.written ++ held) ++ (l ++ rest)) (sym is);
  }

  -- a part of what was held is written: a prefix of the text
  pub sent_part : (old now : Option (List ℕ)) (held rest : List ℕ) → IsUnderWay text before old held rest → HasPartOf old now held → HasPartOf before now text
  sent_part old now held rest way part =
      let front : List ℕ = way.written ++ take part.0 held in
      let all : text ≡ way.written ++ (held ++ rest) = way.whole in
      let cut : take (length way.written + part.0) text ≡ front =
      ap (take (length way.written + part.0)) all ∙ take-append-add way.written (held ++ rest) part.0 ∙ ap (λ l. way.written ++ l) (take-append-le part.0 held rest part.1) in (
        length way.written + part.0,
        omega (arith, part.1, ap length all, length-append way.written (held ++ rest), length-append held rest),
        subst (λ (l : List ℕ). Appends before now l) (sym cut) (appends_more before old now way.written (take part.0 held) front way.gained part.2 refl),
      )
