-- texts on their way to a writer, piece by piece
use Rattle.std.proofs.Common.{◌≡◌, ℕ, ◌++◌, List, [], length, take, Option, refl, sym, ap, subst, ◌∙◌, append_assoc, length-append, arith}
use Rattle.tool_work.proofs.drawn_lemmas.Common.{Appends, HasPartOf}
use Rattle.std.proofs.lemmas.List.{append-nil}
use Rattle.std.proofs.Math.Seq.{take-append_seam}
use Rattle.std.proofs.KnownBytes.{Appends-nil}
use Rattle.text_lines.specs.UnderWay.{IsUnderWay, GoesFrom, GoesPast, StopsWithin}

module _ (this : List ℕ) (old : Option (List ℕ)) (held : List ℕ) (mid : Option (List ℕ)) (held' : List ℕ) where
  -- one piece more
  pub goes_on : (one that : List ℕ) (now : Option (List ℕ)) (last : List ℕ) → GoesFrom this old held (one ++ that) mid held' → GoesPast one mid held' now last → GoesFrom this old held that now last
  goes_on one that now last a b = λ text rest before way.
      b text (that ++ rest) before (subst (λ (l : List ℕ). IsUnderWay text before mid held' l) (append_assoc one that rest) (a text rest before way))

  -- it stops in the next piece
  pub stops : (one that : List ℕ) (now : Option (List ℕ)) → GoesFrom this old held (one ++ that) mid held' → StopsWithin one mid held' now → StopsWithin this old held now
  stops one that now a b = λ text rest before way.
      b text (that ++ rest) before (subst (λ (l : List ℕ). IsUnderWay text before mid held' l) (append_assoc one that rest) (a text rest before way))

-- at first all of a text is still to come
pub at_first : (text : List ℕ) (before : Option (List ℕ)) → IsUnderWay text before before [] text
at_first text before = record { written = []; gained = Appends-nil before; whole = refl }

-- where nothing is held and nothing is to come, all of it is written
pub at_last : (text : List ℕ) (before now : Option (List ℕ)) → IsUnderWay text before now [] [] → Appends before now text
at_last text before now way = subst (λ (l : List ℕ). Appends before now l) (sym (way.whole ∙ append-nil way.written)) way.gained

-- past the first half of a text its second half comes
pub second_half : (this that : List ℕ) (old mid : Option (List ℕ)) (held held' : List ℕ) → held ≡ [] → GoesPast this old held mid held' → IsUnderWay (this ++ that) old mid held' (that ++ [])
second_half this that old mid held held' none past =
    subst (λ (l : List ℕ). IsUnderWay (this ++ that) old mid held' l) (sym (append-nil that))
    (past (this ++ that) that old (subst (λ (l : List ℕ). IsUnderWay (this ++ that) old old l (this ++ that)) (sym none) (at_first (this ++ that) old)))

-- what is written of it is a prefix
pub part_written : (text : List ℕ) (before now : Option (List ℕ)) (held rest : List ℕ) → IsUnderWay text before now held rest → HasPartOf before now text
part_written text before now held rest way =
    let all = ap length way.whole in
    let front : take (length way.written) text ≡ way.written = ap (take (length way.written)) way.whole ∙ take-append_seam way.written (held ++ rest) in
    (length way.written, omega (arith, all, length-append way.written (held ++ rest)), subst (λ (l : List ℕ). Appends before now l) (sym front) way.gained)
