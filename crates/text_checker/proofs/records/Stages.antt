-- records that are judged as their bytes come
use Rattle.std.proofs.Common.{◌≡◌, ◌==◌, ℕ, map, ◌+◌, true, false, cond, List, [], ◌∷◌, ◌++◌, length, Some, None, inl, refl, sym, ap, ◌∙◌, subst, append_assoc, arith}
use Rattle.text_checker.proofs.Common.{append-nil, Header, Line, Judge, Verdict, Yes, RowsSoFar, TakesRow, IsSaid}
use Rattle.text_lines.specs.Lines.{pieces_from, unless_empty}
use Rattle.std.proofs.lemmas.List.{map-append}
use Rattle.text_records.specs.RecordLine.{IsHeaderLine}
use Rattle.text_records.specs.Seals.{opened_line}
use Rattle.text_records.specs.Records.{lines_from, lines_of, record_lines}
use Rattle.text_checker.specs.declared.judge.JudgeStage.{JudgeStage}
use Rattle.text_checker.specs.declared.judge.JudgeStage.TheVariants.{Over}
use Rattle.text_checker.specs.declared.row_judge.RowJudge.{RowJudge}
use Rattle.text_checker.specs.Stages.{HasJudged, HasOpened, HasTakenAll, HasTakenBut, JudgesRow, StandsAfter}
use Rattle.text_checker.proofs.records.Rows.{all_rows, next_row}

-- ---- bytes that come one after the other are cut into the same pieces

-- more bytes go on the last piece, and what was held stands before the first
abbrev gone_on : List ℕ → List (List ℕ) → List ℕ → List (List ℕ)
gone_on p [] more = pieces_from 10 p more
gone_on p (q ∷ qs) more = p ∷ gone_on q qs more

abbrev joined : List ℕ → List (List ℕ) → List ℕ → List (List ℕ)
joined held [] more = []
joined held (p ∷ ps) more = gone_on (held ++ p) ps more

joined_next : (p q bs more : List ℕ) → gone_on p (pieces_from 10 q bs) more ≡ p ∷ joined [] (pieces_from 10 q bs) more
joined_next p q [] more = refl
joined_next p q (b ∷ bs) more = elim (b == 10) as (λ w. gone_on p (cond w (q ∷ pieces_from 10 [] bs) (pieces_from 10 (q ++ b ∷ []) bs)) more ≡ p ∷ joined [] (cond w (q ∷ pieces_from 10 [] bs) (pieces_from 10 (q ++ b ∷ []) bs)) more) [
  | true ↦ refl
  | false ↦ joined_next p (q ++ b ∷ []) bs more
]

pieces_join : (held p bs more : List ℕ) → pieces_from 10 (held ++ p) (bs ++ more) ≡ joined held (pieces_from 10 p bs) more
pieces_join held p [] more = refl
pieces_join held p (b ∷ bs) more = elim (b == 10) as (λ w. cond w ((held ++ p) ∷ pieces_from 10 [] (bs ++ more)) (pieces_from 10 ((held ++ p) ++ b ∷ []) (bs ++ more)) ≡ joined held (cond w (p ∷ pieces_from 10 [] bs) (pieces_from 10 (p ++ b ∷ []) bs)) more) [
  | true ↦ ap (λ (l : List (List ℕ)). (held ++ p) ∷ l) (pieces_join [] [] bs more) ∙ sym (joined_next (held ++ p) [] bs more)
  | false ↦ ap (λ l. pieces_from 10 l (bs ++ more)) (append_assoc held p (b ∷ [])) ∙ pieces_join held (p ++ b ∷ []) bs more
]

cut_so : (held bs more : List ℕ) (ps : List (List ℕ)) → pieces_from 10 [] bs ≡ ps → pieces_from 10 held (bs ++ more) ≡ joined held ps more
cut_so held bs more ps e = ap (λ l. pieces_from 10 l (bs ++ more)) (sym (append-nil held)) ∙ pieces_join held [] bs more ∙ ap (λ qs. joined held qs more) e

lines_last : (whole : List (List ℕ)) (held : List ℕ) → lines_of (whole ++ held ∷ []) ≡ whole ++ unless_empty held
lines_last [] held = refl
lines_last (l ∷ ls) held = from l ls
  where
    from : (p : List ℕ) (rest : List (List ℕ)) → lines_from p (rest ++ held ∷ []) ≡ p ∷ (rest ++ unless_empty held)
    from p [] = refl
    from p (q ∷ rest) = ap (λ (k : List (List ℕ)). p ∷ k) (from q rest)

-- ---- what is taken

-- a line ended in them
pub line_ended : (seen bytes line rest : List ℕ) (old new : Judge) → HasTakenBut bytes seen old → pieces_from 10 [] bytes ≡ line ∷ pieces_from 10 [] rest → new.held.items ≡ [] →
    ((lines : List (List ℕ)) → StandsAfter lines old.stage → StandsAfter (lines ++ opened_line (old.held.items ++ line) ∷ []) new.stage) → HasTakenBut rest seen new
line_ended seen bytes line rest old new h e none stands = record {
  whole = h.whole ++ (old.held.items ++ line) ∷ [];
  cut = λ more.
      (let whole = old.held.items ++ line in
      let next = ap (λ (l : List (List ℕ)). whole ∷ l) (sym (pieces_join [] [] rest more)) in
      let parts = cut_so old.held.items bytes more (line ∷ pieces_from 10 [] rest) e ∙ joined_next whole [] rest more ∙ next in
      h.cut more ∙ ap (λ (l : List (List ℕ)). h.whole ++ l) parts ∙ sym (append_assoc h.whole ((old.held.items ++ line) ∷ []) (pieces_from 10 [] (rest ++ more)))
      ∙ ap (λ (l : List ℕ). (h.whole ++ (old.held.items ++ line) ∷ []) ++ pieces_from 10 l (rest ++ more)) (sym none));
  stands = subst (λ (ls : List (List ℕ)). StandsAfter ls new.stage) (sym (map-append opened_line h.whole ((old.held.items ++ line) ∷ []))) (stands (map opened_line h.whole) h.stands);
}

-- no line ended in them
pub line_held : (seen bytes line : List ℕ) (old new : Judge) → HasTakenBut bytes seen old → pieces_from 10 [] bytes ≡ line ∷ [] → new.held.items ≡ old.held.items ++ line → new.stage ≡ old.stage → HasTakenBut [] seen new
line_held seen bytes line old new h e longer same = record {
  whole = h.whole;
  cut = λ more. h.cut more ∙ ap (λ (l : List (List ℕ)). h.whole ++ l) (cut_so old.held.items bytes more (line ∷ []) e ∙ ap (λ l. pieces_from 10 l more) (sym longer));
  stands = subst (StandsAfter (map opened_line h.whole)) (sym same) h.stands;
}

-- the lines of all that was taken
pub lines_taken : (seen : List ℕ) (j : Judge) → (h : HasTakenAll seen j) → record_lines seen ≡ map opened_line h.whole ++ map opened_line (unless_empty j.held.items)
lines_taken seen j h =
    ap record_lines (sym (append-nil seen)) ∙ ap (λ (pieces : List (List ℕ)). map opened_line (lines_of pieces)) (h.cut []) ∙ ap (map opened_line) (lines_last h.whole j.held.items)
    ∙ map-append opened_line h.whole (unless_empty j.held.items)

-- ---- how it stands after a line

pub judged_over : (lines : List (List ℕ)) (row : List ℕ) (old new : RowJudge) (v : Verdict) → HasOpened old lines → JudgesRow old row (Some v) new → StandsAfter (lines ++ row ∷ []) (Over v)
judged_over lines row old new v o j = λ more. inl (record {
  head = o.head;
  rows = o.rows ++ row ∷ more;
  is = append_assoc lines (row ∷ []) more ∙ ap (λ (l : List (List ℕ)). l ++ row ∷ more) o.is;
  header = old.header;
  says = o.says;
  said = j o.rows o.judged more;
})

pub judged_on : (lines : List (List ℕ)) (row : List ℕ) (old new : RowJudge) → HasOpened old lines → JudgesRow old row None new → HasOpened new (lines ++ row ∷ [])
judged_on lines row old new o j = record {
  head = o.head;
  rows = o.rows ++ row ∷ [];
  is = ap (λ (l : List (List ℕ)). l ++ row ∷ []) o.is;
  says = subst (IsHeaderLine o.head) (sym j.0) o.says;
  judged = j.1 o.rows o.judged;
}

pub still_over : (lines : List (List ℕ)) (row : List ℕ) (v : Verdict) → StandsAfter lines (Over v) → StandsAfter (lines ++ row ∷ []) (Over v)
still_over lines row v said = λ more. subst (λ (l : List (List ℕ)). IsSaid l v) (sym (append_assoc lines (row ∷ []) more)) (said (row ∷ more))

-- ---- what is said at the end

pub all_said : (lines : List (List ℕ)) (j : RowJudge) → HasOpened j lines → IsSaid lines Yes
all_said lines j o =
    let all : o.rows ++ [] ≡ o.rows = append-nil o.rows in
    inl (record {
      head = o.head;
      rows = o.rows ++ [];
      is = o.is ∙ ap (λ (l : List (List ℕ)). o.head ∷ l) (sym all);
      header = j.header;
      says = o.says;
      said = all_rows (o.judged []);
    })

pub over_said : (lines : List (List ℕ)) (v : Verdict) → StandsAfter lines (Over v) → IsSaid lines v
over_said lines v s = subst (λ (l : List (List ℕ)). IsSaid l v) (append-nil lines) (s [])

-- ---- rows

-- one more row is taken
pub one_more_row : (old new : RowJudge) (row : List ℕ) {l : Line} → TakesRow old.header old.number row old.checker new.checker l → new.header ≡ old.header → new.number ≡ old.number + 1 →
    (rows : List (List ℕ)) → HasJudged old rows → HasJudged new (rows ++ row ∷ [])
one_more_row old new row t same at rows so_far = λ left.
    (let next : RowsSoFar old.header (rows ++ row ∷ left) left new.checker (old.number + 1) = next_row (so_far (row ∷ left)) t in
    subst (λ (n : ℕ). RowsSoFar new.header ((rows ++ row ∷ []) ++ left) left new.checker n) (sym at)
    (subst (λ (h : Header). RowsSoFar h ((rows ++ row ∷ []) ++ left) left new.checker (old.number + 1)) (sym same)
    (subst (λ (k : List (List ℕ)). RowsSoFar old.header k left new.checker (old.number + 1)) (sym (append_assoc rows (row ∷ []) left)) next)))

-- what stands before the end with no LF is the last line
pub a_last_line : (lines : List (List ℕ)) (held : List ℕ) (s : JudgeStage) → (held ≡ [] → ⊥) → StandsAfter (lines ++ opened_line held ∷ []) s → StandsAfter (lines ++ map opened_line (unless_empty held)) s
a_last_line lines [] s some h = absurd (some refl)
a_last_line lines (b ∷ bs) s some h = h

pub none_held : (held : List ℕ) → length held ≡ 0 → held ≡ []
none_held [] e = refl
none_held (b ∷ bs) e = absurd (omega (arith, e))
