-- the lines of a record, with what is gathered of them
use Rattle.std.proofs.Common.{Bor, MatchOption, ◌≡◌, ℕ, ◌+◌, List, [], ◌∷◌, Option, Some, ap, ◌∙◌, subst}
use Rattle.text_checker.proofs.Common.{option_copied, Config, Header, Line, record_lines, lines_left, Checker, Gathers, AreGathered, HasHeader, LacksHeader, RowsSoFar, TakesRow}
use Rattle.text_checker.proofs.records.Rows.{all_rows, next_row}

-- the rows so far were read, taken and gathered, and these are left
pub record GatheredSoFar {G : Type 0} (IsOf : Config → List Line → G → Type 0) (first : G) (h : Header) (rows left : List (List ℕ)) (checker : Checker) (number : ℕ) (g : G) : Type 0 where
  pub so_far : RowsSoFar h rows left checker number
  pub gathered : IsOf h.config [] first → IsOf h.config so_far.lines g

module _ {G : Type 0} {IsOf : Config → List Line → G → Type 0} {first : G} {h : Header} {rows : List (List ℕ)} {checker : Checker} {number : ℕ} {g : G} where
  pub all_gathered : GatheredSoFar IsOf first h rows [] checker number g → IsOf h.config [] first → AreGathered h rows (λ lines. IsOf h.config lines g)
  all_gathered s start = record { run = all_rows s.so_far; gathered = s.gathered start }

  -- what is left begins with this row
  pub row_here : (left : Option (List ℕ)) {bytes row : List ℕ} {more : List (List ℕ)} → GatheredSoFar IsOf first h rows (lines_left left) checker number g → left ≡ Some bytes → record_lines bytes ≡ row ∷ more →
      GatheredSoFar IsOf first h rows (row ∷ more) checker number g
  row_here left s is e = subst (λ (l : List (List ℕ)). GatheredSoFar IsOf first h rows l checker number g) (ap (λ (o : Option (List ℕ)). lines_left o) is ∙ e) s

  -- one more row, of which the line was taken and gathered
  pub row_gathered : {row : List ℕ} {more : List (List ℕ)} → GatheredSoFar IsOf first h rows (row ∷ more) checker number g → {l : Line} {new : Checker} → TakesRow h number row checker new l →
      {g' : G} → Gathers IsOf l g g' → GatheredSoFar IsOf first h rows more new (number + 1) g'
  row_gathered s t gathers =
      let next = next_row s.so_far t in
      record { so_far = next; gathered = λ start. gathers h.config s.so_far.lines next.taken.object (s.gathered start) next.taken.run }

-- what is known of the first line and the others, where a header was read
pub header_found : (lines : List (List ℕ)) (found : Option (Header × Option (Bor (List ℕ)))) (header : Header) (rows : Option (Bor (List ℕ))) → found ≡ Some (header, rows) →
    MatchOption found (LacksHeader lines) (λ o. HasHeader lines o.0 (lines_left (option_copied o.1))) → HasHeader lines header (lines_left (option_copied rows))
header_found lines found header rows is h = subst (λ (o : Option (Header × Option (Bor (List ℕ)))). MatchOption o (LacksHeader lines) (λ o. HasHeader lines o.0 (lines_left (option_copied o.1)))) is h
