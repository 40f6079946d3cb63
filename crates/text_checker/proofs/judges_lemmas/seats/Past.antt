-- what the tables of moments answer
use Rattle.std.proofs.Common.{◌≡◌, ℕ, ◌-◌, ◌<◌, ◌↔◌, Bool, ltb, List, sym, ap, ◌∙◌, arith, Option, unwrap_or, IsTrue, nat_eq}
use Rattle.text_checker.proofs.judges_lemmas.Common.{ltb-true, lt-ltb, get, Moments, SomeSince, IsPast, HoldsMoments}
use Rattle.std.specs.Bool.{Decides}
use Rattle.std.specs.Cmp.Lexicographic.{pointwise, pointwise_decides}
use Rattle.std.proofs.lemmas.Bool.Decides.{Decides-eqb}

-- some moment passes exactly where what is past the last that does is past `since`
pub asked : (P : ℕ → Type 0) (last past since : ℕ) (r : Bool) → IsPast P last past → r ≡ ltb since past → IsTrue r ↔ SomeSince P since last
asked P last past since r is e = (
  (λ y.
      let l : since < past = ltb-true _ _ (sym e ∙ y) in
      let w = is.within in
      record { index = past - 1; no_earlier = omega arith; no_later = omega arith; passes = is.reached (omega arith) }),
  (λ s.
      let a = is.above s.index s.no_later s.passes in
      let n = s.no_earlier in
      e ∙ lt-ltb since past (omega arith)),
)

-- rows are compared number by number
pub same_row : (xs ys : List ℕ) → Decides (pointwise nat_eq xs ys) (xs ≡ ys)
same_row = pointwise_decides Decides-eqb

-- the table of rows tells which moments were
pub shown_by : (m : Moments) (last : ℕ) (rows : ℕ → List ℕ) (since : ℕ) (row : List ℕ) (o : Option ℕ) (r : Bool) → HoldsMoments m last rows →
    o ≡ get (pointwise nat_eq) m.seen row → r ≡ ltb since (unwrap_or o 0) → IsTrue r ↔ SomeSince (λ i. rows i ≡ row) since last
shown_by m last rows since row o r h e k = asked (λ i. rows i ≡ row) last (unwrap_or (get (pointwise nat_eq) m.seen row) 0) since r (h.seen row) (k ∙ ap (λ (x : Option ℕ). ltb since (unwrap_or x 0)) e)
