-- what writers gain, one text after another
use Rattle.std.proofs.Common.{◌≡◌, ℕ, ◌+◌, ◌-◌, List, ◌++◌, take, drop, length, Option, sym, ap, subst, ◌∙◌, arith, length-append}
use Rattle.std.proofs.lemmas.List.{take_all, length-drop}
use Rattle.std.proofs.KnownBytes.{Appends-trans}
use Rattle.std.proofs.Math.Seq.{take-add, take-append-add}
use Rattle.std.specs.Io.KnownBytes.{Appends}
use Rattle.text_lines.specs.Written.{HasPartOf}

-- one gain and then another
pub appends_more : (old mid new : Option (List ℕ)) (xs ys zs : List ℕ) → Appends old mid xs → Appends mid new ys → xs ++ ys ≡ zs → Appends old new zs
appends_more old mid new xs ys zs a b e = subst (λ (l : List ℕ). Appends old new l) e (Appends-trans old mid new xs ys a b)

-- a part of a text is a part of what is gained
pub part_after : (before old now : Option (List ℕ)) (written replies all : List ℕ) →
    Appends before old written → all ≡ written ++ replies → HasPartOf old now replies → HasPartOf before now all
part_after before old now written replies all gained text part = (
  length written + part.0,
  omega (arith, part.1, ap length text, length-append written replies),
  appends_more before old now written (take part.0 replies) (take (length written + part.0) all) gained part.2
      (sym (take-append-add written replies part.0) ∙ ap (take (length written + part.0)) (sym text)),
)

whole : (t : List ℕ) (a : ℕ) → take (length t - a) (drop a t) ≡ drop a t
whole t a = take_all (length t - a) (drop a t) (omega (arith, length-drop a t))

-- the first bytes of a text, and then some of the others
pub take_pieces : (t : List ℕ) (a n : ℕ) → take a t ++ take n (take (length t - a) (drop a t)) ≡ take (a + n) t
take_pieces t a n = ap (λ l. take a t ++ take n l) (whole t a) ∙ sym (take-add a n t)
