-- why a journal is not opened
use Rattle.std.proofs.Common.{◌≡◌, ◌==◌, ℕ, true, not, List, [], ◌∷◌, ◌++◌, drop, take, Result, Ok, Err, IfErr, IsErrAnd, ◌⊎◌, inl, inr, ap, sym, subst, ◌∙◌}
use Rattle.service_journal.proofs.Common.{and_parts, append-nil, Config, take-append-drop, IsCutOnce, has_no_lf, with_ends}
use Rattle.text_lines.specs.Lines.{IsCutInto, rest_of, whole_lines}
use Rattle.service_journal.specs.declared.opening.OpenFault.{OpenFault}
use Rattle.service_journal.specs.declared.opening.OpenFault.TheVariants.{NoMemory, OtherLine}
use Rattle.service_journal.specs.Journals.{without_torn}
use Rattle.service_journal.specs.OpenFaults.{IsFaultOf, IsOfConfig}

-- what an error is known to be, it is
pub on_err : {T E : Type 0} (P Q : E → Type 0) (r : Result T E) → IsErrAnd r P → ((e : E) → P e → Q e) → IfErr r Q
on_err P Q (Ok x) said next = absurd said
on_err P Q (Err e) said next = next e said

-- why a replay ends, of whole lines that begin with the header
pub ends_replay : (c : Config) (whole : List ℕ) (why : OpenFault) → IsOfConfig c whole → (why ≡ NoMemory) ⊎ ((number : ℕ) × (why ≡ OtherLine number)) → IsFaultOf c whole why
ends_replay c whole why so (inl w) = subst (λ (f : OpenFault). IsFaultOf c whole f) (sym w) tt
ends_replay c whole why so (inr w) = subst (λ (f : OpenFault). IsFaultOf c whole f) (sym w.1) so

lf_last : (ys : List ℕ) → has_no_lf (ys ++ 10 ∷ []) ≡ true → ⊥
lf_last [] h = cc h
lf_last (y ∷ ys) h = lf_last ys (and_parts (not (y == 10)) (has_no_lf (ys ++ 10 ∷ [])) h).1

nothing : (a rest : List ℕ) → a ++ rest ≡ [] → rest ≡ []
nothing [] rest is = is
nothing (x ∷ a) rest is = absurd (cc is)

-- what ends with an LF has no rest without one
no_rest : (a rest ys : List ℕ) → a ++ rest ≡ ys ++ 10 ∷ [] → has_no_lf rest ≡ true → rest ≡ []
no_rest [] rest ys is h = absurd (lf_last ys (ap has_no_lf (sym is) ∙ h))
no_rest (x ∷ a) rest [] is h = nothing a rest (cc is)
no_rest (x ∷ a) rest (y ∷ ys) is h = no_rest a rest ys (cc is) h

module _ (cut : (bytes : List ℕ) → IsCutInto bytes (whole_lines bytes) (rest_of bytes)) where
  pub ended : (bytes ys : List ℕ) → bytes ≡ ys ++ 10 ∷ [] → rest_of bytes ≡ []
  ended bytes ys is = no_rest (with_ends (whole_lines bytes)) (rest_of bytes) ys ((cut bytes).joined ∙ is) (cut bytes).rest_is

  -- the bytes up to an LF behind which there is none are the whole lines
  pub is_whole : ((bytes : List ℕ) → IsCutOnce bytes) → (bytes : List ℕ) (end : ℕ) → has_no_lf (drop end bytes) ≡ true → rest_of (take end bytes) ≡ [] → take end bytes ≡ without_torn bytes
  is_whole once bytes end torn none =
      let front = cut (take end bytes) in
      let ls = whole_lines (take end bytes) in
      let joined : with_ends ls ≡ take end bytes = sym (append-nil (with_ends ls)) ∙ ap (λ (l : List ℕ). with_ends ls ++ l) (sym none) ∙ front.joined in
      let all : with_ends ls ++ drop end bytes ≡ bytes = ap (λ (l : List ℕ). l ++ drop end bytes) joined ∙ take-append-drop end bytes in
      let same = once bytes ls (drop end bytes) (record { joined = all; lines_are = front.lines_are; rest_is = torn }) in
      sym joined ∙ ap with_ends same.0
