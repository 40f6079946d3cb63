-- the lines of what is looked at, one after another
use Rattle.std.proofs.Common.{◌≡◌, ℕ, ◌+◌, ◌-◌, ◌<◌, ◌==◌, ◌&&◌, cond, not, Bool, true, false, List, [], ◌∷◌, ◌++◌, length, take, drop, get_or, Some, None, refl, sym, ap, subst, ◌∙◌, arith, append_assoc}
use Rattle.service_loop.proofs.Common.{take-add, WorldKind}
use Rattle.std.proofs.lemmas.List.{append-nil, length-drop, take_more, take_all, take-append-drop}
use Rattle.std.proofs.lemmas.Bool.{eqb-true, and_from, and_parts, not-true}
use Rattle.std.proofs.lemmas.List.Folds.{list_all-append}
use Rattle.service_loop.specs.Asking.{is_own, none_own}
use Rattle.memchr.specs.Find.{IsFirstByte, is_byte}
use Rattle.text_lines.specs.Lines.{has_no_lf, rest_from, rest_of, whole_lines, whole_lines_from, with_ends}
use Rattle.text_lines.specs.Meaning.{meaning}
use Rattle.text_lines.specs.lemmas.PieceProofs.{nowhere-lacks}
use Rattle.service_loop.specs.Reported.{is_request, requests, behind, requests_in, HasPeeked}

-- lines of bytes behind bytes
pub whole_append : (l xs ys : List ℕ) → whole_lines_from l (xs ++ ys) ≡ whole_lines_from l xs ++ whole_lines_from (rest_from l xs) ys
whole_append l [] ys = refl
whole_append l (b ∷ bs) ys =
    elim (b == 10) as (λ t. cond t (l ∷ whole_lines_from [] (bs ++ ys)) (whole_lines_from (l ++ b ∷ []) (bs ++ ys)) ≡ cond t (l ∷ whole_lines_from [] bs) (whole_lines_from (l ++ b ∷ []) bs) ++ whole_lines_from (cond t (rest_from [] bs) (rest_from (l ++ b ∷ []) bs)) ys) [
      | true ↦ ap (λ x. l ∷ x) (whole_append [] bs ys)
      | false ↦ whole_append (l ++ b ∷ []) bs ys
    ]

pub rest_append : (l xs ys : List ℕ) → rest_from l (xs ++ ys) ≡ rest_from (rest_from l xs) ys
rest_append l [] ys = refl
rest_append l (b ∷ bs) ys =
    elim (b == 10) as (λ t. cond t (rest_from [] (bs ++ ys)) (rest_from (l ++ b ∷ []) (bs ++ ys)) ≡ rest_from (cond t (rest_from [] bs) (rest_from (l ++ b ∷ []) bs)) ys) [
      | true ↦ rest_append [] bs ys
      | false ↦ rest_append (l ++ b ∷ []) bs ys
    ]

-- bytes with no LF have no whole line
pub whole_none : (l ys : List ℕ) → has_no_lf ys ≡ true → whole_lines_from l ys ≡ []
whole_none l [] h = refl
whole_none l (b ∷ bs) h =
    let parts = and_parts (not (b == 10)) (has_no_lf bs) h in
    rw (not-true (b == 10) parts.0) (whole_none (l ++ b ∷ []) bs parts.1)

pub rest_none : (l ys : List ℕ) → has_no_lf ys ≡ true → rest_from l ys ≡ l ++ ys
rest_none l [] h = sym (append-nil l)
rest_none l (b ∷ bs) h =
    let parts = and_parts (not (b == 10)) (has_no_lf bs) h in
    rw (not-true (b == 10) parts.0) (rest_none (l ++ b ∷ []) bs parts.1 ∙ append_assoc l (b ∷ []) bs)

-- and with one behind them they are one
pub whole_one : (ys : List ℕ) → has_no_lf ys ≡ true → whole_lines_from [] (ys ++ 10 ∷ []) ≡ ys ∷ []
whole_one ys h = whole_append [] ys (10 ∷ []) ∙ rw (whole_none [] ys h, rest_none [] ys h) refl

pub rest_one : (ys : List ℕ) → has_no_lf ys ≡ true → rest_from [] (ys ++ 10 ∷ []) ≡ []
rest_one ys h = rest_append [] ys (10 ∷ [])

pub requests_append : (kind : WorldKind) (xs ys : List (List ℕ)) → requests kind (xs ++ ys) ≡ requests kind xs ++ requests kind ys
requests_append kind [] ys = refl
requests_append kind (x ∷ xs) ys =
    elim (is_request (meaning kind x)) as (λ t. cond t (x ∷ requests kind (xs ++ ys)) (requests kind (xs ++ ys)) ≡ cond t (x ∷ requests kind xs) (requests kind xs) ++ requests kind ys) [
      | true ↦ ap (λ l. x ∷ l) (requests_append kind xs ys)
      | false ↦ requests_append kind xs ys
    ]

pub ends_append : (xs ys : List (List ℕ)) → with_ends (xs ++ ys) ≡ with_ends xs ++ with_ends ys
ends_append [] ys = refl
ends_append (x ∷ xs) ys = ap (λ l. x ++ 10 ∷ l) (ends_append xs ys) ∙ sym (append_assoc x (10 ∷ with_ends xs) (with_ends ys))

pub behind_none : (long : Bool) → behind long [] ≡ []
behind_none true = refl
behind_none false = refl

behind_more : (long : Bool) (ls : List (List ℕ)) (line l : List ℕ) → behind long ((ls ++ line ∷ []) ++ l ∷ []) ≡ behind long (ls ++ line ∷ []) ++ l ∷ []
behind_more false ls line l = refl
behind_more true [] line l = refl
behind_more true (x ∷ ls) line l = refl

pub peeked_none : (kind : WorldKind) (long asks : Bool) (batch bytes : List ℕ) → HasPeeked kind long asks batch bytes 0 long asks batch
peeked_none kind long asks batch bytes = record {
  inside = omega arith;
  whole = refl;
  added = rw (behind_none long) (sym (append-nil batch));
  own = rw (behind_none long) refl;
  asked = λ h. (h, rw (behind_none long) refl);
  next = λ line. rw (behind_none long) refl;
}

module _ (kind : WorldKind) (long asks : Bool) (batch bytes : List ℕ) (at : ℕ) (long' asks' : Bool) (batch' : List ℕ) (so : HasPeeked kind long asks batch bytes at long' asks' batch') where
  -- with what stands behind
  whole_with : (ys : List ℕ) → whole_lines (take at bytes ++ ys) ≡ whole_lines (take at bytes) ++ whole_lines_from [] ys
  whole_with ys = whole_append [] (take at bytes) ys ∙ ap (λ l. whole_lines (take at bytes) ++ whole_lines_from l ys) so.whole

  rest_with : (ys : List ℕ) → rest_of (take at bytes ++ ys) ≡ rest_from [] ys
  rest_with ys = rest_append [] (take at bytes) ys ∙ ap (λ l. rest_from l ys) so.whole

  -- one line more
  pub peeked_line : (end at'' : ℕ) (kind' : WorldKind) (long'' asks'' : Bool) (batch'' : List ℕ) → kind' ≡ kind → at'' ≡ at + (end + 1) → long'' ≡ false → end < length (drop at bytes) → get_or (drop at bytes) end 0 ≡ 10 → has_no_lf (take end (drop at bytes)) ≡ true →
      none_own (behind long' (take end (drop at bytes) ∷ [])) ≡ true →
      batch'' ≡ batch' ++ with_ends (requests kind' (behind long' (take end (drop at bytes) ∷ []))) →
      (asks'' ≡ false → (asks' ≡ false) × (requests kind' (behind long' (take end (drop at bytes) ∷ [])) ≡ [])) →
      HasPeeked kind long asks batch bytes at'' long'' asks'' batch''
  peeked_line end at'' kind' long'' asks'' batch'' kind_is at_is long_is lt lf none other =
      subst (λ (k : WorldKind). batch'' ≡ batch' ++ with_ends (requests k (behind long' (take end (drop at bytes) ∷ []))) → (asks'' ≡ false → (asks' ≡ false) × (requests k (behind long' (take end (drop at bytes) ∷ [])) ≡ [])) → HasPeeked kind long asks batch bytes at'' long'' asks'' batch'') (sym kind_is) (λ added asked.
      let line = take end (drop at bytes) in
      let parts : take (at + (end + 1)) bytes ≡ take at bytes ++ (line ++ 10 ∷ []) = take-add at (end + 1) bytes ∙ ap (λ l. take at bytes ++ l) (take_more (drop at bytes) end 0 lt ∙ ap (λ (b : ℕ). line ++ b ∷ []) lf) in
      let ls = whole_lines (take at bytes) in
      let whole : whole_lines (take (at + (end + 1)) bytes) ≡ ls ++ line ∷ [] = ap (λ l. whole_lines l) parts ∙ whole_with (line ++ 10 ∷ []) ∙ ap (λ l. ls ++ l) (whole_one line none) in
      let all : requests_in kind long (take (at + (end + 1)) bytes) ≡ requests_in kind long (take at bytes) ++ requests kind (behind long' (line ∷ [])) =
      ap (λ l. requests kind (behind long l)) whole ∙ ap (requests kind) (so.next line) ∙ requests_append kind (behind long ls) (behind long' (line ∷ [])) in
      let few : length (drop at bytes) ≡ length bytes - at = length-drop at bytes in
      subst (λ (n : ℕ). HasPeeked kind long asks batch bytes n long'' asks'' batch'') (sym at_is)
      (subst (λ (b : Bool). HasPeeked kind long asks batch bytes (at + (end + 1)) b asks'' batch'') (sym long_is)
      (record {
        inside = (let low = so.inside in omega (arith, few, lt, low));
        whole = ap (λ l. rest_of l) parts ∙ rest_with (line ++ 10 ∷ []) ∙ rest_one line none;
        added = added ∙ ap (λ l. l ++ with_ends (requests kind (behind long' (line ∷ [])))) so.added
            ∙ append_assoc batch (with_ends (requests_in kind long (take at bytes))) (with_ends (requests kind (behind long' (line ∷ []))))
            ∙ ap (λ l. batch ++ l) (sym (ends_append (requests_in kind long (take at bytes)) (requests kind (behind long' (line ∷ []))))) ∙ ap (λ l. batch ++ with_ends l) (sym all);
        own = subst (λ (l : List (List ℕ)). none_own l ≡ true) (sym (ap (behind long) whole ∙ so.next line))
            (list_all-append (λ l. not (is_own l)) (behind long ls) (behind long' (line ∷ [])) ∙ and_from (none_own (behind long ls)) (none_own (behind long' (line ∷ []))) so.own other);
        asked = λ h. (let a = asked h in let b = so.asked a.0 in (b.0, all ∙ rw (b.1, a.1) refl));
        next = λ l. ap (λ (w : List (List ℕ)). behind long (w ++ l ∷ [])) whole ∙ behind_more long ls line l ∙ ap (λ (w : List (List ℕ)). behind long w ++ l ∷ []) (sym whole);
      })))

  -- the same, as the search for an LF finds it
  pub peeked_next : (rest : List ℕ) (end at'' : ℕ) (kind' : WorldKind) (long'' asks'' : Bool) (batch'' : List ℕ) → rest ≡ drop at bytes → kind' ≡ kind → at'' ≡ at + (end + 1) → long'' ≡ false → IsFirstByte (is_byte 10) rest (Some end) → none_own (behind long' (take end rest ∷ [])) ≡ true →
      batch'' ≡ batch' ++ with_ends (requests kind' (behind long' (take end rest ∷ []))) → (asks'' ≡ false → (asks' ≡ false) × (requests kind' (behind long' (take end rest ∷ [])) ≡ [])) →
      HasPeeked kind long asks batch bytes at'' long'' asks'' batch''
  peeked_next rest end at'' kind' long'' asks'' batch'' same kind_is at_is long_is =
      subst (λ (l : List ℕ). IsFirstByte (is_byte 10) l (Some end) → none_own (behind long' (take end l ∷ [])) ≡ true → batch'' ≡ batch' ++ with_ends (requests kind' (behind long' (take end l ∷ []))) → (asks'' ≡ false → (asks' ≡ false) × (requests kind' (behind long' (take end l ∷ [])) ≡ [])) →
      HasPeeked kind long asks batch bytes at'' long'' asks'' batch'') (sym same)
      (λ first other. peeked_line end at'' kind' long'' asks'' batch'' kind_is at_is long_is first.0.high (eqb-true _ _ first.1) (nowhere-lacks 10 (drop at bytes) end first.0.before) other)

  -- where no LF stands behind
  module _ (none : has_no_lf (drop at bytes) ≡ true) where
    parts_all : take (length bytes) bytes ≡ take at bytes ++ drop at bytes
    parts_all = take_all (length bytes) bytes (omega arith) ∙ sym (take-append-drop at bytes)

    whole_all : whole_lines (take (length bytes) bytes) ≡ whole_lines (take at bytes)
    whole_all = ap (λ l. whole_lines l) parts_all ∙ whole_with (drop at bytes) ∙ ap (λ l. whole_lines (take at bytes) ++ l) (whole_none [] (drop at bytes) none) ∙ append-nil (whole_lines (take at bytes))

    pub peeked_all : requests_in kind long (take (length bytes) bytes) ≡ requests_in kind long (take at bytes)
    peeked_all = ap (λ l. requests kind (behind long l)) whole_all

    pub own_all : none_own (behind long (whole_lines (take (length bytes) bytes))) ≡ true
    own_all = subst (λ (l : List (List ℕ)). none_own (behind long l) ≡ true) (sym whole_all) so.own

pub no_lf_in : (bytes rest : List ℕ) → rest ≡ bytes → IsFirstByte (is_byte 10) rest None → has_no_lf bytes ≡ true
no_lf_in bytes rest same = subst (λ (l : List ℕ). IsFirstByte (is_byte 10) l None → has_no_lf bytes ≡ true) (sym same)
    (λ nowhere. subst (λ (l : List ℕ). has_no_lf l ≡ true) (take_all (length bytes) bytes (omega arith)) (nowhere-lacks 10 bytes (length bytes) nowhere))

-- all that waits is looked at: behind the whole lines nothing is asked
pub peeked_long : (kind : WorldKind) (long asks : Bool) (batch bytes : List ℕ) (at : ℕ) (long' asks' : Bool) (batch' : List ℕ) → HasPeeked kind long asks batch bytes at long' asks' batch' → has_no_lf (drop at bytes) ≡ true →
    (batch' ≡ batch ++ with_ends (requests_in kind long (take (length bytes) bytes))) × (asks' ≡ false → (asks ≡ false) × (requests_in kind long (take (length bytes) bytes) ≡ [])) ×
    (none_own (behind long (whole_lines (take (length bytes) bytes))) ≡ true)
peeked_long kind long asks batch bytes at long' asks' batch' so none =
    let all : requests_in kind long (take (length bytes) bytes) ≡ requests_in kind long (take at bytes) = peeked_all kind long asks batch bytes at long' asks' batch' so none in
    (so.added ∙ ap (λ l. batch ++ with_ends l) (sym all), λ h. (let b = so.asked h in (b.0, all ∙ b.1)), own_all kind long asks batch bytes at long' asks' batch' so none)

-- what a batch holds more than before
pub kept_by : (old new xs : List ℕ) → new ≡ old ++ xs → (more : List ℕ) × (new ≡ old ++ more)
kept_by old new xs is = (xs, is)

pub kept_more : (old mid new xs ys : List ℕ) → mid ≡ old ++ xs → new ≡ mid ++ ys → (more : List ℕ) × (new ≡ old ++ more)
kept_more old mid new xs ys is that = (xs ++ ys, that ∙ ap (λ l. l ++ ys) is ∙ append_assoc old xs ys)

-- a line that stands next is the end of another, or none that the server answers by itself
pub own_line : (long : Bool) (line : List ℕ) → (not long && is_own line) ≡ false → none_own (behind long (line ∷ [])) ≡ true
own_line true line is = refl
own_line false line is = and_from (not (is_own line)) true (ap not is) refl
