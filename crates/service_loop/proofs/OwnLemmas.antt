-- lines that the server answers by itself, and those that are none of them
use Rattle.std.proofs.Common.{◌≡◌, ◌⊎◌, inl, inr, ℕ, zero, suc, ◌+◌, ◌<◌, ◌==◌, ◌||◌, cond, not, Bool, true, false, List, [], ◌∷◌, ◌++◌, length, take, drop, get_or, codes, Option, Some, None, refl, sym, ap, subst, ◌∙◌, arith, length-append}
use Rattle.std.specs.List.{list_all}
use Rattle.std.proofs.lemmas.Bool.{and_from, and_parts, or_parts, eqb-true, false_from_ne_true}
use Rattle.std.proofs.lemmas.List.{append-nil, take-append-drop, take_all, take_more}
use Rattle.std.proofs.lemmas.List.Folds.{list_all-append}
use Rattle.std.proofs.lemmas.List.Sums.{AllPass-from_list_all}
use Rattle.memchr.specs.Find.{IsFirstByte, IsLastByte, is_byte}
use Rattle.text_lines.specs.Lines.{has_no_lf, rest_from, rest_of, whole_lines, whole_lines_from}
use Rattle.text_lines.specs.Meaning.{same_bytes}
use Rattle.text_lines.specs.lemmas.PieceProofs.{lacks, nowhere-lacks}
use Rattle.std.specs.Io.KnownBytes.{IsAtEnd}
use Rattle.service_loop.proofs.Common.{take-add, BuffersState, Consumes, Turn}
use Rattle.service_loop.proofs.BuffersLemmas.{takes_at_end, takes_some}
use Rattle.service_loop.specs.ConnectionBuffers.{Takes, TakesNoOwn, TakesOf}
use Rattle.service_loop.proofs.PeekLemmas.{rest_append, rest_one, whole_append, whole_none, whole_one, no_lf_in}
use Rattle.service_loop.proofs.WaitingLemmas.{first_whole}
use Rattle.service_loop.specs.Asking.{is_own, none_own, taking_of, IsLineStart}
use Rattle.service_loop.specs.Queries.{query_of}
use Rattle.service_loop.specs.Reported.{behind}
use Rattle.service_loop.specs.Waiting.{begins, first_of, with_count}

same_from : (xs ys : List ℕ) → same_bytes xs ys ≡ true → xs ≡ ys
same_from [] [] e = refl
same_from [] (y ∷ ys) e = absurd cc
same_from (x ∷ xs) [] e = absurd cc
same_from (x ∷ xs) (y ∷ ys) e =
    let parts = and_parts (x == y) (same_bytes xs ys) e in
    ap (λ (b : ℕ). b ∷ xs) (eqb-true x y parts.0) ∙ ap (λ l. y ∷ l) (same_from xs ys parts.1)

-- a word that has a letter is no word that lacks it
not_same : (c : ℕ) (xs ys : List ℕ) → lacks c xs ≡ true → lacks c ys ≡ false → same_bytes xs ys ≡ false
not_same c xs ys lacking has = false_from_ne_true (same_bytes xs ys) (λ e. let t : true ≡ false = sym lacking ∙ ap (λ l. lacks c l) (same_from xs ys e) ∙ has in absurd cc)

lacks_take : (c n : ℕ) (xs : List ℕ) → lacks c xs ≡ true → lacks c (take n xs) ≡ true
lacks_take c zero xs h = refl
lacks_take c (suc n) [] h = refl
lacks_take c (suc n) (x ∷ xs) h =
    let parts = and_parts (not (x == c)) (lacks c xs) h in
    and_from (not (x == c)) (lacks c (take n xs)) parts.0 (lacks_take c n xs parts.1)

own_by : (line : List ℕ) → same_bytes line (codes "terms") ≡ false → same_bytes line (codes "held") ≡ false → same_bytes (take 10 line) (codes "held from ") ≡ false →
    same_bytes (take 5 line) (codes "held ") ≡ false → same_bytes line (codes "watch") ≡ false → same_bytes (take 6 line) (codes "watch ") ≡ false →
    same_bytes (take 5 line) (codes "take ") ≡ false → is_own line ≡ false
own_by line t h p g w v k = rw (t, h, p, g, w, v, k) refl

-- a line that lacks these letters is none
lacking : (line : List ℕ) → lacks 104 line ≡ true → lacks 107 line ≡ true → lacks 109 line ≡ true → is_own line ≡ false
lacking line h k m = own_by line (not_same 109 line (codes "terms") m refl) (not_same 104 line (codes "held") h refl)
    (not_same 104 (take 10 line) (codes "held from ") (lacks_take 104 10 line h) refl) (not_same 104 (take 5 line) (codes "held ") (lacks_take 104 5 line h) refl) (not_same 104 line (codes "watch") h refl)
    (not_same 104 (take 6 line) (codes "watch ") (lacks_take 104 6 line h) refl) (not_same 107 (take 5 line) (codes "take ") (lacks_take 107 5 line k) refl)

first_other : (b c : ℕ) (bs cs : List ℕ) → (b == c) ≡ false → same_bytes (b ∷ bs) (c ∷ cs) ≡ false
first_other b c bs cs e = rw e refl

-- nor is one that begins with another letter
pub begins_other : (line : List ℕ) → begins line ≡ false → is_own line ≡ false
begins_other [] h = refl
begins_other (b ∷ bs) h =
    let parts = or_parts (b == 104) ((b == 116) || (b == 119)) h in
    let others = or_parts (b == 116) (b == 119) parts.1 in
    own_by (b ∷ bs) (first_other b 116 bs (drop 1 (codes "terms")) others.0) (first_other b 104 bs (drop 1 (codes "held")) parts.0)
    (first_other b 104 (take 9 bs) (drop 1 (codes "held from ")) parts.0) (first_other b 104 (take 4 bs) (drop 1 (codes "held ")) parts.0)
    (first_other b 119 bs (drop 1 (codes "watch")) others.1) (first_other b 119 (take 5 bs) (drop 1 (codes "watch ")) others.1)
    (first_other b 116 (take 4 bs) (drop 1 (codes "take ")) others.0)

pub begins_cut : (n : ℕ) (bytes : List ℕ) → begins bytes ≡ false → begins (take n bytes) ≡ false
begins_cut zero bytes h = refl
begins_cut (suc n) [] h = h
begins_cut (suc n) (b ∷ bs) h = h

-- lines of bytes that lack a letter lack it
whole_lack : (c : ℕ) (l bs : List ℕ) → lacks c l ≡ true → lacks c bs ≡ true → list_all (λ line. lacks c line) (whole_lines_from l bs) ≡ true
whole_lack c l [] hl h = refl
whole_lack c l (b ∷ bs) hl h =
    let parts = and_parts (not (b == c)) (lacks c bs) h in
    let more : lacks c (l ++ b ∷ []) ≡ true = list_all-append (λ x. not (x == c)) l (b ∷ []) ∙ and_from (lacks c l) (lacks c (b ∷ [])) hl (and_from (not (b == c)) true parts.0 refl) in
    elim (b == 10) as (λ t. list_all (λ line. lacks c line) (cond t (l ∷ whole_lines_from [] bs) (whole_lines_from (l ++ b ∷ []) bs)) ≡ true) [
      | true ↦ and_from (lacks c l) (list_all (λ line. lacks c line) (whole_lines_from [] bs)) hl (whole_lack c [] bs refl parts.1)
      | false ↦ whole_lack c (l ++ b ∷ []) bs more parts.1
    ]

none_from : (ls : List (List ℕ)) → list_all (λ line. lacks 104 line) ls ≡ true → list_all (λ line. lacks 107 line) ls ≡ true → list_all (λ line. lacks 109 line) ls ≡ true → none_own ls ≡ true
none_from [] h k m = refl
none_from (l ∷ ls) h k m =
    let a = and_parts (lacks 104 l) (list_all (λ line. lacks 104 line) ls) h in
    let b = and_parts (lacks 107 l) (list_all (λ line. lacks 107 line) ls) k in
    let c = and_parts (lacks 109 l) (list_all (λ line. lacks 109 line) ls) m in
    and_from (not (is_own l)) (none_own ls) (ap not (lacking l a.0 b.0 c.0)) (none_from ls a.1 b.1 c.1)

none_behind : (long : Bool) (ls : List (List ℕ)) → none_own ls ≡ true → none_own (behind long ls) ≡ true
none_behind false ls h = h
none_behind true [] h = refl
none_behind true (l ∷ ls) h = (and_parts (not (is_own l)) (none_own ls) h).1

-- so there is none among bytes that lack the letters
pub none_lacking : (long : Bool) (n : ℕ) (bytes : List ℕ) → (lacks 104 bytes ≡ true) × (lacks 107 bytes ≡ true) × (lacks 109 bytes ≡ true) → none_own (behind long (whole_lines (take n bytes))) ≡ true
none_lacking long n bytes all = none_behind long (whole_lines (take n bytes)) (none_from (whole_lines (take n bytes))
    (whole_lack 104 [] (take n bytes) refl (lacks_take 104 n bytes all.0)) (whole_lack 107 [] (take n bytes) refl (lacks_take 107 n bytes all.1)) (whole_lack 109 [] (take n bytes) refl (lacks_take 109 n bytes all.2)))

none_front : (xs ys : List (List ℕ)) → none_own (xs ++ ys) ≡ true → none_own xs ≡ true
none_front xs ys h = (and_parts (none_own xs) (none_own ys) (sym (list_all-append (λ line. not (is_own line)) xs ys) ∙ h)).0

none_before : (long : Bool) (xs ys : List (List ℕ)) → none_own (behind long (xs ++ ys)) ≡ true → none_own (behind long xs) ≡ true
none_before false xs ys h = none_front xs ys h
none_before true [] ys h = refl
none_before true (x ∷ xs) ys h = none_front xs ys h

-- nor among the first of bytes that have none
pub none_take : (long : Bool) (n : ℕ) (xs : List ℕ) → none_own (behind long (whole_lines xs)) ≡ true → none_own (behind long (whole_lines (take n xs))) ≡ true
none_take long n xs h =
    let parts : whole_lines xs ≡ whole_lines (take n xs) ++ whole_lines_from (rest_of (take n xs)) (drop n xs) = ap (λ l. whole_lines l) (sym (take-append-drop n xs)) ∙ whole_append [] (take n xs) (drop n xs) in
    none_before long (whole_lines (take n xs)) (whole_lines_from (rest_of (take n xs)) (drop n xs)) (subst (λ (l : List (List ℕ)). none_own (behind long l) ≡ true) parts h)

-- one line more
pub none_more : (long : Bool) (ls : List (List ℕ)) (line : List ℕ) → none_own (behind long ls) ≡ true → is_own line ≡ false → none_own (behind long (ls ++ line ∷ [])) ≡ true
none_more false ls line h e = list_all-append (λ l. not (is_own l)) ls (line ∷ []) ∙ and_from (none_own ls) (none_own (line ∷ [])) h (and_from (not (is_own line)) true (ap not e) refl)
none_more true [] line h e = refl
none_more true (x ∷ ls) line h e = list_all-append (λ l. not (is_own l)) ls (line ∷ []) ∙ and_from (none_own ls) (none_own (line ∷ [])) h (and_from (not (is_own line)) true (ap not e) refl)

module _ (bytes : List ℕ) (at end : ℕ) (whole : rest_of (take at bytes) ≡ []) (first : IsFirstByte (is_byte 10) (drop at bytes) (Some end)) where
  line_has_none : has_no_lf (take end (drop at bytes)) ≡ true
  line_has_none = nowhere-lacks 10 (drop at bytes) end first.0.before

  line_parts : take (at + (end + 1)) bytes ≡ take at bytes ++ (take end (drop at bytes) ++ 10 ∷ [])
  line_parts = take-add at (end + 1) bytes ∙ ap (λ l. take at bytes ++ l) (take_more (drop at bytes) end 0 first.0.high ∙ ap (λ (b : ℕ). take end (drop at bytes) ++ b ∷ []) (eqb-true _ _ first.1))

  pub line_more : whole_lines (take (at + (end + 1)) bytes) ≡ whole_lines (take at bytes) ++ take end (drop at bytes) ∷ []
  line_more = ap (λ l. whole_lines l) line_parts ∙ whole_append [] (take at bytes) (take end (drop at bytes) ++ 10 ∷ []) ∙ ap (λ l. whole_lines (take at bytes) ++ whole_lines_from l (take end (drop at bytes) ++ 10 ∷ [])) whole
      ∙ ap (λ l. whole_lines (take at bytes) ++ l) (whole_one (take end (drop at bytes)) line_has_none)

  pub line_starts : (begins : Bool) → IsLineStart begins bytes (at + (end + 1))
  line_starts begins = record {
    whole = ap (λ l. rest_of l) line_parts ∙ rest_append [] (take at bytes) (take end (drop at bytes) ++ 10 ∷ []) ∙ ap (λ l. rest_from l (take end (drop at bytes) ++ 10 ∷ [])) whole
        ∙ rest_one (take end (drop at bytes)) line_has_none;
    behind_one = inr (subst (λ (l : List (List ℕ)). 0 < length l) (sym line_more) (omega (arith, length-append (whole_lines (take at bytes)) (take end (drop at bytes) ∷ []))));
  }

-- where the line behind this place begins, or else the end
abbrev pub NextLine : List ℕ → ℕ → ℕ → Type 0
NextLine bytes at next = ((end : ℕ) × IsFirstByte (is_byte 10) (drop at bytes) (Some end) × (next ≡ at + (end + 1))) ⊎ (IsFirstByte (is_byte 10) (drop at bytes) None × (next ≡ length bytes))

module _ (begins : Bool) (bytes : List ℕ) where
  pub starts_next : (at next : ℕ) → rest_of (take at bytes) ≡ [] → NextLine bytes at next → next < length bytes → IsLineStart begins bytes next
  starts_next at next whole (inl (end, first, is)) lt = subst (λ (n : ℕ). IsLineStart begins bytes n) (sym is) (line_starts bytes at end whole first begins)
  starts_next at next whole (inr (nowhere, is)) lt = absurd (omega (arith, lt, is))

  -- none is before it, where the line itself is none
  pub own_next : (long : Bool) (at next : ℕ) → rest_of (take at bytes) ≡ [] → NextLine bytes at next → none_own (behind long (whole_lines (take at bytes))) ≡ true →
      ((end : ℕ) → IsFirstByte (is_byte 10) (drop at bytes) (Some end) → is_own (take end (drop at bytes)) ≡ false) → none_own (behind long (whole_lines (take next bytes))) ≡ true
  own_next long at next whole (inl (end, first, is)) none other =
      subst (λ (n : ℕ). none_own (behind long (whole_lines (take n bytes))) ≡ true) (sym is)
      (subst (λ (l : List (List ℕ)). none_own (behind long l) ≡ true) (sym (line_more bytes at end whole first)) (none_more long (whole_lines (take at bytes)) (take end (drop at bytes)) none (other end first)))
  own_next long at next whole (inr (nowhere, is)) none other =
      let lf : has_no_lf (drop at bytes) ≡ true = no_lf_in (drop at bytes) (drop at bytes) refl nowhere in
      let all : take (length bytes) bytes ≡ take at bytes ++ drop at bytes = take_all (length bytes) bytes (omega arith) ∙ sym (take-append-drop at bytes) in
      let lines : whole_lines (take (length bytes) bytes) ≡ whole_lines (take at bytes) = ap (λ l. whole_lines l) all ∙ whole_append [] (take at bytes) (drop at bytes)
      ∙ ap (λ l. whole_lines (take at bytes) ++ l) (whole_none (rest_of (take at bytes)) (drop at bytes) lf) ∙ append-nil (whole_lines (take at bytes)) in
      subst (λ (n : ℕ). none_own (behind long (whole_lines (take n bytes))) ≡ true) (sym is) (subst (λ (l : List (List ℕ)). none_own (behind long l) ≡ true) (sym lines) none)

  -- the first line is the end of another
  pub own_first : (next : ℕ) → NextLine bytes 0 next → none_own (behind true (whole_lines (take next bytes))) ≡ true
  own_first next (inl (end, first, is)) =
      subst (λ (n : ℕ). none_own (behind true (whole_lines (take n bytes))) ≡ true) (sym is) (subst (λ (l : List (List ℕ)). none_own (behind true l) ≡ true) (sym (line_more bytes 0 end refl first)) refl)
  own_first next (inr (nowhere, is)) = own_next true 0 next refl (inr (nowhere, is)) refl (λ end first. other end first)
    where
      other : (end : ℕ) → IsFirstByte (is_byte 10) bytes (Some end) → is_own (take end bytes) ≡ false
      other end first = absurd (nowhere end (omega arith) first.0.high first.1)

  -- behind the last LF
  pub starts_last : (end : ℕ) → IsLastByte (is_byte 10) bytes (Some end) → IsLineStart begins bytes (end + 1)
  starts_last end last =
      let parts : take (end + 1) bytes ≡ take end bytes ++ 10 ∷ [] = take_more bytes end 0 last.0.high ∙ ap (λ (b : ℕ). take end bytes ++ b ∷ []) (eqb-true _ _ last.1) in
      let lines : whole_lines (take (end + 1) bytes) ≡ whole_lines (take end bytes) ++ rest_of (take end bytes) ∷ [] = ap (λ l. whole_lines l) parts ∙ whole_append [] (take end bytes) (10 ∷ []) in
      record {
        whole = ap (λ l. rest_of l) parts ∙ rest_append [] (take end bytes) (10 ∷ []);
        behind_one = inr (subst (λ (l : List (List ℕ)). 0 < length l) (sym lines) (omega (arith, length-append (whole_lines (take end bytes)) (rest_of (take end bytes) ∷ []))));
      }

count_none : {A : Type 0} (line : List ℕ) (x : Option A) → with_count line x ≡ None → x ≡ None
count_none line None e = refl
count_none line (Some a) e = absurd cc

-- where the first line asks nothing and takes none, it is none
pub first_other_line : (bytes : List ℕ) (end : ℕ) → IsFirstByte (is_byte 10) bytes (Some end) → first_of query_of (whole_lines bytes) ≡ None → first_of taking_of (whole_lines bytes) ≡ None → is_own (take end bytes) ≡ false
first_other_line bytes end first asks takes =
    let line = take end bytes in
    let q = count_none line (query_of line) (sym (ap (first_of query_of) (first_whole bytes end first)) ∙ asks) in
    let t = count_none line (taking_of line) (sym (ap (first_of taking_of) (first_whole bytes end first)) ∙ takes) in
    rw (q, t) refl

-- bytes lack no byte that stands among them
pub lacks_at : (c : ℕ) (bytes : List ℕ) (at : ℕ) → IsFirstByte (is_byte c) bytes (Some at) → lacks c bytes ≡ false
lacks_at c bytes at first = false_from_ne_true (lacks c bytes) (λ all.
    let t : not (get_or bytes at 0 == c) ≡ true = AllPass-from_list_all (λ b. not (b == c)) bytes all at 0 first.0.high in
    let f : true ≡ false = sym t ∙ ap not first.1 in absurd cc)

pub none_of_none : (long : Bool) → none_own (behind long []) ≡ true
none_of_none true = refl
none_of_none false = refl

front_no_lf : (xs ys : List ℕ) → has_no_lf (xs ++ ys) ≡ true → has_no_lf xs ≡ true
front_no_lf xs ys h = (and_parts (has_no_lf xs) (has_no_lf ys) (sym (list_all-append (λ b. not (b == 10)) xs ys) ∙ h)).0

-- where no LF came, no line is taken
own_of_none : (turns : List Turn) (ends : Bool) (s s' : BuffersState) (t : Takes turns [] ends s s') → has_no_lf s.inbox ≡ true → TakesNoOwn s t.taken
own_of_none turns ends s s' t none on =
    let all : s.inbox ≡ t.taken ++ t.rest = sym (append-nil s.inbox) ∙ t.parts in
    let lines : whole_lines t.taken ≡ [] = whole_none [] t.taken (front_no_lf t.taken t.rest (subst (λ (l : List ℕ). has_no_lf l ≡ true) all none)) in
    subst (λ (l : List (List ℕ)). none_own (behind s.in_line l) ≡ true) (sym lines) (none_of_none s.in_line)

pub last_own : (turns : List Turn) (left left' : Option (List ℕ)) (s s' : BuffersState) → Consumes left left' [] → IsAtEnd left' → Takes turns [] true s s' ⊎ Takes turns [] false s s' → has_no_lf s.inbox ≡ true →
    (of : TakesOf turns left s left' s') × TakesNoOwn s of.takes.taken
last_own turns left left' s s' gave end (inl t) none = (takes_at_end turns left left' s s' gave end t, own_of_none turns true s s' t none)
last_own turns left left' s s' gave end (inr t) none = (takes_some turns left left' [] s s' (omega arith) gave t, own_of_none turns false s s' t none)
