-- a page, one line after the other
use Rattle.std.proofs.Common.{◌≡◌, inl, inr, ℕ, suc, ◌+◌, ◌-◌, ◌<◌, ◌≤◌, Bool, true, false, ◌↔◌, if◌then◌else◌, List, [], ◌∷◌, ◌++◌, length, take, drop, refl, sym, ap, ◌∙◌, subst, append_assoc, get_or, flat_map, arith}
use Rattle.tool_work.proofs.page_lemmas.Common.{Config, DeskValue, Line, Stretch, Sheet, Form, Data, Item, with_reached, access_in, row_of, done_at, desk_next, reached_in, rows, replayed, name_fact, state}
use Rattle.tool_work.specs.page.State.{name_facts}
use Rattle.std.proofs.lemmas.List.{take_more, length-drop, take_all, drop_all, take-append-le, drop-append-le, append-nil, length-append}
use Rattle.std.proofs.lemmas.Grind.{flat_map-append}
use Rattle.std.proofs.lemmas.Bool.Decides.{eqb_tells, leb_tells}
use Rattle.text_worlds.specs.lemmas.desk.DeskLaws as desk
use Rattle.text_worlds.specs.desk.Desk.{fresh_desk, IsFreshDesk, owner_reply}
use Rattle.text_records.specs.declared.header.Header.{Header}
use Rattle.text_records.specs.RecordLine.{IsHeaderLine}
use Rattle.text_records.specs.Records.{record_lines}
use Rattle.text_checker.specs.Gathered.{AreGathered, Gathers}
use Rattle.tool_work.specs.page.Page.{HasPut, IsPageOf, closing_data, ending, joined, lines_before, opening, opening_data, page, page_between, page_head, page_middle, page_tail, shown_items, shown_rows, state_after, state_before, stretch_of, whole_before}
use Rattle.tool_work.specs.page.Still.{begun_after, begun_in, item_of, items}
use Rattle.tool_work.specs.page.Shown.{IsPage}

-- ---- one more line is replayed

pub rows_more : (w : DeskValue) (ls : List Line) (l : Line) → rows w (ls ++ l ∷ []) ≡ rows w ls ++ row_of l (done_at (replayed w ls) l) ∷ []
rows_more w [] l = refl
rows_more w (k ∷ ls) l = ap (λ (rs : List (List ℕ)). row_of k (done_at w k) ∷ rs) (rows_more (desk_next w k) ls l)

pub replayed_more : (w : DeskValue) (ls : List Line) (l : Line) → replayed w (ls ++ l ∷ []) ≡ desk_next (replayed w ls) l
replayed_more w [] l = refl
replayed_more w (k ∷ ls) l = replayed_more (desk_next w k) ls l

pub rows_length : (w : DeskValue) (ls : List Line) → length (rows w ls) ≡ length ls
rows_length w [] = refl
rows_length w (k ∷ ls) = ap suc (rows_length (desk_next w k) ls)

begun_more : (ids : List ℕ) (ls : List Line) (l : Line) → begun_in ids (ls ++ l ∷ []) ≡ begun_after (begun_in ids ls) l
begun_more ids [] l = refl
begun_more ids (k ∷ ls) l = begun_more (begun_after ids k) ls l

reached_more : (places : List ℕ) (w : DeskValue) (ls : List Line) (l : Line) →
    reached_in places w (ls ++ l ∷ []) ≡ with_reached (reached_in places w ls) (access_in (done_at (replayed w ls) l))
reached_more places w [] l = refl
reached_more places w (k ∷ ls) l = reached_more (with_reached places (access_in (done_at w k))) (desk_next w k) ls l

-- how many lines there are after these
abbrev count_after : ℕ → List Line → ℕ
count_after n [] = n
count_after n (k ∷ ls) = count_after (suc n) ls

count_is : (n : ℕ) (ls : List Line) → count_after n ls ≡ n + length ls
count_is n [] = omega arith
count_is n (k ∷ ls) = let more = count_is (suc n) ls in omega (arith, more)

items_more : (ids : List ℕ) (n : ℕ) (w : DeskValue) (ls : List Line) (l : Line) →
    items ids n w (ls ++ l ∷ []) ≡ items ids n w ls ++ item_of (begun_after (begun_in ids ls) l) (suc (count_after n ls)) l (done_at (replayed w ls) l) ∷ []
items_more ids n w [] l = refl
items_more ids n w (k ∷ ls) l =
    ap (λ (is : List (List ℕ)). item_of (begun_after ids k) (suc n) k (done_at w k) ∷ is) (items_more (begun_after ids k) (suc n) (desk_next w k) ls l)

items_length : (ids : List ℕ) (n : ℕ) (w : DeskValue) (ls : List Line) → length (items ids n w ls) ≡ length ls
items_length ids n w [] = refl
items_length ids n w (k ∷ ls) = ap suc (items_length (begun_after ids k) (suc n) (desk_next w k) ls)

-- ---- one more member of a list

module _ {X : Type 0} (first count : ℕ) (xs : List X) (x : X) where
  cut_in : first ≤ length xs → length xs < first + count → take count (drop first (xs ++ x ∷ [])) ≡ take count (drop first xs) ++ x ∷ []
  cut_in low high =
      let n = length-drop first xs in
      let m = length-append (drop first xs) (x ∷ []) in
      rw (drop-append-le first xs (x ∷ []) low, take_all count (drop first xs ++ x ∷ []) (omega arith), take_all count (drop first xs) (omega arith)) refl

  cut_before : length xs < first → take count (drop first (xs ++ x ∷ [])) ≡ take count (drop first xs)
  cut_before low =
      let m = length-append xs (x ∷ []) in
      rw (drop_all first (xs ++ x ∷ []) (omega arith), drop_all first xs (omega arith)) refl

  cut_after : first ≤ length xs → first + count ≤ length xs → take count (drop first (xs ++ x ∷ [])) ≡ take count (drop first xs)
  cut_after low high =
      let n = length-drop first xs in
      rw (drop-append-le first xs (x ∷ []) low) (take-append-le count (drop first xs) (x ∷ []) (omega arith))

  cut_out : ((first ≤ length xs) × (length xs < first + count) → ⊥) → take count (drop first (xs ++ x ∷ [])) ≡ take count (drop first xs)
  cut_out outside = elim (leb_tells first (length xs)) [
    | inl low ↦ elim (leb_tells (first + count) (length xs)) [ inl high ↦ cut_after low.1 high.1 | inr inside ↦ absurd (outside (low.1, inside.1)) ]
    | inr below ↦ cut_before below.1
  ]

-- ---- one more row

joined_more : (rs : List (List ℕ)) (r : List ℕ) → joined (rs ++ r ∷ []) ≡ joined rs ++ r
joined_more rs r = flat_map-append (λ (x : List ℕ). x) rs (r ∷ []) ∙ ap (λ (t : List ℕ). joined rs ++ t) (append-nil r)

-- the stretch has the event before which there are so many
abbrev IsInside : Stretch → ℕ → Type 0
IsInside s n = (s.from - 1 ≤ n) × (n < s.from - 1 + s.count)

module _ (s : Stretch) (rs : List (List ℕ)) (r : List ℕ) (n : ℕ) (so_many : length rs ≡ n) where
  shown_in : IsInside s n → joined (stretch_of s (rs ++ r ∷ [])) ≡ joined (stretch_of s rs) ++ r
  shown_in inside =
      ap joined (cut_in (s.from - 1) s.count rs r (omega (arith, so_many, inside.0)) (omega (arith, so_many, inside.1)))
      ∙ joined_more (stretch_of s rs) r

  shown_out : (IsInside s n → ⊥) → joined (stretch_of s (rs ++ r ∷ [])) ≡ joined (stretch_of s rs)
  shown_out outside = ap joined (cut_out (s.from - 1) s.count rs r (λ h. outside (subst (λ (k : ℕ). IsInside s k) so_many h)))

  -- a text has the rows of a stretch so far, and one more where that is shown
  text_more : (first old new : List ℕ) (shown : Bool) → ((shown ≡ true) ↔ IsInside s n) → old ≡ first ++ joined (stretch_of s rs) → new ≡ old ++ (if shown then r else []) →
      new ≡ first ++ joined (stretch_of s (rs ++ r ∷ []))
  text_more first old new true has is text =
      text ∙ ap (λ (t : List ℕ). t ++ r) is ∙ append_assoc first (joined (stretch_of s rs)) r ∙ ap (λ (t : List ℕ). first ++ t) (sym (shown_in (has.0 refl)))
  text_more first old new false has is text =
      text ∙ append-nil old ∙ is ∙ ap (λ (t : List ℕ). first ++ t) (sym (shown_out (λ inside. (let bad : false ≡ true = has.1 inside in cc))))

-- ---- what stands before the rows and after them

before_rows : (text head line word number rows : List ℕ) → (((text ++ head) ++ line) ++ (word ++ number)) ++ rows ≡ text ++ (head ++ (((line ++ word) ++ number) ++ rows))
before_rows text head line word number rows = simp append_assoc

pub put_first : (t0 t1 t2 t3 t4 reported head line word number rows : List ℕ) → t4 ≡ t3 ++ rows → t3 ≡ t2 ++ (word ++ number) → t2 ≡ t1 ++ line → t1 ≡ t0 ++ reported → reported ≡ head → t4 ≡ t0 ++ (head ++ (((line ++ word) ++ number) ++ rows))
put_first t0 t1 t2 t3 t4 reported head line word number rows a b c d e = a ∙ rw (b, c, d, e) (before_rows t0 head line word number rows)

closing_parts : (t a before b n e : List ℕ) → (((t ++ a) ++ before) ++ (b ++ n)) ++ e ≡ t ++ ((((a ++ before) ++ b) ++ n) ++ e)
closing_parts t a before b n e = simp append_assoc

pub put_closing : (t0 t1 t2 t3 t4 reported a before b n e : List ℕ) → t4 ≡ t3 ++ e → t3 ≡ t2 ++ (b ++ n) → t2 ≡ t1 ++ reported → t1 ≡ t0 ++ a → reported ≡ before → t4 ≡ t0 ++ ((((a ++ before) ++ b) ++ n) ++ e)
put_closing t0 t1 t2 t3 t4 reported a before b n e x y z u v = x ∙ rw (y, z, u, v) (closing_parts t0 a before b n e)

after_rows : (text last middle state between listed tail : List ℕ) → (((((text ++ last) ++ middle) ++ state) ++ between) ++ listed) ++ tail ≡ text ++ (((((last ++ middle) ++ state) ++ between) ++ listed) ++ tail)
after_rows text last middle state between listed tail = simp append_assoc

pub put_last : (t0 t1 t2 t3 t4 t5 t6 m1 b1 l1 e1 last middle state between listed tail : List ℕ) →
    t6 ≡ t5 ++ e1 → t5 ≡ t4 ++ l1 → t4 ≡ t3 ++ b1 → t3 ≡ t2 ++ state → t2 ≡ t1 ++ m1 → t1 ≡ t0 ++ last → m1 ≡ middle → b1 ≡ between → l1 ≡ listed → e1 ≡ tail →
    t6 ≡ t0 ++ (((((last ++ middle) ++ state) ++ between) ++ listed) ++ tail)
put_last t0 t1 t2 t3 t4 t5 t6 m1 b1 l1 e1 last middle state between listed tail a b c d e f g h i j =
    a ∙ rw (b, c, d, e, f, g, h, i, j) (after_rows t0 last middle state between listed tail)

-- ---- four parts

four_parts : (t a b d e : List ℕ) → (((t ++ a) ++ b) ++ d) ++ e ≡ t ++ (((a ++ b) ++ d) ++ e)
four_parts t a b d e = simp append_assoc

pub put_four : (t0 t1 t2 t3 t4 a b d e : List ℕ) → t4 ≡ t3 ++ e → t3 ≡ t2 ++ d → t2 ≡ t1 ++ b → t1 ≡ t0 ++ a → t4 ≡ t0 ++ (((a ++ b) ++ d) ++ e)
put_four t0 t1 t2 t3 t4 a b d e x y z u = x ∙ rw (y, z, u) (four_parts t0 a b d e)

-- ---- all that a desk holds

-- one more member of a list
pub flat_more : {A : Type 0} (text : A → List ℕ) (xs : List A) (i : ℕ) (d : A) → i < length xs → flat_map text (take (i + 1) xs) ≡ flat_map text (take i xs) ++ text (get_or xs i d)
flat_more text xs i d lt =
    ap (flat_map text) (take_more xs i d lt)
    ∙ flat_map-append text (take i xs) (get_or xs i d ∷ [])
    ∙ ap (λ (t : List ℕ). flat_map text (take i xs) ++ t) (append-nil (text (get_or xs i d)))

-- one more name
pub names_more : (f : Form) (w : DeskValue) (before : ℕ) → name_facts f w (before + 1) ≡ name_facts f w before ++ name_fact f (before + 1) (owner_reply w (before + 1))
unfolding name_facts
names_more f w before =
    let is : before + 1 ≡ suc before = omega arith in
    subst (λ (n : ℕ). name_facts f w n ≡ name_facts f w before ++ name_fact f n (owner_reply w n)) (sym is) refl

-- ---- the state before a stretch

module _ (c : Config) (s : Stretch) where
  -- no event of the stretch is among these lines
  none_yet : (ls : List Line) → length ls ≤ s.from - 1 → state_before c s ls ≡ []
  none_yet ls low = elim (leb_tells (length ls) (s.from - 1)) [
    | inl is ↦ ap (λ (b : Bool). if b then [] else state_after Data c (lines_before s ls)) is.0
    | inr out ↦ absurd (omega (arith, out.1, low))
  ]

  -- one is
  one_came : (ls : List Line) → s.from - 1 < length ls → state_before c s ls ≡ state_after Data c (lines_before s ls)
  one_came ls high = elim (leb_tells (length ls) (s.from - 1)) [
    | inl is ↦ absurd (omega (arith, is.1, high))
    | inr is ↦ ap (λ (b : Bool). if b then [] else state_after Data c (lines_before s ls)) is.0
  ]

  -- and the state stays as it is
  later : (ls : List Line) (l : Line) → s.from - 1 < length ls → state_before c s (ls ++ l ∷ []) ≡ state_before c s ls
  later ls l high =
      let n = length-append ls (l ∷ []) in
      one_came (ls ++ l ∷ []) (omega (arith, n, high))
      ∙ ap (state_after Data c) (take-append-le (s.from - 1) ls (l ∷ []) (omega (arith, high)))
      ∙ sym (one_came ls high)

  before_more : (ls : List Line) (l : Line) (old new : List ℕ) (first : Bool) → ((first ≡ true) ↔ (length ls ≡ s.from - 1)) → old ≡ state_before c s ls →
      new ≡ old ++ (if first then state_after Data c ls else []) → new ≡ state_before c s (ls ++ l ∷ [])
  before_more ls l old new true has was is =
      let n = length-append ls (l ∷ []) in
      let first = has.0 refl in
      let all : lines_before s (ls ++ l ∷ []) ≡ ls = take-append-le (s.from - 1) ls (l ∷ []) (omega (arith, first)) ∙ take_all (s.from - 1) ls (omega (arith, first)) in
      is ∙ ap (λ (t : List ℕ). t ++ state_after Data c ls) (was ∙ none_yet ls (omega (arith, first)))
      ∙ sym (one_came (ls ++ l ∷ []) (omega (arith, n, first)) ∙ ap (state_after Data c) all)
  before_more ls l old new false has was is =
      let n = length-append ls (l ∷ []) in
      let kept = is ∙ append-nil old ∙ was in
      elim (leb_tells (suc (length ls)) (s.from - 1)) [
        | inl low ↦ kept ∙ none_yet ls (omega (arith, low.1)) ∙ sym (none_yet (ls ++ l ∷ []) (omega (arith, n, low.1)))
        | inr high ↦ elim (eqb_tells (length ls) (s.from - 1)) [
          | inl same ↦ absurd (let bad : false ≡ true = has.1 same.1 in cc)
          | inr other ↦ kept ∙ sym (later ls l (omega (arith, high.1, other.1)))
        ]
      ]

-- ---- the desk of a config

pub fresh_is : (c : Config) (d : DeskValue) → IsFreshDesk c d → d ≡ fresh_desk c
fresh_is c d h = ((desk.fresh_is c d).0 h).is

-- ---- what is gathered

-- of nothing there is no text
none_shown : (s : Stretch) → joined (stretch_of s []) ≡ []
none_shown s =
    let empty : List (List ℕ) = [] in
    let none : drop (s.from - 1) empty ≡ [] = drop_all (s.from - 1) empty (omega arith) in
    ap joined (ap (take s.count) none ∙ take_all s.count empty (omega arith))

pub no_rows : (c : Config) (s : Stretch) → shown_rows c s [] ≡ []
no_rows c s = none_shown s

pub no_items : (c : Config) (s : Stretch) → shown_items c s [] ≡ []
no_items c s = none_shown s

pub no_state : (c : Config) (s : Stretch) → state_before c s [] ≡ []
no_state c s = none_yet c s [] (omega arith)

-- one more line was replayed
module _ (l : Line) (s s' : Sheet) (shown first : Bool) (has : (shown ≡ true) ↔ IsInside s.stretch s.seen) (begins : (first ≡ true) ↔ (s.seen ≡ s.stretch.from - 1)) where
  pub put_more : s'.desk ≡ desk_next s.desk l → s'.begun.items ≡ begun_after s.begun.items l → s'.reached.items ≡ with_reached s.reached.items (access_in (done_at s.desk l)) →
      s'.stretch ≡ s.stretch → s'.seen ≡ s.seen + 1 → s'.before ≡ s.before ++ (if first then state Data s.desk s.begun.items s.reached.items else []) →
      s'.text ≡ s.text ++ (if shown then row_of l (done_at s.desk l) else []) →
      s'.listed ≡ s.listed ++ (if shown then item_of s'.begun.items s'.seen l (done_at s.desk l) else []) → Gathers HasPut l s s'
  put_more desk begun reached stretch seen before text listed c lines o h follows =
      let w = fresh_desk c in
      let n = length-append lines (l ∷ []) in
      let m = h.seen in
      let counted = count_is 0 lines in
      let begun_is : s'.begun.items ≡ begun_after (begun_in [] lines) l = begun ∙ ap (λ (ids : List ℕ). begun_after ids l) h.begun in
      let number : s'.seen ≡ suc (count_after 0 lines) = omega (arith, seen, h.seen, counted) in
      let reached_is : s'.reached.items ≡ with_reached (reached_in [] w lines) (access_in (done_at (replayed w lines) l)) =
      reached
      ∙ ap (λ (places : List ℕ). with_reached places (access_in (done_at s.desk l))) h.reached
      ∙ ap (λ (v : DeskValue). with_reached (reached_in [] w lines) (access_in (done_at v l))) h.desk in
      let state_is : state Data s.desk s.begun.items s.reached.items ≡ state_after Data c lines =
      ap (λ (v : DeskValue). state Data v s.begun.items s.reached.items) h.desk
      ∙ ap (λ (ids : List ℕ). state Data (replayed w lines) ids s.reached.items) h.begun
      ∙ ap (λ (places : List ℕ). state Data (replayed w lines) (begun_in [] lines) places) h.reached in
      let before_is =
      before_more c s.stretch lines l s.before s'.before first (subst (λ (k : ℕ). (first ≡ true) ↔ (k ≡ s.stretch.from - 1)) h.seen begins) h.before
      (before ∙ ap (λ (t : List ℕ). s.before ++ (if first then t else [])) state_is) in
      let row = text ∙ ap (λ (v : DeskValue). s.text ++ (if shown then row_of l (done_at v l) else [])) h.desk in
      let whole =
      text_more s.stretch (rows w lines) (row_of l (done_at (replayed w lines) l)) s.seen (rows_length w lines ∙ sym h.seen) (opening c s.stretch) s.text s'.text shown has h.text row
      ∙ ap (λ (all : List (List ℕ)). opening c s.stretch ++ joined (stretch_of s.stretch all)) (sym (rows_more w lines l)) in
      let item =
      listed
      ∙ ap (λ (v : DeskValue). s.listed ++ (if shown then item_of s'.begun.items s'.seen l (done_at v l) else [])) h.desk
      ∙ ap (λ (ids : List ℕ). s.listed ++ (if shown then item_of ids s'.seen l (done_at (replayed w lines) l) else [])) begun_is
      ∙ ap (λ (k : ℕ). s.listed ++ (if shown then item_of (begun_after (begun_in [] lines) l) k l (done_at (replayed w lines) l) else [])) number in
      let all_items =
      text_more s.stretch (items [] 0 w lines) (item_of (begun_after (begun_in [] lines) l) (suc (count_after 0 lines)) l (done_at (replayed w lines) l)) s.seen (items_length [] 0 w lines ∙ sym h.seen)
      [] s.listed s'.listed shown has h.listed item
      ∙ ap (λ (all : List (List ℕ)). joined (stretch_of s.stretch all)) (sym (items_more [] 0 w lines l)) in
      record {
        desk = desk ∙ ap (λ (v : DeskValue). desk_next v l) h.desk ∙ sym (replayed_more w lines l);
        begun = begun_is ∙ sym (begun_more [] lines l);
        reached = reached_is ∙ sym (reached_more [] w lines l);
        seen = omega (arith, seen);
        before = subst (λ (x : Stretch). s'.before ≡ state_before c x (lines ++ l ∷ [])) (sym stretch) before_is;
        text = subst (λ (x : Stretch). s'.text ≡ opening c x ++ shown_rows c x (lines ++ l ∷ [])) (sym stretch) whole;
        listed = subst (λ (x : Stretch). s'.listed ≡ shown_items c x (lines ++ l ∷ [])) (sym stretch) all_items;
      }

-- ---- the whole page

pub same_stretch : (s t : Stretch) → s.from ≡ t.from → s.count ≡ t.count → s ≡ t
same_stretch s t a b =
    let with_from : s ≡ record { from = t.from; count = s.count } = ap (λ (n : ℕ). (let x : Stretch = record { from = n; count = s.count } in x)) a in
    with_from ∙ ap (λ (n : ℕ). (let x : Stretch = record { from = t.from; count = n } in x)) b

-- the state of the desk on which the lines were replayed
state_is : (f : Form) (c : Config) (lines : List Line) (s : Sheet) → HasPut c lines s → state f s.desk s.begun.items s.reached.items ≡ state_after f c lines
state_is f c lines s h =
    ap (λ (v : DeskValue). state f v s.begun.items s.reached.items) h.desk
    ∙ ap (λ (ids : List ℕ). state f (replayed (fresh_desk c) lines) ids s.reached.items) h.begun
    ∙ ap (λ (places : List ℕ). state f (replayed (fresh_desk c) lines) (begun_in [] lines) places) h.reached

-- where a page is ended, the state before its stretch is whole
whole_is : (c : Config) (s : Sheet) (lines : List Line) → HasPut c lines s → whole_before s ≡ state_after Data c (lines_before s.stretch lines)
whole_is c s lines h =
    let now = state Data s.desk s.begun.items s.reached.items in
    let text = λ (b : Bool). s.before ++ (if b then now else []) in
    elim (leb_tells s.seen (s.stretch.from - 1)) [
      | inl low ↦
          let all : lines_before s.stretch lines ≡ lines = take_all (s.stretch.from - 1) lines (omega (arith, low.1, h.seen)) in
          ap text low.0 ∙ ap (λ (t : List ℕ). t ++ now) (h.before ∙ none_yet c s.stretch lines (omega (arith, low.1, h.seen)))
          ∙ state_is Data c lines s h ∙ sym (ap (state_after Data c) all)
      | inr high ↦ ap text high.0 ∙ append-nil s.before ∙ h.before ∙ one_came c s.stretch lines (omega (arith, high.1, h.seen))
    ]

grouped : (head first rows last middle state between listed tail : List ℕ) →
    ((head ++ first) ++ rows) ++ (((((last ++ middle) ++ state) ++ between) ++ listed) ++ tail) ≡ (((((head ++ ((first ++ rows) ++ last)) ++ middle) ++ state) ++ between) ++ listed) ++ tail
grouped head first rows last middle state between listed tail = simp append_assoc

pub is_page : (bytes : List ℕ) (stretch : Stretch) (h : Header) (head : List ℕ) (lines : List (List ℕ)) → record_lines bytes ≡ head ∷ lines → IsHeaderLine head h → (s : Sheet) (text : List ℕ) → AreGathered h lines (λ ls. HasPut h.config ls s) → IsPageOf s stretch text →
    IsPage bytes stretch text
is_page bytes stretch h head lines is says s text a p =
    let c = h.config in
    let ls = a.run.lines in
    let before = state_after Data c (lines_before s.stretch ls) in
    let done = λ (closing state items : List ℕ). (opening c s.stretch ++ shown_rows c s.stretch ls) ++ (closing ++ page_middle ++ state ++ page_between ++ items ++ page_tail) in
    let whole : text ≡ page c s.stretch ls =
    p.text_is
    ∙ ap (λ (t : List ℕ). t ++ ending (whole_before s) s.desk s.begun.items s.reached.items s.seen s.listed) a.gathered.text
    ∙ ap (λ (t : List ℕ). done (closing_data t s.seen) (state Item s.desk s.begun.items s.reached.items) s.listed) (whole_is c s ls a.gathered)
    ∙ ap (λ (n : ℕ). done (closing_data before n) (state Item s.desk s.begun.items s.reached.items) s.listed) a.gathered.seen
    ∙ ap (λ (t : List ℕ). done (closing_data before (length ls)) t s.listed) (state_is Item c ls s a.gathered)
    ∙ ap (λ (t : List ℕ). done (closing_data before (length ls)) (state_after Item c ls) t) a.gathered.listed
    ∙ grouped page_head (opening_data c s.stretch) (shown_rows c s.stretch ls) (closing_data before (length ls)) page_middle (state_after Item c ls) page_between (shown_items c s.stretch ls) page_tail in
    record {
      head = head;
      rows = lines;
      is = is;
      header = h;
      says = says;
      lines = a.run.lines;
      read = a.run.read;
      said = inl (inl (record { head = head; rows = lines; is = is; header = h; says = says; said = a.run }));
      text_is = subst (λ (x : Stretch). text ≡ page c x a.run.lines) p.same whole;
    }
