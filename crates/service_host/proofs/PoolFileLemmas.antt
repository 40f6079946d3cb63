-- the words of a line, and the pools that lines list
use Rattle.std.proofs.Common.{◌≡◌, ◌≢◌, ◌<◌, ◌≤◌, ◌==◌, nat_eq, ℕ, zero, suc, Bool, true, false, not, List, [], ◌∷◌, ◌++◌, length, get_or, map, filter, is_some, Option, Some, None, MatchOption, Bor, All, inl, inr, refl, sym, ap, ◌∙◌, subst, append-nil, append_assoc, arith}
use Rattle.std.specs.Char.{is_ascii_whitespace}
use Rattle.std.specs.List.{AllPass, list_all}
use Rattle.std.specs.Cmp.Lexicographic.{pointwise}
use Rattle.std.specs.Str.{NoCharPasses}
use Rattle.std.specs.Str.Iter.{CutsAsciiWord}
use Rattle.std.proofs.lemmas.Bool.{and_parts, eq-eqb}
use Rattle.std.proofs.lemmas.List.{get_or_default}
use Rattle.std.proofs.lemmas.Bool.Decides.{leb_tells, nat_tests}
use Rattle.std.proofs.lemmas.List.Elements.{All-append, All-from_get_or}
use Rattle.std.proofs.lemmas.List.Sums.{list_all-from_AllPass}
use Rattle.std.proofs.lemmas.Str.{NoCharPasses-byte}
use Rattle.service_host.specs.PoolFile.{GivesGraceElse, GivesSize, HasNone, ListInOrder, ListsPool, NoneTwice, ended, saying, says_nothing, words_behind, words_in}
use Rattle.service_host.specs.declared.pool_file.PoolPlan.{PoolPlan}

-- white space before a word parts nothing
past_gap : (gap rest : List ℕ) → list_all is_ascii_whitespace gap ≡ true → words_behind [] (gap ++ rest) ≡ words_behind [] rest
past_gap [] rest all = refl
past_gap (b ∷ gap) rest all = let both = and_parts (is_ascii_whitespace b) (list_all is_ascii_whitespace gap) all in rw both.0 (past_gap gap rest both.1)

-- a byte of a word is no white space
abbrev is_black : ℕ → Bool
is_black b = not (is_ascii_whitespace b)

unblack : (white : Bool) → not white ≡ true → white ≡ false
unblack true is = absurd (let differ : false ≡ true = is in cc)
unblack false is = refl

along_word : (begun word rest : List ℕ) → list_all is_black word ≡ true → words_behind begun (word ++ rest) ≡ words_behind (begun ++ word) rest
along_word begun [] rest all = ap (λ (w : List ℕ). words_behind w rest) (sym (append-nil begun))
along_word begun (b ∷ word) rest all =
    let both = and_parts (is_black b) (list_all is_black word) all in
    let black : is_ascii_whitespace b ≡ false = unblack (is_ascii_whitespace b) both.0 in
    rw black (along_word (begun ++ b ∷ []) word rest both.1 ∙ ap (λ (w : List ℕ). words_behind w rest) (append_assoc begun (b ∷ []) word))

-- white space behind a word ends it, and so does the end of the line
at_end_of_word : (word sep rest : List ℕ) → 0 < length word → list_all is_ascii_whitespace sep ≡ true → length sep ≤ 1 → (length sep ≡ 0 → length rest ≡ 0) →
    words_behind word (sep ++ rest) ≡ word ∷ words_behind [] rest
at_end_of_word [] sep rest some white one last = absurd (omega (arith, some))
at_end_of_word (c ∷ word) [] [] some white one last = refl
at_end_of_word (c ∷ word) [] (b ∷ rest) some white one last = absurd (let no = last refl in omega (arith, no))
at_end_of_word (c ∷ word) (b ∷ []) rest some white one last = let both = and_parts (is_ascii_whitespace b) true white in rw both.0 refl
at_end_of_word (c ∷ word) (b ∷ d ∷ sep) rest some white one last = absurd (omega (arith, one))

-- a byte of a text without white space among its characters is none
white_is_low : (b : ℕ) → 128 ≤ b → is_ascii_whitespace b ≡ false
white_is_low b high = grind (arith, nat_tests)

black_bytes : (word : List ℕ) → NoCharPasses is_ascii_whitespace word → list_all is_black word ≡ true
black_bytes word none = list_all-from_AllPass is_black word (All-from_get_or (λ b. is_black b ≡ true) word 0 (λ i within. at i within)) where
  at : (i : ℕ) → i < length word → is_black (get_or word i 0) ≡ true
  at i within = elim (leb_tells 128 (get_or word i 0)) [
    | inl high ↦ (let no = white_is_low (get_or word i 0) high.1 in rw no refl)
    | inr low ↦ (let less = low.1 in let no = NoCharPasses-byte is_ascii_whitespace word i none within less in rw no refl)
  ]

-- what is cut off a line is its first word
pub word_cut : (line : List ℕ) (r : Option (Bor (List ℕ))) (rest : List ℕ) → CutsAsciiWord line r rest (λ gap x sep. gap ++ (x ++ (sep ++ rest))) →
    MatchOption r ((words_in line ≡ []) × (words_in rest ≡ [])) (λ x. (words_in line ≡ x.now ∷ words_in rest) × (0 < length x.now))
word_cut line None rest cut =
    let all = list_all-from_AllPass is_ascii_whitespace line cut.0 in
    let none : words_in line ≡ [] = ap words_in (sym (append-nil line)) ∙ past_gap line [] all in
    (none, ap words_in (empty rest cut.1)) where
      empty : (xs : List ℕ) → length xs ≡ 0 → xs ≡ []
      empty [] none = refl
      empty (x ∷ xs) none = absurd (omega (arith, none))
word_cut line (Some x) rest cut =
    let gap = cut.3.0 in
    let sep = cut.3.1 in
    let word = x.now in
    let first = past_gap gap (word ++ (sep ++ rest)) (list_all-from_AllPass is_ascii_whitespace gap cut.3.3) in
    let along = along_word [] word (sep ++ rest) (black_bytes word cut.1) in
    let last = at_end_of_word word sep rest cut.0 (list_all-from_AllPass is_ascii_whitespace sep cut.3.4.0) cut.3.4.1 cut.3.4.2 in
    (ap words_in cut.3.2 ∙ (first ∙ (along ∙ last)), cut.0)

-- a name that differs from another by a test does
same_name : (xs : List ℕ) → pointwise nat_eq xs xs ≡ true
same_name [] = refl
same_name (x ∷ xs) = rw (eq-eqb x x refl) (same_name xs)

pub differs_by : (pools : List PoolPlan) (i : ℕ) (e : PoolPlan) (name : List ℕ) → i < length pools → pointwise nat_eq (get_or pools i e).name.now name ≡ false → (d : PoolPlan) →
    (get_or pools i d).name.now ≢ name
differs_by pools i e name within test d same =
    let is : (get_or pools i e).name.now ≡ name = ap (λ (p : PoolPlan). p.name.now) (get_or_default pools i e d within) ∙ same in
    let no : true ≡ false = sym (same_name name) ∙ subst (λ (n : List ℕ). pointwise nat_eq n name ≡ false) is test in
    absurd (cc)

-- one line more that lists a pool
pub lists_more : (grace : Option ℕ) (lines : List (List ℕ)) (pools : List PoolPlan) (line : List ℕ) (pool : PoolPlan) → ListInOrder grace lines pools → ListsPool grace (words_in line) pool →
    ListInOrder grace (lines ++ line ∷ []) (pools ++ pool ∷ [])
lists_more grace [] [] line pool each lists = (lists, tt)
lists_more grace (l ∷ lines) (p ∷ pools) line pool each lists = (each.0, lists_more grace lines pools line pool each.1 lists)
lists_more grace [] (p ∷ pools) line pool each lists = absurd each
lists_more grace (l ∷ lines) [] line pool each lists = absurd each

-- and one pool more, of a name of its own
pub none_twice_more : (pools : List PoolPlan) (pool : PoolPlan) → NoneTwice pools → HasNone pools pool.name.now → NoneTwice (pools ++ pool ∷ [])
none_twice_more [] pool none own = ((λ k d few. absurd (omega (arith, few))), tt)
none_twice_more (p ∷ pools) pool none own =
    let differs : p.name.now ≢ pool.name.now = own 0 p (omega arith) in
    let alone : HasNone (pool ∷ []) p.name.now = λ k d few. let first : k ≡ 0 = omega (arith, few) in
    subst (λ (i : ℕ). (get_or (pool ∷ []) i d).name.now ≢ p.name.now) (sym first) (λ same. differs (sym same)) in (
      All-append (λ (o : PoolPlan). o.name.now ≢ p.name.now) pools (pool ∷ []) none.0 alone,
      none_twice_more pools pool none.1 (λ k d few. own (suc k) d (omega (arith, few))),
    )

-- a line more that says nothing, or something
saying_app : (lines more : List (List ℕ)) → saying (lines ++ more) ≡ saying lines ++ saying more
saying_app [] more = refl
saying_app (l ∷ lines) more = one (saying_app lines more) (says_nothing (words_in l)) refl where
  one : saying (lines ++ more) ≡ saying lines ++ saying more → (silent : Bool) → says_nothing (words_in l) ≡ silent → saying ((l ∷ lines) ++ more) ≡ saying (l ∷ lines) ++ saying more
  one rest true is = rw is rest
  one rest false is = rw is (ap (λ (ls : List (List ℕ)). l ∷ ls) rest)

pub saying_silent : (lines : List (List ℕ)) (line : List ℕ) → says_nothing (words_in line) ≡ true → saying (lines ++ line ∷ []) ≡ saying lines
saying_silent lines line silent = saying_app lines (line ∷ []) ∙ (let none : saying (line ∷ []) ≡ [] = rw silent refl in ap (λ (more : List (List ℕ)). saying lines ++ more) none ∙ append-nil (saying lines))

pub saying_more : (lines : List (List ℕ)) (line : List ℕ) → says_nothing (words_in line) ≡ false → saying (lines ++ line ∷ []) ≡ saying lines ++ line ∷ []
saying_more lines line says = saying_app lines (line ∷ []) ∙ (let one : saying (line ∷ []) ≡ line ∷ [] = rw says refl in ap (λ (more : List (List ℕ)). saying lines ++ more) one)

-- what a word is, and where there is none
abbrev pub IsCut : List ℕ → Option (Bor (List ℕ)) → List ℕ → Type 0
IsCut line r rest = MatchOption r ((words_in line ≡ []) × (words_in rest ≡ [])) (λ x. (words_in line ≡ x.now ∷ words_in rest) × (0 < length x.now))

-- a line lists a pool whose words were cut off one after another
pub lists_by_words : (grace : Option ℕ) (line t1 t2 t3 t4 : List ℕ) (name size : Bor (List ℕ)) (word last : Option (Bor (List ℕ))) (pool : PoolPlan) →
    IsCut line (Some name) t1 → IsCut t1 (Some size) t2 → IsCut t2 word t3 → IsCut t3 last t4 → is_some last ≡ false →
    pool.name.now ≡ name.now → GivesSize size.now pool.size → GivesGraceElse grace word pool.grace → ListsPool grace (words_in line) pool
lists_by_words grace line t1 t2 t3 t4 name size word (Some x) pool first second third fourth over named sized graced = absurd (let differ : true ≡ false = over in cc)
lists_by_words grace line t1 t2 t3 t4 name size None None pool first second third fourth over named sized graced =
    let all : words_in line ≡ name.now ∷ size.now ∷ [] = first.0 ∙ ap (λ (ws : List (List ℕ)). name.now ∷ ws) (second.0 ∙ ap (λ (ws : List (List ℕ)). size.now ∷ ws) third.0) in
    subst (λ (ws : List (List ℕ)). ListsPool grace ws pool) (sym all) (named, sized, graced)
lists_by_words grace line t1 t2 t3 t4 name size (Some w) None pool first second third fourth over named sized graced =
    let all : words_in line ≡ name.now ∷ size.now ∷ w.now ∷ [] =
    first.0 ∙ ap (λ (ws : List (List ℕ)). name.now ∷ ws) (second.0 ∙ ap (λ (ws : List (List ℕ)). size.now ∷ ws) (third.0 ∙ ap (λ (ws : List (List ℕ)). w.now ∷ ws) fourth.0)) in
    subst (λ (ws : List (List ℕ)). ListsPool grace ws pool) (sym all) (named, sized, graced)

-- the pools that the first lines list, and then one line more
abbrev pub AreListedSoFar : Option ℕ → List (List ℕ) → List PoolPlan → Type 0
AreListedSoFar grace lines pools = ListInOrder grace (saying lines) pools × NoneTwice pools

pub listed_more : (grace : Option ℕ) (lines : List (List ℕ)) (line : List ℕ) (pools more : List PoolPlan) (pool : PoolPlan) → says_nothing (words_in line) ≡ false →
    more ≡ pools ++ pool ∷ [] → ListsPool grace (words_in line) pool → HasNone pools pool.name.now → AreListedSoFar grace lines pools → AreListedSoFar grace (lines ++ line ∷ []) more
listed_more grace lines line pools more pool says is lists own so_far =
    let each = lists_more grace (saying lines) pools line pool so_far.0 lists in
    subst (λ (ps : List PoolPlan). AreListedSoFar grace (lines ++ line ∷ []) ps) (sym is)
    (subst (λ (ls : List (List ℕ)). ListInOrder grace ls (pools ++ pool ∷ [])) (sym (saying_more lines line says)) each, none_twice_more pools pool so_far.1 own)

pub listed_silent : (grace : Option ℕ) (lines : List (List ℕ)) (line : List ℕ) (pools more : List PoolPlan) → says_nothing (words_in line) ≡ true → more ≡ pools →
    AreListedSoFar grace lines pools → AreListedSoFar grace (lines ++ line ∷ []) more
listed_silent grace lines line pools more silent is so_far =
    subst (λ (ps : List PoolPlan). AreListedSoFar grace (lines ++ line ∷ []) ps) (sym is)
    (subst (λ (ls : List (List ℕ)). ListInOrder grace ls pools) (sym (saying_silent lines line silent)) so_far.0, so_far.1)

-- no line lists a pool where there is none
pub none_listed : (grace : Option ℕ) (lines : List (List ℕ)) (pools : List PoolPlan) → ListInOrder grace lines pools → length pools ≡ 0 → lines ≡ []
none_listed grace [] [] each none = refl
none_listed grace (line ∷ lines) [] each none = absurd each
none_listed grace lines (pool ∷ pools) each none = absurd (omega (arith, none))
