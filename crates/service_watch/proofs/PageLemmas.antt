-- what is appended to a page, one text after another
use Rattle.std.proofs.Common.{◌≡◌, ◌∙◌, ℕ, suc, ◌+◌, ◌<◌, List, [], ◌∷◌, ◌++◌, take, length, get_or, flat_map, Result, Ok, Err, OnOk, sym, ap, append_assoc, arith}
use Rattle.std.proofs.lemmas.Grind.{flat_map-append}
use Rattle.std.proofs.lemmas.List.{append-nil, length-take-le, take_more}
use Rattle.service_watch.specs.Page.{refusal_text, refusals_text}

-- a text was appended, and then more
pub appended : (p q s x y : List ℕ) → q ≡ p ++ x → s ≡ q ++ y → s ≡ p ++ (x ++ y)
appended p q s x y one two = two ∙ ap (λ l. l ++ y) one ∙ append_assoc p x y

pub then_appended : {T E : Type 0} (result : Result T E) (p q s x y : List ℕ) → q ≡ p ++ x → OnOk result (s ≡ q ++ y) → OnOk result (s ≡ p ++ (x ++ y))
then_appended (Ok done) p q s x y one two = appended p q s x y one two
then_appended (Err fault) p q s x y one two = tt

-- the text of one item more
pub flat_appended : {A : Type 0} (text : A → List ℕ) (xs : List A) (i : ℕ) (d : A) (p q s : List ℕ) → i < length xs → q ≡ p ++ flat_map text (take i xs) → s ≡ q ++ text (get_or xs i d) →
    s ≡ p ++ flat_map text (take (i + 1) xs)
flat_appended text xs i d p q s below one two =
    appended p q s (flat_map text (take i xs)) (text (get_or xs i d)) one two ∙ ap (λ l. p ++ l) (sym (
    ap (flat_map text) (take_more xs i d below) ∙ flat_map-append text (take i xs) (get_or xs i d ∷ []) ∙ ap (λ l. flat_map text (take i xs) ++ l) (append-nil (text (get_or xs i d)))))

-- one refusal more
refusals_then : (name : List ℕ) (first : ℕ) (xs : List ℕ) (n : ℕ) → refusals_text name first (xs ++ n ∷ []) ≡ refusals_text name first xs ++ refusal_text name (length xs + first) n
refusals_then name first [] n =
    let same : first ≡ 0 + first = omega arith in
    append-nil (refusal_text name first n) ∙ ap (λ i. refusal_text name i n) same
refusals_then name first (x ∷ xs) n =
    let same : length xs + (first + 1) ≡ suc (length xs) + first = omega arith in
    ap (λ l. refusal_text name first x ++ l) (refusals_then name (first + 1) xs n) ∙
    sym (append_assoc (refusal_text name first x) (refusals_text name (first + 1) xs) (refusal_text name (length xs + (first + 1)) n)) ∙
    ap (λ i. (refusal_text name first x ++ refusals_text name (first + 1) xs) ++ refusal_text name i n) same

pub refusal_appended : (name : List ℕ) (ns : List ℕ) (at : ℕ) (p q s : List ℕ) → at < length ns → q ≡ p ++ refusals_text name 1 (take at ns) → s ≡ q ++ refusal_text name (at + 1) (get_or ns at 0) →
    s ≡ p ++ refusals_text name 1 (take (at + 1) ns)
refusal_appended name ns at p q s below one two =
    let many : length (take at ns) ≡ at = length-take-le at ns (omega (arith, below)) in
    appended p q s (refusals_text name 1 (take at ns)) (refusal_text name (at + 1) (get_or ns at 0)) one two ∙ ap (λ l. p ++ l) (sym (
    ap (refusals_text name 1) (take_more ns at 0 below) ∙ refusals_then name 1 (take at ns) (get_or ns at 0) ∙
    ap (λ i. refusals_text name 1 (take at ns) ++ refusal_text name (i + 1) (get_or ns at 0)) many))
