-- values that stand in segments, in a row
use Rattle.std.proofs.Common.{◌≡◌, ℕ, zero, suc, ◌+◌, ◌-◌, ◌<◌, ◌≤◌, List, [], ◌∷◌, ◌++◌, length, get_or, map, replicate, set, Option, None, refl, sym, ap, ◌∙◌, arith, append_assoc, length-append}
use Rattle.std.proofs.lemmas.List.{map-append, map-set, length-map, length-replicate, length-set}
use Rattle.model_steps.specs.declared.record.Record.{Record}
use Rattle.model_renaming.specs.declared.over.grid_register.GridValue.{GridValue}
use Rattle.model_renaming.specs.declared.over.grid_register.GridValue.TheVariants.{Contents}
use Rattle.model_renaming.specs.over.Grid.{contents_of, AreContents, made_of, segments_for, fresh_grid}
use Rattle.model_renaming.specs.over.GridTies.{IsEmptyGrid}

map-replicate : {A B : Type 0} (f : A → B) (n : ℕ) (x : A) → map f (replicate n x) ≡ replicate n (f x)
map-replicate f zero x = refl
map-replicate f (suc n) x = ap (λ xs. f x ∷ xs) (map-replicate f n x)

-- as many empty segments
pub empty_contents : (n : ℕ) → AreContents (replicate n (Contents None))
empty_contents n = map-replicate (λ v. Contents (contents_of v)) n (Contents None)

pub contents-empty : (n : ℕ) → map contents_of (replicate n (Contents None)) ≡ replicate n None
contents-empty n = map-replicate contents_of n (Contents None)

pub contents-put : (values : List GridValue) (i : ℕ) (segment : Option Record) → AreContents values → AreContents (set values i (Contents segment))
contents-put values i segment h = map-set (λ v. Contents (contents_of v)) values i (Contents segment) ∙ ap (λ vs. set vs i (Contents segment)) h

-- also where there is no segment
still_empty : (n i : ℕ) → get_or (replicate {A = Option Record} n None) i None ≡ None
still_empty zero i = refl
still_empty (suc n) zero = refl
still_empty (suc n) (suc i) = still_empty n i

-- ---- segments that are made, and those behind them

replicate_both : {A : Type 0} (k n : ℕ) (x : A) → replicate k x ++ replicate n x ≡ replicate (k + n) x
replicate_both zero n x = ap (λ m. replicate m x) (let e : n ≡ 0 + n = omega arith in e)
replicate_both (suc k) n x = ap (λ xs. x ∷ xs) (replicate_both k n x) ∙ ap (λ m. replicate m x) (let e : suc (k + n) ≡ suc k + n = omega arith in e)

-- more are made, as long as there are places
pub more_made : (places k : ℕ) (values : List GridValue) → length values + k ≤ places → made_of places (map contents_of (values ++ replicate k (Contents None))) ≡ made_of places (map contents_of values)
more_made places k values l =
    let xs = map contents_of values in
    let more : map contents_of (values ++ replicate k (Contents None)) ≡ xs ++ replicate k None = map-append contents_of values (replicate k (Contents None)) ∙ ap (λ ys. xs ++ ys) (contents-empty k) in
    let count : length (xs ++ replicate k None) ≡ length values + k = length-append xs (replicate k None) ∙ (λ i. length-map values contents_of i + length-replicate {A = Option Record} k None i) in
    let many : length xs ≡ length values = length-map values contents_of in
    let rest : k + (places - (length values + k)) ≡ places - length values = omega arith in
    (λ i. more i ++ replicate (places - (ap length more ∙ count) i) None)
    ∙ append_assoc xs (replicate k None) (replicate (places - (length values + k)) None)
    ∙ ap (λ ys. xs ++ ys) (replicate_both k (places - (length values + k)) None ∙ ap (λ n. replicate n None) rest)
    ∙ ap (λ n. xs ++ replicate (places - n) None) (sym many)

set_front : {A : Type 0} (xs ys : List A) (i : ℕ) (v : A) → i < length xs → set (xs ++ ys) i v ≡ set xs i v ++ ys
set_front [] ys i v l = absurd (omega arith)
set_front (x ∷ xs) ys zero v l = refl
set_front (x ∷ xs) ys (suc i) v l = ap (λ zs. x ∷ zs) (set_front xs ys i v (omega arith))

-- one that is made is written
pub made_put : (places i : ℕ) (values : List GridValue) (segment : Option Record) → i < length values → made_of places (map contents_of (set values i (Contents segment))) ≡ set (made_of places (map contents_of values)) i segment
made_put places i values segment l =
    let xs = map contents_of values in
    let inside : i < length xs = omega (arith, length-map values contents_of) in
    ap (made_of places) (map-set contents_of values i (Contents segment))
    ∙ ap (λ n. set xs i segment ++ replicate (places - n) None) (length-set xs i segment)
    ∙ sym (set_front xs (replicate (places - length xs) None) i segment inside)

before : {A : Type 0} (xs ys : List A) (i : ℕ) (d : A) → i < length xs → get_or (xs ++ ys) i d ≡ get_or xs i d
before [] ys i d l = absurd (omega arith)
before (x ∷ xs) ys zero d l = refl
before (x ∷ xs) ys (suc i) d l = before xs ys i d (omega arith)

behind : {A : Type 0} (xs ys : List A) (i : ℕ) (d : A) → length xs ≤ i → get_or (xs ++ ys) i d ≡ get_or ys (i - length xs) d
behind [] ys i d l = ap (λ k. get_or ys k d) (let e : i ≡ i - 0 = omega arith in e)
behind (x ∷ xs) ys zero d l = absurd (omega arith)
behind (x ∷ xs) ys (suc i) d l = behind xs ys i d (omega arith) ∙ ap (λ k. get_or ys k d) (let e : i - length xs ≡ suc i - suc (length xs) = omega arith in e)

get_map : (values : List GridValue) (i : ℕ) (d : GridValue) → i < length values → get_or (map contents_of values) i None ≡ contents_of (get_or values i d)
get_map [] i d l = absurd (omega arith)
get_map (v ∷ values) zero d l = refl
get_map (v ∷ values) (suc i) d l = get_map values i d (omega arith)

pub made_at : (places i : ℕ) (values : List GridValue) (d : GridValue) → i < length values → get_or (made_of places (map contents_of values)) i None ≡ contents_of (get_or values i d)
made_at places i values d l = before (map contents_of values) _ i None (omega (arith, l, length-map values contents_of)) ∙ get_map values i d l

pub unmade_at : (places i : ℕ) (values : List GridValue) → length values ≤ i → get_or (made_of places (map contents_of values)) i None ≡ None
unmade_at places i values l = behind (map contents_of values) _ i None (omega (arith, l, length-map values contents_of)) ∙ still_empty (places - length (map contents_of values)) (i - length (map contents_of values))

-- each value that is made is what stands in a segment
pub whole_at : (values : List GridValue) (i : ℕ) (d : GridValue) → AreContents values → i < length values → Contents (contents_of (get_or values i d)) ≡ get_or values i d
whole_at values i d h l = sym (get_whole values i d l) ∙ ap (λ vs. get_or vs i d) h
  where
    get_whole : (vs : List GridValue) (i : ℕ) (d : GridValue) → i < length vs → get_or (map (λ v. Contents (contents_of v)) vs) i d ≡ Contents (contents_of (get_or vs i d))
    get_whole [] i d l = absurd (omega arith)
    get_whole (v ∷ vs) zero d l = refl
    get_whole (v ∷ vs) (suc i) d l = get_whole vs i d (omega arith)

-- there are as many as places
pub length_made : (places : ℕ) (values : List GridValue) → length values ≤ places → length (made_of places (map contents_of values)) ≡ places
length_made places values l =
    length-append (map contents_of values) (replicate (places - length (map contents_of values)) None)
    ∙ ap (λ n. length (map contents_of values) + n) (length-replicate {A = Option Record} (places - length (map contents_of values)) None)
    ∙ omega (arith, length-map values contents_of)

pub contents_more : (values : List GridValue) (k : ℕ) → AreContents values → AreContents (values ++ replicate k (Contents None))
contents_more values k h = map-append (λ v. Contents (contents_of v)) values (replicate k (Contents None)) ∙ (λ i. h i ++ empty_contents k i)

pub fresh_is_empty : (most : ℕ) → most ≤ 16 → IsEmptyGrid (fresh_grid most)
fresh_is_empty most few = record {
  few = few;
  doors = refl;
  segments = length-replicate (segments_for most) None;
  empty = λ x. still_empty (segments_for most) x;
}
