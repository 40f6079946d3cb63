-- what was asked for, byte by byte, is what the lines ask for
use Rattle.std.proofs.Common.{◌≡◌, ℕ, ◌+◌, ◌-◌, ◌==◌, true, false, cond, List, [], ◌∷◌, ◌++◌, length, take, drop, map, Ok, Result, refl, sym, ap, ◌∙◌, append_assoc}
use Rattle.text_lines.specs.Lines.{lines, whole_lines, whole_lines_from, rest_from, unless_empty}
use Rattle.text_lines.specs.lemmas.WrittenProofs.{take_pieces}
use Rattle.text_player.proofs.Common.{append-nil, take-append-drop, Bad, Command, WorldKind, meaning}
use Rattle.model_asked.specs.declared.command.Command.TheVariants as command
use Rattle.text_player.specs.Asked.{until_quit, asked_by, asks_quit}
use Rattle.text_player.specs.Progress.{Progress, at_start, ends, after_meaning, after_line, after_byte, after_bytes, after_rest, after_end}

-- the first of what lines ask for, and the rest unless it is `quit`
pub until_first : (m : Result Command Bad) (ms : List (Result Command Bad)) → until_quit (m ∷ ms) ≡ m ∷ cond (ends m) [] (until_quit ms)
until_first (Ok (command.Event e)) ms = refl
until_first m ms = refl

asks_first : (m : Result Command Bad) (ms : List (Result Command Bad)) → asks_quit (m ∷ ms) ≡ cond (ends m) true (asks_quit ms)
asks_first (Ok (command.Event e)) ms = refl
asks_first m ms = refl

until_one : (m : Result Command Bad) → until_quit (m ∷ []) ≡ m ∷ []
until_one m = until_first m [] ∙ ap (λ l. m ∷ l) (elim (ends m) as (λ t. cond {A = List (Result Command Bad)} t [] [] ≡ []) [ true ↦ refl | false ↦ refl ])

module _ (kind : WorldKind) where
  -- bytes after bytes
  pub after_bytes-append : (p : Progress) (xs ys : List ℕ) → after_bytes kind p (xs ++ ys) ≡ after_bytes kind (after_bytes kind p xs) ys
  after_bytes-append p [] ys = refl
  after_bytes-append p (x ∷ xs) ys = after_bytes-append (after_byte kind p x) xs ys

  -- some of the bytes that are left after bytes
  pub after_bytes-pieces : (p : Progress) (bs : List ℕ) (i n : ℕ) → after_bytes kind p (take (i + n) bs) ≡ after_bytes kind (after_bytes kind p (take i bs)) (take n (take (length bs - i) (drop i bs)))
  after_bytes-pieces p bs i n = ap (after_bytes kind p) (sym (take_pieces bs i n)) ∙ after_bytes-append p (take i bs) (take n (take (length bs - i) (drop i bs)))

  -- after `quit` no byte is acted on
  pub after_bytes-over : (p : Progress) (bs : List ℕ) → p.over ≡ true → after_bytes kind p bs ≡ p
  after_bytes-over p [] h = refl
  after_bytes-over p (b ∷ bs) h = let same : after_byte kind p b ≡ p = rw h refl in rw same (after_bytes-over p bs h)

  abbrev from : List ℕ → List (Result Command Bad) → Progress
  from line so = record { line = line; asked = so; over = false }

  -- by these lines and this rest, where so much was asked for before
  record Came (so : List (Result Command Bad)) (ls : List (List ℕ)) (rest : List ℕ) (q : Progress) : Type 0 where
    asked_is : q.asked ≡ so ++ asked_by kind ls
    over_is : q.over ≡ asks_quit (asked_by kind ls)
    at_end : (after_end kind q).asked ≡ so ++ asked_by kind (ls ++ unless_empty rest)

  came : (line : List ℕ) (so : List (Result Command Bad)) (bs : List ℕ) → Came so (whole_lines_from line bs) (rest_from line bs) (after_bytes kind (from line so) bs)
  came [] so [] = record { asked_is = sym (append-nil so); over_is = refl; at_end = sym (append-nil so) }
  came (l ∷ line) so [] = record { asked_is = sym (append-nil so); over_is = refl; at_end = ap (λ ms. so ++ ms) (sym (until_one (meaning kind (l ∷ line)))) }
  came line so (b ∷ bs) =
      let m = meaning kind line in
      let ls = whole_lines_from [] bs in
      let rest = rest_from [] bs in
      elim (b == 10) as (λ w. Came so (cond w (line ∷ ls) (whole_lines_from (line ++ b ∷ []) bs)) (cond w rest (rest_from (line ++ b ∷ []) bs)) (after_bytes kind (cond w (after_meaning (from line so) m) (from (line ++ b ∷ []) so)) bs)) [
        | true ↦ elim (ends m) as (λ e. ends m ≡ e → Came so (line ∷ ls) rest (after_bytes kind (record { line = []; asked = so ++ m ∷ []; over = e }) bs)) [
          | true ↦ λ e.
              let all : (ms : List (List ℕ)) → asked_by kind (line ∷ ms) ≡ m ∷ [] = λ ms. until_first m (map (meaning kind) ms) ∙ ap (λ t. m ∷ cond t [] (asked_by kind ms)) e in
              rw (after_bytes-over (record { line = []; asked = so ++ m ∷ []; over = true }) bs refl) (record {
                asked_is = ap (λ l. so ++ l) (sym (all ls));
                over_is = sym (ap asks_quit (all ls) ∙ asks_first m [] ∙ ap (λ t. cond t true false) e);
                at_end = ap (λ l. so ++ l) (sym (all (ls ++ unless_empty rest)));
              })
          | false ↦ λ e.
              let on = came [] (so ++ m ∷ []) bs in
              let more : (ms : List (List ℕ)) → asked_by kind (line ∷ ms) ≡ m ∷ asked_by kind ms = λ ms. until_first m (map (meaning kind) ms) ∙ ap (λ t. m ∷ cond t [] (asked_by kind ms)) e in
              let joined : (ms : List (List ℕ)) → (so ++ m ∷ []) ++ asked_by kind ms ≡ so ++ asked_by kind (line ∷ ms) = λ ms. append_assoc so (m ∷ []) (asked_by kind ms) ∙ ap (λ l. so ++ l) (sym (more ms)) in
              record {
                asked_is = on.asked_is ∙ joined ls;
                over_is = on.over_is ∙ sym (ap asks_quit (more ls) ∙ asks_first m (asked_by kind ls) ∙ ap (λ t. cond t true (asks_quit (asked_by kind ls))) e);
                at_end = on.at_end ∙ joined (ls ++ unless_empty rest);
              }
        ] refl
        | false ↦ came (line ++ b ∷ []) so bs
      ]

  pub asked-whole : (bytes : List ℕ) → (after_bytes kind at_start bytes).asked ≡ asked_by kind (whole_lines bytes)
  asked-whole bytes = (came [] [] bytes).asked_is

  pub asked-all : (bytes : List ℕ) → (after_end kind (after_bytes kind at_start bytes)).asked ≡ asked_by kind (lines bytes)
  asked-all bytes = (came [] [] bytes).at_end

  -- the run is over where `quit` was asked for
  pub over-whole : (bytes : List ℕ) → (after_bytes kind at_start bytes).over ≡ asks_quit (asked_by kind (whole_lines bytes))
  over-whole bytes = (came [] [] bytes).over_is

  -- what was asked is not taken back
  abbrev pub Grows : Progress → Progress → Type 0
  Grows p q = (more : List (Result Command Bad)) × (q.asked ≡ p.asked ++ more)

  grows_byte : (p : Progress) (b : ℕ) → Grows p (after_byte kind p b)
  grows_byte p b = elim p.over as (λ o. Grows p (cond o p (cond (b == 10) (after_line kind p) (record { line = p.line ++ b ∷ []; asked = p.asked; over = p.over })))) [
    | true ↦ ([], sym (append-nil p.asked))
    | false ↦ elim (b == 10) as (λ w. Grows p (cond w (after_line kind p) (record { line = p.line ++ b ∷ []; asked = p.asked; over = p.over }))) [
      | true ↦ (meaning kind p.line ∷ [], refl)
      | false ↦ ([], sym (append-nil p.asked))
    ]
  ]

  pub grows_on : (p q r : Progress) → Grows p q → Grows q r → Grows p r
  grows_on p q r a b = (a.0 ++ b.0, b.1 ∙ ap (λ l. l ++ b.0) a.1 ∙ append_assoc p.asked a.0 b.0)

  pub grows_bytes : (p : Progress) (bs : List ℕ) → Grows p (after_bytes kind p bs)
  grows_bytes p [] = ([], sym (append-nil p.asked))
  grows_bytes p (b ∷ bs) = grows_on p (after_byte kind p b) (after_bytes kind (after_byte kind p b) bs) (grows_byte p b) (grows_bytes (after_byte kind p b) bs)

  pub grows_end : (p : Progress) → Grows p (after_end kind p)
  grows_end p = elim p.over as (λ o. Grows p (cond o p (after_rest kind p p.line))) [
    | true ↦ ([], sym (append-nil p.asked))
    | false ↦ elim p.line as (λ l. Grows p (after_rest kind p l)) [ [] ↦ ([], sym (append-nil p.asked)) | b ∷ bs ↦ (meaning kind p.line ∷ [], refl) ]
  ]

  -- the first bytes, and all of them
  pub grows_from : (p : Progress) (bs : List ℕ) (i : ℕ) → Grows (after_bytes kind p (take i bs)) (after_bytes kind p bs)
  grows_from p bs i =
      let q = after_bytes kind p (take i bs) in
      let on = grows_bytes q (drop i bs) in
      (on.0, ap (λ l. (after_bytes kind p l).asked) (sym (take-append-drop i bs)) ∙ ap (λ (r : Progress). r.asked) (after_bytes-append p (take i bs) (drop i bs)) ∙ on.1)

  -- what an input of two parts asks for
  asked_in : (bytes xs ys : List ℕ) → bytes ≡ xs ++ ys → asked_by kind (lines bytes) ≡ (after_end kind (after_bytes kind (after_bytes kind at_start xs) ys)).asked
  asked_in bytes xs ys e = sym (asked-all bytes) ∙ ap (λ q. (after_end kind q).asked) (ap (after_bytes kind at_start) e ∙ after_bytes-append at_start xs ys)

  -- what bytes ask for is the first of what an input that begins with them asks for
  pub asked_begins : (bytes xs ys : List ℕ) → bytes ≡ xs ++ ys → (more : List (Result Command Bad)) × (asked_by kind (lines bytes) ≡ (after_bytes kind at_start xs).asked ++ more)
  asked_begins bytes xs ys e =
      let p = after_bytes kind at_start xs in
      let on = grows_on p (after_bytes kind p ys) (after_end kind (after_bytes kind p ys)) (grows_bytes p ys) (grows_end (after_bytes kind p ys)) in
      (on.0, asked_in bytes xs ys e ∙ on.1)

  -- after `quit` it is what the whole input asks for
  pub asked-over : (bytes xs ys : List ℕ) → bytes ≡ xs ++ ys → (after_bytes kind at_start xs).over ≡ true → asked_by kind (lines bytes) ≡ (after_end kind (after_bytes kind at_start xs)).asked
  asked-over bytes xs ys e over = asked_in bytes xs ys e ∙ ap (λ q. (after_end kind q).asked) (after_bytes-over (after_bytes kind at_start xs) ys over)
