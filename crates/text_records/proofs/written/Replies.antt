-- the words of replies, as they are written, tell them
use Rattle.std.proofs.Common.{◌≡◌, ℕ, ◌*◌, ◌^◌, ◌<◌, ◌≤◌, true, false, List, [], ◌∷◌, ◌++◌, length, map, Option, Some, None, option_map, codes, decimal, refl, ap, ◌∙◌, arith, append_assoc, length-append}
use Rattle.text_records.proofs.Common.{list_all, lt-ltb, length-decimal-le_wide, ShownReply, pieces_from, reported_of, Two, is_plain, IsPlainView}
use Rattle.model_steps.specs.View.{IsAbove, IsRising}
use Rattle.model_steps.specs.Refusal.{refusal_number}
use Rattle.model_steps.specs.declared.refusal.Refusal.{Refusal}
use Rattle.model_steps.specs.declared.refusal.Refusal.TheVariants.{ZeroIdentity}
use Rattle.model_asked.specs.declared.reply.Reply.TheVariants as reply
use Rattle.text_lines.specs.Replies.{pair_word, pair_words, view_words, reply_words}
use Rattle.text_records.specs.declared.reported.Reported.TheVariants as reported
use Rattle.text_records.specs.ReplyText.{pair_in, pair_of, pairs_after, pairs_in, reported_in, reported_of_words, reported_with, saw_of}
use Rattle.text_lines.specs.lemmas.PieceProofs.{lacks, pieces-pass, pieces-last, pieces-cut}
use Rattle.text_records.proofs.written.Numbers.{read_decimal, number_in-decimal}
use Rattle.text_records.proofs.written.Texts.{shown_text}
use Rattle.text_records.specs.Narrow.{AreNarrow, IsShort, IsNarrowReply}
use Rattle.text_records.proofs.written.Words.{lacks_both, no_space, no_colon, number_word, plain_both, plain_decimal, short_decimal, word_plain}

pair_lacks : (pair : ℕ × ℕ) → pair.0 < 10 ^ 64 → pair.1 < 10 ^ 64 → lacks 32 (pair_word pair) ≡ true
pair_lacks pair h k = lacks_both 32 (decimal pair.0 ++ codes ":") (decimal pair.1) (lacks_both 32 (decimal pair.0) (codes ":") (no_space pair.0 h) refl) (no_space pair.1 k)

-- the words of a view are its pairs
pieces_of_pairs : (piece : List ℕ) (view : List (ℕ × ℕ)) → AreNarrow view → pieces_from 32 piece (pair_words view) ≡ piece ∷ map pair_word view
pieces_of_pairs piece [] h = refl
pieces_of_pairs piece (pair ∷ more) h =
    let id = h.0 in
    let number = h.1 in
    ap (λ (k : List (List ℕ)). piece ∷ k) (pieces-pass 32 [] (pair_word pair) (pair_words more) (pair_lacks pair (omega arith) (omega arith)) ∙ pieces_of_pairs (pair_word pair) more h.2)

-- and each is read
pair_read : (pair : ℕ × ℕ) → pair.0 < 2 ^ 64 → pair.1 < 2 ^ 64 → pair_in (pair_word pair) ≡ Some pair
pair_read pair h k =
    let cut : pieces_from 58 [] (pair_word pair) ≡ decimal pair.0 ∷ decimal pair.1 ∷ [] =
    ap (pieces_from 58 []) (append_assoc (decimal pair.0) (codes ":") (decimal pair.1)) ∙ pieces-cut 58 [] (decimal pair.0) (decimal pair.1) (no_colon pair.0 (omega arith))
    ∙ ap (λ (l : List (List ℕ)). decimal pair.0 ∷ l) (pieces-last 58 [] (decimal pair.1) (no_colon pair.1 (omega arith))) in
    ap pair_of cut ∙ rw (number_in-decimal pair.0 h, number_in-decimal pair.1 k) refl

read_pairs : (above : ℕ) (view : List (ℕ × ℕ)) → AreNarrow view → IsAbove above view → IsRising view → pairs_after above (map pair_word view) ≡ Some view
read_pairs above [] n a r = refl
read_pairs above (pair ∷ more) n a r = rw (pair_read pair n.0 n.1, lt-ltb above pair.0 a, read_pairs pair.0 more n.2 r.0 r.1) refl

saw_read : (view : List (ℕ × ℕ)) → IsShort view → saw_of (map pair_word view) ≡ Some (reported.Saw view)
saw_read [] s = absurd (s.some refl)
saw_read (pair ∷ more) s = ap (option_map reported.Saw) (read_pairs 0 (pair ∷ more) s.narrow s.above s.rising)

refusal_small : (why : Refusal) → refusal_number why < 15
refusal_small ZeroIdentity = omega arith
refusal_small why = omega arith

-- the words of a reply tell it, without the view by which a name was given
pub reply_tells : (r : ShownReply) → IsNarrowReply r → reported_in (reply_words r) ≡ Some (reported_of false r)
reply_tells (reply.Place place) h = ap (λ (l : List (List ℕ)). reported_of_words (codes "place" ∷ l)) (number_word [] place (omega arith)) ∙ rw (read_decimal (2 ^ 128) place h (omega arith)) refl
reply_tells (reply.Proposed number) h = ap (λ (l : List (List ℕ)). reported_of_words (codes "proposed" ∷ l)) (number_word [] number (omega arith)) ∙ rw (number_in-decimal number h) refl
reply_tells (reply.Saw view) h = ap reported_of_words (pieces_of_pairs (codes "saw") view h.narrow) ∙ saw_read view h
reply_tells (reply.Named name view) h =
    let small = h.0 in
    ap (λ (l : List (List ℕ)). reported_of_words (codes "named" ∷ l)) (number_word [] name (omega arith)) ∙ rw (number_in-decimal name h.0) refl
reply_tells (reply.Got number) h = ap (λ (l : List (List ℕ)). reported_of_words (codes "got" ∷ l)) (number_word [] number (omega arith)) ∙ rw (number_in-decimal number h) refl
reply_tells (reply.Left number) h = ap (λ (l : List (List ℕ)). reported_of_words (codes "left" ∷ l)) (number_word [] number (omega arith)) ∙ rw (number_in-decimal number h) refl
reply_tells (reply.Value value) h = ap (λ (l : List (List ℕ)). reported_of_words (codes "value" ∷ l)) (number_word [] value (omega arith)) ∙ rw (number_in-decimal value h) refl
reply_tells (reply.Owner owner) h = absurd h
reply_tells (reply.Refused why) h =
    let small = refusal_small why in
    ap (λ (l : List (List ℕ)). reported_of_words (codes "refused" ∷ l)) (number_word [] (refusal_number why) (omega arith)) ∙ rw (number_in-decimal (refusal_number why) (omega arith)) refl
reply_tells r h = refl

pairs_plain : (view : List (ℕ × ℕ)) → AreNarrow view → list_all is_plain (pair_words view) ≡ true
pairs_plain [] h = refl
pairs_plain (pair ∷ more) h =
    let id = h.0 in
    let number = h.1 in
    plain_both (codes " " ++ decimal pair.0 ++ codes ":" ++ decimal pair.1) (pair_words more)
    (plain_both (codes " " ++ decimal pair.0 ++ codes ":") (decimal pair.1) (plain_both (codes " " ++ decimal pair.0) (codes ":") (word_plain (codes " ") pair.0 refl (omega arith)) refl) (plain_decimal pair.1 (omega arith)))
    (pairs_plain more h.2)

-- they are plain
pub reply_plain : (r : ShownReply) → IsNarrowReply r → list_all is_plain (reply_words r) ≡ true
reply_plain (reply.Place place) h = word_plain (codes "place ") place refl (omega arith)
reply_plain (reply.Proposed number) h = word_plain (codes "proposed ") number refl (omega arith)
reply_plain (reply.Saw view) h = plain_both (codes "saw") (pair_words view) refl (pairs_plain view h.narrow)
reply_plain (reply.Named name view) h = let small = h.0 in word_plain (codes "named ") name refl (omega arith)
reply_plain (reply.Got number) h = word_plain (codes "got ") number refl (omega arith)
reply_plain (reply.Left number) h = word_plain (codes "left ") number refl (omega arith)
reply_plain (reply.Value value) h = word_plain (codes "value ") value refl (omega arith)
reply_plain (reply.Owner owner) h = absurd h
reply_plain (reply.Refused why) h = let small = refusal_small why in word_plain (codes "refused ") (refusal_number why) refl (omega arith)
reply_plain r h = refl

pairs_short : (view : List (ℕ × ℕ)) → AreNarrow view → length (pair_words view) ≤ 42 * length view
pairs_short [] h = omega arith
pairs_short (pair ∷ more) h =
    let id = short_decimal pair.0 h.0 in
    let number = short_decimal pair.1 h.1 in
    let rest = pairs_short more h.2 in
    simp length-append (omega arith)

-- and not long
pub reply_short : (r : ShownReply) → IsNarrowReply r → length (reply_words r) ≤ 2691
reply_short (reply.Place place) h = omega (arith, length-decimal-le_wide 39 place (omega arith) (omega arith) (omega arith))
reply_short (reply.Proposed number) h = omega (arith, short_decimal number h)
reply_short (reply.Saw view) h = let few = h.few in omega (arith, pairs_short view h.narrow)
reply_short (reply.Named name view) h = omega (arith, short_decimal name h.0)
reply_short (reply.Got number) h = omega (arith, short_decimal number h)
reply_short (reply.Left number) h = omega (arith, short_decimal number h)
reply_short (reply.Value value) h = omega (arith, short_decimal value h)
reply_short (reply.Owner owner) h = absurd h
reply_short (reply.Refused why) h = let small = refusal_small why in omega (arith, short_decimal (refusal_number why) (omega arith))
reply_short r h = omega arith

-- ---- the view beside a name

-- what is written beside a reply: of a name the view by which it was given
abbrev pub shown_of : ShownReply → Option (List ℕ)
shown_of (reply.Named name view) = Some (view_words view)
shown_of r = None

view_read : (view : List (ℕ × ℕ)) → IsShort view → pairs_in (view_words view) ≡ Some view
view_read [] s = absurd (s.some refl)
view_read (pair ∷ more) s =
    let id = s.narrow.0 in
    let number = s.narrow.1 in
    let cut : pieces_from 32 [] (view_words (pair ∷ more)) ≡ map pair_word (pair ∷ more) =
    pieces-pass 32 [] (pair_word pair) (pair_words more) (pair_lacks pair (omega arith) (omega arith)) ∙ pieces_of_pairs (pair_word pair) more s.narrow.2 in
    ap (pairs_after 0) cut ∙ read_pairs 0 (pair ∷ more) s.narrow s.above s.rising

-- with it the reply is reported in full
pub shown_tells : (r : ShownReply) → IsNarrowReply r → reported_with Two (reported_of false r) (shown_of r) ≡ Some (reported_of true r)
shown_tells (reply.Named name view) h = ap (λ (o : Option (List (ℕ × ℕ))). option_map (λ pairs. reported.Named name (Some pairs)) o) (view_read view h.1)
shown_tells (reply.Owner owner) h = absurd h
shown_tells r h = refl

view_plain : (view : List (ℕ × ℕ)) → AreNarrow view → list_all is_plain (view_words view) ≡ true
view_plain [] h = refl
view_plain (pair ∷ more) h =
    let id = h.0 in
    let number = h.1 in
    plain_both (pair_word pair) (pair_words more)
    (plain_both (decimal pair.0 ++ codes ":") (decimal pair.1) (plain_both (decimal pair.0) (codes ":") (plain_decimal pair.0 (omega arith)) refl) (plain_decimal pair.1 (omega arith)))
    (pairs_plain more h.2)

pub shown_plain : (r : ShownReply) → IsNarrowReply r → IsPlainView (shown_of r)
shown_plain (reply.Named name view) h = view_plain view h.1.narrow
shown_plain r h = tt

view_short : (view : List (ℕ × ℕ)) → AreNarrow view → length (view_words view) ≤ 42 * length view
view_short [] h = omega arith
view_short (pair ∷ more) h =
    let id = short_decimal pair.0 h.0 in
    let number = short_decimal pair.1 h.1 in
    let rest = pairs_short more h.2 in
    simp length-append (omega arith)

pub shown_short : (r : ShownReply) → IsNarrowReply r → length (shown_text (shown_of r)) ≤ 2706
shown_short (reply.Named name view) h =
    let few = h.1.few in
    let short = view_short view h.1.narrow in
    simp length-append (omega arith)
shown_short r h = omega arith
