-- the lines of a record are text, each with an LF at its end
use Rattle.std.proofs.Common.{◌≡◌, ◌==◌, ℕ, Bool, true, not, List, [], ◌∷◌, ◌++◌, Option, Some, None, map, flat_map, codes, decimal, refl, ap, ◌∙◌, arith, append_assoc}
use Rattle.service_journal.proofs.Common.{list_all, and_parts, nat_tests, Config, Event, Exchange, ShownReply, has_no_lf, with_ends, HallState, record_of_hall}
use Rattle.std.proofs.lemmas.List.Folds.{list_all-append}
use Rattle.model_asked.specs.Config.{world_name}
use Rattle.model_asked.specs.lemmas.KindProofs.{name_has}
use Rattle.model_asked.specs.declared.kind.WorldKind.{WorldKind}
use Rattle.model_asked.specs.declared.event.Event.TheVariants as event
use Rattle.model_asked.specs.declared.reply.Reply.TheVariants as reply
use Rattle.model_steps.specs.Refusal.{refusal_number}
use Rattle.text_lines.specs.Events.{event_words}
use Rattle.text_lines.specs.Replies.{owner_words, pair_word, pair_words, reply_words, view_words}
use Rattle.text_player.specs.Records.{exchange_line, header_line, name_view}
use Rattle.service_journal.proofs.Digits.{is_text, decimal_text}

-- bytes with no control character
abbrev pub are_text : List ℕ → Bool
are_text bytes = list_all is_text bytes

pub both_text : (xs ys : List ℕ) → are_text xs ≡ true → are_text ys ≡ true → are_text (xs ++ ys) ≡ true
both_text xs ys a b = list_all-append is_text xs ys ∙ rw (a, b) refl

word_text : (word : List ℕ) (n : ℕ) → are_text word ≡ true → are_text (word ++ decimal n) ≡ true
word_text word n h = both_text word (decimal n) h (decimal_text n)

event_text : (e : Event) → are_text (event_words e) ≡ true
event_text (event.Begin p) = word_text (codes "begin ") p refl
event_text (event.Step p) = word_text (codes "step ") p refl
event_text (event.Enter p) = word_text (codes "enter ") p refl
event_text (event.Probe p) = word_text (codes "probe ") p refl
event_text (event.Seek p) = word_text (codes "seek ") p refl
event_text (event.Leave p) = word_text (codes "leave ") p refl
event_text (event.Put p value) = word_text ((codes "put " ++ decimal p) ++ codes " ") value (both_text (codes "put " ++ decimal p) (codes " ") (word_text (codes "put ") p refl) refl)
event_text (event.Get p) = word_text (codes "get ") p refl
event_text (event.Widen more) = word_text (codes "widen ") more refl

pair_is_text : (pair : ℕ × ℕ) → are_text (pair_word pair) ≡ true
pair_is_text pair = word_text (decimal pair.0 ++ codes ":") pair.1 (both_text (decimal pair.0) (codes ":") (decimal_text pair.0) refl)

pairs_text : (view : List (ℕ × ℕ)) → are_text (pair_words view) ≡ true
pairs_text [] = refl
pairs_text (pair ∷ more) = both_text (codes " " ++ pair_word pair) (pair_words more) (both_text (codes " ") (pair_word pair) refl (pair_is_text pair)) (pairs_text more)

view_text : (view : List (ℕ × ℕ)) → are_text (view_words view) ≡ true
view_text [] = refl
view_text (pair ∷ more) = both_text (pair_word pair) (pair_words more) (pair_is_text pair) (pairs_text more)

owner_text : (owner : Option ℕ) → are_text (owner_words owner) ≡ true
owner_text None = refl
owner_text (Some id) = word_text (codes "owner ") id refl

reply_text : (r : ShownReply) → are_text (reply_words r) ≡ true
reply_text (reply.Place place) = word_text (codes "place ") place refl
reply_text (reply.Proposed number) = word_text (codes "proposed ") number refl
reply_text (reply.Saw view) = both_text (codes "saw") (pair_words view) refl (pairs_text view)
reply_text (reply.Named name view) = word_text (codes "named ") name refl
reply_text (reply.Got number) = word_text (codes "got ") number refl
reply_text (reply.Left number) = word_text (codes "left ") number refl
reply_text (reply.Value value) = word_text (codes "value ") value refl
reply_text (reply.Owner owner) = owner_text owner
reply_text (reply.Refused why) = word_text (codes "refused ") (refusal_number why) refl
reply_text r = refl

name_view_text : (r : ShownReply) → are_text (name_view r) ≡ true
name_view_text (reply.Named name view) = both_text (codes ",\"view\":\"" ++ view_words view) (codes "\"") (both_text (codes ",\"view\":\"") (view_words view) refl (view_text view)) refl
name_view_text r = refl

-- the line of an exchange, without its LF
abbrev pub row_of : Exchange → List ℕ
row_of x = codes "{\"command\":\"" ++ event_words x.event ++ codes "\",\"reply\":\"" ++ reply_words x.reply ++ codes "\"" ++ name_view x.reply ++ codes "}"

row_text : (x : Exchange) → are_text (row_of x) ≡ true
row_text x =
    let a = both_text (codes "{\"command\":\"") (event_words x.event) refl (event_text x.event) in
    let b = both_text (codes "{\"command\":\"" ++ event_words x.event) (codes "\",\"reply\":\"") a refl in
    let d = both_text (codes "{\"command\":\"" ++ event_words x.event ++ codes "\",\"reply\":\"") (reply_words x.reply) b (reply_text x.reply) in
    let e = both_text (codes "{\"command\":\"" ++ event_words x.event ++ codes "\",\"reply\":\"" ++ reply_words x.reply) (codes "\"") d refl in
    let f = both_text (codes "{\"command\":\"" ++ event_words x.event ++ codes "\",\"reply\":\"" ++ reply_words x.reply ++ codes "\"") (name_view x.reply) e (name_view_text x.reply) in
    both_text (codes "{\"command\":\"" ++ event_words x.event ++ codes "\",\"reply\":\"" ++ reply_words x.reply ++ codes "\"" ++ name_view x.reply) (codes "}") f refl

-- and the header's
abbrev pub head_of : Config → List ℕ
head_of c =
    codes "{\"format\":\"slot-record\",\"k\":" ++ decimal c.k ++ codes ",\"limit\":" ++ decimal c.limit ++ codes ",\"m\":" ++ decimal c.m
    ++ codes ",\"version\":2,\"world\":\"" ++ world_name c.world ++ codes "\"}"

world_text : (kind : WorldKind) → are_text (world_name kind) ≡ true
world_text kind = name_has is_text (λ byte letter. grind (arith, nat_tests)) kind

head_text : (c : Config) → are_text (head_of c) ≡ true
head_text c =
    let to_k = codes "{\"format\":\"slot-record\",\"k\":" ++ decimal c.k in
    let to_limit = to_k ++ codes ",\"limit\":" ++ decimal c.limit in
    let to_m = to_limit ++ codes ",\"m\":" ++ decimal c.m in
    let to_name = to_m ++ codes ",\"version\":2,\"world\":\"" ++ world_name c.world in
    let a = word_text (codes "{\"format\":\"slot-record\",\"k\":") c.k refl in
    let b = word_text (to_k ++ codes ",\"limit\":") c.limit (both_text to_k (codes ",\"limit\":") a refl) in
    let d = word_text (to_limit ++ codes ",\"m\":") c.m (both_text to_limit (codes ",\"m\":") b refl) in
    let e = both_text (to_m ++ codes ",\"version\":2,\"world\":\"") (world_name c.world) (both_text to_m (codes ",\"version\":2,\"world\":\"") d refl) (world_text c.world) in
    both_text to_name (codes "\"}") e refl

-- text has no LF
not_lf : (b : ℕ) → is_text b ≡ true → not (b == 10) ≡ true
not_lf b h = grind (arith, nat_tests)

pub text_no_lf : (xs : List ℕ) → are_text xs ≡ true → has_no_lf xs ≡ true
text_no_lf [] h = refl
text_no_lf (x ∷ xs) h = let parts = and_parts (is_text x) (are_text xs) h in rw (not_lf x parts.0) (text_no_lf xs parts.1)

-- the lines of a hall's record, and the record of them
abbrev pub rows_of : List Exchange → List (List ℕ)
rows_of xs = map row_of xs

abbrev pub lines_of : HallState → List (List ℕ)
lines_of h = head_of h.config ∷ rows_of h.history

rows_no_lf : (xs : List Exchange) → list_all has_no_lf (rows_of xs) ≡ true
rows_no_lf [] = refl
rows_no_lf (x ∷ xs) = rw (text_no_lf (row_of x) (row_text x)) (rows_no_lf xs)

pub lines_no_lf : (h : HallState) → list_all has_no_lf (lines_of h) ≡ true
lines_no_lf h = rw (text_no_lf (head_of h.config) (head_text h.config)) (rows_no_lf h.history)

ended : (xs z rest : List ℕ) → (xs ++ (z ++ 10 ∷ [])) ++ rest ≡ (xs ++ z) ++ 10 ∷ rest
ended xs z rest = simp append_assoc

pub line_ended : (x : Exchange) (rest : List ℕ) → exchange_line x ++ rest ≡ row_of x ++ 10 ∷ rest
line_ended x rest = ended (codes "{\"command\":\"" ++ event_words x.event ++ codes "\",\"reply\":\"" ++ reply_words x.reply ++ codes "\"" ++ name_view x.reply) (codes "}") rest

pub header_ended : (c : Config) (rest : List ℕ) → header_line c ++ rest ≡ head_of c ++ 10 ∷ rest
header_ended c rest =
    ended (codes "{\"format\":\"slot-record\",\"k\":" ++ decimal c.k ++ codes ",\"limit\":" ++ decimal c.limit ++ codes ",\"m\":" ++ decimal c.m ++ codes ",\"version\":2,\"world\":\"" ++ world_name c.world) (codes "\"}") rest

rows_ended : (xs : List Exchange) → flat_map exchange_line xs ≡ with_ends (rows_of xs)
rows_ended [] = refl
rows_ended (x ∷ xs) = ap (λ (l : List ℕ). exchange_line x ++ l) (rows_ended xs) ∙ line_ended x (with_ends (rows_of xs))

pub record_ended : (h : HallState) → record_of_hall h ≡ with_ends (lines_of h)
record_ended h = ap (λ (l : List ℕ). header_line h.config ++ l) (rows_ended h.history) ∙ header_ended h.config (with_ends (rows_of h.history))
