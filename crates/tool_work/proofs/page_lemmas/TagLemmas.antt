-- what a page has of its record has no `<`
use Rattle.std.proofs.Common.{◌≡◌, ℕ, zero, suc, ◌+◌, ◌/◌, ◌%◌, ◌==◌, inl, inr, if◌then◌else◌, Bool, true, false, ◌||◌, List, [], ◌∷◌, ◌++◌, take, drop, length, flat_map, get_or, is_some, Option, Some, None, Result, Ok, Err, codes, decimal, refl, ap, ◌∙◌, arith}
use Rattle.tool_work.proofs.page_lemmas.Common.{Config, Coming, DeskValue, header_line, Line, Done, Stretch, Competitor, Form, Data, Item, begun_in}
use Rattle.std.specs.Fmt.{digits, digits_onto, digit_glyph}
use Rattle.std.proofs.lemmas.List.Folds.{list_any-append}
use Rattle.std.proofs.lemmas.Bool.{and_parts}
use Rattle.std.proofs.lemmas.Bool.Decides.{eqb_tells, leb_tells, nat_tests}
use Rattle.std.specs.List.{list_all}
use Rattle.model_asked.specs.declared.kind.WorldKind.{WorldKind}
use Rattle.text_worlds.specs.declared.desk.coming.Coming.TheVariants.{Nothing, Read, Write}
use Rattle.text_worlds.specs.declared.desk.coming.Register.{Register}
use Rattle.text_worlds.specs.declared.desk.coming.Register.TheVariants.{X, Y, Mark, Segment}
use Rattle.model_asked.specs.declared.event.Event.{Event}
use Rattle.model_asked.specs.declared.event.Event.TheVariants as event
use Rattle.model_asked.specs.Replies.{ShownReply}
use Rattle.model_asked.specs.declared.reply.Reply.TheVariants as reply
use Rattle.text_worlds.specs.desk.Desk.{fresh_desk, owner_reply}
use Rattle.model_steps.specs.Refusal.{refusal_number}
use Rattle.text_lines.specs.Events.{event_words}
use Rattle.model_asked.specs.Config.{facts_of, is_letter, world_name}
use Rattle.text_lines.specs.Replies.{owner_words, pair_word, pair_words, reply_words}
use Rattle.text_records.specs.declared.reported.Reported.{Reported}
use Rattle.text_records.specs.declared.reported.Reported.TheVariants as reported
use Rattle.text_records.specs.ReportedWords.{reported_words}
use Rattle.model_steps.specs.declared.refusal.Refusal.{Refusal}
use Rattle.model_pool.specs.declared.stay.Stay.{Stay}
use Rattle.model_pool.specs.declared.stay.Stay.TheVariants.{Seeking, Settled}
use Rattle.text_worlds.specs.desk.Coming.{coming_of}
use Rattle.text_worlds.specs.desk.Held.{held_in, slots_of}
use Rattle.tool_work.specs.declared.page.standing.Standing.{Standing}
use Rattle.tool_work.specs.declared.page.state.TheConstants.{MOST_NAMES}
use Rattle.tool_work.specs.page.Access.{access_words, register_words}
use Rattle.tool_work.specs.page.Form.{begin_of, colon_of, end_of, fact, gap_of}
use Rattle.tool_work.specs.page.Row.{desk_next, done_at, done_words, held_words, reached_in, replayed, row_of, rows, words_of}
use Rattle.tool_work.specs.page.Standing.{name_words, place_words, standing_on, standing_words, stay_words, value_words}
use Rattle.tool_work.specs.page.State.{fact_unless_none, held_fact, name_fact, name_facts, person, place_facts, size_fact, slot_facts, state, stranger}
use Rattle.tool_work.specs.page.Page.{page_data, closing_data, has_tag, joined, lines_before, opening_data, shown_rows, state_after, stretch_of}

-- it has none
abbrev pub Clean : List ℕ → Type 0
Clean text = has_tag text ≡ false

both : (xs ys : List ℕ) → Clean xs → Clean ys → Clean (xs ++ ys)
both xs ys h k = list_any-append (λ byte. byte == 60) xs ys ∙ ap (λ (b : Bool). b || has_tag ys) h ∙ k

three : (a b c : List ℕ) → Clean a → Clean b → Clean c → Clean (a ++ b ++ c)
three a b c x y z = both (a ++ b) c (both a b x y) z

four : (a b c d : List ℕ) → Clean a → Clean b → Clean c → Clean d → Clean (a ++ b ++ c ++ d)
four a b c d w x y z = both (a ++ b ++ c) d (three a b c w x y) z

five : (a b c d e : List ℕ) → Clean a → Clean b → Clean c → Clean d → Clean e → Clean (a ++ b ++ c ++ d ++ e)
five a b c d e v w x y z = both (a ++ b ++ c ++ d) e (four a b c d v w x y) z

-- ---- digits

glyph_other : (d : ℕ) → (digit_glyph false d == 60) ≡ false
glyph_other d = elim (leb_tells (suc d) 10) [
  | inl low ↦
      let is : digit_glyph false d ≡ 48 + d = ap (λ (b : Bool). if b then 48 + d else 87 + d) low.0 in
      elim (eqb_tells (digit_glyph false d) 60) [ inl same ↦ absurd (omega (arith, is, same.1, low.1)) | inr other ↦ other.0 ]
  | inr high ↦
      let is : digit_glyph false d ≡ 87 + d = ap (λ (b : Bool). if b then 48 + d else 87 + d) high.0 in
      elim (eqb_tells (digit_glyph false d) 60) [ inl same ↦ absurd (omega (arith, is, same.1)) | inr other ↦ other.0 ]
]

digits_clean : (k n : ℕ) (acc : List ℕ) → Clean acc → Clean (digits_onto k 10 false n acc)
digits_clean zero n acc h = h
digits_clean (suc k) n acc h =
    let more : Clean (digit_glyph false (n % 10) ∷ acc) = both (digit_glyph false (n % 10) ∷ []) acc (ap (λ (b : Bool). b || false) (glyph_other (n % 10))) h in
    elim (n / 10 == 0) as (λ (b : Bool). Clean (if b then digit_glyph false (n % 10) ∷ acc else digits_onto k 10 false (n / 10) (digit_glyph false (n % 10) ∷ acc))) [
      | true ↦ more
      | false ↦ digits_clean k (n / 10) (digit_glyph false (n % 10) ∷ acc) more
    ]

pub number : (n : ℕ) → Clean (decimal n)
unfolding digits
number n = digits_clean 64 n [] refl

-- a word and a number
word : (text : List ℕ) (n : ℕ) → Clean text → Clean (text ++ decimal n)
word text n h = both text (decimal n) h (number n)

-- ---- events and replies

pub events : (e : Event) → Clean (event_words e)
events (event.Begin p) = word (codes "begin ") p refl
events (event.Step p) = word (codes "step ") p refl
events (event.Enter p) = word (codes "enter ") p refl
events (event.Probe p) = word (codes "probe ") p refl
events (event.Seek p) = word (codes "seek ") p refl
events (event.Leave p) = word (codes "leave ") p refl
events (event.Put p value) = three (codes "put " ++ decimal p) (codes " ") (decimal value) (word (codes "put ") p refl) refl (number value)
events (event.Get p) = word (codes "get ") p refl
events (event.Widen more) = word (codes "widen ") more refl

pair_clean : (x : ℕ × ℕ) → Clean (pair_word x)
pair_clean x = three (decimal x.0) (codes ":") (decimal x.1) (number x.0) refl (number x.1)

pairs_clean : (view : List (ℕ × ℕ)) → Clean (pair_words view)
pairs_clean [] = refl
pairs_clean (x ∷ more) = both (codes " " ++ pair_word x) (pair_words more) (both (codes " ") (pair_word x) refl (pair_clean x)) (pairs_clean more)

owners : (o : Option ℕ) → Clean (owner_words o)
owners None = refl
owners (Some id) = word (codes "owner ") id refl

replies : (r : ShownReply) → Clean (reply_words r)
replies (reply.Place place) = word (codes "place ") place refl
replies (reply.Proposed n) = word (codes "proposed ") n refl
replies (reply.Saw view) = both (codes "saw") (pair_words view) refl (pairs_clean view)
replies (reply.Named n view) = word (codes "named ") n refl
replies (reply.Got n) = word (codes "got ") n refl
replies (reply.Left n) = word (codes "left ") n refl
replies (reply.Value n) = word (codes "value ") n refl
replies (reply.Owner o) = owners o
replies (reply.Refused why) = word (codes "refused ") (refusal_number why) refl
replies r = refl

pub tells : (t : Reported) → Clean (reported_words t)
tells (reported.Place place) = word (codes "place ") place refl
tells (reported.Proposed n) = word (codes "proposed ") n refl
tells (reported.Saw view) = both (codes "saw") (pair_words view) refl (pairs_clean view)
tells (reported.Named n view) = word (codes "named ") n refl
tells (reported.Got n) = word (codes "got ") n refl
tells (reported.Left n) = word (codes "left ") n refl
tells (reported.Value n) = word (codes "value ") n refl
tells (reported.Owner o) = owners o
tells (reported.Refused n) = word (codes "refused ") n refl
tells t = refl

-- ---- accesses and rows

pub registers : (r : Register) → Clean (register_words r)
registers (X place) = word (codes "X ") place refl
registers (Y place) = word (codes "Y ") place refl
registers (Mark place) = word (codes "mark ") place refl
registers (Segment place) = word (codes "segment ") place refl

pub accesses : (a : Option Coming) → Clean (access_words a)
accesses None = refl
accesses (Some Nothing) = refl
accesses (Some (Read r)) = both (codes "read ") (register_words r) refl (registers r)
accesses (Some (Write r n)) = four (codes "write ") (register_words r) (codes " ") (decimal n) refl (registers r) refl (number n)

-- ---- where one stands

own_place : (o : Option ℕ) → Clean (place_words o)
own_place None = refl
own_place (Some place) = word (codes "place ") place refl

own_name : (o : Option ℕ) (is_spent : Bool) → Clean (name_words o is_spent)
own_name (Some name) is_spent = word (codes "name ") name refl
own_name None true = refl
own_name None false = refl

stays : (o : Option Stay) → Clean (stay_words o)
stays None = refl
stays (Some (Seeking next)) = word (codes "probes ") next refl
stays (Some (Settled n)) = word (codes "holds ") n refl

values : (r : Result ℕ Refusal) → Clean (value_words r)
values (Ok value) = word (codes " ") value refl
values (Err why) = refl

gaps : (f : Form) → Clean (gap_of f)
gaps Data = refl
gaps Item = refl

pub standings : (f : Form) (s : Standing) → Clean (standing_words f s)
standings f s =
    four (access_words s.next ++ gap_of f ++ place_words s.place ++ gap_of f ++ name_words s.name s.is_spent) (gap_of f) (stay_words s.stay) (value_words s.value)
    (five (access_words s.next) (gap_of f) (place_words s.place) (gap_of f) (name_words s.name s.is_spent) (accesses s.next) (gaps f) (own_place s.place) (gaps f) (own_name s.name s.is_spent))
    (gaps f) (stays s.stay) (values s.value)

-- ---- a row

helds : (o : Option ℕ) → Clean (held_words o)
helds None = refl
helds (Some n) = number n

deed : (d : Done) → Clean (done_words d)
deed d =
    five (reply_words d.reply ++ codes "\",\"" ++ access_words d.access ++ codes "\",\"" ++ held_words d.held) (codes "\",\"") (standing_words Data d.standing) (codes "\",\"") (decimal d.size)
    (five (reply_words d.reply) (codes "\",\"") (access_words d.access) (codes "\",\"") (held_words d.held) (replies d.reply) refl (accesses d.access) refl (helds d.held))
    refl (standings Data d.standing) refl (number d.size)

deeds : (d : Option Done) → Clean (words_of d)
deeds None = refl
deeds (Some d) = deed d

one_row : (l : Line) (d : Option Done) → Clean (row_of l d)
one_row l d =
    let begun = codes "[\"" ++ event_words l.event ++ codes "\",\"" ++ reported_words l.reported ++ codes "\",\"" in
    three begun (words_of d) (codes "\"],\n") (five (codes "[\"") (event_words l.event) (codes "\",\"") (reported_words l.reported) (codes "\",\"") refl (events l.event) refl (tells l.reported) refl) (deeds d) refl

-- ---- all that a desk holds

facts : (of is : List ℕ) → Clean of → Clean is → Clean (fact Data of is)
facts of is h k = five (begin_of Data) of (colon_of Data) is (end_of Data) refl h refl k refl

of_all : {A : Type 0} (text : A → List ℕ) → ((x : A) → Clean (text x)) → (xs : List A) → Clean (flat_map text xs)
of_all text h [] = refl
of_all text h (x ∷ xs) = both (text x) (flat_map text xs) (h x) (of_all text h xs)

one_person : (w : DeskValue) (p : ℕ) → Clean (person Data w p)
one_person w p = facts (decimal p) (standing_words Data (standing_on w p)) (number p) (standings Data (standing_on w p))

unless : (b : Bool) (text : List ℕ) → Clean text → Clean (if b then [] else text)
unless true text h = refl
unless false text h = h

one_stranger : (w : DeskValue) (c : Competitor) → Clean (stranger Data w c)
one_stranger w c = unless (is_some (coming_of w c.identity)) (person Data w c.identity) (one_person w c.identity)

one_register : (r : Register) (o : Option ℕ) → Clean (fact_unless_none Data r o)
one_register r None = refl
one_register r (Some n) = facts (register_words r) (decimal n) (registers r) (number n)

one_place : (w : DeskValue) (place : ℕ) → Clean (place_facts Data w place)
one_place w place =
    four (held_fact Data w (X place)) (held_fact Data w (Y place)) (held_fact Data w (Mark place)) (held_fact Data w (Segment place))
    (one_register (X place) (held_in w (X place))) (one_register (Y place) (held_in w (Y place))) (one_register (Mark place) (held_in w (Mark place)))
    (one_register (Segment place) (held_in w (Segment place)))

one_name : (n : ℕ) (r : ShownReply) → Clean (name_fact Data n r)
one_name n (reply.Owner (Some p)) = facts (codes "name " ++ decimal n) (decimal p) (word (codes "name ") n refl) (number p)
one_name n r = refl

all_names : (w : DeskValue) (n : ℕ) → Clean (name_facts Data w n)
unfolding name_facts
all_names w zero = refl
all_names w (suc n) = both (name_facts Data w n) (name_fact Data (suc n) (owner_reply w (suc n))) (all_names w n) (one_name (suc n) (owner_reply w (suc n)))

all_slots : (values : List ℕ) (n : ℕ) → Clean (slot_facts Data values n)
all_slots values zero = refl
all_slots values (suc n) =
    both (slot_facts Data values n) (fact Data (codes "slot " ++ decimal (suc n)) (decimal (get_or values n 0))) (all_slots values n)
    (facts (codes "slot " ++ decimal (suc n)) (decimal (get_or values n 0)) (word (codes "slot ") (suc n) refl) (number (get_or values n 0)))

states : (w : DeskValue) (ids places : List ℕ) → Clean (state Data w ids places)
states w ids places =
    let people = flat_map (person Data w) ids in
    let strangers = flat_map (stranger Data w) (slots_of w).pool.competitors in
    let registers = flat_map (place_facts Data w) places in
    let names = name_facts Data w MOST_NAMES in
    let slots = slot_facts Data (slots_of w).values (length (slots_of w).values) in
    both (people ++ strangers ++ registers ++ names ++ slots) (size_fact Data (slots_of w).pool.size)
    (five people strangers registers names slots (of_all (person Data w) (one_person w) ids) (of_all (stranger Data w) (one_stranger w) (slots_of w).pool.competitors)
    (of_all (place_facts Data w) (one_place w) places) (all_names w MOST_NAMES) (all_slots (slots_of w).values (length (slots_of w).values)))
    (facts (codes "size") (decimal (slots_of w).pool.size) refl (number (slots_of w).pool.size))

-- each text has none
abbrev AllClean : List (List ℕ) → Type 0
AllClean [] = Unit {0}
AllClean (x ∷ xs) = Clean x × AllClean xs

rows_clean : (w : DeskValue) (ls : List Line) → AllClean (rows w ls)
rows_clean w [] = tt
rows_clean w (l ∷ ls) = (one_row l (done_at w l), rows_clean (desk_next w l) ls)

taken : (n : ℕ) (xs : List (List ℕ)) → AllClean xs → AllClean (take n xs)
taken zero [] h = tt
taken zero (x ∷ xs) h = tt
taken (suc n) [] h = tt
taken (suc n) (x ∷ xs) h = (h.0, taken n xs h.1)

dropped : (n : ℕ) (xs : List (List ℕ)) → AllClean xs → AllClean (drop n xs)
dropped zero [] h = tt
dropped zero (x ∷ xs) h = h
dropped (suc n) [] h = tt
dropped (suc n) (x ∷ xs) h = dropped n xs h.1

joined_clean : (xs : List (List ℕ)) → AllClean xs → Clean (joined xs)
joined_clean [] h = refl
joined_clean (x ∷ xs) h = both x (joined xs) h.0 (joined_clean xs h.1)

-- ---- the data

letter_clean : (byte : ℕ) → is_letter byte ≡ true → (byte == 60) ≡ false
letter_clean byte letter = grind (arith, nat_tests)

letters_clean : (bytes : List ℕ) → list_all is_letter bytes ≡ true → Clean bytes
letters_clean [] all = refl
letters_clean (byte ∷ more) all = let parts = and_parts (is_letter byte) (list_all is_letter more) all in rw (letter_clean byte parts.0) (letters_clean more parts.1)

worlds : (k : WorldKind) → Clean (world_name k)
worlds k = letters_clean (world_name k) (facts_of k).letters

header : (c : Config) → Clean (header_line c)
header c =
    let sizes = codes "{\"format\":\"slot-record\",\"k\":" ++ decimal c.k ++ codes ",\"limit\":" ++ decimal c.limit ++ codes ",\"m\":" in
    five sizes (decimal c.m) (codes ",\"version\":2,\"world\":\"") (world_name c.world) (codes "\"}\n")
    (five (codes "{\"format\":\"slot-record\",\"k\":") (decimal c.k) (codes ",\"limit\":") (decimal c.limit) (codes ",\"m\":") refl (number c.k) refl (number c.limit) refl) (number c.m) refl (worlds c.world) refl

opening_clean : (c : Config) (s : Stretch) → Clean (opening_data c s)
opening_clean c s = four (header_line c) (codes ",\"from\":") (decimal s.from) (codes ",\"rows\":[\n") (header c) refl (number s.from) refl

closing_clean : (before : List ℕ) (n : ℕ) → Clean before → Clean (closing_data before n)
closing_clean before n h = five (codes "null],\"before\":[\n") before (codes "null],\"events\":") (decimal n) (codes "}\n") refl h refl (number n) refl

after_clean : (c : Config) (lines : List Line) → Clean (state_after Data c lines)
after_clean c lines = states (replayed (fresh_desk c) lines) (begun_in [] lines) (reached_in [] (fresh_desk c) lines)

pub data_clean : (c : Config) (s : Stretch) (lines : List Line) → Clean (page_data c s lines)
data_clean c s lines =
    let rs = rows (fresh_desk c) lines in
    let before = state_after Data c (lines_before s lines) in
    three (opening_data c s) (shown_rows c s lines) (closing_data before (length lines)) (opening_clean c s) (joined_clean (stretch_of s rs) (taken s.count _ (dropped _ rs (rows_clean (fresh_desk c) lines))))
    (closing_clean before (length lines) (after_clean c (lines_before s lines)))
