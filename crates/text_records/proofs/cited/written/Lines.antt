-- a record, as it is written, is a header and a line for each exchange, which says it
use Rattle.std.proofs.Common.{◌≡◌, ℕ, ◌+◌, ◌^◌, ◌<◌, ◌≤◌, true, List, [], ◌∷◌, ◌++◌, length, map, flat_map, Option, Some, None, option_and_then, codes, decimal, IsUtf8, refl, ap, ◌∙◌, arith, append_assoc, length-append}
use Rattle.text_records.proofs.Common.{list_all, nat_tests, IsUtf8-append, are_ascii, IsUtf8-are_ascii, WorldKind, ShownReply, event_words, has_no_lf, with_ends, reply_words, Two, reported_with, SaysSizes, is_plain, IsEventLine, IsHeaderLine, IsPlainView}
use Rattle.model_asked.specs.declared.config.Config.{Config}
use Rattle.model_asked.specs.lemmas.ConfigProofs.{few_numbers, few_take_part}
use Rattle.model_asked.specs.declared.exchange.Exchange.{Exchange}
use Rattle.model_asked.specs.declared.reply.Reply.TheVariants as reply
use Rattle.model_asked.specs.Config.{facts_of, gives_names, world_name}
use Rattle.model_asked.specs.lemmas.KindProofs.{name_has}
use Rattle.text_player.specs.Records.{header_line, name_view, exchange_line, turn_record, record_of}
use Rattle.text_player.specs.Turns.{Turn, exchanges}
use Rattle.text_player.specs.Turns.Turn.{Answered, Reported, Ended, Misread}
use Rattle.text_records.specs.declared.reported.Reported.{Reported as Words}
use Rattle.text_records.specs.Lines.{line_of}
use Rattle.text_records.specs.Records.{IsRecordOf, record_lines, AreRead}
use Rattle.text_records.specs.Seals.{opened_line}
use Rattle.text_records.proofs.SealLemmas.{left_other}
use Rattle.text_records.proofs.Pieces.{lines_cut}
use Rattle.text_records.proofs.written.Texts.{shown_text, line_data, line_text, header_data, header_text, read_line_text, read_header_text, plain_utf8}
use Rattle.text_records.specs.Narrow.{AreNarrowExchanges, IsNarrowEvent, IsNarrowReply}
use Rattle.text_records.proofs.written.PlainLines.{texts_are}
use Rattle.text_records.proofs.written.Words.{event_means, event_plain, event_short, plain_decimal, plain_has_no_lf, short_decimal, no_lf_both}
use Rattle.text_records.proofs.written.Replies.{reply_tells, reply_plain, reply_short, shown_of, shown_tells, shown_plain, shown_short}

-- the line of an exchange, without its LF
abbrev pub row_of : Exchange → List ℕ
row_of x = line_text (event_words x.event) (reply_words x.reply) (shown_of x.reply)

abbrev head_of : Config → List ℕ
head_of c = header_text c.k c.limit c.m (world_name c.world)

-- a text with an LF after it
ended : (xs z rest : List ℕ) → (xs ++ (z ++ 10 ∷ [])) ++ rest ≡ (xs ++ z) ++ 10 ∷ rest
ended xs z rest = simp append_assoc

-- what holds of two texts one after the other where it does of each, of fixed texts and of plain ones holds of lines and headers
module _ (P : List ℕ → Type 0) (both : (xs ys : List ℕ) → P xs → P ys → P (xs ++ ys)) (fixed : (xs : List ℕ) → are_ascii xs ≡ true → has_no_lf xs ≡ true → P xs)
    (plain : (xs : List ℕ) → list_all is_plain xs ≡ true → P xs) where
  shown_holds : (shown : Option (List ℕ)) → IsPlainView shown → P (shown_text shown)
  shown_holds None h = fixed [] refl refl
  shown_holds (Some view) h =
      both (codes ",\"view\":\"" ++ view) (codes "\"") (both (codes ",\"view\":\"") view (fixed (codes ",\"view\":\"") refl refl) (plain view h)) (fixed (codes "\"") refl refl)

  line_holds : (c r : List ℕ) (shown : Option (List ℕ)) → list_all is_plain c ≡ true → list_all is_plain r ≡ true → IsPlainView shown → P (line_text c r shown)
  line_holds c r shown hc hr hv =
      let to_reply : List ℕ = codes "{\"command\":\"" ++ c ++ codes "\",\"reply\":\"" ++ r in
      let a : P to_reply =
      both (codes "{\"command\":\"" ++ c ++ codes "\",\"reply\":\"") r
      (both (codes "{\"command\":\"" ++ c) (codes "\",\"reply\":\"") (both (codes "{\"command\":\"") c (fixed (codes "{\"command\":\"") refl refl) (plain c hc)) (fixed (codes "\",\"reply\":\"") refl refl)) (plain r hr) in
      both (to_reply ++ codes "\"" ++ shown_text shown) (codes "}")
      (both (to_reply ++ codes "\"") (shown_text shown) (both to_reply (codes "\"") a (fixed (codes "\"") refl refl)) (shown_holds shown hv)) (fixed (codes "}") refl refl)

  header_holds : (k limit m : ℕ) (name : List ℕ) → k < 2 ^ 64 → limit < 2 ^ 64 → m < 2 ^ 64 → list_all is_plain name ≡ true → P (header_text k limit m name)
  header_holds k limit m name hk hl hm hn =
      let to_k : List ℕ = codes "{\"format\":\"slot-record\",\"k\":" ++ decimal k in
      let to_limit : List ℕ = to_k ++ codes ",\"limit\":" ++ decimal limit in
      let to_m : List ℕ = to_limit ++ codes ",\"m\":" ++ decimal m in
      let to_name : List ℕ = to_m ++ codes ",\"version\":2,\"world\":\"" ++ name in
      let number = λ (n : ℕ) (h : n < 2 ^ 64). plain (decimal n) (plain_decimal n (omega arith)) in
      let a : P to_k = both (codes "{\"format\":\"slot-record\",\"k\":") (decimal k) (fixed (codes "{\"format\":\"slot-record\",\"k\":") refl refl) (number k hk) in
      let b : P to_limit = both (to_k ++ codes ",\"limit\":") (decimal limit) (both to_k (codes ",\"limit\":") a (fixed (codes ",\"limit\":") refl refl)) (number limit hl) in
      let d : P to_m = both (to_limit ++ codes ",\"m\":") (decimal m) (both to_limit (codes ",\"m\":") b (fixed (codes ",\"m\":") refl refl)) (number m hm) in
      let e : P to_name = both (to_m ++ codes ",\"version\":2,\"world\":\"") name (both to_m (codes ",\"version\":2,\"world\":\"") d (fixed (codes ",\"version\":2,\"world\":\"") refl refl)) (plain name hn) in
      both to_name (codes "\"}") e (fixed (codes "\"}") refl refl)

abbrev HasNoLf : List ℕ → Type 0
HasNoLf xs = has_no_lf xs ≡ true

line_length : (c r : List ℕ) (shown : Option (List ℕ)) → length (line_text c r shown) ≤ length c + length r + length (shown_text shown) + 30
line_length c r shown = simp length-append (omega arith)

-- the line of an exchange says it
module _ (kind : WorldKind) (desk : gives_names kind ≡ true) where
  row_says : (x : Exchange) → IsNarrowEvent kind x.event → IsNarrowReply x.reply → IsEventLine kind Two (row_of x) (line_of true x)
  row_says x e r =
      let asked = event_words x.event in
      let replied = reply_words x.reply in
      let shown = shown_of x.reply in
      let plain = event_plain kind x.event e in
      let reported = reply_plain x.reply r in
      let beside = shown_plain x.reply r in
      record {
        short = omega (arith, line_length asked replied shown, event_short kind x.event e, reply_short x.reply r, shown_short x.reply r);
        value = line_data asked replied shown;
        json = record { utf8 = line_holds IsUtf8 IsUtf8-append (λ xs a n. IsUtf8-are_ascii xs a) plain_utf8 asked replied shown plain reported beside; reads = read_line_text asked replied shown plain reported beside };
        says = record {
          asked = asked;
          replied = replied;
          shown = shown;
          texts = texts_are asked replied shown;
          event_is = event_means kind desk x.event e;
          reported_is = ap (λ (o : Option Words). option_and_then (λ t. reported_with Two t shown) o) (reply_tells x.reply r) ∙ shown_tells x.reply r;
        };
      }

  rows_read : (r : List Exchange) → AreNarrowExchanges kind r → AreRead kind Two (map row_of r) (map (line_of true) r)
  rows_read [] h = tt
  rows_read (x ∷ xs) h = (row_says x h.0 h.1, rows_read xs h.2)

rows_no_lf : (kind : WorldKind) (r : List Exchange) → AreNarrowExchanges kind r → list_all has_no_lf (map row_of r) ≡ true
rows_no_lf kind [] h = refl
rows_no_lf kind (x ∷ xs) h =
    let one : has_no_lf (row_of x) ≡ true =
    line_holds HasNoLf no_lf_both (λ xs a n. n) plain_has_no_lf (event_words x.event) (reply_words x.reply) (shown_of x.reply) (event_plain kind x.event h.0) (reply_plain x.reply h.1) (shown_plain x.reply h.1) in
    rw one (rows_no_lf kind xs h.2)

-- the header says the config
sizes_said : (kind : WorldKind) (m k limit : ℕ) → gives_names kind ≡ true → SaysSizes (header_data k limit m (world_name kind)) Two kind m k limit
sizes_said kind m k limit h = record { format = record { keys = refl; format = refl; version = refl }; world_is = refl; named = h; m_is = refl; k_is = refl; limit_is = refl }

name_plain : (kind : WorldKind) → list_all is_plain (world_name kind) ≡ true
name_plain kind = name_has is_plain (λ byte letter. grind (arith, nat_tests)) kind

header_length : (k limit m : ℕ) (name : List ℕ) → k < 2 ^ 64 → limit < 2 ^ 64 → m < 2 ^ 64 → length (header_text k limit m name) ≤ length name + 160
header_length k limit m name hk hl hm = (let i = short_decimal k hk in let j = short_decimal limit hl in let n = short_decimal m hm in simp length-append (omega arith))

module _ (c : Config) (named : gives_names c.world ≡ true) where
  k_fits : c.k < 2 ^ 64
  k_fits = let h = few_numbers c in omega arith

  limit_fits : c.limit < 2 ^ 64
  limit_fits = let h = c.in_range.5 in omega arith

  m_fits : c.m < 2 ^ 64
  m_fits = let h = few_take_part c in omega arith

  head_no_lf : has_no_lf (head_of c) ≡ true
  head_no_lf = header_holds HasNoLf no_lf_both (λ xs a n. n) plain_has_no_lf c.k c.limit c.m (world_name c.world) k_fits limit_fits m_fits (name_plain c.world)

  head_says : IsHeaderLine (head_of c) (record { version = Two; config = c })
  head_says = record {
    short = omega (arith, header_length c.k c.limit c.m (world_name c.world) k_fits limit_fits m_fits, (facts_of c.world).short);
    value = header_data c.k c.limit c.m (world_name c.world);
    json = record {
      utf8 = header_holds IsUtf8 IsUtf8-append (λ xs a n. IsUtf8-are_ascii xs a) plain_utf8 c.k c.limit c.m (world_name c.world) k_fits limit_fits m_fits (name_plain c.world);
      reads = read_header_text c.k c.limit c.m (world_name c.world) k_fits limit_fits m_fits (name_plain c.world);
    };
    says = record { sizes = sizes_said c.world c.m c.k c.limit named; fits = tt };
  }

-- what is written beside a reply
beside : (r : ShownReply) → name_view r ≡ shown_text (shown_of r)
beside (reply.Named name view) = refl
beside r = refl

-- the bytes are these lines, each with its LF
line_ended : (x : Exchange) (rest : List ℕ) → exchange_line x ++ rest ≡ row_of x ++ 10 ∷ rest
line_ended x rest =
    let start = codes "{\"command\":\"" ++ event_words x.event ++ codes "\",\"reply\":\"" ++ reply_words x.reply ++ codes "\"" in
    ended (start ++ name_view x.reply) (codes "}") rest ∙ ap (λ (l : List ℕ). (start ++ l ++ codes "}") ++ 10 ∷ rest) (beside x.reply)

rows_ended : (ts : List Turn) → flat_map turn_record ts ≡ with_ends (map row_of (exchanges ts))
rows_ended [] = refl
rows_ended (Answered x ∷ ts) = ap (λ (l : List ℕ). exchange_line x ++ l) (rows_ended ts) ∙ line_ended x (with_ends (map row_of (exchanges ts)))
rows_ended (Reported n r ∷ ts) = rows_ended ts
rows_ended (Ended ∷ ts) = rows_ended ts
rows_ended (Misread bad ∷ ts) = rows_ended ts

-- none of them is a sealed line
rows_plain : (r : List Exchange) → map opened_line (map row_of r) ≡ map row_of r
rows_plain [] = refl
rows_plain (x ∷ xs) = cc (left_other (row_of x) refl, rows_plain xs)

module _ (c : Config) (named : gives_names c.world ≡ true) (ts : List Turn) (narrow : AreNarrowExchanges c.world (exchanges ts)) where
  record_cut : record_lines (record_of c ts) ≡ head_of c ∷ map row_of (exchanges ts)
  record_cut =
      let start = codes "{\"format\":\"slot-record\",\"k\":" ++ decimal c.k ++ codes ",\"limit\":" ++ decimal c.limit ++ codes ",\"m\":" ++ decimal c.m ++ codes ",\"version\":2,\"world\":\"" ++ world_name c.world in
      let whole : record_of c ts ≡ with_ends (head_of c ∷ map row_of (exchanges ts)) = ap (λ (l : List ℕ). header_line c ++ l) (rows_ended ts) ∙ ended start (codes "\"}") (with_ends (map row_of (exchanges ts))) in
      ap record_lines whole ∙ lines_cut (head_of c ∷ map row_of (exchanges ts)) (rw (head_no_lf c named) (rows_no_lf c.world (exchanges ts) narrow))
      ∙ cc (left_other (head_of c) refl, rows_plain (exchanges ts))

  pub record_is : IsRecordOf c (exchanges ts) (record_of c ts)
  record_is = record {
    head = head_of c;
    rows = map row_of (exchanges ts);
    is = record_cut;
    header = head_says c named;
    read = rows_read c.world named (exchanges ts) narrow;
  }
