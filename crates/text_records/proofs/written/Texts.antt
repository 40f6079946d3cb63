-- the lines of a record, as they are written, are read as the objects of their words
use Rattle.std.proofs.Common.{◌≡◌, ℕ, ◌<◌, ◌≤◌, ◌^◌, true, List, [], ◌∷◌, ◌++◌, Option, Some, None, option_and_then, refl, sym, ap, ◌∙◌, arith, append_assoc, append-nil, codes, decimal, IsUtf8, nat_lt}
use Rattle.text_records.proofs.Common.{list_all, and_parts, nat_tests, are_ascii, IsUtf8-are_ascii, decimal_digit, is_plain, IsPlainView}
use Rattle.json.specs.Token.{Token}
use Rattle.json.specs.Lex.{tokens}
use Rattle.json.specs.Json as json
use Rattle.json.specs.Print.{escape_byte, escape}
use Rattle.json.specs.Tree as tree
use Rattle.json.proofs.Printed.Strings.{escape_byte_plain}
use Rattle.json.proofs.Printed.Tokens.{tokens-print}
use Rattle.json.proofs.Printed.Trees.{ArePrintable-json_tokens, value-json_tokens}
use Rattle.serde_json.specs.Data.{Data, string, object, no_members, member, unsigned, number}
use Rattle.json.proofs.Printed.Decimals.{IsNumber-decimal}
use Rattle.serde_json.specs.Read.{read, of_json}
use Rattle.serde_json.proofs.Numbers.{number_of-decimal}
use Rattle.serde_json.specs.Written.{outline, compact_text}
use Rattle.serde_json.proofs.Texts.{print-outline}

-- the object of an event's line, with a view or without one, and its text
abbrev pub line_data : List ℕ → List ℕ → Option (List ℕ) → Data
line_data command reply None = object (member (codes "command") (string command) (member (codes "reply") (string reply) no_members))
line_data command reply (Some view) = object (member (codes "command") (string command) (member (codes "reply") (string reply) (member (codes "view") (string view) no_members)))

abbrev pub shown_text : Option (List ℕ) → List ℕ
shown_text None = []
shown_text (Some view) = codes ",\"view\":\"" ++ view ++ codes "\""

abbrev pub line_text : List ℕ → List ℕ → Option (List ℕ) → List ℕ
line_text command reply shown = codes "{\"command\":\"" ++ command ++ codes "\",\"reply\":\"" ++ reply ++ codes "\"" ++ shown_text shown ++ codes "}"

-- the object of a header, and its text
abbrev pub header_data : ℕ → ℕ → ℕ → List ℕ → Data
header_data k limit m name =
    object (member (codes "format") (string (codes "slot-record"))
    (member (codes "k") (number (unsigned k))
    (member (codes "limit") (number (unsigned limit))
    (member (codes "m") (number (unsigned m))
    (member (codes "version") (number (unsigned 2))
    (member (codes "world") (string name) no_members))))))

abbrev pub header_text : ℕ → ℕ → ℕ → List ℕ → List ℕ
header_text k limit m name =
    codes "{\"format\":\"slot-record\",\"k\":" ++ decimal k ++ codes ",\"limit\":" ++ decimal limit ++ codes ",\"m\":" ++ decimal m
    ++ codes ",\"version\":2,\"world\":\"" ++ name ++ codes "\"}"

-- plain bytes are written as they stand
no_quote : (b : ℕ) → is_plain b ≡ true → b ≡ 34 → ⊥
no_quote b h e = grind (arith, nat_tests)

no_backslash : (b : ℕ) → is_plain b ≡ true → b ≡ 92 → ⊥
no_backslash b h e = grind (arith, nat_tests)

no_control : (b : ℕ) → is_plain b ≡ true → 32 ≤ b
no_control b h = grind (arith, nat_tests)

pub escape_plain : (xs : List ℕ) → list_all is_plain xs ≡ true → escape xs ≡ xs
escape_plain [] h = refl
escape_plain (x ∷ xs) h =
    let parts = and_parts (is_plain x) (list_all is_plain xs) h in
    ap (λ (l : List ℕ). l ++ escape xs) (escape_byte_plain x (no_quote x parts.0) (no_backslash x parts.0) (no_control x parts.0)) ∙ ap (λ (l : List ℕ). x ∷ l) (escape_plain xs parts.1)

-- what is printed of a value is read back
pub read_compact : (d : Data) → tree.HasNumbers (outline d) → tree.depth (outline d) ≤ 127 → of_json (outline d) ≡ Some d → read (compact_text d) ≡ Some d
read_compact d numbers shallow same =
    let ts = tree.json_tokens (outline d) in
    let text : tokens (compact_text d) ≡ ts ++ [] = ap tokens (sym (print-outline d)) ∙ tokens-print ts (ArePrintable-json_tokens (outline d) numbers) ∙ sym (append-nil ts) in
    ap (λ (l : List Token). option_and_then of_json (option_and_then (λ p. json.if_last p.0 p.1) (json.value 127 l))) text
    ∙ ap (λ (o : Option (json.Json × List Token)). option_and_then of_json (option_and_then (λ p. json.if_last p.0 p.1) o)) (value-json_tokens (outline d) 127 [] shallow) ∙ same

grouped : (q a c b r z : List ℕ) → a ++ ((c ++ q) ++ (b ++ ((r ++ q) ++ z))) ≡ (((((a ++ c) ++ (q ++ b)) ++ r) ++ q) ++ []) ++ z
grouped q a c b r z = simp append_assoc

grouped_with : (q a c b r w v z : List ℕ) → a ++ ((c ++ q) ++ (b ++ ((r ++ q) ++ (w ++ ((v ++ q) ++ z))))) ≡ (((((a ++ c) ++ (q ++ b)) ++ r) ++ q) ++ ((w ++ v) ++ q)) ++ z
grouped_with q a c b r w v z = simp append_assoc

compact_line : (c r : List ℕ) (shown : Option (List ℕ)) → list_all is_plain c ≡ true → list_all is_plain r ≡ true → IsPlainView shown → compact_text (line_data c r shown) ≡ line_text c r shown
unfolding escape_byte
compact_line c r None hc hr hv = rw (escape_plain c hc, escape_plain r hr) (grouped (codes "\"") (codes "{\"command\":\"") c (codes ",\"reply\":\"") r (codes "}"))
compact_line c r (Some v) hc hr hv =
    rw (escape_plain c hc, escape_plain r hr, escape_plain v hv) (grouped_with (codes "\"") (codes "{\"command\":\"") c (codes ",\"reply\":\"") r (codes ",\"view\":\"") v (codes "}"))

read_data : (c r : List ℕ) (shown : Option (List ℕ)) → read (compact_text (line_data c r shown)) ≡ Some (line_data c r shown)
read_data c r None = read_compact (line_data c r None) (tt, (tt, tt)) (omega arith) refl
read_data c r (Some v) = read_compact (line_data c r (Some v)) (tt, (tt, (tt, tt))) (omega arith) refl

pub read_line_text : (c r : List ℕ) (shown : Option (List ℕ)) → list_all is_plain c ≡ true → list_all is_plain r ≡ true → IsPlainView shown → read (line_text c r shown) ≡ Some (line_data c r shown)
read_line_text c r shown hc hr hv = ap read (sym (compact_line c r shown hc hr hv)) ∙ read_data c r shown

grouped_header : (a k b l c m d v e n z : List ℕ) → a ++ (k ++ (b ++ (l ++ (c ++ (m ++ (d ++ (v ++ (e ++ ((n ++ 34 ∷ []) ++ z))))))))) ≡ (((((((a ++ k) ++ b) ++ l) ++ c) ++ m) ++ (d ++ (v ++ e))) ++ n) ++ 34 ∷ z
grouped_header a k b l c m d v e n z = simp append_assoc

compact_header : (k limit m : ℕ) (name : List ℕ) → list_all is_plain name ≡ true → compact_text (header_data k limit m name) ≡ header_text k limit m name
unfolding escape_byte
compact_header k limit m name h =
    rw (escape_plain name h, decimal_digit 2 (omega arith))
    (grouped_header (codes "{\"format\":\"slot-record\",\"k\":") (decimal k) (codes ",\"limit\":") (decimal limit) (codes ",\"m\":") (decimal m) (codes ",\"version\":") (50 ∷ []) (codes ",\"world\":\"") name (codes "}"))

header_of_json : (k limit m : ℕ) (name : List ℕ) → k < 2 ^ 64 → limit < 2 ^ 64 → m < 2 ^ 64 → of_json (outline (header_data k limit m name)) ≡ Some (header_data k limit m name)
header_of_json k limit m name hk hl hm = rw (number_of-decimal k hk, number_of-decimal limit hl, number_of-decimal m hm, number_of-decimal 2 (omega arith)) refl

pub read_header_text : (k limit m : ℕ) (name : List ℕ) → k < 2 ^ 64 → limit < 2 ^ 64 → m < 2 ^ 64 → list_all is_plain name ≡ true → read (header_text k limit m name) ≡ Some (header_data k limit m name)
read_header_text k limit m name hk hl hm h =
    let numbers : tree.HasNumbers (outline (header_data k limit m name)) = (tt, (IsNumber-decimal k hk, (IsNumber-decimal limit hl, (IsNumber-decimal m hm, (IsNumber-decimal 2 (omega arith), (tt, tt)))))) in
    ap read (sym (compact_header k limit m name h)) ∙ read_compact (header_data k limit m name) numbers (omega arith) (header_of_json k limit m name hk hl hm)

-- and they are UTF-8
ascii_byte : (b : ℕ) → is_plain b ≡ true → nat_lt b 128 ≡ true
ascii_byte b h = grind (arith, nat_tests)

plain_ascii : (xs : List ℕ) → list_all is_plain xs ≡ true → are_ascii xs ≡ true
plain_ascii [] h = refl
plain_ascii (x ∷ xs) h = let parts = and_parts (is_plain x) (list_all is_plain xs) h in rw (ascii_byte x parts.0) (plain_ascii xs parts.1)

pub plain_utf8 : (xs : List ℕ) → list_all is_plain xs ≡ true → IsUtf8 xs
plain_utf8 xs h = IsUtf8-are_ascii xs (plain_ascii xs h)
