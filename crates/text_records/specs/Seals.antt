-- sealed lines: a line of a record beside its checksum
use Rattle.std.specs.Prelude.{◌≡◌, ℕ, ◌<◌, zero, suc, ◌-◌, ◌/◌, ◌%◌, ◌==◌, if◌then◌else◌, List, [], ◌∷◌, ◌++◌, length, take, drop, map, codes, bit_xor}
use Rattle.std.specs.Str.{bytes_eq}
use Rattle.std.specs.Int.{w32, to_be_bytes}
use Rattle.hex.specs.Hex.{encode_lower}
use Rattle.text_lines.specs.Lines.{rest_of, whole_lines, with_ends}
use Rattle.text_records.specs.declared.seals.LineForm.{LineForm}
use Rattle.text_records.specs.declared.seals.LineForm.TheVariants.{Sealed, Plain}

-- the register after one bit of a message, by the polynomial 0x1EDC6F41 with its bits in reverse
abbrev pub crc_bit : ℕ → ℕ
crc_bit r = if r % 2 == 1 then bit_xor (r / 2) 0x82F63B78 else r / 2

abbrev pub crc_bits : ℕ → ℕ → ℕ
crc_bits zero r = r
crc_bits (suc n) r = crc_bits n (crc_bit r)

-- after bytes, each of which is added to the low bits first
abbrev pub crc_bytes : ℕ → List ℕ → ℕ
crc_bytes r [] = r
crc_bytes r (b ∷ bytes) = crc_bytes (crc_bits 8 (bit_xor r b)) bytes

-- CRC-32C (RFC 3720, 12.1): the register begins with all ones, and all its bits are changed at the end
abbrev pub crc32c : List ℕ → ℕ
crc32c bytes = bit_xor (crc_bytes 0xFFFFFFFF bytes) 0xFFFFFFFF

-- eight hex digits
abbrev pub checksum_text : List ℕ → List ℕ
checksum_text bytes = encode_lower (to_be_bytes w32 (crc32c bytes))

-- a line of JSON that holds a line of a record and its checksum: what stands before the line, and all of it
abbrev pub seal_of : List ℕ → List ℕ
seal_of line = codes "{\"crc32c\":\"" ++ (checksum_text line ++ codes "\",\"line\":")

abbrev pub sealed_line : List ℕ → List ℕ
sealed_line line = seal_of line ++ (line ++ codes "}")

-- what such a line holds
abbrev pub held_in : List ℕ → List ℕ
held_in line = take (length line - 29) (drop 28 line)

-- the line that a sealed line holds; another line is itself
abbrev pub opened_line : List ℕ → List ℕ
opened_line line = if bytes_eq line (sealed_line (held_in line)) then held_in line else line

-- a line in each of both forms
abbrev pub in_form : LineForm → List ℕ → List ℕ
in_form Sealed line = sealed_line line
in_form Plain line = opened_line line

-- the whole lines of a text in this form
abbrev pub lines_in : LineForm → List ℕ → List ℕ
lines_in form text = with_ends (map (in_form form) (whole_lines text))

-- a text has this whole line, and then others
pub record IsFirstLine (text line others : List ℕ) : Type 0 where
  pub lines : whole_lines text ≡ line ∷ whole_lines others
  pub rest : rest_of text ≡ rest_of others
  pub shorter : length others < length text
