-- the worlds of records give names
use Rattle.std.proofs.Common.{◌≡◌, ℕ, true, List}
use Rattle.text_records.proofs.Common.{gives_names, Header, IsHeaderLine}

-- names are given in the world of a header
pub header_named : (head : List ℕ) (h : Header) → IsHeaderLine head h → gives_names h.config.world ≡ true
header_named head h k = k.says.sizes.named
