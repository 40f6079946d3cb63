use Rattle.std.proofs.Common.{◌≡◌, drop}
use Rattle.text_records.specs.Seals.{crc_bytes}
use Rattle.text_records.proofs.seals.crc32c.Given as goal

abbrev pub invariant-loop-byte : goal.invariant-loop-byte
invariant-loop-byte l = crc_bytes l.register (drop l.byte-index l.bytes) ≡ crc_bytes 4294967295 l.bytes
