use Rattle.std.proofs.Common.{◌≡◌, drop}
use Rattle.service_loop.specs.OwnerLines.{with_bytes}
use Rattle.service_loop.proofs.owner_lines.OwnerLines.add.Given as goal

-- what is left of the bytes makes of what there is what all make
abbrev pub invariant-loop-byte : goal.invariant-loop-byte
invariant-loop-byte l = with_bytes l.self (drop l.byte-index l.bytes) ≡ with_bytes l.fn.self l.bytes
