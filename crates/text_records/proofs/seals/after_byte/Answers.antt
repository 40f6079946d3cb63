use Rattle.std.proofs.Common.{◌≡◌, ◌/◌, ◌%◌, bit_xor, ap, ◌∙◌, arith}
use Rattle.std.proofs.lemmas.Nat.{xor_of_8}
use Rattle.text_records.proofs.ChecksumLemmas.{TABLE_at, byte_by_table}
use Rattle.text_records.proofs.seals.after_byte.Goals as goal

pub returns : goal.returns
returns c =
    let r = c.args.register in
    let b = c.args.byte in
    let at = bit_xor (r % 256) b in
    rw c.from.ensures (ap (bit_xor (r / 256)) (TABLE_at at (xor_of_8 (r % 256) b (omega arith) c.ranges.byte.fits))) ∙ byte_by_table r b
