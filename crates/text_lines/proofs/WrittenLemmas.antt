-- the writes that have failed
use Rattle.std.proofs.Common.{◌≡◌, ◌≢◌, ◌<◌, ℕ, zero, suc, refl, arith}
use Rattle.text_lines.specs.Tries.{none_taken}

-- a write that took something has not failed
pub some_taken : (many n : ℕ) → n ≢ 0 → none_taken many n ≡ 0
some_taken zero n h = refl
some_taken (suc many) zero h = absurd (h refl)
some_taken (suc many) (suc n) h = refl

-- a write of some bytes that took none has failed
pub none_failed : (many n : ℕ) → 0 < many → n ≡ 0 → none_taken many n ≡ 1
none_failed zero n some none = absurd (omega arith)
none_failed (suc many) zero some none = refl
none_failed (suc many) (suc n) some none = absurd (omega arith)
