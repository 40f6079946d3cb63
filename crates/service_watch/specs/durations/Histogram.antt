-- how long calls took (this project's profile; buckets that add up: the histograms of Prometheus)
use Rattle.std.specs.Prelude.{ℕ, [], ◌∷◌, ◌+◌, ◌/◌, ◌^◌, ◌-◌, min, map, nat_le, if◌then◌else◌}
use Rattle.service_watch.specs.declared.durations.Bucket.{Bucket}
use Rattle.service_watch.specs.declared.durations.DurationHistogram.{DurationHistogram}

-- a number that stops at the greatest of 64 bits
abbrev pub capped : ℕ → ℕ
capped n = min n (2 ^ 64 - 1)

-- a bucket in which no call is
abbrev pub bucket_of : ℕ → Bucket
bucket_of bound = record { bound = bound; count = 0 }

-- a call of so many microseconds is in each bucket whose bound it does not pass
abbrev pub with_call : ℕ → Bucket → Bucket
with_call micros b = if nat_le micros b.bound then record b { count = capped (b.count + 1) } else b

-- the histogram of no call, and one with a call of so many nanoseconds more
abbrev pub of_no_call : DurationHistogram
of_no_call = record {
  buckets = map bucket_of (100 ∷ 200 ∷ 500 ∷ 1000 ∷ 2000 ∷ 5000 ∷ 10000 ∷ 20000 ∷ 50000 ∷ 100000 ∷ 200000 ∷ 500000 ∷ 1000000 ∷ []);
  count = 0;
  total = 0;
  last = 0;
}

abbrev pub with_nanos : ℕ → DurationHistogram → DurationHistogram
with_nanos nanos h = let micros = capped (nanos / 1000) in record {
  buckets = map (with_call micros) h.buckets;
  count = capped (h.count + 1);
  total = capped (h.total + micros);
  last = micros;
}
